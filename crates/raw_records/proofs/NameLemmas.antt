-- The names of tags, for lines: a name finds its tag, and what finds a tag is its name.
use Rattle.std.proofs.Common.{◌≡◌, ℕ, List, Some, refl, sym, ap, ◌∙◌}
use Rattle.std.specs.Str.{str_to_ascii_lowercase}
use Rattle.vsl_tags.specs.Tags.{IsTag, tag_name}
use Rattle.vsl_tags.specs.Called as called
use Rattle.vsl_tags.specs.Called.{IsTagName}
use Rattle.vsl_tags.proofs.CalledLemmas as names
use Rattle.raw_records.specs.inside.Reading.{tag_called}

-- the tag of a name in lines is that of a name
pub same_tag : (name : List ℕ) → called.tag_called name ≡ tag_called name
unfolding tag_called
same_tag name = refl

-- a name finds its tag
pub tag_found : (tag : ℕ) (name : List ℕ) → IsTagName tag name → tag_called name ≡ Some tag
tag_found tag name is = sym (same_tag name) ∙ names.tag_found tag name is

-- what finds a tag is its name
pub named_by : (tag : ℕ) (name : List ℕ) → tag_called name ≡ Some tag → IsTagName tag name
named_by tag name e = names.IsTagName-from tag name (same_tag name ∙ e)

-- a name that differs from a tag's in case at most finds it
pub called_so : (tag : ℕ) (name text : List ℕ) → IsTag tag → text ≡ tag_name tag → str_to_ascii_lowercase text ≡ str_to_ascii_lowercase name → Some tag ≡ tag_called name
called_so tag name text is text_is same = sym (tag_found tag name (is, sym same ∙ ap str_to_ascii_lowercase text_is))
