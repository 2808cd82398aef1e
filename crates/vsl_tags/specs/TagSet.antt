-- Sets of tags, as a taglist writes them (varnishlog(1), -i; vsl-query(7), "taglist"; that each element is a tag's name or matches
-- one is this project's choice).
use Rattle.std.specs.Prelude.{ℕ, ◌+◌, ◌==◌, Bool, false, if◌then◌else◌, IsTrue, List, [], ◌∷◌, length, slice_index_or, Option, Some, None}
use Rattle.std.specs.List.{list_any, slice_split}
use Rattle.std.specs.Option.{option_or}
use Rattle.vsl_tags.specs.Glob.{matches}
use Rattle.vsl_tags.specs.Tags.{tag_name, tag_names}
use Rattle.vsl_tags.specs.declared.tag_set.TagSet.{TagSet}
use Rattle.vsl_tags.specs.declared.tag_set.TagFault.{TagFault}
use Rattle.vsl_tags.specs.declared.tag_set.TagFault.TheVariants.{Empty, Unknown}

-- the byte between two elements, `,`
abbrev pub comma : ℕ
comma = 44

-- the elements of a taglist
abbrev pub elements : List ℕ → List (List ℕ)
elements text = slice_split (λ b. b == comma) text

-- an element is the name of a tag, or matches one. One that is neither is refused, since a test of it could never hold
unfoldable pub matches_any : List ℕ → Bool
matches_any element = list_any (matches element) tag_names

-- the fault of the element that begins at this byte
abbrev pub element_fault : ℕ → List ℕ → Option TagFault
element_fault at [] = Some (Empty at)
element_fault at (b ∷ bs) = if matches_any (b ∷ bs) then None else Some (Unknown at)

-- the first fault of elements between commas, of which the first begins at this byte
abbrev pub first_fault_from : ℕ → List (List ℕ) → Option TagFault
first_fault_from at [] = None
first_fault_from at (element ∷ more) = option_or (element_fault at element) (first_fault_from (at + length element + 1) more)

-- the first element of a taglist that has no bytes or no tag, and the byte where it begins
abbrev pub first_fault : List ℕ → Option TagFault
first_fault text = first_fault_from 0 (elements text)

-- some element of a taglist is the tag's name, or matches it
abbrev pub is_selected : List ℕ → ℕ → Bool
is_selected text n = list_any (λ element. matches element (tag_name n)) (elements text)

-- a taglist selects the tag with this number
abbrev pub IsSelected : List ℕ → ℕ → Type 0
IsSelected text n = IsTrue (is_selected text n)

-- whether a set has the tag with this number
abbrev pub has_tag : TagSet → ℕ → Bool
has_tag set n = slice_index_or set.members n false

-- a set has the tag with this number
abbrev pub HasTag : TagSet → ℕ → Type 0
HasTag set n = IsTrue (has_tag set n)
