-- Worked examples of what is shown, computed from the definitions.
use Rattle.std.proofs.Common.{◌≡◌, ℕ, Bool, true, false, List, [], ◌∷◌, Some, None, refl}
use Rattle.std.specs.Prelude.{codes}
use Rattle.vsl_tags.specs.Glob.{matches}
use Rattle.vsl_tags.specs.Tags.{begin_tag, end_tag}
use Rattle.txn_rows.specs.declared.group.Kind.TheVariants as kinds
use Rattle.txn_rows.specs.declared.group.Reason.TheVariants as reasons
use Rattle.txn_rows.specs.declared.group.Member.{Member}
use Rattle.vsl_select.specs.declared.rule_text.RuleText.{RuleText}
use Rattle.vsl_select.specs.declared.rule_text.Sides.{Sides}
use Rattle.vsl_select.specs.Shown.{first_says, is_shown_member, is_shown_record, split_parts}
use Rattle.vsl_select.proofs.Examples.{client_record, transaction}

-- ---- the parts of -I and -X

comma_before_colon : split_parts (codes ",:x") ≡ record { tags = Some (codes ","); pattern = Some (codes "x") }
comma_before_colon = refl

-- an empty taglist is none, and an empty pattern is one
colon_alone : split_parts (codes ":") ≡ record { tags = None; pattern = Some [] }
colon_alone = refl

nothing_behind_colon : split_parts (codes "End:") ≡ record { tags = Some (codes "End"); pattern = Some [] }
nothing_behind_colon = refl

-- a space stands in no taglist, so the colon is the pattern's
space_before_colon : split_parts (codes "a b:x") ≡ record { tags = None; pattern = Some (codes "a b:x") }
space_before_colon = refl

-- the first colon counts
two_colons : split_parts (codes "ReqHeader:^Host: a") ≡ record { tags = Some (codes "ReqHeader"); pattern = Some (codes "^Host: a") }
two_colons = refl

-- ---- rules

abbrev tag_rule : Bool → List ℕ → RuleText
tag_rule include tags = record { include = include; regex = false; text = tags; word = 0 }

abbrev pattern_rule : Bool → List ℕ → RuleText
pattern_rule include text = record { include = include; regex = true; text = text; word = 0 }

-- the first that is so says, not the first of all
first_of_patterns : first_says (λ r. r.regex) (tag_rule true (codes "Begin") ∷ pattern_rule false (codes "a") ∷ pattern_rule true (codes "b") ∷ []) ≡ Some false
first_of_patterns = refl

none_of_patterns : first_says (λ r. r.regex) (tag_rule true (codes "Begin") ∷ []) ≡ None
none_of_patterns = refl

-- whether a record of this tag is shown by these rules
abbrev shows_tag : ℕ → List RuleText → Bool
shows_tag tag rules = is_shown_record (record { sides = record { backend = false; client = false; esi = false }; rules = rules; caseless = false }) (client_record tag (codes "req 1 rxreq"))

-- of -i and -x the last that names the tag decides
included_then_excluded : shows_tag begin_tag (tag_rule true (codes "Begin") ∷ tag_rule false (codes "Begin") ∷ []) ≡ false
unfolding matches
included_then_excluded = refl

excluded_then_included : shows_tag begin_tag (tag_rule false (codes "Begin") ∷ tag_rule true (codes "Begin") ∷ []) ≡ true
unfolding matches
excluded_then_included = refl

-- what no rule decides is hidden where the first of -i and -x is -i
other_after_include : shows_tag end_tag (tag_rule true (codes "Begin") ∷ tag_rule false (codes "Req*") ∷ []) ≡ false
unfolding matches
other_after_include = refl

other_after_exclude : shows_tag end_tag (tag_rule false (codes "Req*") ∷ tag_rule true (codes "Begin") ∷ []) ≡ true
unfolding matches
other_after_exclude = refl

-- a pattern is asked only of a tag that its taglist names; what none of -I and -X matches is hidden where the first is -I
pattern_of_another_tag : shows_tag begin_tag (pattern_rule true (codes "ReqHeader:^Host") ∷ pattern_rule false (codes "ReqURL:x") ∷ []) ≡ false
unfolding matches
pattern_of_another_tag = refl

-- ---- sides

abbrev of_client : Sides
of_client = record { backend = false; client = true; esi = false }

abbrev of_esi : Sides
of_esi = record { backend = false; client = false; esi = true }

-- a request for a part of another
abbrev part_request : Member
part_request = record (transaction 5 kinds.Request 1 []) { reason = reasons.Esi }

part_without_esi : is_shown_member of_client part_request ≡ false
part_without_esi = refl

part_with_esi : is_shown_member of_esi part_request ≡ true
part_with_esi = refl

-- -E alone shows other requests too
request_with_esi : is_shown_member of_esi (transaction 5 kinds.Request 1 []) ≡ true
request_with_esi = refl

session_of_client : is_shown_member of_client (transaction 4 kinds.Session 1 []) ≡ false
session_of_client = refl

-- without -b, -c and -E each is shown
session_of_all : is_shown_member (record { backend = false; client = false; esi = false }) (transaction 4 kinds.Session 1 []) ≡ true
session_of_all = refl
