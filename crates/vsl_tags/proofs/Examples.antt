-- Taglists worked by hand (the names of vsl(7); varnishlog(1), -i).
use Rattle.std.proofs.Common.{◌≡◌, ℕ, List, ◌∷◌, [], refl, Some, None}
use Rattle.std.specs.Prelude.{codes}
use Rattle.std.specs.List.{filter, range_with_len}
use Rattle.vsl_tags.specs.Tags.{first_tag, last_tag, end_tag}
use Rattle.vsl_tags.specs.TagSet.{first_fault, is_selected, matches_any}
use Rattle.vsl_tags.specs.Glob.{matches}
use Rattle.vsl_tags.specs.declared.tag_set.TagFault.TheVariants.{Empty, Unknown}

-- the numbers of the tags that a taglist selects
abbrev selected : List ℕ → List ℕ
selected text = filter (is_selected text) (range_with_len first_tag last_tag)

-- 11 tags: `ReqStart` and `ReqAcct`, `End`, and the eight of a request
requests_and_end : selected (codes "Req*,End") ≡ 26 ∷ 27 ∷ end_tag ∷ range_with_len 53 8
unfolding matches
requests_and_end = refl

requests_and_end_accepted : first_fault (codes "Req*,End") ≡ None
unfolding matches matches_any
requests_and_end_accepted = refl

a_name_has_no_case : selected (codes "reqURL") ≡ 54 ∷ []
unfolding matches
a_name_has_no_case = refl

a_glob_has_no_case : selected (codes "*url") ≡ 54 ∷ 62 ∷ 70 ∷ 78 ∷ 86 ∷ []
unfolding matches
a_glob_has_no_case = refl

-- `Proxy`, `ProxyGarbage`, `ExpBan`, `ExpKill`, `ESI_xmlerror`, and the four of HTTP/2
a_star_at_both_ends : selected (codes "*x*") ≡ 11 ∷ 12 ∷ 34 ∷ 35 ∷ 37 ∷ 49 ∷ 50 ∷ 51 ∷ 52 ∷ []
unfolding matches
a_star_at_both_ends = refl

a_star_is_all_tags : selected (codes "*") ≡ range_with_len first_tag last_tag
unfolding matches
a_star_is_all_tags = refl

two_stars_are_all_tags : selected (codes "**") ≡ range_with_len first_tag last_tag
unfolding matches
two_stars_are_all_tags = refl

a_letter_in_no_name : first_fault (codes "*q9*") ≡ Some (Unknown 0)
unfolding matches matches_any
a_letter_in_no_name = refl

no_such_name : first_fault (codes "reqx") ≡ Some (Unknown 0)
unfolding matches matches_any
no_such_name = refl

a_star_inside : first_fault (codes "Re*q") ≡ Some (Unknown 0)
unfolding matches matches_any
a_star_inside = refl

three_stars : first_fault (codes "***") ≡ Some (Unknown 0)
unfolding matches matches_any
three_stars = refl

no_element : first_fault (codes "") ≡ Some (Empty 0)
unfolding matches matches_any
no_element = refl

first_of_two_empty : first_fault (codes "End,,") ≡ Some (Empty 4)
unfolding matches matches_any
first_of_two_empty = refl

second_is_unknown : first_fault (codes "End,Nope") ≡ Some (Unknown 4)
unfolding matches matches_any
second_is_unknown = refl

first_fault_alone : first_fault (codes "End,Nope,") ≡ Some (Unknown 4)
unfolding matches matches_any
first_fault_alone = refl

spaces_are_of_the_name : first_fault (codes "End, Hit") ≡ Some (Unknown 4)
unfolding matches matches_any
spaces_are_of_the_name = refl
