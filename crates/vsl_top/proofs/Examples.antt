-- Worked examples of the report, computed from the definitions.
use Rattle.std.proofs.Common.{◌≡◌, List, [], ◌∷◌, refl}
use Rattle.std.specs.Prelude.{true, false, codes}
use Rattle.std.specs.Fmt.{digits}
use Rattle.vsl_tags.specs.Tags.{begin_tag, end_tag, link_tag}
use Rattle.txn_rows.specs.declared.group.Kind.TheVariants as kinds
use Rattle.txn_rows.specs.declared.group.Group.{Group}
use Rattle.vsl_select.specs.Showing.{Showing}
use Rattle.vsl_select.proofs.Examples.{client_record, fetch, group_with, transaction}
use Rattle.vsl_top.specs.Report.{top_output, top_text}

-- everything is shown
abbrev everything : Showing
everything = record { sides = record { backend = false; client = false; esi = false }; rules = []; caseless = false }

-- a request and the fetch that it caused
abbrev request_and_fetch : List Group
request_and_fetch = group_with
    (transaction 2 kinds.Request 1 (client_record begin_tag (codes "req 1 rxreq") ∷ client_record link_tag (codes "bereq 3 fetch") ∷ client_record end_tag [] ∷ []) ∷ fetch ∷ []) ∷ []

-- the highest count first, then by the tag's name, then by the text
whole_payloads : top_text everything false request_and_fetch
    ≡ codes "         2 End            \n         1 Begin          bereq 2 fetch\n         1 Begin          req 1 rxreq\n         1 Link           bereq 3 fetch\n"
unfolding digits
whole_payloads = refl

-- by the first field; a payload without one counts with an empty text
first_fields : top_text everything true request_and_fetch
    ≡ codes "         2 End            \n         1 Begin          bereq\n         1 Begin          req\n         1 Link           bereq\n"
unfolding digits
first_fields = refl

-- there is no report before the groups have ended
before_the_end : top_output everything false request_and_fetch false ≡ []
before_the_end = refl
