-- Worked examples of raw lines, computed from the definitions.
use Rattle.std.proofs.Common.{◌≡◌, ◌++◌, [], ◌∷◌, refl}
use Rattle.std.specs.Prelude.{codes}
use Rattle.std.specs.Fmt.{digits}
use Rattle.vsl_record.specs.declared.mark.Mark.TheVariants.{Client}
use Rattle.vsl_record.proofs.Examples.{one_ping, fetch}
use Rattle.vsl_select.specs.RawLine.{raw_lines}

ping_line : raw_lines one_ping ≡ codes "         0 CLI            - Rd ping\n"
unfolding digits
ping_line = refl

fetch_lines : raw_lines fetch ≡ codes "         3 Begin          b bereq 2 fetch\n         3 End            b \n"
unfolding digits
fetch_lines = refl

-- escapes: a control byte and the byte 127, and nothing else
odd_line : raw_lines (record { vxid = 1234567; mark = Client; records = record { tag = 9; mark = Client; payload = 9 ∷ 127 ∷ 92 ∷ 200 ∷ 31 ∷ 32 ∷ [] } ∷ [] })
    ≡ codes "   1234567 Backend_health c \\x09\\x7f\\" ++ 200 ∷ codes "\\x1f \n"
unfolding digits
odd_line = refl
