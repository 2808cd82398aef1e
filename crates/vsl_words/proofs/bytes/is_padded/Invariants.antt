-- the bytes so far are zero
use Rattle.std.proofs.Common.{◌≡◌, ◌==◌, true, take}
use Rattle.std.specs.List.{list_all}
use Rattle.vsl_words.proofs.bytes.is_padded.Given as goal

abbrev pub invariant-loop-b : goal.invariant-loop-b
invariant-loop-b l = list_all (λ b. b == 0) (take l.b-index l.padding) ≡ true
