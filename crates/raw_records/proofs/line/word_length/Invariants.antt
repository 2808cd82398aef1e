use Rattle.std.proofs.Common.{◌≡◌, ◌<◌, ℕ, false, get_or}
use Rattle.raw_records.specs.Lines.{is_space}
use Rattle.raw_records.proofs.line.word_length.Given as goal

-- the bytes before the place are no spaces
abbrev pub invariant-loop-at : goal.invariant-loop-at
invariant-loop-at l = (k : ℕ) → k < l.at → is_space (get_or l.text k 0) ≡ false
