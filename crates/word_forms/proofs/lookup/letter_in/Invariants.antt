-- the rows so far do not have the letter
use Rattle.std.proofs.Common.{◌≡◌, drop}
use Rattle.word_forms.specs.Lookup.{first_letter}
use Rattle.word_forms.proofs.lookup.letter_in.Given as goal

abbrev pub invariant-loop-row : goal.invariant-loop-row
invariant-loop-row g l = first_letter (drop l.row-index l.rows) l.letter ≡ first_letter l.rows l.letter
