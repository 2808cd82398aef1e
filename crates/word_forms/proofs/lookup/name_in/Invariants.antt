-- the rows so far do not have the name
use Rattle.std.proofs.Common.{◌≡◌, drop}
use Rattle.word_forms.specs.Lookup.{first_name}
use Rattle.word_forms.proofs.lookup.name_in.Given as goal

abbrev pub invariant-loop-row : goal.invariant-loop-row
invariant-loop-row g l = first_name (λ row. row.0.now) (λ row. row.1) (drop l.row-index l.rows) l.word ≡ first_name (λ row. row.0.now) (λ row. row.1) l.rows l.word
