-- the unit that was begun has the records so far
use Rattle.vsl_select.proofs.FileUnitLemmas.{IsBegun}
use Rattle.vsl_select.proofs.file_units.first_unit.Given as goal

abbrev pub invariant-loop-at : goal.invariant-loop-at
invariant-loop-at l = IsBegun l.words l.at l.mark l.records
