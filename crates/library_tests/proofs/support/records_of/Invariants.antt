-- the records so far are a client's
use Rattle.std.proofs.Common.{◌≡◌}
use Rattle.std.specs.List.{All}
use Rattle.vsl_record.specs.declared.mark.Mark.TheVariants.{Client}
use Rattle.library_tests.proofs.support.records_of.Given as goal

abbrev pub invariant-loop-one : goal.invariant-loop-one
invariant-loop-one g l = All (λ r. r.mark ≡ Client) l.records.items
