-- What was added and the units of the records that are left are all units of the records.
use Rattle.std.proofs.Common.{◌≡◌, ◌++◌, length}
use Rattle.vsl_file.specs.File.{log_bytes}
use Rattle.vsl_select.specs.FileUnits.{units_of}
use Rattle.tool_consumers.proofs.layout.put_units.Given as goal

abbrev pub invariant-loop-rest : goal.invariant-loop-rest
invariant-loop-rest l = l.out.items ++ log_bytes (units_of l.initial.vxid l.rest) ≡ l.initial.out.items ++ log_bytes (units_of l.initial.vxid l.initial.records)

abbrev pub decreases-loop-rest : goal.decreases-loop-rest
decreases-loop-rest l = length l.rest
