-- the entries so far are moved, and the others are as they were
use Rattle.std.proofs.Common.{◌≡◌, ◌++◌, map, take, drop}
use Rattle.vsl_record.specs.inside.Blocks.{moved}
use Rattle.vsl_record.proofs.records.move_entries.Given as goal

abbrev pub invariant-loop-i : goal.invariant-loop-i
invariant-loop-i l = l.entries ≡ map (moved l.from l.base) (take l.i l.initial.entries) ++ drop l.i l.initial.entries
