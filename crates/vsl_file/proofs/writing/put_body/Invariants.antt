-- the bytes of the records so far were added
use Rattle.std.proofs.Common.{◌≡◌, ◌++◌, take}
use Rattle.std.specs.List.{flat_map}
use Rattle.vsl_file.specs.File.{record_bytes}
use Rattle.vsl_file.proofs.writing.put_body.Given as goal

abbrev pub invariant-loop-i : goal.invariant-loop-i
invariant-loop-i l = l.out.items ≡ l.initial.out.items ++ flat_map (record_bytes l.vxid) (take l.i l.records)
