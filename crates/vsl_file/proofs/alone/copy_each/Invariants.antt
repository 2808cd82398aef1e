-- the records so far were added, each as a unit by itself, and the bytes of the others are left
use Rattle.std.proofs.Common.{◌≡◌, ◌++◌, take, drop}
use Rattle.std.specs.List.{flat_map}
use Rattle.vsl_file.specs.File.{alone_bytes, record_bytes}
use Rattle.vsl_file.proofs.alone.copy_each.Given as goal

abbrev pub invariant-loop-i : goal.invariant-loop-i
invariant-loop-i l = record {
  left : l.left ≡ flat_map (record_bytes l.vxid) (drop l.i l.records);
  out : l.out.items ≡ l.initial.out.items ++ alone_bytes l.vxid (take l.i l.records);
}
