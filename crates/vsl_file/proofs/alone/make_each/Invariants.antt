-- the records so far were added, each as a unit by itself
use Rattle.std.proofs.Common.{◌≡◌, ◌++◌, take}
use Rattle.vsl_file.specs.File.{alone_bytes}
use Rattle.vsl_file.proofs.alone.make_each.Given as goal

abbrev pub invariant-loop-i : goal.invariant-loop-i
invariant-loop-i l = l.out.items ≡ l.initial.out.items ++ alone_bytes l.vxid (take l.i l.records)
