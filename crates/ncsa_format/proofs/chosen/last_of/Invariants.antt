-- the records that are left give what all of them give
use Rattle.std.proofs.Common.{◌≡◌, take}
use Rattle.ncsa_format.specs.Value.{in_tag, last_of}
use Rattle.ncsa_format.specs.inside.Wanted.{part_of}
use Rattle.ncsa_format.proofs.chosen.last_of.Given as goal

abbrev pub invariant-loop-i : goal.invariant-loop-i
invariant-loop-i l = last_of (in_tag l.tag (part_of l.wanted)) l.records ≡ last_of (in_tag l.tag (part_of l.wanted)) (take l.i l.records)
