-- the records that are left give what all of them give
use Rattle.std.proofs.Common.{◌≡◌, drop}
use Rattle.ncsa_format.specs.Value.{first_of, in_tag}
use Rattle.ncsa_format.specs.inside.Wanted.{part_of}
use Rattle.ncsa_format.proofs.chosen.first_of.Given as goal

abbrev pub invariant-loop-i : goal.invariant-loop-i
invariant-loop-i l = first_of (in_tag l.tag (part_of l.wanted)) l.records ≡ first_of (in_tag l.tag (part_of l.wanted)) (drop l.i l.records)
