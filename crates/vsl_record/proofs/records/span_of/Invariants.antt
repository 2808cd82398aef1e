-- the entries so far stand between the places
use Rattle.std.proofs.Common.{◌≤◌, length, take}
use Rattle.std.specs.List.{AllByRecursion}
use Rattle.vsl_record.specs.inside.Blocks.{IsWithin}
use Rattle.vsl_record.proofs.records.span_of.Given as goal

abbrev pub invariant-loop-entry : goal.invariant-loop-entry
invariant-loop-entry l = record {
  within : AllByRecursion (IsWithin l.from l.until) (take l.entry-index l.entries);
  begins : l.from ≤ length l.block;
  ends : l.until ≤ length l.block;
}
