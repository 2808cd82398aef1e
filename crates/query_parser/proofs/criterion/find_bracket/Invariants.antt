-- the bracket of the bytes that are left is the bracket of all
use Rattle.std.proofs.Common.{◌≡◌, drop, Some}
use Rattle.query_parser.specs.inside.Pieces.{bracket, bracket_from}
use Rattle.query_parser.proofs.CriterionFaults.{behind}
use Rattle.query_parser.proofs.criterion.find_bracket.Given as goal

abbrev pub invariant-loop-byte : goal.invariant-loop-byte
invariant-loop-byte l = record {
  all : behind l.count (bracket_from (Some l.state) (drop l.byte-index l.text)) ≡ bracket l.text;
  count : l.count ≡ l.byte-index;
}
