-- the bytes that were passed and those of the kind that follow are all of them
use Rattle.std.proofs.Common.{◌≡◌, ◌+◌, drop}
use Rattle.query_parser.specs.inside.Pieces.{is_of, leading}
use Rattle.query_parser.proofs.criterion.count_leading.Given as goal

abbrev pub invariant-loop-byte : goal.invariant-loop-byte
invariant-loop-byte l = record {
  all : l.count + leading (is_of l.kind) (drop l.byte-index l.text) ≡ leading (is_of l.kind) l.text;
  count : l.count ≡ l.byte-index;
}
