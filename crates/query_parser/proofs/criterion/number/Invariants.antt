-- the number of the bytes that were read goes on as that of all
use Rattle.std.proofs.Common.{◌≡◌, ◌≤◌, drop}
use Rattle.query_grammar.specs.Judging.{number}
use Rattle.query_parser.proofs.criterion.number.Given as goal

abbrev pub invariant-loop-byte : goal.invariant-loop-byte
invariant-loop-byte l = record {
  all : number l.value (drop l.byte-index l.text) ≡ number 0 l.text;
  most : l.value ≤ 99999;
}
