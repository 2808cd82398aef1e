-- the bytes that were passed and those that are still passed are all
use Rattle.std.proofs.Common.{◌≡◌, drop}
use Rattle.query_grammar.specs.Lexical.{lex_along}
use Rattle.query_grammar.proofs.Along.{passed}
use Rattle.query_grammar.proofs.lex.Lex.along.Given as goal

abbrev pub invariant-loop-byte : goal.invariant-loop-byte
invariant-loop-byte l = record {
  along : passed l.count (lex_along l.state (drop l.byte-index l.text)) ≡ lex_along l.fn.self l.text;
  count : l.count ≡ l.byte-index;
}
