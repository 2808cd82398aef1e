-- what was read and what is left are all
use Rattle.std.proofs.Common.{◌≡◌, ◌++◌, drop, false}
use Rattle.query_grammar.specs.Criterion.{unescaped}
use Rattle.query_parser.proofs.literal.unescape.Given as goal

abbrev pub invariant-loop-byte : goal.invariant-loop-byte
invariant-loop-byte l = l.bytes.items ++ unescaped l.escaped (drop l.byte-index l.text) ≡ unescaped false l.text
