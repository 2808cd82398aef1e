-- what is left tells for the line
use Rattle.std.proofs.Common.{◌≡◌, length}
use Rattle.query_grammar.specs.Lines.{is_passed}
use Rattle.query_parser.proofs.parser.is_passed_over.Given as goal

abbrev pub invariant-loop-rest : goal.invariant-loop-rest
invariant-loop-rest l = is_passed l.rest ≡ is_passed l.line

abbrev pub decreases-loop-rest : goal.decreases-loop-rest
decreases-loop-rest l = length l.rest
