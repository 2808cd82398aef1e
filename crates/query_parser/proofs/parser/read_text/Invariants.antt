-- reading on from these lines is reading the text
use Rattle.std.proofs.Common.{length}
use Rattle.query_parser.proofs.LinesRead.{LinesLead}
use Rattle.query_parser.proofs.parser.read_text.Given as goal

abbrev pub invariant-loop-behind : goal.invariant-loop-behind
invariant-loop-behind l = LinesLead l.caseless l.text l.behind l.steps

abbrev pub decreases-loop-behind : goal.decreases-loop-behind
decreases-loop-behind l = length l.behind
