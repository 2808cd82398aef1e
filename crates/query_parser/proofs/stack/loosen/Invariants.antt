use Rattle.std.proofs.Common.{◌≡◌, length}
use Rattle.query_grammar.specs.Moves.{loosened}
use Rattle.query_parser.proofs.stack.loosen.Given as goal

abbrev pub invariant-loop-mark : goal.invariant-loop-mark
invariant-loop-mark l = loosened l.waiting l.steps.items ≡ loosened l.fn.waiting l.fn.steps.items

abbrev pub decreases-loop-mark : goal.decreases-loop-mark
decreases-loop-mark l = length l.waiting
