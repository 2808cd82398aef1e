use Rattle.std.proofs.Common.{◌∙◌}
use Rattle.query_eval.specs.Asker.{asker_query}
use Rattle.txn_groups.proofs.AskersLemmas.{none_marked}
use Rattle.txn_groups.proofs.asking.no_marks.Goals as goal

pub returns : goal.returns
returns c = c.loop-i.invariant ∙ none_marked asker_query c.args.askers.now c.loop-i.i c.loop-i-test.false
