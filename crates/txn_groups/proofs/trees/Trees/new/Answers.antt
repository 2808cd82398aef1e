use Rattle.std.proofs.Common.{[], ap, ◌∙◌, arith}
use Rattle.txn_rows.specs.Grouping.{no_state}
use Rattle.txn_groups.specs.inside.Marked.{marks_for}
use Rattle.txn_groups.proofs.MarkedLemmas.{none_marked}
use Rattle.txn_groups.proofs.TreesLemmas.{trees_went}
use Rattle.txn_groups.proofs.trees.Trees.new.Goals as goal

pub returns : goal.returns
returns c =
    let queries = c.args.queries.now in
    trees_went queries _ no_state (record { begun = omega arith; none = λ t i. absurd i }) (record { asks = c.in_ok-askers.ensures; none = c.in_ok-unmarked.ensures ∙ ap (λ qs. marks_for qs []) c.in_ok-askers.ensures }) (none_marked queries _ c.no_pending.ensures.nodes) c.no_pending.ensures.went
