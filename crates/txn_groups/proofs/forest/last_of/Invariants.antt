-- so many steps up
use Rattle.std.proofs.Common.{ℕ, List, length, ◌≤◌}
use Rattle.txn_rows.specs.declared.rows.Row.{Row}
use Rattle.txn_groups.specs.declared.node.Node.{Node}
use Rattle.txn_groups.specs.declared.order.Entry.{Entry}
use Rattle.txn_groups.specs.inside.Nodes.{AreNodes, StandsAt}
use Rattle.txn_groups.proofs.FoundLemmas.{FindsOn}
use Rattle.txn_groups.proofs.forest.last_of.Given as goal

abbrev pub invariant-loop-i : goal.invariant-loop-i
invariant-loop-i l = (begun : ℕ) (order : List Entry) (rows : List Row) (x : Node) → AreNodes begun l.nodes order rows → length rows ≤ l.standing → StandsAt l.nodes l.at x → FindsOn l.nodes rows l.at l.last l.i
