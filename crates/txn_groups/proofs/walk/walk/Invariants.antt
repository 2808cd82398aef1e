-- so many nodes were visited, and others wait
use Rattle.std.proofs.Common.{ℕ, List}
use Rattle.txn_rows.specs.declared.rows.Row.{Row}
use Rattle.txn_groups.specs.declared.order.Entry.{Entry}
use Rattle.txn_groups.specs.inside.Nodes.{AreNodes}
use Rattle.txn_groups.specs.inside.Walked.{IsTopAt}
use Rattle.txn_groups.proofs.VisitLemmas.{WalksOn}
use Rattle.txn_groups.proofs.walk.walk.Given as goal

abbrev pub invariant-loop-i : goal.invariant-loop-i
invariant-loop-i l = (begun root : ℕ) (order : List Entry) (rows : List Row) → AreNodes begun l.nodes order rows → IsTopAt l.nodes rows root l.size l.top → WalksOn l.nodes rows root l.i l.visits.items l.later.items
