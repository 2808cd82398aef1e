-- the oldest were force-completed, and times rise
use Rattle.txn_rows.specs.Grouping.{forced_often, forced_all}
use Rattle.txn_rows.specs.Store.{IsOrdered, test_of}
use Rattle.txn_rows.specs.inside.Steps.{ForcesOn}
use Rattle.txn_rows.proofs.forcing.force_all.Given as goal

abbrev pub invariant-loop-i : goal.invariant-loop-i
invariant-loop-i g l = (key : g.S.Store.Key) → IsOrdered (g.S.Store.holds key) g.S.Store.state l.initial.store →
    ForcesOn (g.S.Store.holds key) g.S.Store.state (g.S.Store.hand key) l.grouping l.which (λ n. forced_often n (test_of l.which) l.cause) (forced_all (test_of l.which) l.cause (g.S.Store.state l.initial.store)) l.i l.most l.store l.initial.out.items l.out.items
