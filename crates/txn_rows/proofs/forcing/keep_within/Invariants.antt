-- the oldest were force-completed, and times rise
use Rattle.txn_rows.specs.declared.which.Which.TheVariants.{Unfinished}
use Rattle.txn_rows.specs.Grouping.{forced_down, after_overflow}
use Rattle.txn_rows.specs.Store.{IsOrdered}
use Rattle.txn_rows.specs.inside.Steps.{ForcesOn}
use Rattle.txn_rows.proofs.forcing.keep_within.Given as goal

abbrev pub invariant-loop-i : goal.invariant-loop-i
invariant-loop-i g l = (key : g.S.Store.Key) → IsOrdered (g.S.Store.holds key) g.S.Store.state l.initial.store →
    ForcesOn (g.S.Store.holds key) g.S.Store.state (g.S.Store.hand key) l.grouping Unfinished (forced_down l.limit) (after_overflow l.limit (g.S.Store.state l.initial.store)) l.i l.most l.store l.initial.out.items l.out.items
