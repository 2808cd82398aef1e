-- The oldest transaction that has not ended, and a serial number before which none is so.
use Rattle.std.specs.Prelude.{◌≡◌, ℕ, ◌<◌, ◌≤◌, ⊤, false, List, [], ◌∷◌, Some}
use Rattle.txn_rows.specs.Transaction.{Transaction, oldest}
use Rattle.txn_rows.specs.Grouping.{State, is_unfinished}
use Rattle.txn_groups.specs.declared.node.Node.{Node}
use Rattle.txn_groups.specs.declared.order.Entry.{Entry}
use Rattle.txn_groups.specs.declared.pending.Pending.{Pending}
use Rattle.txn_groups.specs.inside.Nodes.{IsIn, StandsAt, transaction_of_node}
use Rattle.txn_groups.specs.inside.Held.{state_of}

-- each transaction that has not ended has this serial number or a higher one
abbrev pub NoneBelow : ℕ → State → Type 0
NoneBelow low state = (t : Transaction) → IsIn state.pending t → t.ended ≡ false → low ≤ t.serial

-- the same, of a serial number that is not above those that are still to come
pub record IsLow (low : ℕ) (state : State) : Type 0 where
  pub begun : low ≤ state.begun
  pub none : NoneBelow low state

-- the oldest transaction that has not ended is that of the node at a place
pub record OldestAt (p : Pending) (at : ℕ) : Type 0 where
  pub node : Node
  pub there : StandsAt p.nodes.items at node
  pub unended : node.ended ≡ false
  pub is : oldest is_unfinished (state_of p).pending ≡ Some (transaction_of_node node)

-- entries have serial numbers below another
abbrev pub EntriesBelow : ℕ → List Entry → Type 0
EntriesBelow low [] = ⊤
EntriesBelow low (e ∷ order) = (e.serial < low) × EntriesBelow low order
