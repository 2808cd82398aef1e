-- What pending nodes hold.
use Rattle.std.specs.Prelude.{◌≡◌, List, length}
use Rattle.txn_rows.specs.declared.rows.Row.{Row}
use Rattle.txn_rows.specs.Grouping.{State}
use Rattle.txn_rows.specs.Store as stores
use Rattle.txn_groups.specs.declared.pending.Pending.{Pending}
use Rattle.txn_groups.specs.inside.Nodes.{AreNodes, listed}
use Rattle.txn_groups.specs.inside.Indexed.{IsIndex}
use Rattle.txn_groups.specs.inside.Places.{AreFree}

-- what the nodes, the number of those that began and the time say
abbrev pub state_of : Pending → State
state_of p = record { pending = listed p.nodes.items p.order.items; begun = p.begun; time = p.time }

-- nodes stand for rows, which are counted, the index tells the newest of each VXID, and the free places are free
pub record IsHeld (p : Pending) : Type 0 where
  pub stand : List Row
  pub are : AreNodes p.begun p.nodes.items p.order.items stand
  pub index : IsIndex p.nodes.items p.index
  pub free : AreFree p.nodes.items p.free.items
  pub counted : length stand ≡ p.rows

-- the nodes went to this state
abbrev pub Went : State → Pending → Type 0
Went = stores.Went IsHeld state_of

-- nodes stand for these rows, the index tells the newest of each VXID, and the free places are free
pub record HoldsRows (p : Pending) (stand : List Row) : Type 0 where
  pub are : AreNodes p.begun p.nodes.items p.order.items stand
  pub index : IsIndex p.nodes.items p.index
  pub free : AreFree p.nodes.items p.free.items
  pub counted : length stand ≡ p.rows
