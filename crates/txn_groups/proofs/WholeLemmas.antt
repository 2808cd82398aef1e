-- A transaction that begins and ends at once: the nodes stay as they are.
use Rattle.std.proofs.Common.{◌≡◌, ◌+◌, ℕ, List, [], ◌∷◌, map, ap, sym, ◌∙◌, arith}
use Rattle.vsl_record.specs.declared.record_type.Record.{Record}
use Rattle.txn_rows.specs.declared.rows.Row.{Row}
use Rattle.txn_rows.specs.Transaction.{Transaction}
use Rattle.txn_rows.specs.Grouping.{State, Leaving, ended_one}
use Rattle.txn_rows.specs.Trees.{transaction_of}
use Rattle.txn_rows.specs.Whole.{with_whole, whole_group}
use Rattle.txn_rows.proofs.StandLemmas.{trees_higher}
use Rattle.txn_rows.proofs.WholeLemmas.{whole_left}
use Rattle.txn_groups.specs.declared.node.Node.{Node}
use Rattle.txn_groups.specs.declared.order.Entry.{Entry}
use Rattle.txn_groups.specs.declared.pending.Pending.{Pending}
use Rattle.txn_groups.specs.inside.Nodes.{AreNodes, EntriesRise, listed}
use Rattle.txn_groups.specs.inside.Held.{state_of, IsHeld}
use Rattle.txn_groups.specs.inside.Oldest.{IsLow}
use Rattle.txn_groups.proofs.TellLemmas.{tells}

entries_higher : (low high : ℕ) (order : List Entry) → EntriesRise low high order → EntriesRise low (high + 1) order
entries_higher low high [] r = omega (arith, r)
entries_higher low high (e ∷ order) r = (r.0, entries_higher (e.serial + 1) high order r.1)

nodes_higher : (begun : ℕ) (nodes : List Node) (order : List Entry) (rows : List Row) → AreNodes begun nodes order rows → AreNodes (begun + 1) nodes order rows
nodes_higher begun nodes order rows are = record {
  trees = trees_higher begun rows are.trees;
  numbered = are.numbered;
  stand = record { rising = entries_higher 0 begun order are.stand.rising; node = are.stand.node; row = are.stand.row; one = are.stand.one };
  children = are.children;
  up = are.up;
  last = are.last;
  kin = are.kin;
}

-- one more began
pub held_higher : (p : Pending) → IsHeld p → IsHeld (record p { begun = p.begun + 1 })
held_higher p held = record {
  stand = held.stand;
  are = nodes_higher p.begun p.nodes.items p.order.items held.stand held.are;
  index = held.index;
  free = held.free;
  counted = held.counted;
}

pub low_higher : (low : ℕ) (state : State) → IsLow low state → IsLow low (record state { begun = state.begun + 1 })
low_higher low state is = record { begun = omega (arith, is.begun); none = is.none }

-- it leaves as a group by itself
pub whole_leaves : (p : Pending) (vxid : ℕ) (records : List Record) → IsHeld p → ended_one vxid (with_whole vxid records (state_of p)) ≡ record { state = record (state_of p) { begun = p.begun + 1 }; groups = whole_group vxid records ∷ [] }
whole_leaves p vxid records held =
    let are : listed p.nodes.items p.order.items ≡ map transaction_of held.stand = tells p.begun p.nodes.items p.order.items held.stand held.are in
    let state : List Transaction → State = λ ts. record { pending = ts; begun = p.begun; time = p.time } in
    let left : List Transaction → Leaving = λ ts. record { state = record { pending = ts; begun = p.begun + 1; time = p.time }; groups = whole_group vxid records ∷ [] } in
    ap (λ (ts : List Transaction). ended_one vxid (with_whole vxid records (state ts))) are
    ∙ whole_left p.begun vxid p.time records held.stand held.are.trees
    ∙ sym (ap left are)
