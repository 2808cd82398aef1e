-- Entries whose nodes stand for them no more tell nothing, and can be dropped.
use Rattle.std.proofs.Common.{◌≡◌, ◌+◌, ◌≤◌, ◌&&◌, ℕ, Bool, true, false, eqb, cond, Option, Some, None, List, [], ◌∷◌, ◌++◌, refl, ap, sym, ◌∙◌, subst, arith}
use Rattle.std.specs.Prelude.{slice_get}
use Rattle.std.proofs.lemmas.Bool.{eq-eqb}
use Rattle.txn_rows.specs.declared.rows.Row.{Row}
use Rattle.txn_rows.specs.Transaction.{Transaction}
use Rattle.txn_rows.specs.Grouping.{State}
use Rattle.txn_rows.proofs.LineLemmas.{by_cases}
use Rattle.txn_groups.specs.declared.node.Node.{Node}
use Rattle.txn_groups.specs.declared.order.Entry.{Entry}
use Rattle.txn_groups.specs.declared.pending.Pending.{Pending}
use Rattle.txn_groups.specs.inside.Nodes.{StandsAt, transaction_of_node, told_of, listed, EntriesRise, HasNode, StandFor, AreNodes}
use Rattle.txn_groups.specs.inside.Order.{stands_for, is_live, live}
use Rattle.txn_groups.specs.inside.Held.{state_of, IsHeld, Went}
use Rattle.txn_groups.proofs.SetLemmas.{in_filter}

-- an entry whose node stands for it no more tells nothing
told_dead : (o : Option Node) (serial : ℕ) → stands_for o serial ≡ false → told_of o serial ≡ []
told_dead None serial e = refl
told_dead (Some x) serial e = ap (λ (b : Bool). cond b (transaction_of_node x ∷ []) []) e

-- so the same transactions are listed without such entries
pub listed_live : (nodes : List Node) (order : List Entry) → listed nodes (live nodes order) ≡ listed nodes order
listed_live nodes [] = refl
listed_live nodes (e ∷ order) =
    by_cases (listed nodes (live nodes (e ∷ order)) ≡ listed nodes (e ∷ order)) (is_live nodes e)
    (λ t. rw t (ap (λ (ts : List Transaction). told_of (slice_get nodes e.at) e.serial ++ ts) (listed_live nodes order)))
    (λ t. let none : told_of (slice_get nodes e.at) e.serial ≡ [] = told_dead (slice_get nodes e.at) e.serial t in
    rw t (listed_live nodes order ∙ ap (λ (ts : List Transaction). ts ++ listed nodes order) (sym none)))

rises_lower : (low more high : ℕ) (order : List Entry) → low ≤ more → EntriesRise more high order → EntriesRise low high order
rises_lower low more high [] less r = omega (arith, less, r)
rises_lower low more high (e ∷ order) less r = (omega (arith, less, r.0), r.1)

-- and the others still rise
rises_live : (nodes : List Node) (low high : ℕ) (order : List Entry) → EntriesRise low high order → EntriesRise low high (live nodes order)
rises_live nodes low high [] r = r
rises_live nodes low high (e ∷ order) r =
    let later : EntriesRise (e.serial + 1) high (live nodes order) = rises_live nodes (e.serial + 1) high order r.1 in
    by_cases (EntriesRise low high (live nodes (e ∷ order))) (is_live nodes e)
    (λ t. rw t (r.0, later))
    (λ t. rw t (rises_lower low (e.serial + 1) high (live nodes order) (omega (arith, r.0)) later))

live_at : (nodes : List Node) (at serial : ℕ) (x : Node) → StandsAt nodes at x → x.serial ≡ serial → stands_for (slice_get nodes at) serial ≡ true
live_at nodes at serial x there is =
    let both : (x.stands && (eqb x.serial serial)) ≡ true = rw (there.stands, eq-eqb x.serial serial is) refl in
    ap (λ (o : Option Node). stands_for o serial) there.here ∙ both

stand_live : (begun : ℕ) (nodes : List Node) (order : List Entry) (rows : List Row) → StandFor begun nodes order rows → StandFor begun nodes (live nodes order) rows
stand_live begun nodes order rows stand = record {
  rising = rises_live nodes 0 begun order stand.rising;
  node = λ s row here.
      let has : HasNode nodes order row = stand.node s row here in
      record {
        at = has.at;
        node = has.node;
        here = has.here;
        is = has.is;
        listed = in_filter (is_live nodes) order (record { serial = row.serial; at = has.at }) has.listed (live_at nodes has.at row.serial has.node has.here (sym (ap (λ (r : Row). r.serial) has.is)));
      };
  row = stand.row;
  one = stand.one;
}

-- nodes stand for the same rows
pub nodes_live : (begun : ℕ) (nodes : List Node) (order : List Entry) (rows : List Row) → AreNodes begun nodes order rows → AreNodes begun nodes (live nodes order) rows
nodes_live begun nodes order rows are = record {
  trees = are.trees;
  numbered = are.numbered;
  stand = stand_live begun nodes order rows are.stand;
  children = are.children;
  up = are.up;
  last = are.last;
  kin = are.kin;
}

-- pending nodes without such entries are in the same state
pub live_went : (p m : Pending) → IsHeld p → m.order.items ≡ live p.nodes.items p.order.items → m.nodes ≡ p.nodes → m.begun ≡ p.begun → m.index ≡ p.index → m.free ≡ p.free → m.rows ≡ p.rows → m.time ≡ p.time → Went (state_of p) m
live_went p m held order_is nodes_is begun_is index_is free_is rows_is time_is =
    let are : AreNodes p.begun p.nodes.items m.order.items held.stand = subst (λ (o : List Entry). AreNodes p.begun p.nodes.items o held.stand) (sym order_is) (nodes_live p.begun p.nodes.items p.order.items held.stand held.are) in
    record {
      kept = record { stand = held.stand; are = rw (nodes_is, begun_is) are; index = rw (nodes_is, index_is) held.index; free = rw (nodes_is, free_is) held.free; counted = held.counted ∙ sym rows_is };
      told = ap {B = State} (λ (b : ℕ). record { pending = listed m.nodes.items m.order.items; begun = b; time = m.time }) begun_is
          ∙ ap {B = State} (λ (t : Option ℕ). record { pending = listed m.nodes.items m.order.items; begun = p.begun; time = t }) time_is
          ∙ ap {B = State} (λ (ts : List Transaction). record (state_of p) { pending = ts }) (rw nodes_is (ap (listed p.nodes.items) order_is ∙ listed_live p.nodes.items p.order.items));
    }
