-- The newest node of a VXID has the newest row.
use Rattle.std.proofs.Common.{◌≡◌, ◌+◌, ◌≤◌, ◌<◌, inr, ℕ, suc, false, eqb, Some, None, List, [], ◌∷◌, map, get_or, drop, refl, ap, sym, ◌∙◌, subst, arith}
use Rattle.std.proofs.lemmas.Bool.{eqb-true}
use Rattle.txn_rows.specs.declared.rows.Row.{Row}
use Rattle.txn_rows.specs.Transaction.{Transaction, is_pending}
use Rattle.txn_rows.specs.Trees.{row_of, transaction_of, Rising, IsNewestRow}
use Rattle.txn_rows.proofs.LineLemmas.{by_cases}
use Rattle.txn_groups.specs.declared.node.Node.{Node}
use Rattle.txn_groups.specs.declared.pending.Pending.{Pending}
use Rattle.txn_groups.specs.inside.Nodes.{IsIn, StandsAt, HasRow, listed}
use Rattle.txn_groups.specs.inside.Linked.{NodeAt}
use Rattle.txn_groups.specs.inside.Indexed.{newest_in}
use Rattle.txn_groups.specs.inside.Held.{HoldsRows}
use Rattle.txn_groups.proofs.SetLemmas.{all_at}
use Rattle.txn_groups.proofs.ListedLemmas.{Earlier, rows_row}
use Rattle.txn_groups.proofs.IndexLemmas.{Listed, listed_nodes, found_in}
use Rattle.txn_groups.proofs.TellLemmas.{tells}

-- the place of the newest row of a VXID
pub record RowPlace (v : ℕ) (rows : List Row) (row : Row) : Type 0 where
  pub at : ℕ
  pub is : IsNewestRow v at rows
  pub read : row ≡ get_or rows at row

pub row_place : (v low high : ℕ) (rows : List Row) (row : Row) → Rising low high rows → row_of row.serial rows ≡ Some row → row.vxid ≡ v → ((u : Transaction) → IsIn (map transaction_of rows) u → u.vxid ≡ v → u.serial ≤ row.serial) → RowPlace v rows row
row_place v low high [] row rising here same most = absurd (let e : None ≡ Some row = here in cc)
row_place v low high (first ∷ rows) row rising here same most =
    let ts : List Transaction = map transaction_of rows in
    by_cases (RowPlace v (first ∷ rows) row) (eqb first.serial row.serial)
    (λ t.
    let e : Some first ≡ Some row = rw t at here in
    let is : first ≡ row = (cc) in
    let none : is_pending v ts ≡ false = by_cases (is_pending v ts ≡ false) (is_pending v ts)
    (λ p.
    let f = found_in v ts p in
    let less : first.serial < f.t.serial = all_at (Earlier (transaction_of first)) ts f.t (rows_row low high (first ∷ rows) rising).0 f.inside in
    absurd (omega (arith, less, most f.t (inr f.inside) f.vxid, eqb-true first.serial row.serial t)))
    (λ p. p) in
    record {
      at = 0;
      is = record { within = omega arith; is = λ d. ap (λ (r : Row). r.vxid) is ∙ same; none_after = none };
      read = sym is;
    })
    (λ t.
    let k = row_place v (first.serial + 1) high rows row rising.1 (rw t at here) same (λ u i. most u (inr i)) in
    let next : suc k.at + 1 ≡ suc (k.at + 1) = omega arith in
    record {
      at = suc k.at;
      is = record { within = omega (arith, k.is.within); is = λ d. k.is.is d; none_after = ap (λ (n : ℕ). is_pending v (map transaction_of (drop n (first ∷ rows)))) next ∙ k.is.none_after };
      read = k.read;
    })

-- the newest node has the newest row
most_of : (p : Pending) (rows : List Row) {at : ℕ} (n : NodeAt p.nodes.items rows at) (v : ℕ) (y : Node) → HoldsRows p rows → y ≡ n.node → ((i : ℕ) (z : Node) → StandsAt p.nodes.items i z → z.vxid ≡ v → z.serial ≤ y.serial) → n.row.serial ≡ n.node.serial → (u : Transaction) → IsIn (map transaction_of rows) u → u.vxid ≡ v → u.serial ≤ n.row.serial
most_of p rows n v y hold same most serial u i vxid =
    let inside : IsIn (listed p.nodes.items p.order.items) u = subst (λ (ts : List Transaction). IsIn ts u) (sym (tells p.begun p.nodes.items p.order.items rows hold.are)) i in
    let l : Listed p.nodes.items u = all_at (Listed p.nodes.items) (listed p.nodes.items p.order.items) u (listed_nodes p.nodes.items p.order.items) inside in
    omega (arith, ap (λ (t : Transaction). t.serial) l.is, most l.at l.node l.there (sym (ap (λ (t : Transaction). t.vxid) l.is) ∙ vxid), ap (λ (x : Node). x.serial) same, serial)

-- the newest node of a VXID, and its row
pub record NewestRow (p : Pending) (rows : List Row) (v at : ℕ) : Type 0 where
  pub node : NodeAt p.nodes.items rows at
  pub serial : node.row.serial ≡ node.node.serial
  pub place : RowPlace v rows node.row

pub newest_row : (p : Pending) (rows : List Row) (v at : ℕ) → HoldsRows p rows → newest_in p.index v ≡ Some at → NewestRow p rows v at
newest_row p rows v at hold told =
    let w = (hold.index v).some at told in
    let has : HasRow rows w.0 = hold.are.stand.row at w.0 w.1 in
    let n : NodeAt p.nodes.items rows at = record { node = w.0; there = w.1; row = has.row; found = has.found } in
    let serial : has.row.serial ≡ w.0.serial = ap (λ (r : Row). r.serial) has.is in
    record {
      node = n;
      serial = serial;
      place = row_place v 0 p.begun rows has.row hold.are.trees.rising (ap (λ (s : ℕ). row_of s rows) serial ∙ has.found) (ap (λ (r : Row). r.vxid) has.is ∙ w.2) (most_of p rows n v w.0 hold refl w.3 serial);
    }
