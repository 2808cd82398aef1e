-- The transactions of nodes, in the order of their entries, are those of the rows for which they stand.
use Rattle.std.proofs.Common.{◌≡◌, ◌+◌, ◌<◌, ◌≤◌, ◌⊎◌, ⊎_elim, inl, inr, ℕ, Bool, true, eqb, cond, ◌&&◌, Option, Some, None, List, [], ◌∷◌, map, refl, ap, sym, ◌∙◌, subst, arith}
use Rattle.std.specs.Prelude.{slice_get}
use Rattle.std.proofs.lemmas.Bool.{eqb-true, eq-eqb, and_parts}
use Rattle.txn_rows.specs.declared.rows.Row.{Row}
use Rattle.txn_rows.specs.Transaction.{Transaction}
use Rattle.txn_rows.specs.Trees.{transaction_of, row_of, Rising}
use Rattle.txn_rows.specs.inside.Rows.{Each}
use Rattle.txn_rows.proofs.LineLemmas.{by_cases}
use Rattle.txn_rows.proofs.TreeLemmas.{rising_above, each_found, each_weaker}
use Rattle.txn_groups.specs.declared.node.Node.{Node}
use Rattle.txn_groups.specs.declared.order.Entry.{Entry}
use Rattle.txn_groups.specs.inside.Nodes.{IsIn, StandsAt, transaction_of_node, told_of, listed, EntriesRise, HasNode, HasRow, StandFor}
use Rattle.txn_groups.proofs.SetLemmas.{AllOf, InRow, all_weaker, in_right, sorted_same}

-- one transaction began before another
abbrev pub Earlier : Transaction → Transaction → Type 0
Earlier t u = t.serial < u.serial

-- what an entry tells
pub record Tells (o : Option Node) (serial : ℕ) : Type 0 where
  pub node : Node
  pub is : o ≡ Some node
  pub stands : node.stands ≡ true
  pub serial_is : node.serial ≡ serial
  pub told : told_of o serial ≡ transaction_of_node node ∷ []

pub told_cases : (o : Option Node) (serial : ℕ) → (told_of o serial ≡ []) ⊎ Tells o serial
told_cases None serial = inl refl
told_cases (Some x) serial =
    by_cases ((told_of (Some x) serial ≡ []) ⊎ Tells (Some x) serial) (x.stands && (eqb x.serial serial))
    (λ t. let parts = and_parts x.stands (eqb x.serial serial) t in
    inr (record { node = x; is = refl; stands = parts.0; serial_is = eqb-true x.serial serial parts.1; told = ap (λ (b : Bool). cond b (transaction_of_node x ∷ []) []) t }))
    (λ t. inl (ap (λ (b : Bool). cond b (transaction_of_node x ∷ []) []) t))

pub told_now : (x : Node) (serial : ℕ) → x.stands ≡ true → x.serial ≡ serial → told_of (Some x) serial ≡ transaction_of_node x ∷ []
told_now x serial stands is =
    let both : (x.stands && (eqb x.serial serial)) ≡ true = rw (stands, eq-eqb x.serial serial is) refl in
    ap (λ (b : Bool). cond b (transaction_of_node x ∷ []) []) both

-- what is listed is not older than the first entry
listed_above : (nodes : List Node) (low high : ℕ) (order : List Entry) → EntriesRise low high order → AllOf (λ (t : Transaction). low ≤ t.serial) (listed nodes order)
listed_above nodes low high [] r = tt
listed_above nodes low high (e ∷ order) r =
    let P : Transaction → Type 0 = λ t. low ≤ t.serial in
    let later : AllOf P (listed nodes order) = all_weaker (λ (t : Transaction). e.serial + 1 ≤ t.serial) P (λ t h. omega (arith, h, r.0)) (listed nodes order) (listed_above nodes (e.serial + 1) high order r.1) in
    ⊎_elim
    (λ (none : told_of (slice_get nodes e.at) e.serial ≡ []). rw none later)
    (λ (t : Tells (slice_get nodes e.at) e.serial). rw t.told (omega (arith, r.0, t.serial_is), later))
    (told_cases (slice_get nodes e.at) e.serial)

pub listed_row : (nodes : List Node) (low high : ℕ) (order : List Entry) → EntriesRise low high order → InRow Earlier (listed nodes order)
listed_row nodes low high [] r = tt
listed_row nodes low high (e ∷ order) r =
    let later = listed_row nodes (e.serial + 1) high order r.1 in
    ⊎_elim
    (λ (none : told_of (slice_get nodes e.at) e.serial ≡ []). rw none later)
    (λ (t : Tells (slice_get nodes e.at) e.serial).
    rw t.told (all_weaker (λ (u : Transaction). e.serial + 1 ≤ u.serial) (Earlier (transaction_of_node t.node)) (λ u h. omega (arith, h, t.serial_is)) (listed nodes order) (listed_above nodes (e.serial + 1) high order r.1), later))
    (told_cases (slice_get nodes e.at) e.serial)

rows_later : (row : Row) (rows : List Row) → Each (λ x. row.serial + 1 ≤ x.serial) rows → AllOf (Earlier (transaction_of row)) (map transaction_of rows)
rows_later row [] e = tt
rows_later row (x ∷ rows) e = (omega (arith, e.0), rows_later row rows e.1)

pub rows_row : (low high : ℕ) (rows : List Row) → Rising low high rows → InRow Earlier (map transaction_of rows)
rows_row low high [] r = tt
rows_row low high (row ∷ rows) r = (rows_later row rows (rising_above (row.serial + 1) high rows r.1), rows_row (row.serial + 1) high rows r.1)

-- what is listed is in a list
pub listed_all : (nodes : List Node) (order : List Entry) (P : Transaction → Type 0) → ((at : ℕ) (x : Node) → StandsAt nodes at x → P (transaction_of_node x)) → AllOf P (listed nodes order)
listed_all nodes [] P w = tt
listed_all nodes (e ∷ order) P w =
    let later = listed_all nodes order P w in
    ⊎_elim
    (λ (none : told_of (slice_get nodes e.at) e.serial ≡ []). rw none later)
    (λ (t : Tells (slice_get nodes e.at) e.serial). rw t.told (w e.at t.node (record { here = t.is; stands = t.stands }), later))
    (told_cases (slice_get nodes e.at) e.serial)

pub in_listed : (nodes : List Node) (order : List Entry) (e : Entry) (x : Node) → IsIn order e → slice_get nodes e.at ≡ Some x → x.stands ≡ true → x.serial ≡ e.serial → IsIn (listed nodes order) (transaction_of_node x)
in_listed nodes [] e x i here stands is = absurd i
in_listed nodes (first ∷ order) e x i here stands is = ⊎_elim
    (λ (same : e ≡ first).
    let told : told_of (slice_get nodes first.at) first.serial ≡ transaction_of_node x ∷ [] = ap (λ (f : Entry). told_of (slice_get nodes f.at) f.serial) (sym same) ∙ ap (λ (o : Option Node). told_of o e.serial) here ∙ told_now x e.serial stands is in
    rw told (inl refl))
    (λ (later : IsIn order e). in_right (told_of (slice_get nodes first.at) first.serial) (listed nodes order) (transaction_of_node x) (in_listed nodes order e x later here stands is))
    i

pub in_map : (rows : List Row) (s : ℕ) (row : Row) → row_of s rows ≡ Some row → IsIn (map transaction_of rows) (transaction_of row)
in_map [] s row here = absurd (let e : None ≡ Some row = here in cc)
in_map (first ∷ rows) s row here =
    by_cases (IsIn (map transaction_of (first ∷ rows)) (transaction_of row)) (eqb first.serial s)
    (λ t. let same : Some first ≡ Some row = rw t at here in let is : row ≡ first = (cc) in inl (ap transaction_of is))
    (λ t. inr (in_map rows s row (rw t at here)))

all_map : (P : Transaction → Type 0) (rows : List Row) → Each (λ row. P (transaction_of row)) rows → AllOf P (map transaction_of rows)
all_map P [] e = tt
all_map P (row ∷ rows) e = (e.0, all_map P rows e.1)

-- nodes that stand for rows list their transactions
pub listed_is : (begun : ℕ) (nodes : List Node) (order : List Entry) (rows : List Row) → Rising 0 begun rows → StandFor begun nodes order rows → listed nodes order ≡ map transaction_of rows
listed_is begun nodes order rows rising stand =
    sorted_same Earlier (λ t u h k. omega (arith, h, k)) (listed nodes order) (map transaction_of rows) (listed_row nodes 0 begun order stand.rising) (rows_row 0 begun rows rising)
    (listed_all nodes order (IsIn (map transaction_of rows)) (λ at x there.
    let has : HasRow rows x = stand.row at x there in
    subst (IsIn (map transaction_of rows)) (ap transaction_of has.is) (in_map rows x.serial has.row has.found)))
    (all_map (IsIn (listed nodes order)) rows (each_weaker (λ row. row_of row.serial rows ≡ Some row) (λ row. IsIn (listed nodes order) (transaction_of row)) (λ row here.
    let has : HasNode nodes order row = stand.node row.serial row here in
    subst (IsIn (listed nodes order)) (sym (ap transaction_of has.is)) (in_listed nodes order (record { serial = row.serial; at = has.at }) has.node has.listed has.here.here has.here.stands (sym (ap (λ (r : Row). r.serial) has.is)))) rows (each_found 0 begun rows rising)))
