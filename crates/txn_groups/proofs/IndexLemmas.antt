-- The newest node of a VXID is its newest transaction.
use Rattle.std.proofs.Common.{◌≡◌, ◌<◌, ◌≤◌, ⊎_elim, inl, inr, ℕ, Bool, true, false, not, eqb, ◌||◌, Option, Some, None, List, [], ◌∷◌, refl, ap, sym, ◌∙◌, subst, arith}
use Rattle.std.specs.Prelude.{slice_get}
use Rattle.std.proofs.lemmas.Bool.{eqb-true, eq-eqb, or_parts, ne_eqb}
use Rattle.txn_rows.specs.declared.rows.Row.{Row}
use Rattle.txn_rows.specs.Transaction.{Transaction, is_pending, is_open, newest}
use Rattle.txn_rows.proofs.LineLemmas.{by_cases}
use Rattle.txn_groups.specs.declared.node.Node.{Node}
use Rattle.txn_groups.specs.declared.order.Entry.{Entry}
use Rattle.txn_groups.specs.inside.Nodes.{IsIn, StandsAt, transaction_of_node, listed, HasRow, HasNode, AreNodes}
use Rattle.txn_groups.specs.inside.Kin.{IsNewestOf}
use Rattle.txn_groups.proofs.SetLemmas.{AllOf, InRow, all_at}
use Rattle.txn_groups.proofs.ListedLemmas.{Earlier, listed_row, listed_all, in_listed}

-- what is pending is in the list
pub record FoundIn (v : ℕ) (ts : List Transaction) : Type 0 where
  pub t : Transaction
  pub inside : IsIn ts t
  pub vxid : t.vxid ≡ v

pub found_in : (v : ℕ) (ts : List Transaction) → is_pending v ts ≡ true → FoundIn v ts
found_in v [] p = absurd (let e : false ≡ true = p in cc)
found_in v (t ∷ ts) p =
    by_cases (FoundIn v (t ∷ ts)) (eqb t.vxid v)
    (λ e. record { t = t; inside = inl refl; vxid = eqb-true t.vxid v e })
    (λ e. let f = found_in v ts (rw e at p) in record { t = f.t; inside = inr f.inside; vxid = f.vxid })

pub none_in : (v : ℕ) (ts : List Transaction) → is_pending v ts ≡ false → (t : Transaction) → IsIn ts t → t.vxid ≡ v → ⊥
none_in v [] p t i same = i
none_in v (u ∷ ts) p t i same =
    let parts = or_parts (eqb u.vxid v) (is_pending v ts) p in
    ⊎_elim
    (λ (e : t ≡ u). let both : true ≡ false = sym (eq-eqb u.vxid v (sym (ap (λ (x : Transaction). x.vxid) e) ∙ same)) ∙ parts.0 in absurd (cc))
    (λ (later : IsIn ts t). none_in v ts parts.1 t later same)
    i

-- no transaction of a VXID is pending
pub none_pending : (v : ℕ) (ts : List Transaction) → AllOf (λ (t : Transaction). t.vxid ≡ v → ⊥) ts → is_pending v ts ≡ false
none_pending v [] a = refl
none_pending v (t ∷ ts) a = rw (ne_eqb t.vxid v a.0, none_pending v ts a.1) refl

either : (b c : Bool) → c ≡ true → (b || c) ≡ true
either true c e = refl
either false c e = e

-- what is told of the newest of a VXID
pub record IsNewest (v : ℕ) (ts : List Transaction) (t : Transaction) : Type 0 where
  pub pending : is_pending v ts ≡ true
  pub newest : newest v ts ≡ Some t
  pub is_open : is_open v ts ≡ not t.ended

pub newest_is : (v : ℕ) (ts : List Transaction) (t : Transaction) → InRow Earlier ts → IsIn ts t → t.vxid ≡ v → ((u : Transaction) → IsIn ts u → u.vxid ≡ v → u.serial ≤ t.serial) → IsNewest v ts t
newest_is v [] t o i same most = absurd i
newest_is v (first ∷ ts) t o i same most =
    by_cases (IsNewest v (first ∷ ts) t) (is_pending v ts)
    (λ p.
    let f = found_in v ts p in
    let less : first.serial < f.t.serial = all_at (Earlier first) ts f.t o.0 f.inside in
    let later : IsIn ts t = ⊎_elim
    (λ (e : t ≡ first). absurd (omega (arith, less, most f.t (inr f.inside) f.vxid, ap (λ (x : Transaction). x.serial) e)))
    (λ (l : IsIn ts t). l)
    i in
    let n = newest_is v ts t o.1 later same (λ u h. most u (inr h)) in
    record {
      pending = either (eqb first.vxid v) (is_pending v ts) p;
      newest = rw p n.newest;
      is_open = rw p n.is_open;
    })
    (λ p.
    let e : t ≡ first = ⊎_elim (λ (e : t ≡ first). e) (λ (l : IsIn ts t). absurd (none_in v ts p t l same)) i in
    let here : eqb first.vxid v ≡ true = eq-eqb first.vxid v (sym (ap (λ (x : Transaction). x.vxid) e) ∙ same) in
    record {
      pending = rw here refl;
      newest = rw (p, here) (ap Some (sym e));
      is_open = rw (p, here) (ap (λ (x : Transaction). not x.ended) (sym e));
    })

-- what is listed is of a node that stands
pub record Listed (nodes : List Node) (t : Transaction) : Type 0 where
  pub at : ℕ
  pub node : Node
  pub there : StandsAt nodes at node
  pub is : t ≡ transaction_of_node node

pub listed_nodes : (nodes : List Node) (order : List Entry) → AllOf (Listed nodes) (listed nodes order)
listed_nodes nodes order = listed_all nodes order (Listed nodes) (λ at x there. record { at = at; node = x; there = there; is = refl })

-- a node that stands is listed
pub stands_listed : (begun : ℕ) (nodes : List Node) (order : List Entry) (rows : List Row) (at : ℕ) (x : Node) → AreNodes begun nodes order rows → StandsAt nodes at x → IsIn (listed nodes order) (transaction_of_node x)
stands_listed begun nodes order rows at x are there =
    let has : HasRow rows x = are.stand.row at x there in
    let back : HasNode nodes order has.row = are.stand.node x.serial has.row has.found in
    let row_serial : has.row.serial ≡ x.serial = ap (λ (r : Row). r.serial) has.is in
    let node_serial : has.row.serial ≡ back.node.serial = ap (λ (r : Row). r.serial) back.is in
    let i : IsIn (listed nodes order) (transaction_of_node back.node) = in_listed nodes order (record { serial = has.row.serial; at = back.at }) back.node back.listed back.here.here back.here.stands (sym node_serial) in
    let place : back.at ≡ at = are.stand.one back.at at back.node x back.here there (sym node_serial ∙ row_serial) in
    let e : Some back.node ≡ Some x = sym back.here.here ∙ ap (slice_get nodes) place ∙ there.here in
    let same : back.node ≡ x = (cc) in
    subst (λ (n : Node). IsIn (listed nodes order) (transaction_of_node n)) same i

-- the newest node of a VXID
pub record NewestNode (nodes : List Node) (order : List Entry) (v at : ℕ) : Type 0 where
  pub node : Node
  pub there : StandsAt nodes at node
  pub vxid : node.vxid ≡ v
  pub newest : IsNewest v (listed nodes order) (transaction_of_node node)

pub newest_at : (begun : ℕ) (nodes : List Node) (order : List Entry) (rows : List Row) (v at : ℕ) (place : Option ℕ) → AreNodes begun nodes order rows → IsNewestOf nodes v place → place ≡ Some at → NewestNode nodes order v at
newest_at begun nodes order rows v at place are is e =
    let w = is.some at e in
    record {
      node = w.0;
      there = w.1;
      vxid = w.2;
      newest = newest_is v (listed nodes order) (transaction_of_node w.0) (listed_row nodes 0 begun order are.stand.rising) (stands_listed begun nodes order rows at w.0 are w.1) w.2
          (λ u i same.
          let l : Listed nodes u = all_at (Listed nodes) (listed nodes order) u (listed_nodes nodes order) i in
          omega (arith, ap (λ (x : Transaction). x.serial) l.is, w.3 l.at l.node l.there (sym (ap (λ (x : Transaction). x.vxid) l.is) ∙ same)));
    }

-- where an index tells none, none is pending
pub newest_none : (nodes : List Node) (order : List Entry) (v : ℕ) (place : Option ℕ) → IsNewestOf nodes v place → place ≡ None → is_pending v (listed nodes order) ≡ false
newest_none nodes order v place is e = none_pending v (listed nodes order) (listed_all nodes order (λ (t : Transaction). t.vxid ≡ v → ⊥) (λ at x there same. is.none e at x there same))
