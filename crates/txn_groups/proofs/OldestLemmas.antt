-- The first entry that is open tells the oldest transaction that has not ended.
use Rattle.std.proofs.Common.{◌≡◌, ◌+◌, ◌<◌, ◌≤◌, ◌&&◌, not, ⊎_elim, inl, inr, ℕ, zero, suc, Bool, true, false, eqb, Option, Some, None, List, [], ◌∷◌, ◌++◌, length, take, drop, get_or, refl, ap, sym, ◌∙◌, subst, arith}
use Rattle.std.specs.Prelude.{slice_get}
use Rattle.std.specs.List.{find, list_any}
use Rattle.std.specs.Option.{option_or}
use Rattle.std.proofs.lemmas.Bool.{eqb-true, eq-eqb, and_parts, not-true}
use Rattle.std.proofs.lemmas.List.{take-append-drop}
use Rattle.std.proofs.lemmas.List.Folds.{find-append}
use Rattle.std.proofs.lemmas.Option.{slice_get_within}
use Rattle.txn_rows.specs.Transaction.{Transaction}
use Rattle.txn_rows.specs.Grouping.{is_unfinished}
use Rattle.txn_rows.proofs.LineLemmas.{by_cases}
use Rattle.txn_groups.specs.declared.node.Node.{Node}
use Rattle.txn_groups.specs.declared.order.Entry.{Entry}
use Rattle.txn_groups.specs.declared.pending.Pending.{Pending}
use Rattle.txn_groups.specs.inside.Nodes.{IsIn, StandsAt, transaction_of_node, told_of, listed, EntriesRise}
use Rattle.txn_groups.specs.inside.Order.{is_open_for, is_open_at}
use Rattle.txn_groups.specs.inside.Held.{state_of}
use Rattle.txn_groups.specs.inside.Oldest.{NoneBelow, OldestAt, EntriesBelow}
use Rattle.txn_groups.proofs.ListedLemmas.{Tells, told_cases, told_now, in_listed}
use Rattle.txn_groups.proofs.SetLemmas.{in_left}

-- the node of an open entry
record IsOpen (o : Option Node) (serial : ℕ) : Type 0 where
  node : Node
  is : o ≡ Some node
  stands : node.stands ≡ true
  serial_is : node.serial ≡ serial
  unended : node.ended ≡ false

open_is : (o : Option Node) (serial : ℕ) → is_open_for o serial ≡ true → IsOpen o serial
open_is None serial e = absurd (let f : false ≡ true = e in cc)
open_is (Some x) serial e =
    let first = and_parts (x.stands && (eqb x.serial serial)) (not x.ended) e in
    let parts = and_parts x.stands (eqb x.serial serial) first.0 in
    record { node = x; is = refl; stands = parts.0; serial_is = eqb-true x.serial serial parts.1; unended = not-true x.ended first.1 }

-- and is at a place of the nodes
pub open_within : (nodes : List Node) (e : Entry) → is_open_at nodes e ≡ true → e.at < length nodes
open_within nodes e opened = let o = open_is (slice_get nodes e.at) e.serial opened in slice_get_within nodes e.at o.node o.is

-- what an open entry tells
open_tells : (o : Option Node) (serial : ℕ) → (x : IsOpen o serial) → told_of o serial ≡ transaction_of_node x.node ∷ []
open_tells o serial is = ap (λ (p : Option Node). told_of p serial) is.is ∙ told_now is.node serial is.stands is.serial_is

-- what an entry that is not open tells has ended
closed_tells : (o : Option Node) (serial : ℕ) → is_open_for o serial ≡ false → (ts : List Transaction) → find is_unfinished (told_of o serial ++ ts) ≡ find is_unfinished ts
closed_tells o serial e ts = ⊎_elim
    (λ (none : told_of o serial ≡ []). rw none refl)
    (λ (t : Tells o serial).
    let x : Node = t.node in
    by_cases (find is_unfinished (told_of o serial ++ ts) ≡ find is_unfinished ts) x.ended
    (λ k. rw (t.told, k) refl)
    (λ k. let opened : is_open_for (Some x) serial ≡ true = (rw (t.stands, k, eq-eqb x.serial serial t.serial_is) refl) in
    absurd (let f : true ≡ false = sym opened ∙ ap (λ (p : Option Node). is_open_for p serial) (sym t.is) ∙ e in cc)))
    (told_cases o serial)

-- a list of which none passes
found_none : {X : Type 0} (p : X → Bool) (xs : List X) → find p xs ≡ None → list_any p xs ≡ false
found_none p [] e = refl
found_none p (x ∷ xs) e =
    by_cases (list_any p (x ∷ xs) ≡ false) (p x)
    (λ t. absurd (let f : Some x ≡ None = rw t at e in cc))
    (λ t. rw t (found_none p xs (rw t at e)))

none_listed : (nodes : List Node) (order : List Entry) → find (is_open_at nodes) order ≡ None → find is_unfinished (listed nodes order) ≡ None
none_listed nodes [] none = refl
none_listed nodes (e ∷ order) none =
    by_cases (find is_unfinished (listed nodes (e ∷ order)) ≡ None) (is_open_at nodes e)
    (λ t. absurd (let f : Some e ≡ None = rw t at none in cc))
    (λ t. closed_tells (slice_get nodes e.at) e.serial t (listed nodes order) ∙ none_listed nodes order (rw t at none))

-- the node of the first open entry is the oldest transaction that has not ended
first_tells : (nodes : List Node) (order : List Entry) (e : Entry) → find (is_open_at nodes) order ≡ Some e → (x : Node) × StandsAt nodes e.at x × (x.ended ≡ false) × (find is_unfinished (listed nodes order) ≡ Some (transaction_of_node x))
first_tells nodes [] e found = absurd (let f : None ≡ Some e = found in cc)
first_tells nodes (first ∷ order) e found =
    by_cases ((x : Node) × StandsAt nodes e.at x × (x.ended ≡ false) × (find is_unfinished (listed nodes (first ∷ order)) ≡ Some (transaction_of_node x))) (is_open_at nodes first)
    (λ t.
    let same : Some first ≡ Some e = rw t at found in
    let is : first ≡ e = (cc) in
    let o = open_is (slice_get nodes first.at) first.serial t in
    let tells : told_of (slice_get nodes first.at) first.serial ≡ transaction_of_node o.node ∷ [] = open_tells (slice_get nodes first.at) first.serial o in
    let there : StandsAt nodes first.at o.node = record { here = o.is; stands = o.stands } in (
      o.node,
      subst (λ (f : Entry). StandsAt nodes f.at o.node) is there,
      o.unended,
      rw (tells, o.unended) refl,
    ))
    (λ t.
    let r = first_tells nodes order e (rw t at found) in
    (r.0, r.1, r.2, closed_tells (slice_get nodes first.at) first.serial t (listed nodes order) ∙ r.3))

-- where no entry is open, all have ended
none_tells : (nodes : List Node) (order : List Entry) → find (is_open_at nodes) order ≡ None → list_any is_unfinished (listed nodes order) ≡ false
none_tells nodes order none = found_none is_unfinished (listed nodes order) (none_listed nodes order none)

-- entries before a serial number are not open where no transaction before it is
none_before : (low : ℕ) (nodes : List Node) (order before : List Entry) → ((e : Entry) → IsIn before e → IsIn order e) → EntriesBelow low before → ((t : Transaction) → IsIn (listed nodes order) t → t.ended ≡ false → low ≤ t.serial) → find (is_open_at nodes) before ≡ None
none_before low nodes order [] within below none = refl
none_before low nodes order (e ∷ before) within below none =
    by_cases (find (is_open_at nodes) (e ∷ before) ≡ None) (is_open_at nodes e)
    (λ t.
    let o = open_is (slice_get nodes e.at) e.serial t in
    absurd (omega (arith, below.0, o.serial_is, none (transaction_of_node o.node) (in_listed nodes order e o.node (within e (inl refl)) o.is o.stands o.serial_is) o.unended)))
    (λ t. rw t (none_before low nodes order before (λ x i. within x (inr i)) below.1 none))

-- so the first that is open is among those behind them
first_behind : (low n : ℕ) (nodes : List Node) (order : List Entry) → EntriesBelow low (take n order) → ((t : Transaction) → IsIn (listed nodes order) t → t.ended ≡ false → low ≤ t.serial) → find (is_open_at nodes) order ≡ find (is_open_at nodes) (drop n order)
first_behind low n nodes order below none =
    let p : Entry → Bool = is_open_at nodes in
    let before : find p (take n order) ≡ None = none_before low nodes order (take n order) (λ e i. subst (λ (es : List Entry). IsIn es e) (take-append-drop n order) (in_left (take n order) (drop n order) e i)) below none in
    ap (find p) (sym (take-append-drop n order)) ∙ find-append p (take n order) (drop n order) ∙ ap (λ (o : Option Entry). option_or o (find p (drop n order))) before

pub oldest_found : (p : Pending) (low n : ℕ) (e : Entry) → NoneBelow low (state_of p) → EntriesBelow low (take n p.order.items) → find (is_open_at p.nodes.items) (drop n p.order.items) ≡ Some e → OldestAt p e.at
oldest_found p low n e none below found =
    let r = first_tells p.nodes.items p.order.items e (first_behind low n p.nodes.items p.order.items below none ∙ found) in
    record { node = r.0; there = r.1; unended = r.2; is = r.3 }

pub oldest_none : (p : Pending) (low n : ℕ) → NoneBelow low (state_of p) → EntriesBelow low (take n p.order.items) → find (is_open_at p.nodes.items) (drop n p.order.items) ≡ None → list_any is_unfinished (state_of p).pending ≡ false
oldest_none p low n none below found = none_tells p.nodes.items p.order.items (first_behind low n p.nodes.items p.order.items below none ∙ found)

-- the serial numbers of entries rise
entries_above : (low high : ℕ) (order : List Entry) → EntriesRise low high order → (j : ℕ) (d : Entry) → j < length order → low ≤ (get_or order j d).serial
entries_above low high [] r j d within = absurd (omega (arith, within))
entries_above low high (e ∷ order) r zero d within = r.0
entries_above low high (e ∷ order) r (suc j) d within = omega (arith, r.0, entries_above (e.serial + 1) high order r.1 j d (omega (arith, within)))

pub entries_sorted : (low high : ℕ) (order : List Entry) → EntriesRise low high order → (i j : ℕ) (d : Entry) → i ≤ j → j < length order → (get_or order i d).serial ≤ (get_or order j d).serial
entries_sorted low high [] r i j d less within = absurd (omega (arith, within))
entries_sorted low high (e ∷ order) r zero zero d less within = omega arith
entries_sorted low high (e ∷ order) r zero (suc j) d less within = omega (arith, entries_above (e.serial + 1) high order r.1 j d (omega (arith, within)))
entries_sorted low high (e ∷ order) r (suc i) zero d less within = absurd (omega (arith, less))
entries_sorted low high (e ∷ order) r (suc i) (suc j) d less within = entries_sorted (e.serial + 1) high order r.1 i j d (omega (arith, less)) (omega (arith, within))

pub below_taken : (low n : ℕ) (order : List Entry) → ((k : ℕ) (d : Entry) → k < n → (get_or order k d).serial < low) → n ≤ length order → EntriesBelow low (take n order)
below_taken low zero order each within = tt
below_taken low (suc n) [] each within = tt
below_taken low (suc n) (e ∷ order) each within = (each 0 e (omega arith), below_taken low n order (λ k d less. each (suc k) d (omega (arith, less))) (omega (arith, within)))
