-- Pending nodes that tell their transactions, changed, hold these.
use Rattle.std.proofs.Common.{◌≡◌, ℕ, Bool, eqb, Some, List, [], ◌∷◌, ◌++◌, map, set, refl, ap, sym, ◌∙◌, subst}
use Rattle.std.specs.declared.result.Result.{Result}
use Rattle.std.specs.Result.{OnOk}
use Rattle.std.proofs.lemmas.Result.{on_ok_weaker}
use Rattle.vsl_record.specs.declared.record_type.Record.{Record}
use Rattle.txn_rows.specs.declared.rows.Row.{Row}
use Rattle.txn_rows.specs.Transaction.{Transaction, with_newest, with_record, with_kind, longer, longer_by}
use Rattle.txn_rows.specs.Claim.{own_claim}
use Rattle.txn_rows.specs.Trees.{transaction_of}
use Rattle.txn_rows.specs.inside.Rows.{row_told, with_one}
use Rattle.txn_rows.proofs.KeepLemmas.{claimed_same}
use Rattle.txn_rows.proofs.TreeLemmas.{set_is_of_row}
use Rattle.txn_rows.proofs.PendingLemmas.{changed_rows, one_told}
use Rattle.txn_groups.specs.declared.pending.Pending.{Pending}
use Rattle.txn_groups.specs.inside.Nodes.{AreNodes, listed}
use Rattle.txn_groups.specs.inside.Retold.{AreChanged, KeepsLinks}
use Rattle.txn_groups.specs.inside.Indexed.{newest_in}
use Rattle.txn_groups.specs.inside.Told.{told_at}
use Rattle.txn_groups.specs.inside.Held.{state_of, IsHeld, HoldsRows, Went}
use Rattle.txn_groups.proofs.TellLemmas.{tells}
use Rattle.txn_groups.proofs.HeldLemmas.{names_of, hold_still, went_by}
use Rattle.txn_groups.proofs.NewestLemmas.{NewestRow, newest_row}
use Rattle.txn_groups.proofs.ToldRowLemmas.{KeepsEnd, told_where, rows_where, AreOf, told_links, are_of_one, nodes_told}

-- nodes that tell other things hold the rows that do
pub told_held : (change : Transaction → Transaction) (q : ℕ → Bool) (test : Row → Bool) (p m : Pending) (rows : List Row) → KeepsEnd change → HoldsRows p rows → AreOf p.nodes.items rows q test → AreChanged (told_where change q) p.nodes.items m.nodes.items → m.order.items ≡ p.order.items → m.begun ≡ p.begun → m.index ≡ p.index → m.free ≡ p.free → m.rows ≡ p.rows → HoldsRows m (map (rows_where change test) rows)
told_held change q test p m rows keeps hold same changed order_is begun_is index_is free_is rows_is =
    let links : KeepsLinks (told_where change q) = told_links change keeps.vxid q in
    let are : AreNodes p.begun m.nodes.items p.order.items (map (rows_where change test) rows) = nodes_told p.begun p.nodes.items m.nodes.items p.order.items rows change q test keeps hold.are same changed in
    hold_still (told_where change q) (rows_where change test) p m rows (names_of (told_where change q) links) hold are changed order_is begun_is index_is free_is rows_is

-- the newest node of a VXID tells its transaction, changed
pub told_went : (change : Transaction → Transaction) (v at : ℕ) (p m : Pending) → KeepsEnd change → IsHeld p → newest_in p.index v ≡ Some at → AreChanged (told_at change at) p.nodes.items m.nodes.items → m.order.items ≡ p.order.items → m.begun ≡ p.begun → m.index ≡ p.index → m.free ≡ p.free → m.rows ≡ p.rows → m.time ≡ p.time →
    Went (record (state_of p) { pending = with_newest v change (listed p.nodes.items p.order.items) }) m
told_went change v at p m keeps held told changed order_is begun_is index_is free_is rows_is time_is =
    let rows : List Row = held.stand in
    let hold : HoldsRows p rows = record { are = held.are; index = held.index; free = held.free; counted = held.counted } in
    let w : NewestRow p rows v at = newest_row p rows v at hold told in
    let row : Row = w.node.row in
    let new : Row = row_told change row in
    let test : Row → Bool = λ (r : Row). eqb r.serial row.serial in
    let place = w.place in
    let now = told_held change (λ i. eqb i at) test p m rows keeps hold (are_of_one p.begun p.nodes.items p.order.items rows at w.node held.are.stand) changed order_is begun_is index_is free_is rows_is in
    let whole : set rows place.at new ≡ map (rows_where change test) rows = set_is_of_row (row_told change) 0 p.begun place.at rows row new held.are.trees.rising place.is.within place.read refl in
    let a = changed_rows p.begun v place.at change (record { serial = keeps.serial; parent = keeps.parent }) rows row new held.are.trees place.is place.read refl in
    went_by m (map (rows_where change test) rows) (with_newest v change (listed p.nodes.items p.order.items)) p.begun p.time now
    (ap (map transaction_of) (sym whole) ∙ a.told ∙ ap (with_newest v change) (sym (tells p.begun p.nodes.items p.order.items rows held.are)))
    begun_is time_is

-- what a record keeps of its transaction
pub one_keeps : (rec : Record) → KeepsEnd (with_one rec)
one_keeps rec = record {
  serial = λ t. claimed_same (λ x. x.serial) (λ x c. refl) (own_claim rec) (longer rec t);
  vxid = λ t. claimed_same (λ x. x.vxid) (λ x c. refl) (own_claim rec) (longer rec t);
  parent = λ t. claimed_same (λ x. x.parent) (λ x c. refl) (own_claim rec) (longer rec t);
  ended = λ t. claimed_same (λ x. x.ended) (λ x c. refl) (own_claim rec) (longer rec t);
}

-- what a record makes of the records
pub one_longer : (rec : Record) (t : Transaction) → (with_one rec t).records ≡ t.records ++ rec ∷ []
one_longer rec t = claimed_same (λ x. x.records) (λ x c. refl) (own_claim rec) (longer rec t)

-- a record goes to the newest node of its VXID
pub added_went : {T E : Type 0} (r : Result T E) (rec : Record) (v at : ℕ) (p m : Pending) → IsHeld p → newest_in p.index v ≡ Some at → m.order.items ≡ p.order.items → m.begun ≡ p.begun → m.index ≡ p.index → m.free ≡ p.free → m.rows ≡ p.rows → m.time ≡ p.time → OnOk r (AreChanged (told_at (with_one rec) at) p.nodes.items m.nodes.items) →
    OnOk r (Went (record (state_of p) { pending = with_kind v rec (with_record v rec (listed p.nodes.items p.order.items)) }) m)
added_went r rec v at p m held told order_is begun_is index_is free_is rows_is time_is changed =
    on_ok_weaker r
    (λ c. subst (λ (ts : List Transaction). Went (record (state_of p) { pending = ts }) m) (sym (one_told v rec (listed p.nodes.items p.order.items)))
    (told_went (with_one rec) v at p m (one_keeps rec) held told c order_is begun_is index_is free_is rows_is time_is))
    changed

-- and so do records that tell nothing but themselves
pub run_went : {T E : Type 0} (r : Result T E) (run : List Record) (v at : ℕ) (p m : Pending) → IsHeld p → newest_in p.index v ≡ Some at → m.order.items ≡ p.order.items → m.begun ≡ p.begun → m.index ≡ p.index → m.free ≡ p.free → m.rows ≡ p.rows → m.time ≡ p.time → OnOk r (AreChanged (told_at (longer_by run) at) p.nodes.items m.nodes.items) →
    OnOk r (Went (record (state_of p) { pending = with_newest v (longer_by run) (listed p.nodes.items p.order.items) }) m)
run_went r run v at p m held told order_is begun_is index_is free_is rows_is time_is changed =
    on_ok_weaker r
    (λ c. told_went (longer_by run) v at p m (record { serial = λ t. refl; vxid = λ t. refl; parent = λ t. refl; ended = λ t. refl }) held told c order_is begun_is index_is free_is rows_is time_is)
    changed
