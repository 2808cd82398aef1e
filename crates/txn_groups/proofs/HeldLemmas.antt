-- What pending nodes hold, where nodes tell other things.
use Rattle.std.proofs.Common.{◌≡◌, ℕ, true, Option, Some, None, List, map, refl, ap, sym, ◌∙◌, subst, arith}
use Rattle.std.specs.Prelude.{slice_get}
use Rattle.std.specs.Option.{option_map}
use Rattle.std.proofs.lemmas.List.{length-map}
use Rattle.txn_rows.specs.declared.rows.Row.{Row}
use Rattle.txn_rows.specs.Transaction.{Transaction}
use Rattle.txn_rows.specs.Grouping.{State}
use Rattle.txn_rows.specs.Trees.{transaction_of}
use Rattle.txn_groups.specs.declared.node.Node.{Node}
use Rattle.txn_groups.specs.declared.order.Entry.{Entry}
use Rattle.txn_groups.specs.declared.index.Index.{Index}
use Rattle.txn_groups.specs.declared.pending.Pending.{Pending}
use Rattle.txn_groups.specs.inside.Nodes.{StandsAt, AreNodes}
use Rattle.txn_groups.specs.inside.Retold.{AreChanged, KeepsLinks}
use Rattle.txn_groups.specs.inside.Indexed.{IsIndex}
use Rattle.txn_groups.specs.inside.Places.{IsFree, AreFree}
use Rattle.txn_groups.specs.inside.Held.{HoldsRows, Went}
use Rattle.txn_groups.proofs.TellLemmas.{tells}

-- a change that keeps what names a node
pub record KeepsNames (change : ℕ → Node → Node) : Type 0 where
  pub stands : (at : ℕ) (x : Node) → (change at x).stands ≡ x.stands
  pub serial : (at : ℕ) (x : Node) → (change at x).serial ≡ x.serial
  pub vxid : (at : ℕ) (x : Node) → (change at x).vxid ≡ x.vxid

pub names_of : (change : ℕ → Node → Node) → KeepsLinks change → KeepsNames change
names_of change keeps = record { stands = keeps.stands; serial = keeps.serial; vxid = keeps.vxid }

-- a node that tells other things stood before
pub record WasBefore (change : ℕ → Node → Node) (old : List Node) (at : ℕ) (y : Node) : Type 0 where
  pub node : Node
  pub there : StandsAt old at node
  pub is : y ≡ change at node

was_by : (change : ℕ → Node → Node) (at : ℕ) (o : Option Node) (y : Node) → ((x : Node) → (change at x).stands ≡ x.stands) → option_map (change at) o ≡ Some y → y.stands ≡ true → (x : Node) × (o ≡ Some x) × (y ≡ change at x) × (x.stands ≡ true)
was_by change at None y keeps e stands = absurd (let f : None ≡ Some y = e in cc)
was_by change at (Some x) y keeps e stands =
    let same : y ≡ change at x = (let f : Some (change at x) ≡ Some y = e in cc) in
    (x, refl, same, sym (keeps x) ∙ ap (λ (n : Node). n.stands) (sym same) ∙ stands)

pub was_before : (change : ℕ → Node → Node) (old new : List Node) (at : ℕ) (y : Node) → KeepsNames change → AreChanged change old new → StandsAt new at y → WasBefore change old at y
was_before change old new at y keeps changed there =
    let w = was_by change at (slice_get old at) y (keeps.stands at) (sym (changed at) ∙ there.here) there.stands in
    record { node = w.0; there = record { here = w.1; stands = w.3 }; is = w.2 }

pub stands_still : (change : ℕ → Node → Node) (old new : List Node) (at : ℕ) (x : Node) → KeepsNames change → AreChanged change old new → StandsAt old at x → StandsAt new at (change at x)
stands_still change old new at x keeps changed there = record { here = changed at ∙ ap (option_map (change at)) there.here; stands = keeps.stands at x ∙ there.stands }

-- an index tells of nodes that tell other things
pub index_still : (change : ℕ → Node → Node) (old new : List Node) (index : Index) → KeepsNames change → AreChanged change old new → IsIndex old index → IsIndex new index
index_still change old new index keeps changed is = λ v. record {
  some = λ p e.
      let w = (is v).some p e in (
        change p w.0,
        stands_still change old new p w.0 keeps changed w.1,
        keeps.vxid p w.0 ∙ w.2,
        λ i z there same.
            let b = was_before change old new i z keeps changed there in
            omega (arith, ap (λ (n : Node). n.serial) b.is, keeps.serial i b.node, keeps.serial p w.0, w.3 i b.node b.there (sym (keeps.vxid i b.node) ∙ sym (ap (λ (n : Node). n.vxid) b.is) ∙ same)),
      );
  none = λ e i z there same.
      let b = was_before change old new i z keeps changed there in
      (is v).none e i b.node b.there (sym (keeps.vxid i b.node) ∙ sym (ap (λ (n : Node). n.vxid) b.is) ∙ same);
}

-- free places stay free
pub free_still : (change : ℕ → Node → Node) (old new : List Node) (free : List ℕ) → KeepsNames change → AreChanged change old new → AreFree old free → AreFree new free
free_still change old new free keeps changed are = record {
  each = λ i h. let f : IsFree old i = are.each i h in record { node = change i f.node; here = changed i ∙ ap (option_map (change i)) f.here; none = keeps.stands i f.node ∙ f.none };
  once = are.once;
}

-- nodes that stand for changed rows hold these, where nothing else changed
pub hold_still : (change : ℕ → Node → Node) (f : Row → Row) (p m : Pending) (rows : List Row) → KeepsNames change → HoldsRows p rows → AreNodes p.begun m.nodes.items p.order.items (map f rows) → AreChanged change p.nodes.items m.nodes.items →
    m.order.items ≡ p.order.items → m.begun ≡ p.begun → m.index ≡ p.index → m.free ≡ p.free → m.rows ≡ p.rows → HoldsRows m (map f rows)
hold_still change f p m rows keeps hold are changed order_is begun_is index_is free_is rows_is =
    let new = m.nodes.items in
    record {
      are = subst (λ (b : ℕ). AreNodes b new m.order.items (map f rows)) (sym begun_is) (subst (λ (o : List Entry). AreNodes p.begun new o (map f rows)) (sym order_is) are);
      index = subst (IsIndex new) (sym index_is) (index_still change p.nodes.items new p.index keeps changed hold.index);
      free = free_still change p.nodes.items new m.free.items keeps changed (rw free_is hold.free);
      counted = length-map rows f ∙ hold.counted ∙ sym rows_is;
    }

-- nodes that hold rows hold their transactions
pub went_by : (p : Pending) (rows : List Row) (pending : List Transaction) (begun : ℕ) (time : Option ℕ) → HoldsRows p rows → map transaction_of rows ≡ pending → p.begun ≡ begun → p.time ≡ time → Went (record { pending = pending; begun = begun; time = time }) p
went_by p rows pending begun time hold told begun_is time_is = record {
  kept = record { stand = rows; are = hold.are; index = hold.index; free = hold.free; counted = hold.counted };
  told = ap {B = State} (λ (ts : List Transaction). record { pending = ts; begun = p.begun; time = p.time }) (tells p.begun p.nodes.items p.order.items rows hold.are ∙ told)
      ∙ ap {B = State} (λ (b : ℕ). record { pending = pending; begun = b; time = p.time }) begun_is
      ∙ ap {B = State} (λ (t : Option ℕ). record { pending = pending; begun = begun; time = t }) time_is;
}
