-- A transaction that begins: its node, its entry and the index.
use Rattle.std.proofs.Common.{◌≡◌, ◌≢◌, ◌+◌, ◌<◌, ◌≤◌, ⊎_elim, inl, inr, ℕ, Bool, eqb, cond, Option, Some, List, [], ◌∷◌, ◌++◌, length, refl, ap, sym, ◌∙◌, subst, arith}
use Rattle.std.proofs.lemmas.Bool.{eqb-true, eqb-false}
use Rattle.std.proofs.lemmas.List.{length_push}
use Rattle.txn_rows.specs.declared.rows.Row.{Row}
use Rattle.txn_rows.specs.Transaction.{Transaction}
use Rattle.txn_rows.specs.Trees.{Rising}
use Rattle.txn_rows.specs.Grouping.{State, with_new}
use Rattle.txn_rows.proofs.LineLemmas.{by_cases, row_of_serial}
use Rattle.txn_rows.proofs.StandLemmas.{found_under}
use Rattle.txn_rows.proofs.PendingLemmas.{empty_row, began}
use Rattle.txn_groups.specs.declared.node.Node.{Node}
use Rattle.txn_groups.specs.declared.order.Entry.{Entry}
use Rattle.txn_groups.specs.declared.index.Index.{Index}
use Rattle.txn_groups.specs.declared.pending.Pending.{Pending}
use Rattle.txn_groups.specs.inside.Nodes.{StandsAt, HasRow, AreNodes, listed}
use Rattle.txn_groups.specs.inside.Begun.{fresh_node, AreBegun}
use Rattle.txn_groups.specs.inside.Kin.{relinked, AreKin, WasAt, IsNewestOf, IsPutIn}
use Rattle.txn_groups.specs.inside.Retold.{AreChanged}
use Rattle.txn_groups.specs.inside.Indexed.{newest_in, IsUpdated, IsIndex}
use Rattle.txn_groups.specs.inside.Places.{IsFreePlace, IsPut}
use Rattle.txn_groups.specs.inside.Held.{state_of, IsHeld, Went}
use Rattle.txn_groups.proofs.PutLemmas.{put_in}
use Rattle.txn_groups.proofs.PlaceLemmas.{put_in_place, free_put}
use Rattle.txn_groups.proofs.BegunLemmas.{nodes_begun}
use Rattle.txn_groups.proofs.TellLemmas.{tells}

-- nodes that stand for rows are linked by their VXIDs
pub kin_of : (begun : ℕ) (nodes : List Node) (order : List Entry) (rows : List Row) → AreNodes begun nodes order rows → AreKin nodes
kin_of begun nodes order rows are = record { kin = are.kin; one = are.stand.one }

-- each node that stands began before
pub under : (begun : ℕ) (nodes : List Node) (order : List Entry) (rows : List Row) → AreNodes begun nodes order rows → (i : ℕ) (x : Node) → StandsAt nodes i x → x.serial < begun
under begun nodes order rows are i x there =
    let has : HasRow rows x = are.stand.row i x there in
    omega (arith, found_under x.serial 0 begun rows has.row are.trees.rising has.found, row_of_serial x.serial rows has.row has.found)

begun_put : (begun at vxid : ℕ) (time older : Option ℕ) (old new : List Node) → AreKin old → IsPutIn old new at (fresh_node at begun vxid time older) older → AreBegun old new begun at vxid time older
begun_put begun at vxid time older old new are put =
    let f : Node = fresh_node at begun vxid time older in
    record {
      free = put.free;
      fresh = put.fresh;
      remain = λ i x there. record { node = relinked older at i x; there = put.now i x there; is = refl };
      were = λ i y there. ⊎_elim
          (λ (is : (i ≡ at) × (y ≡ f)). inl is)
          (λ (w : WasAt old older at i y). inr (record { node = w.node; there = w.there; is = subst (λ (n : Node). n ≡ record (w.node) { older = n.older; newer = n.newer }) (sym w.is) refl }))
          (put.stood i y there);
      kin = (put_in old new at f older are put).kin;
    }

-- the new node is the newest of its VXID
fresh_newest : (old new : List Node) (at : ℕ) (f : Node) (older : Option ℕ) (v : ℕ) → IsPutIn old new at f older → f.vxid ≡ v → IsNewestOf new v (Some at)
fresh_newest old new at f older v put vxid_is = record {
  some = λ p e.
      let same : at ≡ p = (cc) in (
        f,
        subst (λ (n : ℕ). StandsAt new n f) same put.fresh,
        vxid_is,
        λ i z there same_z. ⊎_elim
            (λ (is : (i ≡ at) × (z ≡ f)). omega (arith, ap (λ (n : Node). n.serial) is.1))
            (λ (w : WasAt old older at i z). omega (arith, ap (λ (n : Node). n.serial) w.is, put.last i w.node w.there))
            (put.stood i z there),
      );
  none = λ e. absurd (cc);
}

-- the newest of another VXID stays so
newest_still : (old new : List Node) (at : ℕ) (f : Node) (older : Option ℕ) (v : ℕ) (place : Option ℕ) → IsPutIn old new at f older → f.vxid ≢ v → IsNewestOf old v place → IsNewestOf new v place
newest_still old new at f older v place put other n = record {
  some = λ p e.
      let w = n.some p e in (
        relinked older at p w.0,
        put.now p w.0 w.1,
        w.2,
        λ i z there same. ⊎_elim
            (λ (is : (i ≡ at) × (z ≡ f)). absurd (other (sym (ap (λ (x : Node). x.vxid) is.1) ∙ same)))
            (λ (k : WasAt old older at i z). omega (arith, ap (λ (x : Node). x.serial) k.is, w.3 i k.node k.there (sym (ap (λ (x : Node). x.vxid) k.is) ∙ same)))
            (put.stood i z there),
      );
  none = λ e i z there same. ⊎_elim
      (λ (is : (i ≡ at) × (z ≡ f)). other (sym (ap (λ (x : Node). x.vxid) is.1) ∙ same))
      (λ (k : WasAt old older at i z). n.none e i k.node k.there (sym (ap (λ (x : Node). x.vxid) k.is) ∙ same))
      (put.stood i z there);
}

-- an index tells of the new node
pub index_put : (old new : List Node) (at : ℕ) (f : Node) (older : Option ℕ) (index now : Index) → IsIndex old index → IsPutIn old new at f older → IsUpdated index now f.vxid (Some at) → IsIndex new now
index_put old new at f older index now is put updated = λ v.
    let Goal : Bool → Type 0 = λ b. IsNewestOf new v (cond b (Some at) (newest_in index v)) in
    subst (IsNewestOf new v) (sym (updated v))
    (by_cases (Goal (eqb f.vxid v)) (eqb f.vxid v)
    (λ t. subst Goal (sym t) (fresh_newest old new at f older v put (eqb-true f.vxid v t)))
    (λ t. subst Goal (sym t) (newest_still old new at f older v (newest_in index v) put (eqb-false f.vxid v t) (is v))))

-- what pending nodes are after one began
pub begin_went : (vxid at : ℕ) (p q : Pending) (mid : List Node) → IsHeld p → IsFreePlace p.nodes.items q.free.items at → AreChanged (relinked (newest_in p.index vxid) at) p.nodes.items mid →
    IsPut mid q.nodes.items at (fresh_node at p.begun vxid p.time (newest_in p.index vxid)) → q.order.items ≡ p.order.items ++ record { serial = p.begun; at = at } ∷ [] → IsUpdated p.index q.index vxid (Some at) → q.begun ≡ p.begun + 1 → q.time ≡ p.time → q.rows ≡ p.rows + 1 → Went (with_new vxid (state_of p)) q
begin_went vxid at p q mid held place changed put order_is updated begun_is time_is rows_is =
    let older : Option ℕ = newest_in p.index vxid in
    let old = p.nodes.items in
    let new = q.nodes.items in
    let f : Node = fresh_node at p.begun vxid p.time older in
    let row : Row = empty_row p.begun vxid p.time in
    let rows = held.stand in
    let now : List Row = rows ++ row ∷ [] in
    let order : List Entry = p.order.items ++ record { serial = p.begun; at = at } ∷ [] in
    let is_in : IsPutIn old new at f older = put_in_place old mid new at f older place.none changed put refl refl refl (under p.begun old p.order.items rows held.are) (held.index vxid) in
    let are : AreNodes (p.begun + 1) new order now = nodes_begun p.begun at vxid p.time older old new p.order.items rows held.are (begun_put p.begun at vxid p.time older old new (kin_of p.begun old p.order.items rows held.are) is_in) in
    let told = began p.begun vxid p.time rows now row held.are.trees refl refl in
    let State_of : List Transaction → State = λ ts. record { pending = ts; begun = p.begun + 1; time = p.time } in
    record {
      kept = record {
        stand = now;
        are = subst (λ (b : ℕ). AreNodes b new q.order.items now) (sym begun_is) (subst (λ (o : List Entry). AreNodes (p.begun + 1) new o now) (sym order_is) are);
        index = index_put old new at f older p.index q.index held.index is_in updated;
        free = free_put old mid new at f older q.free.items place changed put;
        counted = omega (arith, length_push rows row, held.counted, rows_is);
      };
      told = ap {B = State} (λ (b : ℕ). record { pending = listed new q.order.items; begun = b; time = q.time }) begun_is
          ∙ ap {B = State} (λ (t : Option ℕ). record { pending = listed new q.order.items; begun = p.begun + 1; time = t }) time_is
          ∙ ap (λ (o : List Entry). State_of (listed new o)) order_is
          ∙ ap State_of (tells (p.begun + 1) new order now are)
          ∙ told.told
          ∙ ap {B = State} (λ (ts : List Transaction). with_new vxid (record { pending = ts; begun = p.begun; time = p.time })) (sym (tells p.begun old p.order.items rows held.are));
    }

rising_length : (low high : ℕ) (rows : List Row) → Rising low high rows → low + length rows ≤ high
rising_length low high [] rising = omega (arith, rising)
rising_length low high (row ∷ rows) rising = omega (arith, rising.0, rising_length (row.serial + 1) high rows rising.1)

-- no more are pending than began
pub rows_begun : (p : Pending) → IsHeld p → p.rows ≤ p.begun
rows_begun p held = omega (arith, held.counted, rising_length 0 p.begun held.stand held.are.trees.rising)
