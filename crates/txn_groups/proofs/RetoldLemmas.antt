-- Nodes that tell other things stand for rows that do.
use Rattle.std.proofs.Common.{◌≡◌, ◌+◌, ℕ, true, not, eqb, ◌&&◌, Option, Some, None, List, map, refl, ap, sym, ◌∙◌, subst, arith}
use Rattle.std.specs.Prelude.{slice_get, count_by}
use Rattle.std.specs.Option.{option_map}
use Rattle.txn_rows.specs.declared.rows.Row.{Row}
use Rattle.txn_rows.specs.Trees.{row_of}
use Rattle.txn_rows.proofs.LineLemmas.{row_of_serial}
use Rattle.txn_rows.proofs.JoinLemmas.{row_of_map, before_map}
use Rattle.txn_rows.proofs.StandLemmas.{KeepsPlaces, trees_kept, count_kept}
use Rattle.txn_groups.specs.declared.node.Node.{Node}
use Rattle.txn_groups.specs.declared.order.Entry.{Entry}
use Rattle.txn_groups.specs.inside.Nodes.{IsIn, StandsAt, AreNodes, AreNumbered, HasRow, HasNode, StandFor, ChildAt, HasChildren, HasKin, LeadsUp, HaveOneLast, row_of_node}
use Rattle.txn_groups.specs.inside.Retold.{AreChanged, KeepsLinks, Retells}

record WasAt (c : ℕ → Node → Node) (old : List Node) (at : ℕ) (y : Node) : Type 0 where
  node : Node
  there : StandsAt old at node
  is : y ≡ c at node

was_some : (c : ℕ → Node → Node) (at : ℕ) (o : Option Node) (y : Node) → KeepsLinks c → option_map (c at) o ≡ Some y → y.stands ≡ true → (x : Node) × (o ≡ Some x) × (y ≡ c at x) × (x.stands ≡ true)
was_some c at None y keeps e stands = absurd (let f : None ≡ Some y = e in cc)
was_some c at (Some x) y keeps e stands =
    let same : y ≡ c at x = (let f : Some (c at x) ≡ Some y = e in cc) in
    (x, refl, same, sym (keeps.stands at x) ∙ ap (λ (n : Node). n.stands) (sym same) ∙ stands)

was : (c : ℕ → Node → Node) (old new : List Node) (at : ℕ) (y : Node) → KeepsLinks c → AreChanged c old new → StandsAt new at y → WasAt c old at y
was c old new at y keeps changed there =
    let w = was_some c at (slice_get old at) y keeps (sym (changed at) ∙ there.here) there.stands in
    record { node = w.0; there = record { here = w.1; stands = w.3 }; is = w.2 }

still : (c : ℕ → Node → Node) (old new : List Node) (at : ℕ) (x : Node) → KeepsLinks c → AreChanged c old new → StandsAt old at x → StandsAt new at (c at x)
still c old new at x keeps changed there = record { here = changed at ∙ ap (option_map (c at)) there.here; stands = keeps.stands at x ∙ there.stands }

found_now : (f : Row → Row) (s : ℕ) (rows : List Row) (row : Row) → KeepsPlaces f rows → row_of s rows ≡ Some row → row_of s (map f rows) ≡ Some (f row)
found_now f s rows row keeps here = row_of_map f keeps.serial s rows ∙ ap (option_map f) here

abbrev pub found_before : (f : Row → Row) (s : ℕ) (rows : List Row) (now : Row) → KeepsPlaces f rows → row_of s (map f rows) ≡ Some now → (row : Row) × (row_of s rows ≡ Some row) × (now ≡ f row)
found_before f s rows now keeps here = before_map f s rows (row_of s rows) now refl (sym (row_of_map f keeps.serial s rows) ∙ here)

-- the row of a changed node
retold_row : (f : Row → Row) (rows : List Row) (row : Row) (x : Node) → KeepsPlaces f rows → f row ≡ row_of_node row.root row.path x → f row ≡ row_of_node (f row).root (f row).path x
retold_row f rows row x keeps e = e ∙ ap (λ (r : ℕ). row_of_node r row.path x) (sym (keeps.root row)) ∙ ap (λ (p : List ℕ). row_of_node (f row).root p x) (sym (keeps.path row))

retold_numbered : (f : Row → Row) (rows : List Row) → KeepsPlaces f rows → AreNumbered rows → AreNumbered (map f rows)
retold_numbered f rows keeps numbered = record {
  below = λ s now above link here linked there.
      let w = found_before f s rows now keeps here in
      let u = found_before f link.serial rows above keeps there in
      omega (arith, numbered.below s w.0 u.0 link w.1 (sym (keeps.parent w.0) ∙ ap (λ (r : Row). r.parent) (sym w.2) ∙ linked) u.1, keeps.children u.0, ap (λ (r : Row). r.children) u.2);
  apart = λ s t a b p q here_a here_b linked_a linked_b serial number.
      let x = found_before f s rows a keeps here_a in
      let y = found_before f t rows b keeps here_b in
      numbered.apart s t x.0 y.0 p q x.1 y.1 (sym (keeps.parent x.0) ∙ ap (λ (r : Row). r.parent) (sym x.2) ∙ linked_a) (sym (keeps.parent y.0) ∙ ap (λ (r : Row). r.parent) (sym y.2) ∙ linked_b) serial number;
}

retold_stand : (begun : ℕ) (c : ℕ → Node → Node) (f : Row → Row) (old new : List Node) (order : List Entry) (rows : List Row) → AreNodes begun old order rows → KeepsLinks c → KeepsPlaces f rows → AreChanged c old new → Retells c f old rows → StandFor begun new order (map f rows)
retold_stand begun c f old new order rows are keeps places changed retells = record {
  rising = are.stand.rising;
  node = λ s now here.
      let w = found_before f s rows now places here in
      let has : HasNode old order w.0 = are.stand.node s w.0 w.1 in
      let serial : has.node.serial ≡ w.0.serial = sym (ap (λ (r : Row). r.serial) has.is) in
      let found : row_of has.node.serial rows ≡ Some w.0 = ap (λ (n : ℕ). row_of n rows) (serial ∙ row_of_serial s rows w.0 w.1) ∙ w.1 in
      subst (HasNode new order) (sym w.2) (record {
        at = has.at;
        node = c has.at has.node;
        here = still c old new has.at has.node keeps changed has.here;
        is = retold_row f rows w.0 (c has.at has.node) places (retells.told has.at has.node w.0 has.here found);
        listed = subst (λ (n : ℕ). IsIn order (record { serial = n; at = has.at })) (sym (places.serial w.0)) has.listed;
      });
  row = λ at y there.
      let w = was c old new at y keeps changed there in
      let has : HasRow rows w.node = are.stand.row at w.node w.there in
      subst (HasRow (map f rows)) (sym w.is) (record {
        row = f has.row;
        found = ap (λ (n : ℕ). row_of n (map f rows)) (keeps.serial at w.node) ∙ found_now f w.node.serial rows has.row places has.found;
        is = retold_row f rows has.row (c at w.node) places (retells.told at w.node has.row w.there has.found);
      });
  one = λ at other y z there here same.
      let a = was c old new at y keeps changed there in
      let b = was c old new other z keeps changed here in
      are.stand.one at other a.node b.node a.there b.there (sym (keeps.serial at a.node) ∙ sym (ap (λ (n : Node). n.serial) a.is) ∙ same ∙ ap (λ (n : Node). n.serial) b.is ∙ keeps.serial other b.node);
}

retold_child : (c : ℕ → Node → Node) (old new : List Node) (at serial number : ℕ) → KeepsLinks c → AreChanged c old new → ChildAt old at serial number → ChildAt new at serial number
retold_child c old new at serial number keeps changed child = record {
  node = c at child.node;
  there = still c old new at child.node keeps changed child.there;
  link = child.link;
  linked = keeps.parent at child.node ∙ child.linked;
  below = child.below;
  is = child.is;
}

retold_children : (c : ℕ → Node → Node) (f : Row → Row) (old new : List Node) (rows : List Row) (at : ℕ) (x : Node) → KeepsLinks c → KeepsPlaces f rows → AreChanged c old new → HasChildren old rows x → HasChildren new (map f rows) (c at x)
retold_children c f old new rows at x keeps places changed has = record {
  first = λ place e. subst (λ (n : ℕ). ChildAt new place n 0) (sym (keeps.serial at x)) (retold_child c old new place x.serial 0 keeps changed (has.first place (sym (keeps.first at x) ∙ e)));
  none = λ e. keeps.children at x ∙ has.none (sym (keeps.first at x) ∙ e);
  next = λ place e.
      let n = has.next place (sym (keeps.next at x) ∙ e) in
      (n.0, keeps.parent at x ∙ n.1, retold_child c old new place n.0.serial (n.0.number + 1) keeps changed n.2);
  end = λ e link above linked found.
      let u = found_before f link.serial rows above places found in
      has.end (sym (keeps.next at x) ∙ e) link u.0 (sym (keeps.parent at x) ∙ linked) u.1 ∙ sym (ap (λ (r : Row). r.children) u.2 ∙ places.children u.0);
  last = λ place e.
      let n = has.last place (sym (keeps.last at x) ∙ e) in
      (n.0, n.1 ∙ sym (keeps.children at x), subst (λ (s : ℕ). ChildAt new place s n.0) (sym (keeps.serial at x)) (retold_child c old new place x.serial n.0 keeps changed n.2));
  none_last = λ e. keeps.children at x ∙ has.none_last (sym (keeps.last at x) ∙ e);
}

retold_up : (c : ℕ → Node → Node) (f : Row → Row) (old new : List Node) (rows : List Row) (at : ℕ) (x : Node) (row : Row) → KeepsLinks c → KeepsPlaces f rows → AreChanged c old new → Retells c f old rows → StandsAt old at x → row_of x.serial rows ≡ Some row → LeadsUp old rows at x row → LeadsUp new (map f rows) at (c at x) (f row)
retold_up c f old new rows at x row keeps places changed retells there found up = record {
  above = c x.up up.above;
  there = subst (λ (p : ℕ). StandsAt new p (c x.up up.above)) (sym (keeps.up at x)) (still c old new x.up up.above keeps changed up.there);
  above_row = f up.above_row;
  found = ap (λ (n : ℕ). row_of n (map f rows)) (keeps.serial x.up up.above) ∙ found_now f up.above.serial rows up.above_row places up.found;
  root = places.root up.above_row ∙ up.root ∙ sym (places.root row);
  more = λ other. omega (arith, keeps.size at x, keeps.size x.up up.above, up.more (λ e. other (keeps.up at x ∙ e)));
  some = omega (arith, keeps.size at x, up.some);
  few = omega (arith, keeps.size at x, up.few, count_kept f places.root row.root rows, ap (λ (n : ℕ). count_by (λ (r : Row). eqb r.root n) (map f rows)) (places.root row));
  size = λ e. keeps.size at x ∙ up.size (sym (keeps.up at x) ∙ e) ∙ sym (count_kept f places.root row.root rows) ∙ ap (λ (n : ℕ). count_by (λ (r : Row). eqb r.root n) (map f rows)) (sym (places.root row));
  unended = λ e. retells.unended at x row there found (sym (keeps.up at x) ∙ e) ∙ ap (λ (n : ℕ). count_by (λ (r : Row). (eqb r.root n) && not r.ended) (map f rows)) (sym (places.root row));
  top = λ e.
      let t = up.top (sym (keeps.up at x) ∙ e) in
      (c x.top t.0, subst (λ (p : ℕ). StandsAt new p (c x.top t.0)) (sym (keeps.top at x)) (still c old new x.top t.0 keeps changed t.1), keeps.serial x.top t.0 ∙ t.2 ∙ sym (places.root row));
}

retold_one_last : (begun : ℕ) (c : ℕ → Node → Node) (f : Row → Row) (old new : List Node) (order : List Entry) (rows : List Row) → AreNodes begun old order rows → KeepsLinks c → KeepsPlaces f rows → AreChanged c old new → HaveOneLast new (map f rows)
retold_one_last begun c f old new order rows are keeps places changed = λ at other y z row other_row there here found found_other last last_other same.
    let a = was c old new at y keeps changed there in
    let b = was c old new other z keeps changed here in
    let x = found_before f y.serial rows row places found in
    let w = found_before f z.serial rows other_row places found_other in
    let serial_a : a.node.serial ≡ y.serial = sym (keeps.serial at a.node) ∙ ap (λ (n : Node). n.serial) (sym a.is) in
    let serial_b : b.node.serial ≡ z.serial = sym (keeps.serial other b.node) ∙ ap (λ (n : Node). n.serial) (sym b.is) in
    are.last at other a.node b.node x.0 w.0 a.there b.there (ap (λ (n : ℕ). row_of n rows) serial_a ∙ x.1) (ap (λ (n : ℕ). row_of n rows) serial_b ∙ w.1)
    (sym (keeps.up at a.node) ∙ ap (λ (n : Node). n.up) (sym a.is) ∙ last) (sym (keeps.up other b.node) ∙ ap (λ (n : Node). n.up) (sym b.is) ∙ last_other)
    (sym (places.root x.0) ∙ ap (λ (r : Row). r.root) (sym x.2) ∙ same ∙ ap (λ (r : Row). r.root) w.2 ∙ places.root w.0)

retold_kin : (c : ℕ → Node → Node) (old new : List Node) (at : ℕ) (x : Node) → KeepsLinks c → AreChanged c old new → HasKin old x → HasKin new (c at x)
retold_kin c old new at x keeps changed kin =
    let vxid_of : (at_z : ℕ) (z w : Node) → z ≡ c at_z w → z.vxid ≡ (c at x).vxid → w.vxid ≡ x.vxid = λ at_z z w is same. sym (keeps.vxid at_z w) ∙ ap (λ (n : Node). n.vxid) (sym is) ∙ same ∙ keeps.vxid at x in
    let serial_of : (at_z : ℕ) (z w : Node) → z ≡ c at_z w → z.serial ≡ w.serial = λ at_z z w is. ap (λ (n : Node). n.serial) is ∙ keeps.serial at_z w in
    record {
      older = λ place e.
          let k = kin.older place (sym (keeps.older at x) ∙ e) in (
            c place k.0,
            still c old new place k.0 keeps changed k.1,
            keeps.vxid place k.0 ∙ k.2 ∙ sym (keeps.vxid at x),
            omega (arith, keeps.serial place k.0, keeps.serial at x, k.3),
            λ i z there same less.
                let w = was c old new i z keeps changed there in
                omega (arith, serial_of i z w.node w.is, keeps.serial place k.0, k.4 i w.node w.there (vxid_of i z w.node w.is same) (omega (arith, less, serial_of i z w.node w.is, keeps.serial at x))),
          );
      none_older = λ e i y there same less.
          let w = was c old new i y keeps changed there in
          kin.none_older (sym (keeps.older at x) ∙ e) i w.node w.there (vxid_of i y w.node w.is same) (omega (arith, less, serial_of i y w.node w.is, keeps.serial at x));
      newer = λ place e.
          let k = kin.newer place (sym (keeps.newer at x) ∙ e) in (
            c place k.0,
            still c old new place k.0 keeps changed k.1,
            keeps.vxid place k.0 ∙ k.2 ∙ sym (keeps.vxid at x),
            omega (arith, keeps.serial place k.0, keeps.serial at x, k.3),
            λ i z there same less.
                let w = was c old new i z keeps changed there in
                omega (arith, serial_of i z w.node w.is, keeps.serial place k.0, k.4 i w.node w.there (vxid_of i z w.node w.is same) (omega (arith, less, serial_of i z w.node w.is, keeps.serial at x))),
          );
      none_newer = λ e i y there same less.
          let w = was c old new i y keeps changed there in
          kin.none_newer (sym (keeps.newer at x) ∙ e) i w.node w.there (vxid_of i y w.node w.is same) (omega (arith, less, serial_of i y w.node w.is, keeps.serial at x));
    }

-- nodes that tell other things stand for the rows that do
pub nodes_retold : (begun : ℕ) (c : ℕ → Node → Node) (f : Row → Row) (old new : List Node) (order : List Entry) (rows : List Row) → AreNodes begun old order rows → KeepsLinks c → KeepsPlaces f rows → AreChanged c old new → Retells c f old rows → AreNodes begun new order (map f rows)
nodes_retold begun c f old new order rows are keeps places changed retells = record {
  trees = trees_kept begun f rows places are.trees;
  numbered = retold_numbered f rows places are.numbered;
  stand = retold_stand begun c f old new order rows are keeps places changed retells;
  children = λ at y there. let w = was c old new at y keeps changed there in subst (λ (n : Node). HasChildren new (map f rows) n) (sym w.is) (retold_children c f old new rows at w.node keeps places changed (are.children at w.node w.there));
  up = λ at y row there found.
      let w = was c old new at y keeps changed there in
      let x = found_before f y.serial rows row places found in
      let here : row_of w.node.serial rows ≡ Some x.0 = ap (λ (n : ℕ). row_of n rows) (sym (keeps.serial at w.node) ∙ ap (λ (n : Node). n.serial) (sym w.is)) ∙ x.1 in
      subst (λ (r : Row). LeadsUp new (map f rows) at y r) (sym x.2) (subst (λ (n : Node). LeadsUp new (map f rows) at n (f x.0)) (sym w.is) (retold_up c f old new rows at w.node x.0 keeps places changed retells w.there here (are.up at w.node x.0 w.there here)));
  last = retold_one_last begun c f old new order rows are keeps places changed;
  kin = λ at y there. let w = was c old new at y keeps changed there in subst (HasKin new) (sym w.is) (retold_kin c old new at w.node keeps changed (are.kin at w.node w.there));
}
