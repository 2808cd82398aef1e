-- A link between nodes is a join of their rows.
use Rattle.std.proofs.Common.{◌≡◌, ⊎_elim, ℕ, true, eqb, Option, Some, None, List, map, refl, ap, sym, ◌∙◌, subst}
use Rattle.std.specs.Prelude.{slice_get}
use Rattle.std.specs.Option.{option_map}
use Rattle.std.proofs.lemmas.Bool.{eqb-true, eqb-false, eq-eqb, ne_eqb}
use Rattle.txn_rows.specs.declared.rows.Row.{Row}
use Rattle.txn_rows.specs.declared.join.Join.{Join}
use Rattle.txn_rows.specs.declared.group.ParentLink.{ParentLink}
use Rattle.txn_rows.specs.Trees.{row_of, IsTop, IsBelow}
use Rattle.txn_rows.specs.inside.Rows.{joined}
use Rattle.txn_rows.proofs.LineLemmas.{by_cases}
use Rattle.txn_rows.proofs.JoinLemmas.{CanJoin, row_of_map, joined_serial, before_map}
use Rattle.txn_groups.specs.declared.link.Linking.{Linking}
use Rattle.txn_groups.specs.declared.node.Node.{Node}
use Rattle.txn_groups.specs.declared.order.Entry.{Entry}
use Rattle.txn_groups.specs.inside.Nodes.{IsIn, StandsAt, AreNodes, HasRow, HasNode, StandFor, row_of_node}
use Rattle.txn_groups.specs.inside.Linked.{linked_node, AreLinked, NodeAt, CanLink}

-- a node that stands after the join stood before it
pub record Was (l : Linking) (old : List Node) (at : ℕ) (y : Node) : Type 0 where
  pub node : Node
  pub there : StandsAt old at node
  pub is : y ≡ linked_node l at node

was_in : (l : Linking) (at : ℕ) (o : Option Node) (y : Node) → option_map (linked_node l at) o ≡ Some y → y.stands ≡ true → (x : Node) × (o ≡ Some x) × (y ≡ linked_node l at x) × (x.stands ≡ true)
was_in l at None y e stands = absurd (let f : None ≡ Some y = e in cc)
was_in l at (Some x) y e stands =
    let same : y ≡ linked_node l at x = (let f : Some (linked_node l at x) ≡ Some y = e in cc) in
    (x, refl, same, ap (λ (n : Node). n.stands) (sym same) ∙ stands)

pub was_at : (l : Linking) (old new : List Node) (at : ℕ) (y : Node) → AreLinked l old new → StandsAt new at y → Was l old at y
was_at l old new at y linked there =
    let w = was_in l at (slice_get old at) y (sym (linked at) ∙ there.here) there.stands in
    record { node = w.0; there = record { here = w.1; stands = w.3 }; is = w.2 }

pub still_at : (l : Linking) (old new : List Node) (at : ℕ) (x : Node) → AreLinked l old new → StandsAt old at x → StandsAt new at (linked_node l at x)
still_at l old new at x linked there = record { here = linked at ∙ ap (option_map (linked_node l at)) there.here; stands = there.stands }

-- the node of a serial number stands at one place
pub place_is : (begun : ℕ) (nodes : List Node) (order : List Entry) (rows : List Row) (at place : ℕ) (x y : Node) → StandFor begun nodes order rows → StandsAt nodes at x → StandsAt nodes place y → eqb x.serial y.serial ≡ eqb at place
place_is begun nodes order rows at place x y stand there here =
    by_cases (eqb x.serial y.serial ≡ eqb at place) (eqb at place)
    (λ t.
    let moved : slice_get nodes place ≡ Some x = ap (slice_get nodes) (sym (eqb-true at place t)) ∙ there.here in
    let same : Some x ≡ Some y = sym moved ∙ here.here in
    let is : x ≡ y = (cc) in
    eq-eqb x.serial y.serial (ap (λ (n : Node). n.serial) is) ∙ sym t)
    (λ t. ne_eqb x.serial y.serial (λ e. eqb-false at place t (stand.one at place x y there here e)) ∙ sym t)

-- the row that a node stands for
pub row_is : (nodes : List Node) (rows : List Row) (at : ℕ) (n : NodeAt nodes rows at) → (begun : ℕ) (order : List Entry) → StandFor begun nodes order rows → n.row ≡ row_of_node n.row.root n.row.path n.node
row_is nodes rows at n begun order stand =
    let has : HasRow rows n.node = stand.row at n.node n.there in
    let e : Some has.row ≡ Some n.row = sym has.found ∙ n.found in
    let same : has.row ≡ n.row = (cc) in
    subst (λ (r : Row). r ≡ row_of_node r.root r.path n.node) same has.is

-- a row that is that of a node, whatever root and path are written
as_row : (row : Row) (root : ℕ) (path : List ℕ) (x : Node) → row ≡ row_of_node root path x → row ≡ row_of_node row.root row.path x
as_row row root path x e = e ∙ ap (λ (r : ℕ). row_of_node r path x) (sym (ap (λ (r : Row). r.root) e)) ∙ ap (λ (p : List ℕ). row_of_node row.root p x) (sym (ap (λ (r : Row). r.path) e))

-- the row of a node after the join
joined_node : (join : Join) (l : Linking) (at root : ℕ) (path : List ℕ) (x : Node) → eqb x.serial join.child ≡ eqb at l.below → eqb x.serial join.link.serial ≡ eqb at l.above → l.link ≡ join.link →
    joined join (row_of_node root path x) ≡ row_of_node (joined join (row_of_node root path x)).root (joined join (row_of_node root path x)).path (linked_node l at x)
joined_node join l at root path x child parent link =
    let row : Row = row_of_node root path x in
    let Goal : Type 0 = joined join row ≡ row_of_node (joined join row).root (joined join row).path (linked_node l at x) in
    by_cases Goal (eqb at l.below)
    (λ b. by_cases Goal (eqb at l.above)
    (λ a. by_cases Goal (eqb root join.child) (λ r. rw (child, parent, b, a, r, link) refl) (λ r. rw (child, parent, b, a, r, link) refl))
    (λ a. by_cases Goal (eqb root join.child) (λ r. rw (child, parent, b, a, r, link) refl) (λ r. rw (child, parent, b, a, r, link) refl)))
    (λ b. by_cases Goal (eqb at l.above)
    (λ a. by_cases Goal (eqb root join.child) (λ r. rw (child, parent, b, a, r) refl) (λ r. rw (child, parent, b, a, r) refl))
    (λ a. by_cases Goal (eqb root join.child) (λ r. rw (child, parent, b, a, r) refl) (λ r. rw (child, parent, b, a, r) refl)))

-- the join of rows that a link is
abbrev pub joins : (begun : ℕ) (nodes : List Node) (order : List Entry) (rows : List Row) (l : Linking) (join : Join) → AreNodes begun nodes order rows → CanLink nodes rows l join → CanJoin rows join
joins begun nodes order rows l join are can =
    let child_row = row_is nodes rows l.below can.child begun order are.stand in
    let none : can.child.row.parent ≡ None = ap (λ (r : Row). r.parent) child_row ∙ can.alone in
    let top : IsTop can.child.row = ⊎_elim
    (λ (t : IsTop can.child.row). t)
    (λ (below : IsBelow rows can.child.row). absurd (let e : Some below.link ≡ None = sym below.linked ∙ none in cc))
    (are.trees.forest.linked can.child.node.serial can.child.row can.child.found) in
    record {
      child = can.child.row;
      here = ap (λ (s : ℕ). row_of s rows) can.child_is ∙ can.child.found;
      top = top;
      parent = can.parent.row;
      there = ap (λ (k : ParentLink). row_of k.serial rows) can.link_is ∙ can.parent.found;
      root = can.root_is;
      path = can.path_is;
      apart = ap (λ (s : ℕ). eqb can.parent.row.root s) can.child_is ∙ can.apart;
    }

-- what is found after the join
pub found_after : (join : Join) (s : ℕ) (rows : List Row) (row : Row) → row_of s rows ≡ Some row → row_of s (map (joined join) rows) ≡ Some (joined join row)
found_after join s rows row here = row_of_map (joined join) (joined_serial join) s rows ∙ ap (option_map (joined join)) here

abbrev pub before_join : (join : Join) (s : ℕ) (rows : List Row) (now : Row) → row_of s (map (joined join) rows) ≡ Some now → (row : Row) × (row_of s rows ≡ Some row) × (now ≡ joined join row)
before_join join s rows now here = before_map (joined join) s rows (row_of s rows) now refl (sym (row_of_map (joined join) (joined_serial join) s rows) ∙ here)

-- nodes stand for the rows that joined
row_after : (begun : ℕ) (nodes : List Node) (order : List Entry) (rows : List Row) (l : Linking) (join : Join) → AreNodes begun nodes order rows → CanLink nodes rows l join → (at : ℕ) (x : Node) (row : Row) → StandsAt nodes at x → row ≡ row_of_node row.root row.path x → joined join row ≡ row_of_node (joined join row).root (joined join row).path (linked_node l at x)
row_after begun nodes order rows l join are can at x row there is =
    let child : eqb x.serial join.child ≡ eqb at l.below = ap (eqb x.serial) can.child_is ∙ place_is begun nodes order rows at l.below x can.child.node are.stand there can.child.there in
    let parent : eqb x.serial join.link.serial ≡ eqb at l.above = ap (λ (k : ParentLink). eqb x.serial k.serial) can.link_is ∙ place_is begun nodes order rows at l.above x can.parent.node are.stand there can.parent.there in
    as_row (joined join row) _ _ (linked_node l at x) (ap (joined join) is ∙ joined_node join l at row.root row.path x child parent can.link)

pub stand_after : (begun : ℕ) (old new : List Node) (order : List Entry) (rows : List Row) (l : Linking) (join : Join) → AreNodes begun old order rows → CanLink old rows l join → AreLinked l old new → StandFor begun new order (map (joined join) rows)
stand_after begun old new order rows l join are can linked = record {
  rising = are.stand.rising;
  node = λ s now here.
      let was = before_join join s rows now here in
      let has : HasNode old order was.0 = are.stand.node s was.0 was.1 in
      subst (HasNode new order) (sym was.2) (record {
        at = has.at;
        node = linked_node l has.at has.node;
        here = still_at l old new has.at has.node linked has.here;
        is = row_after begun old order rows l join are can has.at has.node was.0 has.here has.is;
        listed = subst (λ (n : ℕ). IsIn order (record { serial = n; at = has.at })) (sym (joined_serial join was.0)) has.listed;
      });
  row = λ at y there.
      let was = was_at l old new at y linked there in
      let has : HasRow rows was.node = are.stand.row at was.node was.there in
      subst (HasRow (map (joined join) rows)) (sym was.is) (record {
        row = joined join has.row;
        found = found_after join was.node.serial rows has.row has.found;
        is = row_after begun old order rows l join are can at was.node has.row was.there has.is;
      });
  one = λ at other y z there here same.
      let a = was_at l old new at y linked there in
      let b = was_at l old new other z linked here in
      are.stand.one at other a.node b.node a.there b.there (sym (ap (λ (n : Node). n.serial) a.is) ∙ same ∙ ap (λ (n : Node). n.serial) b.is);
}
