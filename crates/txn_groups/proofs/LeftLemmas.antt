-- Where a tree of nodes left, the others stand for the rows beside it.
use Rattle.std.proofs.Common.{◌≡◌, ◌≢◌, ◌+◌, ℕ, Bool, false, not, eqb, cond, ◌&&◌, Some, List, [], ◌∷◌, length, refl, ap, sym, ◌∙◌, subst, arith}
use Rattle.std.specs.Prelude.{count_by}
use Rattle.std.proofs.lemmas.Bool.{eqb-true, eqb-false, ne_eqb, not-true}
use Rattle.std.proofs.lemmas.List.Sums.{sum_by-cons}
use Rattle.txn_rows.specs.declared.rows.Row.{Row}
use Rattle.txn_rows.specs.Trees.{row_of, AreTrees}
use Rattle.txn_rows.specs.inside.Rows.{rows_beside}
use Rattle.txn_rows.proofs.LineLemmas.{by_cases, row_of_serial}
use Rattle.txn_rows.proofs.StandLemmas.{found_filter, kept_filter, count_beside, root_found, trees_left}
use Rattle.txn_groups.specs.declared.node.Node.{Node}
use Rattle.txn_groups.specs.declared.order.Entry.{Entry}
use Rattle.txn_groups.specs.inside.Nodes.{StandsAt, AreNodes, AreNumbered, HasRow, HasNode, StandFor, ChildAt, HasChildren, LeadsUp, row_of_node}
use Rattle.txn_groups.specs.inside.Left.{IsRelinked, AreLeft}
use Rattle.txn_groups.proofs.PathLemmas.{Inside}
use Rattle.txn_groups.proofs.StackLemmas.{Above, above_of}
use Rattle.txn_groups.proofs.VisitLemmas.{KidAt, kid_at}
use Rattle.txn_groups.proofs.ChildrenLemmas.{one_node}

-- what is found beside a tree was found, and is of another tree
record Beside (rows : List Row) (s root : ℕ) (row : Row) : Type 0 where
  found : row_of s rows ≡ Some row
  apart : row.root ≢ root

beside_found : (begun root s : ℕ) (rows : List Row) (row : Row) → AreTrees begun rows → row_of s (rows_beside root rows) ≡ Some row → Beside rows s root row
beside_found begun root s rows row trees here =
    let was = found_filter (λ (r : Row). not (eqb r.root root)) s 0 begun rows row trees.rising here in
    record { found = was.0; apart = eqb-false row.root root (not-true (eqb row.root root) was.1) }

found_beside : (root s : ℕ) (rows : List Row) (row : Row) → row_of s rows ≡ Some row → row.root ≢ root → row_of s (rows_beside root rows) ≡ Some row
found_beside root s rows row here apart = kept_filter (λ (r : Row). not (eqb r.root root)) s rows row here (ap not (ne_eqb row.root root apart))

-- the rows of another tree that have not ended are as many
unended_beside : (root x : ℕ) → x ≢ root → (rows : List Row) → count_by (λ (r : Row). (eqb r.root x) && not r.ended) (rows_beside root rows) ≡ count_by (λ (r : Row). (eqb r.root x) && not r.ended) rows
unended_beside root x other [] = refl
unended_beside root x other (row ∷ rows) =
    let p : Row → ℕ = λ r. cond ((eqb r.root x) && not r.ended) 1 0 in
    let ih = unended_beside root x other rows in
    let whole = sum_by-cons p row rows in
    by_cases (count_by (λ (r : Row). (eqb r.root x) && not r.ended) (rows_beside root (row ∷ rows)) ≡ count_by (λ (r : Row). (eqb r.root x) && not r.ended) (row ∷ rows)) (eqb row.root root)
    (λ t.
    let none : eqb row.root x ≡ false = ne_eqb row.root x (λ e. other (sym e ∙ eqb-true row.root root t)) in
    let zero_here : p row ≡ 0 = ap (λ (b : Bool). cond (b && not row.ended) 1 0) none in
    rw t (omega (arith, ih, whole, zero_here)))
    (λ t. rw t (omega (arith, ih, whole, sum_by-cons p row (rows_beside root rows))))

-- a node of a row that is found
pub node_found : (begun : ℕ) (nodes : List Node) (order : List Entry) (rows : List Row) (s : ℕ) (row : Row) (are : AreNodes begun nodes order rows) (here : row_of s rows ≡ Some row) → row_of (are.stand.node s row here).node.serial rows ≡ Some row
node_found begun nodes order rows s row are here =
    let has : HasNode nodes order row = are.stand.node s row here in
    ap (λ (n : ℕ). row_of n rows) (sym (ap (λ (r : Row). r.serial) has.is) ∙ row_of_serial s rows row here) ∙ here

left_stand : (begun root : ℕ) (old new : List Node) (order : List Entry) (rows : List Row) → AreNodes begun old order rows → AreLeft old new rows root → StandFor begun new order (rows_beside root rows)
left_stand begun root old new order rows are left = record {
  rising = are.stand.rising;
  node = λ s row here.
      let b = beside_found begun root s rows row are.trees here in
      let has : HasNode old order row = are.stand.node s row b.found in
      let now = left.remain has.at has.node row has.here (node_found begun old order rows s row are b.found) b.apart in
      record { at = has.at; node = now.node; here = now.there; is = has.is ∙ sym (ap (row_of_node row.root row.path) now.is); listed = has.listed };
  row = λ at y there.
      let w = left.were at y there in
      let has : HasRow rows w.node = are.stand.row at w.node w.there in
      let apart : has.row.root ≢ root = λ e. left.gone at w.node has.row w.there has.found e y there in
      record {
        row = has.row;
        found = ap (λ (n : Node). row_of n.serial (rows_beside root rows)) w.is ∙ found_beside root w.node.serial rows has.row has.found apart;
        is = has.is ∙ sym (ap (row_of_node has.row.root has.row.path) w.is);
      };
  one = λ at other y z there here same.
      let a = left.were at y there in
      let b = left.were other z here in
      are.stand.one at other a.node b.node a.there b.there (sym (ap (λ (n : Node). n.serial) a.is) ∙ same ∙ ap (λ (n : Node). n.serial) b.is);
}

-- a child of another tree stays
left_child : (begun root : ℕ) (old new : List Node) (order : List Entry) (rows : List Row) (tree at number : ℕ) (above : Row) → AreNodes begun old order rows → AreLeft old new rows root → Inside rows tree above → tree ≢ root → ChildAt old at above.serial number → ChildAt new at above.serial number
left_child begun root old new order rows tree at number above are left in_above apart child =
    let k : KidAt old rows tree above.serial number at = kid_at begun old order rows tree at number above are in_above child in
    let same = one_node old at at child.node k.node child.there k.there refl in
    let found : row_of child.node.serial rows ≡ Some k.kid = ap (λ (n : Node). row_of n.serial rows) same ∙ k.found in
    let now = left.remain at child.node k.kid child.there found (λ e. apart (sym k.is.inside.tree ∙ e)) in
    record { node = now.node; there = now.there; link = child.link; linked = ap (λ (n : Node). n.parent) now.is ∙ child.linked; below = child.below; is = child.is }

left_children : (begun root : ℕ) (old new : List Node) (order : List Entry) (rows : List Row) (at : ℕ) (x : Node) → AreNodes begun old order rows → AreLeft old new rows root → (there : StandsAt old at x) → (row : Row) → row_of x.serial rows ≡ Some row → row ≡ row_of_node row.root row.path x → row.root ≢ root → HasChildren new (rows_beside root rows) x
left_children begun root old new order rows at x are left there row found is apart =
    let has : HasChildren old rows x = are.children at x there in
    let serial : row.serial ≡ x.serial = ap (λ (r : Row). r.serial) is in
    let in_row : Inside rows row.root row = record { found = ap (λ (n : ℕ). row_of n rows) serial ∙ found; tree = refl } in
    let kids : (place number : ℕ) → ChildAt old place x.serial number → ChildAt new place x.serial number = λ place number child.
    subst (λ (s : ℕ). ChildAt new place s number) serial (left_child begun root old new order rows row.root place number row are left in_row apart (subst (λ (s : ℕ). ChildAt old place s number) (sym serial) child)) in
    record {
      first = λ place e. kids place 0 (has.first place e);
      none = has.none;
      next = λ place e.
          let n = has.next place e in
          let up : Above rows row.root row n.0 = above_of rows row.root row n.0 are.trees.forest in_row (ap (λ (r : Row). r.parent) is ∙ n.1) in
          (n.0, n.1, subst (λ (s : ℕ). ChildAt new place s (n.0.number + 1)) up.serial (left_child begun root old new order rows row.root place (n.0.number + 1) up.row are left up.inside apart (subst (λ (s : ℕ). ChildAt old place s (n.0.number + 1)) (sym up.serial) n.2)));
      end = λ e link above linked here. has.end e link above linked (beside_found begun root link.serial rows above are.trees here).found;
      last = λ place e. let n = has.last place e in (n.0, n.1, kids place n.0 n.2);
      none_last = has.none_last;
    }

left_up : (begun root : ℕ) (old new : List Node) (order : List Entry) (rows : List Row) (at : ℕ) (x : Node) (row : Row) → AreNodes begun old order rows → AreLeft old new rows root → StandsAt old at x → row_of x.serial rows ≡ Some row → row.root ≢ root → LeadsUp new (rows_beside root rows) at x row
left_up begun root old new order rows at x row are left there found apart =
    let up = are.up at x row there found in
    let above_apart : up.above_row.root ≢ root = λ e. apart (sym up.root ∙ e) in
    let now = left.remain x.up up.above up.above_row up.there up.found above_apart in
    let same = count_beside root row.root (ne_eqb row.root root apart) rows in
    record {
      above = now.node;
      there = now.there;
      above_row = up.above_row;
      found = ap (λ (n : Node). row_of n.serial (rows_beside root rows)) now.is ∙ found_beside root up.above.serial rows up.above_row up.found above_apart;
      root = up.root;
      more = λ other. omega (arith, up.more other, ap (λ (n : Node). n.size) now.is);
      some = up.some;
      few = omega (arith, up.few, same);
      size = λ e. up.size e ∙ sym same;
      unended = λ e. up.unended e ∙ sym (unended_beside root row.root apart rows);
      top = λ e.
          let t = up.top e in
          let has : HasRow rows t.0 = are.stand.row x.top t.0 t.1 in
          let head = root_found (length row.path + 1) rows x.serial row are.trees.forest found (omega arith) in
          let one : Some has.row ≡ Some head.row = sym has.found ∙ ap (λ (n : ℕ). row_of n rows) t.2 ∙ head.found in
          let is : has.row ≡ head.row = (cc) in
          let rest = left.remain x.top t.0 has.row t.1 has.found (λ f. apart (sym (ap (λ (r : Row). r.root) is ∙ head.is) ∙ f)) in
          (rest.node, rest.there, ap (λ (n : Node). n.serial) rest.is ∙ t.2);
    }

left_numbered : (begun root : ℕ) (rows : List Row) → AreTrees begun rows → AreNumbered rows → AreNumbered (rows_beside root rows)
left_numbered begun root rows trees numbered = record {
  below = λ s row above link here linked there. numbered.below s row above link (beside_found begun root s rows row trees here).found linked (beside_found begun root link.serial rows above trees there).found;
  apart = λ s t a b p q here there. numbered.apart s t a b p q (beside_found begun root s rows a trees here).found (beside_found begun root t rows b trees there).found;
}

-- the row of a node that remains
record Rests (old : List Node) (rows : List Row) (root at : ℕ) (y : Node) : Type 0 where
  was : IsRelinked old at y
  row : Row
  found : row_of was.node.serial rows ≡ Some row
  is : row ≡ row_of_node row.root row.path was.node
  apart : row.root ≢ root

rests : (begun root : ℕ) (old new : List Node) (order : List Entry) (rows : List Row) (at : ℕ) (y : Node) → AreNodes begun old order rows → AreLeft old new rows root → StandsAt new at y → Rests old rows root at y
rests begun root old new order rows at y are left there =
    let w = left.were at y there in
    let has : HasRow rows w.node = are.stand.row at w.node w.there in
    record { was = w; row = has.row; found = has.found; is = has.is; apart = λ e. left.gone at w.node has.row w.there has.found e y there }

-- the links of a node that remains
pub relinked_children : (new : List Node) (rows : List Row) (x y : Node) → y ≡ record x { older = y.older; newer = y.newer } → HasChildren new rows x → HasChildren new rows y
relinked_children new rows x y is has =
    let first : y.first ≡ x.first = ap (λ (n : Node). n.first) is in
    let next : y.next ≡ x.next = ap (λ (n : Node). n.next) is in
    let last : y.last ≡ x.last = ap (λ (n : Node). n.last) is in
    let serial : y.serial ≡ x.serial = ap (λ (n : Node). n.serial) is in
    let children : y.children ≡ x.children = ap (λ (n : Node). n.children) is in
    let parent : y.parent ≡ x.parent = ap (λ (n : Node). n.parent) is in
    record {
      first = λ place e. subst (λ (s : ℕ). ChildAt new place s 0) (sym serial) (has.first place (sym first ∙ e));
      none = λ e. children ∙ has.none (sym first ∙ e);
      next = λ place e. let n = has.next place (sym next ∙ e) in (n.0, parent ∙ n.1, n.2);
      end = λ e link above linked here. has.end (sym next ∙ e) link above (sym parent ∙ linked) here;
      last = λ place e. let n = has.last place (sym last ∙ e) in (n.0, n.1 ∙ sym children, subst (λ (s : ℕ). ChildAt new place s n.0) (sym serial) n.2);
      none_last = λ e. children ∙ has.none_last (sym last ∙ e);
    }

pub relinked_up : (new : List Node) (rows : List Row) (at : ℕ) (x y : Node) (row : Row) → y ≡ record x { older = y.older; newer = y.newer } → LeadsUp new rows at x row → LeadsUp new rows at y row
relinked_up new rows at x y row is up =
    let to : y.up ≡ x.up = ap (λ (n : Node). n.up) is in
    let size : y.size ≡ x.size = ap (λ (n : Node). n.size) is in
    record {
      above = up.above;
      there = subst (λ (p : ℕ). StandsAt new p up.above) (sym to) up.there;
      above_row = up.above_row;
      found = up.found;
      root = up.root;
      more = λ other. omega (arith, size, up.more (λ e. other (to ∙ e)));
      some = omega (arith, size, up.some);
      few = omega (arith, size, up.few);
      size = λ e. size ∙ up.size (sym to ∙ e);
      unended = λ e. ap (λ (n : Node). n.unended) is ∙ up.unended (sym to ∙ e);
      top = λ e. let t = up.top (sym to ∙ e) in (t.0, subst (λ (p : ℕ). StandsAt new p t.0) (sym (ap (λ (n : Node). n.top) is)) t.1, t.2);
    }

-- where a tree left, the others stand for the rows beside it
pub nodes_left : (begun root : ℕ) (old new : List Node) (order : List Entry) (rows : List Row) → AreNodes begun old order rows → AreLeft old new rows root → AreNodes begun new order (rows_beside root rows)
nodes_left begun root old new order rows are left = record {
  trees = trees_left begun root rows are.trees;
  numbered = left_numbered begun root rows are.trees are.numbered;
  stand = left_stand begun root old new order rows are left;
  children = λ at y there.
      let r = rests begun root old new order rows at y are left there in
      relinked_children new (rows_beside root rows) r.was.node y r.was.is (left_children begun root old new order rows at r.was.node are left r.was.there r.row r.found r.is r.apart);
  up = λ at y row there found.
      let w = left.were at y there in
      let b = beside_found begun root y.serial rows row are.trees found in
      let here : row_of w.node.serial rows ≡ Some row = ap (λ (n : Node). row_of n.serial rows) (sym w.is) ∙ b.found in
      relinked_up new (rows_beside root rows) at w.node y row w.is (left_up begun root old new order rows at w.node row are left w.there here b.apart);
  last = λ at other y z row other_row there here found found_other last last_other same.
      let a = left.were at y there in
      let b = left.were other z here in
      are.last at other a.node b.node row other_row a.there b.there
      (ap (λ (n : Node). row_of n.serial rows) (sym a.is) ∙ (beside_found begun root y.serial rows row are.trees found).found)
      (ap (λ (n : Node). row_of n.serial rows) (sym b.is) ∙ (beside_found begun root z.serial rows other_row are.trees found_other).found)
      (sym (ap (λ (n : Node). n.up) a.is) ∙ last) (sym (ap (λ (n : Node). n.up) b.is) ∙ last_other) same;
  kin = left.kin;
}
