-- Where a node began, nodes stand for one row more.
use Rattle.std.proofs.Common.{◌≡◌, ◌+◌, ◌<◌, ⊎_elim, inl, ℕ, Bool, true, false, not, eqb, cond, ◌&&◌, Option, Some, None, List, [], ◌∷◌, ◌++◌, refl, ap, sym, ◌∙◌, subst, arith}
use Rattle.std.specs.Prelude.{count_by}
use Rattle.std.proofs.lemmas.Bool.{eq-eqb, ne_eqb}
use Rattle.std.proofs.lemmas.List.Sums.{sum_by-cons, sum_by_push}
use Rattle.txn_rows.specs.declared.rows.Row.{Row}
use Rattle.txn_rows.specs.declared.group.ParentLink.{ParentLink}
use Rattle.txn_rows.specs.Trees.{row_of, Rising, AreTrees, IsTop, IsBelow}
use Rattle.txn_rows.specs.inside.Rows.{Each}
use Rattle.txn_rows.proofs.LineLemmas.{row_of_serial}
use Rattle.txn_rows.proofs.TreeLemmas.{each_weaker, each_found}
use Rattle.txn_rows.proofs.StandLemmas.{found_push, found_still, found_under, rising_ends, root_under, trees_push}
use Rattle.txn_rows.proofs.PendingLemmas.{empty_row}
use Rattle.txn_groups.specs.declared.node.Node.{Node}
use Rattle.txn_groups.specs.declared.order.Entry.{Entry}
use Rattle.txn_groups.specs.inside.Nodes.{StandsAt, EntriesRise, AreNodes, AreNumbered, HasRow, HasNode, StandFor, ChildAt, HasChildren, LeadsUp, HaveOneLast, row_of_node}
use Rattle.txn_groups.specs.inside.Left.{IsRelinked}
use Rattle.txn_groups.specs.inside.Begun.{fresh_node, AreBegun}
use Rattle.txn_groups.proofs.SetLemmas.{in_left, in_right}
use Rattle.txn_groups.proofs.LeftLemmas.{relinked_children, relinked_up}

entries_push : (low high at : ℕ) (order : List Entry) → EntriesRise low high order → EntriesRise low (high + 1) (order ++ record { serial = high; at = at } ∷ [])
entries_push low high at [] r = (r, omega arith)
entries_push low high at (e ∷ order) r = (r.0, entries_push (e.serial + 1) high at order r.1)

none_counted : (p : Row → Bool) (rows : List Row) → Each (λ row. p row ≡ false) rows → count_by p rows ≡ 0
none_counted p [] e = refl
none_counted p (row ∷ rows) e =
    let c : Row → ℕ = λ r. cond (p r) 1 0 in
    let own : c row ≡ 0 = ap {B = ℕ} (λ (b : Bool). cond b 1 0) e.0 in
    omega (arith, sum_by-cons c row rows, own, none_counted p rows e.1)

-- the row of a link is one of before
above_before : (begun : ℕ) (rows : List Row) (new row above : Row) (s : ℕ) (link : ParentLink) → AreTrees begun rows → row_of s rows ≡ Some row → row.parent ≡ Some link → row_of link.serial (rows ++ new ∷ []) ≡ Some above → row_of link.serial rows ≡ Some above
above_before begun rows new row above s link trees found linked here = ⊎_elim
    (λ (top : IsTop row). absurd (let e : Some link ≡ None = sym linked ∙ top.none in cc))
    (λ (below : IsBelow rows row).
    let one : Some below.link ≡ Some link = sym below.linked ∙ linked in
    let same : below.link ≡ link = (cc) in
    let was : row_of link.serial rows ≡ Some below.above = ap (λ (k : ParentLink). row_of k.serial rows) (sym same) ∙ below.found in
    let is : Some below.above ≡ Some above = sym (found_still link.serial rows new below.above was) ∙ here in
    was ∙ is)
    (trees.forest.linked s row found)

begun_numbered : (begun : ℕ) (rows : List Row) (new : Row) → AreTrees begun rows → AreNumbered rows → new.parent ≡ None → AreNumbered (rows ++ new ∷ [])
begun_numbered begun rows new trees numbered none = record {
  below = λ s row above link here linked there. ⊎_elim
      (λ (was : row_of s rows ≡ Some row). numbered.below s row above link was linked (above_before begun rows new row above s link trees was linked there))
      (λ (is : row ≡ new). absurd (let e : Some link ≡ None = sym linked ∙ ap (λ (r : Row). r.parent) is ∙ none in cc))
      (found_push s rows new row (row_of s rows) refl here);
  apart = λ s t a b p q here there linked_a linked_b serial number. ⊎_elim
      (λ (was_a : row_of s rows ≡ Some a). ⊎_elim
      (λ (was_b : row_of t rows ≡ Some b). numbered.apart s t a b p q was_a was_b linked_a linked_b serial number)
      (λ (is : b ≡ new). absurd (let e : Some q ≡ None = sym linked_b ∙ ap (λ (r : Row). r.parent) is ∙ none in cc))
      (found_push t rows new b (row_of t rows) refl there))
      (λ (is : a ≡ new). absurd (let e : Some p ≡ None = sym linked_a ∙ ap (λ (r : Row). r.parent) is ∙ none in cc))
      (found_push s rows new a (row_of s rows) refl here);
}

found_last : (low high : ℕ) (rows : List Row) (new : Row) → Rising low high rows → new.serial ≡ high → row_of high (rows ++ new ∷ []) ≡ Some new
found_last low high [] new r is = ap (λ (b : Bool). cond b (Some new) None) (eq-eqb new.serial high is)
found_last low high (row ∷ rows) new r is =
    let other : eqb row.serial high ≡ false = ne_eqb row.serial high (λ e. omega (arith, e, rising_ends (row.serial + 1) high rows r.1)) in
    ap (λ (b : Bool). cond b (Some row) (row_of high (rows ++ new ∷ []))) other ∙ found_last (row.serial + 1) high rows new r.1 is

-- the next row is found
new_found : (begun : ℕ) (rows : List Row) (new : Row) → Rising 0 begun rows → new.serial ≡ begun → row_of begun (rows ++ new ∷ []) ≡ Some new
new_found begun rows new rising is = found_last 0 begun rows new rising is

begun_stand : (begun at vxid : ℕ) (time older : Option ℕ) (old new : List Node) (order : List Entry) (rows : List Row) → AreNodes begun old order rows → AreBegun old new begun at vxid time older → StandFor (begun + 1) new (order ++ record { serial = begun; at = at } ∷ []) (rows ++ empty_row begun vxid time ∷ [])
begun_stand begun at vxid time older old new order rows are b =
    let row_new : Row = empty_row begun vxid time in
    let e_new : Entry = record { serial = begun; at = at } in
    let under : (i : ℕ) (x : Node) → StandsAt old i x → x.serial < begun = λ i x there.
    let has : HasRow rows x = are.stand.row i x there in
    omega (arith, found_under x.serial 0 begun rows has.row are.trees.rising has.found, row_of_serial x.serial rows has.row has.found) in
    record {
      rising = entries_push 0 begun at order are.stand.rising;
      node = λ s row here. ⊎_elim
          (λ (was : row_of s rows ≡ Some row).
          let has : HasNode old order row = are.stand.node s row was in
          let now = b.remain has.at has.node has.here in
          record { at = has.at; node = now.node; here = now.there; is = has.is ∙ sym (ap (row_of_node row.root row.path) now.is); listed = in_left order (e_new ∷ []) (record { serial = row.serial; at = has.at }) has.listed })
          (λ (is : row ≡ row_new). subst (HasNode new (order ++ e_new ∷ [])) (sym is) (record { at = at; node = fresh_node at begun vxid time older; here = b.fresh; is = refl; listed = in_right order (e_new ∷ []) e_new (inl refl) }))
          (found_push s rows row_new row (row_of s rows) refl here);
      row = λ i y there. ⊎_elim
          (λ (is : (i ≡ at) × (y ≡ fresh_node at begun vxid time older)). subst (HasRow (rows ++ row_new ∷ [])) (sym is.1) (record { row = row_new; found = new_found begun rows row_new are.trees.rising refl; is = refl }))
          (λ (w : IsRelinked old i y).
          let has : HasRow rows w.node = are.stand.row i w.node w.there in
          record {
            row = has.row;
            found = ap (λ (n : Node). row_of n.serial (rows ++ row_new ∷ [])) w.is ∙ found_still w.node.serial rows row_new has.row has.found;
            is = has.is ∙ sym (ap (row_of_node has.row.root has.row.path) w.is);
          })
          (b.were i y there);
      one = λ i j y z there here same. ⊎_elim
          (λ (is : (i ≡ at) × (y ≡ fresh_node at begun vxid time older)). ⊎_elim
          (λ (also : (j ≡ at) × (z ≡ fresh_node at begun vxid time older)). is.0 ∙ sym also.0)
          (λ (w : IsRelinked old j z). absurd (omega (arith, under j w.node w.there, same, ap (λ (n : Node). n.serial) is.1, ap (λ (n : Node). n.serial) w.is)))
          (b.were j z here))
          (λ (v : IsRelinked old i y). ⊎_elim
          (λ (is : (j ≡ at) × (z ≡ fresh_node at begun vxid time older)). absurd (omega (arith, under i v.node v.there, same, ap (λ (n : Node). n.serial) is.1, ap (λ (n : Node). n.serial) v.is)))
          (λ (w : IsRelinked old j z). are.stand.one i j v.node w.node v.there w.there (sym (ap (λ (n : Node). n.serial) v.is) ∙ same ∙ ap (λ (n : Node). n.serial) w.is))
          (b.were j z here))
          (b.were i y there);
    }

begun_child : (begun at vxid : ℕ) (time older : Option ℕ) (old new : List Node) (place serial number : ℕ) → AreBegun old new begun at vxid time older → ChildAt old place serial number → ChildAt new place serial number
begun_child begun at vxid time older old new place serial number b child =
    let now = b.remain place child.node child.there in
    record { node = now.node; there = now.there; link = child.link; linked = ap (λ (n : Node). n.parent) now.is ∙ child.linked; below = child.below; is = child.is }

begun_children : (begun at vxid : ℕ) (time older : Option ℕ) (old new : List Node) (order : List Entry) (rows : List Row) (row_new : Row) (i : ℕ) (x : Node) → AreNodes begun old order rows → AreBegun old new begun at vxid time older → StandsAt old i x → HasChildren new (rows ++ row_new ∷ []) x
begun_children begun at vxid time older old new order rows row_new i x are b there =
    let has : HasChildren old rows x = are.children i x there in
    let own : HasRow rows x = are.stand.row i x there in
    record {
      first = λ place e. begun_child begun at vxid time older old new place x.serial 0 b (has.first place e);
      none = has.none;
      next = λ place e. let n = has.next place e in (n.0, n.1, begun_child begun at vxid time older old new place n.0.serial (n.0.number + 1) b n.2);
      end = λ e link above linked here. has.end e link above linked (above_before begun rows row_new own.row above x.serial link are.trees own.found (ap (λ (r : Row). r.parent) own.is ∙ linked) here);
      last = λ place e. let n = has.last place e in (n.0, n.1, begun_child begun at vxid time older old new place x.serial n.0 b n.2);
      none_last = has.none_last;
    }

fresh_children : (nodes : List Node) (rows : List Row) (at serial vxid : ℕ) (time older : Option ℕ) → HasChildren nodes rows (fresh_node at serial vxid time older)
fresh_children nodes rows at serial vxid time older = record {
  first = λ place e. absurd (let f : None ≡ Some place = e in cc);
  none = λ e. refl;
  next = λ place e. absurd (let f : None ≡ Some place = e in cc);
  end = λ e link above linked here. absurd (let f : None ≡ Some link = linked in cc);
  last = λ place e. absurd (let f : None ≡ Some place = e in cc);
  none_last = λ e. refl;
}

-- what a row more adds to a count
count_push : (p : Row → Bool) (rows : List Row) (new : Row) → p new ≡ false → count_by p (rows ++ new ∷ []) ≡ count_by p rows
count_push p rows new fails =
    let own : cond (p new) 1 0 ≡ 0 = ap {B = ℕ} (λ (b : Bool). cond b 1 0) fails in
    omega (arith, sum_by_push (λ (r : Row). cond (p r) 1 0) rows new, own)

count_push_one : (p : Row → Bool) (rows : List Row) (new : Row) → p new ≡ true → count_by p rows ≡ 0 → count_by p (rows ++ new ∷ []) ≡ 1
count_push_one p rows new passes none =
    let own : cond (p new) 1 0 ≡ 1 = ap {B = ℕ} (λ (b : Bool). cond b 1 0) passes in
    omega (arith, sum_by_push (λ (r : Row). cond (p r) 1 0) rows new, own, none)

begun_up : (begun at vxid : ℕ) (time older : Option ℕ) (old new : List Node) (order : List Entry) (rows : List Row) (i : ℕ) (x : Node) (row : Row) → AreNodes begun old order rows → AreBegun old new begun at vxid time older → StandsAt old i x → row_of x.serial rows ≡ Some row → LeadsUp new (rows ++ empty_row begun vxid time ∷ []) i x row
begun_up begun at vxid time older old new order rows i x row are b there found =
    let row_new : Row = empty_row begun vxid time in
    let up = are.up i x row there found in
    let now = b.remain x.up up.above up.there in
    let other : eqb begun row.root ≡ false = ne_eqb begun row.root (λ e. omega (arith, e, root_under begun x.serial rows row are.trees found)) in
    let same = count_push (λ (r : Row). eqb r.root row.root) rows row_new other in
    let same_unended = count_push (λ (r : Row). (eqb r.root row.root) && not r.ended) rows row_new (ap (λ (c : Bool). c && not false) other) in
    record {
      above = now.node;
      there = now.there;
      above_row = up.above_row;
      found = ap (λ (n : Node). row_of n.serial (rows ++ row_new ∷ [])) now.is ∙ found_still up.above.serial rows row_new up.above_row up.found;
      root = up.root;
      more = λ e. omega (arith, up.more e, ap (λ (n : Node). n.size) now.is);
      some = up.some;
      few = omega (arith, up.few, same);
      size = λ e. up.size e ∙ sym same;
      unended = λ e. up.unended e ∙ sym same_unended;
      top = λ e.
          let t = up.top e in
          let rest = b.remain x.top t.0 t.1 in
          (rest.node, rest.there, ap (λ (n : Node). n.serial) rest.is ∙ t.2);
    }

fresh_up : (begun at vxid : ℕ) (time older : Option ℕ) (old new : List Node) (order : List Entry) (rows : List Row) → AreNodes begun old order rows → AreBegun old new begun at vxid time older → LeadsUp new (rows ++ empty_row begun vxid time ∷ []) at (fresh_node at begun vxid time older) (empty_row begun vxid time)
fresh_up begun at vxid time older old new order rows are b =
    let row_new : Row = empty_row begun vxid time in
    let apart : Each (λ row. eqb row.root begun ≡ false) rows = each_weaker (λ row. row_of row.serial rows ≡ Some row) (λ row. eqb row.root begun ≡ false) (λ row found. ne_eqb row.root begun (λ e. omega (arith, e, root_under begun row.serial rows row are.trees found))) rows (each_found 0 begun rows are.trees.rising) in
    let same : eqb begun begun ≡ true = eq-eqb begun begun refl in
    let one = count_push_one (λ (r : Row). eqb r.root begun) rows row_new same (none_counted (λ (r : Row). eqb r.root begun) rows apart) in
    let one_unended = count_push_one (λ (r : Row). (eqb r.root begun) && not r.ended) rows row_new (ap (λ (c : Bool). c && not false) same)
    (none_counted (λ (r : Row). (eqb r.root begun) && not r.ended) rows (each_weaker (λ row. eqb row.root begun ≡ false) (λ row. ((eqb row.root begun) && not row.ended) ≡ false) (λ row e. ap (λ (c : Bool). c && not row.ended) e) rows apart)) in
    record {
      above = fresh_node at begun vxid time older;
      there = b.fresh;
      above_row = row_new;
      found = new_found begun rows row_new are.trees.rising refl;
      root = refl;
      more = λ other. absurd (other refl);
      some = omega arith;
      few = omega (arith, one);
      size = λ e. sym one;
      unended = λ e. sym one_unended;
      top = λ e. (fresh_node at begun vxid time older, b.fresh, refl);
    }

-- the rows of nodes that stand after the begin
begun_last : (begun at vxid : ℕ) (time older : Option ℕ) (old new : List Node) (order : List Entry) (rows : List Row) → AreNodes begun old order rows → AreBegun old new begun at vxid time older → HaveOneLast new (rows ++ empty_row begun vxid time ∷ [])
begun_last begun at vxid time older old new order rows are b = λ i j y z row other there here found found_other last last_other same.
    let row_new : Row = empty_row begun vxid time in
    let row_at : (k : ℕ) (x : Node) (r : Row) → StandsAt old k x → row_of x.serial (rows ++ row_new ∷ []) ≡ Some r → row_of x.serial rows ≡ Some r = λ k x r stands e.
    let has : HasRow rows x = are.stand.row k x stands in
    has.found ∙ sym (found_still x.serial rows row_new has.row has.found) ∙ e in
    let new_row : (y_new : Node) (r : Row) → y_new ≡ fresh_node at begun vxid time older → row_of y_new.serial (rows ++ row_new ∷ []) ≡ Some r → r.root ≡ begun = λ y_new r is e.
    let one : Some row_new ≡ Some r = sym (new_found begun rows row_new are.trees.rising refl) ∙ ap (λ (n : Node). row_of n.serial (rows ++ row_new ∷ [])) (sym is) ∙ e in
    let is_new : r ≡ row_new = (cc) in ap (λ (x : Row). x.root) is_new in
    ⊎_elim
    (λ (is : (i ≡ at) × (y ≡ fresh_node at begun vxid time older)). ⊎_elim
    (λ (also : (j ≡ at) × (z ≡ fresh_node at begun vxid time older)). is.0 ∙ sym also.0)
    (λ (w : IsRelinked old j z). let r = row_at j w.node other w.there (ap (λ (n : Node). row_of n.serial (rows ++ row_new ∷ [])) (sym w.is) ∙ found_other) in absurd (omega (arith, root_under begun w.node.serial rows other are.trees r, new_row y row is.1 found, same)))
    (b.were j z here))
    (λ (v : IsRelinked old i y).
    let r = row_at i v.node row v.there (ap (λ (n : Node). row_of n.serial (rows ++ row_new ∷ [])) (sym v.is) ∙ found) in
    ⊎_elim
    (λ (is : (j ≡ at) × (z ≡ fresh_node at begun vxid time older)). absurd (omega (arith, root_under begun v.node.serial rows row are.trees r, new_row z other is.1 found_other, same)))
    (λ (w : IsRelinked old j z). are.last i j v.node w.node row other v.there w.there r (row_at j w.node other w.there (ap (λ (n : Node). row_of n.serial (rows ++ row_new ∷ [])) (sym w.is) ∙ found_other)) (sym (ap (λ (n : Node). n.up) v.is) ∙ last) (sym (ap (λ (n : Node). n.up) w.is) ∙ last_other) same)
    (b.were j z here))
    (b.were i y there)

-- where a node began, nodes stand for one row more
pub nodes_begun : (begun at vxid : ℕ) (time older : Option ℕ) (old new : List Node) (order : List Entry) (rows : List Row) → AreNodes begun old order rows → AreBegun old new begun at vxid time older → AreNodes (begun + 1) new (order ++ record { serial = begun; at = at } ∷ []) (rows ++ empty_row begun vxid time ∷ [])
nodes_begun begun at vxid time older old new order rows are b =
    let row_new : Row = empty_row begun vxid time in
    let Rows : List Row = rows ++ row_new ∷ [] in
    record {
      trees = trees_push begun rows row_new are.trees refl (record { none = refl; root = refl; path = refl }) refl;
      numbered = begun_numbered begun rows row_new are.trees are.numbered refl;
      stand = begun_stand begun at vxid time older old new order rows are b;
      children = λ i y there. ⊎_elim
          (λ (is : (i ≡ at) × (y ≡ fresh_node at begun vxid time older)). subst (λ (n : Node). HasChildren new Rows n) (sym is.1) (fresh_children new Rows at begun vxid time older))
          (λ (w : IsRelinked old i y). relinked_children new Rows w.node y w.is (begun_children begun at vxid time older old new order rows row_new i w.node are b w.there))
          (b.were i y there);
      up = λ i y row there found. ⊎_elim
          (λ (is : (i ≡ at) × (y ≡ fresh_node at begun vxid time older)).
          let one : Some row_new ≡ Some row = sym (new_found begun rows row_new are.trees.rising refl) ∙ ap (λ (n : Node). row_of n.serial Rows) (sym is.1) ∙ found in
          let same : row ≡ row_new = (cc) in
          subst (λ (k : ℕ). LeadsUp new Rows k y row) (sym is.0) (subst (λ (n : Node). LeadsUp new Rows at n row) (sym is.1) (subst (λ (r : Row). LeadsUp new Rows at (fresh_node at begun vxid time older) r) (sym same) (fresh_up begun at vxid time older old new order rows are b))))
          (λ (w : IsRelinked old i y).
          let has : HasRow rows w.node = are.stand.row i w.node w.there in
          let was : row_of w.node.serial rows ≡ Some row = has.found ∙ sym (found_still w.node.serial rows row_new has.row has.found) ∙ ap (λ (n : Node). row_of n.serial Rows) (sym w.is) ∙ found in
          relinked_up new Rows i w.node y row w.is (begun_up begun at vxid time older old new order rows i w.node row are b w.there was))
          (b.were i y there);
      last = begun_last begun at vxid time older old new order rows are b;
      kin = b.kin;
    }
