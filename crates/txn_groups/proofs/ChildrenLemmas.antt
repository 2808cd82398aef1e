-- Children of nodes after a link.
use Rattle.std.proofs.Common.{◌≡◌, ◌≢◌, ◌+◌, ◌<◌, ◌≤◌, ◌⊎◌, ⊎_elim, inl, inr, ℕ, Bool, true, false, eqb, cond, ◌&&◌, Option, Some, None, List, map, refl, ap, sym, ◌∙◌, subst, arith}
use Rattle.std.specs.Prelude.{slice_get, is_none}
use Rattle.std.proofs.lemmas.Bool.{eqb-true, eqb-false, eq-eqb, ne_eqb, and_parts}
use Rattle.txn_rows.specs.declared.rows.Row.{Row}
use Rattle.txn_rows.specs.declared.join.Join.{Join}
use Rattle.txn_rows.specs.declared.group.ParentLink.{ParentLink}
use Rattle.txn_rows.specs.Trees.{row_of}
use Rattle.txn_rows.specs.inside.Rows.{joined}
use Rattle.txn_rows.proofs.LineLemmas.{by_cases, row_of_serial}
use Rattle.txn_rows.proofs.JoinLemmas.{CanJoin, joined_parent, same_row}
use Rattle.txn_groups.specs.declared.link.Linking.{Linking}
use Rattle.txn_groups.specs.declared.node.Node.{Node}
use Rattle.txn_groups.specs.declared.order.Entry.{Entry}
use Rattle.txn_groups.specs.inside.Nodes.{StandsAt, AreNodes, AreNumbered, HasRow, HasChildren, ChildAt}
use Rattle.txn_groups.specs.inside.Linked.{is_place, linked_node, AreLinked, CanLink}
use Rattle.txn_groups.proofs.LinkLemmas.{still_at, before_join, row_is}

-- the link of a row after a join: that of the join, or the one that it had
link_after : (join : Join) (row : Row) (p : ParentLink) → (joined join row).parent ≡ Some p → ((row.serial ≡ join.child) × (p ≡ join.link)) ⊎ ((row.serial ≢ join.child) × (row.parent ≡ Some p))
link_after join row p linked =
    let Goal : Type 0 = ((row.serial ≡ join.child) × (p ≡ join.link)) ⊎ ((row.serial ≢ join.child) × (row.parent ≡ Some p)) in
    by_cases Goal (eqb row.serial join.child)
    (λ t. let e : Some join.link ≡ Some p = sym (joined_parent join row ∙ ap (λ (b : Bool). cond b (Some join.link) row.parent) t) ∙ linked in
    inl (eqb-true row.serial join.child t, (cc)))
    (λ t. inr (eqb-false row.serial join.child t, sym (joined_parent join row ∙ ap (λ (b : Bool). cond b (Some join.link) row.parent) t) ∙ linked))

-- the children of a row after a join
more_children : (join : Join) (row : Row) → row.children ≤ (joined join row).children
more_children join row =
    by_cases (row.children ≤ (joined join row).children) (eqb row.serial join.link.serial)
    (λ t. let e : (joined join row).children ≡ row.children + 1 = ap (λ (b : Bool). cond b (row.children + 1) row.children) t in omega (arith, e))
    (λ t. let e : (joined join row).children ≡ row.children = ap (λ (b : Bool). cond b (row.children + 1) row.children) t in omega (arith, e))

one_more : (join : Join) (row : Row) → row.serial ≡ join.link.serial → (joined join row).children ≡ row.children + 1
one_more join row is = ap (λ (b : Bool). cond b (row.children + 1) row.children) (eq-eqb row.serial join.link.serial is)

pub numbered_after : (rows : List Row) (join : Join) → AreNumbered rows → (c : CanJoin rows join) → join.link.number ≡ c.parent.children → AreNumbered (map (joined join) rows)
numbered_after rows join numbered c number = record {
  below = λ s now above link here linked there.
      let was = before_join join s rows now here in
      let up = before_join join link.serial rows above there in
      let linked_was : (joined join was.0).parent ≡ Some link = ap (λ (r : Row). r.parent) (sym was.2) ∙ linked in
      let less : link.number < (joined join up.0).children = ⊎_elim
      (λ (own : (was.0.serial ≡ join.child) × (link ≡ join.link)).
      let same : up.0 ≡ c.parent = same_row rows join.link.serial up.0 c.parent (ap (λ (k : ParentLink). row_of k.serial rows) (sym own.1) ∙ up.1) c.there in
      omega (arith, number, ap (λ (k : ParentLink). k.number) own.1, ap (λ (r : Row). r.children) same, one_more join up.0 (row_of_serial link.serial rows up.0 up.1 ∙ ap (λ (k : ParentLink). k.serial) own.1)))
      (λ (had : (was.0.serial ≢ join.child) × (was.0.parent ≡ Some link)). omega (arith, numbered.below s was.0 up.0 link was.1 had.1 up.1, more_children join up.0))
      (link_after join was.0 link linked_was) in
      omega (arith, less, ap (λ (r : Row). r.children) up.2);
  apart = λ s t a b p q here_a here_b linked_a linked_b serial same.
      let x = before_join join s rows a here_a in
      let y = before_join join t rows b here_b in
      let link_x : (joined join x.0).parent ≡ Some p = ap (λ (r : Row). r.parent) (sym x.2) ∙ linked_a in
      let link_y : (joined join y.0).parent ≡ Some q = ap (λ (r : Row). r.parent) (sym y.2) ∙ linked_b in
      ⊎_elim
      (λ (own : (x.0.serial ≡ join.child) × (p ≡ join.link)). ⊎_elim
      (λ (own_y : (y.0.serial ≡ join.child) × (q ≡ join.link)). sym (row_of_serial s rows x.0 x.1) ∙ own.0 ∙ sym own_y.0 ∙ row_of_serial t rows y.0 y.1)
      (λ (had : (y.0.serial ≢ join.child) × (y.0.parent ≡ Some q)).
      let there : row_of q.serial rows ≡ Some c.parent = ap (λ (n : ℕ). row_of n rows) (sym serial ∙ ap (λ (k : ParentLink). k.serial) own.1) ∙ c.there in
      absurd (omega (arith, numbered.below t y.0 c.parent q y.1 had.1 there, number, same, ap (λ (k : ParentLink). k.number) own.1)))
      (link_after join y.0 q link_y))
      (λ (had : (x.0.serial ≢ join.child) × (x.0.parent ≡ Some p)). ⊎_elim
      (λ (own_y : (y.0.serial ≡ join.child) × (q ≡ join.link)).
      let there : row_of p.serial rows ≡ Some c.parent = ap (λ (n : ℕ). row_of n rows) (serial ∙ ap (λ (k : ParentLink). k.serial) own_y.1) ∙ c.there in
      absurd (omega (arith, numbered.below s x.0 c.parent p x.1 had.1 there, number, same, ap (λ (k : ParentLink). k.number) own_y.1)))
      (λ (had_y : (y.0.serial ≢ join.child) × (y.0.parent ≡ Some q)). numbered.apart s t x.0 y.0 p q x.1 y.1 had.1 had_y.1 serial same)
      (link_after join y.0 q link_y))
      (link_after join x.0 p link_x);
}

-- two that stand at one place are one
pub one_node : (nodes : List Node) (at place : ℕ) (x y : Node) → StandsAt nodes at x → StandsAt nodes place y → at ≡ place → x ≡ y
one_node nodes at place x y there here is =
    let e : Some x ≡ Some y = sym there.here ∙ ap (slice_get nodes) is ∙ here.here in cc

-- a node that has a parent is not the child of the link, and keeps its parent
not_below : (nodes : List Node) (rows : List Row) (l : Linking) (join : Join) (at : ℕ) (x : Node) (link : ParentLink) → CanLink nodes rows l join → StandsAt nodes at x → x.parent ≡ Some link → eqb at l.below ≡ false
not_below nodes rows l join at x link can there linked = ne_eqb at l.below (λ e.
    let same = one_node nodes at l.below x can.child.node there can.child.there e in
    let f : Some link ≡ None = sym linked ∙ ap (λ (n : Node). n.parent) same ∙ can.alone in absurd (cc))

keeps_parent : (nodes : List Node) (rows : List Row) (l : Linking) (join : Join) (at : ℕ) (x : Node) (link : ParentLink) → CanLink nodes rows l join → StandsAt nodes at x → x.parent ≡ Some link → (linked_node l at x).parent ≡ Some link
keeps_parent nodes rows l join at x link can there linked = ap (λ (b : Bool). cond b (Some l.link) x.parent) (not_below nodes rows l join at x link can there linked) ∙ linked

-- a child stays where it is
child_after : (old new : List Node) (rows : List Row) (l : Linking) (join : Join) (at serial number : ℕ) → CanLink old rows l join → AreLinked l old new → ChildAt old at serial number → ChildAt new at serial number
child_after old new rows l join at serial number can linked child = record {
  node = linked_node l at child.node;
  there = still_at l old new at child.node linked child.there;
  link = child.link;
  linked = keeps_parent old rows l join at child.node child.link can child.there child.linked;
  below = child.below;
  is = child.is;
}

-- the child of the link is the last of its parent
child_new : (old new : List Node) (rows : List Row) (l : Linking) (join : Join) (serial number : ℕ) → (can : CanLink old rows l join) → AreLinked l old new → can.parent.node.serial ≡ serial → can.parent.node.children ≡ number → ChildAt new l.below serial number
child_new old new rows l join serial number can linked is count = record {
  node = linked_node l l.below can.child.node;
  there = still_at l old new l.below can.child.node linked can.child.there;
  link = l.link;
  linked = ap (λ (b : Bool). cond b (Some l.link) can.child.node.parent) (eq-eqb l.below l.below refl);
  below = ap (λ (k : ParentLink). k.serial) (can.link ∙ can.link_is) ∙ is;
  is = ap (λ (k : ParentLink). k.number) (can.link ∙ can.link_is) ∙ count;
}

-- the last child of the parent
elder_cases : (o : Option ℕ) (at : ℕ) → is_place o at ≡ true → o ≡ Some at
elder_cases None at e = absurd (let f : false ≡ true = e in cc)
elder_cases (Some place) at e = ap Some (eqb-true place at e)

none_is : (o : Option ℕ) → is_none o ≡ true → o ≡ None
none_is None e = refl
none_is (Some place) e = absurd (let f : false ≡ true = e in cc)

-- what a test chose
chosen : (b : Bool) (x y at : ℕ) (o : Option ℕ) → cond b (Some x) o ≡ Some at → ((b ≡ true) × (at ≡ x)) ⊎ ((b ≡ false) × (o ≡ Some at))
chosen true x y at o e = inl (refl, (let f : Some x ≡ Some at = e in cc))
chosen false x y at o e = inr (refl, e)

left_none : (b : Bool) (x : ℕ) (o : Option ℕ) → cond b (Some x) o ≡ None → (b ≡ false) × (o ≡ None)
left_none true x o e = absurd (let f : Some x ≡ None = e in cc)
left_none false x o e = (refl, e)

-- the parent of the link has children just where it had a last one
elder_none : (begun : ℕ) (nodes : List Node) (order : List Entry) (rows : List Row) (l : Linking) (join : Join) → AreNodes begun nodes order rows → (can : CanLink nodes rows l join) → (o : Option ℕ) → l.elder ≡ o → can.parent.node.children ≡ 0 → is_none o ≡ true
elder_none begun nodes order rows l join are can None is zero_children = refl
elder_none begun nodes order rows l join are can (Some place) is zero_children =
    let last = (are.children l.above can.parent.node can.parent.there).last place (sym can.elder ∙ is) in
    absurd (omega (arith, last.1, zero_children))

first_after : (begun : ℕ) (old new : List Node) (order : List Entry) (rows : List Row) (l : Linking) (join : Join) (at : ℕ) (x : Node) → AreNodes begun old order rows → CanLink old rows l join → AreLinked l old new → StandsAt old at x → (place : ℕ) → (linked_node l at x).first ≡ Some place → ChildAt new place x.serial 0
first_after begun old new order rows l join at x are can linked there place first = ⊎_elim
    (λ (own : (((eqb at l.above) && is_none l.elder) ≡ true) × (place ≡ l.below)).
    let parts = and_parts (eqb at l.above) (is_none l.elder) own.0 in
    let same : can.parent.node ≡ x = sym (one_node old at l.above x can.parent.node there can.parent.there (eqb-true at l.above parts.0)) in
    let none : can.parent.node.last ≡ None = sym can.elder ∙ none_is l.elder parts.1 in
    subst (λ (p : ℕ). ChildAt new p x.serial 0) (sym own.1) (child_new old new rows l join x.serial 0 can linked (ap (λ (n : Node). n.serial) same) ((are.children l.above can.parent.node can.parent.there).none_last none)))
    (λ (had : (((eqb at l.above) && is_none l.elder) ≡ false) × (x.first ≡ Some place)). child_after old new rows l join place x.serial 0 can linked ((are.children at x there).first place had.1))
    (chosen ((eqb at l.above) && is_none l.elder) l.below 0 place x.first first)

none_after : (begun : ℕ) (old : List Node) (order : List Entry) (rows : List Row) (l : Linking) (join : Join) (at : ℕ) (x : Node) → AreNodes begun old order rows → CanLink old rows l join → StandsAt old at x → (linked_node l at x).first ≡ None → (linked_node l at x).children ≡ 0
none_after begun old order rows l join at x are can there first =
    let had = left_none ((eqb at l.above) && is_none l.elder) l.below x.first first in
    let zero_children : x.children ≡ 0 = (are.children at x there).none had.1 in
    by_cases ((linked_node l at x).children ≡ 0) (eqb at l.above)
    (λ t.
    let same : can.parent.node ≡ x = sym (one_node old at l.above x can.parent.node there can.parent.there (eqb-true at l.above t)) in
    let none = elder_none begun old order rows l join are can l.elder refl (ap (λ (n : Node). n.children) same ∙ zero_children) in
    let both : ((eqb at l.above) && is_none l.elder) ≡ true = rw (t, none) refl in
    let e : true ≡ false = sym both ∙ had.0 in absurd (cc))
    (λ t. ap (λ (b : Bool). cond b (x.children + 1) x.children) t ∙ zero_children)

next_after : (begun : ℕ) (old new : List Node) (order : List Entry) (rows : List Row) (l : Linking) (join : Join) (at : ℕ) (x : Node) → AreNodes begun old order rows → CanLink old rows l join → AreLinked l old new → StandsAt old at x → (place : ℕ) → (linked_node l at x).next ≡ Some place →
    (link : ParentLink) × ((linked_node l at x).parent ≡ Some link) × ChildAt new place link.serial (link.number + 1)
next_after begun old new order rows l join at x are can linked there place next = ⊎_elim
    (λ (own : (is_place l.elder at ≡ true) × (place ≡ l.below)).
    let last = (are.children l.above can.parent.node can.parent.there).last at (sym can.elder ∙ elder_cases l.elder at own.0) in
    let same : last.2.node ≡ x = one_node old at at last.2.node x last.2.there there refl in
    let parent : x.parent ≡ Some last.2.link = ap (λ (n : Node). n.parent) (sym same) ∙ last.2.linked in (
      last.2.link,
      keeps_parent old rows l join at x last.2.link can there parent,
      subst (λ (p : ℕ). ChildAt new p last.2.link.serial (last.2.link.number + 1)) (sym own.1) (child_new old new rows l join last.2.link.serial (last.2.link.number + 1) can linked (sym last.2.below) (omega (arith, last.1, last.2.is))),
    ))
    (λ (had : (is_place l.elder at ≡ false) × (x.next ≡ Some place)).
    let was = (are.children at x there).next place had.1 in
    (was.0, keeps_parent old rows l join at x was.0 can there was.1, child_after old new rows l join place was.0.serial (was.0.number + 1) can linked was.2))
    (chosen (is_place l.elder at) l.below 0 place x.next next)

last_after : (begun : ℕ) (old new : List Node) (order : List Entry) (rows : List Row) (l : Linking) (join : Join) (at : ℕ) (x : Node) → AreNodes begun old order rows → CanLink old rows l join → AreLinked l old new → StandsAt old at x → (place : ℕ) → (linked_node l at x).last ≡ Some place →
    (number : ℕ) × (number + 1 ≡ (linked_node l at x).children) × ChildAt new place x.serial number
last_after begun old new order rows l join at x are can linked there place last = ⊎_elim
    (λ (own : (eqb at l.above ≡ true) × (place ≡ l.below)).
    let same : can.parent.node ≡ x = sym (one_node old at l.above x can.parent.node there can.parent.there (eqb-true at l.above own.0)) in (
      x.children,
      sym (ap (λ (b : Bool). cond b (x.children + 1) x.children) own.0),
      subst (λ (p : ℕ). ChildAt new p x.serial x.children) (sym own.1) (child_new old new rows l join x.serial x.children can linked (ap (λ (n : Node). n.serial) same) (ap (λ (n : Node). n.children) same)),
    ))
    (λ (had : (eqb at l.above ≡ false) × (x.last ≡ Some place)).
    let was = (are.children at x there).last place had.1 in
    (was.0, was.1 ∙ sym (ap (λ (b : Bool). cond b (x.children + 1) x.children) had.0), child_after old new rows l join place x.serial was.0 can linked was.2))
    (chosen (eqb at l.above) l.below 0 place x.last last)

none_last_after : (begun : ℕ) (old : List Node) (order : List Entry) (rows : List Row) (l : Linking) (at : ℕ) (x : Node) → AreNodes begun old order rows → StandsAt old at x → (linked_node l at x).last ≡ None → (linked_node l at x).children ≡ 0
none_last_after begun old order rows l at x are there last =
    let had = left_none (eqb at l.above) l.below x.last last in
    ap (λ (b : Bool). cond b (x.children + 1) x.children) had.0 ∙ (are.children at x there).none_last had.1

-- the last child of the parent of the link, where it had one, is the elder
elder_is : (begun : ℕ) (nodes : List Node) (order : List Entry) (rows : List Row) (l : Linking) (join : Join) (at : ℕ) (x : Node) (link : ParentLink) → AreNodes begun nodes order rows → (can : CanLink nodes rows l join) → StandsAt nodes at x → x.parent ≡ Some link → link.serial ≡ can.parent.node.serial → link.number + 1 ≡ can.parent.node.children → (o : Option ℕ) → l.elder ≡ o → is_place o at ≡ true
elder_is begun nodes order rows l join at x link are can there linked serial number None is = absurd (omega (arith, number, (are.children l.above can.parent.node can.parent.there).none_last (sym can.elder ∙ is)))
elder_is begun nodes order rows l join at x link are can there linked serial number (Some place) is =
    let last = (are.children l.above can.parent.node can.parent.there).last place (sym can.elder ∙ is) in
    let own : HasRow rows x = are.stand.row at x there in
    let other : HasRow rows last.2.node = are.stand.row place last.2.node last.2.there in
    let same : x.serial ≡ last.2.node.serial = are.numbered.apart x.serial last.2.node.serial own.row other.row link last.2.link own.found other.found (ap (λ (r : Row). r.parent) own.is ∙ linked) (ap (λ (r : Row). r.parent) other.is ∙ last.2.linked) (serial ∙ sym last.2.below) (omega (arith, number, last.1, last.2.is)) in
    eq-eqb place at (sym (are.stand.one at place x last.2.node there last.2.there same))

end_after : (begun : ℕ) (old new : List Node) (order : List Entry) (rows : List Row) (l : Linking) (join : Join) (at : ℕ) (x : Node) → AreNodes begun old order rows → (can : CanLink old rows l join) → StandsAt old at x → (linked_node l at x).next ≡ None → (link : ParentLink) (above : Row) → (linked_node l at x).parent ≡ Some link → row_of link.serial (map (joined join) rows) ≡ Some above → link.number + 1 ≡ above.children
end_after begun old new order rows l join at x are can there next link above linked found =
    let had = left_none (is_place l.elder at) l.below x.next next in
    let up = before_join join link.serial rows above found in
    let parent_row = row_is old rows l.above can.parent begun order are.stand in
    let children : can.parent.row.children ≡ can.parent.node.children = ap (λ (r : Row). r.children) parent_row in
    let serial_is : join.link.serial ≡ can.parent.node.serial = ap (λ (k : ParentLink). k.serial) can.link_is in
    let up_serial : up.0.serial ≡ link.serial = row_of_serial link.serial rows up.0 up.1 in
    by_cases (link.number + 1 ≡ above.children) (eqb at l.below)
    (λ t.
    let e : Some l.link ≡ Some link = sym (ap (λ (b : Bool). cond b (Some l.link) x.parent) t) ∙ linked in
    let is : link ≡ record { serial = can.parent.node.serial; vxid = can.parent.node.vxid; number = can.parent.node.children } = (let f : l.link ≡ link = (cc) in sym f ∙ can.link ∙ can.link_is) in
    let serial : link.serial ≡ can.parent.node.serial = ap (λ (k : ParentLink). k.serial) is in
    let same : up.0 ≡ can.parent.row = same_row rows can.parent.node.serial up.0 can.parent.row (ap (λ (n : ℕ). row_of n rows) (sym serial) ∙ up.1) can.parent.found in
    omega (arith, ap (λ (k : ParentLink). k.number) is, children, ap (λ (r : Row). r.children) up.2, one_more join up.0 (up_serial ∙ serial ∙ sym serial_is), ap (λ (r : Row). r.children) same))
    (λ t.
    let linked_was : x.parent ≡ Some link = sym (ap (λ (b : Bool). cond b (Some l.link) x.parent) t) ∙ linked in
    let ends = (are.children at x there).end had.1 link up.0 linked_was up.1 in
    by_cases (link.number + 1 ≡ above.children) (eqb up.0.serial join.link.serial)
    (λ u.
    let serial : link.serial ≡ can.parent.node.serial = sym up_serial ∙ eqb-true up.0.serial join.link.serial u ∙ serial_is in
    let same : up.0 ≡ can.parent.row = same_row rows can.parent.node.serial up.0 can.parent.row (ap (λ (n : ℕ). row_of n rows) (sym serial) ∙ up.1) can.parent.found in
    let place = elder_is begun old order rows l join at x link are can there linked_was serial (ends ∙ ap (λ (r : Row). r.children) same ∙ children) l.elder refl in
    let e : true ≡ false = sym place ∙ had.0 in absurd (cc))
    (λ u. ends ∙ sym (ap (λ (r : Row). r.children) up.2 ∙ ap (λ (b : Bool). cond b (up.0.children + 1) up.0.children) u)))

pub children_after : (begun : ℕ) (old new : List Node) (order : List Entry) (rows : List Row) (l : Linking) (join : Join) (at : ℕ) (x : Node) → AreNodes begun old order rows → CanLink old rows l join → AreLinked l old new → StandsAt old at x → HasChildren new (map (joined join) rows) (linked_node l at x)
children_after begun old new order rows l join at x are can linked there = record {
  first = first_after begun old new order rows l join at x are can linked there;
  none = none_after begun old order rows l join at x are can there;
  next = next_after begun old new order rows l join at x are can linked there;
  end = end_after begun old new order rows l join at x are can there;
  last = last_after begun old new order rows l join at x are can linked there;
  none_last = none_last_after begun old order rows l at x are there;
}
