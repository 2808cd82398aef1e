-- A claim is read from the last nodes of two trees.
use Rattle.std.proofs.Common.{◌≡◌, ◌+◌, ◌<◌, ◌≤◌, ⊎_elim, inl, inr, ℕ, Bool, true, false, not, eqb, cond, ◌&&◌, Option, Some, None, List, [], ◌∷◌, length, refl, ap, sym, ◌∙◌, subst, arith}
use Rattle.std.specs.Prelude.{slice_get, is_none, count_by}
use Rattle.std.proofs.lemmas.List.Sums.{sum_by-cons, count_by-le-length}
use Rattle.txn_rows.specs.declared.rows.Row.{Row}
use Rattle.txn_rows.specs.declared.group.ParentLink.{ParentLink}
use Rattle.txn_rows.specs.declared.join.Join.{Join}
use Rattle.txn_rows.specs.Links.{leads_to}
use Rattle.txn_rows.specs.Trees.{row_of, IsTop, IsBelow}
use Rattle.txn_rows.proofs.LineLemmas.{by_cases}
use Rattle.txn_groups.specs.declared.link.Linking.{Linking}
use Rattle.txn_groups.specs.declared.node.Node.{Node}
use Rattle.txn_groups.specs.declared.order.Entry.{Entry}
use Rattle.txn_groups.specs.inside.Nodes.{StandsAt, AreNodes, HasRow}
use Rattle.txn_groups.specs.inside.Found.{IsLastOf}
use Rattle.txn_groups.specs.inside.Linked.{NodeAt}
use Rattle.txn_groups.specs.inside.Claimed.{can_link, join_of, LinksAs}
use Rattle.txn_groups.proofs.FoundLemmas.{same_node}
use Rattle.txn_groups.proofs.LinkLemmas.{place_is, row_is}
use Rattle.txn_groups.proofs.UpLemmas.{one_row, sizes_within, unended_within}

-- a last node that was read
pub record Last (nodes : List Node) (rows : List Row) (root at : ℕ) (y : Node) : Type 0 where
  pub there : StandsAt nodes at y
  pub row : Row
  pub found : row_of y.serial rows ≡ Some row
  pub last : y.up ≡ at
  pub tree : row.root ≡ root

pub last_read : (nodes : List Node) (rows : List Row) (from at : ℕ) (n : NodeAt nodes rows from) (y : Node) → IsLastOf nodes rows from at → slice_get nodes at ≡ Some y → Last nodes rows n.row.root at y
last_read nodes rows from at n y is read =
    let same = same_node nodes at is.tree.other_node y is.tree.other_there read in
    let own : is.tree.row ≡ n.row = one_row nodes rows from from is.tree.node n.node is.tree.row n.row is.tree.there n.there is.tree.found n.found refl in
    record {
      there = subst (StandsAt nodes at) same is.tree.other_there;
      row = is.tree.other_row;
      found = subst (λ (x : Node). row_of x.serial rows ≡ Some is.tree.other_row) same is.tree.other_found;
      last = ap (λ (x : Node). x.up) (sym same) ∙ is.ends;
      tree = sym is.tree.same ∙ ap (λ (r : Row). r.root) own;
    }

pub last_there : (nodes : List Node) (rows : List Row) (from at : ℕ) → IsLastOf nodes rows from at → slice_get nodes at ≡ None → ⊥
last_there nodes rows from at is read = let e : Some is.tree.other_node ≡ None = sym is.tree.other_there.here ∙ read in absurd (cc)

abbrev node_at : (nodes : List Node) (rows : List Row) (root at : ℕ) (y : Node) → Last nodes rows root at y → NodeAt nodes rows at
node_at nodes rows root at y l = record { node = y; there = l.there; row = l.row; found = l.found }

-- the top of the tree, and whether it is the child
pub top_is : (begun : ℕ) (nodes : List Node) (order : List Entry) (rows : List Row) (root at below : ℕ) (y : Node) (c : NodeAt nodes rows below) → AreNodes begun nodes order rows → Last nodes rows root at y → eqb root c.node.serial ≡ eqb y.top below
top_is begun nodes order rows root at below y c are l =
    let t = (are.up at y l.row l.there l.found).top l.last in
    ap (λ (s : ℕ). eqb s c.node.serial) (sym (t.2 ∙ l.tree)) ∙ place_is begun nodes order rows y.top below t.0 c.node are.stand t.1 c.there

-- a child without a parent is at the top
child_root : (begun : ℕ) (nodes : List Node) (order : List Entry) (rows : List Row) (below : ℕ) (c : NodeAt nodes rows below) → AreNodes begun nodes order rows → c.node.parent ≡ None → c.row.root ≡ c.node.serial
child_root begun nodes order rows below c are alone =
    let is = row_is nodes rows below c begun order are.stand in
    ⊎_elim
    (λ (top : IsTop c.row). top.root ∙ ap (λ (r : Row). r.serial) is)
    (λ (b : IsBelow rows c.row). absurd (let e : Some b.link ≡ None = sym b.linked ∙ ap (λ (r : Row). r.parent) is ∙ alone in cc))
    (are.trees.forest.linked c.node.serial c.row c.found)

abbrev top_at : (begun : ℕ) (nodes : List Node) (order : List Entry) (rows : List Row) (root at : ℕ) (y : Node) → AreNodes begun nodes order rows → Last nodes rows root at y → NodeAt nodes rows y.top
top_at begun nodes order rows root at y are l =
    let t = (are.up at y l.row l.there l.found).top l.last in
    let has : HasRow rows t.0 = are.stand.row y.top t.0 t.1 in
    record { node = t.0; there = t.1; row = has.row; found = has.found }

can_now : (child : Node) (root : ℕ) → child.parent ≡ None → child.ended ≡ false → eqb root child.serial ≡ false → can_link child root ≡ true
can_now child root alone open_child apart = ap (λ (o : Option ParentLink). is_none o && not child.ended && not (eqb root child.serial)) alone ∙ ap (λ (b : Bool). not b && not (eqb root child.serial)) open_child ∙ ap not apart

-- the nodes of both trees are no more than all
pub record SumsWithin (rows : List Row) (y z : Node) : Type 0 where
  pub size : y.size + z.size ≤ length rows
  pub unended : y.unended + z.unended ≤ length rows

pub sums_within : (begun : ℕ) (nodes : List Node) (order : List Entry) (rows : List Row) (below above tree other : ℕ) (c : NodeAt nodes rows below) (p : NodeAt nodes rows above) (y z : Node) → AreNodes begun nodes order rows → c.node.parent ≡ None → eqb y.top below ≡ false → Last nodes rows p.row.root tree y → Last nodes rows c.row.root other z → SumsWithin rows y z
sums_within begun nodes order rows below above tree other c p y z are alone not_top tl cl =
    let apart : eqb p.row.root c.node.serial ≡ false = top_is begun nodes order rows p.row.root tree below y c are tl ∙ not_top in
    let join : Join = join_of c.node p.node p.row in
    let all : ℕ → ℕ = λ n. count_by (λ (r : Row). eqb r.root n) rows in
    let open_ones : ℕ → ℕ = λ n. count_by (λ (r : Row). (eqb r.root n) && not r.ended) rows in
    let child : cl.row.root ≡ c.node.serial = cl.tree ∙ child_root begun nodes order rows below c are alone in
    let above_up = are.up tree y tl.row tl.there tl.found in
    let below_up = are.up other z cl.row cl.there cl.found in
    record {
      size = omega (arith, above_up.size tl.last ∙ ap all tl.tree, below_up.size cl.last ∙ ap all child, sizes_within join apart rows);
      unended = omega (arith, above_up.unended tl.last ∙ ap open_ones tl.tree, below_up.unended cl.last ∙ ap open_ones child, unended_within join apart rows);
    }

-- where one row doesn't pass a test, fewer do than there are
count_less : (f : Row → Bool) (s : ℕ) (rows : List Row) (row : Row) → row_of s rows ≡ Some row → f row ≡ false → count_by f rows < length rows
count_less f s [] row here fails = absurd (let e : None ≡ Some row = here in cc)
count_less f s (first ∷ rows) row here fails =
    let g : Row → ℕ = λ r. cond (f r) 1 0 in
    by_cases (count_by f (first ∷ rows) < length (first ∷ rows)) (eqb first.serial s)
    (λ t.
    let e : Some first ≡ Some row = rw t at here in
    let is : first ≡ row = (cc) in
    let none : g first ≡ 0 = ap g is ∙ ap {B = ℕ} (λ (b : Bool). cond b 1 0) fails in
    omega (arith, sum_by-cons g first rows, none, count_by-le-length f rows))
    (λ t.
    let most : g first ≤ 1 = by_cases (g first ≤ 1) (f first)
    (λ u. let one : g first ≡ 1 = ap {B = ℕ} (λ (b : Bool). cond b 1 0) u in omega (arith, one))
    (λ u. let none : g first ≡ 0 = ap {B = ℕ} (λ (b : Bool). cond b 1 0) u in omega (arith, none)) in
    omega (arith, sum_by-cons g first rows, most, count_less f s rows row (rw t at here) fails))

-- a parent has fewer children than there are rows, where one has no parent
pub children_within : (begun : ℕ) (nodes : List Node) (order : List Entry) (rows : List Row) (below above : ℕ) (c : NodeAt nodes rows below) (p : NodeAt nodes rows above) → AreNodes begun nodes order rows → c.node.parent ≡ None → p.node.children < length rows
children_within begun nodes order rows below above c p are alone =
    let child_is = row_is nodes rows below c begun order are.stand in
    let parent_is = row_is nodes rows above p begun order are.stand in
    let none : leads_to p.row.serial c.row.parent ≡ false = ap (leads_to p.row.serial) (ap (λ (r : Row). r.parent) child_is ∙ alone) in
    omega (arith, ap (λ (r : Row). r.children) parent_is, are.trees.forest.counted p.node.serial p.row p.found, count_less (λ (r : Row). leads_to p.row.serial r.parent) c.node.serial rows c.row c.found none)

-- the link where the child's tree is the lighter
pub links_light : (begun : ℕ) (nodes : List Node) (order : List Entry) (rows : List Row) (below above tree other : ℕ) (c : NodeAt nodes rows below) (p : NodeAt nodes rows above) (y z : Node) → AreNodes begun nodes order rows → c.node.parent ≡ None → c.node.ended ≡ false → eqb y.top below ≡ false → Last nodes rows p.row.root tree y → Last nodes rows c.row.root other z → z.size ≤ y.size →
    LinksAs nodes rows below above c p (Some (record { below = below; above = above; link = record { serial = p.node.serial; vxid = p.node.vxid; number = p.node.children }; children = p.node.children + 1; elder = p.node.last; light = other; heavy = tree; size = y.size + z.size; unended = y.unended + z.unended; top = y.top }))
links_light begun nodes order rows below above tree other c p y z are alone open_child not_top tl cl lighter =
    let apart : eqb p.row.root c.node.serial ≡ false = top_is begun nodes order rows p.row.root tree below y c are tl ∙ not_top in
    let t = (are.up tree y tl.row tl.there tl.found).top tl.last in (
      can_now c.node p.row.root alone open_child apart,
      refl,
      refl,
      record {
        child = c;
        parent = p;
        light = node_at nodes rows c.row.root other z cl;
        heavy = node_at nodes rows p.row.root tree y tl;
        top = top_at begun nodes order rows p.row.root tree y are tl;
        alone = alone;
        child_is = refl;
        link_is = refl;
        link = refl;
        root_is = refl;
        path_is = refl;
        children = refl;
        elder = refl;
        apart = apart;
        ends = inl (cl.tree ∙ child_root begun nodes order rows below c are alone, tl.tree);
        light_last = cl.last;
        heavy_last = tl.last;
        lighter = lighter;
        size = refl;
        unended = refl;
        top_is = t.2 ∙ tl.tree;
      },
    )

-- the link where it is the heavier
pub links_heavy : (begun : ℕ) (nodes : List Node) (order : List Entry) (rows : List Row) (below above tree other : ℕ) (c : NodeAt nodes rows below) (p : NodeAt nodes rows above) (y z : Node) → AreNodes begun nodes order rows → c.node.parent ≡ None → c.node.ended ≡ false → eqb y.top below ≡ false → Last nodes rows p.row.root tree y → Last nodes rows c.row.root other z → y.size ≤ z.size →
    LinksAs nodes rows below above c p (Some (record { below = below; above = above; link = record { serial = p.node.serial; vxid = p.node.vxid; number = p.node.children }; children = p.node.children + 1; elder = p.node.last; light = tree; heavy = other; size = y.size + z.size; unended = y.unended + z.unended; top = y.top }))
links_heavy begun nodes order rows below above tree other c p y z are alone open_child not_top tl cl lighter =
    let apart : eqb p.row.root c.node.serial ≡ false = top_is begun nodes order rows p.row.root tree below y c are tl ∙ not_top in
    let t = (are.up tree y tl.row tl.there tl.found).top tl.last in (
      can_now c.node p.row.root alone open_child apart,
      refl,
      refl,
      record {
        child = c;
        parent = p;
        light = node_at nodes rows p.row.root tree y tl;
        heavy = node_at nodes rows c.row.root other z cl;
        top = top_at begun nodes order rows p.row.root tree y are tl;
        alone = alone;
        child_is = refl;
        link_is = refl;
        link = refl;
        root_is = refl;
        path_is = refl;
        children = refl;
        elder = refl;
        apart = apart;
        ends = inr (tl.tree, cl.tree ∙ child_root begun nodes order rows below c are alone);
        light_last = tl.last;
        heavy_last = cl.last;
        lighter = lighter;
        size = omega arith;
        unended = omega arith;
        top_is = t.2 ∙ tl.tree;
      },
    )

-- a child at the top of the parent's tree can't get it
pub cannot : (child : Node) (root : ℕ) → eqb root child.serial ≡ true → can_link child root ≡ false
cannot child root e =
    by_cases (can_link child root ≡ false) (is_none child.parent)
    (λ t. by_cases (can_link child root ≡ false) child.ended (λ u. rw (t, u) refl) (λ u. rw (t, u, e) refl))
    (λ t. rw t refl)

-- the same links, of what was read
pub links_light_read : (begun : ℕ) (nodes : List Node) (order : List Entry) (rows : List Row) (below above tree other : ℕ) (c : NodeAt nodes rows below) (p : NodeAt nodes rows above) (y z parent : Node) (children size unended : ℕ) → AreNodes begun nodes order rows → c.node.parent ≡ None → c.node.ended ≡ false → eqb y.top below ≡ false → Last nodes rows p.row.root tree y → Last nodes rows c.row.root other z → z.size ≤ y.size →
    p.node ≡ parent → children ≡ parent.children + 1 → size ≡ y.size + z.size → unended ≡ y.unended + z.unended →
    LinksAs nodes rows below above c p (Some (record { below = below; above = above; link = record { serial = parent.serial; vxid = parent.vxid; number = parent.children }; children = children; elder = parent.last; light = other; heavy = tree; size = size; unended = unended; top = y.top }))
links_light_read begun nodes order rows below above tree other c p y z parent children size unended are alone open_child not_top tl cl lighter is children_is size_is unended_is =
    let l : Node → ℕ → ℕ → ℕ → Linking = λ n k s u. record { below = below; above = above; link = record { serial = n.serial; vxid = n.vxid; number = n.children }; children = k; elder = n.last; light = other; heavy = tree; size = s; unended = u; top = y.top } in
    subst (λ (n : Node). LinksAs nodes rows below above c p (Some (l n children size unended))) is
    (subst (λ (k : ℕ). LinksAs nodes rows below above c p (Some (l p.node k size unended))) (sym (children_is ∙ ap (λ (n : Node). n.children + 1) (sym is)))
    (subst (λ (s : ℕ). LinksAs nodes rows below above c p (Some (l p.node (p.node.children + 1) s unended))) (sym size_is)
    (subst (λ (u : ℕ). LinksAs nodes rows below above c p (Some (l p.node (p.node.children + 1) (y.size + z.size) u))) (sym unended_is)
    (links_light begun nodes order rows below above tree other c p y z are alone open_child not_top tl cl lighter))))

pub links_heavy_read : (begun : ℕ) (nodes : List Node) (order : List Entry) (rows : List Row) (below above tree other : ℕ) (c : NodeAt nodes rows below) (p : NodeAt nodes rows above) (y z parent : Node) (children size unended : ℕ) → AreNodes begun nodes order rows → c.node.parent ≡ None → c.node.ended ≡ false → eqb y.top below ≡ false → Last nodes rows p.row.root tree y → Last nodes rows c.row.root other z → y.size ≤ z.size →
    p.node ≡ parent → children ≡ parent.children + 1 → size ≡ y.size + z.size → unended ≡ y.unended + z.unended →
    LinksAs nodes rows below above c p (Some (record { below = below; above = above; link = record { serial = parent.serial; vxid = parent.vxid; number = parent.children }; children = children; elder = parent.last; light = tree; heavy = other; size = size; unended = unended; top = y.top }))
links_heavy_read begun nodes order rows below above tree other c p y z parent children size unended are alone open_child not_top tl cl lighter is children_is size_is unended_is =
    let l : Node → ℕ → ℕ → ℕ → Linking = λ n k s u. record { below = below; above = above; link = record { serial = n.serial; vxid = n.vxid; number = n.children }; children = k; elder = n.last; light = tree; heavy = other; size = s; unended = u; top = y.top } in
    subst (λ (n : Node). LinksAs nodes rows below above c p (Some (l n children size unended))) is
    (subst (λ (k : ℕ). LinksAs nodes rows below above c p (Some (l p.node k size unended))) (sym (children_is ∙ ap (λ (n : Node). n.children + 1) (sym is)))
    (subst (λ (s : ℕ). LinksAs nodes rows below above c p (Some (l p.node (p.node.children + 1) s unended))) (sym size_is)
    (subst (λ (u : ℕ). LinksAs nodes rows below above c p (Some (l p.node (p.node.children + 1) (y.size + z.size) u))) (sym unended_is)
    (links_heavy begun nodes order rows below above tree other c p y z are alone open_child not_top tl cl lighter))))
