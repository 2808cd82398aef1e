-- Where nodes lead up after a link, and the last node of each tree.
use Rattle.std.proofs.Common.{◌≡◌, ◌≢◌, ◌+◌, ◌<◌, ◌≤◌, ◌⊎◌, ⊎_elim, inl, inr, ℕ, Bool, true, false, not, eqb, cond, ◌&&◌, Some, List, [], ◌∷◌, length, map, refl, ap, sym, ◌∙◌, subst, arith}
use Rattle.std.specs.Prelude.{count_by}
use Rattle.std.proofs.lemmas.Bool.{eqb-true, eqb-false, eq-eqb, ne_eqb}
use Rattle.std.proofs.lemmas.List.{length-map}
use Rattle.std.proofs.lemmas.List.Sums.{sum_by-cons, count_by-le-length}
use Rattle.txn_rows.specs.declared.rows.Row.{Row}
use Rattle.txn_rows.specs.declared.join.Join.{Join}
use Rattle.txn_rows.specs.declared.group.ParentLink.{ParentLink}
use Rattle.txn_rows.specs.Trees.{row_of}
use Rattle.txn_rows.specs.inside.Rows.{joined}
use Rattle.txn_rows.proofs.LineLemmas.{by_cases}
use Rattle.txn_rows.proofs.JoinLemmas.{joined_root, root_stays, joined_trees}
use Rattle.txn_groups.specs.declared.link.Linking.{Linking}
use Rattle.txn_groups.specs.declared.node.Node.{Node}
use Rattle.txn_groups.specs.declared.order.Entry.{Entry}
use Rattle.txn_groups.specs.inside.Nodes.{StandsAt, AreNodes, HasChildren, HasKin, LeadsUp, HaveOneLast}
use Rattle.txn_groups.specs.inside.Linked.{linked_node, AreLinked, CanLink}
use Rattle.txn_groups.proofs.LinkLemmas.{was_at, still_at, found_after, before_join, row_is, joins, stand_after}
use Rattle.txn_groups.proofs.ChildrenLemmas.{one_node, numbered_after, children_after}

-- a row's end is kept
joined_ended : (join : Join) (row : Row) → (joined join row).ended ≡ row.ended
joined_ended join row = refl

-- a count of the rows of a tree that pass a test
abbrev Kept : Join → (Row → Bool → Bool) → Type 0
Kept join g = ((row : Row) (b : Bool) → g (joined join row) b ≡ g row b) × ((row : Row) → g row false ≡ false)

count_two : (join : Join) (g : Row → Bool → Bool) → Kept join g → eqb join.root join.child ≡ false → (rows : List Row) → count_by (λ (r : Row). g r (eqb r.root join.root)) (map (joined join) rows) ≡ count_by (λ (r : Row). g r (eqb r.root join.root)) rows + count_by (λ (r : Row). g r (eqb r.root join.child)) rows
count_two join g kept apart [] = refl
count_two join g kept apart (row ∷ rows) =
    let ih = count_two join g kept apart rows in
    let p : Row → ℕ = λ r. cond (g r (eqb r.root join.root)) 1 0 in
    let q : Row → ℕ = λ r. cond (g r (eqb r.root join.child)) 1 0 in
    let one : p (joined join row) ≡ p row + q row =
    by_cases (p (joined join row) ≡ p row + q row) (eqb row.root join.child)
    (λ t.
    let other : eqb row.root join.root ≡ false = ne_eqb row.root join.root (λ e. eqb-false join.root join.child apart (sym e ∙ eqb-true row.root join.child t)) in
    let now : eqb (joined join row).root join.root ≡ true = eq-eqb (joined join row).root join.root (joined_root join row ∙ ap (λ (b : Bool). cond b join.root row.root) t) in
    let a : p (joined join row) ≡ cond (g row true) 1 0 = ap (λ (b : Bool). cond (g (joined join row) b) 1 0) now ∙ ap {B = ℕ} (λ (b : Bool). cond b 1 0) (kept.0 row true) in
    let b : p row ≡ 0 = ap (λ (b : Bool). cond (g row b) 1 0) other ∙ ap {B = ℕ} (λ (b : Bool). cond b 1 0) (kept.1 row) in
    let d : q row ≡ cond (g row true) 1 0 = ap (λ (b : Bool). cond (g row b) 1 0) t in
    omega (arith, a, b, d))
    (λ t.
    let a : p (joined join row) ≡ p row = ap (λ (n : ℕ). cond (g (joined join row) (eqb n join.root)) 1 0) (root_stays join row t) ∙ ap {B = ℕ} (λ (b : Bool). cond b 1 0) (kept.0 row (eqb row.root join.root)) in
    let d : q row ≡ 0 = ap (λ (b : Bool). cond (g row b) 1 0) t ∙ ap {B = ℕ} (λ (b : Bool). cond b 1 0) (kept.1 row) in
    omega (arith, a, d)) in
    omega (arith, ih, sum_by-cons p row rows, sum_by-cons q row rows, sum_by-cons p (joined join row) (map (joined join) rows), one)

count_stays : (join : Join) (g : Row → Bool → Bool) (x : ℕ) → Kept join g → eqb join.child x ≡ false → eqb join.root x ≡ false → (rows : List Row) → count_by (λ (r : Row). g r (eqb r.root x)) (map (joined join) rows) ≡ count_by (λ (r : Row). g r (eqb r.root x)) rows
count_stays join g x kept child root [] = refl
count_stays join g x kept child root (row ∷ rows) =
    let ih = count_stays join g x kept child root rows in
    let p : Row → ℕ = λ r. cond (g r (eqb r.root x)) 1 0 in
    let one : p (joined join row) ≡ p row =
    by_cases (p (joined join row) ≡ p row) (eqb row.root join.child)
    (λ t.
    let was : eqb row.root x ≡ false = ap (λ (n : ℕ). eqb n x) (eqb-true row.root join.child t) ∙ child in
    let now : eqb (joined join row).root x ≡ false = ap (λ (n : ℕ). eqb n x) (joined_root join row ∙ ap (λ (b : Bool). cond b join.root row.root) t) ∙ root in
    let a : p (joined join row) ≡ 0 = ap (λ (b : Bool). cond (g (joined join row) b) 1 0) now ∙ ap {B = ℕ} (λ (b : Bool). cond b 1 0) (kept.0 row false ∙ kept.1 row) in
    let b : p row ≡ 0 = ap (λ (b : Bool). cond (g row b) 1 0) was ∙ ap {B = ℕ} (λ (b : Bool). cond b 1 0) (kept.1 row) in
    omega (arith, a, b))
    (λ t. ap (λ (n : ℕ). cond (g (joined join row) (eqb n x)) 1 0) (root_stays join row t) ∙ ap {B = ℕ} (λ (b : Bool). cond b 1 0) (kept.0 row (eqb row.root x))) in
    omega (arith, ih, sum_by-cons p row rows, sum_by-cons p (joined join row) (map (joined join) rows), one)

-- all, and those that have not ended
abbrev in_all : Row → Bool → Bool
in_all row b = b

abbrev in_unended : Row → Bool → Bool
in_unended row b = b && not row.ended

all_kept : (join : Join) → Kept join in_all
all_kept join = (λ row b. refl, λ row. refl)

unended_kept : (join : Join) → Kept join in_unended
unended_kept join = (λ row b. ap (λ (e : Bool). b && not e) (joined_ended join row), λ row. refl)

-- two trees have no more such rows than there are
both_within : (join : Join) (g : Row → Bool → Bool) → Kept join g → eqb join.root join.child ≡ false → (rows : List Row) → count_by (λ (r : Row). g r (eqb r.root join.root)) rows + count_by (λ (r : Row). g r (eqb r.root join.child)) rows ≤ length rows
both_within join g kept apart rows = omega (arith, count_two join g kept apart rows, count_by-le-length (λ (r : Row). g r (eqb r.root join.root)) (map (joined join) rows), length-map rows (joined join))

pub sizes_within : (join : Join) → eqb join.root join.child ≡ false → (rows : List Row) → count_by (λ (r : Row). eqb r.root join.root) rows + count_by (λ (r : Row). eqb r.root join.child) rows ≤ length rows
sizes_within join apart rows = both_within join in_all (all_kept join) apart rows

pub unended_within : (join : Join) → eqb join.root join.child ≡ false → (rows : List Row) → count_by (λ (r : Row). (eqb r.root join.root) && not r.ended) rows + count_by (λ (r : Row). (eqb r.root join.child) && not r.ended) rows ≤ length rows
unended_within join apart rows = both_within join in_unended (unended_kept join) apart rows

-- no tree has fewer rows
tree_grows : (join : Join) → eqb join.root join.child ≡ false → (row : Row) (rows : List Row) → count_by (λ (r : Row). eqb r.root row.root) rows ≤ count_by (λ (r : Row). eqb r.root (joined join row).root) (map (joined join) rows)
tree_grows join apart row rows =
    let now : ℕ → ℕ = λ n. count_by (λ (r : Row). eqb r.root n) (map (joined join) rows) in
    let old : ℕ → ℕ = λ n. count_by (λ (r : Row). eqb r.root n) rows in
    let two : now join.root ≡ old join.root + old join.child = count_two join in_all (all_kept join) apart rows in
    by_cases (old row.root ≤ now (joined join row).root) (eqb row.root join.child)
    (λ t. omega (arith, two, ap old (eqb-true row.root join.child t), ap now (joined_root join row ∙ ap (λ (b : Bool). cond b join.root row.root) t)))
    (λ t.
    let same : now (joined join row).root ≡ now row.root = ap now (root_stays join row t) in
    by_cases (old row.root ≤ now (joined join row).root) (eqb row.root join.root)
    (λ u. omega (arith, same, two, ap old (eqb-true row.root join.root u), ap now (eqb-true row.root join.root u)))
    (λ u.
    let stays : now row.root ≡ old row.root = count_stays join in_all row.root (all_kept join) (ne_eqb join.child row.root (λ e. eqb-false row.root join.child t (sym e))) (ne_eqb join.root row.root (λ e. eqb-false row.root join.root u (sym e))) rows in
    omega (arith, same, stays)))

-- a row of one of the trees that join is of the whole
merged_root : (join : Join) (row : Row) → (row.root ≡ join.child) ⊎ (row.root ≡ join.root) → (joined join row).root ≡ join.root
merged_root join row which = ⊎_elim
    (λ (e : row.root ≡ join.child). joined_root join row ∙ ap (λ (b : Bool). cond b join.root row.root) (eq-eqb row.root join.child e))
    (λ (e : row.root ≡ join.root). by_cases ((joined join row).root ≡ join.root) (eqb row.root join.child)
    (λ t. joined_root join row ∙ ap (λ (b : Bool). cond b join.root row.root) t)
    (λ t. root_stays join row t ∙ e))
    which

-- what is known of the two last nodes
record Ends (nodes : List Node) (rows : List Row) (l : Linking) (join : Join) (can : CanLink nodes rows l join) : Type 0 where
  light_in : (can.light.row.root ≡ join.child) ⊎ (can.light.row.root ≡ join.root)
  heavy_in : (can.heavy.row.root ≡ join.child) ⊎ (can.heavy.row.root ≡ join.root)
  differ : can.light.row.root ≡ can.heavy.row.root → ⊥
  root_apart : eqb join.root join.child ≡ false

ends_of : (nodes : List Node) (rows : List Row) (l : Linking) (join : Join) (can : CanLink nodes rows l join) → Ends nodes rows l join can
ends_of nodes rows l join can =
    let c : can.child.node.serial ≡ join.child = sym can.child_is in
    let p : can.parent.row.root ≡ join.root = sym can.root_is in
    let apart : can.parent.row.root ≢ can.child.node.serial = eqb-false can.parent.row.root can.child.node.serial can.apart in
    let root_apart : eqb join.root join.child ≡ false = ne_eqb join.root join.child (λ e. apart (p ∙ e ∙ can.child_is)) in
    ⊎_elim
    (λ (e : (can.light.row.root ≡ can.child.node.serial) × (can.heavy.row.root ≡ can.parent.row.root)). record {
      light_in = inl (e.0 ∙ c);
      heavy_in = inr (e.1 ∙ p);
      differ = λ same. apart (sym e.1 ∙ sym same ∙ e.0);
      root_apart = root_apart;
    })
    (λ (e : (can.light.row.root ≡ can.parent.row.root) × (can.heavy.row.root ≡ can.child.node.serial)). record {
      light_in = inr (e.0 ∙ p);
      heavy_in = inl (e.1 ∙ c);
      differ = λ same. apart (sym e.0 ∙ same ∙ e.1);
      root_apart = root_apart;
    })
    can.ends

-- nodes at one place have one row
pub one_row : (nodes : List Node) (rows : List Row) (at place : ℕ) (x y : Node) (row other : Row) → StandsAt nodes at x → StandsAt nodes place y → row_of x.serial rows ≡ Some row → row_of y.serial rows ≡ Some other → at ≡ place → row ≡ other
one_row nodes rows at place x y row other there here found found_other is =
    let same = one_node nodes at place x y there here is in
    let e : Some row ≡ Some other = sym found ∙ ap (λ (n : Node). row_of n.serial rows) same ∙ found_other in cc

-- the last nodes stand at two places
two_places : (nodes : List Node) (rows : List Row) (l : Linking) (join : Join) (can : CanLink nodes rows l join) → l.light ≡ l.heavy → ⊥
two_places nodes rows l join can e =
    (ends_of nodes rows l join can).differ (ap (λ (r : Row). r.root) (one_row nodes rows l.light l.heavy can.light.node can.heavy.node can.light.row can.heavy.row can.light.there can.heavy.there can.light.found can.heavy.found e))

-- after the join the lighter is not a last node
light_up : (l : Linking) (at : ℕ) (x : Node) → at ≡ l.light → (linked_node l at x).up ≡ l.heavy
light_up l at x e = ap (λ (b : Bool). cond b l.heavy x.up) (eq-eqb at l.light e)

other_up : (l : Linking) (at : ℕ) (x : Node) → eqb at l.light ≡ false → (linked_node l at x).up ≡ x.up
other_up l at x t = ap (λ (b : Bool). cond b l.heavy x.up) t

-- a node whose size is not less than before
size_grows : (nodes : List Node) (rows : List Row) (l : Linking) (join : Join) (at : ℕ) (x : Node) → (can : CanLink nodes rows l join) → StandsAt nodes at x → x.size ≤ (linked_node l at x).size
size_grows nodes rows l join at x can there =
    by_cases (x.size ≤ (linked_node l at x).size) (eqb at l.heavy)
    (λ t. let now : (linked_node l at x).size ≡ l.size = ap (λ (b : Bool). cond b l.size x.size) t in
    let same = one_node nodes at l.heavy x can.heavy.node there can.heavy.there (eqb-true at l.heavy t) in
    omega (arith, now, can.size, ap (λ (n : Node). n.size) same))
    (λ t. let now : (linked_node l at x).size ≡ x.size = ap (λ (b : Bool). cond b l.size x.size) t in omega (arith, now))

-- the whole tree has the nodes of both
both_counts : (old : List Node) (rows : List Row) (l : Linking) (join : Join) (can : CanLink old rows l join) (g : Row → Bool → Bool) (light heavy : ℕ) → Kept join g → light ≡ count_by (λ (r : Row). g r (eqb r.root can.light.row.root)) rows → heavy ≡ count_by (λ (r : Row). g r (eqb r.root can.heavy.row.root)) rows →
    heavy + light ≡ count_by (λ (r : Row). g r (eqb r.root join.root)) (map (joined join) rows)
both_counts old rows l join can g light heavy kept light_is heavy_is =
    let c : can.child.node.serial ≡ join.child = sym can.child_is in
    let p : can.parent.row.root ≡ join.root = sym can.root_is in
    let count : ℕ → ℕ = λ n. count_by (λ (r : Row). g r (eqb r.root n)) rows in
    let two = count_two join g kept (ends_of old rows l join can).root_apart rows in
    ⊎_elim
    (λ (e : (can.light.row.root ≡ can.child.node.serial) × (can.heavy.row.root ≡ can.parent.row.root)).
    let a : light ≡ count join.child = light_is ∙ ap count (e.0 ∙ c) in
    let b : heavy ≡ count join.root = heavy_is ∙ ap count (e.1 ∙ p) in
    omega (arith, a, b, two))
    (λ (e : (can.light.row.root ≡ can.parent.row.root) × (can.heavy.row.root ≡ can.child.node.serial)).
    let a : light ≡ count join.root = light_is ∙ ap count (e.0 ∙ p) in
    let b : heavy ≡ count join.child = heavy_is ∙ ap count (e.1 ∙ c) in
    omega (arith, a, b, two))
    can.ends

-- the lighter last node leads to the heavier
light_after : (begun : ℕ) (old new : List Node) (order : List Entry) (rows : List Row) (l : Linking) (join : Join) (at : ℕ) (x : Node) (row : Row) → AreNodes begun old order rows → (can : CanLink old rows l join) → AreLinked l old new → StandsAt old at x → row_of x.serial rows ≡ Some row → at ≡ l.light → LeadsUp new (map (joined join) rows) at (linked_node l at x) (joined join row)
light_after begun old new order rows l join at x row are can linked there found is =
    let ends = ends_of old rows l join can in
    let up = are.up at x row there found in
    let heavy_up = are.up l.heavy can.heavy.node can.heavy.row can.heavy.there can.heavy.found in
    let same = one_node old at l.light x can.light.node there can.light.there is in
    let own : row ≡ can.light.row = one_row old rows at l.light x can.light.node row can.light.row there can.light.there found can.light.found is in
    let to : (linked_node l at x).up ≡ l.heavy = light_up l at x is in
    let apart : eqb at l.heavy ≡ false = ne_eqb at l.heavy (λ e. two_places old rows l join can (sym is ∙ e)) in
    let size : (linked_node l at x).size ≡ x.size = ap (λ (b : Bool). cond b l.size x.size) apart in
    let heavy_size : (linked_node l l.heavy can.heavy.node).size ≡ l.size = ap (λ (b : Bool). cond b l.size can.heavy.node.size) (eq-eqb l.heavy l.heavy refl) in
    let root : (joined join row).root ≡ join.root = merged_root join row (subst (λ (r : Row). (r.root ≡ join.child) ⊎ (r.root ≡ join.root)) (sym own) ends.light_in) in
    let light_up_was = are.up l.light can.light.node can.light.row can.light.there can.light.found in
    let all : can.heavy.node.size + can.light.node.size ≡ count_by (λ (r : Row). eqb r.root join.root) (map (joined join) rows) =
    both_counts old rows l join can in_all can.light.node.size can.heavy.node.size (all_kept join) (light_up_was.size can.light_last) (heavy_up.size can.heavy_last) in
    let no : (linked_node l at x).up ≡ at → ⊥ = λ e. two_places old rows l join can (sym (sym to ∙ e ∙ is)) in
    record {
      above = linked_node l l.heavy can.heavy.node;
      there = subst (λ (p : ℕ). StandsAt new p (linked_node l l.heavy can.heavy.node)) (sym to) (still_at l old new l.heavy can.heavy.node linked can.heavy.there);
      above_row = joined join can.heavy.row;
      found = found_after join can.heavy.node.serial rows can.heavy.row can.heavy.found;
      root = merged_root join can.heavy.row ends.heavy_in ∙ sym (merged_root join row (subst (λ (r : Row). (r.root ≡ join.child) ⊎ (r.root ≡ join.root)) (sym own) ends.light_in));
      more = λ other. omega (arith, size, heavy_size, can.size, heavy_up.some, ap (λ (n : Node). n.size) same);
      some = omega (arith, size, up.some);
      few = omega (arith, size, can.size, all, ap (λ (n : Node). n.size) same, ap (λ (n : ℕ). count_by (λ (r : Row). eqb r.root n) (map (joined join) rows)) root);
      size = λ e. absurd (no e);
      unended = λ e. absurd (no e);
      top = λ e. absurd (no e);
    }

-- the heavier last node is the last of the whole
heavy_after : (begun : ℕ) (old new : List Node) (order : List Entry) (rows : List Row) (l : Linking) (join : Join) (at : ℕ) (x : Node) (row : Row) → AreNodes begun old order rows → (can : CanLink old rows l join) → AreLinked l old new → StandsAt old at x → row_of x.serial rows ≡ Some row → at ≡ l.heavy → LeadsUp new (map (joined join) rows) at (linked_node l at x) (joined join row)
heavy_after begun old new order rows l join at x row are can linked there found is =
    let ends = ends_of old rows l join can in
    let up = are.up at x row there found in
    let light_up_was = are.up l.light can.light.node can.light.row can.light.there can.light.found in
    let heavy_up_was = are.up l.heavy can.heavy.node can.heavy.row can.heavy.there can.heavy.found in
    let same = one_node old at l.heavy x can.heavy.node there can.heavy.there is in
    let own : row ≡ can.heavy.row = one_row old rows at l.heavy x can.heavy.node row can.heavy.row there can.heavy.there found can.heavy.found is in
    let here : eqb at l.heavy ≡ true = eq-eqb at l.heavy is in
    let apart : eqb at l.light ≡ false = ne_eqb at l.light (λ e. two_places old rows l join can (sym e ∙ is)) in
    let to : (linked_node l at x).up ≡ x.up = other_up l at x apart in
    let last : x.up ≡ at = ap (λ (n : Node). n.up) same ∙ can.heavy_last ∙ sym is in
    let size : (linked_node l at x).size ≡ l.size = ap (λ (b : Bool). cond b l.size x.size) here in
    let unended : (linked_node l at x).unended ≡ l.unended = ap (λ (b : Bool). cond b l.unended x.unended) here in
    let top : (linked_node l at x).top ≡ l.top = ap (λ (b : Bool). cond b l.top x.top) here in
    let root : (joined join row).root ≡ join.root = merged_root join row (subst (λ (r : Row). (r.root ≡ join.child) ⊎ (r.root ≡ join.root)) (sym own) ends.heavy_in) in
    let all : l.size ≡ count_by (λ (r : Row). eqb r.root join.root) (map (joined join) rows) =
    can.size ∙ both_counts old rows l join can in_all can.light.node.size can.heavy.node.size (all_kept join) (light_up_was.size can.light_last) (heavy_up_was.size can.heavy_last) in
    let open_all : l.unended ≡ count_by (λ (r : Row). (eqb r.root join.root) && not r.ended) (map (joined join) rows) =
    can.unended ∙ both_counts old rows l join can in_unended can.light.node.unended can.heavy.node.unended (unended_kept join) (light_up_was.unended can.light_last) (heavy_up_was.unended can.heavy_last) in
    record {
      above = linked_node l x.up up.above;
      there = subst (λ (p : ℕ). StandsAt new p (linked_node l x.up up.above)) (sym to) (still_at l old new x.up up.above linked up.there);
      above_row = joined join up.above_row;
      found = found_after join up.above.serial rows up.above_row up.found;
      root = joined_root join up.above_row ∙ ap (λ (n : ℕ). cond (eqb n join.child) join.root n) up.root ∙ sym (joined_root join row);
      more = λ other. absurd (other (to ∙ last));
      some = omega (arith, size, can.size, heavy_up_was.some);
      few = omega (arith, size, all, ap (λ (n : ℕ). count_by (λ (r : Row). eqb r.root n) (map (joined join) rows)) root);
      size = λ e. size ∙ all ∙ ap (λ (n : ℕ). count_by (λ (r : Row). eqb r.root n) (map (joined join) rows)) (sym root);
      unended = λ e. unended ∙ open_all ∙ ap (λ (n : ℕ). count_by (λ (r : Row). (eqb r.root n) && not r.ended) (map (joined join) rows)) (sym root);
      top = λ e. (linked_node l l.top can.top.node, subst (λ (p : ℕ). StandsAt new p (linked_node l l.top can.top.node)) (sym top) (still_at l old new l.top can.top.node linked can.top.there), can.top_is ∙ sym can.root_is ∙ sym root);
    }

-- the last node of a tree that joins is one of the two
last_is : (begun : ℕ) (old : List Node) (order : List Entry) (rows : List Row) (l : Linking) (join : Join) (at : ℕ) (x : Node) (row : Row) → AreNodes begun old order rows → (can : CanLink old rows l join) → StandsAt old at x → row_of x.serial rows ≡ Some row → x.up ≡ at → (row.root ≡ join.child) ⊎ (row.root ≡ join.root) → (at ≡ l.light) ⊎ (at ≡ l.heavy)
last_is begun old order rows l join at x row are can there found last which =
    let ends = ends_of old rows l join can in
    let to_light : row.root ≡ can.light.row.root → (at ≡ l.light) ⊎ (at ≡ l.heavy) = λ e. inl (are.last at l.light x can.light.node row can.light.row there can.light.there found can.light.found last can.light_last e) in
    let to_heavy : row.root ≡ can.heavy.row.root → (at ≡ l.light) ⊎ (at ≡ l.heavy) = λ e. inr (are.last at l.heavy x can.heavy.node row can.heavy.row there can.heavy.there found can.heavy.found last can.heavy_last e) in
    let c : can.child.node.serial ≡ join.child = sym can.child_is in
    let p : can.parent.row.root ≡ join.root = sym can.root_is in
    ⊎_elim
    (λ (e : (can.light.row.root ≡ can.child.node.serial) × (can.heavy.row.root ≡ can.parent.row.root)). ⊎_elim
    (λ (own : row.root ≡ join.child). to_light (own ∙ sym (e.0 ∙ c)))
    (λ (own : row.root ≡ join.root). to_heavy (own ∙ sym (e.1 ∙ p)))
    which)
    (λ (e : (can.light.row.root ≡ can.parent.row.root) × (can.heavy.row.root ≡ can.child.node.serial)). ⊎_elim
    (λ (own : row.root ≡ join.child). to_heavy (own ∙ sym (e.1 ∙ c)))
    (λ (own : row.root ≡ join.root). to_light (own ∙ sym (e.0 ∙ p)))
    which)
    can.ends

-- every other node leads up as before
other_after : (begun : ℕ) (old new : List Node) (order : List Entry) (rows : List Row) (l : Linking) (join : Join) (at : ℕ) (x : Node) (row : Row) → AreNodes begun old order rows → (can : CanLink old rows l join) → AreLinked l old new → StandsAt old at x → row_of x.serial rows ≡ Some row → eqb at l.light ≡ false → eqb at l.heavy ≡ false → LeadsUp new (map (joined join) rows) at (linked_node l at x) (joined join row)
other_after begun old new order rows l join at x row are can linked there found not_light not_heavy =
    let ends = ends_of old rows l join can in
    let up = are.up at x row there found in
    let to : (linked_node l at x).up ≡ x.up = other_up l at x not_light in
    let size : (linked_node l at x).size ≡ x.size = ap (λ (b : Bool). cond b l.size x.size) not_heavy in
    let unended : (linked_node l at x).unended ≡ x.unended = ap (λ (b : Bool). cond b l.unended x.unended) not_heavy in
    let top : (linked_node l at x).top ≡ x.top = ap (λ (b : Bool). cond b l.top x.top) not_heavy in
    let outside : x.up ≡ at → ((row.root ≡ join.child) ⊎ (row.root ≡ join.root)) → ⊥ = λ last which. ⊎_elim
    (λ (e : at ≡ l.light). eqb-false at l.light not_light e)
    (λ (e : at ≡ l.heavy). eqb-false at l.heavy not_heavy e)
    (last_is begun old order rows l join at x row are can there found last which) in
    let not_child : x.up ≡ at → eqb join.child row.root ≡ false = λ last. ne_eqb join.child row.root (λ e. outside last (inl (sym e))) in
    let not_root : x.up ≡ at → eqb join.root row.root ≡ false = λ last. ne_eqb join.root row.root (λ e. outside last (inr (sym e))) in
    let root : x.up ≡ at → (joined join row).root ≡ row.root = λ last. root_stays join row (ne_eqb row.root join.child (λ e. outside last (inl e))) in
    record {
      above = linked_node l x.up up.above;
      there = subst (λ (p : ℕ). StandsAt new p (linked_node l x.up up.above)) (sym to) (still_at l old new x.up up.above linked up.there);
      above_row = joined join up.above_row;
      found = found_after join up.above.serial rows up.above_row up.found;
      root = joined_root join up.above_row ∙ ap (λ (n : ℕ). cond (eqb n join.child) join.root n) up.root ∙ sym (joined_root join row);
      more = λ other. omega (arith, size, up.more (λ e. other (to ∙ e)), size_grows old rows l join x.up up.above can up.there);
      some = omega (arith, size, up.some);
      few = omega (arith, size, up.few, tree_grows join ends.root_apart row rows);
      size = λ e.
          let last : x.up ≡ at = sym to ∙ e in
          size ∙ up.size last ∙ sym (count_stays join in_all row.root (all_kept join) (not_child last) (not_root last) rows) ∙ ap (λ (n : ℕ). count_by (λ (r : Row). eqb r.root n) (map (joined join) rows)) (sym (root last));
      unended = λ e.
          let last : x.up ≡ at = sym to ∙ e in
          unended ∙ up.unended last ∙ sym (count_stays join in_unended row.root (unended_kept join) (not_child last) (not_root last) rows) ∙ ap (λ (n : ℕ). count_by (λ (r : Row). (eqb r.root n) && not r.ended) (map (joined join) rows)) (sym (root last));
      top = λ e.
          let last : x.up ≡ at = sym to ∙ e in
          let was = up.top last in
          (linked_node l x.top was.0, subst (λ (p : ℕ). StandsAt new p (linked_node l x.top was.0)) (sym top) (still_at l old new x.top was.0 linked was.1), was.2 ∙ sym (root last));
    }

pub up_after : (begun : ℕ) (old new : List Node) (order : List Entry) (rows : List Row) (l : Linking) (join : Join) (at : ℕ) (x : Node) (row : Row) → AreNodes begun old order rows → CanLink old rows l join → AreLinked l old new → StandsAt old at x → row_of x.serial rows ≡ Some row → LeadsUp new (map (joined join) rows) at (linked_node l at x) (joined join row)
up_after begun old new order rows l join at x row are can linked there found =
    let Goal : Type 0 = LeadsUp new (map (joined join) rows) at (linked_node l at x) (joined join row) in
    by_cases Goal (eqb at l.light)
    (λ t. light_after begun old new order rows l join at x row are can linked there found (eqb-true at l.light t))
    (λ t. by_cases Goal (eqb at l.heavy)
    (λ u. heavy_after begun old new order rows l join at x row are can linked there found (eqb-true at l.heavy u))
    (λ u. other_after begun old new order rows l join at x row are can linked there found t u))

-- a node that is last after the join was last before, and is not the lighter
was_last : (nodes : List Node) (rows : List Row) (l : Linking) (join : Join) (at : ℕ) (x : Node) → CanLink nodes rows l join → (linked_node l at x).up ≡ at → (x.up ≡ at) × (at ≢ l.light)
was_last nodes rows l join at x can last =
    by_cases ((x.up ≡ at) × (at ≢ l.light)) (eqb at l.light)
    (λ t. let e = eqb-true at l.light t in absurd (two_places nodes rows l join can (sym e ∙ sym last ∙ light_up l at x e)))
    (λ t. (sym (other_up l at x t) ∙ last, eqb-false at l.light t))

-- roots that are one after the join were one, or those of the two trees
roots_were : (join : Join) (a b : Row) → (joined join a).root ≡ (joined join b).root → (a.root ≡ b.root) ⊎ (((a.root ≡ join.child) ⊎ (a.root ≡ join.root)) × ((b.root ≡ join.child) ⊎ (b.root ≡ join.root)))
roots_were join a b same =
    let Goal : Type 0 = (a.root ≡ b.root) ⊎ (((a.root ≡ join.child) ⊎ (a.root ≡ join.root)) × ((b.root ≡ join.child) ⊎ (b.root ≡ join.root))) in
    by_cases Goal (eqb a.root join.child)
    (λ t. by_cases Goal (eqb b.root join.child)
    (λ u. inl (eqb-true a.root join.child t ∙ sym (eqb-true b.root join.child u)))
    (λ u. inr (inl (eqb-true a.root join.child t), inr (sym (root_stays join b u) ∙ sym same ∙ joined_root join a ∙ ap (λ (x : Bool). cond x join.root a.root) t))))
    (λ t. by_cases Goal (eqb b.root join.child)
    (λ u. inr (inr (sym (root_stays join a t) ∙ same ∙ joined_root join b ∙ ap (λ (x : Bool). cond x join.root b.root) u), inl (eqb-true b.root join.child u)))
    (λ u. inl (sym (root_stays join a t) ∙ same ∙ root_stays join b u)))

pub one_last_after : (begun : ℕ) (old new : List Node) (order : List Entry) (rows : List Row) (l : Linking) (join : Join) → AreNodes begun old order rows → CanLink old rows l join → AreLinked l old new → HaveOneLast new (map (joined join) rows)
one_last_after begun old new order rows l join are can linked = λ at other y z row other_row there here found found_other last last_other same.
    let a = was_at l old new at y linked there in
    let b = was_at l old new other z linked here in
    let x = before_join join y.serial rows row found in
    let w = before_join join z.serial rows other_row found_other in
    let found_x : row_of a.node.serial rows ≡ Some x.0 = ap (λ (n : Node). row_of n.serial rows) (sym a.is) ∙ x.1 in
    let found_w : row_of b.node.serial rows ≡ Some w.0 = ap (λ (n : Node). row_of n.serial rows) (sym b.is) ∙ w.1 in
    let at_last = was_last old rows l join at a.node can (ap (λ (n : Node). n.up) (sym a.is) ∙ last) in
    let other_last = was_last old rows l join other b.node can (ap (λ (n : Node). n.up) (sym b.is) ∙ last_other) in
    ⊎_elim
    (λ (e : x.0.root ≡ w.0.root). are.last at other a.node b.node x.0 w.0 a.there b.there found_x found_w at_last.0 other_last.0 e)
    (λ (e : ((x.0.root ≡ join.child) ⊎ (x.0.root ≡ join.root)) × ((w.0.root ≡ join.child) ⊎ (w.0.root ≡ join.root))).
    ⊎_elim (λ (f : at ≡ l.light). absurd (at_last.1 f)) (λ (f : at ≡ l.heavy).
    ⊎_elim (λ (g : other ≡ l.light). absurd (other_last.1 g)) (λ (g : other ≡ l.heavy). f ∙ sym g)
    (last_is begun old order rows l join other b.node w.0 are can b.there found_w other_last.0 e.1))
    (last_is begun old order rows l join at a.node x.0 are can a.there found_x at_last.0 e.0))
    (roots_were join x.0 w.0 (ap (λ (r : Row). r.root) (sym x.2) ∙ same ∙ ap (λ (r : Row). r.root) w.2))

-- the nodes of a VXID stay linked
pub kin_after : (old new : List Node) (l : Linking) (at : ℕ) (x : Node) → AreLinked l old new → HasKin old x → HasKin new (linked_node l at x)
kin_after old new l at x linked kin = record {
  older = λ place e.
      let k = kin.older place e in (
        linked_node l place k.0,
        still_at l old new place k.0 linked k.1,
        k.2,
        k.3,
        λ i z there same less. let w = was_at l old new i z linked there in
            subst (λ (n : Node). n.serial ≤ k.0.serial) (sym w.is) (k.4 i w.node w.there (ap (λ (n : Node). n.vxid) (sym w.is) ∙ same) (subst (λ (n : Node). n.serial < x.serial) w.is less)),
      );
  none_older = λ e place y there same less. let w = was_at l old new place y linked there in
      kin.none_older e place w.node w.there (ap (λ (n : Node). n.vxid) (sym w.is) ∙ same) (subst (λ (n : Node). n.serial < x.serial) w.is less);
  newer = λ place e.
      let k = kin.newer place e in (
        linked_node l place k.0,
        still_at l old new place k.0 linked k.1,
        k.2,
        k.3,
        λ i z there same less. let w = was_at l old new i z linked there in
            subst (λ (n : Node). k.0.serial ≤ n.serial) (sym w.is) (k.4 i w.node w.there (ap (λ (n : Node). n.vxid) (sym w.is) ∙ same) (subst (λ (n : Node). x.serial < n.serial) w.is less)),
      );
  none_newer = λ e place y there same less. let w = was_at l old new place y linked there in
      kin.none_newer e place w.node w.there (ap (λ (n : Node). n.vxid) (sym w.is) ∙ same) (subst (λ (n : Node). x.serial < n.serial) w.is less);
}

-- the number of the link is how many children the parent had
number_is : (begun : ℕ) (nodes : List Node) (order : List Entry) (rows : List Row) (l : Linking) (join : Join) (are : AreNodes begun nodes order rows) (can : CanLink nodes rows l join) → join.link.number ≡ can.parent.row.children
number_is begun nodes order rows l join are can = ap (λ (k : ParentLink). k.number) can.link_is ∙ sym (ap (λ (r : Row). r.children) (row_is nodes rows l.above can.parent begun order are.stand))

-- after a link nodes stand for the rows that joined
pub nodes_after : (begun : ℕ) (old new : List Node) (order : List Entry) (rows : List Row) (l : Linking) (join : Join) → AreNodes begun old order rows → CanLink old rows l join → AreLinked l old new → AreNodes begun new order (map (joined join) rows)
nodes_after begun old new order rows l join are can linked =
    let c = joins begun old order rows l join are can in
    let Rows : List Row = map (joined join) rows in
    record {
      trees = joined_trees begun rows join are.trees c;
      numbered = numbered_after rows join are.numbered c (number_is begun old order rows l join are can);
      stand = stand_after begun old new order rows l join are can linked;
      children = λ at y there. let was = was_at l old new at y linked there in subst (λ (n : Node). HasChildren new Rows n) (sym was.is) (children_after begun old new order rows l join at was.node are can linked was.there);
      up = λ at y row there found.
          let was = was_at l old new at y linked there in
          let x = before_join join y.serial rows row found in
          let here : row_of was.node.serial rows ≡ Some x.0 = ap (λ (n : Node). row_of n.serial rows) (sym was.is) ∙ x.1 in
          subst (λ (r : Row). LeadsUp new Rows at y r) (sym x.2) (subst (λ (n : Node). LeadsUp new Rows at n (joined join x.0)) (sym was.is) (up_after begun old new order rows l join at was.node x.0 are can linked was.there here));
      last = one_last_after begun old new order rows l join are can linked;
      kin = λ at y there. let was = was_at l old new at y linked there in subst (HasKin new) (sym was.is) (kin_after old new l at was.node linked (are.kin at was.node was.there));
    }
