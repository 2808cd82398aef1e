-- Visits of nodes are visits of their rows.
use Rattle.std.proofs.Common.{◌≡◌, ◌+◌, ℕ, true, Option, Some, None, List, [], ◌∷◌, ◌++◌, length, refl, ap, sym, ◌∙◌, subst, append-nil, arith}
use Rattle.std.specs.Prelude.{⊤, slice_get}
use Rattle.std.proofs.lemmas.Bool.{eq-eqb}
use Rattle.std.proofs.lemmas.List.{same_from_push, length_push}
use Rattle.txn_rows.specs.declared.rows.Row.{Row}
use Rattle.txn_rows.specs.Links.{leads_to}
use Rattle.txn_rows.specs.Trees.{row_of}
use Rattle.txn_rows.specs.inside.Rows.{rows_below}
use Rattle.txn_rows.proofs.LineLemmas.{row_of_serial}
use Rattle.txn_rows.proofs.StandLemmas.{child_in_tree}
use Rattle.txn_groups.specs.declared.node.Node.{Node}
use Rattle.txn_groups.specs.declared.order.Entry.{Entry}
use Rattle.txn_groups.specs.declared.walk.Visit.{Visit}
use Rattle.txn_groups.specs.inside.Nodes.{StandsAt, AreNodes, HasRow, ChildAt, row_of_node}
use Rattle.txn_groups.specs.inside.Walked.{IsTopAt, IsVisit, Visits, AreVisits, visit_of}
use Rattle.txn_groups.proofs.PathLemmas.{Inside}
use Rattle.txn_groups.proofs.StackLemmas.{IsKid, FirstKid, NextKid, one_of, Walking, walking_more, walking_first, kid_path, next_path, above_of}
use Rattle.txn_groups.proofs.PreorderLemmas.{walked_whole, walked_few}

-- a stack of visits, the next one last
abbrev pub StackOf : List Node → List Row → List Row → List Visit → Type 0
StackOf nodes rows [] items = items ≡ []
StackOf nodes rows (row ∷ ahead) items = (front : List Visit) × (v : Visit) × (items ≡ front ++ v ∷ []) × IsVisit nodes rows row v × StackOf nodes rows ahead front

-- so many were visited, and others wait
pub record WalksOn (nodes : List Node) (rows : List Row) (root turns : ℕ) (visits later : List Visit) : Type 0 where
  pub done : List Row
  pub ahead : List Row
  pub walking : Walking rows root done ahead
  pub visited : Visits nodes rows done visits
  pub stack : StackOf nodes rows ahead later
  pub count : length done ≡ turns

visits_push : (nodes : List Node) (rows done : List Row) (visits : List Visit) (row : Row) (v : Visit) → Visits nodes rows done visits → IsVisit nodes rows row v → Visits nodes rows (done ++ row ∷ []) (visits ++ v ∷ [])
visits_push nodes rows [] [] row v before is = (is, tt)
visits_push nodes rows [] (w ∷ visits) row v before is = absurd before
visits_push nodes rows (r ∷ done) [] row v before is = absurd before
visits_push nodes rows (r ∷ done) (w ∷ visits) row v before is = (before.0, visits_push nodes rows done visits row v before.1 is)

-- the row that is visited at a place, where there is one
abbrev pub DueAt : List Node → List Row → Option Row → Option ℕ → ℕ → Type 0
DueAt nodes rows None None level = ⊤
DueAt nodes rows None (Some at) level = ⊥
DueAt nodes rows (Some row) None level = ⊥
DueAt nodes rows (Some row) (Some at) level = IsVisit nodes rows row (record { at = at; level = level })

stack_push : (nodes : List Node) (rows ahead : List Row) (items : List Visit) (kid : Option Row) (place : Option ℕ) (level : ℕ) → StackOf nodes rows ahead items → DueAt nodes rows kid place level → StackOf nodes rows (one_of kid ++ ahead) (items ++ visit_of place level)
stack_push nodes rows ahead items None None level stack due = subst (StackOf nodes rows ahead) (sym (append-nil items)) stack
stack_push nodes rows ahead items None (Some at) level stack due = absurd due
stack_push nodes rows ahead items (Some row) None level stack due = absurd due
stack_push nodes rows ahead items (Some row) (Some at) level stack due = (items, record { at = at; level = level }, refl, due, stack)

-- the child at a place
pub record KidAt (nodes : List Node) (rows : List Row) (root serial number at : ℕ) : Type 0 where
  pub kid : Row
  pub is : IsKid rows root serial number kid
  pub node : Node
  pub there : StandsAt nodes at node
  pub found : row_of node.serial rows ≡ Some kid

abbrev pub kid_at : (begun : ℕ) (nodes : List Node) (order : List Entry) (rows : List Row) (root at number : ℕ) (above : Row) → AreNodes begun nodes order rows → Inside rows root above → ChildAt nodes at above.serial number → KidAt nodes rows root above.serial number at
kid_at begun nodes order rows root at number above are in_above child =
    let has : HasRow rows child.node = are.stand.row at child.node child.there in
    let kid : Row = has.row in
    let serial : kid.serial ≡ child.node.serial = row_of_serial child.node.serial rows kid has.found in
    let linked : kid.parent ≡ Some child.link = ap (λ (r : Row). r.parent) has.is ∙ child.linked in
    let found : row_of kid.serial rows ≡ Some kid = ap (λ (s : ℕ). row_of s rows) serial ∙ has.found in
    let leads : leads_to above.serial kid.parent ≡ true = ap (leads_to above.serial) linked ∙ eq-eqb child.link.serial above.serial child.below in
    record {
      kid = kid;
      is = record {
        inside = record { found = found; tree = child_in_tree rows above kid in_above.found (are.trees.forest.linked kid.serial kid found) leads ∙ in_above.tree };
        link = child.link;
        linked = linked;
        below = child.below;
        is = child.is;
      };
      node = child.node;
      there = child.there;
      found = has.found;
    }

-- the row of a node that is visited, its first child and the next child of its parent
record HasFirst (nodes : List Node) (rows : List Row) (root : ℕ) (x : Row) (place : Option ℕ) (level : ℕ) : Type 0 where
  kid : Option Row
  is : FirstKid rows root x kid
  due : DueAt nodes rows kid place (level + 1)

record HasNext (nodes : List Node) (rows : List Row) (root : ℕ) (x : Row) (place : Option ℕ) (level : ℕ) : Type 0 where
  kid : Option Row
  is : NextKid rows root x kid
  due : DueAt nodes rows kid place level

abbrev has_first : (begun : ℕ) (nodes : List Node) (order : List Entry) (rows : List Row) (root at level : ℕ) (node : Node) (x : Row) (place : Option ℕ) → AreNodes begun nodes order rows → StandsAt nodes at node → Inside rows root x → x ≡ row_of_node x.root x.path node → level ≡ length x.path + 1 → node.first ≡ place → HasFirst nodes rows root x place level
has_first begun nodes order rows root at level node x None are there in_x is deep first = record { kid = None; is = ap (λ (r : Row). r.children) is ∙ (are.children at node there).none first; due = tt }
has_first begun nodes order rows root at level node x (Some place) are there in_x is deep first =
    let serial : x.serial ≡ node.serial = ap (λ (r : Row). r.serial) is in
    let k = kid_at begun nodes order rows root place 0 x are in_x (subst (λ (s : ℕ). ChildAt nodes place s 0) (sym serial) ((are.children at node there).first place first)) in
    record {
      kid = Some k.kid;
      is = k.is;
      due = record { node = k.node; there = k.there; found = k.found; level = omega (arith, deep, ap (λ (p : List ℕ). length p) (kid_path rows root 0 x k.kid are.trees.forest in_x k.is), length_push x.path 0) };
    }

abbrev has_next : (begun : ℕ) (nodes : List Node) (order : List Entry) (rows : List Row) (root at level : ℕ) (node : Node) (x : Row) (place : Option ℕ) → AreNodes begun nodes order rows → StandsAt nodes at node → Inside rows root x → x ≡ row_of_node x.root x.path node → level ≡ length x.path + 1 → node.next ≡ place → HasNext nodes rows root x place level
has_next begun nodes order rows root at level node x None are there in_x is deep next = record { kid = None; is = λ link above linked found. (are.children at node there).end next link above (sym (ap (λ (r : Row). r.parent) is) ∙ linked) found; due = tt }
has_next begun nodes order rows root at level node x (Some place) are there in_x is deep next =
    let child = (are.children at node there).next place next in
    let linked : x.parent ≡ Some child.0 = ap (λ (r : Row). r.parent) is ∙ child.1 in
    let up = above_of rows root x child.0 are.trees.forest in_x linked in
    let k = kid_at begun nodes order rows root place (child.0.number + 1) up.row are up.inside (subst (λ (s : ℕ). ChildAt nodes place s (child.0.number + 1)) (sym up.serial) child.2) in
    let kid : IsKid rows root child.0.serial (child.0.number + 1) k.kid = subst (λ (s : ℕ). IsKid rows root s (child.0.number + 1) k.kid) up.serial k.is in
    let paths = next_path rows root x k.kid child.0 are.trees.forest in_x linked kid in
    record {
      kid = Some k.kid;
      is = (child.0, linked, kid);
      due = record { node = k.node; there = k.there; found = k.found; level = omega (arith, deep, ap (λ (p : List ℕ). length p) paths.1, ap (λ (p : List ℕ). length p) paths.2, length_push paths.0 child.0.number, length_push paths.0 (child.0.number + 1)) };
    }

-- what the visit of a node knows
record Seen (nodes : List Node) (rows : List Row) (root : ℕ) (x : Row) (v : Visit) (node : Node) : Type 0 where
  there : StandsAt nodes v.at node
  is : x ≡ row_of_node x.root x.path node
  level : v.level ≡ length x.path + 1

seen : (begun : ℕ) (nodes : List Node) (order : List Entry) (rows : List Row) (root : ℕ) (x : Row) (v : Visit) (node : Node) → AreNodes begun nodes order rows → IsVisit nodes rows x v → slice_get nodes v.at ≡ Some node → Seen nodes rows root x v node
seen begun nodes order rows root x v node are visit read =
    let one : Some visit.node ≡ Some node = sym visit.there.here ∙ read in
    let same : visit.node ≡ node = (cc) in
    let there : StandsAt nodes v.at node = subst (StandsAt nodes v.at) same visit.there in
    let has : HasRow rows node = are.stand.row v.at node there in
    let found : Some has.row ≡ Some x = sym has.found ∙ ap (λ (n : Node). row_of n.serial rows) (sym same) ∙ visit.found in
    let row : has.row ≡ x = (cc) in
    record { there = there; is = subst (λ (r : Row). r ≡ row_of_node r.root r.path node) row has.is; level = visit.level }

-- one visit more
walks_row : (begun root turns : ℕ) (nodes : List Node) (order : List Entry) (rows : List Row) (visits front : List Visit) (v : Visit) (node : Node) (done : List Row) (x : Row) (rest : List Row) → AreNodes begun nodes order rows → Walking rows root done (x ∷ rest) → Visits nodes rows done visits → length done ≡ turns → IsVisit nodes rows x v → StackOf nodes rows rest front → slice_get nodes v.at ≡ Some node →
    WalksOn nodes rows root (turns + 1) (visits ++ v ∷ []) ((front ++ visit_of node.next v.level) ++ visit_of node.first (v.level + 1))
walks_row begun root turns nodes order rows visits front v node done x rest are walking visited count visit stack read =
    let s = seen begun nodes order rows root x v node are visit read in
    let in_x = walking.ahead_in.0 in
    let f = has_first begun nodes order rows root v.at v.level node x node.first are s.there in_x s.is s.level refl in
    let n = has_next begun nodes order rows root v.at v.level node x node.next are s.there in_x s.is s.level refl in
    record {
      done = done ++ x ∷ [];
      ahead = one_of f.kid ++ (one_of n.kid ++ rest);
      walking = walking_more rows root done x f.kid n.kid rest are.trees.forest are.numbered walking f.is n.is;
      visited = visits_push nodes rows done visits x v visited visit;
      stack = stack_push nodes rows (one_of n.kid ++ rest) (front ++ visit_of node.next v.level) f.kid node.first (v.level + 1) (stack_push nodes rows rest front n.kid node.next v.level stack n.due) f.due;
      count = omega (arith, count, length_push done x);
    }

walks_stack : (begun root turns : ℕ) (nodes : List Node) (order : List Entry) (rows : List Row) (visits later front : List Visit) (v : Visit) (node : Node) (done ahead : List Row) → AreNodes begun nodes order rows → Walking rows root done ahead → Visits nodes rows done visits → length done ≡ turns → StackOf nodes rows ahead later → later ≡ front ++ v ∷ [] → slice_get nodes v.at ≡ Some node →
    WalksOn nodes rows root (turns + 1) (visits ++ v ∷ []) ((front ++ visit_of node.next v.level) ++ visit_of node.first (v.level + 1))
walks_stack begun root turns nodes order rows visits later front v node done [] are walking visited count stack popped read = absurd (omega (arith, ap (λ (l : List Visit). length l) (sym stack ∙ popped), length_push front v))
walks_stack begun root turns nodes order rows visits later front v node done (x ∷ rest) are walking visited count stack popped read =
    let parts = same_from_push stack.0 front stack.1 v (sym stack.2 ∙ popped) in
    walks_row begun root turns nodes order rows visits front v node done x rest are walking visited count (subst (IsVisit nodes rows x) parts.1 stack.3) (subst (StackOf nodes rows rest) parts.0 stack.4) read

pub walks_more : (begun root turns : ℕ) (nodes : List Node) (order : List Entry) (rows : List Row) (visits later front : List Visit) (v : Visit) (node : Node) → AreNodes begun nodes order rows → WalksOn nodes rows root turns visits later → later ≡ front ++ v ∷ [] → slice_get nodes v.at ≡ Some node →
    WalksOn nodes rows root (turns + 1) (visits ++ v ∷ []) ((front ++ visit_of node.next v.level) ++ visit_of node.first (v.level + 1))
walks_more begun root turns nodes order rows visits later front v node are w popped read = walks_stack begun root turns nodes order rows visits later front v node w.done w.ahead are w.walking w.visited w.count w.stack popped read

-- a visit comes to a node
visited_at : (nodes : List Node) (rows ahead : List Row) (later front : List Visit) (v : Visit) → StackOf nodes rows ahead later → later ≡ front ++ v ∷ [] → slice_get nodes v.at ≡ None → ⊥
visited_at nodes rows [] later front v stack popped read = absurd (omega (arith, ap (λ (l : List Visit). length l) (sym stack ∙ popped), length_push front v))
visited_at nodes rows (x ∷ rest) later front v stack popped read =
    let parts = same_from_push stack.0 front stack.1 v (sym stack.2 ∙ popped) in
    let visit : IsVisit nodes rows x v = subst (IsVisit nodes rows x) parts.1 stack.3 in
    let e : Some visit.node ≡ None = sym visit.there.here ∙ read in absurd (cc)

pub walks_inside : (nodes : List Node) (rows : List Row) (root turns : ℕ) (visits later front : List Visit) (v : Visit) → WalksOn nodes rows root turns visits later → later ≡ front ++ v ∷ [] → slice_get nodes v.at ≡ None → ⊥
walks_inside nodes rows root turns visits later front v w popped read = visited_at nodes rows w.ahead later front v w.stack popped read

-- where none waits, the whole tree was visited
ended_row : (begun root : ℕ) (nodes : List Node) (order : List Entry) (rows : List Row) (visits later : List Visit) (done ahead : List Row) → AreNodes begun nodes order rows → Walking rows root done ahead → Visits nodes rows done visits → StackOf nodes rows ahead later → later ≡ [] → AreVisits nodes rows root visits
ended_row begun root nodes order rows visits later done [] are walking visited stack none = subst (λ (tree : List Row). Visits nodes rows tree visits) (walked_whole begun root rows done are.trees are.numbered walking) visited
ended_row begun root nodes order rows visits later done (x ∷ rest) are walking visited stack none = absurd (omega (arith, ap (λ (l : List Visit). length l) (sym none ∙ stack.2), length_push stack.0 stack.1))

pub walks_end : (begun root turns : ℕ) (nodes : List Node) (order : List Entry) (rows : List Row) (visits later : List Visit) → AreNodes begun nodes order rows → WalksOn nodes rows root turns visits later → later ≡ [] → AreVisits nodes rows root visits
walks_end begun root turns nodes order rows visits later are w none = ended_row begun root nodes order rows visits later w.done w.ahead are w.walking w.visited w.stack none

-- after as many visits as the tree has nodes none waits
counted_row : (begun root : ℕ) (nodes : List Node) (order : List Entry) (rows : List Row) (visits : List Visit) (done ahead : List Row) → AreNodes begun nodes order rows → Walking rows root done ahead → Visits nodes rows done visits → length done ≡ length (rows_below root rows) → AreVisits nodes rows root visits
counted_row begun root nodes order rows visits done [] are walking visited count = subst (λ (tree : List Row). Visits nodes rows tree visits) (walked_whole begun root rows done are.trees are.numbered walking) visited
counted_row begun root nodes order rows visits done (x ∷ rest) are walking visited count = absurd (omega (arith, count, walked_few begun root rows done x rest are.trees are.numbered walking))

pub walks_all : (begun root size top : ℕ) (nodes : List Node) (order : List Entry) (rows : List Row) (visits later : List Visit) → AreNodes begun nodes order rows → IsTopAt nodes rows root size top → WalksOn nodes rows root size visits later → AreVisits nodes rows root visits
walks_all begun root size top nodes order rows visits later are is w = counted_row begun root nodes order rows visits w.done w.ahead are w.walking w.visited (w.count ∙ is.counted)

-- at first the top of the tree waits
pub walks_first : (begun root size top : ℕ) (nodes : List Node) (order : List Entry) (rows : List Row) → AreNodes begun nodes order rows → IsTopAt nodes rows root size top → WalksOn nodes rows root 0 [] (record { at = top; level = 1 } ∷ [])
walks_first begun root size top nodes order rows are is = record {
  done = [];
  ahead = is.row ∷ [];
  walking = walking_first rows root is.row (record { found = ap (λ (s : ℕ). row_of s rows) (row_of_serial root rows is.row is.found) ∙ is.found; tree = is.root }) is.top;
  visited = tt;
  stack = ([], record { at = top; level = 1 }, refl, record { node = is.node; there = is.there; found = ap (λ (s : ℕ). row_of s rows) is.is ∙ is.found; level = ap (λ (p : List ℕ). length p + 1) (sym is.top.path) }, refl);
  count = refl;
}
