-- A walk over a tree with a stack: what was visited is in order, what waits is behind it, and each row is one of them or waits behind one.
use Rattle.std.proofs.Common.{◌≡◌, ◌+◌, ◌<◌, ◌≤◌, ◌⊎◌, ⊎_elim, inl, inr, ℕ, eqb, Option, Some, None, List, [], ◌∷◌, ◌++◌, length, refl, ap, sym, ◌∙◌, subst, append_assoc, arith}
use Rattle.std.specs.Prelude.{⊤}
use Rattle.std.proofs.lemmas.List.{same_from_push, length_push}
use Rattle.txn_rows.specs.declared.rows.Row.{Row}
use Rattle.txn_rows.specs.declared.group.ParentLink.{ParentLink}
use Rattle.txn_rows.specs.Trees.{row_of, IsTop, IsBelow, IsForest}
use Rattle.std.proofs.lemmas.Bool.{eqb-true, eqb-false}
use Rattle.txn_rows.proofs.LineLemmas.{by_cases, row_of_serial}
use Rattle.txn_rows.proofs.JoinLemmas.{same_row}
use Rattle.txn_groups.specs.inside.Nodes.{AreNumbered, IsIn}
use Rattle.txn_groups.proofs.SetLemmas.{AllOf, InRow, all_weaker, all_append, in_left, in_right, row_push}
use Rattle.txn_groups.proofs.PathLemmas.{Less, less_then, less_longer, less_at, Inside, above_inside, one_path, child_above}

-- a row stands before another
abbrev pub Before : Row → Row → Type 0
Before a b = Less a.path b.path

-- the child of a row, by its number
pub record IsKid (rows : List Row) (root serial number : ℕ) (kid : Row) : Type 0 where
  pub inside : Inside rows root kid
  pub link : ParentLink
  pub linked : kid.parent ≡ Some link
  pub below : link.serial ≡ serial
  pub is : link.number ≡ number

-- the first child of a row, where it has any
abbrev pub FirstKid : List Row → ℕ → Row → Option Row → Type 0
FirstKid rows root x None = x.children ≡ 0
FirstKid rows root x (Some kid) = IsKid rows root x.serial 0 kid

-- the child that the parent of a row got next, where it got any
abbrev pub NextKid : List Row → ℕ → Row → Option Row → Type 0
NextKid rows root x None = (link : ParentLink) (above : Row) → x.parent ≡ Some link → row_of link.serial rows ≡ Some above → link.number + 1 ≡ above.children
NextKid rows root x (Some kid) = (link : ParentLink) × (x.parent ≡ Some link) × IsKid rows root link.serial (link.number + 1) kid

-- the row that is there
abbrev pub one_of : Option Row → List Row
one_of None = []
one_of (Some row) = row ∷ []

-- a row is deeper than one that waits behind it, and less than it where their paths differ
pub record Under (x y : Row) : Type 0 where
  pub common : List ℕ
  pub less : ℕ
  pub more : ℕ
  pub between : List ℕ
  pub last : ℕ
  pub y_path : y.path ≡ common ++ more ∷ []
  pub x_path : x.path ≡ common ++ less ∷ (between ++ last ∷ [])
  pub differ : less < more

-- each that waits is deeper than the next
abbrev pub Stacked : List Row → Type 0
Stacked [] = ⊤
Stacked (x ∷ []) = ⊤
Stacked (x ∷ y ∷ rest) = Under x y × Stacked (y ∷ rest)

-- a row is a sibling of another from that on, or below one
pub record Behind (s row : Row) : Type 0 where
  pub common : List ℕ
  pub from : ℕ
  pub at : ℕ
  pub rest : List ℕ
  pub s_path : s.path ≡ common ++ from ∷ []
  pub path : row.path ≡ common ++ at ∷ rest
  pub later : from ≤ at

-- a row waits behind another that waits
abbrev pub Waits : Row → Row → Type 0
Waits s row = (s.path ≡ []) ⊎ Behind s row

abbrev pub Waiting : List Row → Row → Type 0
Waiting [] row = ⊥
Waiting (s ∷ ahead) row = Waits s row ⊎ Waiting ahead row

-- all that were visited stand before the next
abbrev pub Topped : List Row → List Row → Type 0
Topped done [] = ⊤
Topped done (x ∷ rest) = AllOf (λ d. Before d x) done

pub record Walking (rows : List Row) (root : ℕ) (done ahead : List Row) : Type 0 where
  pub sorted : InRow Before done
  pub top : Topped done ahead
  pub stacked : Stacked ahead
  pub done_in : AllOf (Inside rows root) done
  pub ahead_in : AllOf (Inside rows root) ahead
  pub all : (row : Row) → Inside rows root row → IsIn done row ⊎ Waiting ahead row

-- what a child's path is
pub kid_path : (rows : List Row) (root number : ℕ) (x kid : Row) → IsForest rows → Inside rows root x → IsKid rows root x.serial number kid → kid.path ≡ x.path ++ number ∷ []
kid_path rows root number x kid forest inside is = ⊎_elim
    (λ (top : IsTop kid). absurd (let e : Some is.link ≡ None = sym is.linked ∙ top.none in cc))
    (λ (below : IsBelow rows kid).
    let one : Some below.link ≡ Some is.link = sym below.linked ∙ is.linked in
    let link : below.link ≡ is.link = (cc) in
    let serial : below.link.serial ≡ x.serial = ap (λ (l : ParentLink). l.serial) link ∙ is.below in
    let above : below.above ≡ x = same_row rows x.serial below.above x (ap (λ (s : ℕ). row_of s rows) (sym serial) ∙ below.found) inside.found in
    below.path ∙ ap (λ (r : Row). r.path ++ below.link.number ∷ []) above ∙ ap (λ (n : ℕ). x.path ++ n ∷ []) (ap (λ (l : ParentLink). l.number) link ∙ is.is))
    (forest.linked kid.serial kid is.inside.found)

-- the row to which a link leads
pub record Above (rows : List Row) (root : ℕ) (x : Row) (link : ParentLink) : Type 0 where
  pub row : Row
  pub found : row_of link.serial rows ≡ Some row
  pub inside : Inside rows root row
  pub serial : row.serial ≡ link.serial
  pub path : x.path ≡ row.path ++ link.number ∷ []

pub above_of : (rows : List Row) (root : ℕ) (x : Row) (link : ParentLink) → IsForest rows → Inside rows root x → x.parent ≡ Some link → Above rows root x link
above_of rows root x link forest inside linked = ⊎_elim
    (λ (top : IsTop x). absurd (let e : Some link ≡ None = sym linked ∙ top.none in cc))
    (λ (below : IsBelow rows x).
    let one : Some below.link ≡ Some link = sym below.linked ∙ linked in
    let same : below.link ≡ link = (cc) in
    record {
      row = below.above;
      found = ap (λ (l : ParentLink). row_of l.serial rows) (sym same) ∙ below.found;
      inside = above_inside rows root x inside below;
      serial = row_of_serial below.link.serial rows below.above below.found ∙ ap (λ (l : ParentLink). l.serial) same;
      path = below.path ∙ ap (λ (l : ParentLink). below.above.path ++ l.number ∷ []) same;
    })
    (forest.linked x.serial x inside.found)

-- the path of the next child
pub next_path : (rows : List Row) (root : ℕ) (x kid : Row) (link : ParentLink) → IsForest rows → Inside rows root x → x.parent ≡ Some link → IsKid rows root link.serial (link.number + 1) kid → (above : List ℕ) × (x.path ≡ above ++ link.number ∷ []) × (kid.path ≡ above ++ (link.number + 1) ∷ [])
next_path rows root x kid link forest inside linked is =
    let up = above_of rows root x link forest inside linked in
    (up.row.path, up.path, kid_path rows root (link.number + 1) up.row kid forest up.inside (subst (λ (s : ℕ). IsKid rows root s (link.number + 1) kid) (sym up.serial) is))

under_less : (x y : Row) → Under x y → Before x y
under_less x y u = subst (λ (p : List ℕ). Less p y.path) (sym u.x_path) (subst (λ (p : List ℕ). Less (u.common ++ u.less ∷ (u.between ++ u.last ∷ [])) p) (sym u.y_path) (less_at u.common u.less u.more (u.between ++ u.last ∷ []) [] u.differ))

-- the first child of a row waits before what waits behind the row
first_under : (x y kid : Row) → Under x y → kid.path ≡ x.path ++ 0 ∷ [] → Under kid y
first_under x y kid u is = record {
  common = u.common;
  less = u.less;
  more = u.more;
  between = u.between ++ u.last ∷ [];
  last = 0;
  y_path = u.y_path;
  x_path = is ∙ ap (λ (p : List ℕ). p ++ 0 ∷ []) u.x_path ∙ append_assoc u.common (u.less ∷ (u.between ++ u.last ∷ [])) (0 ∷ []);
  differ = u.differ;
}

-- so does the next child
next_under : (x y kid : Row) (above : List ℕ) (n m : ℕ) → Under x y → x.path ≡ above ++ n ∷ [] → kid.path ≡ above ++ m ∷ [] → Under kid y
next_under x y kid above n m u is next =
    let parts = same_from_push (u.common ++ u.less ∷ u.between) above u.last n (append_assoc u.common (u.less ∷ u.between) (u.last ∷ []) ∙ sym u.x_path ∙ is) in
    record {
      common = u.common;
      less = u.less;
      more = u.more;
      between = u.between;
      last = m;
      y_path = u.y_path;
      x_path = next ∙ ap (λ (p : List ℕ). p ++ m ∷ []) (sym parts.0) ∙ append_assoc u.common (u.less ∷ u.between) (m ∷ []);
      differ = u.differ;
    }

-- the first child waits before the next
kids_under : (x kid next : Row) (above : List ℕ) (n : ℕ) → x.path ≡ above ++ n ∷ [] → kid.path ≡ x.path ++ 0 ∷ [] → next.path ≡ above ++ (n + 1) ∷ [] → Under kid next
kids_under x kid next above n is kid_is next_is = record {
  common = above;
  less = n;
  more = n + 1;
  between = [];
  last = 0;
  y_path = next_is;
  x_path = kid_is ∙ ap (λ (p : List ℕ). p ++ 0 ∷ []) is ∙ append_assoc above (n ∷ []) (0 ∷ []);
  differ = omega arith;
}

-- what was visited stands before what comes after the row
topped : (done : List Row) (x z : Row) → AllOf (λ d. Before d x) done → Before x z → AllOf (λ d. Before d z) (done ++ x ∷ [])
topped done x z before less = all_append (λ d. Before d z) done (x ∷ []) (all_weaker (λ d. Before d x) (λ d. Before d z) (λ d e. less_then d.path x.path z.path e less) done before) (less, tt)

waiting_left : (xs ys : List Row) (row : Row) → Waiting xs row → Waiting (xs ++ ys) row
waiting_left [] ys row w = absurd w
waiting_left (x ∷ xs) ys row w = ⊎_elim (λ (here : Waits x row). inl here) (λ (later : Waiting xs row). inr (waiting_left xs ys row later)) w

waiting_right : (xs ys : List Row) (row : Row) → Waiting ys row → Waiting (xs ++ ys) row
waiting_right [] ys row w = w
waiting_right (x ∷ xs) ys row w = inr (waiting_right xs ys row w)

-- a row below another waits behind its first child
below_waits : (rows : List Row) (root : ℕ) (x row : Row) (first : Option Row) (m : ℕ) (q : List ℕ) → IsForest rows → AreNumbered rows → Inside rows root x → Inside rows root row → FirstKid rows root x first → row.path ≡ x.path ++ m ∷ q → Waiting (one_of first) row
below_waits rows root x row None m q forest numbered in_x in_row first is =
    let has = child_above (length q + 1) rows root row x.path m q forest numbered in_row is (omega arith) in
    let same : has.above ≡ x = one_path (length has.above.path + 1) rows root has.above x forest numbered has.inside in_x has.is (omega arith) in
    absurd (omega (arith, has.more, first, ap (λ (r : Row). r.children) same))
below_waits rows root x row (Some kid) m q forest numbered in_x in_row first is =
    inl (inr (record { common = x.path; from = 0; at = m; rest = q; s_path = kid_path rows root 0 x kid forest in_x first; path = is; later = omega arith }))

-- a row behind a sibling of another waits behind the next child
behind_waits : (rows : List Row) (root : ℕ) (x row : Row) (next : Option Row) (b : Behind x row) → IsForest rows → AreNumbered rows → Inside rows root x → Inside rows root row → NextKid rows root x next → b.from < b.at → Waiting (one_of next) row
behind_waits rows root x row None b forest numbered in_x in_row next less = ⊎_elim
    (λ (top : IsTop x). absurd (omega (arith, ap (λ (p : List ℕ). length p) b.s_path, length_push b.common b.from, ap (λ (p : List ℕ). length p) top.path)))
    (λ (below : IsBelow rows x).
    let parts = same_from_push below.above.path b.common below.link.number b.from (sym below.path ∙ b.s_path) in
    let has = child_above (length b.rest + 1) rows root row b.common b.at b.rest forest numbered in_row b.path (omega arith) in
    let same : has.above ≡ below.above = one_path (length has.above.path + 1) rows root has.above below.above forest numbered has.inside (above_inside rows root x in_x below) (has.is ∙ sym parts.0) (omega arith) in
    absurd (omega (arith, has.more, less, parts.1, next below.link below.above below.linked below.found, ap (λ (r : Row). r.children) same)))
    (forest.linked x.serial x in_x.found)
behind_waits rows root x row (Some kid) b forest numbered in_x in_row next less =
    let paths = next_path rows root x kid next.0 forest in_x next.1 next.2 in
    let parts = same_from_push paths.0 b.common next.0.number b.from (sym paths.1 ∙ b.s_path) in
    inl (inr (record { common = b.common; from = next.0.number + 1; at = b.at; rest = b.rest; s_path = paths.2 ∙ ap (λ (p : List ℕ). p ++ (next.0.number + 1) ∷ []) parts.0; path = b.path; later = omega (arith, less, parts.1) }))

same_at : (rows : List Row) (root : ℕ) (x row : Row) → IsForest rows → AreNumbered rows → Inside rows root x → Inside rows root row → row.path ≡ x.path → row ≡ x
same_at rows root x row forest numbered in_x in_row same = one_path (length row.path + 1) rows root row x forest numbered in_row in_x same (omega arith)

-- what a path is: that of another, or it goes on from it
goes_on : (c q : List ℕ) → ((c ++ q) ≡ c) ⊎ ((m : ℕ) × (r : List ℕ) × ((c ++ q) ≡ c ++ m ∷ r))
goes_on [] [] = inl refl
goes_on [] (m ∷ q) = inr (m, q, refl)
goes_on (x ∷ c) q = ⊎_elim
    (λ (e : (c ++ q) ≡ c). inl (ap (λ (l : List ℕ). x ∷ l) e))
    (λ (w : (m : ℕ) × (r : List ℕ) × ((c ++ q) ≡ c ++ m ∷ r)). inr (w.0, w.1, ap (λ (l : List ℕ). x ∷ l) w.2))
    (goes_on c q)

-- a row that waited behind the one that is visited is that, or waits behind a child of it or the next child
waits_on : (rows : List Row) (root : ℕ) (x row : Row) (first next : Option Row) → IsForest rows → AreNumbered rows → Inside rows root x → Inside rows root row → FirstKid rows root x first → NextKid rows root x next → Waits x row → (row ≡ x) ⊎ Waiting (one_of first ++ one_of next) row
waits_on rows root x row first next forest numbered in_x in_row kid sibling waits =
    let Goal : Type 0 = (row ≡ x) ⊎ Waiting (one_of first ++ one_of next) row in
    let from_x : (p : List ℕ) → row.path ≡ x.path ++ p → Goal = λ p e. ⊎_elim
    (λ (same : (x.path ++ p) ≡ x.path). inl (same_at rows root x row forest numbered in_x in_row (e ∙ same)))
    (λ (on : (m : ℕ) × (r : List ℕ) × ((x.path ++ p) ≡ x.path ++ m ∷ r)). inr (waiting_left (one_of first) (one_of next) row (below_waits rows root x row first on.0 on.1 forest numbered in_x in_row kid (e ∙ on.2))))
    (goes_on x.path p) in
    ⊎_elim
    (λ (top : x.path ≡ []). from_x row.path (ap (λ (p : List ℕ). p ++ row.path) (sym top)))
    (λ (b : Behind x row). by_cases Goal (eqb b.from b.at)
    (λ t. from_x b.rest (b.path ∙ ap (λ (n : ℕ). b.common ++ n ∷ b.rest) (sym (eqb-true b.from b.at t)) ∙ sym (append_assoc b.common (b.from ∷ []) b.rest) ∙ ap (λ (p : List ℕ). p ++ b.rest) (sym b.s_path)))
    (λ t. inr (waiting_right (one_of first) (one_of next) row (behind_waits rows root x row next b forest numbered in_x in_row sibling (let other = eqb-false b.from b.at t in omega (arith, other, b.later))))))
    waits

-- what comes after a row stands behind it
next_before : (rows : List Row) (root : ℕ) (x kid : Row) (link : ParentLink) → IsForest rows → Inside rows root x → x.parent ≡ Some link → IsKid rows root link.serial (link.number + 1) kid → Before x kid
next_before rows root x kid link forest in_x linked is =
    let paths = next_path rows root x kid link forest in_x linked is in
    subst (λ (p : List ℕ). Less p kid.path) (sym paths.1) (subst (λ (p : List ℕ). Less (paths.0 ++ link.number ∷ []) p) (sym paths.2) (less_at paths.0 link.number (link.number + 1) [] [] (omega arith)))

first_before : (rows : List Row) (root : ℕ) (x kid : Row) → IsForest rows → Inside rows root x → IsKid rows root x.serial 0 kid → Before x kid
first_before rows root x kid forest in_x is = subst (λ (p : List ℕ). Less x.path p) (sym (kid_path rows root 0 x kid forest in_x is)) (less_longer x.path 0)

-- what waits after a visit
after_visit : (rows : List Row) (root : ℕ) (done : List Row) (x : Row) (first next : Option Row) (rest : List Row) → IsForest rows → Inside rows root x → FirstKid rows root x first → NextKid rows root x next → AllOf (λ d. Before d x) done → Stacked (x ∷ rest) → AllOf (Inside rows root) rest →
    Topped (done ++ x ∷ []) (one_of first ++ (one_of next ++ rest)) × Stacked (one_of first ++ (one_of next ++ rest)) × AllOf (Inside rows root) (one_of first ++ (one_of next ++ rest))
after_visit rows root done x None None [] forest in_x first next before stacked ins = (tt, tt, tt)
after_visit rows root done x None None (y ∷ rest) forest in_x first next before stacked ins = (topped done x y before (under_less x y stacked.0), stacked.1, ins)
after_visit rows root done x (Some kid) None [] forest in_x first next before stacked ins = (topped done x kid before (first_before rows root x kid forest in_x first), tt, (first.inside, tt))
after_visit rows root done x (Some kid) None (y ∷ rest) forest in_x first next before stacked ins =
    (topped done x kid before (first_before rows root x kid forest in_x first), (first_under x y kid stacked.0 (kid_path rows root 0 x kid forest in_x first), stacked.1), (first.inside, ins))
after_visit rows root done x None (Some kid) [] forest in_x first next before stacked ins = (topped done x kid before (next_before rows root x kid next.0 forest in_x next.1 next.2), tt, (next.2.inside, tt))
after_visit rows root done x None (Some kid) (y ∷ rest) forest in_x first next before stacked ins =
    let paths = next_path rows root x kid next.0 forest in_x next.1 next.2 in
    (topped done x kid before (next_before rows root x kid next.0 forest in_x next.1 next.2), (next_under x y kid paths.0 next.0.number (next.0.number + 1) stacked.0 paths.1 paths.2, stacked.1), (next.2.inside, ins))
after_visit rows root done x (Some kid) (Some sibling) [] forest in_x first next before stacked ins =
    let paths = next_path rows root x sibling next.0 forest in_x next.1 next.2 in
    (topped done x kid before (first_before rows root x kid forest in_x first), (kids_under x kid sibling paths.0 next.0.number paths.1 (kid_path rows root 0 x kid forest in_x first) paths.2, tt), (first.inside, (next.2.inside, tt)))
after_visit rows root done x (Some kid) (Some sibling) (y ∷ rest) forest in_x first next before stacked ins =
    let paths = next_path rows root x sibling next.0 forest in_x next.1 next.2 in (
      topped done x kid before (first_before rows root x kid forest in_x first),
      (kids_under x kid sibling paths.0 next.0.number paths.1 (kid_path rows root 0 x kid forest in_x first) paths.2, (next_under x y sibling paths.0 next.0.number (next.0.number + 1) stacked.0 paths.1 paths.2, stacked.1)),
      (first.inside, (next.2.inside, ins)),
    )

-- one visit more
pub walking_more : (rows : List Row) (root : ℕ) (done : List Row) (x : Row) (first next : Option Row) (rest : List Row) → IsForest rows → AreNumbered rows → Walking rows root done (x ∷ rest) → FirstKid rows root x first → NextKid rows root x next → Walking rows root (done ++ x ∷ []) (one_of first ++ (one_of next ++ rest))
walking_more rows root done x first next rest forest numbered w kid sibling =
    let in_x = w.ahead_in.0 in
    let after = after_visit rows root done x first next rest forest in_x kid sibling w.top w.stacked w.ahead_in.1 in
    record {
      sorted = row_push Before done x w.sorted w.top;
      top = after.0;
      stacked = after.1;
      done_in = all_append (Inside rows root) done (x ∷ []) w.done_in (in_x, tt);
      ahead_in = after.2;
      all = λ row in_row.
          let Goal : Type 0 = IsIn (done ++ x ∷ []) row ⊎ Waiting (one_of first ++ (one_of next ++ rest)) row in
          ⊎_elim
          (λ (before : IsIn done row). inl (in_left done (x ∷ []) row before))
          (λ (waiting : Waiting (x ∷ rest) row). ⊎_elim
          (λ (here : Waits x row). ⊎_elim
          (λ (same : row ≡ x). inl (in_right done (x ∷ []) row (inl same)))
          (λ (later : Waiting (one_of first ++ one_of next) row). inr (subst (λ (l : List Row). Waiting l row) (append_assoc (one_of first) (one_of next) rest) (waiting_left (one_of first ++ one_of next) rest row later)))
          (waits_on rows root x row first next forest numbered in_x in_row kid sibling here))
          (λ (later : Waiting rest row). inr (waiting_right (one_of first) (one_of next ++ rest) row (waiting_right (one_of next) rest row later)))
          waiting)
          (w.all row in_row);
    }

-- at first the top of the tree waits
pub walking_first : (rows : List Row) (root : ℕ) (x : Row) → Inside rows root x → IsTop x → Walking rows root [] (x ∷ [])
walking_first rows root x in_x top = record {
  sorted = tt;
  top = tt;
  stacked = tt;
  done_in = tt;
  ahead_in = (in_x, tt);
  all = λ row in_row. inr (inl (inl top.path));
}
