-- Each group is a walk of its tree, whatever was taken.
use Rattle.std.proofs.Common.{◌≡◌, ◌+◌, ◌<◌, ◌≤◌, ◌⊎◌, ⊎_elim, inl, inr, ℕ, zero, suc, Bool, true, false, eqb, cond, Option, Some, List, [], ◌∷◌, ◌++◌, length, map, refl, ap, sym, ◌∙◌, subst, append_assoc, get_or, take, drop, arith}
use Rattle.std.specs.Prelude.{◌≢◌, count_by}
use Rattle.std.specs.List.{sum_by, All, Contains, list_all}
use Rattle.std.proofs.lemmas.Bool.{both_ways, eqb-true, eqb-false, eq-eqb, and_from, cond_both, false_from_ne_true}
use Rattle.std.proofs.lemmas.List.{length-map, length_push, map-append, get_or-map, same_from_push}
use Rattle.std.proofs.lemmas.List.Sums.{sum_by-append, sum_by-cons}
use Rattle.std.proofs.lemmas.List.Elements.{All-nil, All-cons, All-head, All-tail, All-weaker, All-append, All-map, All-contains, All-contains_itself, Contains-append_left, Contains-append_cases}
use Rattle.vsl_tags.specs.Tags.{end_tag}
use Rattle.vsl_record.specs.declared.record_type.Record.{Record}
use Rattle.txn_rows.specs.declared.rows.Row.{Row}
use Rattle.txn_rows.specs.declared.group.ParentLink.{ParentLink}
use Rattle.txn_rows.specs.declared.group.GroupOptions.{GroupOptions}
use Rattle.txn_rows.specs.declared.group.Cause.{Cause}
use Rattle.txn_rows.specs.declared.group.Member.{Member}
use Rattle.txn_rows.specs.declared.group.Group.{Group}
use Rattle.txn_rows.specs.Transaction.{Transaction, newest, with_newest, with_oldest, ended, forced}
use Rattle.txn_rows.specs.Links.{line_of, root_of, tree_of, path_of, is_path_before, preorder, parent_vxid, member_of, group_of}
use Rattle.txn_rows.specs.Grouping.{Taken, State, Leaving, no_state, nothing_left, then_left, left_by, forced_one, after_end, with_all_told, is_raw, taken_steps, flush}
use Rattle.txn_rows.specs.Walk.{FollowsParent, FollowParents, IsWalk}
use Rattle.txn_rows.specs.Trees.{transaction_of, row_of, Rising, IsTop, IsBelow, IsForest, AreTrees}
use Rattle.txn_rows.specs.inside.Rows.{Each, rows_below}
use Rattle.txn_rows.specs.Store.{test_of}
use Rattle.txn_rows.specs.States.{state_with, Standing}
use Rattle.txn_rows.proofs.LineLemmas.{by_cases, row_of_serial, deeper}
use Rattle.txn_rows.proofs.KeepLemmas.{HoldsOn, HoldsOver, holds_over, flush_holds, items_hold}
use Rattle.txn_rows.proofs.TreeLemmas.{line_whole, each_weaker, each_found, tree_rows, other_rows, around}
use Rattle.txn_rows.proofs.JoinLemmas.{count_map, row_contained, row_counted}
use Rattle.txn_rows.proofs.StandLemmas.{rising_filter, kept_filter}
use Rattle.txn_rows.proofs.ForceAllLemmas.{filter_fewer}
use Rattle.txn_rows.proofs.RunLemmas.{EndedIn, all_told, ended_by, forced_by, one_stands, told_stands, end_stands, taken_stand}
use Rattle.txn_rows.proofs.OrderLemmas.{preorder_sum, siblings_ordered, path_total, path_then, path_same, path_both, path_longer, path_between, InOrder, all_left, all_right, contains_here, order_at, Sorts, all_preorder, all_unsorted, preorder_sorted}
use Rattle.txn_rows.proofs.NumberLemmas.{Place, place_of, has_number, IsNamed, Numbered, IsNumbered, places_of, row_links, each_place, newest_kept, oldest_kept, told_numbered, numbered_left}

-- a transaction at the top of a tree
record IsRoot (pending : List Transaction) (t : Transaction) : Type 0 where
  path : path_of pending t ≡ []
  parent : parent_vxid t.parent ≡ 0

-- a transaction of a tree below another
record IsChild (pending tree : List Transaction) (t : Transaction) : Type 0 where
  above : Transaction
  here : Contains tree above
  number : ℕ
  path : path_of pending t ≡ path_of pending above ++ number ∷ []
  parent : parent_vxid t.parent ≡ above.vxid

record InTree (pending tree : List Transaction) (t : Transaction) : Type 0 where
  level : length (line_of pending t) ≡ length (path_of pending t) + 1
  placed : IsRoot pending t ⊎ IsChild pending tree t

-- a transaction stands before another by its path
abbrev Stands : List Transaction → Transaction → Transaction → Type 0
Stands pending t u = is_path_before (path_of pending u) (path_of pending t) ≡ false

stands_then : (pending : List Transaction) (t u v : Transaction) → Stands pending t u → Stands pending u v → Stands pending t v
stands_then pending t u v e f =
    let path : Transaction → List ℕ = path_of pending in
    false_from_ne_true (is_path_before (path v) (path t)) (λ h.
    let back : is_path_before (path v) (path u) ≡ true = path_then (path v) (path t) (path u) h (path_total (path u) (path t) e) in
    absurd (cc))

-- a parent stands before its child
parent_before : (pending before : List Transaction) (t : Transaction) (behind : List Transaction) → InOrder (Stands pending) (before ++ t ∷ behind) → (child : IsChild pending (before ++ t ∷ behind) t) → Contains before child.above
parent_before pending before t behind o child =
    let path : Transaction → List ℕ = path_of pending in
    let P : Transaction → Type 0 = λ u. is_path_before (path t) (path u) ≡ true in
    let all : All P (t ∷ behind) = All-cons P t behind (path_same (path t)) (All-weaker (Stands pending t) P (λ u s. path_total (path u) (path t) s) behind (order_at (Stands pending) before t behind o).1) in
    ⊎_elim
    (λ (ahead : Contains before child.above). ahead)
    (λ (later : Contains (t ∷ behind) child.above).
    let e : is_path_before (path child.above ++ child.number ∷ []) (path child.above) ≡ true = ap (λ (p : List ℕ). is_path_before p (path child.above)) (sym child.path) ∙ All-contains P (t ∷ behind) child.above all later in
    absurd (let f = path_longer (path child.above) child.number in cc))
    (Contains-append_cases before (t ∷ behind) child.above child.here)

-- each transaction but the first follows its parent
follows : (pending before : List Transaction) (t : Transaction) (behind : List Transaction) → InOrder (Stands pending) (before ++ t ∷ behind) → All (InTree pending (before ++ t ∷ behind)) (before ++ t ∷ behind) → (first : Transaction) → Contains before first →
    FollowsParent (map (member_of pending) before) (member_of pending t)
follows pending before t behind o trees first there =
    let path : Transaction → List ℕ = path_of pending in
    let In : Transaction → Type 0 = InTree pending (before ++ t ∷ behind) in
    let is : In t = All-contains In (before ++ t ∷ behind) t trees (contains_here before t behind) in
    let earlier : All (λ u. Stands pending u t) before = (order_at (Stands pending) before t behind o).0 in
    ⊎_elim
    (λ (root : IsRoot pending t). absurd (let e = ap (λ (p : List ℕ). is_path_before p (path first)) (sym root.path) ∙ All-contains (λ u. Stands pending u t) before first earlier there in cc))
    (λ (child : IsChild pending (before ++ t ∷ behind) t).
    let at = parent_before pending before t behind o child in
    let ahead : List Transaction = take at.0 before in
    let between : List Transaction = drop (at.0 + 1) before in
    let split : before ≡ ahead ++ child.above ∷ between = around at.0 before child.above at.1 (sym at.2) in
    let inner : (P : Transaction → Type 0) → All P before → All P between = λ P a. All-tail P child.above between (all_right P ahead (child.above ∷ between) (subst (All P) split a)) in
    let whole : before ++ t ∷ behind ≡ ahead ++ child.above ∷ (between ++ t ∷ behind) = ap (λ (ts : List Transaction). ts ++ t ∷ behind) split ∙ append_assoc ahead (child.above ∷ between) (t ∷ behind) in
    let after : All (Stands pending child.above) between = all_left (Stands pending child.above) between (t ∷ behind) (order_at (Stands pending) ahead child.above (between ++ t ∷ behind) (subst (InOrder (Stands pending)) whole o)).1 in
    let until = inner (λ u. Stands pending u t) earlier in
    let inside = inner In (all_left In before (t ∷ behind) trees) in
    let above : In child.above = All-contains In (before ++ t ∷ behind) child.above trees child.here in
    let longer : length (path t) ≡ length (path child.above) + 1 = ap (λ (p : List ℕ). length p) child.path ∙ length_push (path child.above) child.number in
    record {
      ahead = map (member_of pending) ahead;
      parent = member_of pending child.above;
      between = map (member_of pending) between;
      whole = ap (map (member_of pending)) split ∙ map-append (member_of pending) ahead (child.above ∷ between);
      named = child.parent;
      below = omega (arith, is.level, above.level, longer);
      deep = All-map (λ u. length (line_of pending t) ≤ u.level) (member_of pending) between (λ k d within.
          let u : Transaction = get_or between k d in
          let deep = path_between (path child.above) (path u) child.number (after k d within) (subst (λ (p : List ℕ). is_path_before p (path u) ≡ false) child.path (until k d within)) in
          omega (arith, is.level, longer, deep, (inside k d within).level));
    })
    is.placed

all_follow : (pending before rest tree : List Transaction) → before ++ rest ≡ tree → InOrder (Stands pending) tree → All (InTree pending tree) tree → (first : Transaction) → Contains before first → FollowParents (map (member_of pending) before) (map (member_of pending) rest)
all_follow pending before [] tree e o trees first there = tt
all_follow pending before (t ∷ rest) tree e o trees first there =
    let Trees : List Transaction → Type 0 = λ ts. InOrder (Stands pending) ts × All (InTree pending ts) ts in
    let both : Trees (before ++ t ∷ rest) = subst Trees (sym e) (o, trees) in (
      follows pending before t rest both.0 both.1 first there,
      subst (λ (ms : List Member). FollowParents ms (map (member_of pending) rest)) (map-append (member_of pending) before (t ∷ []))
          (all_follow pending (before ++ t ∷ []) rest tree (append_assoc before (t ∷ []) rest ∙ e) o trees first (Contains-append_left before (t ∷ []) first there)),
    )

-- a tree in preorder is a walk
ordered_walk : (pending tree : List Transaction) → InOrder (Stands pending) tree → All (InTree pending tree) tree → (t : Transaction) → Contains tree t → IsWalk (map (member_of pending) tree)
ordered_walk pending [] o trees t there = absurd (omega (arith, there.1))
ordered_walk pending (first ∷ rest) o trees t there =
    let is : InTree pending (first ∷ rest) first = All-head (InTree pending (first ∷ rest)) first rest trees in
    ⊎_elim
    (λ (root : IsRoot pending first).
    let level : length (line_of pending first) ≡ 1 = is.level ∙ ap (λ (p : List ℕ). length p + 1) root.path in
    (level, root.parent, all_follow pending (first ∷ []) rest (first ∷ rest) refl o trees first (contains_here [] first [])))
    (λ (child : IsChild pending (first ∷ rest) first). absurd (omega (arith, (parent_before pending [] first rest o child).1)))
    is.placed

sorted_walk : (pending tree : List Transaction) → InOrder (Sorts (path_of pending) (Stands pending)) tree → All (InTree pending tree) tree → (t : Transaction) → Contains tree t → IsWalk (map (member_of pending) (preorder (path_of pending) tree))
sorted_walk pending tree sorts trees t there =
    let sorted : List Transaction = preorder (path_of pending) tree in
    let stay : All (Contains sorted) tree = all_unsorted (Contains sorted) (path_of pending) tree (All-contains_itself sorted) in
    ordered_walk pending sorted (preorder_sorted (path_of pending) (Stands pending) (stands_then pending) tree sorts)
    (all_preorder (InTree pending sorted) (path_of pending) tree (All-weaker (InTree pending tree) (InTree pending sorted)
    (λ u is. record {
      level = is.level;
      placed = ⊎_elim (λ (root : IsRoot pending u). inl root)
          (λ (child : IsChild pending tree u). inr (record { above = child.above; here = All-contains (Contains sorted) tree child.above stay child.here; number = child.number; path = child.path; parent = child.parent })) is.placed;
    }) tree trees))
    t (All-contains (Contains sorted) tree t stay there)

-- where one passes at most, two that pass are one
one_passes : (q : Row → Bool) (s r : ℕ) (rows : List Row) (row other : Row) → row_of s rows ≡ Some row → row_of r rows ≡ Some other → q row ≡ true → q other ≡ true → count_by q rows ≤ 1 → row ≡ other
one_passes q s r [] row other here there p o few = absurd (cc)
one_passes q s r (first ∷ rows) row other here there p o few =
    let whole = sum_by-cons (λ (x : Row). cond (q x) 1 0) first rows in
    let head : (x : Row) → Some first ≡ Some x → q x ≡ true → count_by q (first ∷ rows) ≡ 1 + count_by q rows =
    λ x same passes. let is : first ≡ x = (cc) in omega (arith, whole, ap {B = ℕ} (λ (b : Bool). cond b 1 0) (ap q is ∙ passes)) in
    by_cases (row ≡ other) (eqb first.serial s)
    (λ t. let same : Some first ≡ Some row = rw t at here in
    by_cases (row ≡ other) (eqb first.serial r)
    (λ u. let also : Some first ≡ Some other = rw u at there in cc)
    (λ u. absurd (omega (arith, few, head row same p, row_counted q r rows other (rw u at there) o))))
    (λ t. by_cases (row ≡ other) (eqb first.serial r)
    (λ u. let same : Some first ≡ Some other = rw u at there in absurd (omega (arith, few, head other same o, row_counted q s rows row (rw t at here) p)))
    (λ u. one_passes q s r rows row other (rw t at here) (rw u at there) p o (omega (arith, few, whole))))

-- of rows in one tree no two have one path
one_path : (n : ℕ) (rows : List Row) → IsForest rows → ((s m : ℕ) → count_by (λ row. has_number s m row.parent) rows ≤ 1) → (s r : ℕ) (row other : Row) → row_of s rows ≡ Some row → row_of r rows ≡ Some other → row.root ≡ other.root → row.path ≡ other.path → length row.path < n → row.serial ≡ other.serial
one_path zero rows forest few s r row other here there root path short = absurd (omega (arith, short))
one_path (suc n) rows forest few s r row other here there root path short =
    let long : length row.path ≡ length other.path = ap (λ (p : List ℕ). length p) path in
    ⊎_elim
    (λ (top : IsTop row). ⊎_elim
    (λ (also : IsTop other). sym top.root ∙ root ∙ also.root)
    (λ (below : IsBelow rows other). absurd (omega (arith, long, ap (λ (p : List ℕ). length p) top.path, deeper rows other below)))
    (forest.linked r other there))
    (λ (below : IsBelow rows row). ⊎_elim
    (λ (top : IsTop other). absurd (omega (arith, long, ap (λ (p : List ℕ). length p) top.path, deeper rows row below)))
    (λ (also : IsBelow rows other).
    let parts = same_from_push below.above.path also.above.path below.link.number also.link.number (sym below.path ∙ path ∙ also.path) in
    let above : below.above.serial ≡ also.above.serial = one_path n rows forest few below.link.serial also.link.serial below.above also.above below.found also.found (sym below.root ∙ root ∙ also.root) parts.0 (omega (arith, short, deeper rows row below)) in
    let serial : below.link.serial ≡ also.link.serial = sym (row_of_serial below.link.serial rows below.above below.found) ∙ above ∙ row_of_serial also.link.serial rows also.above also.found in
    let q : Row → Bool = λ x. has_number also.link.serial also.link.number x.parent in
    let passes : q row ≡ true = ap (has_number also.link.serial also.link.number) below.linked ∙ and_from (eqb below.link.serial also.link.serial) (eqb below.link.number also.link.number) (eq-eqb below.link.serial also.link.serial serial) (eq-eqb below.link.number also.link.number parts.1) in
    let others : q other ≡ true = ap (has_number also.link.serial also.link.number) also.linked ∙ and_from (eqb also.link.serial also.link.serial) (eqb also.link.number also.link.number) (eq-eqb also.link.serial also.link.serial refl) (eq-eqb also.link.number also.link.number refl) in
    ap (λ (x : Row). x.serial) (one_passes q s r rows row other here there passes others (few also.link.serial also.link.number)))
    (forest.linked r other there))
    (forest.linked s row here)

-- a row of a tree
record IsOf (rows : List Row) (root : ℕ) (row : Row) : Type 0 where
  here : row_of row.serial rows ≡ Some row
  inside : row.root ≡ root

each_of : (rows xs : List Row) (root : ℕ) → Each (λ row. row_of row.serial rows ≡ Some row) xs → Each (IsOf rows root) (rows_below root xs)
each_of rows [] root found = tt
each_of rows (row ∷ xs) root found =
    let later = each_of rows xs root found.1 in
    cond_both (eqb row.root root) (row ∷ rows_below root xs) (rows_below root xs) (Each (IsOf rows root)) (λ t. (record { here = found.0; inside = eqb-true row.root root t }, later)) (λ t. later)

contains_mapped : {X Y : Type 0} (f : X → Y) (xs : List X) (x : X) → Contains xs x → Contains (map f xs) (f x)
contains_mapped f xs x at = (at.0, omega (arith, at.1, length-map xs f), get_or-map f xs at.0 x (f x) at.1 ∙ ap f at.2)

-- one tree of rows that are numbered
module _ (begun : ℕ) (rows : List Row) (trees : AreTrees begun rows) (n : Numbered begun (places_of rows)) (root : ℕ) where
  abbrev pending : List Transaction
  pending = map transaction_of rows

  abbrev tree : List Row
  tree = rows_below root rows

  path_is : (row : Row) → IsOf rows root row → path_of pending (transaction_of row) ≡ row.path
  path_is row of = (line_whole rows trees.forest row.serial row of.here).path

  two_sort : (row other : Row) → IsOf rows root row → IsOf rows root other → row.serial < other.serial → Sorts (path_of pending) (Stands pending) (transaction_of row) (transaction_of other)
  two_sort row other of also older =
      let path : Row → List ℕ = λ r. path_of pending (transaction_of r) in (
        λ e. false_from_ne_true (is_path_before (path other) (path row)) (λ f.
            let same : row.path ≡ other.path = sym (path_is row of) ∙ path_both (path row) (path other) e f ∙ path_is other also in
            let few : (s m : ℕ) → count_by (λ r. has_number s m r.parent) rows ≤ 1 = λ s m. subst (λ (c : ℕ). c ≤ 1) (row_links (has_number s m) rows) (n.few s m) in
            absurd (omega (arith, older, one_path (length row.path + 1) rows trees.forest few row.serial other.serial row other of.here also.here (of.inside ∙ sym also.inside) same (omega arith)))),
        λ e. e,
      )

  later_sort : (row : Row) → IsOf rows root row → (low : ℕ) (xs : List Row) → Rising low begun xs → row.serial < low → Each (IsOf rows root) xs → Each (λ r. Sorts (path_of pending) (Stands pending) (transaction_of row) (transaction_of r)) xs
  later_sort row of low [] r older ofs = tt
  later_sort row of low (x ∷ xs) r older ofs = (two_sort row x of ofs.0 (omega (arith, older, r.0)), later_sort row of (x.serial + 1) xs r.1 (omega (arith, older, r.0)) ofs.1)

  tree_sorts : (low : ℕ) (xs : List Row) → Rising low begun xs → Each (IsOf rows root) xs → InOrder (Sorts (path_of pending) (Stands pending)) (map transaction_of xs)
  tree_sorts low [] r ofs = tt
  tree_sorts low (row ∷ xs) r ofs = (all_told (Sorts (path_of pending) (Stands pending) (transaction_of row)) xs (later_sort row ofs.0 (row.serial + 1) xs r.1 (omega arith) ofs.1), tree_sorts (row.serial + 1) xs r.1 ofs.1)

  tree_contains : (row : Row) → IsOf rows root row → Contains (map transaction_of tree) (transaction_of row)
  tree_contains row of = contains_mapped transaction_of tree row (row_contained row.serial tree row (kept_filter (λ r. eqb r.root root) row.serial rows row of.here (eq-eqb row.root root of.inside)))

  in_tree : (row : Row) → IsOf rows root row → InTree pending (map transaction_of tree) (transaction_of row)
  in_tree row of =
      let line = line_whole rows trees.forest row.serial row of.here in
      record {
        level = line.long ∙ ap (λ (p : List ℕ). length p + 1) (sym line.path);
        placed = ⊎_elim
            (λ (top : IsTop row). inl (record { path = line.path ∙ top.path; parent = ap parent_vxid top.none }))
            (λ (below : IsBelow rows row).
            let Is : Row → Type 0 = λ r. IsNamed begun n.vxids (place_of (transaction_of r)) in
            let names : (r : Row) → row_of r.serial rows ≡ Some r → Is r = λ r here. All-contains Is rows r (each_place (IsNamed begun n.vxids) rows n.named) (row_contained r.serial rows r here) in
            let serial : below.above.serial ≡ below.link.serial = row_of_serial below.link.serial rows below.above below.found in
            let above : IsOf rows root below.above = record { here = ap (λ (s : ℕ). row_of s rows) serial ∙ below.found; inside = sym below.root ∙ of.inside } in
            inr (record {
              above = transaction_of below.above;
              here = tree_contains below.above above;
              number = below.link.number;
              path = line.path ∙ below.path ∙ ap (λ (p : List ℕ). p ++ below.link.number ∷ []) (sym (path_is below.above above));
              parent = ap parent_vxid below.linked ∙ ((names row of.here).link below.link below.linked).1 ∙ ap n.vxids (sym serial) ∙ sym (names below.above above.here).vxid;
            }))
            (trees.forest.linked row.serial row of.here);
      }

  tree_walk : (row : Row) → IsOf rows root row → IsWalk (map (member_of pending) (preorder (path_of pending) (map transaction_of tree)))
  tree_walk row of =
      let ofs = each_of rows rows root (each_found 0 begun rows trees.rising) in
      sorted_walk pending (map transaction_of tree) (tree_sorts 0 tree (rising_filter (λ r. eqb r.root root) 0 begun rows trees.rising) ofs)
      (all_told (InTree pending (map transaction_of tree)) tree (each_weaker (IsOf rows root) (λ r. InTree pending (map transaction_of tree) (transaction_of r)) in_tree tree ofs))
      (transaction_of row) (tree_contains row of)

-- numbers of children are in order after a step, and each group that left is a walk
record Walks (r : Leaving) : Type 0 where
  numbered : IsNumbered r.state
  walks : All (λ (g : Group). IsWalk g.members) r.groups

nothing_walks : (state : State) → IsNumbered state → Walks (nothing_left state)
nothing_walks state n = record { numbered = n; walks = All-nil (λ (g : Group). IsWalk g.members) }

walks_then : (first : Leaving) (next : State → Leaving) → Walks first → Walks (next first.state) → Walks (then_left first next)
walks_then first next a b = record { numbered = b.numbered; walks = All-append (λ (g : Group). IsWalk g.members) first.groups (next first.state).groups a.walks b.walks }

-- what leaves is a walk
rows_walk : (begun : ℕ) (time : Option ℕ) (rows : List Row) (row : Row) → AreTrees begun rows → row_of row.serial rows ≡ Some row → Numbered begun (places_of rows) → Walks (left_by (Some (transaction_of row)) (state_with begun time rows))
rows_walk begun time rows row trees here n =
    let state : State = state_with begun time rows in
    let root : Transaction = root_of state.pending (transaction_of row) in
    let top : root.serial ≡ row.root = (line_whole rows trees.forest row.serial row here).top (transaction_of row) in
    by_cases (Walks (left_by (Some (transaction_of row)) state)) (list_all (λ (u : Transaction). u.ended) (tree_of state.pending root))
    (λ t. rw t (record {
      numbered = subst (λ (ts : List Transaction). Numbered begun (map place_of ts)) (sym (other_rows begun rows root trees.rising trees.forest)) (numbered_left begun root.serial rows trees n);
      walks = All-cons (λ (g : Group). IsWalk g.members) (group_of state.pending root) []
          (subst (λ (ts : List Transaction). IsWalk (map (member_of state.pending) (preorder (path_of state.pending) ts))) (sym (tree_rows begun rows root trees.rising trees.forest))
          (tree_walk begun rows trees n root.serial row (record { here = here; inside = sym top }))) (All-nil (λ (g : Group). IsWalk g.members));
    }))
    (λ t. rw t (nothing_walks state n))

left_walks : (state : State) (t : Transaction) → IsNumbered state → EndedIn state t → Walks (left_by (Some t) state)
left_walks state t n e =
    let s = e.ending in
    subst (λ (x : Transaction). Walks (left_by (Some x) state)) e.found.told
    (subst (λ (x : State). Walks (left_by (Some (transaction_of e.found.row)) x)) (ap (λ (ts : List Transaction). record state { pending = ts }) s.told)
    (rows_walk state.begun state.time s.rows e.found.row s.trees e.found.here (subst (λ (ts : List Transaction). Numbered state.begun (map place_of ts)) (sym s.told) n)))

end_walks : (vxid : ℕ) (rec : Record) (state : State) → Standing state → IsNumbered state → Walks (after_end vxid rec state)
end_walks vxid rec state s n =
    let now : State = record state { pending = with_newest vxid ended state.pending } in
    cond_both (eqb rec.tag end_tag) (left_by (newest vxid now.pending) now) (nothing_left state) Walks
    (λ e. ended_by Walks vxid state s (nothing_walks state n) (λ t. left_walks now t (newest_kept vxid ended (λ x. refl) state n)))
    (λ e. nothing_walks state n)

one_walks : (test : Transaction → Bool) (cause : Cause) (state : State) → Standing state → IsNumbered state → Walks (forced_one test cause state)
one_walks test cause state s n =
    forced_by Walks test cause state s (nothing_walks state n)
    (λ t. left_walks (record state { pending = with_oldest test (forced cause) state.pending }) t (oldest_kept test (forced cause) (λ x. refl) state n))

abbrev WalksFrom : State → Leaving → Type 0
WalksFrom state r = Standing state → IsNumbered state → Standing r.state × Walks r

walks_on : HoldsOn WalksFrom
walks_on = record {
  none = λ state s n. (s, nothing_walks state n);
  after = λ first next state a b s n. let x = a s n in let y = b x.0 x.1.numbered in (y.0, walks_then first next x.1 y.1);
  one = λ which cause state s n. (one_stands (test_of which) cause state s, one_walks (test_of which) cause state s n);
}

taken_walk : (options : GroupOptions) (taken : List Taken) → is_raw options.grouping ≡ false → Walks (taken_steps options taken no_state)
taken_walk options taken tree =
    let ends : (vxid : ℕ) (rec : Record) (state : State) → WalksFrom state (after_end vxid rec (with_all_told options.grouping vxid rec state)) = λ vxid rec state s n.
    let told : State = with_all_told options.grouping vxid rec state in
    let stands = told_stands options.grouping vxid rec state s in
    (end_stands vxid rec told stands, end_walks vxid rec told stands (told_numbered options.grouping vxid rec state n)) in
    let over : HoldsOver options WalksFrom = holds_over options WalksFrom walks_on (λ vxid rec state raw. absurd (both_ways (is_raw options.grouping) tree raw)) ends in
    (items_hold options WalksFrom over taken no_state (taken_stand options []) (record { vxids = λ s. 0; named = All-nil (IsNamed 0 (λ s. 0)); few = λ s m. omega arith; below = λ s m le. refl })).1

-- whatever was taken, and after a flush
pub taken_walks : (options : GroupOptions) (taken : List Taken) → is_raw options.grouping ≡ false → All (λ (g : Group). IsWalk g.members) ((taken_steps options taken no_state).groups ++ (flush (taken_steps options taken no_state).state).groups)
taken_walks options taken tree =
    let run : Leaving = taken_steps options taken no_state in
    let walks = taken_walk options taken tree in
    (walks_then run flush walks (flush_holds WalksFrom walks_on run.state (taken_stand options taken) walks.numbered).1).walks

-- whatever was taken, no two pending children of one parent have one number
pub siblings_apart : (options : GroupOptions) (taken : List Taken) → is_raw options.grouping ≡ false → (root : Transaction) (before : List Transaction) (a : Transaction) (between : List Transaction) (b : Transaction) (behind : List Transaction) (p q : ParentLink) →
    preorder (path_of (taken_steps options taken no_state).state.pending) (tree_of (taken_steps options taken no_state).state.pending root) ≡ before ++ a ∷ between ++ b ∷ behind → a.parent ≡ Some p → b.parent ≡ Some q → p.serial ≡ q.serial → p.number < q.number
siblings_apart options taken trees root before a between b behind p q is linked_a linked_b same =
    let pending : List Transaction = (taken_steps options taken no_state).state.pending in
    let ordered = siblings_ordered pending root before a between b behind p q is linked_a linked_b same in
    by_cases (p.number < q.number) (eqb p.number q.number)
    (λ e. let has : Option ParentLink → Bool = has_number q.serial q.number in
    let c : Transaction → ℕ = λ t. cond (has t.parent) 1 0 in
    let one : (k : ParentLink) → k.serial ≡ q.serial → k.number ≡ q.number → (t : Transaction) → t.parent ≡ Some k → c t ≡ 1 =
    λ k serial number t linked. ap {B = ℕ} (λ (x : Bool). cond x 1 0) (ap has linked ∙ and_from (eqb k.serial q.serial) (eqb k.number q.number) (eq-eqb k.serial q.serial serial) (eq-eqb k.number q.number number)) in
    absurd (omega (
      arith,
      one p same (eqb-true p.number q.number e) a linked_a,
      one q refl refl b linked_b,
      ap (sum_by c) (sym is),
      sum_by-append c (before ++ a ∷ between) (b ∷ behind),
      sum_by-append c before (a ∷ between),
      sum_by-cons c a between,
      sum_by-cons c b behind,
      preorder_sum c (path_of pending) (tree_of pending root),
      filter_fewer (λ t. has t.parent) (λ t. eqb (root_of pending t).serial root.serial) pending,
      count_map (λ (x : Place). has x.parent) place_of pending,
      (taken_walk options taken trees).numbered.few q.serial q.number,
    )))
    (λ e. let other : p.number ≢ q.number = eqb-false p.number q.number e in omega (arith, ordered, other))
