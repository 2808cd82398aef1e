-- In each group a record names each child, because a tree leaves with the parents of its transactions.
use Rattle.std.proofs.Common.{◌≡◌, ◌+◌, ◌≤◌, ◌⊎◌, ⊎_elim, ℕ, Bool, true, false, not, eqb, Option, Some, None, List, [], ◌∷◌, ◌++◌, length, map, refl, ap, sym, ◌∙◌, subst, get_or, take, drop, arith}
use Rattle.std.specs.Prelude.{◌≢◌, codes, slice_index_or}
use Rattle.std.specs.List.{All, Contains, list_all}
use Rattle.std.proofs.lemmas.Bool.{both_ways, cond_both}
use Rattle.std.proofs.lemmas.List.{length-append, length_push}
use Rattle.std.proofs.lemmas.List.Elements.{All-nil, All-cons, All-head, All-append, All-contains, All-contains_itself, Contains-append_left, Contains-append_cases}
use Rattle.vsl_tags.specs.Tags.{end_tag, vsl_tag}
use Rattle.vsl_record.specs.declared.record_type.Record.{Record}
use Rattle.txn_rows.specs.declared.rows.Row.{Row}
use Rattle.txn_rows.specs.declared.group.Grouping.{Grouping}
use Rattle.txn_rows.specs.declared.group.GroupOptions.{GroupOptions}
use Rattle.txn_rows.specs.declared.group.ParentLink.{ParentLink}
use Rattle.txn_rows.specs.declared.group.Cause.{Cause}
use Rattle.txn_rows.specs.declared.group.Member.{Member}
use Rattle.txn_rows.specs.declared.group.Group.{Group}
use Rattle.txn_rows.specs.Store.{test_of}
use Rattle.txn_rows.specs.Transaction.{Transaction, newest, with_newest, ended, forced, cause_text, first_mark, oldest, with_oldest}
use Rattle.txn_rows.specs.Links.{path_of, is_path_before, preorder, root_of, tree_of, parent_vxid, member_of, group_of}
use Rattle.txn_rows.specs.Grouping.{Taken, State, Leaving, no_state, nothing_left, then_left, left_by, forced_one, after_end, ended_one, with_all_told, is_raw, raw_group, taken_steps, flush, left_of}
use Rattle.txn_rows.specs.Walk.{FollowsParent, FollowParents, IsWalk}
use Rattle.txn_rows.specs.Trees.{transaction_of, row_of, Rising, IsTop, IsBelow, AreTrees}
use Rattle.txn_rows.specs.States.{state_with, Standing}
use Rattle.txn_rows.specs.inside.Rows.{rows_below, rows_beside}
use Rattle.txn_rows.proofs.LineLemmas.{by_cases, either}
use Rattle.txn_rows.proofs.KeepLemmas.{HoldsOn, HoldsOver, holds_over, flush_holds, items_hold}
use Rattle.txn_rows.proofs.ChangeLemmas.{newest_one, oldest_one}
use Rattle.txn_rows.proofs.TreeLemmas.{line_whole, each_found, each_weaker, tree_rows, other_rows, Found, row_in, row_found, around}
use Rattle.txn_rows.proofs.JoinLemmas.{row_contained, same_row}
use Rattle.txn_rows.proofs.ForceAllLemmas.{one_none}
use Rattle.txn_rows.proofs.StandLemmas.{found_filter, kept_filter, rising_filter}
use Rattle.txn_rows.proofs.RunLemmas.{all_told, EndedIn, ended_by, forced_by, one_stands, told_stands, end_stands, taken_stand}
use Rattle.txn_rows.proofs.OrderLemmas.{path_total, path_then, path_same, path_longer, InOrder, Sorts, all_preorder, all_unsorted, preorder_sorted, all_left, all_right, contains_here, order_at}
use Rattle.txn_rows.proofs.WalkLemmas.{taken_walks}
use Rattle.txn_partition.specs.ChildNames.{NamesParent, NamesChild, WasNamed, ChildrenWereNamed}
use Rattle.txn_partition.proofs.ChildNameLemmas.{Grows, NamedBy, IsNamedIn, AllNamed, grown_named, contains_mapped, told_named}

-- a list that is mapped, split where its image is
record MapIn {X Y : Type 0} (f : X → Y) (xs : List X) (before : List Y) (y : Y) : Type 0 where
  front : List X
  x : X
  back : List X
  whole : xs ≡ front ++ x ∷ back
  first : map f front ≡ before
  is : f x ≡ y

map_in : {X Y : Type 0} (f : X → Y) (xs : List X) (before : List Y) (y : Y) (behind : List Y) → map f xs ≡ before ++ y ∷ behind → MapIn f xs before y
map_in f [] [] y behind e = absurd (cc)
map_in f [] (b ∷ before) y behind e = absurd (cc)
map_in f (x ∷ xs) [] y behind e = record { front = []; x = x; back = xs; whole = refl; first = refl; is = (cc) }
map_in {X} {Y} f (x ∷ xs) (b ∷ before) y behind e =
    let one : f x ≡ b = (cc) in
    let later = map_in f xs before y behind (cc) in
    record {
      front = x ∷ later.front;
      x = later.x;
      back = later.back;
      whole = ap (λ (zs : List X). x ∷ zs) later.whole;
      first = ap (λ (z : Y). z ∷ map f later.front) one ∙ ap (λ (zs : List Y). b ∷ zs) later.first;
      is = later.is;
    }

-- paths are in order
abbrev Before : List Transaction → Transaction → Transaction → Type 0
Before pending t u = is_path_before (path_of pending t) (path_of pending u) ≡ true

all_sort : (pending ts : List Transaction) → InOrder (Sorts (path_of pending) (Before pending)) ts
all_sort pending [] = tt
all_sort pending (t ∷ ts) = (λ k d within. (λ e. e, path_total (path_of pending t) (path_of pending (get_or ts k d))), all_sort pending ts)

in_preorder : (pending ts : List Transaction) → InOrder (Before pending) (preorder (path_of pending) ts)
in_preorder pending ts = preorder_sorted (path_of pending) (Before pending) (λ t u v. path_then (path_of pending t) (path_of pending u) (path_of pending v)) ts (all_sort pending ts)

-- a transaction of rows
found_in : (begun : ℕ) (rows : List Row) → Rising 0 begun rows → (t : Transaction) → Contains (map transaction_of rows) t → Found rows t
found_in begun rows rising t at =
    let ts : List Transaction = map transaction_of rows in
    let front : List Transaction = take at.0 ts in
    let back : List Transaction = drop (at.0 + 1) ts in
    row_found begun rows front t back rising (row_in rows front t back (around at.0 ts t at.1 (sym at.2)))

-- the parent of a row, and that a record names it
record ParentIs (grouping : Grouping) (rows : List Row) (row : Row) : Type 0 where
  link : ParentLink
  linked : row.parent ≡ Some link
  above : Row
  found : row_of above.serial rows ≡ Some above
  serial : above.serial ≡ link.serial
  vxid : above.vxid ≡ link.vxid
  root : row.root ≡ above.root
  path : row.path ≡ above.path ++ link.number ∷ []
  named : NamesParent grouping above.vxid row.records ⊎ NamesChild grouping row.vxid above.records

-- a member below the top was named
abbrev BelowNamed : Grouping → Group → Type 0
BelowNamed grouping g = (before : List Member) (m : Member) (behind : List Member) → g.members ≡ before ++ m ∷ behind → 2 ≤ m.level → WasNamed grouping before m

-- rows that stand in trees, each of which was named that has a parent
module _ (grouping : Grouping) (begun : ℕ) (rows : List Row) (trees : AreTrees begun rows) (all : AllNamed grouping (map transaction_of rows)) where
  abbrev pending : List Transaction
  pending = map transaction_of rows

  parent_is : (row : Row) → row_of row.serial rows ≡ Some row → IsBelow rows row → ParentIs grouping rows row
  parent_is row here below =
      let n : NamedBy grouping pending (transaction_of row) below.link = All-contains (IsNamedIn grouping pending) pending (transaction_of row) all (contains_mapped transaction_of rows row (row_contained row.serial rows row here)) below.link below.linked in
      let f : Found rows n.above = found_in begun rows trees.rising n.above n.here in
      let serial : f.row.serial ≡ below.link.serial = ap (λ (t : Transaction). t.serial) f.told ∙ n.serial in
      let same : f.row ≡ below.above = same_row rows below.link.serial f.row below.above (ap (λ (s : ℕ). row_of s rows) (sym serial) ∙ f.here) below.found in
      record {
        link = below.link;
        linked = below.linked;
        above = f.row;
        found = f.here;
        serial = serial;
        vxid = ap (λ (t : Transaction). t.vxid) f.told ∙ n.vxid;
        root = below.root ∙ ap (λ (r : Row). r.root) (sym same);
        path = below.path ∙ ap (λ (r : Row). r.path ++ below.link.number ∷ []) (sym same);
        named = subst (λ (t : Transaction). NamesParent grouping t.vxid row.records ⊎ NamesChild grouping row.vxid t.records) (sym f.told) n.named;
      }

  -- the other trees keep their parents
  beside_named : (root : ℕ) → AllNamed grouping (map transaction_of (rows_beside root rows))
  beside_named root =
      let test : Row → Bool = λ r. not (eqb r.root root) in
      let side : List Row = rows_beside root rows in
      let In : Transaction → Type 0 = IsNamedIn grouping (map transaction_of side) in
      all_told In side (each_weaker (λ r. row_of r.serial side ≡ Some r) (λ r. In (transaction_of r))
      (λ row at link linked.
      let was = found_filter test row.serial 0 begun rows row trees.rising at in
      ⊎_elim
      (λ (top : IsTop row). absurd (let none : None ≡ Some link = sym top.none ∙ linked in cc))
      (λ (below : IsBelow rows row).
      let p : ParentIs grouping rows row = parent_is row was.0 below in
      let both : Some p.link ≡ Some link = sym p.linked ∙ linked in
      let same : p.link ≡ link = (cc) in
      record {
        above = transaction_of p.above;
        here = contains_mapped transaction_of side p.above (row_contained p.above.serial side p.above (kept_filter test p.above.serial rows p.above p.found (ap (λ (r : ℕ). not (eqb r root)) (sym p.root) ∙ was.1)));
        serial = p.serial ∙ ap (λ (l : ParentLink). l.serial) same;
        vxid = p.vxid ∙ ap (λ (l : ParentLink). l.vxid) same;
        named = p.named;
      })
      (trees.forest.linked row.serial row was.0))
      side (each_found 0 begun side (rising_filter test 0 begun rows trees.rising)))

  -- a member of a tree was named
  row_named : (root : ℕ) (row : Row) → row_of row.serial (rows_below root rows) ≡ Some row → (front back : List Transaction) → preorder (path_of pending) (map transaction_of (rows_below root rows)) ≡ front ++ transaction_of row ∷ back →
      2 ≤ (member_of pending (transaction_of row)).level → WasNamed grouping (map (member_of pending) front) (member_of pending (transaction_of row))
  row_named root row at front back whole deep =
      let test : Row → Bool = λ r. eqb r.root root in
      let tree : List Row = rows_below root rows in
      let ts : List Transaction = map transaction_of tree in
      let t : Transaction = transaction_of row in
      let path : Transaction → List ℕ = path_of pending in
      let sorted : List Transaction = preorder path ts in
      let was = found_filter test row.serial 0 begun rows row trees.rising at in
      let line = line_whole rows trees.forest row.serial row was.0 in
      ⊎_elim
      (λ (top : IsTop row). absurd (omega (arith, deep, line.long, ap (λ (p : List ℕ). length p) top.path)))
      (λ (below : IsBelow rows row).
      let p : ParentIs grouping rows row = parent_is row was.0 below in
      let u : Transaction = transaction_of p.above in
      let line_above = line_whole rows trees.forest p.above.serial p.above p.found in
      let inside : Contains ts u = contains_mapped transaction_of tree p.above (row_contained p.above.serial tree p.above (kept_filter test p.above.serial rows p.above p.found (ap (λ (r : ℕ). eqb r root) (sym p.root) ∙ was.1))) in
      let there : Contains sorted u = All-contains (Contains sorted) ts u (all_unsorted (Contains sorted) path ts (All-contains_itself sorted)) inside in
      ⊎_elim
      (λ (ahead : Contains front u). record {
        parent = member_of pending u;
        ahead = contains_mapped (member_of pending) front u ahead;
        told = ap parent_vxid p.linked ∙ sym p.vxid;
        above = omega (arith, line.long, line_above.long, ap (λ (x : List ℕ). length x) p.path, length_push p.above.path p.link.number);
        named = p.named;
      })
      (λ (later : Contains (t ∷ back) u).
      let order = order_at (Before pending) front t back (subst (InOrder (Before pending)) whole (in_preorder pending ts)) in
      let first : is_path_before (path t) (path u) ≡ true = All-contains (Before pending t) (t ∷ back) u (All-cons (Before pending t) t back (path_same (path t)) order.1) later in
      let longer : path t ≡ path u ++ p.link.number ∷ [] = line.path ∙ p.path ∙ ap (λ (x : List ℕ). x ++ p.link.number ∷ []) (sym line_above.path) in
      absurd (both_ways (is_path_before (path t) (path u)) (ap (λ (x : List ℕ). is_path_before x (path u)) longer ∙ path_longer (path u) p.link.number) first))
      (Contains-append_cases front (t ∷ back) u (subst (λ (xs : List Transaction). Contains xs u) whole there)))
      (trees.forest.linked row.serial row was.0)

  tree_named : (root : ℕ) → BelowNamed grouping (record { members = map (member_of pending) (preorder (path_of pending) (map transaction_of (rows_below root rows))) })
  tree_named root before m behind e deep =
      let test : Row → Bool = λ r. eqb r.root root in
      let tree : List Row = rows_below root rows in
      let ts : List Transaction = map transaction_of tree in
      let sorted : List Transaction = preorder (path_of pending) ts in
      let s : MapIn (member_of pending) sorted before m = map_in (member_of pending) sorted before m behind e in
      let inside : Contains ts s.x = All-contains (Contains ts) sorted s.x (all_preorder (Contains ts) (path_of pending) ts (All-contains_itself ts)) (subst (λ (xs : List Transaction). Contains xs s.x) (sym s.whole) (contains_here s.front s.x s.back)) in
      let f : Found tree s.x = found_in begun tree (rising_filter test 0 begun rows trees.rising) s.x inside in
      let is : member_of pending (transaction_of f.row) ≡ m = ap (member_of pending) f.told ∙ s.is in
      let whole : sorted ≡ s.front ++ transaction_of f.row ∷ s.back = s.whole ∙ ap (λ (t : Transaction). s.front ++ t ∷ s.back) (sym f.told) in
      let named = row_named root f.row f.here s.front s.back whole (subst (λ (x : Member). 2 ≤ x.level) (sym is) deep) in
      subst (λ (x : Member). WasNamed grouping before x) is (subst (λ (xs : List Member). WasNamed grouping xs (member_of pending (transaction_of f.row))) s.first named)

-- each that is pending and has a parent was named, and so was each below the top of a group that left
record Names (grouping : Grouping) (r : Leaving) : Type 0 where
  all : AllNamed grouping r.state.pending
  groups : All (BelowNamed grouping) r.groups

nothing_names : (grouping : Grouping) (state : State) → AllNamed grouping state.pending → Names grouping (nothing_left state)
nothing_names grouping state all = record { all = all; groups = All-nil (BelowNamed grouping) }

-- a tree leaves or stays
rows_names : (grouping : Grouping) (begun : ℕ) (time : Option ℕ) (rows : List Row) (row : Row) → AreTrees begun rows → AllNamed grouping (map transaction_of rows) → Names grouping (left_by (Some (transaction_of row)) (state_with begun time rows))
rows_names grouping begun time rows row trees all =
    let state : State = state_with begun time rows in
    let root : Transaction = root_of state.pending (transaction_of row) in
    by_cases (Names grouping (left_by (Some (transaction_of row)) state)) (list_all (λ (u : Transaction). u.ended) (tree_of state.pending root))
    (λ e. rw e (record {
      all = subst (AllNamed grouping) (sym (other_rows begun rows root trees.rising trees.forest)) (beside_named grouping begun rows trees all root.serial);
      groups = All-cons (BelowNamed grouping) (group_of state.pending root) []
          (subst (λ (ts : List Transaction). BelowNamed grouping (record { members = map (member_of state.pending) (preorder (path_of state.pending) ts) })) (sym (tree_rows begun rows root trees.rising trees.forest))
          (tree_named grouping begun rows trees all root.serial)) (All-nil (BelowNamed grouping));
    }))
    (λ e. rw e (nothing_names grouping state all))

left_names : (grouping : Grouping) (state : State) (t : Transaction) → AllNamed grouping state.pending → EndedIn state t → Names grouping (left_by (Some t) state)
left_names grouping state t all e =
    let s = e.ending in
    subst (λ (x : Transaction). Names grouping (left_by (Some x) state)) e.found.told
    (subst (λ (x : State). Names grouping (left_by (Some (transaction_of e.found.row)) x)) (ap (λ (ts : List Transaction). record state { pending = ts }) s.told)
    (rows_names grouping state.begun state.time s.rows e.found.row s.trees (subst (AllNamed grouping) (sym s.told) all)))

end_names : (grouping : Grouping) (vxid : ℕ) (rec : Record) (state : State) → Standing state → AllNamed grouping state.pending → Names grouping (after_end vxid rec state)
end_names grouping vxid rec state s all =
    let now : List Transaction = with_newest vxid ended state.pending in
    cond_both (eqb rec.tag end_tag) (ended_one vxid state) (nothing_left state) (Names grouping)
    (λ e. ended_by (Names grouping) vxid state s (nothing_names grouping state all)
    (λ t. left_names grouping (record state { pending = now }) t
    (grown_named grouping ended (λ x. record { serial = refl; vxid = refl; records = λ r at. at }) (λ x. refl) (newest vxid state.pending) state.pending now (newest_one vxid ended state.pending) all)))
    (λ e. nothing_names grouping state all)

forced_grows : (cause : Cause) (t : Transaction) → Grows t (forced cause t)
forced_grows cause t = record { serial = refl; vxid = refl; records = λ r at. Contains-append_left t.records (record { tag = vsl_tag; mark = first_mark t.records; payload = cause_text cause } ∷ record { tag = end_tag; mark = first_mark t.records; payload = codes "synth" } ∷ []) r at }

one_names : (grouping : Grouping) (test : Transaction → Bool) (cause : Cause) (state : State) → Standing state → AllNamed grouping state.pending → Names grouping (forced_one test cause state)
one_names grouping test cause state s all =
    let now : List Transaction = with_oldest test (forced cause) state.pending in
    forced_by (Names grouping) test cause state s (nothing_names grouping state all)
    (λ t. left_names grouping (record state { pending = now }) t
    (grown_named grouping (forced cause) (forced_grows cause) (λ x. refl) (oldest test state.pending) state.pending now (oldest_one test (forced cause) state.pending) all))

abbrev NamesOn : Grouping → State → Leaving → Type 0
NamesOn grouping state r = Standing state → AllNamed grouping state.pending → Standing r.state × Names grouping r

names_then : (grouping : Grouping) (first : Leaving) (next : State → Leaving) → Names grouping first → Names grouping (next first.state) → Names grouping (then_left first next)
names_then grouping first next a b = record { all = b.all; groups = All-append (BelowNamed grouping) first.groups (next first.state).groups a.groups b.groups }

names_on : (grouping : Grouping) → HoldsOn (NamesOn grouping)
names_on grouping = record {
  none = λ state s all. (s, nothing_names grouping state all);
  after = λ first next state a b s all. let x = a s all in let y = b x.0 x.1.all in (y.0, names_then grouping first next x.1 y.1);
  one = λ which cause state s all. (one_stands (test_of which) cause state s, one_names grouping (test_of which) cause state s all);
}

-- whatever was taken, flushed at the end or not, each below the top was named
left_named : (options : GroupOptions) (taken : List Taken) → is_raw options.grouping ≡ false → All (BelowNamed options.grouping) (left_of options taken true)
left_named options taken whole =
    let g : Grouping = options.grouping in
    let over : HoldsOver options (NamesOn g) = holds_over options (NamesOn g) (names_on g) (λ vxid rec state raw. absurd (both_ways (is_raw g) whole raw))
    (λ vxid rec state s all. let told : State = with_all_told g vxid rec state in let stands = told_stands g vxid rec state s in
    (end_stands vxid rec told stands, end_names g vxid rec told stands (told_named g vxid rec state all))) in
    let run : Leaving = taken_steps options taken no_state in
    let left = items_hold options (NamesOn g) over taken no_state (taken_stand options []) (All-nil (IsNamedIn g [])) in
    (names_then g run flush left.1 (flush_holds (NamesOn g) (names_on g) run.state left.0 left.1.all).1).groups

-- what follows a member stands below the top
follow_deep : (ahead : List Member) (m : Member) → All (λ (u : Member). 1 ≤ u.level) ahead → FollowsParent ahead m → 2 ≤ m.level
follow_deep ahead m levels f =
    let High : Member → Type 0 = λ u. 1 ≤ u.level in
    let above : High f.parent = All-head High f.parent f.between (all_right High f.ahead (f.parent ∷ f.between) (subst (All High) f.whole levels)) in
    omega (arith, above, f.below)

follows_deep : (ahead rest before : List Member) (m : Member) (behind : List Member) → All (λ (u : Member). 1 ≤ u.level) ahead → FollowParents ahead rest → rest ≡ before ++ m ∷ behind → 2 ≤ m.level
follows_deep ahead [] [] m behind levels follow e = absurd (cc)
follows_deep ahead [] (b ∷ before) m behind levels follow e = absurd (cc)
follows_deep ahead (x ∷ rest) [] m behind levels follow e = let same : x ≡ m = (cc) in subst (λ (u : Member). 2 ≤ u.level) same (follow_deep ahead x levels follow.0)
follows_deep ahead (x ∷ rest) (b ∷ before) m behind levels follow e =
    let High : Member → Type 0 = λ u. 1 ≤ u.level in
    let two : 2 ≤ x.level = follow_deep ahead x levels follow.0 in
    follows_deep (ahead ++ x ∷ []) rest before m behind (All-append High ahead (x ∷ []) levels (All-cons High x [] (omega (arith, two)) (All-nil High))) follow.1 (cc)

-- in a walk each but the first does
walk_deep : (members before : List Member) (m : Member) (behind : List Member) → IsWalk members → members ≡ before ++ m ∷ behind → before ≢ [] → 2 ≤ m.level
walk_deep [] before m behind walk e some = absurd walk
walk_deep (root ∷ members) [] m behind walk e some = absurd (some refl)
walk_deep (root ∷ members) (b ∷ before) m behind walk e some =
    let High : Member → Type 0 = λ u. 1 ≤ u.level in
    follows_deep (root ∷ []) members before m behind (All-cons High root [] (omega (arith, walk.0)) (All-nil High)) walk.2 (cc)

-- a group of one member
abbrev IsAlone : Group → Type 0
IsAlone g = length g.members ≡ 1

alone_named : (grouping : Grouping) (members before : List Member) (m : Member) (behind : List Member) → length members ≡ 1 → members ≡ before ++ m ∷ behind → before ≢ [] → WasNamed grouping before m
alone_named grouping members [] m behind one e some = absurd (some refl)
alone_named grouping members (b ∷ before) m behind one e some = absurd (omega (arith, one, ap (λ (ms : List Member). length ms) e, length-append (b ∷ before) (m ∷ behind)))

-- under raw grouping none is pending, and each group is a record by itself
abbrev AloneOn : State → Leaving → Type 0
AloneOn state r = state.pending ≡ [] → (r.state.pending ≡ []) × All IsAlone r.groups

alone_on : HoldsOn AloneOn
alone_on = record {
  none = λ state e. (e, All-nil IsAlone);
  after = λ first next state a b e. let x = a e in let y = b x.0 in (y.0, All-append IsAlone first.groups (next first.state).groups x.1 y.1);
  one = λ which cause state e. subst (λ (r : Leaving). (r.state.pending ≡ []) × All IsAlone r.groups) (sym (one_none (test_of which) cause state (rw e refl))) (e, All-nil IsAlone);
}

left_alone : (options : GroupOptions) (taken : List Taken) → is_raw options.grouping ≡ true → All IsAlone (left_of options taken true)
left_alone options taken raw =
    let over : HoldsOver options AloneOn = record { on = alone_on; one = λ vxid rec state e. rw raw (e, All-cons IsAlone (raw_group vxid rec) [] refl (All-nil IsAlone)) } in
    let run : Leaving = taken_steps options taken no_state in
    let left = items_hold options AloneOn over taken no_state refl in
    All-append IsAlone run.groups (flush run.state).groups left.1 (flush_holds AloneOn alone_on run.state left.0).1

-- whatever was taken, flushed at the end or not, a record names each child
pub each_child_named : (options : GroupOptions) (taken : List Taken) (flushed : Bool) → All (ChildrenWereNamed options.grouping) (left_of options taken flushed)
each_child_named options taken flushed =
    let g : Grouping = options.grouping in
    let Named : Group → Type 0 = ChildrenWereNamed g in
    let run : Leaving = taken_steps options taken no_state in
    let last : List Group = (flush run.state).groups in
    let groups : List Group = run.groups ++ last in
    let whole : All Named groups = by_cases (All Named groups) (is_raw g)
    (λ raw. λ k d within before m behind e some. alone_named g (slice_index_or groups k d).members before m behind (left_alone options taken raw k d within) e some)
    (λ trees. λ k d within before m behind e some. left_named options taken trees k d within before m behind e (walk_deep (slice_index_or groups k d).members before m behind (taken_walks options taken trees k d within) e some)) in
    either (All Named) flushed groups run.groups whole (all_left Named run.groups last whole)
