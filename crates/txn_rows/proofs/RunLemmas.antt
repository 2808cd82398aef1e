-- Over every log the pending transactions stand in trees: each line ends at a transaction without a parent.
use Rattle.std.proofs.Common.{◌≡◌, ⊎_elim, ℕ, Bool, true, false, not, eqb, cond, ◌&&◌, Option, Some, None, List, [], ◌∷◌, ◌++◌, map, refl, ap, sym, ◌∙◌, subst, arith}
use Rattle.std.specs.Prelude.{count_by, is_none}
use Rattle.std.specs.List.{All, list_all}
use Rattle.std.specs.Option.{option_map}
use Rattle.std.proofs.lemmas.Bool.{eqb-true, eqb-false, eq-eqb, ne_eqb, not-true}
use Rattle.std.proofs.lemmas.List.{map-append}
use Rattle.std.proofs.lemmas.List.Elements.{All-nil, All-cons}
use Rattle.vsl_tags.specs.Tags.{end_tag}
use Rattle.vsl_record.specs.declared.record_type.Record.{Record}
use Rattle.txn_rows.specs.declared.rows.Row.{Row}
use Rattle.txn_rows.specs.declared.join.Join.{Join}
use Rattle.txn_rows.specs.declared.group.Grouping.{Grouping}
use Rattle.txn_rows.specs.declared.group.GroupOptions.{GroupOptions}
use Rattle.txn_rows.specs.declared.group.Cause.{Cause}
use Rattle.txn_rows.specs.Transaction.{Transaction, empty_transaction, newest, with_newest, claimed_kind, ended, forced, oldest, with_oldest}
use Rattle.txn_rows.specs.Links.{with_parent, with_link, leads_to, line_of, root_of}
use Rattle.txn_rows.specs.Grouping.{Taken, State, Leaving, no_state, nothing_left, with_new, with_transaction, raised, timed, left_by, ended_one, forced_one, after_end, with_all_told, taken_steps}
use Rattle.txn_rows.specs.Trees.{transaction_of, row_of, AreTrees}
use Rattle.txn_rows.specs.inside.Rows.{row_told, Each, joined, Rows, left_rows, rows_below, rows_beside}
use Rattle.txn_rows.specs.Store.{test_of}
use Rattle.txn_rows.specs.States.{state_with, HasOpen, OpenTrees, Standing}
use Rattle.txn_rows.proofs.LineLemmas.{by_cases, row_of_serial, Line}
use Rattle.txn_rows.proofs.KeepLemmas.{HoldsOn, HoldsOver, holds_over, items_hold, claimed_same, Keeps, begun_kept, told_kept}
use Rattle.txn_rows.proofs.ChangeLemmas.{KeepsLinks, EndsNone, newest_split, OneChanged, ChangesOne, newest_one, oldest_one, newest_is_changed}
use Rattle.txn_rows.proofs.JoinLemmas.{Pair, link_refused, link_joins, row_of_map, before_map, joined_serial, joined_root}
use Rattle.txn_rows.proofs.TreeLemmas.{each_found, each_weaker, each_line, of_row, of_row_same, Found, row_in, row_found, row_changed}
use Rattle.txn_rows.proofs.StandLemmas.{KeepsPlaces, trees_kept, of_row_keeps, told_keeps, row_told_is, rows_told, trees_push, trees_after, left_is, found_push, found_still, found_filter, kept_filter}

-- the same, where one tree may have ended
pub record Ending (state : State) (root : ℕ) : Type 0 where
  pub rows : List Row
  pub trees : AreTrees state.begun rows
  pub told : map transaction_of rows ≡ state.pending
  pub unended : (s : ℕ) (row : Row) → row_of s rows ≡ Some row → eqb row.root root ≡ false → HasOpen rows row.root

-- rows that are changed tree by tree, and end no more than before
open_map : (f : Row → Row) (g : ℕ → ℕ) (rows : List Row) → ((row : Row) → (f row).serial ≡ row.serial) → ((row : Row) → (f row).root ≡ g row.root) → ((row : Row) → (f row).ended ≡ row.ended) → OpenTrees rows → OpenTrees (map f rows)
open_map f g rows serial root ended unended s now here =
    let was = before_map f s rows (row_of s rows) now refl (sym (row_of_map f serial s rows) ∙ here) in
    let u : HasOpen rows was.0.root = unended s was.0 was.1 in
    record {
      row = f u.row;
      here = ap (λ (n : ℕ). row_of n (map f rows)) (serial u.row) ∙ row_of_map f serial u.row.serial rows ∙ ap (option_map f) u.here;
      inside = root u.row ∙ ap g u.inside ∙ sym (root was.0) ∙ ap (λ (r : Row). r.root) (sym was.2);
      unended = ended u.row ∙ u.unended;
    }

open_push : (rows : List Row) (new : Row) → new.ended ≡ false → OpenTrees rows → OpenTrees (rows ++ new ∷ [])
open_push rows new fresh unended s row here = ⊎_elim
    (λ (was : row_of s rows ≡ Some row).
    let u : HasOpen rows row.root = unended s row was in
    record { row = u.row; here = found_still u.row.serial rows new u.row u.here; inside = u.inside; unended = u.unended })
    (λ (same : row ≡ new). record {
      row = row;
      here = ap (λ (n : ℕ). row_of n (rows ++ new ∷ [])) (row_of_serial s (rows ++ new ∷ []) row here) ∙ here;
      inside = refl;
      unended = ap (λ (r : Row). r.ended) same ∙ fresh;
    })
    (found_push s rows new row (row_of s rows) refl here)

-- a tree of which not all have ended has one that has not
exists_open : (rows xs : List Row) (root : ℕ) → Each (λ row. row_of row.serial rows ≡ Some row) xs → list_all (λ (r : Row). r.ended) (rows_below root xs) ≡ false → HasOpen rows root
exists_open rows [] root found e = absurd (cc)
exists_open rows (r ∷ xs) root found e =
    by_cases (HasOpen rows root) (eqb r.root root)
    (λ t. by_cases (HasOpen rows root) r.ended
    (λ u. exists_open rows xs root found.1 (rw (t, u) at e))
    (λ u. record { row = r; here = found.0; inside = eqb-true r.root root t; unended = u }))
    (λ t. exists_open rows xs root found.1 (rw t at e))

-- once the tree that ended has left, no tree has ended
open_left : (begun root : ℕ) (rows : List Row) → AreTrees begun rows → ((s : ℕ) (row : Row) → row_of s rows ≡ Some row → eqb row.root root ≡ false → HasOpen rows row.root) → OpenTrees (left_rows root rows).rows
open_left begun root rows trees unended =
    by_cases (OpenTrees (left_rows root rows).rows) (list_all (λ (r : Row). r.ended) (rows_below root rows))
    (λ t. let q : Row → Bool = λ r. not (eqb r.root root) in
    let beside : OpenTrees (rows_beside root rows) = λ s row here.
    let was = found_filter q s 0 begun rows row trees.rising here in
    let u = unended s row was.0 (not-true (eqb row.root root) was.1) in
    record {
      row = u.row;
      here = kept_filter q u.row.serial rows u.row u.here (ap (λ (n : ℕ). not (eqb n root)) u.inside ∙ was.1);
      inside = u.inside;
      unended = u.unended;
    } in
    rw t beside)
    (λ t. let all : OpenTrees rows = λ s row here.
    by_cases (HasOpen rows row.root) (eqb row.root root)
    (λ in_it. subst (HasOpen rows) (sym (eqb-true row.root root in_it)) (exists_open rows rows root (each_found 0 begun rows trees.rising) t))
    (λ beside. unended s row here beside) in
    rw t all)

-- the row of a serial number is changed as its transaction
abbrev changed : ℕ → (Transaction → Transaction) → Row → Row
changed s change row = of_row s (row_told change) row

changed_keeps : (s : ℕ) (change : Transaction → Transaction) (rows : List Row) → KeepsPlaces (changed s change) rows
changed_keeps s change rows = of_row_keeps s (row_told change) rows (told_keeps change rows)

-- a change of one that ends none leaves the rows in trees
change_stands : (change : Transaction → Transaction) (state : State) → KeepsLinks change → EndsNone change → (s : Standing state) → (o : Option Transaction) (now : List Transaction) → ChangesOne change o state.pending now → Standing (record state { pending = now })
change_stands change state keeps ends s None now c = subst (λ (ts : List Transaction). Standing (record state { pending = ts })) (sym c) s
change_stands change state keeps ends s (Some t) now c =
    let one = row_changed s.rows state.begun (row_told change) change t now (row_told_is change keeps) s.trees.rising (subst (λ (ts : List Transaction). OneChanged change t ts now) (sym s.told) c) in
    let places = changed_keeps t.serial change s.rows in
    record {
      rows = map (changed t.serial change) s.rows;
      trees = trees_kept state.begun (changed t.serial change) s.rows places s.trees;
      told = one.told;
      unended = open_map (changed t.serial change) (λ x. x) s.rows places.serial places.root (of_row_same (λ r. r.ended) t.serial (row_told change) (λ row. ends (transaction_of row))) s.unended;
    }

with_newest_stands : (vxid : ℕ) (change : Transaction → Transaction) (state : State) → KeepsLinks change → EndsNone change → Standing state → Standing (record state { pending = with_newest vxid change state.pending })
with_newest_stands vxid change state keeps ends s = change_stands change state keeps ends s (newest vxid state.pending) (with_newest vxid change state.pending) (newest_one vxid change state.pending)

-- the row of a transaction that ends: only its tree may have ended
ending_open : (change : Transaction → Transaction) (begun : ℕ) (rows : List Row) (t : Transaction) → (found : Found rows t) → OpenTrees rows → (s : ℕ) (now : Row) → row_of s (map (changed t.serial change) rows) ≡ Some now → eqb now.root found.row.root ≡ false → HasOpen (map (changed t.serial change) rows) now.root
ending_open change begun rows t found unended s now here beside =
    let f : Row → Row = changed t.serial change in
    let places = changed_keeps t.serial change rows in
    let was = before_map f s rows (row_of s rows) now refl (sym (row_of_map f places.serial s rows) ∙ here) in
    let root_is : now.root ≡ was.0.root = ap (λ (r : Row). r.root) was.2 ∙ places.root was.0 in
    let u : HasOpen rows was.0.root = unended s was.0 was.1 in
    let serial : found.row.serial ≡ t.serial = ap (λ (x : Transaction). x.serial) found.told in
    let other : eqb u.row.serial t.serial ≡ false =
    ne_eqb u.row.serial t.serial (λ e.
    let at : row_of found.row.serial rows ≡ Some u.row = ap (λ (n : ℕ). row_of n rows) (serial ∙ sym e) ∙ u.here in
    let same : Some u.row ≡ Some found.row = sym at ∙ found.here in
    let is : u.row ≡ found.row = (cc) in
    eqb-false now.root found.row.root beside (root_is ∙ sym u.inside ∙ ap (λ (r : Row). r.root) is)) in
    let stays : f u.row ≡ u.row = ap (λ (b : Bool). cond b (row_told change u.row) u.row) other in
    record {
      row = u.row;
      here = row_of_map f places.serial u.row.serial rows ∙ ap (option_map f) u.here ∙ ap Some stays;
      inside = u.inside ∙ sym root_is;
      unended = u.unended;
    }

-- a transaction that begins
new_stands : (vxid : ℕ) (state : State) → Standing state → Standing (with_new vxid state)
new_stands vxid state s =
    let row : Row = record { serial = state.begun; vxid = vxid; kind = (empty_transaction 0 0 None).kind; reason = (empty_transaction 0 0 None).reason; records = []; parent = None; children = 0; ended = false; time = state.time; root = state.begun; path = [] } in
    record {
      rows = s.rows ++ row ∷ [];
      trees = trees_push state.begun s.rows row s.trees refl (record { none = refl; root = refl; path = refl }) refl;
      told = map-append transaction_of s.rows (row ∷ []) ∙ ap (λ (ts : List Transaction). ts ++ empty_transaction state.begun vxid state.time ∷ []) s.told;
      unended = open_push s.rows row refl s.unended;
    }

-- what a link comes to
link_rows : (begun cv pv : ℕ) (rows : List Row) → AreTrees begun rows → (c p : Option Transaction) → newest cv (map transaction_of rows) ≡ c → newest pv (map transaction_of rows) ≡ p → (now : List Row) × Rows begun (with_link cv pv (map transaction_of rows)) now × (OpenTrees rows → OpenTrees now)
link_rows begun cv pv rows trees None p e f = (rows, record { trees = trees; told = sym (ap (λ (o : Option Transaction). with_parent o (newest pv (map transaction_of rows)) (map transaction_of rows)) e) }, λ o. o)
link_rows begun cv pv rows trees (Some t) None e f = (rows, record { trees = trees; told = sym (ap (λ (o : Option Transaction). with_parent o (newest pv (map transaction_of rows)) (map transaction_of rows)) e ∙ ap (λ (o : Option Transaction). with_parent (Some t) o (map transaction_of rows)) f) }, λ o. o)
link_rows begun cv pv rows trees (Some t) (Some u) e f =
    let below = newest_split cv (map transaction_of rows) t e in
    let above = newest_split pv (map transaction_of rows) u f in
    let child = row_found begun rows below.front t below.back trees.rising (row_in rows below.front t below.back below.whole) in
    let parent = row_found begun rows above.front u above.back trees.rising (row_in rows above.front u above.back above.whole) in
    let pair : Pair cv pv rows child.row parent.row = record {
      child_newest = e ∙ ap Some (sym child.told);
      child_here = child.here;
      child_vxid_is = ap (λ (x : Transaction). x.vxid) child.told ∙ eqb-true t.vxid cv below.same;
      parent_newest = f ∙ ap Some (sym parent.told);
      parent_here = parent.here;
    } in
    let join : Join = record { child = child.row.serial; link = record { serial = parent.row.serial; vxid = parent.row.vxid; number = count_by (λ (row : Row). leads_to parent.row.serial row.parent) rows }; root = parent.row.root; path = parent.row.path } in
    by_cases ((now : List Row) × Rows begun (with_link cv pv (map transaction_of rows)) now × (OpenTrees rows → OpenTrees now)) (is_none child.row.parent && not child.row.ended && not (eqb parent.row.root child.row.serial))
    (λ can. (map (joined join) rows, link_joins begun cv pv rows child.row parent.row join trees pair can refl, open_map (joined join) (λ x. cond (eqb x join.child) join.root x) rows (joined_serial join) (joined_root join) (λ row. refl)))
    (λ cannot. (rows, link_refused begun cv pv rows child.row parent.row trees pair cannot, λ o. o))

link_stands : (cv pv : ℕ) (state : State) → Standing state → Standing (record state { pending = with_link cv pv state.pending })
link_stands cv pv state s =
    let linked = link_rows state.begun cv pv s.rows s.trees (newest cv (map transaction_of s.rows)) (newest pv (map transaction_of s.rows)) refl refl in
    record { rows = linked.0; trees = linked.1.trees; told = linked.1.told ∙ ap (with_link cv pv) s.told; unended = linked.2 s.unended }

stands_keeps : Keeps Standing
stands_keeps = record {
  new = new_stands;
  kind = λ vxid claim state s. with_newest_stands vxid (claimed_kind claim) state (record { serial = claimed_same (λ t. t.serial) (λ t c. refl) claim; parent = claimed_same (λ t. t.parent) (λ t c. refl) claim }) (claimed_same (λ t. t.ended) (λ t c. refl) claim) s;
  link = link_stands;
  time = λ told state s. let now : Option ℕ = raised told state.time in record {
    rows = map (row_told (timed now)) s.rows;
    trees = trees_kept state.begun (row_told (timed now)) s.rows (told_keeps (timed now) s.rows) s.trees;
    told = rows_told (timed now) (record { serial = λ t. refl; parent = λ t. refl }) s.rows ∙ ap (map (timed now)) s.told;
    unended = open_map (row_told (timed now)) (λ x. x) s.rows (λ row. refl) (λ row. refl) (λ row. refl) s.unended;
  };
}

-- a transaction whose tree alone may have ended
pub record EndedIn (state : State) (t : Transaction) : Type 0 where
  pub root : ℕ
  pub ending : Ending state root
  pub found : Found ending.rows t
  pub inside : found.row.root ≡ root

-- a tree leaves or stays
left_stands : (state : State) (t : Transaction) → EndedIn state t → Standing (left_by (Some t) state).state
left_stands state t e =
    let s = e.ending in
    let found = e.found in
    let whole : state_with state.begun state.time s.rows ≡ state = ap (λ (ts : List Transaction). record state { pending = ts }) s.told in
    let is = left_is state.begun state.begun found.row.serial state.time s.rows found.row s.trees found.here in
    let same : left_by (Some t) state ≡ record { state = state_with state.begun state.time (left_rows found.row.root s.rows).rows; groups = (left_rows found.row.root s.rows).groups } =
    ap (λ (x : Transaction). left_by (Some x) state) (sym found.told) ∙ ap (left_by (Some (transaction_of found.row))) (sym whole) ∙ is in
    subst (λ (r : Leaving). Standing r.state) (sym same) (record {
      rows = (left_rows found.row.root s.rows).rows;
      trees = trees_after state.begun found.row.root s.rows s.trees;
      told = refl;
      unended = open_left state.begun found.row.root s.rows s.trees (λ n row here beside. s.unended n row here (ap (λ (x : ℕ). eqb row.root x) (sym e.inside) ∙ beside));
    })

-- a row that was changed is found
abbrev found_changed : (change : Transaction → Transaction) (rows : List Row) (t : Transaction) → KeepsLinks change → (found : Found rows t) → Found (map (changed t.serial change) rows) (change t)
found_changed change rows t keeps found =
    let f : Row → Row = changed t.serial change in
    let places = changed_keeps t.serial change rows in
    let same : eqb found.row.serial t.serial ≡ true = eq-eqb found.row.serial t.serial (ap (λ (x : Transaction). x.serial) found.told) in
    record {
      row = f found.row;
      told = ap (λ (b : Bool). transaction_of (cond b (row_told change found.row) found.row)) same ∙ row_told_is change keeps found.row ∙ ap change found.told;
      here = ap (λ (n : ℕ). row_of n (map f rows)) (places.serial found.row) ∙ row_of_map f places.serial found.row.serial rows ∙ ap (option_map f) found.here;
    }

-- what is so where nothing leaves, and where a transaction has ended, is so after one was changed
changed_by : (P : Leaving → Type 0) (change : Transaction → Transaction) (state : State) → KeepsLinks change → (s : Standing state) → (o : Option Transaction) (now : List Transaction) → ChangesOne change o state.pending now → P (nothing_left state) →
    ((t : Transaction) → EndedIn (record state { pending = now }) t → P (left_by (Some t) (record state { pending = now }))) → P (left_by (option_map change o) (record state { pending = now }))
changed_by P change state keeps s None now c none each = subst (λ (ts : List Transaction). P (nothing_left (record state { pending = ts }))) (sym c) none
changed_by P change state keeps s (Some t) now c none each =
    let one = row_changed s.rows state.begun (row_told change) change t now (row_told_is change keeps) s.trees.rising (subst (λ (ts : List Transaction). OneChanged change t ts now) (sym s.told) c) in
    let places = changed_keeps t.serial change s.rows in
    each (change t) (record {
      root = one.found.row.root;
      ending = record {
        rows = map (changed t.serial change) s.rows;
        trees = trees_kept state.begun (changed t.serial change) s.rows places s.trees;
        told = one.told;
        unended = ending_open change state.begun s.rows t one.found s.unended;
      };
      found = found_changed change s.rows t keeps one.found;
      inside = places.root one.found.row;
    })

-- as after an end
pub ended_by : (P : Leaving → Type 0) (vxid : ℕ) (state : State) (s : Standing state) → P (nothing_left state) →
    ((t : Transaction) → EndedIn (record state { pending = with_newest vxid ended state.pending }) t → P (left_by (Some t) (record state { pending = with_newest vxid ended state.pending }))) → P (ended_one vxid state)
ended_by P vxid state s none each =
    let now : List Transaction = with_newest vxid ended state.pending in
    subst (λ (o : Option Transaction). P (left_by o (record state { pending = now }))) (sym (newest_is_changed vxid ended state.pending (λ x. refl)))
    (changed_by P ended state (record { serial = λ x. refl; parent = λ x. refl }) s (newest vxid state.pending) now (newest_one vxid ended state.pending) none each)

pub end_stands : (vxid : ℕ) (rec : Record) (state : State) → Standing state → Standing (after_end vxid rec state).state
end_stands vxid rec state s =
    by_cases (Standing (after_end vxid rec state).state) (eqb rec.tag end_tag)
    (λ is_end. rw is_end (ended_by (λ r. Standing r.state) vxid state s s (left_stands (record state { pending = with_newest vxid ended state.pending }))))
    (λ other. rw other s)

-- and after the oldest was force-completed
pub forced_by : (P : Leaving → Type 0) (test : Transaction → Bool) (cause : Cause) (state : State) (s : Standing state) → P (nothing_left state) →
    ((t : Transaction) → EndedIn (record state { pending = with_oldest test (forced cause) state.pending }) t → P (left_by (Some t) (record state { pending = with_oldest test (forced cause) state.pending }))) → P (forced_one test cause state)
forced_by P test cause state s none each =
    changed_by P (forced cause) state (record { serial = λ t. refl; parent = λ t. refl }) s (oldest test state.pending) (with_oldest test (forced cause) state.pending) (oldest_one test (forced cause) state.pending) none each

pub one_stands : (test : Transaction → Bool) (cause : Cause) (state : State) → Standing state → Standing (forced_one test cause state).state
one_stands test cause state s =
    forced_by (λ r. Standing r.state) test cause state s s (left_stands (record state { pending = with_oldest test (forced cause) state.pending }))

abbrev pub StandsOn : State → Leaving → Type 0
StandsOn state r = Standing state → Standing r.state

pub stands_on : HoldsOn StandsOn
stands_on = record { none = λ state s. s; after = λ first next state a b s. b (a s); one = λ which cause state s. one_stands (test_of which) cause state s }

pub told_stands : (grouping : Grouping) (vxid : ℕ) (rec : Record) (state : State) → Standing state → Standing (with_all_told grouping vxid rec state)
told_stands grouping vxid rec state s =
    told_kept Standing stands_keeps grouping vxid rec state
    (with_newest_stands vxid (λ t. record t { records = t.records ++ rec ∷ [] }) (with_transaction vxid state) (record { serial = λ t. refl; parent = λ t. refl }) (λ t. refl) (begun_kept Standing stands_keeps vxid state s))

pub stands_over : (options : GroupOptions) → HoldsOver options StandsOn
stands_over options = holds_over options StandsOn stands_on (λ vxid rec state raw s. s)
    (λ vxid rec state s. end_stands vxid rec (with_all_told options.grouping vxid rec state) (told_stands options.grouping vxid rec state s))

-- over whatever was taken the pending transactions stand in trees
pub taken_stand : (options : GroupOptions) (taken : List Taken) → Standing (taken_steps options taken no_state).state
taken_stand options taken = items_hold options StandsOn (stands_over options) taken no_state (record {
  rows = [];
  trees = record { rising = omega arith; forest = record { linked = λ s row e. absurd (cc); shallow = λ s row e. absurd (cc); counted = λ s row e. absurd (cc) } };
  told = refl;
  unended = λ s row e. absurd (cc);
})

-- a fact of each row's transaction
pub all_told : (P : Transaction → Type 0) (rows : List Row) → Each (λ row. P (transaction_of row)) rows → All P (map transaction_of rows)
all_told P [] e = All-nil P
all_told P (row ∷ rows) e = All-cons P (transaction_of row) (map transaction_of rows) e.0 (all_told P rows e.1)

-- and each line ends at a transaction without a parent
pub taken_lines_end : (options : GroupOptions) (taken : List Taken) → All (λ t. (root_of (taken_steps options taken no_state).state.pending t).parent ≡ None) (taken_steps options taken no_state).state.pending
taken_lines_end options taken =
    let s = taken_stand options taken in
    let P : List Transaction → Transaction → Type 0 = λ pending t. (root_of pending t).parent ≡ None in
    subst (λ (pending : List Transaction). All (P pending) pending) s.told
    (all_told (P (map transaction_of s.rows)) s.rows
    (each_weaker (λ row. Line s.rows row (line_of (map transaction_of s.rows) (transaction_of row))) (λ row. P (map transaction_of s.rows) (transaction_of row)) (λ row line. line.ends (transaction_of row)) s.rows
    (each_line (taken_steps options taken no_state).state.begun s.rows s.trees.rising s.trees.forest)))
