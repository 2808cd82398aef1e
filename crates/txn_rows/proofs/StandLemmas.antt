-- Rows stand in trees after each step: a tree leaves, a row begins, rows are changed in other respects.
use Rattle.std.proofs.Common.{◌≡◌, ◌+◌, ◌<◌, ◌≤◌, ◌⊎◌, ⊎_elim, inl, inr, ℕ, zero, suc, Bool, true, false, not, eqb, cond, Option, Some, None, List, [], ◌∷◌, ◌++◌, length, map, get_or, set, refl, ap, sym, ◌∙◌, subst, arith}
use Rattle.std.specs.Prelude.{count_by}
use Rattle.std.specs.List.{list_all, filter}
use Rattle.std.specs.Option.{option_map, option_or}
use Rattle.std.proofs.lemmas.Bool.{cond_both, eqb-true, eq-eqb, ne_eqb, not-true}
use Rattle.std.proofs.lemmas.List.Sums.{sum_by-cons, sum_by_push}
use Rattle.std.proofs.lemmas.List.Folds.{find-append, list_all-map}
use Rattle.txn_rows.specs.declared.rows.Row.{Row}
use Rattle.txn_rows.specs.declared.group.ParentLink.{ParentLink}
use Rattle.txn_rows.specs.declared.group.Group.{Group}
use Rattle.txn_rows.specs.Transaction.{Transaction}
use Rattle.txn_rows.specs.Links.{leads_to, root_of, tree_of, others, group_of}
use Rattle.txn_rows.specs.Grouping.{Leaving, left_by, nothing_left}
use Rattle.txn_rows.specs.Trees.{transaction_of, row_of, Rising, IsTop, IsBelow, IsForest, AreTrees}
use Rattle.txn_rows.specs.inside.Rows.{row_told, Each, rows_below, rows_beside, left_rows}
use Rattle.txn_rows.specs.States.{state_with}
use Rattle.txn_rows.proofs.LineLemmas.{by_cases, row_of_serial, deeper}
use Rattle.txn_rows.proofs.TreeLemmas.{line_whole, tree_rows, other_rows, group_rows, each_of_all, each_weaker, each_found, of_row, of_row_same, set_is_of_row}
use Rattle.txn_rows.proofs.ChangeLemmas.{KeepsLinks}
use Rattle.txn_rows.proofs.JoinLemmas.{row_of_map, rising_map, before_map, still_below}

-- what holds of each row holds of one that is found, and of those that are kept
each_row : (P : Row → Type 0) (s : ℕ) (rows : List Row) (row : Row) → Each P rows → row_of s rows ≡ Some row → P row
each_row P s [] row e here = absurd (cc)
each_row P s (first ∷ rows) row e here =
    by_cases (P row) (eqb first.serial s)
    (λ t. let same : Some first ≡ Some row = rw t at here in let is : first ≡ row = (cc) in subst P is e.0)
    (λ t. each_row P s rows row e.1 (rw t at here))

each_kept : (P : Row → Type 0) (q : Row → Bool) (rows : List Row) → Each P rows → Each (λ r. P r × (q r ≡ true)) (filter q rows)
each_kept P q [] e = tt
each_kept P q (row ∷ rows) e =
    by_cases (Each (λ r. P r × (q r ≡ true)) (filter q (row ∷ rows))) (q row)
    (λ t. rw t ((e.0, t), each_kept P q rows e.1))
    (λ t. rw t (each_kept P q rows e.1))

-- what is found among those that are kept was there, and is kept
pub found_filter : (q : Row → Bool) (s low high : ℕ) (rows : List Row) (row : Row) → Rising low high rows → row_of s (filter q rows) ≡ Some row → (row_of s rows ≡ Some row) × (q row ≡ true)
found_filter q s low high rows row r here =
    let P : Row → Type 0 = λ x. row_of x.serial rows ≡ Some x in
    let both = each_row (λ x. P x × (q x ≡ true)) s (filter q rows) row (each_kept P q rows (each_found low high rows r)) here in
    (ap (λ (n : ℕ). row_of n rows) (sym (row_of_serial s (filter q rows) row here)) ∙ both.0, both.1)

-- what is kept is found
pub kept_filter : (q : Row → Bool) (s : ℕ) (rows : List Row) (row : Row) → row_of s rows ≡ Some row → q row ≡ true → row_of s (filter q rows) ≡ Some row
kept_filter q s [] row here kept = here
kept_filter q s (first ∷ rows) row here kept =
    let Goal : Type 0 = row_of s (filter q (first ∷ rows)) ≡ Some row in
    by_cases Goal (eqb first.serial s)
    (λ t. let same : Some first ≡ Some row = rw t at here in
    let is : first ≡ row = (cc) in
    let stay : q first ≡ true = ap q is ∙ kept in
    rw (stay, t) same)
    (λ t. let later = kept_filter q s rows row (rw t at here) kept in
    by_cases Goal (q first) (λ u. rw (u, t) later) (λ u. rw u later))

pub rising_weaker : (low lower high : ℕ) (rows : List Row) → lower ≤ low → Rising low high rows → Rising lower high rows
rising_weaker low lower high [] w r = omega (arith, w, r)
rising_weaker low lower high (row ∷ rows) w r = (omega (arith, w, r.0), r.1)

pub rising_filter : (q : Row → Bool) (low high : ℕ) (rows : List Row) → Rising low high rows → Rising low high (filter q rows)
rising_filter q low high [] r = r
rising_filter q low high (row ∷ rows) r =
    by_cases (Rising low high (filter q (row ∷ rows))) (q row)
    (λ t. rw t (r.0, rising_filter q (row.serial + 1) high rows r.1))
    (λ t. rw t (rising_weaker (row.serial + 1) low high (filter q rows) (omega (arith, r.0)) (rising_filter q (row.serial + 1) high rows r.1)))

-- what passes a test is kept, or none of it is
pub filter_count : (p q : Row → Bool) (b : Bool) (rows : List Row) → Each (λ row. q row ≡ true → p row ≡ b) rows → count_by q (filter p rows) ≡ cond b (count_by q rows) 0
filter_count p q true [] e = refl
filter_count p q false [] e = refl
filter_count p q b (row ∷ rows) e =
    let c : Row → ℕ = λ r. cond (q r) 1 0 in
    let later = filter_count p q b rows e.1 in
    let Goal : Type 0 = count_by q (filter p (row ∷ rows)) ≡ cond b (count_by q (row ∷ rows)) 0 in
    let whole = sum_by-cons c row rows in
    let kept = sum_by-cons c row (filter p rows) in
    by_cases Goal (q row)
    (λ t. let one = ap {B = ℕ} (λ (x : Bool). cond x 1 0) t in
    by_cases Goal b
    (λ u. rw (e.0 t, u) (omega (arith, whole, kept, one, later, ap {B = ℕ} (λ (x : Bool). cond x (count_by q rows) 0) u)))
    (λ u. rw (e.0 t, u) (omega (arith, later, ap {B = ℕ} (λ (x : Bool). cond x (count_by q rows) 0) u))))
    (λ t. let none = ap {B = ℕ} (λ (x : Bool). cond x 1 0) t in
    let same : count_by q (row ∷ rows) ≡ count_by q rows = omega (arith, whole, none) in
    rw same (cond_both (p row) (row ∷ filter p rows) (filter p rows) (λ rs. count_by q rs ≡ cond b (count_by q rows) 0) (λ u. omega (arith, kept, none, later)) (λ u. later)))

-- rows that are all kept where they count
pub count_filter : (p q : Row → Bool) (rows : List Row) → Each (λ r. p r ≡ true → q r ≡ true) rows → count_by p (filter q rows) ≡ count_by p rows
count_filter p q rows e = filter_count q p true rows e

-- other trees keep their rows
pub count_beside : (root x : ℕ) → eqb x root ≡ false → (rows : List Row) → count_by (λ (r : Row). eqb r.root x) (rows_beside root rows) ≡ count_by (λ (r : Row). eqb r.root x) rows
count_beside root x other rows =
    count_filter (λ r. eqb r.root x) (λ r. not (eqb r.root root)) rows
    (each_of_all (λ r. eqb r.root x ≡ true → not (eqb r.root root) ≡ true) (λ r e. ap (λ (n : ℕ). not (eqb n root)) (eqb-true r.root x e) ∙ ap not other) rows)

-- a row and the one to which its link leads are of one tree
pub child_in_tree : (rows : List Row) (row child : Row) → row_of row.serial rows ≡ Some row → IsTop child ⊎ IsBelow rows child → leads_to row.serial child.parent ≡ true → child.root ≡ row.root
child_in_tree rows row child here linked leads = ⊎_elim
    (λ (top : IsTop child). let none : leads_to row.serial None ≡ true = ap (leads_to row.serial) (sym top.none) ∙ leads in absurd (cc))
    (λ (below : IsBelow rows child).
    let is : below.link.serial ≡ row.serial = eqb-true below.link.serial row.serial (ap (leads_to row.serial) (sym below.linked) ∙ leads) in
    let found : row_of row.serial rows ≡ Some below.above = ap (λ (n : ℕ). row_of n rows) (sym is) ∙ below.found in
    let same : Some below.above ≡ Some row = sym found ∙ here in
    let above : below.above ≡ row = (cc) in
    below.root ∙ ap (λ (r : Row). r.root) above)
    linked

-- rows of which none counts
pub count_none : (p : Row → Bool) (rows : List Row) → Each (λ r. p r ≡ false) rows → count_by p rows ≡ 0
count_none p [] e = refl
count_none p (row ∷ rows) e =
    let n : Row → ℕ = λ r. cond (p r) 1 0 in
    let none : n row ≡ 0 = ap {B = ℕ} (λ (b : Bool). cond b 1 0) e.0 in
    omega (arith, count_none p rows e.1, sum_by-cons n row rows, none)

-- a child stays where its parent does
pub children_beside : (begun root s : ℕ) (rows : List Row) (row : Row) → AreTrees begun rows → row_of s rows ≡ Some row → not (eqb row.root root) ≡ true → count_by (λ (r : Row). leads_to row.serial r.parent) (rows_beside root rows) ≡ count_by (λ (r : Row). leads_to row.serial r.parent) rows
children_beside begun root s rows row trees here beside =
    let own : row_of row.serial rows ≡ Some row = ap (λ (n : ℕ). row_of n rows) (row_of_serial s rows row here) ∙ here in
    count_filter (λ r. leads_to row.serial r.parent) (λ r. not (eqb r.root root)) rows
    (each_weaker (λ r. row_of r.serial rows ≡ Some r) (λ r. leads_to row.serial r.parent ≡ true → not (eqb r.root root) ≡ true)
    (λ r found leads. ap (λ (n : ℕ). not (eqb n root)) (child_in_tree rows row r own (trees.forest.linked r.serial r found) leads) ∙ beside)
    rows (each_found 0 begun rows trees.rising))

-- where a tree leaves, the others stand
pub trees_left : (begun root : ℕ) (rows : List Row) → AreTrees begun rows → AreTrees begun (rows_beside root rows)
trees_left begun root rows trees =
    let q : Row → Bool = λ r. not (eqb r.root root) in
    record {
      rising = rising_filter q 0 begun rows trees.rising;
      forest = record {
        linked = λ s row here.
            let was = found_filter q s 0 begun rows row trees.rising here in
            ⊎_elim
            (λ (top : IsTop row). inl top)
            (λ (below : IsBelow rows row). inr (still_below rows (rows_beside root rows) row below (kept_filter q below.link.serial rows below.above below.found (ap (λ (n : ℕ). not (eqb n root)) (sym below.root) ∙ was.1))))
            (trees.forest.linked s row was.0);
        shallow = λ s row here.
            let was = found_filter q s 0 begun rows row trees.rising here in
            omega (arith, trees.forest.shallow s row was.0, count_beside root row.root (not-true (eqb row.root root) was.1) rows);
        counted = λ s row here.
            let was = found_filter q s 0 begun rows row trees.rising here in
            trees.forest.counted s row was.0 ∙ sym (children_beside begun root s rows row trees was.0 was.1);
      };
    }

-- whether a tree leaves or stays, rows stand in trees
pub trees_after : (begun root : ℕ) (rows : List Row) → AreTrees begun rows → AreTrees begun (left_rows root rows).rows
trees_after begun root rows trees =
    by_cases (AreTrees begun (left_rows root rows).rows) (list_all (λ (r : Row). r.ended) (rows_below root rows))
    (λ t. rw t (trees_left begun root rows trees))
    (λ t. rw t trees)

-- what leaves with a row is what leaves with its transaction
pub left_is : (begun count s : ℕ) (time : Option ℕ) (rows : List Row) (row : Row) → AreTrees begun rows → row_of s rows ≡ Some row →
    left_by (Some (transaction_of row)) (state_with count time rows) ≡ record { state = state_with count time (left_rows row.root rows).rows; groups = (left_rows row.root rows).groups }
left_is begun count s time rows row trees here =
    let pending : List Transaction = map transaction_of rows in
    let root : Transaction = root_of pending (transaction_of row) in
    let top : root.serial ≡ row.root = (line_whole rows trees.forest s row here).top (transaction_of row) in
    let tree : tree_of pending root ≡ map transaction_of (rows_below row.root rows) = tree_rows begun rows root trees.rising trees.forest ∙ ap (λ (n : ℕ). map transaction_of (rows_below n rows)) top in
    let rest : others pending root ≡ map transaction_of (rows_beside row.root rows) = other_rows begun rows root trees.rising trees.forest ∙ ap (λ (n : ℕ). map transaction_of (rows_beside n rows)) top in
    let all_ended : list_all (λ (u : Transaction). u.ended) (tree_of pending root) ≡ list_all (λ (r : Row). r.ended) (rows_below row.root rows) =
    ap (list_all (λ (u : Transaction). u.ended)) tree ∙ list_all-map (λ (u : Transaction). u.ended) transaction_of (rows_below row.root rows) in
    let leaves : List Transaction → Group → Leaving = λ ts g. record { state = record { pending = ts; begun = count; time = time }; groups = g ∷ [] } in
    by_cases (left_by (Some (transaction_of row)) (state_with count time rows) ≡ record { state = state_with count time (left_rows row.root rows).rows; groups = (left_rows row.root rows).groups }) (list_all (λ (r : Row). r.ended) (rows_below row.root rows))
    (λ t. ap (λ (b : Bool). cond b (leaves (others pending root) (group_of pending root)) (nothing_left (state_with count time rows))) (all_ended ∙ t)
    ∙ ap (λ (ts : List Transaction). leaves ts (group_of pending root)) rest
    ∙ ap (leaves (map transaction_of (rows_beside row.root rows))) (group_rows begun rows root trees.rising trees.forest)
    ∙ rw (top, t) refl)
    (λ t. ap (λ (b : Bool). cond b (leaves (others pending root) (group_of pending root)) (nothing_left (state_with count time rows))) (all_ended ∙ t) ∙ rw t refl)

-- rows with the same links, changed in other respects
pub record KeepsPlaces (f : Row → Row) (rows : List Row) : Type 0 where
  pub serial : (row : Row) → (f row).serial ≡ row.serial
  pub parent : (row : Row) → (f row).parent ≡ row.parent
  pub root : (row : Row) → (f row).root ≡ row.root
  pub path : (row : Row) → (f row).path ≡ row.path
  pub children : (row : Row) → (f row).children ≡ row.children

pub count_same : (p : Row → Bool) (f : Row → Row) → ((row : Row) → p (f row) ≡ p row) → (rows : List Row) → count_by p (map f rows) ≡ count_by p rows
count_same p f same [] = refl
count_same p f same (row ∷ rows) =
    let n : Row → ℕ = λ r. cond (p r) 1 0 in
    omega (arith, sum_by-cons n (f row) (map f rows), ap {B = ℕ} (λ (b : Bool). cond b 1 0) (same row), count_same p f same rows, sum_by-cons n row rows)

pub count_kept : (f : Row → Row) → ((row : Row) → (f row).root ≡ row.root) → (x : ℕ) (rows : List Row) → count_by (λ (r : Row). eqb r.root x) (map f rows) ≡ count_by (λ (r : Row). eqb r.root x) rows
count_kept f keeps x rows = count_same (λ r. eqb r.root x) f (λ row. ap (λ (n : ℕ). eqb n x) (keeps row)) rows

pub children_kept : (f : Row → Row) → ((row : Row) → (f row).parent ≡ row.parent) → (x : ℕ) (rows : List Row) → count_by (λ (r : Row). leads_to x r.parent) (map f rows) ≡ count_by (λ (r : Row). leads_to x r.parent) rows
children_kept f keeps x rows = count_same (λ r. leads_to x r.parent) f (λ row. ap (leads_to x) (keeps row)) rows

-- rows that keep their places stand in trees
pub trees_kept : (begun : ℕ) (f : Row → Row) (rows : List Row) → KeepsPlaces f rows → AreTrees begun rows → AreTrees begun (map f rows)
trees_kept begun f rows keeps trees = record {
  rising = rising_map f keeps.serial 0 begun rows trees.rising;
  forest = record {
    linked = λ s now here.
        let was = before_map f s rows (row_of s rows) now refl (sym (row_of_map f keeps.serial s rows) ∙ here) in
        let row : Row = was.0 in
        subst (λ (r : Row). IsTop r ⊎ IsBelow (map f rows) r) (sym was.2) (⊎_elim
        (λ (top : IsTop row). inl (record { none = keeps.parent row ∙ top.none; root = keeps.root row ∙ top.root ∙ sym (keeps.serial row); path = keeps.path row ∙ top.path }))
        (λ (below : IsBelow rows row). inr (record {
          link = below.link;
          linked = keeps.parent row ∙ below.linked;
          above = f below.above;
          found = row_of_map f keeps.serial below.link.serial rows ∙ ap (option_map f) below.found;
          root = keeps.root row ∙ below.root ∙ sym (keeps.root below.above);
          path = keeps.path row ∙ below.path ∙ ap (λ (p : List ℕ). p ++ below.link.number ∷ []) (sym (keeps.path below.above));
        }))
        (trees.forest.linked s row was.1));
    shallow = λ s now here.
        let was = before_map f s rows (row_of s rows) now refl (sym (row_of_map f keeps.serial s rows) ∙ here) in
        let row : Row = was.0 in
        let few : length row.path < count_by (λ (x : Row). eqb x.root row.root) rows = trees.forest.shallow s row was.1 in
        subst (λ (r : Row). length r.path < count_by (λ (x : Row). eqb x.root r.root) (map f rows)) (sym was.2)
        (subst (λ (p : List ℕ). length p < count_by (λ (x : Row). eqb x.root (f row).root) (map f rows)) (sym (keeps.path row))
        (subst (λ (n : ℕ). length row.path < count_by (λ (x : Row). eqb x.root n) (map f rows)) (sym (keeps.root row))
        (omega (arith, few, count_kept f keeps.root row.root rows))));
    counted = λ s now here.
        let was = before_map f s rows (row_of s rows) now refl (sym (row_of_map f keeps.serial s rows) ∙ here) in
        let row : Row = was.0 in
        subst (λ (r : Row). r.children ≡ count_by (λ (x : Row). leads_to r.serial x.parent) (map f rows)) (sym was.2)
        (keeps.children row ∙ trees.forest.counted s row was.1 ∙ sym (children_kept f keeps.parent row.serial rows)
        ∙ ap (λ (n : ℕ). count_by (λ (x : Row). leads_to n x.parent) (map f rows)) (sym (keeps.serial row)));
  };
}

-- a change of one row keeps places where it keeps that row's
pub of_row_keeps : (s : ℕ) (f : Row → Row) (rows : List Row) → KeepsPlaces f rows → KeepsPlaces (of_row s f) rows
of_row_keeps s f rows keeps = record {
  serial = of_row_same (λ r. r.serial) s f keeps.serial;
  parent = of_row_same (λ r. r.parent) s f keeps.parent;
  root = of_row_same (λ r. r.root) s f keeps.root;
  path = of_row_same (λ r. r.path) s f keeps.path;
  children = of_row_same (λ r. r.children) s f keeps.children;
}

-- a row that tells its transaction, changed, keeps its place
pub told_keeps : (change : Transaction → Transaction) (rows : List Row) → KeepsPlaces (row_told change) rows
told_keeps change rows = record { serial = λ row. refl; parent = λ row. refl; root = λ row. refl; path = λ row. refl; children = λ row. refl }

pub row_told_is : (change : Transaction → Transaction) → KeepsLinks change → (row : Row) → transaction_of (row_told change row) ≡ change (transaction_of row)
row_told_is change keeps row =
    let t : Transaction = change (transaction_of row) in
    ap (λ (n : ℕ). record t { serial = n; parent = row.parent }) (sym (keeps.serial (transaction_of row))) ∙ ap (λ (p : Option ParentLink). record t { parent = p }) (sym (keeps.parent (transaction_of row)))

-- so rows that tell theirs, changed, tell all, changed
pub rows_told : (change : Transaction → Transaction) → KeepsLinks change → (rows : List Row) → map transaction_of (map (row_told change) rows) ≡ map change (map transaction_of rows)
rows_told change keeps [] = refl
rows_told change keeps (row ∷ rows) =
    ap (λ (t : Transaction). t ∷ map transaction_of (map (row_told change) rows)) (row_told_is change keeps row)
    ∙ ap (λ (ts : List Transaction). change (transaction_of row) ∷ ts) (rows_told change keeps rows)

-- a row tells what another row does
abbrev pub retold : Row → Row → Row
retold new row = row_told (λ t. transaction_of new) row

-- the row with the serial number of another tells what that does
abbrev pub swapped : Row → Row → Row
swapped new row = of_row new.serial (retold new) row

pub swapped_keeps : (new : Row) (rows : List Row) → KeepsPlaces (swapped new) rows
swapped_keeps new rows = of_row_keeps new.serial (retold new) rows (told_keeps (λ t. transaction_of new) rows)

-- a row in the place of another
pub record IsInPlaceOf (row new : Row) : Type 0 where
  pub serial : new.serial ≡ row.serial
  pub parent : new.parent ≡ row.parent
  pub root : new.root ≡ row.root
  pub path : new.path ≡ row.path
  pub children : new.children ≡ row.children

pub told_in_place : (change : Transaction → Transaction) (row new : Row) → new ≡ row_told change row → IsInPlaceOf row new
told_in_place change row new is = subst (IsInPlaceOf row) (sym is) (record { serial = refl; parent = refl; root = refl; path = refl; children = refl })

pub retold_is : (row new : Row) → IsInPlaceOf row new → retold new row ≡ new
retold_is row new same =
    ap (λ (n : ℕ). record (retold new row) { serial = n }) (sym same.serial)
    ∙ ap (λ (p : Option ParentLink). record (retold new row) { serial = new.serial; parent = p }) (sym same.parent)
    ∙ ap (λ (n : ℕ). record (retold new row) { serial = new.serial; parent = new.parent; root = n }) (sym same.root)
    ∙ ap (λ (p : List ℕ). record (retold new row) { serial = new.serial; parent = new.parent; root = new.root; path = p }) (sym same.path)
    ∙ ap (λ (n : ℕ). record (retold new row) { serial = new.serial; parent = new.parent; root = new.root; path = new.path; children = n }) (sym same.children)

-- a row that is written at a place is the change of one
pub set_is_map : (low high at : ℕ) (rows : List Row) (row new : Row) → Rising low high rows → at < length rows → row ≡ get_or rows at row → IsInPlaceOf row new → set rows at new ≡ map (swapped new) rows
set_is_map low high at rows row new r within read same =
    set_is_of_row (retold new) low high at rows row new r within read (sym (retold_is row new same)) ∙ ap (λ (s : ℕ). map (of_row s (retold new)) rows) (sym same.serial)

-- a row that is written in the place of another
pub trees_set : (begun at : ℕ) (rows : List Row) (row new : Row) → AreTrees begun rows → at < length rows → row ≡ get_or rows at row → IsInPlaceOf row new → AreTrees begun (set rows at new)
trees_set begun at rows row new trees within read same =
    subst (AreTrees begun) (sym (set_is_map 0 begun at rows row new trees.rising within read same)) (trees_kept begun (swapped new) rows (swapped_keeps new rows) trees)

pub rising_push : (low high : ℕ) (rows : List Row) (row : Row) → Rising low high rows → row.serial ≡ high → Rising low (high + 1) (rows ++ row ∷ [])
rising_push low high [] row r is = (omega (arith, r, is), omega (arith, r, is))
rising_push low high (first ∷ rows) row r is = (r.0, rising_push (first.serial + 1) high rows row r.1 is)

-- what is found after a push
pub found_push : (s : ℕ) (rows : List Row) (new row : Row) (o : Option Row) → o ≡ row_of s rows → row_of s (rows ++ new ∷ []) ≡ Some row → (o ≡ Some row) ⊎ (row ≡ new)
found_push s rows new row (Some was) e here =
    let joined : option_or (Some was) (row_of s (new ∷ [])) ≡ Some row = ap (λ (o : Option Row). option_or o (row_of s (new ∷ []))) e ∙ sym (find-append (λ (r : Row). eqb r.serial s) rows (new ∷ [])) ∙ here in
    inl joined
found_push s rows new row None e here =
    let joined : cond (eqb new.serial s) (Some new) None ≡ Some row = ap (λ (o : Option Row). option_or o (row_of s (new ∷ []))) e ∙ sym (find-append (λ (r : Row). eqb r.serial s) rows (new ∷ [])) ∙ here in
    by_cases ((None ≡ Some row) ⊎ (row ≡ new)) (eqb new.serial s)
    (λ t. let same : Some new ≡ Some row = rw t at joined in inr (cc))
    (λ t. let same : None ≡ Some row = rw t at joined in absurd (cc))

pub found_still : (s : ℕ) (rows : List Row) (new row : Row) → row_of s rows ≡ Some row → row_of s (rows ++ new ∷ []) ≡ Some row
found_still s rows new row here = find-append (λ (r : Row). eqb r.serial s) rows (new ∷ []) ∙ ap (λ (o : Option Row). option_or o (row_of s (new ∷ []))) here

pub rising_ends : (low high : ℕ) (rows : List Row) → Rising low high rows → low ≤ high
rising_ends low high [] r = r
rising_ends low high (row ∷ rows) r = omega (arith, r.0, rising_ends (row.serial + 1) high rows r.1)

-- a row that is found is older than the next
pub found_under : (s low high : ℕ) (rows : List Row) (row : Row) → Rising low high rows → row_of s rows ≡ Some row → row.serial < high
found_under s low high [] row r here = absurd (cc)
found_under s low high (first ∷ rows) row r here =
    by_cases (row.serial < high) (eqb first.serial s)
    (λ t. let same : Some first ≡ Some row = rw t at here in let is : first ≡ row = (cc) in omega (arith, rising_ends (first.serial + 1) high rows r.1, ap (λ (x : Row). x.serial) is))
    (λ t. found_under s (first.serial + 1) high rows row r.1 (rw t at here))

-- the row at the top of a tree
pub record HasRoot (rows : List Row) (root : ℕ) : Type 0 where
  pub row : Row
  pub found : row_of root rows ≡ Some row
  pub top : IsTop row
  pub is : row.root ≡ root

pub root_found : (n : ℕ) (rows : List Row) (s : ℕ) (row : Row) → IsForest rows → row_of s rows ≡ Some row → length row.path < n → HasRoot rows row.root
root_found zero rows s row forest found short = absurd (omega (arith, short))
root_found (suc n) rows s row forest found short = ⊎_elim
    (λ (top : IsTop row). record { row = row; found = ap (λ (m : ℕ). row_of m rows) (top.root ∙ row_of_serial s rows row found) ∙ found; top = top; is = refl })
    (λ (below : IsBelow rows row). subst (HasRoot rows) (sym below.root) (root_found n rows below.link.serial below.above forest below.found (omega (arith, short, deeper rows row below))))
    (forest.linked s row found)

-- no tree has the serial number that is next
pub root_under : (begun s : ℕ) (rows : List Row) (row : Row) → AreTrees begun rows → row_of s rows ≡ Some row → row.root < begun
root_under begun s rows row trees found =
    let head = root_found (length row.path + 1) rows s row trees.forest found (omega arith) in
    omega (arith, found_under row.root 0 begun rows head.row trees.rising head.found, row_of_serial row.root rows head.row head.found)

-- rows stay where one more begins, and leaves
pub rising_higher : (low high : ℕ) (rows : List Row) → Rising low high rows → Rising low (high + 1) rows
rising_higher low high [] r = omega (arith, r)
rising_higher low high (row ∷ rows) r = (r.0, rising_higher (row.serial + 1) high rows r.1)

pub trees_higher : (begun : ℕ) (rows : List Row) → AreTrees begun rows → AreTrees (begun + 1) rows
trees_higher begun rows trees = record { rising = rising_higher 0 begun rows trees.rising; forest = trees.forest }

-- no link leads to the serial number that is next
pub leads_to_none : (begun : ℕ) (rows : List Row) (row : Row) → AreTrees begun rows → row_of row.serial rows ≡ Some row → leads_to begun row.parent ≡ false
leads_to_none begun rows row trees here = ⊎_elim
    (λ (top : IsTop row). ap (leads_to begun) top.none)
    (λ (below : IsBelow rows row). ap (leads_to begun) below.linked ∙ ne_eqb below.link.serial begun (λ e.
    omega (arith, e, found_under below.link.serial 0 begun rows below.above trees.rising below.found, row_of_serial below.link.serial rows below.above below.found)))
    (trees.forest.linked row.serial row here)

pub no_children : (begun : ℕ) (rows : List Row) → AreTrees begun rows → count_by (λ (r : Row). leads_to begun r.parent) rows ≡ 0
no_children begun rows trees = count_none (λ r. leads_to begun r.parent) rows
    (each_weaker (λ r. row_of r.serial rows ≡ Some r) (λ r. leads_to begun r.parent ≡ false) (λ r here. leads_to_none begun rows r trees here) rows (each_found 0 begun rows trees.rising))

-- a row begins at the top of a tree of its own
pub trees_push : (begun : ℕ) (rows : List Row) (new : Row) → AreTrees begun rows → new.serial ≡ begun → IsTop new → new.children ≡ 0 → AreTrees (begun + 1) (rows ++ new ∷ [])
trees_push begun rows new trees is top none = record {
  rising = rising_push 0 begun rows new trees.rising is;
  forest = record {
    linked = λ s row here. ⊎_elim
        (λ (was : row_of s rows ≡ Some row). ⊎_elim
        (λ (t : IsTop row). inl t)
        (λ (below : IsBelow rows row). inr (still_below rows (rows ++ new ∷ []) row below (found_still below.link.serial rows new below.above below.found)))
        (trees.forest.linked s row was))
        (λ (same : row ≡ new). inl (subst IsTop (sym same) top))
        (found_push s rows new row (row_of s rows) refl here);
    shallow = λ s row here.
        let q : Row → ℕ = λ r. cond (eqb r.root row.root) 1 0 in
        let more = sum_by_push q rows new in
        ⊎_elim
        (λ (was : row_of s rows ≡ Some row). omega (arith, trees.forest.shallow s row was, more))
        (λ (same : row ≡ new).
        let own : q new ≡ 1 = ap (λ (b : Bool). cond b 1 0) (eq-eqb new.root row.root (ap (λ (r : Row). r.root) (sym same))) in
        let short : length row.path ≡ 0 = ap (λ (r : Row). length r.path) same ∙ ap (λ (p : List ℕ). length p) top.path in
        omega (arith, more, own, short))
        (found_push s rows new row (row_of s rows) refl here);
    counted = λ s row here.
        let q : Row → ℕ = λ r. cond (leads_to row.serial r.parent) 1 0 in
        let more = sum_by_push q rows new in
        let own : q new ≡ 0 = ap (λ (o : Option ParentLink). cond (leads_to row.serial o) 1 0) top.none in
        ⊎_elim
        (λ (was : row_of s rows ≡ Some row). omega (arith, trees.forest.counted s row was, more, own))
        (λ (same : row ≡ new).
        let few : count_by (λ (r : Row). leads_to row.serial r.parent) rows ≡ 0 = ap (λ (n : ℕ). count_by (λ (r : Row). leads_to n r.parent) rows) (ap (λ (r : Row). r.serial) same ∙ is) ∙ no_children begun rows trees in
        let zero_here : row.children ≡ 0 = ap (λ (r : Row). r.children) same ∙ none in
        omega (arith, more, own, few, zero_here))
        (found_push s rows new row (row_of s rows) refl here);
  };
}
