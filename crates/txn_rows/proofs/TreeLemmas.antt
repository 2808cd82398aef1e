-- Trees of rows are the trees of their transactions, and a tree of rows in preorder is its group.
use Rattle.std.proofs.Common.{◌≡◌, ◌+◌, ◌<◌, ◌≤◌, ℕ, Bool, false, not, eqb, cond, Some, List, [], ◌∷◌, ◌++◌, length, map, take, drop, get_or, set, refl, ap, sym, ◌∙◌, subst, add-one, arith}
use Rattle.std.specs.List.{filter}
use Rattle.std.proofs.lemmas.Bool.{eq-eqb, ne_eqb}
use Rattle.std.proofs.lemmas.List.{length-map, map-append, take-append-drop, drop_more, set_split}
use Rattle.std.proofs.lemmas.List.Sums.{count_by-le-length}
use Rattle.txn_rows.specs.declared.rows.Row.{Row}
use Rattle.txn_rows.specs.declared.group.Member.{Member}
use Rattle.txn_rows.specs.Transaction.{Transaction}
use Rattle.txn_rows.specs.Links.{line_of, root_of, tree_of, others, path_of, placed, preorder, member_of, group_of, is_path_before}
use Rattle.txn_rows.specs.Trees.{transaction_of, row_of, Rising, IsForest}
use Rattle.txn_rows.specs.inside.Rows.{Each, rows_below, rows_beside, rows_in_preorder, member_of_row}
use Rattle.txn_rows.proofs.LineLemmas.{by_cases, either, Line, line_tells}
use Rattle.txn_rows.proofs.ChangeLemmas.{OneChanged}

-- the whole line of a row
pub line_whole : (rows : List Row) → IsForest rows → (s : ℕ) (row : Row) → row_of s rows ≡ Some row → Line rows row (line_of (map transaction_of rows) (transaction_of row))
line_whole rows forest s row here =
    line_tells rows forest (length (map transaction_of rows)) s row here
    (omega (arith, forest.shallow s row here, count_by-le-length (λ (r : Row). eqb r.root row.root) rows, length-map rows transaction_of))

pub each_of_all : (P : Row → Type 0) → ((row : Row) → P row) → (rows : List Row) → Each P rows
each_of_all P all [] = tt
each_of_all P all (row ∷ rows) = (all row, each_of_all P all rows)

pub each_weaker : (P Q : Row → Type 0) → ((row : Row) → P row → Q row) → (rows : List Row) → Each P rows → Each Q rows
each_weaker P Q w [] e = tt
each_weaker P Q w (row ∷ rows) e = (w row e.0, each_weaker P Q w rows e.1)

-- serial numbers that rise are above the first
pub rising_above : (low high : ℕ) (rows : List Row) → Rising low high rows → Each (λ row. low ≤ row.serial) rows
rising_above low high [] r = tt
rising_above low high (row ∷ rows) r = (r.0, each_weaker (λ x. row.serial + 1 ≤ x.serial) (λ x. low ≤ x.serial) (λ x h. omega (arith, h, r.0)) rows (rising_above (row.serial + 1) high rows r.1))

-- a row before does not hide those that follow
found_later : (first : Row) (rows all : List Row) → Each (λ row. first.serial + 1 ≤ row.serial) all → Each (λ row. row_of row.serial rows ≡ Some row) all → Each (λ row. row_of row.serial (first ∷ rows) ≡ Some row) all
found_later first rows [] above found = tt
found_later first rows (row ∷ all) above found =
    let other : eqb first.serial row.serial ≡ false = ne_eqb first.serial row.serial (λ e. omega (arith, above.0)) in
    (rw other found.0, found_later first rows all above.1 found.1)

-- each row is found by its serial number
pub each_found : (low high : ℕ) (rows : List Row) → Rising low high rows → Each (λ row. row_of row.serial rows ≡ Some row) rows
each_found low high [] r = tt
each_found low high (row ∷ rows) r =
    (rw (eq-eqb row.serial row.serial refl) refl, found_later row rows rows (rising_above (row.serial + 1) high rows r.1) (each_found (row.serial + 1) high rows r.1))

-- each row's line is what it tells
pub each_line : (high : ℕ) (rows : List Row) → Rising 0 high rows → IsForest rows → Each (λ row. Line rows row (line_of (map transaction_of rows) (transaction_of row))) rows
each_line high rows rising forest = each_weaker (λ row. row_of row.serial rows ≡ Some row) (λ row. Line rows row (line_of (map transaction_of rows) (transaction_of row))) (λ row here. line_whole rows forest row.serial row here) rows (each_found 0 high rows rising)

-- tests that agree at each row keep the same
filter_rows : (p : Transaction → Bool) (q : Row → Bool) (rows : List Row) → Each (λ row. p (transaction_of row) ≡ q row) rows → filter p (map transaction_of rows) ≡ map transaction_of (filter q rows)
filter_rows p q [] e = refl
filter_rows p q (row ∷ rows) e =
    by_cases (filter p (map transaction_of (row ∷ rows)) ≡ map transaction_of (filter q (row ∷ rows))) (q row)
    (λ t. rw (e.0, t) (ap (λ (ts : List Transaction). transaction_of row ∷ ts) (filter_rows p q rows e.1)))
    (λ t. rw (e.0, t) (filter_rows p q rows e.1))

-- the rows of a tree are its transactions
pub tree_rows : (high : ℕ) (rows : List Row) (root : Transaction) → Rising 0 high rows → IsForest rows → tree_of (map transaction_of rows) root ≡ map transaction_of (rows_below root.serial rows)
tree_rows high rows root rising forest =
    filter_rows (λ t. eqb (root_of (map transaction_of rows) t).serial root.serial) (λ row. eqb row.root root.serial) rows
    (each_weaker (λ row. Line rows row (line_of (map transaction_of rows) (transaction_of row))) (λ row. eqb (root_of (map transaction_of rows) (transaction_of row)).serial root.serial ≡ eqb row.root root.serial)
    (λ row line. ap (λ (s : ℕ). eqb s root.serial) (line.top (transaction_of row))) rows (each_line high rows rising forest))

pub other_rows : (high : ℕ) (rows : List Row) (root : Transaction) → Rising 0 high rows → IsForest rows → others (map transaction_of rows) root ≡ map transaction_of (rows_beside root.serial rows)
other_rows high rows root rising forest =
    filter_rows (λ t. not (eqb (root_of (map transaction_of rows) t).serial root.serial)) (λ row. not (eqb row.root root.serial)) rows
    (each_weaker (λ row. Line rows row (line_of (map transaction_of rows) (transaction_of row))) (λ row. not (eqb (root_of (map transaction_of rows) (transaction_of row)).serial root.serial) ≡ not (eqb row.root root.serial))
    (λ row line. ap (λ (s : ℕ). not (eqb s root.serial)) (line.top (transaction_of row))) rows (each_line high rows rising forest))

pub each_filter : (P : Row → Type 0) (q : Row → Bool) (rows : List Row) → Each P rows → Each P (filter q rows)
each_filter P q [] e = tt
each_filter P q (row ∷ rows) e =
    by_cases (Each P (filter q (row ∷ rows))) (q row)
    (λ t. rw t (e.0, each_filter P q rows e.1))
    (λ t. rw t (each_filter P q rows e.1))

-- a row is put among others
abbrev pub row_placed : Row → List Row → List Row
row_placed row rows = placed (λ (r : Row). r.path) row rows

pub each_placed : (P : Row → Type 0) (row : Row) (rows : List Row) → P row → Each P rows → Each P (row_placed row rows)
each_placed P row [] p e = (p, tt)
each_placed P row (r ∷ rows) p e =
    by_cases (Each P (row_placed row (r ∷ rows))) (is_path_before row.path r.path)
    (λ t. rw t (p, e))
    (λ t. rw t (e.0, each_placed P row rows p e.1))

pub each_preorder : (P : Row → Type 0) (rows : List Row) → Each P rows → Each P (rows_in_preorder rows)
each_preorder P [] e = tt
each_preorder P (row ∷ rows) e = each_placed P row (rows_in_preorder rows) e.0 (each_preorder P rows e.1)

-- placing a row is placing its transaction
placed_rows : (path : Transaction → List ℕ) (row : Row) (rows : List Row) → path (transaction_of row) ≡ row.path → Each (λ r. path (transaction_of r) ≡ r.path) rows → placed path (transaction_of row) (map transaction_of rows) ≡ map transaction_of (row_placed row rows)
placed_rows path row [] p e = refl
placed_rows path row (r ∷ rows) p e =
    by_cases (placed path (transaction_of row) (map transaction_of (r ∷ rows)) ≡ map transaction_of (row_placed row (r ∷ rows))) (is_path_before row.path r.path)
    (λ t. rw (p, e.0, t) refl)
    (λ t. rw (p, e.0, t) (ap (λ (ts : List Transaction). transaction_of r ∷ ts) (placed_rows path row rows p e.1)))

preorder_rows : (path : Transaction → List ℕ) (rows : List Row) → Each (λ r. path (transaction_of r) ≡ r.path) rows → preorder path (map transaction_of rows) ≡ map transaction_of (rows_in_preorder rows)
preorder_rows path [] e = refl
preorder_rows path (row ∷ rows) e =
    ap (placed path (transaction_of row)) (preorder_rows path rows e.1)
    ∙ placed_rows path row (rows_in_preorder rows) e.0 (each_preorder (λ r. path (transaction_of r) ≡ r.path) rows e.1)

members_are : (f : Transaction → Member) (rows : List Row) → Each (λ r. f (transaction_of r) ≡ member_of_row r) rows → map f (map transaction_of rows) ≡ map member_of_row rows
members_are f [] e = refl
members_are f (row ∷ rows) e = rw (e.0) (ap (λ (ms : List Member). member_of_row row ∷ ms) (members_are f rows e.1))

-- the group of a tree is its rows in preorder
pub group_rows : (high : ℕ) (rows : List Row) (root : Transaction) → Rising 0 high rows → IsForest rows → group_of (map transaction_of rows) root ≡ record { members = map member_of_row (rows_in_preorder (rows_below root.serial rows)) }
group_rows high rows root rising forest =
    let pending : List Transaction = map transaction_of rows in
    let tree : List Row = rows_below root.serial rows in
    let lines : Each (λ row. Line rows row (line_of pending (transaction_of row))) tree = each_filter (λ row. Line rows row (line_of pending (transaction_of row))) (λ row. eqb row.root root.serial) rows (each_line high rows rising forest) in
    let paths : Each (λ r. path_of pending (transaction_of r) ≡ r.path) tree = each_weaker (λ row. Line rows row (line_of pending (transaction_of row))) (λ r. path_of pending (transaction_of r) ≡ r.path) (λ row line. line.path) tree lines in
    let members : Each (λ r. member_of pending (transaction_of r) ≡ member_of_row r) (rows_in_preorder tree) =
    each_weaker (λ row. Line rows row (line_of pending (transaction_of row))) (λ r. member_of pending (transaction_of r) ≡ member_of_row r)
    (λ row line. ap (λ (n : ℕ). record (member_of_row row) { level = n }) line.long) (rows_in_preorder tree)
    (each_preorder (λ row. Line rows row (line_of pending (transaction_of row))) tree lines) in
    ap (λ (ms : List Member). record { members = ms })
    (ap (λ (ts : List Transaction). map (member_of pending) (preorder (path_of pending) ts)) (tree_rows high rows root rising forest)
    ∙ ap (map (member_of pending)) (preorder_rows (path_of pending) tree paths)
    ∙ members_are (member_of pending) (rows_in_preorder tree) members)

-- a list around the element at a place, and with another there
pub around : {X : Type 0} (at : ℕ) (xs : List X) (x : X) → at < length xs → x ≡ get_or xs at x → xs ≡ take at xs ++ x ∷ drop (at + 1) xs
around at xs x within read = sym (take-append-drop at xs) ∙ ap (λ ys. take at xs ++ ys) (drop_more xs at x within ∙ ap (λ y. y ∷ drop (at + 1) xs) (sym read))

pub set_around : {X : Type 0} (at : ℕ) (xs : List X) (x : X) → at < length xs → set xs at x ≡ take at xs ++ x ∷ drop (at + 1) xs
set_around at xs x within = rw add-one (set_split xs at x within)

-- what holds of each row holds of one among others, and of the one at a place
pub each_in : (P : Row → Type 0) (rs : List Row) (row : Row) (qs : List Row) → Each P (rs ++ row ∷ qs) → P row
each_in P [] row qs e = e.0
each_in P (r ∷ rs) row qs e = each_in P rs row qs e.1

pub each_at : (P : Row → Type 0) (rows : List Row) (at : ℕ) (row : Row) → Each P rows → at < length rows → row ≡ get_or rows at row → P row
each_at P rows at row e within read = each_in P (take at rows) row (drop (at + 1) rows) (subst (Each P) (around at rows row within read) e)

-- the row of a serial number is changed, and no other
abbrev pub of_row : ℕ → (Row → Row) → Row → Row
of_row s f row = cond (eqb row.serial s) (f row) row

-- what a change of a row keeps
pub of_row_same : {A : Type 0} (g : Row → A) (s : ℕ) (f : Row → Row) → ((row : Row) → g (f row) ≡ g row) → (row : Row) → g (of_row s f row) ≡ g row
of_row_same g s f keeps row = either (λ r. g r ≡ g row) (eqb row.serial s) (f row) row (keeps row) refl

-- later rows are not meant
pub of_row_later : (s : ℕ) (f : Row → Row) (low high : ℕ) (rows : List Row) → Rising low high rows → s < low → map (of_row s f) rows ≡ rows
of_row_later s f low high [] r passed = refl
of_row_later s f low high (row ∷ rows) r passed =
    let other : eqb row.serial s ≡ false = ne_eqb row.serial s (λ e. omega (arith, r.0, e, passed)) in
    ap (λ (b : Bool). cond b (f row) row ∷ map (of_row s f) rows) other
    ∙ ap (λ (rs : List Row). row ∷ rs) (of_row_later s f (row.serial + 1) high rows r.1 (omega (arith, r.0, passed)))

-- one among others is meant
pub of_row_in : (f : Row → Row) (low high : ℕ) (rs : List Row) (row : Row) (qs : List Row) → Rising low high (rs ++ row ∷ qs) → map (of_row row.serial f) (rs ++ row ∷ qs) ≡ rs ++ f row ∷ qs
of_row_in f low high [] row qs r =
    ap (λ (b : Bool). cond b (f row) row ∷ map (of_row row.serial f) qs) (eq-eqb row.serial row.serial refl)
    ∙ ap (λ (xs : List Row). f row ∷ xs) (of_row_later row.serial f (row.serial + 1) high qs r.1 (omega arith))
of_row_in f low high (r ∷ rs) row qs up =
    let above : r.serial + 1 ≤ row.serial = each_in (λ x. r.serial + 1 ≤ x.serial) rs row qs (rising_above (r.serial + 1) high (rs ++ row ∷ qs) up.1) in
    let other : eqb r.serial row.serial ≡ false = ne_eqb r.serial row.serial (λ e. omega (arith, above, e)) in
    ap (λ (b : Bool). cond b (f r) r ∷ map (of_row row.serial f) (rs ++ row ∷ qs)) other
    ∙ ap (λ (xs : List Row). r ∷ xs) (of_row_in f (r.serial + 1) high rs row qs up.1)

-- and the one at a place
pub set_is_of_row : (f : Row → Row) (low high at : ℕ) (rows : List Row) (row new : Row) → Rising low high rows → at < length rows → row ≡ get_or rows at row → new ≡ f row → set rows at new ≡ map (of_row row.serial f) rows
set_is_of_row f low high at rows row new r within read is =
    let split = around at rows row within read in
    set_around at rows new within
    ∙ ap (λ (x : Row). take at rows ++ x ∷ drop (at + 1) rows) is
    ∙ sym (of_row_in f low high (take at rows) row (drop (at + 1) rows) (subst (Rising low high) split r))
    ∙ ap (map (of_row row.serial f)) (sym split)

-- a row that is found, and its transaction
pub record Found (rows : List Row) (t : Transaction) : Type 0 where
  pub row : Row
  pub told : transaction_of row ≡ t
  pub here : row_of row.serial rows ≡ Some row

-- a transaction among others is that of a row among the rows
pub record RowIn (rows : List Row) (front : List Transaction) (t : Transaction) (back : List Transaction) : Type 0 where
  pub rs : List Row
  pub row : Row
  pub qs : List Row
  pub whole : rows ≡ rs ++ row ∷ qs
  pub before : map transaction_of rs ≡ front
  pub told : transaction_of row ≡ t
  pub behind : map transaction_of qs ≡ back

pub row_in : (rows : List Row) (front : List Transaction) (t : Transaction) (back : List Transaction) → map transaction_of rows ≡ front ++ t ∷ back → RowIn rows front t back
row_in [] [] t back e = absurd (cc)
row_in [] (f ∷ front) t back e = absurd (cc)
row_in (row ∷ rows) [] t back e = record { rs = []; row = row; qs = rows; whole = refl; before = refl; told = (cc); behind = (cc) }
row_in (row ∷ rows) (f ∷ front) t back e =
    let first : transaction_of row ≡ f = (cc) in
    let later = row_in rows front t back (cc) in
    record {
      rs = row ∷ later.rs;
      row = later.row;
      qs = later.qs;
      whole = ap (λ (xs : List Row). row ∷ xs) later.whole;
      before = ap (λ (x : Transaction). x ∷ map transaction_of later.rs) first ∙ ap (λ (ts : List Transaction). f ∷ ts) later.before;
      told = later.told;
      behind = later.behind;
    }

pub row_found : (begun : ℕ) (rows : List Row) (front : List Transaction) (t : Transaction) (back : List Transaction) → Rising 0 begun rows → RowIn rows front t back → Found rows t
row_found begun rows front t back rising s = record {
  row = s.row;
  told = s.told;
  here = each_in (λ r. row_of r.serial rows ≡ Some r) s.rs s.row s.qs (subst (Each (λ r. row_of r.serial rows ≡ Some r)) s.whole (each_found 0 begun rows rising));
}

-- a change of one transaction is a change of its row
pub record RowChanged (rows : List Row) (f : Row → Row) (t : Transaction) (now : List Transaction) : Type 0 where
  pub found : Found rows t
  pub told : map transaction_of (map (of_row t.serial f) rows) ≡ now

pub row_changed : (rows : List Row) (begun : ℕ) (f : Row → Row) (change : Transaction → Transaction) (t : Transaction) (now : List Transaction) → ((row : Row) → transaction_of (f row) ≡ change (transaction_of row)) → Rising 0 begun rows → OneChanged change t (map transaction_of rows) now → RowChanged rows f t now
row_changed rows begun f change t now tells rising c =
    let s = row_in rows c.front t c.back c.was in
    let serial : s.row.serial ≡ t.serial = ap (λ (x : Transaction). x.serial) s.told in
    record {
      found = row_found begun rows c.front t c.back rising s;
      told =
          ap (λ (n : ℕ). map transaction_of (map (of_row n f) rows)) (sym serial)
          ∙ ap (λ (xs : List Row). map transaction_of (map (of_row s.row.serial f) xs)) s.whole
          ∙ ap (map transaction_of) (of_row_in f 0 begun s.rs s.row s.qs (subst (Rising 0 begun) s.whole rising))
          ∙ map-append transaction_of s.rs (f s.row ∷ s.qs)
          ∙ ap (λ (ts : List Transaction). ts ++ transaction_of (f s.row) ∷ map transaction_of s.qs) s.before
          ∙ ap (λ (ts : List Transaction). c.front ++ transaction_of (f s.row) ∷ ts) s.behind
          ∙ ap (λ (x : Transaction). c.front ++ x ∷ c.back) (tells s.row ∙ ap change s.told)
          ∙ sym c.is;
    }
