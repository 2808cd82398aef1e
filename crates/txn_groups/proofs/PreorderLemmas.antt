-- Rows of a tree in preorder are known by their strict order, and a walk with a stack comes to them in it.
use Rattle.std.proofs.Common.{◌≡◌, ◌+◌, ◌<◌, ◌≤◌, ◌⊎◌, ⊎_elim, inl, inr, ℕ, true, eqb, Some, None, List, [], ◌∷◌, ◌++◌, length, refl, ap, sym, ◌∙◌, arith}
use Rattle.std.proofs.lemmas.Bool.{eqb-true, eq-eqb}
use Rattle.std.proofs.lemmas.List.{length_push}
use Rattle.txn_rows.specs.declared.rows.Row.{Row}
use Rattle.txn_rows.specs.Links.{is_path_before}
use Rattle.txn_rows.specs.Trees.{row_of, Rising, AreTrees, IsForest}
use Rattle.txn_rows.specs.inside.Rows.{Each, rows_below, rows_in_preorder}
use Rattle.txn_rows.proofs.LineLemmas.{by_cases}
use Rattle.txn_rows.proofs.TreeLemmas.{rising_above, each_found, row_placed}
use Rattle.txn_rows.proofs.StandLemmas.{rising_filter}
use Rattle.txn_rows.proofs.OrderLemmas.{path_both}
use Rattle.txn_groups.specs.inside.Nodes.{AreNumbered, IsIn}
use Rattle.txn_groups.proofs.SetLemmas.{AllOf, InRow, all_weaker, all_append, sorted_same, sorted_fewer, row_push}
use Rattle.txn_groups.proofs.PathLemmas.{less_then, less_one_way, Inside, one_path}
use Rattle.txn_groups.proofs.StackLemmas.{Before, Walking, Waiting}

-- two rows have different paths
abbrev Differ : Row → Row → Type 0
Differ a b = (a.path ≡ b.path) → ⊥

all_placed : (P : Row → Type 0) (row : Row) (rows : List Row) → P row → AllOf P rows → AllOf P (row_placed row rows)
all_placed P row [] p a = (p, tt)
all_placed P row (r ∷ rows) p a =
    by_cases (AllOf P (row_placed row (r ∷ rows))) (is_path_before row.path r.path)
    (λ t. rw t (p, a))
    (λ t. rw t (a.0, all_placed P row rows p a.1))

pub all_preorder : (P : Row → Type 0) (rows : List Row) → AllOf P rows → AllOf P (rows_in_preorder rows)
all_preorder P [] a = tt
all_preorder P (row ∷ rows) a = all_placed P row (rows_in_preorder rows) a.0 (all_preorder P rows a.1)

in_placed : (row : Row) (rows : List Row) (x : Row) → (x ≡ row) ⊎ IsIn rows x → IsIn (row_placed row rows) x
in_placed row [] x i = i
in_placed row (r ∷ rows) x i =
    by_cases (IsIn (row_placed row (r ∷ rows)) x) (is_path_before row.path r.path)
    (λ t. rw t i)
    (λ t. rw t (⊎_elim
    (λ (e : x ≡ row). inr (in_placed row rows x (inl e)))
    (λ (later : (x ≡ r) ⊎ IsIn rows x). ⊎_elim (λ (e : x ≡ r). inl e) (λ (on : IsIn rows x). inr (in_placed row rows x (inr on))) later)
    i))

pub in_preorder : (rows : List Row) (x : Row) → IsIn rows x → IsIn (rows_in_preorder rows) x
in_preorder [] x i = i
in_preorder (row ∷ rows) x i = in_placed row (rows_in_preorder rows) x (⊎_elim (λ (e : x ≡ row). inl e) (λ (later : IsIn rows x). inr (in_preorder rows x later)) i)

length_placed : (row : Row) (rows : List Row) → length (row_placed row rows) ≡ length rows + 1
length_placed row [] = refl
length_placed row (r ∷ rows) =
    by_cases (length (row_placed row (r ∷ rows)) ≡ length (r ∷ rows) + 1) (is_path_before row.path r.path)
    (λ t. rw t (omega arith))
    (λ t. rw t (omega (arith, length_placed row rows)))

pub length_preorder : (rows : List Row) → length (rows_in_preorder rows) ≡ length rows
length_preorder [] = refl
length_preorder (row ∷ rows) = omega (arith, length_placed row (rows_in_preorder rows), length_preorder rows)

-- a row among others of other paths
placed_row : (row : Row) (rows : List Row) → AllOf (Differ row) rows → InRow Before rows → InRow Before (row_placed row rows)
placed_row row [] differ o = (tt, tt)
placed_row row (r ∷ rows) differ o =
    by_cases (InRow Before (row_placed row (r ∷ rows))) (is_path_before row.path r.path)
    (λ t.
    let less : Before row r = by_cases (Before row r) (is_path_before r.path row.path) (λ h. absurd (differ.0 (path_both row.path r.path t h))) (λ h. h) in
    rw t ((less, all_weaker (Before r) (Before row) (λ x e. less_then row.path r.path x.path less e) rows o.0), o))
    (λ t. rw t (all_placed (Before r) row rows t o.0, placed_row row rows differ.1 o.1))

preorder_row : (rows : List Row) → InRow Differ rows → InRow Before (rows_in_preorder rows)
preorder_row [] o = tt
preorder_row (row ∷ rows) o = placed_row row (rows_in_preorder rows) (all_preorder (Differ row) rows o.0) (preorder_row rows o.1)

-- the rows of a tree are inside it
tree_inside : (all : List Row) (root : ℕ) (rows : List Row) → Each (λ row. row_of row.serial all ≡ Some row) rows → AllOf (Inside all root) (rows_below root rows)
tree_inside all root [] e = tt
tree_inside all root (row ∷ rows) e =
    by_cases (AllOf (Inside all root) (rows_below root (row ∷ rows))) (eqb row.root root)
    (λ t. rw t (record { found = e.0; tree = eqb-true row.root root t }, tree_inside all root rows e.1))
    (λ t. rw t (tree_inside all root rows e.1))

-- a row that is inside a tree is one of its rows
in_tree : (s root : ℕ) (rows : List Row) (x : Row) → row_of s rows ≡ Some x → x.root ≡ root → IsIn (rows_below root rows) x
in_tree s root [] x here is = absurd (let e : None ≡ Some x = here in cc)
in_tree s root (row ∷ rows) x here is =
    by_cases (IsIn (rows_below root (row ∷ rows)) x) (eqb row.serial s)
    (λ t.
    let same : Some row ≡ Some x = rw t at here in
    let e : x ≡ row = (cc) in
    let inside : eqb row.root root ≡ true = eq-eqb row.root root (ap (λ (r : Row). r.root) (sym e) ∙ is) in
    rw inside (inl e))
    (λ t.
    let later : IsIn (rows_below root rows) x = in_tree s root rows x (rw t at here) is in
    by_cases (IsIn (rows_below root (row ∷ rows)) x) (eqb row.root root)
    (λ u. rw u (inr later))
    (λ u. rw u later))

-- a row has another path than those of higher serial numbers
differ_from : (all : List Row) (root : ℕ) (row : Row) (rest : List Row) → IsForest all → AreNumbered all → Inside all root row → Each (λ x. row.serial + 1 ≤ x.serial) rest → AllOf (Inside all root) rest → AllOf (Differ row) rest
differ_from all root row [] forest numbered in_row e i = tt
differ_from all root row (x ∷ rest) forest numbered in_row e i =
    ((λ same. let is : row ≡ x = one_path (length row.path + 1) all root row x forest numbered in_row i.0 same (omega arith) in omega (arith, e.0, ap (λ (y : Row). y.serial) is)), differ_from all root row rest forest numbered in_row e.1 i.1)

-- serial numbers that rise
rising_differ : (all : List Row) (root low high : ℕ) (rows : List Row) → IsForest all → AreNumbered all → Rising low high rows → AllOf (Inside all root) rows → InRow Differ rows
rising_differ all root low high [] forest numbered r a = tt
rising_differ all root low high (row ∷ rows) forest numbered r a =
    (differ_from all root row rows forest numbered a.0 (rising_above (row.serial + 1) high rows r.1) a.1, rising_differ all root (row.serial + 1) high rows forest numbered r.1 a.1)

-- what a walk needs of a tree
record Sorted (rows : List Row) (root : ℕ) : Type 0 where
  tree_in : AllOf (Inside rows root) (rows_below root rows)
  order : InRow Before (rows_in_preorder (rows_below root rows))

sorted_tree : (begun root : ℕ) (rows : List Row) → AreTrees begun rows → AreNumbered rows → Sorted rows root
sorted_tree begun root rows trees numbered =
    let tree : List Row = rows_below root rows in
    let ins = tree_inside rows root rows (each_found 0 begun rows trees.rising) in
    record {
      tree_in = ins;
      order = preorder_row tree (rising_differ rows root 0 begun tree trees.forest numbered (rising_filter (λ (r : Row). eqb r.root root) 0 begun rows trees.rising) ins);
    }

-- the rows of a tree in preorder are in their strict order
pub tree_in_row : (begun root : ℕ) (rows : List Row) → AreTrees begun rows → AreNumbered rows → InRow Before (rows_in_preorder (rows_below root rows))
tree_in_row begun root rows trees numbered = (sorted_tree begun root rows trees numbered).order

pub before_one_way : (a b : Row) → Before a b → Before b a → ⊥
before_one_way a b e f = less_one_way a.path b.path e f

-- what was visited are rows of the tree
done_within : (rows : List Row) (root : ℕ) (done : List Row) → AllOf (Inside rows root) done → AllOf (IsIn (rows_in_preorder (rows_below root rows))) done
done_within rows root done ins = all_weaker (Inside rows root) (IsIn (rows_in_preorder (rows_below root rows))) (λ x is. in_preorder (rows_below root rows) x (in_tree x.serial root rows x is.found is.tree)) done ins

-- where none waits, the rows of the tree were visited in preorder
pub walked_whole : (begun root : ℕ) (rows done : List Row) → AreTrees begun rows → AreNumbered rows → Walking rows root done [] → done ≡ rows_in_preorder (rows_below root rows)
walked_whole begun root rows done trees numbered w =
    let tree : List Row = rows_below root rows in
    let sorted = sorted_tree begun root rows trees numbered in
    sorted_same Before before_one_way done (rows_in_preorder tree) w.sorted sorted.order (done_within rows root done w.done_in)
    (all_preorder (IsIn done) tree (all_weaker (Inside rows root) (IsIn done) (λ x is. ⊎_elim (λ (i : IsIn done x). i) (λ (none : Waiting [] x). absurd none) (w.all x is)) tree sorted.tree_in))

-- where one waits, fewer were visited than the tree has
pub walked_few : (begun root : ℕ) (rows done : List Row) (x : Row) (rest : List Row) → AreTrees begun rows → AreNumbered rows → Walking rows root done (x ∷ rest) → length done < length (rows_below root rows)
walked_few begun root rows done x rest trees numbered w =
    let tree : List Row = rows_below root rows in
    let sorted = sorted_tree begun root rows trees numbered in
    let fewer = sorted_fewer Before before_one_way (done ++ x ∷ []) (rows_in_preorder tree) (row_push Before done x w.sorted w.top) sorted.order (done_within rows root (done ++ x ∷ []) (all_append (Inside rows root) done (x ∷ []) w.done_in (w.ahead_in.0, tt))) in
    omega (arith, fewer, length_push done x, length_preorder tree)
