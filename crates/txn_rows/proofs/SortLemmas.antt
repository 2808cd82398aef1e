-- A stable sort of rows by their paths puts them into preorder.
use Rattle.std.proofs.Common.{◌≡◌, ◌<◌, ◌≤◌, ℕ, zero, suc, Bool, true, false, not, cond, List, [], ◌∷◌, length, get_or, filter, nat_cmp, is_lt, Less, Equal, Greater, refl, sym, ap, ◌∙◌, arith, suc-le-suc, zero-le}
use Rattle.std.specs.Cmp.{IsStrictWeakOrder}
use Rattle.std.specs.Cmp.Lexicographic.{slice_cmp}
use Rattle.std.specs.Ordering.{is_le, ordering_reverse}
use Rattle.std.specs.List.Sorted.{ties, IsSortedBy, IsStableBy}
use Rattle.std.proofs.lemmas.Bool.{and_parts, not-true}
use Rattle.std.proofs.lemmas.Bool.Decides.{nat_tests}
use Rattle.std.proofs.lemmas.Cmp.{same_from_slice_cmp, nat_list_cmp_total, tied_itself}
use Rattle.std.proofs.lemmas.List.Sorted.{ranks_by, sorted_far}
use Rattle.txn_rows.specs.declared.rows.Row.{Row}
use Rattle.txn_rows.specs.Links.{is_path_before}
use Rattle.txn_rows.specs.inside.Rows.{Each, rows_in_preorder}
use Rattle.txn_rows.proofs.LineLemmas.{by_cases}
use Rattle.txn_rows.proofs.TreeLemmas.{each_weaker, row_placed, each_placed}

-- whether the path of a row is less than that of another
abbrev pub lt : Row → Row → Bool
lt a b = is_lt (slice_cmp nat_cmp a.path b.path)

pub order : IsStrictWeakOrder lt
order = ranks_by nat_list_cmp_total (λ (row : Row). row.path)

before_is : (a b : Row) → is_path_before a.path b.path ≡ not (lt b a)
before_is a b =
    sym (same_from_slice_cmp nat_cmp is_le is_path_before refl (λ _ _. refl) (λ _ _. refl) (λ x y xs ys o h. grind (arith, nat_tests)) a.path b.path _ refl)
    ∙ ap is_le (nat_list_cmp_total.antisymm a.path b.path)
    ∙ elim (slice_cmp nat_cmp b.path a.path) as (λ o. is_le (ordering_reverse o) ≡ not (is_lt o)) [ Less ↦ refl | Equal ↦ refl | Greater ↦ refl ]

-- the two ways in which a row is put before or after another
placed_by : (P : List Row → Type 0) (row r : Row) (rows : List Row) → (lt r row ≡ false → P (row ∷ r ∷ rows)) → (lt r row ≡ true → P (r ∷ row_placed row rows)) → P (row_placed row (r ∷ rows))
placed_by P row r rows here later =
    by_cases (P (row_placed row (r ∷ rows))) (lt r row)
    (λ t. rw (before_is row r, t) (later t))
    (λ t. rw (before_is row r, t) (here t))

-- neither of two rows of one path is less
tied : (x r : Row) → ties lt x r ≡ true → (lt x r ≡ false) × (lt r x ≡ false)
tied x r t =
    let parts = and_parts (not (lt x r)) (not (lt r x)) t in
    (not-true (lt x r) parts.0, not-true (lt r x) parts.1)

-- a row that fails a test may stand before or after one that passes
filter_passed : (p : Row → Bool) (row r : Row) (rows l : List Row) → filter p l ≡ filter p (row ∷ rows) → (p r ≡ true → p row ≡ false) → filter p (r ∷ l) ≡ filter p (row ∷ r ∷ rows)
filter_passed p row r rows l same apart =
    by_cases (filter p (r ∷ l) ≡ filter p (row ∷ r ∷ rows)) (p r)
    (λ t. rw (t, same, apart t) refl)
    (λ t. rw (t, same) refl)

-- those of one path keep their order
filter_placed : (x row : Row) (rows : List Row) → filter (ties lt x) (row_placed row rows) ≡ filter (ties lt x) (row ∷ rows)
filter_placed x row [] = refl
filter_placed x row (r ∷ rows) =
    placed_by (λ l. filter (ties lt x) l ≡ filter (ties lt x) (row ∷ r ∷ rows)) row r rows (λ e. refl)
    (λ less. filter_passed (ties lt x) row r rows (row_placed row rows) (filter_placed x row rows)
    (λ t. by_cases (ties lt x row ≡ false) (ties lt x row) (λ s. let not_less = order.chain r x row (tied x r t).1 (tied x row s).0 in absurd (cc)) (λ e. e)))

filter_preorder : (x : Row) (rows : List Row) → filter (ties lt x) (rows_in_preorder rows) ≡ filter (ties lt x) rows
filter_preorder x [] = refl
filter_preorder x (row ∷ rows) = filter_placed x row (rows_in_preorder rows) ∙ ap (λ l. cond (ties lt x row) (row ∷ l) l) (filter_preorder x rows)

-- no row is less than one before it
abbrev Rises : List Row → Type 0
Rises [] = Unit {0}
Rises (row ∷ rows) = Each (λ r. lt r row ≡ false) rows × Rises rows

rises_placed : (row : Row) (rows : List Row) → Rises rows → Rises (row_placed row rows)
rises_placed row [] up = (tt, tt)
rises_placed row (r ∷ rows) up =
    placed_by Rises row r rows
    (λ least. ((least, each_weaker (λ z. lt z r ≡ false) (λ z. lt z row ≡ false) (λ z h. order.chain z r row h least) rows up.0), up))
    (λ less. (each_placed (λ z. lt z r ≡ false) row rows (order.one_way r row less) up.0, rises_placed row rows up.1))

rises_preorder : (rows : List Row) → Rises (rows_in_preorder rows)
rises_preorder [] = tt
rises_preorder (row ∷ rows) = rises_placed row (rows_in_preorder rows) (rises_preorder rows)

each_at : (P : Row → Type 0) (rows : List Row) → ((j : ℕ) (d : Row) → j < length rows → P (get_or rows j d)) → Each P rows
each_at P [] h = tt
each_at P (row ∷ rows) h = (h zero row (suc-le-suc zero-le), each_at P rows (λ j d within. h (suc j) d (suc-le-suc within)))

rises_from : (rows : List Row) → ((i j : ℕ) (d : Row) → i ≤ j → j < length rows → lt (get_or rows j d) (get_or rows i d) ≡ false) → Rises rows
rises_from [] h = tt
rises_from (row ∷ rows) h = (each_at _ rows (λ j d within. h zero (suc j) d zero-le (suc-le-suc within)), rises_from rows (λ i j d le within. h (suc i) (suc j) d (suc-le-suc le) (suc-le-suc within)))

-- a row of the path of one of others, none of which is less than a third, is not less than that
least_found : (low x : Row) (rows : List Row) (w : Row) (ws : List Row) → Each (λ r. lt r low ≡ false) rows → w ∷ ws ≡ filter (ties lt x) rows → lt x low ≡ false
least_found low x [] w ws least e = absurd (cc)
least_found low x (r ∷ rows) w ws least e =
    by_cases (lt x low ≡ false) (ties lt x r)
    (λ t. order.chain x r low (tied x r t).0 least.0)
    (λ t. least_found low x rows w ws least.1 (rw t at e))

not_less : (x : Row) → lt x x ≡ false
not_less x = ap is_lt (tied_itself nat_list_cmp_total x.path)

-- rows that begin with the same one, by what passes a test
rest_same : (p : Row → Bool) (y : Row) (ys zs : List Row) → filter p (y ∷ ys) ≡ filter p (y ∷ zs) → filter p ys ≡ filter p zs
rest_same p y ys zs e = by_cases (filter p ys ≡ filter p zs) (p y) (λ t. let cells = rw t at e in cc) (λ t. rw t at e)

-- rows that rise, those of each path the same in the same order, are the same
same_rows : (ys zs : List Row) → Rises ys → Rises zs → ((x : Row) → filter (ties lt x) ys ≡ filter (ties lt x) zs) → ys ≡ zs
same_rows [] [] left right same = refl
same_rows [] (z ∷ zs) left right same = let clash = rw (not_less z) at (same z) in absurd (cc)
same_rows (y ∷ ys) [] left right same = let clash = rw (not_less y) at (same y) in absurd (cc)
same_rows (y ∷ ys) (z ∷ zs) left right same =
    let at_y : y ∷ filter (ties lt y) ys ≡ filter (ties lt y) (z ∷ zs) = rw (not_less y) at (same y) in
    let at_z : z ∷ filter (ties lt z) zs ≡ filter (ties lt z) (y ∷ ys) = rw (not_less z) at (sym (same z)) in
    let y_z = least_found z y (z ∷ zs) y _ (not_less z, right.0) at_y in
    let z_y = least_found y z (y ∷ ys) z _ (not_less y, left.0) at_z in
    let cells : y ∷ filter (ties lt y) ys ≡ z ∷ filter (ties lt y) zs = rw (y_z, z_y) at at_y in
    let head : y ≡ z = cc in
    ap (λ (w : Row). w ∷ ys) head
    ∙ ap (λ (l : List Row). z ∷ l) (same_rows ys zs left.1 right.1 (λ x. rest_same (ties lt x) z ys zs (ap (λ (w : Row). filter (ties lt x) (w ∷ ys)) (sym head) ∙ same x)))

pub preorder_from_sort : (xs ys : List Row) → IsSortedBy lt ys → IsStableBy lt xs ys → ys ≡ rows_in_preorder xs
preorder_from_sort xs ys sorted stable = same_rows ys (rows_in_preorder xs) (rises_from ys (sorted_far lt order ys sorted)) (rises_preorder xs) (λ x. stable x ∙ sym (filter_preorder x xs))
