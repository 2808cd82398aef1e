-- The order of paths, and that transactions in preorder are in it.
use Rattle.std.proofs.Common.{◌≡◌, ◌+◌, ◌<◌, ◌≤◌, ◌⊎◌, ⊎_elim, inl, inr, ℕ, suc, true, false, eqb, Option, Some, List, [], ◌∷◌, ◌++◌, length, reverse, get_or, refl, ap, sym, ◌∙◌, subst, arith}
use Rattle.std.specs.Prelude.{⊤, ◌≢◌}
use Rattle.std.specs.List.{All, Contains, flat_map, sum_by}
use Rattle.std.proofs.lemmas.Bool.{eqb-true, eqb-false, eq-eqb, ne_eqb, ltb-true, ltb-false, lt-ltb}
use Rattle.std.specs.List.Sorted.{IsPermutation}
use Rattle.std.proofs.lemmas.List.Sorted.{IsPermutation-refl, IsPermutation-sym, IsPermutation-trans, IsPermutation-cons, IsPermutation-middle, All-permutation, sum_by-IsPermutation}
use Rattle.std.proofs.lemmas.List.Elements.{All-nil, All-cons, All-head, All-tail, All-weaker, All-contains, Contains-append_right}
use Rattle.txn_rows.specs.declared.group.ParentLink.{ParentLink}
use Rattle.txn_rows.specs.Transaction.{Transaction}
use Rattle.txn_rows.specs.Links.{of_serial, linked, line, number_of, link_number, path_of, tree_of, is_path_before, placed, preorder}
use Rattle.txn_rows.proofs.LineLemmas.{by_cases, path_more}

-- a path that is before another is less at the first number, or goes on
first_less : (x y : ℕ) (xs ys : List ℕ) → is_path_before (x ∷ xs) (y ∷ ys) ≡ true → (x < y) ⊎ ((x ≡ y) × (is_path_before xs ys ≡ true))
first_less x y xs ys e =
    by_cases ((x < y) ⊎ ((x ≡ y) × (is_path_before xs ys ≡ true))) (eqb x y)
    (λ t. inr (eqb-true x y t, rw t at e))
    (λ t. inl (ltb-true x y (rw t at e)))

less_first : (x y : ℕ) (xs ys : List ℕ) → x < y → is_path_before (x ∷ xs) (y ∷ ys) ≡ true
less_first x y xs ys less = rw (ne_eqb x y (λ e. omega (arith, e, less))) (lt-ltb x y less)

same_first : (x y : ℕ) (xs ys : List ℕ) → x ≡ y → is_path_before xs ys ≡ true → is_path_before (x ∷ xs) (y ∷ ys) ≡ true
same_first x y xs ys same e = rw (eq-eqb x y same) e

-- of two paths one is before the other
pub path_total : (xs ys : List ℕ) → is_path_before xs ys ≡ false → is_path_before ys xs ≡ true
path_total [] ys e = absurd (cc)
path_total (x ∷ xs) [] e = refl
path_total (x ∷ xs) (y ∷ ys) e =
    by_cases (is_path_before (y ∷ ys) (x ∷ xs) ≡ true) (eqb x y)
    (λ t. same_first y x ys xs (sym (eqb-true x y t)) (path_total xs ys (rw t at e)))
    (λ t. let other : x ≢ y = eqb-false x y t in less_first y x ys xs (omega (arith, other, ltb-false x y (rw t at e))))

pub path_then : (xs ys zs : List ℕ) → is_path_before xs ys ≡ true → is_path_before ys zs ≡ true → is_path_before xs zs ≡ true
path_then [] ys zs e f = refl
path_then (x ∷ xs) [] zs e f = absurd (cc)
path_then (x ∷ xs) (y ∷ ys) [] e f = absurd (cc)
path_then (x ∷ xs) (y ∷ ys) (z ∷ zs) e f = ⊎_elim
    (λ (less : x < y). ⊎_elim
    (λ (more : y < z). less_first x z xs zs (omega (arith, less, more)))
    (λ (on : (y ≡ z) × (is_path_before ys zs ≡ true)). less_first x z xs zs (omega (arith, less, on.0)))
    (first_less y z ys zs f))
    (λ (same : (x ≡ y) × (is_path_before xs ys ≡ true)). ⊎_elim
    (λ (more : y < z). less_first x z xs zs (omega (arith, same.0, more)))
    (λ (on : (y ≡ z) × (is_path_before ys zs ≡ true)). same_first x z xs zs (same.0 ∙ on.0) (path_then xs ys zs same.1 on.1))
    (first_less y z ys zs f))
    (first_less x y xs ys e)

-- of two paths that differ in the last number, the lower is before
last_less : (path : List ℕ) (m n : ℕ) → is_path_before (path ++ m ∷ []) (path ++ n ∷ []) ≡ true → m ≤ n
last_less [] m n e = ⊎_elim (λ (less : m < n). omega (arith, less)) (λ (same : (m ≡ n) × (is_path_before [] [] ≡ true)). omega (arith, same.0)) (first_less m n [] [] e)
last_less (x ∷ path) m n e = ⊎_elim
    (λ (less : x < x). absurd (omega (arith, less)))
    (λ (same : (x ≡ x) × (is_path_before (path ++ m ∷ []) (path ++ n ∷ []) ≡ true)). last_less path m n same.1)
    (first_less x x (path ++ m ∷ []) (path ++ n ∷ []) e)

pub path_same : (path : List ℕ) → is_path_before path path ≡ true
path_same [] = refl
path_same (x ∷ path) = same_first x x path path refl (path_same path)

-- two paths each before the other are one
pub path_both : (xs ys : List ℕ) → is_path_before xs ys ≡ true → is_path_before ys xs ≡ true → xs ≡ ys
path_both [] [] e f = refl
path_both [] (y ∷ ys) e f = absurd (cc)
path_both (x ∷ xs) [] e f = absurd (cc)
path_both (x ∷ xs) (y ∷ ys) e f = ⊎_elim
    (λ (less : x < y). ⊎_elim (λ (more : y < x). absurd (omega (arith, less, more))) (λ (same : (y ≡ x) × (is_path_before ys xs ≡ true)). absurd (omega (arith, less, same.0))) (first_less y x ys xs f))
    (λ (same : (x ≡ y) × (is_path_before xs ys ≡ true)). ⊎_elim
    (λ (more : y < x). absurd (omega (arith, same.0, more)))
    (λ (back : (y ≡ x) × (is_path_before ys xs ≡ true)). ap (λ (n : ℕ). n ∷ xs) same.0 ∙ ap (λ (ns : List ℕ). y ∷ ns) (path_both xs ys same.1 back.1))
    (first_less y x ys xs f))
    (first_less x y xs ys e)

-- a path that goes on from another is not before it
pub path_longer : (path : List ℕ) (n : ℕ) → is_path_before (path ++ n ∷ []) path ≡ false
path_longer [] n = refl
path_longer (x ∷ path) n = rw (eq-eqb x x refl) (path_longer path n)

-- what stands between a path and one that goes on from it is longer than the first
pub path_between : (path between : List ℕ) (n : ℕ) → is_path_before between path ≡ false → is_path_before (path ++ n ∷ []) between ≡ false → length path + 1 ≤ length between
path_between [] [] n e f = absurd (cc)
path_between [] (y ∷ ys) n e f = omega arith
path_between (x ∷ xs) [] n e f = absurd (cc)
path_between (x ∷ xs) (y ∷ ys) n e f =
    by_cases (length (x ∷ xs) + 1 ≤ length (y ∷ ys)) (eqb y x)
    (λ t. let back : eqb x y ≡ true = eq-eqb x y (sym (eqb-true y x t)) in omega (arith, path_between xs ys n (rw t at e) (rw back at f)))
    (λ t. let other : y ≢ x = eqb-false y x t in
    let back : eqb x y ≡ false = ne_eqb x y (λ h. other (sym h)) in
    absurd (omega (arith, other, ltb-false y x (rw t at e), ltb-false x y (rw back at f))))

-- each element is so related to all behind it
abbrev pub InOrder : {X : Type 0} → (X → X → Type 0) → List X → Type 0
InOrder R [] = ⊤
InOrder R (x ∷ xs) = All (R x) xs × InOrder R xs

-- transactions in preorder are the same in another order
placed_permutes : (path : Transaction → List ℕ) (t : Transaction) (ts : List Transaction) → IsPermutation (t ∷ ts) (placed path t ts)
placed_permutes path t [] = IsPermutation-refl (t ∷ [])
placed_permutes path t (u ∷ ts) =
    by_cases (IsPermutation (t ∷ u ∷ ts) (placed path t (u ∷ ts))) (is_path_before (path t) (path u))
    (λ e. rw e (IsPermutation-refl (t ∷ u ∷ ts)))
    (λ e. rw e (IsPermutation-trans (t ∷ u ∷ ts) (u ∷ t ∷ ts) (u ∷ placed path t ts) (IsPermutation-middle (t ∷ []) u ts) (IsPermutation-cons u (t ∷ ts) (placed path t ts) (placed_permutes path t ts))))

preorder_permutes : (path : Transaction → List ℕ) (ts : List Transaction) → IsPermutation ts (preorder path ts)
preorder_permutes path [] = IsPermutation-refl []
preorder_permutes path (t ∷ ts) =
    IsPermutation-trans (t ∷ ts) (t ∷ preorder path ts) (preorder path (t ∷ ts)) (IsPermutation-cons t ts (preorder path ts) (preorder_permutes path ts)) (placed_permutes path t (preorder path ts))

all_placed : (P : Transaction → Type 0) (path : Transaction → List ℕ) (t : Transaction) (ts : List Transaction) → P t → All P ts → All P (placed path t ts)
all_placed P path t ts p a = All-permutation P (t ∷ ts) (placed path t ts) (placed_permutes path t ts) (All-cons P t ts p a)

pub all_preorder : (P : Transaction → Type 0) (path : Transaction → List ℕ) (ts : List Transaction) → All P ts → All P (preorder path ts)
all_preorder P path ts a = All-permutation P ts (preorder path ts) (preorder_permutes path ts) a

pub all_unsorted : (P : Transaction → Type 0) (path : Transaction → List ℕ) (ts : List Transaction) → All P (preorder path ts) → All P ts
all_unsorted P path ts a = All-permutation P (preorder path ts) ts (IsPermutation-sym ts (preorder path ts) (preorder_permutes path ts)) a

pub preorder_sum : (f : Transaction → ℕ) (path : Transaction → List ℕ) (ts : List Transaction) → sum_by f (preorder path ts) ≡ sum_by f ts
preorder_sum f path ts = sum_by-IsPermutation f ts (preorder path ts) (preorder_permutes path ts)

-- what two transactions are to each other once they are sorted
abbrev pub Sorts : (Transaction → List ℕ) → (Transaction → Transaction → Type 0) → Transaction → Transaction → Type 0
Sorts path R t u = (is_path_before (path t) (path u) ≡ true → R t u) × (is_path_before (path t) (path u) ≡ false → R u t)

abbrev pub IsTransitive : (Transaction → Transaction → Type 0) → Type 0
IsTransitive R = (t u v : Transaction) → R t u → R u v → R t v

placed_sorted : (path : Transaction → List ℕ) (R : Transaction → Transaction → Type 0) → IsTransitive R → (t : Transaction) (ts : List Transaction) → All (Sorts path R t) ts → InOrder R ts → InOrder R (placed path t ts)
placed_sorted path R then t [] s o = (All-nil (R t), tt)
placed_sorted path R then t (u ∷ ts) s o =
    let both = All-head (Sorts path R t) u ts s in
    by_cases (InOrder R (placed path t (u ∷ ts))) (is_path_before (path t) (path u))
    (λ e. rw e (All-cons (R t) u ts (both.0 e) (All-weaker (R u) (R t) (λ v r. then t u v (both.0 e) r) ts o.0), o))
    (λ e. rw e (all_placed (R u) path t ts (both.1 e) o.0, placed_sorted path R then t ts (All-tail (Sorts path R t) u ts s) o.1))

pub preorder_sorted : (path : Transaction → List ℕ) (R : Transaction → Transaction → Type 0) → IsTransitive R → (ts : List Transaction) → InOrder (Sorts path R) ts → InOrder R (preorder path ts)
preorder_sorted path R then [] s = tt
preorder_sorted path R then (t ∷ ts) s = placed_sorted path R then t (preorder path ts) (all_preorder (Sorts path R t) path ts s.0) (preorder_sorted path R then ts s.1)

all_ordered : (R : Transaction → Transaction → Type 0) → ((t u : Transaction) → R t u) → (ts : List Transaction) → InOrder R ts
all_ordered R all [] = tt
all_ordered R all (t ∷ ts) = (λ k d within. all t (get_or ts k d), all_ordered R all ts)

pub all_left : {X : Type 0} (P : X → Type 0) (xs ys : List X) → All P (xs ++ ys) → All P xs
all_left P [] ys a = All-nil P
all_left P (x ∷ xs) ys a = All-cons P x xs (All-head P x (xs ++ ys) a) (all_left P xs ys (All-tail P x (xs ++ ys) a))

pub all_right : {X : Type 0} (P : X → Type 0) (xs ys : List X) → All P (xs ++ ys) → All P ys
all_right P [] ys a = a
all_right P (x ∷ xs) ys a = all_right P xs ys (All-tail P x (xs ++ ys) a)

pub contains_here : {X : Type 0} (before : List X) (x : X) (behind : List X) → Contains (before ++ x ∷ behind) x
contains_here before x behind = Contains-append_right before (x ∷ behind) x (0, omega arith, refl)

-- an element among others that are in order
pub order_at : {X : Type 0} (R : X → X → Type 0) (before : List X) (x : X) (behind : List X) → InOrder R (before ++ x ∷ behind) → All (λ y. R y x) before × All (R x) behind
order_at R [] x behind o = (All-nil (λ y. R y x), o.0)
order_at R (y ∷ before) x behind o =
    let later = order_at R before x behind o.1 in
    (All-cons (λ z. R z x) y before (All-contains (R y) (before ++ x ∷ behind) x o.0 (contains_here before x behind)) later.0, later.1)

-- the path of a transaction that has a parent goes on from the line above
path_linked : (n : ℕ) (pending : List Transaction) (t : Transaction) (link : ParentLink) → t.parent ≡ Some link → flat_map number_of (reverse (line (suc n) pending (Some t))) ≡ flat_map number_of (reverse (line n pending (of_serial link.serial pending))) ++ link.number ∷ []
path_linked n pending t link e =
    let path : List Transaction → List ℕ = λ l. flat_map number_of (reverse l) in
    ap (λ (o : Option ParentLink). path (t ∷ line n pending (linked o pending))) e
    ∙ path_more t (line n pending (of_serial link.serial pending))
    ∙ ap (λ (o : Option ParentLink). path (line n pending (of_serial link.serial pending)) ++ link_number o) e

-- of two children of one parent the one that joined it first stands first
pub siblings_ordered : (pending : List Transaction) (root : Transaction) (before : List Transaction) (a : Transaction) (between : List Transaction) (b : Transaction) (behind : List Transaction) (p q : ParentLink) →
    preorder (path_of pending) (tree_of pending root) ≡ before ++ a ∷ between ++ b ∷ behind → a.parent ≡ Some p → b.parent ≡ Some q → p.serial ≡ q.serial → p.number ≤ q.number
siblings_ordered [] root before a between b behind p q is linked_a linked_b same =
    let within : Contains [] b = subst (λ (ts : List Transaction). Contains ts b) (sym is) (contains_here (before ++ a ∷ between) b behind) in
    absurd (omega (arith, within.1))
siblings_ordered (first ∷ rest) root before a between b behind p q is linked_a linked_b same =
    let pending : List Transaction = first ∷ rest in
    let path : Transaction → List ℕ = path_of pending in
    let R : Transaction → Transaction → Type 0 = λ t u. is_path_before (path t) (path u) ≡ true in
    let sorted = preorder_sorted path R (λ t u v. path_then (path t) (path u) (path v)) (tree_of pending root) (all_ordered (Sorts path R) (λ t u. (λ e. e, path_total (path t) (path u))) (tree_of pending root)) in
    let less : R a b = All-contains (λ t. R t b) (before ++ a ∷ between) a (order_at R (before ++ a ∷ between) b behind (subst (InOrder R) is sorted)).0 (contains_here before a between) in
    let above : ℕ → List ℕ = λ s. flat_map number_of (reverse (line (length rest) pending (of_serial s pending))) in
    let path_b : path b ≡ above p.serial ++ q.number ∷ [] = path_linked (length rest) pending b q linked_b ∙ ap (λ (s : ℕ). above s ++ q.number ∷ []) (sym same) in
    last_less (above p.serial) p.number q.number (rw (path_linked (length rest) pending a p linked_a, path_b) at less)
