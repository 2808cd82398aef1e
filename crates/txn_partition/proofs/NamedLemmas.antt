-- Lists of VXIDs: which stand in them, each once, at which place, and that a list of different ones is no longer
-- than one that has them all.
use Rattle.std.proofs.Common.{◌≡◌, ◌+◌, ◌≤◌, ℕ, Bool, true, false, not, eqb, cond, ◌||◌, ◌&&◌, List, [], ◌∷◌, ◌++◌, length, refl, ap, sym, ◌∙◌, subst, append-nil, arith}
use Rattle.std.specs.Prelude.{⊤, count_by}
use Rattle.std.specs.List.{filter}
use Rattle.std.proofs.Math.Bool.{or-true, or-false}
use Rattle.std.proofs.lemmas.Bool.{eqb-true, eqb-false, eq-eqb, ne_eqb, or_parts, or_left, or_right, and_parts, and_from, both_ways}
use Rattle.std.proofs.lemmas.List.{append_assoc}
use Rattle.std.proofs.lemmas.List.Elements.{filter-append}
use Rattle.std.proofs.lemmas.List.Sums.{length-filter, count_by-le-length}
use Rattle.txn_partition.specs.LogFacts.{is_in, each_once}
use Rattle.txn_partition.specs.inside.Parted.{place, with_new_ones}
use Rattle.txn_rows.proofs.LineLemmas.{by_cases}

-- a list with one more, if it isn't there
abbrev pub added : ℕ → List ℕ → List ℕ
added x xs = cond (is_in x xs) xs (xs ++ x ∷ [])

pub in_append : (x : ℕ) (xs ys : List ℕ) → is_in x (xs ++ ys) ≡ (is_in x xs || is_in x ys)
in_append x [] ys = refl
in_append x (y ∷ xs) ys = by_cases (is_in x (y ∷ xs ++ ys) ≡ (is_in x (y ∷ xs) || is_in x ys)) (eqb y x) (λ e. rw e refl) (λ e. rw e (in_append x xs ys))

in_last : (x : ℕ) (xs : List ℕ) → is_in x (xs ++ x ∷ []) ≡ true
in_last x xs = in_append x xs (x ∷ []) ∙ or_right (is_in x xs) (is_in x (x ∷ [])) (rw (eq-eqb x x refl) refl)

pub in_added : (x y : ℕ) (xs : List ℕ) → is_in x xs ≡ true → is_in x (added y xs) ≡ true
in_added x y xs here = by_cases (is_in x (added y xs) ≡ true) (is_in y xs) (λ e. rw e here) (λ e. rw e (in_append x xs (y ∷ []) ∙ or_left (is_in x xs) (is_in x (y ∷ [])) here))

pub added_in : (x : ℕ) (xs : List ℕ) → is_in x (added x xs) ≡ true
added_in x xs = by_cases (is_in x (added x xs) ≡ true) (is_in x xs) (λ e. rw e e) (λ e. rw e (in_last x xs))

new_ones_append : (xs ys zs : List ℕ) → with_new_ones xs (ys ++ zs) ≡ with_new_ones (with_new_ones xs ys) zs
new_ones_append xs [] zs = refl
new_ones_append xs (y ∷ ys) zs = new_ones_append (added y xs) ys zs

-- what stands there stays there, and what is added is there
pub in_new_ones : (x : ℕ) (xs ys : List ℕ) → is_in x (with_new_ones xs ys) ≡ (is_in x xs || is_in x ys)
in_new_ones x xs [] = sym (or-false (is_in x xs))
in_new_ones x xs (y ∷ ys) =
    in_new_ones x (added y xs) ys ∙ by_cases ((is_in x (added y xs) || is_in x ys) ≡ (is_in x xs || is_in x (y ∷ ys))) (is_in y xs)
    (λ e. by_cases ((is_in x (added y xs) || is_in x ys) ≡ (is_in x xs || is_in x (y ∷ ys))) (eqb y x)
    (λ same. let here : is_in x xs ≡ true = ap (λ (z : ℕ). is_in z xs) (sym (eqb-true y x same)) ∙ e in rw (e, here) refl)
    (λ other. rw (e, other) refl))
    (λ e. rw (e, in_append x xs (y ∷ [])) (by_cases (((is_in x xs || is_in x (y ∷ [])) || is_in x ys) ≡ (is_in x xs || is_in x (y ∷ ys))) (is_in x xs)
    (λ a. rw a refl)
    (λ a. by_cases (((is_in x xs || is_in x (y ∷ [])) || is_in x ys) ≡ (is_in x xs || is_in x (y ∷ ys))) (eqb y x) (λ b. rw (a, b) refl) (λ b. rw (a, b) refl))))

-- what is added stands behind
pub grown : (xs ys : List ℕ) → (more : List ℕ) × (with_new_ones xs ys ≡ xs ++ more)
grown xs [] = ([], sym (append-nil xs))
grown xs (y ∷ ys) =
    let later = grown (added y xs) ys in
    by_cases ((more : List ℕ) × (with_new_ones xs (y ∷ ys) ≡ xs ++ more)) (is_in y xs)
    (λ e. (later.0, later.1 ∙ ap (λ (b : Bool). cond b xs (xs ++ y ∷ []) ++ later.0) e))
    (λ e. (y ∷ later.0, later.1 ∙ ap (λ (b : Bool). cond b xs (xs ++ y ∷ []) ++ later.0) e ∙ append_assoc xs (y ∷ []) later.0))

-- no number stands there twice
abbrev pub AreApart : List ℕ → Type 0
AreApart [] = ⊤
AreApart (x ∷ xs) = (is_in x xs ≡ false) × AreApart xs

apart_push : (xs : List ℕ) (y : ℕ) → AreApart xs → is_in y xs ≡ false → AreApart (xs ++ y ∷ [])
apart_push [] y a new = (refl, tt)
apart_push (x ∷ xs) y a new =
    let parts = or_parts (eqb x y) (is_in y xs) new in
    let other : eqb y x ≡ false = ne_eqb y x (λ e. eqb-false x y parts.0 (sym e)) in
    (in_append x xs (y ∷ []) ∙ rw (a.0, other) refl, apart_push xs y a.1 parts.1)

pub apart_added : (xs : List ℕ) (y : ℕ) → AreApart xs → AreApart (added y xs)
apart_added xs y a = by_cases (AreApart (added y xs)) (is_in y xs) (λ e. rw e a) (λ e. rw e (apart_push xs y a e))

apart_new_ones : (xs ys : List ℕ) → AreApart xs → AreApart (with_new_ones xs ys)
apart_new_ones xs [] a = a
apart_new_ones xs (y ∷ ys) a = apart_new_ones (added y xs) ys (apart_added xs y a)

pub in_filter : (x : ℕ) (p : ℕ → Bool) (xs : List ℕ) → is_in x (filter p xs) ≡ (is_in x xs && p x)
in_filter x p [] = refl
in_filter x p (y ∷ xs) =
    by_cases (is_in x (filter p (y ∷ xs)) ≡ (is_in x (y ∷ xs) && p x)) (eqb y x)
    (λ same. let is : y ≡ x = eqb-true y x same in
    by_cases (is_in x (filter p (y ∷ xs)) ≡ (is_in x (y ∷ xs) && p x)) (p y)
    (λ e. let at : p x ≡ true = ap p (sym is) ∙ e in rw (e, same, at) refl)
    (λ e. let at : p x ≡ false = ap p (sym is) ∙ e in rw (e, same, in_filter x p xs, at) (by_cases ((is_in x xs && false) ≡ false) (is_in x xs) (λ b. rw b refl) (λ b. rw b refl))))
    (λ other. by_cases (is_in x (filter p (y ∷ xs)) ≡ (is_in x (y ∷ xs) && p x)) (p y)
    (λ e. rw (e, other) (in_filter x p xs))
    (λ e. rw (e, other) (in_filter x p xs)))

pub apart_filter : (p : ℕ → Bool) (xs : List ℕ) → AreApart xs → AreApart (filter p xs)
apart_filter p [] a = tt
apart_filter p (x ∷ xs) a =
    by_cases (AreApart (filter p (x ∷ xs))) (p x)
    (λ e. rw e (in_filter x p xs ∙ rw (a.0) refl, apart_filter p xs a.1))
    (λ e. rw e (apart_filter p xs a.1))

-- one that passes is added before or after others are left out
pub filter_added : (p : ℕ → Bool) (y : ℕ) (xs : List ℕ) → p y ≡ true → filter p (added y xs) ≡ added y (filter p xs)
filter_added p y xs passes =
    let here : is_in y (filter p xs) ≡ is_in y xs = in_filter y p xs ∙ rw passes (by_cases ((is_in y xs && true) ≡ is_in y xs) (is_in y xs) (λ b. rw b refl) (λ b. rw b refl)) in
    by_cases (filter p (added y xs) ≡ added y (filter p xs)) (is_in y xs)
    (λ e. rw (here, e) refl)
    (λ e. rw (here, e) (filter-append p xs (y ∷ []) ∙ rw passes refl))

-- filters agree where their tests do, at what stands there
pub filter_same : (p q : ℕ → Bool) (xs : List ℕ) → ((x : ℕ) → is_in x xs ≡ true → p x ≡ q x) → filter p xs ≡ filter q xs
filter_same p q [] same = refl
filter_same p q (x ∷ xs) same =
    let first : p x ≡ q x = same x (rw (eq-eqb x x refl) refl) in
    let later : filter p xs ≡ filter q xs = filter_same p q xs (λ y here. same y (or_right (eqb x y) (is_in y xs) here)) in
    by_cases (filter p (x ∷ xs) ≡ filter q (x ∷ xs)) (q x)
    (λ e. rw (first, e) (ap (λ (ys : List ℕ). x ∷ ys) later))
    (λ e. rw (first, e) later)

-- a filter of a filter
pub filter_both : (p q : ℕ → Bool) (xs : List ℕ) → filter p (filter q xs) ≡ filter (λ x. q x && p x) xs
filter_both p q [] = refl
filter_both p q (x ∷ xs) =
    by_cases (filter p (filter q (x ∷ xs)) ≡ filter (λ y. q y && p y) (x ∷ xs)) (q x)
    (λ e. by_cases (filter p (filter q (x ∷ xs)) ≡ filter (λ y. q y && p y) (x ∷ xs)) (p x)
    (λ f. rw (e, f) (ap (λ (ys : List ℕ). x ∷ ys) (filter_both p q xs)))
    (λ f. rw (e, f) (filter_both p q xs)))
    (λ e. rw e (filter_both p q xs))

-- the place of a number behind others
pub place_behind : (x : ℕ) (xs ys : List ℕ) → is_in x xs ≡ false → place x (xs ++ x ∷ ys) ≡ length xs
place_behind x [] ys new = rw (eq-eqb x x refl) refl
place_behind x (y ∷ xs) ys new =
    let parts = or_parts (eqb y x) (is_in x xs) new in
    rw (parts.0) (omega (arith, place_behind x xs ys parts.1))

pub place_apart : (x y : ℕ) (xs : List ℕ) → is_in x xs ≡ true → is_in y xs ≡ true → place x xs ≡ place y xs → x ≡ y
place_apart x y [] a b e = absurd (cc)
place_apart x y (z ∷ xs) a b e =
    by_cases (x ≡ y) (eqb z x)
    (λ s. by_cases (x ≡ y) (eqb z y)
    (λ t. sym (eqb-true z x s) ∙ eqb-true z y t)
    (λ t. absurd (let f = rw (s, t) at e in omega (arith, f))))
    (λ s. by_cases (x ≡ y) (eqb z y)
    (λ t. absurd (let f = rw (s, t) at e in omega (arith, f)))
    (λ t. place_apart x y xs (rw s at a) (rw t at b) (let f = rw (s, t) at e in omega (arith, f))))

-- a list without a number that stands there is shorter
shorter : (x : ℕ) (xs : List ℕ) → is_in x xs ≡ true → length (filter (λ y. not (eqb y x)) xs) + 1 ≤ length xs
shorter x [] here = absurd (cc)
shorter x (y ∷ xs) here =
    by_cases (length (filter (λ z. not (eqb z x)) (y ∷ xs)) + 1 ≤ length (y ∷ xs)) (eqb y x)
    (λ e. rw e (omega (arith, length-filter (λ y. not (eqb y x)) xs, count_by-le-length (λ y. not (eqb y x)) xs)))
    (λ e. rw e (omega (arith, shorter x xs (rw e at here))))

-- different numbers that all stand in a list are no more than that has
pub no_more : (xs ys : List ℕ) → AreApart xs → ((x : ℕ) → is_in x xs ≡ true → is_in x ys ≡ true) → length xs ≤ length ys
no_more [] ys a within = omega arith
no_more (x ∷ xs) ys a within =
    let rest : List ℕ = filter (λ y. not (eqb y x)) ys in
    let later = no_more xs rest a.1 (λ z here.
    let other : eqb z x ≡ false = ne_eqb z x (λ e. both_ways (is_in x xs) a.0 (ap (λ (n : ℕ). is_in n xs) (sym e) ∙ here)) in
    in_filter z (λ y. not (eqb y x)) ys ∙ rw (within z (or_right (eqb x z) (is_in z xs) here), other) refl) in
    omega (arith, later, shorter x ys (within x (rw (eq-eqb x x refl) refl)))

-- lists that are apart from each other
pub apart_parts : (x : ℕ) (xs ys : List ℕ) → AreApart (xs ++ ys) → is_in x xs ≡ true → is_in x ys ≡ false
apart_parts x [] ys a here = absurd (cc)
apart_parts x (y ∷ xs) ys a here =
    let parts = or_parts (is_in y xs) (is_in y ys) (sym (in_append y xs ys) ∙ a.0) in
    by_cases (is_in x ys ≡ false) (eqb y x)
    (λ e. ap (λ (z : ℕ). is_in z ys) (sym (eqb-true y x e)) ∙ parts.1)
    (λ e. apart_parts x xs ys a.1 (rw e at here))

-- none passes
pub filter_none : (p : ℕ → Bool) (xs : List ℕ) → ((x : ℕ) → is_in x xs ≡ true → p x ≡ false) → filter p xs ≡ []
filter_none p [] none = refl
filter_none p (x ∷ xs) none = rw (none x (rw (eq-eqb x x refl) refl)) (filter_none p xs (λ y here. none y (or_right (eqb x y) (is_in y xs) here)))

-- lists that are apart and agree at what passes have as many that pass
fewer_pass : (p : ℕ → Bool) (xs ys : List ℕ) → AreApart xs → ((x : ℕ) → p x ≡ true → is_in x xs ≡ true → is_in x ys ≡ true) → count_by p xs ≤ count_by p ys
fewer_pass p xs ys a within =
    let le : length (filter p xs) ≤ length (filter p ys) = no_more (filter p xs) (filter p ys) (apart_filter p xs a) (λ x here.
    let parts = and_parts (is_in x xs) (p x) (sym (in_filter x p xs) ∙ here) in
    in_filter x p ys ∙ and_from (is_in x ys) (p x) (within x parts.1 parts.0) parts.1) in
    omega (arith, le, length-filter p xs, length-filter p ys)

pub same_count : (p : ℕ → Bool) (xs ys : List ℕ) → AreApart xs → AreApart ys → ((x : ℕ) → p x ≡ true → is_in x xs ≡ true → is_in x ys ≡ true) → ((x : ℕ) → p x ≡ true → is_in x ys ≡ true → is_in x xs ≡ true) → count_by p xs ≡ count_by p ys
same_count p xs ys a b there back = omega (arith, fewer_pass p xs ys a there, fewer_pass p ys xs b back)

-- equal numbers in either order
pub eqb_swap : (x y : ℕ) → eqb x y ≡ eqb y x
eqb_swap x y = by_cases (eqb x y ≡ eqb y x) (eqb y x) (λ e. rw e (eq-eqb x y (sym (eqb-true y x e)))) (λ e. rw e (ne_eqb x y (λ s. eqb-false y x e (sym s))))

-- each once is what is new
once_from : (ys xs : List ℕ) → with_new_ones ys xs ≡ ys ++ filter (λ x. not (is_in x ys)) (each_once xs)
once_from ys [] = sym (append-nil ys)
once_from ys (x ∷ xs) =
    let later : List ℕ = each_once xs in
    let other : ℕ → Bool = λ y. not (eqb y x) in
    let new : ℕ → Bool = λ y. not (is_in y ys) in
    let both : (is_in x ys ≡ true → filter new (filter other later) ≡ filter new later) = λ here.
    filter_both new other later ∙ filter_same (λ y. other y && new y) new later (λ y there.
    by_cases ((other y && new y) ≡ new y) (eqb y x)
    (λ e. let old : new y ≡ false = ap not (ap (λ (z : ℕ). is_in z ys) (eqb-true y x e) ∙ here) in rw e (sym old))
    (λ e. rw e refl)) in
    once_from (added x ys) xs ∙ by_cases (added x ys ++ filter (λ y. not (is_in y (added x ys))) later ≡ ys ++ filter new (x ∷ filter other later)) (is_in x ys)
    (λ e. rw e (ap (λ (zs : List ℕ). ys ++ zs) (sym (both e))))
    (λ e. rw e (append_assoc ys (x ∷ []) (filter (λ y. not (is_in y (ys ++ x ∷ []))) later)
    ∙ ap (λ (zs : List ℕ). ys ++ x ∷ zs) (filter_same (λ y. not (is_in y (ys ++ x ∷ []))) (λ y. other y && new y) later (λ y there.
    ap not (in_append y ys (x ∷ [])) ∙ by_cases (not (is_in y ys || (eqb x y || false)) ≡ (other y && new y)) (eqb y x)
    (λ s. rw (eqb_swap x y, s) (ap not (or-true (is_in y ys))))
    (λ s. rw (eqb_swap x y, s) (ap not (or-false (is_in y ys)))))
    ∙ sym (filter_both new other later))))

filter_all : (xs : List ℕ) → filter (λ x. true) xs ≡ xs
filter_all [] = refl
filter_all (x ∷ xs) = ap (λ (ys : List ℕ). x ∷ ys) (filter_all xs)

once_is : (xs : List ℕ) → each_once xs ≡ with_new_ones [] xs
once_is xs = sym (once_from [] xs ∙ filter_all (each_once xs))

pub once_append : (xs ys : List ℕ) → each_once (xs ++ ys) ≡ with_new_ones (each_once xs) ys
once_append xs ys = once_is (xs ++ ys) ∙ new_ones_append [] xs ys ∙ ap (λ (zs : List ℕ). with_new_ones zs ys) (sym (once_is xs))

pub in_once : (x : ℕ) (xs : List ℕ) → is_in x (each_once xs) ≡ is_in x xs
in_once x xs = ap (is_in x) (once_is xs) ∙ in_new_ones x [] xs

pub apart_once : (xs : List ℕ) → AreApart (each_once xs)
apart_once xs = subst AreApart (sym (once_is xs)) (apart_new_ones [] xs tt)
