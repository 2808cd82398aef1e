-- Calls of which those on some handles stop alone.
use Rattle.std.proofs.Common.{◌≡◌, ℕ, Bool, true, false, List, [], ◌∷◌, ◌++◌, refl, ap, ◌∙◌, ◌&&◌, not}
use Rattle.std.proofs.lemmas.List.Folds.{list_all-append}
use Rattle.vio.specs.Calls.{Call, Take, AreOn, fails, has_failed, none_failed, last_failed}
use Rattle.vio.proofs.CallLemmas.{fails_then, fails_late}
use Rattle.vio.specs.Alone.{ends_all, none_ends, last_ends, fails_but}

and_both : (a b c : Bool) → (a && b) ≡ true → c ≡ true → (a && c) ≡ true
and_both true b c p q = q
and_both false b c p q = absurd cc

and_later : (a b : Bool) → (a && b) ≡ true → b ≡ true
and_later true b p = p
and_later false b p = absurd cc

pub none_then : (alone : List ℕ) (xs ys : List Call) → none_ends alone xs ≡ true → none_ends alone ys ≡ true → none_ends alone (xs ++ ys) ≡ true
none_then alone xs ys p q = list_all-append (λ call. not (ends_all alone call)) xs ys ∙ (λ i. p i && q i)

none_late : (alone : List ℕ) (xs : List Call) → none_ends alone xs ≡ true → last_ends alone xs ≡ true
none_late alone [] p = refl
none_late alone (c ∷ []) p = refl
none_late alone (c ∷ d ∷ xs) p = and_both (not (ends_all alone c)) (none_ends alone (d ∷ xs)) (last_ends alone (d ∷ xs)) p (none_late alone (d ∷ xs) (and_later (not (ends_all alone c)) (none_ends alone (d ∷ xs)) p))

last_then : (alone : List ℕ) (xs ys : List Call) → none_ends alone xs ≡ true → last_ends alone ys ≡ true → last_ends alone (xs ++ ys) ≡ true
last_then alone [] ys p q = q
last_then alone (c ∷ []) [] p q = refl
last_then alone (c ∷ []) (d ∷ ys) p q = and_both (not (ends_all alone c)) true (last_ends alone (d ∷ ys)) p q
last_then alone (c ∷ d ∷ xs) ys p q = and_both (not (ends_all alone c)) (none_ends alone (d ∷ xs)) (last_ends alone (d ∷ (xs ++ ys))) p (last_then alone (d ∷ xs) ys (and_later (not (ends_all alone c)) (none_ends alone (d ∷ xs)) p) q)

-- calls of which none failed, and then others
pub but_then : (alone : List ℕ) (go : Bool) (xs ys : List Call) → fails_but alone true xs ≡ true → fails_but alone go ys ≡ true → fails_but alone go (xs ++ ys) ≡ true
but_then [] go xs ys p q = fails_then go xs ys p q
but_then (h ∷ alone) true xs ys p q = none_then (h ∷ alone) xs ys p q
but_then (h ∷ alone) false xs ys p q = last_then (h ∷ alone) xs ys p q

-- where none failed, they may go on or not
pub but_late : (alone : List ℕ) (go : Bool) (xs : List Call) → fails_but alone true xs ≡ true → fails_but alone go xs ≡ true
but_late [] go xs p = fails_late go xs p
but_late (h ∷ alone) true xs p = p
but_late (h ∷ alone) false xs p = none_late (h ∷ alone) xs p

-- of calls that read alone, all that fail end all
none_reads : (alone reads : List ℕ) (xs : List Call) → AreOn reads [] xs → none_failed xs ≡ true → none_ends alone xs ≡ true
none_reads alone reads [] on p = refl
none_reads alone reads (Take h bytes mark ∷ xs) on p = and_both (not (has_failed (Take h bytes mark))) (none_failed xs) (none_ends alone xs) p (none_reads alone reads xs on.1 (and_later (not (has_failed (Take h bytes mark))) (none_failed xs) p))
none_reads alone reads (call ∷ xs) on p = absurd on.0

last_reads : (alone reads : List ℕ) (xs : List Call) → AreOn reads [] xs → last_failed xs ≡ true → last_ends alone xs ≡ true
last_reads alone reads [] on p = refl
last_reads alone reads (c ∷ []) on p = refl
last_reads alone reads (Take h bytes mark ∷ d ∷ xs) on p = and_both (not (has_failed (Take h bytes mark))) (last_failed (d ∷ xs)) (last_ends alone (d ∷ xs)) p (last_reads alone reads (d ∷ xs) on.1 (and_later (not (has_failed (Take h bytes mark))) (last_failed (d ∷ xs)) p))
last_reads alone reads (call ∷ d ∷ xs) on p = absurd on.0

pub but_reads : (alone reads : List ℕ) (go : Bool) (xs : List Call) → AreOn reads [] xs → fails go xs ≡ true → fails_but alone go xs ≡ true
but_reads [] reads go xs on p = p
but_reads (h ∷ alone) reads true xs on p = none_reads (h ∷ alone) reads xs on p
but_reads (h ∷ alone) reads false xs on p = last_reads (h ∷ alone) reads xs on p
