-- The tests of an asker, of which one is asked.
use Rattle.std.proofs.Common.{◌≡◌, ℕ, zero, suc, ◌+◌, ◌<◌, ◌≤◌, ◌||◌, Bool, true, false, List, [], ◌∷◌, ◌++◌, length, map, take, set, get_or, refl, ap, sym, ◌∙◌, add-one, arith}
use Rattle.std.proofs.lemmas.List.{length-map, get_or-map, take_more}
use Rattle.std.proofs.Math.Seq.{map-set_same}
use Rattle.std.specs.List.{list_any}

-- what stands in the place of an item has its test
pub same_tests : {A B : Type 0} (f : A → B) (all old : List A) (i : ℕ) (a new : A) → map f all ≡ map f old → f new ≡ f (get_or all i a) → map f (set all i new) ≡ map f old
same_tests f all old i a new same is = map-set_same f all i new a is ∙ same

-- what is said of the test of an item
pub at_test : {A B C : Type 0} (f : A → B) (g : B → C) (all old : List A) (i : ℕ) (a : A) (e : C) → map f all ≡ map f old → i < length all → get_or (map g (map f old)) i e ≡ g (f (get_or all i a))
at_test f g all old i a e same within =
    let inside : i < length (map f all) = omega (arith, within, length-map all f) in
    ap (λ (l : List _). get_or (map g l) i e) (sym same) ∙ get_or-map g (map f all) i (f a) e inside ∙ ap g (get_or-map f all i a (f a) within)

-- the test of an item was asked
pub test_asked : {A B C : Type 0} (f : A → B) (g : B → C) (all old : List A) (i : ℕ) (a : A) (truths : List C) (truth : C) → map f all ≡ map f old → i < length all → truth ≡ g (f (get_or all i a)) →
    truths ≡ take i (map g (map f old)) → truths ++ truth ∷ [] ≡ take (i + 1) (map g (map f old))
test_asked f g all old i a truths truth same within is so_far =
    let inside : i < length (map g (map f old)) = omega (arith, within, length-map (map f old) g, length-map old f, length-map all f, ap length same) in
    let here : get_or (map g (map f old)) i truth ≡ truth = at_test f g all old i a truth same within ∙ sym is in
    ap (λ (l : List _). l ++ truth ∷ []) so_far ∙ ap (λ (t : _). take i (map g (map f old)) ++ t ∷ []) (sym here) ∙ sym (take_more (map g (map f old)) i truth inside)

-- one of truths is true
pub is_there : (truths : List Bool) (i : ℕ) (d : Bool) → i < length truths → get_or truths i d ≡ true → true ≡ list_any (λ truth. truth) truths
is_there [] i d within here = absurd (omega (arith, within))
is_there (true ∷ truths) i d within here = refl
is_there (false ∷ truths) zero d within here = absurd (cc)
is_there (false ∷ truths) (suc i) d within here = is_there truths i d (omega (arith, within)) here

none_next : (truths : List Bool) (i : ℕ) (d : Bool) → i < length truths → get_or truths i d ≡ false → list_any (λ truth. truth) (take i truths) ≡ false → list_any (λ truth. truth) (take (suc i) truths) ≡ false
none_next [] i d within here none = absurd (omega (arith, within))
none_next (true ∷ truths) zero d within here none = absurd (cc)
none_next (false ∷ truths) zero d within here none = refl
none_next (true ∷ truths) (suc i) d within here none = absurd (cc)
none_next (false ∷ truths) (suc i) d within here none = none_next truths i d (omega (arith, within)) here none

-- none of so many truths is true, nor the next
pub none_more : (truths : List Bool) (i : ℕ) (d : Bool) → i < length truths → get_or truths i d ≡ false → list_any (λ truth. truth) (take i truths) ≡ false → list_any (λ truth. truth) (take (i + 1) truths) ≡ false
none_more truths i d within here none = rw add-one (none_next truths i d within here none)

-- none of truths is true, where none of so many is that are no fewer
pub none_there : (truths : List Bool) (i : ℕ) → length truths ≤ i → list_any (λ truth. truth) (take i truths) ≡ false → false ≡ list_any (λ truth. truth) truths
none_there [] i past none = refl
none_there (t ∷ truths) zero past none = absurd (omega (arith, past))
none_there (true ∷ truths) (suc i) past none = absurd (cc)
none_there (false ∷ truths) (suc i) past none = none_there truths i (omega (arith, past)) none

-- some item passes a test where one of what the test says of them is true
pub any_said : {A : Type 0} (says : A → Bool) (xs : List A) → list_any (λ truth. truth) (map says xs) ≡ list_any says xs
any_said says [] = refl
any_said says (x ∷ xs) = ap (λ (b : Bool). says x || b) (any_said says xs)
