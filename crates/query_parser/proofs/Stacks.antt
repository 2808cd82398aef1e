-- What waits, in either order.
use Rattle.std.proofs.Common.{◌≡◌, ◌+◌, ◌||◌, Bool, true, false, List, [], ◌∷◌, ◌++◌, refl, sym, ap, ◌∙◌, arith}
use Rattle.std.specs.Prelude.{reverse}
use Rattle.std.specs.List.{count_by, list_any}
use Rattle.std.proofs.lemmas.List.{reverse-append}
use Rattle.std.proofs.lemmas.List.Recursion.{is_count_by}
use Rattle.std.proofs.lemmas.List.Folds.{list_any-append}
use Rattle.query_grammar.specs.declared.mode.Waiting.{Waiting}
use Rattle.query_grammar.specs.declared.mode.Waiting.TheVariants as waits
use Rattle.query_grammar.specs.Moves.{is_open, open_count, is_mark, can_close}

open_count-append : (xs ys : List Waiting) → open_count (xs ++ ys) ≡ open_count xs + open_count ys
open_count-append [] ys = omega arith
open_count-append (waits.Open ∷ xs) ys = let e = open_count-append xs ys in omega arith
open_count-append (waits.Not ∷ xs) ys = let e = open_count-append xs ys in omega arith
open_count-append (waits.And ∷ xs) ys = open_count-append xs ys
open_count-append (waits.Or ∷ xs) ys = open_count-append xs ys

open_count-reverse : (xs : List Waiting) → open_count (reverse xs) ≡ open_count xs
open_count-reverse [] = refl
open_count-reverse (x ∷ xs) =
    let e = open_count-reverse xs in
    let f = open_count-append (reverse xs) (x ∷ []) in
    let g : open_count (x ∷ xs) ≡ open_count (x ∷ []) + open_count xs = open_count-append (x ∷ []) xs in
    ap open_count (reverse-append (x ∷ []) xs) ∙ omega arith

-- the count over what is stored is the count over what contracts see
pub count_is : (xs : List Waiting) → count_by is_open xs ≡ open_count (reverse xs)
count_is xs = sym (is_count_by open_count is_open refl (λ w ws. refl) xs) ∙ sym (open_count-reverse xs)

-- a test of two, in either order
or_last : (a b : Bool) → (a || (b || false)) ≡ (b || a)
or_last true true = refl
or_last true false = refl
or_last false true = refl
or_last false false = refl

-- whether one is a parenthesis, in either order
pub close_is : (xs : List Waiting) → list_any is_mark xs ≡ can_close (reverse xs)
close_is [] = refl
close_is (x ∷ xs) =
    ap (λ (b : Bool). is_mark x || b) (close_is xs)
    ∙ sym (ap can_close (reverse-append (x ∷ []) xs) ∙ list_any-append is_mark (reverse xs) (x ∷ []) ∙ or_last (can_close (reverse xs)) (is_mark x))
