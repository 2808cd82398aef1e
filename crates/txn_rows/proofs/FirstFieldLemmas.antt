-- The first field of a text, and those behind it.
use Rattle.std.proofs.Common.{◌≡◌, ◌+◌, ◌<◌, ◌≤◌, ℕ, Bool, true, not, cond, List, [], ◌∷◌, ◌++◌, length, take, drop, get_or, ap, sym, subst, ◌∙◌, arith}
use Rattle.std.specs.List.{filter, list_all}
use Rattle.std.proofs.lemmas.Bool.{and_parts, not-true}
use Rattle.std.proofs.lemmas.List.{take-append-drop, length-take-le, take_all, drop_all, drop_more}
use Rattle.vsl_decimal.specs.Field.{is_space, is_field, parts, onto_first, fields}

-- behind white space the fields are the same
pub fields_behind : (b : ℕ) (text : List ℕ) → is_space b ≡ true → fields (b ∷ text) ≡ fields text
fields_behind b text white = ap (λ (w : Bool). filter is_field (cond w ([] ∷ parts text) (onto_first b (parts text)))) white

-- whether a byte is no white space
abbrev pub is_dark : ℕ → Bool
is_dark b = not (is_space b)

-- bytes before a part belong to it, where none is white space
parts_of : (xs ys : List ℕ) (ps : List (List ℕ)) → list_all is_dark xs ≡ true → parts ys ≡ [] ∷ ps → parts (xs ++ ys) ≡ xs ∷ ps
parts_of [] ys ps dark is = is
parts_of (x ∷ xs) ys ps dark is =
    let tests = and_parts (is_dark x) (list_all is_dark xs) dark in
    ap (λ (w : Bool). cond w ([] ∷ parts (xs ++ ys)) (onto_first x (parts (xs ++ ys)))) (not-true (is_space x) tests.0)
    ∙ ap (onto_first x) (parts_of xs ys ps tests.1 is)

field_of_parts : (xs ys : List ℕ) (ps : List (List ℕ)) → list_all is_dark xs ≡ true → 0 < length xs → parts ys ≡ [] ∷ ps → fields (xs ++ ys) ≡ xs ∷ fields ys
field_of_parts [] ys ps dark some is = absurd (omega (arith, some))
field_of_parts (x ∷ xs) ys ps dark some is =
    ap (filter is_field) (parts_of (x ∷ xs) ys ps dark is)
    ∙ ap (λ (zs : List (List ℕ)). (x ∷ xs) ∷ filter is_field zs) (sym is)

-- the first field ends at white space
pub ends_at_white : (text : List ℕ) (i d : ℕ) → i < length text → is_space (get_or text i d) ≡ true → list_all is_dark (take i text) ≡ true → 0 < i → fields text ≡ take i text ∷ fields (drop i text)
ends_at_white text i d within white dark some =
    let behind : List ℕ = drop (i + 1) text in
    let rest : parts (drop i text) ≡ [] ∷ parts behind =
    ap parts (drop_more text i d within) ∙ ap (λ (w : Bool). cond w ([] ∷ parts behind) (onto_first (get_or text i d) (parts behind))) white in
    ap fields (sym (take-append-drop i text)) ∙ field_of_parts (take i text) (drop i text) (parts behind) dark (omega (arith, some, length-take-le i text (omega (arith, within)))) rest

-- or it is the whole text
pub ends_with_text : (text : List ℕ) (i n : ℕ) → n ≡ length text → length text ≤ i → list_all is_dark (take i text) ≡ true → 0 < n → fields text ≡ take n text ∷ fields (drop n text)
ends_with_text text i n is past dark some =
    let whole : take i text ≡ take n text = take_all i text past ∙ sym (take_all n text (omega (arith, is))) in
    let none : drop n text ≡ [] = drop_all n text (omega (arith, is)) in
    ap fields (sym (take-append-drop n text)) ∙ field_of_parts (take n text) (drop n text) [] (subst (λ (xs : List ℕ). list_all is_dark xs ≡ true) whole dark) (omega (arith, some, length-take-le n text (omega (arith, is)))) (ap parts none)
