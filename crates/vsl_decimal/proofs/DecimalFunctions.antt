-- The function that reads a number gives the value that the text spells.
use Rattle.std.proofs.Common.{◌≡◌, ℕ, ◌+◌, ◌*◌, nat_lt, nat_le, ◌==◌, ◌&&◌, if◌then◌else◌, Bool, true, false, List, [], ◌∷◌, ◌++◌, length, append-nil, ℤ, pos, neg_ℤ, All, Option, Some, None, IfSome, option_map, refl, sym, ap, ◌∙◌, subst, arith, lt-ltb, ltb-true, le-leb, leb-true, ne_eqb, eqb-true, add-zero}
use Rattle.std.specs.Char.{digit_value, is_digit}
use Rattle.std.specs.List.{list_all, slice_split, join_with_byte}
use Rattle.std.specs.Str.Parse.{AllDigits, digits_value}
use Rattle.std.proofs.lemmas.Bool.{and_from, and_parts}
use Rattle.std.proofs.lemmas.List.Elements.{All-nil, All-cons}
use Rattle.std.proofs.lemmas.List.Splits.{slice_split_none, slice_split_at, join_with_byte-slice_split}
use Rattle.vsl_decimal.specs.Decimal.{IsDigits, Spells, print_fraction, scaled_fraction, scale, is_digits, size_of, size_of_parts, decimal_of}
use Rattle.vsl_decimal.specs.inside.Digits.{SpellsSize}
use Rattle.vsl_decimal.proofs.DecimalLemmas.{some_none, Spells-plain, Spells-minus}

-- the test of digits, both ways
pub all_digits : (w : List ℕ) → AllDigits 10 w → list_all (λ c. is_digit c 10) w ≡ true
all_digits [] d = refl
all_digits (c ∷ w) d = and_from _ _ (lt-ltb (digit_value c) 10 d.0) (all_digits w d.1)

pub AllDigits-from : (w : List ℕ) → list_all (λ c. is_digit c 10) w ≡ true → AllDigits 10 w
AllDigits-from [] e = tt
AllDigits-from (c ∷ w) e = let both = and_parts (is_digit c 10) (list_all (λ x. is_digit x 10) w) e in (ltb-true (digit_value c) 10 both.0, AllDigits-from w both.1)

pub is_digits-from : (w : List ℕ) → IsDigits w → is_digits w ≡ true
is_digits-from w d = and_from _ _ (and_from _ _ (lt-ltb 0 (length w) d.1) (le-leb (length w) 18 d.2)) (all_digits w d.0)

pub IsDigits-from : (w : List ℕ) → is_digits w ≡ true → IsDigits w
IsDigits-from w e =
    let digits = and_parts (nat_lt 0 (length w) && nat_le (length w) 18) (list_all (λ c. is_digit c 10) w) e in
    let bounds = and_parts (nat_lt 0 (length w)) (nat_le (length w) 18) digits.0 in
    (AllDigits-from w digits.1, ltb-true 0 (length w) bounds.0, leb-true (length w) 18 bounds.1)

-- no digit is a period
no_period : (w : List ℕ) → AllDigits 10 w → All (λ c. (c == 46) ≡ false) w
no_period [] d = All-nil (λ c. (c == 46) ≡ false)
no_period (c ∷ w) d = All-cons (λ x. (x == 46) ≡ false) c w (ne_eqb c 46 (λ e. omega (arith, ap digit_value e, d.0))) (no_period w d.1)

-- the size of a printed number without its sign
size_of-print : (w : List ℕ) (f : Option (List ℕ)) → IsDigits w → IfSome f IsDigits → size_of (w ++ print_fraction f) ≡ Some (digits_value 10 w * scale + scaled_fraction f)
size_of-print w None d e =
    ap size_of (append-nil w) ∙ ap size_of_parts (slice_split_none (λ b. b == 46) w (no_period w d.0))
    ∙ ap (λ (t : Bool). if t then Some (digits_value 10 w * scale) else None) (is_digits-from w d) ∙ ap Some (sym (add-zero (digits_value 10 w * scale)))
size_of-print w (Some f) d e =
    ap size_of_parts (slice_split_at (λ b. b == 46) w 46 f (no_period w d.0) refl ∙ ap (λ (parts : List (List ℕ)). w ∷ parts) (slice_split_none (λ b. b == 46) f (no_period f e.0)))
    ∙ ap (λ (t : Bool). if t then Some (digits_value 10 w * scale + scaled_fraction (Some f)) else None) (and_from _ _ (is_digits-from w d) (is_digits-from f e))

pub size_of-spelled : (text : List ℕ) (size : ℕ) → SpellsSize text size → size_of text ≡ Some size
size_of-spelled text size s = ap size_of s.parts ∙ size_of-print s.whole s.fraction s.are_digits s.is_fraction ∙ ap Some s.value_is

-- what the parts give is the size of the text
whole_spelled : (w : List ℕ) (t : Bool) (size : ℕ) → is_digits w ≡ t → (if t then Some (digits_value 10 w * scale) else None) ≡ Some size → SpellsSize w size
whole_spelled w false size is e = some_none size e
whole_spelled w true size is e =
    let same : digits_value 10 w * scale ≡ size = cc in
    record { whole = w; fraction = None; are_digits = IsDigits-from w is; is_fraction = tt; parts = sym (append-nil w); value_is = add-zero _ ∙ same }

both_spelled : (w f : List ℕ) (t : Bool) (size : ℕ) → is_digits w && is_digits f ≡ t → (if t then Some (digits_value 10 w * scale + scaled_fraction (Some f)) else None) ≡ Some size → SpellsSize (w ++ 46 ∷ f) size
both_spelled w f false size is e = some_none size e
both_spelled w f true size is e =
    let same : digits_value 10 w * scale + scaled_fraction (Some f) ≡ size = cc in
    let both = and_parts (is_digits w) (is_digits f) is in
    record { whole = w; fraction = Some f; are_digits = IsDigits-from w both.0; is_fraction = IsDigits-from f both.1; parts = refl; value_is = same }

parts_spelled : (parts : List (List ℕ)) (size : ℕ) → size_of_parts parts ≡ Some size → SpellsSize (join_with_byte 46 parts) size
parts_spelled [] size e = some_none size e
parts_spelled (w ∷ []) size e = whole_spelled w (is_digits w) size refl e
parts_spelled (w ∷ f ∷ []) size e = both_spelled w f (is_digits w && is_digits f) size refl e
parts_spelled (w ∷ f ∷ more ∷ parts) size e = some_none size e

pub SpellsSize-from : (text : List ℕ) (size : ℕ) → size_of text ≡ Some size → SpellsSize text size
SpellsSize-from text size e =
    subst (λ (t : List ℕ). SpellsSize t size) (join_with_byte-slice_split 46 text) (parts_spelled (slice_split (λ b. b == 46) text) size e)

-- a value is that of a size
minus_spelled : (text : List ℕ) (o : Option ℕ) (value : ℤ) → size_of text ≡ o → option_map (λ size. neg_ℤ (pos size)) o ≡ Some value → Spells (45 ∷ text) value
minus_spelled text None value is e = some_none value e
minus_spelled text (Some size) value is e =
    let same : neg_ℤ (pos size) ≡ value = cc in
    subst (Spells (45 ∷ text)) same (Spells-minus (45 ∷ text) text size refl (SpellsSize-from text size is))

plain_spelled : (text : List ℕ) (o : Option ℕ) (value : ℤ) → size_of text ≡ o → option_map pos o ≡ Some value → Spells text value
plain_spelled text None value is e = some_none value e
plain_spelled text (Some size) value is e =
    let same : pos size ≡ value = cc in
    subst (Spells text) same (Spells-plain text size (SpellsSize-from text size is))

first_spelled : (b : ℕ) (text : List ℕ) (t : Bool) (value : ℤ) → (b == 45) ≡ t →
    (if t then option_map (λ size. neg_ℤ (pos size)) (size_of text) else option_map pos (size_of (b ∷ text))) ≡ Some value → Spells (b ∷ text) value
first_spelled b text true value is e = subst (λ (c : ℕ). Spells (c ∷ text) value) (sym (eqb-true b 45 is)) (minus_spelled text (size_of text) value refl e)
first_spelled b text false value is e = plain_spelled (b ∷ text) (size_of (b ∷ text)) value refl e

-- the function's value is spelled
pub Spells-from : (text : List ℕ) (value : ℤ) → decimal_of text ≡ Some value → Spells text value
Spells-from [] value e = some_none value e
Spells-from (b ∷ text) value e = first_spelled b text (b == 45) value refl e

-- a value without a sign begins with a digit
plain_value : (w : List ℕ) (f : Option (List ℕ)) → IsDigits w → IfSome f IsDigits → decimal_of (w ++ print_fraction f) ≡ Some (pos (digits_value 10 w * scale + scaled_fraction f))
plain_value [] f d e = absurd (omega (arith, d.1))
plain_value (c ∷ w) f d e =
    let text = c ∷ (w ++ print_fraction f) in
    let no = ne_eqb c 45 (λ same. omega (arith, ap digit_value same, d.0.0)) in
    ap (λ (t : Bool). if t then option_map (λ size. neg_ℤ (pos size)) (size_of (w ++ print_fraction f)) else option_map pos (size_of text)) no
    ∙ ap (option_map pos) (size_of-print (c ∷ w) f d e)

printed_value : (s : Bool) (w : List ℕ) (f : Option (List ℕ)) → IsDigits w → IfSome f IsDigits → decimal_of ((if s then 45 ∷ [] else []) ++ w ++ print_fraction f)
    ≡ Some (if s then neg_ℤ (pos (digits_value 10 w * scale + scaled_fraction f)) else pos (digits_value 10 w * scale + scaled_fraction f))
printed_value true w f d e = ap (option_map (λ size. neg_ℤ (pos size))) (size_of-print w f d e)
printed_value false w f d e = plain_value w f d e

-- the value that a text spells is the function's
pub decimal_of-spelled : (text : List ℕ) (value : ℤ) → Spells text value → decimal_of text ≡ Some value
decimal_of-spelled text value (n, is, parts, value_is) = ap decimal_of parts ∙ printed_value n.negative n.whole n.fraction is.0 is.1 ∙ ap Some value_is

-- a text that spells no value has none
none_if : (text : List ℕ) (o : Option ℤ) → decimal_of text ≡ o → ((value : ℤ) → Spells text value → ⊥) → o ≡ None
none_if text None is none = refl
none_if text (Some value) is none = absurd (none value (Spells-from text value is))

pub decimal_of-none : (text : List ℕ) → ((value : ℤ) → Spells text value → ⊥) → decimal_of text ≡ None
decimal_of-none text none = none_if text (decimal_of text) refl none
