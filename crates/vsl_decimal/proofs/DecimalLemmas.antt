-- Runs of digits at the beginning of a text, and that a text is at most one numeral.
use Rattle.std.proofs.Common.{◌≡◌, ◌≢◌, ℕ, ◌+◌, ◌-◌, ◌*◌, ◌^◌, ◌<◌, ◌≤◌, Bool, true, false, List, [], ◌∷◌, ◌++◌, length, take, get_or, append-nil, pow-add, ℤ, pos, neg_ℤ, Option, Some, None, refl, sym, ap, ◌∙◌, subst, arith}
use Rattle.std.specs.Prelude.{IfNone, IfSome, if◌then◌else◌}
use Rattle.std.specs.Char.{digit_value}
use Rattle.std.specs.Str.Parse.{AllDigits, digits_value}
use Rattle.std.proofs.lemmas.Int.Digits.{digits_value_more, digits_more, digits_value-lt}
use Rattle.std.proofs.lemmas.List.{length-take-le}
use Rattle.std.proofs.Math.Nat.{pow-le-pow_right, one-le-pow, mul-le-mul_right}
use Rattle.vsl_decimal.specs.Decimal.{IsDigits, Spells, print_fraction, scaled_fraction, scaled_value}
use Rattle.vsl_decimal.specs.inside.Digits.{NoDigitFirst, BeginsWithDigits, SpellsFraction, SpellsSize}

-- the bytes before the count are digits, and the value is theirs
pub record AreRead (text : List ℕ) (count value : ℕ) : Type 0 where
  pub within : count ≤ length text
  pub few : count ≤ 18
  pub digits : AllDigits 10 (take count text)
  pub value_is : digits_value 10 (take count text) ≡ value

-- a digit's value
pub digit_is : (b : ℕ) → 48 ≤ b → b ≤ 57 → digit_value b ≡ b - 48
digit_is b low high = grind arith

-- one digit more
pub AreRead-more : (text : List ℕ) (count value : ℕ) → AreRead text count value → count < length text → count ≢ 18 →
    48 ≤ get_or text count 0 → get_or text count 0 ≤ 57 → AreRead text (count + 1) (value * 10 + (get_or text count 0 - 48))
AreRead-more text count value read within few low high =
    let is = digit_is _ low high in
    record {
      within = omega arith;
      few = omega (arith, read.few);
      digits = digits_more 10 text count within read.digits (omega (arith, is));
      value_is = digits_value_more 10 text count within ∙ omega (arith, read.value_is, is);
    }

-- the value of fewer than 18 digits
pub are_read_below : (text : List ℕ) (count value : ℕ) → AreRead text count value → count ≢ 18 → value < 10 ^ 17
are_read_below text count value read few =
    let below : digits_value 10 (take count text) < 10 ^ length (take count text) = digits_value-lt 10 (take count text) read.digits in
    let long = length-take-le count text read.within in
    omega (arith, read.value_is, rw long at below, pow-le-pow_right {n = 10} (omega arith) {i = count} {j = 17} (omega (arith, read.few)))

-- a text has one run of digits
pub one_run : (a b r s : List ℕ) → AllDigits 10 a → AllDigits 10 b → NoDigitFirst r → NoDigitFirst s → a ++ r ≡ b ++ s → (a ≡ b) × (r ≡ s)
one_run [] [] r s da db nr ns e = (refl, e)
one_run [] (c ∷ b) r s da db nr ns e = let h : NoDigitFirst (c ∷ (b ++ s)) = subst NoDigitFirst e nr in absurd (omega (arith, h, db.0))
one_run (c ∷ a) [] r s da db nr ns e = let h : NoDigitFirst (c ∷ (a ++ r)) = subst NoDigitFirst (sym e) ns in absurd (omega (arith, h, da.0))
one_run (c ∷ a) (d ∷ b) r s da db nr ns e = let more = one_run a b r s da.1 db.1 nr ns (cc) in (cc, more.1)

-- a fraction begins with no digit
pub no_digit_fraction : (fraction : Option (List ℕ)) → NoDigitFirst (print_fraction fraction)
no_digit_fraction None = tt
no_digit_fraction (Some digits) = omega arith

-- a numeral begins with its run of digits, and so has no other fraction than the rest
pub no_size : (text : List ℕ) (value count : ℕ) (rest : List ℕ) → BeginsWithDigits text value count rest →
    ((v : ℕ) → SpellsFraction rest v → ⊥) → (size : ℕ) → SpellsSize text size → ⊥
no_size text value count rest begins none size spells =
    let same = one_run begins.digits spells.whole rest (print_fraction spells.fraction) begins.are_digits.0 spells.are_digits.0
    begins.ends (no_digit_fraction spells.fraction) (sym begins.parts ∙ spells.parts) in
    none (scaled_fraction spells.fraction) (record { fraction = spells.fraction; are_digits = spells.is_fraction; parts = same.1; value_is = refl })

-- digits that something follows are not all digits
pub not_all_digits : (text : List ℕ) (value count : ℕ) (rest : List ℕ) → BeginsWithDigits text value count rest → 0 < length rest → IsDigits text → ⊥
not_all_digits text value count rest begins more digits =
    let same = one_run begins.digits text rest [] begins.are_digits.0 digits.0 begins.ends tt (sym begins.parts ∙ sym (append-nil text)) in
    omega (arith, more, ap length same.1)

-- the value of digits is below one with as many zeros
pub begins_below : (text : List ℕ) (value count : ℕ) (rest : List ℕ) → BeginsWithDigits text value count rest → (count ≤ 18) × (value < 10 ^ count)
begins_below text value count rest begins =
    let below = digits_value-lt 10 begins.digits begins.are_digits.0 in
    (omega (arith, begins.count_is, begins.are_digits.2), rw (← begins.value_is, ← begins.count_is) below)

-- a fraction is below one
pub fraction_below : (value count : ℕ) → count ≤ 18 → value < 10 ^ count → value * 10 ^ (18 - count) < 10 ^ 18
fraction_below value count few below =
    let split : 10 ^ 18 ≡ 10 ^ count * 10 ^ (18 - count) = ap (λ k. 10 ^ k) (let e : 18 ≡ count + (18 - count) = omega arith in e) ∙ pow-add 10 count (18 - count) in
    let some = one-le-pow (18 - count) 10 (omega arith) in
    let more = mul-le-mul_right (10 ^ (18 - count)) below in
    omega (arith, split, some, more)

-- a size without a sign, and with one
pub Spells-plain : (text : List ℕ) (size : ℕ) → SpellsSize text size → Spells text (pos size)
Spells-plain text size s = (record { negative = false; whole = s.whole; fraction = s.fraction }, (s.are_digits, s.is_fraction), s.parts, ap pos s.value_is)

pub Spells-minus : (text rest : List ℕ) (size : ℕ) → text ≡ 45 ∷ rest → SpellsSize rest size → Spells text (neg_ℤ (pos size))
Spells-minus text rest size e s = (record { negative = true; whole = s.whole; fraction = s.fraction }, (s.are_digits, s.is_fraction), e ∙ ap (λ (xs : List ℕ). 45 ∷ xs) s.parts, ap (λ x. neg_ℤ (pos x)) s.value_is)

-- digits don't begin with a minus sign
no_minus : (digits more rest : List ℕ) → IsDigits digits → digits ++ more ≡ 45 ∷ rest → ⊥
no_minus [] more rest d e = omega (arith, d.1)
no_minus (c ∷ digits) more rest d e = let is : c ≡ 45 = cc in omega (arith, ap digit_value is, d.0.0)

-- what is no size behind a minus sign is no number
not_minus : (negative : Bool) (whole : List ℕ) (fraction : Option (List ℕ)) (rest : List ℕ) → IsDigits whole → IfSome fraction IsDigits →
    45 ∷ rest ≡ (if negative then 45 ∷ [] else []) ++ whole ++ print_fraction fraction → ((size : ℕ) → SpellsSize rest size → ⊥) → ⊥
not_minus true whole fraction rest d f e none = none _ (record { whole = whole; fraction = fraction; are_digits = d; is_fraction = f; parts = cc; value_is = refl })
not_minus false whole fraction rest d f e none = no_minus whole (print_fraction fraction) rest d (sym e)

pub no_number_minus : (text rest : List ℕ) → text ≡ 45 ∷ rest → ((size : ℕ) → SpellsSize rest size → ⊥) → (value : ℤ) → Spells text value → ⊥
no_number_minus text rest minus none value (n, is, parts, value_is) = not_minus n.negative n.whole n.fraction rest is.0 is.1 (sym minus ∙ parts) none

-- what is no size and begins with no minus sign is no number
not_plain : (negative : Bool) (whole : List ℕ) (fraction : Option (List ℕ)) (text : List ℕ) → IsDigits whole → IfSome fraction IsDigits →
    text ≡ (if negative then 45 ∷ [] else []) ++ whole ++ print_fraction fraction → ((rest : List ℕ) → text ≢ 45 ∷ rest) → ((size : ℕ) → SpellsSize text size → ⊥) → ⊥
not_plain true whole fraction text d f e plain none = plain _ e
not_plain false whole fraction text d f e plain none = none _ (record { whole = whole; fraction = fraction; are_digits = d; is_fraction = f; parts = e; value_is = refl })

pub no_number : (text : List ℕ) → ((rest : List ℕ) → text ≢ 45 ∷ rest) → ((size : ℕ) → SpellsSize text size → ⊥) → (value : ℤ) → Spells text value → ⊥
no_number text plain none value (n, is, parts, value_is) = not_plain n.negative n.whole n.fraction text is.0 is.1 parts plain none

-- a fraction behind its period
pub SpellsFraction-period : (o : Option ℕ) (text rest : List ℕ) → text ≡ 46 ∷ rest → IfSome o (λ value. IsDigits rest × (scaled_fraction (Some rest) ≡ value)) → IfSome o (SpellsFraction text)
SpellsFraction-period None text rest e h = tt
SpellsFraction-period (Some value) text rest e h = record { fraction = Some rest; are_digits = h.0; parts = e; value_is = h.1 }

-- a fraction has one text
one_fraction : (f g : Option (List ℕ)) → print_fraction f ≡ print_fraction g → f ≡ g
one_fraction None None e = refl
one_fraction None (Some digits) e = absurd (omega (arith, ap length e))
one_fraction (Some digits) None e = absurd (omega (arith, ap length e))
one_fraction (Some digits) (Some more) e = let same : digits ≡ more = cc in ap Some same

-- digits and a fraction have one text
one_size : (a b : List ℕ) (f g : Option (List ℕ)) → IsDigits a → IsDigits b → a ++ print_fraction f ≡ b ++ print_fraction g → (a ≡ b) × (f ≡ g)
one_size a b f g da db e =
    let same = one_run a b (print_fraction f) (print_fraction g) da.0 db.0 (no_digit_fraction f) (no_digit_fraction g) e in
    (same.0, one_fraction f g same.1)

-- a numeral has one text
one_numeral : (s t : Bool) (a b : List ℕ) (f g : Option (List ℕ)) → IsDigits a → IsDigits b →
    (if s then 45 ∷ [] else []) ++ a ++ print_fraction f ≡ (if t then 45 ∷ [] else []) ++ b ++ print_fraction g → (s ≡ t) × (a ≡ b) × (f ≡ g)
one_numeral true true a b f g da db e = let same = one_size a b f g da db (cc) in (refl, same.0, same.1)
one_numeral true false a b f g da db e = absurd (no_minus b (print_fraction g) _ db (sym e))
one_numeral false true a b f g da db e = absurd (no_minus a (print_fraction f) _ da e)
one_numeral false false a b f g da db e = let same = one_size a b f g da db e in (refl, same.0, same.1)

-- the value of a sign and parts
abbrev signed : Bool → List ℕ → Option (List ℕ) → ℤ
signed s w f = scaled_value (record { negative = s; whole = w; fraction = f })

-- a text spells one value
pub one_value : (text : List ℕ) (a b : ℤ) → Spells text a → Spells text b → a ≡ b
one_value text a b (n, is, parts, value_is) (m, js, more, other_is) =
    let same = one_numeral n.negative m.negative n.whole m.whole n.fraction m.fraction is.0 js.0 (sym parts ∙ more) in
    sym value_is ∙ ap (λ (s : Bool). signed s n.whole n.fraction) same.0 ∙ ap (λ (w : List ℕ). signed m.negative w n.fraction) same.1
    ∙ ap (λ (f : Option (List ℕ)). signed m.negative m.whole f) same.2 ∙ other_is

-- what is said of no value holds at any option
pub if_none : {T P : Type 0} → (o : Option T) → P → IfNone o P
if_none None p = p
if_none (Some x) p = tt

-- there is a value, or none
pub some_none : {T P : Type 0} → (x : T) → None ≡ Some x → P
some_none x e = absurd (cc)
