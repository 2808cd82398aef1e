-- Worked examples of numbers and of prefixes, computed from the definitions.
use Rattle.std.proofs.Common.{◌≡◌, ◌≢◌, ℕ, ◌<◌, ◌≤◌, ℤ, pos, neg_ℤ, List, [], ◌∷◌, ◌++◌, length, get_or, Option, None, Some, true, false, refl, sym, ap, ◌∙◌, subst, arith, rules}
use Rattle.std.specs.Prelude.{codes, IfSome}
use Rattle.std.proofs.Math.Seq.{get_or-append_seam}
use Rattle.std.proofs.lemmas.List.{length-map}
use Rattle.std.specs.Char.{to_ascii_lowercase}
use Rattle.std.specs.Str.Parse.{AllDigits}
use Rattle.vsl_decimal.specs.Decimal.{IsDigits, Spells, print_fraction, integral_part, decimal_of}
use Rattle.vsl_decimal.specs.Prefix.{FollowsPrefix, IsValueAfter, value_after, trimmed}
use Rattle.vsl_decimal.specs.inside.Digits.{NoDigitFirst, BeginsWithDigits, SpellsFraction, SpellsSize}
use Rattle.vsl_decimal.proofs.DecimalLemmas.{no_number, no_number_minus, no_size, one_run, no_digit_fraction}

status : Spells (codes "200.9") (pos 200900000000000000000)
status = (record { negative = false; whole = codes "200"; fraction = Some (codes "9") }, search rules, refl, refl)

status_integral : integral_part (pos 200900000000000000000) ≡ pos 200
status_integral = refl

minus_half : Spells (codes "-0.5") (neg_ℤ (pos 500000000000000000))
minus_half = (record { negative = true; whole = codes "0"; fraction = Some (codes "5") }, search rules, refl, refl)

minus_half_integral : integral_part (neg_ℤ (pos 500000000000000000)) ≡ pos 0
minus_half_integral = refl

minus_two_and_half_integral : integral_part (neg_ℤ (pos 2500000000000000000)) ≡ neg_ℤ (pos 2)
minus_two_and_half_integral = refl

nothing : Spells (codes "0") (pos 0)
nothing = (record { negative = false; whole = codes "0"; fraction = None }, search rules, refl, refl)

decimal_of_status : decimal_of (codes "200.9") ≡ Some (pos 200900000000000000000)
decimal_of_status = refl

decimal_of_minus_half : decimal_of (codes "-0.5") ≡ Some (neg_ℤ (pos 500000000000000000))
decimal_of_minus_half = refl

decimal_of_two_periods : decimal_of (codes "1.2.3") ≡ None
decimal_of_two_periods = refl

decimal_of_exponent : decimal_of (codes "1e3") ≡ None
decimal_of_exponent = refl

minus_nothing : Spells (codes "-0") (pos 0)
minus_nothing = (record { negative = true; whole = codes "0"; fraction = None }, search rules, refl, refl)

leading_zeros : Spells (codes "007") (pos 7000000000000000000)
leading_zeros = (record { negative = false; whole = codes "007"; fraction = None }, search rules, refl, refl)

digits_18 : Spells (codes "123456789012345678") (pos 123456789012345678000000000000000000)
digits_18 = (record { negative = false; whole = codes "123456789012345678"; fraction = None }, search rules, refl, refl)

fraction_18 : Spells (codes "0.000000000000000001") (pos 1)
fraction_18 = (record { negative = false; whole = codes "0"; fraction = Some (codes "000000000000000001") }, search rules, refl, refl)

-- a text whose digits are none, or too many
not_digits : (text digits rest : List ℕ) → AllDigits 10 digits → NoDigitFirst rest → text ≡ digits ++ rest → (0 < length digits → length digits ≤ 18 → ⊥) →
    (size : ℕ) → SpellsSize text size → ⊥
not_digits text digits rest d ends parts bad size s =
    let same = one_run digits s.whole rest (print_fraction s.fraction) d s.are_digits.0 ends (no_digit_fraction s.fraction) (sym parts ∙ s.parts) in
    bad (omega (arith, ap length same.0, s.are_digits.1)) (omega (arith, ap length same.0, s.are_digits.2))

fraction_at : (fraction : Option (List ℕ)) (c : ℕ) (text : List ℕ) → IfSome fraction IsDigits → c ∷ text ≡ print_fraction fraction → (c ≡ 46) × IsDigits text
fraction_at None c text d e = absurd (omega (arith, ap length e))
fraction_at (Some digits) c text d e = let same : digits ≡ text = cc in (cc, subst IsDigits same d)

-- a text that is no fraction
not_fraction : (c : ℕ) (text : List ℕ) → (c ≡ 46 → IsDigits text → ⊥) → (value : ℕ) → SpellsFraction (c ∷ text) value → ⊥
not_fraction c text bad value s = let at = fraction_at s.fraction c text s.are_digits s.parts in bad at.0 at.1

no_sign : (c : ℕ) (text : List ℕ) → c ≢ 45 → (rest : List ℕ) → c ∷ text ≢ 45 ∷ rest
no_sign c text h rest e = h (cc)

one : (rest : List ℕ) → NoDigitFirst rest → BeginsWithDigits (49 ∷ rest) 1 1 rest
one rest ends = record { digits = codes "1"; are_digits = search rules; ends = ends; parts = refl; value_is = refl; count_is = refl }

digits_19 : (value : ℤ) → Spells (codes "1234567890123456789") value → ⊥
digits_19 = no_number _ (no_sign _ _ (omega arith)) (not_digits _ (codes "1234567890123456789") [] (search rules) tt refl (λ some few. omega (arith, few)))

exponent : (value : ℤ) → Spells (codes "1e3") value → ⊥
exponent = no_number _ (no_sign _ _ (omega arith)) (no_size _ 1 1 (codes "e3") (one (codes "e3") (omega arith)) (not_fraction _ _ (λ e d. omega (arith, e))))

bare_period : (value : ℤ) → Spells (codes "1.") value → ⊥
bare_period = no_number _ (no_sign _ _ (omega arith)) (no_size _ 1 1 (codes ".") (one (codes ".") (omega arith)) (not_fraction _ _ (λ e d. omega (arith, d.1))))

space_behind : (value : ℤ) → Spells (codes "1 ") value → ⊥
space_behind = no_number _ (no_sign _ _ (omega arith)) (no_size _ 1 1 (codes " ") (one (codes " ") (omega arith)) (not_fraction _ _ (λ e d. omega (arith, e))))

no_whole : (value : ℤ) → Spells (codes ".5") value → ⊥
no_whole = no_number _ (no_sign _ _ (omega arith)) (not_digits _ [] (codes ".5") tt (omega arith) refl (λ some few. omega (arith, some)))

plus : (value : ℤ) → Spells (codes "+1") value → ⊥
plus = no_number _ (no_sign _ _ (omega arith)) (not_digits _ [] (codes "+1") tt (omega arith) refl (λ some few. omega (arith, some)))

empty : (value : ℤ) → Spells [] value → ⊥
empty = no_number [] (λ rest e. omega (arith, ap length e)) (not_digits [] [] [] tt tt refl (λ some few. omega (arith, some)))

bare_minus : (value : ℤ) → Spells (codes "-") value → ⊥
bare_minus = no_number_minus (codes "-") [] refl (not_digits [] [] [] tt tt refl (λ some few. omega (arith, some)))

host : IsValueAfter (codes "host") (codes "Host: a") (codes "a")
host = (codes " a", (codes "Host", refl, refl), (codes " ", search rules, refl, refl))

value_after_host : value_after (codes "host") (codes "Host:  a b ") ≡ Some (codes "a b ")
value_after_host = refl

no_value_after_host : value_after (codes "host") (codes "Hosts: a") ≡ None
no_value_after_host = refl

trimmed_number : trimmed (codes " 200.9  ") ≡ codes "200.9"
trimmed_number = refl

trimmed_blanks : trimmed (codes "  ") ≡ []
trimmed_blanks = refl

host_of_nothing : IsValueAfter (codes "host") (codes "Host:") []
host_of_nothing = ([], (codes "Host", refl, refl), ([], search rules, tt, refl))

-- where the colon stands
colon_at : (prefix text behind : List ℕ) → FollowsPrefix prefix text behind → get_or text (length prefix) 0 ≡ 58
colon_at prefix text behind (name, same, parts) =
    let long : length prefix ≡ length name = sym (length-map prefix to_ascii_lowercase) ∙ sym (ap length same) ∙ length-map name to_ascii_lowercase in
    rw (parts, long) (get_or-append_seam name 58 behind 0)

no_colon : (behind : List ℕ) → FollowsPrefix (codes "host") (codes "Host a") behind → ⊥
no_colon behind h = let at = colon_at (codes "host") (codes "Host a") behind h in omega (arith, at)
