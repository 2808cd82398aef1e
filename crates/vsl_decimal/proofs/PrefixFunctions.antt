-- The function that takes what follows a prefix gives the value after it.
use Rattle.std.proofs.Common.{◌≡◌, ℕ, suc, ◌+◌, if◌then◌else◌, Bool, true, false, List, [], ◌∷◌, ◌++◌, length, drop, All, Option, Some, None, refl, sym, ap, ◌∙◌, subst, arith, eq-eqb, eqb-true}
use Rattle.std.specs.Char.{to_ascii_lowercase, eq_ignore_ascii_case}
use Rattle.std.proofs.lemmas.Bool.{and_from, and_parts}
use Rattle.std.proofs.lemmas.List.Elements.{All-head, All-tail}
use Rattle.vsl_decimal.specs.Field.{is_space}
use Rattle.vsl_decimal.specs.Prefix.{FollowsPrefix, IsSameCaseless, IsValueAfter, NoSpaceFirst, WithoutBlanks, is_named, value_after, without_spaces}
use Rattle.vsl_decimal.proofs.DecimalLemmas.{some_none}
use Rattle.vsl_decimal.proofs.PrefixLemmas.{WithoutBlanks-more, WithoutBlanks-none}

-- a text without its leading white space has none before it
first_skipped : (b : ℕ) (text : List ℕ) (t : Bool) → is_space b ≡ t → WithoutBlanks text (without_spaces text) → WithoutBlanks (b ∷ text) (if t then without_spaces text else b ∷ text)
first_skipped b text true is h = WithoutBlanks-more b text (without_spaces text) is h
first_skipped b text false is h = WithoutBlanks-none (b ∷ text) is

pub WithoutBlanks-from : (text : List ℕ) → WithoutBlanks text (without_spaces text)
WithoutBlanks-from [] = WithoutBlanks-none [] tt
WithoutBlanks-from (b ∷ text) = first_skipped b text (is_space b) refl (WithoutBlanks-from text)

-- white space before a text goes, and nothing of a text that doesn't begin with it
pub without_spaces-cons : (b : ℕ) (text : List ℕ) → is_space b ≡ true → without_spaces (b ∷ text) ≡ without_spaces text
without_spaces-cons b text e = ap (λ (t : Bool). if t then without_spaces text else b ∷ text) e

pub without_spaces-keep : (text : List ℕ) → NoSpaceFirst text → without_spaces text ≡ text
without_spaces-keep [] h = refl
without_spaces-keep (b ∷ text) h = ap (λ (t : Bool). if t then without_spaces text else b ∷ text) h

-- a text has one part behind its leading white space
blanks_skipped : (blanks value : List ℕ) → All (λ b. is_space b ≡ true) blanks → NoSpaceFirst value → without_spaces (blanks ++ value) ≡ value
blanks_skipped [] value h ends = without_spaces-keep value ends
blanks_skipped (b ∷ blanks) value h ends =
    without_spaces-cons b (blanks ++ value) (All-head (λ x. is_space x ≡ true) b blanks h) ∙ blanks_skipped blanks value (All-tail (λ x. is_space x ≡ true) b blanks h) ends

pub without_spaces-of : (text value : List ℕ) → WithoutBlanks text value → without_spaces text ≡ value
without_spaces-of text value (blanks, h, ends, parts) = ap without_spaces parts ∙ blanks_skipped blanks value h ends

-- a byte that is a colon in any case is one
is_colon : (b : ℕ) → to_ascii_lowercase b ≡ 58 → b ≡ 58
is_colon b e = grind arith

-- as many bytes less of a text less its first
drop-first : (n b : ℕ) (text : List ℕ) → drop (suc n + 1) (b ∷ text) ≡ drop (n + 1) text
drop-first n b text = let next : suc n + 1 ≡ suc (n + 1) = omega arith in ap (λ (k : ℕ). drop k (b ∷ text)) next

-- a name before a colon is the prefix in any case
is_named-at : (prefix name behind : List ℕ) → IsSameCaseless name prefix → (is_named prefix (name ++ 58 ∷ behind) ≡ true) × (drop (length prefix + 1) (name ++ 58 ∷ behind) ≡ behind)
is_named-at [] [] behind same = (refl, refl)
is_named-at [] (c ∷ name) behind same = absurd (omega (arith, ap length same))
is_named-at (p ∷ prefix) [] behind same = absurd (omega (arith, ap length same))
is_named-at (p ∷ prefix) (c ∷ name) behind same =
    let rest : IsSameCaseless name prefix = cc in
    let first : to_ascii_lowercase p ≡ to_ascii_lowercase c = cc in
    let more = is_named-at prefix name behind rest in
    (and_from _ _ (eq-eqb (to_ascii_lowercase p) (to_ascii_lowercase c) first) more.0, drop-first (length prefix) c (name ++ 58 ∷ behind) ∙ more.1)

-- what stands behind a name that is the prefix in any case, and a colon
FollowsPrefix-from : (prefix text : List ℕ) → is_named prefix text ≡ true → FollowsPrefix prefix text (drop (length prefix + 1) text)
FollowsPrefix-from [] [] e = absurd (cc)
FollowsPrefix-from [] (b ∷ text) e =
    let both = and_parts (eq_ignore_ascii_case 58 b) true e in
    ([], refl, ap (λ (c : ℕ). c ∷ text) (is_colon b (sym (eqb-true 58 (to_ascii_lowercase b) both.0))))
FollowsPrefix-from (p ∷ prefix) [] e = absurd (cc)
FollowsPrefix-from (p ∷ prefix) (b ∷ text) e =
    let both = and_parts (eq_ignore_ascii_case p b) (is_named prefix text) e in
    let more = FollowsPrefix-from prefix text both.1 in
    let first = eqb-true (to_ascii_lowercase p) (to_ascii_lowercase b) both.0 in
    let rest = more.1 in
    (b ∷ more.0, cc, ap (λ (xs : List ℕ). b ∷ xs) (more.2 ∙ ap (λ (xs : List ℕ). more.0 ++ 58 ∷ xs) (sym (drop-first (length prefix) b text))))

value_named : (prefix text value : List ℕ) (t : Bool) → is_named prefix text ≡ t →
    (if t then Some (without_spaces (drop (length prefix + 1) text)) else None) ≡ Some value → IsValueAfter prefix text value
value_named prefix text value false is e = some_none value e
value_named prefix text value true is e =
    let same : without_spaces (drop (length prefix + 1) text) ≡ value = cc in
    let behind = drop (length prefix + 1) text in
    (behind, FollowsPrefix-from prefix text is, subst (WithoutBlanks behind) same (WithoutBlanks-from behind))

-- the function's value is the value after the prefix
pub IsValueAfter-of : (prefix text value : List ℕ) → value_after prefix text ≡ Some value → IsValueAfter prefix text value
IsValueAfter-of prefix text value e = value_named prefix text value (is_named prefix text) refl e

-- a text that begins with the prefix has the value behind it
behind_is : (prefix text behind : List ℕ) → FollowsPrefix prefix text behind → value_after prefix text ≡ Some (without_spaces behind)
behind_is prefix text behind (name, same, parts) =
    let at = is_named-at prefix name behind same in
    ap (value_after prefix) parts
    ∙ ap (λ (t : Bool). if t then Some (without_spaces (drop (length prefix + 1) (name ++ 58 ∷ behind))) else None) at.0
    ∙ ap (λ (xs : List ℕ). Some (without_spaces xs)) at.1

-- the value after the prefix is the function's
pub value_after-is : (prefix text value : List ℕ) → IsValueAfter prefix text value → value_after prefix text ≡ Some value
value_after-is prefix text value (behind, follows, blanks) = behind_is prefix text behind follows ∙ ap Some (without_spaces-of behind value blanks)

-- where there is no value, nothing follows the prefix
pub no_prefix : (prefix text : List ℕ) → value_after prefix text ≡ None → (behind : List ℕ) → FollowsPrefix prefix text behind → ⊥
no_prefix prefix text e behind follows = some_none (without_spaces behind) (sym e ∙ behind_is prefix text behind follows)

-- where nothing follows the prefix, there is no value
none_if : (prefix text : List ℕ) (o : Option (List ℕ)) → value_after prefix text ≡ o → ((behind : List ℕ) → FollowsPrefix prefix text behind → ⊥) → o ≡ None
none_if prefix text None is none = refl
none_if prefix text (Some value) is none = absurd (none _ (IsValueAfter-of prefix text value is).1)

pub value_after-none : (prefix text : List ℕ) → ((behind : List ℕ) → FollowsPrefix prefix text behind → ⊥) → value_after prefix text ≡ None
value_after-none prefix text none = none_if prefix text (value_after prefix text) refl none
