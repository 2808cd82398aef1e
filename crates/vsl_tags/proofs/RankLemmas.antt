-- The ranks of tags compare as their names do.
use Rattle.std.proofs.Common.{◌≡◌, ℕ, zero, suc, ◌-◌, ◌<◌, ◌≤◌, Bool, true, false, cond, List, [], ◌∷◌, length, map, get_or, filter, Less, Equal, Greater, nat_cmp, is_lt, refl, sym, ap, ◌∙◌, arith}
use Rattle.std.specs.Cmp.Lexicographic.{slice_cmp, bytes_decides}
use Rattle.std.specs.Ordering.{ordering_reverse, is_eq}
use Rattle.std.specs.declared.cmp.Ordering.{Ordering}
use Rattle.std.proofs.lemmas.Bool.Decides.{nat_tests}
use Rattle.std.proofs.lemmas.Cmp.{nat_list_cmp_total}
use Rattle.std.proofs.lemmas.List.{get_or-map}
use Rattle.std.proofs.lemmas.Map.Text.{is_eq-slice_cmp}
use Rattle.vsl_tags.specs.Tags.{IsTag, tag_name, tag_names, tag_rank}

-- whether the first name comes before the second
abbrev before : List ℕ → List ℕ → Bool
before name other = is_lt (slice_cmp nat_cmp name other)

less_from : (o : Ordering) → is_lt o ≡ true → o ≡ Less
less_from Less e = refl
less_from Equal e = absurd cc
less_from Greater e = absurd cc

-- no name comes before itself
itself : (name : List ℕ) → before name name ≡ false
itself name = of_order (slice_cmp nat_cmp name name) (nat_list_cmp_total.antisymm name name)
  where
    of_order : (o : Ordering) → o ≡ ordering_reverse o → is_lt o ≡ false
    of_order Less e = absurd cc
    of_order Equal e = refl
    of_order Greater e = refl

-- of those that a test takes, none is missing where another takes all of them
more : (p q : List ℕ → Bool) → ((x : List ℕ) → p x ≡ true → q x ≡ true) → (xs : List (List ℕ)) → length (filter p xs) ≤ length (filter q xs)
more p q weaker [] = omega arith
more p q weaker (x ∷ xs) = of_tests (p x) (q x) (weaker x) (more p q weaker xs)
  where
    of_tests : (a b : Bool) → (a ≡ true → b ≡ true) → length (filter p xs) ≤ length (filter q xs) → length (cond a (x ∷ filter p xs) (filter p xs)) ≤ length (cond b (x ∷ filter q xs) (filter q xs))
    of_tests true true w le = omega (arith, le)
    of_tests true false w le = absurd (let h = w refl in cc)
    of_tests false true w le = omega (arith, le)
    of_tests false false w le = le

-- and there are more where the other takes one that the first does not
more_by : (p q : List ℕ → Bool) → ((x : List ℕ) → p x ≡ true → q x ≡ true) → (xs : List (List ℕ)) (i : ℕ) → i < length xs → p (get_or xs i []) ≡ false → q (get_or xs i []) ≡ true → length (filter p xs) < length (filter q xs)
more_by p q weaker [] i within misses takes = absurd (omega (arith, within))
more_by p q weaker (x ∷ xs) zero within misses takes = rw (misses, takes) (omega (arith, more p q weaker xs))
more_by p q weaker (x ∷ xs) (suc i) within misses takes = of_tests (p x) (q x) (weaker x) (more_by p q weaker xs i (omega (arith, within)) misses takes)
  where
    of_tests : (a b : Bool) → (a ≡ true → b ≡ true) → length (filter p xs) < length (filter q xs) → length (cond a (x ∷ filter p xs) (filter p xs)) < length (cond b (x ∷ filter q xs) (filter q xs))
    of_tests true true w lt = omega (arith, lt)
    of_tests true false w lt = absurd (let h = w refl in cc)
    of_tests false true w lt = omega (arith, lt)
    of_tests false false w lt = lt

-- a name that comes before another has the lower rank
lower : (m n : ℕ) → IsTag m → slice_cmp nat_cmp (tag_name m) (tag_name n) ≡ Less → tag_rank m < tag_rank n
unfolding tag_rank
lower m n tag less =
    more_by (λ name. before name (tag_name m)) (λ name. before name (tag_name n)) (λ x e. ap is_lt (nat_list_cmp_total.trans x (tag_name m) (tag_name n) (less_from _ e) less)) tag_names (m - 1) (omega arith) (itself (tag_name m)) (ap is_lt less)

cmp_less : (a b : ℕ) → a < b → nat_cmp a b ≡ Less
cmp_less a b lt = grind (arith, nat_tests)

cmp_greater : (a b : ℕ) → b < a → nat_cmp a b ≡ Greater
cmp_greater a b lt = grind (arith, nat_tests)

cmp_same : (a b : ℕ) → a ≡ b → nat_cmp a b ≡ Equal
cmp_same a b e = grind (arith, nat_tests)

same_name : (a b : List ℕ) → slice_cmp nat_cmp a b ≡ Equal → a ≡ b
same_name a b e = (bytes_decides a b).0 (sym (is_eq-slice_cmp a b) ∙ ap is_eq e)

-- how many tags have names that come before this one
abbrev names_before : List ℕ → ℕ
names_before name = length (filter (λ other. before other name) tag_names)

-- one name has one rank
same_rank : (m n : ℕ) → tag_name m ≡ tag_name n → tag_rank m ≡ tag_rank n
unfolding tag_rank
same_rank m n names = ap names_before names

pub ranked_as_named : (m n : ℕ) → IsTag m → IsTag n → nat_cmp (tag_rank m) (tag_rank n) ≡ slice_cmp nat_cmp (tag_name m) (tag_name n)
ranked_as_named m n at_m at_n = of_order (slice_cmp nat_cmp (tag_name m) (tag_name n)) refl
  where
    of_order : (o : Ordering) → slice_cmp nat_cmp (tag_name m) (tag_name n) ≡ o → nat_cmp (tag_rank m) (tag_rank n) ≡ o
    of_order Less e = cmp_less _ _ (lower m n at_m e)
    of_order Equal e = cmp_same _ _ (same_rank m n (same_name _ _ e))
    of_order Greater e = cmp_greater _ _ (lower n m at_n (nat_list_cmp_total.antisymm (tag_name n) (tag_name m) ∙ ap ordering_reverse e))

-- a tag's rank, in the table of all
pub rank_at : (n : ℕ) → IsTag n → get_or (map names_before tag_names) (n - 1) 0 ≡ tag_rank n
unfolding tag_rank
rank_at n tag = get_or-map names_before tag_names (n - 1) [] 0 (omega arith)
