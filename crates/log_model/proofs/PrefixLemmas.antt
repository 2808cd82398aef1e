-- The laws of prefixes.
use Rattle.std.proofs.Common.{◌≡◌, ◌<◌, ◌≤◌, List, [], ◌++◌, length, length-append, take, refl, sym, ap, ◌∙◌, append_assoc, arith}
use Rattle.std.proofs.lemmas.List.{append-nil, take_at}
use Rattle.log_model.specs.Prefix.{IsPrefix, IsProperPrefix}

-- what is empty is a prefix of everything
pub prefix_nil : {A : Type 0} (xs : List A) → IsPrefix [] xs
prefix_nil xs = record { rest = xs; is = refl }

-- a list is a prefix of itself
pub prefix_same : {A : Type 0} (xs : List A) → IsPrefix xs xs
prefix_same xs = record { rest = []; is = sym (append-nil xs) }

-- a list is a prefix of what goes on after it
pub prefix_append : {A : Type 0} (xs ys : List A) → IsPrefix xs (xs ++ ys)
prefix_append xs ys = record { rest = ys; is = refl }

-- the same, where an equation says what goes on after it
pub prefix_by : {A : Type 0} (xs ys zs : List A) → ys ≡ xs ++ zs → IsPrefix xs ys
prefix_by xs ys zs e = record { rest = zs; is = e }

-- a list is a prefix of one that is equal to it
pub prefix_equal : {A : Type 0} {xs ys : List A} → ys ≡ xs → IsPrefix xs ys
prefix_equal {xs = xs} e = record { rest = []; is = e ∙ sym (append-nil xs) }

-- a prefix of a prefix is one
pub prefix_then : {A : Type 0} {xs ys zs : List A} → IsPrefix xs ys → IsPrefix ys zs → IsPrefix xs zs
prefix_then {xs = xs} p q = record { rest = p.rest ++ q.rest; is = q.is ∙ ap (λ l. l ++ q.rest) p.is ∙ append_assoc xs p.rest q.rest }

-- the same, where the first is one by an equation
pub prefix_past : {A : Type 0} (xs ys zs x : List A) → ys ≡ xs ++ x → IsPrefix ys zs → IsPrefix xs zs
prefix_past xs ys zs x e q = prefix_then (prefix_by xs ys x e) q

-- what steps that only add to a list leave of it
pub ruleset adding = (prefix_then, prefix_by, prefix_equal, prefix_past)

-- what was added to a list is cut off
pub cut_back : {A : Type 0} (xs ys : List A) → IsPrefix xs ys → take (length xs) ys ≡ xs
cut_back xs ys p = ap (λ l. take (length xs) l) p.is ∙ take_at xs p.rest (length xs) refl

-- prefixes stay so after the same list
pub prefix_after : {A : Type 0} (prefix : List A) {xs ys : List A} → IsPrefix xs ys → IsPrefix (prefix ++ xs) (prefix ++ ys)
prefix_after prefix {xs = xs} p = record { rest = p.rest; is = ap (λ l. prefix ++ l) p.is ∙ sym (append_assoc prefix xs p.rest) }

-- a prefix is no longer than the list
pub prefix_length : {A : Type 0} {xs ys : List A} → IsPrefix xs ys → length xs ≤ length ys
prefix_length {xs = xs} p = omega (arith, ap length p.is, length-append xs p.rest)

-- a proper prefix of a prefix is a proper one
pub proper_then : {A : Type 0} {xs ys zs : List A} → IsProperPrefix xs ys → IsPrefix ys zs → IsProperPrefix xs zs
proper_then p q = record { prefix = prefix_then p.prefix q; shorter = omega (arith, p.shorter, prefix_length q) }

-- proper prefixes stay so after the same list
pub proper_after : {A : Type 0} (prefix : List A) {xs ys : List A} → IsProperPrefix xs ys → IsProperPrefix (prefix ++ xs) (prefix ++ ys)
proper_after prefix {xs = xs} {ys = ys} p = record { prefix = prefix_after prefix p.prefix; shorter = omega (arith, p.shorter, length-append prefix xs, length-append prefix ys) }

-- a list is a proper prefix of what goes on after it with something
pub proper_append : {A : Type 0} (xs ys : List A) → 0 < length ys → IsProperPrefix xs (xs ++ ys)
proper_append xs ys some = record { prefix = prefix_append xs ys; shorter = omega (arith, some, length-append xs ys) }
