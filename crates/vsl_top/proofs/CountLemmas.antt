-- How often keys were counted.
use Rattle.std.proofs.Common.{◌≡◌, ◌+◌, ℕ, zero, suc, Bool, true, false, cond, List, [], ◌∷◌, ◌++◌, length, filter, None, Some, slice_get, refl, sym, ap, ◌∙◌, arith, add-one, subst}
use Rattle.std.specs.Map.{lookup, lookup_key}
use Rattle.indexmap.specs.IndexMap.{IsUnique, Updates, get, keys, with_value_at}
use Rattle.indexmap.proofs.CallerLemmas.{keys-with_value_at, updates-with_value_at}
use Rattle.vsl_top.specs.Report.{Key, is_same, count_of}
use Rattle.vsl_top.specs.Counting.{AreCounted, some_count}
use Rattle.vsl_top.specs.declared.counts.Counts.{Counts}
use Rattle.vsl_top.specs.inside.Keys.{same_key, same_equiv}

pub by_cases : (P : Type 0) (b : Bool) → (b ≡ true → P) → (b ≡ false → P) → P
by_cases P true yes_case no_case = yes_case refl
by_cases P false yes_case no_case = no_case refl

-- a key more is counted once more, and each other as before
count_push : (key k : Key) (keys : List Key) → count_of key (keys ++ k ∷ []) ≡ cond (is_same key k) (count_of key keys + 1) (count_of key keys)
count_push key k [] = of_test (is_same key k)
  where
    of_test : (b : Bool) → length (cond b (k ∷ []) []) ≡ cond b 1 0
    of_test true = refl
    of_test false = refl
count_push key k (x ∷ keys) = of_test (is_same key x) (is_same key k) (count_push key k keys)
  where
    of_test : (a b : Bool) → count_of key (keys ++ k ∷ []) ≡ cond b (count_of key keys + 1) (count_of key keys)
        → length (cond a (x ∷ filter (is_same key) (keys ++ k ∷ [])) (filter (is_same key) (keys ++ k ∷ [])))
        ≡ cond b (length (cond a (x ∷ filter (is_same key) keys) (filter (is_same key) keys)) + 1) (length (cond a (x ∷ filter (is_same key) keys) (filter (is_same key) keys)))
    of_test true true e = omega (arith, e)
    of_test true false e = omega (arith, e)
    of_test false true e = e
    of_test false false e = e

some_count_more : (n : ℕ) → some_count (n + 1) ≡ Some (n + 1)
some_count_more n = rw (add-one) refl

count_from_none : (n : ℕ) → some_count n ≡ None → n ≡ 0
count_from_none zero e = refl
count_from_none (suc n) e = absurd (cc)

count_from_some : (n m : ℕ) → some_count n ≡ Some m → n ≡ m
count_from_some zero m e = absurd (cc)
count_from_some (suc n) m e = cc

-- a key that was given one count more was counted once more
counted_more : (keys : List Key) (old new : Counts) (k : Key) (w : ℕ) → AreCounted keys old → w ≡ count_of k keys + 1 → Updates is_same old.map new.map k (Some w) → IsUnique is_same new.map
    → AreCounted (keys ++ k ∷ []) new
counted_more keys old new k w so_far is updates unique = record { each = λ key. updates.0 key ∙ here key; unique = unique }
  where
    here : (key : Key) → cond (is_same k key) (Some w) (get is_same old.map key) ≡ some_count (count_of key (keys ++ k ∷ []))
    here key = by_cases _ (is_same k key)
        (λ t. rw (t, count_push key k keys, same_equiv.symm key k, t, some_count_more (count_of key keys), ← same_key k key t) (ap Some is))
        (λ t. rw (t, count_push key k keys, same_equiv.symm key k, t) (so_far.each key))

-- a key that is new was counted once
pub counted_new : (keys : List Key) (old new : Counts) (k stored : Key) → AreCounted keys old → get is_same old.map k ≡ None → stored ≡ k → Updates is_same old.map new.map stored (Some 1)
    → IsUnique is_same new.map → AreCounted (keys ++ k ∷ []) new
counted_new keys old new k stored so_far none is updates unique =
    counted_more keys old new k 1 so_far (omega (arith, count_from_none (count_of k keys) (sym (so_far.each k) ∙ none))) (subst (λ (key : Key). Updates is_same old.map new.map key (Some 1)) is updates) unique

-- the key that is found passes the test
key_passes : {X : Type 0} (test : Key → Bool) (entries : List (Key × X)) (k : Key) → lookup_key test entries ≡ Some k → test k ≡ true
key_passes test [] k found = absurd (cc)
key_passes test (e ∷ entries) k found = by_cases _ (test e.0)
    (λ t. let same : e.0 ≡ k = (let h = rw t at found in cc) in ap test (sym same) ∙ t)
    (λ t. key_passes test entries k (rw t at found))

-- a key that was counted before was counted once more
pub counted_again : (keys : List Key) (old new : Counts) (k stored : Key) (i n w : ℕ) → AreCounted keys old → lookup_key (is_same k) old.map.entries ≡ Some stored
    → lookup (is_same k) old.map.entries ≡ Some n → slice_get old.map.entries i ≡ Some (stored, n) → w ≡ n + 1 → new.map ≡ with_value_at old.map i w → AreCounted (keys ++ k ∷ []) new
counted_again keys old new k stored i n w so_far found has at w_is is =
    let same : stored ≡ k = sym (same_key k stored (key_passes (is_same k) old.map.entries stored found)) in
    let count : count_of k keys ≡ n = count_from_some _ _ (sym (so_far.each k) ∙ has) in
    counted_more keys old new k w so_far (omega (arith, w_is, count))
    (rw (is, ← same) (updates-with_value_at old.map i w same_equiv so_far.unique stored n at))
    (rw (is, keys-with_value_at old.map i w) so_far.unique)
