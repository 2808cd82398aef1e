-- What the lines of a report add up to.
use Rattle.std.proofs.Common.{◌≡◌, ◌+◌, ◌<◌, ◌||◌, ℕ, zero, suc, Bool, true, false, cond, if◌then◌else◌, List, [], ◌∷◌, length, map, get_or, filter, is_some, refl, sym, ap, ◌∙◌, subst, arith}
use Rattle.std.specs.List.{All, AllByRecursion, IsDistinct, flat_map, list_any, sum_by}
use Rattle.std.specs.List.Sorted.{IsSortedBy}
use Rattle.std.proofs.lemmas.List.{length-map}
use Rattle.std.proofs.lemmas.List.Concat.{length-flat_map}
use Rattle.std.proofs.lemmas.List.Sums.{sum_by-cons}
use Rattle.txn_rows.specs.declared.group.Group.{Group}
use Rattle.vsl_select.specs.Showing.{Showing}
use Rattle.vsl_select.specs.Shown.{shown}
use Rattle.vsl_top.specs.Report.{Key, Line, is_same, key_of, keys_of, count_of, distinct, put_in, in_order, lines_of}
use Rattle.vsl_top.specs.Counting.{some_count}
use Rattle.vsl_top.specs.inside.Keys.{same_key, same_equiv}
use Rattle.vsl_top.proofs.CountLemmas.{by_cases}
use Rattle.vsl_top.proofs.OrderLemmas.{Each, Rises, any_counted, each_put, lt, rises_in_order}

-- the line of a key, by what counts it
abbrev line_for : (Key → ℕ) → Key → Line
line_for count key = record { count = count key; key = key }

-- a key more is counted once more, where it is this one
count_cons : (key k : Key) (keys : List Key) → count_of key (k ∷ keys) ≡ cond (is_same key k) 1 0 + count_of key keys
count_cons key k keys = of_test (is_same key k)
  where
    of_test : (b : Bool) → length (cond b (k ∷ filter (is_same key) keys) (filter (is_same key) keys)) ≡ cond b 1 0 + length (filter (is_same key) keys)
    of_test true = omega arith
    of_test false = omega arith

-- a key that stands first is counted
count_first : (k : Key) (keys : List Key) → count_of k (k ∷ keys) ≡ 1 + count_of k keys
count_first k keys = count_cons k k keys ∙ rw (same_equiv.refl k) refl

-- a key that is counted is found
some_found : (n : ℕ) → 0 < n → is_some (some_count n) ≡ true
some_found zero some = absurd (omega (arith, some))
some_found (suc n) some = refl

-- and one that isn't found is not counted
none_found : (n : ℕ) → is_some (some_count n) ≡ false → n ≡ 0
none_found zero e = refl
none_found (suc n) e = absurd (cc)

-- of two tests of which neither passes, none does
both_false : (a b : Bool) → (a || b) ≡ false → (a ≡ false) × (b ≡ false)
both_false true b e = absurd (cc)
both_false false b e = (refl, e)

-- ---- each key stands once

-- no line has the key of one after it
abbrev Once : List Line → Type 0
Once [] = Unit {0}
Once (l ∷ lines) = Each (λ m. is_same l.key m.key ≡ false) lines × Once lines

-- what is so of each line is so of each in order
each_in_order : (P : Line → Type 0) (lines : List Line) → Each P lines → Each P (in_order lines)
each_in_order P [] each = tt
each_in_order P (line ∷ lines) each = each_put P line (in_order lines) each.0 (each_in_order P lines each.1)

-- so it stays with a line of another key at its place
once_put : (line : Line) (lines : List Line) → Each (λ m. is_same line.key m.key ≡ false) lines → Once lines → Once (put_in line lines)
once_put line [] others once = (tt, tt)
once_put line (l ∷ lines) others once = of_test (lt l line) (once_put line lines others.1 once.1)
  where
    of_test : (b : Bool) → Once (put_in line lines) → Once (if b then l ∷ put_in line lines else line ∷ l ∷ lines)
    of_test true rest = (each_put (λ m. is_same l.key m.key ≡ false) line lines (same_equiv.symm l.key line.key ∙ others.0) once.0, rest)
    of_test false rest = (others, once)

-- and in order
once_in_order : (lines : List Line) → Once lines → Once (in_order lines)
once_in_order [] once = tt
once_in_order (line ∷ lines) once = once_put line (in_order lines) (each_in_order _ lines once.0) (once_in_order lines once.1)

-- a key that isn't among keys is no line's
each_other : (k : Key) (count : Key → ℕ) (keys : List Key) → list_any (is_same k) keys ≡ false → Each (λ m. is_same k m.key ≡ false) (map (line_for count) (distinct keys))
each_other k count [] none = tt
each_other k count (x ∷ keys) none =
    let apart = both_false (is_same k x) (list_any (is_same k) keys) none in
    by_cases _ (list_any (is_same x) keys)
    (λ again. rw again (each_other k count keys apart.1))
    (λ last. rw last (apart.0, each_other k count keys apart.1))

-- lines of keys, each once, have each key once
once_distinct : (count : Key → ℕ) (keys : List Key) → Once (map (line_for count) (distinct keys))
once_distinct count [] = tt
once_distinct count (k ∷ keys) = by_cases _ (list_any (is_same k) keys)
    (λ again. rw again (once_distinct count keys))
    (λ last. rw last (each_other k count keys last, once_distinct count keys))

-- a key that is no line's is not among the keys of the lines
others_map : (k : Key) (lines : List Line) → Each (λ m. is_same k m.key ≡ false) lines → AllByRecursion (λ y. is_same k y ≡ false) (map (λ l. l.key) lines)
others_map k [] others = tt
others_map k (l ∷ lines) others = (others.0, others_map k lines others.1)

-- where no line has the key of one after it, their keys differ
distinct_keys : (lines : List Line) → Once lines → IsDistinct is_same (map (λ l. l.key) lines)
unfolding IsDistinct
distinct_keys [] once = tt
distinct_keys (l ∷ lines) once = (others_map l.key lines once.0, distinct_keys lines once.1)

-- each key stands once in a report
pub each_key_once : (keys : List Key) → IsDistinct is_same (map (λ l. l.key) (lines_of keys))
each_key_once keys = distinct_keys (lines_of keys) (once_in_order _ (once_distinct (λ key. count_of key keys) keys))

-- ---- each line's count

-- the line of a key that is counted has its count
each_count : (count : Key → ℕ) (keys : List Key) → ((key : Key) → 0 < count_of key keys → 0 < count key)
    → Each (λ l. (0 < l.count) × (l.count ≡ count l.key)) (map (line_for count) (distinct keys))
each_count count [] some = tt
each_count count (k ∷ keys) some =
    let fewer : (key : Key) → 0 < count_of key keys → 0 < count key = λ key more. some key (omega (arith, more, count_cons key k keys)) in
    by_cases _ (list_any (is_same k) keys)
    (λ again. rw again (each_count count keys fewer))
    (λ last. rw last ((some k (omega (arith, count_first k keys)), refl), each_count count keys fewer))

-- what is so of each line is so at each place
at_each : (P : Line → Type 0) (lines : List Line) → Each P lines → All P lines
at_each P [] each k d within = absurd (omega (arith, within))
at_each P (l ∷ lines) each zero d within = each.0
at_each P (l ∷ lines) each (suc k) d within = at_each P lines each.1 k d (omega (arith, within))

-- each line of a report has how often its key is counted
pub each_is_counted : (keys : List Key) → All (λ l. (0 < l.count) × (l.count ≡ count_of l.key keys)) (lines_of keys)
each_is_counted keys = at_each _ (lines_of keys) (each_in_order _ _ (each_count (λ key. count_of key keys) keys (λ key some. some)))

-- ---- each key has a line

-- a line more is found where it or one of the others is
any_put : (p : Line → Bool) (line : Line) (lines : List Line) → list_any p (put_in line lines) ≡ (p line || list_any p lines)
any_put p line [] = refl
any_put p line (l ∷ lines) = of_test (lt l line) (any_put p line lines)
  where
    turned : (a b c : Bool) → (a || (b || c)) ≡ (b || (a || c))
    turned true true c = refl
    turned true false c = refl
    turned false true c = refl
    turned false false c = refl

    of_test : (b : Bool) → list_any p (put_in line lines) ≡ (p line || list_any p lines) → list_any p (if b then l ∷ put_in line lines else line ∷ l ∷ lines) ≡ (p line || (p l || list_any p lines))
    of_test true e = ap (λ (rest : Bool). p l || rest) e ∙ turned (p l) (p line) (list_any p lines)
    of_test false e = refl

-- the same lines are found in order
any_in_order : (p : Line → Bool) (lines : List Line) → list_any p (in_order lines) ≡ list_any p lines
any_in_order p [] = refl
any_in_order p (line ∷ lines) = any_put p line (in_order lines) ∙ ap (λ (b : Bool). p line || b) (any_in_order p lines)

-- the line of a key is found where the key is
any_distinct : (key : Key) (count : Key → ℕ) (keys : List Key) → list_any (λ l. is_same key l.key) (map (line_for count) (distinct keys)) ≡ list_any (is_same key) keys
any_distinct key count [] = refl
any_distinct key count (k ∷ keys) = by_cases _ (list_any (is_same k) keys)
    (λ again. rw again (any_distinct key count keys ∙ by_cases _ (is_same key k)
    (λ t. rw (t, same_key key k t, again) refl)
    (λ t. rw t refl)))
    (λ last. rw last (ap (λ (b : Bool). is_same key k || b) (any_distinct key count keys)))

-- each key that is counted has a line in a report
pub every_key_has_a_line : (keys : List Key) (key : Key) → 0 < count_of key keys → list_any (λ l. is_same key l.key) (lines_of keys) ≡ true
every_key_has_a_line keys key some =
    any_in_order (λ l. is_same key l.key) (map (line_for (λ k. count_of k keys)) (distinct keys)) ∙ any_distinct key (λ k. count_of k keys) keys ∙ any_counted (is_same key) keys ∙ some_found (count_of key keys) some

-- ---- the counts add up

-- the counts of keys, added up
abbrev total : (Key → ℕ) → List Key → ℕ
total count [] = 0
total count (k ∷ keys) = count k + total count keys

-- a key stands once among those that are left of some, where it is one of them
total_same : (k : Key) (keys : List Key) → total (λ key. cond (is_same key k) 1 0) (distinct keys) ≡ cond (list_any (is_same k) keys) 1 0
total_same k [] = refl
total_same k (x ∷ keys) = by_cases _ (list_any (is_same x) keys)
    (λ again. rw again (total_same k keys ∙ by_cases _ (is_same k x)
    (λ t. rw (t, same_key k x t, again) refl)
    (λ t. rw t refl)))
    (λ last. rw last (by_cases _ (is_same k x)
    (λ t. rw (t, same_equiv.symm x k, t, total_same k keys, same_key k x t, last) (omega arith))
    (λ t. rw (t, same_equiv.symm x k, t) (omega (arith, total_same k keys)))))

-- with a key more, the counts add up to one more for each that is this one
total_cons : (k : Key) (keys ks : List Key)
    → total (λ key. count_of key (k ∷ keys)) ks ≡ total (λ key. cond (is_same key k) 1 0) ks + total (λ key. count_of key keys) ks
total_cons k keys [] = omega arith
total_cons k keys (x ∷ ks) = omega (arith, count_cons x k keys, total_cons k keys ks)

-- how often each key is counted adds up to the number of keys
total_distinct : (keys : List Key) → total (λ key. count_of key keys) (distinct keys) ≡ length keys
total_distinct [] = refl
total_distinct (k ∷ keys) = by_cases _ (list_any (is_same k) keys)
    (λ again. let one : total (λ key. cond (is_same key k) 1 0) (distinct keys) ≡ 1 = total_same k keys ∙ rw again refl in
    rw again (omega (arith, total_cons k keys (distinct keys), one, total_distinct keys)))
    (λ last. let no : total (λ key. cond (is_same key k) 1 0) (distinct keys) ≡ 0 = total_same k keys ∙ rw last refl in
    let none : count_of k keys ≡ 0 = none_found (count_of k keys) (sym (any_counted (is_same k) keys) ∙ last) in
    rw last (omega (arith, count_first k keys, none, total_cons k keys (distinct keys), no, total_distinct keys)))

-- the counts of lines are those of their keys
sum_lines : (count : Key → ℕ) (keys : List Key) → sum_by (λ l. l.count) (map (line_for count) keys) ≡ total count keys
sum_lines count [] = refl
sum_lines count (k ∷ keys) = sum_by-cons (λ l. l.count) (line_for count k) (map (line_for count) keys) ∙ ap (λ (n : ℕ). count k + n) (sum_lines count keys)

-- a line more adds its count
sum_put : (line : Line) (lines : List Line) → sum_by (λ l. l.count) (put_in line lines) ≡ line.count + sum_by (λ l. l.count) lines
sum_put line [] = sum_by-cons (λ l. l.count) line []
sum_put line (l ∷ lines) = of_test (lt l line) (sum_put line lines)
  where
    of_test : (b : Bool) → sum_by (λ l. l.count) (put_in line lines) ≡ line.count + sum_by (λ l. l.count) lines
        → sum_by (λ l. l.count) (if b then l ∷ put_in line lines else line ∷ l ∷ lines) ≡ line.count + sum_by (λ l. l.count) (l ∷ lines)
    of_test true e = omega (arith, e, sum_by-cons (λ (m : Line). m.count) l (put_in line lines), sum_by-cons (λ (m : Line). m.count) l lines)
    of_test false e = sum_by-cons (λ l. l.count) line (l ∷ lines)

-- the counts add up to the same in order
sum_in_order : (lines : List Line) → sum_by (λ l. l.count) (in_order lines) ≡ sum_by (λ l. l.count) lines
sum_in_order [] = refl
sum_in_order (line ∷ lines) = sum_put line (in_order lines) ∙ ap (λ (n : ℕ). line.count + n) (sum_in_order lines) ∙ sym (sum_by-cons (λ l. l.count) line lines)

-- the counts of a report add up to the number of keys
sum_keys : (keys : List Key) → sum_by (λ l. l.count) (lines_of keys) ≡ length keys
sum_keys keys =
    sum_in_order (map (line_for (λ key. count_of key keys)) (distinct keys)) ∙ sum_lines (λ key. count_of key keys) (distinct keys) ∙ total_distinct keys

-- as many keys are counted as there are shown records
shown_counted : (showing : Showing) (first_field : Bool) (groups : List Group) → length (keys_of showing first_field groups) ≡ sum_by (λ g. sum_by (λ m. length m.records) (shown showing g).members) groups
shown_counted showing first_field groups =
    length-map (flat_map (λ g. flat_map (λ m. m.records) (shown showing g).members) groups) (key_of first_field)
    ∙ length-flat_map (λ g. flat_map (λ m. m.records) (shown showing g).members) groups
    ∙ ap (λ (f : Group → ℕ). sum_by f groups) (λ i g. length-flat_map (λ m. m.records) (shown showing g).members i)

-- the counts of a report add up to the number of shown records
pub counts_add_up : (showing : Showing) (first_field : Bool) (groups : List Group)
    → sum_by (λ l. l.count) (lines_of (keys_of showing first_field groups)) ≡ sum_by (λ g. sum_by (λ m. length m.records) (shown showing g).members) groups
counts_add_up showing first_field groups =
    sum_keys (keys_of showing first_field groups) ∙ shown_counted showing first_field groups

-- ---- the order

-- of lines that rise none is less than the one before it
next_not_less : (lines : List Line) → Rises lines → (k : ℕ) (d : Line) → suc k < length lines → lt (get_or lines (suc k) d) (get_or lines k d) ≡ false
next_not_less [] up k d within = absurd (omega (arith, within))
next_not_less (l ∷ lines) up zero d within = at_each (λ m. lt m l ≡ false) lines up.0 zero d (omega (arith, within))
next_not_less (l ∷ lines) up (suc k) d within = next_not_less lines up.1 k d (omega (arith, within))

-- so they are sorted
sorted_from : (lines : List Line) → Rises lines → IsSortedBy lt lines
sorted_from lines up k d low within =
    let next : suc k ≡ k + 1 = omega arith in
    subst (λ (n : ℕ). lt (get_or lines n d) (get_or lines k d) ≡ false) next (next_not_less lines up k d (omega (arith, within)))

-- the lines of a report are in its order
pub lines_are_sorted : (keys : List Key) → IsSortedBy lt (lines_of keys)
lines_are_sorted keys = sorted_from (lines_of keys) (rises_in_order (map (line_for (λ key. count_of key keys)) (distinct keys)))
