-- The lines of the report, in order.
use Rattle.std.proofs.Common.{◌≡◌, ◌+◌, ◌<◌, ◌≤◌, ◌==◌, ◌&&◌, ◌||◌, ℕ, zero, suc, Bool, true, false, cond, if◌then◌else◌, List, [], ◌∷◌, ◌++◌, length, map, take, get_or, filter, Option, None, Some, is_some, slice_get, Less, Equal, Greater, nat_cmp, is_lt, eqb-true, eq-eqb, refl, sym, ap, ◌∙◌, subst, arith, suc-le-suc, zero-le}
use Rattle.std.specs.Cmp.{IsStrictWeakOrder, IsTotalOrder, back_total, on_total, then_total, nat_cmp_total, first_so, second_so}
use Rattle.std.specs.Cmp.Lexicographic.{slice_cmp, bytes_decides}
use Rattle.std.specs.List.{All, IsDistinct, AllByRecursion, list_any, sum_by}
use Rattle.std.specs.List.Sorted.{IsPermutation, IsSortedBy}
use Rattle.std.specs.Map.{lookup, keys_of}
use Rattle.std.specs.Ordering.{ordering_then, ordering_reverse, is_eq}
use Rattle.std.specs.Str.{str_to_ascii_lowercase}
use Rattle.std.specs.declared.cmp.Ordering.{Ordering}
use Rattle.std.proofs.lemmas.Cmp.{nat_list_cmp_total}
use Rattle.std.proofs.lemmas.List.{get_or-map, length-map, map-append, take_more, take_all}
use Rattle.std.proofs.lemmas.List.Elements.{All-push, All-map}
use Rattle.std.proofs.lemmas.List.Sorted.{IsPermutation-map, All-permutation, sum_by-IsPermutation, ranks_by, sorted_far}
use Rattle.std.proofs.lemmas.List.Sums.{sum_by-cons}
use Rattle.std.proofs.lemmas.Map.Text.{is_eq-slice_cmp}
use Rattle.std.proofs.lemmas.Option.{get_or_from_slice_get, slice_get_within}
use Rattle.vsl_tags.specs.Tags.{IsTag, tag_name}
use Rattle.vsl_tags.proofs.RankLemmas.{ranked_as_named}
use Rattle.vsl_top.specs.Report.{Key, Line, is_same, count_of, distinct, line_order, put_in, in_order, lines_of}
use Rattle.vsl_top.specs.Counting.{some_count}
use Rattle.vsl_top.specs.declared.line.Line.{Line as LineParts}
use Rattle.vsl_top.specs.inside.Keys.{same_key, same_equiv}
use Rattle.vsl_top.specs.inside.Lines.{AreLinesOf, IsRanked, entry_line, line_in}
use Rattle.vsl_top.proofs.CountLemmas.{by_cases}

abbrev pub lt : Line → Line → Bool
lt a b = is_lt (line_order a b)

line_total : IsTotalOrder line_order
line_total = then_total (back_total (on_total (λ (l : Line). l.count) nat_cmp_total))
    (then_total (on_total (λ (l : Line). tag_name l.key.tag) nat_list_cmp_total) (on_total (λ (l : Line). l.key.text) nat_list_cmp_total))

order : IsStrictWeakOrder lt
order = ranks_by line_total (λ (l : Line). l)

-- ---- how often a line stands among lines

abbrev is_line : Line → Line → Bool
is_line a b = is_same a.key b.key && (a.count == b.count)

abbrev times : Line → List Line → ℕ
times x [] = 0
times x (l ∷ lines) = cond (is_line x l) 1 0 + times x lines

same_line : (a b : Line) → is_line a b ≡ true → a ≡ b
same_line a b e =
    let keys = same_key a.key b.key (first_so (is_same a.key b.key) (a.count == b.count) e) in
    let counts : a.count ≡ b.count = eqb-true _ _ (second_so (is_same a.key b.key) (a.count == b.count) e) in
    λ i. record { count = counts i; key = keys i }

line_itself : (l : Line) → is_line l l ≡ true
line_itself l = rw (same_equiv.refl l.key, eq-eqb l.count l.count refl) refl

times_sum : (x : Line) (lines : List Line) → times x lines ≡ sum_by (λ l. cond (is_line x l) 1 0) lines
times_sum x [] = refl
times_sum x (l ∷ lines) = ap (λ (n : ℕ). cond (is_line x l) 1 0 + n) (times_sum x lines) ∙ sym (sum_by-cons (λ l. cond (is_line x l) 1 0) l lines)

times_permutation : (x : Line) (ys zs : List Line) → IsPermutation ys zs → times x zs ≡ times x ys
times_permutation x ys zs p = times_sum x zs ∙ sum_by-IsPermutation (λ l. cond (is_line x l) 1 0) ys zs p ∙ sym (times_sum x ys)

times_put : (x line : Line) (lines : List Line) → times x (put_in line lines) ≡ times x (line ∷ lines)
times_put x line [] = refl
times_put x line (l ∷ lines) = of_test (lt l line) (times_put x line lines)
  where
    of_test : (b : Bool) → times x (put_in line lines) ≡ times x (line ∷ lines) → times x (if b then l ∷ put_in line lines else line ∷ l ∷ lines) ≡ times x (line ∷ l ∷ lines)
    of_test true e = omega (arith, e)
    of_test false e = refl

times_in_order : (x : Line) (lines : List Line) → times x (in_order lines) ≡ times x lines
times_in_order x [] = refl
times_in_order x (line ∷ lines) = times_put x line (in_order lines) ∙ ap (λ (n : ℕ). cond (is_line x line) 1 0 + n) (times_in_order x lines)

-- ---- lines that rise

abbrev pub Each : (Line → Type 0) → List Line → Type 0
Each P [] = Unit {0}
Each P (l ∷ lines) = P l × Each P lines

each_weaker : (P Q : Line → Type 0) → ((l : Line) → P l → Q l) → (lines : List Line) → Each P lines → Each Q lines
each_weaker P Q weaker [] each = tt
each_weaker P Q weaker (l ∷ lines) each = (weaker l each.0, each_weaker P Q weaker lines each.1)

pub each_put : (P : Line → Type 0) (line : Line) (lines : List Line) → P line → Each P lines → Each P (put_in line lines)
each_put P line [] p each = (p, tt)
each_put P line (l ∷ lines) p each = of_test (lt l line) (each_put P line lines p each.1)
  where
    of_test : (b : Bool) → Each P (put_in line lines) → Each P (if b then l ∷ put_in line lines else line ∷ l ∷ lines)
    of_test true rest = (each.0, rest)
    of_test false rest = (p, each)

-- no line comes before one that it follows
abbrev pub Rises : List Line → Type 0
Rises [] = Unit {0}
Rises (l ∷ lines) = Each (λ m. lt m l ≡ false) lines × Rises lines

rises_put : (line : Line) (lines : List Line) → Rises lines → Rises (put_in line lines)
rises_put line [] up = (tt, tt)
rises_put line (l ∷ lines) up = of_test (lt l line) refl (rises_put line lines up.1)
  where
    of_test : (b : Bool) → lt l line ≡ b → Rises (put_in line lines) → Rises (if b then l ∷ put_in line lines else line ∷ l ∷ lines)
    of_test true less rest = (each_put (λ z. lt z l ≡ false) line lines (order.one_way l line less) up.0, rest)
    of_test false least rest = ((least, each_weaker (λ z. lt z l ≡ false) (λ z. lt z line ≡ false) (λ z h. order.chain z l line h least) lines up.0), up)

pub rises_in_order : (lines : List Line) → Rises (in_order lines)
rises_in_order [] = tt
rises_in_order (line ∷ lines) = rises_put line (in_order lines) (rises_in_order lines)

each_at : (P : Line → Type 0) (lines : List Line) → ((j : ℕ) (d : Line) → j < length lines → P (get_or lines j d)) → Each P lines
each_at P [] h = tt
each_at P (l ∷ lines) h = (h zero l (suc-le-suc zero-le), each_at P lines (λ j d within. h (suc j) d (suc-le-suc within)))

rises_from : (lines : List Line) → ((i j : ℕ) (d : Line) → i ≤ j → j < length lines → lt (get_or lines j d) (get_or lines i d) ≡ false) → Rises lines
rises_from [] h = tt
rises_from (l ∷ lines) h = (each_at _ lines (λ j d within. h zero (suc j) d zero-le (suc-le-suc within)), rises_from lines (λ i j d le within. h (suc i) (suc j) d (suc-le-suc le) (suc-le-suc within)))

-- ---- lines that rise are the same, where each stands as often among one as among the other

-- what is so of each line is so of one that stands among them
among : (P : Line → Type 0) (x : Line) (lines : List Line) → Each P lines → 0 < times x lines → P x
among P x [] each some = absurd (omega (arith, some))
among P x (l ∷ lines) each some = by_cases (P x) (is_line x l)
    (λ t. subst P (sym (same_line x l t)) each.0)
    (λ t. among P x lines each.1 (let more = rw t at some in omega (arith, more)))

stands_first : (l : Line) (lines : List Line) → 0 < times l (l ∷ lines)
stands_first l lines = rw (line_itself l) (omega arith)

each_from_times : (P : Line → Type 0) (lines : List Line) → ((x : Line) → 0 < times x lines → P x) → Each P lines
each_from_times P [] h = tt
each_from_times P (l ∷ lines) h = (h l (stands_first l lines), each_from_times P lines (λ x some. h x (omega (arith, some))))

Equal_from : (a b : Ordering) → a ≡ ordering_reverse b → is_lt a ≡ false → is_lt b ≡ false → a ≡ Equal
Equal_from Less b flip left right = absurd (cc)
Equal_from Equal b flip left right = refl
Equal_from Greater Less flip left right = absurd (cc)
Equal_from Greater Equal flip left right = absurd (cc)
Equal_from Greater Greater flip left right = absurd (cc)

then_Equal : (a b : Ordering) → ordering_then a b ≡ Equal → (a ≡ Equal) × (b ≡ Equal)
then_Equal Less b e = absurd (cc)
then_Equal Equal b e = (refl, e)
then_Equal Greater b e = absurd (cc)

same_from_cmp : (xs ys : List ℕ) → slice_cmp nat_cmp xs ys ≡ Equal → xs ≡ ys
same_from_cmp xs ys e = (bytes_decides xs ys).0 (sym (is_eq-slice_cmp xs ys) ∙ ap is_eq e)

module _ (differ : (m n : ℕ) → IsTag m → IsTag n → str_to_ascii_lowercase (tag_name m) ≡ str_to_ascii_lowercase (tag_name n) → m ≡ n) where
  -- two lines of which neither comes first are the same
  tied_line : (a b : Line) → IsTag a.key.tag → IsTag b.key.tag → lt a b ≡ false → lt b a ≡ false → a ≡ b
  tied_line a b left right a_b b_a =
      let all = then_Equal _ _ (Equal_from _ _ (line_total.antisymm a b) a_b b_a) in
      let rest = then_Equal _ _ all.1 in
      let counts : a.count ≡ b.count = sym (nat_cmp_same b.count a.count all.0) in
      let tags = differ a.key.tag b.key.tag left right (ap str_to_ascii_lowercase (same_from_cmp _ _ rest.0)) in
      let texts = same_from_cmp _ _ rest.1 in
      λ i. record { count = counts i; key = record { tag = tags i; text = texts i } }
    where
      nat_cmp_same : (m n : ℕ) → nat_cmp m n ≡ Equal → m ≡ n
      nat_cmp_same m n e = by_cases _ (m == n) (λ t. eqb-true m n t) (λ t. absurd (grind (arith, e, t)))

  same_lines : (ys zs : List Line) → Rises ys → Rises zs → Each (λ l. IsTag l.key.tag) ys → Each (λ l. IsTag l.key.tag) zs → ((x : Line) → times x ys ≡ times x zs) → ys ≡ zs
  same_lines [] [] left right tags_left tags_right same = refl
  same_lines [] (z ∷ zs) left right tags_left tags_right same = absurd (omega (arith, same z, stands_first z zs))
  same_lines (y ∷ ys) [] left right tags_left tags_right same = absurd (omega (arith, same y, stands_first y ys))
  same_lines (y ∷ ys) (z ∷ zs) left right tags_left tags_right same =
      let not_less : (l : Line) → lt l l ≡ false = λ l. by_cases _ (lt l l) (λ t. order.one_way l l t) (λ t. t) in
      let y_z = among (λ l. lt l z ≡ false) y (z ∷ zs) (not_less z, right.0) (rw (← same y) (stands_first y ys)) in
      let z_y = among (λ l. lt l y ≡ false) z (y ∷ ys) (not_less y, left.0) (rw (same z) (stands_first z zs)) in
      let head : y ≡ z = tied_line y z tags_left.0 tags_right.0 y_z z_y in
      ap (λ (l : Line). l ∷ ys) head
      ∙ ap (λ (lines : List Line). z ∷ lines) (same_lines ys zs left.1 right.1 tags_left.1 tags_right.1
      (λ x. omega (arith, same x, ap {B = ℕ} (λ (l : Line). cond (is_line x l) 1 0) head)))

-- ---- how often a line stands among those of the keys

-- whether an answer is this count
abbrev is_at : ℕ → Option ℕ → Bool
is_at n None = false
is_at n (Some m) = n == m

times_none : (x : Line) (entries : List (Key × ℕ)) → lookup (is_same x.key) entries ≡ None → times x (map entry_line entries) ≡ 0
times_none x [] none = refl
times_none x (e ∷ entries) none = by_cases _ (is_same x.key e.0)
    (λ t. absurd (let h = rw t at none in cc))
    (λ t. rw t (omega (arith, times_none x entries (rw t at none))))

none_after : (k : Key) (entries : List (Key × ℕ)) → AllByRecursion (λ y. is_same k y ≡ false) (keys_of entries) → lookup (is_same k) entries ≡ None
none_after k [] others = refl
none_after k (e ∷ entries) others = rw (others.0) (none_after k entries others.1)

times_entries : (x : Line) (entries : List (Key × ℕ)) → IsDistinct is_same (keys_of entries) → times x (map entry_line entries) ≡ cond (is_at x.count (lookup (is_same x.key) entries)) 1 0
unfolding IsDistinct
times_entries x [] unique = refl
times_entries x (e ∷ entries) unique = by_cases _ (is_same x.key e.0)
    (λ t. let none : lookup (is_same x.key) entries ≡ None = rw (same_key x.key e.0 t) (none_after e.0 entries unique.0) in rw (t, times_none x entries none) (omega arith))
    (λ t. rw t (omega (arith, times_entries x entries unique.1)))

times_distinct : (x : Line) (count : Key → ℕ) (keys : List Key)
    → times x (map (λ key. record { count = count key; key = key }) (distinct keys)) ≡ cond (list_any (is_same x.key) keys && (x.count == count x.key)) 1 0
times_distinct x count [] = refl
times_distinct x count (k ∷ keys) = by_cases _ (list_any (is_same k) keys)
    (λ again. rw again (times_distinct x count keys ∙ by_cases _ (is_same x.key k)
    (λ t. rw (t, same_key x.key k t, again) refl)
    (λ t. rw t refl)))
    (λ last. rw last (by_cases _ (is_same x.key k)
    (λ t. rw (t, times_distinct x count keys, same_key x.key k t, last) (omega arith))
    (λ t. rw t (omega (arith, times_distinct x count keys)))))

pub any_counted : (p : Key → Bool) (keys : List Key) → list_any p keys ≡ is_some (some_count (length (filter p keys)))
any_counted p [] = refl
any_counted p (k ∷ keys) = of_test (p k) (any_counted p keys)
  where
    of_test : (b : Bool) → list_any p keys ≡ is_some (some_count (length (filter p keys))) → (b || list_any p keys) ≡ is_some (some_count (length (cond b (k ∷ filter p keys) (filter p keys))))
    of_test true e = refl
    of_test false e = e

at_counted : (n m : ℕ) → is_at n (some_count m) ≡ (is_some (some_count m) && (n == m))
at_counted n zero = refl
at_counted n (suc m) = refl

-- ---- the table

abbrev pub parts_order : LineParts → LineParts → Ordering
parts_order a b = ordering_then (nat_cmp b.count.0 a.count.0) (ordering_then (nat_cmp a.rank b.rank) (slice_cmp nat_cmp a.text.now b.text.now))

ranked_order : (a b : LineParts) → IsRanked a → IsRanked b → parts_order a b ≡ line_order (line_in a) (line_in b)
ranked_order a b left right = rw (left.rank, right.rank, ranked_as_named a.tag b.tag left.tag right.tag) refl

sorted_lines : (parts : List LineParts) → All IsRanked parts → IsSortedBy (λ a b. is_lt (parts_order a b)) parts → IsSortedBy lt (map line_in parts)
sorted_lines [] ranked sorted k d low within = absurd (omega (arith, within))
sorted_lines (p ∷ parts) ranked sorted k d low within =
    let fits : k + 1 < length (p ∷ parts) = rw (length-map (p ∷ parts) line_in) at within in
    rw (get_or-map line_in (p ∷ parts) (k + 1) p d fits, get_or-map line_in (p ∷ parts) k p d (omega (arith, fits)))
    (sym (ap is_lt (ranked_order _ _ (ranked (k + 1) p fits) (ranked k p (omega (arith, fits))))) ∙ sorted k p low fits)

pub report_lines : (differ : (m n : ℕ) → IsTag m → IsTag n → str_to_ascii_lowercase (tag_name m) ≡ str_to_ascii_lowercase (tag_name n) → m ≡ n)
    (entries : List (Key × ℕ)) (keys : List Key) (parts sorted : List LineParts) → IsDistinct is_same (keys_of entries) → ((key : Key) → lookup (is_same key) entries ≡ some_count (count_of key keys))
    → AreLinesOf entries (length entries) parts → IsPermutation parts sorted → IsSortedBy (λ a b. is_lt (parts_order a b)) sorted → map line_in sorted ≡ lines_of keys
report_lines differ entries keys parts sorted unique counted lines permutation up =
    let ranked = All-permutation IsRanked parts sorted permutation lines.ranked in
    let tags = each_at (λ l. IsTag l.key.tag) (map line_in sorted) (All-map (λ (l : Line). IsTag l.key.tag) line_in sorted (λ k d within. (ranked k d within).tag)) in
    let same : (x : Line) → times x (map line_in sorted) ≡ times x (lines_of keys) = λ x.
    times_permutation x _ _ (IsPermutation-map line_in parts sorted permutation)
    ∙ ap (times x) (lines.each ∙ take_all (length entries) (map entry_line entries) (omega (arith, length-map entries entry_line)))
    ∙ times_entries x entries unique
    ∙ ap (λ (o : Option ℕ). cond (is_at x.count o) 1 0) (counted x.key)
    ∙ ap (λ (b : Bool). cond b 1 0) (at_counted x.count (count_of x.key keys) ∙ ap (λ (b : Bool). b && (x.count == count_of x.key keys)) (sym (any_counted (is_same x.key) keys)))
    ∙ sym (times_distinct x (λ key. count_of key keys) keys)
    ∙ sym (times_in_order x _) in
    same_lines differ (map line_in sorted) (lines_of keys) (rises_from _ (sorted_far lt order _ (sorted_lines sorted ranked up))) (rises_in_order (map (λ key. record { count = count_of key keys; key = key }) (distinct keys))) tags
    (each_from_times (λ l. IsTag l.key.tag) (lines_of keys) (λ x some. among (λ l. IsTag l.key.tag) x (map line_in sorted) tags (rw (same x) some))) same

-- one line more
pub lines_more : (entries : List (Key × ℕ)) (i : ℕ) (parts : List LineParts) (line : LineParts) (now : List LineParts) → AreLinesOf entries i parts
    → slice_get (map entry_line entries) i ≡ Some (line_in line) → IsRanked line → now ≡ parts ++ line ∷ [] → AreLinesOf entries (i + 1) now
lines_more entries i parts line now so_far at ranked is = rw is (record {
  each = map-append line_in parts (line ∷ []) ∙ ap (λ (lines : List Line). lines ++ line_in line ∷ []) so_far.each
      ∙ sym (take_more (map entry_line entries) i (line_in line) (slice_get_within _ _ _ at) ∙ ap (λ (l : Line). take i (map entry_line entries) ++ l ∷ []) (get_or_from_slice_get _ i _ (line_in line) at));
  ranked = All-push IsRanked parts line so_far.ranked ranked;
})
