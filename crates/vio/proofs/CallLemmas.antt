-- What calls come to, one after the other.
use Rattle.std.specs.List.{flat_map}
use Rattle.std.proofs.Common.{◌≡◌, ◌≢◌, ℕ, ◌+◌, Bool, true, false, List, [], ◌∷◌, ◌++◌, length, length-append, refl, sym, ap, subst, ◌∙◌, inl, inr, eqb, eq-eqb, arith, ◌&&◌, ◌||◌, not}
use Rattle.std.proofs.lemmas.Bool.{ne_eqb}
use Rattle.std.proofs.lemmas.List.{append-nil}
use Rattle.std.proofs.lemmas.List.Folds.{list_all-append, list_any-append}
use Rattle.std.proofs.lemmas.Grind.{flat_map-append}
use Rattle.vio.specs.World.{Seen, CallKind, Reading, Writing, Wrote, Read, NoCountFalls}
use Rattle.vio.specs.Touches.{IsOneOf}
use Rattle.vio.proofs.TouchLemmas.{one_of_left, one_of_right, one_of_either, touch_own}
use Rattle.vio.proofs.WholeLemmas.{NoCountFalls-none, NoCountFalls-then}
use Rattle.vio.specs.Calls.{Mark, Call, Take, Write, Open, Create, Marks, Did, AreOn, written_in, written_by, taken_in, taken_by, of_handle, is_read, has_read, has_failed, none_failed, last_failed, SomeFailed, fails, IsWithin, AreWithin, opened_in, created_in, handles_given, count_given, OnlyOpen}

pub did_then : (xs ys : List Call) (s t u : Seen) → Did xs s t → Did ys t u → Did (xs ++ ys) s u
did_then [] ys s t u p q = subst (λ (x : Seen). Did ys x u) p q
did_then (c ∷ xs) ys s t u p q = (p.0, p.1, did_then xs ys p.0 t u p.2 q)

-- where calls were made, so were each of their parts
pub did_apart : (xs ys : List Call) (s u : Seen) → Did (xs ++ ys) s u → (t : Seen) × Did xs s t × Did ys t u
did_apart [] ys s u did = (s, refl, did)
did_apart (c ∷ xs) ys s u did = let parts = did_apart xs ys did.0 u did.2 in (parts.0, (did.0, did.1, parts.1), parts.2)

pub did_write : (h : ℕ) (bytes : List ℕ) (mark : Mark) (s t : Seen) → Wrote h bytes s t → Marks Writing h mark s t → Did (Write h bytes mark ∷ []) s t
did_write h bytes mark s t wrote marks = (t, (wrote, marks), refl)

pub did_take : (h : ℕ) (bytes : List ℕ) (mark : Mark) (s t : Seen) → Read h bytes s t → Marks Reading h mark s t → Did (Take h bytes mark ∷ []) s t
did_take h bytes mark s t read marks = (t, (read, marks), refl)

-- ---- what is written and taken of calls, one after the other

pub written_append : (h : ℕ) (xs ys : List Call) → written_by h (xs ++ ys) ≡ written_by h xs ++ written_by h ys
written_append h = flat_map-append (written_in h)

pub taken_append : (h : ℕ) (xs ys : List Call) → taken_by h (xs ++ ys) ≡ taken_by h xs ++ taken_by h ys
taken_append h = flat_map-append (taken_in h)

of_same : (h : ℕ) (bytes : List ℕ) → of_handle (eqb h h) bytes ++ [] ≡ bytes
of_same h bytes = ap (λ (b : Bool). of_handle b bytes ++ []) (eq-eqb h h refl) ∙ append-nil bytes

of_other : (k h : ℕ) (bytes : List ℕ) → k ≢ h → of_handle (eqb k h) bytes ++ [] ≡ []
of_other k h bytes other = ap (λ (b : Bool). of_handle b bytes ++ []) (ne_eqb k h other)

pub written_here : (h : ℕ) (bytes : List ℕ) (mark : Mark) → written_by h (Write h bytes mark ∷ []) ≡ bytes
written_here h bytes mark = of_same h bytes

pub written_other : (k h : ℕ) (bytes : List ℕ) (mark : Mark) → k ≢ h → written_by h (Write k bytes mark ∷ []) ≡ []
written_other k h bytes mark other = of_other k h bytes other

pub taken_here : (h : ℕ) (bytes : List ℕ) (mark : Mark) → taken_by h (Take h bytes mark ∷ []) ≡ bytes
taken_here h bytes mark = of_same h bytes

-- ---- calls on some handles alone

pub on_append : (reads writes : List ℕ) (xs ys : List Call) → AreOn reads writes xs → AreOn reads writes ys → AreOn reads writes (xs ++ ys)
on_append reads writes [] ys p q = q
on_append reads writes (c ∷ xs) ys p q = (p.0, on_append reads writes xs ys p.1 q)

-- calls that read none are on these handles too, and calls that write none
pub on_writes : (reads writes : List ℕ) (xs : List Call) → AreOn [] writes xs → AreOn reads writes xs
on_writes reads writes [] p = tt
on_writes reads writes (Write h bytes mark ∷ xs) p = (p.0, on_writes reads writes xs p.1)
on_writes reads writes (call ∷ xs) p = absurd p.0

pub on_reads : (reads writes : List ℕ) (xs : List Call) → AreOn reads [] xs → AreOn reads writes xs
on_reads reads writes [] p = tt
on_reads reads writes (Take h bytes mark ∷ xs) p = (p.0, on_reads reads writes xs p.1)
on_reads reads writes (call ∷ xs) p = absurd p.0

-- calls that write none wrote nothing, and calls that read none took nothing
pub written_none : (reads : List ℕ) (h : ℕ) (xs : List Call) → AreOn reads [] xs → written_by h xs ≡ []
written_none reads h [] p = refl
written_none reads h (Take k bytes mark ∷ xs) p = written_none reads h xs p.1
written_none reads h (call ∷ xs) p = absurd p.0

pub taken_none : (writes : List ℕ) (h : ℕ) (xs : List Call) → AreOn [] writes xs → taken_by h xs ≡ []
taken_none writes h [] p = refl
taken_none writes h (Write k bytes mark ∷ xs) p = taken_none writes h xs p.1
taken_none writes h (call ∷ xs) p = absurd p.0

-- they leave the names of handles
pub on_names : (reads writes : List ℕ) (xs : List Call) (s t : Seen) → AreOn reads writes xs → Did xs s t → (k : CallKind) (h : ℕ) (name : List ℕ) → t.names k h name ≡ s.names k h name
on_names reads writes [] s t p did k h name = ap (λ (x : Seen). x.names k h name) did
on_names reads writes (Take i bytes mark ∷ xs) s t p did k h name = on_names reads writes xs did.0 t p.1 did.2 k h name ∙ (did.1.0).names k h name
on_names reads writes (Write i bytes mark ∷ xs) s t p did k h name = on_names reads writes xs did.0 t p.1 did.2 k h name ∙ (did.1.0).names k h name
on_names reads writes (call ∷ xs) s t p did k h name = absurd p.0

-- no count falls
pub did_counts : (xs : List Call) (s t : Seen) → Did xs s t → NoCountFalls s t
did_counts [] s t did = subst (λ (x : Seen). NoCountFalls s x) (sym did) (NoCountFalls-none s)
did_counts (call ∷ xs) s t did = NoCountFalls-then (touch_own call s did.0 did.1).counts (did_counts xs did.0 t did.2)

-- a mark that came stays, and the newest is there

pub read_first : (is_so : Mark → Bool) (h : ℕ) (xs ys : List Call) → has_read is_so h xs ≡ true → has_read is_so h (xs ++ ys) ≡ true
read_first is_so h xs ys p = list_any-append (is_read is_so h) xs ys ∙ ap (λ (b : Bool). b || has_read is_so h ys) p

pub read_last : (is_so : Mark → Bool) (h : ℕ) (xs : List Call) (bytes : List ℕ) (mark : Mark) → is_so mark ≡ true → has_read is_so h (xs ++ Take h bytes mark ∷ []) ≡ true
read_last is_so h xs bytes mark is = rw (list_any-append (is_read is_so h) xs (Take h bytes mark ∷ []), eq-eqb h h refl, is) (or_true (has_read is_so h xs))
  where
    or_true : (a : Bool) → (a || true) ≡ true
    or_true true = refl
    or_true false = refl

-- ---- calls of which none failed

and_both : (a b c : Bool) → (a && b) ≡ true → c ≡ true → (a && c) ≡ true
and_both true b c p q = q
and_both false b c p q = absurd cc

and_later : (a b : Bool) → (a && b) ≡ true → b ≡ true
and_later true b p = p
and_later false b p = absurd cc

pub none_failed_then : (xs ys : List Call) → none_failed xs ≡ true → none_failed ys ≡ true → none_failed (xs ++ ys) ≡ true
none_failed_then xs ys p q = list_all-append (λ call. not (has_failed call)) xs ys ∙ (λ i. p i && q i)

-- where none failed, none but the last did
pub none_failed_late : (xs : List Call) → none_failed xs ≡ true → last_failed xs ≡ true
none_failed_late [] p = refl
none_failed_late (c ∷ []) p = refl
none_failed_late (c ∷ d ∷ xs) p = and_both (not (has_failed c)) (none_failed (d ∷ xs)) (last_failed (d ∷ xs)) p (none_failed_late (d ∷ xs) (and_later (not (has_failed c)) (none_failed (d ∷ xs)) p))

pub last_failed_then : (xs ys : List Call) → none_failed xs ≡ true → last_failed ys ≡ true → last_failed (xs ++ ys) ≡ true
last_failed_then [] ys p q = q
last_failed_then (c ∷ []) [] p q = refl
last_failed_then (c ∷ []) (d ∷ ys) p q = and_both (not (has_failed c)) true (last_failed (d ∷ ys)) p q
last_failed_then (c ∷ d ∷ xs) ys p q = and_both (not (has_failed c)) (none_failed (d ∷ xs)) (last_failed (d ∷ (xs ++ ys))) p (last_failed_then (d ∷ xs) ys (and_later (not (has_failed c)) (none_failed (d ∷ xs)) p) q)

-- calls of which none failed, and then others
pub fails_then : (go : Bool) (xs ys : List Call) → none_failed xs ≡ true → fails go ys ≡ true → fails go (xs ++ ys) ≡ true
fails_then true xs ys p q = none_failed_then xs ys p q
fails_then false xs ys p q = last_failed_then xs ys p q

-- where none failed, they may go on or not
pub fails_late : (go : Bool) (xs : List Call) → none_failed xs ≡ true → fails go xs ≡ true
fails_late true xs p = p
fails_late false xs p = none_failed_late xs p

-- where one of the calls failed, so did one of all, whatever was called before
pub some_behind : (xs ys : List Call) → SomeFailed ys → SomeFailed (xs ++ ys)
some_behind xs ys p = (p.0, one_of_right p.0 xs ys p.1, p.2)

-- calls of which none failed have none that did
pub none_or_some : (calls : List Call) → none_failed calls ≡ true → SomeFailed calls → ⊥
none_or_some [] none p = p.1
none_or_some (c ∷ calls) none (call, inl e, failed) = let was = ap has_failed (sym e) ∙ failed in let no = rw was at none in absurd cc
none_or_some (c ∷ calls) none (call, inr is, failed) = none_or_some calls (and_later (not (has_failed c)) (none_failed calls) none) (call, is, failed)

-- ---- calls within some names

one_more : (i : ℕ) (hs xs ys : List ℕ) → ((k : ℕ) → IsOneOf k xs → IsOneOf k ys) → IsOneOf i (hs ++ xs) → IsOneOf i (hs ++ ys)
one_more i hs xs ys also is = elim (one_of_either i hs xs is) [ inl first ↦ one_of_left i hs ys first | inr last ↦ one_of_right i hs ys (also i last) ]

-- calls within some handles and names are within more
pub within_more : (reads reads' writes writes' : List ℕ) (opened opened' created created' : List (List ℕ)) (xs : List Call) → ((k : ℕ) → IsOneOf k reads → IsOneOf k reads') → ((k : ℕ) → IsOneOf k writes → IsOneOf k writes')
    → ((n : List ℕ) → IsOneOf n opened → IsOneOf n opened') → ((n : List ℕ) → IsOneOf n created → IsOneOf n created') → AreWithin reads writes opened created xs → AreWithin reads' writes' opened' created' xs
within_more r r' w w' o o' c c' [] rs ws os cs p = tt
within_more r r' w w' o o' c c' (call ∷ xs) rs ws os cs p = (
  one call p.0,
  within_more (opened_in call ++ r) (opened_in call ++ r') (created_in call ++ w) (created_in call ++ w') o o' c c' xs (λ i is. one_more i (opened_in call) r r' rs is) (λ i is. one_more i (created_in call) w w' ws is) os cs p.1,
)
  where
    one : (call : Call) → IsWithin r w o c call → IsWithin r' w' o' c' call
    one (Take h bytes mark) is = rs h is
    one (Write h bytes mark) is = ws h is
    one (Open name h) is = os name is
    one (Create append name h empty) is = cs name is
    one call is = tt

-- the handles that calls opened, and created
abbrev pub handles_opened : List Call → List ℕ
handles_opened xs = flat_map opened_in xs

abbrev pub handles_created : List Call → List ℕ
handles_created xs = flat_map created_in xs

one_moved : (i : ℕ) (hs xs ys : List ℕ) → IsOneOf i ((hs ++ xs) ++ ys) → IsOneOf i (xs ++ (hs ++ ys))
one_moved i hs xs ys is = elim (one_of_either i (hs ++ xs) ys is) [
  | inl these ↦ elim (one_of_either i hs xs these) [ inl first ↦ one_of_right i xs (hs ++ ys) (one_of_left i hs ys first) | inr more ↦ one_of_left i xs (hs ++ ys) more ]
  | inr last ↦ one_of_right i xs (hs ++ ys) (one_of_right i hs ys last)
]

-- calls, and behind them others that may use the handles that the first opened and created
pub within_behind : (reads writes : List ℕ) (opened created : List (List ℕ)) (xs ys : List Call) → AreWithin reads writes opened created xs → AreWithin (handles_opened xs ++ reads) (handles_created xs ++ writes) opened created ys
    → AreWithin reads writes opened created (xs ++ ys)
within_behind r w o c [] ys p q = q
within_behind r w o c (call ∷ xs) ys p q = (
  p.0,
  within_behind (opened_in call ++ r) (created_in call ++ w) o c xs ys p.1 (within_more _ (handles_opened xs ++ (opened_in call ++ r)) _ (handles_created xs ++ (created_in call ++ w)) o o c c ys
      (λ i is. one_moved i (opened_in call) (handles_opened xs) r is) (λ i is. one_moved i (created_in call) (handles_created xs) w is) (λ n is. is) (λ n is. is) q),
)

-- calls within some names, and behind them calls within others
pub within_append : (reads writes : List ℕ) (opened opened' created created' : List (List ℕ)) (xs ys : List Call) → AreWithin reads writes opened created xs → AreWithin reads writes opened' created' ys
    → AreWithin reads writes (opened ++ opened') (created ++ created') (xs ++ ys)
within_append r w o o' c c' xs ys p q = within_behind r w (o ++ o') (c ++ c') xs ys
    (within_more r r w w o (o ++ o') c (c ++ c') xs (λ i is. is) (λ i is. is) (λ n is. one_of_left n o o' is) (λ n is. one_of_left n c c' is) p)
    (within_more r (handles_opened xs ++ r) w (handles_created xs ++ w) o' (o ++ o') c' (c ++ c') ys (λ i is. one_of_right i (handles_opened xs) r is) (λ i is. one_of_right i (handles_created xs) w is) (λ n is. one_of_right n o o' is) (λ n is. one_of_right n c c' is) q)

-- calls on some handles alone are within them, and give none
pub on_within : (reads writes : List ℕ) (xs : List Call) → AreOn reads writes xs → AreWithin reads writes [] [] xs
on_within reads writes [] p = tt
on_within reads writes (Take h bytes mark ∷ xs) p = (p.0, on_within reads writes xs p.1)
on_within reads writes (Write h bytes mark ∷ xs) p = (p.0, on_within reads writes xs p.1)
on_within reads writes (call ∷ xs) p = absurd p.0

pub on_given : (reads writes : List ℕ) (xs : List Call) → AreOn reads writes xs → count_given xs ≡ 0
on_given reads writes [] p = refl
on_given reads writes (Open name h ∷ xs) p = absurd p.0
on_given reads writes (Create append name h empty ∷ xs) p = absurd p.0
on_given reads writes (call ∷ xs) p = on_given reads writes xs p.1

pub given_append : (xs ys : List Call) → count_given (xs ++ ys) ≡ count_given xs + count_given ys
given_append xs ys = ap length (flat_map-append (λ call. opened_in call ++ created_in call) xs ys) ∙ length-append (handles_given xs) (handles_given ys)

-- ---- calls that only open and read

pub opens_then : (names more : List (List ℕ)) (xs ys : List Call) → OnlyOpen names xs → OnlyOpen more ys → OnlyOpen (names ++ more) (xs ++ ys)
opens_then names more xs ys p q = (within_append [] [] names more [] [] xs ys p.0 q.0, omega (arith, p.1, q.1, given_append xs ys, length-append names more))

pub opens_more : (names more : List (List ℕ)) (xs : List Call) → OnlyOpen names xs → OnlyOpen (names ++ more) xs
opens_more names more xs p = subst (λ (calls : List Call). OnlyOpen (names ++ more) calls) (append-nil xs) (opens_then names more xs [] p (tt, omega arith))

-- calls that write none and create no file wrote nothing
pub within_written : (reads : List ℕ) (names : List (List ℕ)) (h : ℕ) (xs : List Call) → AreWithin reads [] names [] xs → written_by h xs ≡ []
within_written reads names h [] p = refl
within_written reads names h (Write k bytes mark ∷ xs) p = absurd p.0
within_written reads names h (Create append name k empty ∷ xs) p = absurd p.0
within_written reads names h (call ∷ xs) p = within_written (opened_in call ++ reads) names h xs p.1

pub opens_written : (names : List (List ℕ)) (h : ℕ) (xs : List Call) → OnlyOpen names xs → written_by h xs ≡ []
opens_written names h xs p = within_written [] names h xs p.0
