-- A writer's turn: what is put, and what is still to be put.
use Rattle.std.proofs.Common.{◌≡◌, ◌⊎◌, ℕ, zero, suc, ◌+◌, ◌<◌, ◌≤◌, Bool, cond, eqb, List, [], ◌∷◌, ◌++◌, length, map, get_or, slice_get, sym, refl, ap, ◌∙◌, subst, ⊎_elim, inl, inr, arith, Option, Some, None, ne_eqb, append_assoc}
use Rattle.std.proofs.lemmas.List.{append-nil}
use Rattle.std.proofs.Math.Dec.{eqb-suc-suc}
use Rattle.std.specs.Option.{unwrap_or, option_map}
use Rattle.log_model.specs.Interleaving.{given_to, IsInterleaving}
use Rattle.vsl_record.specs.Unit.{LogUnit, Log}
use Rattle.feed_schedule.specs.Schedule.{count_writers, put_by, without_next}

-- what holds of a log holds of a longer one, where each unit more leaves it so
pub stays_longer : (P : Log → Type 0) → ((log : Log) (u : LogUnit) → P log → P (log ++ u ∷ [])) → (log more : Log) → P log → P (log ++ more)
stays_longer P longer log [] h = subst P (sym (append-nil log)) h
stays_longer P longer log (u ∷ more) h = subst P (append_assoc log (u ∷ []) more) (stays_longer P longer (log ++ u ∷ []) more (longer log u h))

-- a writer that puts nothing leaves
pub leave_counts : (k : ℕ) (writers : List (Option Log)) → k < count_writers writers → count_writers (without_next k writers) + 1 ≡ length (put_by k writers) + count_writers writers
leave_counts k [] l = absurd (omega arith)
leave_counts k (None ∷ writers) l = leave_counts k writers l
leave_counts zero (Some [] ∷ writers) l = omega arith
leave_counts zero (Some (u ∷ units) ∷ writers) l = omega arith
leave_counts (suc k) (Some units ∷ writers) l = let r = leave_counts k writers (omega arith) in omega arith

-- no more writers have not left than before
pub count_falls : (k : ℕ) (writers : List (Option Log)) → count_writers (without_next k writers) ≤ count_writers writers
count_falls k [] = omega arith
count_falls k (None ∷ writers) = count_falls k writers
count_falls zero (Some [] ∷ writers) = omega arith
count_falls zero (Some (u ∷ units) ∷ writers) = omega arith
count_falls (suc k) (Some units ∷ writers) = let r = count_falls k writers in omega arith

-- what each writer has still to put
abbrev pub left_to_put : List (Option Log) → List Log
left_to_put writers = map (λ (w : Option Log). unwrap_or w []) writers

-- all have something to put at first
first_to_put : (feeds : List Log) → left_to_put (map Some feeds) ≡ feeds
first_to_put [] = refl
first_to_put (feed ∷ feeds) = ap (λ l. feed ∷ l) (first_to_put feeds)

-- nothing is left to put where all writers have left
pub all_left : (writers : List (Option Log)) (i : ℕ) → count_writers writers ≡ 0 → i < length (left_to_put writers) → slice_get (left_to_put writers) i ≡ Some []
all_left [] i e l = absurd (omega arith)
all_left (None ∷ writers) zero e l = refl
all_left (None ∷ writers) (suc i) e l = all_left writers i e (omega arith)
all_left (Some units ∷ writers) i e l = absurd (omega arith)

-- number j of the lists is longer by a unit in front, and all others are the same
pub record IsLonger (u : LogUnit) (j : ℕ) (lists longer : List Log) : Type 0 where
  pub inside : j < length lists
  pub as_many : length longer ≡ length lists
  pub each : (i : ℕ) (units : Log) → slice_get lists i ≡ Some units → slice_get longer i ≡ Some (cond (eqb j i) (u ∷ units) units)

-- nothing was put and the lists are the same, or a unit that one of them had in front
abbrev Puts : Log → List Log → List Log → Type 0
Puts put lists longer = ((put ≡ []) × (lists ≡ longer)) ⊎ ((u : LogUnit) × (j : ℕ) × (put ≡ u ∷ []) × IsLonger u j lists longer)

-- the same behind one more list
longer_behind : (u : LogUnit) (j : ℕ) (lists longer : List Log) (x : Log) → IsLonger u j lists longer → IsLonger u (suc j) (x ∷ lists) (x ∷ longer)
longer_behind u j lists longer x h = record {
  inside = let i = h.inside in omega arith;
  as_many = ap suc h.as_many;
  each = each_behind;
}
  where
    each_behind : (i : ℕ) (units : Log) → slice_get (x ∷ lists) i ≡ Some units → slice_get (x ∷ longer) i ≡ Some (cond (eqb (suc j) i) (u ∷ units) units)
    each_behind zero units e = e ∙ ap (λ (b : Bool). Some (cond b (u ∷ units) units)) (sym (ne_eqb (suc j) 0 (omega arith)))
    each_behind (suc i) units e = h.each i units e ∙ ap (λ (b : Bool). Some (cond b (u ∷ units) units)) (sym (eqb-suc-suc j i))

-- the same behind one more list
puts_behind : (put : Log) (lists longer : List Log) (x : Log) → Puts put lists longer → Puts put (x ∷ lists) (x ∷ longer)
puts_behind put lists longer x h = ⊎_elim (λ (a : (put ≡ []) × (lists ≡ longer)). inl (a.0, ap (λ l. x ∷ l) a.1))
    (λ (b : (u : LogUnit) × (j : ℕ) × (put ≡ u ∷ []) × IsLonger u j lists longer). inr (b.0, suc b.1, b.2, longer_behind b.0 b.1 lists longer x b.3)) h

-- the first list has it in front
longer_first : (u : LogUnit) (units : Log) (lists : List Log) → IsLonger u 0 (units ∷ lists) ((u ∷ units) ∷ lists)
longer_first u units lists = record { inside = omega arith; as_many = refl; each = each_first }
  where
    each_first : (i : ℕ) (x : Log) → slice_get (units ∷ lists) i ≡ Some x → slice_get ((u ∷ units) ∷ lists) i ≡ Some (cond (eqb 0 i) (u ∷ x) x)
    each_first zero x e = ap (λ (y : Option Log). option_map (λ (l : Log). u ∷ l) y) e
    each_first (suc i) x e = e ∙ ap (λ (b : Bool). Some (cond b (u ∷ x) x)) (sym (ne_eqb 0 (suc i) (omega arith)))

-- a turn puts nothing, or the first unit of a writer
puts_from : (k : ℕ) (writers : List (Option Log)) → Puts (put_by k writers) (left_to_put (without_next k writers)) (left_to_put writers)
puts_from k [] = inl (refl, refl)
puts_from k (None ∷ writers) = puts_behind (put_by k writers) (left_to_put (without_next k writers)) (left_to_put writers) [] (puts_from k writers)
puts_from zero (Some [] ∷ writers) = inl (refl, refl)
puts_from zero (Some (u ∷ units) ∷ writers) = inr (u, 0, refl, longer_first u units (left_to_put writers))
puts_from (suc k) (Some units ∷ writers) = puts_behind (put_by k writers) (left_to_put (without_next k writers)) (left_to_put writers) units (puts_from k writers)

-- an interleaving with a unit in front, of lists one of which has it in front
unit_more : (u : LogUnit) (j : ℕ) (log : Log) (lists longer : List Log) → IsLonger u j lists longer → IsInterleaving log lists → IsInterleaving (u ∷ log) longer
unit_more u j log lists longer l h = record {
  owners = j ∷ h.owners;
  one_each = ap suc h.one_each;
  are_lists = within;
  whole = λ i inside. l.each i (given_to i h.owners log) (h.whole i (let a = l.as_many in omega arith));
}
  where
    within : (i : ℕ) → i < length (j ∷ h.owners) → get_or (j ∷ h.owners) i 0 < length longer
    within zero inside = let a = l.as_many in let b = l.inside in omega arith
    within (suc i) inside = let a = l.as_many in let b = h.are_lists i (omega arith) in omega arith

-- what is put in a turn, before an interleaving of what is left to put then, is an interleaving of what was left to put
pub turn_interleaves : (k : ℕ) (writers : List (Option Log)) (log : Log) → IsInterleaving log (left_to_put (without_next k writers)) → IsInterleaving (put_by k writers ++ log) (left_to_put writers)
turn_interleaves k writers log h = let lists : List Log = left_to_put (without_next k writers) in let longer : List Log = left_to_put writers in
    ⊎_elim (λ (a : (put_by k writers ≡ []) × (lists ≡ longer)). subst (λ l. IsInterleaving (l ++ log) longer) (sym a.0) (subst (λ l. IsInterleaving log l) a.1 h))
    (λ (b : (u : LogUnit) × (j : ℕ) × (put_by k writers ≡ u ∷ []) × IsLonger u j lists longer). subst (λ l. IsInterleaving (l ++ log) longer) (sym b.2) (unit_more b.0 b.1 log lists longer b.3 h)) (puts_from k writers)

-- nothing is an interleaving of lists of nothing
pub nothing_interleaves : (writers : List (Option Log)) → count_writers writers ≡ 0 → IsInterleaving [] (left_to_put writers)
nothing_interleaves writers e = record { owners = []; one_each = refl; are_lists = λ i inside. absurd (omega arith); whole = λ i inside. all_left writers i e inside }

-- ---- from a turn to the end

-- a log is what was put, and then an interleaving of what was still to be put
abbrev pub GoesOn : Log → Log → List (Option Log) → Type 0
GoesOn log put writers = (more : Log) × (log ≡ put ++ more) × IsInterleaving more (left_to_put writers)

-- so it is at the end, when all writers have left
pub goes_on_end : (log : Log) (writers : List (Option Log)) → count_writers writers ≡ 0 → GoesOn log log writers
goes_on_end log writers e = ([], sym (append-nil log), nothing_interleaves writers e)

-- before a turn where it is so after it
pub goes_on_turn : (k : ℕ) (log put : Log) (writers : List (Option Log)) → GoesOn log (put ++ put_by k writers) (without_next k writers) → GoesOn log put writers
goes_on_turn k log put writers h = (put_by k writers ++ h.0, h.1 ∙ append_assoc put (put_by k writers) h.0, turn_interleaves k writers h.0 h.2)

-- from the first turn on the log is an interleaving of the feeds
pub goes_on_first : (log : Log) (feeds : List Log) → GoesOn log [] (map Some feeds) → IsInterleaving log feeds
goes_on_first log feeds h = subst (λ l. IsInterleaving l feeds) (sym h.1) (subst (λ lists. IsInterleaving h.0 lists) (first_to_put feeds) h.2)
