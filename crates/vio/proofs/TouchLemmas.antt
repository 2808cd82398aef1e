-- What several calls touch.
use Rattle.std.proofs.Common.{◌≡◌, ◌⊎◌, ℕ, true, false, List, [], ◌∷◌, ◌++◌, Some, refl, sym, ap, subst, ◌∙◌, inl, inr, ⊎_elim}
use Rattle.vio.specs.World.{Seen, CallKind, Writing, OnlyCounts, NoCountFalls}
use Rattle.vio.proofs.WholeLemmas.{NoCountFalls-then, OnlyCounts-none}
use Rattle.vio.specs.Touches.{IsOneOf, IsOtherSink, Touches}
use Rattle.vio.specs.Calls.{Call, Take, Write, Open, Create, Refuse, Lack, Does, Did, IsWithin, AreWithin, opened_in, created_in}

pub only_one : {A : Type 0} (x y : A) → IsOneOf x (y ∷ []) → x ≡ y
only_one x y o = ⊎_elim (λ (e : x ≡ y). e) (λ (none : ⊥). absurd none) o

-- what is one of a list is one of that list and more
pub one_of_left : {A : Type 0} (x : A) (xs ys : List A) → IsOneOf x xs → IsOneOf x (xs ++ ys)
one_of_left x [] ys p = absurd p
one_of_left x (y ∷ xs) ys (inl e) = inl e
one_of_left x (y ∷ xs) ys (inr p) = inr (one_of_left x xs ys p)

pub one_of_right : {A : Type 0} (x : A) (xs ys : List A) → IsOneOf x ys → IsOneOf x (xs ++ ys)
one_of_right x [] ys p = p
one_of_right x (y ∷ xs) ys p = inr (one_of_right x xs ys p)

-- one of two lists is one of the first or of the second
pub one_of_either : {A : Type 0} (x : A) (xs ys : List A) → IsOneOf x (xs ++ ys) → IsOneOf x xs ⊎ IsOneOf x ys
one_of_either x [] ys is = inr is
one_of_either x (y ∷ xs) ys (inl e) = inl (inl e)
one_of_either x (y ∷ xs) ys (inr is) = elim (one_of_either x xs ys is) [ inl first ↦ inl (inr first) | inr last ↦ inr last ]

-- ---- one call

-- a handle that was given is another than a new one
other_handle : (s : Seen) (h i : ℕ) → s.given h ≡ false → s.given i ≡ true → ¬ (i ≡ h)
other_handle s h i fresh given e = absurd cc

module _ (r w : List ℕ) (o c : List (List ℕ)) (s t : Seen) where
  -- a call that gives no handle and leaves all names
  still : NoCountFalls s t → ((i : ℕ) → ¬ (IsOneOf i w) → t.written i ≡ s.written i) → ((i : ℕ) → ¬ (IsOneOf i r) → t.left i ≡ s.left i) → ((k : CallKind) (i : ℕ) (n : List ℕ) → t.names k i n ≡ s.names k i n)
      → ((i : ℕ) → t.given i ≡ s.given i) → ((n bytes : List ℕ) → s.held n ≡ Some bytes → ((h : ℕ) → IsOneOf h w → IsOtherSink h n s) → t.held n ≡ Some bytes) → ((n : List ℕ) → t.lacks n ≡ s.lacks n) → Touches r w c s t
  still counts written left names given held lacks = record {
    counts = counts;
    written = λ i was. written i;
    left = λ i was. left i;
    names = λ k i n was. names k i n;
    given = λ i was. given i ∙ was;
    held = λ n bytes told other. held n bytes told;
    lacks = λ n other. lacks n;
  }

  touch_counts : OnlyCounts s t → Touches r w c s t
  touch_counts p = still p.counts (λ i other. p.written i) (λ i other. p.left i) p.names p.given (λ n bytes told sinks. p.held n ∙ told) p.lacks

  -- a call within these touches no more
  pub touch_one : (call : Call) → IsWithin r w o c call → Does call s t → Touches r w c s t
  touch_one (Take h bytes mark) is d =
      let p = d.0 in still p.counts (λ i other. p.written i) (λ i other. p.other_left i (λ e. other (subst (λ (j : ℕ). IsOneOf j r) (sym e) is))) p.names p.given (λ n held told sinks. p.held n ∙ told) p.lacks
  touch_one (Write h bytes mark) is d =
      let p = d.0 in still p.counts (λ i other. p.other_written i (λ e. other (subst (λ (j : ℕ). IsOneOf j w) (sym e) is))) (λ i other. p.left i) p.names p.given (λ n held told sinks. p.other_held n held (sinks h is).1 told) p.lacks
  touch_one (Open name h) is p = record {
    counts = p.counts;
    written = λ i was other. p.written i;
    left = λ i was other. p.other_left i (other_handle s h i p.fresh was);
    names = λ k i n was. p.other_names k i n (other_handle s h i p.fresh was);
    given = λ i was. p.other_given i (other_handle s h i p.fresh was) ∙ was;
    held = λ n bytes told other sinks. p.held n ∙ told;
    lacks = λ n other. p.lacks n;
  }
  touch_one (Create append name h empty) is p = record {
    counts = p.counts;
    written = λ i was other. p.written i;
    left = λ i was other. p.left i;
    names = λ k i n was. p.other_names k i n (other_handle s h i p.fresh was);
    given = λ i was. p.other_given i (other_handle s h i p.fresh was) ∙ was;
    held = λ n bytes told other sinks. p.other_held n (λ e. other (subst (λ (m : List ℕ). IsOneOf m c) (sym e) is)) ∙ told;
    lacks = λ n other. p.other_lacks n (λ e. other (subst (λ (m : List ℕ). IsOneOf m c) (sym e) is));
  }
  touch_one (Refuse kind name) is d = touch_counts d.0
  touch_one Lack is p = touch_counts p

-- what a call reads, writes, opens and creates
abbrev pub read_in : Call → List ℕ
read_in (Take h bytes mark) = h ∷ []
read_in call = []

abbrev sunk_in : Call → List ℕ
sunk_in (Write h bytes mark) = h ∷ []
sunk_in call = []

abbrev pub named_in : Call → List (List ℕ)
named_in (Open name h) = name ∷ []
named_in (Create append name h empty) = name ∷ []
named_in call = []

-- a call touches no more than that
pub touch_own : (call : Call) (s t : Seen) → Does call s t → Touches (read_in call) (sunk_in call) (named_in call) s t
touch_own call s t does = touch_one (read_in call) (sunk_in call) (named_in call) (named_in call) s t call (own call) does
  where
    own : (call : Call) → IsWithin (read_in call) (sunk_in call) (named_in call) (named_in call) call
    own (Take h bytes mark) = inl refl
    own (Write h bytes mark) = inl refl
    own (Open name h) = inl refl
    own (Create append name h empty) = inl refl
    own call = tt

-- ---- several calls, one after the other

-- a handle that wasn't given writes, now that it is, no told file but those that were created
pub record IsNewSink (created : List (List ℕ)) (k : ℕ) (before now : Seen) : Type 0 where
  pub fresh : before.given k ≡ false
  pub given : now.given k ≡ true
  pub alone : (n bytes : List ℕ) → now.held n ≡ Some bytes → ¬ (IsOneOf n created) → now.names Writing k n ≡ false

new_source : (reads : List ℕ) (call : Call) (s t : Seen) → Does call s t → (h : ℕ) → IsOneOf h (opened_in call ++ reads) → (s.given h ≡ false) ⊎ IsOneOf h reads
new_source reads (Open name i) s t p h (inl e) = inl (ap s.given e ∙ p.fresh)
new_source reads (Open name i) s t p h (inr is) = inr is
new_source reads call s t p h is = inr is

new_sink : (created : List (List ℕ)) (writes reads : List ℕ) (opened : List (List ℕ)) (call : Call) (s t : Seen) → IsWithin reads writes opened created call → Does call s t → (k : ℕ) → IsOneOf k (created_in call ++ writes) → IsNewSink created k s t ⊎ IsOneOf k writes
new_sink created writes reads opened (Create append name i empty) s t is p k (inl e) = inl (subst (λ (j : ℕ). IsNewSink created j s t) (sym e) (record {
  fresh = p.fresh;
  given = p.given;
  alone = λ n bytes told other. p.alone n bytes told (λ same. other (subst (λ (m : List ℕ). IsOneOf m created) (sym same) is));
}))
new_sink created writes reads opened (Create append name i empty) s t is p k (inr known) = inr known
new_sink created writes reads opened call s t is p k known = inr known

-- the second part may also read handles that the first gave, and write to those that it gave for files that it created
pub touches_over : (r r2 w w2 : List ℕ) (c : List (List ℕ)) (s t u : Seen) → Touches r w c s t → Touches r2 w2 c t u
    → ((h : ℕ) → IsOneOf h r2 → (s.given h ≡ false) ⊎ IsOneOf h r) → ((k : ℕ) → IsOneOf k w2 → IsNewSink c k s t ⊎ IsOneOf k w) → Touches r w c s u
touches_over r r2 w w2 c s t u p q sources sinks = record {
  counts = NoCountFalls-then p.counts q.counts;
  written = λ h given other. q.written h (p.given h given) (λ is. elim (sinks h is) [
    | inl new ↦ let fresh = new.fresh in absurd cc
    | inr known ↦ other known
  ]) ∙ p.written h given other;
  left = λ h given other. q.left h (p.given h given) (λ is. elim (sources h is) [
    | inl new ↦ absurd cc
    | inr known ↦ other known
  ]) ∙ p.left h given other;
  names = λ k h name given. q.names k h name (p.given h given) ∙ p.names k h name given;
  given = λ h given. q.given h (p.given h given);
  held = λ n bytes told other known.
      let still = p.held n bytes told other known in
      q.held n bytes still other (λ k is. elim (sinks k is) [
        | inl new ↦ (new.given, new.alone n bytes still other)
        | inr old ↦ let sink = known k old in (p.given k sink.0, p.names Writing k n sink.0 ∙ sink.1)
      ]);
  lacks = λ n other. q.lacks n other ∙ p.lacks n other;
}

-- calls touch no more than what they are within
pub did_touch : (reads writes : List ℕ) (opened created : List (List ℕ)) (calls : List Call) (s t : Seen) → AreWithin reads writes opened created calls → Did calls s t → Touches reads writes created s t
did_touch r w o c [] s t is did = subst (λ (x : Seen). Touches r w c s x) (sym did) (touch_counts r w o c s s (OnlyCounts-none s))
did_touch r w o c (call ∷ calls) s t is did = touches_over r (opened_in call ++ r) w (created_in call ++ w) c s did.0 t (touch_one r w o c s did.0 call is.0 did.1)
    (did_touch (opened_in call ++ r) (created_in call ++ w) o c calls did.0 t is.1 did.2) (new_source r call s did.0 did.1) (new_sink c w r o call s did.0 is.0 did.1)
