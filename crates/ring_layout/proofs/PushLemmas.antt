-- A log with one unit more.
use Rattle.std.proofs.Common.{◌≡◌, ℕ, ◌/◌, eqb, List, [], ◌∷◌, ◌++◌, length, sym, refl, ap, ◌∙◌, Option, Some, None}
use Rattle.std.specs.Option.{option_or}
use Rattle.ring_layout.specs.Places.{start_at, end_at, if_some, first_in, tail_from, placed_word, words_from, ends_from, tail, segment_start}

pub or_none : (x : Option ℕ) → option_or x None ≡ x
or_none (Some x) = refl
or_none None = refl

pub or_assoc : (x y z : Option ℕ) → option_or (option_or x y) z ≡ option_or x (option_or y z)
or_assoc (Some x) y z = refl
or_assoc None y z = refl

pub first_more : (seg s : ℕ) (ps qs : List ℕ) → first_in seg s (ps ++ qs) ≡ option_or (first_in seg s ps) (first_in seg s qs)
first_more seg s [] qs = refl
first_more seg s (p ∷ ps) qs = ap (option_or (if_some (eqb (p / seg) s) p)) (first_more seg s ps qs) ∙ sym (or_assoc (if_some (eqb (p / seg) s) p) (first_in seg s ps) (first_in seg s qs))

module _ {U : Type 0} (words : U → List ℕ) (seg : ℕ) where
  abbrev size : U → ℕ
  size u = length (words u)

  tail_more : (t : ℕ) (us : List U) (u : U) → tail_from words seg t (us ++ u ∷ []) ≡ end_at seg (tail_from words seg t us) (size u)
  tail_more t [] u = refl
  tail_more t (x ∷ xs) u = tail_more (end_at seg t (size x)) xs u

  pub tail_push : (us : List U) (u : U) → tail words seg (us ++ u ∷ []) ≡ end_at seg (tail words seg us) (size u)
  tail_push us u = tail_more 0 us u

  words_more : (t : ℕ) (us : List U) (u : U) (q : ℕ) → words_from words seg t (us ++ u ∷ []) q ≡ option_or (words_from words seg t us q) (placed_word words seg (tail_from words seg t us) u q)
  words_more t [] u q = or_none (placed_word words seg t u q)
  words_more t (x ∷ xs) u q = ap (option_or (placed_word words seg t x q)) (words_more (end_at seg t (size x)) xs u q)
      ∙ sym (or_assoc (placed_word words seg t x q) (words_from words seg (end_at seg t (size x)) xs q) (placed_word words seg (tail_from words seg (end_at seg t (size x)) xs) u q))

  pub words_push : (us : List U) (u : U) (q : ℕ) → words_from words seg 0 (us ++ u ∷ []) q ≡ option_or (words_from words seg 0 us q) (placed_word words seg (tail words seg us) u q)
  words_push us u q = words_more 0 us u q

  ends_more : (t : ℕ) (us : List U) (u : U) → ends_from words seg t (us ++ u ∷ []) ≡ ends_from words seg t us ++ start_at seg (tail_from words seg t us) (size u) ∷ end_at seg (tail_from words seg t us) (size u) ∷ []
  ends_more t [] u = refl
  ends_more t (x ∷ xs) u = ap (λ l. start_at seg t (size x) ∷ end_at seg t (size x) ∷ l) (ends_more (end_at seg t (size x)) xs u)

  -- the segment_start of a segment with one unit more: the old one, or the first of the unit's start and end that lies there
  pub start_push : (us : List U) (u : U) (s : ℕ) → segment_start words seg (us ++ u ∷ []) s ≡ option_or (segment_start words seg us s) (first_in seg s (start_at seg (tail words seg us) (size u) ∷ end_at seg (tail words seg us) (size u) ∷ []))
  start_push us u s = ap (λ (l : List ℕ). first_in seg s (0 ∷ l)) (ends_more 0 us u) ∙ first_more seg s (0 ∷ ends_from words seg 0 us) (start_at seg (tail words seg us) (size u) ∷ end_at seg (tail words seg us) (size u) ∷ [])
