-- What is given to each writer, where the log gets one unit more.
use Rattle.std.proofs.Common.{◌≡◌, ◌≢◌, ℕ, suc, cond, eqb, List, [], ◌∷◌, ◌++◌, length, sym, refl, ap, ◌∙◌, arith, eq-eqb, ne_eqb}
use Rattle.std.proofs.lemmas.List.{append-nil}
use mathlib.Core.Logic.{dite}
use native.Mathlib.Decide.{ℕ_discrete}
use Rattle.log_model.specs.Interleaving.{given_to}
use Rattle.vsl_record.specs.Unit.{LogUnit, Log}
use Rattle.ring_layout.specs.Places.{end_at, tail_from, tail}
use Rattle.log_ring.specs.Closed.{entries_from}

module _ {A : Type 0} where
  given_push : (k : ℕ) (owners : List ℕ) (xs : List A) (owner : ℕ) (x : A) → length owners ≡ length xs
      → given_to k (owners ++ owner ∷ []) (xs ++ x ∷ []) ≡ given_to k owners xs ++ cond (eqb owner k) (x ∷ []) []
  given_push k [] [] owner x long = refl
  given_push k [] (y ∷ ys) owner x long = absurd (omega arith)
  given_push k (o ∷ os) [] owner x long = absurd (omega arith)
  given_push k (o ∷ os) (y ∷ ys) owner x long = let rest = given_push k os ys owner x (omega arith) in dite (ℕ_discrete o k)
      (λ e. rw (eq-eqb o k e) (ap (λ (l : List A). y ∷ l) rest))
      (λ ne. rw (ne_eqb o k ne) rest)

  pub given_here : (k : ℕ) (owners : List ℕ) (xs : List A) (x : A) → length owners ≡ length xs → given_to k (owners ++ k ∷ []) (xs ++ x ∷ []) ≡ given_to k owners xs ++ x ∷ []
  given_here k owners xs x long = given_push k owners xs k x long ∙ (λ i. given_to k owners xs ++ cond (eq-eqb k k refl i) (x ∷ []) [])

  pub given_else : (k : ℕ) (owners : List ℕ) (xs : List A) (owner : ℕ) (x : A) → length owners ≡ length xs → owner ≢ k → given_to k (owners ++ owner ∷ []) (xs ++ x ∷ []) ≡ given_to k owners xs
  given_else k owners xs owner x long ne = given_push k owners xs owner x long ∙ ((λ i. given_to k owners xs ++ cond (ne_eqb owner k ne i) (x ∷ []) []) ∙ append-nil (given_to k owners xs))

module _ (words : LogUnit → List ℕ) (seg : ℕ) where
  entries_more : (t : ℕ) (log : Log) (u : LogUnit) → entries_from words seg t (log ++ u ∷ []) ≡ entries_from words seg t log ++ (tail_from words seg t log, u) ∷ []
  entries_more t [] u = refl
  entries_more t (x ∷ xs) u = ap (λ (l : List (ℕ × LogUnit)). (t, x) ∷ l) (entries_more (end_at seg t (length (words x))) xs u)

  pub entries_long : (t : ℕ) (log : Log) → length (entries_from words seg t log) ≡ length log
  entries_long t [] = refl
  entries_long t (x ∷ xs) = ap suc (entries_long (end_at seg t (length (words x))) xs)

  -- the writer's entries get the unit beside the old tail
  pub entry_here : (k : ℕ) (owners : List ℕ) (log : Log) (u : LogUnit) → length owners ≡ length log
      → given_to k (owners ++ k ∷ []) (entries_from words seg 0 (log ++ u ∷ [])) ≡ given_to k owners (entries_from words seg 0 log) ++ (tail words seg log, u) ∷ []
  entry_here k owners log u long = ap (given_to k (owners ++ k ∷ [])) (entries_more 0 log u) ∙ given_here k owners (entries_from words seg 0 log) (tail words seg log, u) (long ∙ sym (entries_long 0 log))

  -- those of the others stay
  pub entry_else : (k owner : ℕ) (owners : List ℕ) (log : Log) (u : LogUnit) → length owners ≡ length log → owner ≢ k
      → given_to k (owners ++ owner ∷ []) (entries_from words seg 0 (log ++ u ∷ [])) ≡ given_to k owners (entries_from words seg 0 log)
  entry_else k owner owners log u long ne = ap (given_to k (owners ++ owner ∷ [])) (entries_more 0 log u) ∙ given_else k owners (entries_from words seg 0 log) owner (tail words seg log, u) (long ∙ sym (entries_long 0 log)) ne
