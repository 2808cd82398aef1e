-- What follows of a promise in the world.
use Rattle.std.proofs.Common.{◌≡◌, ◌≢◌, ℕ, true, List, [], ◌++◌, Option, Some, refl, sym, ap, subst, ◌∙◌, inl, inr}
use Rattle.std.specs.Prelude.{codes}
use Rattle.vio.specs.declared.world.TheConstants.{ERRORS}
use Rattle.vio.specs.World.{Seen, Gains}
use Rattle.std.proofs.lemmas.List.{append-nil}
use Rattle.vio.specs.Calls.{Mark, Call, last_failed, written_by}
use Rattle.one_command.specs.Promise.{Says, SaysPart, Works, Promised}
use Rattle.vio.specs.Steps.{Passed, Stopped}
use Rattle.vio.proofs.CallLemmas.{did_then, written_append, written_other}
use Rattle.vio.proofs.CallLaws.{did_gain}
use Rattle.vio.proofs.StepLemmas.{stopped_before, stopped_behind}

-- what is said goes to standard error alone
pub said_other : (h : ℕ) (text : List ℕ) (calls : List Call) → h ≢ ERRORS → Says text calls → written_by h calls ≡ []
said_other h text calls other (inl none) = ap (λ (x : List Call). written_by h x) none.1
said_other h text calls other (inr (inl whole)) = ap (λ (x : List Call). written_by h x) whole ∙ written_other ERRORS h text Mark.Went (λ e. other (sym e))
said_other h text calls other (inr (inr part)) = ap (λ (x : List Call). written_by h x) part.2 ∙ written_other ERRORS h part.0 (Mark.Failed (codes "stderr")) (λ e. other (sym e))

pub part_other : (h : ℕ) (text : List ℕ) (calls : List Call) → h ≢ ERRORS → SaysPart text calls → written_by h calls ≡ []
part_other h text calls other (inl none) = ap (λ (x : List Call). written_by h x) none
part_other h text calls other (inr part) = ap (λ (x : List Call). written_by h x) part.2 ∙ written_other ERRORS h part.0 Mark.Went (λ e. other (sym e))

module _ {S X F R : Type 0} (Passes : S → X → List Call → Type 0) (Stops : S → F → List Call → Type 0) (Ran : Seen → Option F → R → List X → List Call → Type 0) (alone : List X → List ℕ) (nothing : R) where
  -- another handle gained what the work wrote to it, whatever was said
  pub promised_gain : (IsSaid : List Call → Type 0) (steps : List S) (fault : Option F) (recorded : R) (h : ℕ) (s t : Seen) → ((calls : List Call) → IsSaid calls → written_by h calls ≡ [])
      → (p : Promised Passes Stops Ran alone nothing IsSaid steps fault recorded s t) → Gains (s.written h) (t.written h) (written_by h p.work)
  promised_gain IsSaid steps fault recorded h s t silent p =
      subst (λ (text : List ℕ). Gains (s.written h) (t.written h) text) (written_append h p.work p.said ∙ ap (λ (x : List ℕ). written_by h p.work ++ x) (silent p.said p.says) ∙ append-nil (written_by h p.work)) (did_gain h (p.work ++ p.said) s t (did_then p.work p.said s p.at t p.did p.told))

  -- one of the first steps stopped the job, whatever steps come
  pub early_first : (xs ys : List S) (at : Seen) (fault : F) (calls : List Call) → Stopped Passes Stops xs fault calls → last_failed calls ≡ true → Works Passes Stops Ran alone nothing (xs ++ ys) at (Some fault) nothing calls
  early_first xs ys at fault calls p fail = inl (record { by = fault; is = refl; none = refl; stopped = stopped_before Passes Stops xs ys fault calls p; fail = fail })

  -- the first steps passed, and one of the others stopped it
  pub early_behind : (xs ys : List S) (at : Seen) (fault : F) (found : List X) (a b : List Call) → Passed Passes Stops xs found a → Stopped Passes Stops ys fault b → last_failed (a ++ b) ≡ true → Works Passes Stops Ran alone nothing (xs ++ ys) at (Some fault) nothing (a ++ b)
  early_behind xs ys at fault found a b p q fail = inl (record { by = fault; is = refl; none = refl; stopped = stopped_behind Passes Stops xs ys fault found a b p q; fail = fail })
