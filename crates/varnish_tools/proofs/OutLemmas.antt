-- What a job writes: it is made behind calls that keep the files, and isn't standard error.
use Rattle.std.specs.Bool.{MatchBool}
use Rattle.std.proofs.Common.{◌≡◌, ◌≢◌, ℕ, ◌<◌, ◌==◌, Bool, true, false, List, [], ◌∷◌, ◌++◌, length, Some, refl, sym, ap, subst, ◌∙◌, arith}
use Rattle.vio.specs.declared.world.TheConstants.{ERRORS, OUTPUT}
use Rattle.vio.specs.World.{FileCreated, Seen, Writing, begins_with}
use Rattle.vio.specs.Touches.{Touches}
use Rattle.vio.specs.Calls.{AreOn, AreWithin, Call, Create, Did, written_by}
use Rattle.vio.proofs.CallLaws.{did_given, did_hold}
use Rattle.vio.proofs.CallLemmas.{on_names}
use Rattle.vio.proofs.TouchLemmas.{did_touch}
use Rattle.job_steps.proofs.GoodLemmas.{begins_kept}
use Rattle.varnish_tools.specs.Told.{IsFileSink}

-- the handle of what is written isn't that of standard error
pub sink_apart : (b append : Bool) (name : List ℕ) (h : ℕ) (empty : Bool) (calls : List Call) (s t : Seen) → MatchBool b ((h ≡ OUTPUT) × (empty ≡ true) × (calls ≡ [])) (calls ≡ Create append name h empty ∷ []) → Did calls s t → h ≢ ERRORS
sink_apart true append name h empty calls s t made did e = let no : OUTPUT ≡ ERRORS = sym made.0 ∙ e in cc
sink_apart false append name h empty calls s t made did e = let no : 2 < 2 = subst (λ (i : ℕ). 2 < i) e (subst (λ (cs : List Call). Did cs s t) made did).1.no_stream in omega (arith, no)

fresh_before : (b c : Bool) → (b ≡ true → c ≡ true) → c ≡ false → b ≡ false
fresh_before true c stays none = let given = stays refl in cc
fresh_before false c stays none = refl

-- a file was created, and is so behind calls that only open files and read them
record IsMade (append : Bool) (name : List ℕ) (h : ℕ) (empty : Bool) (before now : Seen) : Type 0 where
  fresh : before.given h ≡ false
  given : now.given h ≡ true
  no_stream : 2 < h
  is_named : now.names Writing h name ≡ true
  emptied : append ≡ false → empty ≡ true
  is_empty : (first : List ℕ) → begins_with append name before ≡ Some first → empty ≡ (length first == 0)
  held : (first : List ℕ) → begins_with append name before ≡ Some first → now.held name ≡ Some first

made_still : (append : Bool) (name : List ℕ) (h : ℕ) (empty : Bool) (opened : List (List ℕ)) (looked : List Call) (s t u : Seen) → FileCreated append name h empty s t → AreWithin [] [] opened [] looked → Did looked t u → IsMade append name h empty s u
made_still append name h empty opened looked s t u made opens did =
    let touches = did_touch [] [] opened [] looked t u opens did in
    record {
      fresh = made.fresh;
      given = touches.given h made.given;
      no_stream = made.no_stream;
      is_named = touches.names Writing h name made.given ∙ made.is_named;
      emptied = made.emptied;
      is_empty = made.is_empty;
      held = λ first told. touches.held name first (made.held first told) (λ none. none) (λ k none. absurd none);
    }

-- what was made behind calls that keep the files, and what was written to it behind that
module _ (append : Bool) (name : List ℕ) (h : ℕ) (empty : Bool) (reads : List ℕ) (text : List ℕ) (calls : List Call) (r s t now : Seen) (touches : Touches [] [] [] r s) (errors : t.names Writing ERRORS name ≡ r.names Writing ERRORS name)
    (on : AreOn reads (ERRORS ∷ h ∷ []) calls) (did : Did calls t now) (are : written_by h calls ≡ text) where
  file_sink : IsMade append name h empty s t → IsFileSink append name h empty text r now
  file_sink made =
      let kept : (first : List ℕ) → begins_with append name r ≡ Some first → begins_with append name s ≡ Some first =
      λ first. begins_kept append name first r s (touches.lacks name (λ none. none)) (λ bytes told. touches.held name bytes told (λ none. none) (λ k none. absurd none)) in
      record {
        fresh = fresh_before (r.given h) (s.given h) (touches.given h) made.fresh;
        given = did_given h calls t now did made.given;
        is_named = on_names reads (ERRORS ∷ h ∷ []) calls t now on did Writing h name ∙ made.is_named;
        emptied = made.emptied;
        is_empty = λ first told. made.is_empty first (kept first told);
        holds = λ first told apart. did_hold reads h name calls t now on made.no_stream made.is_named (errors ∙ apart) did first (made.held first (kept first told)) ∙ ap (λ (xs : List ℕ). Some (first ++ xs)) are;
      }

  pub out_by : (b : Bool) (own looked : List Call) (opened : List (List ℕ)) (mid : Seen) → MatchBool b ((h ≡ OUTPUT) × (empty ≡ true) × (own ≡ [])) (own ≡ Create append name h empty ∷ []) → Did own s mid → AreWithin [] [] opened [] looked → Did looked mid t
      → MatchBool b ((h ≡ OUTPUT) × (empty ≡ true)) (IsFileSink append name h empty text r now)
  out_by true own looked opened mid made does opens looks = (made.0, made.1)
  out_by false own looked opened mid made does opens looks =
      let one = subst (λ (cs : List Call). Did cs s mid) made does in
      file_sink (made_still append name h empty opened looked s mid t (subst (λ (u : Seen). FileCreated append name h empty s u) (sym one.2) one.1) opens looks)
