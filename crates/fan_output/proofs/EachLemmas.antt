-- Outputs one after the other: those below a place were written, and the others wait.
use Rattle.std.proofs.Common.{◌≡◌, ◌≢◌, ◌⊎◌, ℕ, zero, suc, ◌+◌, ◌<◌, ◌≤◌, ◌==◌, ◌||◌, Bool, true, false, List, [], ◌∷◌, ◌++◌, length, slice_get, set, get_or, Option, Some, None, refl, sym, ap, subst, ◌∙◌, append_assoc, arith, inl, inr}
use Rattle.std.proofs.lemmas.Bool.{eq-eqb}
use Rattle.std.proofs.lemmas.List.{append-nil, length-set}
use Rattle.std.specs.List.{list_any}
use Rattle.log_model.specs.Prefix.{IsPrefix}
use Rattle.vio.specs.declared.world.TheConstants.{ERRORS}
use Rattle.vio.specs.World.{Seen, Writing}
use Rattle.vio.specs.Touches.{IsOneOf}
use Rattle.vio.specs.Calls.{Call, AreOn, fails, written_by}
use Rattle.vio.specs.Alone.{fails_but, none_ends}
use Rattle.vio.proofs.AloneLemmas.{but_late}
use Rattle.vio.proofs.CallLemmas.{did_then, on_append, on_names}
use Rattle.ring_layout.specs.declared.item.Item.{Item}
use Rattle.one_run.specs.Run.{MadeBut}
use Rattle.fan_output.specs.declared.piece.Piece.{Piece}
use Rattle.fan_output.specs.declared.sink.Sink.{Sink}
use Rattle.fan_output.specs.Messages.{messages_of}
use Rattle.fan_output.specs.Ends.{Due, TextShort}
use Rattle.fan_output.specs.Fan.{AreApart, AreNamed, FanShort, IsAway, Outlet, due_at, handles, outlet_at, outlets_of, several}
use Rattle.fan_output.specs.inside.Pieces.{is_end}
use Rattle.fan_output.specs.inside.Steps.{AllWait, AllWrote, BlamesOn, Waits, Wrote}
use Rattle.fan_output.specs.Laws.{blames_still}
use Rattle.fan_output.proofs.EndLemmas.{took_prefix}
use Rattle.fan_output.proofs.PlaceLemmas.{Became, PlaceMade, on_away, still, waits_short, waits_still, wrote_still, short_still, gone_short}

-- ---- places

pub tri : (i k : ℕ) → (i < k) ⊎ ((i ≡ k) ⊎ (k < i))
tri zero zero = inr (inl refl)
tri zero (suc k) = inl (omega arith)
tri (suc i) zero = inr (inr (omega arith))
tri (suc i) (suc k) = elim (tri i k) [ inl p ↦ inl (omega (arith, p)) | inr q ↦ elim q [ inl e ↦ inr (inl (omega (arith, e))) | inr p ↦ inr (inr (omega (arith, p))) ] ]

pub get_within : {A : Type 0} (xs : List A) (i : ℕ) (x : A) → slice_get xs i ≡ Some x → i < length xs
get_within [] i x is = absurd cc
get_within (y ∷ xs) zero x is = omega arith
get_within (y ∷ xs) (suc i) x is = omega (arith, get_within xs i x is)

pub get_there : {A : Type 0} (xs : List A) (i : ℕ) → i < length xs → (x : A) × (slice_get xs i ≡ Some x)
get_there [] i within = absurd (omega (arith, within))
get_there (y ∷ xs) zero within = (y, refl)
get_there (y ∷ xs) (suc i) within = get_there xs i (omega (arith, within))

-- what is read at a place within is there
pub get_read : {A : Type 0} (xs : List A) (i : ℕ) (x : A) → x ≡ get_or xs i x → i < length xs → slice_get xs i ≡ Some x
get_read [] i x is within = absurd (omega (arith, within))
get_read (y ∷ xs) zero x is within = ap Some (sym is)
get_read (y ∷ xs) (suc i) x is within = get_read xs i x is (omega (arith, within))

pub get_set : {A : Type 0} (xs : List A) (i : ℕ) (x : A) → i < length xs → slice_get (set xs i x) i ≡ Some x
get_set [] i x within = absurd (omega (arith, within))
get_set (y ∷ xs) zero x within = refl
get_set (y ∷ xs) (suc i) x within = get_set xs i x (omega (arith, within))

pub get_other : {A : Type 0} (xs : List A) (i j : ℕ) (x : A) → j ≢ i → slice_get (set xs i x) j ≡ slice_get xs j
get_other [] i j x other = refl
get_other (y ∷ xs) zero zero x other = absurd (other refl)
get_other (y ∷ xs) zero (suc j) x other = refl
get_other (y ∷ xs) (suc i) zero x other = refl
get_other (y ∷ xs) (suc i) (suc j) x other = get_other xs i j x (λ e. other (ap suc e))

some_same : {A : Type 0} (x y : A) (o : Option A) → o ≡ Some x → o ≡ Some y → x ≡ y
some_same x y o p q = cc

-- the handle at a place is one of the handles
pub one_handle : (sinks : List Sink) (i : ℕ) (s : Sink) → slice_get sinks i ≡ Some s → IsOneOf s.handle (handles sinks)
one_handle [] i s is = absurd cc
one_handle (y ∷ sinks) zero s is = inl (ap (λ (x : Sink). x.handle) (some_same s y (Some y) is refl))
one_handle (y ∷ sinks) (suc i) s is = inr (one_handle sinks i s is)

pub on_one : (h : ℕ) (hs : List ℕ) (more : List Call) → IsOneOf h hs → AreOn [] (h ∷ []) more → AreOn [] hs more
on_one h hs [] one on = tt
on_one h hs (Call.Write k bytes mark ∷ more) one on = (elim on.0 [ inl is ↦ subst (λ (x : ℕ). IsOneOf x hs) (sym is) one | inr none ↦ absurd none ], on_one h hs more one on.1)
on_one h hs (call ∷ more) one on = absurd on.0

-- calls on sinks say nothing
pub on_quiet : (sinks : List Sink) (more : List Call) → AreApart sinks → AreOn [] (handles sinks) more → IsAway ERRORS more
on_quiet sinks [] apart on = tt
on_quiet sinks (Call.Write k bytes mark ∷ more) apart on = (quiet sinks (λ i s is. apart.errors i s is) on.0, on_quiet sinks more apart on.1)
  where
    quiet : (list : List Sink) → ((i : ℕ) (s : Sink) → slice_get list i ≡ Some s → s.handle ≢ ERRORS) → IsOneOf k (handles list) → k ≢ ERRORS
    quiet [] each one = absurd one
    quiet (s ∷ list) each (inl is) = λ e. each 0 s refl (sym is ∙ e)
    quiet (s ∷ list) each (inr one) = quiet list (λ i r at. each (suc i) r at) one
on_quiet sinks (call ∷ more) apart on = absurd on.0

-- ---- outputs, and the sinks that they are at

pub outlets_length : (text : ℕ → List Item → Bool → List ℕ) (filled : ℕ → List Item → Bool) (sinks : List Sink) → length (outlets_of text filled sinks) ≡ length sinks
outlets_length text filled [] = refl
outlets_length text filled (s ∷ sinks) = ap suc (outlets_length (λ i. text (suc i)) (λ i. filled (suc i)) sinks)

pub outlet_there : (text : ℕ → List Item → Bool → List ℕ) (filled : ℕ → List Item → Bool) (sinks : List Sink) (i : ℕ) (s : Sink) → slice_get sinks i ≡ Some s → slice_get (outlets_of text filled sinks) i ≡ Some (outlet_at text filled i s)
outlet_there text filled [] i s at = absurd cc
outlet_there text filled (r ∷ sinks) zero s at = ap (λ (x : Sink). Some (outlet_at text filled 0 x)) (some_same r s (Some r) refl at)
outlet_there text filled (r ∷ sinks) (suc i) s at = outlet_there (λ j. text (suc j)) (λ j. filled (suc j)) sinks i s at

pub outlet_is : (text : ℕ → List Item → Bool → List ℕ) (filled : ℕ → List Item → Bool) (sinks : List Sink) (i : ℕ) (o : Outlet) → slice_get (outlets_of text filled sinks) i ≡ Some o → (s : Sink) × (slice_get sinks i ≡ Some s) × (outlet_at text filled i s ≡ o)
outlet_is text filled [] i o at = absurd cc
outlet_is text filled (r ∷ sinks) zero o at = (r, refl, some_same (outlet_at text filled 0 r) o (Some (outlet_at text filled 0 r)) refl at)
outlet_is text filled (r ∷ sinks) (suc i) o at = outlet_is (λ j. text (suc j)) (λ j. filled (suc j)) sinks i o at

-- what is so at each sink is so of each output
pub each_outlet : (text : ℕ → List Item → Bool → List ℕ) (filled : ℕ → List Item → Bool) (sinks : List Sink) (IsSo : ℕ → Outlet → Type 0) → ((i : ℕ) (s : Sink) → slice_get sinks i ≡ Some s → IsSo i (outlet_at text filled i s)) → (i : ℕ) (o : Outlet) → slice_get (outlets_of text filled sinks) i ≡ Some o → IsSo i o
each_outlet text filled sinks IsSo each i o at = let p = outlet_is text filled sinks i o at in subst (λ (x : Outlet). IsSo i x) p.2 (each i p.0 p.1)

-- ---- what fails on sinks ends nothing else

or_true : (a b : Bool) → b ≡ true → (a || b) ≡ true
or_true true b e = refl
or_true false b e = e

one_any : (k : ℕ) (hs : List ℕ) → IsOneOf k hs → list_any (λ x. x == k) hs ≡ true
one_any k [] one = absurd one
one_any k (h ∷ hs) (inl e) = rw (eq-eqb h k (sym e)) refl
one_any k (h ∷ hs) (inr one) = or_true (h == k) (list_any (λ x. x == k) hs) (one_any k hs one)

none_sinks : (hs : List ℕ) (more : List Call) → AreOn [] hs more → none_ends hs more ≡ true
none_sinks hs [] on = refl
none_sinks hs (Call.Write k bytes mark ∷ more) on = rw (one_any k hs on.0) (none_sinks hs more on.1)
none_sinks hs (call ∷ more) on = absurd on.0

-- no call fails
pub but_none : (alone : List ℕ) (go : Bool) → fails_but alone go [] ≡ true
but_none [] true = refl
but_none [] false = refl
but_none (h ∷ alone) true = refl
but_none (h ∷ alone) false = refl

or_false : (b : Bool) → (b || false) ≡ b
or_false true = refl
or_false false = refl

-- the only flag, where it was set
only_flag : (flags : List Bool) (k : ℕ) (b : Bool) → length flags ≡ 1 → k < length flags → b ≡ list_any (λ (x : Bool). x) (set flags k b)
only_flag [] k b one within = absurd (omega (arith, within))
only_flag (x ∷ []) zero b one within = sym (or_false b)
only_flag (x ∷ []) (suc k) b one within = absurd (omega (arith, within))
only_flag (x ∷ y ∷ flags) k b one within = absurd (omega (arith, one))

-- calls on sinks, of which those at the last place fail so; where there is one sink these are all
fails_on : (sinks : List Sink) (k : ℕ) (r : Sink) → slice_get sinks k ≡ Some r → (xs ys : List Call) → AreOn [] (handles sinks) (xs ++ ys) → (k ≡ 0 → xs ≡ []) → (b go : Bool) → (length sinks ≡ 1 → b ≡ go) → fails b ys ≡ true → fails_but (several (handles sinks)) go (xs ++ ys) ≡ true
fails_on [] k r at xs ys on none b go same fail = absurd cc
fails_on (s ∷ []) zero r at xs ys on none b go same fail = subst (λ (x : Bool). fails x (xs ++ ys) ≡ true) (same refl) (subst (λ (cs : List Call). fails b (cs ++ ys) ≡ true) (sym (none refl)) fail)
fails_on (s ∷ []) (suc k) r at xs ys on none b go same fail = absurd cc
fails_on (s ∷ q ∷ sinks) k r at xs ys on none b go same fail = but_late (handles (s ∷ q ∷ sinks)) go (xs ++ ys) (none_sinks (handles (s ∷ q ∷ sinks)) (xs ++ ys) on)

-- ---- the places below one were written

-- texts grow, where something was given
abbrev pub AllGrow : (ℕ → List Item → Bool → List ℕ) → (ℕ → List Item → Bool → List ℕ → Type 0) → Type 0
AllGrow text holds = (i : ℕ) (met : List Item) (every : Bool) (taken : List ℕ) → holds i met every taken → (list more : List Item) (ended : Bool) → IsPrefix (text i list false) (text i (list ++ more) ended)

module _ (text : ℕ → List Item → Bool → List ℕ) (filled : ℕ → List Item → Bool) (sinks : List Sink) (piece : Piece) where
  abbrev pub AllPart : (ℕ → List Item → Bool → List ℕ → Type 0) → List Bool → List Bool → ℕ → List Call → List Item → List Item → Type 0
  AllPart holds old new k calls done last = (i : ℕ) (s : Sink) (a b : Bool) → slice_get sinks i ≡ Some s → slice_get old i ≡ Some a → slice_get new i ≡ Some b →
      (i < k → Wrote piece (holds i) s.handle (due_at text filled i s) a b calls done last) × (k ≤ i → Waits piece (holds i) s.handle (due_at text filled i s) a calls done last)

  -- the calls of places below one: none where that is the first, and with them each was written, and those that wait do
  abbrev pub DoneBy : (first holds : ℕ → List Item → Bool → List ℕ → Type 0) → List Bool → List Bool → Option ℕ → Option ℕ → ℕ → List Call → Type 0
  DoneBy first holds old new u v k more = (k ≡ 0 → more ≡ []) × BlamesOn (outlets_of text filled sinks) u v more × ((calls : List Call) (done last : List Item) → AllWait piece text filled first sinks old calls done last → AllPart holds old new k (calls ++ more) done last)

  pub record IsDone (first holds : ℕ → List Item → Bool → List ℕ → Type 0) (old new : List Bool) (u v : Option ℕ) (k : ℕ) (s t : Seen) : Type 0 where
    pub same : length new ≡ length old
    pub later : (j : ℕ) → k ≤ j → slice_get new j ≡ slice_get old j
    pub made : MadeBut (several (handles sinks)) (list_any (λ (b : Bool). b) new) [] (handles sinks) (DoneBy first holds old new u v k) s t

  pub done_none : (holds : ℕ → List Item → Bool → List ℕ → Type 0) (old : List Bool) (u : Option ℕ) (s : Seen) → IsDone holds holds old old u u 0 s s
  done_none holds old u s = record {
    same = refl;
    later = λ j _. refl;
    made = record {
      calls = [];
      did = refl;
      on = tt;
      fail = but_none (several (handles sinks)) (list_any (λ (b : Bool). b) old);
      is = (λ e. refl, λ calls p. blames_still (outlets_of text filled sinks) None u calls [] refl p, λ calls done last waits i r a b at was now. (λ below. absurd (omega (arith, below)), λ _. rw (append-nil calls) (waits i r a at was)));
    };
  }

  -- one more was
  module _ (apart : AreApart sinks) (first holds next : ℕ → List Item → Bool → List ℕ → Type 0) (old new : List Bool) (u v : Option ℕ) (lives : length old ≡ length sinks) (k : ℕ) {s t : Seen} (done : IsDone first holds old new u v k s t) (r : Sink) (at : slice_get sinks k ≡ Some r)
      (kept : (i : ℕ) (met : List Item) (every : Bool) (taken : List ℕ) → i ≢ k → holds i met every taken → next i met every taken) where
    abbrev xs : List Call
    xs = done.made.calls

    blames : (x : Option ℕ) (ys : List Call) → BlamesOn (outlets_of text filled sinks) v x ys → BlamesOn (outlets_of text filled sinks) u x (xs ++ ys)
    blames x ys p calls q = rw (sym (append_assoc calls xs ys)) (p (calls ++ xs) (done.made.is.1 calls q))

    all_on : (ys : List Call) → AreOn [] (r.handle ∷ []) ys → AreOn [] (handles sinks) (xs ++ ys)
    all_on ys on = on_append [] (handles sinks) xs ys done.made.on (on_one r.handle (handles sinks) ys (one_handle sinks k r at) on)

    pub done_more : {w : Seen} (was b : Bool) (x : Option ℕ) → slice_get new k ≡ Some was
        → PlaceMade b k r v x (Became (λ calls ds ls. Waits piece (holds k) r.handle (due_at text filled k r) was calls ds ls) (λ calls ds ls. Wrote piece (next k) r.handle (due_at text filled k r) was b calls ds ls)) t w
        → IsDone first next old (set new k b) u x (k + 1) s w
    done_more {w = w} was b x before p = record {
      same = length-set new k b ∙ done.same;
      later = λ j above. get_other new k j b (λ e. absurd (omega (arith, above, e))) ∙ done.later j (omega (arith, above));
      made = record {
        calls = xs ++ p.calls;
        did = did_then xs p.calls s t w done.made.did p.did;
        on = all_on p.calls p.on;
        fail = fails_on sinks k r at xs p.calls (all_on p.calls p.on) done.made.is.0 b (list_any (λ (f : Bool). f) (set new k b)) (λ one. only_flag new k b (done.same ∙ lives ∙ one) (get_within new k was before)) p.fail;
        is = (λ e. absurd (omega (arith, e)), blames x p.calls (p.is.0 (outlets_of text filled sinks) (outlet_at text filled k r) (outlet_there text filled sinks k r at) refl), λ calls ds ls waits i q a c here was' now. rw (sym (append_assoc calls xs p.calls)) (each calls ds ls waits i q a c here was' now));
      };
    }
      where
        each : (calls : List Call) (ds ls : List Item) → AllWait piece text filled first sinks old calls ds ls → AllPart next old (set new k b) (k + 1) ((calls ++ done.made.calls) ++ p.calls) ds ls
        each calls ds ls waits i q a c here was' now = elim (tri i k) [
          | inl below ↦ (
            λ _.
                let other : i ≢ k = λ e. absurd (omega (arith, below, e)) in
                wrote_still q.handle (due_at text filled i q) (calls ++ done.made.calls) p.calls (away other) quiet piece (holds i) (next i) (λ met every taken. kept i met every taken other) a c ds ls
                ((done.made.is.2 calls ds ls waits i q a c here was' (sym (get_other new k i b other) ∙ now)).0 below),
            λ above. absurd (omega (arith, below, above)),
          )
          | inr more ↦ elim more [
            | inl e ↦ (λ _. own e, λ above. absurd (omega (arith, above, e)))
            | inr above ↦ (
              λ below. absurd (omega (arith, above, below)),
              λ _.
                  let other : i ≢ k = λ e. absurd (omega (arith, above, e)) in
                  waits_still q.handle (due_at text filled i q) (calls ++ done.made.calls) p.calls (away other) quiet piece (holds i) (next i) (λ met every taken. kept i met every taken other) a ds ls
                  ((done.made.is.2 calls ds ls waits i q a c here was' (sym (get_other new k i b other) ∙ now)).1 (omega (arith, above))),
            )
          ]
        ]
          where
            quiet : IsAway ERRORS p.calls
            quiet = on_away r.handle ERRORS p.calls (apart.errors k r at) p.on

            away : i ≢ k → IsAway q.handle p.calls
            away other = on_away r.handle q.handle p.calls (apart.others k i r q at here (λ e. other (sym e))) p.on

            own : i ≡ k → Wrote piece (next i) q.handle (due_at text filled i q) a c ((calls ++ done.made.calls) ++ p.calls) ds ls
            own e =
                let sinks_same : r ≡ q = some_same r q (slice_get sinks k) at (subst (λ (x : ℕ). slice_get sinks x ≡ Some q) e here) in
                let now' : slice_get (set new k b) k ≡ Some c = subst (λ (x : ℕ). slice_get (set new k b) x ≡ Some c) e now in
                let b_same : b ≡ c = some_same b c (slice_get (set new k b) k) (get_set new k b (get_within new k was before)) now' in
                let old' : slice_get old k ≡ Some a = subst (λ (x : ℕ). slice_get old x ≡ Some a) e was' in
                let a_same : was ≡ a = some_same was a (slice_get new k) before (done.later k (omega arith) ∙ old') in
                let w = (done.made.is.2 calls ds ls waits k r was was at (sym (done.later k (omega arith)) ∙ before) before).1 (omega arith) in
                let wrote = p.is.1 (calls ++ done.made.calls) ds ls w in
                subst (λ (x : ℕ). Wrote piece (next x) q.handle (due_at text filled x q) a c ((calls ++ done.made.calls) ++ p.calls) ds ls) (sym e)
                (subst (λ (x : Sink). Wrote piece (next k) x.handle (due_at text filled k x) a c ((calls ++ done.made.calls) ++ p.calls) ds ls) sinks_same
                (subst (λ (x : Bool). Wrote piece (next k) r.handle (due_at text filled k r) x c ((calls ++ done.made.calls) ++ p.calls) ds ls) a_same
                (subst (λ (x : Bool). Wrote piece (next k) r.handle (due_at text filled k r) was x ((calls ++ done.made.calls) ++ p.calls) ds ls) b_same wrote)))

    -- there was no memory for one more
    pub done_short : {w : Seen} (was : Bool) → slice_get new k ≡ Some was
        → AllGrow text holds
        → MadeBut [] false [] (r.handle ∷ []) (Became (λ calls ds ls. Waits piece (holds k) r.handle (due_at text filled k r) was calls ds ls) (λ calls ds ls. TextShort r.handle (due_at text filled k r) calls (ds ++ ls) (is_end piece))) t w
        → MadeBut (several (handles sinks)) false [] (handles sinks) (λ more. (calls : List Call) (ds ls : List Item) → IsPrefix (written_by ERRORS calls) (messages_of (ds ++ ls)) → AllWait piece text filled first sinks old calls ds ls → FanShort (outlets_of text filled sinks) (calls ++ more) (ds ++ ls) (is_end piece)) s w
    done_short {w = w} was before grows p = record {
      calls = xs ++ p.calls;
      did = did_then xs p.calls s t w done.made.did p.did;
      on = all_on p.calls p.on;
      fail = fails_on sinks k r at xs p.calls (all_on p.calls p.on) done.made.is.0 false false (λ one. refl) p.fail;
      is = λ calls ds ls told waits. each_outlet text filled sinks (λ i o. TextShort o.sink o.due (calls ++ (xs ++ p.calls)) (ds ++ ls) (is_end piece)) (λ i q here. rw (sym (append_assoc calls xs p.calls)) (each calls ds ls told waits i q here));
    }
      where
        each : (calls : List Call) (ds ls : List Item) → IsPrefix (written_by ERRORS calls) (messages_of (ds ++ ls)) → AllWait piece text filled first sinks old calls ds ls → (i : ℕ) (q : Sink) → slice_get sinks i ≡ Some q → TextShort q.handle (due_at text filled i q) ((calls ++ done.made.calls) ++ p.calls) (ds ++ ls) (is_end piece)
        each calls ds ls told waits i q here = elim (tri i k) [
          | inl below ↦ short_still q.handle d cs p.calls (away (λ e. absurd (omega (arith, below, e)))) quiet (ds ++ ls) (is_end piece) (wrote_short a.0 c.0 ((part).0 below))
          | inr more ↦ elim more [
            | inl e ↦
                let same : r ≡ q = some_same r q (slice_get sinks k) at (subst (λ (x : ℕ). slice_get sinks x ≡ Some q) e here) in
                let w = (done.made.is.2 calls ds ls waits k r was was at (sym (done.later k (omega arith)) ∙ before) before).1 (omega arith) in
                subst (λ (x : ℕ). TextShort q.handle (due_at text filled x q) (cs ++ p.calls) (ds ++ ls) (is_end piece)) (sym e)
                (subst (λ (x : Sink). TextShort x.handle (due_at text filled k x) (cs ++ p.calls) (ds ++ ls) (is_end piece)) same (p.is cs ds ls w))
            | inr above ↦ short_still q.handle d cs p.calls (away (λ e. absurd (omega (arith, above, e)))) quiet (ds ++ ls) (is_end piece) (waits_short piece (holds i) q.handle d (grows i) a.0 cs ds ls now_told (part.1 (omega (arith, above))))
          ]
        ]
          where
            d : Due
            d = due_at text filled i q

            cs : List Call
            cs = calls ++ done.made.calls

            a : (x : Bool) × (slice_get old i ≡ Some x)
            a = get_there old i (omega (arith, get_within sinks i q here, lives))

            c : (x : Bool) × (slice_get new i ≡ Some x)
            c = get_there new i (omega (arith, get_within sinks i q here, lives, done.same))

            part : (i < k → Wrote piece (holds i) q.handle d a.0 c.0 cs ds ls) × (k ≤ i → Waits piece (holds i) q.handle d a.0 cs ds ls)
            part = done.made.is.2 calls ds ls waits i q a.0 c.0 here a.1 c.1

            quiet : IsAway ERRORS p.calls
            quiet = on_away r.handle ERRORS p.calls (apart.errors k r at) p.on

            away : i ≢ k → IsAway q.handle p.calls
            away other = on_away r.handle q.handle p.calls (apart.others k i r q at here (λ e. other (sym e))) p.on

            now_told : IsPrefix (written_by ERRORS cs) (messages_of (ds ++ ls))
            now_told = rw (still ERRORS calls done.made.calls (on_quiet sinks done.made.calls apart done.made.on)) told

            wrote_short : (x y : Bool) → Wrote piece (holds i) q.handle d x y cs ds ls → TextShort q.handle d cs (ds ++ ls) (is_end piece)
            wrote_short true true w = record {
              text = rw (append-nil (ds ++ ls)) at (took_prefix q.handle d (grows i (ds ++ ls) false (d.text w.1.took.early false) w.1.held) cs (ds ++ ls) [] (is_end piece) w.1.took);
              told = now_told;
            }
            wrote_short true false w = gone_short q.handle d cs (ds ++ ls) (is_end piece) now_told w.gone
            wrote_short false true w = absurd w
            wrote_short false false w = gone_short q.handle d cs (ds ++ ls) (is_end piece) now_told w

  -- all were
  pub done_all : (first holds : ℕ → List Item → Bool → List ℕ → Type 0) (old new : List Bool) (u v : Option ℕ) (k : ℕ) {s t : Seen} → length sinks ≤ k → IsDone first holds old new u v k s t
      → MadeBut (several (handles sinks)) (list_any (λ (b : Bool). b) new) [] (handles sinks) (λ more. BlamesOn (outlets_of text filled sinks) u v more × ((calls : List Call) (done last : List Item) → AllWait piece text filled first sinks old calls done last → AllWrote piece text filled holds sinks old new (calls ++ more) done last)) s t
  done_all first holds old new u v k most done = record {
    calls = done.made.calls;
    did = done.made.did;
    on = done.made.on;
    fail = done.made.fail;
    is = (done.made.is.1, λ calls ds ls waits i r a b at was now. (done.made.is.2 calls ds ls waits i r a b at was now).0 (omega (arith, get_within sinks i r at, most)));
  }

  -- each still has its name
  pub done_named : {first holds : ℕ → List Item → Bool → List ℕ → Type 0} {old new : List Bool} {u v : Option ℕ} {k : ℕ} {s t : Seen} → IsDone first holds old new u v k s t → AreNamed sinks s → AreNamed sinks t
  done_named {s = s} {t = t} done named i r at = on_names [] (handles sinks) done.made.calls s t done.made.on done.made.did Writing r.handle r.name ∙ named i r at
