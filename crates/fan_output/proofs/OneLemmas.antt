-- Of one sink, what several outputs come to is what one comes to.
use Rattle.std.proofs.Common.{◌≡◌, ◌≢◌, ◌⊎◌, ℕ, zero, suc, ◌<◌, ◌≤◌, ◌==◌, Bool, true, false, not, ◌&&◌, ◌||◌, List, [], ◌∷◌, ◌++◌, length, length-append, replicate, slice_get, Option, Some, None, codes, refl, sym, ap, subst, ◌∙◌, arith, inl, inr}
use Rattle.std.proofs.lemmas.Bool.{eq-eqb}
use Rattle.std.proofs.lemmas.List.{append-nil}
use Rattle.std.specs.List.{list_any}
use Rattle.log_model.specs.Prefix.{IsPrefix, IsProperPrefix}
use Rattle.vio.specs.declared.world.TheConstants.{ERRORS}
use Rattle.vio.specs.Touches.{IsOneOf}
use Rattle.vio.specs.World.{Seen, Writing}
use Rattle.vio.specs.Calls.{Mark, Went, MetEnd, Failed, FailedEach, Call, Write, AreOn, has_failed, is_failed, last_failed, written_by}
use Rattle.vio.proofs.TouchLemmas.{one_of_left}
use Rattle.vio.proofs.CallLemmas.{written_append}
use Rattle.ring_layout.specs.declared.item.Item.{Item}
use Rattle.fan_output.specs.declared.ending.TextEnding.{TextEnding}
use Rattle.fan_output.specs.declared.ending.TextEnding.TheVariants as endings
use Rattle.fan_output.specs.declared.fan.FanEnd.{FanEnd}
use Rattle.fan_output.specs.declared.fan.FanEnd.TheVariants as fans
use Rattle.fan_output.specs.declared.fan.FanEnding.{FanEnding}
use Rattle.fan_output.specs.declared.fan.FanOutput.{FanOutput}
use Rattle.fan_output.specs.declared.sink.Sink.{Sink}
use Rattle.fan_output.specs.Messages.{messages_of}
use Rattle.fan_output.specs.Ends.{Due, FailedWrite, TextEnded, TextShort, TextTook, TextWritten, whole}
use Rattle.fan_output.specs.Fan.{AreApart, AreNamed, EndedAlone, EndsAll, FailsLast, FanEnded, FanShort, FansPrinted, FansTook, GoesOn, GoneNow, IsAway, IsFan, Outlet}
use Rattle.fan_output.specs.Unwritten.{blame_of, blamed_in, fails_at, first_of, first_unwritten}
use Rattle.fan_output.specs.Laws.{CanFan, IsNew, clean_still, order_still}
use Rattle.fan_output.proofs.EndLemmas.{took_written}
use Rattle.fan_output.proofs.PlaceLemmas.{still}
use Rattle.fan_output.proofs.EachLemmas.{get_within}
use Rattle.fan_output.proofs.FanLemmas.{any_there}

-- ---- writes that failed

and_first : (a b : Bool) → (a && b) ≡ true → a ≡ true
and_first true b e = refl
and_first false b e = absurd cc

and_later : (a b : Bool) → (a && b) ≡ true → b ≡ true
and_later true b e = e
and_later false b e = absurd cc

or_no : (a b : Bool) → (a || b) ≡ false → (a ≡ false) × (b ≡ false)
or_no true b e = absurd cc
or_no false b e = (refl, e)

or_here : (a b : Bool) → a ≡ true → (a || b) ≡ true
or_here true b e = refl
or_here false b e = absurd cc

or_there : (a b : Bool) → b ≡ true → (a || b) ≡ true
or_there true b e = refl
or_there false b e = e

first_none : {A : Type 0} (x : Option A) → first_of x None ≡ x
first_none (Some a) = refl
first_none None = refl

mark_blame : (mark : Mark) → is_failed mark ≡ false → blame_of mark ≡ None
mark_blame Went e = refl
mark_blame MetEnd e = refl
mark_blame (Failed name) e = absurd cc
mark_blame FailedEach e = absurd cc

-- a call that didn't fail blames none
call_blame : (call : Call) → not (has_failed call) ≡ true → blamed_in call ≡ None
call_blame (Call.Write h bytes mark) e = mark_blame mark (no_true (is_failed mark) e)
  where
    no_true : (b : Bool) → not b ≡ true → b ≡ false
    no_true true e = absurd cc
    no_true false e = refl
call_blame (Call.Take h bytes mark) e = refl
call_blame (Call.Open name h) e = refl
call_blame (Call.Create append name h empty) e = refl
call_blame (Call.Refuse kind name) e = refl
call_blame Call.Lack e = refl

-- a call that failed is the last, and is blamed
only_blame : (call : Call) (calls : List Call) → IsOneOf call calls → has_failed call ≡ true → last_failed calls ≡ true → first_unwritten calls ≡ blamed_in call
only_blame call [] one failed fail = absurd one
only_blame call (x ∷ []) (inl e) failed fail = first_none (blamed_in x) ∙ ap blamed_in (sym e)
only_blame call (x ∷ []) (inr one) failed fail = absurd one
only_blame call (x ∷ y ∷ xs) (inl e) failed fail =
    let wrong : not true ≡ true = subst (λ (b : Bool). not b ≡ true) (ap has_failed (sym e) ∙ failed) (and_first (not (has_failed x)) (last_failed (y ∷ xs)) fail) in absurd cc
only_blame call (x ∷ y ∷ xs) (inr one) failed fail =
    ap (λ (o : Option (List ℕ)). first_of o (first_unwritten (y ∷ xs))) (call_blame x (and_first (not (has_failed x)) (last_failed (y ∷ xs)) fail))
    ∙ only_blame call (y ∷ xs) one failed (and_later (not (has_failed x)) (last_failed (y ∷ xs)) fail)

fails_later : (h : ℕ) (calls : List Call) (call : Call) → fails_at h calls ≡ true → fails_at h (call ∷ calls) ≡ true
fails_later h calls (Call.Write k bytes mark) e = or_there ((k == h) && is_failed mark) (fails_at h calls) e
fails_later h calls (Call.Take k bytes mark) e = e
fails_later h calls (Call.Open n k) e = e
fails_later h calls (Call.Create append n k empty) e = e
fails_later h calls (Call.Refuse kind n) e = e
fails_later h calls Call.Lack e = e

-- a write that failed is one
one_fails_at : (h : ℕ) (part name : List ℕ) (calls : List Call) → IsOneOf (Write h part (Failed name)) calls → fails_at h calls ≡ true
one_fails_at h part name [] one = absurd one
one_fails_at h part name (call ∷ calls) (inl e) = subst (λ (c : Call). fails_at h (c ∷ calls) ≡ true) e (or_here ((h == h) && true) (fails_at h calls) (ap (λ (b : Bool). b && true) (eq-eqb h h refl)))
one_fails_at h part name (call ∷ calls) (inr one) = fails_later h calls call (one_fails_at h part name calls one)

-- where no write failed at either handle none is blamed
quiet_blames : (reads : List ℕ) (h : ℕ) (calls : List Call) → AreOn reads (ERRORS ∷ h ∷ []) calls → fails_at ERRORS calls ≡ false → fails_at h calls ≡ false → first_unwritten calls ≡ None
quiet_blames reads h [] on quiet clean = refl
quiet_blames reads h (Call.Take k bytes mark ∷ calls) on quiet clean = quiet_blames reads h calls on.1 quiet clean
quiet_blames reads h (Call.Write k bytes mark ∷ calls) on quiet clean =
    let q = or_no ((k == ERRORS) && is_failed mark) (fails_at ERRORS calls) quiet in
    let c = or_no ((k == h) && is_failed mark) (fails_at h calls) clean in
    ap (λ (o : Option (List ℕ)). first_of o (first_unwritten calls)) (mark_blame mark (elim on.0 [ inl e ↦ unfailed ERRORS e q.0 | inr more ↦ elim more [ inl e ↦ unfailed h e c.0 | inr none ↦ absurd none ] ]))
    ∙ quiet_blames reads h calls on.1 q.1 c.1
  where
    unfailed : (i : ℕ) → k ≡ i → ((k == i) && is_failed mark) ≡ false → is_failed mark ≡ false
    unfailed i e none = subst (λ (b : Bool). (b && is_failed mark) ≡ false) (eq-eqb k i e) none
quiet_blames reads h (call ∷ calls) on quiet clean = absurd on.0

-- ---- one output

-- what was told by the first calls was told by all
longer : (first more : List Call) (text : List ℕ) → written_by ERRORS first ≡ text → length (written_by ERRORS (first ++ more)) < length text → ⊥
longer first more text told less =
    absurd (omega (arith, less, ap length (written_append ERRORS first more), length-append (written_by ERRORS first) (written_by ERRORS more), ap length told))

module _ (sink : ℕ) (d : Due) (reads : List ℕ) (first more : List Call) (on : AreOn reads (ERRORS ∷ sink ∷ []) (first ++ more)) (fail : last_failed (first ++ more) ≡ true) (away : IsAway sink more) (done last : List Item) (all : Bool) where
  -- no write failed, and it ended so
  module _ (told : written_by ERRORS (first ++ more) ≡ messages_of (done ++ last)) (quiet : fails_at ERRORS (first ++ more) ≡ false) where
    unblamed : fails_at sink first ≡ false → first_unwritten (first ++ more) ≡ None
    unblamed clean = quiet_blames reads sink (first ++ more) on quiet (clean_still sink first more away ∙ clean)

    told_end : (ending : TextEnding) → FailsLast sink d.name ending first → TextEnded sink d ending first done last all → EndedAlone sink d (first ++ more) done last all
    told_end endings.Whole final p = let so = p.ends in record {
      ending = endings.Whole;
      ends = record {
        fewer = p.fewer;
        ends = (so.0, so.1, still sink first more away ∙ so.2, told ∙ ap messages_of (ap (λ (x : List Item). done ++ x) so.0 ∙ append-nil done));
        order = order_still sink d (done ++ last) first more p.order;
        cause = tt;
      };
      blame = unblamed final;
    }
    told_end endings.Kept final p = let so = p.ends in record {
      ending = endings.Kept;
      ends = record { fewer = p.fewer; ends = (so.0, so.1, still sink first more away ∙ so.2, told); order = order_still sink d (done ++ last) first more p.order; cause = tt };
      blame = unblamed final;
    }
    told_end (endings.Unwritten name) final p = let so = p.ends in let one = one_of_left (Write sink p.cause.0 (Failed d.name)) first more p.cause.1 in record {
      ending = endings.Unwritten name;
      ends = record {
        fewer = p.fewer;
        ends = (so.0, told, subst (λ (t : List ℕ). ((done ++ last ≡ []) × (all ≡ false) × IsProperPrefix t d.head) ⊎ (IsPrefix d.head t × IsProperPrefix t (whole d (done ++ last) all))) (sym (still sink first more away)) so.2);
        order = order_still sink d (done ++ last) first more p.order;
        cause = (p.cause.0, one);
      };
      blame = only_blame (Write sink p.cause.0 (Failed d.name)) (first ++ more) one refl fail ∙ ap Some (sym so.0);
    }
    told_end endings.Unreported final p =
        let wrong = one_fails_at ERRORS p.cause.0 (codes "stderr") (first ++ more) (one_of_left (Write ERRORS p.cause.0 (Failed (codes "stderr"))) first more p.cause.1) in absurd cc

  -- the last message couldn't be written
  untold_end : all ≡ false → FailedWrite ERRORS (codes "stderr") (first ++ more) → IsPrefix (messages_of done) (written_by ERRORS (first ++ more)) → IsProperPrefix (written_by ERRORS (first ++ more)) (messages_of (done ++ last))
      → (ending : TextEnding) → TextEnded sink d ending first done last all → EndedAlone sink d (first ++ more) done last all
  untold_end goes cause least most endings.Whole p = let every : all ≡ true = p.ends.1 in absurd cc
  untold_end goes cause least most endings.Kept p = absurd (longer first more (messages_of (done ++ last)) p.ends.3 most.shorter)
  untold_end goes cause least most (endings.Unwritten name) p = absurd (longer first more (messages_of (done ++ last)) p.ends.1 most.shorter)
  untold_end goes cause least most endings.Unreported p = record {
    ending = endings.Unreported;
    ends = record {
      fewer = p.fewer;
      ends = (goes, still sink first more away ∙ p.ends.1, least, most);
      order = order_still sink d done first more p.order;
      cause = cause;
    };
    blame = only_blame (Write ERRORS cause.0 (Failed (codes "stderr"))) (first ++ more) cause.1 refl fail;
  }

module _ (o : Outlet) where
  -- an output that ended with the last of all items ended by all calls
  module _ (reads : List ℕ) (calls : List Call) (done last : List Item) (all : Bool) (on : AreOn reads (ERRORS ∷ o.sink ∷ []) calls) (fail : last_failed calls ≡ true) (now : GoneNow o.sink o.due calls done last all) where
    own : TextEnded o.sink o.due now.gone.ending now.gone.first done last all
    own = subst (λ (x : List Item). TextEnded o.sink o.due now.gone.ending now.gone.first x last all) now.own_done
        (subst (λ (x : List Item). TextEnded o.sink o.due now.gone.ending now.gone.first now.gone.done x all) now.own_last
        (subst (λ (x : Bool). TextEnded o.sink o.due now.gone.ending now.gone.first now.gone.done now.gone.last x) now.own_here now.gone.ends))

    on_parts : AreOn reads (ERRORS ∷ o.sink ∷ []) (now.gone.first ++ now.gone.more)
    on_parts = subst (λ (x : List Call). AreOn reads (ERRORS ∷ o.sink ∷ []) x) now.gone.are on

    fail_parts : last_failed (now.gone.first ++ now.gone.more) ≡ true
    fail_parts = subst (λ (x : List Call). last_failed x ≡ true) now.gone.are fail

    whole_end : EndedAlone o.sink o.due (now.gone.first ++ now.gone.more) done last all → EndedAlone o.sink o.due calls done last all
    whole_end p = subst (λ (x : List Call). EndedAlone o.sink o.due x done last all) (sym now.gone.are) p

    own_told : written_by ERRORS calls ≡ messages_of (done ++ last) → fails_at ERRORS calls ≡ false → EndedAlone o.sink o.due calls done last all
    own_told told quiet = whole_end (told_end o.sink o.due reads now.gone.first now.gone.more on_parts fail_parts now.gone.away done last all
        (subst (λ (x : List Call). written_by ERRORS x ≡ messages_of (done ++ last)) now.gone.are told) (subst (λ (x : List Call). fails_at ERRORS x ≡ false) now.gone.are quiet) now.gone.ending now.gone.final own)

    own_untold : all ≡ false → FailedWrite ERRORS (codes "stderr") calls → IsPrefix (messages_of done) (written_by ERRORS calls) → IsProperPrefix (written_by ERRORS calls) (messages_of (done ++ last)) → EndedAlone o.sink o.due calls done last all
    own_untold goes cause least most = whole_end (untold_end o.sink o.due reads now.gone.first now.gone.more on_parts fail_parts now.gone.away done last all goes
        (subst (λ (x : List Call). FailedWrite ERRORS (codes "stderr") x) now.gone.are cause) (subst (λ (x : List Call). IsPrefix (messages_of done) (written_by ERRORS x)) now.gone.are least)
        (subst (λ (x : List Call). IsProperPrefix (written_by ERRORS x) (messages_of (done ++ last))) now.gone.are most) now.gone.ending own)

  -- the only place is the first
  only_place : (calls : List Call) (done last : List Item) (all : Bool) (i : ℕ) (r : Outlet) → slice_get (o ∷ []) i ≡ Some r → GoneNow r.sink r.due calls done last all → GoneNow o.sink o.due calls done last all
  only_place calls done last all zero r at now = let same : r ≡ o = cc in subst (λ (x : Outlet). GoneNow x.sink x.due calls done last all) same now
  only_place calls done last all (suc i) r at now = absurd cc

  module _ (reads : List ℕ) (calls : List Call) (done last : List Item) (all : Bool) (on : AreOn reads (ERRORS ∷ o.sink ∷ []) calls) (fail : last_failed calls ≡ true) where
    ends_one : (how : FanEnd) → EndsAll how (o ∷ []) calls done last all → EndedAlone o.sink o.due calls done last all
    ends_one fans.Whole p = own_told reads calls done last all on fail (only_place calls done last all p.2.0 p.2.1 p.2.2 p.2.3) (p.3 ∙ ap messages_of (sym (ap (λ (x : List Item). done ++ x) p.0 ∙ append-nil done))) p.4
    ends_one fans.Idle p = own_told reads calls done last all on fail (only_place calls done last all p.1.0 p.1.1 p.1.2 p.1.3) p.2 p.3
    ends_one fans.Unreported p = own_untold reads calls done last all on fail (only_place calls done last all p.1.0 p.1.1 p.1.2 p.1.3) p.0 p.2 p.3 p.4

    pub one_ended : (ending : FanEnding) → FanEnded (o ∷ []) ending calls done last all → EndedAlone o.sink o.due calls done last all
    one_ended ending p = ends_one ending.how p.ends

  -- one that goes on is live
  one_goes : (caught : Bool) (calls : List Call) (done : List Item) → (p : FansTook caught (o ∷ []) calls done) → GoesOn caught (λ met all taken. Prim.Unit {0}) o.sink o.due calls done
  one_goes caught calls done p = at (any_there p.0 p.2.some).0 (any_there p.0 p.2.some).1
    where
      at : (i : ℕ) → slice_get p.0 i ≡ Some true → GoesOn caught (λ met all taken. Prim.Unit {0}) o.sink o.due calls done
      at zero is = (p.2.each 0 o true refl is).1
      at (suc i) is = absurd (omega (arith, get_within p.0 (suc i) true is, p.2.lives))

  pub one_took : (caught : Bool) (reads : List ℕ) (calls : List Call) (done : List Item) → AreOn reads (ERRORS ∷ o.sink ∷ []) calls → FansTook caught (o ∷ []) calls done → TextTook o.sink o.due calls done × (first_unwritten calls ≡ None)
  one_took caught reads calls done on p = let so = one_goes caught calls done p in (so.took, quiet_blames reads o.sink calls on p.2.quiet so.clean)

  pub one_printed : (reads : List ℕ) (calls : List Call) (done : List Item) → AreOn reads (ERRORS ∷ o.sink ∷ []) calls → FansPrinted (o ∷ []) calls done → TextWritten o.sink o.due calls done × (first_unwritten calls ≡ None)
  one_printed reads calls done on p = let so = one_goes true calls done p in (took_written o.sink o.due calls done so.took (so.none refl), quiet_blames reads o.sink calls on p.2.quiet so.clean)

  -- and printed all of them, where all are caught up
  pub one_wrote : (calls : List Call) (done : List Item) → FansPrinted (o ∷ []) calls done → TextWritten o.sink o.due calls done
  one_wrote calls done p = let so = one_goes true calls done p in took_written o.sink o.due calls done so.took (so.none refl)

  pub one_short : (calls : List Call) (met : List Item) (all : Bool) → FanShort (o ∷ []) calls met all → TextShort o.sink o.due calls met all
  one_short calls met all p = p 0 o refl

-- ---- outputs of which nothing was written

flag_live : (n i : ℕ) (b : Bool) → slice_get (replicate n true) i ≡ Some b → b ≡ true
flag_live zero i b is = absurd cc
flag_live (suc n) zero b is = cc
flag_live (suc n) (suc i) b is = flag_live n i b is

any_live : (n : ℕ) → 1 ≤ n → list_any (λ (b : Bool). b) (replicate n true) ≡ true
any_live zero some = absurd (omega (arith, some))
any_live (suc n) some = refl

length_live : (n : ℕ) → length (replicate n true) ≡ n
length_live zero = refl
length_live (suc n) = ap suc (length_live n)

module _ {T : Type 0} (text : T → ℕ → List Item → Bool → List ℕ) (filled : T → ℕ → List Item → Bool) (holds : T → ℕ → List Item → Bool → List ℕ → Type 0) (count : T → ℕ) (o : FanOutput T) (is : IsFan o) where
  -- it was given nothing, where no text was
  pub fan_new : 1 ≤ length o.sinks.items → ((i : ℕ) (s : Sink) → slice_get o.sinks.items i ≡ Some s → holds o.texts i [] false []) → ((i : ℕ) (s : Sink) → slice_get o.sinks.items i ≡ Some s → filled o.texts i [] ≡ false)
      → ((i : ℕ) (s : Sink) → slice_get o.sinks.items i ≡ Some s → text o.texts i [] false ≡ []) → IsNew text filled holds o
  fan_new some none fewer no_text = record {
    all_live = λ i b at. flag_live (length o.sinks.items) i b (subst (λ (flags : List Bool). slice_get flags i ≡ Some b) is.live at);
    some = ap (λ (flags : List Bool). list_any (λ (b : Bool). b) flags) is.live ∙ any_live (length o.sinks.items) some;
    whole = is.whole;
    none = none;
    fewer = fewer;
    no_text = no_text;
  }

  -- and may be given an item
  pub fan_can : (now : Seen) → AreApart o.sinks.items → AreNamed o.sinks.items now → count o.texts ≡ length o.sinks.items → CanFan count o now
  fan_can now apart named texts = record { apart = apart; named = named; lives = ap length is.live ∙ length_live (length o.sinks.items); texts = texts }

-- one sink is apart, and has its name
pub one_apart : (s : Sink) → s.handle ≢ ERRORS → AreApart (s ∷ [])
one_apart s apart = record {
  errors = λ i r at. errors i r at;
  others = λ i j r q here there other. absurd (others i j r q here there other);
}
  where
    errors : (i : ℕ) (r : Sink) → slice_get (s ∷ []) i ≡ Some r → r.handle ≢ ERRORS
    errors zero r at = let same : s ≡ r = cc in subst (λ (x : Sink). x.handle ≢ ERRORS) same apart
    errors (suc i) r at = absurd cc

    others : (i j : ℕ) (r q : Sink) → slice_get (s ∷ []) i ≡ Some r → slice_get (s ∷ []) j ≡ Some q → i ≢ j → ⊥
    others zero zero r q here there other = other refl
    others (suc i) j r q here there other = absurd cc
    others zero (suc j) r q here there other = absurd cc

pub one_named : (s : Sink) (now : Seen) → now.names Writing s.handle s.name ≡ true → AreNamed (s ∷ []) now
one_named s now named zero r at = let same : s ≡ r = cc in subst (λ (x : Sink). now.names Writing x.handle x.name ≡ true) same named
one_named s now named (suc i) r at = absurd cc
