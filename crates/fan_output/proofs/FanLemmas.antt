-- What an item, and the end, make of several outputs.
use Rattle.std.proofs.Common.{◌≡◌, ◌≢◌, ◌⊎◌, ℕ, zero, suc, Bool, true, false, not, if◌then◌else◌, ◌&&◌, List, [], ◌∷◌, ◌++◌, length, slice_get, Option, Some, None, codes, refl, sym, ap, subst, ◌∙◌, append_assoc, arith, inl, inr, Ok, Err, Vec, Global, ◌==◌}
use Rattle.std.specs.List.{list_any}
use Rattle.std.proofs.lemmas.List.{append-nil, flat_map_more}
use Rattle.log_model.specs.declared.fault.NoMemory.{NoMemory}
use Rattle.log_model.specs.Prefix.{IsPrefix, IsProperPrefix}
use Rattle.log_model.proofs.PrefixLemmas.{prefix_append, prefix_after, prefix_equal, prefix_same, proper_after}
use Rattle.vio.specs.declared.world.TheConstants.{ERRORS}
use Rattle.vio.specs.World.{Seen, Writing}
use Rattle.vio.specs.Calls.{Mark, Went, Failed, Call, Called, Did, Write, AreOn, written_by}
use Rattle.vio.specs.Alone.{fails_but}
use Rattle.vio.proofs.AloneLemmas.{but_then, but_late}
use Rattle.vio.proofs.CallLemmas.{did_then, on_append, on_names, written_here}
use Rattle.ring_layout.specs.declared.item.Item.{Item}
use Rattle.ring_layout.specs.declared.item.Item.TheVariants as items
use Rattle.one_run.specs.Run.{MadeBut, is_quiet}
use Rattle.fan_output.specs.declared.ending.TextEnding.TheVariants as endings
use Rattle.fan_output.specs.declared.fan.FanEnd.{FanEnd}
use Rattle.fan_output.specs.declared.fan.FanEnd.TheVariants as fans
use Rattle.fan_output.specs.declared.fan.FanEnding.{FanEnding}
use Rattle.fan_output.specs.declared.fan.FanOutput.{FanOutput}
use Rattle.fan_output.specs.declared.piece.Piece.{Piece}
use Rattle.fan_output.specs.declared.piece.Piece.TheVariants as pieces
use Rattle.fan_output.specs.declared.sink.Sink.{Sink}
use Rattle.fan_output.specs.Messages.{message_of, messages_of}
use Rattle.fan_output.specs.Ends.{Due, InOrder, TextShort, TextWritten, whole}
use Rattle.fan_output.specs.Fan.{AreApart, AreNamed, Blames, EndsAll, FanEnded, FanShort, FanTook, Gone, GoneNow, IsAway, OneEnds, Outlet, Stands, due_at, handles, outlet_at, outlets_of, own_blame, several}
use Rattle.fan_output.specs.Unwritten.{fails_at, first_of}
use Rattle.fan_output.specs.inside.Pieces.{IsSunk, is_end, leaves_none}
use Rattle.fan_output.specs.inside.Steps.{AllWait, AllWrote, BlamesOn, Puts, Waits, Wrote}
use Rattle.fan_output.specs.Laws.{CanFan, HasTaken, IsNew, blames_still, clean_still, first_append, gone_still, order_still}
use Rattle.fan_output.proofs.EndLemmas.{last_or, no_item, took_prefix, took_written}
use Rattle.fan_output.proofs.PlaceLemmas.{added_here, away_written, gone_short, last_call, still, went_clean}
use Rattle.fan_output.proofs.EachLemmas.{AllGrow, but_none, each_outlet, get_within, get_there, on_quiet, outlet_there, outlets_length}

-- ---- flags

pub any_there : (bs : List Bool) → list_any (λ b. b) bs ≡ true → (i : ℕ) × (slice_get bs i ≡ Some true)
any_there [] e = absurd cc
any_there (true ∷ bs) e = (0, refl)
any_there (false ∷ bs) e = let p = any_there bs e in (suc p.0, p.1)

-- the flags of sinks, whether one is live
abbrev pub is_live : List Bool → Bool
is_live flags = list_any (λ (b : Bool). b) flags

any_none : (bs : List Bool) (i : ℕ) (b : Bool) → list_any (λ b. b) bs ≡ false → slice_get bs i ≡ Some b → b ≡ false
any_none [] i b e is = absurd cc
any_none (true ∷ bs) i b e is = absurd cc
any_none (false ∷ bs) zero b e is = cc
any_none (false ∷ bs) (suc i) b e is = any_none bs i b e is

-- ---- what fails

but_went : (alone : List ℕ) (h : ℕ) (bytes : List ℕ) → fails_but alone true (Write h bytes Went ∷ []) ≡ true
but_went [] h bytes = refl
but_went (k ∷ alone) h bytes = either (list_any (λ x. x == h) (k ∷ alone))
  where
    either : (b : Bool) → (not (if b then false else false) && true) ≡ true
    either true = refl
    either false = refl

but_last : (alone : List ℕ) (call : Call) → fails_but alone false (call ∷ []) ≡ true
but_last [] call = refl
but_last (k ∷ alone) call = refl

but_end : (alone : List ℕ) (go : Bool) (calls : List Call) → fails_but alone go calls ≡ true → fails_but alone false calls ≡ true
but_end alone true calls p = but_late alone false calls p
but_end alone false calls p = p

on_wider : (hs : List ℕ) (more : List Call) → AreOn [] hs more → AreOn [] (ERRORS ∷ hs) more
on_wider hs [] on = tt
on_wider hs (Call.Write k bytes mark ∷ more) on = (inr on.0, on_wider hs more on.1)
on_wider hs (call ∷ more) on = absurd on.0

-- ---- how all end

-- all ended so, with this place that is blamed
module _ (text : ℕ → List Item → Bool → List ℕ) (filled : ℕ → List Item → Bool) (sinks : List Sink) (ending : FanEnding) (how : FanEnd) (x : Option ℕ) (is_how : ending.how ≡ how) (is_x : ending.unwritten ≡ x) (calls : List Call) (done last : List Item) (all : Bool) where
  fan_ended : ((i : ℕ) (s : Sink) → slice_get sinks i ≡ Some s → Gone s.handle (due_at text filled i s) calls (done ++ last) all) → EndsAll how (outlets_of text filled sinks) calls done last all → Blames (outlets_of text filled sinks) (own_blame how) x calls → FanEnded (outlets_of text filled sinks) ending calls done last all
  fan_ended each ends blames = record {
    each = each_outlet text filled sinks (λ i o. Gone o.sink o.due calls (done ++ last) all) each;
    ends = subst (λ (h : FanEnd). EndsAll h (outlets_of text filled sinks) calls done last all) (sym is_how) ends;
    blames = subst (λ (h : FanEnd). Blames (outlets_of text filled sinks) (own_blame h) ending.unwritten calls) (sym is_how) (subst (λ (y : Option ℕ). Blames (outlets_of text filled sinks) (own_blame how) y calls) (sym is_x) blames);
  }

-- a message that couldn't be written blames standard error, where no place was blamed before
message_blames : (outlets : List Outlet) (x : Option ℕ) (calls : List Call) (part : List ℕ) → Blames outlets None x calls → Blames outlets (Some (codes "stderr")) x (calls ++ Write ERRORS part (Failed (codes "stderr")) ∷ [])
message_blames outlets None calls part p = first_append calls (Write ERRORS part (Failed (codes "stderr")) ∷ []) ∙ ap (λ (o : Option (List ℕ)). first_of o (Some (codes "stderr"))) p
message_blames outlets (Some i) calls part p = (p.0, p.1, first_append calls (Write ERRORS part (Failed (codes "stderr")) ∷ []) ∙ ap (λ (o : Option (List ℕ)). first_of o (Some (codes "stderr"))) p.2)

-- ---- where a piece was to be written at each sink

-- how texts are made, the sinks, of which some were live and some are, and the places that are blamed
module _ (piece : Piece) (text : ℕ → List Item → Bool → List ℕ) (filled : ℕ → List Item → Bool) (holds : ℕ → List Item → Bool → List ℕ → Type 0) (sinks : List Sink) (live : List Bool) where
  -- calls were made, with which it was written
  abbrev pub EachWrote : (ℕ → List Item → Bool → List ℕ → Type 0) → List Bool → Option ℕ → Option ℕ → Seen → Seen → Type 0
  EachWrote next new u x s t = MadeBut (several (handles sinks)) (is_live new) [] (handles sinks) (λ more. BlamesOn (outlets_of text filled sinks) u x more
      × ((calls : List Call) (done last : List Item) → AllWait piece text filled holds sinks live calls done last → AllWrote piece text filled next sinks live new (calls ++ more) done last)) s t

  -- or there was no memory
  abbrev pub EachShort : Seen → Seen → Type 0
  EachShort s t = MadeBut (several (handles sinks)) false [] (handles sinks) (λ more. (calls : List Call) (done last : List Item) → IsPrefix (written_by ERRORS calls) (messages_of (done ++ last))
      → AllWait piece text filled holds sinks live calls done last → FanShort (outlets_of text filled sinks) (calls ++ more) (done ++ last) (is_end piece)) s t

  -- it was written behind these calls
  module _ (apart : AreApart sinks) (next : ℕ → List Item → Bool → List ℕ → Type 0) (new : List Bool) (u x : Option ℕ) (lives : length live ≡ length sinks) (same : length new ≡ length live) (calls : List Call) (done last : List Item)
      (told : written_by ERRORS calls ≡ messages_of (done ++ last)) (quiet : fails_at ERRORS calls ≡ false) (blames : Blames (outlets_of text filled sinks) None u calls) (waits : AllWait piece text filled holds sinks live calls done last) {s t : Seen} (e : EachWrote next new u x s t) where
    abbrev all : List Call
    all = calls ++ e.calls

    wrote : AllWrote piece text filled next sinks live new all done last
    wrote = e.is.1 calls done last waits

    away : IsAway ERRORS e.calls
    away = on_quiet sinks e.calls apart e.on

    all_told : written_by ERRORS all ≡ messages_of (done ++ last)
    all_told = still ERRORS calls e.calls away ∙ told

    all_quiet : fails_at ERRORS all ≡ false
    all_quiet = clean_still ERRORS calls e.calls away ∙ quiet

    all_blames : Blames (outlets_of text filled sinks) None x all
    all_blames = e.is.0 calls blames

    -- some are live
    pub all_stand : is_end piece ≡ false → is_live new ≡ true → FanTook (leaves_none piece) next (outlets_of text filled sinks) new x all (done ++ last)
    all_stand goes some = record {
      lives = same ∙ lives ∙ sym (outlets_length text filled sinks);
      each = λ i o b at is. each_outlet text filled sinks (λ i o. slice_get new i ≡ Some b → Stands (leaves_none piece) (next i) o.sink o.due b all (done ++ last) false)
          (λ i s at is. let a = get_there live i (omega (arith, get_within sinks i s at, lives)) in each i s a.0 b (wrote i s a.0 b at a.1 is)) i o at is;
      some = some;
      told = all_told;
      quiet = all_quiet;
      blames = all_blames;
    }
      where
        each : (i : ℕ) (s : Sink) (a b : Bool) → Wrote piece (next i) s.handle (due_at text filled i s) a b all done last → Stands (leaves_none piece) (next i) s.handle (due_at text filled i s) b all (done ++ last) false
        each i s true true w = rw goes at w
        each i s true false w = rw goes at w.gone
        each i s false true w = absurd w
        each i s false false w = rw goes at w

    -- none is, of which one was: at the end, or since each ended
    module _ (some : is_live live ≡ true) (none : (is_end piece ≡ true) ⊎ (is_live new ≡ false)) where
      own_none : (i : ℕ) (b : Bool) → slice_get new i ≡ Some b → (is_end piece ≡ true) ⊎ (b ≡ false)
      own_none i b at = elim none [ inl every ↦ inl every | inr off ↦ inr (any_none new i b off at) ]

      now : (i : ℕ) (s : Sink) (b : Bool) → (is_end piece ≡ true) ⊎ (b ≡ false) → Wrote piece (next i) s.handle (due_at text filled i s) true b all done last → GoneNow s.handle (due_at text filled i s) all done last (is_end piece)
      now i s true (inl every) w = let goes : is_end piece ≡ false = w.0 in absurd cc
      now i s true (inr off) w = absurd cc
      now i s false off w = w

      gone : (i : ℕ) (s : Sink) (a b : Bool) → (is_end piece ≡ true) ⊎ (b ≡ false) → Wrote piece (next i) s.handle (due_at text filled i s) a b all done last → Gone s.handle (due_at text filled i s) all (done ++ last) (is_end piece)
      gone i s true b off w = (now i s b off w).gone
      gone i s false true off w = absurd w
      gone i s false false off w = w

      one : OneEnds (outlets_of text filled sinks) all done last (is_end piece)
      one =
          let was = any_there live some in
          let s = get_there sinks was.0 (omega (arith, get_within live was.0 true was.1, lives)) in
          let b = get_there new was.0 (omega (arith, get_within live was.0 true was.1, same)) in
          (was.0, outlet_at text filled was.0 s.0, outlet_there text filled sinks was.0 s.0 s.1, now was.0 s.0 b.0 (own_none was.0 b.0 b.1) (wrote was.0 s.0 true b.0 s.1 was.1 b.1))

      all_gone : (ending : FanEnding) (how : FanEnd) → ending.how ≡ how → own_blame how ≡ None → ending.unwritten ≡ x → EndsAll how (outlets_of text filled sinks) all done last (is_end piece) → FanEnded (outlets_of text filled sinks) ending all done last (is_end piece)
      all_gone ending how is_how unblamed is_x ends = fan_ended text filled sinks ending how x is_how is_x all done last (is_end piece)
          (λ i s at.
          let a = get_there live i (omega (arith, get_within sinks i s at, lives)) in
          let b = get_there new i (omega (arith, get_within sinks i s at, lives, same)) in
          gone i s a.0 b.0 (own_none i b.0 b.1) (wrote i s a.0 b.0 at a.1 b.1))
          ends (rw unblamed all_blames)

    pub all_idle : is_live live ≡ true → is_end piece ≡ false → is_live new ≡ false → (ending : FanEnding) → ending.how ≡ fans.Idle → ending.unwritten ≡ x → FanEnded (outlets_of text filled sinks) ending all done last (is_end piece)
    all_idle some goes none ending is_how is_x = all_gone some (inr none) ending fans.Idle is_how refl is_x (goes, one some (inr none), all_told, all_quiet)

    pub all_whole : is_live live ≡ true → is_end piece ≡ true → last ≡ [] → (ending : FanEnding) → ending.how ≡ fans.Whole → ending.unwritten ≡ x → FanEnded (outlets_of text filled sinks) ending all done last (is_end piece)
    all_whole some every rest ending is_how is_x = all_gone some (inl every) ending fans.Whole is_how refl is_x (rest, every, one some (inl every), all_told ∙ ap messages_of (ap (λ (y : List Item). done ++ y) rest ∙ append-nil done), all_quiet)

-- ---- an item more

-- one that ended before ended before more items too
gone_more : (sink : ℕ) (d : Due) (calls : List Call) (done : List Item) (item : Item) → Gone sink d calls done false → Gone sink d calls (done ++ item ∷ []) false
gone_more sink d calls done item g = record {
  first = g.first;
  more = g.more;
  are = g.are;
  away = g.away;
  ending = g.ending;
  done = g.done;
  last = g.last;
  rest = g.rest ++ item ∷ [];
  here = g.here;
  one = g.one;
  parts = ap (λ (x : List Item). x ++ item ∷ []) g.parts ∙ append_assoc (g.done ++ g.last) g.rest (item ∷ []);
  whole = λ e. let so = g.whole e in absurd cc;
  grows = g.grows;
  ends = g.ends;
  final = g.final;
}

-- and so at their end
gone_to : (all : Bool) (sink : ℕ) (d : Due) (calls : List Call) (done : List Item) → Gone sink d calls done false → Gone sink d calls done all
gone_to all sink d calls done g = record {
  first = g.first;
  more = g.more;
  are = g.are;
  away = g.away;
  ending = g.ending;
  done = g.done;
  last = g.last;
  rest = g.rest;
  here = g.here;
  one = g.one;
  parts = g.parts;
  whole = λ e. let so = g.whole e in absurd cc;
  grows = g.grows;
  ends = g.ends;
  final = g.final;
}

message_away : (sink : ℕ) (bytes : List ℕ) (mark : Mark) → sink ≢ ERRORS → IsAway sink (Write ERRORS bytes mark ∷ [])
message_away sink bytes mark apart = (λ e. apart (sym e), tt)

-- an item of whose message a part isn't all of it has one
told_item : (part : List ℕ) (item : Item) → IsProperPrefix part (message_of item) → is_quiet item ≡ false
told_item part (items.Unit u) p = absurd (omega (arith, p.shorter))
told_item part (items.Overrun at seen) p = refl
told_item part (items.Missed units) p = refl

module _ (text : ℕ → List Item → Bool → List ℕ) (filled : ℕ → List Item → Bool) (sinks : List Sink) (apart : AreApart sinks) (live : List Bool) (u : Option ℕ) (calls : List Call) (done : List Item)
    (holds : ℕ → List Item → Bool → List ℕ → Type 0) (caught : Bool) (taken : FanTook caught holds (outlets_of text filled sinks) live u calls done) where
  lives : length live ≡ length sinks
  lives = taken.lives ∙ outlets_length text filled sinks

  -- how each stands, at its sink
  stand : (i : ℕ) (s : Sink) (b : Bool) → slice_get sinks i ≡ Some s → slice_get live i ≡ Some b → Stands caught (holds i) s.handle (due_at text filled i s) b calls done false
  stand i s b at is = taken.each i (outlet_at text filled i s) b (outlet_there text filled sinks i s at) is

  -- where nothing is held all was written
  pub all_written : caught ≡ true → (i : ℕ) (s : Sink) → slice_get sinks i ≡ Some s → slice_get live i ≡ Some true → TextWritten s.handle (due_at text filled i s) calls done
  all_written e i s at is = let p = (stand i s true at is).1 in took_written s.handle (due_at text filled i s) calls done p.took (p.none e)

  -- its message was written, behind all text of what came before where it has one
  item_waits : (next : ℕ → List Item → Bool → List ℕ → Type 0) (item : Item) → ((i : ℕ) (met : List Item) (taken : List ℕ) → holds i met false taken → filled i met ≡ false → next i (met ++ item ∷ []) false taken)
      → (is_quiet item ≡ false → (i : ℕ) (s : Sink) → slice_get sinks i ≡ Some s → slice_get live i ≡ Some true → TextWritten s.handle (due_at text filled i s) calls done)
      → AllWait pieces.Full text filled next sinks live (calls ++ Write ERRORS (message_of item) Went ∷ []) done (item ∷ [])
  item_waits next item takes printed i s b at is = wait b is (stand i s b at is)
    where
      W : List Call
      W = Write ERRORS (message_of item) Went ∷ []

      d : Due
      d = due_at text filled i s

      away : IsAway s.handle W
      away = message_away s.handle (message_of item) Went (apart.errors i s at)

      wait : (b : Bool) → slice_get live i ≡ Some b → Stands caught (holds i) s.handle d b calls done false → Waits pieces.Full (next i) s.handle d b (calls ++ W) done (item ∷ [])
      wait true is p =
          let said = added_here ERRORS (message_of item) Went calls (messages_of done) p.1.took.told ∙ flat_map_more message_of [] done item in
          record {
            early = p.1.took.early;
            late = p.1.took.late;
            parts = p.1.took.parts;
            one = omega arith;
            end = λ e. absurd cc;
            fewer = p.1.took.fewer;
            sunk = still s.handle calls W away ∙ p.1.took.text;
            said = said;
            order = λ earlier x later e told. elim (last_or done item earlier x later e) [
              | inl last ↦ record {
                before = calls;
                said = W;
                after = [];
                are = sym (append-nil (calls ++ W));
                text = (printed (ap is_quiet last.1 ∙ told) i s at is).text ∙ ap (λ (list : List Item). whole d list false) last.0;
                told = p.1.took.told ∙ ap messages_of last.0;
                silent = away_written s.handle W away;
                message = written_here ERRORS (message_of item) Went ∙ ap message_of last.1;
              }
              | inr other ↦ order_still s.handle d done calls W p.1.took.order earlier x other.0 other.1 told
            ];
            clean = clean_still s.handle calls W away ∙ p.1.clean;
            held = takes i done (text i p.1.took.early false) p.1.held p.1.took.fewer;
          }
      wait false is p = gone_still s.handle d calls W (done ++ item ∷ []) false away (gone_more s.handle d calls done item p)

  -- what is held, and the rest at the end
  rest_waits : (piece : Piece) → ((d : Due) (early : List Item) (sunk : List ℕ) → sunk ≡ whole d early false → IsSunk piece d done [] early sunk) → (next : ℕ → List Item → Bool → List ℕ → Type 0)
      → ((i : ℕ) (met : List Item) (taken : List ℕ) → holds i met false taken → filled i met ≡ false → next i met (is_end piece) taken) → AllWait piece text filled next sinks live calls done []
  rest_waits piece is_sunk next ends i s b at is = wait b (stand i s b at is)
    where
      d : Due
      d = due_at text filled i s

      wait : (b : Bool) → Stands caught (holds i) s.handle d b calls done false → Waits piece (next i) s.handle d b calls done []
      wait true p = record {
        early = p.1.took.early;
        late = p.1.took.late;
        parts = p.1.took.parts;
        one = omega arith;
        end = λ e. refl;
        fewer = p.1.took.fewer;
        sunk = is_sunk d p.1.took.early (written_by s.handle calls) p.1.took.text;
        said = p.1.took.told ∙ ap messages_of (sym (append-nil done));
        order = subst (λ (list : List Item). InOrder s.handle d list calls) (sym (append-nil done)) p.1.took.order;
        clean = p.1.clean;
        held = subst (λ (list : List Item). next i list (is_end piece) (text i p.1.took.early false)) (sym (append-nil done)) (ends i done (text i p.1.took.early false) p.1.held p.1.took.fewer);
      }
      wait false p = rw (append-nil done) (gone_to (is_end piece) s.handle d calls done p)

  -- an item's message wasn't written whole, since its write failed: each that is live ends so
  item_unreported : caught ≡ true → (item : Item) → AllGrow text holds → (part : List ℕ) → IsProperPrefix part (message_of item) → (ending : FanEnding) → ending.how ≡ fans.Unreported → ending.unwritten ≡ u
      → FanEnded (outlets_of text filled sinks) ending (calls ++ Write ERRORS part (Failed (codes "stderr")) ∷ []) done (item ∷ []) false
  item_unreported all item grows part proper ending is_how is_x = fan_ended text filled sinks ending fans.Unreported u is_how is_x (calls ++ W) done (item ∷ []) false
      (λ i s at. let a = get_there live i (omega (arith, get_within sinks i s at, lives)) in gone i s at a.0 a.1 (stand i s a.0 at a.1))
      (refl, one, (part, last_call calls (Write ERRORS part (Failed (codes "stderr")))), rw own_told (prefix_append (messages_of done) part), rw (own_told, sym (flat_map_more message_of [] done item)) (proper_after (messages_of done) proper))
      (message_blames (outlets_of text filled sinks) u calls part taken.blames)
    where
      W : List Call
      W = Write ERRORS part (Failed (codes "stderr")) ∷ []

      own_told : written_by ERRORS (calls ++ W) ≡ messages_of done ++ part
      own_told = added_here ERRORS part (Failed (codes "stderr")) calls (messages_of done) taken.told

      away : (i : ℕ) (s : Sink) → slice_get sinks i ≡ Some s → IsAway s.handle W
      away i s at = message_away s.handle part (Failed (codes "stderr")) (apart.errors i s at)

      now : (i : ℕ) (s : Sink) → slice_get sinks i ≡ Some s → slice_get live i ≡ Some true → Stands caught (holds i) s.handle (due_at text filled i s) true calls done false → GoneNow s.handle (due_at text filled i s) (calls ++ W) done (item ∷ []) false
      now i s at is p =
          let d = due_at text filled i s in
          record {
            gone = record {
              first = calls ++ W;
              more = [];
              are = sym (append-nil (calls ++ W));
              away = tt;
              ending = endings.Unreported;
              done = done;
              last = item ∷ [];
              rest = [];
              here = false;
              one = omega arith;
              parts = sym (append-nil (done ++ item ∷ []));
              whole = λ e. absurd cc;
              grows = grows i done false (text i p.1.took.early false) p.1.held;
              ends = record {
                fewer = p.1.took.fewer;
                ends = (refl, still s.handle calls W (away i s at) ∙ (all_written all i s at is).text, rw own_told (prefix_append (messages_of done) part), rw (own_told, sym (flat_map_more message_of [] done item)) (proper_after (messages_of done) proper));
                order = order_still s.handle d done calls W p.1.took.order;
                cause = (part, last_call calls (Write ERRORS part (Failed (codes "stderr"))));
              };
              final = clean_still s.handle calls W (away i s at) ∙ p.1.clean;
            };
            own_done = refl;
            own_last = refl;
            own_here = refl;
          }

      gone : (i : ℕ) (s : Sink) → slice_get sinks i ≡ Some s → (b : Bool) → slice_get live i ≡ Some b → Stands caught (holds i) s.handle (due_at text filled i s) b calls done false → Gone s.handle (due_at text filled i s) (calls ++ W) (done ++ item ∷ []) false
      gone i s at true is p = (now i s at is p).gone
      gone i s at false is p = gone_still s.handle (due_at text filled i s) calls W (done ++ item ∷ []) false (away i s at) (gone_more s.handle (due_at text filled i s) calls done item p)

      one : OneEnds (outlets_of text filled sinks) (calls ++ W) done (item ∷ []) false
      one =
          let was = any_there live taken.some in
          let s = get_there sinks was.0 (omega (arith, get_within live was.0 true was.1, lives)) in
          (was.0, outlet_at text filled was.0 s.0, outlet_there text filled sinks was.0 s.0 s.1, now was.0 s.0 s.1 was.1 (stand was.0 s.0 true s.1 was.1))

  -- there was no memory for an item behind its message, or for that
  sink_short : (item : Item) → AllGrow text holds → (part : List ℕ) → IsPrefix part (message_of item) → (i : ℕ) (s : Sink) → slice_get sinks i ≡ Some s → TextShort s.handle (due_at text filled i s) (calls ++ Write ERRORS part Went ∷ []) (done ++ item ∷ []) false
  sink_short item grows part prefix i s at = short a.0 (stand i s a.0 at a.1)
    where
      W : List Call
      W = Write ERRORS part Went ∷ []

      d : Due
      d = due_at text filled i s

      a : (x : Bool) × (slice_get live i ≡ Some x)
      a = get_there live i (omega (arith, get_within sinks i s at, lives))

      away : IsAway s.handle W
      away = message_away s.handle part Went (apart.errors i s at)

      told : written_by ERRORS (calls ++ W) ≡ messages_of done ++ part
      told = added_here ERRORS part Went calls (messages_of done) taken.told

      so : IsPrefix (written_by ERRORS (calls ++ W)) (messages_of (done ++ item ∷ []))
      so = rw (told, sym (flat_map_more message_of [] done item)) (prefix_after (messages_of done) prefix)

      short : (b : Bool) → Stands caught (holds i) s.handle d b calls done false → TextShort s.handle d (calls ++ W) (done ++ item ∷ []) false
      short true p = record { text = rw (still s.handle calls W away) (took_prefix s.handle d (grows i done false (text i p.1.took.early false) p.1.held) calls done (item ∷ []) false p.1.took); told = so }
      short false p = gone_short s.handle d (calls ++ W) (done ++ item ∷ []) false so (gone_still s.handle d calls W (done ++ item ∷ []) false away (gone_more s.handle d calls done item p))

  item_short : (item : Item) → AllGrow text holds → (part : List ℕ) → IsPrefix part (message_of item) → FanShort (outlets_of text filled sinks) (calls ++ Write ERRORS part Went ∷ []) (done ++ item ∷ []) false
  item_short item grows part prefix = each_outlet text filled sinks (λ i o. TextShort o.sink o.due (calls ++ Write ERRORS part Went ∷ []) (done ++ item ∷ []) false) (sink_short item grows part prefix)

  -- or for the end
  sink_end : AllGrow text holds → (i : ℕ) (s : Sink) → slice_get sinks i ≡ Some s → TextShort s.handle (due_at text filled i s) calls done true
  sink_end grows i s at = short a.0 (stand i s a.0 at a.1)
    where
      d : Due
      d = due_at text filled i s

      a : (x : Bool) × (slice_get live i ≡ Some x)
      a = get_there live i (omega (arith, get_within sinks i s at, lives))

      short : (b : Bool) → Stands caught (holds i) s.handle d b calls done false → TextShort s.handle d calls done true
      short true p = record { text = rw (append-nil done) at (took_prefix s.handle d (grows i done false (text i p.1.took.early false) p.1.held) calls done [] true p.1.took); told = prefix_equal (sym p.1.took.told) }
      short false p = gone_short s.handle d calls done true (prefix_equal (sym taken.told)) (gone_to true s.handle d calls done p)

  end_short : AllGrow text holds → FanShort (outlets_of text filled sinks) calls done true
  end_short grows = each_outlet text filled sinks (λ i o. TextShort o.sink o.due calls done true) (sink_end grows)

-- ---- a message and then the writes to sinks

made_both : (alone hs text : List ℕ) {IsEach : List Call → Type 0} {s t u : Seen} (IsSo : List Call → Type 0) (p : Called (λ more. more ≡ Write ERRORS text Went ∷ []) s t) (b go : Bool) → b ≡ go → (e : MadeBut alone b [] hs IsEach t u)
    → IsSo (Write ERRORS text Went ∷ e.calls) → MadeBut alone go [] (ERRORS ∷ hs) IsSo s u
made_both alone hs text {s = s} {t = t} {u = u} IsSo p b go same e so = record {
  calls = p.calls ++ e.calls;
  did = did_then p.calls e.calls s t u p.did e.did;
  on = on_append [] (ERRORS ∷ hs) p.calls e.calls (rw p.is (inl refl, tt)) (on_wider hs e.calls e.on);
  fail = but_then alone go p.calls e.calls (rw p.is (but_went alone ERRORS text)) (subst (λ (x : Bool). fails_but alone x e.calls ≡ true) same e.fail);
  is = rw p.is so;
}

-- a message alone
made_told : (alone hs bytes : List ℕ) (mark : Mark) {s t : Seen} (IsSo : List Call → Type 0) (calls : List Call) → calls ≡ Write ERRORS bytes mark ∷ [] → Did calls s t → IsSo (Write ERRORS bytes mark ∷ []) → MadeBut alone false [] (ERRORS ∷ hs) IsSo s t
made_told alone hs bytes mark IsSo calls is did so = record { calls = calls; did = did; on = rw is (inl refl, tt); fail = rw is (but_last alone (Write ERRORS bytes mark)); is = rw is so }

-- the writes to sinks alone
made_sinks : (alone hs : List ℕ) {IsEach : List Call → Type 0} {t u : Seen} (IsSo : List Call → Type 0) (b go : Bool) → b ≡ go → (e : MadeBut alone b [] hs IsEach t u) → IsSo e.calls → MadeBut alone go [] (ERRORS ∷ hs) IsSo t u
made_sinks alone hs IsSo b go same e so = record { calls = e.calls; did = e.did; on = on_wider hs e.calls e.on; fail = subst (λ (x : Bool). fails_but alone x e.calls ≡ true) same e.fail; is = so }

-- and they end
made_end : (alone hs : List ℕ) {IsEach : List Call → Type 0} {t u : Seen} (IsSo : List Call → Type 0) (b : Bool) (e : MadeBut alone b [] hs IsEach t u) → IsSo e.calls → MadeBut alone false [] (ERRORS ∷ hs) IsSo t u
made_end alone hs IsSo b e so = record { calls = e.calls; did = e.did; on = on_wider hs e.calls e.on; fail = but_end alone b e.calls e.fail; is = so }

-- ---- the calls of an output

-- of whatever it took from a first output on
module _ {T : Type 0} (text : T → ℕ → List Item → Bool → List ℕ) (filled : T → ℕ → List Item → Bool) (holds : T → ℕ → List Item → Bool → List ℕ → Type 0) (count : T → ℕ)
    (grows : (texts : T) (i : ℕ) (met : List Item) (all : Bool) (taken : List ℕ) → holds texts i met all taken → (list more : List Item) (ended : Bool) → IsPrefix (text texts i list false) (text texts i (list ++ more) ended))
    (start old : FanOutput T) (calls : List Call) (done : List Item) {s : Seen} (can : CanFan count old s) where
  -- the sinks, the outputs to them, and the flags of those that are live
  abbrev ss : List Sink
  ss = start.sinks.items

  abbrev hs : List ℕ
  hs = handles start.sinks.items

  abbrev outs : List Outlet
  outs = outlets_of (text start.texts) (filled start.texts) start.sinks.items

  abbrev flags : List Bool
  flags = old.live.items

  abbrev Short : List Item → Bool → List Call → Type 0
  Short met all more = FanShort outs (calls ++ more) met all

  abbrev Ended : FanEnding → List Item → Bool → List Call → Type 0
  Ended ending last all more = FanEnded outs ending (calls ++ more) done last all

  -- these were taken, or printed whole
  module _ (caught : Bool) (p : HasTaken text filled holds caught start old calls done) where
    own_apart : AreApart ss
    own_apart = subst (λ (x : Vec Sink Global). AreApart x.items) p.sinks can.apart

    own_lives : length flags ≡ length ss
    own_lives = p.took.lives ∙ outlets_length (text start.texts) (filled start.texts) ss

    own_grows : AllGrow (text start.texts) (holds old.texts)
    own_grows i met every taken held list more ended = rw p.texts at (grows old.texts i met every taken held list more ended)

    -- the message of an item: there was no memory for it, or its write failed where nothing is held
    pub told_short : {t : Seen} (item : Item) (e : NoMemory) → Called (Puts ERRORS (codes "stderr") (message_of item) (Err e)) s t → MadeBut (several hs) false [] (ERRORS ∷ hs) (Short (done ++ item ∷ []) false) s t
    told_short item e puts = made_told (several hs) hs puts.is.0 Went (Short (done ++ item ∷ []) false) puts.calls puts.is.2 puts.did
        (item_short (text start.texts) (filled start.texts) ss own_apart flags old.unwritten calls done (holds old.texts) caught p.took item own_grows puts.is.0 puts.is.1)

    untold : {t : Seen} → caught ≡ true → (item : Item) (ending : FanEnding) → ending.how ≡ fans.Unreported → ending.unwritten ≡ old.unwritten → Called (Puts ERRORS (codes "stderr") (message_of item) (Ok false)) s t
        → MadeBut (several hs) false [] (ERRORS ∷ hs) (Ended ending (item ∷ []) false) s t
    untold all item ending is_how is_x puts = made_told (several hs) hs puts.is.0 (Failed (codes "stderr")) (Ended ending (item ∷ []) false) puts.calls puts.is.2 puts.did
        (item_unreported (text start.texts) (filled start.texts) ss own_apart flags old.unwritten calls done (holds old.texts) caught p.took all item own_grows puts.is.0 puts.is.1 ending is_how is_x)

    -- it was written, and there was no memory for the texts
    pub item_lacked : {t : Seen} (item : Item) → Called (Puts ERRORS (codes "stderr") (message_of item) (Ok true)) s t → MadeBut (several hs) false [] (ERRORS ∷ hs) (Short (done ++ item ∷ []) false) s t
    item_lacked item puts = made_told (several hs) hs (message_of item) Went (Short (done ++ item ∷ []) false) puts.calls puts.is puts.did
        (item_short (text start.texts) (filled start.texts) ss own_apart flags old.unwritten calls done (holds old.texts) caught p.took item own_grows (message_of item) (prefix_same (message_of item)))

    -- the end: there was no memory for the texts
    pub texts_lacked : MadeBut (several hs) false [] (ERRORS ∷ hs) (Short done true) s s
    texts_lacked = record {
      calls = [];
      did = refl;
      on = tt;
      fail = but_none (several hs) false;
      is = rw (append-nil calls) (end_short (text start.texts) (filled start.texts) ss own_apart flags old.unwritten calls done (holds old.texts) caught p.took own_grows);
    }

    -- what is held, or the rest at the end
    module _ (piece : Piece) (is_sunk : (d : Due) (early : List Item) (sunk : List ℕ) → sunk ≡ whole d early false → IsSunk piece d done [] early sunk) (next : ℕ → List Item → Bool → List ℕ → Type 0)
        (takes : (i : ℕ) (met : List Item) (taken : List ℕ) → holds old.texts i met false taken → filled start.texts i met ≡ false → next i met (is_end piece) taken) where
      rests : AllWait piece (text start.texts) (filled start.texts) next ss flags calls done []
      rests = rest_waits (text start.texts) (filled start.texts) ss own_apart flags old.unwritten calls done (holds old.texts) caught p.took piece is_sunk next takes

      rest_told : written_by ERRORS calls ≡ messages_of (done ++ [])
      rest_told = p.took.told ∙ ap messages_of (sym (append-nil done))

      -- there was no memory for one of them
      pub rest_lacked : {u : Seen} → EachShort piece (text start.texts) (filled start.texts) next ss flags s u → MadeBut (several hs) false [] (ERRORS ∷ hs) (Short done (is_end piece)) s u
      rest_lacked e = made_sinks (several hs) hs (Short done (is_end piece)) false false refl e (rw (append-nil done) at (e.is calls done [] (prefix_equal (sym rest_told)) rests))

      module _ (last : ℕ → List Item → Bool → List ℕ → Type 0) (new : List Bool) (x : Option ℕ) (same : length new ≡ length flags) {u : Seen} (e : EachWrote piece (text start.texts) (filled start.texts) next ss flags last new old.unwritten x s u) where
        -- some are live
        pub rest_on : is_end piece ≡ false → is_live new ≡ true → MadeBut (several hs) true [] (ERRORS ∷ hs) (λ more. FanTook (leaves_none piece) last outs new x (calls ++ more) done) s u
        rest_on goes some = made_sinks (several hs) hs (λ more. FanTook (leaves_none piece) last outs new x (calls ++ more) done) (is_live new) true some e
            (rw (append-nil done) at (all_stand piece (text start.texts) (filled start.texts) next ss flags own_apart last new old.unwritten x own_lives same calls done [] rest_told p.took.quiet p.took.blames rests e goes some))

        -- none is
        pub rest_idle : is_end piece ≡ false → is_live new ≡ false → (ending : FanEnding) → ending.how ≡ fans.Idle → ending.unwritten ≡ x → MadeBut (several hs) false [] (ERRORS ∷ hs) (Ended ending [] (is_end piece)) s u
        rest_idle goes none ending is_how is_x = made_sinks (several hs) hs (Ended ending [] (is_end piece)) (is_live new) false none e
            (all_idle piece (text start.texts) (filled start.texts) next ss flags own_apart last new old.unwritten x own_lives same calls done [] rest_told p.took.quiet p.took.blames rests e p.took.some goes none ending is_how is_x)

        -- all was written
        pub rest_whole : is_end piece ≡ true → (ending : FanEnding) → ending.how ≡ fans.Whole → ending.unwritten ≡ x → MadeBut (several hs) false [] (ERRORS ∷ hs) (Ended ending [] (is_end piece)) s u
        rest_whole every ending is_how is_x = made_end (several hs) hs (Ended ending [] (is_end piece)) (is_live new) e
            (all_whole piece (text start.texts) (filled start.texts) next ss flags own_apart last new old.unwritten x own_lives same calls done [] rest_told p.took.quiet p.took.blames rests e p.took.some every refl ending is_how is_x)

  -- what was taken was printed whole, where an item has a message
  module _ (p : HasTaken text filled holds false start old calls done) (item : Item) (printed : is_quiet item ≡ false → HasTaken text filled holds true start old calls done) where
    -- its message couldn't be written
    pub told_failed : {t : Seen} (ending : FanEnding) → ending.how ≡ fans.Unreported → ending.unwritten ≡ old.unwritten → Called (Puts ERRORS (codes "stderr") (message_of item) (Ok false)) s t
        → MadeBut (several hs) false [] (ERRORS ∷ hs) (Ended ending (item ∷ []) false) s t
    told_failed ending is_how is_x puts = untold true (printed (told_item puts.is.0 item puts.is.1)) refl item ending is_how is_x puts

    -- it was written, and the texts took the item
    module _ (next last : ℕ → List Item → Bool → List ℕ → Type 0) (takes : (i : ℕ) (met : List Item) (taken : List ℕ) → holds old.texts i met false taken → filled start.texts i met ≡ false → next i (met ++ item ∷ []) false taken) {t : Seen}
        (puts : Called (Puts ERRORS (codes "stderr") (message_of item) (Ok true)) s t) where
      abbrev W : List Call
      W = Write ERRORS (message_of item) Went ∷ []

      waits : AllWait pieces.Full (text start.texts) (filled start.texts) next ss flags (calls ++ W) done (item ∷ [])
      waits = item_waits (text start.texts) (filled start.texts) ss (own_apart false p) flags old.unwritten calls done (holds old.texts) false p.took next item takes
          (λ told. let q = printed told in all_written (text start.texts) (filled start.texts) ss (own_apart false p) flags old.unwritten calls done (holds old.texts) true q.took refl)

      told : written_by ERRORS (calls ++ W) ≡ messages_of (done ++ item ∷ [])
      told = added_here ERRORS (message_of item) Went calls (messages_of done) p.took.told ∙ flat_map_more message_of [] done item

      quiet : fails_at ERRORS (calls ++ W) ≡ false
      quiet = went_clean ERRORS calls ERRORS (message_of item) p.took.quiet

      blames : Blames outs None old.unwritten (calls ++ W)
      blames = blames_still outs None old.unwritten calls W refl p.took.blames

      pub each_lacked : {u : Seen} → EachShort pieces.Full (text start.texts) (filled start.texts) next ss flags t u → MadeBut (several hs) false [] (ERRORS ∷ hs) (Short (done ++ item ∷ []) false) s u
      each_lacked e = made_both (several hs) hs (message_of item) (Short (done ++ item ∷ []) false) puts false false refl e
          (rw (sym (append_assoc calls W e.calls)) (e.is (calls ++ W) done (item ∷ []) (prefix_equal (sym told)) waits))

      module _ (new : List Bool) (x : Option ℕ) (same : length new ≡ length flags) {u : Seen} (e : EachWrote pieces.Full (text start.texts) (filled start.texts) next ss flags last new old.unwritten x t u) where
        pub each_on : is_live new ≡ true → MadeBut (several hs) true [] (ERRORS ∷ hs) (λ more. FanTook false last outs new x (calls ++ more) (done ++ item ∷ [])) s u
        each_on some = made_both (several hs) hs (message_of item) (λ more. FanTook false last outs new x (calls ++ more) (done ++ item ∷ [])) puts (is_live new) true some e
            (rw (sym (append_assoc calls W e.calls)) (all_stand pieces.Full (text start.texts) (filled start.texts) next ss flags (own_apart false p) last new old.unwritten x (own_lives false p) same (calls ++ W) done (item ∷ []) told quiet blames waits e refl some))

        pub each_idle : is_live new ≡ false → (ending : FanEnding) → ending.how ≡ fans.Idle → ending.unwritten ≡ x → MadeBut (several hs) false [] (ERRORS ∷ hs) (Ended ending (item ∷ []) false) s u
        each_idle none ending is_how is_x = made_both (several hs) hs (message_of item) (Ended ending (item ∷ []) false) puts (is_live new) false none e
            (rw (sym (append_assoc calls W e.calls)) (all_idle pieces.Full (text start.texts) (filled start.texts) next ss flags (own_apart false p) last new old.unwritten x (own_lives false p) same (calls ++ W) done (item ∷ []) told quiet blames waits e p.took.some refl none ending is_how is_x))

-- ---- what stands before all items

module _ {T : Type 0} (text : T → ℕ → List Item → Bool → List ℕ) (filled : T → ℕ → List Item → Bool) (holds : T → ℕ → List Item → Bool → List ℕ → Type 0) (count : T → ℕ) (o : FanOutput T) {s : Seen} (can : CanFan count o s) (fresh : IsNew text filled holds o) where
  abbrev ks : List ℕ
  ks = handles o.sinks.items

  abbrev news : List Outlet
  news = outlets_of (text o.texts) (filled o.texts) o.sinks.items

  new_waits : AllWait pieces.Head (text o.texts) (filled o.texts) (holds o.texts) o.sinks.items o.live.items [] [] []
  new_waits i r b at is = rw (fresh.all_live i b is) (record {
    early = [];
    late = [];
    parts = refl;
    one = omega arith;
    end = λ e. refl;
    fewer = fresh.fewer i r at;
    sunk = (refl, refl, refl, fresh.no_text i r at, refl);
    said = refl;
    order = λ earlier x later e. absurd (no_item earlier x later e);
    clean = refl;
    held = rw (fresh.no_text i r at) (fresh.none i r at);
  })

  unblamed : Blames news None o.unwritten []
  unblamed = subst (λ (y : Option ℕ). Blames news None y []) (sym fresh.whole) refl

  pub begin_short : {u : Seen} → EachShort pieces.Head (text o.texts) (filled o.texts) (holds o.texts) o.sinks.items o.live.items s u → MadeBut (several ks) false [] (ERRORS ∷ ks) (λ more. FanShort news more [] false) s u
  begin_short e = made_sinks (several ks) ks (λ more. FanShort news more [] false) false false refl e (e.is [] [] [] (prefix_same []) new_waits)

  module _ (last : ℕ → List Item → Bool → List ℕ → Type 0) (new : List Bool) (x : Option ℕ) (same : length new ≡ length o.live.items) {u : Seen} (e : EachWrote pieces.Head (text o.texts) (filled o.texts) (holds o.texts) o.sinks.items o.live.items last new o.unwritten x s u) where
    pub begin_on : is_live new ≡ true → MadeBut (several ks) true [] (ERRORS ∷ ks) (λ more. FanTook true last news new x more []) s u
    begin_on some = made_sinks (several ks) ks (λ more. FanTook true last news new x more []) (is_live new) true some e
        (all_stand pieces.Head (text o.texts) (filled o.texts) (holds o.texts) o.sinks.items o.live.items can.apart last new o.unwritten x can.lives same [] [] [] refl refl unblamed new_waits e refl some)

    pub begin_idle : is_live new ≡ false → (ending : FanEnding) → ending.how ≡ fans.Idle → ending.unwritten ≡ x → MadeBut (several ks) false [] (ERRORS ∷ ks) (λ more. FanEnded news ending more [] [] false) s u
    begin_idle none ending is_how is_x = made_sinks (several ks) ks (λ more. FanEnded news ending more [] [] false) (is_live new) false none e
        (all_idle pieces.Head (text o.texts) (filled o.texts) (holds o.texts) o.sinks.items o.live.items can.apart last new o.unwritten x can.lives same [] [] [] refl refl unblamed new_waits e fresh.some refl none ending is_how is_x)

-- ---- each sink still has its name

pub puts_named : (sinks : List Sink) (name bytes : List ℕ) {s t : Seen} → Called (Puts ERRORS name bytes (Ok true)) s t → AreNamed sinks s → AreNamed sinks t
puts_named sinks name bytes {s = s} {t = t} p named i r at = on_names [] (ERRORS ∷ []) p.calls s t (rw p.is (inl refl, tt)) p.did Writing r.handle r.name ∙ named i r at

pub each_named : (sinks : List Sink) {alone : List ℕ} {go : Bool} {IsEach : List Call → Type 0} {t u : Seen} → MadeBut alone go [] (handles sinks) IsEach t u → AreNamed sinks t → AreNamed sinks u
each_named sinks {t = t} {u = u} e named i r at = on_names [] (handles sinks) e.calls t u e.on e.did Writing r.handle r.name ∙ named i r at
