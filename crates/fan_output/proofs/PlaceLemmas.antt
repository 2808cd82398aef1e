-- What one write makes of one output, and that it changes nothing of the others.
use Rattle.std.proofs.Common.{◌≡◌, ◌≢◌, ◌⊎◌, ℕ, ◌==◌, ◌&&◌, ◌||◌, Bool, true, false, List, [], ◌∷◌, ◌++◌, Option, Some, None, refl, sym, ap, subst, ◌∙◌, append_assoc, inl, inr, not, Ok, Err}
use Rattle.std.proofs.lemmas.List.{append-nil}
use Rattle.std.proofs.lemmas.List.Folds.{list_any-append}
use Rattle.log_model.specs.Prefix.{IsPrefix, IsProperPrefix}
use Rattle.log_model.proofs.PrefixLemmas.{prefix_nil, prefix_append, prefix_equal, prefix_after, proper_after}
use Rattle.vio.specs.declared.world.TheConstants.{ERRORS}
use Rattle.vio.specs.Touches.{IsOneOf}
use Rattle.log_model.specs.declared.fault.NoMemory.{NoMemory}
use Rattle.vio.specs.World.{Seen}
use Rattle.vio.specs.Calls.{Mark, Went, Failed, Call, Called, Write, AreOn, is_failed, fails, written_by}
use Rattle.vio.proofs.CallLemmas.{written_append, written_here, written_other}
use Rattle.ring_layout.specs.declared.item.Item.{Item}
use Rattle.one_run.specs.Run.{MadeBut}
use Rattle.fan_output.specs.declared.ending.TextEnding.{TextEnding}
use Rattle.fan_output.specs.declared.ending.TextEnding.TheVariants as endings
use Rattle.fan_output.specs.declared.piece.Piece.{Piece}
use Rattle.fan_output.specs.declared.piece.Piece.TheVariants as pieces
use Rattle.fan_output.specs.declared.sink.Sink.{Sink}
use Rattle.fan_output.specs.Messages.{messages_of}
use Rattle.fan_output.specs.Ends.{Due, Grows, InOrder, TextEnded, TextShort, whole}
use Rattle.fan_output.specs.Fan.{Blames, FailsLast, Gone, GoneNow, IsAway, Stands}
use Rattle.fan_output.specs.Unwritten.{fails_at, first_of, is_unwritten}
use Rattle.fan_output.specs.inside.Pieces.{IsPiece, IsSunk, is_end, leaves_none}
use Rattle.fan_output.specs.inside.Steps.{BlamesAt, Half, Puts, Waits, Wrote}
use Rattle.fan_output.specs.Laws.{blames_still, clean_still, first_append, gone_still, gone_now_still, order_still}
use Rattle.fan_output.proofs.EndLemmas.{ended_short, short_prefix}

-- ---- one write

pub added_here : (h : ℕ) (bytes : List ℕ) (mark : Mark) (calls : List Call) (first : List ℕ) → written_by h calls ≡ first → written_by h (calls ++ Write h bytes mark ∷ []) ≡ first ++ bytes
added_here h bytes mark calls first is = written_append h calls (Write h bytes mark ∷ []) ∙ ap (λ (x : List ℕ). x ++ written_by h (Write h bytes mark ∷ [])) is ∙ ap (λ (x : List ℕ). first ++ x) (written_here h bytes mark)

pub added_other : (k h : ℕ) (bytes : List ℕ) (mark : Mark) (calls : List Call) (first : List ℕ) → k ≢ h → written_by h calls ≡ first → written_by h (calls ++ Write k bytes mark ∷ []) ≡ first
added_other k h bytes mark calls first other is = written_append h calls (Write k bytes mark ∷ []) ∙ ap (λ (x : List ℕ). written_by h calls ++ x) (written_other k h bytes mark other) ∙ append-nil (written_by h calls) ∙ is

pub last_call : (calls : List Call) (call : Call) → IsOneOf call (calls ++ call ∷ [])
last_call [] call = inl refl
last_call (c ∷ calls) call = inr (last_call calls call)

-- whether one failed with it
more_fails : (h : ℕ) (calls : List Call) (k : ℕ) (bytes : List ℕ) (mark : Mark) → fails_at h (calls ++ Write k bytes mark ∷ []) ≡ (fails_at h calls || (((k == h) && is_failed mark) || false))
more_fails h calls k bytes mark = list_any-append (is_unwritten h) calls (Write k bytes mark ∷ [])

and_false : (a : Bool) → ((a && false) || false) ≡ false
and_false true = refl
and_false false = refl

-- a write that went fails nothing
pub went_clean : (h : ℕ) (calls : List Call) (k : ℕ) (bytes : List ℕ) → fails_at h calls ≡ false → fails_at h (calls ++ Write k bytes Went ∷ []) ≡ false
went_clean h calls k bytes clean = more_fails h calls k bytes Went ∙ ap (λ (b : Bool). b || (((k == h) && false) || false)) clean ∙ and_false (k == h)

-- ---- what was written before a piece

-- nothing was, before all items; or the text of the first
sunk_or : (piece : Piece) (d : Due) (done last early : List Item) (sunk : List ℕ) → IsSunk piece d done last early sunk
    → ((is_end piece ≡ false) × (done ++ last ≡ []) × (d.text [] false ≡ []) × (sunk ≡ [])) ⊎ (sunk ≡ whole d early false)
sunk_or pieces.Head d done last early sunk p = inl (refl, rw (p.0, p.1) refl, p.3, p.4)
sunk_or pieces.Full d done last early sunk p = inr p
sunk_or pieces.All d done last early sunk p = inr p
sunk_or pieces.Last d done last early sunk p = inr p

-- it is no more than what is due of more items
sunk_short : (piece : Piece) (d : Due) (done last early late : List Item) (sunk : List ℕ) → Grows d → done ≡ early ++ late → IsSunk piece d done last early sunk → (all : Bool) → IsPrefix sunk (whole d (done ++ last) all)
sunk_short piece d done last early late sunk grows parts p all = elim (sunk_or piece d done last early sunk p) [
  | inl none ↦ rw none.3 (prefix_nil (whole d (done ++ last) all))
  | inr is ↦ rw (is, parts, append_assoc early late last) (prefix_after d.head (grows early (late ++ last) all))
]

-- a part of a text that is all that is due behind it: before all items it is a part of what stands there, else it comes behind that
sunk_part : (piece : Piece) (d : Due) (done last early : List Item) (sunk text part : List ℕ) → IsSunk piece d done last early sunk → sunk ++ text ≡ whole d (done ++ last) (is_end piece) → IsProperPrefix part text
    → ((done ++ last ≡ []) × (is_end piece ≡ false) × IsProperPrefix (sunk ++ part) d.head) ⊎ (IsPrefix d.head (sunk ++ part) × IsProperPrefix (sunk ++ part) (whole d (done ++ last) (is_end piece)))
sunk_part piece d done last early sunk text part p fit proper = elim (sunk_or piece d done last early sunk p) [
  | inl none ↦
      let head : text ≡ d.head = sym (ap (λ (x : List ℕ). x ++ text) none.3) ∙ fit ∙ ap (λ (x : List Item). whole d x (is_end piece)) none.1 ∙ ap (λ (b : Bool). whole d [] b) none.0 ∙ ap (λ (x : List ℕ). d.head ++ x) none.2 ∙ append-nil d.head in
      inl (none.1, none.0, rw none.3 (rw head at proper))
  | inr is ↦ inr (rw (is, append_assoc d.head (d.text early false) part) (prefix_append d.head (d.text early false ++ part)), rw fit at (proper_after sunk proper))
]

text_due : (d : Due) (holds now : List Item → Bool → List ℕ → Type 0) (bytes : List ℕ) (early : List Item) (sunk : List ℕ) (met : List Item) (all : Bool) → sunk ≡ whole d early false → (d.text early false ++ bytes ≡ d.text met all) × now met all (d.text early false ++ bytes)
    → (sunk ++ bytes ≡ whole d met all) × now met all (d.text met all)
text_due d holds now bytes early sunk met all p is =
    (ap (λ (x : List ℕ). x ++ bytes) p ∙ append_assoc d.head (d.text early false) bytes ∙ ap (λ (x : List ℕ). d.head ++ x) is.0, subst (λ (x : List ℕ). now met all x) is.0 is.1)

-- bytes that are a piece are all that is due behind it, and then nothing is held
piece_due : (piece : Piece) (d : Due) (holds now : List Item → Bool → List ℕ → Type 0) (bytes : List ℕ) (done last early : List Item) (sunk : List ℕ) → IsSunk piece d done last early sunk → IsPiece piece d.head d.text holds now bytes → holds (done ++ last) (is_end piece) (d.text early false)
    → (sunk ++ bytes ≡ whole d (done ++ last) (is_end piece)) × now (done ++ last) (is_end piece) (d.text (done ++ last) (is_end piece))
piece_due pieces.Head d holds now bytes done last early sunk p is held =
    rw (p.0, p.1, p.4, is.0, p.3) (sym (append-nil d.head), rw (p.0, p.1, p.2, p.3) at (is.1 (done ++ last) false (d.text early false) held))
piece_due pieces.Full d holds now bytes done last early sunk p is held = text_due d holds now bytes early sunk (done ++ last) false p (is (done ++ last) false (d.text early false) held)
piece_due pieces.All d holds now bytes done last early sunk p is held = text_due d holds now bytes early sunk (done ++ last) false p (is (done ++ last) false (d.text early false) held)
piece_due pieces.Last d holds now bytes done last early sunk p is held = text_due d holds now bytes early sunk (done ++ last) true p (is (done ++ last) true (d.text early false) held)

-- ---- what an output comes to with a write to its sink

module _ (piece : Piece) (holds : List Item → Bool → List ℕ → Type 0) (sink : ℕ) (d : Due) (apart : sink ≢ ERRORS) (calls : List Call) (done last : List Item) (half : Half piece holds sink d calls done last) where
  module _ (part : List ℕ) (mark : Mark) where
    sunk : written_by sink (calls ++ Write sink part mark ∷ []) ≡ written_by sink calls ++ part
    sunk = added_here sink part mark calls (written_by sink calls) refl

    said : written_by ERRORS (calls ++ Write sink part mark ∷ []) ≡ messages_of (done ++ last)
    said = added_other sink ERRORS part mark calls (messages_of (done ++ last)) apart half.said

    order : InOrder sink d (done ++ last) (calls ++ Write sink part mark ∷ [])
    order = order_still sink d (done ++ last) calls (Write sink part mark ∷ []) half.order

    -- it ended with it
    ended : Grows d → (ending : TextEnding) → FailsLast sink d.name ending (calls ++ Write sink part mark ∷ []) → TextEnded sink d ending (calls ++ Write sink part mark ∷ []) done last (is_end piece) → GoneNow sink d (calls ++ Write sink part mark ∷ []) done last (is_end piece)
    ended grows ending final ends = record {
      gone = record {
        first = calls ++ Write sink part mark ∷ [];
        more = [];
        are = sym (append-nil (calls ++ Write sink part mark ∷ []));
        away = tt;
        ending = ending;
        done = done;
        last = last;
        rest = [];
        here = is_end piece;
        one = half.one;
        parts = sym (append-nil (done ++ last));
        whole = λ e. (refl, e);
        grows = grows;
        ends = ends;
        final = final;
      };
      own_done = refl;
      own_last = refl;
      own_here = refl;
    }

  module _ (text : List ℕ) (fit : written_by sink calls ++ text ≡ whole d (done ++ last) (is_end piece)) where
    clean : fails_at sink (calls ++ Write sink text Went ∷ []) ≡ false
    clean = went_clean sink calls sink text half.clean

    all_sunk : written_by sink (calls ++ Write sink text Went ∷ []) ≡ whole d (done ++ last) (is_end piece)
    all_sunk = sunk text Went ∙ fit

    -- it was written, and more may follow
    pub put_on : (now : List Item → Bool → List ℕ → Type 0) → now (done ++ last) (is_end piece) (d.text (done ++ last) (is_end piece)) → is_end piece ≡ false → d.filled (done ++ last) ≡ false → Stands (leaves_none piece) now sink d true (calls ++ Write sink text Went ∷ []) (done ++ last) (is_end piece)
    put_on now held goes fewer = (
      goes,
      record {
        took = record {
          early = done ++ last;
          late = [];
          parts = sym (append-nil (done ++ last));
          fewer = fewer;
          text = all_sunk ∙ ap (λ (b : Bool). whole d (done ++ last) b) goes;
          told = said text Went;
          order = order text Went;
        };
        none = λ e. refl;
        clean = clean;
        held = subst (λ (b : Bool). now (done ++ last) b (d.text (done ++ last) b)) goes held;
      },
    )

    -- it was the last of what is kept
    pub put_kept : Grows d → is_end piece ≡ false → d.filled (done ++ last) ≡ true → GoneNow sink d (calls ++ Write sink text Went ∷ []) done last (is_end piece)
    put_kept grows goes filled = ended text Went grows endings.Kept clean (record { fewer = half.fewer; ends = (goes, filled, all_sunk ∙ ap (λ (b : Bool). whole d (done ++ last) b) goes, said text Went); order = order text Went; cause = tt })

    -- it was the rest, at the end
    pub put_whole : Grows d → is_end piece ≡ true → GoneNow sink d (calls ++ Write sink text Went ∷ []) done last (is_end piece)
    put_whole grows every =
        let none = half.end every in
        let list : done ++ last ≡ done = ap (λ (x : List Item). done ++ x) none ∙ append-nil done in
        ended text Went grows endings.Whole clean (record { fewer = half.fewer; ends = (none, every, all_sunk ∙ (λ i. whole d (list i) (every i)), said text Went ∙ ap messages_of list); order = order text Went; cause = tt })

    -- its write failed
    pub put_failed : Grows d → (part : List ℕ) → IsProperPrefix part text → GoneNow sink d (calls ++ Write sink part (Failed d.name) ∷ []) done last (is_end piece)
    put_failed grows part proper =
        let failed = Failed d.name in
        ended part failed grows (endings.Unwritten d.name) (calls, part, refl, half.clean) (record {
          fewer = half.fewer;
          ends = (refl, said part failed, rw (sunk part failed) (sunk_part piece d done last half.early (written_by sink calls) text part half.sunk fit proper));
          order = order part failed;
          cause = (part, last_call calls (Write sink part failed));
        })

    -- there was no memory for it
    pub put_short : (part : List ℕ) → IsPrefix part text → TextShort sink d (calls ++ Write sink part Went ∷ []) (done ++ last) (is_end piece)
    put_short part prefix = record {
      text = rw (sunk part Went) (rw fit at (prefix_after (written_by sink calls) prefix));
      told = prefix_equal (sym (said part Went));
    }

-- ---- what others write

-- calls on one handle write to no other
pub on_away : (h k : ℕ) (more : List Call) → h ≢ k → AreOn [] (h ∷ []) more → IsAway k more
on_away h k [] other on = tt
on_away h k (Write i bytes mark ∷ more) other on = (λ e. elim on.0 [ inl is ↦ other (sym is ∙ e) | inr none ↦ absurd none ], on_away h k more other on.1)
on_away h k (call ∷ more) other on = absurd on.0

pub away_written : (k : ℕ) (more : List Call) → IsAway k more → written_by k more ≡ []
away_written k [] away = refl
away_written k (Call.Write h bytes mark ∷ more) away = written_append k (Write h bytes mark ∷ []) more ∙ (λ i. written_other h k bytes mark away.0 i ++ away_written k more away.1 i)
away_written k (Call.Take h bytes mark ∷ more) away = away_written k more away
away_written k (Call.Open name h ∷ more) away = away_written k more away
away_written k (Call.Create append name h empty ∷ more) away = away_written k more away
away_written k (Call.Refuse kind name ∷ more) away = away_written k more away
away_written k (Call.Lack ∷ more) away = away_written k more away

pub still : (k : ℕ) (calls more : List Call) → IsAway k more → written_by k (calls ++ more) ≡ written_by k calls
still k calls more away = written_append k calls more ∙ ap (λ (x : List ℕ). written_by k calls ++ x) (away_written k more away) ∙ append-nil (written_by k calls)

module _ (sink : ℕ) (d : Due) (calls more : List Call) (away : IsAway sink more) (quiet : IsAway ERRORS more) where
  pub short_still : (met : List Item) (all : Bool) → TextShort sink d calls met all → TextShort sink d (calls ++ more) met all
  short_still met all p = record { text = rw (still sink calls more away) p.text; told = rw (still ERRORS calls more quiet) p.told }

  module _ (piece : Piece) (holds now : List Item → Bool → List ℕ → Type 0) (kept : (met : List Item) (all : Bool) (taken : List ℕ) → holds met all taken → now met all taken) where
    pub waits_still : (live : Bool) (done last : List Item) → Waits piece holds sink d live calls done last → Waits piece now sink d live (calls ++ more) done last
    waits_still true done last p = record {
      early = p.early;
      late = p.late;
      parts = p.parts;
      one = p.one;
      end = p.end;
      fewer = p.fewer;
      sunk = subst (λ (x : List ℕ). IsSunk piece d done last p.early x) (sym (still sink calls more away)) p.sunk;
      said = still ERRORS calls more quiet ∙ p.said;
      order = order_still sink d (done ++ last) calls more p.order;
      clean = clean_still sink calls more away ∙ p.clean;
      held = kept (done ++ last) (is_end piece) (d.text p.early false) p.held;
    }
    waits_still false done last p = gone_still sink d calls more (done ++ last) (is_end piece) away p

    pub wrote_still : (old new : Bool) (done last : List Item) → Wrote piece holds sink d old new calls done last → Wrote piece now sink d old new (calls ++ more) done last
    wrote_still true true done last p = (
      p.0,
      record {
        took = record {
          early = p.1.took.early;
          late = p.1.took.late;
          parts = p.1.took.parts;
          fewer = p.1.took.fewer;
          text = still sink calls more away ∙ p.1.took.text;
          told = still ERRORS calls more quiet ∙ p.1.took.told;
          order = order_still sink d (done ++ last) calls more p.1.took.order;
        };
        none = p.1.none;
        clean = clean_still sink calls more away ∙ p.1.clean;
        held = kept (done ++ last) false (d.text p.1.took.early false) p.1.held;
      },
    )
    wrote_still true false done last p = gone_now_still sink d calls more done last (is_end piece) away p
    wrote_still false true done last p = absurd p
    wrote_still false false done last p = gone_still sink d calls more (done ++ last) (is_end piece) away p

-- ---- where there is no memory, each sink has a prefix of what is due

module _ (sink : ℕ) (d : Due) where
  -- the messages are those of the pass
  pub gone_short : (calls : List Call) (met : List Item) (all : Bool) → IsPrefix (written_by ERRORS calls) (messages_of met) → Gone sink d calls met all → TextShort sink d calls met all
  gone_short calls met all told g =
      let own = ended_short sink d g.grows g.ending g.first g.done g.last g.here g.ends in
      let whole = short_prefix sink d g.grows g.first (g.done ++ g.last) g.rest g.here all g.whole own in
      record { text = rw (g.are, still sink g.first g.more g.away, g.parts) whole.text; told = told }

-- ---- which place is blamed

-- a write that went blames none
went_blames : (place : ℕ) (name : List ℕ) (unwritten : Option ℕ) (h : ℕ) (bytes : List ℕ) → BlamesAt place name unwritten unwritten (Write h bytes Went ∷ [])
went_blames place name unwritten h bytes outlets o at named calls p = blames_still outlets None unwritten calls (Write h bytes Went ∷ []) refl p

-- no call blames none
none_blames : (place : ℕ) (name : List ℕ) (unwritten : Option ℕ) → BlamesAt place name unwritten unwritten []
none_blames place name unwritten outlets o at named calls p = blames_still outlets None unwritten calls [] refl p

-- a write that failed blames its place, where none was blamed before
failed_blames : (place : ℕ) (name : List ℕ) (old new : Option ℕ) → new ≡ first_of old (Some place) → (h : ℕ) (bytes : List ℕ) → BlamesAt place name old new (Write h bytes (Failed name) ∷ [])
failed_blames place name None new is h bytes outlets o at named calls p =
    subst (λ (x : Option ℕ). Blames outlets None x (calls ++ Write h bytes (Failed name) ∷ [])) (sym is)
    (o, at, first_append calls (Write h bytes (Failed name) ∷ []) ∙ ap (λ (x : Option (List ℕ)). first_of x (Some name)) p ∙ ap Some (sym named))
failed_blames place name (Some i) new is h bytes outlets o at named calls p =
    subst (λ (x : Option ℕ). Blames outlets None x (calls ++ Write h bytes (Failed name) ∷ [])) (sym is)
    (p.0, p.1, first_append calls (Write h bytes (Failed name) ∷ []) ∙ ap (λ (x : Option (List ℕ)). first_of x (Some name)) p.2)

-- ---- a place, by what the write to its sink came to

-- calls at a place, with which what waits there comes to something
abbrev pub PlaceMade : Bool → ℕ → Sink → Option ℕ → Option ℕ → (List Call → Type 0) → Seen → Seen → Type 0
PlaceMade go place sink old new IsSo s t = MadeBut [] go [] (sink.handle ∷ []) (λ more. BlamesAt place sink.name old new more × IsSo more) s t

-- what waits came to this with them
abbrev pub Became : (List Call → List Item → List Item → Type 0) → (List Call → List Item → List Item → Type 0) → List Call → Type 0
Became Wait Came more = (calls : List Call) (done last : List Item) → Wait calls done last → Came (calls ++ more) done last

-- one that is gone stays so
pub gone_place : (piece : Piece) (place : ℕ) (k : Sink) (unwritten : Option ℕ) (live : Bool) → live ≡ false → (holds : List Item → Bool → List ℕ → Type 0) (d : Due) (s : Seen)
    → PlaceMade false place k unwritten unwritten (Became (λ calls done last. Waits piece holds k.handle d live calls done last) (λ calls done last. Wrote piece holds k.handle d live false calls done last)) s s
gone_place piece place k unwritten true is holds d s = absurd cc
gone_place piece place k unwritten false is holds d s = record { calls = []; did = refl; on = tt; fail = refl; is = (none_blames place k.name unwritten, λ calls done last p. rw (append-nil calls) p) }

on_sink : (sink : ℕ) (bytes : List ℕ) (mark : Mark) (calls : List Call) → calls ≡ Write sink bytes mark ∷ [] → AreOn [] (sink ∷ []) calls
on_sink sink bytes mark calls is = subst (λ (x : List Call). AreOn [] (sink ∷ []) x) (sym is) (inl refl, tt)

-- one write fails alone
went_fails : (go : Bool) (h : ℕ) (bytes : List ℕ) (calls : List Call) → calls ≡ Write h bytes Went ∷ [] → fails go calls ≡ true
went_fails true h bytes calls is = subst (λ (x : List Call). fails true x ≡ true) (sym is) refl
went_fails false h bytes calls is = subst (λ (x : List Call). fails false x ≡ true) (sym is) refl

one_fails : (call : Call) (calls : List Call) → calls ≡ call ∷ [] → fails false calls ≡ true
one_fails call calls is = subst (λ (x : List Call). fails false x ≡ true) (sym is) refl

-- of a place that is live
module _ (piece : Piece) (place : ℕ) (k : Sink) (live : Bool) (is_live : live ≡ true) (holds : List Item → Bool → List ℕ → Type 0) (d : Due) (named : d.name ≡ k.name) (apart : k.handle ≢ ERRORS) where
  waiting : (calls : List Call) (done last : List Item) → Waits piece holds k.handle d live calls done last → Half piece holds k.handle d calls done last
  waiting calls done last p = subst (λ (b : Bool). Waits piece holds k.handle d b calls done last) is_live p

  lived : (now : List Item → Bool → List ℕ → Type 0) (new : Bool) (calls : List Call) (done last : List Item) → Wrote piece now k.handle d true new calls done last → Wrote piece now k.handle d live new calls done last
  lived now new calls done last p = subst (λ (b : Bool). Wrote piece now k.handle d b new calls done last) (sym is_live) p

  -- it holds what it has
  pub held_place : (unwritten : Option ℕ) (s : Seen) → piece ≡ pieces.Full → (is_last : Bool) → is_last ≡ false → (is_end piece ≡ false → (met : List Item) (taken : List ℕ) → holds met false taken → is_last ≡ d.filled met)
      → PlaceMade true place k unwritten unwritten (Became (λ calls done last. Waits piece holds k.handle d live calls done last) (λ calls done last. Wrote piece holds k.handle d live true calls done last)) s s
  held_place unwritten s full is_last more fills = record {
    calls = [];
    did = refl;
    on = tt;
    fail = refl;
    is = (none_blames place k.name unwritten, λ calls done last w. rw (append-nil calls) (lived holds true calls done last (each piece full fills calls done last (waiting calls done last w))));
  }
    where
      each : (p : Piece) → p ≡ pieces.Full → (is_end p ≡ false → (met : List Item) (taken : List ℕ) → holds met false taken → is_last ≡ d.filled met) → (calls : List Call) (done last : List Item) → Half p holds k.handle d calls done last → Wrote p holds k.handle d true true calls done last
      each pieces.Full e fills calls done last half = (
        refl,
        record {
          took = record {
            early = half.early;
            late = half.late ++ last;
            parts = ap (λ (x : List Item). x ++ last) half.parts ∙ append_assoc half.early half.late last;
            fewer = sym (fills refl (done ++ last) (d.text half.early false) half.held) ∙ more;
            text = half.sunk;
            told = half.said;
            order = half.order;
          };
          none = λ e. absurd cc;
          clean = half.clean;
          held = half.held;
        },
      )
      each pieces.Head e fills calls done last half = absurd cc
      each pieces.All e fills calls done last half = absurd cc
      each pieces.Last e fills calls done last half = absurd cc

  -- bytes were put that are the piece
  module _ (now : List Item → Bool → List ℕ → Type 0) (bytes : List ℕ) (are : IsPiece piece d.head d.text holds now bytes) (grows : (met : List Item) (all : Bool) (taken : List ℕ) → holds met all taken → Grows d) where
    fit : (calls : List Call) (done last : List Item) (half : Half piece holds k.handle d calls done last) → (written_by k.handle calls ++ bytes ≡ whole d (done ++ last) (is_end piece)) × now (done ++ last) (is_end piece) (d.text (done ++ last) (is_end piece))
    fit calls done last half = piece_due piece d holds now bytes done last half.early (written_by k.handle calls) half.sunk are half.held

    own_grows : (calls : List Call) (done last : List Item) → Half piece holds k.handle d calls done last → Grows d
    own_grows calls done last half = grows (done ++ last) (is_end piece) (d.text half.early false) half.held

    -- they were written, and were the last or not
    pub placed : {s t : Seen} → (unwritten : Option ℕ) → (is_last : Bool) → (is_end piece ≡ true → is_last ≡ true) → (is_end piece ≡ false → (met : List Item) (taken : List ℕ) → holds met false taken → is_last ≡ d.filled met) → Called (Puts k.handle k.name bytes (Ok true)) s t
        → PlaceMade (not is_last) place k unwritten unwritten (Became (λ calls done last. Waits piece holds k.handle d live calls done last) (λ calls done last. Wrote piece now k.handle d live (not is_last) calls done last)) s t
    placed unwritten is_last end fills p = record {
      calls = p.calls;
      did = p.did;
      on = on_sink k.handle bytes Went p.calls p.is;
      fail = went_fails (not is_last) k.handle bytes p.calls p.is;
      is = (
        rw p.is (went_blames place k.name unwritten k.handle bytes),
        λ calls done last w. lived now (not is_last) (calls ++ p.calls) done last
            (rw p.is (each (is_end piece) is_last refl end fills calls done last (waiting calls done last w))),
      );
    }
      where
        each : (e l : Bool) → is_end piece ≡ e → (e ≡ true → l ≡ true) → (e ≡ false → (met : List Item) (taken : List ℕ) → holds met false taken → l ≡ d.filled met) → (calls : List Call) (done last : List Item) → Half piece holds k.handle d calls done last
            → Wrote piece now k.handle d true (not l) (calls ++ Write k.handle bytes Went ∷ []) done last
        each true true is end fills calls done last h = put_whole piece holds k.handle d apart calls done last h bytes (fit calls done last h).0 (own_grows calls done last h) is
        each true false is end fills calls done last h = let wrong : false ≡ true = end refl in absurd cc
        each false true is end fills calls done last h =
            put_kept piece holds k.handle d apart calls done last h bytes (fit calls done last h).0 (own_grows calls done last h) is (sym (fills refl (done ++ last) (d.text h.early false) (rw is at h.held)))
        each false false is end fills calls done last h =
            put_on piece holds k.handle d apart calls done last h bytes (fit calls done last h).0 now (fit calls done last h).1 is (sym (fills refl (done ++ last) (d.text h.early false) (rw is at h.held)))

    -- the write failed
    pub stopped : {s t : Seen} (after : List Item → Bool → List ℕ → Type 0) → (old new : Option ℕ) → new ≡ first_of old (Some place) → Called (Puts k.handle k.name bytes (Ok false)) s t
        → PlaceMade false place k old new (Became (λ calls done last. Waits piece holds k.handle d live calls done last) (λ calls done last. Wrote piece after k.handle d live false calls done last)) s t
    stopped after old new first p = record {
      calls = p.calls;
      did = p.did;
      on = on_sink k.handle p.is.0 (Failed k.name) p.calls p.is.2;
      fail = one_fails (Write k.handle p.is.0 (Failed k.name)) p.calls p.is.2;
      is = (
        rw p.is.2 (failed_blames place k.name old new first k.handle p.is.0),
        λ calls done last w. lived after false (calls ++ p.calls) done last (rw p.is.2 (each calls done last (waiting calls done last w))),
      );
    }
      where
        each : (calls : List Call) (done last : List Item) → Half piece holds k.handle d calls done last → GoneNow k.handle d (calls ++ Write k.handle p.is.0 (Failed k.name) ∷ []) done last (is_end piece)
        each calls done last h = subst (λ (n : List ℕ). GoneNow k.handle d (calls ++ Write k.handle p.is.0 (Failed n) ∷ []) done last (is_end piece)) named (put_failed piece holds k.handle d apart calls done last h bytes (fit calls done last h).0 (own_grows calls done last h) p.is.0 p.is.1)

    -- there was no memory for it
    pub lacked : {s t : Seen} → (e : NoMemory) → Called (Puts k.handle k.name bytes (Err e)) s t
        → MadeBut [] false [] (k.handle ∷ []) (Became (λ calls done last. Waits piece holds k.handle d live calls done last) (λ calls done last. TextShort k.handle d calls (done ++ last) (is_end piece))) s t
    lacked e p = record {
      calls = p.calls;
      did = p.did;
      on = on_sink k.handle p.is.0 Went p.calls p.is.2;
      fail = one_fails (Write k.handle p.is.0 Went) p.calls p.is.2;
      is = λ calls done last w. rw p.is.2 (each calls done last (waiting calls done last w));
    }
      where
        each : (calls : List Call) (done last : List Item) → Half piece holds k.handle d calls done last → TextShort k.handle d (calls ++ Write k.handle p.is.0 Went ∷ []) (done ++ last) (is_end piece)
        each calls done last h = put_short piece holds k.handle d apart calls done last h bytes (fit calls done last h).0 p.is.0 p.is.1

-- one that waits has a prefix
pub waits_short : (piece : Piece) (holds : List Item → Bool → List ℕ → Type 0) (sink : ℕ) (d : Due) (grows : (met : List Item) (all : Bool) (taken : List ℕ) → holds met all taken → Grows d) (live : Bool) (calls : List Call) (done last : List Item) → IsPrefix (written_by ERRORS calls) (messages_of (done ++ last))
    → Waits piece holds sink d live calls done last → TextShort sink d calls (done ++ last) (is_end piece)
waits_short piece holds sink d grows true calls done last told h = record {
  text = sunk_short piece d done last h.early h.late (written_by sink calls) (grows (done ++ last) (is_end piece) (d.text h.early false) h.held) h.parts h.sunk (is_end piece);
  told = told;
}
waits_short piece holds sink d grows false calls done last told w = gone_short sink d calls (done ++ last) (is_end piece) told w
