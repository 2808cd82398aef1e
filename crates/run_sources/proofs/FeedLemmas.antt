-- What feeds gave, turn by turn.
use Rattle.std.proofs.Common.{◌≡◌, ℕ, Bool, true, false, List, [], ◌∷◌, ◌++◌, Option, Some, None, refl, sym, ap, ◌∙◌, append_assoc}
use Rattle.vio.specs.World.{Seen}
use Rattle.vio.specs.Calls.{Call}
use Rattle.vio.proofs.CallLemmas.{fails_late}
use Rattle.vsl_record.specs.Unit.{LogUnit}
use Rattle.vsl_record.specs.Views.{Spells}
use Rattle.ring_layout.specs.declared.item.Item.{Item}
use Rattle.ring_layout.specs.declared.item.Item.TheVariants as items
use Rattle.feed_schedule.specs.Replaying.{ReplayState}
use Rattle.feed_schedule.specs.Replaying as replaying
use Rattle.feed_schedule.specs.declared.replay.Advanced.{Advanced}
use Rattle.feed_schedule.specs.declared.replay.Advanced.TheVariants.{Took, Overrun, Ended}
use Rattle.one_run.specs.Run.{AtReads, Made}
use Rattle.run_sources.specs.declared.feed_items.FeedItems.{FeedItems}
use Rattle.run_sources.specs.Sources.{FeedsGave, FeedsBegan, HasToCome, owed}

-- what the reader meets of what is to come, by its answer
abbrev pub Next : Advanced → ReplayState → ReplayState → Type 0
Next answer now next = (rest : List Item) → replaying.Represents now rest → replaying.Meets answer rest next

-- no call is made of the world
pub quiet : {IsSo : List Call → Type 0} (go : Bool) (s : Seen) → IsSo [] → Made go [] [] (λ more. AtReads (λ part. ⊥) more × IsSo more) s s
quiet go s so = record { calls = []; did = refl; on = tt; fail = fails_late go [] refl; is = (tt, so) }

one_more : (every rest more : List Item) (met : List Item) (item : Item) → every ≡ met ++ rest → rest ≡ item ∷ more → every ≡ (met ++ item ∷ []) ++ more
one_more every rest more met item parts next = parts ∙ ap (λ (xs : List Item). met ++ xs) next ∙ sym (append_assoc met (item ∷ []) more)

-- where no cost is owed, what is to come is what the replay meets
still : {missed : Option ℕ} (more : List Item) → missed ≡ None → owed missed ++ more ≡ more
still more free = ap (λ (m : Option ℕ). owed m ++ more) free

-- the cost of the last overrun is given
pub feeds_missed : (start now : FeedItems) (met : List Item) → FeedsGave start now met false → (units : ℕ) → now.missed ≡ Some units → FeedsGave start (record now { missed = None }) (met ++ items.Missed units ∷ []) false
feeds_missed start now met p units owes = record {
  came = λ every comes.
      let first = p.came every comes in
      let left = first.2 in
      (left.0, one_more every first.0 left.0 met (items.Missed units) first.1 (left.1 ∙ ap (λ (m : Option ℕ). owed m ++ left.0) owes), (left.0, refl, left.2), λ e. absurd cc);
}

module _ (start now : FeedItems) (next : ReplayState) (met : List Item) (p : FeedsGave start now met false) (free : now.missed ≡ None) where
  pub feeds_unit : (u : LogUnit) → Next Took now.replay next → ((v : LogUnit) → Spells next.cursor.words v → u ≡ v) → FeedsGave start (record now { replay = next }) (met ++ items.Unit u ∷ []) false
  feeds_unit u step is = record {
    came = λ every comes.
        let first = p.came every comes in
        let left = first.2 in
        let one = step left.0 left.2 in
        (one.1, one_more every first.0 one.1 met (items.Unit u) first.1 (left.1 ∙ still left.0 free ∙ one.2 ∙ ap (λ (v : LogUnit). items.Unit v ∷ one.1) (sym (is one.0 one.4))), (one.1, sym (still one.1 free), one.3), λ e. absurd cc);
  }

  pub feeds_overrun : (at seen missed : ℕ) → Next (Overrun at seen missed) now.replay next → FeedsGave start (record now { replay = next; missed = Some missed }) (met ++ items.Overrun at seen ∷ []) false
  feeds_overrun at seen missed step = record {
    came = λ every comes.
        let first = p.came every comes in
        let left = first.2 in
        let one = step left.0 left.2 in
        (items.Missed missed ∷ one.0, one_more every first.0 (items.Missed missed ∷ one.0) met (items.Overrun at seen) first.1 (left.1 ∙ still left.0 free ∙ one.1), (one.0, refl, one.2), λ e. absurd cc);
  }

  pub feeds_end : Next Ended now.replay next → FeedsGave start (record now { replay = next }) met true
  feeds_end step = record {
    came = λ every comes.
        let first = p.came every comes in
        let left = first.2 in
        let one = step left.0 left.2 in
        let none : first.0 ≡ [] = left.1 ∙ still left.0 free ∙ one.0 in
        (first.0, first.1, ([], none ∙ sym (still [] free), one.1), λ e. none);
  }

pub feeds_began : (start now : FeedItems) (met : List Item) → FeedsGave start now met false → FeedsBegan start met
feeds_began start now met p = λ every comes. let first = p.came every comes in (first.0, first.1)

-- it may be asked again, and what it took is spelled in the cursor
pub ready_after : (now : FeedItems) (next : ReplayState) (answer : Advanced) → now.missed ≡ None → (all : List Item) × HasToCome now all → Next answer now.replay next → (all : List Item) × replaying.Represents next all
ready_after now next Took free ready step = let one = step ready.1.0 ready.1.2 in (one.1, one.3)
ready_after now next (Overrun at seen missed) free ready step = let one = step ready.1.0 ready.1.2 in (one.0, one.2)
ready_after now next Ended free ready step = let one = step ready.1.0 ready.1.2 in ([], one.1)

-- what is to come of a replay, and what is owed before that
pub ready_owing : (now : FeedItems) → (all : List Item) × replaying.Represents now.replay all → (all : List Item) × HasToCome now all
ready_owing now ready = (owed now.missed ++ ready.0, (ready.0, refl, ready.1))

pub took_spelled : (now : FeedItems) (next : ReplayState) → (all : List Item) × HasToCome now all → Next Took now.replay next → (u : LogUnit) × Spells next.cursor.words u
took_spelled now next ready step = let one = step ready.1.0 ready.1.2 in (one.0, one.4)
