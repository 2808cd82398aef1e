-- What a pass met, when its history has one item more.
use Rattle.std.proofs.Common.{◌≡◌, ◌+◌, ◌-◌, ◌≤◌, ℕ, Bool, true, false, Option, Some, None, List, [], ◌∷◌, ◌++◌, map, reverse, sym, refl, ap, ◌∙◌, append_assoc, arith}
use Rattle.std.specs.Prelude.{if◌then◌else◌, is_some}
use Rattle.vio.specs.World.{Seen}
use Rattle.vio.specs.Calls.{Call}
use Rattle.vio.proofs.CallLemmas.{fails_late}
use Rattle.vsl_record.specs.Unit.{LogUnit}
use Rattle.ring_layout.specs.declared.history.Run.{Run}
use Rattle.ring_layout.specs.declared.history.HistoryItem.{HistoryItem}
use Rattle.ring_layout.specs.declared.history.HistoryItem.TheVariants.{UnitRun, Overrun}
use Rattle.ring_layout.specs.declared.item.Item.{Item}
use Rattle.ring_layout.specs.declared.item.Item.TheVariants as items
use Rattle.ring_layout.specs.declared.steps.Step.{Step}
use Rattle.ring_layout.specs.declared.steps.Step.TheVariants.{Took, NotYet, Ended, Lost}
use Rattle.ring_layout.specs.declared.steps.Sought.{Sought}
use Rattle.ring_layout.specs.declared.steps.Sought.TheVariants as soughts
use Rattle.ring_layout.specs.Places.{end_mark}
use Rattle.ring_layout.specs.Items.{items_of, count_overruns}
use Rattle.ring_layout.specs.History.{HasRun, next_number, with_unit}
use Rattle.log_ring.specs.declared.rule.Observation.{Observation}
use Rattle.log_ring.specs.declared.rule.Observation.TheVariants.{CounterSeen, FinishedSeen, WordSeen, StartSeen, NumberSeen}
use Rattle.log_ring.specs.Readers.{ReaderState, TookUnit, WasOverrun, GoesOn, FoundAt, HasFound, HasLooked, IsAnswer, IsSought}
use Rattle.ring_layout.proofs.MetLemmas.{overrun_met, run_met, unit_met}
use Rattle.one_run.specs.Run.{AtReads, Made}
use Rattle.run_sources.specs.Live.{met_by, count_seeks, HasSought, LiveGave, LiveStarved}

-- what a pass met, by what its calls answer

pub took_items : (old new : ReaderState) (took : TookUnit old new) → met_by new ≡ met_by old ++ items.Unit took.unit ∷ []
took_items old new took = ap (λ (taken : List (HistoryItem LogUnit)). items_of (reverse taken)) took.items ∙ unit_met took.unit old.reader.items took.reads_on

pub lost_items : (at seen : ℕ) (old new : ReaderState) → WasOverrun at seen old new → met_by new ≡ met_by old ++ items.Overrun at seen ∷ []
lost_items at seen old new was = ap (λ (taken : List (HistoryItem LogUnit)). items_of (reverse taken)) was.items ∙ overrun_met at seen old.reader.items

pub at_items : (segment place number : ℕ) (old new : ReaderState) → GoesOn segment place number old new → met_by new ≡ met_by old ++ items.Missed (number - next_number old.reader.items) ∷ []
at_items segment place number old new on =
    ap (λ (taken : List (HistoryItem LogUnit)). items_of (reverse taken)) on.items ∙ run_met segment number (number - next_number old.reader.items) old.reader.items on.later

-- no call is made of the world
pub quiet : {IsSo : List Call → Type 0} (go : Bool) (s : Seen) → IsSo [] → Made go [] [] (λ more. AtReads (λ part. ⊥) more × IsSo more) s s
quiet go s so = record { calls = []; did = refl; on = tt; fail = fails_late go [] refl; is = (tt, so) }

overruns_append : (xs ys : List Item) → count_overruns (xs ++ ys) ≡ count_overruns xs + count_overruns ys
overruns_append [] ys = omega arith
overruns_append (items.Unit u ∷ xs) ys = overruns_append xs ys
overruns_append (items.Overrun at seen ∷ xs) ys = omega (arith, overruns_append xs ys)
overruns_append (items.Missed n ∷ xs) ys = overruns_append xs ys

seeks_append : (xs ys : List Observation) → count_seeks (xs ++ ys) ≡ count_seeks xs + count_seeks ys
seeks_append [] ys = omega arith
seeks_append (StartSeen segment place ∷ xs) ys = omega (arith, seeks_append xs ys)
seeks_append (CounterSeen counter ∷ xs) ys = seeks_append xs ys
seeks_append (FinishedSeen count ∷ xs) ys = seeks_append xs ys
seeks_append (WordSeen place word ∷ xs) ys = seeks_append xs ys
seeks_append (NumberSeen segment number ∷ xs) ys = seeks_append xs ys

-- a call that found more sought no less
found_seeks : (first before old : List Observation) → count_seeks old ≤ count_seeks (first ++ (before ++ old))
found_seeks first before old = omega (arith, seeks_append first (before ++ old), seeks_append before old)

abbrev lost_of : ReaderState → ℕ
lost_of pass = if is_some pass.reader.lost then 1 else 0

-- what it met grew by so many overruns, and it sought as often, or is lost now and wasn't
carried : (old new : ReaderState) (more : ℕ) → count_overruns (met_by new) ≡ count_overruns (met_by old) + more → count_seeks old.reader.observed + more + lost_of old ≤ count_seeks new.reader.observed + lost_of new → HasSought old → HasSought new
carried old new more grew sought has = omega (arith, grew, sought, has)

reads_on : (old : ReaderState) → is_some old.reader.lost ≡ false → lost_of old ≡ 0
reads_on old reads = ap (λ (b : Bool). if b then 1 else 0) reads

was_lost : (old : ReaderState) → is_some old.reader.lost ≡ true → lost_of old ≡ 1
was_lost old lost = ap (λ (b : Bool). if b then 1 else 0) lost

same_met : (old new : ReaderState) → new.reader.items ≡ old.reader.items → count_overruns (met_by new) ≡ count_overruns (met_by old) + 0
same_met old new same = omega (arith, ap (λ (taken : List (HistoryItem LogUnit)). count_overruns (items_of (reverse taken))) same)

met_overrun : (at seen : ℕ) (old new : ReaderState) → WasOverrun at seen old new → count_overruns (met_by new) ≡ count_overruns (met_by old) + 1
met_overrun at seen old new was = ap count_overruns (lost_items at seen old new was) ∙ overruns_append (met_by old) (items.Overrun at seen ∷ [])

met_unit : (old new : ReaderState) → TookUnit old new → count_overruns (met_by new) ≡ count_overruns (met_by old) + 0
met_unit old new took = ap count_overruns (took_items old new took) ∙ overruns_append (met_by old) (items.Unit took.unit ∷ [])

found_more : (place word : ℕ) (old new : ReaderState) → FoundAt place word old new → count_seeks old.reader.observed ≤ count_seeks new.reader.observed
found_more place word old new found =
    let more = found_seeks (CounterSeen new.reader.loaded ∷ WordSeen place word ∷ FinishedSeen new.reader.finished_seen ∷ []) found.before old.reader.observed in
    omega (arith, more, ap count_seeks found.observed)

-- a pass that isn't lost has sought behind each overrun, whatever it finds next
pub next_sought : (old : ReaderState) (step : Step) (new : ReaderState) → is_some old.reader.lost ≡ false → IsAnswer old step new → HasFound old step new → HasSought old → HasSought new
next_sought old Took new reads answer found has = carried old new 0 (met_unit old new answer) (omega (arith, reads_on old reads, found_more found.0 found.1.0 old new found.1.1)) has
next_sought old (NotYet place) new reads answer found has = carried old new 0 (same_met old new answer.0.items) (omega (arith, reads_on old reads, found_more place end_mark old new found)) has
next_sought old Ended new reads answer found has = carried old new 0 (same_met old new answer.0.items) (omega (arith, reads_on old reads, found_more new.reader.place end_mark old new found)) has
next_sought old (Lost at seen) new reads answer found has =
    let now : lost_of new ≡ 1 = ap (λ (lost : Option ℕ). if is_some lost then 1 else 0) answer.lost in
    let more = found_seeks (CounterSeen seen ∷ []) found.before old.reader.observed in
    carried old new 1 (met_overrun at seen old new answer) (omega (arith, reads_on old reads, now, more, ap count_seeks found.observed)) has

looked_more : (segment place number seen : ℕ) (old new : ReaderState) → HasLooked segment place number seen old new → count_seeks new.reader.observed ≡ 1 + count_seeks old.reader.observed
looked_more segment place number seen old new looked = ap count_seeks looked.observed

-- and so has one that sought
pub seek_sought : (old : ReaderState) (sought : Sought) (new : ReaderState) → is_some old.reader.lost ≡ true → IsSought old sought new → HasSought old → HasSought new
seek_sought old (soughts.At segment place number) new lost is has =
    carried old new 0 (ap count_overruns (at_items segment place number old new is) ∙ overruns_append (met_by old) (items.Missed (number - next_number old.reader.items) ∷ [])) (omega (arith, was_lost old lost, looked_more segment place number new.reader.loaded old new is.looked)) has
seek_sought old (soughts.Lost at seen) new lost is has =
    let now : lost_of new ≡ 1 = ap (λ (lost : Option ℕ). if is_some lost then 1 else 0) is.0.lost in
    carried old new 1 (met_overrun at seen old new is.0) (omega (arith, was_lost old lost, now, looked_more at is.1.0 is.1.1.0 seen old new is.1.1.1)) has

-- what a pass gave from a start on, when it met one item more
module _ (start old now new : ReaderState) (met : List Item) (was : now.ring ≡ old.ring) (meets : met_by now ≡ met_by old) (kept : HasSought old → HasSought now) (more_sought : HasSought now → HasSought new) (same : new.ring ≡ now.ring) (gave : LiveGave start old met false) where
  pub gave_more : (item : Item) → met_by new ≡ met_by now ++ item ∷ [] → LiveGave start new (met ++ item ∷ []) false
  gave_more item more = record {
    same = same ∙ was ∙ gave.same;
    sought = λ was_so. more_sought (kept (gave.sought was_so));
    grew = more ∙ ap (λ (l : List Item). l ++ item ∷ []) (meets ∙ gave.grew) ∙ append_assoc (met_by start) met (item ∷ []);
    whole = λ e. absurd cc;
  }

  pub gave_unit : (took : TookUnit now new) (u : LogUnit) → u ≡ took.unit → LiveGave start new (met ++ items.Unit u ∷ []) false
  gave_unit took u is = gave_more (items.Unit u) (took_items now new took ∙ ap (λ (v : LogUnit). met_by now ++ items.Unit v ∷ []) (sym is))

  pub gave_lost : (at seen : ℕ) → WasOverrun at seen now new → LiveGave start new (met ++ items.Overrun at seen ∷ []) false
  gave_lost at seen lost = gave_more (items.Overrun at seen) (lost_items at seen now new lost)

  pub starved_unit : TookUnit now new → LiveStarved start new met
  starved_unit took = (took.unit, took.spells, gave_unit took took.unit refl)
