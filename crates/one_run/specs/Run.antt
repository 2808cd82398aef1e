-- What a run is: items came from a source and were given to an output, in one pass, by one list of calls (this project's choice).
use Rattle.std.specs.Prelude.{◌≡◌, ◌⊎◌, ℕ, ◌≤◌, Bool, true, false, List, [], ◌∷◌, ◌++◌, length, Option, Some, None, Result, Ok, Err}
use Rattle.log_model.specs.declared.fault.Halt.{Halt}
use Rattle.log_model.specs.declared.fault.Halt.TheVariants as halts
use Rattle.vio.specs.World.{Seen}
use Rattle.vio.specs.Calls.{Call, Mark, Take, Did, AreOn}
use Rattle.ring_layout.specs.declared.item.Item.{Item}
use Rattle.ring_layout.specs.declared.item.Item.TheVariants as items
use Rattle.one_run.specs.declared.met.Met.{Met}
use Rattle.one_run.specs.declared.pass.RunEnd.{RunEnd}
use Rattle.one_run.specs.declared.pass.RunEnd.TheVariants as ends
use Rattle.vio.specs.Alone.{fails_but}
use Rattle.one_run.specs.Counts.{IsMet}

-- calls were made that read these handles and write these alone, and are so; none of them failed but perhaps the last, and none where it goes on. What is written to the first handles stops
-- alone: that such a write fails ends nothing else
pub record MadeBut (alone : List ℕ) (go : Bool) (reads writes : List ℕ) (IsSo : List Call → Type 0) (before now : Seen) : Type 0 where
  pub calls : List Call
  pub did : Did calls before now
  pub on : AreOn reads writes calls
  pub fail : fails_but alone go calls ≡ true
  pub is : IsSo calls

-- the same where none stops alone
abbrev pub Made : Bool → List ℕ → List ℕ → (List Call → Type 0) → Seen → Seen → Type 0
Made = MadeBut []

-- whether a source has answered without a fault
abbrev pub has_come : {A E : Type 0} → Result A E → Bool
has_come (Ok x) = true
has_come (Err e) = false

-- whether an output goes on
abbrev pub goes_on : {E M : Type 0} → Result (Option E) M → Bool
goes_on (Ok None) = true
goes_on (Ok (Some ending)) = false
goes_on (Err e) = false

-- the handles that may be read for what comes next: none where that is at hand
abbrev pub asked_of : Bool → List ℕ → List ℕ
asked_of true reads = []
asked_of false reads = reads

-- whether an item has no message: it is a unit
abbrev pub is_quiet : Item → Bool
is_quiet (items.Unit u) = true
is_quiet (items.Overrun at seen) = false
is_quiet (items.Missed units) = false

-- what comes next has no message: it is a unit, or there is nothing more
abbrev pub is_next_quiet : Option Item → Bool
is_next_quiet None = true
is_next_quiet (Some item) = is_quiet item

-- what a source answers that gave these items: one more, all were given, or it stops, with a fault or for want of memory
abbrev pub CameTo : {F : Type 0} → (List Item → Bool → Type 0) → (F → List Item → Type 0) →
    (List Item → Type 0) → Result (Option Item) (Halt F) → List Item → Type 0
CameTo gave stopped starved (Ok (Some item)) met = gave (met ++ item ∷ []) false
CameTo gave stopped starved (Ok None) met = gave met true
CameTo gave stopped starved (Err (halts.Fault fault)) met = stopped fault met
CameTo gave stopped starved (Err halts.NoMemory) met = starved met

-- what an output answers before all items: it goes on, ends at once, or had no memory
abbrev pub BeginTo : {E M : Type 0} → (List Item → Type 0) → (E → List Item → List Item → Bool → Type 0) →
    (List Item → Bool → Type 0) → Result (Option E) M → Type 0
BeginTo printed ended starved (Ok None) = printed []
BeginTo printed ended starved (Ok (Some ending)) = ended ending [] [] false
BeginTo printed ended starved (Err e) = starved [] false

-- what an output answers that printed these items and is given one more: it goes on, ends with it, or had no memory
abbrev pub ItemTo : {E M : Type 0} → (List Item → Type 0) → (E → List Item → List Item → Bool → Type 0) →
    (List Item → Bool → Type 0) → Result (Option E) M → List Item → Item → Type 0
ItemTo printed ended starved (Ok None) done item = printed (done ++ item ∷ [])
ItemTo printed ended starved (Ok (Some ending)) done item = ended ending done (item ∷ []) false
ItemTo printed ended starved (Err e) done item = starved (done ++ item ∷ []) false

-- what an output answers that took these items, where it writes what it holds: it goes on, ends with that, or had no memory
abbrev pub FlushTo : {E M : Type 0} → (List Item → Type 0) → (E → List Item → List Item → Bool → Type 0) →
    (List Item → Bool → Type 0) → Result (Option E) M → List Item → Type 0
FlushTo printed ended starved (Ok None) done = printed done
FlushTo printed ended starved (Ok (Some ending)) done = ended ending done [] false
FlushTo printed ended starved (Err e) done = starved done false

-- the same at the end
abbrev pub EndTo : {E M : Type 0} → (E → List Item → List Item → Bool → Type 0) →
    (List Item → Bool → Type 0) → Result E M → List Item → Type 0
EndTo ended starved (Ok ending) done = ended ending done [] true
EndTo ended starved (Err e) done = starved done true

-- what was called before a read: these items lie whole in what was read, and no more, and all of them were printed
pub record IsCaughtUp (asks printed : List Call → List Item → Type 0) (before : List Call) : Type 0 where
  pub met : List Item
  pub asked : asks before met
  pub prints : printed before met

-- so it is of the calls before each read
abbrev pub AtReads : (List Call → Type 0) → List Call → Type 0
AtReads IsSo [] = Prim.Unit {0}
AtReads IsSo (Take h bytes mark ∷ calls) = IsSo [] × AtReads (λ before. IsSo (Take h bytes mark ∷ before)) calls
AtReads IsSo (call ∷ calls) = AtReads (λ before. IsSo (call ∷ before)) calls

-- these items came, from a source on until it is so, or until it was about to stop with what was at hand
abbrev pub LastCame : {S : Type 0} → (S → List Call → List Item → Bool → Type 0) → (S → Bool) → S →
    List Call → List Item → Bool → Type 0
LastCame {S = S} gave at_hand final calls met all =
    (now : S) × gave now calls met all × ((now ≡ final) ⊎ (at_hand now ≡ true))

-- a run, from a source and an output on, is ready for a read: what came of the source was printed by some later output
abbrev pub ReadyFor : {S O : Type 0} → (S → List Call → List Item → Type 0) → (O → O → List Call → List Item → Type 0) →
    S → O → List Call → Type 0
ReadyFor {O = O} asks printed from start = IsCaughtUp (asks from) (λ calls met. (now : O) × printed start now calls met)

-- how a run ended: its output ended, behind what came or at the last of it, or at the end of all, and when the last had
-- come nothing more was read; or its source stopped, behind what was printed
module _ {F E : Type 0} (gave : List Call → List Item → Bool → Type 0) (stopped : F → List Call → List Item → Type 0)
    (ready : List Call → Type 0) (printed : List Call → List Item → Type 0)
    (ended : E → List Call → List Item → List Item → Bool → Type 0) (writes : List ℕ) where
  abbrev pub EndsBy : RunEnd E F → List Call → List Item → List Item → Bool → Type 0
  EndsBy (ends.ByOutput ending) calls done last all =
      (came : List Call) × (wrote : List Call) × (calls ≡ came ++ wrote) × AreOn [] writes wrote ×
      gave came (done ++ last) all × ended ending calls done last all
  EndsBy (ends.BySource fault) calls done last all = (last ≡ []) × stopped fault calls done × printed calls done

  -- a run that ended: the items that were taken, the one at which it ended if there is one, and whether they are all.
  -- Whenever a read was made, it was ready for that
  pub record Ran (end : RunEnd E F) (met : Met) (calls : List Call) : Type 0 where
    pub done : List Item
    pub last : List Item
    pub all : Bool
    pub one : length last ≤ 1
    pub count : IsMet met (done ++ last)
    pub ends : EndsBy end calls done last all
    pub prompt : AtReads ready calls

-- a run that ended for want of memory, of its output or of its source
pub record RanShort (gave : List Call → List Item → Bool → Type 0) (lacking : List Call → List Item → Type 0)
    (took : List Call → List Item → Type 0) (starved : List Call → List Item → Bool → Type 0) (calls : List Call) : Type 0 where
  pub met : List Item
  pub all : Bool
  pub ends : (gave calls met all × starved calls met all) ⊎
      ((gave calls met all ⊎ lacking calls met) × took calls met)

-- a run that began: nothing came, what stands before all items was printed, and nothing was read
pub record Started (gave : List Call → List Item → Bool → Type 0) (printed : List Call → List Item → Type 0) (calls : List Call) : Type 0 where
  pub came : gave calls [] false
  pub prints : printed calls []
  pub quiet : AtReads (λ before. ⊥) calls
