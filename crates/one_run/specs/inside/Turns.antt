-- The turns of a run: what is held is written unless what comes next is at hand, and then an item is asked for (this project's choice).
use Rattle.std.specs.Prelude.{◌≡◌, ℕ, ◌+◌, Bool, true, false, List, [], ◌∷◌, ◌++◌, Result, Ok, Err}
use Rattle.vio.specs.World.{Seen}
use Rattle.vio.specs.Calls.{Call}
use Rattle.ring_layout.specs.declared.item.Item.{Item}
use Rattle.one_run.specs.declared.met.Met.{Met}
use Rattle.one_run.specs.declared.pass.RunEnd.{RunEnd}
use Rattle.one_run.specs.declared.pass.RunEnd.TheVariants as ends
use Rattle.one_run.specs.declared.pass.Turn.{Turn}
use Rattle.one_run.specs.declared.pass.Turn.TheVariants as turns
use Rattle.one_run.specs.Counts.{IsMet}
use Rattle.one_run.specs.Run.{AtReads, MadeBut, Ran}

-- a run that goes on: these items came and were taken, and it was ready whenever a read was made
pub record Goes (gave : List Call → List Item → Bool → Type 0) (ready : List Call → Type 0)
    (took : List Call → List Item → Type 0) (met : Met) (done : List Item) (calls : List Call) : Type 0 where
  pub came : gave calls done false
  pub takes : took calls done
  pub count : IsMet met done
  pub prompt : AtReads ready calls

-- by some calls some items came, from some source on
abbrev pub HasCome : {S : Type 0} → (S → S → List Call → List Item → Bool → Type 0) → S → Type 0
HasCome {S = S} gave now = (from : S) × (calls : List Call) × (done : List Item) × gave from now calls done false

-- items were taken, and printed where what comes next isn't at hand
abbrev pub IsCaught : Bool → (List Call → List Item → Type 0) → (List Call → List Item → Type 0) → List Call → List Item → Type 0
IsCaught true took printed calls done = took calls done
IsCaught false took printed calls done = printed calls done

-- how a run ends where its source stopped so with what was at hand: by its output where what was held couldn't be written; else by its source; or there was no memory
abbrev pub StopTo : {E F M : Type 0} → F → (List Item → Type 0) → (E → List Item → List Item → Bool → Type 0) → (List Item → Bool → Type 0) →
    Result (RunEnd E F) M → List Item → Type 0
StopTo fault printed ended starved (Ok (ends.ByOutput ending)) done = ended ending done [] false
StopTo fault printed ended starved (Ok (ends.BySource why)) done = (why ≡ fault) × printed done
StopTo fault printed ended starved (Err e) done = starved done false

-- a turn after which a run goes on met one more
abbrev pub IsMore : {E F : Type 0} → Met → Turn E F → Type 0
IsMore met (turns.On now) = now.units + now.items ≡ met.units + met.items + 1
IsMore met (turns.Ended end) = Prim.Unit {0}

-- so it is where a run goes on
abbrev pub GoesOn : {E F : Type 0} → Type 0 → Turn E F → Type 0
GoesOn IsSo (turns.On met) = IsSo
GoesOn IsSo (turns.Ended end) = Prim.Unit {0}

-- what a turn of a run answers that took these items: it goes on with one more, or ended
module _ {F E : Type 0} (alone reads writes : List ℕ) (now gave : List Call → List Item → Bool → Type 0)
    (stopped : F → List Call → List Item → Type 0) (ready : List Call → Type 0) (took printed : List Call → List Item → Type 0)
    (ended : E → List Call → List Item → List Item → Bool → Type 0) (before after : Seen) where
  abbrev pub TurnTo : Turn E F → List Item → Type 0
  TurnTo (turns.On met) done = (item : Item) × MadeBut alone true reads writes (Goes now ready took met (done ++ item ∷ [])) before after
  TurnTo (turns.Ended end) done = MadeBut alone false reads writes (Ran gave stopped ready printed ended writes end.end end.met) before after
