-- What work comes to that is told of its calls: its steps, its run, and the message of its fault (this project's choice).
use Rattle.std.specs.Prelude.{◌≡◌, ◌⊎◌, ℕ, true, false, List, [], ◌∷◌, ◌++◌, Option, Some, codes}
use Rattle.log_model.specs.Prefix.{IsProperPrefix}
use Rattle.vio.specs.declared.world.TheConstants.{ERRORS}
use Rattle.vio.specs.World.{Seen}
use Rattle.vio.specs.Calls.{Went, Failed, Call, Write, Did, last_failed}
use Rattle.vio.specs.Steps.{Passed, Stopped}
use Rattle.vio.specs.Alone.{fails_but}

-- a message was said: none where there is none; else it was written to standard error, or not all of it where that write failed
abbrev pub Says : List ℕ → List Call → Type 0
Says text calls = ((text ≡ []) × (calls ≡ [])) ⊎ ((calls ≡ Write ERRORS text Went ∷ []) ⊎ ((part : List ℕ) × IsProperPrefix part text × (calls ≡ Write ERRORS part (Failed (codes "stderr")) ∷ [])))

-- there was no memory to say a message: nothing of it was written, or not all
abbrev pub SaysPart : List ℕ → List Call → Type 0
SaysPart text calls = (calls ≡ []) ⊎ ((part : List ℕ) × IsProperPrefix part text × (calls ≡ Write ERRORS part Went ∷ []))

-- the steps of a job, how each passes and stops, what its run is by the world behind it, its fault and its record, the steps' calls and what they found, which handles that they found stop
-- alone, and the record of a job that took nothing
module _ {S X F R : Type 0} (Passes : S → X → List Call → Type 0) (Stops : S → F → List Call → Type 0) (Ran : Seen → Option F → R → List X → List Call → Type 0) (alone : List X → List ℕ) (nothing : R) where
  -- a step stopped the job before its run; none of the calls failed but perhaps the last
  pub record StoppedEarly (steps : List S) (fault : Option F) (recorded : R) (calls : List Call) : Type 0 where
    pub by : F
    pub is : fault ≡ Some by
    pub none : recorded ≡ nothing
    pub stopped : Stopped Passes Stops steps by calls
    pub fail : last_failed calls ≡ true

  -- the steps passed, and then the job ran; the same, but for calls that wrote where a failure ends nothing else
  pub record RanOn (steps : List S) (at : Seen) (fault : Option F) (recorded : R) (calls : List Call) : Type 0 where
    pub found : List X
    pub first : List Call
    pub last : List Call
    pub are : calls ≡ first ++ last
    pub passed : Passed Passes Stops steps found first
    pub ran : Ran at fault recorded found last
    pub fail : fails_but (alone found) false calls ≡ true

  -- a job was worked off by these calls, which left this world, but for the message of its fault
  abbrev pub Works : List S → Seen → Option F → R → List Call → Type 0
  Works steps at fault recorded calls = StoppedEarly steps fault recorded calls ⊎ RanOn steps at fault recorded calls

  -- the theorem: all that a call did in the world is a list of calls that work off the job, and behind them those that say the message of its fault
  pub record Promised (IsSaid : List Call → Type 0) (steps : List S) (fault : Option F) (recorded : R) (before now : Seen) : Type 0 where
    pub work : List Call
    pub at : Seen
    pub did : Did work before at
    pub works : Works steps at fault recorded work
    pub said : List Call
    pub told : Did said at now
    pub says : IsSaid said
