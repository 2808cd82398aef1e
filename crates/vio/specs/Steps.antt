-- Work in named steps: each passes by its calls and finds something, or stops the work with a fault, and nothing comes behind it (this project's choice).
use Rattle.std.specs.Prelude.{◌≡◌, ℕ, true, List, [], ◌∷◌, ◌++◌, Result, Ok, Err}
use Rattle.log_model.specs.declared.fault.Halt.{Halt}
use Rattle.log_model.specs.declared.fault.Halt.TheVariants.{Fault, NoMemory}
use Rattle.vio.specs.Calls.{Call, OnlyOpen, none_failed, last_failed}

-- how a step passes, with what it finds, and how it stops
module _ {S X F : Type 0} (Passes : S → X → List Call → Type 0) (Stops : S → F → List Call → Type 0) where
  -- the steps passed, one after the other, by these calls, and each found what stands at its place
  abbrev pub Passed : List S → List X → List Call → Type 0
  Passed [] [] calls = calls ≡ []
  Passed (step ∷ steps) (found ∷ rest) calls = (first : List Call) × (later : List Call) × (calls ≡ first ++ later) × Passes step found first × Passed steps rest later
  Passed [] (found ∷ rest) calls = ⊥
  Passed (step ∷ steps) [] calls = ⊥

  -- a step stopped the work with this fault, those before it passed, and no call was made behind it
  pub record Stopped (steps : List S) (fault : F) (calls : List Call) : Type 0 where
    pub earlier : List S
    pub step : S
    pub later : List S
    pub parts : steps ≡ earlier ++ step ∷ later
    pub found : List X
    pub first : List Call
    pub last : List Call
    pub are : calls ≡ first ++ last
    pub passed : Passed earlier found first
    pub stops : Stops step fault last

  -- the steps passed, none of the calls failed, and what they found is so
  pub record PassedSo (IsSo : List X → Type 0) (steps : List S) (calls : List Call) : Type 0 where
    pub found : List X
    pub is : IsSo found
    pub passed : Passed steps found calls
    pub fail : none_failed calls ≡ true

  -- what steps come to that don't all pass: one stopped the work, and no call failed but perhaps the last; or there was no memory, and files of some names were opened and read
  -- at most
  abbrev pub Halted : List (List ℕ) → List S → Halt F → List Call → Type 0
  Halted opened steps (Fault fault) calls = Stopped steps fault calls × (last_failed calls ≡ true)
  Halted opened steps NoMemory calls = OnlyOpen opened calls

  -- what steps come to that a call takes, by its answer: they passed, or not all did
  abbrev pub TookSteps : {A : Type 0} → (A → List X → Type 0) → List (List ℕ) → List S → Result A (Halt F) → List Call → Type 0
  TookSteps IsSo opened steps (Ok x) calls = PassedSo (IsSo x) steps calls
  TookSteps IsSo opened steps (Err halt) calls = Halted opened steps halt calls
