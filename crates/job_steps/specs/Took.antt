-- What the steps of a job come to, all of them (this project's choice).
use Rattle.std.specs.Prelude.{◌≡◌, ◌⊎◌, ℕ, true, false, List, [], ◌∷◌, ◌++◌, Result, Ok, Err, codes}
use Rattle.std.specs.Str.{bytes_eq}
use Rattle.log_model.specs.declared.fault.Halt.{Halt}
use Rattle.log_model.specs.declared.fault.Halt.TheVariants.{Fault, NoMemory}
use Rattle.vio.specs.Calls.{Call, Create, Lack, OnlyOpen, last_failed, none_failed}
use Rattle.vio.specs.Steps.{Passed, PassedSo, Stopped}
use Rattle.job_steps.specs.declared.fault.ToolFault.{ToolFault}
use Rattle.job_steps.specs.Steps.{Step, AppendLog, Found, Passes, Stops, opens_of}

-- there was no memory to look at a log file that is appended to: the steps before it passed, and none of their calls failed; it was created last, has bytes, and keeps them
pub record LacksLook (steps : List Step) (calls : List Call) : Type 0 where
  pub earlier : List Step
  pub name : List ℕ
  pub later : List Step
  pub parts : steps ≡ earlier ++ AppendLog name ∷ later
  pub file : bytes_eq name (codes "-") ≡ false
  pub found : List Found
  pub first : List Call
  pub passed : Passed Passes Stops earlier found first
  pub fail : none_failed first ≡ true
  pub handle : ℕ
  pub are : calls ≡ first ++ Create true name handle false ∷ Lack ∷ []

-- there was no memory for steps: files of their names were opened and read, no more than these are, and nothing was written or created; or there was none to look at what is appended to
abbrev pub LacksSteps : List Step → List Call → Type 0
LacksSteps steps calls = OnlyOpen (opens_of steps) calls ⊎ LacksLook steps calls

-- steps didn't all pass: one stopped the job, and no call failed but perhaps the last; or there was no memory
abbrev pub EndedBy : List Step → Halt ToolFault → List Call → Type 0
EndedBy steps (Fault fault) calls = Stopped Passes Stops steps fault calls × (last_failed calls ≡ true)
EndedBy steps NoMemory calls = LacksSteps steps calls

-- what steps come to that a call takes, by its answer: they passed, or not all did
abbrev pub TookAll : {A : Type 0} → (A → List Found → Type 0) → List Step → Result A (Halt ToolFault) → List Call → Type 0
TookAll IsSo steps (Ok x) calls = PassedSo Passes Stops (IsSo x) steps calls
TookAll IsSo steps (Err halt) calls = EndedBy steps halt calls
