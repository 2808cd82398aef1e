-- Files that are opened and created by name, where `-` is a standard stream (this project's choice).
use Rattle.std.specs.Prelude.{◌≡◌, ℕ, Bool, true, false, List, [], ◌∷◌, Result, Ok, Err, codes}
use Rattle.std.specs.Bool.{MatchBool}
use Rattle.std.specs.Str.{bytes_eq}
use Rattle.vio.specs.declared.fault.WorldFault.{WorldFault}
use Rattle.vio.specs.declared.fault.WorldFault.TheVariants.{Failed, NoMemory}
use Rattle.vio.specs.declared.world.Created.{Created}
use Rattle.vio.specs.declared.world.TheConstants.{INPUT, OUTPUT}
use Rattle.vio.specs.World.{Opening, Creating}
use Rattle.vio.specs.Calls.{Call, Open, Create, Refuse, Lack}

-- what is read under this name has this handle: `-` is standard input
abbrev pub IsOpenedBy : List ℕ → ℕ → List Call → Type 0
IsOpenedBy name h calls = MatchBool (bytes_eq name (codes "-")) ((h ≡ INPUT) × (calls ≡ [])) (calls ≡ Open name h ∷ [])

-- what is written under this name has this handle, and is empty or not: `-` is standard output. Nothing can be asked of
-- that, so it counts as empty
abbrev pub IsMadeBy : Bool → List ℕ → ℕ → Bool → List Call → Type 0
IsMadeBy append name h empty calls = MatchBool (bytes_eq name (codes "-")) ((h ≡ OUTPUT) × (empty ≡ true) × (calls ≡ [])) (calls ≡ Create append name h empty ∷ [])

-- a call answered so that was to open what is read under this name
abbrev pub OpensStream : List ℕ → Result ℕ WorldFault → List Call → Type 0
OpensStream name (Ok h) calls = IsOpenedBy name h calls
OpensStream name (Err Failed) calls = (bytes_eq name (codes "-") ≡ false) × (calls ≡ Refuse Opening name ∷ [])
OpensStream name (Err NoMemory) calls = calls ≡ Lack ∷ []

-- a call answered so that was to create what is written under this name
abbrev pub CreatesStream : Bool → List ℕ → Result Created WorldFault → List Call → Type 0
CreatesStream append name (Ok made) calls = IsMadeBy append name made.handle made.empty calls
CreatesStream append name (Err Failed) calls = (bytes_eq name (codes "-") ≡ false) × (calls ≡ Refuse Creating name ∷ [])
CreatesStream append name (Err NoMemory) calls = calls ≡ Lack ∷ []
