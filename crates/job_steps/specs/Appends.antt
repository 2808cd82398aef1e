-- A log file that is appended to is looked at before anything is written: behind units of another version, or behind what is no log, new units would be damage (this project's choice).
use Rattle.std.specs.Prelude.{◌≡◌, ◌≢◌, ◌⊎◌, ℕ, ◌<◌, Bool, true, false, List, [], ◌∷◌, ◌++◌, length, codes, Some}
use Rattle.std.specs.Bool.{MatchBool}
use Rattle.std.specs.Str.{bytes_eq}
use Rattle.log_model.specs.Prefix.{IsPrefix}
use Rattle.vio.specs.World.{Seen, Opening, Creating, begins_with}
use Rattle.vio.specs.Calls.{Mark, Went, MetEnd, Call, Take, Open, Create, Refuse}
use Rattle.vio.specs.Calls as calling
use Rattle.vio.specs.Streams.{IsMadeBy}
use Rattle.vsl_file.specs.File.{file_header}
use Rattle.job_steps.specs.declared.fault.ToolFault.{ToolFault}
use Rattle.job_steps.specs.declared.fault.ToolFault.TheVariants.{NoOpen, ReadFault, OldLog}

-- a file's first bytes, by how their read went: as many as a header has, or fewer, which are all
abbrev pub IsStart : List ℕ → Mark → Type 0
IsStart start Went = length start ≡ length file_header
IsStart start MetEnd = length start < length file_header
IsStart start (calling.Failed name) = ⊥
IsStart start calling.FailedEach = ⊥

-- the file of this name was opened, and these are its first bytes
abbrev pub IsStartBy : List ℕ → List ℕ → List Call → Type 0
IsStartBy name start calls = (h : ℕ) × (mark : Mark) × (calls ≡ Open name h ∷ Take h start mark ∷ []) × IsStart start mark

-- what is appended to under this name has this handle, and is empty or not; where it isn't, it was looked at, and begins with the header of the version in which log files are written
abbrev pub IsAppendedBy : List ℕ → ℕ → Bool → List Call → Type 0
IsAppendedBy name h empty calls = (made : List Call) × (looked : List Call) × (calls ≡ made ++ looked) ×
    IsMadeBy true name h empty made × MatchBool empty (looked ≡ []) (IsStartBy name file_header looked)

-- what was looked at can't be appended to: it can't be opened; a read of it failed, before as many bytes came as a header has; or its first bytes aren't that header
abbrev pub LookStops : List ℕ → ToolFault → List Call → Type 0
LookStops name fault looked =
    ((looked ≡ Refuse Opening name ∷ []) × (fault ≡ NoOpen name))
    ⊎ (((h : ℕ) × (bytes : List ℕ) × (looked ≡ Open name h ∷ Take h bytes (calling.Failed name) ∷ []) ×
    (fault ≡ ReadFault name) × (length bytes < length file_header))
    ⊎ ((start : List ℕ) × IsStartBy name start looked × (start ≢ file_header) × (fault ≡ OldLog name)))

-- a file can't be appended to: it isn't created; or it is, has bytes, keeps them, and is refused by what was seen of it
abbrev pub AppendStops : List ℕ → ToolFault → List Call → Type 0
AppendStops name fault calls = (bytes_eq name (codes "-") ≡ false) ×
    (((calls ≡ Refuse Creating name ∷ []) × (fault ≡ NoOpen name))
    ⊎ ((h : ℕ) × (looked : List Call) × (calls ≡ Create true name h false ∷ looked) × LookStops name fault looked))

-- what may be appended to is told: standard output, or a file that has no bytes or begins with that header
abbrev pub MayAppend : List ℕ → Seen → Type 0
MayAppend name before = MatchBool (bytes_eq name (codes "-")) (Unit {0})
    ((bytes : List ℕ) × (begins_with true name before ≡ Some bytes) × ((bytes ≡ []) ⊎ IsPrefix file_header bytes))
