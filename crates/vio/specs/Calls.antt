-- The calls that were made of a world, in order: what each did, and what they come to (this project's choice). What several calls did is said of their list, so two parts, one
-- after the other, are `xs ++ ys`.
use Rattle.std.specs.Prelude.{◌≡◌, ℕ, ◌≤◌, ◌==◌, ◌&&◌, not, if◌then◌else◌, Bool, true, false, List, [], ◌∷◌, ◌++◌, length}
use Rattle.std.specs.List.{flat_map, list_all, list_any}
use Rattle.log_model.specs.Faults.{HasNewFault}
use Rattle.vio.specs.World.{Seen, CallKind, Reading, Writing, Opened, FileCreated, Read, Wrote, OnlyCounts, IsAtEnd, FaultsRose}
use Rattle.vio.specs.Touches.{IsOneOf}

-- how a read or a write went
pub data Mark : Type 0 where
  Went : Mark
  -- a read met the end
  MetEnd : Mark
  -- it failed, and was counted under this name
  Failed : List ℕ → Mark
  -- it failed, and was counted under each name of the handle
  FailedEach : Mark

-- a call of a world, or several of a kind, one after the other
pub data Call : Type 0 where
  -- these bytes were read from a handle
  Take : ℕ → List ℕ → Mark → Call
  -- these bytes were written to a handle
  Write : ℕ → List ℕ → Mark → Call
  -- a file of this name was opened, and the handle is new
  Open : List ℕ → ℕ → Call
  -- a file was created, which keeps its bytes or not; its name, the handle, which is new, and whether the file has no bytes
  Create : Bool → List ℕ → ℕ → Bool → Call
  -- a call of a kind failed, and was counted under this name
  Refuse : CallKind → List ℕ → Call
  -- the world had no memory for a call
  Lack : Call

-- what a mark says
abbrev pub Marks : CallKind → ℕ → Mark → Seen → Seen → Type 0
Marks kind h Went before now = Unit {0}
Marks kind h MetEnd before now = IsAtEnd h now
Marks kind h (Failed name) before now = HasNewFault (before.faults kind name) (now.faults kind name)
Marks kind h FailedEach before now = FaultsRose kind h before now

-- a call was made
abbrev pub Does : Call → Seen → Seen → Type 0
Does (Take h bytes mark) before now = Read h bytes before now × Marks Reading h mark before now
Does (Write h bytes mark) before now = Wrote h bytes before now × Marks Writing h mark before now
Does (Open name h) before now = Opened name h before now
Does (Create append name h empty) before now = FileCreated append name h empty before now
Does (Refuse kind name) before now = OnlyCounts before now × HasNewFault (before.faults kind name) (now.faults kind name)
Does Lack before now = OnlyCounts before now

-- calls were made, one after the other, and no others
abbrev pub Did : List Call → Seen → Seen → Type 0
Did [] before now = now ≡ before
Did (call ∷ calls) before now = (next : Seen) × Does call before next × Did calls next now

-- calls were made that are so
pub record Called (IsSo : List Call → Type 0) (before now : Seen) : Type 0 where
  pub calls : List Call
  pub did : Did calls before now
  pub is : IsSo calls

-- ---- what was written and taken

-- the bytes of a call of one handle, where it is that
abbrev pub of_handle : Bool → List ℕ → List ℕ
of_handle b bytes = if b then bytes else []

-- what a call wrote to a handle
abbrev pub written_in : ℕ → Call → List ℕ
written_in h (Write k bytes mark) = of_handle (k == h) bytes
written_in h call = []

-- what a call took from a handle
abbrev pub taken_in : ℕ → Call → List ℕ
taken_in h (Take k bytes mark) = of_handle (k == h) bytes
taken_in h call = []

-- what was written to a handle
abbrev pub written_by : ℕ → List Call → List ℕ
written_by h calls = flat_map (written_in h) calls

-- what was taken from a handle
abbrev pub taken_by : ℕ → List Call → List ℕ
taken_by h calls = flat_map (taken_in h) calls

-- whether a mark is that of a read that met the end
abbrev pub is_end : Mark → Bool
is_end MetEnd = true
is_end mark = false

-- whether a mark is that of a call that failed
abbrev pub is_failed : Mark → Bool
is_failed (Failed name) = true
is_failed FailedEach = true
is_failed mark = false

-- whether a call is a read of a handle that is marked so
abbrev pub is_read : (Mark → Bool) → ℕ → Call → Bool
is_read is_so h (Take k bytes mark) = (k == h) && is_so mark
is_read is_so h call = false

-- whether a read of a handle is marked so
abbrev pub has_read : (Mark → Bool) → ℕ → List Call → Bool
has_read is_so h calls = list_any (is_read is_so h) calls

-- ---- what failed

-- whether a call failed
abbrev pub has_failed : Call → Bool
has_failed (Take h bytes mark) = is_failed mark
has_failed (Write h bytes mark) = is_failed mark
has_failed (Refuse kind name) = true
has_failed call = false

-- whether none of the calls failed
abbrev pub none_failed : List Call → Bool
none_failed calls = list_all (λ call. not (has_failed call)) calls

-- whether none of the calls failed but perhaps the last
abbrev pub last_failed : List Call → Bool
last_failed [] = true
last_failed (call ∷ []) = true
last_failed (call ∷ next ∷ calls) = not (has_failed call) && last_failed (next ∷ calls)

-- where calls go on none failed, and else none but perhaps the last
abbrev pub fails : Bool → List Call → Bool
fails go calls = if go then none_failed calls else last_failed calls

-- one of the calls failed
abbrev pub SomeFailed : List Call → Type 0
SomeFailed calls = (call : Call) × IsOneOf call calls × (has_failed call ≡ true)

-- a call failed that was counted for this kind and name
abbrev pub IsFailed : CallKind → List ℕ → Call → Type 0
IsFailed kind name (Take h bytes mark) = (kind ≡ Reading) × (mark ≡ Failed name)
IsFailed kind name (Write h bytes mark) = (kind ≡ Writing) × (mark ≡ Failed name)
IsFailed kind name (Refuse why file) = (kind ≡ why) × (name ≡ file)
IsFailed kind name call = ⊥

-- ---- what was touched

-- a call reads one of the first handles or writes one of the second
abbrev pub IsOn : List ℕ → List ℕ → Call → Type 0
IsOn reads writes (Take h bytes mark) = IsOneOf h reads
IsOn reads writes (Write h bytes mark) = IsOneOf h writes
IsOn reads writes call = ⊥

-- each call is so
abbrev pub AreOn : List ℕ → List ℕ → List Call → Type 0
AreOn reads writes [] = Unit {0}
AreOn reads writes (call ∷ calls) = IsOn reads writes call × AreOn reads writes calls

-- a call reads one of these handles, writes one of these, or opens or creates a file under one of these names
abbrev pub IsWithin : List ℕ → List ℕ → List (List ℕ) → List (List ℕ) → Call → Type 0
IsWithin reads writes opened created (Take h bytes mark) = IsOneOf h reads
IsWithin reads writes opened created (Write h bytes mark) = IsOneOf h writes
IsWithin reads writes opened created (Open name h) = IsOneOf name opened
IsWithin reads writes opened created (Create append name h empty) = IsOneOf name created
IsWithin reads writes opened created call = Unit {0}

-- the handle that a call opens
abbrev pub opened_in : Call → List ℕ
opened_in (Open name h) = h ∷ []
opened_in call = []

-- the handle that a call creates
abbrev pub created_in : Call → List ℕ
created_in (Create append name h empty) = h ∷ []
created_in call = []

-- calls read these handles or ones that they opened, write these or ones that they created, and open and create files under these names
abbrev pub AreWithin : List ℕ → List ℕ → List (List ℕ) → List (List ℕ) → List Call → Type 0
AreWithin reads writes opened created [] = Unit {0}
AreWithin reads writes opened created (call ∷ calls) =
    IsWithin reads writes opened created call × AreWithin (opened_in call ++ reads) (created_in call ++ writes) opened created calls

-- the handles that calls give
abbrev pub handles_given : List Call → List ℕ
handles_given calls = flat_map (λ call. opened_in call ++ created_in call) calls

-- how many handles calls give
abbrev pub count_given : List Call → ℕ
count_given calls = length (handles_given calls)

-- calls open files of these names, no more than these are, and read them; they write and create nothing
abbrev pub OnlyOpen : List (List ℕ) → List Call → Type 0
OnlyOpen names calls = AreWithin [] [] names [] calls × (count_given calls ≤ length names)
