-- Writes that failed: whether one of a handle did, and which was the first (this project's choice).
use Rattle.std.specs.Prelude.{ℕ, ◌==◌, ◌&&◌, Bool, false, List, [], ◌∷◌, Option, Some, None}
use Rattle.std.specs.List.{list_any}
use Rattle.vio.specs.Calls.{Mark, Failed, Call, Write, is_failed}

-- whether a call is a write to a handle that failed
abbrev pub is_unwritten : ℕ → Call → Bool
is_unwritten h (Write k bytes mark) = (k == h) && is_failed mark
is_unwritten h call = false

-- whether a write to a handle failed
abbrev pub fails_at : ℕ → List Call → Bool
fails_at h calls = list_any (is_unwritten h) calls

-- the name under which a call that is marked so was counted, if it was under one. A write that was counted under each name of its handle (`FailedEach`) is one that failed, for `fails_at`
-- too, but has no one name to tell. Outputs make none: `FailsLast` says of each sink that no write failed, or one alone, which was counted under the sink's name
abbrev pub blame_of : Mark → Option (List ℕ)
blame_of (Failed name) = Some name
blame_of mark = None

-- the name under which a write that failed was counted
abbrev pub blamed_in : Call → Option (List ℕ)
blamed_in (Write h bytes mark) = blame_of mark
blamed_in call = None

-- the first of two where there is one, else the second
abbrev pub first_of : {A : Type 0} → Option A → Option A → Option A
first_of (Some x) other = Some x
first_of None other = other

-- the name under which the first write that failed was counted
abbrev pub first_unwritten : List Call → Option (List ℕ)
first_unwritten [] = None
first_unwritten (call ∷ calls) = first_of (blamed_in call) (first_unwritten calls)
