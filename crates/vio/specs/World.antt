-- What a world tells, and how each call may change it (this project's choice).
use Rattle.std.specs.Prelude.{◌≡◌, ◌≢◌, ℕ, ◌<◌, ◌≤◌, ◌==◌, Bool, true, false, IsTrue, if◌then◌else◌, List, [], ◌++◌, length, codes, Option, Some}
use Rattle.std.specs.Option.{option_map}
use Rattle.log_model.specs.Faults.{HasNewFault}

-- the kinds of call that may fail
pub data CallKind : Type 0 where
  Opening : CallKind
  Creating : CallKind
  Reading : CallKind
  Writing : CallKind

-- what a world tells in one state. It may tell nothing of bytes, so one trait fits files in memory, which tell all, and
-- the system's, which tell none
pub record Seen : Type 0 where
  -- the bytes that a file of this name holds, where told
  pub held : List ℕ → Option (List ℕ)
  -- whether it is told that there is no file of this name
  pub lacks : List ℕ → Bool
  -- the bytes that a handle has left to read, where told
  pub left : ℕ → Option (List ℕ)
  -- the bytes that were written to a handle, where told; a handle that was never given may tell that it has none
  pub written : ℕ → Option (List ℕ)
  -- how many calls of a kind failed, by the name of their object
  pub faults : CallKind → List ℕ → ℕ
  -- whether a handle names a file or stream in calls of a kind
  pub names : CallKind → ℕ → List ℕ → Bool
  -- whether a handle was ever given
  pub given : ℕ → Bool

-- no count of faults fell
pub record NoCountFalls (before now : Seen) : Type 0 where
  pub each : (k : CallKind) (name : List ℕ) → before.faults k name ≤ now.faults k name

-- no fault was counted
pub record NoNewFaults (before now : Seen) : Type 0 where
  pub each : (k : CallKind) (name : List ℕ) → now.faults k name ≡ before.faults k name

-- the count of faults rose for each name that the handle has in calls of this kind
pub record FaultsRose (k : CallKind) (h : ℕ) (before now : Seen) : Type 0 where
  pub each : (name : List ℕ) → IsTrue (before.names k h name) → HasNewFault (before.faults k name) (now.faults k name)

-- what was told gained these bytes at its end; where nothing is told nothing is claimed
abbrev pub Gains : Option (List ℕ) → Option (List ℕ) → List ℕ → Type 0
Gains before now bytes = (a : List ℕ) → before ≡ Some a → now ≡ Some (a ++ bytes)

-- what was told lost these bytes at its beginning; where nothing is told nothing is claimed
abbrev pub Loses : Option (List ℕ) → Option (List ℕ) → List ℕ → Type 0
Loses before now bytes = (a : List ℕ) → before ≡ Some a → (rest : List ℕ) × (a ≡ bytes ++ rest) × (now ≡ Some rest)

-- where the handle tells what it has left, nothing is left
abbrev pub IsAtEnd : ℕ → Seen → Type 0
IsAtEnd h now = (a : List ℕ) → now.left h ≡ Some a → a ≡ []

-- a file was opened: the handle is new, has the file's name and has the bytes that the file held; nothing else changed but counts, of
-- which none fell
pub record Opened (name : List ℕ) (h : ℕ) (before now : Seen) : Type 0 where
  pub counts : NoCountFalls before now
  pub fresh : before.given h ≡ false
  pub given : now.given h ≡ true
  pub is_named : now.names Reading h name ≡ true
  pub left : now.left h ≡ before.held name
  pub held : (n : List ℕ) → now.held n ≡ before.held n
  pub lacks : (n : List ℕ) → now.lacks n ≡ before.lacks n
  pub written : (i : ℕ) → now.written i ≡ before.written i
  pub other_left : (i : ℕ) → i ≢ h → now.left i ≡ before.left i
  pub other_names : (k : CallKind) (i : ℕ) (n : List ℕ) → i ≢ h → now.names k i n ≡ before.names k i n
  pub other_given : (i : ℕ) → i ≢ h → now.given i ≡ before.given i

-- what a file has when writing to it begins, where told: no bytes, or those that it held where it is to keep them. That
-- there is no file is told apart from what a file holds, so that this can be said of a new one
abbrev pub begins_with : Bool → List ℕ → Seen → Option (List ℕ)
begins_with append name before =
    if before.lacks name then Some [] else (if append then before.held name else option_map (λ bytes. []) (before.held name))

-- a file was created for writing: the handle is new, has the file's name in writes, and nothing was written to it; the file has no bytes, or those
-- that it is to keep, and it is known whether it has any; nothing else changed but counts, of which none fell. What
-- handles have left stays, also of one that reads this file: nothing compares the two, since a file may have several
-- names
pub record FileCreated (append : Bool) (name : List ℕ) (h : ℕ) (empty : Bool) (before now : Seen) : Type 0 where
  pub counts : NoCountFalls before now
  pub fresh : before.given h ≡ false
  pub given : now.given h ≡ true
  pub no_stream : 2 < h
  pub is_named : now.names Writing h name ≡ true
  pub is_there : now.lacks name ≡ false
  -- of the names whose bytes are told, the handle has no other
  pub alone : (n bytes : List ℕ) → now.held n ≡ Some bytes → n ≢ name → now.names Writing h n ≡ false
  pub held : (bytes : List ℕ) → begins_with append name before ≡ Some bytes → now.held name ≡ Some bytes
  pub is_empty : (bytes : List ℕ) → begins_with append name before ≡ Some bytes → empty ≡ (length bytes == 0)
  pub emptied : append ≡ false → empty ≡ true
  pub other_held : (n : List ℕ) → n ≢ name → now.held n ≡ before.held n
  pub other_lacks : (n : List ℕ) → n ≢ name → now.lacks n ≡ before.lacks n
  pub left : (i : ℕ) → now.left i ≡ before.left i
  pub written : (i : ℕ) → now.written i ≡ before.written i
  pub other_names : (k : CallKind) (i : ℕ) (n : List ℕ) → i ≢ h → now.names k i n ≡ before.names k i n
  pub other_given : (i : ℕ) → i ≢ h → now.given i ≡ before.given i

-- these bytes were read from a handle; nothing else changed but counts, of which none fell
pub record Read (h : ℕ) (bytes : List ℕ) (before now : Seen) : Type 0 where
  pub counts : NoCountFalls before now
  pub loses : Loses (before.left h) (now.left h) bytes
  pub held : (n : List ℕ) → now.held n ≡ before.held n
  pub lacks : (n : List ℕ) → now.lacks n ≡ before.lacks n
  pub written : (i : ℕ) → now.written i ≡ before.written i
  pub other_left : (i : ℕ) → i ≢ h → now.left i ≡ before.left i
  pub names : (k : CallKind) (i : ℕ) (n : List ℕ) → now.names k i n ≡ before.names k i n
  pub given : (i : ℕ) → now.given i ≡ before.given i

-- these bytes were written to a handle; a file that it names gained them, where the handle is no standard stream; what a standard stream names
-- may change; nothing else changed but counts, of which none fell
pub record Wrote (h : ℕ) (bytes : List ℕ) (before now : Seen) : Type 0 where
  pub counts : NoCountFalls before now
  pub gains : Gains (before.written h) (now.written h) bytes
  pub file : (n : List ℕ) → 2 < h → before.names Writing h n ≡ true → Gains (before.held n) (now.held n) bytes
  pub other_held : (n held : List ℕ) → before.names Writing h n ≡ false → before.held n ≡ Some held → now.held n ≡ Some held
  pub lacks : (n : List ℕ) → now.lacks n ≡ before.lacks n
  pub left : (i : ℕ) → now.left i ≡ before.left i
  pub other_written : (i : ℕ) → i ≢ h → now.written i ≡ before.written i
  pub names : (k : CallKind) (i : ℕ) (n : List ℕ) → now.names k i n ≡ before.names k i n
  pub given : (i : ℕ) → now.given i ≡ before.given i

-- nothing changed but counts, of which none fell
pub record OnlyCounts (before now : Seen) : Type 0 where
  pub counts : NoCountFalls before now
  pub held : (n : List ℕ) → now.held n ≡ before.held n
  pub lacks : (n : List ℕ) → now.lacks n ≡ before.lacks n
  pub left : (i : ℕ) → now.left i ≡ before.left i
  pub written : (i : ℕ) → now.written i ≡ before.written i
  pub names : (k : CallKind) (i : ℕ) (n : List ℕ) → now.names k i n ≡ before.names k i n
  pub given : (i : ℕ) → now.given i ≡ before.given i

-- handles 0, 1 and 2 are given, and have the names of standard input, output and error: `-`, `-` and `stderr`
pub record HasStreams (now : Seen) : Type 0 where
  pub input_given : now.given 0 ≡ true
  pub output_given : now.given 1 ≡ true
  pub error_given : now.given 2 ≡ true
  pub input : now.names Reading 0 (codes "-") ≡ true
  pub output : now.names Writing 1 (codes "-") ≡ true
  pub error : now.names Writing 2 (codes "stderr") ≡ true

-- some bytes were read from a handle
pub record ReadSome (h : ℕ) (before now : Seen) : Type 0 where
  pub bytes : List ℕ
  pub read : Read h bytes before now

-- more bytes than the limit were read from a handle
pub record ReadPast (limit h : ℕ) (before now : Seen) : Type 0 where
  pub bytes : List ℕ
  pub read : Read h bytes before now
  pub more : limit < length bytes
