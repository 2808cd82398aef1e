-- What a world in memory tells, and how its calls go (this project's choice).
use Rattle.std.specs.Prelude.{◌≡◌, ◌≢◌, ℕ, ◌+◌, ◌-◌, Bool, true, false, not, ◌&&◌, ◌||◌, List, [], length, codes, Option, Some, None, is_some, Result, Ok, Err, nat_lt, nat_eq, min, ◌^◌, if◌then◌else◌}
use Rattle.std.specs.List.{slice_get}
use Rattle.std.specs.Option.{unwrap_or}
use Rattle.std.specs.Str.{bytes_eq}
use Rattle.vio.specs.declared.fault.Failed.{Failed as ReadFailed}
use Rattle.vio.specs.declared.fault.WorldFault.{WorldFault}
use Rattle.vio.specs.declared.fault.WorldFault.TheVariants.{Failed, NoMemory}
use Rattle.vio.specs.declared.file.Source.{Source}
use Rattle.vio.specs.declared.file.MemFile.{MemFile}
use Rattle.vio.specs.declared.file.OpenFile.{OpenFile}
use Rattle.vio.specs.declared.memory.MemWorld.{MemWorld}
use Rattle.vio.specs.declared.world.Created.{Created}
use Rattle.vio.specs.Plan.{CountsCall, fails_next, moved}
use Rattle.vio.specs.Sources.{left_of, left_in, text_in, held_in, begun}
use Rattle.vio.specs.World.{Seen, CallKind, Opening, Creating, Reading, Writing}

-- the handle of the first file that is opened: the standard streams have the smaller ones
abbrev pub first_handle : ℕ
first_handle = 3

-- the opened file of a handle: opened files have their handles in order
abbrev pub opened_at : List OpenFile → ℕ → Option OpenFile
opened_at opened h = if nat_lt h first_handle then None else slice_get opened (h - first_handle)

-- what the file of a handle has left
abbrev pub file_left : Option OpenFile → Option (List ℕ)
file_left None = None
file_left (Some file) = left_in file.access

-- what was written through the handle of a file; where it wasn't opened for writing nothing
abbrev pub file_text : Option OpenFile → List ℕ
file_text None = []
file_text (Some file) = unwrap_or (text_in file.access) []

-- what a handle has left: of 0 the rest of standard input, of a handle that reads a file the rest of that
abbrev pub left_at : List OpenFile → Source → ℕ → Option (List ℕ)
left_at opened input h = if nat_eq h 0 then Some (left_of input) else file_left (opened_at opened h)

-- what was written to a handle: 1, 2, and those of files that were opened for writing have something
abbrev pub written_at : List OpenFile → List ℕ → List ℕ → ℕ → List ℕ
written_at opened output errors h = if nat_eq h 1 then output else (if nat_eq h 2 then errors else file_text (opened_at opened h))

-- whether a file was opened for writing
abbrev pub is_for_writing : Option OpenFile → Bool
is_for_writing None = false
is_for_writing (Some file) = is_some (text_in file.access)

-- whether a handle can be written to: 1, 2, and those of files that were opened for writing
abbrev pub is_sink : List OpenFile → ℕ → Bool
is_sink opened h = nat_eq h 1 || (nat_eq h 2 || is_for_writing (opened_at opened h))

-- whether a file that was opened for reading has this name
abbrev pub reads_name : Option OpenFile → List ℕ → Bool
reads_name None name = false
reads_name (Some file) name = is_some (left_in file.access) && bytes_eq file.name.items name

-- whether a file that was opened for writing has this name
abbrev pub writes_name : Option OpenFile → List ℕ → Bool
writes_name None name = false
writes_name (Some file) name = is_some (text_in file.access) && bytes_eq file.name.items name

-- the names of handles, by kind of call
abbrev pub names_at : List OpenFile → CallKind → ℕ → List ℕ → Bool
names_at opened Opening h name = false
names_at opened Creating h name = false
names_at opened Reading h name = if nat_eq h 0 then bytes_eq (codes "-") name else reads_name (opened_at opened h) name
names_at opened Writing h name =
    if nat_eq h 1 then bytes_eq (codes "-") name else (if nat_eq h 2 then bytes_eq (codes "stderr") name else writes_name (opened_at opened h) name)

-- what a world of these parts tells
abbrev pub tells : List MemFile → List OpenFile → Source → List ℕ → List ℕ → ℕ → Seen
tells files opened input output errors faults = record {
  held = held_in files;
  lacks = λ name. not (is_some (held_in files name));
  left = left_at opened input;
  written = λ h. Some (written_at opened output errors h);
  faults = λ kind name. faults;
  names = names_at opened;
  given = λ h. nat_lt h (first_handle + length opened);
}

-- what a world in memory tells. It keeps one count of faults for all kinds and names, so a cause says only that this
-- one rose
abbrev pub memory_seen : MemWorld → Seen
memory_seen m = tells m.files.items m.opened.items m.input m.output.items m.errors.items m.faults

-- what the name of an open file holds
abbrev pub held_now : List MemFile → Option OpenFile → List ℕ
held_now files None = []
held_now files (Some file) = unwrap_or (held_in files file.name.items) []

-- the whole content behind a handle; of a handle never given nothing. Of a file it is what its name holds now, where
-- the handle itself reads what that held when it was opened
abbrev pub content_of : MemWorld → ℕ → List ℕ
content_of m h =
    if nat_eq h 0 then m.input.bytes.items else (if nat_eq h 1 then m.output.items else
    (if nat_eq h 2 then m.errors.items else held_now m.files.items (opened_at m.opened.items h)))

-- no file is held, standard input is empty, nothing was written, no fault was counted, and only the
-- standard streams are given
pub record IsNew (now : Seen) : Type 0 where
  pub held : (name : List ℕ) → now.held name ≡ None
  pub lacks : (name : List ℕ) → now.lacks name ≡ true
  pub input : now.left 0 ≡ Some []
  pub written : (h : ℕ) → now.written h ≡ Some []
  pub faults : (k : CallKind) (name : List ℕ) → now.faults k name ≡ 0
  pub given : (h : ℕ) → now.given h ≡ nat_lt h first_handle

-- nothing that is told changed
pub record IsSame (before now : Seen) : Type 0 where
  pub held : (name : List ℕ) → now.held name ≡ before.held name
  pub lacks : (name : List ℕ) → now.lacks name ≡ before.lacks name
  pub left : (h : ℕ) → now.left h ≡ before.left h
  pub written : (h : ℕ) → now.written h ≡ before.written h
  pub faults : (k : CallKind) (name : List ℕ) → now.faults k name ≡ before.faults k name
  pub names : (k : CallKind) (h : ℕ) (name : List ℕ) → now.names k h name ≡ before.names k h name
  pub given : (h : ℕ) → now.given h ≡ before.given h

-- a name holds these bytes, and all else that is told is as before
pub record Holds (name bytes : List ℕ) (before now : Seen) : Type 0 where
  pub held : now.held name ≡ Some bytes
  pub is_there : now.lacks name ≡ false
  pub other_held : (other : List ℕ) → other ≢ name → now.held other ≡ before.held other
  pub other_lacks : (other : List ℕ) → other ≢ name → now.lacks other ≡ before.lacks other
  pub left : (h : ℕ) → now.left h ≡ before.left h
  pub written : (h : ℕ) → now.written h ≡ before.written h
  pub faults : (k : CallKind) (n : List ℕ) → now.faults k n ≡ before.faults k n
  pub names : (k : CallKind) (h : ℕ) (n : List ℕ) → now.names k h n ≡ before.names k h n
  pub given : (h : ℕ) → now.given h ≡ before.given h

-- standard input has these bytes left, and all else that is told is as before
pub record HasInput (bytes : List ℕ) (before now : Seen) : Type 0 where
  pub input : now.left 0 ≡ Some bytes
  pub other_left : (h : ℕ) → h ≢ 0 → now.left h ≡ before.left h
  pub held : (name : List ℕ) → now.held name ≡ before.held name
  pub lacks : (name : List ℕ) → now.lacks name ≡ before.lacks name
  pub written : (h : ℕ) → now.written h ≡ before.written h
  pub faults : (k : CallKind) (name : List ℕ) → now.faults k name ≡ before.faults k name
  pub names : (k : CallKind) (h : ℕ) (name : List ℕ) → now.names k h name ≡ before.names k h name
  pub given : (h : ℕ) → now.given h ≡ before.given h

-- it is told of each name whether a file of this name is held, of each handle what was written to it, and of each handle that can be read what
-- it has left
pub record TellsAll (now : Seen) : Type 0 where
  pub lacks : (name : List ℕ) → now.lacks name ≡ not (is_some (now.held name))
  pub written : (h : ℕ) → (a : List ℕ) × (now.written h ≡ Some a)
  pub left : (h : ℕ) (name : List ℕ) → now.names Reading h name ≡ true → (a : List ℕ) × (now.left h ≡ Some a)

-- a call failed: it was counted, and so was a fault; at 2^64 - 1 a count stands still
pub record MemFails (before now : MemWorld) : Type 0 where
  pub call : CountsCall before.plan now.plan
  pub fault : now.faults ≡ min (before.faults + 1) (2 ^ 64 - 1)

-- a call didn't fail: it was counted, and no fault was
pub record MemAnswers (before now : MemWorld) : Type 0 where
  pub call : CountsCall before.plan now.plan
  pub fault : now.faults ≡ before.faults

-- whether the next call is answered: it has its object, and isn't one that fails
abbrev pub is_answered : Bool → MemWorld → Bool
is_answered has_object m = has_object && not (fails_next m.plan)

-- an opening: it fails where its call is to fail or the name isn't there, and nowhere else. That no handle is left is
-- want of memory, and no fault
abbrev pub MemOpens : List ℕ → MemWorld → MemWorld → Result ℕ WorldFault → Type 0
MemOpens name old new (Ok h) = (is_answered (is_some (held_in old.files.items name)) old ≡ true) × MemAnswers old new
MemOpens name old new (Err NoMemory) = (is_answered (is_some (held_in old.files.items name)) old ≡ true) × MemAnswers old new
MemOpens name old new (Err Failed) = (is_answered (is_some (held_in old.files.items name)) old ≡ false) × MemFails old new

-- a creation: it fails where its call is to fail, and nowhere else; the file has no bytes, or those that it held where it is to keep them
abbrev pub MemCreates : Bool → List ℕ → MemWorld → MemWorld → Result Created WorldFault → Type 0
MemCreates append name old new (Ok created) = (fails_next old.plan ≡ false) × MemAnswers old new
    × (held_in new.files.items name ≡ Some (begun append (held_in old.files.items name)))
MemCreates append name old new (Err NoMemory) = (fails_next old.plan ≡ false) × MemAnswers old new
MemCreates append name old new (Err Failed) = (fails_next old.plan ≡ true) × MemFails old new

-- a read into so much room: it fails where its call is to fail or the handle isn't one that is read, and nowhere else; it moves all that
-- is left and has room, but at most a piece
abbrev pub MemReads : ℕ → ℕ → MemWorld → MemWorld → Result ℕ ReadFailed → Type 0
MemReads h room old new (Ok n) = (is_answered (is_some ((memory_seen old).left h)) old ≡ true) × MemAnswers old new
    × ((a : List ℕ) → (memory_seen old).left h ≡ Some a → n ≡ moved old.plan (min (length a) room))
MemReads h room old new (Err e) = (is_answered (is_some ((memory_seen old).left h)) old ≡ false) × MemFails old new

-- a write of so many bytes: it fails where its call is to fail or the handle can't be written to, and nowhere else; it moves all, but at
-- most a piece
abbrev pub MemWrites : ℕ → ℕ → MemWorld → MemWorld → Result ℕ WorldFault → Type 0
MemWrites h size old new (Ok n) = (is_answered (is_sink old.opened.items h) old ≡ true) × MemAnswers old new × (n ≡ moved old.plan size)
MemWrites h size old new (Err NoMemory) = (is_answered (is_sink old.opened.items h) old ≡ true) × MemAnswers old new
MemWrites h size old new (Err Failed) = (is_answered (is_sink old.opened.items h) old ≡ false) × MemFails old new
