-- Of what the items of a source came: the bytes of a log file, the turns of feeds over a ring, or units that are at hand (this project's choice).
use Rattle.std.specs.Prelude.{◌≡◌, ℕ, ◌+◌, ◌<◌, ◌≤◌, Bool, true, false, List, [], ◌∷◌, ◌++◌, length, map, Option, Some, None}
use Rattle.log_model.specs.declared.fault.Halt.{Halt}
use Rattle.log_model.specs.declared.fault.Halt.TheVariants as halts
use Rattle.vio.specs.World.{Seen}
use Rattle.vio.specs.Touches.{IsOneOf}
use Rattle.vio.specs.Calls.{Call, taken_by, has_read, is_end, Take, FailedEach}
use Rattle.vsl_words.specs.declared.version.Version.{Version}
use Rattle.vsl_record.specs.Unit.{Log}
use Rattle.ring_layout.specs.declared.item.Item.{Item}
use Rattle.ring_layout.specs.declared.item.Item.TheVariants as items
use Rattle.vsl_file.specs.File.{FileEnding, NotALog, Damaged, TooLarge, Whole, IsFile, HoldsWhole, most_bytes}
use Rattle.vsl_file.specs.ReaderState.{AreUnitsOf, Represents, used}
use Rattle.vsl_file.specs.declared.fault.FileFault.{FileFault}
use Rattle.vsl_file.specs.declared.fault.FileFault.TheVariants as file_faults
use Rattle.feed_schedule.specs.Replaying as replaying
use Rattle.run_sources.specs.declared.feed_items.FeedItems.{FeedItems}
use Rattle.run_sources.specs.declared.file_items.FileItems.{FileItems}
use Rattle.run_sources.specs.declared.file_items.FileStop.{FileStop}
use Rattle.run_sources.specs.declared.file_items.FileStop.TheVariants as stops

-- the items of units
abbrev pub unit_items : Log → List Item
unit_items units = map items.Unit units

-- ---- a log file

-- why a run has no more items, where the file stops so
abbrev pub file_halt : FileFault → Halt FileStop
file_halt (file_faults.NotALog at) = halts.Fault (stops.NotALog at)
file_halt (file_faults.Damaged at) = halts.Fault (stops.Damaged at)
file_halt file_faults.TooLarge = halts.Fault stops.TooLarge
file_halt file_faults.ReadFault = halts.Fault stops.ReadFault
file_halt file_faults.NoMemory = halts.NoMemory
file_halt file_faults.FailedBefore = halts.NoMemory

-- the bytes that were taken are the file of these units, whole, and a read met its end
abbrev pub IsReadWhole : ℕ → List Call → Log → Type 0
IsReadWhole h calls units = IsFile (taken_by h calls) units Whole × (has_read is_end h calls ≡ true)

-- these items are the units that the reader gave of the bytes that were taken; all of them where the file ended and is whole. Where no
-- header was read yet fewer bytes are held than one has
pub record FileGave (start now : FileItems) (calls : List Call) (met : List Item) (all : Bool) : Type 0 where
  pub handle : now.reader.handle ≡ start.reader.handle
  pub units : Log
  pub are : met ≡ unit_items units
  pub represents : Represents now.reader (taken_by start.reader.handle calls) units
  pub whole : all ≡ true → IsReadWhole start.reader.handle calls units
  pub unread : all ≡ false → now.reader.version ≡ None → length now.reader.rest < 8

-- these items are all units that lie whole in the bytes that were taken: so it is when more of a log is read
abbrev pub FileAsks : ℕ → List Call → List Item → Type 0
FileAsks h calls met = (units : Log) × (met ≡ unit_items units) × HoldsWhole (taken_by h calls) units

-- the bytes begin with a log of these units, of a version; where none of its header was read there are none
pub record BeginsLog (taken : List ℕ) (units : Log) : Type 0 where
  pub version : Option Version
  pub rest : List ℕ
  pub are_units : AreUnitsOf version units
  pub parts : taken ≡ used version units ++ rest
  pub most : length (used version units) ≤ most_bytes

-- of the bytes alone: the items lie at their beginning, with fewer than 65,536 bytes past the last of them, past the header,
-- or where none was read in all; all of them where the file ended and is whole
pub record FileCame (h : ℕ) (calls : List Call) (met : List Item) (all : Bool) : Type 0 where
  pub units : Log
  pub are : met ≡ unit_items units
  pub begins : BeginsLog (taken_by h calls) units
  pub few : length (taken_by h calls) < length (used begins.version units) + 65536
  pub whole : all ≡ true → IsReadWhole h calls units

-- the items lie at the beginning of the bytes that were taken
pub record FileBegins (h : ℕ) (calls : List Call) (met : List Item) : Type 0 where
  pub units : Log
  pub are : met ≡ unit_items units
  pub begins : BeginsLog (taken_by h calls) units

-- the items lie at the beginning of the bytes that were taken, and are those of a file that ends so, with whatever the handle has left
pub record FileEnds (h : ℕ) (calls : List Call) (met : List Item) (now : Seen) (ending : FileEnding) : Type 0 where
  pub units : Log
  pub are : met ≡ unit_items units
  pub begins : BeginsLog (taken_by h calls) units
  pub ends : (more : List ℕ) → now.left h ≡ Some more → IsFile (taken_by h calls ++ more) units ending

-- a read failed: the items are all that lie whole in the bytes that were taken. Their bytes are right whatever would
-- follow
pub record FileUnread (h : ℕ) (calls : List Call) (met : List Item) : Type 0 where
  pub units : Log
  pub are : met ≡ unit_items units
  pub begins : BeginsLog (taken_by h calls) units
  pub holds : HoldsWhole (taken_by h calls) units
  pub failed : (part : List ℕ) × IsOneOf (Take h part FailedEach) calls

-- where and why the items of a file end
abbrev pub FileStopped : ℕ → FileStop → List Call → List Item → Seen → Type 0
FileStopped h (stops.NotALog at) calls met now = FileEnds h calls met now (NotALog at)
FileStopped h (stops.Damaged at) calls met now = FileEnds h calls met now (Damaged at)
FileStopped h stops.TooLarge calls met now = FileEnds h calls met now TooLarge
FileStopped h stops.ReadFault calls met now = FileUnread h calls met

-- ---- feeds

-- what an overrun cost, where that wasn't given yet
abbrev pub owed : Option ℕ → List Item
owed None = []
owed (Some units) = items.Missed units ∷ []

-- these items are still to come: what the last overrun cost, where that wasn't given yet, and what the reader meets in the turns that are left
abbrev pub HasToCome : FeedItems → List Item → Type 0
HasToCome feeds every = (rest : List Item) × (every ≡ owed feeds.missed ++ rest) ×
    replaying.Represents feeds.replay rest

-- of whatever was to come these items came first; all of them or not, and what is left is still to come
pub record FeedsGave (start now : FeedItems) (met : List Item) (all : Bool) : Type 0 where
  pub came : (every : List Item) → HasToCome start every → (rest : List Item) × (every ≡ met ++ rest) ×
      HasToCome now rest × (all ≡ true → rest ≡ [])

-- of whatever was to come these items came first
abbrev pub FeedsBegan : FeedItems → List Item → Type 0
FeedsBegan start met = (every : List Item) → HasToCome start every → (rest : List Item) × (every ≡ met ++ rest)

-- ---- units at hand

-- these items are the first of the units, and the others are left; or they are all
pub record UnitsGave (start now : Log) (met : List Item) (all : Bool) : Type 0 where
  pub came : unit_items start ≡ met ++ unit_items now
  pub whole : all ≡ true → met ≡ unit_items start
