-- What is known of all that a source has: of a log, where its handle told what it had left (this project's choice).
use Rattle.std.specs.Prelude.{◌≡◌, ℕ, Bool, true, List, [], ◌++◌, Option, Some, None}
use Rattle.vio.specs.World.{Seen}
use Rattle.vsl_record.specs.Unit.{Log}
use Rattle.ring_layout.specs.declared.item.Item.{Item}
use Rattle.vsl_file.specs.File.{FileEnding, NotALog, Damaged, TooLarge, IsFile}
use Rattle.run_sources.specs.declared.file_items.FileStop.{FileStop}
use Rattle.run_sources.specs.declared.file_items.FileStop.TheVariants as stops

-- of all the items that a source has these came: the first, or all, and then it had ended
pub record AreOf (met : List Item) (all : Bool) (every : List Item) (ended : Bool) : Type 0 where
  pub rest : List Item
  pub parts : every ≡ met ++ rest
  pub whole : all ≡ true → (rest ≡ []) × (ended ≡ true)

-- a handle that was given told what it had left: a file of these units, which ends so
pub record TellsLog (h : ℕ) (units : Log) (ending : FileEnding) (before : Seen) : Type 0 where
  pub given : before.given h ≡ true
  pub bytes : List ℕ
  pub told : before.left h ≡ Some bytes
  pub file : IsFile bytes units ending

-- the ending of a file that a stop names; a failed read names none
abbrev pub named_ending : FileStop → Option FileEnding
named_ending (stops.NotALog at) = Some (NotALog at)
named_ending (stops.Damaged at) = Some (Damaged at)
named_ending stops.TooLarge = Some TooLarge
named_ending stops.ReadFault = None
