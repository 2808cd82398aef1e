-- What is known of a unit that goes on (this project's choice).
use Rattle.std.specs.Prelude.{◌≡◌, ℕ, true, false, List, ◌∷◌, ◌++◌, Option, Some}
use Rattle.std.specs.List.{AllByRecursion}
use Rattle.std.specs.Option.{option_map}
use Rattle.varnish_log.specs.declared.units.Begun.{Begun as BegunUnit}
use Rattle.vsl_record.specs.declared.mark.Mark.{Mark}
use Rattle.vsl_record.specs.Unit.{LogUnit, Log}
use Rattle.vsl_record.specs.Words.{IsUnit}
use Rattle.vsl_file.specs.File.{log_bytes}
use Rattle.raw_records.specs.Lines.{LoggedRecord}
use Rattle.raw_records.specs.Gathered.{gathered, gathered_from, goes_on, with_record}
use Rattle.varnish_log.specs.inside.Written.{Begun, IsGood, IsOf, Keeps, Kept}

-- what is known of it
abbrev pub known : BegunUnit → Begun
known b = record { vxid = b.vxid; mark = b.mark; words = b.words; ended = b.ended }

-- the same, where there is one
abbrev pub known_of : Option BegunUnit → Option Begun
known_of o = option_map known o

-- the records of a unit that goes on, or of one that begins, and what was written before it
pub record IsReady (o : Begun) (body out before : List ℕ) (ls : List LoggedRecord) : Type 0 where
  pub done : Log
  pub are_units : AllByRecursion IsUnit done
  pub unit : LogUnit
  pub good : IsGood unit
  pub is_of : IsOf o body unit
  pub has : out ≡ before ++ log_bytes done
  pub open_still : o.ended ≡ false
  pub goes : (l : LoggedRecord) (more : List LoggedRecord) → l.vxid ≡ o.vxid → l.rec.mark ≡ o.mark →
      gathered goes_on (ls ++ l ∷ more) ≡ done ++ gathered_from goes_on (with_record unit l.rec) more

-- the unit that goes on does so with each record of this VXID and mark
pub record GoesOnWith (kept : Kept) (o : Begun) (vxid : ℕ) (mark : Mark) : Type 0 where
  pub is : kept.begun ≡ Some o
  pub same_vxid : o.vxid ≡ vxid
  pub same_mark : o.mark ≡ mark
  pub open_still : o.ended ≡ false
  pub goes : (u : LogUnit) (l : LoggedRecord) → Keeps kept (Some u) → l.vxid ≡ vxid → l.rec.mark ≡ mark →
      goes_on u l ≡ true
