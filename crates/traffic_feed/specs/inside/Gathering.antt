-- How the records of a listing are gathered.
use Rattle.std.specs.Prelude.{◌≡◌, ℕ, ◌+◌, ◌-◌, ◌*◌, ◌≤◌, if◌then◌else◌, Bool, false, List, [], ◌++◌, length, Option, None, Some}
use Rattle.std.specs.List.{fold, AllByRecursion}
use Rattle.std.specs.Option.{ForSome, option_to_list}
use Rattle.ring_layout.specs.Places.{IsSegment}
use Rattle.vsl_record.specs.Unit.{LogUnit, Log}
use Rattle.vsl_record.specs.Payload.{most_payload}
use Rattle.vsl_record.specs.Words.{IsUnit, unit_words}
use Rattle.raw_records.specs.Lines.{LoggedRecord, Line, BlankLine, CommentLine, RecordLine}
use Rattle.raw_records.specs.Gathered.{unit_of, with_record, goes_on, has_end, shortened}
use Rattle.traffic_feed.specs.Batches.{most_kept, has_room, IsWithin}

-- a unit that was begun has so many words, and an End or none
pub record IsBegunUnit (u : LogUnit) (words : ℕ) (ends : Bool) : Type 0 where
  pub unit : IsUnit u
  pub size : words ≡ length (unit_words u)
  pub ended : ends ≡ has_end u

-- what was gathered of lines: the units that are closed, how often a batch was cut, and the unit that was begun
pub record Gathered : Type 0 where
  pub most : ℕ
  pub seg : ℕ
  pub units : Log
  pub cuts : ℕ
  pub begun : Option LogUnit

-- what holds of all that is gathered
pub record IsGathering (g : Gathered) : Type 0 where
  pub segment : IsSegment g.seg
  pub few : g.most ≤ most_payload
  pub fits : g.most ≤ 4 * (g.seg - 4)
  pub units : AllByRecursion (IsWithin g.seg) g.units
  pub begun : ForSome g.begun (λ u. IsWithin g.seg u)

-- nothing was gathered
abbrev pub nothing : ℕ → ℕ → Gathered
nothing reclen seg = record { most = most_kept reclen seg; seg = seg; units = []; cuts = 0; begun = None }

-- the unit that was begun ends
abbrev pub ended : Gathered → Gathered
ended g = record g { units = g.units ++ option_to_list g.begun; begun = None }

-- a record begins a unit
abbrev pub begins : Gathered → LoggedRecord → Gathered
begins g l = record g { units = g.units ++ option_to_list g.begun; begun = Some (unit_of l) }

-- a record behind those that were gathered, by the unit that was begun
abbrev pub taken_by : Option LogUnit → Gathered → LoggedRecord → Gathered
taken_by None g l = begins g l
taken_by (Some u) g l =
    if goes_on u l then (if has_room g.seg u l then record g { begun = Some (with_record u l.rec) }
    else record (begins g l) { cuts = g.cuts + 1 }) else begins g l

-- whether the batch of the unit that was begun, if one was, goes on with a record
abbrev pub begun_goes_on : Option LogUnit → LoggedRecord → Bool
begun_goes_on None l = false
begun_goes_on (Some u) l = goes_on u l

-- whether the unit that was begun, if one was, has room for a record
abbrev pub begun_has_room : ℕ → Option LogUnit → LoggedRecord → Bool
begun_has_room seg None l = false
begun_has_room seg (Some u) l = has_room seg u l

-- a line behind those that were gathered
abbrev pub stepped : Gathered → Line → Gathered
stepped g BlankLine = ended g
stepped g CommentLine = g
stepped g (RecordLine l) = taken_by g.begun g (shortened g.most l)

-- what is gathered of a listing
abbrev pub gathered_lines : ℕ → ℕ → List Line → Gathered
gathered_lines reclen seg ls = fold stepped (nothing reclen seg) ls
