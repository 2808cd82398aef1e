-- The units of a listing: its records in batches, and each batch cut where it outgrows a segment (this project's choice). `seg` is the
-- number of words of a segment.
use Rattle.std.specs.Prelude.{ℕ, ◌-◌, ◌*◌, ◌≤◌, min, nat_le, Bool, List, [], ◌∷◌, length}
use Rattle.std.specs.List.{flat_map, onto_first}
use Rattle.vsl_record.specs.Unit.{LogUnit, Log}
use Rattle.vsl_record.specs.Words.{IsUnit, unit_words}
use Rattle.raw_records.specs.Gathered.{gathered, goes_on, logged, shortened, with_record}
use Rattle.raw_records.specs.Lines.{LoggedRecord, Line, BlankLine, CommentLine, RecordLine}

-- the most bytes that are kept of a payload: as many as are asked for, and no more than a unit of one record has room
-- for in a segment. So each record goes in; a letter may be cut apart, since payloads are bytes
abbrev pub most_kept : ℕ → ℕ → ℕ
most_kept reclen seg = min reclen (4 * (seg - 4))

-- the records between blank lines, shortened; comments don't count
abbrev pub sections : ℕ → List Line → List (List LoggedRecord)
sections most [] = [] ∷ []
sections most (BlankLine ∷ ls) = [] ∷ sections most ls
sections most (CommentLine ∷ ls) = sections most ls
sections most (RecordLine l ∷ ls) = onto_first (shortened most l) (sections most ls)

-- the batches of a listing, as units of any length: as long as they go on, and never over a blank line
abbrev pub batches : ℕ → List Line → Log
batches most ls = flat_map (gathered goes_on) (sections most ls)

-- whether a unit has room for a record in a segment
abbrev pub has_room : ℕ → LogUnit → LoggedRecord → Bool
has_room seg u l = nat_le (length (unit_words (with_record u l.rec))) seg

-- the units of a batch: it is cut before each record for which a unit has no room
abbrev pub units_of_batch : ℕ → LogUnit → Log
units_of_batch seg batch = gathered (has_room seg) (logged batch)

-- the units of a listing: those of its batches
abbrev pub listing_units : ℕ → ℕ → List Line → Log
listing_units reclen seg ls = flat_map (units_of_batch seg) (batches (most_kept reclen seg) ls)

-- how often the batches of a listing are cut: as often as there are more units than batches, so never where a batch ends anyway
abbrev pub listing_cuts : ℕ → ℕ → List Line → ℕ
listing_cuts reclen seg ls = length (listing_units reclen seg ls) - length (batches (most_kept reclen seg) ls)

-- a unit that fits in a segment
pub record IsWithin (seg : ℕ) (u : LogUnit) : Type 0 where
  pub unit : IsUnit u
  pub fits : length (unit_words u) ≤ seg
