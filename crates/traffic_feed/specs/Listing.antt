-- What a listing is (this project's choice).
use Rattle.std.specs.Prelude.{◌≡◌, ℕ, List, length}
use Rattle.std.specs.List.{sum_by}
use Rattle.vsl_record.specs.Unit.{Log}
use Rattle.vsl_record.specs.Words.{unit_words}
use Rattle.raw_records.specs.Lines.{Line, HasLines}
use Rattle.traffic_feed.specs.Batches.{listing_units, listing_cuts}

-- the bytes are a listing of these units, with so many cuts: its lines have meanings, and these are the units and the cuts of their batches
pub record IsListing (bytes : List ℕ) (reclen seg : ℕ) (units : Log) (cuts : ℕ) : Type 0 where
  pub meant : List Line
  pub has_lines : HasLines bytes meant
  pub units_are : units ≡ listing_units reclen seg meant
  pub cuts_are : cuts ≡ listing_cuts reclen seg meant

-- how many records units have together
abbrev pub record_count : Log → ℕ
record_count units = sum_by (λ u. length u.records) units

-- how many words units have together
abbrev pub word_count : Log → ℕ
word_count units = sum_by (λ u. length (unit_words u)) units
