-- How many records, words and cuts a listing of so many bytes has.
use Rattle.std.proofs.Common.{◌≡◌, ℕ, ◌+◌, ◌*◌, ◌/◌, ◌≤◌, true, false, cond, List, [], ◌∷◌, ◌++◌, length, Option, None, Some, inl, inr, refl, ap, arith}
use Rattle.std.specs.List.{AllZip, fold, onto_first, slice_split}
use Rattle.std.specs.Str.Lines.{lines, lines_of_parts, strip_carriage_return}
use Rattle.std.proofs.lemmas.Bool.{cases_Bool}
use Rattle.std.proofs.lemmas.List.{append-nil, length-append, length-replicate, length-take}
use Rattle.std.proofs.lemmas.List.Sums.{sum_by_push}
use Rattle.vsl_record.specs.Unit.{LogUnit, Log}
use Rattle.vsl_record.specs.Words.{record_words, unit_words}
use Rattle.raw_records.specs.Lines.{LoggedRecord, Line, BlankLine, CommentLine, RecordLine, IsLine, HasLines}
use Rattle.raw_records.specs.Gathered.{unit_of, with_record, goes_on, shortened}
use Rattle.traffic_feed.specs.Batches.{has_room}
use Rattle.traffic_feed.specs.Listing.{record_count, word_count}
use Rattle.traffic_feed.specs.inside.Gathering.{Gathered, begins, ended, taken_by, stepped, nothing, gathered_lines}
use Rattle.raw_records.proofs.GatheredLemmas.{record_size, size_more}
use Rattle.traffic_feed.proofs.BegunUnitLemmas.{unit_size}
use Rattle.raw_records.proofs.LineLemmas.{is_feed, record_bytes, split_some, stripped_short}
use Rattle.vsl_tags.proofs.CalledLemmas.{IsPlain-from}

-- ---- bytes

-- how many bytes lines have, each with a line feed
abbrev line_bytes : List (List ℕ) → ℕ
line_bytes [] = 0
line_bytes (text ∷ texts) = length text + 1 + line_bytes texts

onto_bytes : (b : ℕ) (parts : List (List ℕ)) (part : List ℕ) (more : List (List ℕ)) → parts ≡ part ∷ more → line_bytes (onto_first b parts) ≡ line_bytes parts + 1
onto_bytes b parts part more is = rw is (omega arith)

split_bytes : (bytes : List ℕ) → line_bytes (slice_split is_feed bytes) ≡ length bytes + 1
split_bytes [] = refl
split_bytes (b ∷ bytes) =
    let some = split_some bytes in
    elim (is_feed b) as (λ t. line_bytes (cond t ([] ∷ slice_split is_feed bytes) (onto_first b (slice_split is_feed bytes))) ≡ length (b ∷ bytes) + 1) [
      | true ↦ omega (arith, split_bytes bytes)
      | false ↦ omega (arith, split_bytes bytes, onto_bytes b (slice_split is_feed bytes) some.0 some.1 some.2)
    ]

parts_bytes : (parts : List (List ℕ)) → line_bytes (lines_of_parts parts) ≤ line_bytes parts
parts_bytes [] = omega arith
parts_bytes (part ∷ []) = grind arith
parts_bytes (part ∷ next ∷ parts) = omega (arith, stripped_short part, parts_bytes (next ∷ parts))

-- the lines of bytes have no more bytes
pub lines_bytes : (bytes : List ℕ) → line_bytes (lines bytes) ≤ length bytes + 1
lines_bytes bytes = omega (arith, parts_bytes (slice_split is_feed bytes), split_bytes bytes)

-- ---- steps

-- the units of all that was gathered
abbrev pub closed : Gathered → Log
closed g = (ended g).units

-- a line adds as many records as cuts or more, and no more records and words than its bytes have room for
record Grows (old new : Gathered) (size : ℕ) : Type 0 where
  records : 8 * record_count (closed new) ≤ 8 * record_count (closed old) + size
  words : word_count (closed new) ≤ word_count (closed old) + size
  cuts : new.cuts + record_count (closed old) ≤ old.cuts + record_count (closed new)

-- how many words a record with its own unit has
one_unit : (l : LoggedRecord) (most : ℕ) → length (unit_words (unit_of (shortened most l))) ≤ 8 + length l.rec.payload
one_unit l most = omega (arith, unit_size l.vxid (shortened most l).rec, record_size l.vxid (shortened most l).rec, length-take most l.rec.payload)

one_record : (vxid : ℕ) (l : LoggedRecord) (most : ℕ) → length (record_words vxid (shortened most l).rec) ≤ 8 + length l.rec.payload
one_record vxid l most = omega (arith, record_size vxid (shortened most l).rec, length-take most l.rec.payload)

pub records_pushed : (us : Log) (u : LogUnit) → record_count (us ++ u ∷ []) ≡ record_count us + length u.records
records_pushed us u = sum_by_push (λ (u : LogUnit). length u.records) us u

pub words_pushed : (us : Log) (u : LogUnit) → word_count (us ++ u ∷ []) ≡ word_count us + length (unit_words u)
words_pushed us u = sum_by_push (λ (u : LogUnit). length (unit_words u)) us u

-- a record in a unit of its own, with a cut or without one
Grows-apart : (g new : Gathered) (l : LoggedRecord) (size : ℕ) → 8 + length l.rec.payload ≤ size → closed new ≡ closed g ++ unit_of (shortened g.most l) ∷ [] → new.cuts ≤ g.cuts + 1 → Grows g new size
Grows-apart g new l size room is cuts =
    let u = unit_of (shortened g.most l) in
    record {
      records = omega (arith, ap record_count is, records_pushed (closed g) u);
      words = omega (arith, ap word_count is, words_pushed (closed g) u, one_unit l g.most);
      cuts = omega (arith, ap record_count is, records_pushed (closed g) u);
    }

-- a record behind others of its unit
Grows-on : (g new : Gathered) (u : LogUnit) (l : LoggedRecord) (size : ℕ) → 8 + length l.rec.payload ≤ size → closed g ≡ g.units ++ u ∷ [] → closed new ≡ g.units ++ with_record u (shortened g.most l).rec ∷ [] → new.cuts ≡ g.cuts → Grows g new size
Grows-on g new u l size room was is cuts =
    let m = (shortened g.most l).rec in
    record {
      records = omega (arith, ap record_count is, ap record_count was, records_pushed g.units u, records_pushed g.units (with_record u m), length-append u.records (m ∷ []));
      words = omega (arith, ap word_count is, ap word_count was, words_pushed g.units u, words_pushed g.units (with_record u m), size_more u m, one_record u.vxid l g.most);
      cuts = omega (arith, ap record_count is, ap record_count was, records_pushed g.units u, records_pushed g.units (with_record u m), length-append u.records (m ∷ []));
    }

Grows-taken : (o : Option LogUnit) (g : Gathered) (l : LoggedRecord) (size : ℕ) → 8 + length l.rec.payload ≤ size → g.begun ≡ o → Grows g (taken_by o g (shortened g.most l)) size
Grows-taken None g l size room is = Grows-apart g (begins g (shortened g.most l)) l size room refl (omega arith)
Grows-taken (Some u) g l size room is =
    let was : closed g ≡ g.units ++ u ∷ [] = rw is refl in
    elim (cases_Bool (goes_on u (shortened g.most l))) [
      | inl on ↦ elim (cases_Bool (has_room g.seg u (shortened g.most l))) [
        | inl fits ↦ rw (on, fits) (Grows-on g (record g { begun = Some (with_record u (shortened g.most l).rec) }) u l size room was refl refl)
        | inr full ↦ rw (on, full) (Grows-apart g (record (begins g (shortened g.most l)) { cuts = g.cuts + 1 }) l size room refl (omega arith))
      ]
      | inr off ↦ rw off (Grows-apart g (begins g (shortened g.most l)) l size room refl (omega arith))
    ]

Grows-step : (g : Gathered) (l : Line) (text : List ℕ) → IsLine text l → Grows g (stepped g l) (length text + 1)
Grows-step g BlankLine text is =
    let same : closed (ended g) ≡ closed g = append-nil (closed g) in
    record { records = omega (arith, ap record_count same); words = omega (arith, ap word_count same); cuts = omega (arith, ap record_count same) }
Grows-step g CommentLine text is = record { records = omega arith; words = omega arith; cuts = omega arith }
Grows-step g (RecordLine l) text is = Grows-taken g.begun g l (length text + 1) (omega (arith, record_bytes text l is)) refl

-- lines add no more than their bytes have room for
Grows-lines : (ls : List Line) (texts : List (List ℕ)) (g : Gathered) → AllZip IsLine texts ls → Grows g (fold stepped g ls) (line_bytes texts)
Grows-lines [] [] g are = record { records = omega arith; words = omega arith; cuts = omega arith }
Grows-lines [] (text ∷ texts) g are = absurd are
Grows-lines (l ∷ ls) [] g are = absurd are
Grows-lines (l ∷ ls) (text ∷ texts) g are =
    let once = Grows-step g l text are.0 in
    let more = Grows-lines ls texts (stepped g l) are.1 in
    record { records = omega (arith, once.records, more.records); words = omega (arith, once.words, more.words); cuts = omega (arith, once.cuts, more.cuts) }

-- what a listing of so many bytes has at most
pub record IsBounded (units : Log) (cuts size : ℕ) : Type 0 where
  pub records : record_count units ≤ (size + 1) / 8
  pub words : word_count units ≤ size + 1
  pub few_cuts : cuts ≤ record_count units

pub IsBounded-listing : (bytes : List ℕ) (reclen seg : ℕ) (ls : List Line) → HasLines bytes ls → IsBounded (closed (gathered_lines reclen seg ls)) (gathered_lines reclen seg ls).cuts (length bytes)
IsBounded-listing bytes reclen seg ls are =
    let grows = Grows-lines ls (lines bytes) (nothing reclen seg) are in
    record { records = omega (arith, grows.records, lines_bytes bytes); words = omega (arith, grows.words, lines_bytes bytes); few_cuts = omega (arith, grows.cuts) }
