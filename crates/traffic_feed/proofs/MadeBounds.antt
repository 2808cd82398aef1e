-- How many records, words and cuts traffic has that is made.
use Rattle.std.proofs.Common.{◌≡◌, ℕ, zero, suc, ◌+◌, ◌*◌, ◌%◌, ◌<◌, ◌≤◌, Bool, true, false, cond, List, [], ◌∷◌, ◌++◌, length, Option, None, Some, inl, inr, refl, sym, ap, ◌∙◌, arith}
use Rattle.std.specs.Prelude.{codes, decimal}
use Rattle.std.specs.List.{flat_map, fold}
use Rattle.std.proofs.lemmas.Bool.{cases_Bool}
use Rattle.std.proofs.lemmas.Fmt.{length-decimal-le}
use Rattle.std.proofs.lemmas.List.{append-nil, length-append, length-take}
use Rattle.vsl_record.specs.Unit.{LogUnit, Log, vxid_end}
use Rattle.vsl_record.specs.Words.{record_words, unit_words}
use Rattle.raw_records.specs.Lines.{LoggedRecord, Line, BlankLine, CommentLine, RecordLine}
use Rattle.raw_records.specs.Gathered.{unit_of, with_record, goes_on, shortened}
use Rattle.traffic_feed.specs.Batches.{has_room}
use Rattle.traffic_feed.specs.Listing.{record_count, word_count}
use Rattle.traffic_feed.specs.declared.requests.Number.{Number}
use Rattle.traffic_feed.specs.declared.requests.Number.TheVariants.{Nothing, VxidOf, Seconds, Item, SizesFetched, SizesSent}
use Rattle.traffic_feed.specs.declared.requests.TheConstants.{ROWS}
use Rattle.traffic_feed.specs.declared.requests.Whose.{Whose}
use Rattle.traffic_feed.specs.declared.requests.Whose.TheVariants.{Fetch, Request, Miss, Hit, Session}
use Rattle.traffic_feed.specs.Made.{is_miss, is_said, vxid_of, sizes_of, number_text, row_lines, request_lines, draw_of, made_lines, made_units, made_cuts}
use Rattle.traffic_feed.specs.inside.Gathering.{Gathered, begins, ended, taken_by, stepped, nothing, gathered_lines}
use Rattle.traffic_feed.specs.inside.Making.{IsPartlyMade, request_end}
use Rattle.traffic_feed.proofs.BatchLemmas.{gathered_units, gathered_cuts}
use Rattle.raw_records.proofs.GatheredLemmas.{record_size, size_more}
use Rattle.traffic_feed.proofs.BegunUnitLemmas.{unit_size}
use Rattle.traffic_feed.proofs.BoundLemmas.{closed, records_pushed, words_pushed}
use Rattle.traffic_feed.proofs.MakingLemmas.{made_more}

-- ---- lines

-- how many bytes the payloads of lines have together
payload_bytes : List Line → ℕ
payload_bytes [] = 0
payload_bytes (BlankLine ∷ ls) = payload_bytes ls
payload_bytes (CommentLine ∷ ls) = payload_bytes ls
payload_bytes (RecordLine l ∷ ls) = length l.rec.payload + payload_bytes ls

-- those of lines and others
payload_bytes_append : (xs ys : List Line) → payload_bytes (xs ++ ys) ≡ payload_bytes xs + payload_bytes ys
unfolding payload_bytes
payload_bytes_append [] ys = omega arith
payload_bytes_append (BlankLine ∷ xs) ys = payload_bytes_append xs ys
payload_bytes_append (CommentLine ∷ xs) ys = payload_bytes_append xs ys
payload_bytes_append (RecordLine l ∷ xs) ys = omega (arith, payload_bytes_append xs ys)

-- ---- steps

-- so many lines with payloads of so many bytes add no more records than lines, no more words than these have room for, and as many records as cuts or more
record Adds (old new : Gathered) (lines bytes : ℕ) : Type 0 where
  records : record_count (closed new) ≤ record_count (closed old) + lines
  words : 4 * word_count (closed new) ≤ 4 * word_count (closed old) + 19 * lines + bytes
  cuts : new.cuts + record_count (closed old) ≤ old.cuts + record_count (closed new)

-- how many words a record has, with its own unit and without
one_unit : (l : LoggedRecord) (most : ℕ) → 4 * length (unit_words (unit_of (shortened most l))) ≤ 19 + length l.rec.payload
one_unit l most = omega (arith, unit_size l.vxid (shortened most l).rec, record_size l.vxid (shortened most l).rec, length-take most l.rec.payload)

one_record : (vxid : ℕ) (l : LoggedRecord) (most : ℕ) → 4 * length (record_words vxid (shortened most l).rec) ≤ 19 + length l.rec.payload
one_record vxid l most = omega (arith, record_size vxid (shortened most l).rec, length-take most l.rec.payload)

-- a record in a unit of its own, with a cut or without one
Adds-apart : (g new : Gathered) (l : LoggedRecord) → closed new ≡ closed g ++ unit_of (shortened g.most l) ∷ [] → new.cuts ≤ g.cuts + 1 → Adds g new 1 (length l.rec.payload)
Adds-apart g new l is cuts =
    let u = unit_of (shortened g.most l) in
    record {
      records = omega (arith, ap record_count is, records_pushed (closed g) u);
      words = omega (arith, ap word_count is, words_pushed (closed g) u, one_unit l g.most);
      cuts = omega (arith, ap record_count is, records_pushed (closed g) u);
    }

-- a record behind others of its unit
Adds-on : (g new : Gathered) (u : LogUnit) (l : LoggedRecord) → closed g ≡ g.units ++ u ∷ [] → closed new ≡ g.units ++ with_record u (shortened g.most l).rec ∷ [] → new.cuts ≡ g.cuts → Adds g new 1 (length l.rec.payload)
Adds-on g new u l was is cuts =
    let m = (shortened g.most l).rec in
    record {
      records = omega (arith, ap record_count is, ap record_count was, records_pushed g.units u, records_pushed g.units (with_record u m), length-append u.records (m ∷ []));
      words = omega (arith, ap word_count is, ap word_count was, words_pushed g.units u, words_pushed g.units (with_record u m), size_more u m, one_record u.vxid l g.most);
      cuts = omega (arith, ap record_count is, ap record_count was, records_pushed g.units u, records_pushed g.units (with_record u m), length-append u.records (m ∷ []));
    }

-- a record behind the unit that was begun, if one was
Adds-taken : (o : Option LogUnit) (g : Gathered) (l : LoggedRecord) → g.begun ≡ o → Adds g (taken_by o g (shortened g.most l)) 1 (length l.rec.payload)
Adds-taken None g l is = Adds-apart g (begins g (shortened g.most l)) l refl (omega arith)
Adds-taken (Some u) g l is =
    let was : closed g ≡ g.units ++ u ∷ [] = rw is refl in
    elim (cases_Bool (goes_on u (shortened g.most l))) [
      | inl on ↦ elim (cases_Bool (has_room g.seg u (shortened g.most l))) [
        | inl fits ↦ rw (on, fits) (Adds-on g (record g { begun = Some (with_record u (shortened g.most l).rec) }) u l was refl refl)
        | inr full ↦ rw (on, full) (Adds-apart g (record (begins g (shortened g.most l)) { cuts = g.cuts + 1 }) l refl (omega arith))
      ]
      | inr off ↦ rw off (Adds-apart g (begins g (shortened g.most l)) l refl (omega arith))
    ]

-- lines add no more than they have room for
Adds-lines : (ls : List Line) (g : Gathered) → Adds g (fold stepped g ls) (length ls) (payload_bytes ls)
unfolding payload_bytes
Adds-lines [] g = record { records = omega arith; words = omega arith; cuts = omega arith }
Adds-lines (BlankLine ∷ ls) g =
    let same : closed (ended g) ≡ closed g = append-nil (closed g) in
    let more = Adds-lines ls (ended g) in
    record { records = omega (arith, ap record_count same, more.records); words = omega (arith, ap word_count same, more.words); cuts = omega (arith, ap record_count same, more.cuts) }
Adds-lines (CommentLine ∷ ls) g =
    let more = Adds-lines ls g in
    record { records = omega (arith, more.records); words = omega (arith, more.words); cuts = omega (arith, more.cuts) }
Adds-lines (RecordLine l ∷ ls) g =
    let once = Adds-taken g.begun g l refl in
    let more = Adds-lines ls (stepped g (RecordLine l)) in
    record { records = omega (arith, once.records, more.records); words = omega (arith, once.words, more.words); cuts = omega (arith, once.cuts, more.cuts) }

-- ---- requests

-- so many lines or fewer with payloads of so many bytes or fewer
record IsSmall (ls : List Line) (lines bytes : ℕ) : Type 0 where
  few : length ls ≤ lines
  short : payload_bytes ls ≤ bytes

-- two runs of lines
IsSmall-both : (xs ys : List Line) (m n x y : ℕ) → IsSmall xs m x → IsSmall ys n y → IsSmall (xs ++ ys) (m + n) (x + y)
IsSmall-both xs ys m n x y a b = record { few = omega (arith, a.few, b.few, length-append xs ys); short = omega (arith, a.short, b.short, payload_bytes_append xs ys) }

-- the most bytes of a number's text
abbrev most_digits : Number → ℕ
most_digits Nothing = 0
most_digits SizesFetched = 21
most_digits SizesSent = 21
most_digits number = 10

-- a number of 32 bits
digits_few : (n : ℕ) → n < 4294967296 → length (decimal n) ≤ 10
digits_few n few = length-decimal-le 10 n (omega arith) (omega (arith, few)) (omega (arith, few))

-- the counts of bytes of an answer
sizes_bytes : (headers x : ℕ) → headers ≤ 1000 → length (sizes_of headers x) ≤ 21
sizes_bytes headers x few = omega (
  arith,
  length-append (decimal (x % 1000) ++ codes " ") (decimal (x % 1000 + headers)),
  length-append (decimal (x % 1000)) (codes " "),
  digits_few (x % 1000) (omega arith),
  digits_few (x % 1000 + headers) (omega (arith, few)),
)

-- VXIDs have 32 bits, and are in range
pub vxid_small : (whose : Whose) (k : ℕ) → k < request_end → vxid_of whose k < 4294967296
vxid_small Fetch k few = omega (arith, few)
vxid_small Request k few = omega (arith, few)
vxid_small Miss k few = omega (arith, few)
vxid_small Hit k few = omega (arith, few)
vxid_small Session k few = omega (arith, few)

pub vxid_in_range : (whose : Whose) (k : ℕ) → k < request_end → vxid_of whose k < vxid_end
vxid_in_range whose k few = omega (arith, vxid_small whose k few)

-- the text of a number
number_bytes : (number : Number) (k x : ℕ) → k < request_end → length (number_text number k x) ≤ most_digits number
number_bytes Nothing k x few = omega arith
number_bytes (VxidOf whose) k x few = digits_few (vxid_of whose k) (vxid_small whose k few)
number_bytes Seconds k x few = digits_few (1650000000 + k) (omega (arith, few))
number_bytes Item k x few = digits_few (x % 100) (omega arith)
number_bytes SizesFetched k x few = sizes_bytes 180 x (omega arith)
number_bytes SizesSent k x few = sizes_bytes 200 x (omega arith)

-- the lines of a row
row_small : (whose : Whose) (tag : ℕ) (before : List ℕ) (number : Number) (behind : List ℕ) (k x : ℕ) (miss : Bool) → is_said whose (is_miss x) ≡ miss → k < request_end
    → IsSmall (row_lines k x whose tag before number behind) (cond miss 1 0) (length before + most_digits number + length behind)
unfolding payload_bytes
row_small whose tag before number behind k x true is few = rw is (record {
  few = omega arith;
  short = omega (arith, number_bytes number k x few, length-append (before ++ number_text number k x) behind, length-append before (number_text number k x));
})
row_small whose tag before number behind k x false is few = rw is (record { few = omega arith; short = omega arith })

-- how many lines rows have, and the most bytes, whatever a row is
line_count : {R : Type 0} → (R → Whose) → Bool → List R → ℕ
line_count whose miss [] = 0
line_count whose miss (r ∷ rows) = cond (is_said (whose r) miss) 1 0 + line_count whose miss rows

most_bytes : {R : Type 0} → (R → List ℕ) → (R → Number) → (R → List ℕ) → List R → ℕ
most_bytes before number behind [] = 0
most_bytes before number behind (r ∷ rows) = length (before r) + most_digits (number r) + length (behind r) + most_bytes before number behind rows

-- the lines of rows
rows_small : {R : Type 0} (whose : R → Whose) (tag : R → ℕ) (before : R → List ℕ) (number : R → Number) (behind : R → List ℕ) (k x : ℕ) (rows : List R) → k < request_end
    → IsSmall (flat_map (λ (r : R). row_lines k x (whose r) (tag r) (before r) (number r) (behind r)) rows) (line_count whose (is_miss x) rows) (most_bytes before number behind rows)
unfolding payload_bytes line_count most_bytes
rows_small whose tag before number behind k x [] few = record { few = omega arith; short = omega arith }
rows_small whose tag before number behind k x (r ∷ rows) few =
    IsSmall-both _ _ _ _ _ _ (row_small (whose r) (tag r) (before r) (number r) (behind r) k x (is_said (whose r) (is_miss x)) refl few) (rows_small whose tag before number behind k x rows few)

-- the table's rows
few_said : (miss : Bool) → line_count (λ row. row.0) miss ROWS ≤ 25
unfolding line_count
few_said true = omega arith
few_said false = omega arith

-- all lines of a request
request_small : (k x : ℕ) → k < request_end → IsSmall (request_lines k x) 25 500
unfolding most_bytes
request_small k x few =
    let all = rows_small (λ row. row.0) (λ row. row.1) (λ row. row.2.now) (λ row. row.3) (λ row. row.4.now) k x ROWS few in
    let bytes : most_bytes (λ row. row.2.now) (λ row. row.3) (λ row. row.4.now) ROWS ≡ 420 = refl in
    record { few = omega (arith, all.few, few_said (is_miss x)); short = omega (arith, all.short, bytes) }

-- the lines of so many requests
made_small : (count seed : ℕ) → count ≤ 100000 → IsSmall (made_lines count seed) (25 * count) (500 * count)
unfolding payload_bytes
made_small zero seed most = record { few = omega arith; short = omega arith }
made_small (suc k) seed most =
    let before = made_small k seed (omega (arith, most)) in
    let once = request_small k (draw_of seed k) (omega (arith, most)) in
    let both = IsSmall-both _ _ _ _ _ _ before once in
    rw (made_more k seed) (record { few = omega (arith, both.few); short = omega (arith, both.short) })

-- what traffic is that is made
pub record IsMade (count seed reclen seg : ℕ) (units : Log) (cuts : ℕ) : Type 0 where
  pub units_are : units ≡ made_units count seed reclen seg
  pub cuts_are : cuts ≡ made_cuts count seed reclen seg
  pub few_records : record_count units ≤ 25 * count
  pub few_words : word_count units ≤ 256 * count
  pub few_cuts : cuts ≤ record_count units

-- these units and cuts are what traffic is that is made
pub made_is : (count seed reclen seg : ℕ) (units : Log) (cuts : ℕ) → count ≤ 100000 → units ≡ made_units count seed reclen seg → cuts ≡ made_cuts count seed reclen seg → IsMade count seed reclen seg units cuts
made_is count seed reclen seg units cuts most units_are cuts_are =
    let ls = made_lines count seed in
    let units_of : units ≡ closed (gathered_lines reclen seg ls) = units_are ∙ sym (gathered_units reclen seg ls) in
    let cuts_of : cuts ≡ (gathered_lines reclen seg ls).cuts = cuts_are ∙ sym (gathered_cuts reclen seg ls) in
    let adds = Adds-lines ls (nothing reclen seg) in
    let small = made_small count seed most in
    record {
      units_are = units_are;
      cuts_are = cuts_are;
      few_records = omega (arith, ap record_count units_of, adds.records, small.few);
      few_words = omega (arith, ap word_count units_of, adds.words, small.few, small.short);
      few_cuts = omega (arith, ap record_count units_of, cuts_of, adds.cuts);
    }

-- all lines were made
pub IsMade-from : (count seed reclen seg k x : ℕ) (g : Gathered) (units : Log) (cuts : ℕ) → count ≤ 100000 → k ≡ count → IsPartlyMade seed reclen seg k x g → units ≡ (ended g).units → cuts ≡ g.cuts → IsMade count seed reclen seg units cuts
IsMade-from count seed reclen seg k x g units cuts most all made units_is cuts_is =
    let ls = made_lines count seed in
    let state : g ≡ gathered_lines reclen seg ls = made.state ∙ ap (λ n. gathered_lines reclen seg (made_lines n seed)) all in
    made_is count seed reclen seg units cuts most (units_is ∙ ap closed state ∙ gathered_units reclen seg ls) (cuts_is ∙ ap (λ (g : Gathered). g.cuts) state ∙ gathered_cuts reclen seg ls)
