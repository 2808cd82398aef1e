-- The units that are gathered of lines fit in segments, and so do those of requests that are made.
use Rattle.std.proofs.Common.{◌≡◌, ℕ, zero, suc, ◌+◌, ◌%◌, ◌<◌, ◌≤◌, Bool, true, false, leb, ◌&&◌, ◌==◌, List, [], ◌∷◌, ◌++◌, length, take, Option, Some, None, inl, inr, refl, subst, arith}
use Rattle.std.specs.Prelude.{codes, decimal}
use Rattle.std.specs.List.{All, AllByRecursion, flat_map, fold, list_all}
use Rattle.std.specs.Option.{ForSome, option_to_list}
use Rattle.std.proofs.lemmas.Bool.{cases_Bool, leb-true}
use Rattle.std.proofs.lemmas.Fmt.{IsAscii-decimal}
use Rattle.std.proofs.lemmas.List.{length-take}
use Rattle.std.proofs.lemmas.List.Elements.{All-from_recursion}
use Rattle.std.proofs.lemmas.Option.{same_Some}
use Rattle.ring_layout.specs.Places.{IsSegment}
use Rattle.ring_layout.proofs.AgreedLemmas.{both_true}
use Rattle.vsl_tags.specs.Tags.{first_tag, last_tag, IsTag, end_tag}
use Rattle.vsl_record.specs.Payload.{most_payload, IsPayload}
use Rattle.vsl_record.specs.Unit.{LogUnit, Log, vxid_end}
use Rattle.vsl_record.specs.Words.{record_words, unit_words}
use Rattle.vsl_record.proofs.Steps.{IsBytes, below_cons, below_append, below_take, all_append}
use Rattle.raw_records.specs.Lines.{LoggedRecord, Line, BlankLine, CommentLine, RecordLine}
use Rattle.raw_records.specs.Gathered.{unit_of, with_record, goes_on, has_end, shortened}
use Rattle.traffic_feed.specs.Batches.{IsWithin, has_room, listing_units}
use Rattle.traffic_feed.specs.declared.requests.Number.{Number}
use Rattle.traffic_feed.specs.declared.requests.Number.TheVariants.{Nothing, VxidOf, Seconds, Item, SizesFetched, SizesSent}
use Rattle.traffic_feed.specs.declared.requests.TheConstants.{ROWS}
use Rattle.traffic_feed.specs.declared.requests.Whose.{Whose}
use Rattle.traffic_feed.specs.Made.{is_miss, is_said, mark_of, vxid_of, sizes_of, number_text, row_lines, request_lines, draw_of, made_lines, made_units}
use Rattle.traffic_feed.specs.inside.Gathering.{Gathered, IsGathering, begins, ended, taken_by, stepped, nothing, gathered_lines}
use Rattle.traffic_feed.specs.inside.Making.{request_end}
use Rattle.traffic_feed.proofs.BatchLemmas.{gathered_units}
use Rattle.traffic_feed.proofs.BegunUnitLemmas.{IsBegunUnit-one, IsBegunUnit-more, one_fits}
use Rattle.traffic_feed.proofs.BoundLemmas.{closed}
use Rattle.traffic_feed.proofs.GatheringLemmas.{marks_on}
use Rattle.traffic_feed.proofs.MadeBounds.{vxid_in_range, vxid_small}
use Rattle.traffic_feed.proofs.MakingLemmas.{made_more}
use Rattle.traffic_feed.proofs.PartlyLemmas.{seg_folded}

-- ---- steps

-- a record with a VXID in range, a tag, and a payload of bytes
record IsSound (l : LoggedRecord) : Type 0 where
  in_range : l.vxid < vxid_end
  tag : IsTag l.rec.tag
  bytes : IsBytes l.rec.payload

-- a line whose record, if it has one, is such a record
abbrev IsSoundLine : Line → Type 0
IsSoundLine BlankLine = Unit {0}
IsSoundLine CommentLine = Unit {0}
IsSoundLine (RecordLine l) = IsSound l

-- what is kept of such a record's payload is a payload
kept_payload : (g : Gathered) (l : LoggedRecord) → IsGathering g → IsSound l → IsPayload (take g.most l.rec.payload)
kept_payload g l is sound = record { bytes = below_take 256 g.most l.rec.payload (omega arith) sound.bytes; short = omega (arith, is.few, length-take g.most l.rec.payload) }

-- the unit of such a record alone fits
one_within : (g : Gathered) (l : LoggedRecord) → IsGathering g → IsSound l → IsWithin g.seg (unit_of (shortened g.most l))
one_within g l is sound =
    let m = (shortened g.most l).rec in
    let begun = IsBegunUnit-one l.vxid m (length (record_words l.vxid m)) (m.tag == end_tag) (m ∷ []) sound.in_range sound.tag (kept_payload g l is sound) refl refl refl in
    record { unit = begun.unit; fits = one_fits l.vxid m g.most g.seg is.segment is.fits (omega (arith, length-take g.most l.rec.payload)) }

-- a unit that fits, with a record of its batch for which it has room, fits
more_within : (g : Gathered) (u : LogUnit) (l : LoggedRecord) → IsGathering g → IsSound l → IsWithin g.seg u → goes_on u (shortened g.most l) ≡ true → has_room g.seg u (shortened g.most l) ≡ true → IsWithin g.seg (with_record u (shortened g.most l).rec)
more_within g u l is sound within on room =
    let m = (shortened g.most l).rec in
    let fits = leb-true (length (unit_words (with_record u m))) g.seg room in
    let segment = is.segment in
    let begun =
    IsBegunUnit-more u m (length (unit_words u)) (length (record_words u.vxid m)) (has_end u) (m.tag == end_tag) (u.records ++ m ∷ []) (record { unit = within.unit; size = refl; ended = refl }) sound.tag (kept_payload g l is sound)
    (marks_on (Some u) (shortened g.most l) on) (omega (arith, fits, segment)) refl refl refl
    in
    record { unit = begun.unit; fits = fits }

-- the units that are closed fit, and behind them the one that was begun, if one was
closed_within : (seg : ℕ) (units : Log) (o : Option LogUnit) → AllByRecursion (IsWithin seg) units → ForSome o (λ u. IsWithin seg u) → AllByRecursion (IsWithin seg) (units ++ option_to_list o)
closed_within seg units None all begun = all_append (IsWithin seg) units [] all tt
closed_within seg units (Some u) all begun = all_append (IsWithin seg) units (u ∷ []) all (begun u refl, tt)

-- all fit where the unit that was begun ends
IsGathering-ended : (g : Gathered) → IsGathering g → IsGathering (ended g)
IsGathering-ended g is = record { segment = is.segment; few = is.few; fits = is.fits; units = closed_within g.seg g.units g.begun is.units is.begun; begun = λ u none. absurd cc }

-- all fit where a record begins a unit, with a cut or without one
IsGathering-begins : (g : Gathered) (l : LoggedRecord) (cuts : ℕ) → IsGathering g → IsSound l → IsGathering (record (begins g (shortened g.most l)) { cuts = cuts })
IsGathering-begins g l cuts is sound = record {
  segment = is.segment;
  few = is.few;
  fits = is.fits;
  units = closed_within g.seg g.units g.begun is.units is.begun;
  begun = λ v same. subst (λ (v : LogUnit). IsWithin g.seg v) (same_Some _ _ same) (one_within g l is sound);
}

-- all fit with a record more
IsGathering-taken : (o : Option LogUnit) (g : Gathered) (l : LoggedRecord) → IsGathering g → IsSound l → g.begun ≡ o → IsGathering (taken_by o g (shortened g.most l))
IsGathering-taken None g l is sound was = IsGathering-begins g l g.cuts is sound
IsGathering-taken (Some u) g l is sound was =
    elim (cases_Bool (goes_on u (shortened g.most l))) [
      | inl on ↦ elim (cases_Bool (has_room g.seg u (shortened g.most l))) [
        | inl room ↦ rw (on, room) (record {
          segment = is.segment;
          few = is.few;
          fits = is.fits;
          units = is.units;
          begun = λ v same. subst (λ (v : LogUnit). IsWithin g.seg v) (same_Some _ _ same) (more_within g u l is sound (is.begun u was) on room);
        })
        | inr full ↦ rw (on, full) (IsGathering-begins g l (g.cuts + 1) is sound)
      ]
      | inr off ↦ rw off (IsGathering-begins g l g.cuts is sound)
    ]

-- all fit with lines more
IsGathering-lines : (ls : List Line) (g : Gathered) → IsGathering g → AllByRecursion IsSoundLine ls → IsGathering (fold stepped g ls)
IsGathering-lines [] g is sound = is
IsGathering-lines (BlankLine ∷ ls) g is sound = IsGathering-lines ls (ended g) (IsGathering-ended g is) sound.1
IsGathering-lines (CommentLine ∷ ls) g is sound = IsGathering-lines ls g is sound.1
IsGathering-lines (RecordLine l ∷ ls) g is sound = IsGathering-lines ls (stepped g (RecordLine l)) (IsGathering-taken g.begun g l is sound.0 refl) sound.1

-- the units of such lines fit
listing_within : (reclen seg : ℕ) (ls : List Line) → IsSegment seg → reclen ≤ most_payload → AllByRecursion IsSoundLine ls → All (IsWithin seg) (listing_units reclen seg ls)
listing_within reclen seg ls segment short sound =
    let g = gathered_lines reclen seg ls in
    let is = IsGathering-lines ls (nothing reclen seg) (record { segment = segment; few = omega (arith, short); fits = omega arith; units = tt; begun = λ u none. absurd cc }) sound in
    let same : g.seg ≡ seg = seg_folded ls (nothing reclen seg) in
    let all = subst (λ n. AllByRecursion (IsWithin n) (closed g)) same (closed_within g.seg g.units g.begun is.units is.begun) in
    subst (λ us. All (IsWithin seg) us) (gathered_units reclen seg ls) (All-from_recursion (IsWithin seg) (closed g) all)

-- ---- requests

-- whether each number is a byte
abbrev are_bytes : List ℕ → Bool
are_bytes bs = list_all (λ b. leb b 255) bs

-- numbers are bytes where the test says so
IsBytes-from : (bs : List ℕ) → are_bytes bs ≡ true → IsBytes bs
IsBytes-from [] e = λ i. omega arith
IsBytes-from (b ∷ bs) e =
    let both : (leb b 255 ≡ true) × (are_bytes bs ≡ true) = both_true e in
    below_cons 256 b bs (omega (arith, leb-true b 255 both.0)) (IsBytes-from bs both.1)

-- decimal digits are bytes
decimal_bytes : (n : ℕ) → n < 4294967296 → IsBytes (decimal n)
decimal_bytes n few i = omega (arith, IsAscii-decimal n (omega (arith, few)) i)

-- the text of the counts of bytes of an answer is bytes
sizes_bytes : (headers x : ℕ) → headers ≤ 1000 → IsBytes (sizes_of headers x)
sizes_bytes headers x few = below_append 256 _ _ (below_append 256 _ _ (decimal_bytes (x % 1000) (omega arith)) (IsBytes-from (codes " ") refl)) (decimal_bytes (x % 1000 + headers) (omega (arith, few)))

-- the text of a number is bytes
number_bytes : (number : Number) (k x : ℕ) → k < request_end → IsBytes (number_text number k x)
number_bytes Nothing k x few = IsBytes-from [] refl
number_bytes (VxidOf whose) k x few = decimal_bytes (vxid_of whose k) (vxid_small whose k few)
number_bytes Seconds k x few = decimal_bytes (1650000000 + k) (omega (arith, few))
number_bytes Item k x few = decimal_bytes (x % 100) (omega arith)
number_bytes SizesFetched k x few = sizes_bytes 180 x (omega arith)
number_bytes SizesSent k x few = sizes_bytes 200 x (omega arith)

-- whether a row has a tag, and two texts of bytes
abbrev is_sound_row : ℕ → List ℕ → List ℕ → Bool
is_sound_row tag before behind = (leb first_tag tag && leb tag last_tag) && (are_bytes before && are_bytes behind)

-- the lines of such a row have such records
row_sound : (whose : Whose) (tag : ℕ) (before : List ℕ) (number : Number) (behind : List ℕ) (k x : ℕ) (miss : Bool) → is_said whose (is_miss x) ≡ miss → k < request_end → is_sound_row tag before behind ≡ true
    → AllByRecursion IsSoundLine (row_lines k x whose tag before number behind)
row_sound whose tag before number behind k x true is few e =
    let both = both_true e in
    let tags = both_true both.0 in
    let texts = both_true both.1 in
    let sound : IsSound (record { vxid = vxid_of whose k; rec = record { tag = tag; mark = mark_of whose; payload = before ++ number_text number k x ++ behind } }) = record {
      in_range = vxid_in_range whose k few;
      tag = (leb-true _ _ tags.0, leb-true _ _ tags.1);
      bytes = below_append 256 _ _ (below_append 256 _ _ (IsBytes-from before texts.0) (number_bytes number k x few)) (IsBytes-from behind texts.1);
    } in
    rw is (sound, tt)
row_sound whose tag before number behind k x false is few e = rw is tt

-- so have the lines of such rows
rows_sound : {R : Type 0} (whose : R → Whose) (tag : R → ℕ) (before : R → List ℕ) (number : R → Number) (behind : R → List ℕ) (k x : ℕ) (rows : List R) → k < request_end → list_all (λ (r : R). is_sound_row (tag r) (before r) (behind r)) rows ≡ true
    → AllByRecursion IsSoundLine (flat_map (λ (r : R). row_lines k x (whose r) (tag r) (before r) (number r) (behind r)) rows)
rows_sound whose tag before number behind k x [] few e = tt
rows_sound whose tag before number behind k x (r ∷ rows) few e =
    let both = both_true e in
    all_append IsSoundLine _ _ (row_sound (whose r) (tag r) (before r) (number r) (behind r) k x (is_said (whose r) (is_miss x)) refl few both.0) (rows_sound whose tag before number behind k x rows few both.1)

-- those of a request
request_sound : (k x : ℕ) → k < request_end → AllByRecursion IsSoundLine (request_lines k x)
request_sound k x few = rows_sound (λ row. row.0) (λ row. row.1) (λ row. row.2.now) (λ row. row.3) (λ row. row.4.now) k x ROWS few refl

-- those of so many requests
made_sound : (count seed : ℕ) → count ≤ 100000 → AllByRecursion IsSoundLine (made_lines count seed)
made_sound zero seed most = tt
made_sound (suc k) seed most = rw (made_more k seed) (all_append IsSoundLine _ _ (made_sound k seed (omega (arith, most))) (request_sound k (draw_of seed k) (omega (arith, most))))

-- the units of so many requests fit
pub made_fits : (count seed reclen seg : ℕ) → IsSegment seg → count ≤ 100000 → reclen ≤ most_payload → All (IsWithin seg) (made_units count seed reclen seg)
made_fits count seed reclen seg segment most short = listing_within reclen seg (made_lines count seed) segment short (made_sound count seed most)
