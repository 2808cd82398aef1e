-- The raw lines of a log are read back.
use Rattle.std.proofs.Common.{◌≡◌, ◌≢◌, ℕ, zero, suc, ◌+◌, ◌-◌, ◌<◌, ◌≤◌, ◌^◌, Bool, true, false, ◌==◌, leb, List, [], ◌∷◌, ◌++◌, map, length, replicate, get_or, Some, inl, inr, refl, sym, ap, subst, ◌∙◌, arith}
use Rattle.std.specs.Prelude.{codes, decimal}
use Rattle.std.specs.List.{All, AllByRecursion, AllPass, AllZip, flat_map, list_all, list_any, onto_first}
use Rattle.std.specs.Str.Lines.{lines, lines_of_parts, strip_carriage_return}
use Rattle.std.specs.Str.Parse.{AllDigits}
use Rattle.std.proofs.Math.Bool.{or-false}
use Rattle.std.proofs.lemmas.Bool.{cases_lt, eq-eqb, false_from_ne_true, le-leb, leb-true, ne_eqb}
use Rattle.std.proofs.lemmas.Bool.Decides.{nat_tests}
use Rattle.std.proofs.lemmas.Fmt.{decimal_is_IsNumeral, length-decimal-le}
use Rattle.std.proofs.lemmas.List.{append-nil, append_assoc, length-append, nil_from_length, replicate_more, take_all}
use Rattle.std.proofs.lemmas.List.Concat.{flat_map-append}
use Rattle.std.proofs.lemmas.List.Folds.{list_all-append, list_any-append}
use Rattle.std.proofs.lemmas.List.Splits.{slice_split_at}
use Rattle.std.proofs.lemmas.List.Sums.{AllPass-from_list_all, list_all-from_AllPass}
use Rattle.std.proofs.lemmas.List.Elements.{All-weaker}
use Rattle.vsl_tags.specs.Tags.{IsTag, end_tag, tag_name}
use Rattle.vsl_record.specs.declared.mark.Mark.{Mark}
use Rattle.vsl_record.specs.declared.mark.Mark.TheVariants.{Client, Backend, Plain}
use Rattle.vsl_record.specs.declared.record_type.Record.{Record}
use Rattle.vsl_record.specs.Unit.{LogUnit, Log, IsRecordOf, vxid_end}
use Rattle.vsl_record.specs.Words.{record_words, unit_words}
use Rattle.vsl_record.proofs.Steps.{all_append}
use Rattle.vsl_select.specs.FileUnits.{is_same_mark}
use Rattle.vsl_select.specs.RawLine.{at_left, at_right, escaped, escaped_byte, mark_letter, raw_line, raw_lines}
use Rattle.raw_records.specs.Lines.{space, LoggedRecord, RecordLine, WrittenRecord, IsLine, IsWritten, HasLines, print_record}
use Rattle.raw_records.specs.Gathered.{unit_of, with_record, gathered_from, gathered, goes_on, logged, shortened}
use Rattle.traffic_feed.specs.Batches.{most_kept, sections, batches, has_room, units_of_batch, listing_units}
use Rattle.traffic_feed.specs.Listing.{IsListing}
use Rattle.traffic_feed.specs.RawLog.{AreBatches, ArePartedBy, IsPlainPayload, IsReadBack, OnlyLastEnds}
use Rattle.traffic_feed.proofs.BatchLemmas.{GoesOn-from, is_end}
use Rattle.raw_records.proofs.LineLemmas.{is_feed, parts_lines}
use Rattle.vsl_tags.proofs.CalledLemmas.{IsPlain-from}

-- ---- a line

-- a byte that ends no line
abbrev is_printed : ℕ → Bool
is_printed b = leb 32 b

-- a line of bytes that end none
printed_line : (text rest : List ℕ) → list_all is_printed text ≡ true → lines (text ++ 10 ∷ rest) ≡ text ∷ lines rest
printed_line text rest printed =
    let all = AllPass-from_list_all is_printed text printed in
    let none : All (λ b. is_feed b ≡ false) text = λ k d within. let high = leb-true 32 _ (all k d within) in ne_eqb _ _ (λ e. omega arith) in
    let no_return : (get_or text (length text - 1) 0 == 13) ≡ false = elim (cases_lt 0 (length text)) [
      | inl some ↦ let high = leb-true 32 _ (all (length text - 1) 0 (omega arith)) in ne_eqb _ _ (λ e. omega arith)
      | inr empty ↦ let nothing : text ≡ [] = nil_from_length text (omega arith) in rw nothing refl
    ] in
    let same : strip_carriage_return text ≡ text = rw no_return refl in
    ap lines_of_parts (slice_split_at is_feed text 10 rest none refl) ∙ parts_lines text rest ∙ ap (λ (line : List ℕ). line ∷ lines rest) same

-- a record whose raw line tells all of it
record IsTold (most : ℕ) (l : LoggedRecord) : Type 0 where
  vxid : l.vxid < vxid_end
  tag : IsTag l.rec.tag
  payload : IsPlainPayload most l.rec.payload

-- its raw line as it is written
abbrev written : LoggedRecord → WrittenRecord
written l = record {
  before_vxid = 10 - length (decimal l.vxid);
  vxid = decimal l.vxid;
  before_name = 1;
  name = tag_name l.rec.tag;
  before_mark = 14 - length (tag_name l.rec.tag) + 1;
  mark = l.rec.mark;
  payload = Some l.rec.payload;
}

plain_escaped : (payload : List ℕ) → AllByRecursion (λ b. (32 ≤ b) × (b ≢ 127)) payload → (escaped payload ≡ payload) × (list_all is_printed payload ≡ true)
plain_escaped [] plain = (refl, refl)
plain_escaped (b ∷ payload) plain =
    let more = plain_escaped payload plain.1 in
    let one : escaped_byte b ≡ b ∷ [] = grind (arith, nat_tests, plain.0.0, plain.0.1) in
    let high : is_printed b ≡ true = le-leb 32 b plain.0.0 in
    (rw (one, more.0) refl, rw (high, more.1) refl)

-- the parts of a raw line are those of a line that is written
shape : (before_vxid after_name mark : ℕ) (vxid name payload : List ℕ)
    → replicate before_vxid 32 ++ vxid ++ 32 ∷ [] ++ (name ++ replicate after_name 32) ++ 32 ∷ [] ++ mark ∷ 32 ∷ [] ++ payload ++ 10 ∷ []
    ≡ (replicate before_vxid 32 ++ vxid ++ 32 ∷ [] ++ name ++ replicate (after_name + 1) 32 ++ mark ∷ 32 ∷ payload) ++ 10 ∷ []
shape before_vxid after_name mark vxid name payload = rw (← replicate_more {X = ℕ} after_name 32) (simp append_assoc)

is_raw_line : (most : ℕ) (l : LoggedRecord) → IsTold most l → raw_line l.vxid l.rec ≡ print_record (written l) ++ 10 ∷ []
is_raw_line most l told =
    let same : escaped l.rec.payload ≡ l.rec.payload = (plain_escaped l.rec.payload told.payload.plain).0 in
    let name = tag_name l.rec.tag in
    let prefix = at_right 10 (decimal l.vxid) ++ codes " " ++ at_left 14 name ++ codes " " ++ mark_letter l.rec.mark ∷ codes " " in
    ap (λ payload. prefix ++ payload ++ 10 ∷ []) same ∙ shape (10 - length (decimal l.vxid)) (14 - length name) (mark_letter l.rec.mark) (decimal l.vxid) name l.rec.payload

written_is : (most : ℕ) (l : LoggedRecord) → IsTold most l → IsWritten (written l) l
written_is most l told =
    let small : l.vxid < 2 ^ 64 = omega (arith, told.vxid) in
    let numeral = decimal_is_IsNumeral l.vxid small in
    record {
      vxid = (numeral.0.1, numeral.0.0, length-decimal-le 19 l.vxid (omega arith) (omega (arith, told.vxid)) small, numeral.1, told.vxid);
      before_name = omega arith;
      name = (told.tag, refl);
      before_mark = omega arith;
      mark = refl;
      payload = refl;
    }

-- bytes that end no line
record ArePrinted (bytes : List ℕ) : Type 0 where
  all : list_all is_printed bytes ≡ true

both_printed : {xs ys : List ℕ} → ArePrinted xs → ArePrinted ys → ArePrinted (xs ++ ys)
both_printed {xs} {ys} x y = record { all = list_all-append is_printed xs ys ∙ rw x.all y.all }

spaces_printed : (n : ℕ) → ArePrinted (replicate n space)
spaces_printed zero = record { all = refl }
spaces_printed (suc n) = record { all = (spaces_printed n).all }

digits_printed : (digits : List ℕ) → AllDigits 10 digits → ArePrinted digits
digits_printed [] all = record { all = refl }
digits_printed (c ∷ digits) all = let high : is_printed c ≡ true = grind (arith, nat_tests, all.0) in record { all = rw (high, (digits_printed digits all.1).all) refl }

name_printed : (name : List ℕ) → AllPass (λ b. leb 33 b) name → ArePrinted name
name_printed name all = record { all = list_all-from_AllPass is_printed name (All-weaker (λ b. leb 33 b ≡ true) (λ b. is_printed b ≡ true) (λ b high. le-leb 32 b (omega (arith, leb-true 33 b high))) name all) }

mark_printed : (mark : Mark) → is_printed (mark_letter mark) ≡ true
mark_printed Client = refl
mark_printed Backend = refl
mark_printed Plain = refl

printed : (most : ℕ) (l : LoggedRecord) → IsTold most l → ArePrinted (print_record (written l))
printed most l told =
    let w = written l in
    let is = written_is most l told in
    let name = name_printed w.name (IsPlain-from l.rec.tag w.name is.name).no_space in
    let last : ArePrinted (mark_letter l.rec.mark ∷ space ∷ l.rec.payload) = record { all = rw (mark_printed l.rec.mark) (plain_escaped l.rec.payload told.payload.plain).1 } in
    both_printed (both_printed (both_printed (both_printed (both_printed (spaces_printed w.before_vxid) (digits_printed w.vxid is.vxid.0)) (spaces_printed w.before_name)) name) (spaces_printed w.before_mark)) last

-- ---- all lines

-- the raw lines of records
abbrev record_lines : List LoggedRecord → List ℕ
record_lines ls = flat_map (λ l. raw_line l.vxid l.rec) ls

-- they mean these records
lines_told : (most : ℕ) (ls : List LoggedRecord) → AllByRecursion (IsTold most) ls → AllZip IsLine (lines (record_lines ls)) (map RecordLine ls)
lines_told most [] told = tt
lines_told most (l ∷ ls) told =
    let text = print_record (written l) in
    let first : record_lines (l ∷ ls) ≡ text ++ 10 ∷ record_lines ls = ap (λ line. line ++ record_lines ls) (is_raw_line most l told.0) ∙ append_assoc text (10 ∷ []) (record_lines ls) in
    let is : lines (record_lines (l ∷ ls)) ≡ text ∷ lines (record_lines ls) = ap lines first ∙ printed_line text (record_lines ls) (printed most l told.0).all in
    subst (λ texts. AllZip IsLine texts (map RecordLine (l ∷ ls))) (sym is) ((written l, written_is most l told.0, refl), lines_told most ls told.1)

unit_lines : (vxid : ℕ) (records : List Record) → flat_map (raw_line vxid) records ≡ record_lines (map (λ rec. record { vxid = vxid; rec = rec }) records)
unit_lines vxid [] = refl
unit_lines vxid (rec ∷ records) = ap (λ more. raw_line vxid rec ++ more) (unit_lines vxid records)

log_lines : (log : Log) → flat_map raw_lines log ≡ record_lines (flat_map logged log)
log_lines [] = refl
log_lines (u ∷ log) = rw (unit_lines u.vxid u.records, log_lines log) (sym (flat_map-append (λ (l : LoggedRecord). raw_line l.vxid l.rec) (logged u) (flat_map logged log)))

-- records without blank lines are one section, and are kept whole
one_section : (most : ℕ) (ls : List LoggedRecord) → AllByRecursion (IsTold most) ls → sections most (map RecordLine ls) ≡ ls ∷ []
one_section most [] told = refl
one_section most (l ∷ ls) told =
    let whole : shortened most l ≡ l = ap (λ (payload : List ℕ). record { vxid = l.vxid; rec = record { tag = l.rec.tag; mark = l.rec.mark; payload = payload } }) (take_all most l.rec.payload told.0.payload.short) in
    ap (onto_first (shortened most l)) (one_section most ls told.1) ∙ ap (λ (m : LoggedRecord). (m ∷ ls) ∷ []) whole

-- ---- batches

-- records with a VXID
abbrev of_vxid : ℕ → List Record → List LoggedRecord
of_vxid vxid records = map (λ rec. record { vxid = vxid; rec = rec }) records

-- a batch of records is open for more: where there are more, it has no End, and none of them but the last is one
abbrev IsOpenFor : List Record → List Record → Type 0
IsOpenFor records [] = Unit {0}
IsOpenFor records (rec ∷ more) = (list_any is_end records ≡ false) × OnlyLastEnds (rec ∷ more)

open_more : (records : List Record) (rec : Record) (more : List Record) → IsOpenFor records (rec ∷ more) → IsOpenFor (records ++ rec ∷ []) more
open_more records rec [] is = tt
open_more records rec (next ∷ more) is = (list_any-append is_end records (rec ∷ []) ∙ rw (is.0, or-false, ne_eqb rec.tag end_tag is.1.0) refl, is.1.1)

same_mark : (a b : Mark) → a ≡ b → is_same_mark a b ≡ true
same_mark Client b same = rw (← same) refl
same_mark Backend b same = rw (← same) refl
same_mark Plain b same = rw (← same) refl

-- a batch goes on with all of its records
goes_through : (more : List Record) (begun : LogUnit) (rest : List LoggedRecord) → (begun.vxid ≡ 0 → more ≡ []) → AllByRecursion (IsRecordOf begun.mark) more → IsOpenFor begun.records more
    → gathered_from goes_on begun (of_vxid begun.vxid more ++ rest) ≡ gathered_from goes_on (record begun { records = begun.records ++ more }) rest
goes_through [] begun rest some marks is_open = rw (append-nil begun.records) refl
goes_through (rec ∷ more) begun rest some marks is_open =
    let nonzero : (begun.vxid == 0) ≡ false = ne_eqb _ _ (λ e. let none = some e in cc) in
    let on : goes_on begun (record { vxid = begun.vxid; rec = rec }) ≡ true = rw (eq-eqb begun.vxid begun.vxid refl, nonzero, same_mark begun.mark rec.mark (sym marks.0.has_mark), is_open.0) refl in
    rw on (goes_through more (with_record begun rec) rest (λ e. let none = some e in absurd cc) marks.1 (open_more begun.records rec more is_open) ∙ rw (append_assoc begun.records (rec ∷ []) more) refl)

-- a batch that doesn't go on with the first of more records, if there are any
abbrev StopsBefore : LogUnit → List LoggedRecord → Type 0
StopsBefore u [] = Unit {0}
StopsBefore u (l ∷ ls) = goes_on u l ≡ false

stopped : (u : LogUnit) (ls : List LoggedRecord) → StopsBefore u ls → gathered_from goes_on u ls ≡ u ∷ gathered goes_on ls
stopped u [] stops = refl
stopped u (l ∷ ls) stops = rw stops refl

open_first : (rec : Record) (more : List Record) → OnlyLastEnds (rec ∷ more) → IsOpenFor (rec ∷ []) more
open_first rec [] ends = tt
open_first rec (next ∷ more) ends = (rw (ne_eqb rec.tag end_tag ends.0) refl, ends.1)

-- the first batch is the first unit
first_batch : (u : LogUnit) (records : List Record) (rest : List LoggedRecord) → u.records ≡ records → 0 < length records → AllByRecursion (IsRecordOf u.mark) records → (u.vxid ≡ 0 → length records ≡ 1) → OnlyLastEnds records → StopsBefore u rest
    → gathered goes_on (of_vxid u.vxid records ++ rest) ≡ u ∷ gathered goes_on rest
first_batch u [] rest is some marks alone ends stops = absurd (omega arith)
first_batch u (rec ∷ more) rest is some marks alone ends stops =
    let begun : LogUnit = record u { records = rec ∷ [] } in
    let same : unit_of (record { vxid = u.vxid; rec = rec }) ≡ begun = ap (λ (mark : Mark). record { vxid = u.vxid; mark = mark; records = rec ∷ [] }) marks.0.has_mark in
    let whole : record u { records = rec ∷ more } ≡ u = ap (λ (records : List Record). record u { records = records }) (sym is) in
    ap (λ (b : LogUnit). gathered_from goes_on b (of_vxid u.vxid more ++ rest)) same
    ∙ goes_through more begun rest (λ zero. nil_from_length more (omega (arith, alone zero))) marks.1 (open_first rec more ends)
    ∙ ap (λ (b : LogUnit). gathered_from goes_on b rest) whole ∙ stopped u rest stops

stops_at : (u v : LogUnit) (records : List Record) (rest : List LoggedRecord) → 0 < length records → AllByRecursion (IsRecordOf v.mark) records → ArePartedBy u v → StopsBefore u (of_vxid v.vxid records ++ rest)
stops_at u v [] rest some marks parted = absurd (omega arith)
stops_at u v (rec ∷ records) rest some marks parted = false_from_ne_true _ (λ on.
    let goes = GoesOn-from u (record { vxid = v.vxid; rec = rec }) on in
    elim (parted goes.vxid (sym (sym marks.0.has_mark ∙ goes.mark))) [
      | inl none ↦ let e : (v.vxid == 0) ≡ true = eq-eqb v.vxid 0 (sym goes.vxid ∙ none) in let other : (v.vxid == 0) ≡ false = goes.some in absurd cc
      | inr ended ↦ let open_yet : list_any is_end u.records ≡ false = goes.no_end in absurd cc
    ])

module _ (reclen seg : ℕ) where
  stops_before : (u : LogUnit) (log : Log) → AreBatches (u ∷ log) → AllByRecursion (IsReadBack reclen seg) log → StopsBefore u (flat_map logged log)
  stops_before u [] batches all = tt
  stops_before u (v ∷ log) batches all = stops_at u v v.records (flat_map logged log) all.0.within.unit.some all.0.within.unit.records batches.0

  later_batches : (u : LogUnit) (log : Log) → AreBatches (u ∷ log) → AreBatches log
  later_batches u [] batches = tt
  later_batches u (v ∷ log) batches = batches.1

  -- the batches are the units
  log_batches : (log : Log) → AreBatches log → AllByRecursion (IsReadBack reclen seg) log → gathered goes_on (flat_map logged log) ≡ log
  log_batches [] batches all = refl
  log_batches (u ∷ log) batches all =
      first_batch u u.records (flat_map logged log) refl all.0.within.unit.some all.0.within.unit.records all.0.alone all.0.ends (stops_before u log batches all.1) ∙ ap (λ us. u ∷ us) (log_batches log (later_batches u log batches) all.1)

  -- and none is cut
  fits_through : (more : List Record) (begun : LogUnit) → length (unit_words (record begun { records = begun.records ++ more })) ≤ seg → gathered_from (has_room seg) begun (of_vxid begun.vxid more) ≡ record begun { records = begun.records ++ more } ∷ []
  fits_through [] begun fits = rw (append-nil begun.records) refl
  fits_through (rec ∷ more) begun fits =
      let regrouped : begun.records ++ rec ∷ [] ++ more ≡ begun.records ++ rec ∷ more = append_assoc begun.records (rec ∷ []) more in
      let size = flat_map-append (record_words begun.vxid) (begun.records ++ rec ∷ []) more in
      let all = subst (λ (records : List Record). length (unit_words (record begun { records = records })) ≤ seg) (sym regrouped) fits in
      let room : has_room seg begun (record { vxid = begun.vxid; rec = rec }) ≡ true =
      le-leb _ _ (omega (arith, ap length size, all, length-append (flat_map (record_words begun.vxid) (begun.records ++ rec ∷ [])) (flat_map (record_words begun.vxid) more))) in
      rw room (fits_through more (with_record begun rec) all ∙ rw regrouped refl)

  whole_batch : (u : LogUnit) (records : List Record) → u.records ≡ records → 0 < length records → AllByRecursion (IsRecordOf u.mark) records → length (unit_words u) ≤ seg → gathered (has_room seg) (of_vxid u.vxid records) ≡ u ∷ []
  whole_batch u [] is some marks fits = absurd (omega arith)
  whole_batch u (rec ∷ more) is some marks fits =
      let begun : LogUnit = record u { records = rec ∷ [] } in
      let same : unit_of (record { vxid = u.vxid; rec = rec }) ≡ begun = ap (λ (mark : Mark). record { vxid = u.vxid; mark = mark; records = rec ∷ [] }) marks.0.has_mark in
      let whole : u ≡ record u { records = rec ∷ more } = ap (λ (records : List Record). record u { records = records }) is in
      ap (λ (b : LogUnit). gathered_from (has_room seg) b (of_vxid u.vxid more)) same ∙ fits_through more begun (subst (λ (v : LogUnit). length (unit_words v) ≤ seg) whole fits) ∙ ap (λ (v : LogUnit). v ∷ []) (sym whole)

  log_whole : (log : Log) → AllByRecursion (IsReadBack reclen seg) log → flat_map (units_of_batch seg) log ≡ log
  log_whole [] all = refl
  log_whole (u ∷ log) all = rw (whole_batch u u.records refl all.0.within.unit.some all.0.within.unit.records all.0.within.fits, log_whole log all.1) refl

  -- ---- the whole

  unit_told : (u : LogUnit) (records : List Record) → u.vxid < vxid_end → AllByRecursion (IsRecordOf u.mark) records → AllByRecursion (λ rec. IsPlainPayload (most_kept reclen seg) rec.payload) records → AllByRecursion (IsTold (most_kept reclen seg)) (of_vxid u.vxid records)
  unit_told u [] vxid marks payloads = tt
  unit_told u (rec ∷ records) vxid marks payloads = (record { vxid = vxid; tag = marks.0.tag; payload = payloads.0 }, unit_told u records vxid marks.1 payloads.1)

  log_told : (log : Log) → AllByRecursion (IsReadBack reclen seg) log → AllByRecursion (IsTold (most_kept reclen seg)) (flat_map logged log)
  log_told [] all = tt
  log_told (u ∷ log) all = all_append (IsTold (most_kept reclen seg)) (logged u) (flat_map logged log) (unit_told u u.records all.0.within.unit.vxid all.0.within.unit.records all.0.payloads) (log_told log all.1)

  -- raw lines are read back
  pub read_back : (log : Log) → AllByRecursion (IsReadBack reclen seg) log → AreBatches log → IsListing (flat_map raw_lines log) reclen seg log 0
  read_back log all are =
      let ls = flat_map logged log in
      let most = most_kept reclen seg in
      let told = log_told log all in
      let batches_are : batches most (map RecordLine ls) ≡ log = ap (flat_map (gathered goes_on)) (one_section most ls told) ∙ append-nil (gathered goes_on ls) ∙ log_batches log are all in
      let units_are : listing_units reclen seg (map RecordLine ls) ≡ log = ap (flat_map (units_of_batch seg)) batches_are ∙ log_whole log all in
      record {
        meant = map RecordLine ls;
        has_lines = subst (λ bytes. HasLines bytes (map RecordLine ls)) (sym (log_lines log)) (lines_told most ls told);
        units_are = sym units_are;
        cuts_are = omega (arith, ap length units_are, ap length batches_are);
      }
