-- Records, one after the other, in either version.
use Rattle.std.proofs.Common.{◌≡◌, ℕ, zero, suc, ◌+◌, ◌-◌, ◌*◌, ◌/◌, ◌%◌, ◌^◌, ◌<◌, ◌≤◌, ◌⊎◌, inl, inr, List, [], ◌∷◌, ◌++◌, length, drop, Option, Some, None, Result, Ok, Err, refl, ap, subst, ◌∙◌, append_assoc, arith}
use Rattle.std.specs.List.{flat_map, AllByRecursion}
use Rattle.std.proofs.lemmas.List.{length-append}
use Rattle.std.proofs.lemmas.List.Concat.{flat_map-append}
use Rattle.vsl_tags.specs.Tags.{last_tag}
use Rattle.vsl_record.specs.declared.mark.Mark.{Mark}
use Rattle.vsl_record.specs.declared.record_type.Record.{Record}
use Rattle.vsl_record.specs.declared.fault.WordFault.{WordFault}
use Rattle.vsl_record.specs.Unit.{IsRecordOf}
use Rattle.vsl_record.specs.Words.{packed}
use Rattle.vsl_words.specs.Words.{payload_words}
use Rattle.vsl_record.proofs.Steps.{IsWords, below_cons, below_append, below_drop, all_append}
use Rattle.vsl_record.proofs.PayloadLemmas.{length-packed, packed_small}
use Rattle.vsl_words.specs.declared.version.Version.{Version}
use Rattle.vsl_words.specs.declared.version.Version.TheVariants.{One, Two}
use Rattle.vsl_words.specs.Versions.{id_size, vxid_end_of, id_words, id_in}
use Rattle.vsl_record.specs.Words.{id_of, record_words_of}
use Rattle.vsl_record.specs.WordFaults.{record_fault}
use Rattle.vsl_record.specs.inside.UnitReading.{IsRecordRead, AreRecordsRead}
use Rattle.vsl_words.proofs.IdLemmas.{length-id_words}
use Rattle.vsl_record.proofs.MarkLemmas.{id_tells}
use Rattle.vsl_record.proofs.RecordLemmas.{record_here, after_record, record_taken, record_again}

pub length-record_words : (v : Version) (vxid : ℕ) (rec : Record) → length (record_words_of v vxid rec) ≡ 1 + id_size v + payload_words (length rec.payload)
length-record_words v vxid rec = omega (arith, length-append (id_words v (id_of v vxid rec.mark)) (packed rec.payload), length-id_words v (id_of v vxid rec.mark), length-packed rec.payload)

-- ---- records

-- records are those that were read and one more
pub one_more_record : (v : Version) (id : ℕ) (words rest after : List ℕ) (records : List Record) (rec : Record) → AreRecordsRead v id words records rest → IsRecordRead v id rest rec after → AreRecordsRead v id words (records ++ rec ∷ []) after
one_more_record v id words rest after records rec so_far read = record {
  parts = so_far.parts ∙ ap (λ (ws : List ℕ). flat_map (record_words_of v (id % vxid_end_of v)) records ++ ws) read.parts ∙ rw flat_map-append (simp append_assoc);
  are_records = all_append _ records (rec ∷ []) so_far.are_records (read.record_is, tt);
}

-- words are those of records, and then they end, or a record has a fault
pub record Split (v : Version) (id at : ℕ) (words : List ℕ) : Type 0 where
  pub before : List Record
  pub rest : List ℕ
  pub read : AreRecordsRead v id words before rest
  pub ends : (rest ≡ []) ⊎ ((0 < length rest) × (fault : WordFault) × (record_fault v id (at + length words - length rest) rest ≡ Some fault))

-- a record before others
split_after : (v : Version) (id at : ℕ) (words after : List ℕ) (rec : Record) → IsRecordRead v id words rec after → Split v id (at + length words - length after) after → Split v id at words
split_after v id at words after rec first others =
    let size : length words ≡ length (record_words_of v (id % vxid_end_of v) rec) + length after = ap length first.parts ∙ length-append (record_words_of v (id % vxid_end_of v) rec) after in
    let place : at + length words - length after + length after - length others.rest ≡ at + length words - length others.rest = omega arith in
    record {
      before = rec ∷ others.before;
      rest = others.rest;
      read = record {
        parts = first.parts ∙ ap (λ (ws : List ℕ). record_words_of v (id % vxid_end_of v) rec ++ ws) others.read.parts ∙ simp append_assoc;
        are_records = (first.record_is, others.read.are_records);
      };
      ends = subst (λ (k : ℕ). (others.rest ≡ []) ⊎ ((0 < length others.rest) × (fault : WordFault) × (record_fault v id k others.rest ≡ Some fault))) place others.ends;
    }

split_by : (v : Version) (id at : ℕ) (words : List ℕ) (o : Option WordFault) → record_fault v id at words ≡ o → IsWords words → 0 < length words → ((after : List ℕ) → length after < length words → IsWords after → Split v id (at + length words - length after) after) → Split v id at words
split_by v id at words (Some fault) e all some next =
    let place : at + length words - length words ≡ at = omega arith in
    record { before = []; rest = words; read = record { parts = refl; are_records = tt }; ends = inr (some, fault, ap (λ (k : ℕ). record_fault v id k words) place ∙ e) }
split_by v id at words None e all some next =
    let first = record_taken v id at words all e in
    let size : length words ≡ length (record_words_of v (id % vxid_end_of v) (record_here v id words)) + length (after_record v words) = ap length first.parts ∙ length-append (record_words_of v (id % vxid_end_of v) (record_here v id words)) (after_record v words) in
    split_after v id at words (after_record v words) (record_here v id words) first (next (after_record v words) (omega (arith, size)) (below_drop (2 ^ 32) _ (drop (id_size v) (drop 1 words)) (below_drop (2 ^ 32) (id_size v) (drop 1 words) (below_drop (2 ^ 32) 1 words all))))

pub records_split : (v : Version) (most id at : ℕ) (words : List ℕ) → IsWords words → length words ≤ most → Split v id at words
records_split v most id at [] all few = record { before = []; rest = []; read = record { parts = refl; are_records = tt }; ends = inl refl }
records_split v zero id at (w ∷ words) all few = absurd (omega (arith, few))
records_split v (suc most) id at (w ∷ words) all few =
    split_by v id at (w ∷ words) (record_fault v id at (w ∷ words)) refl all (omega arith) (λ after fewer fits. records_split v most id _ after fits (omega (arith, few, fewer)))

-- ---- what is read is one thing

-- goes on where there is no fault
abbrev pub after_none : {A : Type 0} → Option WordFault → Result A WordFault → Result A WordFault
after_none None next = next
after_none (Some fault) next = Err fault

-- the records that were read before, and those that are read now
abbrev pub with_records : List Record → Result (List Record) WordFault → Result (List Record) WordFault
with_records before (Ok records) = Ok (before ++ records)
with_records before (Err fault) = Err fault

with_one : (rec : Record) (records : List Record) (read : Result (List Record) WordFault) → with_records (rec ∷ []) (with_records records read) ≡ with_records (rec ∷ records) read
with_one rec records (Ok more) = refl
with_one rec records (Err fault) = refl

with_none : (read : Result (List Record) WordFault) → with_records [] read ≡ read
with_none (Ok records) = refl
with_none (Err fault) = refl

-- records until the words end, at most so many
unfoldable pub records_at : Version → ℕ → ℕ → ℕ → List ℕ → Result (List Record) WordFault
records_at v most id at [] = Ok []
records_at v zero id at (w ∷ words) = Ok []
records_at v (suc most) id at (w ∷ words) =
    after_none (record_fault v id at (w ∷ words)) (with_records (record_here v id (w ∷ words) ∷ []) (records_at v most id (at + (1 + id_size v + payload_words (w % 16777216))) (after_record v (w ∷ words))))

-- a record with a fault ends the reading
pub records_stop : (v : Version) (most id at : ℕ) (words : List ℕ) (fault : WordFault) → 0 < most → 0 < length words → record_fault v id at words ≡ Some fault → records_at v most id at words ≡ Err fault
unfolding records_at
records_stop v most id at [] fault more some faulty = absurd (omega (arith, some))
records_stop v zero id at (w ∷ words) fault more some faulty = absurd (omega (arith, more))
records_stop v (suc most) id at (w ∷ words) fault more some faulty = rw faulty refl

-- the words of records are read as those records
pub records_again : (v : Version) (most vxid at : ℕ) (m : Mark) (records : List Record) (rest : List ℕ) → vxid < vxid_end_of v → AllByRecursion (IsRecordOf m) records → length (flat_map (record_words_of v vxid) records ++ rest) ≤ most
    → records_at v most (id_of v vxid m) at (flat_map (record_words_of v vxid) records ++ rest) ≡ with_records records (records_at v (most - length records) (id_of v vxid m) (at + length (flat_map (record_words_of v vxid) records)) rest)
unfolding records_at
records_again v most vxid at m [] rest small fits enough =
    let place : at + 0 ≡ at = omega arith in
    let all : most - 0 ≡ most = omega arith in
    rw (place, all, with_none) refl
records_again v zero vxid at m (rec ∷ records) rest small fits enough = absurd (omega (arith, enough))
records_again v (suc most) vxid at m (rec ∷ records) rest small fits enough =
    let more : List ℕ = flat_map (record_words_of v vxid) records ++ rest in
    let again = record_again v vxid m at rec more small fits.0 in
    let size : (16777216 * rec.tag + length rec.payload) % 16777216 ≡ length rec.payload = omega (arith, fits.0.payload.short) in
    let step : ℕ = 1 + id_size v + payload_words (length rec.payload) in
    let place : at + step + length (flat_map (record_words_of v vxid) records) ≡ at + length (flat_map (record_words_of v vxid) (rec ∷ records)) = omega (arith, length-append (record_words_of v vxid rec) (flat_map (record_words_of v vxid) records), length-record_words v vxid rec) in
    let whole : flat_map (record_words_of v vxid) (rec ∷ records) ++ rest ≡ record_words_of v vxid rec ++ more = append_assoc (record_words_of v vxid rec) (flat_map (record_words_of v vxid) records) rest in
    let fewer : length more ≤ most = omega (arith, enough, ap length whole, length-append (record_words_of v vxid rec) more, length-record_words v vxid rec) in
    let left : suc most - length (rec ∷ records) ≡ most - length records = omega arith in
    rw (left, whole, again.good, again.here, again.after, size, records_again v most vxid (at + step) m records rest small fits.1 fewer, with_one, place) refl

-- ---- the words of records

-- the first id of records is the number and the mark
pub first_id : (v : Version) (vxid : ℕ) (m : Mark) (records : List Record) (rest : List ℕ) → 0 < length records → AllByRecursion (IsRecordOf m) records → id_in v (drop 1 (flat_map (record_words_of v vxid) records ++ rest)) ≡ id_of v vxid m
first_id v vxid m [] rest some fits = absurd (omega (arith, some))
first_id One vxid m (rec ∷ records) rest some fits = ap (λ (k : Mark). id_of One vxid k) fits.0.has_mark
first_id Two vxid m (rec ∷ records) rest some fits = let whole : id_of Two vxid rec.mark % 4294967296 + 4294967296 * (id_of Two vxid rec.mark / 4294967296) ≡ id_of Two vxid rec.mark = omega arith in whole ∙ ap (λ (k : Mark). id_of Two vxid k) fits.0.has_mark

-- a record takes two words or more
pub two_words : (v : Version) (vxid : ℕ) (records : List Record) → 0 < length records → 1 + id_size v ≤ length (flat_map (record_words_of v vxid) records)
two_words v vxid [] some = absurd (omega (arith, some))
two_words v vxid (rec ∷ records) some = omega (arith, length-append (record_words_of v vxid rec) (flat_map (record_words_of v vxid) records), length-record_words v vxid rec)

-- where there are words there is a record
pub some_record : (v : Version) (vxid : ℕ) (records : List Record) → 0 < length (flat_map (record_words_of v vxid) records) → 0 < length records
some_record v vxid [] some = absurd (omega (arith, some))
some_record v vxid (rec ∷ records) some = omega arith

-- the words of records are words
pub records_small : (v : Version) (vxid : ℕ) (m : Mark) (records : List Record) → vxid < vxid_end_of v → AllByRecursion (IsRecordOf m) records → IsWords (flat_map (record_words_of v vxid) records)
records_small v vxid m [] small fits = λ i. omega arith
records_small v vxid m (rec ∷ records) small fits =
    let short : length rec.payload ≤ 4000 = fits.0.payload.short in
    let high : rec.tag ≤ last_tag = fits.0.tag.1 in
    let own : IsWords (id_words v (id_of v vxid rec.mark) ++ packed rec.payload) = below_append (2 ^ 32) (id_words v (id_of v vxid rec.mark)) (packed rec.payload) (id_tells v vxid rec.mark small).small (packed_small rec.payload fits.0.payload.bytes) in
    below_cons (2 ^ 32) (16777216 * rec.tag + length rec.payload) ((id_words v (id_of v vxid rec.mark) ++ packed rec.payload) ++ flat_map (record_words_of v vxid) records) (omega arith)
    (below_append (2 ^ 32) (id_words v (id_of v vxid rec.mark) ++ packed rec.payload) (flat_map (record_words_of v vxid) records) own (records_small v vxid m records small fits.1))
