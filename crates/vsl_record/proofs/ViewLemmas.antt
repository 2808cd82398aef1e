-- What the words of a unit and of a record tell a view.
use Rattle.std.proofs.Common.{◌≡◌, ℕ, zero, suc, ◌+◌, ◌*◌, ◌/◌, ◌%◌, ◌<◌, ◌≤◌, List, [], ◌∷◌, ◌++◌, length, take, drop, get_or, Some, Result, Ok, Err, refl, sym, ap, subst, ◌∙◌, arith}
use Rattle.std.specs.Prelude.{slice_get}
use Rattle.std.specs.List.{flat_map, AllByRecursion}
use Rattle.std.proofs.Math.Seq.{drop-nil}
use Rattle.std.proofs.lemmas.List.{append-nil, length-append, length-drop}
use Rattle.vsl_record.specs.declared.mark.Mark.{Mark}
use Rattle.vsl_record.specs.declared.record_type.Record.{Record}
use Rattle.vsl_record.specs.declared.fault.WordFault.{WordFault}
use Rattle.vsl_record.specs.Unit.{LogUnit, IsRecordOf}
use Rattle.vsl_record.specs.Views.{Spells, StartsWith}
use Rattle.vsl_words.specs.declared.version.Version.TheVariants.{Two}
use Rattle.vsl_words.specs.Versions.{id_in}
use Rattle.vsl_words.proofs.IdLemmas.{id_again}
use Rattle.vsl_record.specs.Words.{id_of, packed, record_words, record_words_of, words_in, payload_words}
use Rattle.vsl_record.specs.inside.UnitReading.{mark_of}
use Rattle.vsl_record.proofs.Steps.{IsBytes, below_drop}
use Rattle.vsl_record.proofs.WordLemmas.{length-words_in, words_in-drop}
use Rattle.vsl_record.proofs.MarkLemmas.{id_tells}
use Rattle.vsl_record.proofs.RecordLemmas.{record_again}
use Rattle.vsl_record.proofs.RecordsLemmas.{first_id, two_words}
use Rattle.vsl_record.proofs.PayloadLemmas.{held, length-packed, held_in}

-- ---- a unit

-- the words of a unit behind its header are its records'
pub spelled_body : (words : List ℕ) (u : LogUnit) → Spells words u → drop 1 words ≡ flat_map (record_words u.vxid) u.records
spelled_body words u s = ap (drop 1) s.spelled

-- the first record's id stands behind its first word
pub spelled_id : (words body : List ℕ) (u : LogUnit) → Spells words u → body ≡ drop 1 words → (id_in Two (drop 1 body) ≡ id_of Two u.vxid u.mark) × (3 ≤ length body)
spelled_id words body u s is =
    let records : List ℕ = flat_map (record_words_of Two u.vxid) u.records in
    let all : body ≡ records ++ [] = is ∙ spelled_body words u s ∙ sym (append-nil records) in
    (ap (λ (ws : List ℕ). id_in Two (drop 1 ws)) all ∙ first_id Two u.vxid u.mark u.records [] s.unit.some s.unit.records, omega (arith, two_words Two u.vxid u.records s.unit.some, ap length (is ∙ spelled_body words u s)))

pub spelled_parts : (words : List ℕ) (u : LogUnit) (id : ℕ) → Spells words u → id ≡ id_of Two u.vxid u.mark → (id % 4611686018427387904 ≡ u.vxid) × (mark_of Two id ≡ u.mark)
spelled_parts words u id s is =
    let tells = id_tells Two u.vxid u.mark s.unit.vxid in
    rw is (tells.low, tells.mark)

ok_same : (x y : LogUnit × ℕ) → Path (Result (LogUnit × ℕ) WordFault) (Ok x) (Ok y) → x ≡ y
ok_same x y e = cc

-- what reading a unit that stands there answers
pub same_unit : (x : LogUnit × ℕ) (u : LogUnit) (m : ℕ) → Path (Result (LogUnit × ℕ) WordFault) (Ok x) (Ok (u, m)) → x.0 ≡ u
same_unit x u m e = ap (λ (y : LogUnit × ℕ). y.0) (ok_same x (u, m) e)

pub no_fault : (x : LogUnit × ℕ) (fault : WordFault) → Path (Result (LogUnit × ℕ) WordFault) (Ok x) (Err fault) → ⊥
no_fault x fault e = absurd cc

-- ---- a record

-- what a record's words tell of the bytes that they are of
pub record Lends (bytes : List ℕ) (rec : Record) (rest : List ℕ) : Type 0 where
  pub size : get_or (words_in bytes) 0 0 % 16777216 ≡ length rec.payload
  pub long : 12 + 4 * payload_words (length rec.payload) ≤ length bytes
  pub payload : take (length rec.payload) (take (4 * payload_words (length rec.payload)) (drop 8 (drop 4 bytes))) ≡ rec.payload
  pub behind : words_in (drop (4 * payload_words (length rec.payload)) (drop 8 (drop 4 bytes))) ≡ rest

pub lends : (bytes : List ℕ) (rec : Record) (rest : List ℕ) → IsBytes bytes → StartsWith (words_in bytes) rec rest → Lends bytes rec rest
lends bytes rec rest all s =
    let n : ℕ = length rec.payload in
    let words : List ℕ = words_in bytes in
    let inner : List ℕ = drop 8 (drop 4 bytes) in
    let again = record_again Two s.vxid rec.mark 0 rec rest s.in_range s.is_record in
    let short : n ≤ 4000 = s.is_record.payload.short in
    let size : get_or words 0 0 % 16777216 ≡ n = rw s.parts (omega (arith, short)) in
    let count : length words ≡ 3 + payload_words n + length rest = rw s.parts (omega (arith, length-append (packed rec.payload) rest, length-packed rec.payload)) in
    let long : 12 + 4 * payload_words n ≤ length bytes = omega (arith, count, length-words_in bytes) in
    let inner_long : 4 * payload_words n ≤ length inner = omega (arith, long, length-drop 8 (drop 4 bytes), length-drop 4 bytes) in
    let inner_words : words_in inner ≡ drop 2 (drop 1 words) = words_in-drop 2 (drop 4 bytes) ∙ ap (drop 2) (words_in-drop 1 bytes) in
    let taken : take (get_or words 0 0 % 16777216) (held (get_or words 0 0 % 16777216) (drop 2 (drop 1 words))) ≡ rec.payload = rw s.parts (ap (λ (r : Record). r.payload) again.here) in
    let after : drop (payload_words (get_or words 0 0 % 16777216)) (drop 2 (drop 1 words)) ≡ rest = rw s.parts again.after in
    record {
      size = size;
      long = long;
      payload = ap (take n) (sym (held_in n inner inner_long (below_drop 256 8 (drop 4 bytes) (below_drop 256 4 bytes all))) ∙ ap (held n) inner_words) ∙ rw size at taken;
      behind = words_in-drop (payload_words n) inner ∙ ap (drop (payload_words n)) inner_words ∙ rw size at after;
    }

-- ---- records, one by one

-- the words of records begin with the first record's
pub starts_records : (vxid : ℕ) (m : Mark) (i : ℕ) (rec : Record) (records : List Record) → vxid < 4611686018427387904 → AllByRecursion (IsRecordOf m) records → slice_get records i ≡ Some rec
    → StartsWith (flat_map (record_words vxid) (drop i records)) rec (flat_map (record_words vxid) (drop (suc i) records))
starts_records vxid m i rec [] small all e = absurd cc
starts_records vxid m zero rec (r ∷ records) small all e =
    let same : r ≡ rec = cc in
    let kept : IsRecordOf rec.mark rec = subst (λ (k : Record). IsRecordOf k.mark k) same (record { tag = all.0.tag; has_mark = refl; payload = all.0.payload }) in
    record { vxid = vxid; in_range = small; is_record = kept; parts = ap (λ (k : Record). record_words vxid k ++ flat_map (record_words vxid) records) same }
starts_records vxid m (suc i) rec (r ∷ records) small all e = starts_records vxid m i rec records small all.1 e

-- so do those that are left of a unit's
pub starts_left : (words rest : List ℕ) (u : LogUnit) (i : ℕ) (rec : Record) → Spells words u → rest ≡ flat_map (record_words u.vxid) (drop i u.records) → slice_get u.records i ≡ Some rec
    → StartsWith rest rec (flat_map (record_words u.vxid) (drop (i + 1) u.records))
starts_left words rest u i rec s is e =
    let next : suc i ≡ i + 1 = omega arith in
    rw is (rw next at (starts_records u.vxid u.mark i rec u.records s.unit.vxid s.unit.records e))

-- where no words are left, all records were seen
pub all_seen : (vxid : ℕ) (records : List Record) (i : ℕ) → i ≤ length records → flat_map (record_words vxid) (drop i records) ≡ [] → i ≡ length records
all_seen vxid [] i few e = omega (arith, few)
all_seen vxid (r ∷ records) zero few e = absurd cc
all_seen vxid (r ∷ records) (suc i) few e = ap suc (all_seen vxid records i (omega (arith, few)) e)

-- and while some are left, a record is
pub some_left : (vxid : ℕ) (records : List Record) (i : ℕ) → i ≤ length records → 0 < length (flat_map (record_words vxid) (drop i records)) → i < length records
some_left vxid [] i few some = absurd (omega (arith, rw drop-nil at some))
some_left vxid (r ∷ records) zero few some = omega arith
some_left vxid (r ∷ records) (suc i) few some = omega (arith, some_left vxid records i (omega (arith, few)) some)

-- each record has a word
pub records_few : (vxid : ℕ) (records : List Record) → length records ≤ length (flat_map (record_words vxid) records)
records_few vxid [] = omega arith
records_few vxid (r ∷ records) = omega (arith, records_few vxid records, length-append (packed r.payload) (flat_map (record_words vxid) records))

-- there is a record at each place
pub one_there : (i : ℕ) (records : List Record) → i < length records → (rec : Record) × (slice_get records i ≡ Some rec)
one_there i [] inside = absurd (omega (arith, inside))
one_there zero (r ∷ records) inside = (r, refl)
one_there (suc i) (r ∷ records) inside = one_there i records (omega (arith, inside))

-- fewer than four bytes have no word
pub no_words : (bytes : List ℕ) → length bytes < 4 → words_in bytes ≡ []
no_words (a ∷ b ∷ c ∷ d ∷ bytes) few = absurd (omega (arith, few))
no_words short few = refl

-- the tag and the mark of the record that begins words
pub starts_tag : (words rest : List ℕ) (rec : Record) → StartsWith words rec rest → get_or words 0 0 / 16777216 ≡ rec.tag
starts_tag words rest rec s =
    let short : length rec.payload ≤ 4000 = s.is_record.payload.short in
    rw s.parts (omega (arith, short))

pub starts_mark : (words rest : List ℕ) (rec : Record) → StartsWith words rec rest → mark_of Two (id_in Two (drop 1 words)) ≡ rec.mark
starts_mark words rest rec s =
    let id : ℕ = id_of Two s.vxid rec.mark in
    let is : id_in Two (drop 1 words) ≡ id = ap (λ (ws : List ℕ). id_in Two (drop 1 ws)) s.parts ∙ id_again Two id [] in
    ap (mark_of Two) is ∙ (id_tells Two s.vxid rec.mark s.in_range).mark

-- words that begin with a record's have its first word and its id
pub starts_long : (words rest : List ℕ) (rec : Record) → StartsWith words rec rest → 3 ≤ length words
starts_long words rest rec s = rw s.parts (omega arith)

pub made_of : (tag tag' : ℕ) (mark mark' : Mark) (payload payload' : List ℕ) → tag ≡ tag' → mark ≡ mark' → payload ≡ payload'
    → Path Record (record { tag = tag; mark = mark; payload = payload }) (record { tag = tag'; mark = mark'; payload = payload' })
made_of tag tag' mark mark' payload payload' t m p = rw (t, m, p) refl
