-- Writing a unit: the bytes of a record and of its words.
use Rattle.std.proofs.Common.{◌≡◌, ℕ, suc, ◌+◌, ◌-◌, ◌*◌, ◌/◌, ◌%◌, ◌^◌, ◌<◌, List, [], ◌∷◌, ◌++◌, length, length-append, take, drop, get_or, refl, sym, ap, ◌∙◌, append_assoc, arith}
use Rattle.std.specs.Prelude.{Result, Ok, Err, OnOk}
use Rattle.std.specs.Int.{w32, w64, to_le_bytes}
use Rattle.std.specs.List.{flat_map}
use Rattle.std.proofs.lemmas.List.{append-nil, drop_more, take_more}
use Rattle.std.proofs.lemmas.List.Concat.{flat_map-append, flat_map-cons}
use Rattle.std.proofs.lemmas.Nat.{le_bytes_4}
use Rattle.std.proofs.Math.Seq.{take-append-add}
use Rattle.vsl_record.specs.declared.mark.Mark.{Mark}
use Rattle.vsl_record.specs.declared.record_type.Record.{Record}
use Rattle.vsl_record.specs.Unit.{LogUnit}
use Rattle.vsl_record.specs.Words.{packed, header_mark, id_of, word_of, word_bytes, record_words, body_words_of}
use Rattle.vsl_words.specs.declared.version.Version.TheVariants.{Two}
use Rattle.vsl_record.proofs.Steps.{IsBytes, below_cons}
use Rattle.vsl_record.proofs.WordLemmas.{length-word_bytes}
use Rattle.vsl_file.specs.File.{alone_bytes, alone_unit, record_bytes, unit_bytes}
use Rattle.vsl_file.specs.inside.Writing.{filled}

-- the bytes of a number of 64 bits are those of its two words, and only what it is modulo 2^64 counts
wrapped_bytes : (n : ℕ) → to_le_bytes w64 (n % 2 ^ 64) ≡ to_le_bytes w32 (n % 4294967296) ++ to_le_bytes w32 (n / 4294967296)
wrapped_bytes n =
    let m : ℕ = n % 2 ^ 64 in
    let c0 : m % 256 ≡ n % 4294967296 % 256 = omega arith in
    let c1 : m / 256 % 256 ≡ n % 4294967296 / 256 % 256 = omega arith in
    let c2 : m / 65536 % 256 ≡ n % 4294967296 / 65536 % 256 = omega arith in
    let c3 : m / 16777216 % 256 ≡ n % 4294967296 / 16777216 % 256 = omega arith in
    let c4 : m / 4294967296 % 256 ≡ n / 4294967296 % 256 = omega arith in
    let c5 : m / 1099511627776 % 256 ≡ n / 4294967296 / 256 % 256 = omega arith in
    let c6 : m / 281474976710656 % 256 ≡ n / 4294967296 / 65536 % 256 = omega arith in
    let c7 : m / 72057594037927936 % 256 ≡ n / 4294967296 / 16777216 % 256 = omega arith in
    cc

-- four bytes are those of their word
word_again : (a b c d : ℕ) → a < 256 → b < 256 → c < 256 → d < 256 → to_le_bytes w32 (word_of a b c d) ≡ a ∷ b ∷ c ∷ d ∷ []
word_again a b c d p q r s =
    le_bytes_4 (a ∷ b ∷ c ∷ d ∷ []) (word_of a b c d) refl (below_cons 256 a (b ∷ c ∷ d ∷ []) p (below_cons 256 b (c ∷ d ∷ []) q (below_cons 256 c (d ∷ []) r (below_cons 256 d [] s (λ i. omega arith))))) (omega arith)

-- the words of a payload are its bytes, with zero bytes up to a whole word
pub packed_bytes : (p : List ℕ) → IsBytes p → word_bytes (packed p) ≡ filled p
packed_bytes [] all = refl
packed_bytes (a ∷ []) all = word_again a 0 0 0 (all 0) (omega arith) (omega arith) (omega arith)
packed_bytes (a ∷ b ∷ []) all = word_again a b 0 0 (all 0) (all 1) (omega arith) (omega arith)
packed_bytes (a ∷ b ∷ c ∷ []) all = word_again a b c 0 (all 0) (all 1) (all 2) (omega arith)
packed_bytes (a ∷ b ∷ c ∷ d ∷ p) all =
    let same : (4 - length (a ∷ b ∷ c ∷ d ∷ p) % 4) % 4 ≡ (4 - length p % 4) % 4 = omega arith in
    rw same (ap (λ (x : List ℕ). x ++ word_bytes (packed p)) (word_again a b c d (all 0) (all 1) (all 2) (all 3)) ∙ ap (λ (x : List ℕ). a ∷ b ∷ c ∷ d ∷ x) (packed_bytes p (λ i. all (suc (suc (suc (suc i)))))))

-- of three zero bytes behind a payload, those that are not cut off fill its last word
pub filled_cut : (old payload all : List ℕ) (size : ℕ) → all ≡ (old ++ payload) ++ 0 ∷ 0 ∷ 0 ∷ [] → size ≡ length all - (length payload % 4 + 3) % 4 → take size all ≡ old ++ filled payload
filled_cut old payload all size all_is size_is =
    let kept : ℕ = (4 - length payload % 4) % 4 in
    let size_at : size ≡ length (old ++ payload) + kept = omega (arith, size_is, ap length all_is, length-append (old ++ payload) (0 ∷ 0 ∷ 0 ∷ [])) in
    rw (all_is, size_at) (take-append-add (old ++ payload) (0 ∷ 0 ∷ 0 ∷ []) kept) ∙ append_assoc old payload (take kept (0 ∷ 0 ∷ 0 ∷ []))

-- a record's bytes are those of its first word, of its id, and of its payload
pub record_whole : (vxid head id : ℕ) (rec : Record) → IsBytes rec.payload → head ≡ 16777216 * rec.tag + length rec.payload → id ≡ id_of Two vxid rec.mark % 2 ^ 64
    → record_bytes vxid rec ≡ to_le_bytes w32 head ++ (to_le_bytes w64 id ++ filled rec.payload)
record_whole vxid head id rec all head_is id_is =
    let first : List ℕ = to_le_bytes w32 (16777216 * rec.tag + length rec.payload) in
    let ids : to_le_bytes w64 id ≡ to_le_bytes w32 (id_of Two vxid rec.mark % 4294967296) ++ to_le_bytes w32 (id_of Two vxid rec.mark / 4294967296) = ap (to_le_bytes w64) id_is ∙ wrapped_bytes (id_of Two vxid rec.mark) in
    ap (λ (x : List ℕ). first ++ (to_le_bytes w32 (id_of Two vxid rec.mark % 4294967296) ++ to_le_bytes w32 (id_of Two vxid rec.mark / 4294967296) ++ x)) (packed_bytes rec.payload all)
    ∙ ap (λ (x : List ℕ). first ++ (x ++ filled rec.payload)) (sym ids) ∙ ap (λ (n : ℕ). to_le_bytes w32 n ++ (to_le_bytes w64 id ++ filled rec.payload)) (sym head_is)

-- the bytes of records' words are the records' bytes
pub body_bytes : (vxid : ℕ) (records : List Record) → word_bytes (flat_map (record_words vxid) records) ≡ flat_map (record_bytes vxid) records
body_bytes vxid [] = refl
body_bytes vxid (rec ∷ records) =
    ap word_bytes (flat_map-cons (record_words vxid) rec records) ∙ flat_map-append (to_le_bytes w32) (record_words vxid rec) (flat_map (record_words vxid) records) ∙ ap (λ (x : List ℕ). record_bytes vxid rec ++ x) (body_bytes vxid records) ∙ sym (flat_map-cons (record_bytes vxid) rec records)

-- a unit's bytes are those of its header and of its records
pub unit_whole : (count : ℕ) (u : LogUnit) → count ≡ 1 + length (body_words_of Two u) → unit_bytes u ≡ to_le_bytes w32 (header_mark + count) ++ flat_map (record_bytes u.vxid) u.records
unit_whole count u count_is =
    ap (λ (x : List ℕ). to_le_bytes w32 (header_mark + (1 + length (body_words_of Two u))) ++ x) (body_bytes u.vxid u.records)
    ∙ ap (λ (n : ℕ). to_le_bytes w32 (header_mark + n) ++ flat_map (record_bytes u.vxid) u.records) (sym count_is)

-- the bytes of the unit of one record are those of its header and of the record
pub alone_whole : (vxid : ℕ) (mark : Mark) (rec put : Record) (words : ℕ) → words ≡ length (record_words vxid rec) → put ≡ rec
    → unit_bytes (record { vxid = vxid; mark = mark; records = rec ∷ [] }) ≡ to_le_bytes w32 (header_mark + (1 + words)) ++ record_bytes vxid put
alone_whole vxid mark rec put words words_are same =
    let body : length (record_words vxid rec ++ []) ≡ words = omega (arith, words_are, length-append (record_words vxid rec) []) in
    unit_whole (1 + words) (record { vxid = vxid; mark = mark; records = rec ∷ [] }) (ap (λ (n : ℕ). 1 + n) (sym body))
    ∙ ap (λ (x : List ℕ). to_le_bytes w32 (header_mark + (1 + words)) ++ x) (append-nil (record_bytes vxid rec) ∙ ap (record_bytes vxid) (sym same))

-- what is so of each, where a call did not fail
pub on_ok_each : {A E X : Type 0} (P : X → Type 0) (r : Result A E) → ((x : X) → OnOk r (P x)) → OnOk r ((x : X) → P x)
on_ok_each P (Ok v) each = each
on_ok_each P (Err e) each = tt

-- a unit's bytes are those of its VXID and its records
pub unit_of_parts : (u : LogUnit) (vxid : ℕ) (records : List Record) → vxid ≡ u.vxid → records ≡ u.records → unit_bytes (record { vxid = vxid; mark = u.mark; records = records }) ≡ unit_bytes u
unit_of_parts u vxid records vxid_is records_is =
    ap (λ (v : ℕ). unit_bytes (record { vxid = v; mark = u.mark; records = records })) vxid_is ∙ ap (λ (rs : List Record). unit_bytes (record { vxid = u.vxid; mark = u.mark; records = rs })) records_is

-- one record more adds its bytes
pub body_more : (f : Record → List ℕ) (records : List Record) (i : ℕ) (rec : Record) → i < length records → rec ≡ get_or records i rec → flat_map f (take (i + 1) records) ≡ flat_map f (take i records) ++ f rec
body_more f records i rec within is =
    ap (flat_map f) (take_more records i rec within ∙ ap (λ (r : Record). take i records ++ r ∷ []) (sym is)) ∙ flat_map-append f (take i records) (rec ∷ []) ∙ ap (λ (x : List ℕ). flat_map f (take i records) ++ x) (append-nil (f rec))

-- one record more was added as a unit by itself
pub one_alone : (vxid : ℕ) (records : List Record) (i : ℕ) (rec : Record) (old mid new : List ℕ) → i < length records → rec ≡ get_or records i rec → mid ≡ old ++ alone_bytes vxid (take i records)
    → new ≡ mid ++ unit_bytes (alone_unit vxid rec) → new ≡ old ++ alone_bytes vxid (take (i + 1) records)
one_alone vxid records i rec old mid new within is so_far added =
    let bytes : List ℕ = alone_bytes vxid (take i records) in
    added ∙ ap (λ (x : List ℕ). x ++ unit_bytes (alone_unit vxid rec)) so_far ∙ append_assoc old bytes (unit_bytes (alone_unit vxid rec)) ∙ ap (λ (x : List ℕ). old ++ x) (sym (body_more (λ (r : Record). unit_bytes (alone_unit vxid r)) records i rec within is))

-- of the bytes of the records from one on, its own come first, and behind them are those of the others
pub pieces : (vxid : ℕ) (records : List Record) (i : ℕ) (rec : Record) (left : List ℕ) → i < length records → rec ≡ get_or records i rec → left ≡ flat_map (record_bytes vxid) (drop i records)
    → left ≡ record_bytes vxid rec ++ flat_map (record_bytes vxid) (drop (i + 1) records)
pieces vxid records i rec left within is left_is =
    let f : Record → List ℕ = record_bytes vxid in
    left_is ∙ ap (flat_map f) (drop_more records i rec within) ∙ sym (ap (λ (r : Record). f r ++ flat_map f (drop (i + 1) records)) is)

-- a record has four bytes a word
pub record_size : (vxid : ℕ) (rec : Record) → length (record_bytes vxid rec) ≡ 4 * length (record_words vxid rec)
record_size vxid rec = length-word_bytes (record_words vxid rec)

-- behind a unit's header are the bytes of its records
pub body_behind : (u : LogUnit) (bytes : List ℕ) → bytes ≡ unit_bytes u → drop 4 bytes ≡ flat_map (record_bytes u.vxid) u.records
body_behind u bytes is = ap (drop 4) (is ∙ unit_whole (1 + length (body_words_of Two u)) u refl)
