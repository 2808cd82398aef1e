-- Records that are looked at one after another, and kept as entries.
use Rattle.std.proofs.Common.{◌≡◌, ℕ, ◌+◌, ◌-◌, ◌*◌, ◌/◌, ◌%◌, ◌<◌, ◌≤◌, List, [], ◌∷◌, ◌++◌, length, take, drop, get_or, Some, false, sym, ap, subst, ◌∙◌, arith}
use Rattle.std.proofs.lemmas.List.{length-append, length-drop, length-take-le, drop-drop}
use Rattle.vsl_record.specs.declared.entry.Entry.{Entry}
use Rattle.vsl_record.specs.declared.record_type.Record.{Record}
use Rattle.vsl_tags.specs.Tags.{IsTag}
use Rattle.vsl_record.specs.declared.mark.Mark.{Mark}
use Rattle.vsl_record.specs.declared.fault.WordFault.{WordFault}
use Rattle.vsl_record.specs.declared.fault.WordFault.TheVariants.{BadPadding}
use Rattle.vsl_words.specs.declared.version.Version.{Version}
use Rattle.vsl_words.specs.Versions.{id_size, vxid_end_of, id_in}
use Rattle.vsl_words.specs.Words.{payload_words, is_filled}
use Rattle.vsl_record.specs.Words.{record_words_of, words_in}
use Rattle.vsl_record.specs.WordFaults.{record_fault}
use Rattle.vsl_record.specs.Blocks.{entry_record, block_records, IsEntryOf, IsBlock}
use Rattle.vsl_record.specs.inside.Blocks.{IsPlaced}
use Rattle.vsl_record.specs.inside.UnitReading.{mark_of, IsPayloadRead, IsRecordRead, AreRecordsRead, StopsAt}
use Rattle.vsl_record.proofs.WordLemmas.{length-words_in, words_in-drop}
use Rattle.vsl_record.proofs.Steps.{IsWords}
use Rattle.vsl_record.proofs.RecordLemmas.{record_made, behind_head, behind_id}
use Rattle.vsl_record.proofs.RecordsLemmas.{length-record_words, one_more_record}
use Rattle.vsl_record.proofs.BlockLemmas.{records_append, block_pushed}

-- ---- one record

-- the words of the bytes behind a record's first word and its id
pub held_words : (v : Version) (bytes behind held : List ℕ) → behind ≡ drop 4 bytes → held ≡ drop (4 * id_size v) behind → words_in held ≡ drop (id_size v) (drop 1 (words_in bytes))
held_words v bytes behind held behind_is held_is =
    ap words_in held_is ∙ words_in-drop (id_size v) behind ∙ ap (drop (id_size v)) (ap words_in behind_is ∙ words_in-drop 1 bytes)

pub held_long : (v : Version) (n : ℕ) (words held : List ℕ) → held ≡ drop (id_size v) (drop 1 words) → 1 + id_size v + n ≤ length words → n ≤ length held
held_long v n words held is room = omega (arith, ap length is, length-drop (id_size v) (drop 1 words), length-drop 1 words, room)

-- what was read of a record's first word
pub record Headed (v : Version) (head n : ℕ) (words : List ℕ) : Type 0 where
  pub first : get_or words 0 0 ≡ head
  pub size : n ≡ head % 16777216
  pub is_tag : IsTag (head / 16777216)
  pub short : n ≤ 4000
  pub room : 1 + id_size v + payload_words n ≤ length words

size_is : {v : Version} {head n : ℕ} {words : List ℕ} → Headed v head n words → get_or words 0 0 % 16777216 ≡ n
size_is h = ap (λ (k : ℕ). k % 16777216) h.first ∙ sym h.size

tag_is : {v : Version} {head n : ℕ} {words : List ℕ} → Headed v head n words → IsTag (get_or words 0 0 / 16777216)
tag_is h = subst (λ (k : ℕ). IsTag (k / 16777216)) (sym h.first) h.is_tag

-- where the payload isn't filled with zero bytes, that is the record's fault
pub padding_fault : (v : Version) (id at head n : ℕ) (words held : List ℕ) (fault : WordFault) → IsWords words → Headed v head n words → id_in v (drop 1 words) ≡ id → id < vxid_end_of v * 3 → held ≡ drop (id_size v) (drop 1 words)
    → is_filled n held ≡ false → fault ≡ BadPadding (at + 1 + id_size v + n / 4) → record_fault v id at words ≡ Some fault
padding_fault v id at head n words held fault all h is small held_is not_filled place =
    let same = size_is h in
    let room : 1 + id_size v + payload_words (get_or words 0 0 % 16777216) ≤ length words = omega (arith, h.room, ap payload_words same) in
    let filling : is_filled (get_or words 0 0 % 16777216) (drop (id_size v) (drop 1 words)) ≡ false = ap (λ (k : ℕ). is_filled k (drop (id_size v) (drop 1 words))) same ∙ ap (is_filled n) (sym held_is) ∙ not_filled in
    let there : at + 1 + id_size v + n / 4 ≡ at + (1 + id_size v) + get_or words 0 0 % 16777216 / 4 = omega (arith, same) in
    behind_head v id at words (tag_is h) (omega (arith, same, h.short)) room ∙ behind_id v id at words fault all (omega (arith, room)) is small filling (place ∙ ap BadPadding there)

-- and else the record stands there
pub record_looked : (v : Version) (id head n tag : ℕ) (mark : Mark) (words held payload after : List ℕ) (rec : Record) → IsWords words → Headed v head n words → tag ≡ head / 16777216 → id_in v (drop 1 words) ≡ id → id < vxid_end_of v * 3 → held ≡ drop (id_size v) (drop 1 words)
    → IsPayloadRead n held payload after → mark ≡ mark_of v id → rec ≡ record { tag = tag; mark = mark; payload = payload } → IsRecordRead v id words rec after
record_looked v id head n tag mark words held payload after rec all h tag_same is small held_is read mark_is rec_is =
    let there : IsPayloadRead (get_or words 0 0 % 16777216) (drop (id_size v) (drop 1 words)) payload after =
    subst (λ (k : ℕ). IsPayloadRead k (drop (id_size v) (drop 1 words)) payload after) (sym (size_is h)) (subst (λ (ws : List ℕ). IsPayloadRead n ws payload after) held_is read) in
    let made = record_made v id words payload after all (omega (arith, h.room)) (tag_is h) is small there in
    let tags : get_or words 0 0 / 16777216 ≡ tag = ap (λ (k : ℕ). k / 16777216) h.first ∙ sym tag_same in
    subst (λ (r : Record). IsRecordRead v id words r after) (ap (λ (k : ℕ). record { tag = k; mark = mark_of v id; payload = payload }) tags ∙ ap (λ (m : Mark). record { tag = tag; mark = m; payload = payload }) (sym mark_is) ∙ sym rec_is) made

-- its payload lies in the bytes
pub placed_at : (v : Version) (n : ℕ) (bytes behind held payload rest : List ℕ) → behind ≡ drop 4 bytes → held ≡ drop (4 * id_size v) behind → 1 + id_size v + payload_words n ≤ length (words_in bytes) → n ≤ length held → payload ≡ take n held
    → rest ≡ drop (4 * payload_words n) held → IsPlaced v bytes payload rest
placed_at v n bytes behind held payload rest behind_is held_is room inside payload_is rest_is =
    let is : held ≡ drop (4 * id_size v) (drop 4 bytes) = held_is ∙ ap (drop (4 * id_size v)) behind_is in
    let size : length payload ≡ n = ap length payload_is ∙ length-take-le n held inside in
    record {
      long = omega (arith, size, inside, ap length is, length-drop (4 * id_size v) (drop 4 bytes), length-drop 4 bytes, room, length-words_in bytes);
      there = payload_is ∙ ap (λ (k : ℕ). take k held) (sym size) ∙ ap (take (length payload)) is;
      after = rest_is ∙ ap (λ (k : ℕ). drop (4 * payload_words k) held) (sym size) ∙ ap (drop (4 * payload_words (length payload))) is;
    }

-- ---- records, one after another

-- the entries are of the records so far, and these bytes of the block are left
pub record Looked (v : Version) (id size : ℕ) (block : List ℕ) (entries : List Entry) (left : List ℕ) : Type 0 where
  pub fewer : length left ≤ length block
  pub behind : left ≡ drop (length block - length left) block
  pub few : length (words_in left) < size
  pub are : IsBlock block entries
  pub read : AreRecordsRead v id (drop 1 (words_in block)) (block_records block entries) (words_in left)

pub look_start : (v : Version) (id size : ℕ) (block left : List ℕ) (entries : List Entry) → size ≡ length (words_in block) → 1 ≤ size → left ≡ drop 4 block → entries ≡ [] → Looked v id size block entries left
look_start v id size block left entries is some rest none =
    let long : 4 ≤ length block = omega (arith, is, some, length-words_in block) in
    let count : length left ≡ length block - 4 = ap length rest ∙ length-drop 4 block in
    let place : length block - length left ≡ 4 = omega (arith, long, count) in
    let words : words_in left ≡ drop 1 (words_in block) = ap words_in rest ∙ words_in-drop 1 block in
    rw none (record {
      fewer = omega (arith, count);
      behind = rest ∙ ap (λ (k : ℕ). drop k block) (sym place);
      few = omega (arith, is, some, ap length words, length-drop 1 (words_in block));
      are = tt;
      read = record { parts = sym words; are_records = tt };
    })

pub look_more : (v : Version) (id size : ℕ) (block left rest : List ℕ) (entries entries' : List Entry) (e : Entry) (rec : Record) → Looked v id size block entries left → IsRecordRead v id (words_in left) rec (words_in rest) → IsPlaced v left rec.payload rest
    → entry_record block e ≡ rec → IsEntryOf block e → entries' ≡ entries ++ e ∷ [] → Looked v id size block entries' rest
look_more v id size block left rest entries entries' e rec so_far one placed is entry more =
    let m : ℕ = payload_words (length rec.payload) in
    let n : ℕ = 4 + 4 * id_size v + 4 * m in
    let words : length (words_in left) ≡ 1 + id_size v + m + length (words_in rest) = ap length one.parts ∙ length-append (record_words_of v (id % vxid_end_of v) rec) (words_in rest) ∙ ap (λ (k : ℕ). k + length (words_in rest)) (length-record_words v (id % vxid_end_of v) rec) in
    let long : n ≤ length left = omega (arith, words, length-words_in left) in
    let same : rest ≡ drop n left = placed.after ∙ ap (drop (4 * m)) (drop-drop (4 * id_size v) 4 left) ∙ drop-drop (4 * m) (4 + 4 * id_size v) left ∙ ap (λ (k : ℕ). drop k left) (omega arith) in
    let count : length rest ≡ length left - n = ap length same ∙ length-drop n left in
    let place : length block - length left + n ≡ length block - length rest = omega (arith, long, count, so_far.fewer) in
    let behind : rest ≡ drop (length block - length rest) block = same ∙ ap (drop n) so_far.behind ∙ drop-drop n (length block - length left) block ∙ ap (λ (k : ℕ). drop k block) place in
    let records : block_records block (entries ++ e ∷ []) ≡ block_records block entries ++ rec ∷ [] = records_append block entries (e ∷ []) ∙ ap (λ (r : Record). block_records block entries ++ r ∷ []) is in
    rw more (record {
      fewer = omega (arith, count, so_far.fewer);
      behind = behind;
      few = omega (arith, words, so_far.few);
      are = block_pushed block entries e so_far.are entry;
      read = rw records (one_more_record v id (drop 1 (words_in block)) (words_in left) (words_in rest) (block_records block entries) rec so_far.read one);
    })

pub look_stop : (v : Version) (id size : ℕ) (block left : List ℕ) (entries : List Entry) (fault : WordFault) → Looked v id size block entries left → size ≡ length (words_in block) → 0 < length (words_in left)
    → record_fault v id (size - length (words_in left)) (words_in left) ≡ Some fault → StopsAt v id (drop 1 (words_in block)) fault
look_stop v id size block left entries fault so_far is some faulty =
    let place : 1 + length (drop 1 (words_in block)) - length (words_in left) ≡ size - length (words_in left) = omega (arith, is, so_far.few, length-drop 1 (words_in block)) in
    record {
      before = block_records block entries;
      rest = words_in left;
      read = so_far.read;
      some = some;
      faulty = ap (λ (k : ℕ). record_fault v id k (words_in left)) place ∙ faulty;
    }
