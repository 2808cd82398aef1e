-- A record with no fault is the record whose words stand there, and a record's words are read again, in either version.
use Rattle.std.proofs.Common.{◌≡◌, ℕ, suc, ◌+◌, ◌-◌, ◌*◌, ◌/◌, ◌%◌, ◌^◌, ◌<◌, ◌≤◌, true, false, ◌&&◌, leb, ltb, List, [], ◌∷◌, ◌++◌, length, take, drop, get_or, Option, Some, None, refl, sym, ap, ◌∙◌, append_assoc, arith}
use Rattle.std.proofs.lemmas.Bool.{ltb-true, lt-ltb, leb-true, le-leb, and_parts, and_from}
use Rattle.std.proofs.lemmas.List.{length-append, length-drop, take-append-drop, drop_at}
use Rattle.vsl_tags.specs.Tags.{IsTag, first_tag, last_tag}
use Rattle.vsl_record.specs.declared.mark.Mark.{Mark}
use Rattle.vsl_record.specs.declared.record_type.Record.{Record}
use Rattle.vsl_record.specs.Payload.{most_payload}
use Rattle.vsl_record.specs.Unit.{IsRecordOf}
use Rattle.vsl_record.specs.Words.{packed}
use Rattle.vsl_words.specs.Words.{payload_words, is_filled}
use Rattle.vsl_record.specs.inside.UnitReading.{IsPayloadRead}
use Rattle.vsl_record.proofs.Steps.{IsWords, below_drop, unless_none}
use Rattle.vsl_record.proofs.PayloadLemmas.{held, payload_read, payload_again, length-packed}
use Rattle.vsl_words.specs.declared.version.Version.{Version}
use Rattle.vsl_words.specs.Versions.{id_size, vxid_end_of, id_words, id_in}
use Rattle.vsl_record.specs.Words.{id_of, record_words_of}
use Rattle.vsl_record.specs.WordFaults.{record_fault, mixed_fault, unless}
use Rattle.vsl_record.specs.declared.fault.WordFault.{WordFault}
use Rattle.vsl_record.specs.declared.fault.WordFault.TheVariants.{BadMark, BadPadding}
use Rattle.vsl_record.specs.inside.UnitReading.{mark_of, IsRecordRead}
use Rattle.vsl_words.proofs.IdLemmas.{length-id_words, id_spelled, id_again}
use Rattle.vsl_record.proofs.MarkLemmas.{id_parts, id_tells}
use Rattle.vsl_record.proofs.MixedLemmas.{mixed_none, mixed_again, mixed_same}

-- the record that begins words, where it has no fault and this id, and the words after it
abbrev pub record_here : Version → ℕ → List ℕ → Record
record_here v id words = record { tag = get_or words 0 0 / 16777216; mark = mark_of v id; payload = take (get_or words 0 0 % 16777216) (held (get_or words 0 0 % 16777216) (drop (id_size v) (drop 1 words))) }

abbrev pub after_record : Version → List ℕ → List ℕ
after_record v words = drop (payload_words (get_or words 0 0 % 16777216)) (drop (id_size v) (drop 1 words))

first_and_rest : (words : List ℕ) → 0 < length words → words ≡ get_or words 0 0 ∷ drop 1 words
first_and_rest [] some = absurd (omega (arith, some))
first_and_rest (w ∷ words) some = refl

-- words that begin with a record's first word, this id and a payload begin with that record
pub record_made : (v : Version) (id : ℕ) (words payload after : List ℕ) → IsWords words → 1 + id_size v ≤ length words → IsTag (get_or words 0 0 / 16777216) → id_in v (drop 1 words) ≡ id → id < vxid_end_of v * 3
    → IsPayloadRead (get_or words 0 0 % 16777216) (drop (id_size v) (drop 1 words)) payload after → IsRecordRead v id words (record { tag = get_or words 0 0 / 16777216; mark = mark_of v id; payload = payload }) after
record_made v id words payload after all enough is_tag is small read =
    let head : ℕ = get_or words 0 0 in
    let some : 0 < length words = omega arith in
    let count = read.count in
    let first : head ≡ 16777216 * (head / 16777216) + length payload = omega arith in
    let ids : drop 1 words ≡ id_words v id ++ drop (id_size v) (drop 1 words) =
    id_spelled v (drop 1 words) (below_drop (2 ^ 32) 1 words all) (omega (arith, enough, length-drop 1 words)) ∙ ap (λ (k : ℕ). id_words v k ++ drop (id_size v) (drop 1 words)) is in
    let id_is : id ≡ id_of v (id % vxid_end_of v) (mark_of v id) = id_parts v id small in
    record {
      parts = first_and_rest words some ∙ (λ i. first i ∷ (ids ∙ (λ j. id_words v (id_is j) ++ read.parts j) ∙ sym (append_assoc (id_words v (id_of v (id % vxid_end_of v) (mark_of v id))) (packed payload) after)) i);
      record_is = record { tag = is_tag; has_mark = refl; payload = read.fits };
    }

-- the fault of a record, where its tag and its length have none
abbrev pub fault_behind : Version → ℕ → ℕ → List ℕ → Option WordFault
fault_behind v id at words =
    mixed_fault (at + 1) (id_words v id) (drop 1 words) (
    unless (ltb id (vxid_end_of v * 3)) (BadMark (at + id_size v)) (
    unless (is_filled (get_or words 0 0 % 16777216) (drop (id_size v) (drop 1 words))) (BadPadding (at + (1 + id_size v) + get_or words 0 0 % 16777216 / 4)) None))

pub behind_head : (v : Version) (id at : ℕ) (words : List ℕ) → IsTag (get_or words 0 0 / 16777216) → get_or words 0 0 % 16777216 ≤ most_payload → 1 + id_size v + payload_words (get_or words 0 0 % 16777216) ≤ length words → record_fault v id at words ≡ fault_behind v id at words
unfolding record_fault
behind_head v id at words is_tag short room =
    let tag : (leb first_tag (get_or words 0 0 / 16777216) && leb (get_or words 0 0 / 16777216) last_tag) ≡ true = and_from _ _ (le-leb _ _ is_tag.0) (le-leb _ _ is_tag.1) in
    rw (tag, le-leb _ _ short, le-leb _ _ room) refl

-- and where its id has none too, its padding may have one
pub behind_id : (v : Version) (id at : ℕ) (words : List ℕ) (fault : WordFault) → IsWords words → 1 + id_size v ≤ length words → id_in v (drop 1 words) ≡ id → id < vxid_end_of v * 3 → is_filled (get_or words 0 0 % 16777216) (drop (id_size v) (drop 1 words)) ≡ false
    → fault ≡ BadPadding (at + (1 + id_size v) + get_or words 0 0 % 16777216 / 4) → fault_behind v id at words ≡ Some fault
behind_id v id at words fault all enough is small not_filled place =
    mixed_same v id (at + 1) (drop 1 words) _ (below_drop (2 ^ 32) 1 words all) (omega (arith, enough, length-drop 1 words)) is ∙ rw (lt-ltb id (vxid_end_of v * 3) small, not_filled, place) refl

-- where there is no fault, the words of a record stand there
pub record_taken : (v : Version) (id at : ℕ) (words : List ℕ) → IsWords words → record_fault v id at words ≡ None → IsRecordRead v id words (record_here v id words) (after_record v words)
unfolding record_fault
record_taken v id at words all e =
    let head : ℕ = get_or words 0 0 in
    let n : ℕ = head % 16777216 in
    let a = unless_none _ _ _ e in
    let b = unless_none _ _ _ a.1 in
    let c = unless_none _ _ _ b.1 in
    let is_tag = and_parts (leb first_tag (head / 16777216)) (leb (head / 16777216) last_tag) a.0 in
    let short : n ≤ 4000 = leb-true _ _ b.0 in
    let enough : 1 + id_size v + payload_words n ≤ length words = leb-true _ _ c.0 in
    let left : length (drop 1 words) ≡ length words - 1 = length-drop 1 words in
    let long = length-id_words v id in
    let d = mixed_none (at + 1) (id_words v id) (drop 1 words) _ c.1 (omega arith) in
    let f = unless_none _ _ _ d.1 in
    let g = unless_none _ _ _ f.1 in
    let behind : List ℕ = drop (id_size v) (drop 1 words) in
    let left_more = length-drop (id_size v) (drop 1 words) in
    let parts : drop 1 words ≡ id_words v id ++ drop (length (id_words v id)) (drop 1 words) = sym (take-append-drop (length (id_words v id)) (drop 1 words)) ∙ ap (λ (ws : List ℕ). ws ++ drop (length (id_words v id)) (drop 1 words)) d.0 in
    let is : id_in v (drop 1 words) ≡ id = ap (id_in v) parts ∙ id_again v id (drop (length (id_words v id)) (drop 1 words)) in
    record_made v id words (take n (held n behind)) (drop (payload_words n) behind) all (omega arith) (leb-true _ _ is_tag.0, leb-true _ _ is_tag.1) is (ltb-true _ _ f.0)
    (payload_read n behind (below_drop (2 ^ 32) (id_size v) (drop 1 words) (below_drop (2 ^ 32) 1 words all)) short (omega arith) g.0)

-- what the words of a record give
pub record RecordAgain (v : Version) (id at : ℕ) (rec : Record) (words rest : List ℕ) : Type 0 where
  pub good : record_fault v id at words ≡ None
  pub here : record_here v id words ≡ rec
  pub after : after_record v words ≡ rest

pub record_again : (v : Version) (vxid : ℕ) (m : Mark) (at : ℕ) (rec : Record) (rest : List ℕ) → vxid < vxid_end_of v → IsRecordOf m rec → RecordAgain v (id_of v vxid m) at rec (record_words_of v vxid rec ++ rest) rest
unfolding record_fault
record_again v vxid m at rec rest small fits =
    let id : ℕ = id_of v vxid m in
    let words : List ℕ = id_words v id in
    let tells = id_tells v vxid m small in
    let short : length rec.payload ≤ 4000 = fits.payload.short in
    let low : 1 ≤ rec.tag = fits.tag.0 in
    let high : rec.tag ≤ last_tag = fits.tag.1 in
    let tag_is : (16777216 * rec.tag + length rec.payload) / 16777216 ≡ rec.tag = omega arith in
    let len_is : (16777216 * rec.tag + length rec.payload) % 16777216 ≡ length rec.payload = omega arith in
    let is_tag : (leb first_tag rec.tag && leb rec.tag last_tag) ≡ true = and_from _ _ (le-leb _ _ low) (le-leb _ _ high) in
    let is_short : leb (length rec.payload) most_payload ≡ true = le-leb _ _ short in
    let long = length-id_words v id in
    let behind : (id_words v (id_of v vxid rec.mark) ++ packed rec.payload) ++ rest ≡ words ++ (packed rec.payload ++ rest) = (λ i. (id_words v (id_of v vxid (fits.has_mark i)) ++ packed rec.payload) ++ rest) ∙ append_assoc words (packed rec.payload) rest in
    let room : leb (1 + id_size v + payload_words (length rec.payload)) (suc (length (words ++ (packed rec.payload ++ rest)))) ≡ true =
    le-leb _ _ (omega (arith, length-append words (packed rec.payload ++ rest), length-append (packed rec.payload) rest, length-packed rec.payload)) in
    let left : drop (id_size v) (words ++ (packed rec.payload ++ rest)) ≡ packed rec.payload ++ rest = drop_at words (packed rec.payload ++ rest) (id_size v) long in
    let marked : ltb id (vxid_end_of v * 3) ≡ true = lt-ltb _ _ tells.top in
    let again = payload_again rec.payload rest fits.payload.bytes in
    record {
      good = rw (behind, tag_is, len_is, is_tag, is_short, room, left, mixed_again (at + 1) words (packed rec.payload ++ rest), marked, again.filled) refl;
      here = rw (behind, tag_is, len_is, left, again.payload, tells.mark, fits.has_mark) refl;
      after = rw (behind, len_is, left) again.after;
    }
