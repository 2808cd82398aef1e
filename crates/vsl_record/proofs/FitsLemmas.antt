-- A unit of version 1 has words of version 2, and what is kept of a unit that was read.
use Rattle.std.proofs.Common.{◌≡◌, ◌∙◌, ℕ, ◌+◌, ◌*◌, ◌%◌, ◌≤◌, List, [], ◌∷◌, length, drop, sym, ap, subst, arith}
use Rattle.std.specs.List.{flat_map}
use Rattle.std.proofs.lemmas.List.{length-append}
use Rattle.vsl_record.specs.declared.record_type.Record.{Record}
use Rattle.vsl_record.specs.Unit.{LogUnit}
use Rattle.vsl_words.specs.declared.version.Version.{Version}
use Rattle.vsl_words.specs.declared.version.Version.TheVariants.{One, Two}
use Rattle.vsl_words.specs.Versions.{vxid_end_of}
use Rattle.vsl_words.proofs.Steps.{IsBytes}
use Rattle.vsl_words.proofs.WordLemmas.{word_bytes-words_in}
use Rattle.vsl_record.specs.declared.entry.Entry.{Entry}
use Rattle.vsl_record.specs.declared.mark.Mark.{Mark}
use Rattle.vsl_record.specs.Blocks.{block_records, IsBlock}
use Rattle.vsl_record.specs.Words.{record_words_of, unit_words_of, IsUnitOf, word_bytes, words_in}
use Rattle.vsl_record.specs.inside.UnitReading.{IsHeaded, AreRecordsRead}
use Rattle.vsl_record.proofs.UnitReadingLemmas.{unit_read}

-- a record has a word more in version 2, and two words or more in version 1
wider : (vxid : ℕ) (records : List Record) → (length (flat_map (record_words_of Two vxid) records) ≡ length (flat_map (record_words_of One vxid) records) + length records) × (2 * length records ≤ length (flat_map (record_words_of One vxid) records))
wider vxid [] = (omega arith, omega arith)
wider vxid (rec ∷ records) =
    let rest = wider vxid records in
    let same = rest.0 in
    let few = rest.1 in
    let two = length-append (record_words_of Two vxid rec) (flat_map (record_words_of Two vxid) records) in
    let one = length-append (record_words_of One vxid rec) (flat_map (record_words_of One vxid) records) in
    (omega arith, omega arith)

-- so it has at most half as many words again
pub old_fits : (u : LogUnit) → IsUnitOf One u → IsUnitOf Two u × (length (unit_words_of Two u) ≤ 1572863)
old_fits u h =
    let size = h.size in
    let vxid = h.vxid in
    let both = wider u.vxid u.records in
    let same = both.0 in
    let few = both.1 in
    (record { vxid = omega arith; some = h.some; records = h.records; size = omega arith }, omega arith)

-- a unit of either version is a unit
pub fits_unit : (v : Version) (u : LogUnit) → IsUnitOf v u → IsUnitOf Two u
fits_unit One u h = (old_fits u h).0
fits_unit Two u h = h

-- bytes of a unit's words that are kept are those of the unit that was read from them
pub kept_whole : (v : Version) (id n : ℕ) (m : Mark) (bytes block : List ℕ) (entries : List Entry) → n ≡ vxid_end_of v → block ≡ bytes → IsBytes bytes → length bytes ≡ 4 * length (words_in bytes) → IsHeaded v (words_in bytes)
    → AreRecordsRead v id (drop 1 (words_in bytes)) (block_records bytes entries) [] → IsBlock bytes entries
    → IsBlock block entries × (block ≡ word_bytes (unit_words_of v (record { vxid = id % n; mark = m; records = block_records block entries })))
kept_whole v id n m bytes block entries n_is block_is small whole headed read fit =
    let here : bytes ≡ word_bytes (unit_words_of v (record { vxid = id % vxid_end_of v; mark = m; records = block_records bytes entries })) =
    sym (word_bytes-words_in (length (words_in bytes)) bytes whole small) ∙ ap word_bytes (unit_read v (words_in bytes) id (block_records bytes entries) headed read).1 in
    subst (λ (k : ℕ). IsBlock block entries × (block ≡ word_bytes (unit_words_of v (record { vxid = id % k; mark = m; records = block_records block entries })))) (sym n_is)
    (subst (λ (b : List ℕ). IsBlock b entries × (b ≡ word_bytes (unit_words_of v (record { vxid = id % vxid_end_of v; mark = m; records = block_records b entries })))) (sym block_is) (fit, here))
