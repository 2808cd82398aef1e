use Rattle.std.proofs.Common.{◌≡◌, ◌∙◌, ◌+◌, ◌++◌, ℕ, List, length, ap, arith}
use Rattle.std.specs.List.{flat_map}
use Rattle.std.specs.Int.{w32, to_le_bytes}
use Rattle.vsl_record.specs.Words.{header_mark, body_words_of, record_words, unit_words, word_bytes}
use Rattle.vsl_words.specs.declared.version.Version.TheVariants.{Two}
use Rattle.vsl_record.proofs.WroteLemmas.{wrote_size, wrote_then, wrote_all}
use Rattle.vsl_record.proofs.unit.Unit.write_bytes.Goals as goal

pub write_records-requires-clause-room : goal.write_records-requires-clause-room
write_records-requires-clause-room c =
    rw (c.vxid.ensures, c.records.ensures.records) (omega (arith, c.requires, wrote_size _ _ _ _ _ c.write_at.ensures (omega (arith, c.requires, ap length c.to_le_bytes.ensures))))

pub returns : goal.returns
returns c =
    let u = c.args.self.now in
    let count : header_mark + length (unit_words u) ≡ header_mark + (1 + length (body_words_of Two u)) = omega arith in
    let head : c.to_le_bytes.result ≡ to_le_bytes w32 (header_mark + (1 + length (body_words_of Two u))) = c.to_le_bytes.ensures ∙ ap (to_le_bytes w32) (c.header_word.ensures ∙ count) in
    let body : flat_map (record_words c.vxid.result) c.records.result ≡ body_words_of Two u = ap (λ (v : ℕ). flat_map (record_words v) c.records.result) c.vxid.ensures ∙ ap (flat_map (record_words u.vxid)) c.records.ensures.records in
    let both = wrote_then 0 _ _ _ _ _ _ _ _ c.write_at.ensures c.write_records.ensures (omega (arith, ap length c.to_le_bytes.ensures)) (omega (arith, ap length body, c.requires)) in
    wrote_all _ _ _ _ both (omega (arith, ap length body, c.requires)) ∙ ap (λ (b : List ℕ). b ++ word_bytes (flat_map (record_words c.vxid.result) c.records.result)) head ∙ ap (λ (ws : List ℕ). to_le_bytes w32 (header_mark + (1 + length (body_words_of Two u))) ++ word_bytes ws) body
