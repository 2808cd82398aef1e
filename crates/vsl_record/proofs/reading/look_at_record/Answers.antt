use Rattle.std.proofs.Common.{◌≡◌, ◌∙◌, ◌-◌, List, ℕ, length, drop, ap, sym, arith}
use Rattle.std.proofs.lemmas.Result.{err_from_is_err_and}
use Rattle.vsl_words.specs.Versions.{id_in}
use Rattle.vsl_words.specs.Words.{words_in, payload_words}
use Rattle.vsl_words.proofs.WordLemmas.{words_in-drop, words_in-small}
use Rattle.vsl_record.proofs.LookLemmas.{Headed, held_words, held_long, padding_fault, record_looked, placed_at}
use Rattle.vsl_record.proofs.reading.look_at_record.Goals as goal

pub look_at_payload-requires-clause-enough : goal.look_at_payload-requires-clause-enough
look_at_payload-requires-clause-enough c =
    held_long c.args.version (payload_words c.in_ok-tag.length) (words_in c.args.bytes.now) _ (held_words c.args.version c.args.bytes.now _ _ c.split_at.ensures.back c.in_ok-held.ensures.behind)
    (omega (arith, c.in_ok-tag.ensures.room, c.word_count-count.ensures))

pub returns-in_err-payload-clause-refused : goal.returns-in_err-payload-clause-refused
returns-in_err-payload-clause-refused c =
    let p = err_from_is_err_and c.from_residual-in_err-payload.result c.from_residual-in_err-payload.ensures.1 in
    let words : List ℕ = words_in c.args.bytes.now in
    let count = c.word_count-count.ensures in
    let headed : Headed c.args.version c.args.head c.in_ok-tag.length words =
    record { first = c.requires.head; size = c.in_ok-tag.ensures.size; is_tag = c.in_ok-tag.ensures.is_tag; short = c.in_ok-tag.ensures.short; room = omega (arith, c.in_ok-tag.ensures.room, count) } in
    let same : id_in c.args.version (drop 1 words) ≡ c.args.id = sym (ap (λ (b : List ℕ). id_in c.args.version (words_in b)) c.split_at.ensures.back ∙ ap (id_in c.args.version) (words_in-drop 1 c.args.bytes.now)) ∙ c.in_ok-held.ensures.same in
    let refused = c.in_err-payload.ensures.refused in
    rw (p.1, p.2) (λ other.
    padding_fault c.args.version c.args.id (c.args.size - length words) c.args.head c.in_ok-tag.length words _ _ (words_in-small c.args.bytes.now c.are_bytes.ensures) headed same c.in_ok-held.ensures.one_mark
    (held_words c.args.version c.args.bytes.now _ _ c.split_at.ensures.back c.in_ok-held.ensures.behind) refused.0 (rw (count, c.id_size.ensures) at refused.1))

pub returns-clause-read : goal.returns-clause-read
returns-clause-read c =
    let words : List ℕ = words_in c.args.bytes.now in
    let headed : Headed c.args.version c.args.head c.in_ok-tag.length words =
    record { first = c.requires.head; size = c.in_ok-tag.ensures.size; is_tag = c.in_ok-tag.ensures.is_tag; short = c.in_ok-tag.ensures.short; room = omega (arith, c.in_ok-tag.ensures.room, c.word_count-count.ensures) } in
    let same : id_in c.args.version (drop 1 words) ≡ c.args.id = sym (ap (λ (b : List ℕ). id_in c.args.version (words_in b)) c.split_at.ensures.back ∙ ap (id_in c.args.version) (words_in-drop 1 c.args.bytes.now)) ∙ c.in_ok-held.ensures.same in
    record_looked c.args.version c.args.id c.args.head c.in_ok-tag.length _ _ words _ _ _ _ (words_in-small c.args.bytes.now c.are_bytes.ensures) headed c.in_ok-tag.ensures.tag same c.in_ok-held.ensures.one_mark
    (held_words c.args.version c.args.bytes.now _ _ c.split_at.ensures.back c.in_ok-held.ensures.behind) c.in_ok-payload.ensures.read c.of_id.ensures c.new.ensures

pub returns-clause-placed : goal.returns-clause-placed
returns-clause-placed c =
    rw c.new.ensures (placed_at c.args.version c.in_ok-tag.length c.args.bytes.now _ _ _ _ c.split_at.ensures.back c.in_ok-held.ensures.behind (omega (arith, c.in_ok-tag.ensures.room, c.word_count-count.ensures))
    c.in_ok-payload.ensures.inside c.in_ok-payload.ensures.placed c.in_ok-payload.ensures.behind)
