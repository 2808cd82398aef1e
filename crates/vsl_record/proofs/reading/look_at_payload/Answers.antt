use Rattle.std.proofs.Common.{◌≡◌, ◌+◌, ◌*◌, ◌/◌, ◌≤◌, ◌∙◌, length, take, drop, ap, sym, refl, arith}
use Rattle.vsl_words.specs.Words.{words_in, word_bytes, payload_words}
use Rattle.vsl_words.proofs.WordLemmas.{length-words_in, words_in-small, words_in-drop}
use Rattle.vsl_record.proofs.PayloadLemmas.{held_in, payload_taken, not_filled}
use Rattle.vsl_record.proofs.reading.look_at_payload.Goals as goal

pub split_at-requires : goal.split_at-requires
split_at-requires c = omega (arith, length-words_in c.args.bytes.now, c.requires.enough)

pub returns-then-not-is_padded-clause-refused : goal.returns-then-not-is_padded-clause-refused
returns-then-not-is_padded-clause-refused c =
    let long : 4 * ((c.args.count + 3) / 4) ≤ length c.args.bytes.now = omega (arith, length-words_in c.args.bytes.now, c.requires.enough) in
    let held_is : c.split_at.result.0.now ≡ word_bytes (take (payload_words c.args.count) (words_in c.args.bytes.now)) = c.split_at.ensures.front ∙ sym (held_in c.args.count c.args.bytes.now long c.are_bytes.ensures) in
    (not_filled c.args.count (words_in c.args.bytes.now) _ held_is (sym c.is_padded.ensures ∙ c.if-not-is_padded.true), refl)

pub returns-clause-read : goal.returns-clause-read
returns-clause-read c =
    let long : 4 * ((c.args.count + 3) / 4) ≤ length c.args.bytes.now = omega (arith, length-words_in c.args.bytes.now, c.requires.enough) in
    let held_is : c.split_at.result.0.now ≡ word_bytes (take (payload_words c.args.count) (words_in c.args.bytes.now)) = c.split_at.ensures.front ∙ sym (held_in c.args.count c.args.bytes.now long c.are_bytes.ensures) in
    let rest_is : words_in c.split_at.result.1.now ≡ drop (payload_words c.args.count) (words_in c.args.bytes.now) = ap words_in c.split_at.ensures.back ∙ words_in-drop (payload_words c.args.count) c.args.bytes.now in
    let read = payload_taken c.args.count (words_in c.args.bytes.now) _ (words_in-small c.args.bytes.now c.are_bytes.ensures) c.requires.short c.requires.enough held_is (sym c.is_padded.ensures ∙ c.if-not-is_padded.false) in
    rw (c.split_at-2.ensures.front, rest_is) read
