use Rattle.std.proofs.Common.{rules, ◌≡◌, ℕ, ◌*◌, List, ◌++◌, take, drop, ap, ◌∙◌}
use Rattle.std.specs.Int.{w32, to_le_bytes}
use Rattle.vsl_record.specs.Words.{words_in}
use Rattle.ring_layout.proofs.BytesLemmas.{word_written}
use Rattle.ring_layout.proofs.words.write_word.Goals as goal

pub returns-clause-words : goal.returns-clause-words
returns-clause-words c =
    let bytes : List ℕ = c.args.bytes.now in
    let k : ℕ = c.args.place in
    let same : c.split_at_mut-behind.result.0.now ++ (c.copy_from_slice.new.self ++ c.split_at_mut-here.result.1.now) ≡ take (4 * k) bytes ++ (to_le_bytes w32 c.args.word ++ drop 4 (drop (4 * k) bytes)) = search rules in
    ap words_in same ∙ word_written bytes k c.args.word (search rules) (search rules)
