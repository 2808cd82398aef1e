use Rattle.std.proofs.Common.{rules, ◌≡◌, ℕ, ◌*◌, List, ◌++◌, take, drop, sym, ap, ◌∙◌}
use Rattle.vsl_words.specs.declared.version.Version.TheVariants.{Two}
use Rattle.vsl_record.specs.Words.{unit_words, word_bytes, words_in}
use Rattle.vsl_record.proofs.UnitReadingLemmas.{unit_words_small}
use Rattle.ring_layout.proofs.BytesLemmas.{words_written}
use Rattle.ring_layout.proofs.words.write_unit.Goals as goal

pub returns : goal.returns
returns c =
    let bytes : List ℕ = c.args.bytes.now in
    let k : ℕ = c.args.place in
    let new : List ℕ = unit_words c.args.unit.now in
    let same : c.split_at_mut-behind.result.0.now ++ (c.write_bytes.new.out ++ c.split_at_mut-here.result.1.now) ≡ take (4 * k) bytes ++ (word_bytes new ++ drop (4 * c.args.count) (drop (4 * k) bytes)) = search rules in
    ap words_in same ∙ words_written bytes new k c.args.count (unit_words_small Two c.args.unit.now c.is_unit.ensures) (sym c.requires.count) c.requires.room
