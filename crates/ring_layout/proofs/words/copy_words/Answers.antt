use Rattle.std.proofs.Common.{rules, ◌≡◌, ℕ, ◌*◌, List, take, drop, ap, ◌∙◌}
use Rattle.std.proofs.lemmas.List.{take_at}
use Rattle.vsl_record.specs.Words.{words_in}
use Rattle.vsl_record.proofs.WordLemmas.{words_in-take, words_in-drop}
use Rattle.ring_layout.proofs.words.copy_words.Goals as goal

pub returns : goal.returns
returns c =
    let behind : List ℕ = c.split_at_mut-first.result.1.now in
    let copied : c.copy_from_slice.new.self ≡ take (4 * c.args.count) (drop (4 * c.args.place) c.args.bytes.now) = search rules in
    ap words_in (take_at c.copy_from_slice.new.self behind (4 * c.args.count) (search rules) ∙ copied)
    ∙ (words_in-take c.args.count (drop (4 * c.args.place) c.args.bytes.now) ∙ ap (take c.args.count) (words_in-drop c.args.place c.args.bytes.now))
