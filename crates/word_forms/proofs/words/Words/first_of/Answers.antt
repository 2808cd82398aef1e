use Rattle.std.proofs.Common.{sym, ap, ◌∙◌}
use Rattle.std.proofs.lemmas.Str.{lead_after_ascii}
use Rattle.word_forms.specs.Items.{has_letters}
use Rattle.word_forms.proofs.WordLemmas.{lettered}
use Rattle.word_forms.proofs.words.Words.first_of.Goals as goal

pub range_from-self-requires : goal.range_from-self-requires
range_from-self-requires g c =
    let has = lettered c.args.word.now (ap has_letters (sym c.as_bytes.ensures.value) ∙ sym c.has_letters.ensures ∙ c.if-has_letters.true) in
    λ above. (has.0, lead_after_ascii c.args.word.now 0 c.utf8.word has.1)
