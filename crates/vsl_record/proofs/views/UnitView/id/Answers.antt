use Rattle.std.proofs.Common.{◌∙◌, List, ℕ, ap, sym, arith}
use Rattle.vsl_words.specs.declared.version.Version.TheVariants.{Two}
use Rattle.vsl_words.specs.Versions.{id_in}
use Rattle.vsl_words.specs.Words.{words_in}
use Rattle.vsl_words.proofs.WordLemmas.{length-words_in, words_in-drop}
use Rattle.vsl_record.proofs.ViewLemmas.{spelled_id}
use Rattle.vsl_record.proofs.views.UnitView.id.Goals as goal

pub split_at-requires : goal.split_at-requires
split_at-requires c = omega (arith, (spelled_id _ _ c.body.ensures.unit.0 c.body.ensures.unit.1 c.body.ensures.words).1, length-words_in c.body.result.now)

pub id_in-requires : goal.id_in-requires
id_in-requires c =
    omega (arith, (spelled_id _ _ c.body.ensures.unit.0 c.body.ensures.unit.1 c.body.ensures.words).1, length-words_in c.body.result.now, length-words_in c.split_at.result.1.now, c.split_at.ensures.back_len)

pub returns : goal.returns
returns c = λ u s.
    sym c.id_in.ensures ∙ ap (λ (b : List ℕ). id_in Two (words_in b)) c.split_at.ensures.back ∙ ap (id_in Two) (words_in-drop 1 c.body.result.now) ∙ (spelled_id _ _ u s c.body.ensures.words).0
