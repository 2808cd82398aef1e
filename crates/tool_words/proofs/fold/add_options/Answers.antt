use Rattle.std.proofs.Common.{[], ◌∷◌, sym, ◌∙◌, ap}
use Rattle.tool_words.specs.Fold.{with_choice}
use Rattle.tool_words.proofs.JobLemmas.{with_options-then}
use Rattle.tool_words.proofs.fold.add_options.Goals as goal

pub loop-one-preserved : goal.loop-one-preserved
loop-one-preserved c =
    let one = c.in-Some.one in
    c.in_ok-add_option.ensures ∙ ap (with_choice one.choice one.word one.value) c.loop-one.invariant ∙ sym (with_options-then c.loop-one.yielded (one ∷ []) c.args.job)
