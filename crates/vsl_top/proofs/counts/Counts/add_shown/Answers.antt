use Rattle.std.proofs.Common.{◌∙◌, sym}
use Rattle.vsl_top.proofs.ConsumerLemmas.{on_ok}
use Rattle.vsl_top.proofs.counts.Counts.add_shown.Goals as goal

pub returns-then-branch-clause-counted : goal.returns-then-branch-clause-counted
returns-then-branch-clause-counted c = on_ok c.add.result
    (λ step keys so_far. rw (sym c.in_ok-shows.ensures.shown ∙ c.if-branch.true)
    (rw (c.tag.ensures, c.text_of.ensures) at (step keys so_far)))
    c.add.ensures.counted
