use Rattle.std.proofs.Common.{refl, sym, ◌∙◌}
use Rattle.vio.proofs.WholeLemmas.{OnErr-always}
use Rattle.vslog.specs.Words.{job_as}
use Rattle.vslog.proofs.WorkLemmas.{lacked, lacked_work, none_said, ran}
use Rattle.vslog.proofs.PlainLemmas.{plain_runs}
use Rattle.vslog.proofs.run.run_vslog.Goals as goal

pub returns-in_err-ended-clause-lacks : goal.returns-in_err-ended-clause-lacks
returns-in_err-ended-clause-lacks g c = OnErr-always c.from_residual.result (lacked_work _ (job_as c.in-Ok.job) _ _ _ (sym c.in-Ok.ensures) c.in_err-ended.ensures)

pub returns-in_err-text-clause-lacks : goal.returns-in_err-text-clause-lacks
returns-in_err-text-clause-lacks g c =
    OnErr-always c.from_residual-in_err-text.result (lacked _ (job_as c.in-Ok.job) _ c.in_ok-ended.ended _ _ _ _ (sym c.in-Ok.ensures) c.in_ok-ended.ensures refl (none_said _ _))

pub returns-in_err-say-clause-lacks : goal.returns-in_err-say-clause-lacks
returns-in_err-say-clause-lacks g c =
    OnErr-always c.from_residual-in_err-say.result (lacked _ (job_as c.in-Ok.job) _ c.in_ok-ended.ended c.deref.result.now _ _ _ (sym c.in-Ok.ensures) c.in_ok-ended.ensures (c.deref.ensures.value ∙ c.in_ok-text.ensures) c.in_err-say.ensures.part)

pub returns-clause-runs : goal.returns-clause-runs
returns-clause-runs g c = ran _ (job_as c.in-Ok.job) _ c.in_ok-ended.ended c.deref.result.now _ _ _ (sym c.in-Ok.ensures) c.in_ok-ended.ensures (c.deref.ensures.value ∙ c.in_ok-text.ensures) c.in_ok-say.ensures.said

pub returns-clause-plain : goal.returns-clause-plain
returns-clause-plain g c = plain_runs _ c.in_ok-ended.ended _ _ (returns-clause-runs g c)
