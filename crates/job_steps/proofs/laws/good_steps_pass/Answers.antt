use Rattle.job_steps.proofs.GoodLemmas.{good_pass}
use Rattle.job_steps.proofs.laws.good_steps_pass.Goals as goal

pub returns : goal.returns
returns c = good_pass c.one_listing.ensures.none
