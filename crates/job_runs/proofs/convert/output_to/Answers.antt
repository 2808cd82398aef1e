use Rattle.std.proofs.Common.{refl, ◌∙◌}
use Rattle.job_runs.proofs.OneLemmas.{units_one}
use Rattle.job_runs.proofs.convert.output_to.Goals as goal

pub returns-in-Ok : goal.returns-in-Ok
returns-in-Ok c =
    units_one c.args.names.now.output c.args.sink _ _ _ c.new-texts.ensures c.in-Ok.ensures.fan c.in-Ok.ensures.texts c.in-Ok.ensures.sinks refl c.in_ok-head.ensures (c.in_ok-name.ensures ∙ c.as_str.ensures)
