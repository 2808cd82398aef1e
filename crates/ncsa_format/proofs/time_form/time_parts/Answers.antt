use Rattle.std.proofs.Common.{◌∙◌, ap}
use Rattle.ncsa_format.specs.Reading.{time_parts}
use Rattle.ncsa_format.proofs.TimeLemmas.{part_more}
use Rattle.ncsa_format.proofs.time_form.time_parts.Goals as goal

pub loop-first-preserved : goal.loop-first-preserved
loop-first-preserved c = part_more _ _ _ c.loop-first.rest.now c.in-Some-part_at.field-0.rest.now c.in_ok-push.ensures (ap time_parts c.in-Some.ensures.cases.0 ∙ c.in-Some-part_at.ensures.part) ∙ c.loop-first.invariant
