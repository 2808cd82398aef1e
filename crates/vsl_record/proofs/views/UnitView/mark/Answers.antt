use Rattle.std.proofs.Common.{◌∙◌}
use Rattle.vsl_record.proofs.ViewLemmas.{spelled_parts}
use Rattle.vsl_record.proofs.views.UnitView.mark.Goals as goal

pub returns : goal.returns
returns c = λ u s. c.of_id.ensures ∙ (spelled_parts _ u _ s (c.id.ensures u s)).1
