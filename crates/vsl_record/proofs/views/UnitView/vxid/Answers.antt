use Rattle.vsl_record.proofs.ViewLemmas.{spelled_parts}
use Rattle.vsl_record.proofs.views.UnitView.vxid.Goals as goal

pub returns : goal.returns
returns c = λ u s. (spelled_parts _ u _ s (c.id.ensures u s)).0
