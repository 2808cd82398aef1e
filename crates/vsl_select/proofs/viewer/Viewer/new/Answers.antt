use Rattle.std.proofs.Common.{subst, sym}
use Rattle.vsl_select.specs.inside.Rows.{AreRulesOf}
use Rattle.vsl_select.proofs.viewer.Viewer.new.Goals as goal

pub invariant_of-result : goal.invariant_of-result
invariant_of-result c = subst (AreRulesOf c.args.selection.now) (sym c.in_ok-asked_of.ensures) c.rules.ensures
