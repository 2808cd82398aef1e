use Rattle.std.proofs.Common.{arith, ◌≡◌, ◌==◌, length, sym, ◌∙◌}
use Rattle.std.proofs.lemmas.Grind.{common_steps}
use Rattle.vsl_select.proofs.ShownLemmas.{records_kept}
use Rattle.vsl_select.proofs.selection.Selection.shows_every_record.Goals as goal

pub returns-clause-all : goal.returns-clause-all
returns-clause-all c empty =
    let told : c.is_empty.result ≡ (length c.args.self.now.rules == 0) = grind (arith, common_steps) in records_kept c.args.self.now (sym told ∙ empty)
