use Rattle.std.proofs.Common.{arith, ◌≡◌, ◌==◌, length, sym, ◌∙◌}
use Rattle.std.proofs.lemmas.Grind.{common_steps}
use Rattle.vsl_select.proofs.ShownLemmas.{alone_kept, group_kept}
use Rattle.vsl_select.proofs.selection.Selection.shows_everything.Goals as goal

pub returns-then-not-has_sides-clause-all : goal.returns-then-not-has_sides-clause-all
returns-then-not-has_sides-clause-all c empty =
    let told : c.is_empty.result ≡ (length c.args.self.now.rules == 0) = grind (arith, common_steps) in
    group_kept c.args.self.now (sym c.has_sides.ensures ∙ c.if-not-has_sides.true) (sym told ∙ empty)

pub returns-then-not-has_sides-clause-alone : goal.returns-then-not-has_sides-clause-alone
returns-then-not-has_sides-clause-alone c empty =
    let told : c.is_empty.result ≡ (length c.args.self.now.rules == 0) = grind (arith, common_steps) in
    alone_kept c.args.self.now (sym c.has_sides.ensures ∙ c.if-not-has_sides.true) (sym told ∙ empty)
