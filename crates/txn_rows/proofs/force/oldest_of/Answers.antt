use Rattle.std.proofs.Common.{refl, sym, ◌∙◌}
use Rattle.txn_rows.specs.Trees.{transaction_of}
use Rattle.txn_rows.proofs.ForceAllLemmas.{none_meant, row_meant, row_not_meant}
use Rattle.txn_rows.proofs.force.oldest_of.Goals as goal

pub returns-in_default-clause-none : goal.returns-in_default-clause-none
returns-in_default-clause-none c = λ time rise. none_meant c.args.which _ c.in_default.ensures.none

pub returns-then-is_met-clause-some : goal.returns-then-is_met-clause-some
returns-then-is_met-clause-some c =
    row_meant c.args.which c.in-Some.at c.args.rows.now c.index-rows-at.result c.in-Some.ensures.some c.index-rows-at.is (sym (c.is_met.ensures (transaction_of c.index-rows-at.result) refl refl) ∙ c.if-is_met.true)

pub returns-clause-none : goal.returns-clause-none
returns-clause-none c = λ time rise.
    row_not_meant c.args.which time c.in-Some.at c.args.rows.now c.index-rows-at.result rise c.in-Some.ensures.some c.index-rows-at.is (sym (c.is_met.ensures (transaction_of c.index-rows-at.result) refl refl) ∙ c.if-is_met.false)
