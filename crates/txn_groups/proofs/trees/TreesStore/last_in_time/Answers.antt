use Rattle.std.proofs.Common.{ℕ, Some, ap, ◌∙◌}
use Rattle.std.specs.Prelude.{Option}
use Rattle.std.specs.Option.{is_some}
use Rattle.txn_rows.specs.declared.which.Which.TheVariants.{Late}
use Rattle.txn_rows.specs.Grouping.{is_behind}
use Rattle.txn_rows.proofs.ForceAllLemmas.{none_meant}
use Rattle.txn_groups.specs.inside.Trees.{state_of_trees}
use Rattle.txn_groups.proofs.TreesLemmas.{none_late_up_to}
use Rattle.txn_groups.proofs.trees.TreesStore.last_in_time.Goals as goal

pub returns-in_default-seek_oldest-clause-late : goal.returns-in_default-seek_oldest-clause-late
returns-in_default-seek_oldest-clause-late c = λ queries trees times.
    let none = c.in_default-seek_oldest.ensures.none trees.held trees.low in
    record {
      known = ap (λ (o : Option ℕ). is_some o) c.in-Some.is;
      none = λ now by. none_meant (Late c.args.seconds (Some now)) (state_of_trees c.args.self.now).pending none;
      begins = λ now by. ap (λ (o : Option ℕ). is_behind c.args.seconds o (Some now)) c.in-Some.is ∙ c.last_in_time.ensures now by;
    }

pub returns-clause-late : goal.returns-clause-late
returns-clause-late c = λ queries trees times.
    let o = c.in-Some-seek_oldest.ensures.some trees.held trees.low in
    none_late_up_to c.args.seconds c.last_in_time-2.result c.args.self.now.pending c.in-Some-seek_oldest.at c.index.result.now c.in-Some-time.time o c.in-Some-seek_oldest.ensures.within c.index.ensures c.in-Some-time.is
    (ap (λ (t : Option ℕ). is_some t) c.in-Some.is) times c.last_in_time-2.ensures
