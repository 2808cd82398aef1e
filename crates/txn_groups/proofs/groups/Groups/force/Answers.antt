use Rattle.std.proofs.Common.{sym, ◌∙◌}
use Rattle.std.proofs.Math.Logic.{∥∥₁_map}
use Rattle.txn_rows.specs.Grouping.{force}
use Rattle.txn_rows.proofs.TableLemmas.{with_ok, force_sound}
use Rattle.txn_groups.specs.Groups.{chosen}
use Rattle.txn_groups.specs.inside.Trees.{IsTrees, state_of_trees}
use Rattle.txn_groups.proofs.GroupsLemmas.{groups_stepped}
use Rattle.txn_groups.proofs.groups.Groups.force.Goals as goal

-- the store stays sound
pub invariant_of-self : goal.invariant_of-self
invariant_of-self c = record {
  sound = λ kept.
      let g = c.args.self.now in
      let queries = g.queries.now in
      ∥∥₁_map (g.sound c.if-self.false) (λ s.
      force_sound (IsTrees queries) state_of_trees (chosen queries) g.options.limit g.options.grouping c.args.cause g.store c.force_oldest-forced.new.store c.args.out.now.items c.force_oldest-forced.new.out.items s
      (with_ok c.force_oldest-forced.result (sym c.is_err-self.ensures.value ∙ kept) (c.force_oldest-forced.ensures.ok queries s.ordered)));
}

pub returns-clause-ok : goal.returns-clause-ok
returns-clause-ok c =
    let g = c.args.self.now in
    groups_stepped c.force_oldest-forced.result g.options g.queries.now (force c.args.cause (state_of_trees g.store)) g.store c.force_oldest-forced.new.store g.failed c.is_err-self.result c.args.out.now.items c.force_oldest-forced.new.out.items c.if-self.false c.is_err-self.ensures.value (g.sound c.if-self.false) (c.force_oldest-forced.ensures.ok g.queries.now)
