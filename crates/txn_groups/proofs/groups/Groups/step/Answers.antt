use Rattle.std.proofs.Common.{sym, ◌∙◌}
use Rattle.std.specs.Coded.{le_prop}
use Rattle.std.proofs.lemmas.Result.{on_ok_weaker}
use Rattle.std.proofs.Math.Logic.{∥∥₁_map}
use Rattle.txn_rows.specs.Grouping.{TakenUnit, unit_step}
use Rattle.txn_rows.proofs.TableLemmas.{with_ok, unit_sound}
use Rattle.txn_groups.specs.Groups.{chosen}
use Rattle.txn_groups.specs.inside.Trees.{IsTrees, state_of_trees}
use Rattle.txn_groups.proofs.GroupsLemmas.{groups_stepped, groups_failed, on_ok_elim}
use Rattle.txn_groups.proofs.HaveTakenLemmas.{taken_more, unit_parted}
use Rattle.txn_groups.proofs.groups.Groups.step.Goals as goal

-- the store stays sound
pub invariant_of-self : goal.invariant_of-self
invariant_of-self c = record {
  sound = λ kept.
      let g = c.args.self.now in
      let queries = g.queries.now in
      ∥∥₁_map (g.sound c.if-self.false) (λ s.
      unit_sound (IsTrees queries) state_of_trees (chosen queries) g.options c.args.unit.now g.store c.take_unit-taken.new.store c.args.out.now.items c.take_unit-taken.new.out.items s
      (with_ok c.take_unit-taken.result (sym c.is_err-self.ensures.value ∙ kept) (c.take_unit-taken.ensures.ok queries s.ordered)));
}

pub returns-clause-ok : goal.returns-clause-ok
returns-clause-ok c =
    let g = c.args.self.now in
    groups_stepped c.take_unit-taken.result g.options g.queries.now (unit_step g.options c.args.unit.now (state_of_trees g.store)) g.store c.take_unit-taken.new.store g.failed c.is_err-self.result c.args.out.now.items c.take_unit-taken.new.out.items c.if-self.false c.is_err-self.ensures.value (g.sound c.if-self.false) (c.take_unit-taken.ensures.ok g.queries.now)

pub returns-clause-err : goal.returns-clause-err
returns-clause-err c =
    let g = c.args.self.now in
    groups_failed c.take_unit-taken.result g.options g.queries.now (unit_step g.options c.args.unit.now (state_of_trees g.store)) g.store c.take_unit-taken.new.store g.failed c.is_err-self.result c.args.out.now.items c.take_unit-taken.new.out.items c.is_err-self.ensures.value (g.sound c.if-self.false) (c.take_unit-taken.ensures.err g.queries.now)

pub returns-clause-limit : goal.returns-clause-limit
returns-clause-limit c =
    let g = c.args.self.now in
    let queries = g.queries.now in
    on_ok_elim c.take_unit-taken.result (g.sound c.if-self.false) le_prop (λ s.
    on_ok_weaker c.take_unit-taken.result (λ went. (unit_sound (IsTrees queries) state_of_trees (chosen queries) g.options c.args.unit.now g.store c.take_unit-taken.new.store c.args.out.now.items c.take_unit-taken.new.out.items s went).within) (c.take_unit-taken.ensures.ok queries s.ordered))

pub returns-clause-taken : goal.returns-clause-taken
returns-clause-taken c =
    on_ok_weaker c.take_unit-taken.result (λ stepped taken have. taken_more taken (TakenUnit c.args.unit.now) _ _ _ _ have stepped) (returns-clause-ok c)

pub returns-clause-parted : goal.returns-clause-parted
returns-clause-parted c =
    on_ok_weaker c.take_unit-taken.result (λ stepped log trees regular calm have. unit_parted log c.args.unit.now _ _ _ _ trees regular calm have stepped) (returns-clause-ok c)
