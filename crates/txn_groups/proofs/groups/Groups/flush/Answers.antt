use Rattle.std.proofs.Common.{sym, ◌∙◌}
use Rattle.std.specs.Coded.{Coded-set, coded_ℕ}
use Rattle.std.proofs.lemmas.Result.{on_ok_weaker}
use Rattle.std.proofs.Math.Logic.{∥∥₁_map}
use Rattle.txn_rows.specs.Grouping.{Missed, flush}
use Rattle.txn_rows.proofs.TableLemmas.{with_ok, flush_sound, flushed_none}
use Rattle.txn_groups.specs.Groups.{chosen}
use Rattle.txn_groups.specs.inside.Trees.{IsTrees, state_of_trees}
use Rattle.txn_groups.proofs.GroupsLemmas.{groups_stepped, groups_failed, on_ok_elim}
use Rattle.txn_groups.proofs.HaveTakenLemmas.{taken_more, flush_parted}
use Rattle.txn_groups.proofs.groups.Groups.flush.Goals as goal

-- the store stays sound
pub invariant_of-self : goal.invariant_of-self
invariant_of-self c = record {
  sound = λ kept.
      let g = c.args.self.now in
      let queries = g.queries.now in
      ∥∥₁_map (g.sound c.if-self.false) (λ s.
      flush_sound (IsTrees queries) state_of_trees (chosen queries) g.options.limit g.options.grouping g.store c.flush_all-flushed.new.store c.args.out.now.items c.flush_all-flushed.new.out.items s
      (with_ok c.flush_all-flushed.result (sym c.is_err-self.ensures.value ∙ kept) (c.flush_all-flushed.ensures.ok queries s.ordered)));
}

pub returns-clause-ok : goal.returns-clause-ok
returns-clause-ok c =
    let g = c.args.self.now in
    groups_stepped c.flush_all-flushed.result g.options g.queries.now (flush (state_of_trees g.store)) g.store c.flush_all-flushed.new.store g.failed c.is_err-self.result c.args.out.now.items c.flush_all-flushed.new.out.items c.if-self.false c.is_err-self.ensures.value (g.sound c.if-self.false) (c.flush_all-flushed.ensures.ok g.queries.now)

pub returns-clause-err : goal.returns-clause-err
returns-clause-err c =
    let g = c.args.self.now in
    groups_failed c.flush_all-flushed.result g.options g.queries.now (flush (state_of_trees g.store)) g.store c.flush_all-flushed.new.store g.failed c.is_err-self.result c.args.out.now.items c.flush_all-flushed.new.out.items c.is_err-self.ensures.value (g.sound c.if-self.false) (c.flush_all-flushed.ensures.err g.queries.now)

pub returns-clause-none : goal.returns-clause-none
returns-clause-none c =
    let g = c.args.self.now in
    let queries = g.queries.now in
    on_ok_elim c.flush_all-flushed.result (g.sound c.if-self.false) (Coded-set coded_ℕ _ _) (λ s.
    on_ok_weaker c.flush_all-flushed.result (flushed_none (IsTrees queries) state_of_trees (chosen queries) g.options.limit g.options.grouping g.store c.flush_all-flushed.new.store c.args.out.now.items c.flush_all-flushed.new.out.items s) (c.flush_all-flushed.ensures.ok queries s.ordered))

pub returns-clause-taken : goal.returns-clause-taken
returns-clause-taken c =
    on_ok_weaker c.flush_all-flushed.result (λ stepped taken have. taken_more taken Missed _ _ _ _ have stepped) (returns-clause-ok c)

pub returns-clause-parted : goal.returns-clause-parted
returns-clause-parted c =
    on_ok_weaker c.flush_all-flushed.result (λ stepped log trees regular calm have. flush_parted log _ _ _ _ trees regular calm have stepped) (returns-clause-ok c)
