use Rattle.std.proofs.Common.{refl}
use Rattle.txn_groups.specs.Groups.{chosen}
use Rattle.txn_groups.specs.declared.pending.Pending.{Pending}
use Rattle.txn_groups.proofs.EndMarksLemmas.{forced_marked}
use Rattle.txn_groups.proofs.ForceRowLemmas.{forced_all, forced_keeps}
use Rattle.txn_groups.proofs.force_row.force_at.Goals as goal

pub returns-clause-ok : goal.returns-clause-ok
returns-clause-ok c = λ queries test x held there unended first asks ahead.
    let p : Pending = c.args.pending.now in
    let m : Pending = record p { nodes = c.force_node.new.nodes } in
    let marked = forced_marked queries c.args.cause c.args.at c.last_of-last.result p.nodes.items m.nodes.items ahead c.in_ok-force_node.ensures in
    forced_all c.leave.result (chosen queries) c.args.grouping test c.args.cause c.args.at c.last_of-last.result p m c.leave.new.pending x c.args.out.now.items c.leave.new.out.items held there unended first (rw c.deref.ensures.value at c.last_of-last.ensures) c.in_ok-force_node.ensures refl refl refl refl refl refl
    (λ rows n hold top. c.leave.ensures.ok queries rows n hold top asks marked)

pub returns-clause-marks : goal.returns-clause-marks
returns-clause-marks c = λ queries x held there unended asks ahead.
    let p : Pending = c.args.pending.now in
    let m : Pending = record p { nodes = c.force_node.new.nodes } in
    let marked = forced_marked queries c.args.cause c.args.at c.last_of-last.result p.nodes.items m.nodes.items ahead c.in_ok-force_node.ensures in
    forced_keeps c.leave.result (chosen queries) c.args.grouping queries c.args.cause c.args.at c.last_of-last.result p m c.leave.new.pending x c.args.out.now.items c.leave.new.out.items held there unended (rw c.deref.ensures.value at c.last_of-last.ensures) c.in_ok-force_node.ensures refl refl refl refl refl marked
    (λ rows n hold top. c.leave.ensures.ok queries rows n hold top asks marked)
