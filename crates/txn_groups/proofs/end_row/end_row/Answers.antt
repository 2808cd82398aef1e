use Rattle.std.proofs.Common.{refl, sym, ◌∙◌}
use Rattle.txn_groups.specs.Groups.{chosen}
use Rattle.txn_groups.specs.declared.pending.Pending.{Pending}
use Rattle.txn_groups.proofs.EndMarksLemmas.{ended_marked}
use Rattle.txn_groups.proofs.EndRowLemmas.{ended_all, ended_keeps, again_all, again_keeps}
use Rattle.txn_groups.proofs.end_row.end_row.Goals as goal

pub returns-then-is_ended-clause-ok : goal.returns-then-is_ended-clause-ok
returns-then-is_ended-clause-ok c = λ queries vxid held told asks marked.
    let p : Pending = c.args.pending.now in
    again_all c.leave.result (chosen queries) c.args.grouping vxid c.args.at c.last_of-last.result p c.leave.new.pending c.args.out.now.items c.leave.new.out.items held told (sym (rw c.deref-2.ensures.value at c.is_ended.ensures) ∙ c.if-is_ended.true) (rw c.deref.ensures.value at c.last_of-last.ensures)
    (λ rows n hold top. c.leave.ensures.ok queries rows n hold top asks marked)

pub returns-then-is_ended-clause-marks : goal.returns-then-is_ended-clause-marks
returns-then-is_ended-clause-marks c = λ queries vxid held told asks marked.
    let p : Pending = c.args.pending.now in
    again_keeps c.leave.result (chosen queries) c.args.grouping queries vxid c.args.at c.last_of-last.result p c.leave.new.pending c.args.out.now.items c.leave.new.out.items held told (rw c.deref.ensures.value at c.last_of-last.ensures) marked
    (λ rows n hold top. c.leave.ensures.ok queries rows n hold top asks marked)

pub returns-clause-ok : goal.returns-clause-ok
returns-clause-ok c = λ queries vxid held told asks marked.
    let p : Pending = c.args.pending.now in
    let m : Pending = record p { nodes = c.end_node.new.nodes } in
    let now_marked = ended_marked queries c.args.at c.last_of-last.result p.nodes.items m.nodes.items marked c.end_node.ensures in
    ended_all c.leave-2.result (chosen queries) c.args.grouping vxid c.args.at c.last_of-last.result p m c.leave-2.new.pending c.args.out.now.items c.leave-2.new.out.items held told (sym (rw c.deref-2.ensures.value at c.is_ended.ensures) ∙ c.if-is_ended.false) (rw c.deref.ensures.value at c.last_of-last.ensures) c.end_node.ensures refl refl refl refl refl refl
    (λ rows n hold top. c.leave-2.ensures.ok queries rows n hold top asks now_marked)

pub returns-clause-marks : goal.returns-clause-marks
returns-clause-marks c = λ queries vxid held told asks marked.
    let p : Pending = c.args.pending.now in
    let m : Pending = record p { nodes = c.end_node.new.nodes } in
    let now_marked = ended_marked queries c.args.at c.last_of-last.result p.nodes.items m.nodes.items marked c.end_node.ensures in
    ended_keeps c.leave-2.result (chosen queries) c.args.grouping queries vxid c.args.at c.last_of-last.result p m c.leave-2.new.pending c.args.out.now.items c.leave-2.new.out.items held told (sym (rw c.deref-2.ensures.value at c.is_ended.ensures) ∙ c.if-is_ended.false) (rw c.deref.ensures.value at c.last_of-last.ensures) c.end_node.ensures refl refl refl refl refl now_marked
    (λ rows n hold top. c.leave-2.ensures.ok queries rows n hold top asks now_marked)
