use Rattle.std.proofs.Common.{refl}
use Rattle.txn_groups.specs.declared.pending.Pending.{Pending}
use Rattle.txn_groups.proofs.LinkRowLemmas.{refused_went, linked_went}
use Rattle.txn_groups.proofs.link_row.link_row.Goals as goal

pub returns-in-Some-clause-went : goal.returns-in-Some-clause-went
returns-in-Some-clause-went c = λ child parent held c_told p_told.
    let p : Pending = c.args.pending.now in
    let m : Pending = record p { nodes = c.link_nodes.new.nodes } in
    linked_went child parent c.args.below c.args.above p m c.linking_of.result c.in-Some.l held c_told p_told (rw c.deref.ensures.value at c.linking_of.ensures) c.in-Some.is c.link_nodes.ensures refl refl refl refl refl refl

pub returns-in-None-clause-went : goal.returns-in-None-clause-went
returns-in-None-clause-went c = λ child parent held c_told p_told.
    refused_went child parent c.args.below c.args.above c.args.pending.now c.linking_of.result held c_told p_told (rw c.deref.ensures.value at c.linking_of.ensures) c.in-None.is
