use Rattle.std.proofs.Common.{sym, ◌∙◌}
use Rattle.txn_groups.specs.inside.Marked.{queries_of}
use Rattle.txn_groups.proofs.TreeOutLemmas.{group_handed, none_handed}
use Rattle.txn_groups.proofs.leave.hand_out.Goals as goal

pub returns-then-not-is_reported-clause-ok : goal.returns-then-not-is_reported-clause-ok
returns-then-not-is_reported-clause-ok c = λ all few marked kin is free.
    let told = sym ((rw c.deref.ensures.value at c.is_reported.ensures) all) ∙ c.if-not-is_reported.true in
    none_handed (queries_of c.args.askers.now) c.args.grouping c.args.pending.now c.take_visits.new.pending c.args.visits.now _ c.args.out.now.items told (c.in_ok-take_visits.ensures all few kin is free)

pub returns-clause-ok : goal.returns-clause-ok
returns-clause-ok c = λ all few marked kin is free.
    let told = sym ((rw c.deref.ensures.value at c.is_reported.ensures) all) ∙ c.if-not-is_reported.false in
    let answered = rw c.deref-2.ensures.value at c.in_ok-holds.ensures in
    group_handed (queries_of c.args.askers.now) c.args.grouping c.args.pending.now c.take_visits-2.new.pending c.args.visits.now c.in_ok-members.members c.in_ok-holds.holds c.args.out.now.items c.push.new.self.items told (c.in_ok-members.ensures all few kin is free) (answered all marked) c.in_ok-push.ensures.items
