use Rattle.std.proofs.Common.{◌+◌, take, sym, subst}
use Rattle.std.proofs.lemmas.List.{get_or_default}
use Rattle.txn_rows.specs.declared.group.Member.{Member}
use Rattle.txn_groups.specs.inside.Taken.{TakesOut, AreTaken}
use Rattle.txn_groups.proofs.TakenLemmas.{can_take, taken_step}
use Rattle.txn_groups.proofs.take_node.take_visits.Goals as goal

pub returns-in_default : goal.returns-in_default
returns-in_default c = λ all few kin is free.
    let so_far = c.loop-i.invariant all few kin is free in
    let can = can_take c.args.pending.now c.loop-i.pending c.args.visits.now c.loop-i.i _ c.loop-i.members c.loop-i-test.true (get_or_default c.args.visits.now c.loop-i.i _ _ c.loop-i-test.true) all few so_far in
    absurd (subst (TakesOut c.loop-i.pending c.take_node.new.pending _) c.in_default.is (c.in_ok-taken.ensures can.node can.there can.some so_far.kin so_far.index so_far.free))

pub loop-i-preserved : goal.loop-i-preserved
loop-i-preserved c = λ all few kin is free.
    let so_far = c.loop-i.invariant all few kin is free in
    let m : Member = c.in-Some.member in
    let can = can_take c.args.pending.now c.loop-i.pending c.args.visits.now c.loop-i.i _ c.loop-i.members c.loop-i-test.true (get_or_default c.args.visits.now c.loop-i.i _ _ c.loop-i-test.true) all few so_far in
    let one = subst (TakesOut c.loop-i.pending c.take_node.new.pending _) c.in-Some.is (c.in_ok-taken.ensures can.node can.there can.some so_far.kin so_far.index so_far.free) in
    let now = taken_step c.args.pending.now c.loop-i.pending c.take_node.new.pending c.args.visits.now c.loop-i.i _ c.loop-i.members m c.loop-i-test.true (get_or_default c.args.visits.now c.loop-i.i _ _ c.loop-i-test.true) so_far one in
    subst (AreTaken c.args.pending.now c.take_node.new.pending (take (c.loop-i.i + 1) c.args.visits.now)) (sym (c.in_ok-push.ensures.ok)) now
