use Rattle.std.proofs.Common.{length, refl, arith}
use Rattle.std.proofs.lemmas.Option.{slice_get_read, slice_get_past}
use Rattle.txn_groups.proofs.FoundLemmas.{finds_first, finds_none, finds_last, finds_more, finds_all}
use Rattle.txn_groups.proofs.forest.last_of.Goals as goal

pub loop-i-init : goal.loop-i-init
loop-i-init c = λ begun order rows x are few there. finds_first begun c.args.nodes.now order rows c.args.at x are there

pub returns-in_default : goal.returns-in_default
returns-in_default c = λ begun order rows x are few there.
    absurd (finds_none c.args.nodes.now rows c.args.at c.loop-i.last c.loop-i.i (c.loop-i.invariant begun order rows x are few there) (slice_get_past c.args.nodes.now c.loop-i.last c.in_default.ensures.lookup.3))

pub returns-then-node-last : goal.returns-then-node-last
returns-then-node-last c = λ begun order rows x are few there.
    let nodes = c.args.nodes.now in
    finds_last nodes rows c.args.at c.loop-i.last c.loop-i.i c.in-Some.node.now (c.loop-i.invariant begun order rows x are few there)
    (slice_get_read nodes (length nodes) c.loop-i.last c.in-Some.node.now refl c.in-Some.ensures.lookup.3.0 c.in-Some.ensures.lookup.1) c.if-node-last.true

pub loop-i-preserved : goal.loop-i-preserved
loop-i-preserved c = λ begun order rows x are few there.
    let nodes = c.args.nodes.now in
    finds_more begun nodes order rows c.args.at c.loop-i.last c.loop-i.i c.in-Some.node.now are (c.loop-i.invariant begun order rows x are few there)
    (slice_get_read nodes (length nodes) c.loop-i.last c.in-Some.node.now refl c.in-Some.ensures.lookup.3.0 c.in-Some.ensures.lookup.1) c.if-node-last.false

pub returns : goal.returns
returns c = λ begun order rows x are few there.
    absurd (finds_all begun c.args.nodes.now order rows c.args.at c.loop-i.last c.loop-i.i are (c.loop-i.invariant begun order rows x are few there) (omega (arith, few, c.loop-i-test.false)))
