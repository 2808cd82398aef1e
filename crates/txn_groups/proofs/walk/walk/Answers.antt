use Rattle.std.proofs.Common.{◌≡◌, rules, arith, refl, length}
use Rattle.std.proofs.lemmas.List.{nil_from_length}
use Rattle.std.proofs.lemmas.Option.{slice_get_read, slice_get_past}
use Rattle.txn_groups.proofs.VisitLemmas.{walks_first, walks_more, walks_end, walks_inside, walks_all}
use Rattle.txn_groups.proofs.walk.walk.Goals as goal

pub loop-i-init : goal.loop-i-init
loop-i-init c = λ begun root order rows are is.
    let w = walks_first begun root c.args.size c.args.top c.args.nodes.now order rows are is in
    let stack = c.in_ok-push.ensures.ok in
    let none = c.in_ok-visits.ensures.items in
    rw (stack, none, c.new-later.ensures.items) w

pub returns-in_default : goal.returns-in_default
returns-in_default c = λ begun root order rows are is.
    walks_end begun root c.loop-i.i c.args.nodes.now order rows c.loop-i.visits.items c.loop-i.later.items are (c.loop-i.invariant begun root order rows are is) (nil_from_length c.loop-i.later.items (search rules))

pub returns-in_default-get : goal.returns-in_default-get
returns-in_default-get c = λ begun root order rows are is.
    absurd (walks_inside c.args.nodes.now rows root c.loop-i.i c.loop-i.visits.items c.loop-i.later.items c.pop.new.self.items c.in-Some.visit (c.loop-i.invariant begun root order rows are is) c.in-Some.ensures.items (slice_get_past c.args.nodes.now c.in-Some.visit.at c.in_default-get.ensures.lookup.3))

pub loop-i-preserved : goal.loop-i-preserved
loop-i-preserved c = λ begun root order rows are is.
    let more = walks_more begun root c.loop-i.i c.args.nodes.now order rows c.loop-i.visits.items c.loop-i.later.items c.pop.new.self.items c.in-Some.visit c.in-Some-get.node.now are (c.loop-i.invariant begun root order rows are is) c.in-Some.ensures.items (slice_get_read c.args.nodes.now (length c.args.nodes.now) c.in-Some.visit.at c.in-Some-get.node.now refl c.in-Some-get.ensures.lookup.3.0 c.in-Some-get.ensures.lookup.1) in
    rw (c.in_ok-push-2.ensures.ok, c.in_ok-put_below.ensures, c.in_ok-put_off.ensures) more

pub returns : goal.returns
returns c = λ begun root order rows are is.
    let w = c.loop-i.invariant begun root order rows are is in
    let all : c.loop-i.i ≡ c.args.size = omega (arith, c.loop-i-test.false) in
    walks_all begun root c.args.size c.args.top c.args.nodes.now order rows c.loop-i.visits.items c.loop-i.later.items are is (rw all at w)
