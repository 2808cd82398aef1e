use Rattle.std.proofs.Common.{length, refl, sym, ◌∙◌}
use Rattle.std.proofs.lemmas.Option.{slice_get_read, slice_get_past}
use Rattle.txn_groups.specs.declared.node.Node.{Node}
use Rattle.txn_groups.specs.declared.walk.Visit.{Visit}
use Rattle.txn_groups.proofs.TreeOutLemmas.{first_there, led_by}
use Rattle.txn_groups.proofs.leave.is_led_by_session.Goals as goal

pub returns-in_default-get : goal.returns-in_default-get
returns-in_default-get c = λ all.
    let v : Visit = c.in-Some.root.now in
    absurd (first_there c.args.nodes.now c.args.visits.now v (sym c.in-Some.ensures.value) all (slice_get_past c.args.nodes.now v.at c.in_default-get.ensures.lookup.3))

pub returns : goal.returns
returns c = λ all.
    let v : Visit = c.in-Some.root.now in
    let x : Node = c.in-Some-get.node.now in
    let seen = slice_get_read c.args.nodes.now (length c.args.nodes.now) v.at x refl c.in-Some-get.ensures.lookup.3.0 c.in-Some-get.ensures.lookup.1 in
    c.is_session.ensures ∙ led_by c.args.nodes.now c.args.visits.now v x (sym c.in-Some.ensures.value) seen
