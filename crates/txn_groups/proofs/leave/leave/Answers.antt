use Rattle.std.proofs.Common.{◌≡◌, Some, None, length, refl, ap, subst, arith}
use Rattle.std.specs.Prelude.{slice_get}
use Rattle.std.proofs.lemmas.Option.{slice_get_read, slice_get_past}
use Rattle.std.proofs.lemmas.Result.{on_ok_weaker}
use Rattle.txn_groups.specs.Groups.{chosen}
use Rattle.txn_groups.specs.declared.node.Node.{Node}
use Rattle.txn_groups.specs.inside.Walked.{IsTopAt, AreVisits}
use Rattle.txn_groups.specs.inside.Marked.{queries_of}
use Rattle.txn_groups.proofs.FoundLemmas.{same_node, none_there}
use Rattle.txn_groups.proofs.StartLemmas.{kin_of}
use Rattle.txn_groups.proofs.TreeOutLemmas.{tree_leaves, tree_stays, top_of, handed_of, visits_stand, visits_few}
use Rattle.txn_groups.proofs.leave.leave.Goals as goal

pub returns-in_default-clause-ok : goal.returns-in_default-clause-ok
returns-in_default-clause-ok c = λ queries rows n hold top asks marked.
    let nodes = c.args.pending.now.nodes.items in
    let past : slice_get nodes c.args.last ≡ None = rw c.deref.ensures.value at (slice_get_past c.deref.result.now c.args.last c.in_default.ensures.lookup.3) in
    absurd (none_there nodes c.args.last n.node n.there past)

pub returns-then-node-gt0-clause-ok : goal.returns-then-node-gt0-clause-ok
returns-then-node-gt0-clause-ok c = λ queries rows n hold top asks marked.
    let p = c.args.pending.now in
    let g : Node = c.in-Some.node.now in
    let seen = slice_get_read c.deref.result.now (length c.deref.result.now) c.args.last g refl c.in-Some.ensures.lookup.3.0 c.in-Some.ensures.lookup.1 in
    let read : slice_get p.nodes.items c.args.last ≡ Some g = rw c.deref.ensures.value at seen in
    let same : n.node ≡ g = same_node p.nodes.items c.args.last n.node g n.there read in
    tree_stays (chosen queries) c.args.grouping c.args.last p rows n c.args.out.now.items hold top (omega (arith, ap (λ (x : Node). x.unended) same, c.if-node-gt0.true))

pub returns-clause-ok : goal.returns-clause-ok
returns-clause-ok c = λ queries rows n hold top asks marked.
    let p = c.args.pending.now in
    let nodes = p.nodes.items in
    let g : Node = c.in-Some.node.now in
    let seen = slice_get_read c.deref.result.now (length c.deref.result.now) c.args.last g refl c.in-Some.ensures.lookup.3.0 c.in-Some.ensures.lookup.1 in
    let read : slice_get nodes c.args.last ≡ Some g = rw c.deref.ensures.value at seen in
    let same : n.node ≡ g = same_node nodes c.args.last n.node g n.there read in
    let from : IsTopAt nodes rows n.row.root g.size g.top = subst (λ (x : Node). IsTopAt nodes rows n.row.root x.size x.top) same (top_of c.args.last p rows n hold top) in
    let walked = rw c.deref-2.ensures.value at c.in_ok-visits.ensures in
    let all : AreVisits nodes rows n.row.root c.in_ok-visits.visits.items = walked p.begun n.row.root p.order.items rows hold.are from in
    let none : n.node.unended ≡ 0 = omega (arith, ap (λ (x : Node). x.unended) same, c.if-node-gt0.false) in
    let standing = visits_stand p.begun n.row.root nodes p.order.items rows c.in_ok-visits.visits.items hold.are all in
    let few = visits_few n.row.root p rows c.in_ok-visits.visits.items hold all in
    let handing = rw c.as_slice.ensures at c.hand_out.ensures.ok in
    let handed = handed_of c.hand_out.result (queries_of c.args.askers.now) queries c.args.grouping p c.hand_out.new.pending c.in_ok-visits.visits.items c.args.out.now.items c.hand_out.new.out.items asks marked
    (λ m. handing standing few m (kin_of p.begun nodes p.order.items rows hold.are) hold.index hold.free) in
    on_ok_weaker c.hand_out.result (λ h. tree_leaves (chosen queries) c.args.grouping c.args.last p c.hand_out.new.pending rows n c.in_ok-visits.visits.items c.args.out.now.items c.hand_out.new.out.items hold top none all h) handed
