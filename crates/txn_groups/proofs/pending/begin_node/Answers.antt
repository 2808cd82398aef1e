use Rattle.std.proofs.Common.{◌≡◌, ◌+◌, refl, ap, ◌∙◌, arith}
use Rattle.txn_groups.specs.declared.node.Node.{Node}
use Rattle.txn_groups.specs.inside.Begun.{fresh_node}
use Rattle.txn_groups.specs.inside.Indexed.{newest_in}
use Rattle.txn_groups.specs.inside.Kin.{relinked}
use Rattle.txn_groups.specs.inside.Places.{IsFreePlace, IsPut}
use Rattle.txn_groups.specs.inside.Retold.{AreChanged}
use Rattle.txn_groups.proofs.MarkedLemmas.{keep_put}
use Rattle.txn_groups.proofs.StartLemmas.{begin_went, rows_begun}
use Rattle.txn_groups.proofs.pending.begin_node.Goals as goal

pub returns-clause-went : goal.returns-clause-went
returns-clause-went c = λ held.
    let p = c.args.pending.now in
    let at = c.take_place-at.result in
    let place : IsFreePlace p.nodes.items c.take_place-at.new.free.items at = (rw c.deref.ensures.value at c.take_place-at.ensures) held.free in
    let older_is : c.newest-older.result ≡ newest_in p.index c.args.vxid = c.newest-older.ensures in
    let changed : AreChanged (relinked (newest_in p.index c.args.vxid) at) p.nodes.items c.set_newer.new.nodes.items = rw older_is at c.set_newer.ensures.changed in
    let f : Node = fresh_node at p.begun c.args.vxid p.time (newest_in p.index c.args.vxid) in
    let node_is : c.empty_node-node.result ≡ f = c.empty_node-node.ensures ∙ ap (fresh_node at p.begun c.args.vxid p.time) older_is in
    let put : IsPut c.set_newer.new.nodes.items c.put_node.new.nodes.items at f = rw node_is at (c.in_ok-put_node.ensures (omega (arith, place.within, c.set_newer.ensures.len))) in
    let rows_is : c.saturating_add-rows.result ≡ p.rows + 1 = omega (arith, rows_begun p held, c.saturating_add-rows.ensures, c.if-pending.false) in
    begin_went c.args.vxid at p _ c.set_newer.new.nodes.items held place changed put (c.in_ok-push.ensures.items) (c.in_ok-put.ensures) refl refl rows_is

pub returns-clause-marks : goal.returns-clause-marks
returns-clause-marks c = λ held.
    let p = c.args.pending.now in
    let at = c.take_place-at.result in
    let place : IsFreePlace p.nodes.items c.take_place-at.new.free.items at = (rw c.deref.ensures.value at c.take_place-at.ensures) held.free in
    let older_is : c.newest-older.result ≡ newest_in p.index c.args.vxid = c.newest-older.ensures in
    let changed : AreChanged (relinked (newest_in p.index c.args.vxid) at) p.nodes.items c.set_newer.new.nodes.items = rw older_is at c.set_newer.ensures.changed in
    let f : Node = fresh_node at p.begun c.args.vxid p.time (newest_in p.index c.args.vxid) in
    let node_is : c.empty_node-node.result ≡ f = c.empty_node-node.ensures ∙ ap (fresh_node at p.begun c.args.vxid p.time) older_is in
    let put : IsPut c.set_newer.new.nodes.items c.put_node.new.nodes.items at f = rw node_is at (c.in_ok-put_node.ensures (omega (arith, place.within, c.set_newer.ensures.len))) in
    keep_put p.nodes.items c.set_newer.new.nodes.items c.put_node.new.nodes.items at f (newest_in p.index c.args.vxid) changed put refl refl
