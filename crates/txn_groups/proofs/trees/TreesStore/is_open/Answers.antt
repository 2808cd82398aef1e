use Rattle.std.proofs.Common.{◌≡◌, true, not, ap, sym, ◌∙◌}
use Rattle.std.specs.Prelude.{Option}
use Rattle.std.specs.Option.{option_map_or}
use Rattle.txn_groups.specs.declared.node.Node.{Node}
use Rattle.txn_groups.specs.inside.Indexed.{newest_in}
use Rattle.txn_groups.proofs.IndexLemmas.{newest_at}
use Rattle.txn_groups.proofs.trees.TreesStore.is_open.Goals as goal

pub returns : goal.returns
returns c = λ queries trees.
    let p = c.args.self.now.pending in
    let held = trees.held in
    let n = newest_at p.begun p.nodes.items p.order.items held.stand c.args.vxid c.args.at (newest_in p.index c.args.vxid) held.are (held.index c.args.vxid) c.requires in
    let ended : c.is_ended.result ≡ n.node.ended = (rw c.deref.ensures.value at c.is_ended.ensures) ∙ ap (λ (o : Option Node). option_map_or (λ (x : Node). x.ended) o true) n.there.here in
    ap not ended ∙ sym n.newest.is_open
