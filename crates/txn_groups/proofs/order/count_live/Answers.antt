use Rattle.std.proofs.Common.{◌≡◌, ◌∙◌, rules}
use Rattle.std.specs.Prelude.{count_by}
use Rattle.txn_groups.specs.inside.Order.{is_live}
use Rattle.txn_groups.proofs.CountLemmas.{live_counted}
use Rattle.txn_groups.proofs.order.count_live.Goals as goal

pub returns : goal.returns
returns c =
    let counted : c.count.result ≡ count_by (is_live c.args.nodes.now) c.args.order.now = search rules in
    counted ∙ live_counted c.args.nodes.now c.args.order.now
