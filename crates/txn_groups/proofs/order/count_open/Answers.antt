use Rattle.std.proofs.Common.{◌≡◌, ◌∙◌, rules}
use Rattle.std.specs.Prelude.{count_by}
use Rattle.txn_groups.specs.inside.Order.{is_open_at}
use Rattle.txn_groups.proofs.CountLemmas.{open_counted}
use Rattle.txn_groups.proofs.order.count_open.Goals as goal

pub returns : goal.returns
returns c =
    let counted : c.count.result ≡ count_by (is_open_at c.args.nodes.now) c.args.order.now = search rules in
    counted ∙ open_counted c.args.nodes.now c.args.order.now
