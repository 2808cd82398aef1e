use Rattle.std.proofs.Common.{rules}
use Rattle.std.proofs.lemmas.Fn.{filter_same}
use Rattle.txn_groups.specs.inside.Order.{is_live}
use Rattle.txn_groups.proofs.order.keep_live.Goals as goal

pub returns : goal.returns
returns c = filter_same _ (is_live c.args.nodes.now) _ (λ x b f k. search rules) _ _ c.retain.ensures.filtered
