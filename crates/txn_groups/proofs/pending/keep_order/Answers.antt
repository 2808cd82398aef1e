use Rattle.std.proofs.Common.{◌≡◌, refl}
use Rattle.txn_groups.specs.inside.Order.{live}
use Rattle.txn_groups.proofs.OrderLemmas.{live_went}
use Rattle.txn_groups.proofs.pending.keep_order.Goals as goal

pub returns-then-len-saturating_add-clause-went : goal.returns-then-len-saturating_add-clause-went
returns-then-len-saturating_add-clause-went c = λ held.
    let p = c.args.pending.now in
    let order_is : c.keep_live.new.order.items ≡ live p.nodes.items p.order.items = rw c.deref.ensures.value at c.keep_live.ensures in
    live_went p _ held order_is refl refl refl refl refl refl
