use Rattle.std.proofs.Common.{length, refl}
use Rattle.vsl_top.proofs.ConsumerLemmas.{group_taken, on_ok}
use Rattle.vsl_top.proofs.consumer.TopConsumerConsumer.group.Goals as goal

pub returns-clause-takes : goal.returns-clause-takes
returns-clause-takes c = on_ok c.add_one.result
    (λ counts groups taken top. group_taken c.args.self.now _ groups c.args.group.now taken top c.add_group.ensures.same refl refl (counts (length groups) top.received) c.in_ok-add_group.ensures.counted)
    c.add_one.ensures.counts
