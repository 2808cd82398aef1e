use Rattle.std.proofs.Common.{length, refl}
use Rattle.std.proofs.lemmas.Result.{on_ok_weaker}
use Rattle.tool_consumers.proofs.ConsumerLemmas.{group_taken}
use Rattle.tool_consumers.proofs.log_consumer.LogConsumerConsumer.group.Goals as goal

pub returns-clause-takes : goal.returns-clause-takes
returns-clause-takes c = on_ok_weaker c.add_one.result
    (λ counts groups taken log. group_taken c.args.self.now _ groups c.args.group.now taken log c.put_group.ensures.same (counts (length groups) log.count) (rw c.make_room.ensures at c.in_ok-put_group.ensures.text))
    c.add_one.ensures.counts
