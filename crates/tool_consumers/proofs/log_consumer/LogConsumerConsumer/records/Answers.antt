use Rattle.std.proofs.Common.{refl, sym, ◌∙◌}
use Rattle.tool_consumers.proofs.ConsumerLemmas.{none_from, records_taken}
use Rattle.tool_consumers.proofs.log_consumer.LogConsumerConsumer.records.Goals as goal

pub returns-clause-takes : goal.returns-clause-takes
returns-clause-takes c = λ groups taken log.
    records_taken c.args.self.now _ groups c.args.unit.now taken log c.put_raw.ensures.same (none_from _ (sym c.is_some.ensures ∙ c.if-is_some.false)) (rw c.make_room.ensures at c.in_ok-put_raw.ensures.text)
