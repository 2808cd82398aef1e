use Rattle.std.proofs.Common.{false, refl}
use Rattle.vsl_top.proofs.ConsumerLemmas.{ended}
use Rattle.vsl_top.proofs.consumer.TopConsumerConsumer.end.Goals as goal

pub returns-clause-ends : goal.returns-clause-ends
returns-clause-ends c = λ groups taken top. ended _ _ groups taken c.new-text.result.items top refl refl refl refl c.new-text.ensures.items (c.in_ok-report.ensures.ok groups false taken top)
