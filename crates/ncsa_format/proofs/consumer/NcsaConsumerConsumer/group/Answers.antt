use Rattle.std.proofs.Common.{[], ◌∷◌, length, length-append, arith}
use Rattle.std.proofs.lemmas.Grind.{common_steps}
use Rattle.std.proofs.lemmas.Result.{on_ok_weaker}
use Rattle.ncsa_format.proofs.consumer.NcsaConsumerConsumer.group.Goals as goal

pub returns-clause-takes : goal.returns-clause-takes
returns-clause-takes c = on_ok_weaker c.add_one.result
    (λ counts groups taken log. record {
      received = rw (length-append groups (c.args.group.now ∷ [])) (counts (length groups) log.received);
      text = grind (arith, common_steps, c.in_ok-put_lines.ensures, log.text);
    })
    c.add_one.ensures.counts
