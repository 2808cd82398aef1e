use Rattle.std.proofs.Common.{refl}
use Rattle.one_run.proofs.RunLemmas.{made_late}
use Rattle.one_run.proofs.pass.stop.Goals as goal

pub returns-in-None : goal.returns-in-None
returns-in-None g c = record { prints = λ start calls done p. let made = (rw c.in-None.is at c.in_ok-ending.ensures.prints) start calls done p in made_late made (refl, made.is) }
