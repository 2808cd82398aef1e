use Rattle.varnish_tools.proofs.SaidLemmas.{part_said, said_so}
use Rattle.varnish_tools.proofs.tools.report.Goals as goal

pub returns-clause-said : goal.returns-clause-said
returns-clause-said g c = rw c.in-Some.is (said_so c.say.result _ c.in_ok-text.text.items _ _ c.in_ok-text.ensures (rw c.deref.ensures.value at c.say.ensures.said))

pub returns-clause-part : goal.returns-clause-part
returns-clause-part g c = part_said c.say.result _ _ _ c.in_ok-text.text.items _ _ c.in-Some.is c.in_ok-text.ensures (rw c.deref.ensures.value at c.say.ensures.part)
