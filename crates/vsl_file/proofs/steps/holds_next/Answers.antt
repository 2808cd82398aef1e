use Rattle.vsl_file.proofs.UnitLemmas.{sized_holds, broken_holds}
use Rattle.vsl_file.proofs.steps.holds_next.Goals as goal

pub returns-in-Some : goal.returns-in-Some
returns-in-Some c = sized_holds c.args.version c.in-Some.size c.args.bytes.now c.in-Some.ensures.some

pub returns-in-None : goal.returns-in-None
returns-in-None c = broken_holds c.args.version c.args.bytes.now c.in-None.ensures.none
