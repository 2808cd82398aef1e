use Rattle.unit_text.proofs.UnitLemmas.{due_of_log}
use Rattle.unit_text.proofs.laws.a_converted_log_is_the_log.Goals as goal

pub returns : goal.returns
returns c = due_of_log
