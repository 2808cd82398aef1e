use Rattle.varnish_tools.proofs.ConvertedLemmas.{convert_whole}
use Rattle.varnish_tools.proofs.ToldLemmas.{no_fault}
use Rattle.varnish_tools.proofs.laws.good_words_have_no_fault.Goals as goal

pub returns-clause-tool : goal.returns-clause-tool
returns-clause-tool c = no_fault c.good_steps_pass.ensures c.faults_have_failed_calls.ensures.cause c.faults_have_failed_calls.ensures.whole

pub returns-clause-convert : goal.returns-clause-convert
returns-clause-convert c = convert_whole c.good_steps_pass.ensures c.faults_have_failed_calls.ensures.convert c.faults_have_failed_calls.ensures.whole
