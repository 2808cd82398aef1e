use Rattle.job_steps.specs.declared.fault.ToolFault.TheVariants.{NoOpen, ReadFault, WriteFault}
use Rattle.varnish_tools.proofs.CountedLemmas.{fault_counted}
use Rattle.varnish_tools.proofs.QuietLemmas.{quiet_work}
use Rattle.varnish_tools.proofs.laws.faults_are_counted.Goals as goal

pub returns-clause-opened : goal.returns-clause-opened
returns-clause-opened c = λ words outcome before now name. fault_counted (NoOpen name) words outcome before now

pub returns-clause-read : goal.returns-clause-read
returns-clause-read c = λ words outcome before now name. fault_counted (ReadFault name) words outcome before now

pub returns-clause-written : goal.returns-clause-written
returns-clause-written c = λ words outcome before now name. fault_counted (WriteFault name) words outcome before now

pub returns-clause-quiet : goal.returns-clause-quiet
returns-clause-quiet c = quiet_work
