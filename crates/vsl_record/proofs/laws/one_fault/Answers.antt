use Rattle.vsl_record.proofs.UnitReadingLemmas.{one_fault_of, no_fault_of}
use Rattle.vsl_record.proofs.laws.one_fault.Goals as goal

pub returns-clause-one : goal.returns-clause-one
returns-clause-one c = one_fault_of

pub returns-clause-none : goal.returns-clause-none
returns-clause-none c = no_fault_of
