use Rattle.std.proofs.Common.{arith, inl, inr}
use Rattle.one_run.proofs.CountLemmas.{met_and}
use Rattle.one_run.proofs.met.Met.and.Goals as goal

pub returns-in-Unit-clause-count : goal.returns-in-Unit-clause-count
returns-in-Unit-clause-count c list is = rw c.in-Unit.is (met_and _ _ list _ (omega arith) (omega arith) is)

pub returns-in-Overrun-clause-count : goal.returns-in-Overrun-clause-count
returns-in-Overrun-clause-count c list is = elim c.in-Overrun.is [
  | inl (at, seen, e) ↦ rw e (met_and _ _ list _ (omega arith) (omega arith) is)
  | inr (units, e) ↦ rw e (met_and _ _ list _ (omega arith) (omega arith) is)
]
