-- The work, and then what is said of its fault.
use Rattle.std.proofs.Common.{inl, inr}
use Rattle.vio.proofs.WholeLemmas.{OnErr-always}
use Rattle.varnish_tools.proofs.SaidLemmas.{lacks_message, settled_short, settled_work, works_off}
use Rattle.varnish_tools.proofs.TouchLemmas.{lacks_touches, part_touches, whole_touches}
use Rattle.varnish_tools.proofs.tools.finish.Goals as goal

pub returns-in_err-fault-clause-memory : goal.returns-in_err-fault-clause-memory
returns-in_err-fault-clause-memory g c = λ before worked. OnErr-always _ (inl (settled_short _ c.args.worked _ _ _ c.in_err-fault.ensures worked))

pub returns-in_err-fault-clause-touches : goal.returns-in_err-fault-clause-touches
returns-in_err-fault-clause-touches g c = λ before worked. lacks_touches _ _ _ (settled_short _ c.args.worked _ _ _ c.in_err-fault.ensures worked)

pub returns-in_err-report-clause-memory : goal.returns-in_err-report-clause-memory
returns-in_err-report-clause-memory g c = λ before worked. OnErr-always _ (inr (lacks_message _ _ _ _ _ _ (settled_work _ _ c.args.worked c.in_ok-fault.field-0 _ _ c.in_ok-fault.ensures worked) c.in_err-report.ensures.part))

pub returns-in_err-report-clause-touches : goal.returns-in_err-report-clause-touches
returns-in_err-report-clause-touches g c = λ before worked. part_touches _ _ _ _ _ _ (settled_work _ _ c.args.worked c.in_ok-fault.field-0 _ _ c.in_ok-fault.ensures worked) c.in_err-report.ensures.part

pub returns-clause-faithful : goal.returns-clause-faithful
returns-clause-faithful g c = λ before worked. record { status = c.status_of-status.ensures; works = works_off _ _ _ _ _ _ _ (settled_work _ _ c.args.worked c.in_ok-fault.field-0 _ _ c.in_ok-fault.ensures worked) c.in_ok-report.ensures.said }

pub returns-clause-touches : goal.returns-clause-touches
returns-clause-touches g c = λ before worked. whole_touches _ _ _ _ _ _ _ (settled_work _ _ c.args.worked c.in_ok-fault.field-0 _ _ c.in_ok-fault.ensures worked) c.in_ok-report.ensures.said
