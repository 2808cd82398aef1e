use Rattle.txn_rows.proofs.EndLemmas.{each_pending_tells, each_member_ended}
use Rattle.txn_rows.proofs.laws.each_member_ends.Goals as goal

pub returns-clause-pending : goal.returns-clause-pending
returns-clause-pending c = each_pending_tells

pub returns-clause-left : goal.returns-clause-left
returns-clause-left c = each_member_ended
