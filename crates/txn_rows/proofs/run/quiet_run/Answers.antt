use Rattle.std.proofs.Common.{arith}
use Rattle.txn_rows.proofs.QuietLemmas.{quiet_more}
use Rattle.txn_rows.proofs.run.quiet_run.Goals as goal

-- the record at the index disturbs nothing
pub loop-i-preserved : goal.loop-i-preserved
loop-i-preserved c = quiet_more c.args.grouping c.args.last c.args.before c.loop-i.time c.in-Some.now c.args.records.now c.loop-i.i (omega arith) c.loop-i.invariant c.in-Some.ensures
