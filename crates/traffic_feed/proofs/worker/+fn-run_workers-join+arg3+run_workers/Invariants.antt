use Rattle.std.proofs.Common.{vec_len}
use Rattle.traffic_feed.proofs.worker.+fn-run_workers-join+arg3+run_workers.Given as goal

abbrev pub decreases-join+arg3 : goal.decreases-join+arg3
decreases-join+arg3 g l = vec_len l.workers

abbrev pub decreases-run_workers : goal.decreases-run_workers
decreases-run_workers g l = vec_len l.workers
