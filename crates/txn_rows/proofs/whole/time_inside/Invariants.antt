-- the records behind the first so far disturb nothing, and this is the log time behind them
use Rattle.std.proofs.Common.{◌-◌, take, drop}
use Rattle.txn_rows.specs.inside.Quiet.{AreQuiet}
use Rattle.txn_rows.proofs.whole.time_inside.Given as goal

abbrev pub invariant-loop-i : goal.invariant-loop-i
invariant-loop-i l = AreQuiet l.grouping l.last l.fn.before l.time (take (l.i - 1) (drop 1 l.records))
