use Rattle.std.proofs.Common.{◌<◌, length, arith}
use Rattle.txn_rows.specs.Grouping.{timed}
use Rattle.txn_rows.specs.inside.Rows.{row_told}
use Rattle.txn_rows.proofs.JoinLemmas.{changed_on}
use Rattle.txn_rows.proofs.rows.time_rows.Goals as goal

pub loop-i-preserved : goal.loop-i-preserved
loop-i-preserved c =
    let within : c.loop-i.i < length c.args.rows.now.items = omega arith in
    changed_on (row_told (timed c.args.now)) c.args.rows.now.items c.loop-i.rows.items c.loop-i.i c.index_mut.result.now c.time_row.new.row within c.loop-i.invariant c.index_mut.ensures.value c.time_row.ensures
