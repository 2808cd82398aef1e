-- The units that are left are one less.
use Rattle.txn_rows.specs.Transaction.{first_mark}
use Rattle.tool_consumers.proofs.LayoutLemmas.{one_more}
use Rattle.tool_consumers.proofs.layout.put_units.Goals as goal

pub loop-rest-preserved : goal.loop-rest-preserved
loop-rest-preserved c =
    rw c.split_at-unit.ensures.back (one_more _ _ _ _ _ _ c.loop-rest.invariant (c.first_unit.ensures.units c.args.vxid)
    (rw c.split_at-unit.ensures.front at (c.in_ok-put_records.ensures.ok (first_mark c.split_at-unit.result.0))))
