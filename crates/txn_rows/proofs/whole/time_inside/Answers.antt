use Rattle.std.proofs.Common.{◌≡◌, List, ℕ, ◌+◌, ◌-◌, take, drop, arith, subst}
use Rattle.vsl_record.specs.declared.record_type.Record.{Record}
use Rattle.txn_rows.specs.inside.Quiet.{AreQuiet}
use Rattle.txn_rows.proofs.WholeLemmas.{inside_more}
use Rattle.txn_rows.proofs.whole.time_inside.Goals as goal

-- the record at the index disturbs nothing
pub loop-i-preserved : goal.loop-i-preserved
loop-i-preserved c =
    let records : List Record = c.args.records.now in
    let i : ℕ = c.loop-i.i in
    let next : i ≡ i + 1 - 1 = omega arith in
    subst (λ (n : ℕ). AreQuiet c.args.grouping c.args.last c.args.before c.in-Some.now (take n (drop 1 records))) next
    (inside_more c.args.grouping c.args.last c.args.before c.loop-i.time c.in-Some.now records i c.loop-i.auto.i (omega (arith, c.loop-i-test.true, c.len-i-end.ensures)) c.loop-i.invariant c.in-Some.ensures)
