use Rattle.std.proofs.Common.{sym, ◌∙◌, arith}
use Rattle.txn_rows.proofs.PlainLemmas.{plain_more}
use Rattle.txn_rows.proofs.run.plain_run.Goals as goal

-- the record at the index has a tag that tells nothing but itself
pub loop-i-preserved : goal.loop-i-preserved
loop-i-preserved c = plain_more c.args.records.now c.loop-i.i c.tag.result (omega arith) c.tag.ensures (sym c.is_plain.ensures ∙ c.if-not-is_plain.false) c.loop-i.invariant
