use Rattle.std.proofs.Common.{sym, ◌∙◌, arith}
use Rattle.query_eval.proofs.MarkLemmas.{passed_more}
use Rattle.query_eval.proofs.asking.next_of.Goals as goal

-- the record at the index is of a tag that the test doesn't select
pub loop-i-preserved : goal.loop-i-preserved
loop-i-preserved c = passed_more c.args.test.now c.args.records.now c.loop-i.i c.tag.result (omega arith) c.tag.ensures (sym c.has.ensures ∙ c.if-has.false) ∙ c.loop-i.invariant
