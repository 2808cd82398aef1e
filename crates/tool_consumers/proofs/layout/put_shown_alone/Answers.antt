use Rattle.std.proofs.Common.{◌∙◌}
use Rattle.tool_consumers.proofs.LayoutLemmas.{alone_more}
use Rattle.tool_consumers.proofs.layout.put_shown_alone.Goals as goal

pub loop-i-preserved : goal.loop-i-preserved
loop-i-preserved c = record {
  text = alone_more c.args.viewer.now _ c.args.vxid _ _ _ _ _ _ c.loop-i.invariant.same (rw c.len-i-end.ensures at c.loop-i-test.true) c.get.ensures c.loop-i.invariant.text c.in_ok-put_one_shown.ensures.text;
  same = c.put_one_shown.ensures.same ∙ c.loop-i.invariant.same;
}
