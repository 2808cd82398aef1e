use Rattle.std.proofs.Common.{◌∙◌, refl}
use Rattle.vsl_top.specs.inside.Keys.{alone_keys}
use Rattle.vsl_top.proofs.LoopLemmas.{alone_append, one_more_by, all_of}
use Rattle.vsl_top.proofs.counts.Counts.add_alone.Goals as goal

pub loop-i-preserved : goal.loop-i-preserved
loop-i-preserved c = record {
  counted = one_more_by (λ showing. alone_keys showing c.args.first_field) c.args.viewer.now _ c.loop-i.invariant.same (alone_append c.args.viewer.now c.args.first_field) _ _ _ _ _ _ (rw c.len-i-end.ensures at c.loop-i-test.true) c.get.ensures
      c.loop-i.invariant.counted c.in_ok-add_one_alone.ensures.counted;
  same = c.add_one_alone.ensures.same ∙ c.loop-i.invariant.same;
}

pub returns-clause-counted : goal.returns-clause-counted
returns-clause-counted c = all_of (alone_keys c.args.viewer.now c.args.first_field) c.args.records.now c.args.records.now _ _ _ (rw c.len-i-end.ensures at c.loop-i-test.false) refl c.loop-i.invariant.counted
