use Rattle.std.proofs.Common.{◌∙◌}
use Rattle.vsl_top.specs.inside.Keys.{member_keys}
use Rattle.vsl_top.proofs.LoopLemmas.{one_more, all_of, member_append}
use Rattle.vsl_top.proofs.counts.Counts.add_group.Goals as goal

pub loop-member-preserved : goal.loop-member-preserved
loop-member-preserved c =
    let added = rw c.loop-member.invariant.same at c.in_ok-add_member.ensures.counted in record {
      counted = one_more (member_keys c.args.viewer.now c.args.first_field) (member_append c.args.viewer.now c.args.first_field) _ _ _ _ _ _ c.loop-member-test.true c.member-item.is c.loop-member.invariant.counted
          (λ keys so_far. added keys (c.tell.ensures keys so_far));
      same = c.add_member.ensures.same ∙ c.loop-member.invariant.same;
    }

pub returns-clause-counted : goal.returns-clause-counted
returns-clause-counted c = all_of (member_keys c.args.viewer.now c.args.first_field) c.as_slice-member-items.result.now c.args.group.now.members _ _ _ c.loop-member-test.false c.as_slice-member-items.ensures c.loop-member.invariant.counted
