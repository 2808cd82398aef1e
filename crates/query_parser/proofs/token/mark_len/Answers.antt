use Rattle.std.proofs.Common.{sym, ◌∙◌, arith}
use Rattle.query_grammar.proofs.Prefixes.{behind_none, behind_more, behind_end, behind_stop}
use Rattle.query_parser.specs.inside.Stages.{mark_mode}
use Rattle.query_parser.proofs.token.mark_len.Goals as goal

pub loop-count-init : goal.loop-count-init
loop-count-init c = record {
  behind = λ k can. behind_none (mark_mode c.args.tested) k c.args.text.now;
  within = omega arith;
}

pub loop-count-preserved : goal.loop-count-preserved
loop-count-preserved c = record {
  behind = λ k can. behind_more (mark_mode c.args.tested) k c.args.text.now c.loop-count.count c.loop-count-test.true (sym (c.begins_mark.ensures k can) ∙ c.if-begins_mark.true) (c.loop-count.invariant.behind k can);
  within = omega arith;
}

pub returns-else-begins_mark-clause-munches : goal.returns-else-begins_mark-clause-munches
returns-else-begins_mark-clause-munches c = λ k can.
    behind_stop (mark_mode c.args.tested) k c.args.text.now c.loop-count.count c.loop-count-test.true (sym (c.begins_mark.ensures k can) ∙ c.if-begins_mark.false) (c.loop-count.invariant.behind k can)

pub returns-after-loop-count-clause-munches : goal.returns-after-loop-count-clause-munches
returns-after-loop-count-clause-munches c = λ k can. behind_end (mark_mode c.args.tested) k c.args.text.now c.loop-count.count (omega arith) (c.loop-count.invariant.behind k can)
