use Rattle.std.proofs.Common.{sym, ◌∙◌, arith}
use Rattle.query_parser.proofs.CriterionFaults.{bracket_more, no_field_open}
use Rattle.query_parser.proofs.criterion.find_bracket.Goals as goal

pub loop-byte-preserved : goal.loop-byte-preserved
loop-byte-preserved c = record {
  all = bracket_more c.loop-byte.count c.loop-byte.byte-index c.loop-byte.state c.in-Some.next c.args.text.now c.loop-byte-test.true (sym c.next.ensures ∙ c.in-Some.is) (no_field_open c.in-Some.next c.in_default-next.not-FieldOpen) ∙ c.loop-byte.invariant.all;
  count = omega (arith, c.loop-byte.invariant.count);
}
