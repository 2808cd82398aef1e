use Rattle.std.proofs.Common.{sym, ◌∙◌, arith}
use Rattle.query_grammar.proofs.Along.{goes_on, stops, ends}
use Rattle.query_grammar.proofs.lex.Lex.along.Goals as goal

pub returns-in_default : goal.returns-in_default
returns-in_default c =
    sym (stops c.loop-byte.count c.loop-byte.byte-index c.loop-byte.state c.args.text.now c.loop-byte-test.true (sym c.next.ensures ∙ c.in_default.is)) ∙ c.loop-byte.invariant.along

pub loop-byte-preserved : goal.loop-byte-preserved
loop-byte-preserved c = record {
  along = goes_on c.loop-byte.count c.loop-byte.byte-index c.loop-byte.state c.in-Some.next c.args.text.now c.loop-byte-test.true (sym c.next.ensures ∙ c.in-Some.is) ∙ c.loop-byte.invariant.along;
  count = omega (arith, c.loop-byte.invariant.count);
}

pub returns : goal.returns
returns c = sym (ends c.loop-byte.count c.loop-byte.byte-index c.loop-byte.state c.args.text.now c.loop-byte-test.false) ∙ c.loop-byte.invariant.along
