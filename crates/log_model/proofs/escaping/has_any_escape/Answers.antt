use Rattle.std.proofs.Common.{arith, ◌-◌, ◌∙◌, length, sym}
use Rattle.log_model.proofs.EscapingLemmas.{any_ends, any_found, any_none}
use Rattle.log_model.proofs.escaping.has_any_escape.Goals as goal

pub returns-then-any_has_escape : goal.returns-then-any_has_escape
returns-then-any_has_escape g c =
    sym (any_found g.E.Escapes.escapes c.loop-at.at 16 c.args.text.now (rw (c.split_at-in-loop-at.ensures.front, c.split_at.ensures.back) at (sym c.any_has_escape.ensures ∙ c.if-any_has_escape.true)))

pub loop-at-preserved : goal.loop-at-preserved
loop-at-preserved g c = record {
  within = omega (arith, c.loop-at-test.true);
  none = any_none g.E.Escapes.escapes c.loop-at.at 16 c.args.text.now c.loop-at.invariant.none
      (rw (c.split_at-in-loop-at.ensures.front, c.split_at.ensures.back) at (sym c.any_has_escape.ensures ∙ c.if-any_has_escape.false));
}

pub returns : goal.returns
returns g c =
    rw (c.any_has_escape-2.ensures, c.split_at-2.ensures.back)
    (rw c.loop-at.invariant.none at (any_ends g.E.Escapes.escapes c.loop-at.at (length c.args.text.now - 16) c.args.text.now (omega (arith, c.loop-at-test.false))))
