use Rattle.std.proofs.Common.{length, refl, sym, ◌∙◌, arith}
use Rattle.txn_rows.proofs.FirstFieldLemmas.{ends_at_white, ends_with_text}
use Rattle.txn_rows.proofs.first_field.end_of_field.Goals as goal

pub returns-then-is_white-clause-some : goal.returns-then-is_white-clause-some
returns-then-is_white-clause-some c = λ some. ends_at_white c.args.text.now c.loop-i.i _ c.loop-i-test.true (sym c.is_white.ensures ∙ c.if-is_white.true) c.loop-i.invariant some

pub returns-clause-some : goal.returns-clause-some
returns-clause-some c = λ some. ends_with_text c.args.text.now c.loop-i.i (length c.args.text.now) refl (omega (arith, c.loop-i-test.false)) c.loop-i.invariant some
