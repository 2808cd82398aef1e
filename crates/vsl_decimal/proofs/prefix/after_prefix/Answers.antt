use Rattle.std.proofs.Common.{refl, sym, arith}
use Rattle.std.proofs.lemmas.Grind.{common_steps}
use Rattle.vsl_decimal.proofs.PrefixFunctions.{WithoutBlanks-from, value_after-is, value_after-none}
use Rattle.vsl_decimal.specs.Prefix.{IsValueAfter}
use Rattle.vsl_decimal.proofs.PrefixLemmas.{IsValueAfter-from}
use Rattle.vsl_decimal.proofs.prefix.after_prefix.Goals as goal

-- the value stands behind the name and a colon
found : (c : goal.After-without_blanks) → IsValueAfter c.args.prefix.now c.args.text.now c.without_blanks.result.now
found c =
    let split = c.in_ok-name.ensures.cases in
    IsValueAfter-from _ _ _ _ _ _ _ (c.if-not-eq_ignore_ascii_case.ensures.test.0 refl) split.1 split.2 c.in_ok-behind.ensures.some
    (rw c.without_blanks.ensures (WithoutBlanks-from c.in_ok-behind.behind.now))

pub returns-clause-found : goal.returns-clause-found
returns-clause-found c = found c

pub returns-clause-value : goal.returns-clause-value
returns-clause-value c = sym (value_after-is _ _ _ (found c))

pub returns-then-not-eq_ignore_ascii_case-clause-value : goal.returns-then-not-eq_ignore_ascii_case-clause-value
returns-then-not-eq_ignore_ascii_case-clause-value c = sym (value_after-none c.args.prefix.now c.args.text.now (λ behind h. grind (arith, common_steps)))

pub returns-in_err-behind-clause-value : goal.returns-in_err-behind-clause-value
returns-in_err-behind-clause-value c = rw c.from_residual-in_err-behind.ensures (sym (value_after-none c.args.prefix.now c.args.text.now (λ behind h. grind (arith, common_steps))))
