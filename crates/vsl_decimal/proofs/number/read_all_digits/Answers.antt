use Rattle.std.proofs.Common.{[], sym, append-nil}
use Rattle.vsl_decimal.proofs.DecimalLemmas.{if_none}
use Rattle.vsl_decimal.proofs.number.read_all_digits.Goals as goal

pub returns-in_err-digits-clause-refused : goal.returns-in_err-digits-clause-refused
returns-in_err-digits-clause-refused c =
    if_none c.from_residual.result (λ digits. c.in_err-digits.ensures.refused c.args.text.now [] digits tt (sym (append-nil c.args.text.now)))
