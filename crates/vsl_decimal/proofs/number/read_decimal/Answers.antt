use Rattle.std.proofs.Common.{sym, rules}
use Rattle.vsl_decimal.proofs.DecimalFunctions.{decimal_of-spelled, decimal_of-none}
use Rattle.vsl_decimal.proofs.DecimalLemmas.{if_none, no_number, no_number_minus, Spells-plain, Spells-minus}
use Rattle.vsl_decimal.proofs.number.read_decimal.Goals as goal

pub returns-in_err-read_size-in-Some-clause-refused :
    goal.returns-in_err-read_size-in-Some-clause-refused
returns-in_err-read_size-in-Some-clause-refused c =
    if_none c.from_residual.result (no_number_minus _ _ c.in-Some.ensures.some c.in_err-read_size-in-Some.ensures.refused)

pub returns-in_err-read_size-in-None-clause-refused :
    goal.returns-in_err-read_size-in-None-clause-refused
returns-in_err-read_size-in-None-clause-refused c =
    if_none c.from_residual-in_err-read_size-in-None.result (no_number _ c.in-None.ensures.none c.in_err-read_size-in-None.ensures.refused)

pub returns-in_ok-read_size-in-Some-clause-read : goal.returns-in_ok-read_size-in-Some-clause-read
returns-in_ok-read_size-in-Some-clause-read c =
    rw c.with_sign.ensures (Spells-minus _ _ _ c.in-Some.ensures.some c.in_ok-read_size-in-Some.ensures.read)

pub returns-in_ok-read_size-in-None-clause-read : goal.returns-in_ok-read_size-in-None-clause-read
returns-in_ok-read_size-in-None-clause-read c =
    rw c.with_sign-in-None.ensures (Spells-plain _ _ c.in_ok-read_size-in-None.ensures.read)

pub returns-in_err-read_size-in-Some-clause-value :
    goal.returns-in_err-read_size-in-Some-clause-value
returns-in_err-read_size-in-Some-clause-value c =
    rw (decimal_of-none c.args.text.now (no_number_minus _ _ c.in-Some.ensures.some c.in_err-read_size-in-Some.ensures.refused)) (search rules)

pub returns-in_err-read_size-in-None-clause-value :
    goal.returns-in_err-read_size-in-None-clause-value
returns-in_err-read_size-in-None-clause-value c =
    rw (decimal_of-none c.args.text.now (no_number _ c.in-None.ensures.none c.in_err-read_size-in-None.ensures.refused)) (search rules)

pub returns-in_ok-read_size-in-Some-clause-value : goal.returns-in_ok-read_size-in-Some-clause-value
returns-in_ok-read_size-in-Some-clause-value c =
    rw c.with_sign.ensures (sym (decimal_of-spelled _ _ (Spells-minus _ _ _ c.in-Some.ensures.some c.in_ok-read_size-in-Some.ensures.read)))

pub returns-in_ok-read_size-in-None-clause-value : goal.returns-in_ok-read_size-in-None-clause-value
returns-in_ok-read_size-in-None-clause-value c =
    rw c.with_sign-in-None.ensures (sym (decimal_of-spelled _ _ (Spells-plain _ _ c.in_ok-read_size-in-None.ensures.read)))
