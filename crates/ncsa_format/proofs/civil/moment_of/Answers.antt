use Rattle.std.proofs.Common.{arith}
use Rattle.std.proofs.lemmas.Int.{ints}
use Rattle.ncsa_format.proofs.CivilLemmas.{date_of, day_within}
use Rattle.ncsa_format.proofs.civil.moment_of.Goals as goal

pub overflow_cast-result : goal.overflow_cast-result
overflow_cast-result c =
    let is = date_of c.to_datetime-civil.result c.args.second c.requires (omega (arith, ints, c.in-Ok.ensures.value)) in
    omega (arith, ints)

pub returns-clause-day : goal.returns-clause-day
returns-clause-day c =
    let is = date_of c.to_datetime-civil.result c.args.second c.requires (omega (arith, ints, c.in-Ok.ensures.value)) in
    let within = day_within c.args.second c.requires in
    record { year = omega (arith, ints); month = omega (arith, ints); day = omega (arith, ints); first = omega (arith, ints); last = omega (arith, ints); last_year = omega (arith, ints); last_day = omega (arith, ints) }
