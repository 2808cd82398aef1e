use Rattle.std.proofs.Common.{arith}
use Rattle.vsl_file.proofs.HeaderLemmas.{differs_old, differs_new}
use Rattle.vsl_file.proofs.header.look_at_header.Goals as goal

pub returns-then-new-old : goal.returns-then-new-old
returns-then-new-old c =
    (differs_old c.args.bytes.now c.in-Some.new c.in-Some-first_difference.old (omega (arith, c.if-new-old.true)) c.in-Some.ensures.some c.in-Some-first_difference.ensures.some, c.in-Some-first_difference.ensures.place)

pub returns : goal.returns
returns c =
    (differs_new c.args.bytes.now c.in-Some.new c.in-Some-first_difference.old (omega (arith, c.if-new-old.false)) c.in-Some.ensures.some c.in-Some-first_difference.ensures.some, c.in-Some.ensures.place)
