use Rattle.std.proofs.Common.{arith}
use mathlib.Core.Logic.{dite}
use native.Mathlib.Decide.{dec_lt}
use Rattle.traffic_feed.proofs.CountedLemmas.{no_unit_share}
use Rattle.traffic_feed.proofs.counting.count_unit.Goals as goal

pub returns-clause-counted : goal.returns-clause-counted
returns-clause-counted c = λ n below.
    let end = c.loop-which-test.false in
    dite (dec_lt n 18)
    (λ low. c.loop-which.invariant.raised n (omega arith))
    (λ high. omega (arith, no_unit_share n c.args.unit.now (omega arith) below, c.loop-which.invariant.others n (let at = c.loop-which.auto.which-end in omega arith)))
