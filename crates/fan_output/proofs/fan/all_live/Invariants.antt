-- As many are live as were counted.
use Rattle.std.proofs.Common.{◌≡◌, true, replicate}
use Rattle.fan_output.proofs.fan.all_live.Given as goal

abbrev pub invariant-loop : goal.invariant-loop
invariant-loop l = l.live.items ≡ replicate l.counter true
