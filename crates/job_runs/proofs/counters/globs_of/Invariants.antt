-- the globs before the index were copied
use Rattle.std.proofs.Common.{◌≡◌, take}
use Rattle.job_runs.proofs.counters.globs_of.Given as goal

abbrev pub invariant-loop-text : goal.invariant-loop-text
invariant-loop-text l = l.texts.items ≡ take l.text-index l.text-items
