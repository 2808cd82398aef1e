-- the queries before the index were taken
use Rattle.job_steps.proofs.QueryLemmas.{TakenUntil}
use Rattle.job_steps.proofs.queries.take_queries.Given as goal

abbrev pub invariant-loop-index : goal.invariant-loop-index
invariant-loop-index g l = TakenUntil l.job l.index l.found (g.W.World.seen l.initial.world) (g.W.World.seen l.world)
