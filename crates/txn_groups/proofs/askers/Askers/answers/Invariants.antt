-- so many queries were answered
use Rattle.std.proofs.Common.{◌≡◌, map, take}
use Rattle.query_eval.specs.Meaning.{is_held}
use Rattle.txn_groups.specs.inside.Marked.{queries_of, AreMarked}
use Rattle.txn_groups.specs.inside.Walked.{visited_group}
use Rattle.txn_groups.specs.inside.Taken.{AreStanding}
use Rattle.txn_groups.proofs.askers.Askers.answers.Given as goal

abbrev pub invariant-loop-i : goal.invariant-loop-i
invariant-loop-i l = AreStanding l.nodes l.visits → AreMarked (queries_of l.self) l.nodes → l.truths ≡ map (λ query. is_held query (visited_group l.nodes l.visits)) (take l.i (queries_of l.self))
