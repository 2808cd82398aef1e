-- the members of so many visits were added
use Rattle.std.proofs.Common.{◌≡◌, take}
use Rattle.query_eval.specs.Marks.{answer_of}
use Rattle.txn_groups.specs.inside.Marked.{AreMarkedFor}
use Rattle.txn_groups.specs.inside.Walked.{members_of}
use Rattle.txn_groups.specs.inside.Taken.{AreStanding}
use Rattle.txn_groups.proofs.answers.answer_at.Given as goal

abbrev pub invariant-loop-i : goal.invariant-loop-i
invariant-loop-i l = AreStanding l.nodes l.visits → AreMarkedFor l.query l.place l.nodes → l.answer ≡ answer_of l.query (members_of l.nodes (take l.i l.visits))
