use Rattle.std.proofs.Common.{◌≡◌, false, take}
use Rattle.std.specs.List.{list_any}
use Rattle.query_eval.specs.Meaning.{member_satisfies}
use Rattle.query_eval.specs.Asking.{IsReady}
use Rattle.query_eval.proofs.asking.group_satisfies.Given as goal

-- none of the members before the index satisfies the test, and what asks its pattern is that of the test
abbrev pub invariant-loop-member : goal.invariant-loop-member
invariant-loop-member l = record { unmet : list_any (member_satisfies l.test) (take l.member-index l.group.members) ≡ false; ready : IsReady l.test.check l.matching }
