use Rattle.std.proofs.Common.{◌≡◌, ◌+◌, ◌≤◌, length}
use Rattle.std.specs.List.{fold}
use Rattle.varnish_log.specs.inside.Places.{past_one, place_of}
use Rattle.varnish_log.proofs.tags.place_of.Given as goal

-- the places that are left give the place from here
abbrev pub invariant-loop-lacked : goal.invariant-loop-lacked
invariant-loop-lacked l = (fold past_one l.place l.left ≡ place_of l.fn.form l.number) × (l.place + length l.left ≤ 258)

abbrev pub decreases-loop-lacked : goal.decreases-loop-lacked
decreases-loop-lacked l = length l.left
