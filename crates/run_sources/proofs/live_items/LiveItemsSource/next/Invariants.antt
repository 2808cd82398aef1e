-- the same ring, no call met anything, and behind each overrun that was met before it sought as it had then
use Rattle.std.proofs.Common.{◌≡◌}
use Rattle.run_sources.specs.Live.{met_by, HasSought}
use Rattle.run_sources.proofs.live_items.LiveItemsSource.next.Given as goal

abbrev pub invariant-loop : goal.invariant-loop
invariant-loop g l =
    (goal.iterator-loop g).can_next l.iterator' × (goal.iterator-loop g).is_finite l.iterator'
    × (l.self.pass.ring ≡ l.self.ring.now) × (l.self.pass.ring ≡ l.initial.self.pass.ring) × (met_by l.self.pass ≡ met_by l.initial.self.pass) × (HasSought l.initial.self.pass → HasSought l.self.pass)
