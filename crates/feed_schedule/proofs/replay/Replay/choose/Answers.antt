use Rattle.std.proofs.Common.{Option, ℕ, sym, subst}
use Rattle.feed_schedule.specs.Replaying.{ReplayState}
use Rattle.feed_schedule.specs.inside.Turning.{stated, IsSteady}
use Rattle.feed_schedule.proofs.TurningLemmas.{steady_drawn}
use Rattle.feed_schedule.proofs.replay.Replay.choose.Goals as goal

pub invariant_of-self : goal.invariant_of-self
invariant_of-self c =
    let r : ReplayState = record { ring = c.self.inside.ring; cursor = c.self.inside.cursor; writers = c.self.inside.writers.items; reading = stated c.self.inside.reading; drawn = c.self.inside.turns } in
    subst (λ (x : Option ℕ). IsSteady c.self.inside.active (record r { drawn = x })) (sym c.choose.ensures.drawn) (steady_drawn c.self.inside.active r c.self.invariant)
