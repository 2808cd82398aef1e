use Rattle.std.proofs.Common.{◌≡◌, rules, Some, None, sym, ap, ◌∙◌}
use Rattle.feed_schedule.specs.declared.replay.Reading.{Reading}
use Rattle.feed_schedule.specs.declared.replay.Reading.TheVariants.{Ended}
use Rattle.feed_schedule.specs.Schedule.{has_ended}
use Rattle.feed_schedule.specs.Replaying.{ReplayState}
use Rattle.feed_schedule.specs.inside.Turning.{stated}
use Rattle.feed_schedule.proofs.ReplayingLemmas.{turn_goes_on, end_represents}
use Rattle.feed_schedule.proofs.replay.Replay.advance.Goals as goal

pub returns-then-eq : goal.returns-then-eq
returns-then-eq c = λ more h.
    let is : c.self.inside.reading ≡ Ended = search rules in
    end_represents c.args.self.now more (ap (λ (o : ReplayState). has_ended o.reading) (sym c.self.view_is) ∙ ap (λ (r : Reading). has_ended (stated r)) is) h

pub returns-in-Some : goal.returns-in-Some
returns-in-Some c = λ more h.
    let e = c.in-Some.ensures in
    turn_goes_on (Some c.in-Some.met) c.loop-met.self c.turn.new.self more c.loop-met.invariant.goes_on e.seg e.leads (c.loop-met.invariant.to_come more h)

pub loop-met-preserved : goal.loop-met-preserved
loop-met-preserved c = record {
  to_come = λ more h. let e = c.in_default.ensures in turn_goes_on None c.loop-met.self c.turn.new.self more c.loop-met.invariant.goes_on e.seg e.leads (c.loop-met.invariant.to_come more h);
  goes_on = search rules;
}
