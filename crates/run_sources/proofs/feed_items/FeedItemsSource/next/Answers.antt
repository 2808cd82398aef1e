use Rattle.std.proofs.Common.{rules, ◌≡◌, true, false, Some, None}
use Rattle.feed_schedule.specs.declared.replay.Advanced.TheVariants.{Took, Overrun, Ended}
use Rattle.run_sources.proofs.FeedLemmas.{quiet, feeds_missed, feeds_unit, feeds_overrun, feeds_end, feeds_began, ready_after, ready_owing, took_spelled}
use Rattle.run_sources.proofs.feed_items.FeedItemsSource.next.Goals as goal

pub returns-in-Some-clause-came : goal.returns-in-Some-clause-came
returns-in-Some-clause-came g c = λ start calls met gave. quiet true _ (feeds_missed _ c.args.self.now met gave c.in-Some.units c.in-Some.is)

pub returns-in-Some-clause-ready : goal.returns-in-Some-clause-ready
returns-in-Some-clause-ready g c = ready_owing (record (c.args.self.now) { missed = None }) (c.requires.ready.1.0, c.requires.ready.1.2)

pub unit-requires : goal.unit-requires
unit-requires g c = took_spelled _ _ c.requires.ready c.in-Took.ensures

pub returns-in-Ok-clause-came : goal.returns-in-Ok-clause-came
returns-in-Ok-clause-came g c = λ start calls met gave.
    let free : c.args.self.now.missed ≡ None = search rules in
    quiet true _ (feeds_unit _ c.args.self.now c.advance.new.self met gave free c.in-Ok.unit c.in-Took.ensures (λ u spelled. c.in-Ok.ensures u (rw c.unit.ensures spelled)))

pub returns-in-Ok-clause-ready : goal.returns-in-Ok-clause-ready
returns-in-Ok-clause-ready g c =
    let free : c.args.self.now.missed ≡ None = search rules in
    ready_owing (record (c.args.self.now) { replay = c.advance.new.self }) (ready_after _ _ Took free c.requires.ready c.in-Took.ensures)

pub returns-in-Err-clause-came : goal.returns-in-Err-clause-came
returns-in-Err-clause-came g c = λ start calls met gave. quiet false _ (feeds_began _ _ met gave)

pub returns-in-Overrun-clause-came : goal.returns-in-Overrun-clause-came
returns-in-Overrun-clause-came g c = λ start calls met gave.
    let free : c.args.self.now.missed ≡ None = search rules in
    quiet true _ (feeds_overrun _ c.args.self.now c.advance.new.self met gave free c.in-Overrun.at c.in-Overrun.seen c.in-Overrun.missed c.in-Overrun.ensures)

pub returns-in-Overrun-clause-ready : goal.returns-in-Overrun-clause-ready
returns-in-Overrun-clause-ready g c =
    let free : c.args.self.now.missed ≡ None = search rules in
    ready_owing (record (c.args.self.now) { replay = c.advance.new.self; missed = Some c.in-Overrun.missed }) (ready_after _ _ (Overrun c.in-Overrun.at c.in-Overrun.seen c.in-Overrun.missed) free c.requires.ready c.in-Overrun.ensures)

pub returns-in-Ended-clause-came : goal.returns-in-Ended-clause-came
returns-in-Ended-clause-came g c = λ start calls met gave.
    let free : c.args.self.now.missed ≡ None = search rules in
    quiet true _ (feeds_end _ c.args.self.now c.advance.new.self met gave free c.in-Ended.ensures)

pub returns-in-Ended-clause-ready : goal.returns-in-Ended-clause-ready
returns-in-Ended-clause-ready g c =
    let free : c.args.self.now.missed ≡ None = search rules in
    ready_owing (record (c.args.self.now) { replay = c.advance.new.self }) (ready_after _ _ Ended free c.requires.ready c.in-Ended.ensures)
