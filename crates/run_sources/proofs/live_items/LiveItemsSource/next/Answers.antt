use Rattle.std.proofs.Common.{rules, true, false}
use Rattle.run_sources.specs.Live.{LiveGave}
use Rattle.run_sources.proofs.ItemLemmas.{quiet, gave_more, gave_unit, gave_lost, starved_unit}
use Rattle.run_sources.proofs.live_items.LiveItemsSource.next.Goals as goal

pub returns-then-is_lost-clause-came : goal.returns-then-is_lost-clause-came
returns-then-is_lost-clause-came g c = λ start calls met gave.
    let here = c.loop.invariant in
    quiet true _ (gave_more _ _ c.loop.self.pass _ met here.3 here.4 here.5 c.seek.ensures.behind c.seek.ensures.same gave c.seek.result c.seek.ensures.met)

pub returns-in-Ok-clause-came : goal.returns-in-Ok-clause-came
returns-in-Ok-clause-came g c = λ start calls met gave.
    let here = c.loop.invariant in
    let took = c.in-Took.ensures.answer in
    quiet true _ (gave_unit _ _ _ _ met here.3 here.4 here.5 c.take.ensures.behind c.take.ensures.same gave took c.in-Ok.unit (c.in-Ok.ensures took.unit (rw c.unit.ensures took.spells)))

pub returns-in-Err-clause-came : goal.returns-in-Err-clause-came
returns-in-Err-clause-came g c = λ start calls met gave.
    let here = c.loop.invariant in
    let took = c.in-Took.ensures.answer in
    quiet false _ (starved_unit _ _ _ _ met here.3 here.4 here.5 c.take.ensures.behind c.take.ensures.same gave took)

pub returns-in-Lost-clause-came : goal.returns-in-Lost-clause-came
returns-in-Lost-clause-came g c = λ start calls met gave.
    let here = c.loop.invariant in
    quiet true _ (gave_lost _ _ _ _ met here.3 here.4 here.5 c.take.ensures.behind c.take.ensures.same gave c.in-Lost.at c.in-Lost.seen c.in-Lost.ensures.answer)

pub returns-in-Ended-clause-came : goal.returns-in-Ended-clause-came
returns-in-Ended-clause-came g c = λ start calls met gave.
    let given : LiveGave start.pass c.take.new.pass met true = search rules in quiet true _ given
