use Rattle.feed_schedule.proofs.TallyLemmas.{counted_unit}
use Rattle.feed_schedule.proofs.counting.count_turn.Goals as goal

pub returns-in-Some : goal.returns-in-Some
returns-in-Some c = λ after alone.
    let e = c.count_unit.ensures in
    counted_unit c.args.counters.now c.args.writer.now after c.args.cuts c.args.counts.now c.count_unit.new.counts c.in-Some.unit.now c.requires.stays c.requires.sound c.is_unit.ensures c.in-Some.ensures.some alone
    (record { same = e.same; whole = e.whole; added = e.counted })
