use Rattle.feed_schedule.specs.inside.Turning.{with_draw}
use Rattle.feed_schedule.proofs.TurningLemmas.{counts_stage, writer_turn, reader_turn}
use Rattle.feed_schedule.proofs.replay.Replay.turn.Goals as goal

pub returns-then-chosen-self-clause-leads : goal.returns-then-chosen-self-clause-leads
returns-then-chosen-self-clause-leads c = λ s h.
    let e = c.choose-chosen.ensures in
    let count = counts_stage c.self.inside.active _ _ c.args.self.now s c.self.view_is c.self.invariant.counted e.writers h in
    writer_turn c.self.inside.active c.choose-chosen.result c.args.self.now c.write.new.self s c.requires h count (e.choice s h) c.if-chosen-self.true (c.write.ensures.stage (with_draw s) (e.stage s h))

pub returns-clause-leads : goal.returns-clause-leads
returns-clause-leads c = λ s h.
    let e = c.choose-chosen.ensures in
    let count = counts_stage c.self.inside.active _ _ c.args.self.now s c.self.view_is c.self.invariant.counted e.writers h in
    reader_turn c.self.inside.active c.choose-chosen.result _ c.read.result c.args.self.now c.read.new.self s c.requires h count (e.choice s h) c.if-chosen-self.false e.seg (c.read.ensures.leads (with_draw s) (e.stage s h))
