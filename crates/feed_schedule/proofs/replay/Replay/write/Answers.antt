use Rattle.std.proofs.Common.{◌<◌, sym, subst}
use Rattle.feed_schedule.specs.Schedule.{count_writers}
use Rattle.feed_schedule.specs.Replaying.{ReplayState}
use Rattle.feed_schedule.proofs.WaitingLemmas.{writer_at}
use Rattle.feed_schedule.proofs.PuttingLemmas.{room_at, wrote_at, at_writer, steady_writer, fewer_writer, writer_inside}
use Rattle.feed_schedule.proofs.replay.Replay.write.Goals as goal

pub write-self-inside-requires-clause-room : goal.write-self-inside-requires-clause-room
write-self-inside-requires-clause-room c =
    let at = writer_at c.self.inside.writers.items _ _ _ _ c.deref.ensures.value c.place_of-place.ensures.behind c.place_of-place.ensures.writer c.index_mut.ensures.value in
    λ u e. room_at _ _ _ _ _ _ u c.self.invariant.at.wrote at e

pub invariant_of-self : goal.invariant_of-self
invariant_of-self c =
    let at = writer_at c.self.inside.writers.items _ _ _ _ c.deref.ensures.value c.place_of-place.ensures.behind c.place_of-place.ensures.writer c.index_mut.ensures.value in
    let below = subst (λ (o : ReplayState). c.args.chosen < count_writers o.writers) (sym c.self.view_is) c.requires in
    let e = c.write-self-inside.ensures in
    steady_writer _ c.args.chosen c.self.inside.active c.write-self-inside.result c.write-self-inside.new.ring _
    (wrote_at _ _ c.args.chosen c.place_of-place.result c.self.inside.active _ _ _ _ at below c.self.invariant.counted e.shape e.put e.writer e.active e.ended) c.self.invariant

pub returns-clause-stage : goal.returns-clause-stage
returns-clause-stage c =
    let at = writer_at c.self.inside.writers.items _ _ _ _ c.deref.ensures.value c.place_of-place.ensures.behind c.place_of-place.ensures.writer c.index_mut.ensures.value in
    let below = subst (λ (o : ReplayState). c.args.chosen < count_writers o.writers) (sym c.self.view_is) c.requires in
    let e = c.write-self-inside.ensures in
    writer_inside c.args.chosen _ _ _ c.self.view_is (λ s h. at_writer _ c.args.chosen c.write-self-inside.result c.write-self-inside.new.ring _ s
    (wrote_at _ _ c.args.chosen c.place_of-place.result c.self.inside.active _ _ _ _ at below c.self.invariant.counted e.shape e.put e.writer e.active e.ended) h)

pub returns-clause-fewer : goal.returns-clause-fewer
returns-clause-fewer c =
    let at = writer_at c.self.inside.writers.items _ _ _ _ c.deref.ensures.value c.place_of-place.ensures.behind c.place_of-place.ensures.writer c.index_mut.ensures.value in
    let below = subst (λ (o : ReplayState). c.args.chosen < count_writers o.writers) (sym c.self.view_is) c.requires in
    let e = c.write-self-inside.ensures in
    fewer_writer _ _ c.args.chosen c.write-self-inside.result c.write-self-inside.new.ring _ c.self.view_is
    (wrote_at _ _ c.args.chosen c.place_of-place.result c.self.inside.active _ _ _ _ at below c.self.invariant.counted e.shape e.put e.writer e.active e.ended)
