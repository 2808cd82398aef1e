use Rattle.std.proofs.Common.{◌≡◌, set, refl, sym, subst, arith}
use Rattle.std.specs.Option.{IsSome}
use Rattle.feed_schedule.specs.Schedule.{count_writers}
use Rattle.feed_schedule.proofs.PuttingLemmas.{Wrote, room_at, wrote_at}
use Rattle.feed_schedule.proofs.TallyLemmas.{turn_of, sound_at, tallied_turn}
use Rattle.feed_schedule.proofs.CountingLemmas.{written_turn}
use Rattle.feed_schedule.proofs.counting.Counting.turn.Goals as goal

pub count_turn-requires-clause-sound : goal.count_turn-requires-clause-sound
count_turn-requires-clause-sound c =
    let h = c.requires.tallied.1 in
    let place = c.place_of-place.ensures in
    let counted = turn_of _ _ _ _ _ _ _ _ _ _ _ h c.deref.ensures.value place.behind place.writer c.index_mut-writer.ensures.value c.index.ensures c.index_mut.ensures.value in
    sound_at _ _ _ _ _ _ _ _ _ h counted.writer_is counted.cuts_are counted.pass_is

pub write-self-requires-clause-stays : goal.write-self-requires-clause-stays
write-self-requires-clause-stays c =
    let place = c.place_of-place.ensures in
    let puts = turn_of _ _ _ _ _ _ _ _ _ _ _ c.requires.tallied.1 c.deref.ensures.value place.behind place.writer c.index_mut-writer.ensures.value c.index.ensures c.index_mut.ensures.value in
    subst IsSome (sym puts.writer.is) refl

pub write-self-requires-clause-room : goal.write-self-requires-clause-room
write-self-requires-clause-room c = λ u e.
    let place = c.place_of-place.ensures in
    let puts = turn_of _ _ _ _ _ _ _ _ _ _ _ c.requires.tallied.1 c.deref.ensures.value place.behind place.writer c.index_mut-writer.ensures.value c.index.ensures c.index_mut.ensures.value in
    room_at _ _ _ _ _ _ u c.requires.written.3.at puts.writer e

-- so many had not left
count : (c : goal.After-self-3-1) → c.args.self.now.active ≡ count_writers c.args.self.now.writers.items
count c = c.requires.written.3.counted

-- the writer wrote
wrote : (c : goal.After-self-3-1) → Wrote c.args.self.now.ring c.args.self.now.writers.items c.choose-chosen.result c.write-self.result c.write-self.new.ring (set c.args.self.now.writers.items c.place_of-place.result c.write-self.new.self)
wrote c =
    let place = c.place_of-place.ensures in
    let puts = turn_of _ _ _ _ _ _ _ _ _ _ _ c.requires.tallied.1 c.deref.ensures.value place.behind place.writer c.index_mut-writer.ensures.value c.index.ensures c.index_mut.ensures.value in
    let e = c.write-self.ensures in
    let all = count c in
    let below = c.choose-chosen.ensures.below in
    wrote_at _ _ _ _ _ _ _ _ _ puts.writer (omega arith) all e.shape e.put e.writer e.active e.ended

pub returns-clause-written : goal.returns-clause-written
returns-clause-written c = λ seg order feeds h. written_turn seg order feeds _ _ _ _ _ _ _ _ _ c.choose-chosen.ensures.chosen c.choose-chosen.ensures.drawn (wrote c) h

pub returns-clause-tallied : goal.returns-clause-tallied
returns-clause-tallied c = λ listings h.
    let place = c.place_of-place.ensures in
    let turn = turn_of _ _ _ _ _ _ _ _ _ _ _ h c.deref.ensures.value place.behind place.writer c.index_mut-writer.ensures.value c.index.ensures c.index_mut.ensures.value in
    tallied_turn _ listings _ _ _ _ _ _ _ _ _ h turn.writer_is turn.cuts_are turn.pass_is (c.count_turn.ensures c.write-self.new.self c.write-self.ensures.writer)

pub returns-clause-fewer : goal.returns-clause-fewer
returns-clause-fewer c = omega (arith, (wrote c).fewer)
