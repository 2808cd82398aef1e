use Rattle.std.proofs.Common.{sym, ◌∙◌, refl, arith, length}
use Rattle.std.proofs.lemmas.Option.{slice_get_read}
use Rattle.feed_schedule.proofs.WaitingLemmas.{count_stays, count_left}
use Rattle.feed_schedule.proofs.replay.place_of.Goals as goal
use Rattle.feed_schedule.proofs.replay.place_of.Goals.{then-not-has_left+else-behind-eq0, else-not-has_left}

pub loop-place-preserved : goal.loop-place-preserved
loop-place-preserved c =
    let writers = c.args.writers.now in
    let place = c.loop-place.place in
    let writer = c.index-writers-place.result in
    let at = slice_get_read writers (length writers) place writer refl c.loop-place-test.true c.index-writers-place.is in
    elim c.if-not-has_left.branch [
      | then-not-has_left+else-behind-eq0 w ↦ let more = count_stays place writers writer at (sym c.has_left.ensures ∙ w.if-not-has_left.true) in omega arith
      | else-not-has_left w ↦ let same = count_left place writers writer at (sym c.has_left.ensures ∙ w.if-not-has_left.false) in omega arith
    ]
