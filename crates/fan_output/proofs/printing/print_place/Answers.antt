use Rattle.std.proofs.Common.{refl}
use Rattle.std.proofs.lemmas.Result.{err_from_is_err_and}
use Rattle.fan_output.specs.Fan.{due_at}
use Rattle.fan_output.proofs.PlaceLemmas.{gone_place, held_place, placed, stopped, lacked}
use Rattle.fan_output.proofs.printing.print_place.Goals as goal

pub returns-then-not-live-clause-printed : goal.returns-then-not-live-clause-printed
returns-then-not-live-clause-printed g c =
    gone_place c.args.piece c.args.place c.args.sink.now c.args.unwritten.now c.args.live c.if-not-live.true (g.T.Texts.holds c.args.texts.now c.args.place) (due_at (g.T.Texts.text c.args.texts.now) (g.T.Texts.filled c.args.texts.now) c.args.place c.args.sink.now) _

pub returns-then-is_little-clause-printed : goal.returns-then-is_little-clause-printed
returns-then-is_little-clause-printed g c =
    held_place c.args.piece c.args.place c.args.sink.now c.args.live c.if-not-live.false (g.T.Texts.holds c.args.texts.now c.args.place) (due_at (g.T.Texts.text c.args.texts.now) (g.T.Texts.filled c.args.texts.now) c.args.place c.args.sink.now) refl
    c.requires.apart c.args.unwritten.now _ (c.is_little.ensures c.if-is_little.true) c.is_last-last.result c.if-not-last.true c.is_last-last.ensures.filled

pub returns-in_err-put_piece-clause-short : goal.returns-in_err-put_piece-clause-short
returns-in_err-put_piece-clause-short g c =
    let p = err_from_is_err_and c.from_residual.result c.from_residual.ensures.1 in
    let puts = c.in_err-put_piece.ensures.puts in
    rw p.1 (lacked c.args.piece c.args.place c.args.sink.now c.args.live c.if-not-live.false (g.T.Texts.holds c.args.texts.now c.args.place) (due_at (g.T.Texts.text c.args.texts.now) (g.T.Texts.filled c.args.texts.now) c.args.place c.args.sink.now) refl
    c.requires.apart (g.T.Texts.holds c.put_piece.new.texts c.args.place) puts.bytes puts.are (λ met all taken held. g.met.T.Texts.grows c.args.texts.now c.args.place met all taken held) _ puts.puts)

pub returns-then-branch-clause-printed : goal.returns-then-branch-clause-printed
returns-then-branch-clause-printed g c =
    let puts = c.in_ok-put_piece.ensures.puts in
    placed c.args.piece c.args.place c.args.sink.now c.args.live c.if-not-live.false (g.T.Texts.holds c.args.texts.now c.args.place) (due_at (g.T.Texts.text c.args.texts.now) (g.T.Texts.filled c.args.texts.now) c.args.place c.args.sink.now) refl
    c.requires.apart (g.T.Texts.holds c.put_piece.new.texts c.args.place) puts.bytes puts.are (λ met all taken held. g.met.T.Texts.grows c.args.texts.now c.args.place met all taken held)
    c.args.unwritten.now c.is_last-last.result c.is_last-last.ensures.end c.is_last-last.ensures.filled (rw c.if-branch.true at puts.puts)

pub returns-clause-printed : goal.returns-clause-printed
returns-clause-printed g c =
    let puts = c.in_ok-put_piece.ensures.puts in
    stopped c.args.piece c.args.place c.args.sink.now c.args.live c.if-not-live.false (g.T.Texts.holds c.args.texts.now c.args.place) (due_at (g.T.Texts.text c.args.texts.now) (g.T.Texts.filled c.args.texts.now) c.args.place c.args.sink.now) refl
    c.requires.apart (g.T.Texts.holds c.put_piece.new.texts c.args.place) puts.bytes puts.are (λ met all taken held. g.met.T.Texts.grows c.args.texts.now c.args.place met all taken held)
    (g.T.Texts.holds c.stop.new.self c.args.place) c.args.unwritten.now c.first_of.result c.first_of.ensures (rw c.if-branch.false at puts.puts)
