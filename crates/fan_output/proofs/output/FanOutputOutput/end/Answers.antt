use Rattle.std.proofs.Common.{refl, false}
use Rattle.std.proofs.lemmas.Result.{err_from_is_err_and}
use Rattle.fan_output.specs.declared.piece.Piece.TheVariants as pieces
use Rattle.fan_output.proofs.FanLemmas.{texts_lacked, rest_lacked, rest_whole}
use Rattle.fan_output.proofs.output.FanOutputOutput.end.Goals as goal

pub returns-in_err-end : goal.returns-in_err-end
returns-in_err-end g c =
    let e = err_from_is_err_and c.from_residual.result c.from_residual.ensures.1 in
    record { prints = λ start calls done p. rw e.1 (texts_lacked g.T.Texts.text g.T.Texts.filled g.T.Texts.holds g.T.Texts.count g.met.T.Texts.grows start c.args.self.now calls done c.requires.ready false p) }

pub returns-in_err-print_each : goal.returns-in_err-print_each
returns-in_err-print_each g c =
    let e = err_from_is_err_and c.from_residual-in_err-print_each.result c.from_residual-in_err-print_each.ensures.1 in
    record {
      prints = λ start calls done p. rw e.1
          (rest_lacked g.T.Texts.text g.T.Texts.filled g.T.Texts.holds g.T.Texts.count g.met.T.Texts.grows start c.args.self.now calls done c.requires.ready false p pieces.Last (λ d early sunk is. is) (g.T.Texts.holds c.end.new.self)
          (rw p.fills at c.in_ok-end.ensures.ends)
          (rw (c.in_ok-end.ensures.same_text, c.in_ok-end.ensures.same_filled, p.texts, p.fills, p.sinks) at c.in_err-print_each.ensures.short));
    }

pub returns : goal.returns
returns g c = record {
  prints = λ start calls done p.
      rest_whole g.T.Texts.text g.T.Texts.filled g.T.Texts.holds g.T.Texts.count g.met.T.Texts.grows start c.args.self.now calls done c.requires.ready false p pieces.Last (λ d early sunk is. is) (g.T.Texts.holds c.end.new.self)
      (rw p.fills at c.in_ok-end.ensures.ends) (g.T.Texts.holds c.print_each.new.texts) c.print_each.new.live.items c.print_each.new.unwritten c.in_ok-print_each.ensures.lives
      (rw (c.in_ok-end.ensures.same_text, c.in_ok-end.ensures.same_filled, p.texts, p.fills, p.sinks) at c.in_ok-print_each.ensures.printed)
      refl c.ending.result c.ending.ensures.how c.ending.ensures.unwritten;
}
