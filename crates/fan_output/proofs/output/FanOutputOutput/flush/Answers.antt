use Rattle.std.proofs.Common.{refl, false, sym, ◌∙◌}
use Rattle.std.proofs.lemmas.Result.{err_from_is_err_and}
use Rattle.one_run.proofs.RunLemmas.{made_so}
use Rattle.fan_output.specs.declared.piece.Piece.TheVariants as pieces
use Rattle.fan_output.proofs.FanLemmas.{rest_lacked, rest_on, rest_idle, each_named}
use Rattle.fan_output.proofs.output.FanOutputOutput.flush.Goals as goal

pub returns-in_err-print_each-clause-prints : goal.returns-in_err-print_each-clause-prints
returns-in_err-print_each-clause-prints g c =
    let e = err_from_is_err_and c.from_residual.result c.from_residual.ensures.1 in
    λ start calls done p. rw e.1
    (rest_lacked g.T.Texts.text g.T.Texts.filled g.T.Texts.holds g.T.Texts.count g.met.T.Texts.grows start c.args.self.now calls done c.requires.ready false p pieces.All (λ d early sunk is. is) (g.T.Texts.holds c.args.self.now.texts) (λ i met taken held fewer. held)
    (rw (p.texts, p.fills, p.sinks) at c.in_err-print_each.ensures.short))

pub returns-then-has_live-clause-prints : goal.returns-then-has_live-clause-prints
returns-then-has_live-clause-prints g c = λ start calls done p.
    let made = rest_on g.T.Texts.text g.T.Texts.filled g.T.Texts.holds g.T.Texts.count g.met.T.Texts.grows start c.args.self.now calls done c.requires.ready false p pieces.All (λ d early sunk is. is) (g.T.Texts.holds c.args.self.now.texts) (λ i met taken held fewer. held)
    (g.T.Texts.holds c.print_each.new.texts) c.print_each.new.live.items c.print_each.new.unwritten c.in_ok-print_each.ensures.lives
    (rw (p.texts, p.fills, p.sinks) at c.in_ok-print_each.ensures.printed) refl (sym c.has_live.ensures ∙ c.if-has_live.true) in
    made_so made (record {
      sinks = p.sinks;
      texts = c.in_ok-print_each.ensures.same_text ∙ p.texts;
      fills = c.in_ok-print_each.ensures.same_filled ∙ p.fills;
      took = made.is;
    })

pub returns-then-has_live-clause-ready : goal.returns-then-has_live-clause-ready
returns-then-has_live-clause-ready g c = λ _. record {
  apart = c.requires.ready.apart;
  named = each_named c.args.self.now.sinks.items c.in_ok-print_each.ensures.printed c.requires.ready.named;
  lives = c.in_ok-print_each.ensures.lives ∙ c.requires.ready.lives;
  texts = c.in_ok-print_each.ensures.same_count ∙ c.requires.ready.texts;
}

pub returns-clause-prints : goal.returns-clause-prints
returns-clause-prints g c = λ start calls done p.
    rest_idle g.T.Texts.text g.T.Texts.filled g.T.Texts.holds g.T.Texts.count g.met.T.Texts.grows start c.args.self.now calls done c.requires.ready false p pieces.All (λ d early sunk is. is) (g.T.Texts.holds c.args.self.now.texts) (λ i met taken held fewer. held)
    (g.T.Texts.holds c.print_each.new.texts) c.print_each.new.live.items c.print_each.new.unwritten c.in_ok-print_each.ensures.lives
    (rw (p.texts, p.fills, p.sinks) at c.in_ok-print_each.ensures.printed) refl (sym c.has_live.ensures ∙ c.if-has_live.false)
    c.ending.result c.ending.ensures.how c.ending.ensures.unwritten
