use Rattle.std.proofs.Common.{false, sym, ◌∙◌, codes}
use Rattle.fan_output.specs.Messages.{message_of}
use Rattle.std.proofs.lemmas.Result.{err_from_is_err_and}
use Rattle.one_run.proofs.RunLemmas.{made_so}
use Rattle.fan_output.proofs.FanLemmas.{told_short, told_failed, item_lacked, each_lacked, each_on, each_idle, puts_named, each_named}
use Rattle.fan_output.proofs.output.FanOutputOutput.item.Goals as goal

pub returns-in_err-tell-clause-prints : goal.returns-in_err-tell-clause-prints
returns-in_err-tell-clause-prints g c =
    let e = err_from_is_err_and c.from_residual.result c.from_residual.ensures.1 in
    λ start calls done p printed. rw e.1 (told_short g.T.Texts.text g.T.Texts.filled g.T.Texts.holds g.T.Texts.count g.met.T.Texts.grows start c.args.self.now calls done c.requires.ready false p c.args.item.now _ c.in_err-tell.ensures)

pub returns-then-not-branch-clause-prints : goal.returns-then-not-branch-clause-prints
returns-then-not-branch-clause-prints g c =
    λ start calls done p printed. told_failed g.T.Texts.text g.T.Texts.filled g.T.Texts.holds g.T.Texts.count g.met.T.Texts.grows start c.args.self.now calls done c.requires.ready p c.args.item.now printed c.ending.result c.ending.ensures.how c.ending.ensures.unwritten (rw c.if-not-branch.true at c.in_ok-tell.ensures)

pub returns-in_err-item-clause-prints : goal.returns-in_err-item-clause-prints
returns-in_err-item-clause-prints g c =
    let e = err_from_is_err_and c.from_residual-in_err-item.result c.from_residual-in_err-item.ensures.1 in
    λ start calls done p printed. rw e.1 (item_lacked g.T.Texts.text g.T.Texts.filled g.T.Texts.holds g.T.Texts.count g.met.T.Texts.grows start c.args.self.now calls done c.requires.ready false p c.args.item.now (rw c.if-not-branch.false at c.in_ok-tell.ensures))

pub returns-in_err-print_each-clause-prints : goal.returns-in_err-print_each-clause-prints
returns-in_err-print_each-clause-prints g c =
    let e = err_from_is_err_and c.from_residual-in_err-print_each.result c.from_residual-in_err-print_each.ensures.1 in
    λ start calls done p printed. rw e.1 (each_lacked g.T.Texts.text g.T.Texts.filled g.T.Texts.holds g.T.Texts.count g.met.T.Texts.grows start c.args.self.now calls done c.requires.ready p c.args.item.now printed (g.T.Texts.holds c.item.new.self) (g.T.Texts.holds c.print_each.new.texts)
    (rw p.fills at c.in_ok-item.ensures.takes) (rw c.if-not-branch.false at c.in_ok-tell.ensures)
    (rw (c.in_ok-item.ensures.same_text, c.in_ok-item.ensures.same_filled, p.texts, p.fills, p.sinks) at c.in_err-print_each.ensures.short))

pub returns-then-has_live-clause-prints : goal.returns-then-has_live-clause-prints
returns-then-has_live-clause-prints g c = λ start calls done p printed.
    let made = each_on g.T.Texts.text g.T.Texts.filled g.T.Texts.holds g.T.Texts.count g.met.T.Texts.grows start c.args.self.now calls done c.requires.ready p c.args.item.now printed (g.T.Texts.holds c.item.new.self) (g.T.Texts.holds c.print_each.new.texts)
    (rw p.fills at c.in_ok-item.ensures.takes) (rw c.if-not-branch.false at c.in_ok-tell.ensures) c.print_each.new.live.items c.print_each.new.unwritten c.in_ok-print_each.ensures.lives
    (rw (c.in_ok-item.ensures.same_text, c.in_ok-item.ensures.same_filled, p.texts, p.fills, p.sinks) at c.in_ok-print_each.ensures.printed) (sym c.has_live.ensures ∙ c.if-has_live.true) in
    made_so made (record {
      sinks = p.sinks;
      texts = c.in_ok-print_each.ensures.same_text ∙ c.in_ok-item.ensures.same_text ∙ p.texts;
      fills = c.in_ok-print_each.ensures.same_filled ∙ c.in_ok-item.ensures.same_filled ∙ p.fills;
      took = made.is;
    })

pub returns-then-has_live-clause-ready : goal.returns-then-has_live-clause-ready
returns-then-has_live-clause-ready g c = λ _. record {
  apart = c.requires.ready.apart;
  named = each_named c.args.self.now.sinks.items c.in_ok-print_each.ensures.printed (puts_named c.args.self.now.sinks.items (codes "stderr") (message_of c.args.item.now) (rw c.if-not-branch.false at c.in_ok-tell.ensures) c.requires.ready.named);
  lives = c.in_ok-print_each.ensures.lives ∙ c.requires.ready.lives;
  texts = c.in_ok-print_each.ensures.same_count ∙ c.in_ok-item.ensures.same_count ∙ c.requires.ready.texts;
}

pub returns-clause-prints : goal.returns-clause-prints
returns-clause-prints g c = λ start calls done p printed.
    each_idle g.T.Texts.text g.T.Texts.filled g.T.Texts.holds g.T.Texts.count g.met.T.Texts.grows start c.args.self.now calls done c.requires.ready p c.args.item.now printed (g.T.Texts.holds c.item.new.self) (g.T.Texts.holds c.print_each.new.texts)
    (rw p.fills at c.in_ok-item.ensures.takes) (rw c.if-not-branch.false at c.in_ok-tell.ensures) c.print_each.new.live.items c.print_each.new.unwritten c.in_ok-print_each.ensures.lives
    (rw (c.in_ok-item.ensures.same_text, c.in_ok-item.ensures.same_filled, p.texts, p.fills, p.sinks) at c.in_ok-print_each.ensures.printed) (sym c.has_live.ensures ∙ c.if-has_live.false)
    c.ending-2.result c.ending-2.ensures.how c.ending-2.ensures.unwritten
