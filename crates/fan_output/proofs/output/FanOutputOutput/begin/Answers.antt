use Rattle.std.proofs.Common.{refl, sym, ◌∙◌}
use Rattle.std.proofs.lemmas.Result.{err_from_is_err_and}
use Rattle.one_run.proofs.RunLemmas.{made_so}
use Rattle.fan_output.proofs.FanLemmas.{begin_short, begin_on, begin_idle, each_named}
use Rattle.fan_output.proofs.output.FanOutputOutput.begin.Goals as goal

pub returns-in_err-print_each-clause-begins : goal.returns-in_err-print_each-clause-begins
returns-in_err-print_each-clause-begins g c =
    let e = err_from_is_err_and c.from_residual.result c.from_residual.ensures.1 in
    rw e.1 (begin_short g.T.Texts.text g.T.Texts.filled g.T.Texts.holds g.T.Texts.count c.args.self.now c.requires.ready c.requires.new c.in_err-print_each.ensures.short)

pub returns-then-has_live-clause-begins : goal.returns-then-has_live-clause-begins
returns-then-has_live-clause-begins g c =
    let made = begin_on g.T.Texts.text g.T.Texts.filled g.T.Texts.holds g.T.Texts.count c.args.self.now c.requires.ready c.requires.new (g.T.Texts.holds c.print_each.new.texts) c.print_each.new.live.items c.print_each.new.unwritten c.in_ok-print_each.ensures.lives c.in_ok-print_each.ensures.printed (sym c.has_live.ensures ∙ c.if-has_live.true) in
    made_so made (record { sinks = refl; texts = c.in_ok-print_each.ensures.same_text; fills = c.in_ok-print_each.ensures.same_filled; took = made.is })

pub returns-then-has_live-clause-ready : goal.returns-then-has_live-clause-ready
returns-then-has_live-clause-ready g c = λ _. record {
  apart = c.requires.ready.apart;
  named = each_named c.args.self.now.sinks.items c.in_ok-print_each.ensures.printed c.requires.ready.named;
  lives = c.in_ok-print_each.ensures.lives ∙ c.requires.ready.lives;
  texts = c.in_ok-print_each.ensures.same_count ∙ c.requires.ready.texts;
}

pub returns-clause-begins : goal.returns-clause-begins
returns-clause-begins g c =
    begin_idle g.T.Texts.text g.T.Texts.filled g.T.Texts.holds g.T.Texts.count c.args.self.now c.requires.ready c.requires.new (g.T.Texts.holds c.print_each.new.texts) c.print_each.new.live.items c.print_each.new.unwritten c.in_ok-print_each.ensures.lives c.in_ok-print_each.ensures.printed (sym c.has_live.ensures ∙ c.if-has_live.false)
    c.ending.result c.ending.ensures.how c.ending.ensures.unwritten
