-- a record that satisfies no test is none for which the query holds
use Rattle.text_printer.proofs.AloneLemmas.{unseen_unheld}
use Rattle.text_printer.proofs.alone.AskedAlone.group_of.Goals as goal

pub returns-then-not-self-clause-held : goal.returns-then-not-self-clause-held
returns-then-not-self-clause-held c =
    unseen_unheld c.args.self.now.asker.query.now c.args.vxid c.args.rec.now _ c.args.self.now.unseen c.args.self.now.answered c.in_ok-sees.ensures.answer c.if-not-branch.true c.if-not-self.true
