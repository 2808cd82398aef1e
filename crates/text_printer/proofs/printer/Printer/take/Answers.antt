use Rattle.std.proofs.Common.{refl}
use Rattle.std.proofs.lemmas.Result.{on_ok_weaker}
use Rattle.txn_groups.specs.Groups.{groups_state}
use Rattle.text_printer.specs.Printer.{PrinterState, printer_state}
use Rattle.text_printer.proofs.NextLemmas.{advanced, same_plan}
use Rattle.text_printer.proofs.printer.Printer.take.Goals as goal

pub returns-clause-takes : goal.returns-clause-takes
returns-clause-takes g c =
    let p = printer_state c.args.self.now in
    let q : PrinterState g.row.C.Denot = record { table = (groups_state c.complete.new.groups).table; query = c.args.self.now.query.now; entry = c.give_all.new.entry } in
    let middle = c.complete.new.entry in
    let same = same_plan g.C.Consumer.keep g.C.Consumer.output g.C.Consumer.represents p q middle c.in_ok-left.ensures.options refl c.in_ok-left.ensures.consumer c.give_all.ensures.consumer in
    on_ok_weaker c.give_all.result
    (λ gave taken bytes old. advanced g.C.Consumer.keep g.C.Consumer.output g.C.Consumer.represents c.args.next taken bytes p q middle c.in_ok-left.left.items same old (rw c.args.self.now.asked_alone at c.in_ok-left.ensures.completed)
    (rw (c.deref.ensures.value, c.is_end-ended.ensures) at gave)) c.give_all.ensures.gave
