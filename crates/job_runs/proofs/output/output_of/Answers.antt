use Rattle.std.proofs.Common.{refl, ◌∙◌}
use Rattle.job_runs.proofs.OneLemmas.{printer_one}
use Rattle.job_runs.proofs.output.output_of.Goals as goal

pub returns-in-Ok : goal.returns-in-Ok
returns-in-Ok g c =
    let state = rw c.options_of.ensures at c.in_ok-printer.ensures in
    printer_one g.C.Consumer.keep g.C.Consumer.output g.C.Consumer.represents c.args.job.now c.args.query.now c.args.consumer c.args.sink.handle c.args.sink.empty _ _ _ c.requires.consumer c.requires.keeps state
    c.in-Ok.ensures.fan c.in-Ok.ensures.texts c.in-Ok.ensures.sinks refl c.in_ok-head.ensures (c.in_ok-name.ensures ∙ c.written_name.ensures)
