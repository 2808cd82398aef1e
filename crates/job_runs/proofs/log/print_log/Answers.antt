use Rattle.std.proofs.Common.{ℕ, List, ◌∷◌, [], Some, ap, subst, ◌∙◌}
use Rattle.std.proofs.lemmas.Result.{err_from_is_err_and}
use Rattle.vio.specs.Calls.{Called}
use Rattle.run_sources.specs.Sources.{FileBegins, FileCame, FileStopped}
use Rattle.run_sources.proofs.FileLemmas.{file_came}
use Rattle.fan_output.specs.Ends.{Due}
use Rattle.text_printer.specs.Printer.{HoldsAt, filled_at, text_at}
use Rattle.job_steps.specs.declared.fault.ToolFault.{ToolFault}
use Rattle.job_steps.specs.Jobs.{file_of}
use Rattle.job_runs.specs.Sources.{LogBegan, RecordsCount}
use Rattle.job_runs.specs.Rows.{RanFor, end_answer}
use Rattle.job_runs.specs.Runs.{RanShort, RanSo}
use Rattle.job_runs.specs.inside.Outputs.{query_due}
use Rattle.job_runs.proofs.RowLemmas.{ended_row, prompt_one, query_is, stopped_row, short_row}
use Rattle.job_runs.proofs.SourceLemmas.{log_began, log_late, log_lacked}
use Rattle.job_runs.proofs.log.print_log.Goals as goal

pub run-requires-clause-output : goal.run-requires-clause-output
run-requires-clause-output g c = c.in_ok-output.ensures.can _ c.requires.named c.requires.apart

pub run-requires-clause-new : goal.run-requires-clause-new
run-requires-clause-new g c = c.in_ok-output.ensures.new

pub returns-in_err-end-clause-short : goal.returns-in_err-end-clause-short
returns-in_err-end-clause-short g c =
    let p = err_from_is_err_and c.from_residual-in_err-end.result c.from_residual-in_err-end.ensures.1 in
    rw p.1 (λ ask holds.
    let log = c.in_ok-log.log in
    let h = log.reader.handle in
    let row = short_row (text_at g.C.Consumer.keep g.C.Consumer.output) (filled_at g.C.Consumer.keep g.C.Consumer.output) (HoldsAt g.C.Consumer.keep g.C.Consumer.output g.C.Consumer.represents) (λ p. 1) c.args.sink.handle (query_due c.args.job.now c.args.query.now c.args.sink.empty) _ c.in_ok-output.ensures
    _ (LogBegan h) (FileBegins h) (h ∷ []) _ _ _ (λ calls met all p. log_began log p.0 calls met all p.1) (λ calls met all. log_late h calls met all) (λ calls met. log_lacked h calls met) c.in_err-end.ensures.short in
    subst (λ (d : Due). Called (RanShort (c.args.handle ∷ []) (LogBegan c.args.handle) c.args.sink.handle d) (g.W.World.seen c.args.world.now) (g.W.World.seen c.run.new.world)) (query_is c.args.job.now c.args.query.now ask c.args.sink.empty holds)
    (subst (λ (k : ℕ). Called (RanShort (k ∷ []) (LogBegan k) c.args.sink.handle (query_due c.args.job.now c.args.query.now c.args.sink.empty)) (g.W.World.seen c.args.world.now) (g.W.World.seen c.run.new.world)) c.in_ok-log.ensures.handle row))

pub returns-in-ByOutput-clause-ran : goal.returns-in-ByOutput-clause-ran
returns-in-ByOutput-clause-ran g c = λ ask holds.
    let log = c.in_ok-log.log in
    let h = log.reader.handle in
    let row = ended_row (text_at g.C.Consumer.keep g.C.Consumer.output) (filled_at g.C.Consumer.keep g.C.Consumer.output) (HoldsAt g.C.Consumer.keep g.C.Consumer.output g.C.Consumer.represents) (λ p. 1) c.args.sink.handle (query_due c.args.job.now c.args.query.now c.args.sink.empty) _ c.in_ok-output.ensures
    _ (FileCame h) _ _ (λ why calls met. FileStopped h why calls met (g.W.World.seen c.run.new.world)) (h ∷ []) _ c.in-ByOutput.ending _ _ _ (RecordsCount c.counted.result.run) (file_of c.args.job.now) _ _ c.in-ByOutput.is
    (λ calls on. prompt_one (text_at g.C.Consumer.keep g.C.Consumer.output) (filled_at g.C.Consumer.keep g.C.Consumer.output) (HoldsAt g.C.Consumer.keep g.C.Consumer.output g.C.Consumer.represents) (λ p. 1) c.args.sink.handle (query_due c.args.job.now c.args.query.now c.args.sink.empty) _ c.in_ok-output.ensures (h ∷ []) _ (λ calls list p. p) calls)
    (λ calls met all p. file_came log p.0 calls met all p.1) (c.counted.ensures.fault ∙ rw (c.in_ok-written.ensures, c.written_name.ensures) at c.answer.ensures) c.counted.ensures.run c.in_ok-end.ensures.ran in
    subst (λ (d : Due). Called (RanSo (RanFor (c.args.handle ∷ []) (FileCame c.args.handle) (λ why calls met. FileStopped c.args.handle why calls met (g.W.World.seen c.run.new.world)) (RecordsCount c.counted.result.run) c.args.sink.handle d (end_answer c.args.job.now) c.counted.result.fault)) (g.W.World.seen c.args.world.now) (g.W.World.seen c.run.new.world)) (query_is c.args.job.now c.args.query.now ask c.args.sink.empty holds)
    (subst (λ (k : ℕ). Called (RanSo (RanFor (k ∷ []) (FileCame k) (λ why calls met. FileStopped k why calls met (g.W.World.seen c.run.new.world)) (RecordsCount c.counted.result.run) c.args.sink.handle (query_due c.args.job.now c.args.query.now c.args.sink.empty) (end_answer c.args.job.now) c.counted.result.fault)) (g.W.World.seen c.args.world.now) (g.W.World.seen c.run.new.world)) c.in_ok-log.ensures.handle row)

pub returns-in-BySource-clause-ran : goal.returns-in-BySource-clause-ran
returns-in-BySource-clause-ran g c = λ ask holds.
    let log = c.in_ok-log.log in
    let h = log.reader.handle in
    let row = stopped_row (text_at g.C.Consumer.keep g.C.Consumer.output) (filled_at g.C.Consumer.keep g.C.Consumer.output) (HoldsAt g.C.Consumer.keep g.C.Consumer.output g.C.Consumer.represents) (λ p. 1) c.args.sink.handle (query_due c.args.job.now c.args.query.now c.args.sink.empty) _ c.in_ok-output.ensures
    _ (FileCame h) _ (λ why calls met. FileStopped h why calls met (g.W.World.seen c.run.new.world)) (h ∷ []) _ c.in-BySource.stop _ _ _ (RecordsCount c.counted-in-BySource.result.run) (file_of c.args.job.now) _ _ c.in-BySource.is
    (λ calls on. prompt_one (text_at g.C.Consumer.keep g.C.Consumer.output) (filled_at g.C.Consumer.keep g.C.Consumer.output) (HoldsAt g.C.Consumer.keep g.C.Consumer.output g.C.Consumer.represents) (λ p. 1) c.args.sink.handle (query_due c.args.job.now c.args.query.now c.args.sink.empty) _ c.in_ok-output.ensures (h ∷ []) _ (λ calls list p. p) calls)
    (c.counted-in-BySource.ensures.fault ∙ ap (λ (f : ToolFault). Some f) (rw (c.in_ok-name.ensures, c.file_name.ensures) at c.stop_answer.ensures)) c.counted-in-BySource.ensures.run c.in_ok-end.ensures.ran in
    subst (λ (d : Due). Called (RanSo (RanFor (c.args.handle ∷ []) (FileCame c.args.handle) (λ why calls met. FileStopped c.args.handle why calls met (g.W.World.seen c.run.new.world)) (RecordsCount c.counted-in-BySource.result.run) c.args.sink.handle d (end_answer c.args.job.now) c.counted-in-BySource.result.fault)) (g.W.World.seen c.args.world.now) (g.W.World.seen c.run.new.world)) (query_is c.args.job.now c.args.query.now ask c.args.sink.empty holds)
    (subst (λ (k : ℕ). Called (RanSo (RanFor (k ∷ []) (FileCame k) (λ why calls met. FileStopped k why calls met (g.W.World.seen c.run.new.world)) (RecordsCount c.counted-in-BySource.result.run) c.args.sink.handle (query_due c.args.job.now c.args.query.now c.args.sink.empty) (end_answer c.args.job.now) c.counted-in-BySource.result.fault)) (g.W.World.seen c.args.world.now) (g.W.World.seen c.run.new.world)) c.in_ok-log.ensures.handle row)
