use Rattle.std.proofs.Common.{◌≡◌, ℕ, ◌∷◌, [], Some, ap, refl, subst, ◌∙◌}
use Rattle.std.proofs.lemmas.Result.{err_from_is_err_and}
use Rattle.vio.specs.Calls.{Called}
use Rattle.run_sources.specs.Sources.{FileBegins, FileCame, FileStopped}
use Rattle.run_sources.proofs.FileLemmas.{file_came}
use Rattle.unit_text.specs.Texts.{HoldsUnits, units_filled, units_text}
use Rattle.unit_text.specs.Units.{units_due}
use Rattle.job_steps.specs.declared.fault.ToolFault.{ToolFault}
use Rattle.job_runs.specs.declared.record.RunRecord.TheVariants.{Nothing}
use Rattle.job_runs.specs.Sources.{LogBegan}
use Rattle.job_runs.specs.Rows.{RanFor, log_answer}
use Rattle.job_runs.specs.Runs.{RanShort, RanSo}
use Rattle.job_runs.proofs.RowLemmas.{ended_row, prompt_one, short_row, stopped_row}
use Rattle.job_runs.proofs.SourceLemmas.{log_began, log_lacked, log_late}
use Rattle.job_runs.proofs.convert.convert_log.Goals as goal

pub run-requires-clause-output : goal.run-requires-clause-output
run-requires-clause-output g c = c.in_ok-output.ensures.can _ c.requires.named c.requires.apart

pub run-requires-clause-new : goal.run-requires-clause-new
run-requires-clause-new g c = c.in_ok-output.ensures.new

pub returns-in_err-end-clause-short : goal.returns-in_err-end-clause-short
returns-in_err-end-clause-short g c =
    let p = err_from_is_err_and c.from_residual-in_err-end.result c.from_residual-in_err-end.ensures.1 in
    let log = c.in_ok-log.log in
    let h = log.reader.handle in
    let row = short_row units_text units_filled HoldsUnits (λ u. 1) c.args.opened.sink.handle (units_due c.args.names.now.output) _ c.in_ok-output.ensures
    _ (LogBegan h) (FileBegins h) (h ∷ []) _ _ _ (λ calls met all p. log_began log p.0 calls met all p.1) (λ calls met all. log_late h calls met all) (λ calls met. log_lacked h calls met) c.in_err-end.ensures.short in
    rw p.1 (subst (λ (k : ℕ). Called (RanShort (k ∷ []) (LogBegan k) c.args.opened.sink.handle (units_due c.args.names.now.output)) (g.W.World.seen c.args.world.now) (g.W.World.seen c.run.new.world)) c.in_ok-log.ensures.handle row)

pub returns-in-ByOutput-clause-ran : goal.returns-in-ByOutput-clause-ran
returns-in-ByOutput-clause-ran g c =
    let log = c.in_ok-log.log in
    let h = log.reader.handle in
    let row = ended_row units_text units_filled HoldsUnits (λ u. 1) c.args.opened.sink.handle (units_due c.args.names.now.output) _ c.in_ok-output.ensures
    _ (FileCame h) _ _ (λ why calls met. FileStopped h why calls met (g.W.World.seen c.run.new.world)) (h ∷ []) _ c.in-ByOutput.ending _ _ _ (λ met. Nothing ≡ Nothing) c.args.names.now.input _ _ c.in-ByOutput.is
    (λ calls on. prompt_one units_text units_filled HoldsUnits (λ u. 1) c.args.opened.sink.handle (units_due c.args.names.now.output) _ c.in_ok-output.ensures (h ∷ []) _ (λ calls list p. p) calls)
    (λ calls met all p. file_came log p.0 calls met all p.1) (rw (c.in_ok-written.ensures, c.as_str-2.ensures) at c.answer.ensures) (λ list is. refl) c.in_ok-end.ensures.ran in
    subst (λ (k : ℕ). Called (RanSo (RanFor (k ∷ []) (FileCame k) (λ why calls met. FileStopped k why calls met (g.W.World.seen c.run.new.world)) (λ met. Nothing ≡ Nothing) c.args.opened.sink.handle (units_due c.args.names.now.output) (log_answer c.args.names.now.input) c.answer.result)) (g.W.World.seen c.args.world.now) (g.W.World.seen c.run.new.world)) c.in_ok-log.ensures.handle row

pub returns-in-BySource-clause-ran : goal.returns-in-BySource-clause-ran
returns-in-BySource-clause-ran g c =
    let log = c.in_ok-log.log in
    let h = log.reader.handle in
    let row = stopped_row units_text units_filled HoldsUnits (λ u. 1) c.args.opened.sink.handle (units_due c.args.names.now.output) _ c.in_ok-output.ensures
    _ (FileCame h) _ (λ why calls met. FileStopped h why calls met (g.W.World.seen c.run.new.world)) (h ∷ []) _ c.in-BySource.stop _ _ _ (λ met. Nothing ≡ Nothing) c.args.names.now.input _ _ c.in-BySource.is
    (λ calls on. prompt_one units_text units_filled HoldsUnits (λ u. 1) c.args.opened.sink.handle (units_due c.args.names.now.output) _ c.in_ok-output.ensures (h ∷ []) _ (λ calls list p. p) calls)
    (ap (λ (f : ToolFault). Some f) (rw (c.in_ok-name.ensures, c.as_str.ensures) at c.stop_answer.ensures)) (λ list is. refl) c.in_ok-end.ensures.ran in
    subst (λ (k : ℕ). Called (RanSo (RanFor (k ∷ []) (FileCame k) (λ why calls met. FileStopped k why calls met (g.W.World.seen c.run.new.world)) (λ met. Nothing ≡ Nothing) c.args.opened.sink.handle (units_due c.args.names.now.output) (log_answer c.args.names.now.input) (Some c.stop_answer.result))) (g.W.World.seen c.args.world.now) (g.W.World.seen c.run.new.world)) c.in_ok-log.ensures.handle row
