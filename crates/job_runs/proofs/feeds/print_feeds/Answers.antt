use Rattle.std.proofs.Common.{◌∷◌, [], subst, ◌∙◌}
use Rattle.std.proofs.lemmas.Result.{err_from_is_err_and}
use Rattle.vio.specs.declared.world.TheConstants.{ERRORS}
use Rattle.vio.specs.Calls.{Called}
use Rattle.one_run.proofs.RunLemmas.{none_read}
use Rattle.run_sources.specs.Sources.{FeedsBegan}
use Rattle.fan_output.specs.Ends.{Due}
use Rattle.text_printer.specs.Printer.{HoldsAt, filled_at, text_at}
use Rattle.job_steps.specs.Jobs.{file_of}
use Rattle.job_runs.specs.Sources.{FedCame, FeedsCame, RecordsOf}
use Rattle.job_runs.specs.Rows.{RanFor, end_answer}
use Rattle.job_runs.specs.Runs.{RanShort, RanSo}
use Rattle.job_runs.specs.inside.Outputs.{query_due}
use Rattle.job_runs.proofs.RowLemmas.{ended_row, query_is, short_row}
use Rattle.job_runs.proofs.SourceLemmas.{feeds_came, feeds_late, feeds_lacked, stated_came}
use Rattle.job_runs.proofs.feeds.print_feeds.Goals as goal

pub run-requires-clause-output : goal.run-requires-clause-output
run-requires-clause-output g c = c.in_ok-output.ensures.can _ c.requires.named c.requires.apart

pub run-requires-clause-new : goal.run-requires-clause-new
run-requires-clause-new g c = c.in_ok-output.ensures.new

pub returns-in_err-end-clause-short : goal.returns-in_err-end-clause-short
returns-in_err-end-clause-short g c =
    let p = err_from_is_err_and c.from_residual-in_err-end.result c.from_residual-in_err-end.ensures.1 in
    rw p.1 (λ ask holds.
    let feeds = c.in_ok-feeds.feeds in
    subst (λ (d : Due). Called (RanShort [] (λ calls. FedCame c.args.job.now c.args.listings.items) c.args.sink.handle d) (g.W.World.seen c.args.world.now) (g.W.World.seen c.run.new.world)) (query_is c.args.job.now c.args.query.now ask c.args.sink.empty holds)
    (short_row (text_at g.C.Consumer.keep g.C.Consumer.output) (filled_at g.C.Consumer.keep g.C.Consumer.output) (HoldsAt g.C.Consumer.keep g.C.Consumer.output g.C.Consumer.represents) (λ p. 1) c.args.sink.handle (query_due c.args.job.now c.args.query.now c.args.sink.empty) _ c.in_ok-output.ensures
    _ (λ calls. FedCame c.args.job.now c.args.listings.items) (λ calls met. FeedsBegan feeds met) [] _ _ _
    (λ calls met all p. feeds_came c.args.job.now c.args.listings.items feeds p.0 met all c.in_ok-feeds.ensures.comes c.requires.stated p.1) (λ calls met all. feeds_late c.args.job.now c.args.listings.items met all)
    (λ calls met. feeds_lacked c.args.job.now c.args.listings.items feeds met c.in_ok-feeds.ensures.comes c.requires.stated) c.in_err-end.ensures.short))

pub returns-clause-ran : goal.returns-clause-ran
returns-clause-ran g c = λ ask holds.
    let feeds = c.in_ok-feeds.feeds in
    subst (λ (d : Due). Called (RanSo (RanFor [] (λ calls. FeedsCame c.args.job.now c.args.listings.items c.counted.result.run) (λ why calls met. ⊥) (RecordsOf [] c.args.job.now c.counted.result.run) c.args.sink.handle d (end_answer c.args.job.now) c.counted.result.fault)) (g.W.World.seen c.args.world.now) (g.W.World.seen c.run.new.world)) (query_is c.args.job.now c.args.query.now ask c.args.sink.empty holds)
    (ended_row (text_at g.C.Consumer.keep g.C.Consumer.output) (filled_at g.C.Consumer.keep g.C.Consumer.output) (HoldsAt g.C.Consumer.keep g.C.Consumer.output g.C.Consumer.represents) (λ p. 1) c.args.sink.handle (query_due c.args.job.now c.args.query.now c.args.sink.empty) _ c.in_ok-output.ensures
    _ (λ calls. FeedsCame c.args.job.now c.args.listings.items c.counted.result.run) _ _ (λ why calls met. ⊥) [] _ c.in-ByOutput.ending _ _ _ (RecordsOf [] c.args.job.now c.counted.result.run) (file_of c.args.job.now) _ _ c.in-ByOutput.is (λ calls on p. none_read _ (ERRORS ∷ c.args.sink.handle ∷ []) calls on)
    (λ calls met all p. stated_came c.args.job.now c.args.listings.items c.counted.result.run met all c.requires.stated (feeds_came c.args.job.now c.args.listings.items feeds p.0 met all c.in_ok-feeds.ensures.comes c.requires.stated p.1))
    (c.counted.ensures.fault ∙ rw (c.in_ok-written.ensures, c.written_name.ensures) at c.answer.ensures) (λ list is stated. c.counted.ensures.run list is) c.in_ok-end.ensures.ran)
