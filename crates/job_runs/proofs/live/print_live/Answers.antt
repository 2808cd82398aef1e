-- What was read, and what is made behind it, may be put by workers; and what came of the ring is recorded.
use Rattle.std.proofs.Common.{◌∷◌, [], refl, subst}
use Rattle.std.proofs.lemmas.Result.{err_from_is_err_and}
use Rattle.vio.specs.declared.world.TheConstants.{ERRORS}
use Rattle.vio.specs.Calls.{Called}
use Rattle.one_run.proofs.RunLemmas.{none_read}
use Rattle.fan_output.specs.Ends.{Due}
use Rattle.text_printer.specs.Printer.{HoldsAt, filled_at, text_at}
use Rattle.job_steps.specs.Jobs.{file_of}
use Rattle.job_runs.specs.declared.record.RunRecord.TheVariants.{Closed}
use Rattle.job_runs.specs.Sources.{FedCame, FeedsCame, RecordsOf}
use Rattle.live_run.specs.Runs.{LiveBegan, LiveCame, feeds_of}
use Rattle.job_runs.specs.Rows.{RanFor, end_answer, one_answer}
use Rattle.job_runs.specs.Runs.{RanShort, RanSo}
use Rattle.job_runs.specs.inside.Outputs.{query_due}
use Rattle.job_runs.proofs.ReplayLemmas.{may_be_put}
use Rattle.job_runs.proofs.RowLemmas.{ended_row, live_short_row, query_is}
use Rattle.job_runs.proofs.SourceLemmas.{feeds_late, live_came, live_began, never_both}
use Rattle.job_runs.proofs.live.print_live.Goals as goal

pub run_live-requires-clause-put : goal.run_live-requires-clause-put
run_live-requires-clause-put g c κs within = may_be_put c.args.job.now c.args.listings.items c.in_ok-writers.writers.items c.in-Some.shape c.in-Some.ensures.shape c.requires.threads c.requires.fit c.in_ok-writers.ensures.made (c.in_ok-writers.ensures.fit c.requires.fit.each)

pub run_live-requires-clause-output : goal.run_live-requires-clause-output
run_live-requires-clause-output g c κs within = c.in_ok-output.ensures.can _ c.requires.named c.requires.apart

pub run_live-requires-clause-new : goal.run_live-requires-clause-new
run_live-requires-clause-new g c κs within = c.in_ok-output.ensures.new

pub returns-clause-ran : goal.returns-clause-ran
returns-clause-ran g c = λ ask holds.
    let job = c.args.job.now in
    let ended = c.in_ok-ended.field-0 in
    let run = Closed ended.ring in
    subst (λ (d : Due). Called (RanSo (RanFor [] (λ calls. FeedsCame job c.args.listings.items run) (λ why calls met. ⊥) (RecordsOf [] job run) c.args.sink.handle d (end_answer job) c.answer.result)) (g.W.World.seen c.args.world.now) (g.W.World.seen c.run_live.new.world)) (query_is job c.args.query.now ask c.args.sink.empty holds)
    (ended_row (text_at g.C.Consumer.keep g.C.Consumer.output) (filled_at g.C.Consumer.keep g.C.Consumer.output) (HoldsAt g.C.Consumer.keep g.C.Consumer.output g.C.Consumer.represents) (λ p. 1) c.args.sink.handle (query_due c.args.job.now c.args.query.now c.args.sink.empty) _ c.in_ok-output.ensures
    (λ calls. LiveCame c.in-Some.shape (feeds_of c.in_ok-writers.writers.items) ended.ring) (λ calls. FeedsCame job c.args.listings.items run) _ _ (λ why calls met. ⊥) [] _ c.in-ByOutput.ending _ _ _ (RecordsOf [] job run) (file_of job) _ _ c.in-ByOutput.is (λ calls on p. none_read _ (ERRORS ∷ c.args.sink.handle ∷ []) calls on)
    (λ calls met all. live_came job c.args.listings.items c.in_ok-writers.writers.items c.in-Some.shape ended.ring run met all c.requires.threads c.in_ok-writers.ensures.made c.in-Some.ensures.shape refl)
    (rw (c.in_ok-written.ensures, c.written_name.ensures) at c.answer.ensures) (λ list is stated. absurd (never_both _ stated c.requires.threads)) c.in_ok-ended.ensures.ran)

pub returns-in_err-ended-clause-short : goal.returns-in_err-ended-clause-short
returns-in_err-ended-clause-short g c =
    let p = err_from_is_err_and c.from_residual-in_err-ended.result c.from_residual-in_err-ended.ensures.1 in
    rw p.1 (λ ask holds.
    let job = c.args.job.now in
    subst (λ (d : Due). Called (RanShort [] (λ calls. FedCame job c.args.listings.items) c.args.sink.handle d) (g.W.World.seen c.args.world.now) (g.W.World.seen c.run_live.new.world)) (query_is job c.args.query.now ask c.args.sink.empty holds)
    (live_short_row (text_at g.C.Consumer.keep g.C.Consumer.output) (filled_at g.C.Consumer.keep g.C.Consumer.output) (HoldsAt g.C.Consumer.keep g.C.Consumer.output g.C.Consumer.represents) (λ p. 1) c.args.sink.handle (query_due c.args.job.now c.args.query.now c.args.sink.empty) _ c.in_ok-output.ensures
    (λ calls. LiveBegan c.in-Some.shape (feeds_of c.in_ok-writers.writers.items)) (λ calls. FedCame job c.args.listings.items) _ _ _
    (λ calls met all. live_began job c.args.listings.items c.in_ok-writers.writers.items c.in-Some.shape met all c.requires.threads c.in_ok-writers.ensures.made c.in-Some.ensures.shape)
    (λ calls met all. feeds_late job c.args.listings.items met all) c.in_err-ended.ensures.short))
