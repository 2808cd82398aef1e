-- Bytes more, until there are eight, or none come.
use Rattle.std.proofs.Common.{arith}
use Rattle.vio.proofs.WholeLemmas.{OnErr-always}
use Rattle.job_steps.proofs.AppendLemmas.{all_read, few_read, more_read, none_read}
use Rattle.job_steps.proofs.objects.read_start.Goals as goal

pub returns-in_err-n-clause-part : goal.returns-in_err-n-clause-part
returns-in_err-n-clause-part g c = OnErr-always c.from_residual.result (none_read c.args.handle c.loop-size.size c.loop-size.start _ _ _ c.loop-size.invariant (omega (arith, c.loop-size-test.true)) c.in_err-n.ensures.same c.in_err-n.ensures.rose).0

pub returns-in_err-n-clause-rose : goal.returns-in_err-n-clause-rose
returns-in_err-n-clause-rose g c = OnErr-always c.from_residual.result (none_read c.args.handle c.loop-size.size c.loop-size.start _ _ _ c.loop-size.invariant (omega (arith, c.loop-size-test.true)) c.in_err-n.ensures.same c.in_err-n.ensures.rose).1

pub returns-then-n-eq0-clause-read : goal.returns-then-n-eq0-clause-read
returns-then-n-eq0-clause-read g c =
    let read = rw c.if-n-eq0.true at c.in_ok-n.ensures.read in
    few_read c.args.handle c.loop-size.size c.loop-size.start _ _ _ c.loop-size.invariant c.read_behind.new.bytes c.in_ok-n.ensures.kept (omega (arith, c.loop-size-test.true)) read
    (c.in_ok-n.ensures.end c.if-n-eq0.true (omega (arith, c.loop-size-test.true, c.loop-size.invariant.eight)))

pub loop-size-preserved : goal.loop-size-preserved
loop-size-preserved g c =
    more_read c.args.handle c.loop-size.size c.loop-size.start _ _ _ c.loop-size.invariant c.in_ok-n.n c.read_behind.new.bytes c.in_ok-n.ensures.kept c.read_behind.auto.bytes c.in_ok-n.ensures.fits c.in_ok-n.ensures.read

pub returns-clause-read : goal.returns-clause-read
returns-clause-read g c = all_read c.args.handle c.loop-size.size c.loop-size.start _ _ c.loop-size.invariant (omega (arith, c.loop-size-test.false))
