use Rattle.std.proofs.Common.{arith}
use Rattle.vio.proofs.WholeLemmas.{OnErr-always}
use Rattle.varnish_log.proofs.FirstLemmas.{all_read, few_read, more_read, none_read}
use Rattle.varnish_log.proofs.first.read_first.Goals as goal

pub returns-in_err-n-clause-failed : goal.returns-in_err-n-clause-failed
returns-in_err-n-clause-failed g c =
    OnErr-always c.from_residual.result (none_read c.args.input c.loop-size.size c.loop-size.first _ _ _ c.loop-size.invariant (omega (arith, c.loop-size-test.true)) c.in_err-n.ensures.same c.in_err-n.ensures.rose)

pub returns-then-n-eq0-clause-first : goal.returns-then-n-eq0-clause-first
returns-then-n-eq0-clause-first g c =
    let read = rw c.if-n-eq0.true at c.in_ok-n.ensures.read in
    few_read c.args.input c.loop-size.size c.loop-size.first _ _ _ c.loop-size.invariant c.read_behind.new.bytes c.in_ok-n.ensures.kept (omega (arith, c.loop-size-test.true)) read
    (c.in_ok-n.ensures.end c.if-n-eq0.true (omega (arith, c.loop-size-test.true, c.loop-size.invariant.four)))

pub loop-size-preserved : goal.loop-size-preserved
loop-size-preserved g c =
    more_read c.args.input c.loop-size.size c.loop-size.first _ _ _ c.loop-size.invariant c.in_ok-n.n c.read_behind.new.bytes c.in_ok-n.ensures.kept c.read_behind.auto.bytes c.in_ok-n.ensures.fits c.in_ok-n.ensures.read

pub returns-clause-first : goal.returns-clause-first
returns-clause-first g c = all_read c.args.input c.loop-size.size c.loop-size.first _ _ c.loop-size.invariant (omega (arith, c.loop-size-test.false))
