-- Where the last call is refused, the bytes before it were read; where there is no memory for what it gave, this was read too.
use Rattle.vio.proofs.WholeLemmas.{OnErr-always, Read-fault, ReadSome-then}
use Rattle.vio.proofs.whole.read_whole.Goals as goal

pub returns-in_err-n-clause-err : goal.returns-in_err-n-clause-err
returns-in_err-n-clause-err g c = OnErr-always c.from_residual.result (Read-fault _ c.loop-buffer.invariant c.in_err-n.ensures.err)

pub returns-in_err-extend_from_slice-clause-err : goal.returns-in_err-extend_from_slice-clause-err
returns-in_err-extend_from_slice-clause-err g c =
    OnErr-always c.from_residual-in_err-extend_from_slice.result (ReadSome-then _ _ c.loop-buffer.invariant c.in_ok-n.ensures.ok)
