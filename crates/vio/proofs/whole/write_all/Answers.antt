-- After a piece, the prefix that was written is longer by what the call took; a refused call leaves something of the piece.
use Rattle.std.proofs.Common.{rules}
use Rattle.vio.proofs.WholeLemmas.{OnErr-always, IsPartlyWritten-then, IsPartlyWritten-fault}
use Rattle.vio.proofs.whole.write_all.Goals as goal

pub loop-rest-preserved : goal.loop-rest-preserved
loop-rest-preserved g c =
    rw c.split_at.ensures.back (IsPartlyWritten-then _ _ c.loop-rest.invariant c.in_ok-n.ensures.ok)

pub returns-in_err-n-clause-err : goal.returns-in_err-n-clause-err
returns-in_err-n-clause-err g c = OnErr-always c.from_residual.result (IsPartlyWritten-fault (search rules) c.loop-rest.invariant c.in_err-n.ensures.err)
