use Rattle.vio.proofs.CallLaws.{did_lose, did_end}
use Rattle.vio.proofs.laws.calls_take.Goals as goal

pub returns : goal.returns
returns c = record { left = did_lose; ended = did_end }
