use Rattle.vio.proofs.CallLaws.{did_gain, did_hold}
use Rattle.vio.proofs.laws.calls_write.Goals as goal

pub returns : goal.returns
returns c = record { written = did_gain; held = did_hold }
