use Rattle.vio.proofs.CallLaws.{did_keep}
use Rattle.vio.proofs.TouchLemmas.{did_touch}
use Rattle.vio.proofs.laws.calls_touch_no_more.Goals as goal

pub returns : goal.returns
returns c = record { touched = did_touch; kept = did_keep }
