use Rattle.vio.proofs.CallLaws.{did_fail, did_fail_each}
use Rattle.vio.proofs.laws.failed_calls_are_counted.Goals as goal

pub returns : goal.returns
returns c = record { one = did_fail; each = did_fail_each }
