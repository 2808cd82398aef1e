use Rattle.vio.proofs.CallLaws.{did_given, did_give, did_give_named}
use Rattle.vio.proofs.laws.calls_give.Goals as goal

pub returns : goal.returns
returns c = record { stays = did_given; new = did_give; named = did_give_named }
