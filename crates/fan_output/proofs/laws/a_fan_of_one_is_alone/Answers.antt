use Rattle.std.proofs.Common.{false}
use Rattle.fan_output.proofs.OneLemmas.{one_ended, one_printed, one_short, one_took}
use Rattle.fan_output.proofs.laws.a_fan_of_one_is_alone.Goals as goal

pub returns : goal.returns
returns c = record {
  ended = λ o ending reads calls done last all on fail p. one_ended o reads calls done last all on fail ending p;
  printed = λ o reads calls done on p. one_printed o reads calls done on p;
  took = λ o reads calls done on p. one_took o false reads calls done on p;
  short = λ o calls met all p. one_short o calls met all p;
}
