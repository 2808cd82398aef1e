use Rattle.std.proofs.Common.{refl}
use Rattle.vsl_top.proofs.TableLemmas.{same_counted}
use Rattle.vsl_top.proofs.counts.Counts.tell.Goals as goal

pub returns : goal.returns
returns c = λ keys so_far. same_counted keys c.args.self.now _ refl so_far
