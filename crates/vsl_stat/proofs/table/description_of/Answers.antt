use Rattle.vsl_stat.proofs.TableLemmas.{second_at, description_at}
use Rattle.vsl_stat.proofs.table.description_of.Goals as goal

pub returns : goal.returns
returns c = rw second_at (description_at c.args.which _ c.requires)
