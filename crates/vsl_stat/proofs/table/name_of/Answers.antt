use Rattle.vsl_stat.proofs.TableLemmas.{first_at, name_at}
use Rattle.vsl_stat.proofs.table.name_of.Goals as goal

pub returns : goal.returns
returns c = rw first_at (name_at c.args.which _ c.requires)
