use Rattle.std.proofs.Common.{arith}
use Rattle.vsl_tags.proofs.NameLemmas.{columns_length}
use Rattle.vsl_tags.proofs.names.name_columns.Goals as goal

pub unreachable-requires : goal.unreachable-requires
unreachable-requires c = grind (arith, columns_length c.args.tag c.columns_of.ensures.tag)
