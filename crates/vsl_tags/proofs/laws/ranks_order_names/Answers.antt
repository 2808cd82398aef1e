use Rattle.vsl_tags.proofs.RankLemmas.{ranked_as_named}
use Rattle.vsl_tags.proofs.laws.ranks_order_names.Goals as goal

pub returns : goal.returns
returns c = ranked_as_named
