use Rattle.vsl_tags.proofs.TagSetLemmas.{none_in_empty}
use Rattle.vsl_tags.proofs.tag_set.TagSet.empty.Goals as goal

pub returns : goal.returns
returns c = none_in_empty
