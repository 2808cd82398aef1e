use Rattle.vsl_tags.proofs.TagSetLemmas.{cut_at_comma, no_comma}
use Rattle.vsl_tags.proofs.tag_set.cut_element.Goals as goal

pub returns-clause-cut : goal.returns-clause-cut
returns-clause-cut c = cut_at_comma c.args.list.now c.split_once.result c.split_once.ensures.cases

pub returns-clause-last : goal.returns-clause-last
returns-clause-last c = no_comma c.args.list.now c.split_once.result c.split_once.ensures.cases
