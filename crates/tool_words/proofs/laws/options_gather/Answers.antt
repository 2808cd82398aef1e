use Rattle.tool_words.proofs.AgainLemmas.{all_gathered, last_counts}
use Rattle.tool_words.proofs.ValueLemmas.{all_said}
use Rattle.tool_words.proofs.laws.options_gather.Goals as goal

pub returns-clause-last : goal.returns-clause-last
returns-clause-last c = last_counts

pub returns-clause-said : goal.returns-clause-said
returns-clause-said c = all_said

pub returns-clause-gathered : goal.returns-clause-gathered
returns-clause-gathered c = all_gathered
