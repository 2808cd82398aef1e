use Rattle.tool_words.proofs.TableChecks.{all_letters, all_words}
use Rattle.tool_words.proofs.laws.options_are_written_out.Goals as goal

pub returns-clause-letters : goal.returns-clause-letters
returns-clause-letters c = all_letters

pub returns-clause-words : goal.returns-clause-words
returns-clause-words c = all_words
