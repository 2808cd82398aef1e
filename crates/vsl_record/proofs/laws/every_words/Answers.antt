use Rattle.vsl_record.proofs.UnitReadingLemmas.{every_words_of}
use Rattle.vsl_record.proofs.laws.every_words.Goals as goal

pub returns : goal.returns
returns c = every_words_of
