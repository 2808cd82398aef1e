use Rattle.std.proofs.Common.{Ok}
use Rattle.tool_words.proofs.SoundLemmas.{sound_answer}
use Rattle.tool_words.proofs.laws.jobs_are_sound.Goals as goal

pub returns : goal.returns
returns c = λ words job is. sound_answer (Ok job) words is
