use Rattle.vsl_words.specs.declared.version.Version.TheVariants.{One}
use Rattle.vsl_record.proofs.AnswerLemmas.{answers_unit, answers_fault}
use Rattle.vsl_record.proofs.words.read_unit1.Goals as goal

pub returns-clause-only : goal.returns-clause-only
returns-clause-only c = λ u rest fits is. answers_unit One c.args.words.now c.read_prefix.result u rest c.read_prefix.ensures.found c.read_prefix.ensures.refused fits is

pub returns-clause-faulty : goal.returns-clause-faulty
returns-clause-faulty c = λ fault faulty. answers_fault One c.args.words.now c.read_prefix.result fault c.read_prefix.ensures.found c.read_prefix.ensures.refused faulty
