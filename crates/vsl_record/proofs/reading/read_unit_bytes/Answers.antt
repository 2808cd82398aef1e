use Rattle.vsl_record.specs.Words.{words_in}
use Rattle.vsl_record.proofs.AnswerLemmas.{answers_unit, answers_fault}
use Rattle.vsl_record.proofs.reading.read_unit_bytes.Goals as goal

pub returns-clause-only : goal.returns-clause-only
returns-clause-only c = λ u rest fits is. answers_unit c.args.version (words_in c.args.bytes.now) c.read_prefix.result u rest c.read_prefix.ensures.found c.read_prefix.ensures.refused fits is

pub returns-clause-faulty : goal.returns-clause-faulty
returns-clause-faulty c = λ fault faulty. answers_fault c.args.version (words_in c.args.bytes.now) c.read_prefix.result fault c.read_prefix.ensures.found c.read_prefix.ensures.refused faulty
