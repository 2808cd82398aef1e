-- The words, and then the work that they ask for.
use Rattle.std.specs.Prelude.{map}
use Rattle.std.specs.String.{string_bytes}
use Rattle.tool_words.specs.declared.command.Command.TheVariants.{ForConvert}
use Rattle.tool_words.proofs.CommandLemmas.{asks_other}
use Rattle.varnish_tools.proofs.WorkLemmas.{of_words, words_end}
use Rattle.varnish_tools.proofs.tools.run_other.Goals as goal

pub unreachable-requires : goal.unreachable-requires
unreachable-requires g c = asks_other (map string_bytes c.args.words.now) _ c.requires.other (rw c.in-Ok-ForTool.field-0-is at c.in-Ok-ForTool.ensures.command)

pub returns-in-Err-clause-faithful : goal.returns-in-Err-clause-faithful
returns-in-Err-clause-faithful g c = c.finish.ensures.faithful _ (words_end _ c.in-Err.halt _ c.in-Err.ensures.refused)

pub returns-in-Err-clause-memory : goal.returns-in-Err-clause-memory
returns-in-Err-clause-memory g c = c.finish.ensures.memory _ (words_end _ c.in-Err.halt _ c.in-Err.ensures.refused)

pub returns-in-Err-clause-touches : goal.returns-in-Err-clause-touches
returns-in-Err-clause-touches g c = c.finish.ensures.touches _ (words_end _ c.in-Err.halt _ c.in-Err.ensures.refused)

pub returns-clause-faithful : goal.returns-clause-faithful
returns-clause-faithful g c = c.finish-2.ensures.faithful _ (of_words _ (ForConvert c.in-Ok-ForConvert.names) c.work_convert-worked.result _ _ (rw c.in-Ok-ForConvert.field-0-is at c.in-Ok-ForConvert.ensures.command) c.work_convert-worked.ensures)

pub returns-clause-memory : goal.returns-clause-memory
returns-clause-memory g c = c.finish-2.ensures.memory _ (of_words _ (ForConvert c.in-Ok-ForConvert.names) c.work_convert-worked.result _ _ (rw c.in-Ok-ForConvert.field-0-is at c.in-Ok-ForConvert.ensures.command) c.work_convert-worked.ensures)

pub returns-clause-touches : goal.returns-clause-touches
returns-clause-touches g c = c.finish-2.ensures.touches _ (of_words _ (ForConvert c.in-Ok-ForConvert.names) c.work_convert-worked.result _ _ (rw c.in-Ok-ForConvert.field-0-is at c.in-Ok-ForConvert.ensures.command) c.work_convert-worked.ensures)
