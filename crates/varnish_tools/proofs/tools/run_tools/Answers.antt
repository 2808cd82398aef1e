-- The words, and then the work that they ask for.
use Rattle.std.specs.Prelude.{map}
use Rattle.std.specs.String.{string_bytes}
use Rattle.tool_words.specs.declared.command.Command.TheVariants.{ForTool}
use Rattle.tool_words.proofs.CommandLemmas.{converts_other, states_tool}
use Rattle.varnish_tools.proofs.PlainLemmas.{plain_ok}
use Rattle.varnish_tools.proofs.WorkLemmas.{of_words, words_end}
use Rattle.varnish_tools.proofs.tools.run_tools.Goals as goal

pub returns-in-Err-clause-plain : goal.returns-in-Err-clause-plain
returns-in-Err-clause-plain g c = plain_ok c.plain_logs_are_printed.ensures _ c.finish.result _ _ (g.met.W.World.streams c.args.world.now) (c.finish.ensures.faithful _ (words_end _ c.in-Err.halt _ c.in-Err.ensures.refused))

pub returns-in-Err-clause-faithful : goal.returns-in-Err-clause-faithful
returns-in-Err-clause-faithful g c = c.finish.ensures.faithful _ (words_end _ c.in-Err.halt _ c.in-Err.ensures.refused)

pub returns-in-Err-clause-memory : goal.returns-in-Err-clause-memory
returns-in-Err-clause-memory g c = c.finish.ensures.memory _ (words_end _ c.in-Err.halt _ c.in-Err.ensures.refused)

pub returns-in-Err-clause-touches : goal.returns-in-Err-clause-touches
returns-in-Err-clause-touches g c = c.finish.ensures.touches _ (words_end _ c.in-Err.halt _ c.in-Err.ensures.refused)

pub returns-then-not-is_on_threads-clause-plain : goal.returns-then-not-is_on_threads-clause-plain
returns-then-not-is_on_threads-clause-plain g c = plain_ok c.plain_logs_are_printed.ensures _ c.run_alone.result _ _ (g.met.W.World.streams c.args.world.now) c.run_alone.ensures.faithful

pub returns-clause-plain : goal.returns-clause-plain
returns-clause-plain g c =
    plain_ok c.plain_logs_are_printed.ensures _ c.finish-2.result _ _ (g.met.W.World.streams c.args.world.now) (c.finish-2.ensures.faithful _ (of_words _ (ForTool c.in-Ok-ForTool.job) c.work_on_threads-worked.result _ _ (rw c.in-Ok-ForTool.field-0-is at c.in-Ok-ForTool.ensures.command) c.work_on_threads-worked.ensures))

pub returns-clause-faithful : goal.returns-clause-faithful
returns-clause-faithful g c = c.finish-2.ensures.faithful _ (of_words _ (ForTool c.in-Ok-ForTool.job) c.work_on_threads-worked.result _ _ (rw c.in-Ok-ForTool.field-0-is at c.in-Ok-ForTool.ensures.command) c.work_on_threads-worked.ensures)

pub returns-clause-memory : goal.returns-clause-memory
returns-clause-memory g c = c.finish-2.ensures.memory _ (of_words _ (ForTool c.in-Ok-ForTool.job) c.work_on_threads-worked.result _ _ (rw c.in-Ok-ForTool.field-0-is at c.in-Ok-ForTool.ensures.command) c.work_on_threads-worked.ensures)

pub returns-clause-touches : goal.returns-clause-touches
returns-clause-touches g c = c.finish-2.ensures.touches _ (of_words _ (ForTool c.in-Ok-ForTool.job) c.work_on_threads-worked.result _ _ (rw c.in-Ok-ForTool.field-0-is at c.in-Ok-ForTool.ensures.command) c.work_on_threads-worked.ensures)

pub run_other-requires : goal.run_other-requires
run_other-requires g c = record { other = converts_other (map string_bytes c.args.words.now) _ (rw c.in-Ok-ForConvert.field-0-is at c.in-Ok-ForConvert.ensures.command) }

pub returns-in-Ok-ForConvert-clause-plain : goal.returns-in-Ok-ForConvert-clause-plain
returns-in-Ok-ForConvert-clause-plain g c = plain_ok c.plain_logs_are_printed.ensures _ c.run_other.result _ _ (g.met.W.World.streams c.args.world.now) c.run_other.ensures.faithful

pub run_alone-requires-clause-job : goal.run_alone-requires-clause-job
run_alone-requires-clause-job g c = states_tool (map string_bytes c.args.words.now) c.in-Ok-ForTool.job (rw c.in-Ok-ForTool.field-0-is at c.in-Ok-ForTool.ensures.command)
