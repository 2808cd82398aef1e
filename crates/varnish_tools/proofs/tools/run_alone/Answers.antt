-- The work, said of the words that state the job.
use Rattle.std.specs.Prelude.{map}
use Rattle.std.specs.String.{string_bytes}
use Rattle.tool_words.specs.declared.command.Command.TheVariants.{ForTool}
use Rattle.tool_words.proofs.CommandLemmas.{asks_tool}
use Rattle.varnish_tools.proofs.WorkLemmas.{of_words}
use Rattle.varnish_tools.proofs.tools.run_alone.Goals as goal

pub returns-clause-faithful : goal.returns-clause-faithful
returns-clause-faithful g c = c.finish.ensures.faithful _ (of_words _ (ForTool c.args.job.now) c.work_alone-worked.result _ _ (asks_tool (map string_bytes c.args.words.now) c.args.job.now c.requires.job) c.work_alone-worked.ensures)

pub returns-clause-memory : goal.returns-clause-memory
returns-clause-memory g c = c.finish.ensures.memory _ (of_words _ (ForTool c.args.job.now) c.work_alone-worked.result _ _ (asks_tool (map string_bytes c.args.words.now) c.args.job.now c.requires.job) c.work_alone-worked.ensures)

pub returns-clause-touches : goal.returns-clause-touches
returns-clause-touches g c = c.finish.ensures.touches _ (of_words _ (ForTool c.args.job.now) c.work_alone-worked.result _ _ (asks_tool (map string_bytes c.args.words.now) c.args.job.now c.requires.job) c.work_alone-worked.ensures)
