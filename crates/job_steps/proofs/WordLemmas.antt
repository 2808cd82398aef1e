-- How the rules in the words stop a job.
use Rattle.std.proofs.Common.{◌≡◌, ◌≢◌, [], Some, Ok, refl, arith}
use Rattle.log_model.specs.declared.fault.Halt.{Halt}
use Rattle.log_model.specs.declared.fault.Halt.TheVariants as halts
use Rattle.vio.specs.Steps.{Halted}
use Rattle.vsl_select.specs.declared.rule_text.SelectFault.{SelectFault}
use Rattle.vsl_select.specs.declared.rule_text.SelectFault.TheVariants as rules
use Rattle.vsl_select.specs.Shown.{rules_fault}
use Rattle.tool_words.specs.declared.job.Job.{Job}
use Rattle.job_steps.specs.declared.fault.ToolFault.{ToolFault}
use Rattle.job_steps.specs.Steps.{TakeRules, Passes, Stops, IsRuleAnswer, word_steps}
use Rattle.job_steps.specs.inside.Tasks.{IsRuleHalt}
use Rattle.job_steps.proofs.ObjectLemmas.{halted_one}

-- a fault with an answer isn't want of memory
answered : (why : SelectFault) (fault : ToolFault) → IsRuleAnswer why fault → why ≢ rules.NoMemory
answered (rules.BadTags word) fault is = λ e. absurd cc
answered (rules.BadPattern word) fault is = λ e. absurd cc
answered rules.NoMemory fault is = absurd is

-- a rule is refused, or there is no memory for it
pub rules_halt : (job : Job) (why : SelectFault) (halt : Halt ToolFault) → (why ≢ rules.NoMemory → rules_fault job.caseless job.rules ≡ Some why) → IsRuleHalt why halt → Halted Passes Stops [] (word_steps job) halt []
rules_halt job why (halts.Fault fault) first is = halted_one [] (TakeRules job.caseless job.rules) fault [] (refl, (why, first (answered why fault is), is)) refl
rules_halt job why halts.NoMemory first is = (tt, omega arith)
