-- The consumer of a job (this project's choice).
use Rattle.std.specs.Prelude.{◌≡◌, ℕ, Bool, false, List, [], Option}
use Rattle.txn_rows.specs.declared.group.Group.{Group}
use Rattle.vsl_top.specs.Counting.{IsTop}
use Rattle.vsl_top.specs.Counting as counting
use Rattle.ncsa_format.specs.Access.{IsAccessLog}
use Rattle.ncsa_format.specs.Access as access
use Rattle.tool_words.specs.declared.job.Job.{Job}
use Rattle.tool_consumers.specs.declared.consumers.ToolConsumer.{ToolConsumer}
use Rattle.tool_consumers.specs.declared.consumers.ToolConsumer.TheVariants.{Log, Ncsa, Top}
use Rattle.tool_consumers.specs.Output.{laid_out, output_of}
use Rattle.tool_consumers.specs.inside.Consumer.{IsLog}

-- how many groups the consumer of a tool keeps, where there is a limit
abbrev pub consumer_keep : ToolConsumer → Option ℕ
consumer_keep (Log c) = c.received.keep
consumer_keep (Ncsa c) = access.keep_of c
consumer_keep (Top c) = counting.keep_of c

-- what it writes of groups, ended or not
abbrev pub consumer_output : ToolConsumer → List Group → Bool → List ℕ
consumer_output (Log c) = λ groups ended. laid_out c.look groups
consumer_output (Ncsa c) = access.output_of c
consumer_output (Top c) = counting.output_of c

-- it received these groups, ended or not, and of what it writes these bytes were taken
abbrev pub consumer_represents : ToolConsumer → List Group → Bool → List ℕ → Type 0
consumer_represents (Log c) = IsLog c
consumer_represents (Ncsa c) = IsAccessLog c
consumer_represents (Top c) = IsTop c

-- a consumer of a job, which received nothing
pub record IsJobConsumer {C : Type 0} (keep : C → Option ℕ) (output : C → List Group → Bool → List ℕ) (represents : C → List Group → Bool → List ℕ → Type 0) (job : Job) (c : C) : Type 0 where
  pub keeps : keep c ≡ job.keep
  pub writes : output c ≡ output_of job
  pub new : represents c [] false []
