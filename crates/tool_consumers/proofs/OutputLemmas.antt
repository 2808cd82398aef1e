-- What a job writes of groups.
use Rattle.std.proofs.Common.{◌≡◌, Bool, true, false, List, [], ◌++◌, refl}
use Rattle.std.proofs.lemmas.List.Concat.{flat_map-append}
use Rattle.log_model.specs.Prefix.{IsPrefix}
use Rattle.log_model.proofs.PrefixLemmas.{prefix_append, prefix_nil}
use Rattle.txn_rows.specs.declared.group.Group.{Group}
use Rattle.tool_words.specs.declared.job.Job.{Job}
use Rattle.tool_words.specs.declared.job.Tool.{Tool}
use Rattle.tool_words.specs.declared.job.Tool.TheVariants.{Log, Ncsa, Top, Stat}
use Rattle.vsl_top.specs.Report.{top_output}
use Rattle.ncsa_format.specs.Line.{group_lines}
use Rattle.ncsa_format.specs.Reading.{pieces_of}
use Rattle.job_steps.specs.Jobs.{format_text}
use Rattle.job_steps.specs.Jobs.{showing_of}
use Rattle.tool_consumers.specs.Output.{look_of, output_of, tool_output}
use Rattle.text_printer.specs.Printer.{IsOutput}
use Rattle.tool_consumers.proofs.ConsumerLemmas.{laid_append, laid_nil}

tool_none : (tool : Tool) (job : Job) (ended : Bool) → tool_output tool job [] ended ≡ []
tool_none Log job ended = laid_nil (look_of job)
tool_none Ncsa job ended = refl
tool_none Top job true = refl
tool_none Top job false = refl
tool_none Stat job ended = refl

tool_grows : (tool : Tool) (job : Job) (groups more : List Group) (ended : Bool) → IsPrefix (tool_output tool job groups false) (tool_output tool job (groups ++ more) ended)
tool_grows Log job groups more ended = rw (laid_append (look_of job) groups more) (prefix_append _ _)
tool_grows Ncsa job groups more ended = rw (flat_map-append (group_lines (pieces_of (format_text job)) job.sides) groups more) (prefix_append _ _)
tool_grows Top job groups more ended = prefix_nil (top_output (showing_of job) job.first_field (groups ++ more) ended)
tool_grows Stat job groups more ended = prefix_nil []

-- what a job writes is nothing of no groups, and goes on where more of them come, or their end
pub job_output : (job : Job) → IsOutput (output_of job)
job_output job = record { none = tool_none job.tool job; grows = tool_grows job.tool job }
