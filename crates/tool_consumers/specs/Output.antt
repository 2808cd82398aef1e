-- What a job writes of groups (varnishlog(1), varnishtop(1)).
use Rattle.std.specs.Prelude.{Bool, ℕ, ◌&&◌, if◌then◌else◌, List, [], map}
use Rattle.std.specs.List.{flat_map}
use Rattle.vsl_file.specs.File.{file_header, log_bytes}
use Rattle.txn_rows.specs.declared.group.Group.{Group}
use Rattle.vsl_select.specs.Lines.{group_text}
use Rattle.vsl_select.specs.Shown.{shown}
use Rattle.vsl_select.specs.FileUnits.{file_units}
use Rattle.vsl_top.specs.Report.{top_output}
use Rattle.ncsa_format.specs.Reading.{pieces_of}
use Rattle.ncsa_format.specs.Line.{access_text}
use Rattle.tool_words.specs.declared.job.Job.{Job}
use Rattle.tool_words.specs.declared.job.Tool.{Tool}
use Rattle.tool_words.specs.declared.job.Tool.TheVariants as tools
use Rattle.job_steps.specs.Jobs.{showing_of, format_text, writes_log}
use Rattle.tool_consumers.specs.declared.layout.Layout.{Layout}
use Rattle.tool_consumers.specs.declared.layout.Look.{Look}
use Rattle.tool_consumers.specs.declared.layout.Layout.TheVariants.{Lines, Units}

-- the lines of groups, verbose or not, one group after another
abbrev pub lines_of : Bool → List Group → List ℕ
lines_of verbose groups = flat_map (group_text verbose) groups

-- what groups are written as, one after another: their lines, verbose or not, or the units of a log file
abbrev pub written : Layout → Bool → List Group → List ℕ
written Lines verbose groups = lines_of verbose groups
written Units verbose groups = log_bytes (flat_map file_units groups)

-- what groups look like: what of them is shown, as it is written
abbrev pub laid_out : Look → List Group → List ℕ
laid_out look groups = written look.layout look.verbose (map (shown look.viewer) groups)

-- how a job writes groups
abbrev pub layout_of : Job → Layout
layout_of job = if writes_log job then Units else Lines

-- what groups look like in what a job writes
abbrev pub look_of : Job → Look
look_of job = record { layout = layout_of job; verbose = job.verbose; viewer = showing_of job }

-- what varnishlog writes of groups as lines: those of what is shown of each
abbrev pub log_lines : Job → List Group → List ℕ
log_lines job groups = lines_of job.verbose (map (shown (showing_of job)) groups)

-- what varnishncsa writes of groups: a line in the job's format for each of their requests that is logged
abbrev pub access_lines : Job → List Group → List ℕ
access_lines job groups = access_text (pieces_of (format_text job)) job.sides groups

-- what varnishtop writes of groups, ended or not: a report of what is shown of them
abbrev pub top_report : Job → List Group → Bool → List ℕ
top_report job groups ended = top_output (showing_of job) job.first_field groups ended

-- what a tool writes of a job's groups, ended or not: varnishlog what groups look like, varnishncsa their access lines, varnishtop its report; varnishstat, which takes no groups, nothing
abbrev pub tool_output : Tool → Job → List Group → Bool → List ℕ
tool_output tools.Log job = λ groups ended. laid_out (look_of job) groups
tool_output tools.Ncsa job = λ groups ended. access_lines job groups
tool_output tools.Top job = λ groups ended. top_report job groups ended
tool_output tools.Stat job = λ groups ended. []

-- what a job writes of groups, ended or not
abbrev pub output_of : Job → List Group → Bool → List ℕ
output_of job = tool_output job.tool job

-- what a sink gains before any group: a log file that was empty begins with its header. It comes before a byte of the
-- log is read: so a pipe sees a log at once, and a run that is cut short leaves a log (this project's choice)
abbrev pub head_text : Job → Bool → List ℕ
head_text job sink_empty = if writes_log job && sink_empty then file_header else []
