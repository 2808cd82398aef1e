-- What is due of a log whose groups are told.
use Rattle.std.proofs.Common.{◌≡◌, Bool, true, List, [], ◌∷◌, ◌++◌, refl, ap, ◌∙◌}
use Rattle.vsl_record.specs.Unit.{Log}
use Rattle.txn_rows.specs.declared.group.Group.{Group}
use Rattle.txn_rows.specs.Grouping.{Taken, TakenUnit, all_taken, groups_of}
use Rattle.tool_words.specs.declared.job.Job.{Job}
use Rattle.run_sources.specs.Sources.{unit_items}
use Rattle.fan_output.specs.Ends.{whole}
use Rattle.text_printer.specs.Taken.{taken_of}
use Rattle.job_steps.specs.Jobs.{options_of}
use Rattle.job_steps.specs.Queries.{Ask, chosen}
use Rattle.tool_consumers.specs.Output.{head_text, output_of}
use Rattle.vsl_dispatch.specs.Groups.{kept}
use Rattle.job_runs.specs.Rows.{job_due}

-- the items of units are taken as these
taken_units : (units : Log) → taken_of (unit_items units) ≡ all_taken units
taken_units [] = refl
taken_units (u ∷ units) = ap (λ (rest : List Taken). TakenUnit u ∷ rest) (taken_units units)

pub due_is : (job : Job) (ask : Ask) (empty : Bool) (units : Log) (groups : List Group) → groups_of (options_of job) (all_taken units) true ≡ groups →
    whole (job_due job ask empty) (unit_items units) true ≡ head_text job empty ++ output_of job (kept job.keep (chosen ask groups)) true
due_is job ask empty units groups are =
    ap (λ (taken : List Taken). head_text job empty ++ output_of job (kept job.keep (chosen ask (groups_of (options_of job) taken true))) true) (taken_units units)
    ∙ ap (λ (all : List Group). head_text job empty ++ output_of job (kept job.keep (chosen ask all)) true) are
