use Rattle.std.proofs.Common.{[], ◌∷◌}
use Rattle.run_sources.specs.Sources.{FileCame, FileStopped}
use Rattle.job_runs.specs.Sources.{FeedsCame, RecordsCount, RecordsOf}
use Rattle.job_runs.proofs.RowLemmas.{one_of_list}
use Rattle.job_runs.proofs.laws.a_list_of_one_is_alone.Goals as goal

pub returns-clause-log : goal.returns-clause-log
returns-clause-log c = λ h recorded o name now fault calls fail p.
    one_of_list (h ∷ []) (FileCame h) (λ why cs met. FileStopped h why cs met now) (RecordsCount recorded) o name fault calls fail p

pub returns-clause-feeds : goal.returns-clause-feeds
returns-clause-feeds c = λ job listings recorded o name fault calls fail p.
    one_of_list [] (λ cs. FeedsCame job listings recorded) (λ why cs met. ⊥) (RecordsOf [] job recorded) o name fault calls fail p
