use Rattle.job_runs.proofs.ToldLemmas.{short_feeds, short_log}
use Rattle.job_runs.proofs.laws.short_runs_are_part.Goals as goal

pub returns-clause-log : goal.returns-clause-log
returns-clause-log c = short_log

pub returns-clause-feeds : goal.returns-clause-feeds
returns-clause-feeds c = short_feeds
