use Rattle.job_runs.proofs.CounterLemmas.{printed_list, printed_text, printed_json}
use Rattle.job_runs.proofs.counters.text_of.Goals.{in-List+in_ok-stat_list-in-List, in-Once+in_ok-stat_text-in-Once, in-Json+in_ok-stat_json-in-Json}
use Rattle.job_runs.proofs.counters.text_of.Goals as goal

pub returns : goal.returns
returns c = elim c.match-job.branch [
  | in-List+in_ok-stat_list-in-List w ↦ printed_list c.args.job.now _ _ _ _ w.in-List.is c.in_ok-globs.ensures c.new-text.ensures.items (rw w.text-is w.in_ok-stat_list-in-List.ensures.ok)
  | in-Once+in_ok-stat_text-in-Once w ↦ printed_text c.args.job.now _ _ _ _ w.in-Once.is c.in_ok-globs.ensures c.new-text.ensures.items (rw w.text-is w.in_ok-stat_text-in-Once.ensures.ok)
  | in-Json+in_ok-stat_json-in-Json w ↦ printed_json c.args.job.now _ _ _ _ w.in-Json.is c.in_ok-globs.ensures c.new-text.ensures.items (rw w.text-is w.in_ok-stat_json-in-Json.ensures.ok)
]
