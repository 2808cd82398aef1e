use Rattle.query_eval.proofs.MarkLemmas.{by_mark, held_by, tests_of_either}
use Rattle.query_eval.proofs.laws.queries_of_truths.Goals as goal

-- each law is a lemma
pub returns : goal.returns
returns c = record {
  truths = held_by;
  member = λ test member. by_mark test member.level member.records;
  joined = λ a b q s t of_a of_b of_q. rw (of_q.steps, of_a.steps, of_b.steps) (tests_of_either s t);
}
