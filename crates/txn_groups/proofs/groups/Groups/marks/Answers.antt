use Rattle.std.specs.Coded.{Coded-set, coded_bool, coded_list, coded_option}
use Rattle.txn_groups.proofs.GroupsLemmas.{if_some_elim, if_none_elim, query_at}
use Rattle.txn_groups.proofs.groups.Groups.marks.Goals as goal

pub returns-clause-some : goal.returns-clause-some
returns-clause-some c = λ kept q asked.
    let g = c.args.self.now in
    if_some_elim c.marks.result (g.sound kept) (λ marks. Coded-set (coded_option (coded_list coded_bool)) _ _) (λ s. c.marks.ensures.some g.queries.now q s.ordered.kept asked)

pub returns-clause-none : goal.returns-clause-none
returns-clause-none c = λ kept.
    let g = c.args.self.now in
    let q = query_at g.queries.now c.args.query c.requires in
    if_none_elim c.marks.result (g.sound kept) (Coded-set coded_bool _ _) (λ s. c.marks.ensures.none g.queries.now q.0 s.ordered.kept q.1)
