use Rattle.std.proofs.Common.{◌≡◌, [], List, map, ap, sym, ◌∙◌, arith}
use Rattle.std.proofs.lemmas.List.{take_all}
use Rattle.query_parser.specs.declared.query.Query.{Query}
use Rattle.query_eval.specs.Asker.{asker_query}
use Rattle.txn_groups.specs.inside.Marked.{marks_for}
use Rattle.txn_groups.proofs.AskersLemmas.{testless_marks}
use Rattle.txn_groups.proofs.askers.Askers.new.Goals as goal

-- the queries that are asked have no test either
pub invariant_of-result : goal.invariant_of-result
invariant_of-result c =
    let queries = c.args.queries.now in
    let asked : map asker_query c.loop-i.all.items ≡ queries = c.loop-i.invariant ∙ take_all c.loop-i.i queries c.loop-i-test.false in
    record { same = λ none records. ap (λ (qs : List Query). marks_for qs records) asked ∙ testless_marks queries records (sym c.are_testless.ensures ∙ none) ∙ sym (ap (λ (qs : List Query). marks_for qs []) asked) }
