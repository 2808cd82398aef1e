use Rattle.std.proofs.Common.{List, [], Result, sym, subst}
use Rattle.std.proofs.lemmas.Result.{err_from_is_err_and}
use Rattle.query_grammar.specs.Step.{Step}
use Rattle.query_grammar.specs.Scanner.{Fault, finish_in}
use Rattle.query_parser.specs.inside.Stages.{spot_of}
use Rattle.query_parser.specs.inside.Follows.{rules, Gives}
use Rattle.query_parser.proofs.Follow.{test_over}
use Rattle.query_parser.proofs.Moves.{finish_is, kept_behind, fails_then, goes_then}
use Rattle.query_parser.proofs.draft.Draft.finish.Goals as goal

pub returns-in_err-selected-in-Operator : goal.returns-in_err-selected-in-Operator
returns-in_err-selected-in-Operator c = λ caseless written meant.
    let p = err_from_is_err_and c.from_residual.result c.from_residual.ensures.1 in
    let same = finish_is caseless c.args.at c.args.self written c.in-Operator.criterion c.in-Operator.is in
    rw (p.1, p.2) (fails_then c.in_err-selected-in-Operator.field-0.0 _ (test_over c.args.self.place (kept_behind c.args.self c.in-Operator.criterion.now written)) (λ s. finish_in (rules caseless) c.args.at s []) same (c.in_err-selected-in-Operator.ensures.spot caseless written meant))

pub returns-in_ok-selected-in-Operator : goal.returns-in_ok-selected-in-Operator
returns-in_ok-selected-in-Operator c = λ caseless written meant.
    let same = finish_is caseless c.args.at c.args.self written c.in-Operator.criterion c.in-Operator.is in
    let t = c.in_ok-selected-in-Operator.ensures.spot caseless written meant in
    subst (λ (m : Result (List Step) Fault). Gives caseless c.end.result m)
    (sym (goes_then _ (test_over c.args.self.place (kept_behind c.args.self c.in-Operator.criterion.now written)) (λ s. finish_in (rules caseless) c.args.at s []) t.0 (spot_of c.in_ok-selected-in-Operator.field-0 t.2.written []) same t.1 t.2.same))
    (c.end.ensures caseless t.2.written t.2.meant)
