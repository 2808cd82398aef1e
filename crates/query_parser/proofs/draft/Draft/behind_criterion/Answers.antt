use Rattle.std.proofs.Common.{[], Result, sym, refl, subst}
use Rattle.std.proofs.lemmas.Result.{err_from_is_err_and}
use Rattle.query_grammar.specs.Scanner.{token_done, Spot, Fault}
use Rattle.query_parser.specs.inside.Stages.{join_token, spot_of}
use Rattle.query_parser.specs.inside.Follows.{rules, Takes}
use Rattle.query_parser.proofs.Follow.{test_over, with_word}
use Rattle.query_parser.proofs.Moves.{operator_taken, behind_is, kept_behind, fails_then, goes_then}
use Rattle.query_parser.proofs.draft.Draft.behind_criterion.Goals as goal

pub returns-in-Some-clause-spot : goal.returns-in-Some-clause-spot
returns-in-Some-clause-spot c = λ caseless written meant.
    operator_taken caseless c.args.end c.args.self _ written c.args.word.now c.args.rest.now c.args.criterion c.in-Some.operator c.requires.stage refl refl refl c.in-Some.ensures.some c.in-Some.ensures.found meant

pub returns-in_err-selected-clause-spot : goal.returns-in_err-selected-clause-spot
returns-in_err-selected-clause-spot c = λ caseless written meant.
    let p = err_from_is_err_and c.from_residual.result c.from_residual.ensures.1 in
    let same = behind_is caseless c.args.end c.args.self written c.args.word.now c.args.rest.now c.args.criterion c.join_of-join.result c.requires.stage c.in_default.ensures.none c.join_of-join.ensures in
    rw (p.1, p.2) (fails_then c.in_err-selected.field-0.0 _ (test_over c.args.self.place (kept_behind c.args.self c.args.criterion.now written)) (λ s. token_done (rules caseless) c.args.end (with_word s c.args.word.now) (join_token c.join_of-join.result)) same (c.in_err-selected.ensures.spot caseless written meant))

pub returns-clause-spot : goal.returns-clause-spot
returns-clause-spot c = λ caseless written meant.
    let same = behind_is caseless c.args.end c.args.self written c.args.word.now c.args.rest.now c.args.criterion c.join_of-join.result c.requires.stage c.in_default.ensures.none c.join_of-join.ensures in
    let t = c.in_ok-selected.ensures.spot caseless written meant in
    subst (λ (m : Result Spot Fault). Takes caseless c.join.result m)
    (sym (goes_then _ (test_over c.args.self.place (kept_behind c.args.self c.args.criterion.now written)) (λ s. token_done (rules caseless) c.args.end (with_word s c.args.word.now) (join_token c.join_of-join.result)) t.0 (spot_of c.in_ok-selected.field-0 t.2.written []) same t.1 t.2.same))
    (c.join.ensures.spot caseless t.2.written c.args.word.now t.2.meant)
