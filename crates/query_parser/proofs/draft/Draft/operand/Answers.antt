use Rattle.std.proofs.Common.{◌-◌, ◌++◌, ◌∷◌, [], length, sym, ◌∙◌}
use Rattle.std.proofs.lemmas.Result.{err_from_is_err_and}
use Rattle.query_grammar.specs.Steps.{test_step}
use Rattle.query_grammar.specs.Moves.{rested, tightened}
use Rattle.query_parser.specs.Operators.{operator_text}
use Rattle.query_parser.specs.inside.Stages.{at_spot}
use Rattle.query_parser.proofs.Follow.{fine_anywhere}
use Rattle.query_parser.proofs.Moves.{operand_cut, operand_taken}
use Rattle.query_parser.proofs.draft.Draft.operand.Goals as goal

pub returns-in_err-judge_criterion-clause-spot : goal.returns-in_err-judge_criterion-clause-spot
returns-in_err-judge_criterion-clause-spot c = λ written rest meant.
    let p = err_from_is_err_and c.from_residual.result c.from_residual.ensures.1 in
    rw (p.1, p.2) (operand_cut c.args.caseless c.args.end c.args.self written c.args.word.now c.args.criterion c.args.operator c.in_err-judge_criterion.field-0.0 c.requires.stage c.in_err-judge_criterion.ensures.refused)

pub read_criterion-requires-clause-fine : goal.read_criterion-requires-clause-fine
read_criterion-requires-clause-fine c = fine_anywhere c.args.self.place c.args.criterion.now c.in_ok-judge_criterion.ensures.ok

pub returns-clause-spot : goal.returns-clause-spot
returns-clause-spot c = λ written rest meant.
    let parts = c.in_ok-tested.ensures.spot c.args.caseless (record { criterion = c.args.criterion.now; operator = operator_text c.args.operator; operand = c.args.word.now }) written meant (record { criterion = c.in_ok-criterion.ensures; check = c.in_ok-check.ensures.check }) in (
      at_spot (rested (tightened c.args.self.waiting (written ++ test_step c.args.criterion.now (operator_text c.args.operator) c.args.word.now ∷ []))) c.args.self.place,
      operand_taken c.args.caseless c.args.end c.args.self written c.args.word.now c.args.criterion c.args.operator c.requires.stage c.in_ok-judge_criterion.ensures.ok (c.in_ok-check.ensures.fine (c.args.end - length c.args.word.now)) (sym c.is_whole.ensures ∙ c.if-not-is_whole.false),
      parts,
    )
