use Rattle.query_parser.proofs.Moves.{operand_takes}
use Rattle.query_parser.proofs.draft.Draft.token.Goals as goal

pub returns-in-Operand-clause-spot : goal.returns-in-Operand-clause-spot
returns-in-Operand-clause-spot c = λ written meant.
    operand_takes c.args.caseless c.operand.result c.args.end c.args.self written c.args.word.now c.args.rest.now c.in-Operand.criterion c.in-Operand.operator c.in-Operand.is (c.operand.ensures.spot written c.args.rest.now meant)
