use Rattle.std.proofs.Common.{◌++◌, ◌∷◌, [], refl}
use Rattle.query_grammar.specs.Steps.{test_step}
use Rattle.query_grammar.specs.Moves.{rested, tightened}
use Rattle.query_parser.proofs.Follow.{fine_anywhere}
use Rattle.query_parser.proofs.Moves.{test_taken}
use Rattle.query_parser.proofs.draft.Draft.selected.Goals as goal

pub read_criterion-requires-clause-fine : goal.read_criterion-requires-clause-fine
read_criterion-requires-clause-fine c = fine_anywhere c.args.self.place c.args.criterion.now c.in_ok-judge_criterion.ensures.ok

pub returns-clause-spot : goal.returns-clause-spot
returns-clause-spot c = λ caseless written meant.
    test_taken caseless c.args.self.place c.args.criterion.now (rested (tightened c.args.self.waiting (written ++ test_step c.args.criterion.now [] [] ∷ []))) c.in_ok-tested.field-0 c.in_ok-judge_criterion.ensures.ok
    (c.in_ok-tested.ensures.spot caseless (record { criterion = c.args.criterion.now; operator = []; operand = [] }) written meant (record { criterion = c.in_ok-read_criterion.ensures; check = refl }))
