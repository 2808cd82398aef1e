use Rattle.std.proofs.Common.{[], length, ◌-◌, refl}
use Rattle.query_grammar.specs.declared.mode.Mode.TheVariants.{AfterCriterion}
use Rattle.query_parser.proofs.draft.Draft.unary.Goals as goal

pub returns-in-Some-Criterion-clause-spot : goal.returns-in-Some-Criterion-clause-spot
returns-in-Some-Criterion-clause-spot c = λ caseless written meant.
    let token = rw c.in-Some-Criterion.field-0-is at c.in-Some-Criterion.ensures.token in
    rw (← token, c.requires.stage) (record { mode = AfterCriterion; kept = record { criterion = c.args.word.now; operator = []; waiting = c.args.self.waiting; steps = written }; place = c.args.end - length c.args.word.now; word = [] }, refl, record { written = written; meant = meant; same = refl })
