-- The code's values mean what the reading keeps.
use Rattle.std.specs.Prelude.{◌≡◌, Bool, List, [], ◌∷◌, Result, Ok, Err}
use Rattle.std.specs.Result.{result_err}
use Rattle.std.specs.Global.{Vec}
use Rattle.vsl_tags.specs.TagSet.{matches_any}
use Rattle.query_grammar.specs.declared.step.StepOver.{StepOver}
use Rattle.query_grammar.specs.declared.step.StepOver.TheVariants as steps
use Rattle.query_grammar.specs.Step.{Step}
use Rattle.query_grammar.specs.Scanner.{Fault, Spot, Rules}
use Rattle.query_grammar.specs.Judging.{rules_of}
use Rattle.query_parser.specs.declared.fault.QueryFault.{QueryFault}
use Rattle.query_parser.specs.declared.test.Test.{Test}
use Rattle.query_parser.specs.declared.draft.Draft.{Draft}
use Rattle.query_parser.specs.Answers.{IsAnswer}
use Rattle.query_parser.specs.Meant.{IsMeant}
use Rattle.query_parser.specs.Parsed.{is_decimal, most_open}
use Rattle.vsl_pattern.specs.Patterns.{is_good_pattern}
use Rattle.query_parser.specs.inside.Stages.{spot_of}

-- the rules of a query's text
abbrev pub rules : Bool → Rules
rules caseless = rules_of matches_any is_decimal (is_good_pattern caseless) most_open

-- a step is what a written step means
abbrev pub IsStepMeant : Bool → Step → StepOver Test → Type 0
IsStepMeant caseless (steps.Test parts) (steps.Test test) = IsMeant caseless parts test
IsStepMeant caseless steps.Not steps.Not = Unit {0}
IsStepMeant caseless steps.And steps.And = Unit {0}
IsStepMeant caseless steps.Or steps.Or = Unit {0}
IsStepMeant caseless a b = ⊥

-- steps are what written steps mean, one by one
pub data AreMeant (caseless : Bool) : List Step → List (StepOver Test) → Type 0 where
  none : AreMeant caseless [] []
  more : {a : Step} {b : StepOver Test} {written : List Step} {all : List (StepOver Test)} → IsStepMeant caseless a b → AreMeant caseless written all → AreMeant caseless (a ∷ written) (b ∷ all)

-- a draft is where the reading is
pub record Follows (caseless : Bool) (s : Spot) (d : Draft) : Type 0 where
  pub written : List Step
  pub meant : AreMeant caseless written d.steps.items
  pub same : s ≡ spot_of d written []

-- a draft is where the reading went, or the fault is its
abbrev pub Takes : Bool → Result Draft QueryFault → Result Spot Fault → Type 0
Takes caseless (Ok d) model = (s : Spot) × (model ≡ Ok s) × Follows caseless s d
Takes caseless (Err f) model = IsAnswer f (result_err model)

-- steps are what the steps that were read mean
pub record AreRead (caseless : Bool) (model : Result (List Step) Fault) (all : List (StepOver Test)) : Type 0 where
  pub written : List Step
  pub read : model ≡ Ok written
  pub meant : AreMeant caseless written all

-- steps are what was read, or the fault is that of the reading
abbrev pub Gives : Bool → Result (Vec (StepOver Test)) QueryFault → Result (List Step) Fault → Type 0
Gives caseless (Ok v) model = AreRead caseless model v.items
Gives caseless (Err f) model = IsAnswer f (result_err model)
