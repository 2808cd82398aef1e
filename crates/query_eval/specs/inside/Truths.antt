-- Steps of truths, and the truths that they leave.
use Rattle.std.specs.Prelude.{◌≡◌, ℕ, zero, suc, Bool, true, false, ◌&&◌, ◌||◌, List, [], ◌∷◌, length, Option, None, Some}
use Rattle.query_grammar.specs.declared.step.StepOver.{StepOver}
use Rattle.query_grammar.specs.declared.step.StepOver.TheVariants as kinds
use Rattle.query_grammar.specs.Tree.{truths_of}
use Rattle.query_parser.specs.declared.test.Test.{Test}
use Rattle.query_eval.specs.Meaning.{last_truth, meets_level}

-- what is behind the operator whose first operand has this truth, where that alone decides it. Above the truth there is
-- one truth, and so many more
abbrev pub behind_decided : Bool → ℕ → List (StepOver Bool) → Option (List (StepOver Bool))
behind_decided truth above [] = None
behind_decided truth above (kinds.Test t ∷ steps) = behind_decided truth (suc above) steps
behind_decided truth above (kinds.Not ∷ steps) = behind_decided truth above steps
behind_decided truth (suc above) (kinds.And ∷ steps) = behind_decided truth above steps
behind_decided truth (suc above) (kinds.Or ∷ steps) = behind_decided truth above steps
behind_decided true zero (kinds.And ∷ steps) = None
behind_decided false zero (kinds.And ∷ steps) = Some steps
behind_decided true zero (kinds.Or ∷ steps) = Some steps
behind_decided false zero (kinds.Or ∷ steps) = None

-- none of these truths decides its operator
abbrev pub NoneDecides : ℕ → List Bool → List (StepOver Bool) → Type 0
NoneDecides above [] steps = Unit {0}
NoneDecides above (truth ∷ truths) steps = (behind_decided truth above steps ≡ None) ×
    NoneDecides (suc above) truths steps

-- the truths below the last one
abbrev pub below_last : List Bool → List Bool
below_last [] = []
below_last (truth ∷ truths) = truths

-- of so many truths the last is this one, none below it decides its operator, and the steps leave over them these ones
pub record AreLeft (last : Bool) (count : ℕ) (steps : List (StepOver Bool)) (left : List Bool) : Type 0 where
  pub truths : List Bool
  pub counted : length truths ≡ count
  pub is_last : last_truth truths ≡ last
  pub leaves : truths_of (λ truth. truth) steps truths ≡ left
  pub undecided : NoneDecides zero (below_last truths) steps

-- truths, and each that is false as more truths have it
abbrev pub joined : List Bool → List Bool → List Bool
joined [] more = []
joined (truth ∷ truths) [] = truth ∷ truths
joined (truth ∷ truths) (other ∷ more) = (truth || other) ∷ joined truths more

-- the same but for the first of them, which stay
abbrev pub joined_from : ℕ → List Bool → List Bool → List Bool
joined_from zero truths more = joined truths more
joined_from (suc n) [] more = []
joined_from (suc n) (truth ∷ truths) [] = truth ∷ truths
joined_from (suc n) (truth ∷ truths) (other ∷ more) = truth ∷ joined_from n truths more

-- which tests' levels are met by this one, and have their mark
abbrev pub marked_of : ℕ → List Test → List Bool → List Bool
marked_of level [] marks = []
marked_of level (test ∷ tests) [] = []
marked_of level (test ∷ tests) (mark ∷ marks) = (meets_level test.criterion.level level && mark) ∷
    marked_of level tests marks
