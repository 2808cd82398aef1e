-- Reading a text line by line.
use Rattle.std.specs.Prelude.{◌≡◌, ◌==◌, ℕ, Bool, if◌then◌else◌, List, [], ◌∷◌, Option, Some, None, Result, Ok, Err}
use Rattle.std.specs.List.{position_or_len}
use Rattle.std.specs.Result.{result_err}
use Rattle.std.specs.Global.{Vec}
use Rattle.query_grammar.specs.declared.step.StepOver.{StepOver}
use Rattle.query_grammar.specs.Step.{Step}
use Rattle.query_grammar.specs.Scanner.{Fault, ◌>>=◌, run, begin}
use Rattle.query_grammar.specs.Lines.{is_passed, joined_steps, lines_of}
use Rattle.query_parser.specs.declared.fault.QueryFault.{QueryFault}
use Rattle.query_parser.specs.declared.test.Test.{Test}
use Rattle.query_parser.specs.Answers.{IsAnswer}
use Rattle.query_parser.specs.inside.Follows.{rules, AreMeant}

-- what was read behind one line more
abbrev pub line_added : Bool → ℕ → Option (List Step) → List ℕ → Result (Option (List Step)) Fault
line_added caseless at before line =
    if is_passed line then Ok before else (run (rules caseless) at begin line >>= λ s. Ok (Some (joined_steps before s)))

-- steps, where some were read, are what those mean
abbrev pub IfMeant : Bool → Option (List Step) → Option (Vec (StepOver Test)) → Type 0
IfMeant caseless None None = Unit {0}
IfMeant caseless (Some written) (Some v) = AreMeant caseless written v.items
IfMeant _ _ _ = ⊥

-- the steps so far are what was read, or the fault is that of the reading
abbrev pub Adds : Bool → Result (Option (Vec (StepOver Test))) QueryFault → Result (Option (List Step)) Fault → Type 0
Adds caseless (Ok now) model = (written : Option (List Step)) × (model ≡ Ok written) × IfMeant caseless written now
Adds caseless (Err f) model = IsAnswer f (result_err model)

-- the lines behind the first line's end
abbrev pub lines_behind : List ℕ → List (List ℕ)
lines_behind [] = []
lines_behind (c ∷ after) = lines_of after

-- how many bytes stand before the first line feed
abbrev pub line_length : List ℕ → ℕ
line_length text = position_or_len (λ c. c == 10) text
