-- A text of several lines (vsl-query(7), "Query Expressions"): each line that isn't passed over is a query, and they are
-- joined by `or`.
use Rattle.std.specs.Prelude.{◌≡◌, ℕ, ◌+◌, ◌-◌, Bool, true, ◌==◌, if◌then◌else◌, List, [], ◌∷◌, ◌++◌, length, Option, Some, None, Result, Ok, Err}
use Rattle.std.specs.Bool.{MatchBool}
use Rattle.std.specs.List.{slice_split}
use Rattle.query_grammar.specs.Step.{Step}
use Rattle.query_grammar.specs.declared.step.StepOver.TheVariants as steps
use Rattle.query_grammar.specs.Bytes.{is_blank}
use Rattle.query_grammar.specs.Grammar.{Written, Or, IsQuery}
use Rattle.query_grammar.specs.Scanner.{Fault, Syntax, ◌>>=◌, Rules, run, begin}

-- blanks alone, or a `#` behind blanks
abbrev pub is_passed : List ℕ → Bool
is_passed [] = true
is_passed (c ∷ line) = if is_blank c then is_passed line else (c == 35)

-- a query behind those of earlier lines
abbrev pub joined : Option Written → Written → Written
joined None q = q
joined (Some p) q = Or p q

-- these lines, behind those of a query, are all in all this query, where each line that isn't passed over is one
abbrev pub AreQueries : (List ℕ → Written → Type 0) → Option Written → List (List ℕ) → Option Written → Type 0
AreQueries Is before [] all = before ≡ all
AreQueries Is before (line ∷ lines) all = MatchBool (is_passed line) (AreQueries Is before lines all) ((q : Written) × Is line q × AreQueries Is (Some (joined before q)) lines all)

-- the lines of a text
abbrev pub lines_of : List ℕ → List (List ℕ)
lines_of text = slice_split (λ c. c == 10) text

-- the text is this query. Each line is whole by itself: no parenthesis, quote or test goes on in the next one
-- (vsl-query(7), "Query Expressions"; that a line is whole is this project's choice)
abbrev pub IsText : List ℕ → Written → Type 0
IsText text q = AreQueries IsQuery None (lines_of text) (Some q)

-- ---- reading, with the first fault

-- the steps of a query behind those of earlier lines
abbrev pub joined_steps : Option (List Step) → List Step → List Step
joined_steps None s = s
joined_steps (Some done) s = done ++ s ++ steps.Or ∷ []

-- what was read of all lines; none is a fault at the end of the text. A query that is forgotten should not print all
-- (this project's choice)
abbrev pub ended_lines : ℕ → Option (List Step) → Result (List Step) Fault
ended_lines at None = Err (Syntax (at - 1))
ended_lines at (Some done) = Ok done

-- the lines from a place on; a text without a query is a fault at its end
unfoldable pub read_lines : Rules → ℕ → Option (List Step) → List (List ℕ) → Result (List Step) Fault
read_lines rules at done [] = ended_lines at done
read_lines rules at done (line ∷ lines) =
    if is_passed line then read_lines rules (at + 1 + length line) done lines else
    (run rules at begin line >>= λ s. read_lines rules (at + 1 + length line) (Some (joined_steps done s)) lines)
