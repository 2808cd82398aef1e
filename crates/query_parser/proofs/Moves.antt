-- Each step of a draft is one of the reading.
use Rattle.std.proofs.Common.{◌≡◌, ℕ, ◌-◌, Bool, true, false, cond, List, [], ◌∷◌, ◌++◌, length, Result, Ok, Option, Some, None, Bor, refl, sym, ap, subst, ◌∙◌}
use Rattle.std.specs.Result.{result_err}
use Rattle.vsl_tags.specs.TagSet.{matches_any}
use Rattle.query_grammar.specs.declared.mode.Mode.{Mode}
use Rattle.query_grammar.specs.declared.mode.Mode.TheVariants.{AfterCriterion, BeforeOperand}
use Rattle.query_grammar.specs.declared.mode.Waiting.{Waiting}
use Rattle.query_grammar.specs.declared.step.StepOver.{StepOver}
use Rattle.query_grammar.specs.Step.{Step}
use Rattle.query_grammar.specs.Steps.{test_step}
use Rattle.query_grammar.specs.Lexical.{operand_begin, whole_from}
use Rattle.query_grammar.specs.Grammar.{Token, CloseMark, OperatorToken, OperandToken}
use Rattle.query_grammar.specs.Moves.{Kept, State, tightened, loosened, rested, closes, last}
use Rattle.query_grammar.specs.Scanner.{Fault, Syntax, Spot, ◌>>=◌, unless_fault, token_done, token_taken, whole, whole_after_unary, last_done, finish_in}
use Rattle.query_grammar.specs.Judging.{criterion_fault, operand_fault}
use Rattle.query_parser.specs.declared.fault.QueryFault.{QueryFault}
use Rattle.query_parser.specs.declared.operator.Operator.{Operator}
use Rattle.query_parser.specs.declared.test.Test.{Test}
use Rattle.query_parser.specs.declared.draft.Draft.{Draft}
use Rattle.query_parser.specs.declared.draft.Stage.TheVariants as stages
use Rattle.query_parser.specs.declared.token.Join.{Join}
use Rattle.query_parser.specs.Answers.{IsAnswer}
use Rattle.query_parser.specs.Operators.{operator_text}
use Rattle.query_parser.specs.Parsed.{is_decimal}
use Rattle.vsl_pattern.specs.Patterns.{is_good_pattern}
use Rattle.query_parser.specs.inside.Stages.{mode_of, kept_of, join_token, spot_of, at_spot}
use Rattle.query_parser.specs.inside.Follows.{rules, AreMeant, Follows, Takes, AreRead}
use Rattle.query_parser.proofs.Follow.{AreBoth, closes_open, closes_none, closed_all, closed_none, no_answer, answer_bind, test_over, with_word, join_over, end_over}

-- ---- a parenthesis

pub close_refused : (caseless : Bool) (end : ℕ) (d : Draft) (written : List Step) (word : List ℕ) → d.stage ≡ stages.Join → [] ≡ (loosened d.waiting written).0
    → result_err (token_taken (rules caseless) end (spot_of d written word) CloseMark (closes (loosened d.waiting written))) ≡ Some (Syntax end)
close_refused caseless end d written word stage e =
    let none : closes (loosened d.waiting written) ≡ None = closes_none (loosened d.waiting written) e in
    rw (none, stage) refl

pub close_taken : (caseless : Bool) (end : ℕ) (d e : Draft) (written : List Step) (word : List ℕ) (mark : Waiting) (rest : List Waiting) → d.stage ≡ stages.Join → mark ∷ rest ≡ (loosened d.waiting written).0
    → e.stage ≡ stages.Join → e.place ≡ d.place → AreBoth caseless (tightened rest (loosened d.waiting written).1) (e.waiting, e.steps.items)
    → (s : Spot) × (token_taken (rules caseless) end (spot_of d written word) CloseMark (closes (loosened d.waiting written)) ≡ Ok s) × Follows caseless s e
close_taken caseless end d e written word mark rest stage open_is joined place both =
    let some = closes_open d.waiting rest written mark open_is in
    let now : List Waiting × List Step = tightened rest (loosened d.waiting written).1 in
    (at_spot (rested now) d.place, rw (some, stage) refl, record { written = now.1; meant = both.steps; same = rw (joined, place, both.waiting) refl })

-- ---- the end of a line

pub end_refused : (caseless : Bool) (at : ℕ) (d : Draft) (written : List Step) (mark : Waiting) (rest : List Waiting) → d.stage ≡ stages.Join → mark ∷ rest ≡ (loosened d.waiting written).0
    → result_err (last_done (rules caseless) at (spot_of d written []) (last (mode_of d.stage) (kept_of d written))) ≡ Some (Syntax at)
end_refused caseless at d written mark rest stage e =
    let none = closed_none (loosened d.waiting written) mark rest e in
    rw (stage, none) refl

pub end_read : (caseless : Bool) (at : ℕ) (d : Draft) (written : List Step) (all : List (StepOver Test)) → d.stage ≡ stages.Join → [] ≡ (loosened d.waiting written).0 → AreMeant caseless (loosened d.waiting written).1 all
    → AreRead caseless (last_done (rules caseless) at (spot_of d written []) (last (mode_of d.stage) (kept_of d written))) all
end_read caseless at d written all stage e meant =
    let some = closed_all (loosened d.waiting written) e in
    record { written = (loosened d.waiting written).1; read = rw (stage, some) refl; meant = meant }

-- ---- a test

pub test_taken : (caseless : Bool) (place : ℕ) (criterion : List ℕ) (x : State) (d : Draft) → criterion_fault matches_any place criterion ≡ None → Follows caseless (at_spot x place) d
    → (s : Spot) × (unless_fault (criterion_fault matches_any place criterion) (at_spot x place) ≡ Ok s) × Follows caseless s d
test_taken caseless place criterion x d fine h = (at_spot x place, ap (λ (o : Option Fault). unless_fault o (at_spot x place)) fine, h)

abbrev operand_here : Bool → List ℕ → Option Token
operand_here b w = cond b (Some (OperandToken w)) None

abbrev before_operand : Draft → List ℕ → List ℕ → List Step → List ℕ → Spot
before_operand d criterion operator written w = record { mode = BeforeOperand; kept = record { criterion = criterion; operator = operator; waiting = d.waiting; steps = written }; place = d.place; word = w }

cut_by : (caseless : Bool) (end : ℕ) (d : Draft) (written : List Step) (w criterion operator : List ℕ) (b : Bool) (f : QueryFault) (o : Option Fault) → criterion_fault matches_any d.place criterion ≡ o → IsAnswer f o
    → IsAnswer f (result_err (token_done (rules caseless) end (before_operand d criterion operator written w) (operand_here b w)))
cut_by caseless end d written w criterion operator b f None e h = no_answer f h (token_done (rules caseless) end (before_operand d criterion operator written w) (operand_here b w))
cut_by caseless end d written w criterion operator true f (Some g) e h = rw e h
cut_by caseless end d written w criterion operator false f (Some g) e h = rw e h

pub operand_cut : (caseless : Bool) (end : ℕ) (d : Draft) (written : List Step) (w : List ℕ) (criterion : Bor (List ℕ)) (operator : Operator) (f : QueryFault) → d.stage ≡ stages.Operand criterion operator
    → IsAnswer f (criterion_fault matches_any d.place criterion.now) → IsAnswer f (result_err (token_done (rules caseless) end (spot_of d written w) (whole BeforeOperand w [])))
operand_cut caseless end d written w criterion operator f stage h =
    rw stage (cut_by caseless end d written w criterion.now (operator_text operator) (whole_from operand_begin w) f _ refl h)

pub operand_taken : (caseless : Bool) (end : ℕ) (d : Draft) (written : List Step) (w : List ℕ) (criterion : Bor (List ℕ)) (operator : Operator) → d.stage ≡ stages.Operand criterion operator
    → criterion_fault matches_any d.place criterion.now ≡ None → operand_fault is_decimal (is_good_pattern caseless) (end - length w) (operator_text operator) w ≡ None → whole_from operand_begin w ≡ true
    → token_done (rules caseless) end (spot_of d written w) (whole BeforeOperand w []) ≡ Ok (at_spot (rested (tightened d.waiting (written ++ test_step criterion.now (operator_text operator) w ∷ []))) d.place)
operand_taken caseless end d written w criterion operator stage fine good all = rw (stage, all, fine, good) refl

-- ---- behind a criterion

pub operator_taken : (caseless : Bool) (end : ℕ) (d e : Draft) (written : List Step) (w rest : List ℕ) (criterion : Bor (List ℕ)) (operator : Operator) → d.stage ≡ stages.Operator criterion → e.stage ≡ stages.Operand criterion operator
    → e.place ≡ d.place → e.waiting ≡ d.waiting → whole AfterCriterion w rest ≡ Some (OperatorToken w) → operator_text operator ≡ w → AreMeant caseless written e.steps.items
    → (s : Spot) × (token_done (rules caseless) end (spot_of d written w) (whole AfterCriterion w rest) ≡ Ok s) × Follows caseless s e
operator_taken caseless end d e written w rest criterion operator stage later place waiting token text meant = (
  record { mode = BeforeOperand; kept = record { criterion = criterion.now; operator = w; waiting = d.waiting; steps = written }; place = d.place; word = [] },
  ap (λ (o : Option Token). token_done (rules caseless) end (spot_of d written w) o) token ∙ rw stage refl,
  record { written = written; meant = meant; same = rw (later, place, waiting, text) refl },
)

abbrev pub kept_behind : Draft → List ℕ → List Step → Kept
kept_behind d criterion written = record { criterion = criterion; operator = []; waiting = d.waiting; steps = written }

pub behind_is : (caseless : Bool) (end : ℕ) (d : Draft) (written : List Step) (w rest : List ℕ) (criterion : Bor (List ℕ)) (t : Option Join) → d.stage ≡ stages.Operator criterion
    → whole AfterCriterion w rest ≡ whole_after_unary w rest → join_token t ≡ whole_after_unary w rest
    → token_done (rules caseless) end (spot_of d written w) (whole AfterCriterion w rest) ≡ (test_over d.place (kept_behind d criterion.now written) >>= λ s. token_done (rules caseless) end (with_word s w) (join_token t))
behind_is caseless end d written w rest criterion t stage over token =
    ap (λ (o : Option Token). token_done (rules caseless) end (spot_of d written w) o) (over ∙ sym token)
    ∙ rw stage (join_over caseless end d.place (kept_behind d criterion.now written) w t)

pub finish_is : (caseless : Bool) (at : ℕ) (d : Draft) (written : List Step) (criterion : Bor (List ℕ)) → d.stage ≡ stages.Operator criterion
    → finish_in (rules caseless) at (spot_of d written []) [] ≡ (test_over d.place (kept_behind d criterion.now written) >>= λ s. finish_in (rules caseless) at s [])
finish_is caseless at d written criterion stage = rw stage (end_over caseless at d.place (kept_behind d criterion.now written))

-- ---- one step behind the other

pub fails_then : {A B : Type 0} (f : QueryFault) (m : Result B Fault) (first : Result A Fault) (g : A → Result B Fault) → m ≡ (first >>= g) → IsAnswer f (result_err first) → IsAnswer f (result_err m)
fails_then f m first g e h = subst (λ (r : Result _ Fault). IsAnswer f (result_err r)) (sym e) (answer_bind f first g h)

pub goes_then : {A B : Type 0} (m : Result B Fault) (first : Result A Fault) (g : A → Result B Fault) (x y : A) → m ≡ (first >>= g) → first ≡ Ok x → x ≡ y → m ≡ g y
goes_then m first g x y e f same = e ∙ ap (λ (r : Result _ Fault). r >>= g) f ∙ ap g same

pub operand_takes : (caseless : Bool) (r : Result Draft QueryFault) (end : ℕ) (d : Draft) (written : List Step) (w rest : List ℕ) (criterion : Bor (List ℕ)) (operator : Operator) → d.stage ≡ stages.Operand criterion operator
    → Takes caseless r (token_done (rules caseless) end (spot_of d written w) (whole BeforeOperand w rest)) → Takes caseless r (token_done (rules caseless) end (spot_of d written w) (whole (mode_of d.stage) w rest))
operand_takes caseless r end d written w rest criterion operator stage h =
    subst (λ (m : Mode). Takes caseless r (token_done (rules caseless) end (spot_of d written w) (whole m w rest))) (sym (ap mode_of stage)) h
