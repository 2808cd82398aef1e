-- What the code's steps are to those of the reading.
use Rattle.std.proofs.Common.{◌≡◌, ℕ, Bool, List, [], ◌∷◌, ◌++◌, Result, Ok, Err, Option, Some, None, refl, sym, ap, subst, ◌∙◌}
use Rattle.std.specs.Result.{result_err}
use Rattle.vsl_tags.specs.TagSet.{matches_any}
use Rattle.query_grammar.specs.declared.mode.Mode.TheVariants.{AfterCriterion}
use Rattle.query_grammar.specs.declared.mode.Waiting.{Waiting}
use Rattle.query_grammar.specs.declared.mode.Waiting.TheVariants as waits
use Rattle.query_grammar.specs.declared.step.StepOver.{StepOver}
use Rattle.query_grammar.specs.declared.step.StepOver.TheVariants as steps
use Rattle.query_grammar.specs.Step.{Step}
use Rattle.query_grammar.specs.Grammar.{CloseMark}
use Rattle.query_grammar.specs.Moves.{Kept, State, tightened, loosened, rested, tested, closes, all_closed}
use Rattle.query_grammar.specs.Scanner.{Fault, Spot, ◌>>=◌, unless_fault, token_done, token_taken, last_done, finish_in}
use Rattle.query_grammar.specs.Judging.{criterion_fault}
use Rattle.query_grammar.proofs.Rulings.{criterion_anywhere}
use Rattle.query_parser.specs.declared.fault.QueryFault.{QueryFault}
use Rattle.query_parser.specs.declared.fault.QueryFault.TheVariants as faults
use Rattle.query_parser.specs.declared.test.Test.{Test}
use Rattle.query_parser.specs.declared.token.Join.{Join}
use Rattle.query_parser.specs.declared.token.Join.TheVariants as joins
use Rattle.query_parser.specs.Answers.{IsAnswer}
use Rattle.query_parser.specs.inside.Stages.{join_token, at_spot}
use Rattle.query_parser.specs.inside.Follows.{rules, IsStepMeant, AreMeant, none, more}

-- ---- steps that are added

pub meant_append : (caseless : Bool) (a x : List Step) (b y : List (StepOver Test)) → AreMeant caseless a b → AreMeant caseless x y → AreMeant caseless (a ++ x) (b ++ y)
meant_append caseless _ x _ y none g = g
meant_append caseless _ x _ y (more {a} {b} {written} {all} s h) g = more s (meant_append caseless written x all y h g)

pub meant_then : (caseless : Bool) (a : List Step) (b : List (StepOver Test)) (s : Step) (t : StepOver Test) → AreMeant caseless a b → IsStepMeant caseless s t → AreMeant caseless (a ++ s ∷ []) (b ++ t ∷ [])
meant_then caseless a b s t h g = meant_append caseless a (s ∷ []) b (t ∷ []) h (more g none)

-- ---- what waits, and the steps

-- what waits is the same, and the steps mean those of the reading
pub record AreBoth (caseless : Bool) (x : List Waiting × List Step) (y : List Waiting × List (StepOver Test)) : Type 0 where
  pub waiting : y.0 ≡ x.0
  pub steps : AreMeant caseless x.1 y.1

tightened_both : (caseless : Bool) (ws : List Waiting) (a : List Step) (b : List (StepOver Test)) → AreMeant caseless a b → AreBoth caseless (tightened ws a) (tightened ws b)
tightened_both caseless [] a b h = record { waiting = refl; steps = h }
tightened_both caseless (waits.Not ∷ ws) a b h = tightened_both caseless ws (a ++ steps.Not ∷ []) (b ++ steps.Not ∷ []) (meant_then caseless a b steps.Not steps.Not h tt)
tightened_both caseless (waits.And ∷ ws) a b h = tightened_both caseless ws (a ++ steps.And ∷ []) (b ++ steps.And ∷ []) (meant_then caseless a b steps.And steps.And h tt)
tightened_both caseless (waits.Or ∷ ws) a b h = record { waiting = refl; steps = h }
tightened_both caseless (waits.Open ∷ ws) a b h = record { waiting = refl; steps = h }

loosened_both : (caseless : Bool) (ws : List Waiting) (a : List Step) (b : List (StepOver Test)) → AreMeant caseless a b → AreBoth caseless (loosened ws a) (loosened ws b)
loosened_both caseless [] a b h = record { waiting = refl; steps = h }
loosened_both caseless (waits.Not ∷ ws) a b h = loosened_both caseless ws (a ++ steps.Not ∷ []) (b ++ steps.Not ∷ []) (meant_then caseless a b steps.Not steps.Not h tt)
loosened_both caseless (waits.And ∷ ws) a b h = loosened_both caseless ws (a ++ steps.And ∷ []) (b ++ steps.And ∷ []) (meant_then caseless a b steps.And steps.And h tt)
loosened_both caseless (waits.Or ∷ ws) a b h = loosened_both caseless ws (a ++ steps.Or ∷ []) (b ++ steps.Or ∷ []) (meant_then caseless a b steps.Or steps.Or h tt)
loosened_both caseless (waits.Open ∷ ws) a b h = record { waiting = refl; steps = h }

-- what the code has
pub tighten_both : (caseless : Bool) (ws : List Waiting) (a : List Step) (b : List (StepOver Test)) (y : List Waiting × List (StepOver Test)) → AreMeant caseless a b → y ≡ tightened ws b → AreBoth caseless (tightened ws a) y
tighten_both caseless ws a b y h e = subst (λ (z : List Waiting × List (StepOver Test)). AreBoth caseless (tightened ws a) z) (sym e) (tightened_both caseless ws a b h)

pub loosen_both : (caseless : Bool) (ws : List Waiting) (a : List Step) (b : List (StepOver Test)) (y : List Waiting × List (StepOver Test)) → AreMeant caseless a b → y ≡ loosened ws b → AreBoth caseless (loosened ws a) y
loosen_both caseless ws a b y h e = subst (λ (z : List Waiting × List (StepOver Test)). AreBoth caseless (loosened ws a) z) (sym e) (loosened_both caseless ws a b h)

-- ---- the parenthesis that is left

-- where something is left, it is a parenthesis, and closes
pub closes_open : (ws rest : List Waiting) (done : List Step) (mark : Waiting) → mark ∷ rest ≡ (loosened ws done).0 → closes (loosened ws done) ≡ Some (rested (tightened rest (loosened ws done).1))
closes_open [] rest done mark e = absurd cc
closes_open (waits.Not ∷ ws) rest done mark e = closes_open ws rest (done ++ steps.Not ∷ []) mark e
closes_open (waits.And ∷ ws) rest done mark e = closes_open ws rest (done ++ steps.And ∷ []) mark e
closes_open (waits.Or ∷ ws) rest done mark e = closes_open ws rest (done ++ steps.Or ∷ []) mark e
closes_open (waits.Open ∷ ws) rest done mark e = let same : ws ≡ rest = cc in ap (λ (v : List Waiting). Some (rested (tightened v done))) same

pub closes_none : (x : List Waiting × List Step) → [] ≡ x.0 → closes x ≡ None
closes_none ([], done) e = refl
closes_none ((w ∷ ws), done) e = absurd cc

pub closed_all : (x : List Waiting × List Step) → [] ≡ x.0 → all_closed x ≡ Some x.1
closed_all ([], done) e = refl
closed_all ((w ∷ ws), done) e = absurd cc

pub closed_none : (x : List Waiting × List Step) (mark : Waiting) (rest : List Waiting) → mark ∷ rest ≡ x.0 → all_closed x ≡ None
closed_none ([], done) mark rest e = absurd cc
closed_none ((w ∷ ws), done) mark rest e = refl

-- ---- faults

pub fine_anywhere : (at : ℕ) (w : List ℕ) → criterion_fault matches_any at w ≡ None → (place : ℕ) → criterion_fault matches_any place w ≡ None
fine_anywhere at w e place = criterion_anywhere matches_any at place w e

pub no_answer : (f : QueryFault) → IsAnswer f None → {A : Type 0} → (m : Result A Fault) → IsAnswer f (result_err m)
no_answer faults.NoMemory h m = tt
no_answer _ h m = absurd cc

-- the fault of a part is that of the whole
pub answer_bind : {A B : Type 0} (f : QueryFault) (m : Result A Fault) (g : A → Result B Fault) → IsAnswer f (result_err m) → IsAnswer f (result_err (m >>= g))
answer_bind f (Ok x) g h = no_answer f h (g x)
answer_bind f (Err e) g h = h

-- ---- a test without an operator ends with what stands behind it

abbrev pub test_over : ℕ → Kept → Result Spot Fault
test_over place k = unless_fault (criterion_fault matches_any place k.criterion) (at_spot (tested k []) place)

abbrev behind : ℕ → Kept → List ℕ → Spot
behind place k w = record { mode = AfterCriterion; kept = k; place = place; word = w }

abbrev pub with_word : Spot → List ℕ → Spot
with_word s w = record s { word = w }

abbrev over_by : Option Fault → ℕ → Kept → Result Spot Fault
over_by o place k = unless_fault o (at_spot (tested k []) place)

close_taken : (caseless : Bool) (end place : ℕ) (k : Kept) (w : List ℕ) (o : Option Fault) (x : Option State) → criterion_fault matches_any place k.criterion ≡ o
    → token_taken (rules caseless) end (behind place k w) CloseMark x ≡ (over_by o place k >>= λ s. token_taken (rules caseless) end (with_word s w) CloseMark x)
close_taken caseless end place k w None None e = rw e refl
close_taken caseless end place k w None (Some x) e = rw e refl
close_taken caseless end place k w (Some f) None e = rw e refl
close_taken caseless end place k w (Some f) (Some x) e = rw e refl

close_same : (caseless : Bool) (end place : ℕ) (k : Kept) (w : List ℕ) (o : Option Fault) → (over_by o place k >>= λ s. token_taken (rules caseless) end (with_word s w) CloseMark (closes (loosened (tested k []).1.waiting (tested k []).1.steps))) ≡ (over_by o place k >>= λ s. token_done (rules caseless) end (with_word s w) (Some CloseMark))
close_same caseless end place k w None = refl
close_same caseless end place k w (Some f) = refl

join_by : (caseless : Bool) (end place : ℕ) (k : Kept) (w : List ℕ) (t : Option Join) (o : Option Fault) → criterion_fault matches_any place k.criterion ≡ o
    → token_done (rules caseless) end (behind place k w) (join_token t) ≡ (over_by o place k >>= λ s. token_done (rules caseless) end (with_word s w) (join_token t))
join_by caseless end place k w None None e = rw e refl
join_by caseless end place k w None (Some f) e = rw e refl
join_by caseless end place k w (Some joins.And) None e = rw e refl
join_by caseless end place k w (Some joins.And) (Some f) e = rw e refl
join_by caseless end place k w (Some joins.Or) None e = rw e refl
join_by caseless end place k w (Some joins.Or) (Some f) e = rw e refl
join_by caseless end place k w (Some joins.Close) o e = close_taken caseless end place k w o (closes (loosened (tested k []).1.waiting (tested k []).1.steps)) e ∙ close_same caseless end place k w o

-- a token behind a criterion that isn't an operator is read behind the test
pub join_over : (caseless : Bool) (end place : ℕ) (k : Kept) (w : List ℕ) (t : Option Join)
    → token_done (rules caseless) end (behind place k w) (join_token t) ≡ (test_over place k >>= λ s. token_done (rules caseless) end (with_word s w) (join_token t))
join_over caseless end place k w t = join_by caseless end place k w t (criterion_fault matches_any place k.criterion) refl

end_by : (caseless : Bool) (at place : ℕ) (k : Kept) (o : Option Fault) (x : Option (List Step)) → criterion_fault matches_any place k.criterion ≡ o
    → last_done (rules caseless) at (behind place k []) x ≡ (over_by o place k >>= λ s. last_done (rules caseless) at s x)
end_by caseless at place k None None e = rw e refl
end_by caseless at place k None (Some x) e = rw e refl
end_by caseless at place k (Some f) None e = rw e refl
end_by caseless at place k (Some f) (Some x) e = rw e refl

end_same : (caseless : Bool) (at place : ℕ) (k : Kept) (o : Option Fault) → (over_by o place k >>= λ s. last_done (rules caseless) at s (all_closed (loosened (tested k []).1.waiting (tested k []).1.steps))) ≡ (over_by o place k >>= λ s. finish_in (rules caseless) at s [])
end_same caseless at place k None = refl
end_same caseless at place k (Some f) = refl

-- the end of a line behind a criterion is the end behind the test
pub end_over : (caseless : Bool) (at place : ℕ) (k : Kept) → finish_in (rules caseless) at (behind place k []) [] ≡ (test_over place k >>= λ s. finish_in (rules caseless) at s [])
end_over caseless at place k =
    end_by caseless at place k (criterion_fault matches_any place k.criterion) (all_closed (loosened (tested k []).1.waiting (tested k []).1.steps)) refl
    ∙ end_same caseless at place k (criterion_fault matches_any place k.criterion)
