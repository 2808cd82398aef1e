-- Tokens that are read are a query's tokens.
use Rattle.std.proofs.Common.{◌≡◌, ℕ, true, List, [], ◌∷◌, ◌++◌, Some, refl, sym, ap, ◌∙◌, append_assoc}
use Rattle.std.proofs.lemmas.Bool.{and_from}
use Rattle.std.proofs.lemmas.List.{append-nil}
use Rattle.query_grammar.specs.declared.mode.Mode.TheVariants.{BeforeUnary, AfterCriterion, BeforeOperand, AfterUnary}
use Rattle.query_grammar.specs.declared.mode.Waiting.{Waiting}
use Rattle.query_grammar.specs.declared.mode.Waiting.TheVariants as waits
use Rattle.query_grammar.specs.Step.{Step}
use Rattle.query_grammar.specs.declared.step.StepOver.TheVariants as steps
use Rattle.query_grammar.specs.Grammar.{Token, CriterionToken, OperatorToken, OperandToken, NotWord, AndWord, OrWord, OpenMark, CloseMark, Written, Test, Compared, Not, Inside, And, Or, tokens_of, is_unary, is_and, is_grouped}
use Rattle.query_grammar.specs.Steps.{steps_of}
use Rattle.query_grammar.specs.Moves.{Kept, tightened, loosened, waits_for, tested, start, closes, all_closed}
use Rattle.query_grammar.proofs.Tokens.{lenient, taken_all, and_then}
use Rattle.query_grammar.proofs.Trees.{before, is_loose, is_base, loose_stays, base_stays}

-- what stands before a unary, the last first
data Frame : Type 0 where
  InNot : Frame
  InOpen : Frame
  InAnd : Written → Frame
  InOr : Written → Frame

abbrev waiting_in : List Frame → List Waiting
waiting_in [] = []
waiting_in (InNot ∷ fs) = waits.Not ∷ waiting_in fs
waiting_in (InOpen ∷ fs) = waits.Open ∷ waiting_in fs
waiting_in (InAnd p ∷ fs) = waits.And ∷ waiting_in fs
waiting_in (InOr p ∷ fs) = waits.Or ∷ waiting_in fs

abbrev steps_in : List Frame → List Step
steps_in [] = []
steps_in (InNot ∷ fs) = steps_in fs
steps_in (InOpen ∷ fs) = steps_in fs
steps_in (InAnd p ∷ fs) = steps_in fs ++ steps_of p
steps_in (InOr p ∷ fs) = steps_in fs ++ steps_of p

abbrev tokens_in : List Frame → List Token
tokens_in [] = []
tokens_in (InNot ∷ fs) = tokens_in fs ++ NotWord ∷ []
tokens_in (InOpen ∷ fs) = tokens_in fs ++ OpenMark ∷ []
tokens_in (InAnd p ∷ fs) = (tokens_in fs ++ tokens_of p) ++ AndWord ∷ []
tokens_in (InOr p ∷ fs) = (tokens_in fs ++ tokens_of p) ++ OrWord ∷ []

abbrev AreGood : List Frame → Type 0
AreGood [] = Unit {0}
AreGood (InNot ∷ fs) = AreGood fs
AreGood (InOpen ∷ fs) = AreGood fs
AreGood (InAnd p ∷ fs) = AreGood fs × (is_loose (waiting_in fs) ≡ true) × (is_and p ≡ true) × (is_grouped p ≡ true)
AreGood (InOr p ∷ fs) = AreGood fs × (is_base (waiting_in fs) ≡ true) × (is_grouped p ≡ true)

-- frames and the query behind them, which holds as tight as an `and`
record Tight (fs : List Frame) (q : Written) : Type 0 where
  good : AreGood fs
  loose : is_loose (waiting_in fs) ≡ true
  tight : is_and q ≡ true
  grouped : is_grouped q ≡ true

-- a unary has ended
record UnaryEnded (fs : List Frame) (q : Written) : Type 0 where
  left : List Frame
  made : Written
  are : Tight left made
  tokens : tokens_in left ++ tokens_of made ≡ tokens_in fs ++ tokens_of q
  same : tightened (waiting_in fs) (steps_in fs ++ steps_of q) ≡ (waiting_in left, steps_in left ++ steps_of made)

unary_ended : (fs : List Frame) (q : Written) → AreGood fs → is_unary q ≡ true → is_and q ≡ true → is_grouped q ≡ true → UnaryEnded fs q
unary_ended [] q good u a g = record { left = []; made = q; are = record { good = tt; loose = refl; tight = a; grouped = g }; tokens = refl; same = refl }
unary_ended (InOpen ∷ fs) q good u a g = record { left = InOpen ∷ fs; made = q; are = record { good = good; loose = refl; tight = a; grouped = g }; tokens = refl; same = refl }
unary_ended (InOr p ∷ fs) q good u a g = record { left = InOr p ∷ fs; made = q; are = record { good = good; loose = refl; tight = a; grouped = g }; tokens = refl; same = refl }
unary_ended (InNot ∷ fs) q good u a g =
    let h = unary_ended fs (Not q) good refl refl (and_from (is_unary q) (is_grouped q) u g) in
    record {
      left = h.left;
      made = h.made;
      are = h.are;
      tokens = h.tokens ∙ sym (append_assoc (tokens_in fs) (NotWord ∷ []) (tokens_of q));
      same = ap (λ (d : List Step). tightened (waiting_in fs) d) (append_assoc (steps_in fs) (steps_of q) (steps.Not ∷ [])) ∙ h.same;
    }
unary_ended (InAnd p ∷ fs) q good u a g = record {
  left = fs;
  made = And p q;
  are = record { good = good.0; loose = good.1; tight = refl; grouped = and_from _ _ (and_from _ _ (and_from _ _ good.2 u) good.3) g };
  tokens = simp append_assoc;
  same = loose_stays (waiting_in fs) (((steps_in fs ++ steps_of p) ++ steps_of q) ++ steps.And ∷ []) good.1 ∙ ap (λ (d : List Step). (waiting_in fs, d)) (simp append_assoc);
}

-- a query has ended
record QueryEnded (fs : List Frame) (q : Written) : Type 0 where
  left : List Frame
  made : Written
  good : AreGood left
  base : is_base (waiting_in left) ≡ true
  grouped : is_grouped made ≡ true
  tokens : tokens_in left ++ tokens_of made ≡ tokens_in fs ++ tokens_of q
  same : loosened (waiting_in fs) (steps_in fs ++ steps_of q) ≡ (waiting_in left, steps_in left ++ steps_of made)

query_ended : (fs : List Frame) (q : Written) → Tight fs q → QueryEnded fs q
query_ended [] q t = record { left = []; made = q; good = tt; base = refl; grouped = t.grouped; tokens = refl; same = refl }
query_ended (InOpen ∷ fs) q t = record { left = InOpen ∷ fs; made = q; good = t.good; base = refl; grouped = t.grouped; tokens = refl; same = refl }
query_ended (InNot ∷ fs) q t = let no_way = t.loose in absurd cc
query_ended (InAnd p ∷ fs) q t = let no_way = t.loose in absurd cc
query_ended (InOr p ∷ fs) q t =
    let good = t.good in
    record {
      left = fs;
      made = Or p q;
      good = good.0;
      base = good.1;
      grouped = and_from _ _ (and_from _ _ t.tight good.2) t.grouped;
      tokens = simp append_assoc;
      same = base_stays (waiting_in fs) (((steps_in fs ++ steps_of p) ++ steps_of q) ++ steps.Or ∷ []) good.1 ∙ ap (λ (d : List Step). (waiting_in fs, d)) (simp append_assoc);
    }

-- a query of these tokens and these steps
pub record Found (ts : List Token) (out : List Step) : Type 0 where
  pub query : Written
  pub grouped : is_grouped query ≡ true
  pub tokens : tokens_of query ≡ ts
  pub steps : steps_of query ≡ out

found_as : (ts us : List Token) (out : List Step) → us ≡ ts → Found ts out → Found us out
found_as ts us out e f = record { query = f.query; grouped = f.grouped; tokens = f.tokens ∙ sym e; steps = f.steps }

abbrev operand_at : List Frame → Kept
operand_at fs = before (waiting_in fs, steps_in fs)

abbrev behind_at : List Frame → Written → Kept
behind_at fs q = before (waiting_in fs, steps_in fs ++ steps_of q)

-- what tokens from here on give, by what stands before them
record Gives (ts : List Token) (out : List Step) : Type 0 where
  at_operand : (fs : List Frame) → AreGood fs → taken_all lenient BeforeUnary (operand_at fs) ts ≡ Some out → Found (tokens_in fs ++ ts) out
  at_named : (fs : List Frame) (w : List ℕ) → AreGood fs → taken_all lenient AfterCriterion (record (operand_at fs) { criterion = w }) ts ≡ Some out → Found (tokens_in fs ++ CriterionToken w ∷ ts) out
  at_value : (fs : List Frame) (w operator : List ℕ) → AreGood fs → taken_all lenient BeforeOperand (record (operand_at fs) { criterion = w; operator = operator }) ts ≡ Some out → Found (tokens_in fs ++ CriterionToken w ∷ OperatorToken operator ∷ ts) out
  at_behind : (fs : List Frame) (q : Written) → Tight fs q → taken_all lenient AfterUnary (behind_at fs q) ts ≡ Some out → Found ((tokens_in fs ++ tokens_of q) ++ ts) out

abbrev Behind : List Token → List Step → Type 0
Behind ts out = (fs : List Frame) (q : Written) → Tight fs q → taken_all lenient AfterUnary (behind_at fs q) ts ≡ Some out → Found ((tokens_in fs ++ tokens_of q) ++ ts) out

-- the end, where nothing is open
base_end : (fs : List Frame) (q : Written) (done out : List Step) → is_base (waiting_in fs) ≡ true → is_grouped q ≡ true → all_closed (waiting_in fs, done) ≡ Some out → done ≡ steps_in fs ++ steps_of q → Found (tokens_in fs ++ tokens_of q) out
base_end [] q done out base g e d = record { query = q; grouped = g; tokens = refl; steps = cc }
base_end (InOpen ∷ fs) q done out base g e d = absurd cc
base_end (InNot ∷ fs) q done out base g e d = absurd cc
base_end (InAnd p ∷ fs) q done out base g e d = absurd cc
base_end (InOr p ∷ fs) q done out base g e d = absurd cc

behind_end : (out : List Step) → Behind [] out
unfolding taken_all
behind_end out fs q t e =
    let h = query_ended fs q t in
    let f : Found (tokens_in h.left ++ tokens_of h.made) out = base_end h.left h.made (steps_in h.left ++ steps_of h.made) out h.base h.grouped (ap (λ (x : List Waiting × List Step). all_closed x) (sym h.same) ∙ e) refl in
    found_as (tokens_in h.left ++ tokens_of h.made) ((tokens_in fs ++ tokens_of q) ++ []) out (append-nil (tokens_in fs ++ tokens_of q) ∙ sym h.tokens) f

behind_and : (ts : List Token) (out : List Step) → Gives ts out → Behind (AndWord ∷ ts) out
unfolding taken_all
behind_and ts out later fs q t e =
    let f = later.at_operand (InAnd q ∷ fs) (t.good, t.loose, t.tight, t.grouped) e in
    found_as (tokens_in (InAnd q ∷ fs) ++ ts) ((tokens_in fs ++ tokens_of q) ++ AndWord ∷ ts) out (sym (append_assoc (tokens_in fs ++ tokens_of q) (AndWord ∷ []) ts)) f

behind_or : (ts : List Token) (out : List Step) → Gives ts out → Behind (OrWord ∷ ts) out
unfolding taken_all
behind_or ts out later fs q t e =
    let h = query_ended fs q t in
    let f = later.at_operand (InOr h.made ∷ h.left) (h.good, h.base, h.grouped) (ap (λ (x : List Waiting × List Step). taken_all lenient BeforeUnary (waits_for waits.Or x).1 ts) (sym h.same) ∙ e) in
    found_as (tokens_in (InOr h.made ∷ h.left) ++ ts) ((tokens_in fs ++ tokens_of q) ++ OrWord ∷ ts) out (sym (append_assoc (tokens_in fs ++ tokens_of q) (OrWord ∷ []) ts) ∙ ap (λ (x : List Token). (x ++ OrWord ∷ []) ++ ts) (sym h.tokens)) f

-- a parenthesis closes the one that is open
close_base : (fs : List Frame) (q : Written) (ts : List Token) (out : List Step) → Gives ts out → AreGood fs → is_base (waiting_in fs) ≡ true → is_grouped q ≡ true
    → and_then (closes (waiting_in fs, steps_in fs ++ steps_of q)) (λ x. taken_all lenient x.0 x.1 ts) ≡ Some out → Found ((tokens_in fs ++ tokens_of q) ++ CloseMark ∷ ts) out
close_base (InOpen ∷ fs) q ts out later good base g e =
    let h = unary_ended fs (Inside q) good refl refl g in
    let f = later.at_behind h.left h.made h.are (ap (λ (x : List Waiting × List Step). taken_all lenient AfterUnary (before x) ts) (sym h.same) ∙ e) in
    found_as ((tokens_in h.left ++ tokens_of h.made) ++ ts) (((tokens_in fs ++ OpenMark ∷ []) ++ tokens_of q) ++ CloseMark ∷ ts) out
    ((simp append_assoc) ∙ ap (λ (x : List Token). x ++ ts) (sym h.tokens)) f
close_base _ q ts out later good base g e = absurd cc

behind_close : (ts : List Token) (out : List Step) → Gives ts out → Behind (CloseMark ∷ ts) out
unfolding taken_all
behind_close ts out later fs q t e =
    let h = query_ended fs q t in
    let f = close_base h.left h.made ts out later h.good h.base h.grouped (ap (λ (x : List Waiting × List Step). and_then (closes x) (λ y. taken_all lenient y.0 y.1 ts)) (sym h.same) ∙ e) in
    found_as ((tokens_in h.left ++ tokens_of h.made) ++ CloseMark ∷ ts) ((tokens_in fs ++ tokens_of q) ++ CloseMark ∷ ts) out (ap (λ (x : List Token). x ++ CloseMark ∷ ts) (sym h.tokens)) f

-- behind a name without a comparison
named_test : (ts : List Token) (out : List Step) → Behind ts out → (fs : List Frame) (w : List ℕ) → AreGood fs → taken_all lenient AfterUnary (tested (record (operand_at fs) { criterion = w }) []).1 ts ≡ Some out → Found (tokens_in fs ++ CriterionToken w ∷ ts) out
named_test ts out b fs w good e =
    let h = unary_ended fs (Test w) good refl refl refl in
    let f = b h.left h.made h.are (ap (λ (x : List Waiting × List Step). taken_all lenient AfterUnary (before x) ts) (sym h.same) ∙ e) in
    found_as ((tokens_in h.left ++ tokens_of h.made) ++ ts) (tokens_in fs ++ CriterionToken w ∷ ts) out (sym (append_assoc (tokens_in fs) (CriterionToken w ∷ []) ts) ∙ ap (λ (x : List Token). x ++ ts) (sym h.tokens)) f

value_test : (ts : List Token) (out : List Step) (digits : List ℕ) → Gives ts out → (fs : List Frame) (w operator : List ℕ) → AreGood fs → taken_all lenient BeforeOperand (record (operand_at fs) { criterion = w; operator = operator }) (OperandToken digits ∷ ts) ≡ Some out → Found (tokens_in fs ++ CriterionToken w ∷ OperatorToken operator ∷ OperandToken digits ∷ ts) out
unfolding taken_all
value_test ts out digits later fs w operator good e =
    let h = unary_ended fs (Compared w operator digits) good refl refl refl in
    let f = later.at_behind h.left h.made h.are (ap (λ (x : List Waiting × List Step). taken_all lenient AfterUnary (before x) ts) (sym h.same) ∙ e) in
    found_as ((tokens_in h.left ++ tokens_of h.made) ++ ts) (tokens_in fs ++ CriterionToken w ∷ OperatorToken operator ∷ OperandToken digits ∷ ts) out
    (sym (append_assoc (tokens_in fs) (CriterionToken w ∷ OperatorToken operator ∷ OperandToken digits ∷ []) ts) ∙ ap (λ (x : List Token). x ++ ts) (sym h.tokens)) f

-- where a unary is to begin
open_frame : (fs : List Frame) (t : Token) (ts : List Token) → tokens_in fs ++ t ∷ ts ≡ (tokens_in fs ++ t ∷ []) ++ ts
open_frame fs t ts = sym (append_assoc (tokens_in fs) (t ∷ []) ts)

gives : (ts : List Token) (out : List Step) → Gives ts out
unfolding taken_all
gives [] out = record {
  at_operand = λ fs good e. absurd cc;
  at_named = λ fs w good e. named_test [] out (behind_end out) fs w good e;
  at_value = λ fs w operator good e. absurd cc;
  at_behind = behind_end out;
}
gives (AndWord ∷ ts) out = let b = behind_and ts out (gives ts out) in record {
  at_operand = λ fs good e. absurd cc;
  at_named = λ fs w good e. named_test (AndWord ∷ ts) out b fs w good e;
  at_value = λ fs w operator good e. absurd cc;
  at_behind = b;
}
gives (OrWord ∷ ts) out = let b = behind_or ts out (gives ts out) in record {
  at_operand = λ fs good e. absurd cc;
  at_named = λ fs w good e. named_test (OrWord ∷ ts) out b fs w good e;
  at_value = λ fs w operator good e. absurd cc;
  at_behind = b;
}
gives (CloseMark ∷ ts) out = let b = behind_close ts out (gives ts out) in record {
  at_operand = λ fs good e. absurd cc;
  at_named = λ fs w good e. named_test (CloseMark ∷ ts) out b fs w good e;
  at_value = λ fs w operator good e. absurd cc;
  at_behind = b;
}
gives (CriterionToken v ∷ ts) out = record {
  at_operand = λ fs good e. (gives ts out).at_named fs v good e;
  at_named = λ fs w good e. absurd cc;
  at_value = λ fs w operator good e. absurd cc;
  at_behind = λ fs q t e. absurd cc;
}
gives (OperatorToken s ∷ ts) out = record {
  at_operand = λ fs good e. absurd cc;
  at_named = λ fs w good e. (gives ts out).at_value fs w s good e;
  at_value = λ fs w operator good e. absurd cc;
  at_behind = λ fs q t e. absurd cc;
}
gives (OperandToken d ∷ ts) out = record {
  at_operand = λ fs good e. absurd cc;
  at_named = λ fs w good e. absurd cc;
  at_value = λ fs w operator good e. value_test ts out d (gives ts out) fs w operator good e;
  at_behind = λ fs q t e. absurd cc;
}
gives (NotWord ∷ ts) out = record {
  at_operand = λ fs good e. found_as (tokens_in (InNot ∷ fs) ++ ts) (tokens_in fs ++ NotWord ∷ ts) out (open_frame fs NotWord ts) ((gives ts out).at_operand (InNot ∷ fs) good e);
  at_named = λ fs w good e. absurd cc;
  at_value = λ fs w operator good e. absurd cc;
  at_behind = λ fs q t e. absurd cc;
}
gives (OpenMark ∷ ts) out = record {
  at_operand = λ fs good e. found_as (tokens_in (InOpen ∷ fs) ++ ts) (tokens_in fs ++ OpenMark ∷ ts) out (open_frame fs OpenMark ts) ((gives ts out).at_operand (InOpen ∷ fs) good e);
  at_named = λ fs w good e. absurd cc;
  at_value = λ fs w operator good e. absurd cc;
  at_behind = λ fs q t e. absurd cc;
}

-- tokens that are read are a query's
pub found : (ts : List Token) (out : List Step) → taken_all lenient BeforeUnary start ts ≡ Some out → Found ts out
found ts out e = (gives ts out).at_operand [] tt e
