-- A query's tokens are read as its steps, where a judge lets its tests pass.
use Rattle.std.proofs.Common.{◌≡◌, ℕ, ◌+◌, ◌&&◌, Bool, true, false, cond, List, [], ◌∷◌, ◌++◌, Option, Some, None, refl, sym, ap, ◌∙◌, append_assoc}
use Rattle.std.proofs.lemmas.Bool.{and_parts, and_from}
use Rattle.std.proofs.lemmas.List.{append-nil}
use Rattle.query_grammar.specs.declared.mode.Mode.TheVariants.{BeforeUnary, AfterCriterion, AfterUnary}
use Rattle.query_grammar.specs.declared.mode.Waiting.{Waiting}
use Rattle.query_grammar.specs.declared.mode.Waiting.TheVariants as waits
use Rattle.query_grammar.specs.Step.{Step}
use Rattle.query_grammar.specs.declared.step.StepOver.TheVariants as steps
use Rattle.query_grammar.specs.Grammar.{Token, AndWord, OrWord, CloseMark, Written, Test, Compared, Not, Inside, And, Or, tokens_of, is_unary, is_and, is_grouped}
use Rattle.query_grammar.specs.Steps.{steps_of}
use Rattle.query_grammar.specs.Moves.{Kept, open_count, tightened, loosened, waits_for, tested, start}
use Rattle.query_grammar.proofs.Tokens.{Judge, lenient, taken_all}

abbrev pub before : List Waiting × List Step → Kept
before x = record { criterion = []; operator = []; waiting = x.0; steps = x.1 }

-- what a unary leaves as it is, and what a query leaves as it is
abbrev pub is_loose : List Waiting → Bool
is_loose (waits.Not ∷ ws) = false
is_loose (waits.And ∷ ws) = false
is_loose _ = true

abbrev pub is_base : List Waiting → Bool
is_base [] = true
is_base (waits.Open ∷ ws) = true
is_base _ = false

pub loose_stays : (ws : List Waiting) (done : List Step) → is_loose ws ≡ true → tightened ws done ≡ (ws, done)
loose_stays [] done e = refl
loose_stays (waits.Open ∷ ws) done e = refl
loose_stays (waits.Or ∷ ws) done e = refl
loose_stays _ done e = absurd cc

pub base_stays : (ws : List Waiting) (done : List Step) → is_base ws ≡ true → loosened ws done ≡ (ws, done)
base_stays [] done e = refl
base_stays (waits.Open ∷ ws) done e = refl
base_stays _ done e = absurd cc

pub base_loose : (ws : List Waiting) → is_base ws ≡ true → is_loose ws ≡ true
base_loose [] e = refl
base_loose (waits.Open ∷ ws) e = refl
base_loose _ e = absurd cc

-- what may stand behind a unary, and behind a query
abbrev pub is_behind : List Token → Bool
is_behind [] = true
is_behind (AndWord ∷ ts) = true
is_behind (OrWord ∷ ts) = true
is_behind (CloseMark ∷ ts) = true
is_behind _ = false

abbrev pub is_closing : List Token → Bool
is_closing [] = true
is_closing (OrWord ∷ ts) = true
is_closing (CloseMark ∷ ts) = true
is_closing _ = false

pub closing_behind : (ts : List Token) → is_closing ts ≡ true → is_behind ts ≡ true
closing_behind [] e = refl
closing_behind (OrWord ∷ ts) e = refl
closing_behind (CloseMark ∷ ts) e = refl
closing_behind (AndWord ∷ ts) e = refl
closing_behind _ e = absurd cc

-- whether the judge lets each test of a query pass, where so many are open before it
abbrev pub is_fine : Judge → ℕ → Written → Bool
is_fine j depth (Test w) = j.test w
is_fine j depth (Compared w operator operand) = j.compared w operator operand
is_fine j depth (Not q) = j.opens depth && is_fine j (1 + depth) q
is_fine j depth (Inside q) = j.opens depth && is_fine j (1 + depth) q
is_fine j depth (And p q) = is_fine j depth p && is_fine j depth q
is_fine j depth (Or p q) = is_fine j depth p && is_fine j depth q

-- by the grammar alone each query is fine
pub lenient_fine : (q : Written) (depth : ℕ) → is_fine lenient depth q ≡ true
lenient_fine (Test w) depth = refl
lenient_fine (Compared w operator operand) depth = refl
lenient_fine (Not q) depth = lenient_fine q (1 + depth)
lenient_fine (Inside q) depth = lenient_fine q (1 + depth)
lenient_fine (And p q) depth = and_from _ _ (lenient_fine p depth) (lenient_fine q depth)
lenient_fine (Or p q) depth = and_from _ _ (lenient_fine p depth) (lenient_fine q depth)

-- what stands behind a unary is read where it passes
abbrev after : Judge → Bool → List Waiting × List Step → List Token → Option (List Step)
after j b x ts = cond b (taken_all j AfterUnary (before x) ts) None

-- two tests, one behind the other
and_if : (a b : Bool) (o : Option (List Step)) → cond a (cond b o None) None ≡ cond (a && b) o None
and_if true b o = refl
and_if false b o = refl

-- behind a name without a comparison the test is whole
named_behind : (j : Judge) (ts : List Token) (k : Kept) → is_behind ts ≡ true → taken_all j AfterCriterion k ts ≡ cond (j.test k.criterion) (taken_all j AfterUnary (tested k []).1 ts) None
unfolding taken_all
named_behind j [] k e = refl
named_behind j (AndWord ∷ ts) k e = refl
named_behind j (OrWord ∷ ts) k e = refl
named_behind j (CloseMark ∷ ts) k e = refl
named_behind j _ k e = absurd cc

-- an `or` ends where the query ends
or_ends : (j : Judge) (ts : List Token) (ws : List Waiting) (done : List Step) → is_closing ts ≡ true → taken_all j AfterUnary (before (waits.Or ∷ ws, done)) ts ≡ taken_all j AfterUnary (before (ws, done ++ steps.Or ∷ [])) ts
unfolding taken_all
or_ends j [] ws done e = refl
or_ends j (OrWord ∷ ts) ws done e = refl
or_ends j (CloseMark ∷ ts) ws done e = refl
or_ends j _ ws done e = absurd cc

-- how a query is read as a unary, before `and`, and up to its end
abbrev AsUnary : Judge → Written → Type 0
AsUnary j q = (ws : List Waiting) (done : List Step) (ts : List Token) → is_behind ts ≡ true → taken_all j BeforeUnary (before (ws, done)) (tokens_of q ++ ts) ≡ after j (is_fine j (open_count ws) q) (tightened ws (done ++ steps_of q)) ts

abbrev AsAnd : Judge → Written → Type 0
AsAnd j q = (ws : List Waiting) (done : List Step) (ts : List Token) → is_loose ws ≡ true → is_behind ts ≡ true → taken_all j BeforeUnary (before (ws, done)) (tokens_of q ++ ts) ≡ after j (is_fine j (open_count ws) q) (ws, done ++ steps_of q) ts

abbrev AsOr : Judge → Written → Type 0
AsOr j q = (ws : List Waiting) (done : List Step) (ts : List Token) → is_base ws ≡ true → is_closing ts ≡ true → taken_all j BeforeUnary (before (ws, done)) (tokens_of q ++ ts) ≡ after j (is_fine j (open_count ws) q) (ws, done ++ steps_of q) ts

record Runs (j : Judge) (q : Written) : Type 0 where
  as_unary : is_unary q ≡ true → AsUnary j q
  as_and : is_and q ≡ true → AsAnd j q
  as_or : AsOr j q

and_of : (j : Judge) (q : Written) → AsUnary j q → AsAnd j q
and_of j q h ws done ts loose b = h ws done ts b ∙ ap (λ (x : List Waiting × List Step). after j (is_fine j (open_count ws) q) x ts) (loose_stays ws (done ++ steps_of q) loose)

from_unary : (j : Judge) (q : Written) → AsUnary j q → Runs j q
from_unary j q h = record {
  as_unary = λ u. h;
  as_and = λ u. and_of j q h;
  as_or = λ ws done ts base c. and_of j q h ws done ts (base_loose ws base) (closing_behind ts c);
}

run_test : (j : Judge) (w : List ℕ) → AsUnary j (Test w)
unfolding taken_all
run_test j w ws done ts b = named_behind j ts (record { criterion = w; operator = []; waiting = ws; steps = done }) b

run_compared : (j : Judge) (w operator operand : List ℕ) → AsUnary j (Compared w operator operand)
unfolding taken_all
run_compared j w operator operand ws done ts b = refl

run_not : (j : Judge) (q : Written) → AsUnary j q → AsUnary j (Not q)
unfolding taken_all
run_not j q h ws done ts b =
    let fine = is_fine j (1 + open_count ws) q in
    ap (λ (o : Option (List Step)). cond (j.opens (open_count ws)) o None)
    (h (waits.Not ∷ ws) done ts b ∙ ap (λ (d : List Step). after j fine (tightened ws d) ts) (append_assoc done (steps_of q) (steps.Not ∷ [])))
    ∙ and_if (j.opens (open_count ws)) fine (taken_all j AfterUnary (before (tightened ws (done ++ steps_of (Not q)))) ts)

run_inside : (j : Judge) (q : Written) → Runs j q → AsUnary j (Inside q)
unfolding taken_all
run_inside j q h ws done ts b =
    ap (λ (o : Option (List Step)). cond (j.opens (open_count ws)) o None)
    (ap (λ (x : List Token). taken_all j BeforeUnary (before (waits.Open ∷ ws, done)) x) (append_assoc (tokens_of q) (CloseMark ∷ []) ts)
    ∙ h.as_or (waits.Open ∷ ws) done (CloseMark ∷ ts) refl refl)
    ∙ and_if (j.opens (open_count ws)) (is_fine j (1 + open_count ws) q) (taken_all j AfterUnary (before (tightened ws (done ++ steps_of q))) ts)

run_and : (j : Judge) (p q : Written) → AsAnd j p → AsUnary j q → AsAnd j (And p q)
unfolding taken_all
run_and j p q hp hq ws done ts loose b =
    let fine = is_fine j (open_count ws) q in
    ap (λ (x : List Token). taken_all j BeforeUnary (before (ws, done)) x) (append_assoc (tokens_of p) (AndWord ∷ tokens_of q) ts)
    ∙ hp ws done (AndWord ∷ (tokens_of q ++ ts)) loose refl
    ∙ ap (λ (o : Option (List Step)). cond (is_fine j (open_count ws) p) o None)
    (hq (waits.And ∷ ws) (done ++ steps_of p) ts b
    ∙ ap (λ (x : List Waiting × List Step). after j fine x ts) (loose_stays ws (((done ++ steps_of p) ++ steps_of q) ++ steps.And ∷ []) loose)
    ∙ ap (λ (d : List Step). after j fine (ws, d) ts) (simp append_assoc))
    ∙ and_if (is_fine j (open_count ws) p) fine (taken_all j AfterUnary (before (ws, done ++ steps_of (And p q))) ts)

run_or : (j : Judge) (p q : Written) → Runs j p → AsAnd j q → AsOr j (Or p q)
unfolding taken_all
run_or j p q hp hq ws done ts base c =
    let fine = is_fine j (open_count ws) q in
    ap (λ (x : List Token). taken_all j BeforeUnary (before (ws, done)) x) (append_assoc (tokens_of p) (OrWord ∷ tokens_of q) ts)
    ∙ hp.as_or ws done (OrWord ∷ (tokens_of q ++ ts)) base refl
    ∙ ap (λ (o : Option (List Step)). cond (is_fine j (open_count ws) p) o None)
    (ap (λ (x : List Waiting × List Step). taken_all j BeforeUnary (waits_for waits.Or x).1 (tokens_of q ++ ts)) (base_stays ws (done ++ steps_of p) base)
    ∙ hq (waits.Or ∷ ws) (done ++ steps_of p) ts refl (closing_behind ts c)
    ∙ ap (λ (o : Option (List Step)). cond fine o None) (or_ends j ts ws ((done ++ steps_of p) ++ steps_of q) c)
    ∙ ap (λ (d : List Step). after j fine (ws, d) ts) (simp append_assoc))
    ∙ and_if (is_fine j (open_count ws) p) fine (taken_all j AfterUnary (before (ws, done ++ steps_of (Or p q))) ts)

runs : (j : Judge) (q : Written) → is_grouped q ≡ true → Runs j q
runs j (Test w) e = from_unary j (Test w) (run_test j w)
runs j (Compared w operator operand) e = from_unary j (Compared w operator operand) (run_compared j w operator operand)
runs j (Not q) e =
    let g = and_parts (is_unary q) (is_grouped q) e in
    from_unary j (Not q) (run_not j q ((runs j q g.1).as_unary g.0))
runs j (Inside q) e = from_unary j (Inside q) (run_inside j q (runs j q e))
runs j (And p q) e =
    let a = and_parts (is_and p && is_unary q && is_grouped p) (is_grouped q) e in
    let b = and_parts (is_and p && is_unary q) (is_grouped p) a.0 in
    let d = and_parts (is_and p) (is_unary q) b.0 in
    let h = run_and j p q ((runs j p b.1).as_and d.0) ((runs j q a.1).as_unary d.1) in
    record {
      as_unary = λ u. absurd cc;
      as_and = λ u. h;
      as_or = λ ws done ts base c. h ws done ts (base_loose ws base) (closing_behind ts c);
    }
runs j (Or p q) e =
    let a = and_parts (is_and q && is_grouped p) (is_grouped q) e in
    let b = and_parts (is_and q) (is_grouped p) a.0 in
    record {
      as_unary = λ u. absurd cc;
      as_and = λ u. absurd cc;
      as_or = run_or j p q (runs j p b.1) ((runs j q a.1).as_and b.0);
    }

-- a query's tokens give its steps, where it is fine
pub tokens_read : (j : Judge) (q : Written) → is_grouped q ≡ true → taken_all j BeforeUnary start (tokens_of q) ≡ cond (is_fine j 0 q) (Some (steps_of q)) None
unfolding taken_all
tokens_read j q e =
    ap (λ (ts : List Token). taken_all j BeforeUnary start ts) (sym (append-nil (tokens_of q))) ∙ (runs j q e).as_or [] [] [] refl refl
