-- Tokens one after the other, and which of them a judge lets pass.
use Rattle.std.proofs.Common.{◌≡◌, ℕ, Bool, true, false, cond, List, [], ◌∷◌, Option, Some, None, refl, sym, ap, ◌∙◌}
use Rattle.std.specs.Option.{is_none}
use Rattle.std.proofs.lemmas.Bool.{cond-true}
use Rattle.query_grammar.specs.declared.mode.Mode.{Mode}
use Rattle.query_grammar.specs.declared.mode.Mode.TheVariants.{BeforeUnary, AfterCriterion, BeforeOperand}
use Rattle.query_grammar.specs.Step.{Step}
use Rattle.query_grammar.specs.Grammar.{Token, OperandToken, NotWord, AndWord, OrWord, OpenMark, CloseMark}
use Rattle.query_grammar.specs.Moves.{Kept, State, open_count, taken, last}
use Rattle.query_grammar.specs.Scanner.{Fault, Rules, free}

-- which criteria may stand alone, which comparisons may stand, and whether one more may be open where so many are
pub record Judge : Type 0 where
  pub test : List ℕ → Bool
  pub compared : List ℕ → List ℕ → List ℕ → Bool
  pub opens : ℕ → Bool

-- whether the judge lets a token pass, or with a closing parenthesis the end
abbrev pub passes : Judge → Mode → Kept → Token → Bool
passes j BeforeUnary k NotWord = j.opens (open_count k.waiting)
passes j BeforeUnary k OpenMark = j.opens (open_count k.waiting)
passes j AfterCriterion k AndWord = j.test k.criterion
passes j AfterCriterion k OrWord = j.test k.criterion
passes j AfterCriterion k CloseMark = j.test k.criterion
passes j BeforeOperand k (OperandToken w) = j.compared k.criterion k.operator w
passes j _ k _ = true

-- the rules find a fault, at whatever places, where the judge lets no token pass
pub record Judges (rules : Rules) (j : Judge) : Type 0 where
  pub none : (from place : ℕ) (m : Mode) (k : Kept) (t : Token) → is_none (rules.fault from place m k t) ≡ passes j m k t

-- the judge that lets each token pass
abbrev pub lenient : Judge
lenient = record { test = λ w. true; compared = λ w operator operand. true; opens = λ n. true }

all_pass : (m : Mode) (k : Kept) (t : Token) → passes lenient m k t ≡ true
all_pass BeforeUnary k NotWord = refl
all_pass BeforeUnary k OpenMark = refl
all_pass AfterCriterion k AndWord = refl
all_pass AfterCriterion k OrWord = refl
all_pass AfterCriterion k CloseMark = refl
all_pass BeforeOperand k (OperandToken w) = refl
all_pass _ k _ = refl

-- it judges by the grammar alone
pub free_judges : Judges free lenient
free_judges = record { none = λ from place m k t. sym (all_pass m k t) }

abbrev pub and_then : {A B : Type 0} → Option A → (A → Option B) → Option B
and_then (Some x) f = f x
and_then None f = None

-- the steps of tokens, where the judge lets each pass
unfoldable pub taken_all : Judge → Mode → Kept → List Token → Option (List Step)
taken_all j m k [] = cond (passes j m k CloseMark) (last m k) None
taken_all j m k (t ∷ ts) = cond (passes j m k t) (and_then (taken m k t) (λ x. taken_all j x.0 x.1 ts)) None

pub some_is : {A : Type 0} (x y : A) → Some x ≡ Some y → x ≡ y
some_is x y e = cc

pub some_none : {A : Type 0} (y : A) → None ≡ Some y → ⊥
some_none y e = absurd cc

pub and_then_some : {A B : Type 0} (o : Option A) (f : A → Option B) (y : B) → and_then o f ≡ Some y → (x : A) × (o ≡ Some x) × (f x ≡ Some y)
and_then_some (Some x) f y e = (x, refl, e)
and_then_some None f y e = absurd (some_none y e)

pub if_some : {A : Type 0} (b : Bool) (o : Option A) (y : A) → cond b o None ≡ Some y → (b ≡ true) × (o ≡ Some y)
if_some true o y e = (refl, e)
if_some false o y e = absurd (some_none y e)

-- there is no fault where the test says so
pub none_is : (o : Option Fault) → is_none o ≡ true → o ≡ None
none_is None e = refl
none_is (Some f) e = absurd cc

-- what a judge lets pass the lenient one does
pub freed : (j : Judge) (ts : List Token) (m : Mode) (k : Kept) (out : List Step) → taken_all j m k ts ≡ Some out → taken_all lenient m k ts ≡ Some out
unfolding taken_all
freed j [] m k out e = cond-true (passes lenient m k CloseMark) _ _ (all_pass m k CloseMark) ∙ (if_some (passes j m k CloseMark) (last m k) out e).1
freed j (t ∷ ts) m k out e =
    let a = if_some (passes j m k t) (and_then (taken m k t) (λ x. taken_all j x.0 x.1 ts)) out e in
    let x = and_then_some (taken m k t) (λ x. taken_all j x.0 x.1 ts) out a.1 in
    cond-true (passes lenient m k t) _ _ (all_pass m k t) ∙ ap (λ (o : Option State). and_then o (λ y. taken_all lenient y.0 y.1 ts)) x.1 ∙ freed j ts x.0.0 x.0.1 out x.2
