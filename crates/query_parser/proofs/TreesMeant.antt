-- Steps that mean those of a tree are those of a tree that it means.
use Rattle.std.proofs.Common.{◌≡◌, ℕ, Bool, true, false, List, [], ◌∷◌, ◌++◌, Option, Some, None, refl, sym, ap, ap₂, subst, ◌∙◌, IsUtf8}
use Rattle.std.specs.Str.{is_utf8}
use Rattle.std.specs.Str.Lossy.{utf8_valid_len}
use Rattle.std.specs.Result.{result_err}
use Rattle.std.proofs.lemmas.Bool.{cond-false}
use Rattle.std.proofs.lemmas.Str.{IsUtf8-from_is_utf8}
use Rattle.vsl_tags.specs.TagSet.{matches_any}
use Rattle.query_grammar.specs.declared.step.StepOver.{StepOver}
use Rattle.query_grammar.specs.declared.step.StepOver.TheVariants as steps
use Rattle.query_grammar.specs.Step.{Step, TestParts}
use Rattle.query_grammar.specs.Tree as tree
use Rattle.query_grammar.specs.Tree.{Single, Negated, Both, Either, tree_of, tree_steps}
use Rattle.query_grammar.specs.Fine.{IsFineQuery}
use Rattle.query_grammar.specs.Lines.{lines_of, read_lines}
use Rattle.query_grammar.specs.Scanner.{Fault, Syntax}
use Rattle.query_grammar.proofs.Lines.{lines_found}
use Rattle.query_grammar.proofs.Fine.{fine_lines_found}
use Rattle.query_grammar.proofs.TextFaults.{fault_is}
use Rattle.query_parser.specs.declared.fault.QueryFault.{QueryFault}
use Rattle.query_parser.specs.declared.test.Test.{Test}
use Rattle.query_parser.specs.Answers.{IsAnswer}
use Rattle.query_parser.specs.Parsed.{is_decimal, most_open, first_fault, IsTreeMeant, Means}
use Rattle.vsl_pattern.specs.Patterns.{is_good_pattern}
use Rattle.query_parser.specs.inside.Follows.{rules, IsStepMeant, AreMeant, none, more, AreRead}

-- steps in two parts
record Split (caseless : Bool) (a x : List Step) (all : List (StepOver Test)) : Type 0 where
  first : List (StepOver Test)
  later : List (StepOver Test)
  whole : first ++ later ≡ all
  first_meant : AreMeant caseless a first
  later_meant : AreMeant caseless x later

split_more : (caseless : Bool) (s : Step) (t : StepOver Test) (a x : List Step) (all : List (StepOver Test)) → IsStepMeant caseless s t → Split caseless a x all → Split caseless (s ∷ a) x (t ∷ all)
split_more caseless s t a x all m h = record { first = t ∷ h.first; later = h.later; whole = ap (λ (v : List (StepOver Test)). t ∷ v) h.whole; first_meant = more m h.first_meant; later_meant = h.later_meant }

split : (caseless : Bool) (a x : List Step) (all : List (StepOver Test)) → AreMeant caseless (a ++ x) all → Split caseless a x all
split caseless [] x all h = record { first = []; later = all; whole = refl; first_meant = none; later_meant = h }
split caseless (s ∷ a) x [] h = elim h [ ]
split caseless (s ∷ a) x (t ∷ all) (more m h) = split_more caseless s t a x all m (split caseless a x all h)

-- one step
record One (caseless : Bool) (s : Step) (all : List (StepOver Test)) : Type 0 where
  step : StepOver Test
  whole : step ∷ [] ≡ all
  meant : IsStepMeant caseless s step

no_steps : (caseless : Bool) (all : List (StepOver Test)) → AreMeant caseless [] all → [] ≡ all
no_steps caseless [] h = refl
no_steps caseless (t ∷ all) h = elim h [ ]

one : (caseless : Bool) (s : Step) (all : List (StepOver Test)) → AreMeant caseless (s ∷ []) all → One caseless s all
one caseless s [] h = elim h [ ]
one caseless s (t ∷ all) (more m h) = record { step = t; whole = ap (λ (v : List (StepOver Test)). t ∷ v) (no_steps caseless all h); meant = m }

not_is : (caseless : Bool) (t : StepOver Test) → IsStepMeant caseless steps.Not t → t ≡ steps.Not
not_is caseless (steps.Test t) m = absurd m
not_is caseless steps.Not m = refl
not_is caseless steps.And m = absurd m
not_is caseless steps.Or m = absurd m

and_is : (caseless : Bool) (t : StepOver Test) → IsStepMeant caseless steps.And t → t ≡ steps.And
and_is caseless (steps.Test t) m = absurd m
and_is caseless steps.Not m = absurd m
and_is caseless steps.And m = refl
and_is caseless steps.Or m = absurd m

or_is : (caseless : Bool) (t : StepOver Test) → IsStepMeant caseless steps.Or t → t ≡ steps.Or
or_is caseless (steps.Test t) m = absurd m
or_is caseless steps.Not m = absurd m
or_is caseless steps.And m = absurd m
or_is caseless steps.Or m = refl

-- a tree of tests that is meant
pub record MeantBy (caseless : Bool) (w : tree.Query TestParts) (all : List (StepOver Test)) : Type 0 where
  pub query : tree.Query Test
  pub whole : all ≡ tree_steps query
  pub meant : IsTreeMeant caseless w query

single_meant : (caseless : Bool) (parts : TestParts) (t : StepOver Test) → IsStepMeant caseless (steps.Test parts) t → MeantBy caseless (Single parts) (t ∷ [])
single_meant caseless parts (steps.Test t) m = record { query = Single t; whole = refl; meant = m }
single_meant caseless parts steps.Not m = absurd m
single_meant caseless parts steps.And m = absurd m
single_meant caseless parts steps.Or m = absurd m

-- steps behind those of a tree
last_step : (caseless : Bool) (a : List Step) (s : Step) (t : StepOver Test) (all : List (StepOver Test)) → ((u : StepOver Test) → IsStepMeant caseless s u → u ≡ t) → (h : Split caseless a (s ∷ []) all) → all ≡ h.first ++ t ∷ []
last_step caseless a s t all only h =
    let l = one caseless s h.later h.later_meant in
    sym h.whole ∙ ap (λ (v : List (StepOver Test)). h.first ++ v) (sym l.whole) ∙ ap (λ (u : StepOver Test). h.first ++ u ∷ []) (only l.step l.meant)

pub tree_meant : (caseless : Bool) (w : tree.Query TestParts) (all : List (StepOver Test)) → AreMeant caseless (tree_steps w) all → MeantBy caseless w all
tree_meant caseless (Single parts) all h =
    let l = one caseless (steps.Test parts) all h in
    subst (λ (v : List (StepOver Test)). MeantBy caseless (Single parts) v) l.whole (single_meant caseless parts l.step l.meant)
tree_meant caseless (Negated p) all h =
    let s = split caseless (tree_steps p) (steps.Not ∷ []) all h in
    let a = tree_meant caseless p s.first s.first_meant in
    record { query = Negated a.query; whole = last_step caseless (tree_steps p) steps.Not steps.Not all (not_is caseless) s ∙ ap (λ (v : List (StepOver Test)). v ++ steps.Not ∷ []) a.whole; meant = a.meant }
tree_meant caseless (Both p q) all h =
    let s = split caseless (tree_steps p ++ tree_steps q) (steps.And ∷ []) all h in
    let t = split caseless (tree_steps p) (tree_steps q) s.first s.first_meant in
    let a = tree_meant caseless p t.first t.first_meant in
    let b = tree_meant caseless q t.later t.later_meant in
    record {
      query = Both a.query b.query;
      whole = last_step caseless (tree_steps p ++ tree_steps q) steps.And steps.And all (and_is caseless) s ∙ ap (λ (v : List (StepOver Test)). v ++ steps.And ∷ []) (sym t.whole ∙ ap₂ (λ (x y : List (StepOver Test)). x ++ y) a.whole b.whole);
      meant = (a.meant, b.meant);
    }
tree_meant caseless (Either p q) all h =
    let s = split caseless (tree_steps p ++ tree_steps q) (steps.Or ∷ []) all h in
    let t = split caseless (tree_steps p) (tree_steps q) s.first s.first_meant in
    let a = tree_meant caseless p t.first t.first_meant in
    let b = tree_meant caseless q t.later t.later_meant in
    record {
      query = Either a.query b.query;
      whole = last_step caseless (tree_steps p ++ tree_steps q) steps.Or steps.Or all (or_is caseless) s ∙ ap (λ (v : List (StepOver Test)). v ++ steps.Or ∷ []) (sym t.whole ∙ ap₂ (λ (x y : List (StepOver Test)). x ++ y) a.whole b.whole);
      meant = (a.meant, b.meant);
    }

-- ---- a text

-- a tree that a text means, and its steps
pub record TextMeans (caseless : Bool) (text : List ℕ) (all : List (StepOver Test)) : Type 0 where
  pub query : tree.Query Test
  pub means : Means caseless text query
  pub whole : all ≡ tree_steps query

-- what was read of a text is what it means
pub text_means : (caseless : Bool) (text : List ℕ) (all : List (StepOver Test)) → IsUtf8 text → AreRead caseless (read_lines (rules caseless) 0 None (lines_of text)) all → TextMeans caseless text all
text_means caseless text all u r =
    let h = lines_found (rules caseless) (IsFineQuery matches_any is_decimal (is_good_pattern caseless) most_open) (fine_lines_found matches_any is_decimal (is_good_pattern caseless) most_open) (lines_of text) 0 None r.written r.read in
    let t = tree_meant caseless (tree_of h.query) all (subst (λ (v : List Step). AreMeant caseless v all) (sym h.steps) r.meant) in
    record { query = t.query; means = (h.query, (u, h.are), t.meant); whole = t.whole }

-- the fault of the lines is that of the text
pub text_refused : (caseless : Bool) (text : List ℕ) (f : QueryFault) → IsUtf8 text → IsAnswer f (result_err (read_lines (rules caseless) 0 None (lines_of text))) → IsAnswer f (first_fault caseless text)
text_refused caseless text f u h = subst (λ (o : Option Fault). IsAnswer f o) (sym (fault_is matches_any is_decimal (is_good_pattern caseless) most_open text u)) h

not_utf8 : (text : List ℕ) (b : Bool) → (IsUtf8 text → ⊥) → is_utf8 text ≡ b → is_utf8 text ≡ false
not_utf8 text true h e = absurd (h (IsUtf8-from_is_utf8 text e))
not_utf8 text false h e = e

-- a text that isn't UTF-8 is refused at the first byte that isn't part of UTF-8
pub bytes_refused : (caseless : Bool) (text : List ℕ) (at : ℕ) → (IsUtf8 text → ⊥) → at ≡ utf8_valid_len text → first_fault caseless text ≡ Some (Syntax at)
bytes_refused caseless text at h e = cond-false (is_utf8 text) _ _ (not_utf8 text (is_utf8 text) h refl) ∙ ap (λ (n : ℕ). Some (Syntax n)) (sym e)
