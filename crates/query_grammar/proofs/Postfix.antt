-- Steps are those of one tree.
use Rattle.std.proofs.Common.{◌≡◌, Bool, List, [], ◌∷◌, ◌++◌, refl, sym, ap, ◌∙◌, append_assoc}
use Rattle.std.proofs.lemmas.List.{append-nil}
use Rattle.query_grammar.specs.declared.step.StepOver.{StepOver}
use Rattle.query_grammar.specs.declared.step.StepOver.TheVariants as steps
use Rattle.query_grammar.specs.Grammar.{Written}
use Rattle.query_grammar.specs.Steps.{steps_of}
use Rattle.query_grammar.specs.Tree.{Query, Single, Negated, Both, Either, tree_of, tree_steps, is_true, truths_of}

-- one step over the trees that were made, the last first
made : {A : Type 0} → StepOver A → List (Query A) → List (Query A)
made (steps.Test t) all = Single t ∷ all
made steps.Not (q ∷ all) = Negated q ∷ all
made steps.And (q ∷ p ∷ all) = Both p q ∷ all
made steps.Or (q ∷ p ∷ all) = Either p q ∷ all
made _ _ = []

made_by : {A : Type 0} → List (StepOver A) → List (Query A) → List (Query A)
made_by [] all = all
made_by (s ∷ more) all = made_by more (made s all)

-- the steps of a tree make it
makes : {A : Type 0} (q : Query A) (more : List (StepOver A)) (all : List (Query A)) → made_by (tree_steps q ++ more) all ≡ made_by more (q ∷ all)
unfolding made_by made
makes (Single t) more all = refl
makes (Negated q) more all = ap (λ (s : List (StepOver _)). made_by s all) (append_assoc (tree_steps q) (steps.Not ∷ []) more) ∙ makes q (steps.Not ∷ more) all
makes (Both p q) more all =
    let regrouped : ((tree_steps p ++ tree_steps q) ++ steps.And ∷ []) ++ more ≡ tree_steps p ++ (tree_steps q ++ (steps.And ∷ more)) = simp append_assoc in
    ap (λ (s : List (StepOver _)). made_by s all) regrouped ∙ makes p (tree_steps q ++ (steps.And ∷ more)) all ∙ makes q (steps.And ∷ more) (p ∷ all)
makes (Either p q) more all =
    let regrouped : ((tree_steps p ++ tree_steps q) ++ steps.Or ∷ []) ++ more ≡ tree_steps p ++ (tree_steps q ++ (steps.Or ∷ more)) = simp append_assoc in
    ap (λ (s : List (StepOver _)). made_by s all) regrouped ∙ makes p (tree_steps q ++ (steps.Or ∷ more)) all ∙ makes q (steps.Or ∷ more) (p ∷ all)

makes_all : {A : Type 0} (q : Query A) → made_by (tree_steps q) [] ≡ q ∷ []
unfolding made_by
makes_all q = ap (λ (s : List (StepOver _)). made_by s []) (sym (append-nil (tree_steps q))) ∙ makes q [] []

-- trees with the same steps are the same
pub same_tree : {A : Type 0} (p q : Query A) → tree_steps p ≡ tree_steps q → p ≡ q
same_tree p q e =
    let lists : p ∷ [] ≡ q ∷ [] = sym (makes_all p) ∙ ap (λ (s : List (StepOver _)). made_by s []) e ∙ makes_all q in
    cc

-- the steps of a query leave its truth
leaves : {A : Type 0} (test : A → Bool) (q : Query A) (more : List (StepOver A)) (all : List Bool) → truths_of test (tree_steps q ++ more) all ≡ truths_of test more (is_true test q ∷ all)
unfolding truths_of
leaves test (Single t) more all = refl
leaves test (Negated q) more all = ap (λ (s : List (StepOver _)). truths_of test s all) (append_assoc (tree_steps q) (steps.Not ∷ []) more) ∙ leaves test q (steps.Not ∷ more) all
leaves test (Both p q) more all =
    let regrouped : ((tree_steps p ++ tree_steps q) ++ steps.And ∷ []) ++ more ≡ tree_steps p ++ (tree_steps q ++ (steps.And ∷ more)) = simp append_assoc in
    ap (λ (s : List (StepOver _)). truths_of test s all) regrouped ∙ leaves test p (tree_steps q ++ (steps.And ∷ more)) all ∙ leaves test q (steps.And ∷ more) (is_true test p ∷ all)
leaves test (Either p q) more all =
    let regrouped : ((tree_steps p ++ tree_steps q) ++ steps.Or ∷ []) ++ more ≡ tree_steps p ++ (tree_steps q ++ (steps.Or ∷ more)) = simp append_assoc in
    ap (λ (s : List (StepOver _)). truths_of test s all) regrouped ∙ leaves test p (tree_steps q ++ (steps.Or ∷ more)) all ∙ leaves test q (steps.Or ∷ more) (is_true test p ∷ all)

pub one_truth : {A : Type 0} (test : A → Bool) (q : Query A) → truths_of test (tree_steps q) [] ≡ is_true test q ∷ []
unfolding truths_of
one_truth test q = ap (λ (s : List (StepOver _)). truths_of test s []) (sym (append-nil (tree_steps q))) ∙ leaves test q [] []

-- queries with the same steps have one tree
pub one_tree : (p q : Written) → steps_of p ≡ steps_of q → tree_of p ≡ tree_of q
one_tree p q e = same_tree (tree_of p) (tree_of q) e
