-- Lines and what reading gives.
use Rattle.std.proofs.Common.{◌≡◌, [], ◌∷◌, Ok, Err, refl}
use Rattle.std.specs.Prelude.{codes}
use Rattle.query_grammar.specs.declared.step.StepOver.TheVariants as steps
use Rattle.query_grammar.specs.Scanner.{Syntax, free, run, begin}
use Rattle.query_grammar.specs.Steps.{test_step}

wrong_word : run free 0 begin (codes "End andy") ≡ Err (Syntax 7)
unfolding run
wrong_word = refl

wrong_sign : run free 0 begin (codes "End ex") ≡ Err (Syntax 5)
unfolding run
wrong_sign = refl

no_join : run free 0 begin (codes "End not End") ≡ Err (Syntax 5)
unfolding run
no_join = refl

short_word : run free 0 begin (codes "End an") ≡ Err (Syntax 6)
unfolding run
short_word = refl

first_and : run free 0 begin (codes "and End") ≡ Err (Syntax 3)
unfolding run
first_and = refl

second_or : run free 0 begin (codes "End and or x") ≡ Err (Syntax 10)
unfolding run
second_or = refl

no_operand : run free 0 begin (codes "RespStatus ==") ≡ Err (Syntax 13)
unfolding run
no_operand = refl

no_paren : run free 0 begin (codes "End)") ≡ Err (Syntax 3)
unfolding run
no_paren = refl

not_word : run free 0 begin (codes "not-x") ≡ Err (Syntax 3)
unfolding run
not_word = refl

not_name : run free 0 begin (codes "not:x") ≡ Ok (test_step (codes "not:x") [] [] ∷ [])
unfolding run
not_name = refl

no_blanks : run free 0 begin (codes "End[1]and(End)or ReqURL~\"a\"") ≡ Ok (test_step (codes "End[1]") [] [] ∷ test_step (codes "End") [] [] ∷ steps.And ∷ test_step (codes "ReqURL") (codes "~") (codes "\"a\"") ∷ steps.Or ∷ [])
unfolding run
no_blanks = refl

groups : run free 0 begin (codes "not A or not not {2+}B,C:'x y'[3] eq 'it\\'s' and D != -1.5") ≡ Ok (test_step (codes "A") [] [] ∷ steps.Not ∷ test_step (codes "{2+}B,C:'x y'[3]") (codes "eq") (codes "'it\\'s'") ∷ steps.Not ∷ steps.Not ∷ test_step (codes "D") (codes "!=") (codes "-1.5") ∷ steps.And ∷ steps.Or ∷ [])
unfolding run
groups = refl
