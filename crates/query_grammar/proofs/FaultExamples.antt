-- Lines and their first fault.
use Rattle.std.proofs.Common.{◌≡◌, ℕ, Bool, List, [], ◌∷◌, ◌++◌, Ok, Err, refl}
use Rattle.std.specs.Prelude.{codes, not, replicate}
use Rattle.std.specs.Str.{bytes_eq}
use Rattle.query_grammar.specs.declared.step.StepOver.TheVariants as steps
use Rattle.query_grammar.specs.Steps.{test_step}
use Rattle.query_grammar.specs.Bytes.{is_digit}
use Rattle.query_grammar.specs.Lexical.{is_one_of}
use Rattle.query_grammar.specs.Criterion.{is_all}
use Rattle.query_grammar.specs.Scanner.{Syntax, UnknownTag, Number, Pattern, Deep, Rules, run, begin}
use Rattle.std.specs.Prelude.{None}
use Rattle.query_grammar.specs.Scanner.{free}
use Rattle.query_grammar.specs.Lines.{lines_of, read_lines}
use Rattle.query_grammar.specs.Judging.{rules_of}

abbrev pub few : List ℕ → Bool
few w = is_one_of (codes "End" ∷ codes "Begin" ∷ codes "ReqURL" ∷ codes "RespStatus" ∷ []) w

-- every pattern is good but `(`
abbrev pub good : List ℕ → Bool
good w = not (bytes_eq w (codes "("))

abbrev pub rules : Rules
rules = rules_of few (λ w. is_all is_digit w) good 3

tag_first : run rules 0 begin (codes "{99999}Foo") ≡ Err (UnknownTag 7)
unfolding run
tag_first = refl

number_cut : run rules 0 begin (codes "{99999}%") ≡ Err (Number 1)
unfolding run
number_cut = refl

tag_before_stop : run rules 0 begin (codes "Foo %") ≡ Err (UnknownTag 0)
unfolding run
tag_before_stop = refl

glued : run rules 0 begin (codes "RespStatus == 200and End") ≡ Err (Number 14)
unfolding run
glued = refl

long_name : run rules 0 begin (codes "Endeq \"x\"") ≡ Err (UnknownTag 0)
unfolding run
long_name = refl

exponent : run rules 0 begin (codes "RespStatus == 1e3") ≡ Err (Number 14)
unfolding run
exponent = refl

no_field : run rules 0 begin (codes "{2}Begin[0]") ≡ Err (Number 9)
unfolding run
no_field = refl

second_name : run rules 0 begin (codes "End,Foo,%") ≡ Err (UnknownTag 4)
unfolding run
second_name = refl

name_and : run rules 0 begin (codes "and==1") ≡ Err (UnknownTag 0)
unfolding run
name_and = refl

name_not : run rules 0 begin (codes "not-x") ≡ Err (UnknownTag 0)
unfolding run
name_not = refl

word_and : run rules 0 begin (codes "and End") ≡ Err (Syntax 3)
unfolding run
word_and = refl

too_deep : run rules 0 begin (codes "((not (End") ≡ Err (Deep 6)
unfolding run
too_deep = refl

not_too_deep : run rules 0 begin (codes "((not End) or not not (End") ≡ Err (Deep 22)
unfolding run
not_too_deep = refl

bad_pattern : run rules 0 begin (codes "ReqURL ~ \"(\" %") ≡ Err (Pattern 9)
unfolding run
bad_pattern = refl

pattern_before_number : run rules 0 begin (codes "ReqURL !~ '(' and RespStatus == x") ≡ Err (Pattern 10)
unfolding run
pattern_before_number = refl

number_before_pattern : run rules 0 begin (codes "RespStatus == x or ReqURL ~ '('") ≡ Err (Number 14)
unfolding run
number_before_pattern = refl

bad_text : run rules 0 begin (codes "ReqURL eq '('") ≡ Ok (test_step (codes "ReqURL") (codes "eq") (codes "'('") ∷ [])
unfolding run
bad_text = refl

open_quote : run rules 0 begin (codes "ReqURL ~ 'a") ≡ Err (Syntax 11)
unfolding run
open_quote = refl

short_test : run rules 0 begin (codes "RespStatus ==") ≡ Err (Syntax 13)
unfolding run
short_test = refl

no_text : read_lines free 0 None (lines_of []) ≡ Err (Syntax 0)
unfolding read_lines run
no_text = refl

only_comments : read_lines free 0 None (lines_of (codes " # End\n\n\t")) ≡ Err (Syntax 9)
unfolding read_lines run
only_comments = refl

second_line : read_lines free 0 None (lines_of (codes "End\nEnd x")) ≡ Err (Syntax 8)
unfolding read_lines run
second_line = refl

carriage_return : read_lines free 0 None (lines_of (codes "End and\r\n")) ≡ Err (Syntax 8)
unfolding read_lines run
carriage_return = refl

not_list : run rules 0 begin (codes "not,End") ≡ Err (UnknownTag 0)
unfolding run
not_list = refl

empty_quotes : run free 0 begin (codes "A:''[1]eq\"\"and B") ≡ Ok (test_step (codes "A:''[1]") (codes "eq") (codes "\"\"") ∷ test_step (codes "B") [] [] ∷ steps.And ∷ [])
unfolding run
empty_quotes = refl

open_escape : run free 0 begin (codes "A ~ \"b\\") ≡ Err (Syntax 7)
unfolding run
open_escape = refl

sign_then_word : run free 0 begin (codes "End eqx") ≡ Err (Syntax 6)
unfolding run
sign_then_word = refl

abbrev deep : Rules
deep = rules_of few (λ w. is_all is_digit w) good 64

open_64 : run deep 0 begin (replicate 64 40 ++ codes "End" ++ replicate 64 41) ≡ Ok (test_step (codes "End") [] [] ∷ [])
unfolding run
open_64 = refl

open_65 : run deep 0 begin (replicate 65 40 ++ codes "End" ++ replicate 65 41) ≡ Err (Deep 64)
unfolding run
open_65 = refl

quoted_number : run deep 0 begin (codes "End == \"2\\00\"") ≡ Ok (test_step (codes "End") (codes "==") (codes "\"2\\00\"") ∷ [])
unfolding run
quoted_number = refl

quoted_word : run deep 0 begin (codes "End == \"2x\"") ≡ Err (Number 7)
unfolding run
quoted_word = refl
