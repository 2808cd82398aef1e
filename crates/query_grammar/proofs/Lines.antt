-- What is read of several lines is their queries, joined by `or`.
use Rattle.std.proofs.Common.{◌≡◌, ℕ, ◌+◌, Bool, true, false, cond, List, [], ◌∷◌, length, Option, Some, None, Result, Ok, Err, refl, sym, ap, subst, ◌∙◌}
use Rattle.std.specs.Bool.{MatchBool}
use Rattle.std.proofs.lemmas.Bool.{cond-true}
use Rattle.query_grammar.specs.declared.mode.Mode.TheVariants.{BeforeUnary}
use Rattle.query_grammar.specs.Step.{Step}
use Rattle.query_grammar.specs.Grammar.{Written, tokens_of, IsLaid, IsQuery}
use Rattle.query_grammar.specs.Steps.{steps_of}
use Rattle.query_grammar.specs.Moves.{start}
use Rattle.query_grammar.specs.Scanner.{Fault, ◌>>=◌, Rules, free, run, begin}
use Rattle.query_grammar.specs.Lines.{is_passed, joined, AreQueries, joined_steps, ended_lines, read_lines}
use Rattle.query_grammar.proofs.Scan.{ok_is, no_out, laid_read, explains}
use Rattle.query_grammar.proofs.Tokens.{Judge, Judges, lenient, free_judges, taken_all, freed, if_some}
use Rattle.query_grammar.proofs.Trees.{is_fine, lenient_fine, tokens_read}
use Rattle.query_grammar.proofs.Found.{found}

-- the steps of a query, where one was read
abbrev pub steps_in : Option Written → Option (List Step)
steps_in None = None
steps_in (Some q) = Some (steps_of q)

-- the steps of queries joined are their steps joined
pub joined_is : (before : Option Written) (q : Written) → joined_steps (steps_in before) (steps_of q) ≡ steps_of (joined before q)
joined_is None q = refl
joined_is (Some p) q = refl

-- what is read of a line is a query that the judge lets pass
pub record LineRead (j : Judge) (line : List ℕ) (out : List Step) : Type 0 where
  pub query : Written
  pub whole : IsQuery line query
  pub fine : is_fine j 0 query ≡ true
  pub steps : steps_of query ≡ out

-- what is read of a line, from whatever place on, is a query
pub judged_found : (rules : Rules) (j : Judge) → Judges rules j → (at : ℕ) (line : List ℕ) (out : List Step) → run rules at begin line ≡ Ok out → LineRead j line out
judged_found rules j h at line out e =
    let w = explains rules j h line out at begin e in
    let f = found w.ts out (freed j w.ts BeforeUnary start out w.read) in
    let read : cond (is_fine j 0 f.query) (Some (steps_of f.query)) None ≡ Some out = sym (tokens_read j f.query f.grouped) ∙ ap (λ ts. taken_all j BeforeUnary start ts) f.tokens ∙ w.read in
    record { query = f.query; whole = record { grouped = f.grouped; laid = subst (λ ts. IsLaid ts line) (sym f.tokens) w.laid }; fine = (if_some (is_fine j 0 f.query) (Some (steps_of f.query)) out read).0; steps = f.steps }

-- a query that passes is read, from whatever place on
pub judged_read : (rules : Rules) (j : Judge) → Judges rules j → (at : ℕ) (line : List ℕ) (q : Written) → IsQuery line q → is_fine j 0 q ≡ true → run rules at begin line ≡ Ok (steps_of q)
judged_read rules j h at line q is fine =
    (laid_read rules j h (tokens_of q) line is.laid BeforeUnary start (steps_of q) (tokens_read j q is.grouped ∙ cond-true (is_fine j 0 q) _ _ fine)).reads at 0

-- the same by the grammar alone
pub line_read : (at : ℕ) (line : List ℕ) (out : List Step) → run free at begin line ≡ Ok out → LineRead lenient line out
line_read at line out e = judged_found free lenient free_judges at line out e

pub query_read : (at : ℕ) (line : List ℕ) (q : Written) → IsQuery line q → run free at begin line ≡ Ok (steps_of q)
query_read at line q is = judged_read free lenient free_judges at line q is (lenient_fine q 0)

-- the lines that are queries of a kind are read
pub record AreRead (rules : Rules) (Is : List ℕ → Written → Type 0) : Type 0 where
  pub each : (at : ℕ) (line : List ℕ) (q : Written) → Is line q → run rules at begin line ≡ Ok (steps_of q)

-- a query of a kind that was read of a line
pub record IsFound (Is : List ℕ → Written → Type 0) (line : List ℕ) (out : List Step) : Type 0 where
  pub query : Written
  pub is : Is line query
  pub steps : steps_of query ≡ out

-- what is read of a line is a query of a kind
pub record AreFound (rules : Rules) (Is : List ℕ → Written → Type 0) : Type 0 where
  pub each : (at : ℕ) (line : List ℕ) (out : List Step) → run rules at begin line ≡ Ok out → IsFound Is line out

-- by the grammar alone queries are read
free_read : AreRead free IsQuery
free_read = record { each = query_read }

-- by the grammar alone what is read is queries
free_found : AreFound free IsQuery
free_found = record { each = λ at line out e. let h = line_read at line out e in record { query = h.query; is = h.whole; steps = h.steps } }

-- the first of several lines is passed over or read
one_read : (rules : Rules) (Is : List ℕ → Written → Type 0) → AreRead rules Is → (b : Bool) (line : List ℕ) (lines : List (List ℕ)) (at : ℕ) (before : Option Written) (q : Written) → MatchBool b (AreQueries Is before lines (Some q)) ((p : Written) × Is line p × AreQueries Is (Some (joined before p)) lines (Some q))
    → ((n : ℕ) (o : Option Written) → AreQueries Is o lines (Some q) → read_lines rules n (steps_in o) lines ≡ Ok (steps_of q))
    → cond b (read_lines rules (at + 1 + length line) (steps_in before) lines) (run rules at begin line >>= λ s. read_lines rules (at + 1 + length line) (Some (joined_steps (steps_in before) s)) lines) ≡ Ok (steps_of q)
one_read rules Is reads true line lines at before q are later = later (at + 1 + length line) before are
one_read rules Is reads false line lines at before q are later =
    ap (λ (r : Result (List Step) Fault). r >>= λ s. read_lines rules (at + 1 + length line) (Some (joined_steps (steps_in before) s)) lines) (reads.each at line are.0 are.1)
    ∙ ap (λ (s : List Step). read_lines rules (at + 1 + length line) (Some s) lines) (joined_is before are.0)
    ∙ later (at + 1 + length line) (Some (joined before are.0)) are.2

-- where each line's query is read, the queries of several lines are
pub lines_read : (rules : Rules) (Is : List ℕ → Written → Type 0) → AreRead rules Is → (lines : List (List ℕ)) (at : ℕ) (before : Option Written) (q : Written) → AreQueries Is before lines (Some q) → read_lines rules at (steps_in before) lines ≡ Ok (steps_of q)
unfolding read_lines
lines_read rules Is reads [] at before q are = ap (λ (o : Option Written). ended_lines at (steps_in o)) are
lines_read rules Is reads (line ∷ lines) at before q are = one_read rules Is reads (is_passed line) line lines at before q are (λ n o h. lines_read rules Is reads lines n o q h)

-- what is read of several lines is queries of a kind
pub record TextRead (Is : List ℕ → Written → Type 0) (before : Option Written) (lines : List (List ℕ)) (out : List Step) : Type 0 where
  pub query : Written
  pub are : AreQueries Is before lines (Some query)
  pub steps : steps_of query ≡ out

-- behind the last line
text_end : (Is : List ℕ → Written → Type 0) (at : ℕ) (before : Option Written) (out : List Step) → ended_lines at (steps_in before) ≡ Ok out → TextRead Is before [] out
text_end Is at None out e = absurd cc
text_end Is at (Some q) out e = record { query = q; are = refl; steps = ok_is (steps_of q) out e }

-- a line that was read is a query, and so are the lines behind it
line_found : (rules : Rules) (Is : List ℕ → Written → Type 0) → AreFound rules Is → (at n : ℕ) (line : List ℕ) (lines : List (List ℕ)) (before : Option Written) (out : List Step) (r : Result (List Step) Fault) → run rules at begin line ≡ r
    → (r >>= λ s. read_lines rules n (Some (joined_steps (steps_in before) s)) lines) ≡ Ok out
    → ((o : Option Written) → read_lines rules n (steps_in o) lines ≡ Ok out → TextRead Is o lines out)
    → (query : Written) × ((q : Written) × Is line q × AreQueries Is (Some (joined before q)) lines (Some query)) × (steps_of query ≡ out)
line_found rules Is finds at n line lines before out (Err f) r e later = absurd (no_out f out e)
line_found rules Is finds at n line lines before out (Ok s) r e later =
    let h = finds.each at line s r in
    let same : Some (joined_steps (steps_in before) s) ≡ Some (steps_of (joined before h.query)) = ap (λ (t : List Step). Some t) (ap (joined_steps (steps_in before)) (sym h.steps) ∙ joined_is before h.query) in
    let t = later (Some (joined before h.query)) (sym (ap (λ (o : Option (List Step)). read_lines rules n o lines) same) ∙ e) in
    (t.query, (h.query, h.is, t.are), t.steps)

-- the first of several lines was passed over, or is a query
one_found : (rules : Rules) (Is : List ℕ → Written → Type 0) → AreFound rules Is → (b : Bool) (line : List ℕ) (lines : List (List ℕ)) (at : ℕ) (before : Option Written) (out : List Step)
    → cond b (read_lines rules (at + 1 + length line) (steps_in before) lines) (run rules at begin line >>= λ s. read_lines rules (at + 1 + length line) (Some (joined_steps (steps_in before) s)) lines) ≡ Ok out
    → ((n : ℕ) (o : Option Written) → read_lines rules n (steps_in o) lines ≡ Ok out → TextRead Is o lines out)
    → (query : Written) × MatchBool b (AreQueries Is before lines (Some query)) ((p : Written) × Is line p × AreQueries Is (Some (joined before p)) lines (Some query)) × (steps_of query ≡ out)
one_found rules Is finds true line lines at before out e later = let h = later (at + 1 + length line) before e in (h.query, h.are, h.steps)
one_found rules Is finds false line lines at before out e later = line_found rules Is finds at (at + 1 + length line) line lines before out (run rules at begin line) refl e (λ o g. later (at + 1 + length line) o g)

-- where what is read of each line is a query, what is read of several lines is
pub lines_found : (rules : Rules) (Is : List ℕ → Written → Type 0) → AreFound rules Is → (lines : List (List ℕ)) (at : ℕ) (before : Option Written) (out : List Step) → read_lines rules at (steps_in before) lines ≡ Ok out → TextRead Is before lines out
unfolding read_lines
lines_found rules Is finds [] at before out e = text_end Is at before out e
lines_found rules Is finds (line ∷ lines) at before out e =
    let h = one_found rules Is finds (is_passed line) line lines at before out e (λ n o g. lines_found rules Is finds lines n o out g) in
    record { query = h.0; are = h.1; steps = h.2 }

-- by the grammar alone the queries of several lines are read
pub queries_read : (lines : List (List ℕ)) (at : ℕ) (before : Option Written) (q : Written) → AreQueries IsQuery before lines (Some q) → read_lines free at (steps_in before) lines ≡ Ok (steps_of q)
queries_read lines at before q are = lines_read free IsQuery free_read lines at before q are

-- by the grammar alone what is read of several lines is queries
pub queries_found : (lines : List (List ℕ)) (at : ℕ) (before : Option Written) (out : List Step) → read_lines free at (steps_in before) lines ≡ Ok out → TextRead IsQuery before lines out
queries_found lines at before out e = lines_found free IsQuery free_found lines at before out e
