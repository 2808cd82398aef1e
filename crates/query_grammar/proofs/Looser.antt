-- Reading with rules gives what reading by the grammar alone gives, but for the faults of the rules.
use Rattle.std.proofs.Common.{◌≡◌, ℕ, ◌+◌, ◌-◌, Bool, true, false, cond, List, [], ◌∷◌, ◌++◌, length, Result, Ok, Err, Option, Some, None, refl, ap}
use Rattle.query_grammar.specs.Step.{Step}
use Rattle.query_grammar.specs.Bytes.{is_blank}
use Rattle.query_grammar.specs.Grammar.{Token, CloseMark}
use Rattle.query_grammar.specs.Moves.{State, taken, last}
use Rattle.query_grammar.specs.Scanner.{Fault, Syntax, ◌>>=◌, Rules, AreRules, free, Spot, begins, whole, or_syntax, unless_fault, refused, token_taken, token_done, fresh, step_in, step, last_done, finish_in, run, begin}
use Rattle.query_grammar.specs.Lines.{is_passed, joined_steps, read_lines}

pub record IsLooser (A : Type 0) (strict loose : Result A Fault) : Type 0 where
  pub same_ok : (x : A) → strict ≡ Ok x → loose ≡ Ok x
  pub same_stop : (at : ℕ) → strict ≡ Err (Syntax at) → loose ≡ Err (Syntax at)

looser_same : {A : Type 0} (r : Result A Fault) → IsLooser A r r
looser_same r = record { same_ok = λ x e. e; same_stop = λ at e. e }

looser_cond : {A : Type 0} (b : Bool) (x y x2 y2 : Result A Fault) → IsLooser A x x2 → IsLooser A y y2 → IsLooser A (cond b x y) (cond b x2 y2)
looser_cond true x y x2 y2 p q = p
looser_cond false x y x2 y2 p q = q

-- a fault of the rules
looser_fault : {A : Type 0} (f : Fault) (r : Result A Fault) → ((at : ℕ) → Some f ≡ Some (Syntax at) → ⊥) → IsLooser A (Err f) r
looser_fault f r never = record {
  same_ok = λ x e. absurd cc;
  same_stop = λ at e. absurd (never at (let same : f ≡ Syntax at = cc in ap (λ (g : Fault). Some g) same));
}

looser_bind : {A B : Type 0} (r r2 : Result A Fault) (f f2 : A → Result B Fault) → IsLooser A r r2 → ((x : A) → IsLooser B (f x) (f2 x)) → IsLooser B (r >>= f) (r2 >>= f2)
looser_bind (Ok x) r2 f f2 p q =
    let e : r2 ≡ Ok x = p.same_ok x refl in
    rw e (q x)
looser_bind (Err g) r2 f f2 p q = record {
  same_ok = λ x e. absurd cc;
  same_stop = λ at e.
      let same : g ≡ Syntax at = cc in
      let h : r2 ≡ Err (Syntax at) = p.same_stop at (ap (λ (d : Fault). Err d) same) in
      rw h refl;
}

looser_unless : {A : Type 0} (o : Option Fault) (x : A) → ((at : ℕ) → o ≡ Some (Syntax at) → ⊥) → IsLooser A (unless_fault o x) (Ok x)
looser_unless None x never = looser_same (Ok x)
looser_unless (Some f) x never = looser_fault f (Ok x) never

looser_or : {A : Type 0} (at : ℕ) (o : Option Fault) → ((n : ℕ) → o ≡ Some (Syntax n) → ⊥) → IsLooser A (Err (or_syntax at o)) (Err (Syntax at))
looser_or at None never = looser_same (Err (Syntax at))
looser_or at (Some f) never = looser_fault f (Err (Syntax at)) never

looser_refused : {A : Type 0} (rules : Rules) (at : ℕ) (s : Spot) → AreRules rules → IsLooser A (refused rules at s) (refused free at s)
looser_refused rules at s are = looser_or at (rules.cut at s.place s.mode s.kept s.word) (are.cut at s.place s.mode s.kept s.word)

looser_taken : (rules : Rules) (at : ℕ) (s : Spot) (t : Token) (o : Option State) → AreRules rules → IsLooser Spot (token_taken rules at s t o) (token_taken free at s t o)
looser_taken rules at s t None are = looser_refused rules at s are
looser_taken rules at s t (Some x) are = looser_unless (rules.fault (at - length s.word) s.place s.mode s.kept t) _ (are.fault (at - length s.word) s.place s.mode s.kept t)

looser_done : (rules : Rules) (at : ℕ) (s : Spot) (o : Option Token) → AreRules rules → IsLooser Spot (token_done rules at s o) (token_done free at s o)
looser_done rules at s None are = looser_refused rules at s are
looser_done rules at s (Some t) are = looser_taken rules at s t (taken s.mode s.kept t) are

looser_fresh : (rules : Rules) (at c : ℕ) (s : Spot) → AreRules rules → IsLooser Spot (fresh rules at s c) (fresh free at s c)
looser_fresh rules at c s are =
    looser_cond (begins s.mode s.kept (c ∷ [])) _ _ _ _ (looser_same _) (looser_cond (is_blank c) _ _ _ _ (looser_same _) (looser_refused rules at s are))

looser_step : (w : List ℕ) (rules : Rules) (at c : ℕ) (s : Spot) → AreRules rules → IsLooser Spot (step_in rules at s w c) (step_in free at s w c)
looser_step [] rules at c s are = looser_fresh rules at c s are
looser_step (d ∷ w) rules at c s are =
    looser_cond (begins s.mode s.kept ((d ∷ w) ++ c ∷ [])) _ _ _ _ (looser_same _)
    (looser_bind (token_done rules at s (whole s.mode (d ∷ w) (c ∷ []))) (token_done free at s (whole s.mode (d ∷ w) (c ∷ []))) (λ x. fresh rules at x c) (λ x. fresh free at x c) (looser_done rules at s (whole s.mode (d ∷ w) (c ∷ [])) are) (λ x. looser_fresh rules at c x are))

looser_last : (rules : Rules) (at : ℕ) (s : Spot) (o : Option (List Step)) → AreRules rules → IsLooser (List Step) (last_done rules at s o) (last_done free at s o)
looser_last rules at s None are = looser_refused rules at s are
looser_last rules at s (Some out) are = looser_unless (rules.fault at s.place s.mode s.kept CloseMark) out (are.fault at s.place s.mode s.kept CloseMark)

looser_finish : (w : List ℕ) (rules : Rules) (at : ℕ) (s : Spot) → AreRules rules → IsLooser (List Step) (finish_in rules at s w) (finish_in free at s w)
looser_finish [] rules at s are = looser_last rules at s (last s.mode s.kept) are
looser_finish (d ∷ w) rules at s are =
    looser_bind (token_done rules at s (whole s.mode (d ∷ w) [])) (token_done free at s (whole s.mode (d ∷ w) [])) (λ x. last_done rules at x (last x.mode x.kept)) (λ x. last_done free at x (last x.mode x.kept)) (looser_done rules at s (whole s.mode (d ∷ w) []) are) (λ x. looser_last rules at x (last x.mode x.kept) are)

pub run_looser : (rules : Rules) (text : List ℕ) (at : ℕ) (s : Spot) → AreRules rules → IsLooser (List Step) (run rules at s text) (run free at s text)
unfolding run
run_looser rules [] at s are = looser_finish s.word rules at s are
run_looser rules (c ∷ text) at s are =
    looser_bind (step rules at s c) (step free at s c) (λ x. run rules (at + 1) x text) (λ x. run free (at + 1) x text) (looser_step s.word rules at c s are) (λ x. run_looser rules text (at + 1) x are)

-- the same for the lines of a text
pub lines_looser : (rules : Rules) (lines : List (List ℕ)) (at : ℕ) (before : Option (List Step)) → AreRules rules → IsLooser (List Step) (read_lines rules at before lines) (read_lines free at before lines)
unfolding read_lines
lines_looser rules [] at before are = looser_same _
lines_looser rules (line ∷ lines) at before are =
    looser_cond (is_passed line) _ _ _ _ (lines_looser rules lines (at + 1 + length line) before are)
    (looser_bind (run rules at begin line) (run free at begin line) (λ s. read_lines rules (at + 1 + length line) (Some (joined_steps before s)) lines) (λ s. read_lines free (at + 1 + length line) (Some (joined_steps before s)) lines) (run_looser rules line at begin are) (λ s. lines_looser rules lines (at + 1 + length line) (Some (joined_steps before s)) are))
