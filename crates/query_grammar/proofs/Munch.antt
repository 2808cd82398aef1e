-- Reading a token at once: as many bytes as begin one, and then the token.
use Rattle.std.proofs.Common.{◌≡◌, ℕ, suc, ◌+◌, ◌-◌, true, List, [], ◌∷◌, ◌++◌, length, Result, Option, Some, None, refl, sym, ap, ◌∙◌, append_assoc, arith}
use Rattle.std.proofs.lemmas.Bool.{cond-true, cond-false}
use Rattle.std.proofs.lemmas.List.{append-nil}
use Rattle.query_grammar.specs.declared.mode.Mode.{Mode}
use Rattle.query_grammar.specs.Grammar.{Token}
use Rattle.query_grammar.specs.Moves.{Kept, State, taken, last}
use Rattle.query_grammar.specs.Scanner.{Fault, ◌>>=◌, Rules, Spot, begins, whole, token_taken, token_done, fresh, last_done, run, unless_fault, place_after}
use Rattle.query_grammar.specs.Munches.{Munches, ends, stops, more}
use Rattle.query_grammar.proofs.Marks.{NoMore}
use Rattle.query_grammar.proofs.Scan.{at_spot, bind_assoc, whole_first}

byte_run : (rules : Rules) (m : Mode) (k : Kept) (w : List ℕ) (c : ℕ) (text : List ℕ) → begins m k (w ++ c ∷ []) ≡ true → (at place : ℕ) → run rules at (at_spot m k place w) (c ∷ text) ≡ run rules (at + 1) (at_spot m k place (w ++ c ∷ [])) text
unfolding run
byte_run rules m k [] c text b at place = ap (λ (r : Result Spot Fault). r >>= λ s. run rules (at + 1) s text) (cond-true (begins m k (c ∷ [])) _ _ b)
byte_run rules m k (d ∷ w) c text b at place = ap (λ (r : Result Spot Fault). r >>= λ s. run rules (at + 1) s text) (cond-true (begins m k ((d ∷ w) ++ c ∷ [])) _ _ b)

-- the bytes of a token are read
pub munch_run : (rules : Rules) (m : Mode) (k : Kept) (w prefix rest : List ℕ) → Munches m k w prefix rest → (at place : ℕ) → run rules at (at_spot m k place w) (prefix ++ rest) ≡ run rules (at + length prefix) (at_spot m k place (w ++ prefix)) rest
unfolding run
munch_run rules m k _ _ _ (ends w) at place = let same : at + 0 ≡ at = omega arith in rw (append-nil w, same) refl
munch_run rules m k _ _ _ (stops w c rest b) at place = let same : at + 0 ≡ at = omega arith in rw (append-nil w, same) refl
munch_run rules m k _ _ _ (more {w} {prefix} {rest} c b h) at place =
    let there : (at + 1) + length prefix ≡ at + suc (length prefix) = omega arith in
    let regrouped : (w ++ c ∷ []) ++ prefix ≡ w ++ c ∷ prefix = append_assoc w (c ∷ []) prefix in
    byte_run rules m k w c (prefix ++ rest) b at place
    ∙ munch_run rules m k (w ++ c ∷ []) prefix rest h (at + 1) place
    ∙ ap (λ (n : ℕ). run rules n (at_spot m k place ((w ++ c ∷ []) ++ prefix)) rest) there
    ∙ ap (λ (v : List ℕ). run rules (at + suc (length prefix)) (at_spot m k place v) rest) regrouped

bind_unless : {A : Type 0} (o : Option Fault) (x : Spot) (f g : Spot → Result A Fault) → f x ≡ g x → (unless_fault o x >>= f) ≡ (unless_fault o x >>= g)
bind_unless None x f g same = same
bind_unless (Some d) x f g same = refl

bind_taken : {A : Type 0} (rules : Rules) (at : ℕ) (s : Spot) (t : Token) (o : Option State) (f g : Spot → Result A Fault) → ((x : Spot) → f (record x { word = [] }) ≡ g (record x { word = [] })) → (token_taken rules at s t o >>= f) ≡ (token_taken rules at s t o >>= g)
bind_taken rules at s t None f g same = refl
bind_taken rules at s t (Some x) f g same =
    let y : Spot = at_spot x.0 x.1 (place_after s.mode (at - length s.word) s.place) [] in
    bind_unless (rules.fault (at - length s.word) s.place s.mode s.kept t) y f g (same y)

bind_done : {A : Type 0} (rules : Rules) (at : ℕ) (s : Spot) (o : Option Token) (f g : Spot → Result A Fault) → ((x : Spot) → f (record x { word = [] }) ≡ g (record x { word = [] })) → (token_done rules at s o >>= f) ≡ (token_done rules at s o >>= g)
bind_done rules at s None f g same = refl
bind_done rules at s (Some t) f g same = bind_taken rules at s t (taken s.mode s.kept t) f g same

-- a token that has ended is taken, and reading goes on behind it
pub token_run : (rules : Rules) (m : Mode) (k : Kept) (d : ℕ) (w rest : List ℕ) (at place : ℕ) → NoMore m k (d ∷ w) rest
    → run rules at (at_spot m k place (d ∷ w)) rest ≡ (token_done rules at (at_spot m k place (d ∷ w)) (whole m (d ∷ w) rest) >>= λ x. run rules at (record x { word = [] }) rest)
unfolding run
token_run rules m k d w [] at place none =
    bind_done rules at (at_spot m k place (d ∷ w)) (whole m (d ∷ w) []) (λ x. last_done rules at x (last x.mode x.kept)) (λ x. run rules at (record x { word = [] }) []) (λ x. refl)
token_run rules m k d w (c ∷ rest) at place none =
    let s : Spot = at_spot m k place (d ∷ w) in
    ap (λ (r : Result Spot Fault). r >>= λ x. run rules (at + 1) x rest) (cond-false (begins m k ((d ∷ w) ++ c ∷ [])) _ _ none)
    ∙ sym (bind_assoc (token_done rules at (at_spot m k place (d ∷ w)) (whole m (d ∷ w) (c ∷ []))) (λ x. fresh rules at x c) (λ x. run rules (at + 1) x rest))
    ∙ ap (λ (o : Option Token). token_done rules at (at_spot m k place (d ∷ w)) o >>= λ x. (fresh rules at x c >>= λ y. run rules (at + 1) y rest)) (whole_first m (d ∷ w) c rest)
    ∙ bind_done rules at (at_spot m k place (d ∷ w)) (whole m (d ∷ w) (c ∷ rest)) (λ x. fresh rules at x c >>= λ y. run rules (at + 1) y rest) (λ x. run rules at (record x { word = [] }) (c ∷ rest)) (λ x. refl)
