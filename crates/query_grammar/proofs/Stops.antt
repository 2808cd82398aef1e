-- The first byte at which no reading goes on.
use Rattle.std.proofs.Common.{◌≡◌, ℕ, ◌+◌, List, [], ◌∷◌, ◌++◌, length, Result, Ok, Err, Option, Some, None, refl, sym, ap, subst, ◌∙◌, true, arith}
use Rattle.std.proofs.lemmas.Bool.{cond_both}
use Rattle.query_grammar.specs.Step.{Step}
use Rattle.query_grammar.specs.Bytes.{is_blank}
use Rattle.query_grammar.specs.Grammar.{Token, IsQuery, IsDead, StopsAt}
use Rattle.query_grammar.specs.Steps.{steps_of}
use Rattle.query_grammar.specs.Moves.{State, taken, last}
use Rattle.query_grammar.specs.Scanner.{Fault, Syntax, ◌>>=◌, free, Spot, begins, whole, token_taken, token_done, fresh, step_in, step, last_done, finish_in, run, begin}
use Rattle.query_grammar.proofs.Lexing.{is_plain}
use Rattle.query_grammar.proofs.Scan.{no_out}
use Rattle.query_grammar.proofs.Ends.{IsBegun, alive}
use Rattle.query_grammar.proofs.Lines.{line_read, query_read}

abbrev wrong : {A : Type 0} → Fault → Result A Fault
wrong f = Err f

err_is : {A : Type 0} (f g : Fault) → wrong {A = A} f ≡ wrong g → f ≡ g
err_is f g e = cc

-- a result is a spot that goes on, or a fault of syntax at this place
pub record IsGood (at : ℕ) (r : Result Spot Fault) : Type 0 where
  pub here : (f : Fault) → r ≡ Err f → f ≡ Syntax at
  pub begun : (s : Spot) → r ≡ Ok s → IsBegun s.mode s.kept s.word

good_err : (at : ℕ) → IsGood at (Err (Syntax at))
good_err at = record { here = λ f e. let g = err_is {A = Spot} (Syntax at) f e in sym g; begun = λ s e. absurd (no_out (Syntax at) s e) }

good_ok : (at : ℕ) (s : Spot) → IsBegun s.mode s.kept s.word → IsGood at (Ok s)
good_ok at s b = record { here = λ f e. absurd cc; begun = λ x e. let same : s ≡ x = cc in subst (λ (y : Spot). IsBegun y.mode y.kept y.word) same b }

good_bind : (at : ℕ) (r : Result Spot Fault) (f : Spot → Result Spot Fault) → IsGood at r → ((s : Spot) → IsGood at (f s)) → IsGood at (r >>= f)
good_bind at (Ok s) f g h = h s
good_bind at (Err e) f g h = subst (λ (d : Fault). IsGood at (Err d)) (sym (g.here e refl)) (good_err at)

good_fresh : (at c : ℕ) (s : Spot) → IsGood at (fresh free at s c)
good_fresh at c s =
    cond_both (begins s.mode s.kept (c ∷ [])) _ _ (IsGood at) (λ b. good_ok at (record s { word = c ∷ [] }) b) (λ b.
    cond_both (is_blank c) _ _ (IsGood at) (λ w. good_ok at (record s { word = [] }) tt) (λ w. good_err at))

good_taken : (at : ℕ) (s : Spot) (t : Token) (o : Option State) → IsGood at (token_taken free at s t o)
good_taken at s t None = good_err at
good_taken at s t (Some x) = good_ok at _ tt

good_done : (at : ℕ) (s : Spot) (o : Option Token) → IsGood at (token_done free at s o)
good_done at s None = good_err at
good_done at s (Some t) = good_taken at s t (taken s.mode s.kept t)

good_step : (w : List ℕ) (at c : ℕ) (s : Spot) → IsGood at (step_in free at s w c)
good_step [] at c s = good_fresh at c s
good_step (d ∷ w) at c s =
    cond_both (begins s.mode s.kept ((d ∷ w) ++ c ∷ [])) _ _ (IsGood at) (λ b. good_ok at (record s { word = (d ∷ w) ++ c ∷ [] }) b) (λ b.
    good_bind at (token_done free at s (whole s.mode (d ∷ w) (c ∷ []))) (λ x. fresh free at x c) (good_done at s (whole s.mode (d ∷ w) (c ∷ []))) (λ x. good_fresh at c x))

-- the end
end_last : (at : ℕ) (s : Spot) (o : Option (List Step)) (f : Fault) → last_done free at s o ≡ Err f → f ≡ Syntax at
end_last at s None f e = let g = err_is {A = List Step} (Syntax at) f e in sym g
end_last at s (Some out) f e = absurd cc

end_bind : (at : ℕ) (r : Result Spot Fault) (f : Fault) → IsGood at r → (r >>= λ x. last_done free at x (last x.mode x.kept)) ≡ Err f → f ≡ Syntax at
end_bind at (Ok s) f g e = end_last at s (last s.mode s.kept) f e
end_bind at (Err d) f g e = let same = err_is {A = List Step} d f e in sym same ∙ g.here d refl

end_here : (w : List ℕ) (at : ℕ) (s : Spot) (f : Fault) → finish_in free at s w ≡ Err f → f ≡ Syntax at
end_here [] at s f e = end_last at s (last s.mode s.kept) f e
end_here (d ∷ w) at s f e = end_bind at (token_done free at s (whole s.mode (d ∷ w) [])) f (good_done at s (whole s.mode (d ∷ w) [])) e

-- ---- where reading stops

abbrev pub NoWay : ℕ → Spot → List ℕ → List ℕ → Type 0
NoWay at s prefix [] = (out : List Step) → run free at s prefix ≡ Ok out → ⊥
NoWay at s prefix (c ∷ back) = (more : List ℕ) (out : List Step) → run free at s (prefix ++ c ∷ more) ≡ Ok out → ⊥

pub record Stops (a : ℕ) (s : Spot) (text : List ℕ) (at : ℕ) : Type 0 where
  pub prefix : List ℕ
  pub back : List ℕ
  pub parts : text ≡ prefix ++ back
  pub place : at ≡ a + length prefix
  pub more : List ℕ
  pub out : List Step
  pub ends : run free a s (prefix ++ more) ≡ Ok out
  pub plain : is_plain more ≡ true
  pub no_way : NoWay a s prefix back

stops_now : (c a : ℕ) (s : Spot) (text : List ℕ) (at : ℕ) → IsBegun s.mode s.kept s.word → step free a s c ≡ Err (Syntax at) → Stops a s (c ∷ text) at
unfolding run
stops_now c a s text at b e =
    let here : Syntax at ≡ Syntax a = (good_step s.word a c s).here (Syntax at) e in
    let life = alive s.mode s.kept s.word b in
    record {
      prefix = [];
      back = c ∷ text;
      parts = refl;
      place = let same : at ≡ a = cc in omega arith;
      more = life.more;
      out = life.out;
      ends = life.ends.reads a s.place;
      plain = life.plain;
      no_way = λ more out ok. no_out (Syntax at) out (sym (ap (λ (r : Result Spot Fault). r >>= λ x. run free (a + 1) x more) e) ∙ ok);
    }

no_way_back : (c a : ℕ) (s x : Spot) (prefix back : List ℕ) → ((t : List ℕ) → run free a s (c ∷ t) ≡ run free (a + 1) x t) → NoWay (a + 1) x prefix back → NoWay a s (c ∷ prefix) back
no_way_back c a s x prefix [] one h = λ out ok. h out (sym (one prefix) ∙ ok)
no_way_back c a s x prefix (d ∷ back) one h = λ more out ok. h more out (sym (one (prefix ++ d ∷ more)) ∙ ok)

stops_later : (c a : ℕ) (s x : Spot) (text : List ℕ) (at : ℕ) → step free a s c ≡ Ok x → Stops (a + 1) x text at → Stops a s (c ∷ text) at
unfolding run
stops_later c a s x text at e h =
    let one : (t : List ℕ) → run free a s (c ∷ t) ≡ run free (a + 1) x t = λ t. ap (λ (r : Result Spot Fault). r >>= λ y. run free (a + 1) y t) e in
    record {
      prefix = c ∷ h.prefix;
      back = h.back;
      parts = ap (λ (t : List ℕ). c ∷ t) h.parts;
      place = omega (arith, h.place);
      more = h.more;
      out = h.out;
      ends = one (h.prefix ++ h.more) ∙ h.ends;
      plain = h.plain;
      no_way = no_way_back c a s x h.prefix h.back one h.no_way;
    }

stops_end : (a : ℕ) (s : Spot) (at : ℕ) → IsBegun s.mode s.kept s.word → run free a s [] ≡ Err (Syntax at) → Stops a s [] at
unfolding run
stops_end a s at b e =
    let here : Syntax at ≡ Syntax a = end_here s.word a s (Syntax at) e in
    let life = alive s.mode s.kept s.word b in
    record {
      prefix = [];
      back = [];
      parts = refl;
      place = let same : at ≡ a = cc in omega arith;
      more = life.more;
      out = life.out;
      ends = life.ends.reads a s.place;
      plain = life.plain;
      no_way = λ out ok. no_out (Syntax at) out (sym e ∙ ok);
    }

stops_step : (c a : ℕ) (s : Spot) (text : List ℕ) (at : ℕ) (r : Result Spot Fault) → IsBegun s.mode s.kept s.word → step free a s c ≡ r → (r >>= λ x. run free (a + 1) x text) ≡ Err (Syntax at)
    → ((x : Spot) → IsBegun x.mode x.kept x.word → run free (a + 1) x text ≡ Err (Syntax at) → Stops (a + 1) x text at) → Stops a s (c ∷ text) at
stops_step c a s text at (Ok x) b e f later = stops_later c a s x text at e (later x ((good_step s.word a c s).begun x e) f)
stops_step c a s text at (Err g) b e f later =
    let same : g ≡ Syntax at = err_is {A = List Step} g (Syntax at) f in
    stops_now c a s text at b (e ∙ ap (λ (h : Fault). Err h) same)

pub stops : (text : List ℕ) (a : ℕ) (s : Spot) (at : ℕ) → IsBegun s.mode s.kept s.word → run free a s text ≡ Err (Syntax at) → Stops a s text at
unfolding run
stops [] a s at b e = stops_end a s at b e
stops (c ∷ text) a s at b e = stops_step c a s text at (step free a s c) b refl e (λ x g f. stops text (a + 1) x at g f)

-- ---- in the words of the grammar

dead_back : (prefix back : List ℕ) → NoWay 0 begin prefix back → IsDead IsQuery prefix back
dead_back prefix [] h = λ q is. h (steps_of q) (query_read 0 prefix q is)
dead_back prefix (c ∷ back) h = λ more q is. h more (steps_of q) (query_read 0 (prefix ++ c ∷ more) q is)

-- where reading stops no query goes on
pub stops_at : (line : List ℕ) (at : ℕ) → run free 0 begin line ≡ Err (Syntax at) → StopsAt IsQuery line at
stops_at line at e =
    let s = stops line 0 begin at tt e in
    let r = line_read 0 (s.prefix ++ s.more) s.out s.ends in
    record {
      prefix = s.prefix;
      back = s.back;
      parts = s.parts;
      place = omega (arith, s.place);
      alive = record { more = s.more; query = r.query; whole = r.whole };
      dead = dead_back s.prefix s.back s.no_way;
    }
