-- Reading under rules: what lies in a line and passes is read, and what is read lies in the line and passes.
use Rattle.std.proofs.Common.{◌≡◌, ℕ, ◌+◌, ◌-◌, true, false, List, [], ◌∷◌, ◌++◌, length, Result, Ok, Err, Option, Some, None, refl, sym, ap, subst, ◌∙◌, append_assoc}
use Rattle.std.specs.Option.{is_none}
use Rattle.std.proofs.lemmas.Bool.{cond_both, cond-true, cond-false}
use Rattle.std.proofs.lemmas.List.{append-nil}
use Rattle.query_grammar.specs.declared.mode.Mode.{Mode}
use Rattle.query_grammar.specs.declared.mode.Mode.TheVariants.{BeforeUnary, AfterCriterion, BeforeOperand, AfterUnary}
use Rattle.query_grammar.specs.Step.{Step}
use Rattle.query_grammar.specs.Bytes.{is_blank}
use Rattle.query_grammar.specs.Grammar.{Token, CriterionToken, OperatorToken, OperandToken, NotWord, AndWord, OrWord, OpenMark, CloseMark, token_text, is_token, is_ended, IsLaid, nothing, blank, token}
use Rattle.query_grammar.specs.Moves.{Kept, State, taken, last}
use Rattle.query_grammar.specs.Scanner.{Fault, ◌>>=◌, Rules, Spot, begins, whole, unless_fault, place_after, token_taken, token_done, fresh, step_in, last_done, finish_in, run}
use Rattle.query_grammar.proofs.Tokens.{Judge, passes, Judges, taken_all, and_then, and_then_some, if_some, none_is}
use Rattle.query_grammar.proofs.Marks.{fits, grows, over, no_blank, Known, NoMore, is_known}

abbrev fine : {A : Type 0} → A → Result A Fault
fine x = Ok x

pub ok_is : {A : Type 0} (x y : A) → fine x ≡ fine y → x ≡ y
ok_is x y e = cc

pub no_out : {A : Type 0} (f : Fault) (out : A) → Err f ≡ Ok out → ⊥
no_out f out e = absurd cc

abbrev pub at_spot : Mode → Kept → ℕ → List ℕ → Spot
at_spot m k place w = record { mode = m; kept = k; place = place; word = w }

-- what reading gives, at any place
pub record Reads (rules : Rules) (m : Mode) (k : Kept) (w text : List ℕ) (out : List Step) : Type 0 where
  pub reads : (at place : ℕ) → run rules at (at_spot m k place w) text ≡ Ok out

-- ---- a token's bytes are read as the token

-- only the byte behind a token tells whether it has ended
pub whole_first : (m : Mode) (w : List ℕ) (c : ℕ) (rest : List ℕ) → whole m w (c ∷ []) ≡ whole m w (c ∷ rest)
whole_first BeforeUnary w c rest = refl
whole_first AfterCriterion w c rest = refl
whole_first BeforeOperand w c rest = refl
whole_first AfterUnary w c rest = refl

-- the token is done
done_is : (rules : Rules) (m : Mode) (k : Kept) (t : Token) (x : State) (at place : ℕ) (w : List ℕ) → ((from place : ℕ) → rules.fault from place m k t ≡ None) → taken m k t ≡ Some x → token_done rules at (at_spot m k place w) (Some t) ≡ Ok (at_spot x.0 x.1 (place_after m (at - length w) place) [])
done_is rules m k t x at place w none e =
    ap (λ (o : Option State). token_taken rules at (at_spot m k place w) t o) e
    ∙ ap (λ (o : Option Fault). unless_fault o (at_spot x.0 x.1 (place_after m (at - length w) place) [])) (none (at - length w) place)

token_over : (rules : Rules) (m : Mode) (k : Kept) (t : Token) (x : State) (d : ℕ) (w rest : List ℕ) (out : List Step) → ((from place : ℕ) → rules.fault from place m k t ≡ None) → token_text t ≡ d ∷ w → is_token t ≡ true → is_ended t rest ≡ true → taken m k t ≡ Some x → Reads rules x.0 x.1 [] rest out → Reads rules m k (d ∷ w) rest out
unfolding run
token_over rules m k t x d w [] out none text good ended e h =
    let whole_is : whole m (d ∷ w) [] ≡ Some t = subst (λ (v : List ℕ). whole m v [] ≡ Some t) text (fits m t k x [] good ended e) in
    record {
      reads = λ at place.
          ap (λ (o : Option Token). token_done rules at (at_spot m k place (d ∷ w)) o >>= λ s. last_done rules at s (last s.mode s.kept)) whole_is
          ∙ ap (λ (r : Result Spot Fault). r >>= λ s. last_done rules at s (last s.mode s.kept)) (done_is rules m k t x at place (d ∷ w) none e)
          ∙ h.reads at (place_after m (at - length (d ∷ w)) place);
    }
token_over rules m k t x d w (c ∷ rest) out none text good ended e h =
    let stops : begins m k ((d ∷ w) ++ c ∷ []) ≡ false = subst (λ (v : List ℕ). begins m k (v ++ c ∷ []) ≡ false) text (over m t k x c rest good ended e) in
    let whole_is : whole m (d ∷ w) (c ∷ []) ≡ Some t = whole_first m (d ∷ w) c rest ∙ subst (λ (v : List ℕ). whole m v (c ∷ rest) ≡ Some t) text (fits m t k x (c ∷ rest) good ended e) in
    record {
      reads = λ at place.
          ap (λ (r : Result Spot Fault). r >>= λ s. run rules (at + 1) s rest)
          (cond-false (begins m k ((d ∷ w) ++ c ∷ [])) _ _ stops
          ∙ ap (λ (o : Option Token). token_done rules at (at_spot m k place (d ∷ w)) o >>= λ s. fresh rules at s c) whole_is
          ∙ ap (λ (r : Result Spot Fault). r >>= λ s. fresh rules at s c) (done_is rules m k t x at place (d ∷ w) none e))
          ∙ h.reads at (place_after m (at - length (d ∷ w)) place);
    }

-- one byte more of a token
byte_read : (rules : Rules) (m : Mode) (k : Kept) (w : List ℕ) (c : ℕ) (text : List ℕ) (out : List Step) → begins m k (w ++ c ∷ []) ≡ true → Reads rules m k (w ++ c ∷ []) text out → Reads rules m k w (c ∷ text) out
unfolding run
byte_read rules m k [] c text out b h = record {
  reads = λ at place.
      ap (λ (r : Result Spot Fault). r >>= λ s. run rules (at + 1) s text) (cond-true (begins m k (c ∷ [])) _ _ b) ∙ h.reads (at + 1) place;
}
byte_read rules m k (d ∷ w) c text out b h = record {
  reads = λ at place.
      ap (λ (r : Result Spot Fault). r >>= λ s. run rules (at + 1) s text) (cond-true (begins m k ((d ∷ w) ++ c ∷ [])) _ _ b) ∙ h.reads (at + 1) place;
}

-- a token has a byte
some_text : (t : Token) → is_token t ≡ true → token_text t ≡ [] → ⊥
some_text (CriterionToken []) good e = absurd cc
some_text (CriterionToken (c ∷ w)) good e = absurd cc
some_text (OperatorToken []) good e = absurd cc
some_text (OperatorToken (c ∷ w)) good e = absurd cc
some_text (OperandToken []) good e = absurd cc
some_text (OperandToken (c ∷ w)) good e = absurd cc
some_text NotWord good e = absurd cc
some_text AndWord good e = absurd cc
some_text OrWord good e = absurd cc
some_text OpenMark good e = absurd cc
some_text CloseMark good e = absurd cc

pub token_read : (rules : Rules) (more : List ℕ) (m : Mode) (k : Kept) (t : Token) (x : State) (w rest : List ℕ) (out : List Step) → ((from place : ℕ) → rules.fault from place m k t ≡ None) → token_text t ≡ w ++ more → is_token t ≡ true → is_ended t rest ≡ true → taken m k t ≡ Some x → Reads rules x.0 x.1 [] rest out → Reads rules m k w (more ++ rest) out
token_read rules [] m k t x [] rest out none text good ended e h = absurd (some_text t good text)
token_read rules [] m k t x (d ∷ w) rest out none text good ended e h = token_over rules m k t x d w rest out none (text ∙ append-nil (d ∷ w)) good ended e h
token_read rules (c ∷ more) m k t x w rest out none text good ended e h =
    byte_read rules m k w c (more ++ rest) out (grows m t k x w c more good e text) (token_read rules more m k t x (w ++ c ∷ []) rest out none (text ∙ sym (append_assoc w (c ∷ []) more)) good ended e h)

pub blank_read : (rules : Rules) (m : Mode) (k : Kept) (c : ℕ) (text : List ℕ) (out : List Step) → is_blank c ≡ true → Reads rules m k [] text out → Reads rules m k [] (c ∷ text) out
unfolding run
blank_read rules m k c text out b h = record {
  reads = λ at place.
      ap (λ (r : Result Spot Fault). r >>= λ s. run rules (at + 1) s text) (cond-false (begins m k (c ∷ [])) _ _ (no_blank m k c b) ∙ cond-true (is_blank c) _ _ b) ∙ h.reads (at + 1) place;
}

pub end_read : (rules : Rules) (m : Mode) (k : Kept) (out : List Step) → ((from place : ℕ) → rules.fault from place m k CloseMark ≡ None) → last m k ≡ Some out → Reads rules m k [] [] out
unfolding run
end_read rules m k out none e = record { reads = λ at place. ap (λ (o : Option (List Step)). last_done rules at (at_spot m k place []) o) e ∙ ap (λ (o : Option Fault). unless_fault o out) (none at place) }

-- a token that passes has no fault, wherever it stands
no_fault : (rules : Rules) (j : Judge) → Judges rules j → (m : Mode) (k : Kept) (t : Token) → passes j m k t ≡ true → (from place : ℕ) → rules.fault from place m k t ≡ None
no_fault rules j h m k t e from place = none_is (rules.fault from place m k t) (h.none from place m k t ∙ e)

pub laid_read : (rules : Rules) (j : Judge) → Judges rules j → (ts : List Token) (text : List ℕ) → IsLaid ts text → (m : Mode) (k : Kept) (out : List Step) → taken_all j m k ts ≡ Some out → Reads rules m k [] text out
unfolding taken_all
laid_read rules j h _ _ nothing m k out e =
    let a = if_some (passes j m k CloseMark) (last m k) out e in
    end_read rules m k out (no_fault rules j h m k CloseMark a.0) a.1
laid_read rules j h _ _ (blank {ts} {text} c b l) m k out e = blank_read rules m k c text out b (laid_read rules j h ts text l m k out e)
laid_read rules j h _ _ (token {ts} {rest} t good ended l) m k out e =
    let a = if_some (passes j m k t) (and_then (taken m k t) (λ x. taken_all j x.0 x.1 ts)) out e in
    let x = and_then_some (taken m k t) (λ x. taken_all j x.0 x.1 ts) out a.1 in
    token_read rules (token_text t) m k t x.0 [] rest out (no_fault rules j h m k t a.0) refl good ended x.1 (laid_read rules j h ts rest l x.0.0 x.0.1 out x.2)

-- ---- what is read lies in the line

-- the tokens of a line from here on, no token being begun
pub record Whole (j : Judge) (m : Mode) (k : Kept) (text : List ℕ) (out : List Step) : Type 0 where
  pub ts : List Token
  pub laid : IsLaid ts text
  pub read : taken_all j m k ts ≡ Some out

-- the tokens of a line from here on, the first of which has begun
pub record Part (j : Judge) (m : Mode) (k : Kept) (begun text : List ℕ) (out : List Step) : Type 0 where
  pub t : Token
  pub more : List ℕ
  pub rest : List ℕ
  pub ts : List Token
  pub parts : text ≡ more ++ rest
  pub text_is : token_text t ≡ begun ++ more
  pub good : is_token t ≡ true
  pub ended : is_ended t rest ≡ true
  pub laid : IsLaid ts rest
  pub read : taken_all j m k (t ∷ ts) ≡ Some out

part_whole : (j : Judge) (m : Mode) (k : Kept) (c : ℕ) (text : List ℕ) (out : List Step) → Part j m k (c ∷ []) text out → Whole j m k (c ∷ text) out
part_whole j m k c text out p =
    let e : c ∷ text ≡ token_text p.t ++ p.rest = ap (λ (x : List ℕ). c ∷ x) p.parts ∙ sym (ap (λ (x : List ℕ). x ++ p.rest) p.text_is) in
    record {
      ts = p.t ∷ p.ts;
      laid = subst (λ (x : List ℕ). IsLaid (p.t ∷ p.ts) x) (sym e) (token p.t p.good p.ended p.laid);
      read = p.read;
    }

part_longer : (j : Judge) (m : Mode) (k : Kept) (begun : List ℕ) (c : ℕ) (text : List ℕ) (out : List Step) → Part j m k (begun ++ c ∷ []) text out → Part j m k begun (c ∷ text) out
part_longer j m k begun c text out p = record {
  t = p.t;
  more = c ∷ p.more;
  rest = p.rest;
  ts = p.ts;
  parts = ap (λ (x : List ℕ). c ∷ x) p.parts;
  text_is = p.text_is ∙ append_assoc begun (c ∷ []) p.more;
  good = p.good;
  ended = p.ended;
  laid = p.laid;
  read = p.read;
}

part_over : (j : Judge) (m : Mode) (k : Kept) (t : Token) (w text : List ℕ) (out : List Step) (x : State) → Known t w text → passes j m k t ≡ true → taken m k t ≡ Some x → Whole j x.0 x.1 text out → Part j m k w text out
unfolding taken_all
part_over j m k t w text out x known pass e h = record {
  t = t;
  more = [];
  rest = text;
  ts = h.ts;
  parts = refl;
  text_is = known.text ∙ sym (append-nil w);
  good = known.good;
  ended = known.ended;
  laid = h.laid;
  read = cond-true (passes j m k t) _ _ pass ∙ ap (λ (o : Option State). and_then o (λ y. taken_all j y.0 y.1 h.ts)) e ∙ h.read;
}

whole_blank : (j : Judge) (m : Mode) (k : Kept) (c : ℕ) (text : List ℕ) (out : List Step) → is_blank c ≡ true → Whole j m k text out → Whole j m k (c ∷ text) out
whole_blank j m k c text out b w = record { ts = w.ts; laid = blank c b w.laid; read = w.read }

abbrev pub Explains : Judge → Mode → Kept → List ℕ → List ℕ → List Step → Type 0
Explains j m k [] text out = Whole j m k text out
Explains j m k (d ∷ w) text out = Part j m k (d ∷ w) text out

abbrev Later : Rules → Judge → List ℕ → List Step → Type 0
Later rules j text out = (at : ℕ) (s : Spot) → run rules at s text ≡ Ok out → Explains j s.mode s.kept s.word text out

-- what a byte gave goes on well
abbrev Goes : Rules → ℕ → List ℕ → List Step → Result Spot Fault → Type 0
Goes rules at text out r = (r >>= λ s. run rules (at + 1) s text) ≡ Ok out

explain_fresh : (rules : Rules) (j : Judge) (at c : ℕ) (s : Spot) (text : List ℕ) (out : List Step) → Later rules j text out → Goes rules at text out (fresh rules at s c) → Whole j s.mode s.kept (c ∷ text) out
explain_fresh rules j at c s text out later =
    let P : Result Spot Fault → Type 0 = λ r. Goes rules at text out r → Whole j s.mode s.kept (c ∷ text) out in
    cond_both (begins s.mode s.kept (c ∷ [])) _ _ P (λ b e. part_whole j s.mode s.kept c text out (later (at + 1) (record s { word = c ∷ [] }) e)) (λ b.
    cond_both (is_blank c) _ _ P (λ w e. whole_blank j s.mode s.kept c text out w (later (at + 1) (record s { word = [] }) e)) (λ w e. absurd (no_out _ out e)))

pub bind_assoc : {A B C : Type 0} (r : Result A Fault) (f : A → Result B Fault) (g : B → Result C Fault) → (r >>= λ x. (f x >>= g)) ≡ ((r >>= f) >>= g)
bind_assoc (Ok x) f g = refl
bind_assoc (Err e) f g = refl

-- where a result goes on, no fault was in its way
unless_none : {A B : Type 0} (o : Option Fault) (x : A) (f : A → Result B Fault) (out : B) → (unless_fault o x >>= f) ≡ Ok out → (o ≡ None) × (f x ≡ Ok out)
unless_none None x f out e = (refl, e)
unless_none (Some g) x f out e = absurd (no_out g out e)

-- where a result is there, no fault was in its way
unless_ok : {A : Type 0} (o : Option Fault) (x out : A) → unless_fault o x ≡ Ok out → (o ≡ None) × (x ≡ out)
unless_ok None x out e = (refl, ok_is x out e)
unless_ok (Some g) x out e = absurd (no_out g out e)

-- a token that was done
record Done (j : Judge) (m : Mode) (k : Kept) (w rest : List ℕ) (A : Type 0) (f : Spot → Result A Fault) (out : A) : Type 0 where
  t : Token
  x : State
  place : ℕ
  known : Known t w rest
  pass : passes j m k t ≡ true
  taken_is : taken m k t ≡ Some x
  goes : f (at_spot x.0 x.1 place []) ≡ Ok out

done_taken : {A : Type 0} (rules : Rules) (j : Judge) → Judges rules j → (m : Mode) (k : Kept) (w rest : List ℕ) (at place : ℕ) (f : Spot → Result A Fault) (out : A) (t : Token) (o : Option State) → taken m k t ≡ o → Known t w rest
    → (token_taken rules at (at_spot m k place w) t o >>= f) ≡ Ok out → Done j m k w rest A f out
done_taken rules j h m k w rest at place f out t None o known e = absurd (no_out _ out e)
done_taken rules j h m k w rest at place f out t (Some x) o known e =
    let from = at - length w in
    let next = place_after m from place in
    let u = unless_none (rules.fault from place m k t) (at_spot x.0 x.1 next []) f out e in
    record { t = t; x = x; place = next; known = known; pass = sym (h.none from place m k t) ∙ ap is_none u.0; taken_is = o; goes = u.1 }

done_whole : {A : Type 0} (rules : Rules) (j : Judge) → Judges rules j → (m : Mode) (k : Kept) (w rest : List ℕ) (at place : ℕ) (f : Spot → Result A Fault) (out : A) (o : Option Token) → whole m w rest ≡ o → NoMore m k w rest
    → (token_done rules at (at_spot m k place w) o >>= f) ≡ Ok out → Done j m k w rest A f out
done_whole rules j h m k w rest at place f out None o none e = absurd (no_out _ out e)
done_whole rules j h m k w rest at place f out (Some t) o none e = done_taken rules j h m k w rest at place f out t (taken m k t) refl (is_known m k w rest t none o) e

explain_word : (rules : Rules) (j : Judge) → Judges rules j → (at c d place : ℕ) (m : Mode) (k : Kept) (w text : List ℕ) (out : List Step) → Later rules j text out
    → Goes rules at text out (step_in rules at (at_spot m k place (d ∷ w)) (d ∷ w) c) → Part j m k (d ∷ w) (c ∷ text) out
explain_word rules j h at c d place m k w text out later =
    let P : Result Spot Fault → Type 0 = λ r. Goes rules at text out r → Part j m k (d ∷ w) (c ∷ text) out in
    let token = token_done rules at (at_spot m k place (d ∷ w)) (whole m (d ∷ w) (c ∷ [])) in
    cond_both (begins m k ((d ∷ w) ++ c ∷ [])) _ _ P
    (λ b e. part_longer j m k (d ∷ w) c text out (later (at + 1) (at_spot m k place ((d ∷ w) ++ c ∷ [])) e))
    (λ b e.
    let g = done_whole rules j h m k (d ∷ w) (c ∷ text) at place (λ s. fresh rules at s c >>= λ s. run rules (at + 1) s text) out (whole m (d ∷ w) (c ∷ [])) (sym (whole_first m (d ∷ w) c text)) b
    (bind_assoc token (λ s. fresh rules at s c) (λ s. run rules (at + 1) s text) ∙ e) in
    part_over j m k g.t (d ∷ w) (c ∷ text) out g.x g.known g.pass g.taken_is (explain_fresh rules j at c (at_spot g.x.0 g.x.1 g.place []) text out later g.goes))

explain_step : (rules : Rules) (j : Judge) → Judges rules j → (w : List ℕ) (at c place : ℕ) (m : Mode) (k : Kept) (text : List ℕ) (out : List Step) → Later rules j text out
    → Goes rules at text out (step_in rules at (at_spot m k place w) w c) → Explains j m k w (c ∷ text) out
explain_step rules j h [] at c place m k text out later e = explain_fresh rules j at c (at_spot m k place []) text out later e
explain_step rules j h (d ∷ w) at c place m k text out later e = explain_word rules j h at c d place m k w text out later e

last_whole : (rules : Rules) (j : Judge) → Judges rules j → (at place : ℕ) (m : Mode) (k : Kept) (out : List Step) (o : Option (List Step)) → last m k ≡ o → last_done rules at (at_spot m k place []) o ≡ Ok out → Whole j m k [] out
unfolding taken_all
last_whole rules j h at place m k out None o e = absurd (no_out _ out e)
last_whole rules j h at place m k out (Some made) o e =
    let u = unless_ok (rules.fault at place m k CloseMark) made out e in
    record { ts = []; laid = nothing; read = cond-true (passes j m k CloseMark) _ _ (sym (h.none at place m k CloseMark) ∙ ap is_none u.0) ∙ o ∙ ap (λ (y : List Step). Some y) u.1 }

explain_end : (rules : Rules) (j : Judge) → Judges rules j → (w : List ℕ) (at place : ℕ) (m : Mode) (k : Kept) (out : List Step) → finish_in rules at (at_spot m k place w) w ≡ Ok out → Explains j m k w [] out
explain_end rules j h [] at place m k out e = last_whole rules j h at place m k out (last m k) refl e
explain_end rules j h (d ∷ w) at place m k out e =
    let g = done_whole rules j h m k (d ∷ w) [] at place (λ s. last_done rules at s (last s.mode s.kept)) out (whole m (d ∷ w) []) refl tt e in
    part_over j m k g.t (d ∷ w) [] out g.x g.known g.pass g.taken_is (last_whole rules j h at g.place g.x.0 g.x.1 out (last g.x.0 g.x.1) refl g.goes)

pub explains : (rules : Rules) (j : Judge) → Judges rules j → (text : List ℕ) (out : List Step) → Later rules j text out
unfolding run
explains rules j h [] out at s e = explain_end rules j h s.word at s.place s.mode s.kept out e
explains rules j h (c ∷ text) out at s e = explain_step rules j h s.word at c s.place s.mode s.kept text out (explains rules j h text out) e
