-- Where reading stops: a byte at which no reading goes on, behind bytes with which some reading ends well.
use Rattle.std.proofs.Common.{◌≡◌, ℕ, zero, suc, ◌&&◌, true, false, List, [], ◌∷◌, ◌++◌, Some, None, refl, sym, ap, subst, ◌∙◌, inl, inr, arith, ◌⊎◌}
use Rattle.std.specs.Prelude.{codes}
use Rattle.std.specs.Str.{bytes_eq}
use Rattle.std.proofs.lemmas.Bool.{and_from, and_parts, and_right, or_cases, not_from_false}
use Rattle.std.proofs.lemmas.List.{append-nil}
use Rattle.query_grammar.specs.declared.mode.Mode.{Mode}
use Rattle.query_grammar.specs.declared.mode.Mode.TheVariants.{BeforeUnary, AfterCriterion, BeforeOperand, AfterUnary}
use Rattle.query_grammar.specs.declared.mode.Waiting.{Waiting}
use Rattle.query_grammar.specs.declared.mode.Waiting.TheVariants as waits
use Rattle.query_grammar.specs.Step.{Step}
use Rattle.query_grammar.specs.declared.step.StepOver.TheVariants as steps
use Rattle.query_grammar.specs.declared.lex.Lex.TheVariants.{Begin}
use Rattle.query_grammar.specs.Lexical.{operand_begin, begins_from, is_one_of, begins_one_of, operators, words}
use Rattle.query_grammar.specs.Grammar.{Token, CriterionToken, OperatorToken, OperandToken, AndWord, OrWord, OpenMark, CloseMark, token_text, is_token, is_ended}
use Rattle.query_grammar.specs.Moves.{Kept, State, can_close, closes, all_closed, tightened, loosened, rested, waits_for, tested, taken, taken_after_unary}
use Rattle.query_grammar.specs.Scanner.{Rules, free, joining, begins, begins_after_unary}
use Rattle.query_grammar.proofs.Lexing.{same_bytes, is_plain, plain_append, plain_parts, plain_word, completed, completed_one, over_equal, over_blank}
use Rattle.query_grammar.proofs.Marks.{tightened_can}
use Rattle.query_grammar.proofs.Scan.{Reads, token_read, blank_read, end_read}

-- ---- each state goes on

-- bytes without a line feed with which reading under rules ends well from here
pub record AliveIn (rules : Rules) (m : Mode) (k : Kept) (w : List ℕ) : Type 0 where
  pub more : List ℕ
  pub out : List Step
  pub ends : Reads rules m k w more out
  pub plain : is_plain more ≡ true

-- the same by the grammar alone
abbrev pub Alive : Mode → Kept → List ℕ → Type 0
Alive m k w = AliveIn free m k w

token_by : (rules : Rules) (m : Mode) (k : Kept) (w more rest : List ℕ) (out : List Step) (t : Token) (x : State) → ((from place : ℕ) → rules.fault from place m k t ≡ None) → is_plain more ≡ true → is_plain rest ≡ true → token_text t ≡ w ++ more → is_token t ≡ true → is_ended t rest ≡ true → taken m k t ≡ Some x → Reads rules x.0 x.1 [] rest out → AliveIn rules m k w
token_by rules m k w more rest out t x none p q text good ended e h = record { more = more ++ rest; out = out; ends = token_read rules more m k t x w rest out none text good ended e h; plain = plain_append more rest p q }

by_token : (m : Mode) (k : Kept) (w more rest : List ℕ) (out : List Step) (t : Token) (x : State) → is_plain more ≡ true → is_plain rest ≡ true → token_text t ≡ w ++ more → is_token t ≡ true → is_ended t rest ≡ true → taken m k t ≡ Some x → Reads free x.0 x.1 [] rest out → Alive m k w
by_token m k w more rest out t x p q text good ended e h = token_by free m k w more rest out t x (λ from place. refl) p q text good ended e h

-- how many parentheses are open
abbrev parens : List Waiting → ℕ
parens [] = 0
parens (waits.Open ∷ ws) = suc (parens ws)
parens (waits.Not ∷ ws) = parens ws
parens (waits.And ∷ ws) = parens ws
parens (waits.Or ∷ ws) = parens ws

tightened_parens : (ws : List Waiting) (done : List Step) → parens (tightened ws done).0 ≡ parens ws
tightened_parens [] done = refl
tightened_parens (waits.Open ∷ ws) done = refl
tightened_parens (waits.Not ∷ ws) done = tightened_parens ws (done ++ steps.Not ∷ [])
tightened_parens (waits.And ∷ ws) done = tightened_parens ws (done ++ steps.And ∷ [])
tightened_parens (waits.Or ∷ ws) done = refl

-- what is left behind the inner parenthesis
abbrev Inner : List Waiting → List Waiting → Type 0
Inner ws left = (left ≡ []) ⊎ ((rest : List Waiting) × (left ≡ waits.Open ∷ rest) × (parens ws ≡ suc (parens rest)))

loosened_inner : (ws : List Waiting) (done : List Step) → Inner ws (loosened ws done).0
loosened_inner [] done = inl refl
loosened_inner (waits.Open ∷ ws) done = inr (ws, refl, refl)
loosened_inner (waits.Not ∷ ws) done = loosened_inner ws (done ++ steps.Not ∷ [])
loosened_inner (waits.And ∷ ws) done = loosened_inner ws (done ++ steps.And ∷ [])
loosened_inner (waits.Or ∷ ws) done = loosened_inner ws (done ++ steps.Or ∷ [])

-- the rules find no fault behind a unary
abbrev pub NoneBehind : Rules → Type 0
NoneBehind rules = (from place : ℕ) (k : Kept) (t : Token) → rules.fault from place AfterUnary k t ≡ None

ends_now : (rules : Rules) → NoneBehind rules → (k : Kept) → (loosened k.waiting k.steps).0 ≡ [] → AliveIn rules AfterUnary k []
ends_now rules none k e =
    let x = loosened k.waiting k.steps in
    record { more = []; out = x.1; ends = end_read rules AfterUnary k x.1 (λ from place. none from place k CloseMark) (ap (λ (ws : List Waiting). all_closed (ws, x.1)) e); plain = refl }

behind_by : (rules : Rules) → NoneBehind rules → (n : ℕ) (k : Kept) → parens k.waiting ≡ n → AliveIn rules AfterUnary k []
behind_by rules clean zero k e =
    elim (loosened_inner k.waiting k.steps) [
      | inl none ↦ ends_now rules clean k none
      | inr some ↦ absurd (omega (arith, some.2, e))
    ]
behind_by rules clean (suc n) k e =
    elim (loosened_inner k.waiting k.steps) [
      | inl none ↦ ends_now rules clean k none
      | inr some ↦
          let x = tightened some.0 (loosened k.waiting k.steps).1 in
          let fewer : parens x.0 ≡ n = omega (arith, tightened_parens some.0 (loosened k.waiting k.steps).1, some.2, e) in
          let h = behind_by rules clean n (rested x).1 fewer in
          token_by rules AfterUnary k [] (41 ∷ []) h.more h.out CloseMark (rested x) (λ from place. clean from place k CloseMark) refl h.plain refl refl refl (ap (λ (ws : List Waiting). closes (ws, (loosened k.waiting k.steps).1)) some.1) h.ends
    ]

pub behind_in : (rules : Rules) → NoneBehind rules → (k : Kept) → AliveIn rules AfterUnary k []
behind_in rules none k = behind_by rules none (parens k.waiting) k refl

behind : (k : Kept) → Alive AfterUnary k []
behind k = behind_in free (λ from place k t. refl) k

in_value : (k : Kept) (w : List ℕ) → begins_from operand_begin w ≡ true → Alive BeforeOperand k w
in_value k w b =
    let c = completed operand_begin w b in
    let h = behind (tested k (w ++ c.0)).1 in
    by_token BeforeOperand k w c.0 (32 ∷ h.more) h.out (OperandToken (w ++ c.0)) (tested k (w ++ c.0)) c.2 h.plain refl c.1 (not_from_false _ (over_blank operand_begin (w ++ c.0) c.1)) refl
    (blank_read free AfterUnary (tested k (w ++ c.0)).1 32 h.more h.out refl h.ends)

before_value : (k : Kept) → Alive BeforeOperand k []
before_value k = in_value k [] refl

-- a blank and an operand behind an operator
value_blank : (k : Kept) → (more : List ℕ) × (out : List Step) × Reads free BeforeOperand k [] (32 ∷ more) out × (is_plain more ≡ true)
value_blank k = let h = before_value k in (h.more, h.out, blank_read free BeforeOperand k 32 h.more h.out refl h.ends, h.plain)

in_sign : (k : Kept) (w : List ℕ) → begins_one_of operators w ≡ true → Alive AfterCriterion k w
in_sign k w b =
    let c = completed_one (λ v. (is_one_of operators v ≡ true) × ((rest : List ℕ) → is_ended (OperatorToken v) (32 ∷ rest) ≡ true) × (is_plain v ≡ true)) operators w ((refl, λ rest. refl, refl), ((refl, λ rest. refl, refl), ((refl, λ rest. refl, refl), ((refl, λ rest. refl, refl), ((refl, λ rest. refl, refl), ((refl, λ rest. refl, refl), ((refl, λ rest. refl, refl), ((refl, λ rest. refl, refl), ((refl, λ rest. refl, refl), ((refl, λ rest. refl, refl), tt)))))))))) b in
    let h = value_blank (record k { operator = w ++ c.0 }) in
    by_token AfterCriterion k w c.0 (32 ∷ h.0) h.1 (OperatorToken (w ++ c.0)) (BeforeOperand, record k { operator = w ++ c.0 }) (plain_parts w c.0 c.1.2).1 h.3 refl c.1.0 (c.1.1 h.0) refl h.2

in_criterion : (k : Kept) (w : List ℕ) → begins_from Begin w ≡ true → Alive BeforeUnary k w
in_criterion k w b =
    let c = completed Begin w b in
    let v : List ℕ = w ++ c.0 in
    let named : Kept = record k { criterion = w ++ c.0 } in
    let h = value_blank (record named { operator = codes "==" }) in
    let equals = token_read free (codes "==") AfterCriterion named (OperatorToken (codes "==")) (BeforeOperand, record named { operator = codes "==" }) [] (32 ∷ h.0) h.1 (λ from place. refl) refl refl refl refl h.2 in
    by_token BeforeUnary k w c.0 (61 ∷ 61 ∷ 32 ∷ h.0) h.1 (CriterionToken (w ++ c.0)) (AfterCriterion, named) c.2 h.3 refl c.1 (and_from _ _ (not_from_false _ (over_equal Begin (w ++ c.0) c.1)) (not_from_false _ (and_right (is_one_of words (w ++ c.0)) false refl))) refl equals

before_operand : (k : Kept) → Alive BeforeUnary k []
before_operand k = in_criterion k [] refl

operand_blank : (k : Kept) → (more : List ℕ) × (out : List Step) × Reads free BeforeUnary k [] (32 ∷ more) out × (is_plain more ≡ true)
operand_blank k = let h = before_operand k in (h.more, h.out, blank_read free BeforeUnary k 32 h.more h.out refl h.ends, h.plain)

in_operand : (k : Kept) (w : List ℕ) → begins BeforeUnary k w ≡ true → Alive BeforeUnary k w
in_operand k w b =
    elim (or_cases (bytes_eq w (codes "(")) (begins_from Begin w) b) [
      | inl mark ↦
          let x = waits_for waits.Open (k.waiting, k.steps) in
          let h = before_operand x.1 in
          by_token BeforeUnary k w [] h.more h.out OpenMark x refl h.plain (sym (same_bytes w (codes "(") mark) ∙ sym (append-nil w)) refl refl refl h.ends
      | inr criterion ↦ in_criterion k w criterion
    ]

-- where a parenthesis is open it can be closed
can_closes : (ws : List Waiting) (done : List Step) → can_close ws ≡ true → (x : State) × (closes (loosened ws done) ≡ Some x) × (x.0 ≡ AfterUnary)
can_closes [] done e = absurd cc
can_closes (waits.Open ∷ ws) done e = (rested (tightened ws done), refl, refl)
can_closes (waits.Not ∷ ws) done e = can_closes ws (done ++ steps.Not ∷ []) e
can_closes (waits.And ∷ ws) done e = can_closes ws (done ++ steps.And ∷ []) e
can_closes (waits.Or ∷ ws) done e = can_closes ws (done ++ steps.Or ∷ []) e

-- `and`, `or` and a parenthesis, in a mode that takes them as behind a unary
joined : (m : Mode) (k k2 : Kept) (w : List ℕ) → ((t : Token) (x : State) → taken_after_unary k2 t ≡ Some x → taken m k t ≡ Some x) → can_close k.waiting ≡ can_close k2.waiting → begins_after_unary k w ≡ true → Alive m k w
joined m k k2 w same can b =
    elim (or_cases (begins_one_of joining w) (bytes_eq w (codes ")") && can_close k.waiting) b) [
      | inl joint ↦
          let c = completed_one (λ v. (bytes_eq v (codes "and") ≡ true) ⊎ (bytes_eq v (codes "or") ≡ true)) joining w (inl refl, (inr refl, tt)) joint in
          elim c.1 [
            | inl a ↦
                let x = waits_for waits.And (k2.waiting, k2.steps) in
                let h = operand_blank x.1 in
                by_token m k w c.0 (32 ∷ h.0) h.1 AndWord x (plain_word w c.0 (codes "and") a refl) h.3 (sym (same_bytes (w ++ c.0) (codes "and") a)) refl refl (same AndWord x refl) h.2
            | inr o ↦
                let x = waits_for waits.Or (loosened k2.waiting k2.steps) in
                let h = operand_blank x.1 in
                by_token m k w c.0 (32 ∷ h.0) h.1 OrWord x (plain_word w c.0 (codes "or") o refl) h.3 (sym (same_bytes (w ++ c.0) (codes "or") o)) refl refl (same OrWord x refl) h.2
          ]
      | inr close ↦
          let both = and_parts (bytes_eq w (codes ")")) (can_close k.waiting) close in
          let c = can_closes k2.waiting k2.steps (sym can ∙ both.1) in
          let h = behind c.0.1 in
          let mode : c.0.0 ≡ AfterUnary = c.2 in
          by_token m k w [] h.more h.out CloseMark c.0 refl h.plain (sym (same_bytes w (codes ")") both.0) ∙ sym (append-nil w)) refl refl (same CloseMark c.0 c.1) (subst (λ (n : Mode). Reads free n c.0.1 [] h.more h.out) (sym mode) h.ends)
    ]

named_same : (k : Kept) (t : Token) (x : State) → taken_after_unary (tested k []).1 t ≡ Some x → taken AfterCriterion k t ≡ Some x
named_same k AndWord x e = e
named_same k OrWord x e = e
named_same k CloseMark x e = e
named_same k _ x e = absurd cc

in_named : (k : Kept) (w : List ℕ) → begins AfterCriterion k w ≡ true → Alive AfterCriterion k w
in_named k w b =
    elim (or_cases (begins_one_of operators w) (begins_after_unary k w) b) [
      | inl operator ↦ in_sign k w operator
      | inr behind_it ↦ joined AfterCriterion k (tested k []).1 w (named_same k) (sym (tightened_can k.waiting _)) behind_it
    ]

-- a token that has begun is one that may stand here
abbrev pub IsBegun : Mode → Kept → List ℕ → Type 0
IsBegun m k [] = Unit {0}
IsBegun m k (d ∷ w) = begins m k (d ∷ w) ≡ true

alive_begun : (m : Mode) (k : Kept) (w : List ℕ) → begins m k w ≡ true → Alive m k w
alive_begun BeforeUnary k w b = in_operand k w b
alive_begun AfterCriterion k w b = in_named k w b
alive_begun BeforeOperand k w b = in_value k w b
alive_begun AfterUnary k w b = joined AfterUnary k k w (λ t x e. e) refl b

alive_fresh : (m : Mode) (k : Kept) → Alive m k []
alive_fresh BeforeUnary k = before_operand k
alive_fresh AfterCriterion k = in_sign k [] refl
alive_fresh BeforeOperand k = before_value k
alive_fresh AfterUnary k = behind k

pub alive : (m : Mode) (k : Kept) (w : List ℕ) → IsBegun m k w → Alive m k w
alive m k [] b = alive_fresh m k
alive m k (d ∷ w) b = alive_begun m k (d ∷ w) b
