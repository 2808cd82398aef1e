-- What stands at the fault of a line.
use Rattle.std.proofs.Common.{◌≡◌, ℕ, ◌+◌, ◌-◌, ◌≤◌, ◌&&◌, ◌||◌, not, ◌⊎◌, inl, inr, Bool, true, false, cond, List, [], ◌∷◌, ◌++◌, length, Result, Ok, Err, Option, Some, None, refl, sym, ap, subst, ◌∙◌, append_assoc, length-append, arith}
use Rattle.std.specs.Prelude.{codes, nat_lt}
use Rattle.std.specs.Bool.{MatchBool}
use Rattle.std.specs.Option.{is_none, option_or}
use Rattle.std.specs.Str.{bytes_eq}
use Rattle.std.specs.List.{list_all}
use Rattle.std.proofs.lemmas.List.{append-nil}
use Rattle.std.proofs.lemmas.List.Folds.{list_all-append, list_any-append}
use Rattle.std.proofs.lemmas.Bool.{and_parts, and_from, or_cases, or_parts, or_left, or_right, cond_both, cond-true, not-true, not_from_false}
use Rattle.query_grammar.specs.declared.mode.Mode.{Mode}
use Rattle.query_grammar.specs.declared.mode.Mode.TheVariants.{BeforeUnary, AfterCriterion, BeforeOperand, AfterUnary}
use Rattle.query_grammar.specs.declared.mode.Waiting.{Waiting}
use Rattle.query_grammar.specs.declared.mode.Waiting.TheVariants as waits
use Rattle.query_grammar.specs.declared.lex.Lex.TheVariants.{Begin}
use Rattle.query_grammar.specs.Step.{Step}
use Rattle.query_grammar.specs.Bytes.{is_blank, is_name_byte}
use Rattle.query_grammar.specs.Lexical.{operand_begin, begins_from, whole_from, is_prefix, is_one_of, begins_one_of, operators, words, ends_word}
use Rattle.query_grammar.specs.Criterion.{operand_meaning}
use Rattle.query_grammar.specs.Grammar.{Token, CriterionToken, OperatorToken, OperandToken, NotWord, AndWord, OrWord, OpenMark, CloseMark, token_text, is_token, is_over, is_ended, IsLaid, nothing, blank, token, Written, Test, CanGoOn}
use Rattle.query_grammar.specs.Moves.{Kept, State, open_count, can_close, closes, tightened, loosened, rested, tested, taken, last, start}
use Rattle.query_grammar.specs.Scanner.{Fault, Syntax, UnknownTag, Number, Pattern, Deep, ◌>>=◌, Rules, Spot, joining, begins_after_unary, begins, whole, or_syntax, unless_fault, place_after, token_taken, token_done, fresh, step_in, step, last_done, finish_in, run, begin}
use Rattle.query_grammar.specs.Judging.{tags_fault, level_fault, field_fault, criterion_fault, numeric_operators, pattern_operators, operand_fault, rules_of}
use Rattle.query_grammar.specs.Steps.{steps_of}
use Rattle.query_grammar.specs.Lines.{is_passed, joined, AreQueries, lines_of, joined_steps, ended_lines, read_lines}
use Rattle.query_grammar.specs.Fine.{IsFine}
use Rattle.query_grammar.specs.Faulty.{UnknownName}
use Rattle.query_grammar.specs.Tested.{no_bytes, other_byte, word_ends, in_level, in_field, Language, Fine, IsApart, TestMayFollow, TestIn, AtNone, WrongNumber}
use Rattle.query_grammar.specs.Before.{before_test, behind_criterion, behind_operator, behind_operand, behind_mark, BehindOperand, BehindMark, behind_tests, NoneBefore}
use Rattle.query_grammar.specs.Stands.{InOperand, IsAt, StandsIn, lines_length, InLines, HasNoQuery, Stands}
use Rattle.query_grammar.proofs.Tokens.{some_is, some_none, none_is}
use Rattle.query_grammar.proofs.Lexing.{same_bytes, whole_begins, over_blank, one_of}
use Rattle.query_grammar.proofs.Marks.{Known, NoMore, is_known, blank_cases}
use Rattle.query_grammar.proofs.Scan.{Reads, at_spot, token_read, blank_read, whole_first, no_out}
use Rattle.query_grammar.proofs.Lines.{steps_in, joined_is}
use Rattle.query_grammar.proofs.Ends.{NoneBehind, behind_in, IsBegun}
use Rattle.query_grammar.proofs.Rulings.{criterion_anywhere, rules_judge}
use Rattle.query_grammar.proofs.TextStops.{Lined, last_line, line_then, lined, lines_last, lines_more}
use Rattle.query_grammar.proofs.Fine.{or_else_none, fine_lines_read, fine_lines_found}
use Rattle.query_grammar.proofs.Faulty.{tags_wrong, level_wrong, field_wrong, unknown_fault, great_fault, wrong_fault}

abbrev rules : Language → Rules
rules l = rules_of l.is_tag l.is_decimal l.is_pattern l.most

none_behind : (l : Language) → NoneBehind (rules l)
none_behind l from place k t = refl

-- ---- a test that is a query by itself may follow where a test may stand

blank_end : (ts : List Token) (rest : List ℕ) → IsLaid ts rest → ts ≡ [] → ends_word rest ≡ true
blank_end _ _ nothing e = refl
blank_end _ _ (blank {ts} {text} c b l) e = blank_cases (λ d. ends_word (d ∷ text) ≡ true) refl refl refl c b
blank_end _ _ (token {ts} {rest} t good ended l) e = absurd cc

and_true : (b : Bool) → (b && true) ≡ false → b ≡ false
and_true true e = e
and_true false e = e

-- the criterion of a test that is a query by itself
record Alone (c : List ℕ) : Type 0 where
  whole : whole_from Begin c ≡ true
  name : is_one_of words c ≡ false

alone : (ts : List Token) (text : List ℕ) → IsLaid ts text → (c : List ℕ) → ts ≡ CriterionToken c ∷ [] → Alone c
alone _ _ nothing c e = absurd cc
alone _ _ (blank {ts} {text} d b l) c e = alone ts text l c e
alone _ _ (token {ts} {rest} t good ended l) c e =
    let same : t ≡ CriterionToken c = cc in
    let none : ts ≡ [] = cc in
    let ends = (and_parts (is_over (begins_from Begin) c rest) (not (is_one_of words c && ends_word rest)) (subst (λ (u : Token). is_ended u rest ≡ true) same ended)).1 in
    record { whole = subst (λ (u : Token). is_token u ≡ true) same good; name = and_true (is_one_of words c) (subst (λ (b : Bool). (is_one_of words c && b) ≡ false) (blank_end ts rest l none) (not-true _ ends)) }

-- a test is read, and what closes all that is open
record TestReads (l : Language) (k : Kept) (c : List ℕ) : Type 0 where
  more : List ℕ
  out : List Step
  reads : Reads (rules l) BeforeUnary k [] (c ++ more) out

test_reads : (l : Language) (k : Kept) (c : List ℕ) → Alone c → IsFine l.is_tag l.is_decimal l.is_pattern l.most 0 (Test c) → TestReads l k c
test_reads l k c is fine =
    let r = rules l in
    let k1 : Kept = record k { criterion = c } in
    let k2 : Kept = record k1 { operator = codes "eq" } in
    let x = tested k2 (codes "a") in
    let h = behind_in r (none_behind l) x.1 in
    let operand = token_read r (codes "a") BeforeOperand k2 (OperandToken (codes "a")) x [] (32 ∷ h.more) h.out (λ from place. ap (λ (o : Option Fault). option_or o None) (fine place)) refl refl refl refl (blank_read r AfterUnary x.1 32 h.more h.out refl h.ends) in
    let operator = token_read r (codes "eq") AfterCriterion k1 (OperatorToken (codes "eq")) (BeforeOperand, k2) [] (32 ∷ 97 ∷ 32 ∷ h.more) h.out (λ from place. refl) refl refl refl refl (blank_read r BeforeOperand k2 32 (97 ∷ 32 ∷ h.more) h.out refl operand) in
    let ended = and_from _ _ (not_from_false _ (over_blank Begin c is.whole)) (not_from_false _ (ap (λ (b : Bool). b && true) is.name)) in
    record {
      more = 32 ∷ 101 ∷ 113 ∷ 32 ∷ 97 ∷ 32 ∷ h.more;
      out = h.out;
      reads = token_read r c BeforeUnary k (CriterionToken c) (AfterCriterion, k1) [] (32 ∷ 101 ∷ 113 ∷ 32 ∷ 97 ∷ 32 ∷ h.more) h.out (λ from place. refl) refl is.whole ended refl (blank_read r AfterCriterion k1 32 (101 ∷ 113 ∷ 32 ∷ 97 ∷ 32 ∷ h.more) h.out refl operator);
    }

-- bytes were read, and what is read behind a blank after them is read behind them
abbrev Leads : Language → ℕ → List ℕ → Kept → Type 0
Leads l a r k = (text : List ℕ) (out : List Step) → Reads (rules l) BeforeUnary k [] (32 ∷ text) out → run (rules l) a begin (r ++ 32 ∷ text) ≡ Ok out

may_follow : (l : Language) (a : ℕ) (r next : List ℕ) (k : Kept) → IsApart r next → Leads l a r k → TestMayFollow l r next
may_follow l a r next k apart leads = record {
  apart = apart;
  each = λ test fine.
      let t = test_reads l k test (alone _ _ fine.0.laid test refl) fine.1 in
      let ok = leads (test ++ t.more) t.out (blank_read (rules l) BeforeUnary k 32 (test ++ t.more) t.out refl t.reads) in
      let q = (fine_lines_found l.is_tag l.is_decimal l.is_pattern l.most).each a (r ++ 32 ∷ (test ++ t.more)) t.out ok in
      record { more = t.more; query = q.query; whole = subst (λ (w : List ℕ). Fine l w q.query) (sym (append_assoc r (32 ∷ test) t.more)) q.is };
}

-- ---- what is known of the bytes that were read

-- a unary begins with these bytes, where a test may stand
record Opened (l : Language) (r back w : List ℕ) : Type 0 where
  before : List ℕ
  parts : r ≡ before ++ w
  follows : TestMayFollow l before (w ++ back)

-- behind a criterion
record Named (l : Language) (a : ℕ) (r back w : List ℕ) (k : Kept) (place : ℕ) : Type 0 where
  blanks : List ℕ
  blank : list_all is_blank blanks ≡ true
  test : TestIn l a r back k.criterion (blanks ++ w) place

-- behind an operator
record Signed (l : Language) (a : ℕ) (r back w : List ℕ) (k : Kept) (place : ℕ) : Type 0 where
  blanks : List ℕ
  more : List ℕ
  blank : list_all is_blank blanks ≡ true
  blank_more : list_all is_blank more ≡ true
  test : TestIn l a r back k.criterion (blanks ++ (k.operator ++ (more ++ w))) place
  one : is_one_of operators k.operator ≡ true

-- behind a unary
abbrev Rested : Language → ℕ → List ℕ → List ℕ → List ℕ → Type 0
Rested l a r back w = BehindOperand l a r back w ⊎ BehindMark l r w

-- by what may stand next, with the bytes of a token that has begun
abbrev Lay : Language → ℕ → List ℕ → List ℕ → Mode → Kept → ℕ → List ℕ → Type 0
Lay l a r back BeforeUnary k place w = Opened l r back w
Lay l a r back AfterCriterion k place w = Named l a r back w k place
Lay l a r back BeforeOperand k place w = Signed l a r back w k place
Lay l a r back AfterUnary k place w = Rested l a r back w

-- bytes that are behind a criterion, and one more that was read
tested_more : (l : Language) (a : ℕ) (r criterion u v : List ℕ) (c : ℕ) (back : List ℕ) (place : ℕ) → u ++ c ∷ [] ≡ v → TestIn l a r (c ∷ back) criterion u place → TestIn l a (r ++ c ∷ []) back criterion v place
tested_more l a r criterion u v c back place e t = record {
  before = t.before;
  parts = ap (λ (x : List ℕ). x ++ c ∷ []) t.parts ∙ append_assoc t.before (criterion ++ u) (c ∷ []) ∙ ap (λ (x : List ℕ). t.before ++ x) (append_assoc criterion u (c ∷ []) ∙ ap (λ (x : List ℕ). criterion ++ x) e);
  there = t.there;
  follows = subst (λ (x : List ℕ). TestMayFollow l t.before (criterion ++ x)) (sym (append_assoc u (c ∷ []) back) ∙ ap (λ (x : List ℕ). x ++ back) e) t.follows;
  begins = t.begins;
  over = ap (is_over (begins_from Begin) criterion) (ap (λ (x : List ℕ). x ++ back) (sym e) ∙ append_assoc u (c ∷ []) back) ∙ t.over;
}

-- a byte more behind a unary, where it is no blank
rest_byte : (l : Language) (a : ℕ) (r : List ℕ) (c : ℕ) (back w : List ℕ) → Rested l a r (c ∷ back) w → Rested l a (r ++ c ∷ []) back (w ++ c ∷ [])
rest_byte l a r c back w (inl h) =
    inl
    (record {
      place = h.place;
      criterion = h.criterion;
      blanks = h.blanks;
      operator = h.operator;
      more = h.more;
      operand = h.operand;
      last = h.last;
      test = tested_more l a r h.criterion (h.blanks ++ (h.operator ++ (h.more ++ (h.operand ++ (h.last ++ w))))) (h.blanks ++ (h.operator ++ (h.more ++ (h.operand ++ (h.last ++ (w ++ c ∷ [])))))) c back h.place (simp append_assoc) h.test;
      fine = h.fine;
      blank = h.blank;
      blank_more = h.blank_more;
      blank_last = h.blank_last;
      one = h.one;
      whole = h.whole;
      over = ap (λ (x : List ℕ). is_over (begins_from operand_begin) h.operand (h.last ++ x)) (append_assoc w (c ∷ []) back) ∙ h.over;
    })
rest_byte l a r c back w (inr h) =
    inr (record { before = h.before; blanks = h.blanks; parts = ap (λ (x : List ℕ). x ++ c ∷ []) h.parts ∙ (simp append_assoc); goes_on = h.goes_on; blank = h.blank })

-- a byte more of a token
lay_byte : (l : Language) (a : ℕ) (r : List ℕ) (c : ℕ) (back : List ℕ) (m : Mode) (k : Kept) (place : ℕ) (w : List ℕ) → Lay l a r (c ∷ back) m k place w → Lay l a (r ++ c ∷ []) back m k place (w ++ c ∷ [])
lay_byte l a r c back BeforeUnary k place w h = record { before = h.before; parts = ap (λ (x : List ℕ). x ++ c ∷ []) h.parts ∙ append_assoc h.before w (c ∷ []); follows = subst (TestMayFollow l h.before) (sym (append_assoc w (c ∷ []) back)) h.follows }
lay_byte l a r c back AfterCriterion k place w h = record { blanks = h.blanks; blank = h.blank; test = tested_more l a r k.criterion (h.blanks ++ w) (h.blanks ++ (w ++ c ∷ [])) c back place (append_assoc h.blanks w (c ∷ [])) h.test }
lay_byte l a r c back BeforeOperand k place w h = record {
  blanks = h.blanks;
  more = h.more;
  blank = h.blank;
  blank_more = h.blank_more;
  test = tested_more l a r k.criterion (h.blanks ++ (k.operator ++ (h.more ++ w))) (h.blanks ++ (k.operator ++ (h.more ++ (w ++ c ∷ [])))) c back place (simp append_assoc) h.test;
  one = h.one;
}
lay_byte l a r c back AfterUnary k place w h = rest_byte l a r c back w h

-- a blank more
blank_more_is : (blanks : List ℕ) (c : ℕ) → list_all is_blank blanks ≡ true → is_blank c ≡ true → list_all is_blank (blanks ++ c ∷ []) ≡ true
blank_more_is blanks c all b = list_all-append is_blank blanks (c ∷ []) ∙ and_from _ _ all (and_from _ _ b refl)

-- a blank is in no word
no_name : (c : ℕ) → is_blank c ≡ true → is_name_byte c ≡ false
no_name c b = blank_cases (λ d. is_name_byte d ≡ false) refl refl refl c b

-- a blank more behind a unary
rest_blank : (l : Language) (a : ℕ) (r : List ℕ) (c : ℕ) (back : List ℕ) → is_blank c ≡ true → Rested l a r (c ∷ back) [] → Rested l a (r ++ c ∷ []) back []
rest_blank l a r c back b (inl h) =
    inl
    (record {
      place = h.place;
      criterion = h.criterion;
      blanks = h.blanks;
      operator = h.operator;
      more = h.more;
      operand = h.operand;
      last = h.last ++ c ∷ [];
      test = tested_more l a r h.criterion (h.blanks ++ (h.operator ++ (h.more ++ (h.operand ++ (h.last ++ []))))) (h.blanks ++ (h.operator ++ (h.more ++ (h.operand ++ ((h.last ++ c ∷ []) ++ []))))) c back h.place (simp (append_assoc, append-nil)) h.test;
      fine = h.fine;
      blank = h.blank;
      blank_more = h.blank_more;
      blank_last = blank_more_is h.last c h.blank_last b;
      one = h.one;
      whole = h.whole;
      over = ap (is_over (begins_from operand_begin) h.operand) (append_assoc h.last (c ∷ []) back) ∙ h.over;
    })
rest_blank l a r c back b (inr h) =
    inr
    (record {
      before = h.before;
      blanks = h.blanks ++ c ∷ [];
      parts = ap (λ (x : List ℕ). x ++ c ∷ []) h.parts ∙ (simp (append_assoc, append-nil));
      goes_on = h.goes_on;
      blank = blank_more_is h.blanks c h.blank b;
    })

-- reading goes on from a spot
abbrev Goes : Language → ℕ → List ℕ → Spot → Type 0
Goes l a r s = (text : List ℕ) → run (rules l) a begin (r ++ text) ≡ run (rules l) (a + length r) s text

lay_blank : (l : Language) (a : ℕ) (r : List ℕ) (c : ℕ) (back : List ℕ) (m : Mode) (k : Kept) (place : ℕ) → is_blank c ≡ true → Goes l a (r ++ c ∷ []) (at_spot m k place []) → Lay l a r (c ∷ back) m k place [] → Lay l a (r ++ c ∷ []) back m k place []
lay_blank l a r c back BeforeUnary k place b goes h = record {
  before = r ++ c ∷ [];
  parts = sym (append-nil (r ++ c ∷ []));
  follows = may_follow l a (r ++ c ∷ []) back k (other_byte r c refl (no_name c b)) (λ text out e. goes (32 ∷ text) ∙ e.reads (a + length (r ++ c ∷ [])) place);
}
lay_blank l a r c back AfterCriterion k place b goes h = record {
  blanks = h.blanks ++ c ∷ [];
  blank = blank_more_is h.blanks c h.blank b;
  test = tested_more l a r k.criterion (h.blanks ++ []) ((h.blanks ++ c ∷ []) ++ []) c back place (simp (append_assoc, append-nil)) h.test;
}
lay_blank l a r c back BeforeOperand k place b goes h = record {
  blanks = h.blanks;
  more = h.more ++ c ∷ [];
  blank = h.blank;
  blank_more = blank_more_is h.more c h.blank_more b;
  test = tested_more l a r k.criterion (h.blanks ++ (k.operator ++ (h.more ++ []))) (h.blanks ++ (k.operator ++ ((h.more ++ c ∷ []) ++ []))) c back place (simp (append_assoc, append-nil)) h.test;
  one = h.one;
}
lay_blank l a r c back AfterUnary k place b goes h = rest_blank l a r c back b h

-- ---- what stands at a fault of a criterion

-- by which of three faults comes first
first_of : (l : Language) (a : ℕ) (r back criterion behind : List ℕ) (place : ℕ) (f : Fault) (x y z : Option Fault) → TestIn l a r back criterion behind place
    → tags_fault l.is_tag place criterion ≡ x → level_fault place criterion ≡ y → field_fault place (Some Begin) criterion ≡ z → option_or x (option_or y z) ≡ Some f → IsAt l a r back f
first_of l a r back criterion behind place f (Some g) y z t x_is y_is z_is e =
    let h = tags_wrong l.is_tag criterion place f t.begins (x_is ∙ e) in
    subst (IsAt l a r back) (sym h.fault) (record { criterion = criterion; behind = behind; place = place; byte = h.byte; test = t; there = refl; wrong = h.wrong })
first_of l a r back criterion behind place f None (Some g) z t x_is y_is z_is e =
    let h = level_wrong criterion place f (y_is ∙ e) in
    subst (IsAt l a r back) (sym h.fault) (inl (record { criterion = criterion; behind = behind; place = place; byte = h.byte; test = t; there = refl; wrong = in_level (λ n u. unknown_fault l.is_tag criterion place n x_is u) h.wrong }))
first_of l a r back criterion behind place f None None z t x_is y_is z_is e =
    let none : place ≡ place + 0 = omega arith in
    let h = field_wrong criterion [] place place (Some Begin) f refl none t.begins (z_is ∙ e) in
    subst (IsAt l a r back) (sym h.fault) (inl (record { criterion = criterion; behind = behind; place = place; byte = h.byte; test = t; there = refl; wrong = in_field (λ n u. unknown_fault l.is_tag criterion place n x_is u) (λ n u. great_fault criterion place n y_is u) h.wrong }))

criterion_at : (l : Language) (a : ℕ) (r back criterion behind : List ℕ) (place : ℕ) (f : Fault) → TestIn l a r back criterion behind place → criterion_fault l.is_tag place criterion ≡ Some f → IsAt l a r back f
criterion_at l a r back criterion behind place f t e = first_of l a r back criterion behind place f _ _ _ t refl refl refl e

-- ---- what stands at a fault of a token, or where a token is cut off

-- a parenthesis or a `not` too many
deep_at : (l : Language) (a : ℕ) (r back w : List ℕ) (from : ℕ) (t : Token) (f : Fault) (b : Bool) → (t ≡ OpenMark) ⊎ (t ≡ NotWord) → from + length w ≡ a + length r → Known t w back → Opened l r back w → cond b None (Some (Deep from)) ≡ Some f → IsAt l a r back f
deep_at l a r back w from t f true which place known h e = absurd cc
deep_at l a r back w from t f false which place known h e =
    let same : f ≡ Deep from = cc in
    let there : from ≡ a + length h.before = omega (arith, place, ap length h.parts, length-append h.before w) in
    let parts : r ≡ h.before ++ token_text t = h.parts ∙ ap (λ (v : List ℕ). h.before ++ v) (sym known.text) in
    subst (IsAt l a r back) (sym same) (record { before = h.before; mark = t; parts = parts; place = there; follows = subst (λ (v : List ℕ). TestMayFollow l h.before (v ++ back)) (sym known.text) h.follows; opens = which; ended = known.ended })

-- an operand that isn't as its operator wants it
operand_in : (l : Language) (a : ℕ) (r back v : List ℕ) (k : Kept) (place from : ℕ) (wanting : List (List ℕ)) (is_good : List ℕ → Bool) → (is_one_of wanting k.operator && not (is_good (operand_meaning v))) ≡ true → from + length v ≡ a + length r → Known (OperandToken v) v back → Signed l a r back v k place → criterion_fault l.is_tag place k.criterion ≡ None
    → InOperand l wanting is_good a r back from
operand_in l a r back v k place from wanting is_good b there known h fine =
    let both = and_parts (is_one_of wanting k.operator) (not (is_good (operand_meaning v))) b in
    record {
      place = place;
      criterion = k.criterion;
      blanks = h.blanks;
      operator = k.operator;
      more = h.more;
      operand = v;
      test = h.test;
      there = there;
      fine = λ n. criterion_anywhere l.is_tag place n k.criterion fine;
      blank = h.blank;
      blank_more = h.blank_more;
      wants = both.0;
      whole = known.good;
      over = known.ended;
      wrong = not-true _ both.1;
    }

operand_at : (l : Language) (a : ℕ) (r back v : List ℕ) (k : Kept) (place from : ℕ) (f : Fault) → from + length v ≡ a + length r → Known (OperandToken v) v back → Signed l a r back v k place → criterion_fault l.is_tag place k.criterion ≡ None → operand_fault l.is_decimal l.is_pattern from k.operator v ≡ Some f → IsAt l a r back f
operand_at l a r back v k place from f there known h fine e =
    let P : Option Fault → Type 0 = λ o. o ≡ Some f → IsAt l a r back f in
    cond_both (is_one_of numeric_operators k.operator && not (l.is_decimal (operand_meaning v))) (Some (Number from)) _ P
    (λ b g. let same : f ≡ Number from = cc in subst (IsAt l a r back) (sym same) (inr (operand_in l a r back v k place from numeric_operators l.is_decimal b there known h fine)))
    (λ b. cond_both (is_one_of pattern_operators k.operator && not (l.is_pattern (operand_meaning v))) (Some (Pattern from)) None P
    (λ p g. let same : f ≡ Pattern from = cc in subst (IsAt l a r back) (sym same) (operand_in l a r back v k place from pattern_operators l.is_pattern p there known h fine))
    (λ p g. absurd cc)) e

-- a comparison
compared_at : (l : Language) (a : ℕ) (r back v : List ℕ) (k : Kept) (place from : ℕ) (f : Fault) (o : Option Fault) → from + length v ≡ a + length r → Known (OperandToken v) v back → Signed l a r back v k place → criterion_fault l.is_tag place k.criterion ≡ o → option_or o (operand_fault l.is_decimal l.is_pattern from k.operator v) ≡ Some f → IsAt l a r back f
compared_at l a r back v k place from f None there known h o e = operand_at l a r back v k place from f there known h o e
compared_at l a r back v k place from f (Some g) there known h o e = criterion_at l a r back k.criterion _ place f h.test (o ∙ e)

-- a token that has ended is at fault
token_at : (l : Language) (a : ℕ) (r back w : List ℕ) (m : Mode) (k : Kept) (place from : ℕ) (t : Token) (f : Fault) → from + length w ≡ a + length r → Known t w back → Lay l a r back m k place w → (rules l).fault from place m k t ≡ Some f → IsAt l a r back f
token_at l a r back w BeforeUnary k place from NotWord f there known h e = deep_at l a r back w from NotWord f (nat_lt (open_count k.waiting) l.most) (inr refl) there known h e
token_at l a r back w BeforeUnary k place from OpenMark f there known h e = deep_at l a r back w from OpenMark f (nat_lt (open_count k.waiting) l.most) (inl refl) there known h e
token_at l a r back w AfterCriterion k place from AndWord f there known h e = criterion_at l a r back k.criterion _ place f h.test e
token_at l a r back w AfterCriterion k place from OrWord f there known h e = criterion_at l a r back k.criterion _ place f h.test e
token_at l a r back w AfterCriterion k place from CloseMark f there known h e = criterion_at l a r back k.criterion _ place f h.test e
token_at l a r back w BeforeOperand k place from (OperandToken v) f there known h e =
    let same : v ≡ w = known.text in
    compared_at l a r back v k place from f _ (subst (λ (u : List ℕ). from + length u ≡ a + length r) (sym same) there) (subst (λ (u : List ℕ). Known (OperandToken v) u back) (sym same) known) (subst (λ (u : List ℕ). Signed l a r back u k place) (sym same) h) refl e
token_at l a r back w _ k place from _ f there known h e = absurd cc

-- the end is at fault
end_at : (l : Language) (a : ℕ) (r w : List ℕ) (m : Mode) (k : Kept) (place from : ℕ) (f : Fault) → Lay l a r [] m k place w → (rules l).fault from place m k CloseMark ≡ Some f → IsAt l a r [] f
end_at l a r w AfterCriterion k place from f h e = criterion_at l a r [] k.criterion _ place f h.test e
end_at l a r w _ k place from f h e = absurd cc

-- bytes that have begun, and go on no more
abbrev Begun : Mode → Kept → List ℕ → List ℕ → Type 0
Begun m k w back = IsBegun m k w × NoMore m k w back

-- what goes on no more is no longer criterion
criterion_over : (k : Kept) (w back : List ℕ) → NoMore BeforeUnary k w back → is_over (begins_from Begin) w back ≡ true
criterion_over k w [] none = refl
criterion_over k w (c ∷ back) none = not_from_false _ (or_parts (bytes_eq (w ++ c ∷ []) (codes "(")) (begins_from Begin (w ++ c ∷ [])) none).1

-- a criterion that is cut off
cut_unary : (l : Language) (a : ℕ) (r back : List ℕ) (k : Kept) (n : ℕ) (w : List ℕ) (f : Fault) → n ≡ a + length r → Begun BeforeUnary k w back → Opened l r back w → criterion_fault l.is_tag (n - length w) w ≡ Some f → IsAt l a r back f
cut_unary l a r back k n [] f there b h e = absurd cc
cut_unary l a r back k n (d ∷ w) f there b h e =
    elim (or_cases (bytes_eq (d ∷ w) (codes "(")) (begins_from Begin (d ∷ w)) b.0) [
      | inl mark ↦
          let none : criterion_fault l.is_tag (n - length (d ∷ w)) (d ∷ w) ≡ None = ap (criterion_fault l.is_tag (n - length (d ∷ w))) (same_bytes (d ∷ w) (codes "(") mark) in
          absurd (some_none f (sym none ∙ e))
      | inr begun ↦
          criterion_at l a r back (d ∷ w) [] (n - length (d ∷ w)) f
          (record {
            before = h.before;
            parts = h.parts ∙ ap (λ (v : List ℕ). h.before ++ v) (sym (append-nil (d ∷ w)));
            there = omega (arith, there, ap length h.parts, length-append h.before (d ∷ w));
            follows = h.follows;
            begins = begun;
            over = criterion_over k (d ∷ w) back b.1;
          }) e
    ]

cut_at : (l : Language) (a : ℕ) (r back w : List ℕ) (m : Mode) (k : Kept) (place n : ℕ) (f : Fault) → n ≡ a + length r → Begun m k w back → Lay l a r back m k place w → (rules l).cut n place m k w ≡ Some f → IsAt l a r back f
cut_at l a r back w BeforeUnary k place n f there b h e =
    cond_both (is_one_of words w) None (criterion_fault l.is_tag (n - length w) w) (λ o. o ≡ Some f → IsAt l a r back f) (λ t g. absurd cc) (λ t g. cut_unary l a r back k n w f there b h g) e
cut_at l a r back w AfterCriterion k place n f there b h e = criterion_at l a r back k.criterion _ place f h.test e
cut_at l a r back w BeforeOperand k place n f there b h e = criterion_at l a r back k.criterion _ place f h.test e
cut_at l a r back w AfterUnary k place n f there b h e = absurd cc

-- ---- nothing is at fault where no token goes on

-- what is known where bytes are no token that may stand here
abbrev Stuck : Mode → List ℕ → List ℕ → Type 0
Stuck BeforeUnary w back = (bytes_eq w (codes "(") ≡ false) × (is_one_of words w ≡ true → ends_word back ≡ true)
Stuck AfterCriterion w back = Unit {0}
Stuck BeforeOperand w back = whole_from operand_begin w ≡ false
Stuck AfterUnary w back = Unit {0}

stuck_fresh : (m : Mode) (back : List ℕ) → Stuck m [] back
stuck_fresh BeforeUnary back = (refl, λ e. absurd cc)
stuck_fresh AfterCriterion back = tt
stuck_fresh BeforeOperand back = refl
stuck_fresh AfterUnary back = tt

-- a word is a criterion by its bytes
word_whole : (w : List ℕ) → is_one_of words w ≡ true → whole_from Begin w ≡ true
word_whole w one = one_of (λ v. whole_from Begin v ≡ true) words w (refl, (refl, (refl, (refl, (refl, tt))))) one

-- bytes are no token
stuck_none : (m : Mode) (k : Kept) (w back : List ℕ) → whole m w back ≡ None → Stuck m w back
stuck_none BeforeUnary k w back =
    let P : Option Token → Type 0 = λ o. o ≡ None → Stuck BeforeUnary w back in
    cond_both (bytes_eq w (codes "(")) _ _ P (λ b e. absurd cc) (λ b.
    cond_both (bytes_eq w (codes "not") && ends_word back) _ _ P (λ n e. absurd cc) (λ n.
    cond_both (is_one_of words w && ends_word back) _ _ P (λ o e. (b, λ one. (and_parts (is_one_of words w) (ends_word back) o).1)) (λ o e.
    (b, λ one. absurd (some_none (CriterionToken w) (sym e ∙ cond-true (whole_from Begin w) (Some (CriterionToken w)) None (word_whole w one)))))))
stuck_none AfterCriterion k w back = λ e. tt
stuck_none BeforeOperand k w back = cond_both (whole_from operand_begin w) _ _ (λ (o : Option Token). o ≡ None → Stuck BeforeOperand w back) (λ b e. absurd cc) (λ b e. b)
stuck_none AfterUnary k w back = λ e. tt

-- bytes are a token that may not stand here
stuck_some : (m : Mode) (k : Kept) (w back : List ℕ) (t : Token) → whole m w back ≡ Some t → taken m k t ≡ None → Stuck m w back
stuck_some BeforeUnary k w back t =
    let P : Option Token → Type 0 = λ o. o ≡ Some t → taken BeforeUnary k t ≡ None → Stuck BeforeUnary w back in
    cond_both (bytes_eq w (codes "(")) _ _ P (λ b e none. absurd cc) (λ b.
    cond_both (bytes_eq w (codes "not") && ends_word back) _ _ P (λ n e none. absurd cc) (λ n.
    cond_both (is_one_of words w && ends_word back) _ _ P (λ o e none. absurd cc) (λ o.
    cond_both (whole_from Begin w) _ _ P (λ g e none. absurd cc) (λ g e none. absurd cc))))
stuck_some AfterCriterion k w back t = λ e none. tt
stuck_some BeforeOperand k w back t = cond_both (whole_from operand_begin w) _ _ (λ (o : Option Token). o ≡ Some t → taken BeforeOperand k t ≡ None → Stuck BeforeOperand w back) (λ b e none. absurd cc) (λ b e none. b)
stuck_some AfterUnary k w back t = λ e none. tt

-- bytes begin one of these, and others
begins_any : (xs ys : List (List ℕ)) (w : List ℕ) → (begins_one_of xs w || begins_one_of ys w) ≡ true → begins_one_of (xs ++ ys) w ≡ true
begins_any xs ys w e = list_any-append (is_prefix w) xs ys ∙ e

-- what begins behind a unary
begins_behind : (k : Kept) (w : List ℕ) → begins_after_unary k w ≡ true → begins_one_of behind_tests w ≡ true
begins_behind k w e =
    elim (or_cases (begins_one_of joining w) (bytes_eq w (codes ")") && can_close k.waiting) e) [
      | inl word ↦ or_right (is_prefix w (codes ")")) (begins_one_of joining w) word
      | inr mark ↦ ap (begins_one_of behind_tests) (same_bytes w (codes ")") (and_parts (bytes_eq w (codes ")")) (can_close k.waiting) mark).0)
    ]

begun_behind : (k : Kept) (w : List ℕ) → IsBegun AfterUnary k w → begins_one_of behind_tests w ≡ true
begun_behind k [] b = refl
begun_behind k (d ∷ w) b = begins_behind k (d ∷ w) b

begun_named : (k : Kept) (w : List ℕ) → IsBegun AfterCriterion k w → begins_one_of (operators ++ behind_tests) w ≡ true
begun_named k [] b = refl
begun_named k (d ∷ w) b =
    elim (or_cases (begins_one_of operators (d ∷ w)) (begins_after_unary k (d ∷ w)) b) [
      | inl one ↦ begins_any operators behind_tests (d ∷ w) (or_left _ _ one)
      | inr behind ↦ begins_any operators behind_tests (d ∷ w) (or_right _ _ (begins_behind k (d ∷ w) behind))
    ]

begun_value : (k : Kept) (w : List ℕ) → IsBegun BeforeOperand k w → begins_from operand_begin w ≡ true
begun_value k [] b = refl
begun_value k (d ∷ w) b = b

begun_test : (k : Kept) (w : List ℕ) → bytes_eq w (codes "(") ≡ false → IsBegun BeforeUnary k w → begins_from Begin w ≡ true
begun_test k [] mark b = refl
begun_test k (d ∷ w) mark b =
    elim (or_cases (bytes_eq (d ∷ w) (codes "(")) (begins_from Begin (d ∷ w)) b) [ inl open_mark ↦ absurd cc | inr begun ↦ begun ]

-- a criterion without a fault, as far as it goes
none_wrong : (l : Language) (w : List ℕ) (at : ℕ) → begins_from Begin w ≡ true → criterion_fault l.is_tag at w ≡ None → AtNone (UnknownName l.is_tag w) × AtNone (WrongNumber l w)
none_wrong l w at b e =
    let names = or_else_none (tags_fault l.is_tag at w) _ e in
    let numbers = or_else_none (level_fault at w) (field_fault at (Some Begin) w) names.1 in
    (λ n u. unknown_fault l.is_tag w at n names.0 u, λ n u. elim u [ in_level _ h ↦ great_fault w at n numbers.0 h | in_field _ _ h ↦ wrong_fault w at n b numbers.1 h ])

-- where no token goes on, and nothing that was read is at fault
none_at : (l : Language) (a : ℕ) (r back w : List ℕ) (m : Mode) (k : Kept) (place n : ℕ) → Stuck m w back → Begun m k w back → Lay l a r back m k place w → (rules l).cut n place m k w ≡ None → NoneBefore l a r back
none_at l a r back w BeforeUnary k place n stuck b h e =
    let begun = begun_test k w stuck.0 b.0 in
    let over = criterion_over k w back b.1 in
    before_test w
    (record {
      before = h.before;
      parts = h.parts;
      follows = h.follows;
      begins = begun;
      over = over;
      fine = cond_both (is_one_of words w) None (criterion_fault l.is_tag (n - length w) w) (λ o. o ≡ None → ((is_one_of words w ≡ true) × (ends_word back ≡ true)) ⊎ (AtNone (UnknownName l.is_tag w) × AtNone (WrongNumber l w))) (λ one g. inl (one, stuck.1 one)) (λ one g. inr (none_wrong l w (n - length w) begun g)) e;
    })
none_at l a r back w AfterCriterion k place n stuck b h e =
    behind_criterion w (record { place = place; criterion = k.criterion; blanks = h.blanks; test = h.test; fine = λ at. criterion_anywhere l.is_tag place at k.criterion e; blank = h.blank }) (begun_named k w b.0)
none_at l a r back w BeforeOperand k place n stuck b h e =
    behind_operator w
    (record {
      place = place;
      criterion = k.criterion;
      blanks = h.blanks;
      operator = k.operator;
      more = h.more;
      test = h.test;
      fine = λ at. criterion_anywhere l.is_tag place at k.criterion e;
      blank = h.blank;
      blank_more = h.blank_more;
      one = h.one;
      begins = begun_value k w b.0;
      cut = stuck;
    })
none_at l a r back w AfterUnary k place n stuck b (inl h) e = behind_operand w h (begun_behind k w b.0)
none_at l a r back w AfterUnary k place n stuck b (inr h) e = behind_mark w h (begun_behind k w b.0)

-- no token goes on
refused_at : (l : Language) (a : ℕ) (r back w : List ℕ) (m : Mode) (k : Kept) (place n : ℕ) (o : Option Fault) → n ≡ a + length r → Stuck m w back → Begun m k w back → Lay l a r back m k place w → (rules l).cut n place m k w ≡ o → IsAt l a r back (or_syntax n o)
refused_at l a r back w m k place n None there stuck b h e = (there, none_at l a r back w m k place n stuck b h e)
refused_at l a r back w m k place n (Some f) there stuck b h e = cut_at l a r back w m k place n f there b h e

-- ---- where a token leads

-- before a unary
opened_by : (l : Language) (a : ℕ) (r back w : List ℕ) (d : ℕ) (m : Mode) (k : Kept) (place : ℕ) (t : Token) (k2 : Kept) → IsApart r back → Goes l a r (at_spot m k place (d ∷ w)) → Known t (d ∷ w) back → ((text : List ℕ) → is_ended t (32 ∷ text) ≡ true) → ((from place : ℕ) → (rules l).fault from place m k t ≡ None) → taken m k t ≡ Some (BeforeUnary, k2) → Opened l r back []
opened_by l a r back w d m k place t k2 apart goes known ended none e = record {
  before = r;
  parts = sym (append-nil r);
  follows = may_follow l a r back k2 apart (λ text out h. goes (32 ∷ text) ∙ (token_read (rules l) [] m k t (BeforeUnary, k2) (d ∷ w) (32 ∷ text) out none (known.text ∙ sym (append-nil (d ∷ w))) known.good (ended text) e h).reads (a + length r) place);
}

-- a token that a blank may end, and behind which a unary may begin
place_leads : (l : Language) (a : ℕ) (r back w : List ℕ) (d : ℕ) (m : Mode) (k : Kept) (place next : ℕ) (t : Token) (x : State) (k2 : Kept) → IsApart r back → Goes l a r (at_spot m k place (d ∷ w)) → Known t (d ∷ w) back → ((from place : ℕ) → (rules l).fault from place m k t ≡ None) → taken m k t ≡ Some x → ((text : List ℕ) → is_ended t (32 ∷ text) ≡ true) → taken m k t ≡ Some (BeforeUnary, k2)
    → Lay l a r back x.0 x.1 next []
place_leads l a r back w d m k place next t x k2 apart goes known none e ends is = subst (λ (y : State). Lay l a r back y.0 y.1 next []) (some_is (BeforeUnary, k2) x (sym is ∙ e)) (opened_by l a r back w d m k place t k2 apart goes known ends none is)

-- what was read ends with what has begun
abbrev EndsWith : List ℕ → List ℕ → Type 0
EndsWith r w = (before : List ℕ) × (r ≡ before ++ w)

lay_ends : (l : Language) (a : ℕ) (r back : List ℕ) (m : Mode) (k : Kept) (place : ℕ) (w : List ℕ) → Lay l a r back m k place w → EndsWith r w
lay_ends l a r back BeforeUnary k place w h = (h.before, h.parts)
lay_ends l a r back AfterCriterion k place w h = (h.test.before ++ (k.criterion ++ h.blanks), h.test.parts ∙ (simp append_assoc))
lay_ends l a r back BeforeOperand k place w h = (h.test.before ++ (k.criterion ++ (h.blanks ++ (k.operator ++ h.more))), h.test.parts ∙ (simp append_assoc))
lay_ends l a r back AfterUnary k place w (inl h) = (h.test.before ++ (h.criterion ++ (h.blanks ++ (h.operator ++ (h.more ++ (h.operand ++ h.last))))), h.test.parts ∙ (simp append_assoc))
lay_ends l a r back AfterUnary k place w (inr h) = (h.before ++ (token_text CloseMark ++ h.blanks), h.parts ∙ (simp append_assoc))

-- what was read, up to a parenthesis that closes, begins a query without a fault
closed_on : (l : Language) (a : ℕ) (r back w : List ℕ) (d : ℕ) (m : Mode) (k : Kept) (place : ℕ) (k2 : Kept) → Goes l a r (at_spot m k place (d ∷ w)) → Known CloseMark (d ∷ w) back → ((n p : ℕ) → (rules l).fault n p m k CloseMark ≡ None) → taken m k CloseMark ≡ Some (AfterUnary, k2) → CanGoOn (Fine l) r
closed_on l a r back w d m k place k2 goes known none e =
    let h = behind_in (rules l) (none_behind l) k2 in
    let ok = goes h.more ∙ (token_read (rules l) [] m k CloseMark (AfterUnary, k2) (d ∷ w) h.more h.out none (known.text ∙ sym (append-nil (d ∷ w))) known.good refl e h.ends).reads (a + length r) place in
    let q = (fine_lines_found l.is_tag l.is_decimal l.is_pattern l.most).each a (r ++ h.more) h.out ok in
    record { more = h.more; query = q.query; whole = q.is }

-- a parenthesis that closes leads behind a unary
close_leads : (l : Language) (a : ℕ) (r back w : List ℕ) (d : ℕ) (m : Mode) (k : Kept) (place : ℕ) (y : List Waiting × List Step) (x : State) (next : ℕ) → Goes l a r (at_spot m k place (d ∷ w)) → Known CloseMark (d ∷ w) back → ((n p : ℕ) → (rules l).fault n p m k CloseMark ≡ None) → EndsWith r (d ∷ w) → taken m k CloseMark ≡ closes y → closes y ≡ Some x
    → Lay l a r back x.0 x.1 next []
close_leads l a r back w d m k place ((waits.Open ∷ ws), done) x next goes known none h is e =
    let ends : r ≡ h.0 ++ token_text CloseMark = h.1 ∙ ap (λ (v : List ℕ). h.0 ++ v) (sym known.text) in
    subst (λ (s : State). Lay l a r back s.0 s.1 next []) (some_is _ x e)
    (inr
    (record {
      before = h.0;
      blanks = [];
      parts = ends;
      goes_on = subst (CanGoOn (Fine l)) ends (closed_on l a r back w d m k place (rested (tightened ws done)).1 goes known none is);
      blank = refl;
    }))
close_leads l a r back w d m k place _ x next goes known none h is e = absurd (some_none x e)

-- behind a criterion
named_leads : (l : Language) (a : ℕ) (r back v : List ℕ) (k : Kept) (place from : ℕ) → from + length v ≡ a + length r → Known (CriterionToken v) v back → begins_from Begin v ≡ true → Opened l r back v → Named l a r back [] (record k { criterion = v }) from
named_leads l a r back v k place from there known b h = record {
  blanks = [];
  blank = refl;
  test = record {
    before = h.before;
    parts = h.parts ∙ ap (λ (u : List ℕ). h.before ++ u) (sym (append-nil v));
    there = omega (arith, there, ap length h.parts, length-append h.before v);
    follows = h.follows;
    begins = b;
    over = (and_parts _ _ known.ended).0;
  };
}

signed_leads : (l : Language) (a : ℕ) (r back v : List ℕ) (k : Kept) (place : ℕ) → is_one_of operators v ≡ true → Named l a r back v k place → Signed l a r back [] (record k { operator = v }) place
signed_leads l a r back v k place one h = record {
  blanks = h.blanks;
  more = [];
  blank = h.blank;
  blank_more = refl;
  test = subst (λ (u : List ℕ). TestIn l a r back k.criterion (h.blanks ++ u) place) (sym (append-nil v)) h.test;
  one = one;
}

-- behind a comparison
rested_leads : (l : Language) (a : ℕ) (r back v : List ℕ) (k : Kept) (place : ℕ) → Known (OperandToken v) v back → ((n p : ℕ) → (rules l).fault n p BeforeOperand k (OperandToken v) ≡ None) → Signed l a r back v k place → Rested l a r back []
rested_leads l a r back v k place known none h =
    inl
    (record {
      place = place;
      criterion = k.criterion;
      blanks = h.blanks;
      operator = k.operator;
      more = h.more;
      operand = v;
      last = [];
      test = subst (λ (u : List ℕ). TestIn l a r back k.criterion (h.blanks ++ (k.operator ++ (h.more ++ u))) place) (sym (append-nil v)) h.test;
      fine = (λ n. (or_else_none _ _ (none 0 n)).0, λ n. (or_else_none (criterion_fault l.is_tag 0 k.criterion) _ (none n 0)).1);
      blank = h.blank;
      blank_more = h.blank_more;
      blank_last = refl;
      one = h.one;
      whole = known.good;
      over = known.ended;
    })

-- a token that has no fault leads on
token_leads : (l : Language) (a : ℕ) (r back w : List ℕ) (d : ℕ) (m : Mode) (k : Kept) (place from : ℕ) (t : Token) (x : State) → from + length (d ∷ w) ≡ a + length r → Goes l a r (at_spot m k place (d ∷ w)) → Known t (d ∷ w) back → ((n p : ℕ) → (rules l).fault n p m k t ≡ None) → taken m k t ≡ Some x → Lay l a r back m k place (d ∷ w)
    → Lay l a r back x.0 x.1 (place_after m from place) []
token_leads l a r back w d BeforeUnary k place from (CriterionToken v) x there goes known none e h =
    let same : d ∷ w ≡ v = sym known.text in
    subst (λ (y : State). Lay l a r back y.0 y.1 from []) (some_is _ x e)
    (named_leads l a r back v k place from (subst (λ (u : List ℕ). from + length u ≡ a + length r) same there) (subst (λ (u : List ℕ). Known (CriterionToken v) u back) same known) (whole_begins Begin v known.good) (subst (λ (u : List ℕ). Opened l r back u) same h))
token_leads l a r back w d BeforeUnary k place from NotWord x there goes known none e h = place_leads l a r back w d BeforeUnary k place from NotWord x _ (word_ends known.ended) goes known none e (λ text. refl) refl
token_leads l a r back w d BeforeUnary k place from OpenMark x there goes known none e h = place_leads l a r back w d BeforeUnary k place from OpenMark x _ (other_byte h.before 40 (h.parts ∙ ap (λ (v : List ℕ). h.before ++ v) (sym known.text)) refl) goes known none e (λ text. refl) refl
token_leads l a r back w d AfterCriterion k place from (OperatorToken v) x there goes known none e h =
    let same : d ∷ w ≡ v = sym known.text in
    subst (λ (y : State). Lay l a r back y.0 y.1 place []) (some_is _ x e) (signed_leads l a r back v k place known.good (subst (λ (u : List ℕ). Named l a r back u k place) same h))
token_leads l a r back w d AfterCriterion k place from AndWord x there goes known none e h = place_leads l a r back w d AfterCriterion k place place AndWord x _ (word_ends known.ended) goes known none e (λ text. refl) refl
token_leads l a r back w d AfterCriterion k place from OrWord x there goes known none e h = place_leads l a r back w d AfterCriterion k place place OrWord x _ (word_ends known.ended) goes known none e (λ text. refl) refl
token_leads l a r back w d AfterCriterion k place from CloseMark x there goes known none e h = close_leads l a r back w d AfterCriterion k place (loosened (tested k []).1.waiting (tested k []).1.steps) x place goes known none (lay_ends l a r back AfterCriterion k place (d ∷ w) h) refl e
token_leads l a r back w d BeforeOperand k place from (OperandToken v) x there goes known none e h =
    let same : d ∷ w ≡ v = sym known.text in
    subst (λ (y : State). Lay l a r back y.0 y.1 place []) (some_is _ x e) (rested_leads l a r back v k place (subst (λ (u : List ℕ). Known (OperandToken v) u back) same known) none (subst (λ (u : List ℕ). Signed l a r back u k place) same h))
token_leads l a r back w d AfterUnary k place from AndWord x there goes known none e h = place_leads l a r back w d AfterUnary k place place AndWord x _ (word_ends known.ended) goes known none e (λ text. refl) refl
token_leads l a r back w d AfterUnary k place from OrWord x there goes known none e h = place_leads l a r back w d AfterUnary k place place OrWord x _ (word_ends known.ended) goes known none e (λ text. refl) refl
token_leads l a r back w d AfterUnary k place from CloseMark x there goes known none e h = close_leads l a r back w d AfterUnary k place (loosened k.waiting k.steps) x place goes known none (lay_ends l a r back AfterUnary k place (d ∷ w) h) refl e
token_leads l a r back w d _ k place from _ x there goes known none e h = absurd (some_none x e)

-- ---- one byte more

-- what is known of a spot, where these bytes were read and those follow
record Seen (l : Language) (a : ℕ) (r back : List ℕ) (s : Spot) : Type 0 where
  lay : Lay l a r back s.mode s.kept s.place s.word
  begun : IsBegun s.mode s.kept s.word
  fits : length s.word ≤ length r

-- a byte leads to such a spot, or what was read before it stands at a fault
abbrev Good : Language → ℕ → List ℕ → ℕ → List ℕ → Result Spot Fault → Type 0
Good l a r c back (Ok s) = Goes l a (r ++ c ∷ []) s → Seen l a (r ++ c ∷ []) back s
Good l a r c back (Err f) = IsAt l a r (c ∷ back) f

one_longer : (w r : List ℕ) (c : ℕ) → length w ≤ length r → length (w ++ c ∷ []) ≤ length (r ++ c ∷ [])
one_longer w r c le = omega (arith, le, length-append w (c ∷ []), length-append r (c ∷ []))

good_fresh : (l : Language) (a : ℕ) (r : List ℕ) (c : ℕ) (back : List ℕ) (m : Mode) (k : Kept) (place n : ℕ) → n ≡ a + length r → Lay l a r (c ∷ back) m k place [] → Good l a r c back (fresh (rules l) n (at_spot m k place []) c)
good_fresh l a r c back m k place n there h =
    cond_both (begins m k (c ∷ [])) _ _ (Good l a r c back) (λ b goes. record { lay = lay_byte l a r c back m k place [] h; begun = b; fits = one_longer [] r c (omega arith) }) (λ b.
    cond_both (is_blank c) _ _ (Good l a r c back) (λ w goes. record { lay = lay_blank l a r c back m k place w goes h; begun = tt; fits = omega arith }) (λ w.
    refused_at l a r (c ∷ back) [] m k place n ((rules l).cut n place m k []) there (stuck_fresh m (c ∷ back)) (tt, b) h refl))

-- a token without a fault at one place has none at any
clean : (l : Language) (m : Mode) (k : Kept) (t : Token) (from place : ℕ) → (rules l).fault from place m k t ≡ None → (n p : ℕ) → (rules l).fault n p m k t ≡ None
clean l m k t from place e n p =
    let j = rules_judge l.is_tag l.is_decimal l.is_pattern l.most in
    none_is ((rules l).fault n p m k t) (j.none n p m k t ∙ sym (j.none from place m k t) ∙ ap is_none e)

-- a spot with a token that has ended, before these bytes
record Over (l : Language) (a : ℕ) (r back : List ℕ) (m : Mode) (k : Kept) (place n d : ℕ) (w : List ℕ) : Type 0 where
  there : n ≡ a + length r
  goes : Goes l a r (at_spot m k place (d ∷ w))
  lay : Lay l a r back m k place (d ∷ w)
  begun : Begun m k (d ∷ w) back
  fits : length (d ∷ w) ≤ length r

from_is : (l : Language) (a : ℕ) (r back : List ℕ) (m : Mode) (k : Kept) (place n d : ℕ) (w : List ℕ) → Over l a r back m k place n d w → n - length (d ∷ w) + length (d ∷ w) ≡ a + length r
from_is l a r back m k place n d w v = omega (arith, v.there, v.fits)

over_clean : {A : Type 0} (l : Language) (a : ℕ) (r back : List ℕ) (m : Mode) (k : Kept) (place n d : ℕ) (w : List ℕ) (P : Result A Fault → Type 0) (f : Spot → Result A Fault) → Over l a r back m k place n d w → ((g : Fault) → IsAt l a r back g → P (Err g))
    → ((m2 : Mode) (k2 : Kept) (next : ℕ) → Lay l a r back m2 k2 next [] → P (f (at_spot m2 k2 next []))) → (t : Token) → Known t (d ∷ w) back → (x : State) → taken m k t ≡ Some x → (o : Option Fault) → (rules l).fault (n - length (d ∷ w)) place m k t ≡ o
    → P (unless_fault o (at_spot x.0 x.1 (place_after m (n - length (d ∷ w)) place) []) >>= f)
over_clean l a r back m k place n d w P f v bad good t known x e (Some g) o = bad g (token_at l a r back (d ∷ w) m k place (n - length (d ∷ w)) t g (from_is l a r back m k place n d w v) known v.lay o)
over_clean l a r back m k place n d w P f v bad good t known x e None o =
    good x.0 x.1 (place_after m (n - length (d ∷ w)) place) (token_leads l a r back w d m k place (n - length (d ∷ w)) t x (from_is l a r back m k place n d w v) v.goes known (clean l m k t (n - length (d ∷ w)) place o) e v.lay)

over_taken : {A : Type 0} (l : Language) (a : ℕ) (r back : List ℕ) (m : Mode) (k : Kept) (place n d : ℕ) (w : List ℕ) (P : Result A Fault → Type 0) (f : Spot → Result A Fault) → Over l a r back m k place n d w → ((g : Fault) → IsAt l a r back g → P (Err g))
    → ((m2 : Mode) (k2 : Kept) (next : ℕ) → Lay l a r back m2 k2 next [] → P (f (at_spot m2 k2 next []))) → (t : Token) → whole m (d ∷ w) back ≡ Some t → (x : Option State) → taken m k t ≡ x → P (token_taken (rules l) n (at_spot m k place (d ∷ w)) t x >>= f)
over_taken l a r back m k place n d w P f v bad good t is None e = bad _ (refused_at l a r back (d ∷ w) m k place n _ v.there (stuck_some m k (d ∷ w) back t is e) v.begun v.lay refl)
over_taken l a r back m k place n d w P f v bad good t is (Some x) e = over_clean l a r back m k place n d w P f v bad good t (is_known m k (d ∷ w) back t v.begun.1 is) x e _ refl

-- what holds of a result, where it holds of what a token that has ended leads to and of its faults
over_done : {A : Type 0} (l : Language) (a : ℕ) (r back : List ℕ) (m : Mode) (k : Kept) (place n d : ℕ) (w : List ℕ) (P : Result A Fault → Type 0) (f : Spot → Result A Fault) → Over l a r back m k place n d w → ((g : Fault) → IsAt l a r back g → P (Err g))
    → ((m2 : Mode) (k2 : Kept) (next : ℕ) → Lay l a r back m2 k2 next [] → P (f (at_spot m2 k2 next []))) → (t : Option Token) → whole m (d ∷ w) back ≡ t → P (token_done (rules l) n (at_spot m k place (d ∷ w)) t >>= f)
over_done l a r back m k place n d w P f v bad good None is = bad _ (refused_at l a r back (d ∷ w) m k place n _ v.there (stuck_none m k (d ∷ w) back is) v.begun v.lay refl)
over_done l a r back m k place n d w P f v bad good (Some t) is = over_taken l a r back m k place n d w P f v bad good t is (taken m k t) refl

good_word : (l : Language) (a : ℕ) (r : List ℕ) (c : ℕ) (back : List ℕ) (m : Mode) (k : Kept) (place n d : ℕ) (w : List ℕ) → n ≡ a + length r → Goes l a r (at_spot m k place (d ∷ w)) → Seen l a r (c ∷ back) (at_spot m k place (d ∷ w)) → Good l a r c back (step_in (rules l) n (at_spot m k place (d ∷ w)) (d ∷ w) c)
good_word l a r c back m k place n d w there goes h =
    cond_both (begins m k ((d ∷ w) ++ c ∷ [])) _ _ (Good l a r c back) (λ b next. record { lay = lay_byte l a r c back m k place (d ∷ w) h.lay; begun = b; fits = one_longer (d ∷ w) r c h.fits }) (λ b.
    over_done l a r (c ∷ back) m k place n d w (Good l a r c back) (λ x. fresh (rules l) n x c) (record { there = there; goes = goes; lay = h.lay; begun = (h.begun, b); fits = h.fits }) (λ g is. is)
    (λ m2 k2 next lay. good_fresh l a r c back m2 k2 next n there lay) (whole m (d ∷ w) (c ∷ [])) (sym (whole_first m (d ∷ w) c back)))

good_step : (l : Language) (a : ℕ) (r : List ℕ) (c : ℕ) (back : List ℕ) (m : Mode) (k : Kept) (place n : ℕ) (w : List ℕ) → n ≡ a + length r → Goes l a r (at_spot m k place w) → Seen l a r (c ∷ back) (at_spot m k place w) → Good l a r c back (step_in (rules l) n (at_spot m k place w) w c)
good_step l a r c back m k place n [] there goes h = good_fresh l a r c back m k place n there h.lay
good_step l a r c back m k place n (d ∷ w) there goes h = good_word l a r c back m k place n d w there goes h

-- ---- the end

-- what was read stands at a fault, if there is one
abbrev Ended : Language → ℕ → List ℕ → Result (List Step) Fault → Type 0
Ended l a r (Ok out) = Unit {0}
Ended l a r (Err f) = IsAt l a r [] f

ended_unless : (l : Language) (a : ℕ) (r : List ℕ) (m : Mode) (k : Kept) (place n : ℕ) (out : List Step) (o : Option Fault) → Lay l a r [] m k place [] → (rules l).fault n place m k CloseMark ≡ o → Ended l a r (unless_fault o out)
ended_unless l a r m k place n out None h e = tt
ended_unless l a r m k place n out (Some f) h e = end_at l a r [] m k place n f h e

ended_last : (l : Language) (a : ℕ) (r : List ℕ) (m : Mode) (k : Kept) (place n : ℕ) (o : Option (List Step)) → n ≡ a + length r → Lay l a r [] m k place [] → Ended l a r (last_done (rules l) n (at_spot m k place []) o)
ended_last l a r m k place n None there h = refused_at l a r [] [] m k place n _ there (stuck_fresh m []) (tt, tt) h refl
ended_last l a r m k place n (Some out) there h = ended_unless l a r m k place n out _ h refl

ended : (l : Language) (a : ℕ) (r : List ℕ) (m : Mode) (k : Kept) (place n : ℕ) (w : List ℕ) → n ≡ a + length r → Goes l a r (at_spot m k place w) → Seen l a r [] (at_spot m k place w) → Ended l a r (finish_in (rules l) n (at_spot m k place w) w)
ended l a r m k place n [] there goes h = ended_last l a r m k place n (last m k) there h.lay
ended l a r m k place n (d ∷ w) there goes h =
    over_done l a r [] m k place n d w (Ended l a r) (λ x. last_done (rules l) n x (last x.mode x.kept)) (record { there = there; goes = goes; lay = h.lay; begun = (h.begun, tt); fits = h.fits }) (λ g is. is)
    (λ m2 k2 next lay. ended_last l a r m2 k2 next n (last m2 k2) there lay) (whole m (d ∷ w) []) refl

-- ---- a line

stands_byte : (l : Language) (a : ℕ) (r : List ℕ) (c : ℕ) (back : List ℕ) (s : Spot) (f : Fault) (x : Result Spot Fault) → Goes l a r s → step (rules l) (a + length r) s c ≡ x → Good l a r c back x → (x >>= λ y. run (rules l) (a + length r + 1) y back) ≡ Err f
    → ((y : Spot) → Goes l a (r ++ c ∷ []) y → Seen l a (r ++ c ∷ []) back y → run (rules l) (a + length (r ++ c ∷ [])) y back ≡ Err f → StandsIn l a ((r ++ c ∷ []) ++ back) f) → StandsIn l a (r ++ c ∷ back) f
unfolding run
stands_byte l a r c back s f (Ok y) goes e good g later =
    let n : a + length (r ++ c ∷ []) ≡ a + length r + 1 = omega (arith, length-append r (c ∷ [])) in
    let next : Goes l a (r ++ c ∷ []) y = (λ text. ap (run (rules l) a begin) (append_assoc r (c ∷ []) text) ∙ goes (c ∷ text) ∙ ap (λ (x : Result Spot Fault). x >>= λ z. run (rules l) (a + length r + 1) z text) e ∙ ap (λ (i : ℕ). run (rules l) i y text) (sym n)) in
    subst (λ (v : List ℕ). StandsIn l a v f) (append_assoc r (c ∷ []) back) (later y next (good next) (ap (λ (i : ℕ). run (rules l) i y back) n ∙ g))
stands_byte l a r c back s f (Err h) goes e good g later =
    let same : h ≡ f = cc in
    record {
      read = r;
      back = c ∷ back;
      parts = refl;
      dead = λ more q is. no_out h _ (sym (ap (λ (x : Result Spot Fault). x >>= λ z. run (rules l) (a + length r + 1) z more) e) ∙ sym (goes (c ∷ more)) ∙ (fine_lines_read l.is_tag l.is_decimal l.is_pattern l.most).each a (r ++ c ∷ more) q is);
      is_at = subst (IsAt l a r (c ∷ back)) same good;
    }

stands_end : (l : Language) (a : ℕ) (r : List ℕ) (s : Spot) (f : Fault) (x : Result (List Step) Fault) → Goes l a r s → run (rules l) (a + length r) s [] ≡ x → Ended l a r x → x ≡ Err f → StandsIn l a (r ++ []) f
stands_end l a r s f (Ok out) goes e good g = absurd cc
stands_end l a r s f (Err h) goes e good g =
    let same : h ≡ f = cc in
    record {
      read = r;
      back = [];
      parts = refl;
      dead = λ q is. no_out h _ (sym e ∙ sym (goes []) ∙ ap (run (rules l) a begin) (append-nil r) ∙ (fine_lines_read l.is_tag l.is_decimal l.is_pattern l.most).each a r q is);
      is_at = subst (IsAt l a r []) same good;
    }

stands_from : (l : Language) (a : ℕ) (back r : List ℕ) (s : Spot) (f : Fault) → Goes l a r s → Seen l a r back s → run (rules l) (a + length r) s back ≡ Err f → StandsIn l a (r ++ back) f
unfolding run
stands_from l a [] r s f goes h e = stands_end l a r s f _ goes refl (ended l a r s.mode s.kept s.place (a + length r) s.word refl goes h) e
stands_from l a (c ∷ back) r s f goes h e =
    stands_byte l a r c back s f (step (rules l) (a + length r) s c) goes refl (good_step l a r c back s.mode s.kept s.place (a + length r) s.word refl goes h) e (λ y next seen g. stands_from l a back (r ++ c ∷ []) y f next seen g)

-- what stands at the fault of a line
pub stands : (l : Language) (a : ℕ) (line : List ℕ) (f : Fault) → run (rules l) a begin line ≡ Err f → StandsIn l a line f
stands l a line f e =
    let here : a + 0 ≡ a = omega arith in
    let goes : Goes l a [] begin = (λ text. ap (λ (n : ℕ). run (rules l) n begin text) (sym here)) in
    let first : TestMayFollow l [] line = may_follow l a [] line start (no_bytes refl) (λ text out h. goes (32 ∷ text) ∙ h.reads (a + 0) 0) in
    stands_from l a line [] begin f goes (record { lay = record { before = []; parts = refl; follows = first }; begun = tt; fits = omega arith }) (ap (λ (n : ℕ). run (rules l) n begin line) here ∙ e)

-- ---- a text

-- a line before others, none of which is at fault before the fault in those
line_before : (l : Language) (from : ℕ) (before next : Option Written) (line : List ℕ) (lines : List (List ℕ)) (f : Fault) → ((earlier : List (List ℕ)) (all : Option Written) → AreQueries (Fine l) next earlier all → AreQueries (Fine l) before (line ∷ earlier) all) → InLines l (from + 1 + length line) next lines f → InLines l from before (line ∷ lines) f
line_before l from before next line lines f fine h =
    let place : from + 1 + length line + lines_length h.earlier ≡ from + lines_length (line ∷ h.earlier) = omega arith in
    record {
      earlier = line ∷ h.earlier;
      line = h.line;
      later = h.later;
      all = h.all;
      parts = ap (λ (ls : List (List ℕ)). line ∷ ls) h.parts;
      fine = fine h.earlier h.all h.fine;
      kept = h.kept;
      stands = subst (λ (n : ℕ). StandsIn l n h.line f) place h.stands;
    }

-- none of these lines is a query, and none was one before them
record NoneIn (from : ℕ) (before : Option Written) (lines : List (List ℕ)) (f : Fault) : Type 0 where
  none : before ≡ None
  passed : list_all is_passed lines ≡ true
  place : f ≡ Syntax (from + lines_length lines - 1)

-- lines at fault
abbrev Faults : Language → List (List ℕ) → Fault → Type 0
Faults l lines f = (from : ℕ) (before : Option Written) → read_lines (rules l) from (steps_in before) lines ≡ Err f → NoneIn from before lines f ⊎ InLines l from before lines f

-- behind a query a fault is that of a line
some_query : (l : Language) (from : ℕ) (q : Written) (lines : List (List ℕ)) (f : Fault) → NoneIn from (Some q) lines f ⊎ InLines l from (Some q) lines f → InLines l from (Some q) lines f
some_query l from q lines f (inl h) = let none = h.none in absurd cc
some_query l from q lines f (inr h) = h

line_kept : (l : Language) (from : ℕ) (before : Option Written) (line : List ℕ) (lines : List (List ℕ)) (f : Fault) (r : Result (List Step) Fault) → Faults l lines f → is_passed line ≡ false → run (rules l) from begin line ≡ r → (r >>= λ s. read_lines (rules l) (from + 1 + length line) (Some (joined_steps (steps_in before) s)) lines) ≡ Err f → InLines l from before (line ∷ lines) f
line_kept l from before line lines f (Ok s) later kept r e =
    let q = (fine_lines_found l.is_tag l.is_decimal l.is_pattern l.most).each from line s r in
    let same : Some (joined_steps (steps_in before) s) ≡ Some (steps_of (joined before q.query)) = ap (λ (t : List Step). Some t) (ap (joined_steps (steps_in before)) (sym q.steps) ∙ joined_is before q.query) in
    line_before l from before (Some (joined before q.query)) line lines f
    (λ earlier all are. subst (λ (b : Bool). MatchBool b (AreQueries (Fine l) before earlier all) ((p : Written) × Fine l line p × AreQueries (Fine l) (Some (joined before p)) earlier all)) (sym kept) (q.query, q.is, are))
    (some_query l (from + 1 + length line) (joined before q.query) lines f (later (from + 1 + length line) (Some (joined before q.query)) (sym (ap (λ (o : Option (List Step)). read_lines (rules l) (from + 1 + length line) o lines) same) ∙ e)))
line_kept l from before line lines f (Err g) later kept r e =
    let same : g ≡ f = cc in
    let none : from ≡ from + 0 = omega arith in
    record { earlier = []; line = line; later = lines; all = before; parts = refl; fine = refl; kept = kept; stands = subst (λ (n : ℕ). StandsIn l n line f) none (stands l from line f (r ∙ ap (λ (h : Fault). Err h) same)) }

line_passed : (l : Language) (from : ℕ) (before : Option Written) (line : List ℕ) (lines : List (List ℕ)) (f : Fault) → is_passed line ≡ true → NoneIn (from + 1 + length line) before lines f ⊎ InLines l (from + 1 + length line) before lines f → NoneIn from before (line ∷ lines) f ⊎ InLines l from before (line ∷ lines) f
line_passed l from before line lines f passed (inl h) =
    let place : from + 1 + length line + lines_length lines - 1 ≡ from + lines_length (line ∷ lines) - 1 = omega arith in
    inl (record { none = h.none; passed = and_from _ _ passed h.passed; place = h.place ∙ ap Syntax place })
line_passed l from before line lines f passed (inr h) =
    inr
    (line_before l from before before line lines f
    (λ earlier all are. subst (λ (b : Bool). MatchBool b (AreQueries (Fine l) before earlier all) ((p : Written) × Fine l line p × AreQueries (Fine l) (Some (joined before p)) earlier all)) (sym passed) are) h)

one_line : (l : Language) (from : ℕ) (before : Option Written) (line : List ℕ) (lines : List (List ℕ)) (f : Fault) (b : Bool) → Faults l lines f → is_passed line ≡ b → cond b (read_lines (rules l) (from + 1 + length line) (steps_in before) lines) (run (rules l) from begin line >>= λ s. read_lines (rules l) (from + 1 + length line) (Some (joined_steps (steps_in before) s)) lines) ≡ Err f → NoneIn from before (line ∷ lines) f ⊎ InLines l from before (line ∷ lines) f
one_line l from before line lines f true later passed e = line_passed l from before line lines f passed (later (from + 1 + length line) before e)
one_line l from before line lines f false later kept e = inr (line_kept l from before line lines f (run (rules l) from begin line) later kept refl e)

no_line : (from : ℕ) (before : Option Written) (f : Fault) → ended_lines from (steps_in before) ≡ Err f → NoneIn from before [] f
no_line from None f e =
    let same : f ≡ Syntax (from - 1) = cc in
    let place : from - 1 ≡ from + 0 - 1 = omega arith in
    record { none = refl; passed = refl; place = same ∙ ap Syntax place }
no_line from (Some q) f e = absurd cc

in_lines : (l : Language) (lines : List (List ℕ)) (f : Fault) → Faults l lines f
unfolding read_lines
in_lines l [] f from before e = inl (no_line from before f e)
in_lines l (line ∷ lines) f from before e = one_line l from before line lines f (is_passed line) (in_lines l lines f) refl e

-- each line but the last has a line feed behind it
text_length : (text : List ℕ) → Lined text → lines_length (lines_of text) ≡ length text + 1
text_length _ (last_line line plain) = ap lines_length (lines_last line plain) ∙ (omega arith)
text_length _ (line_then {text} line plain rest) =
    let more = text_length text rest in
    let sum : lines_length (line ∷ lines_of text) ≡ length (line ++ 10 ∷ text) + 1 = omega (arith, more, length-append line (10 ∷ text)) in
    ap lines_length (lines_more line text plain) ∙ sum

-- a text without a query
no_query : (text : List ℕ) (at : ℕ) → NoneIn 0 None (lines_of text) (Syntax at) → HasNoQuery text at
no_query text at h =
    let place : Syntax at ≡ Syntax (0 + lines_length (lines_of text) - 1) = h.place in
    let same : at ≡ 0 + lines_length (lines_of text) - 1 = cc in
    (h.passed, omega (arith, same, text_length text (lined text)))

-- other faults are those of a line
in_line : (l : Language) (text : List ℕ) (f : Fault) → ((n : ℕ) → f ≡ Syntax n → ⊥) → NoneIn 0 None (lines_of text) f ⊎ InLines l 0 None (lines_of text) f → InLines l 0 None (lines_of text) f
in_line l text f never (inl h) = absurd (never _ h.place)
in_line l text f never (inr h) = h

-- a fault of syntax is that of a line, or of a text without a query
syntax_stands : (l : Language) (text : List ℕ) (at : ℕ) → NoneIn 0 None (lines_of text) (Syntax at) ⊎ InLines l 0 None (lines_of text) (Syntax at) → Stands l text (Syntax at)
syntax_stands l text at (inl h) = inl (no_query text at h)
syntax_stands l text at (inr h) = inr h

-- what stands at the fault of a text
pub text_stands : (l : Language) (text : List ℕ) (f : Fault) → read_lines (rules l) 0 None (lines_of text) ≡ Err f → Stands l text f
text_stands l text (Syntax at) e = syntax_stands l text at (in_lines l (lines_of text) (Syntax at) 0 None e)
text_stands l text (UnknownTag at) e = in_line l text (UnknownTag at) (λ n same. absurd cc) (in_lines l (lines_of text) (UnknownTag at) 0 None e)
text_stands l text (Number at) e = in_line l text (Number at) (λ n same. absurd cc) (in_lines l (lines_of text) (Number at) 0 None e)
text_stands l text (Pattern at) e = in_line l text (Pattern at) (λ n same. absurd cc) (in_lines l (lines_of text) (Pattern at) 0 None e)
text_stands l text (Deep at) e = in_line l text (Deep at) (λ n same. absurd cc) (in_lines l (lines_of text) (Deep at) 0 None e)
