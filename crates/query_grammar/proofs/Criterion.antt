-- The table of bytes takes a criterion's parts, and no other bytes.
use Rattle.std.proofs.Common.{◌≡◌, ℕ, ◌==◌, Bool, true, false, cond, List, [], ◌∷◌, ◌++◌, length, Option, Some, None, refl, sym, ap, ◌∙◌, append_assoc, arith}
use Rattle.std.specs.Prelude.{nat_lt}
use Rattle.std.specs.List.{list_all}
use Rattle.std.proofs.lemmas.List.{append-nil}
use Rattle.std.proofs.lemmas.Bool.{and_parts, and_from, cond_both, cond-true, cond-false, eqb-true, lt-ltb}
use Rattle.query_grammar.specs.declared.lex.Quote.{Quote}
use Rattle.query_grammar.specs.declared.lex.Quote.TheVariants.{Double, Single}
use Rattle.query_grammar.specs.declared.lex.Lex.{Lex}
use Rattle.query_grammar.specs.declared.lex.Part.{Part}
use Rattle.query_grammar.specs.declared.lex.Part.TheVariants.{Prefix, Operand}
use Rattle.query_grammar.specs.declared.lex.Lex.TheVariants.{NameNext, InName, TextNext, InWord, InQuote, Escape, TextDone, FieldOpen, Field, Done}
use Rattle.query_grammar.specs.Bytes.{is_digit, is_name_byte, is_word_byte, quote_byte}
use Rattle.query_grammar.specs.Lexical.{operand_begin, behind_text, lex, lexed, lexed_from, may_end, is_last, whole_from}
use Rattle.query_grammar.specs.Criterion.{is_all, Text, Plain, Quoted, text_of, is_inside, is_text, is_some_text, prefix_text, joined_names, field_text, is_field}
use Rattle.query_grammar.proofs.Lexing.{lexed-append}

-- ---- a word or a text in quotes: its parts are taken

-- bytes that stay in one state
pub stays : (l : Lex) (test : ℕ → Bool) (w : List ℕ) → ((c : ℕ) → test c ≡ true → lex l c ≡ Some l) → list_all test w ≡ true → lexed l w ≡ Some l
stays l test [] same all = refl
stays l test (c ∷ w) same all =
    let both = and_parts (test c) (list_all test w) all in
    ap (lexed_from w) (same c both.0) ∙ stays l test w same both.1

-- the state between quotes
abbrev quote_at : Bool → Part → Quote → Lex
quote_at true p q = Escape p q
quote_at false p q = InQuote p q

quotes_taken : (escaped : Bool) (p : Part) (q : Quote) (w : List ℕ) → is_inside escaped q w ≡ true → lexed (quote_at escaped p q) (w ++ quote_byte q ∷ []) ≡ Some (TextDone p)
quotes_taken true p q [] e = absurd cc
quotes_taken false p Double [] e = refl
quotes_taken false p Single [] e = refl
quotes_taken true p q (c ∷ w) e = quotes_taken false p q w e
quotes_taken false p q (c ∷ w) e =
    let P : Bool → Type 0 = λ b. b ≡ true → lexed_from (w ++ quote_byte q ∷ []) (lex (InQuote p q) c) ≡ Some (TextDone p) in
    cond_both (c == 92) (is_inside true q w) (cond (c == quote_byte q) false (is_inside false q w)) P
    (λ back inside. ap (lexed_from (w ++ quote_byte q ∷ [])) (cond-true (c == 92) _ _ back) ∙ quotes_taken true p q w inside)
    (λ back. cond_both (c == quote_byte q) false (is_inside false q w) P
    (λ close inside. absurd cc)
    (λ close inside. ap (lexed_from (w ++ quote_byte q ∷ [])) (cond-false (c == 92) _ _ back ∙ cond-false (c == quote_byte q) _ _ close) ∙ quotes_taken false p q w inside)) e

begins_quote : (p : Part) (q : Quote) → lex (TextNext p) (quote_byte q) ≡ Some (InQuote p q)
begins_quote p Double = refl
begins_quote p Single = refl

-- where a text may end, and what may follow it does
record Ends (p : Part) (o : Option Lex) : Type 0 where
  state : Lex
  is : o ≡ Some state
  last : may_end state ≡ true
  behind : lex state 91 ≡ behind_text p 91

text_ends : (p : Part) (t : Text) → is_text t ≡ true → Ends p (lexed (TextNext p) (text_of t))
text_ends p (Plain []) e = absurd cc
text_ends p (Plain (c ∷ w)) e =
    let all = and_parts (is_word_byte c) (list_all is_word_byte w) (and_parts (nat_lt 0 (length (c ∷ w))) (list_all is_word_byte (c ∷ w)) e).1 in
    let first : lex (TextNext p) c ≡ Some (InWord p) = cond-true (is_word_byte c) _ _ all.0 in
    record { state = InWord p; is = ap (lexed_from w) first ∙ stays (InWord p) is_word_byte w (λ d h. cond-true (is_word_byte d) _ _ h) all.1; last = refl; behind = refl }
text_ends p (Quoted q w) e = record { state = TextDone p; is = ap (lexed_from (w ++ quote_byte q ∷ [])) (begins_quote p q) ∙ quotes_taken false p q w e; last = refl; behind = refl }

pub text_taken : (t : Text) → is_text t ≡ true → whole_from operand_begin (text_of t) ≡ true
text_taken t e = let h = text_ends Operand t e in ap is_last h.is ∙ h.last

-- ---- a word or a text in quotes: what is taken has these parts

pub never : (w : List ℕ) → is_last (lexed_from w None) ≡ true → ⊥
never [] e = absurd cc
never (c ∷ w) e = absurd cc

-- a text, and bytes that may stand behind it
record TextAnd (p : Part) (w : List ℕ) : Type 0 where
  text : Text
  rest : List ℕ
  good : is_text text ≡ true
  same : text_of text ++ rest ≡ w
  behind : is_last (lexed (TextDone p) rest) ≡ true

-- the bytes of a word, and what may stand behind it
record WordAnd (p : Part) (w : List ℕ) : Type 0 where
  word : List ℕ
  rest : List ℕ
  good : list_all is_word_byte word ≡ true
  same : word ++ rest ≡ w
  behind : is_last (lexed (TextDone p) rest) ≡ true

word_and : (p : Part) (w : List ℕ) → is_last (lexed (InWord p) w) ≡ true → WordAnd p w
word_and p [] e = record { word = []; rest = []; good = refl; same = refl; behind = refl }
word_and p (c ∷ w) e =
    cond_both (is_word_byte c) (Some (InWord p)) (behind_text p c) (λ o. is_last (lexed_from w o) ≡ true → WordAnd p (c ∷ w))
    (λ t g. let h = word_and p w g in record { word = c ∷ h.word; rest = h.rest; good = and_from (is_word_byte c) (list_all is_word_byte h.word) t h.good; same = ap (λ (v : List ℕ). c ∷ v) h.same; behind = h.behind })
    (λ t g. record { word = []; rest = c ∷ w; good = refl; same = refl; behind = g }) e

-- bytes up to the quote that closes, and what may stand behind it
record QuoteAnd (escaped : Bool) (p : Part) (q : Quote) (w : List ℕ) : Type 0 where
  inner : List ℕ
  rest : List ℕ
  good : is_inside escaped q inner ≡ true
  same : inner ++ quote_byte q ∷ rest ≡ w
  behind : is_last (lexed (TextDone p) rest) ≡ true

quote_and : (escaped : Bool) (p : Part) (q : Quote) (w : List ℕ) → is_last (lexed (quote_at escaped p q) w) ≡ true → QuoteAnd escaped p q w
quote_and true p q [] e = absurd cc
quote_and false p q [] e = absurd cc
quote_and true p q (c ∷ w) e =
    let h = quote_and false p q w e in
    record { inner = c ∷ h.inner; rest = h.rest; good = h.good; same = ap (λ (v : List ℕ). c ∷ v) h.same; behind = h.behind }
quote_and false p q (c ∷ w) e =
    let P : Option Lex → Type 0 = λ o. is_last (lexed_from w o) ≡ true → QuoteAnd false p q (c ∷ w) in
    cond_both (c == 92) (Some (Escape p q)) (cond (c == quote_byte q) (Some (TextDone p)) (Some (InQuote p q))) P
    (λ back g.
    let h = quote_and true p q w g in
    record { inner = c ∷ h.inner; rest = h.rest; good = cond-true (c == 92) _ _ back ∙ h.good; same = ap (λ (v : List ℕ). c ∷ v) h.same; behind = h.behind })
    (λ back. cond_both (c == quote_byte q) (Some (TextDone p)) (Some (InQuote p q)) P
    (λ close g. record { inner = []; rest = w; good = refl; same = ap (λ (x : ℕ). x ∷ w) (sym (eqb-true c (quote_byte q) close)); behind = g })
    (λ close g.
    let h = quote_and false p q w g in
    record { inner = c ∷ h.inner; rest = h.rest; good = cond-false (c == 92) _ _ back ∙ cond-false (c == quote_byte q) _ _ close ∙ h.good; same = ap (λ (v : List ℕ). c ∷ v) h.same; behind = h.behind })) e

quoted_and : (p : Part) (c : ℕ) (q : Quote) (w : List ℕ) → c ≡ quote_byte q → QuoteAnd false p q w → TextAnd p (c ∷ w)
quoted_and p c q w head h = record {
  text = Quoted q h.inner;
  rest = h.rest;
  good = h.good;
  same = ap (λ (v : List ℕ). quote_byte q ∷ v) (append_assoc h.inner (quote_byte q ∷ []) h.rest ∙ h.same) ∙ ap (λ (x : ℕ). x ∷ w) (sym head);
  behind = h.behind;
}

text_and : (p : Part) (w : List ℕ) → is_last (lexed (TextNext p) w) ≡ true → TextAnd p w
text_and p [] e = absurd cc
text_and p (c ∷ w) e =
    let P : Option Lex → Type 0 = λ o. is_last (lexed_from w o) ≡ true → TextAnd p (c ∷ w) in
    cond_both (is_word_byte c) (Some (InWord p)) (cond (c == 34) (Some (InQuote p Double)) (cond (c == 39) (Some (InQuote p Single)) None)) P
    (λ t g.
    let h = word_and p w g in
    record { text = Plain (c ∷ h.word); rest = h.rest; good = and_from _ _ (lt-ltb 0 (length (c ∷ h.word)) (omega arith)) (and_from (is_word_byte c) (list_all is_word_byte h.word) t h.good); same = ap (λ (v : List ℕ). c ∷ v) h.same; behind = h.behind })
    (λ t. cond_both (c == 34) (Some (InQuote p Double)) (cond (c == 39) (Some (InQuote p Single)) None) P
    (λ double g. quoted_and p c Double w (eqb-true c 34 double) (quote_and false p Double w g))
    (λ double. cond_both (c == 39) (Some (InQuote p Single)) None P
    (λ single g. quoted_and p c Single w (eqb-true c 39 single) (quote_and false p Single w g))
    (λ single g. absurd (never w g)))) e

-- nothing stands behind an operand
operand_done : (w : List ℕ) → is_last (lexed (TextDone Operand) w) ≡ true → w ≡ []
operand_done [] e = refl
operand_done (c ∷ w) e = absurd (never w e)

pub record IsTextOf (w : List ℕ) : Type 0 where
  pub text : Text
  pub good : is_text text ≡ true
  pub same : text_of text ≡ w

pub text_from : (w : List ℕ) → whole_from operand_begin w ≡ true → IsTextOf w
text_from w e =
    let h = text_and Operand w e in
    let none : text_of h.text ++ h.rest ≡ text_of h.text = ap (λ (v : List ℕ). text_of h.text ++ v) (operand_done h.rest h.behind) ∙ append-nil (text_of h.text) in
    record { text = h.text; good = h.good; same = sym none ∙ h.same }

-- ---- what stands behind a name: its parts are taken

-- a field behind what may have one
digits_end : (digits : List ℕ) → is_all is_digit digits ≡ true → lexed FieldOpen (digits ++ 93 ∷ []) ≡ Some Done
digits_end [] e = absurd cc
digits_end (c ∷ w) e =
    let all = and_parts (is_digit c) (list_all is_digit w) (and_parts (nat_lt 0 (length (c ∷ w))) (list_all is_digit (c ∷ w)) e).1 in
    ap (lexed_from (w ++ 93 ∷ [])) (cond-true (is_digit c) _ _ all.0)
    ∙ lexed-append w (93 ∷ []) (Some Field)
    ∙ ap (lexed_from (93 ∷ [])) (stays Field is_digit w (λ d h. cond-true (is_digit d) _ _ h) all.1)

field_taken : (l : Lex) (field : Option (List ℕ)) → may_end l ≡ true → lex l 91 ≡ Some FieldOpen → is_field field ≡ true → is_last (lexed l (field_text field)) ≡ true
field_taken l None last opens e = last
field_taken l (Some digits) last opens e = ap is_last (ap (lexed_from (digits ++ 93 ∷ [])) opens ∙ digits_end digits e)

prefix_field : (t : Text) (field : Option (List ℕ)) → is_text t ≡ true → is_field field ≡ true → is_last (lexed (TextNext Prefix) (text_of t ++ field_text field)) ≡ true
prefix_field t field e f =
    let h = text_ends Prefix t e in
    ap is_last (lexed-append (text_of t) (field_text field) (Some (TextNext Prefix)) ∙ ap (lexed_from (field_text field)) h.is) ∙ field_taken h.state field h.last h.behind f

pub name_taken : (name rest : List ℕ) → is_all is_name_byte name ≡ true → lexed NameNext (name ++ rest) ≡ lexed InName rest
name_taken [] rest e = absurd cc
name_taken (c ∷ w) rest e =
    let all = and_parts (is_name_byte c) (list_all is_name_byte w) (and_parts (nat_lt 0 (length (c ∷ w))) (list_all is_name_byte (c ∷ w)) e).1 in
    ap (lexed_from (w ++ rest)) (cond-true (is_name_byte c) _ _ all.0) ∙ lexed-append w rest (Some InName) ∙ ap (lexed_from rest) (stays InName is_name_byte w (λ d h. cond-true (is_name_byte d) _ _ h) all.1)

-- a prefix and a field behind a name
end_taken : (prefix : Option Text) (field : Option (List ℕ)) → is_some_text prefix ≡ true → is_field field ≡ true → is_last (lexed InName (prefix_text prefix ++ field_text field)) ≡ true
end_taken None field e f = field_taken InName field refl refl f
end_taken (Some t) field e f = prefix_field t field e f

-- names, a prefix and a field
pub names_taken : (name : List ℕ) (names : List (List ℕ)) (prefix : Option Text) (field : Option (List ℕ)) → list_all (is_all is_name_byte) (name ∷ names) ≡ true → is_some_text prefix ≡ true → is_field field ≡ true
    → is_last (lexed NameNext (joined_names (name ∷ names) ++ (prefix_text prefix ++ field_text field))) ≡ true
names_taken name [] prefix field e f g =
    let both = and_parts (is_all is_name_byte name) true e in
    ap is_last (name_taken name (prefix_text prefix ++ field_text field) both.0) ∙ end_taken prefix field f g
names_taken name (other ∷ names) prefix field e f g =
    let both = and_parts (is_all is_name_byte name) (list_all (is_all is_name_byte) (other ∷ names)) e in
    let end = prefix_text prefix ++ field_text field in
    let rest = joined_names (other ∷ names) in
    ap (λ (v : List ℕ). is_last (lexed NameNext v)) (append_assoc name (44 ∷ rest) end) ∙ ap is_last (name_taken name (44 ∷ (rest ++ end)) both.0) ∙ names_taken other names prefix field both.1 f g

-- ---- what stands behind a name: what is taken has these parts

-- nothing stands behind a field
done_nil : (w : List ℕ) → is_last (lexed Done w) ≡ true → w ≡ []
done_nil [] e = refl
done_nil (c ∷ w) e = absurd (never w e)

record FieldOf (w : List ℕ) : Type 0 where
  field : Option (List ℕ)
  good : is_field field ≡ true
  same : field_text field ≡ w

record DigitsOf (w : List ℕ) : Type 0 where
  digits : List ℕ
  good : list_all is_digit digits ≡ true
  same : digits ++ 93 ∷ [] ≡ w

digits_from : (w : List ℕ) → is_last (lexed Field w) ≡ true → DigitsOf w
digits_from [] e = absurd cc
digits_from (c ∷ w) e =
    let P : Option Lex → Type 0 = λ o. is_last (lexed_from w o) ≡ true → DigitsOf (c ∷ w) in
    cond_both (is_digit c) (Some Field) (cond (c == 93) (Some Done) None) P
    (λ d g. let h = digits_from w g in record { digits = c ∷ h.digits; good = and_from (is_digit c) (list_all is_digit h.digits) d h.good; same = ap (λ (v : List ℕ). c ∷ v) h.same })
    (λ d. cond_both (c == 93) (Some Done) None P
    (λ close g.
    let head : c ≡ 93 = eqb-true c 93 close in
    let rest : w ≡ [] = done_nil w g in
    record { digits = []; good = refl; same = sym (ap (λ (b : ℕ). b ∷ w) head ∙ ap (λ (v : List ℕ). 93 ∷ v) rest) })
    (λ close g. absurd (never w g))) e

field_digits : (w : List ℕ) → is_last (lexed FieldOpen w) ≡ true → (digits : List ℕ) × (is_all is_digit digits ≡ true) × (digits ++ 93 ∷ [] ≡ w)
field_digits [] e = absurd cc
field_digits (c ∷ w) e =
    cond_both (is_digit c) (Some Field) None (λ o. is_last (lexed_from w o) ≡ true → (digits : List ℕ) × (is_all is_digit digits ≡ true) × (digits ++ 93 ∷ [] ≡ c ∷ w))
    (λ d g.
    let h = digits_from w g in
    (c ∷ h.digits, and_from _ _ (lt-ltb 0 (length (c ∷ h.digits)) (omega arith)) (and_from (is_digit c) (list_all is_digit h.digits) d h.good), ap (λ (v : List ℕ). c ∷ v) h.same))
    (λ d g. absurd (never w g)) e

bracket : (c : ℕ) (w : List ℕ) → (c == 91) ≡ true → is_last (lexed FieldOpen w) ≡ true → FieldOf (c ∷ w)
bracket c w b e =
    let d = field_digits w e in
    record { field = Some d.0; good = d.1; same = ap (λ (v : List ℕ). 91 ∷ v) d.2 ∙ ap (λ (x : ℕ). x ∷ w) (sym (eqb-true c 91 b)) }

no_field : FieldOf []
no_field = record { field = None; good = refl; same = refl }

prefix_done : (w : List ℕ) → is_last (lexed (TextDone Prefix) w) ≡ true → FieldOf w
prefix_done [] e = no_field
prefix_done (c ∷ w) e = cond_both (c == 91) (Some FieldOpen) None (λ o. is_last (lexed_from w o) ≡ true → FieldOf (c ∷ w)) (λ b g. bracket c w b g) (λ b g. absurd (never w g)) e

record PrefixOf (w : List ℕ) : Type 0 where
  prefix : Text
  field : Option (List ℕ)
  good : is_text prefix ≡ true
  good_field : is_field field ≡ true
  same : text_of prefix ++ field_text field ≡ w

prefix_next : (w : List ℕ) → is_last (lexed (TextNext Prefix) w) ≡ true → PrefixOf w
prefix_next w e =
    let h = text_and Prefix w e in
    let f = prefix_done h.rest h.behind in
    record { prefix = h.text; field = f.field; good = h.good; good_field = f.good; same = ap (λ (v : List ℕ). text_of h.text ++ v) f.same ∙ h.same }

-- the bytes of names, of which the first passes, and what stands behind them
pub record NamesOf (test : List ℕ → Bool) (w : List ℕ) : Type 0 where
  pub name : List ℕ
  pub names : List (List ℕ)
  pub prefix : Option Text
  pub field : Option (List ℕ)
  pub good : test name ≡ true
  pub good_names : list_all (is_all is_name_byte) names ≡ true
  pub good_prefix : is_some_text prefix ≡ true
  pub good_field : is_field field ≡ true
  pub same : joined_names (name ∷ names) ++ (prefix_text prefix ++ field_text field) ≡ w

-- the first name has begun, or is next
abbrev pub NameOf : List ℕ → Type 0
NameOf w = NamesOf (list_all is_name_byte) w

abbrev pub NextOf : List ℕ → Type 0
NextOf w = NamesOf (is_all is_name_byte) w

-- a name goes on, or a name is next
pub record Names (w : List ℕ) : Type 0 where
  pub goes_on : is_last (lexed InName w) ≡ true → NameOf w
  pub is_next : is_last (lexed NameNext w) ≡ true → NextOf w

field_behind : (w : List ℕ) → FieldOf w → NameOf w
field_behind w h = record { name = []; names = []; prefix = None; field = h.field; good = refl; good_names = refl; good_prefix = refl; good_field = h.good; same = h.same }

-- a byte before names is one of the first
pub joined_first : (c : ℕ) (name : List ℕ) (names : List (List ℕ)) (v : List ℕ) → joined_names ((c ∷ name) ∷ names) ++ v ≡ c ∷ (joined_names (name ∷ names) ++ v)
joined_first c name [] v = refl
joined_first c name (other ∷ names) v = refl

-- a byte more of the first name
pub name_more : (c : ℕ) (w : List ℕ) → is_name_byte c ≡ true → NameOf w → NextOf (c ∷ w)
name_more c w t h = record {
  name = c ∷ h.name;
  names = h.names;
  prefix = h.prefix;
  field = h.field;
  good = and_from _ _ (lt-ltb 0 (length (c ∷ h.name)) (omega arith)) (and_from (is_name_byte c) (list_all is_name_byte h.name) t h.good);
  good_names = h.good_names;
  good_prefix = h.good_prefix;
  good_field = h.good_field;
  same = joined_first c h.name h.names (prefix_text h.prefix ++ field_text h.field) ∙ ap (λ (v : List ℕ). c ∷ v) h.same;
}

-- a name is one that has begun
next_name : (w : List ℕ) → NextOf w → NameOf w
next_name w h = record {
  name = h.name;
  names = h.names;
  prefix = h.prefix;
  field = h.field;
  good = (and_parts (nat_lt 0 (length h.name)) (list_all is_name_byte h.name) h.good).1;
  good_names = h.good_names;
  good_prefix = h.good_prefix;
  good_field = h.good_field;
  same = h.same;
}

names_go_on : (c : ℕ) (w : List ℕ) → Names w → is_last (lexed InName (c ∷ w)) ≡ true → NameOf (c ∷ w)
names_go_on c w later e =
    let P : Option Lex → Type 0 = λ o. is_last (lexed_from w o) ≡ true → NameOf (c ∷ w) in
    cond_both (is_name_byte c) (Some InName) (cond (c == 44) (Some NameNext) (cond (c == 58) (Some (TextNext Prefix)) (cond (c == 91) (Some FieldOpen) None))) P
    (λ t g. next_name (c ∷ w) (name_more c w t (later.goes_on g)))
    (λ t. cond_both (c == 44) (Some NameNext) (cond (c == 58) (Some (TextNext Prefix)) (cond (c == 91) (Some FieldOpen) None)) P
    (λ comma g.
    let h = later.is_next g in
    record { name = []; names = h.name ∷ h.names; prefix = h.prefix; field = h.field; good = refl; good_names = and_from _ _ h.good h.good_names; good_prefix = h.good_prefix; good_field = h.good_field; same = ap (λ (v : List ℕ). 44 ∷ v) h.same ∙ ap (λ (x : ℕ). x ∷ w) (sym (eqb-true c 44 comma)) })
    (λ comma. cond_both (c == 58) (Some (TextNext Prefix)) (cond (c == 91) (Some FieldOpen) None) P
    (λ colon g.
    let h = prefix_next w g in
    record { name = []; names = []; prefix = Some h.prefix; field = h.field; good = refl; good_names = refl; good_prefix = h.good; good_field = h.good_field; same = ap (λ (v : List ℕ). 58 ∷ v) h.same ∙ ap (λ (x : ℕ). x ∷ w) (sym (eqb-true c 58 colon)) })
    (λ colon. cond_both (c == 91) (Some FieldOpen) None P
    (λ b g. field_behind (c ∷ w) (bracket c w b g))
    (λ b g. absurd (never w g))))) e

pub names : (w : List ℕ) → Names w
names [] = record { goes_on = λ e. field_behind [] no_field; is_next = λ e. absurd cc }
names (c ∷ w) = record {
  goes_on = names_go_on c w (names w);
  is_next = λ e. cond_both (is_name_byte c) (Some InName) None (λ o. is_last (lexed_from w o) ≡ true → NextOf (c ∷ w)) (λ t g. name_more c w t ((names w).goes_on g)) (λ t g. absurd (never w g)) e;
}
