-- The bytes of a criterion have one list of parts, and the bytes of an operand one text.
use Rattle.std.proofs.Common.{◌≡◌, ℕ, ◌==◌, Bool, true, false, cond, List, [], ◌∷◌, ◌++◌, length, Option, Some, None, refl, sym, ap, subst, ◌∙◌, append_assoc, arith}
use Rattle.std.specs.Prelude.{not, nat_lt}
use Rattle.std.specs.List.{list_all}
use Rattle.std.proofs.lemmas.List.{append-nil}
use Rattle.std.proofs.lemmas.Bool.{and_parts, cond_both, eq-eqb}
use Rattle.std.proofs.lemmas.Bool.Decides.{nat_tests}
use Rattle.query_grammar.specs.declared.lex.Quote.{Quote}
use Rattle.query_grammar.specs.declared.lex.Quote.TheVariants.{Double, Single}
use Rattle.query_grammar.specs.Bytes.{is_digit, is_name_byte, is_word_byte, quote_byte}
use Rattle.query_grammar.specs.Criterion.{is_all, Text, Plain, Quoted, text_of, is_inside, is_text, is_some_text, prefix_text, joined_names, field_text, is_field, LevelSign, OrMore, OrLess, Level, sign_text, level_text, is_level, Parts, names_of, criterion_text, is_criterion}
pub use Rattle.query_grammar.specs.Faulty.{ends_there}
use Rattle.query_grammar.proofs.Levels.{begins_there, name_begins, regroup, is_good}

-- ---- where bytes of one kind end

-- bytes that pass end in one place, where no byte that passes comes next
cut_all : (test : ℕ → Bool) (w v a b : List ℕ) → list_all test w ≡ true → list_all test v ≡ true → ends_there test a ≡ true → ends_there test b ≡ true → w ++ a ≡ v ++ b → (w ≡ v) × (a ≡ b)
cut_all test [] [] a b all_w all_v end_a end_b same = (refl, same)
cut_all test [] (d ∷ v) a b all_w all_v end_a end_b same =
    let passes = (and_parts (test d) (list_all test v) all_v).0 in
    let fails : not (test d) ≡ true = sym (ap (ends_there test) same) ∙ end_a in
    absurd cc
cut_all test (c ∷ w) [] a b all_w all_v end_a end_b same =
    let passes = (and_parts (test c) (list_all test w) all_w).0 in
    let fails : not (test c) ≡ true = ap (ends_there test) same ∙ end_b in
    absurd cc
cut_all test (c ∷ w) (d ∷ v) a b all_w all_v end_a end_b same =
    let first : c ≡ d = cc in
    let later : w ++ a ≡ v ++ b = cc in
    let rest = cut_all test w v a b (and_parts (test c) (list_all test w) all_w).1 (and_parts (test d) (list_all test v) all_v).1 end_a end_b later in
    let rest_same : w ≡ v = rest.0 in
    (cc, rest.1)

-- one byte or more that pass end in one place
cut_some : (test : ℕ → Bool) (w v a b : List ℕ) → is_all test w ≡ true → is_all test v ≡ true → ends_there test a ≡ true → ends_there test b ≡ true → w ++ a ≡ v ++ b → (w ≡ v) × (a ≡ b)
cut_some test w v a b all_w all_v end_a end_b same =
    cut_all test w v a b (and_parts (nat_lt 0 (length w)) (list_all test w) all_w).1 (and_parts (nat_lt 0 (length v)) (list_all test v) all_v).1 end_a end_b same

-- ---- a text in quotes

-- between quotes, what follows a byte is escaped where the byte is a backslash
inside_next : (q : Quote) (c : ℕ) (w : List ℕ) → is_inside false q (c ∷ w) ≡ true → is_inside (c == 92) q w ≡ true
inside_next q c w e =
    let P : Bool → Type 0 = λ b. b ≡ true → is_inside (c == 92) q w ≡ true in
    cond_both (c == 92) (is_inside true q w) (cond (c == quote_byte q) false (is_inside false q w)) P
    (λ back inside. ap (λ (b : Bool). is_inside b q w) back ∙ inside)
    (λ back. cond_both (c == quote_byte q) false (is_inside false q w) P
    (λ close inside. absurd cc)
    (λ close inside. ap (λ (b : Bool). is_inside b q w) back ∙ inside)) e

-- between quotes stands no such quote
no_quote : (q : Quote) (w : List ℕ) → is_inside false q (quote_byte q ∷ w) ≡ true → ⊥
no_quote Double w e = absurd cc
no_quote Single w e = absurd cc

-- a byte between quotes isn't the quote
no_quote_first : (q : Quote) (c : ℕ) (w : List ℕ) → c ≡ quote_byte q → is_inside false q (c ∷ w) ≡ true → ⊥
no_quote_first q c w same e = no_quote q w (subst (λ (x : ℕ). is_inside false q (x ∷ w) ≡ true) same e)

-- bytes between quotes end in one place, where they are closed
cut_quote : (escaped : Bool) (q : Quote) (w v a b : List ℕ) → is_inside escaped q w ≡ true → is_inside escaped q v ≡ true → w ++ quote_byte q ∷ a ≡ v ++ quote_byte q ∷ b → (w ≡ v) × (a ≡ b)
cut_quote true q (c ∷ w) (d ∷ v) a b good_w good_v same =
    let first : c ≡ d = cc in
    let later : w ++ quote_byte q ∷ a ≡ v ++ quote_byte q ∷ b = cc in
    let rest = cut_quote false q w v a b good_w good_v later in
    let rest_same : w ≡ v = rest.0 in
    (cc, rest.1)
cut_quote false q [] [] a b good_w good_v same =
    let later : a ≡ b = cc in
    (refl, later)
cut_quote false q [] (d ∷ v) a b good_w good_v same =
    let first : d ≡ quote_byte q = cc in
    absurd (no_quote_first q d v first good_v)
cut_quote false q (c ∷ w) [] a b good_w good_v same =
    let first : c ≡ quote_byte q = cc in
    absurd (no_quote_first q c w first good_w)
cut_quote false q (c ∷ w) (d ∷ v) a b good_w good_v same =
    let first : c ≡ d = cc in
    let later : w ++ quote_byte q ∷ a ≡ v ++ quote_byte q ∷ b = cc in
    let next_v : is_inside (c == 92) q v ≡ true = ap (λ (x : ℕ). is_inside (x == 92) q v) first ∙ inside_next q d v good_v in
    let rest = cut_quote (c == 92) q w v a b (inside_next q c w good_w) next_v later in
    let rest_same : w ≡ v = rest.0 in
    (cc, rest.1)
cut_quote true q _ _ a b good_w good_v same = absurd cc

-- ---- an operand

-- a quote is no byte of words
no_word_quote : (q : Quote) → is_word_byte (quote_byte q) ≡ false
no_word_quote Double = refl
no_word_quote Single = refl

-- the two quotes differ
same_quote : (p q : Quote) → quote_byte p ≡ quote_byte q → p ≡ q
same_quote Double Double e = refl
same_quote Double Single e = let clash : true ≡ false = ap (λ (c : ℕ). c == 34) e in absurd cc
same_quote Single Double e = let clash : true ≡ false = ap (λ (c : ℕ). c == 39) e in absurd cc
same_quote Single Single e = refl

-- a word doesn't begin with a quote
no_quoted_word : (w a b : List ℕ) (q : Quote) → is_all is_word_byte w ≡ true → w ++ a ≡ quote_byte q ∷ b → ⊥
no_quoted_word [] a b q e same = absurd cc
no_quoted_word (c ∷ w) a b q e same =
    let passes = (and_parts (is_word_byte c) (list_all is_word_byte w) (and_parts (nat_lt 0 (length (c ∷ w))) (list_all is_word_byte (c ∷ w)) e).1).0 in
    let first : c ≡ quote_byte q = cc in
    let fails : is_word_byte c ≡ false = ap is_word_byte first ∙ no_word_quote q in
    absurd cc

-- bytes behind a text in quotes stand behind its last quote
quoted_rest : (q : Quote) (w a : List ℕ) → text_of (Quoted q w) ++ a ≡ quote_byte q ∷ (w ++ quote_byte q ∷ a)
quoted_rest q w a = ap (λ (v : List ℕ). quote_byte q ∷ v) (append_assoc w (quote_byte q ∷ []) a)

-- texts in quotes end in one place
cut_quoted : (p q : Quote) (w v a b : List ℕ) → is_inside false p w ≡ true → is_inside false q v ≡ true → p ≡ q → w ++ quote_byte p ∷ a ≡ v ++ quote_byte q ∷ b → (Quoted p w ≡ Quoted q v) × (a ≡ b)
cut_quoted p q w v a b good_w good_v quotes same =
    let rest = cut_quote false q w v a b (subst (λ (x : Quote). is_inside false x w ≡ true) quotes good_w) good_v (subst (λ (x : Quote). w ++ quote_byte x ∷ a ≡ v ++ quote_byte q ∷ b) quotes same) in
    let rest_same : w ≡ v = rest.0 in
    (cc, rest.1)

-- a text ends in one place, where no byte of words comes next
cut_text : (t u : Text) (a b : List ℕ) → is_text t ≡ true → is_text u ≡ true → ends_there is_word_byte a ≡ true → ends_there is_word_byte b ≡ true → text_of t ++ a ≡ text_of u ++ b → (t ≡ u) × (a ≡ b)
cut_text (Plain w) (Plain v) a b good_t good_u end_a end_b same =
    let rest = cut_some is_word_byte w v a b good_t good_u end_a end_b same in
    (ap Plain rest.0, rest.1)
cut_text (Plain w) (Quoted q v) a b good_t good_u end_a end_b same =
    absurd (no_quoted_word w a (v ++ quote_byte q ∷ b) q good_t (same ∙ quoted_rest q v b))
cut_text (Quoted q w) (Plain v) a b good_t good_u end_a end_b same =
    absurd (no_quoted_word v b (w ++ quote_byte q ∷ a) q good_u (sym same ∙ quoted_rest q w a))
cut_text (Quoted p w) (Quoted q v) a b good_t good_u end_a end_b same =
    let parts : quote_byte p ∷ (w ++ quote_byte p ∷ a) ≡ quote_byte q ∷ (v ++ quote_byte q ∷ b) = sym (quoted_rest p w a) ∙ same ∙ quoted_rest q v b in
    let first : quote_byte p ≡ quote_byte q = cc in
    let later : w ++ quote_byte p ∷ a ≡ v ++ quote_byte q ∷ b = cc in
    cut_quoted p q w v a b good_t good_u (same_quote p q first) later

-- the bytes of an operand have one text
pub one_text : (t u : Text) → is_text t ≡ true → is_text u ≡ true → text_of t ≡ text_of u → t ≡ u
one_text t u good_t good_u same =
    (cut_text t u [] [] good_t good_u refl refl (append-nil (text_of t) ∙ same ∙ sym (append-nil (text_of u)))).0

-- ---- what stands behind a name

-- bytes that begin differently differ
no_same_first : (c d : ℕ) (w v : List ℕ) → (c == d) ≡ false → c ∷ w ≡ d ∷ v → ⊥
no_same_first c d w v other same =
    let first : c ≡ d = cc in
    let equal : (c == d) ≡ true = eq-eqb c d first in
    absurd cc

-- the bytes of a field have one field
one_field : (f g : Option (List ℕ)) → is_field f ≡ true → is_field g ≡ true → field_text f ≡ field_text g → f ≡ g
one_field None None good_f good_g same = refl
one_field (Some w) (Some v) good_f good_g same =
    let later : w ++ 93 ∷ [] ≡ v ++ 93 ∷ [] = cc in
    ap Some (cut_some is_digit w v (93 ∷ []) (93 ∷ []) good_f good_g refl refl later).0
one_field _ _ good_f good_g same = absurd cc

-- a field doesn't begin with a byte of words
field_ends : (f : Option (List ℕ)) → ends_there is_word_byte (field_text f) ≡ true
field_ends None = refl
field_ends (Some w) = refl

-- a prefix and a field don't begin with a byte of names, and with no comma
end_ends : (prefix : Option Text) (field : Option (List ℕ)) → ends_there is_name_byte (prefix_text prefix ++ field_text field) ≡ true
end_ends None None = refl
end_ends None (Some digits) = refl
end_ends (Some t) field = refl

no_comma : (prefix : Option Text) (field : Option (List ℕ)) (v : List ℕ) → prefix_text prefix ++ field_text field ≡ 44 ∷ v → ⊥
no_comma None None v same = absurd cc
no_comma None (Some digits) v same = no_same_first 91 44 (digits ++ 93 ∷ []) v refl same
no_comma (Some t) field v same = no_same_first 58 44 (text_of t ++ field_text field) v refl same

-- a field doesn't begin with another mark
no_field_mark : (c : ℕ) (w : List ℕ) (f : Option (List ℕ)) → (c == 91) ≡ false → c ∷ w ≡ field_text f → ⊥
no_field_mark c w None other same = absurd cc
no_field_mark c w (Some digits) other same = no_same_first c 91 w (digits ++ 93 ∷ []) other same

-- the bytes of a prefix and a field have one prefix and one field
cut_end : (t u : Option Text) (f g : Option (List ℕ)) → is_some_text t ≡ true → is_some_text u ≡ true → is_field f ≡ true → is_field g ≡ true → prefix_text t ++ field_text f ≡ prefix_text u ++ field_text g → (t ≡ u) × (f ≡ g)
cut_end None None f g good_t good_u good_f good_g same = (refl, one_field f g good_f good_g same)
cut_end None (Some u) f g good_t good_u good_f good_g same = absurd (no_field_mark 58 (text_of u ++ field_text g) f refl (sym same))
cut_end (Some t) None f g good_t good_u good_f good_g same = absurd (no_field_mark 58 (text_of t ++ field_text f) g refl same)
cut_end (Some t) (Some u) f g good_t good_u good_f good_g same =
    let later : text_of t ++ field_text f ≡ text_of u ++ field_text g = cc in
    let rest = cut_text t u (field_text f) (field_text g) good_t good_u (field_ends f) (field_ends g) later in
    (ap Some rest.0, one_field f g good_f good_g rest.1)

-- the names before a prefix and a field end in one place
record SameNames (name other : List ℕ) (names others : List (List ℕ)) (a b : List ℕ) : Type 0 where
  first : name ≡ other
  later : names ≡ others
  rest : a ≡ b

cut_names : (name other : List ℕ) (names others : List (List ℕ)) (t u : Option Text) (f g : Option (List ℕ)) → list_all (is_all is_name_byte) (name ∷ names) ≡ true → list_all (is_all is_name_byte) (other ∷ others) ≡ true
    → joined_names (name ∷ names) ++ (prefix_text t ++ field_text f) ≡ joined_names (other ∷ others) ++ (prefix_text u ++ field_text g) → SameNames name other names others (prefix_text t ++ field_text f) (prefix_text u ++ field_text g)
cut_names name other [] [] t u f g good_n good_o same =
    let rest = cut_some is_name_byte name other (prefix_text t ++ field_text f) (prefix_text u ++ field_text g) (and_parts (is_all is_name_byte name) true good_n).0 (and_parts (is_all is_name_byte other) true good_o).0 (end_ends t f) (end_ends u g) same in
    record { first = rest.0; later = refl; rest = rest.1 }
cut_names name other [] (second ∷ others) t u f g good_n good_o same =
    let end = prefix_text u ++ field_text g in
    let more = joined_names (second ∷ others) in
    let rest = cut_some is_name_byte name other (prefix_text t ++ field_text f) (44 ∷ (more ++ end)) (and_parts (is_all is_name_byte name) true good_n).0 (and_parts (is_all is_name_byte other) _ good_o).0 (end_ends t f) refl (same ∙ append_assoc other (44 ∷ more) end) in
    absurd (no_comma t f (more ++ end) rest.1)
cut_names name other (second ∷ names) [] t u f g good_n good_o same =
    let end = prefix_text t ++ field_text f in
    let more = joined_names (second ∷ names) in
    let rest = cut_some is_name_byte name other (44 ∷ (more ++ end)) (prefix_text u ++ field_text g) (and_parts (is_all is_name_byte name) _ good_n).0 (and_parts (is_all is_name_byte other) true good_o).0 refl (end_ends u g) (sym (append_assoc name (44 ∷ more) end) ∙ same) in
    absurd (no_comma u g (more ++ end) (sym rest.1))
cut_names name other (second ∷ names) (third ∷ others) t u f g good_n good_o same =
    let a = prefix_text t ++ field_text f in
    let b = prefix_text u ++ field_text g in
    let x = joined_names (second ∷ names) in
    let y = joined_names (third ∷ others) in
    let both_n = and_parts (is_all is_name_byte name) (list_all (is_all is_name_byte) (second ∷ names)) good_n in
    let both_o = and_parts (is_all is_name_byte other) (list_all (is_all is_name_byte) (third ∷ others)) good_o in
    let rest = cut_some is_name_byte name other (44 ∷ (x ++ a)) (44 ∷ (y ++ b)) both_n.0 both_o.0 refl refl (sym (append_assoc name (44 ∷ x) a) ∙ same ∙ append_assoc other (44 ∷ y) b) in
    let behind : 44 ∷ (x ++ a) ≡ 44 ∷ (y ++ b) = rest.1 in
    let later : x ++ a ≡ y ++ b = cc in
    let h = cut_names second third names others t u f g both_n.1 both_o.1 later in
    record { first = rest.0; later = ap (λ (n : List ℕ). n ∷ names) h.first ∙ ap (λ (ns : List (List ℕ)). third ∷ ns) h.later; rest = h.rest }

-- ---- a level

-- behind a level's digits stands no digit
pub sign_ends : (operator : Option LevelSign) (a : List ℕ) → ends_there is_digit (sign_text operator ++ 125 ∷ a) ≡ true
sign_ends None a = refl
sign_ends (Some OrMore) a = refl
sign_ends (Some OrLess) a = refl

-- a level's sign ends in one place
cut_sign : (s t : Option LevelSign) (a b : List ℕ) → sign_text s ++ 125 ∷ a ≡ sign_text t ++ 125 ∷ b → (s ≡ t) × (a ≡ b)
cut_sign None None a b same = let later : a ≡ b = cc in (refl, later)
cut_sign None (Some OrMore) a b same = absurd (no_same_first 125 43 a (125 ∷ b) refl same)
cut_sign None (Some OrLess) a b same = absurd (no_same_first 125 45 a (125 ∷ b) refl same)
cut_sign (Some OrMore) None a b same = absurd (no_same_first 43 125 (125 ∷ a) b refl same)
cut_sign (Some OrMore) (Some OrMore) a b same = let later : a ≡ b = cc in (refl, later)
cut_sign (Some OrMore) (Some OrLess) a b same = absurd (no_same_first 43 45 (125 ∷ a) (125 ∷ b) refl same)
cut_sign (Some OrLess) None a b same = absurd (no_same_first 45 125 (125 ∷ a) b refl same)
cut_sign (Some OrLess) (Some OrMore) a b same = absurd (no_same_first 45 43 (125 ∷ a) (125 ∷ b) refl same)
cut_sign (Some OrLess) (Some OrLess) a b same = let later : a ≡ b = cc in (refl, later)

-- bytes behind a level stand behind its last brace
pub level_bytes : (l : Level) (a : List ℕ) → level_text (Some l) ++ a ≡ 123 ∷ (l.digits ++ (sign_text l.operator ++ 125 ∷ a))
level_bytes l a = simp append_assoc

-- the brace is no byte of names
pub no_name_brace : (c : ℕ) → is_name_byte c ≡ true → (c == 123) ≡ false
no_name_brace c e = grind (arith, nat_tests)

-- names don't begin as a level does
pub no_level_name : (v b : List ℕ) → begins_there is_name_byte v ≡ true → v ≡ 123 ∷ b → ⊥
no_level_name [] b e same = absurd cc
no_level_name (c ∷ w) b e same = no_same_first c 123 w b (no_name_brace c e) same

-- levels with the same digits and operator are the same
same_level : (l m : Level) → l.digits ≡ m.digits → l.operator ≡ m.operator → l ≡ m
same_level l m digits operator =
    ap (λ (w : List ℕ). record { digits = w; operator = l.operator }) digits
    ∙ ap (λ (s : Option LevelSign). record { digits = m.digits; operator = s }) operator

-- a level ends in one place
cut_level : (l m : Level) (a b : List ℕ) → is_all is_digit l.digits ≡ true → is_all is_digit m.digits ≡ true → level_text (Some l) ++ a ≡ level_text (Some m) ++ b → (Some l ≡ Some m) × (a ≡ b)
cut_level l m a b good_l good_m same =
    let parts : 123 ∷ (l.digits ++ (sign_text l.operator ++ 125 ∷ a)) ≡ 123 ∷ (m.digits ++ (sign_text m.operator ++ 125 ∷ b)) = sym (level_bytes l a) ∙ same ∙ level_bytes m b in
    let later : l.digits ++ (sign_text l.operator ++ 125 ∷ a) ≡ m.digits ++ (sign_text m.operator ++ 125 ∷ b) = cc in
    let digits = cut_some is_digit l.digits m.digits (sign_text l.operator ++ 125 ∷ a) (sign_text m.operator ++ 125 ∷ b) good_l good_m (sign_ends l.operator a) (sign_ends m.operator b) later in
    let rest = cut_sign l.operator m.operator a b digits.1 in
    (ap Some (same_level l m digits.0 rest.0), rest.1)

-- a level, or none, ends in one place, where a name comes next
cut_levels : (l m : Option Level) (a b : List ℕ) → is_level l ≡ true → is_level m ≡ true → begins_there is_name_byte a ≡ true → begins_there is_name_byte b ≡ true → level_text l ++ a ≡ level_text m ++ b → (l ≡ m) × (a ≡ b)
cut_levels None None a b good_l good_m e f same = (refl, same)
cut_levels None (Some m) a b good_l good_m e f same = absurd (no_level_name a (m.digits ++ (sign_text m.operator ++ 125 ∷ b)) e (same ∙ level_bytes m b))
cut_levels (Some l) None a b good_l good_m e f same = absurd (no_level_name b (l.digits ++ (sign_text l.operator ++ 125 ∷ a)) f (sym same ∙ level_bytes l a))
cut_levels (Some l) (Some m) a b good_l good_m e f same = cut_level l m a b good_l good_m same

-- ---- a criterion

-- parts that are the same one by one are the same
same_parts : (p q : Parts) → p.level ≡ q.level → p.name ≡ q.name → p.names ≡ q.names → p.prefix ≡ q.prefix → p.field ≡ q.field → p ≡ q
same_parts p q level name names prefix field =
    ap (λ (l : Option Level). record p { level = l }) level
    ∙ ap (λ (w : List ℕ). record p { level = q.level; name = w }) name
    ∙ ap (λ (ws : List (List ℕ)). record p { level = q.level; name = q.name; names = ws }) names
    ∙ ap (λ (t : Option Text). record q { prefix = t; field = p.field }) prefix
    ∙ ap (λ (f : Option (List ℕ)). record q { field = f }) field

-- the bytes of a criterion have one list of parts
pub one_parts : (p q : Parts) → is_criterion p ≡ true → is_criterion q ≡ true → criterion_text p ≡ criterion_text q → p ≡ q
one_parts p q good_p good_q same =
    let g = is_good p good_p in
    let h = is_good q good_q in
    let parts = sym (regroup (level_text p.level) (joined_names (names_of p)) (prefix_text p.prefix) (field_text p.field)) ∙ same ∙ regroup (level_text q.level) (joined_names (names_of q)) (prefix_text q.prefix) (field_text q.field) in
    let levels = cut_levels p.level q.level (joined_names (names_of p) ++ (prefix_text p.prefix ++ field_text p.field)) (joined_names (names_of q) ++ (prefix_text q.prefix ++ field_text q.field)) g.level h.level
    (name_begins p.name p.names (prefix_text p.prefix ++ field_text p.field) g.names) (name_begins q.name q.names (prefix_text q.prefix ++ field_text q.field) h.names) parts in
    let names = cut_names p.name q.name p.names q.names p.prefix q.prefix p.field q.field g.names h.names levels.1 in
    let end = cut_end p.prefix q.prefix p.field q.field g.prefix h.prefix g.field h.field names.rest in
    same_parts p q levels.0 names.first names.later end.0 end.1
