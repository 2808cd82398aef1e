-- What is read as a formatter is written as it.
use Rattle.std.proofs.Common.{◌≡◌, ◌≢◌, ℕ, ◌+◌, Bool, true, false, eqb, List, [], ◌∷◌, ◌++◌, length, take, drop, Option, Some, None, refl, sym, ap, subst, ◌∙◌, append_assoc}
use Rattle.std.specs.Prelude.{◌==◌, codes, if◌then◌else◌, option_map, option_and_then, IfSome}
use Rattle.std.specs.List.{flat_map, list_any, position_or_len}
use Rattle.std.specs.Str.{bytes_eq}
use Rattle.std.proofs.lemmas.Bool.{eqb-true, or_parts}
use Rattle.std.proofs.lemmas.List.{append-nil, take-append-drop}
use Rattle.std.proofs.lemmas.List.Folds.{list_any-append}
use Rattle.std.proofs.lemmas.Slice.Eq.{bytes_eq-Decides}
use Rattle.vsl_decimal.specs.Prefix.{colon}
use Rattle.vsl_decimal.proofs.WholeLemmas.{Writes, whole_number-writes}
use Rattle.vsl_tags.specs.Called.{IsTagName, tag_called}
use Rattle.vsl_tags.proofs.CalledLemmas.{IsTagName-from}
use Rattle.ncsa_format.specs.declared.formatter.Formatter.{Formatter}
use Rattle.ncsa_format.specs.declared.formatter.Formatter.TheVariants.{Time, RequestHeader, ResponseHeader, FirstByte, HitMiss, Handling, Mark, Vxid, LogKey}
use Rattle.ncsa_format.specs.declared.formatter.TimeForm.{TimeForm}
use Rattle.ncsa_format.specs.declared.formatter.TimeForm.TheVariants as forms
use Rattle.ncsa_format.specs.declared.formatter.TimePart.{TimePart}
use Rattle.ncsa_format.specs.declared.formatter.TimePart.TheVariants as parts
use Rattle.ncsa_format.specs.Formatter.{IsFieldPart, IsForm, IsName, IsPrefixPart, IsWritten, brace, braced, bracket, percent, written_part}
use Rattle.ncsa_format.specs.Reading.{before_last, begins, behind_name, extra_named, field_asked, field_number, form_named, formatter_at, formatter_lettered, formatter_named, onto, part_asked, part_named, prefix_asked, record_named, tag_part, time_parts, with_rest}
use Rattle.ncsa_format.specs.inside.Cut.{Begins}
use Rattle.ncsa_format.proofs.CutLemmas.{cut_of}
use Rattle.ncsa_format.proofs.FormatterLemmas.{braced_is}
use Rattle.ncsa_format.proofs.PartLemmas.{part_is}

-- one choice
chosen : {A : Type 0} (P : A → Type 0) (t : Bool) (x : A) (o : Option A) → (t ≡ true → P x) → IfSome o P → IfSome (if t then Some x else o) P
chosen P true x o here rest = here refl
chosen P false x o here rest = rest

-- the same, where the rest is made where it isn't this
chosen_else : {A : Type 0} (P : A → Type 0) (t : Bool) (x : A) (o : Option A) → (t ≡ true → P x) → (t ≡ false → IfSome o P) → IfSome (if t then Some x else o) P
chosen_else P true x o here rest = here refl
chosen_else P false x o here rest = rest refl

-- what is made of what is given
mapped : {A B : Type 0} (P : A → Type 0) (Q : B → Type 0) (f : A → B) (o : Option A) → IfSome o P → ((x : A) → P x → Q (f x)) → IfSome (option_map f o) Q
mapped P Q f None is so = tt
mapped P Q f (Some x) is so = so x is

-- the same of two steps
then_mapped : {A B : Type 0} (P : A → Type 0) (Q : B → Type 0) (f : A → Option B) (o : Option A) → IfSome o P → ((x : A) → P x → IfSome (f x) Q) → IfSome (option_and_then f o) Q
then_mapped P Q f None is so = tt
then_mapped P Q f (Some x) is so = so x is

-- what follows of what is given
given_so : {A : Type 0} (P Q : A → Type 0) (o : Option A) → IfSome o P → ((x : A) → P x → Q x) → IfSome o Q
given_so P Q None is so = tt
given_so P Q (Some x) is so = so x is

-- a byte that is tested to be this one
same_byte : (b c : ℕ) → (b == c) ≡ true → b ∷ [] ≡ c ∷ []
same_byte b c e = ap (λ (x : ℕ). x ∷ []) (eqb-true b c e)

lettered : (b : ℕ) → IfSome (formatter_lettered b) (λ f. IsWritten f (b ∷ []))
lettered b = search (chosen, same_byte) depth 40

-- ---- times

same_directive : (b c : ℕ) → (b == c) ≡ true → percent ∷ b ∷ [] ≡ percent ∷ c ∷ []
same_directive b c e = ap (λ (x : ℕ). percent ∷ x ∷ []) (eqb-true b c e)

directive : (b : ℕ) → IfSome (part_named b) (λ p. percent ∷ b ∷ [] ≡ written_part p)
directive b = search (chosen, same_directive) depth 40

onto_written : (front text : List ℕ) (o : Option TimePart) (ps : Option (List TimePart)) → IfSome o (λ p. front ≡ written_part p) → IfSome ps (λ all. text ≡ flat_map written_part all)
    → IfSome (onto o ps) (λ all. front ++ text ≡ flat_map written_part all)
onto_written front text None ps is so = tt
onto_written front text (Some p) None is so = tt
onto_written front text (Some p) (Some all) is so = ap (λ x. x ++ text) is ∙ ap (λ x. written_part p ++ x) so

byte_written : (b : ℕ) → eqb b percent ≡ false → b ∷ [] ≡ written_part (parts.Byte b)
byte_written b e = sym (ap (λ (t : Bool). if t then codes "%%" else b ∷ []) e)

last_part : (t : Bool) (b : ℕ) → eqb b percent ≡ t → IfSome (if t then None else Some (parts.Byte b ∷ [])) (λ all. b ∷ [] ≡ flat_map written_part all)
last_part true b e = tt
last_part false b e = byte_written b e ∙ sym (append-nil (written_part (parts.Byte b)))

next_part : (t : Bool) (b c : ℕ) (text : List ℕ) → eqb b percent ≡ t → IfSome (time_parts text) (λ all. text ≡ flat_map written_part all) → IfSome (time_parts (c ∷ text)) (λ all. c ∷ text ≡ flat_map written_part all)
    → IfSome (if t then onto (part_named c) (time_parts text) else onto (Some (parts.Byte b)) (time_parts (c ∷ text))) (λ all. b ∷ c ∷ text ≡ flat_map written_part all)
next_part true b c text e two one =
    subst (λ x. IfSome (onto (part_named c) (time_parts text)) (λ all. x ∷ c ∷ text ≡ flat_map written_part all)) (sym (eqb-true b percent e))
    (onto_written (percent ∷ c ∷ []) text (part_named c) (time_parts text) (directive c) two)
next_part false b c text e two one = onto_written (b ∷ []) (c ∷ text) (Some (parts.Byte b)) (time_parts (c ∷ text)) (byte_written b e) one

-- the parts of a time are written so
parts_written : (text : List ℕ) → IfSome (time_parts text) (λ all. text ≡ flat_map written_part all)
parts_written [] = refl
parts_written (b ∷ []) = last_part (eqb b percent) b refl
parts_written (b ∷ c ∷ text) = next_part (eqb b percent) b c text refl (parts_written text) (parts_written (c ∷ text))

-- texts that aren't equal differ
unequal : (a b : List ℕ) → bytes_eq a b ≡ false → a ≢ b
unequal a b e is = let same = (bytes_eq-Decides a b).1 is in absurd cc

equal : (a b : List ℕ) → bytes_eq a b ≡ true → a ≡ b
equal a b e = (bytes_eq-Decides a b).0 e

-- a form is written as it is read
form_written : (name : List ℕ) → IfSome (form_named name) (λ form. IsForm form name)
form_written name =
    let P = λ (form : TimeForm). IsForm form name in
    chosen_else P (bytes_eq name (codes "sec")) forms.Seconds _ (equal name _) (λ sec.
    chosen_else P (bytes_eq name (codes "msec")) forms.Millis _ (equal name _) (λ msec.
    chosen_else P (bytes_eq name (codes "usec")) forms.Micros _ (equal name _) (λ usec.
    chosen_else P (bytes_eq name (codes "msec_frac")) forms.MillisPart _ (equal name _) (λ msec_frac.
    chosen_else P (bytes_eq name (codes "usec_frac")) forms.MicrosPart _ (equal name _) (λ usec_frac.
    mapped (λ all. name ≡ flat_map written_part all) P forms.Text (time_parts name) (parts_written name) (λ all is. (
      is,
      record { sec = unequal name _ sec; msec = unequal name _ msec; usec = unequal name _ usec; msec_frac = unequal name _ msec_frac; usec_frac = unequal name _ usec_frac },
    )))))))

-- ---- parts of records

push_front : (c : ℕ) (b d : ℕ) (text : List ℕ) → IfSome (before_last b (d ∷ text)) (λ front. d ∷ text ≡ front ++ b ∷ []) → IfSome (option_map (λ front. c ∷ front) (before_last b (d ∷ text))) (λ front. c ∷ d ∷ text ≡ front ++ b ∷ [])
push_front c b d text is = mapped (λ front. d ∷ text ≡ front ++ b ∷ []) (λ front. c ∷ d ∷ text ≡ front ++ b ∷ []) (λ front. c ∷ front) (before_last b (d ∷ text)) is (λ front e. ap (λ x. c ∷ x) e)

last_written : (b : ℕ) (text : List ℕ) → IfSome (before_last b text) (λ front. text ≡ front ++ b ∷ [])
last_written b [] = tt
last_written b (c ∷ []) = chosen (λ front. c ∷ [] ≡ front ++ b ∷ []) (b == c) [] None (λ e. ap (λ x. x ∷ []) (sym (eqb-true b c e))) tt
last_written b (c ∷ d ∷ text) = push_front c b d text (last_written b (d ∷ text))

field_behind : (text : List ℕ) → IfSome (option_map Some (option_and_then field_number (before_last 93 text))) (λ field. IsFieldPart field (bracket ∷ text))
field_behind text =
    mapped (λ n. IsFieldPart (Some n) (bracket ∷ text)) (λ field. IsFieldPart field (bracket ∷ text)) Some (option_and_then field_number (before_last 93 text))
    (then_mapped (λ digits. text ≡ digits ++ 93 ∷ []) (λ n. IsFieldPart (Some n) (bracket ∷ text)) field_number (before_last 93 text) (last_written 93 text)
    (λ digits is. given_so (Writes 1 9999 digits) (λ n. IsFieldPart (Some n) (bracket ∷ text)) (field_number digits) (whole_number-writes 1 9999 digits)
    (λ n number. (digits, ap (λ x. bracket ∷ x) is, number.0, number.1, number.2, number.3, number.4))))
    (λ n is. is)

field_written : (text : List ℕ) → Begins (λ b. b == bracket) text → IfSome (field_asked text) (λ field. IsFieldPart field text)
field_written [] first = refl
field_written (b ∷ text) first = subst (λ x. IfSome (field_asked (x ∷ text)) (λ field. IsFieldPart field (x ∷ text))) (sym (eqb-true b bracket first)) (field_behind text)

prefix_written : (text : List ℕ) → Begins (λ b. b == colon) text → list_any (λ b. b == bracket) text ≡ false → IsPrefixPart (prefix_asked text) text
prefix_written [] first plain = refl
prefix_written (b ∷ text) first plain = (ap (λ x. x ∷ text) (eqb-true b colon first), (or_parts _ _ plain).1)

part_made : (t : Option ℕ) (prefix : Option (List ℕ)) (field : Option (Option ℕ)) (text name prefix_text field_text : List ℕ) → text ≡ name ++ prefix_text ++ field_text → ((tag : ℕ) → t ≡ Some tag → IsTagName tag name) → IsPrefixPart prefix prefix_text
    → IfSome field (λ f. IsFieldPart f field_text) → IsName text → IfSome (tag_part t prefix field) (λ f. IsWritten f (braced (codes "VSL:" ++ text) (codes "x")))
part_made None prefix field text name prefix_text field_text is tagged prefixed fielded named = tt
part_made (Some tag) prefix None text name prefix_text field_text is tagged prefixed fielded named = tt
part_made (Some tag) prefix (Some field) text name prefix_text field_text is tagged prefixed fielded named =
    (text, refl, named, record { tag_text = name; prefix_text = prefix_text; field_text = field_text; is_tag = tagged tag refl; is_prefix = prefixed; is_field = fielded; parts = is })

-- a part of a record is written as it is read
part_written : (text : List ℕ) → IsName text → IfSome (part_asked text) (λ f. IsWritten f (braced (codes "VSL:" ++ text) (codes "x")))
part_written text named =
    let at = position_or_len (λ b. b == bracket) text in
    let outer = cut_of (λ b. b == bracket) text in
    let place = position_or_len (λ b. b == colon) (take at text) in
    let inner = cut_of (λ b. b == colon) (take at text) in
    let name = take place (take at text) in
    let prefix_text = drop place (take at text) in
    let plain = or_parts _ _ (sym (list_any-append (λ b. b == bracket) name prefix_text) ∙ ap (list_any (λ b. b == bracket)) (sym inner.parts) ∙ outer.none) in
    subst (λ o. IfSome o (λ f. IsWritten f (braced (codes "VSL:" ++ text) (codes "x")))) (part_is text (take at text) (drop at text) name prefix_text outer inner)
    (part_made (tag_called name) (prefix_asked prefix_text) (field_asked (drop at text)) text name prefix_text (drop at text) (outer.parts ∙ ap (λ x. x ++ drop at text) inner.parts) (λ tag. IsTagName-from tag name)
    (prefix_written prefix_text inner.first plain.1) (field_written (drop at text) outer.first) named)

-- ---- names before `x`

begins_with : (name first : List ℕ) → begins name first ≡ true → name ≡ first ++ drop (length first) name
begins_with name first e = sym (take-append-drop (length first) name) ∙ ap (λ x. x ++ drop (length first) name) (sym ((bytes_eq-Decides first (take (length first) name)).0 e))

key_written : (name : List ℕ) → IsName name → name ≡ codes "VCL_Log:" ++ drop 8 name → IsWritten (LogKey (drop 8 name)) (braced name (codes "x"))
key_written name named is = (ap (λ n. braced n (codes "x")) is, subst IsName is named)

record_by : (t : Bool) (name : List ℕ) → begins name (codes "VSL:") ≡ t → IsName name → IfSome (if t then part_asked (drop 4 name) else None) (λ f. IsWritten f (braced name (codes "x")))
record_by true name e named =
    let is = begins_with name (codes "VSL:") e in
    subst (λ n. IfSome (part_asked (drop 4 name)) (λ f. IsWritten f (braced n (codes "x")))) (sym is) (part_written (drop 4 name) (subst IsName is named))
record_by false name e named = tt

record_written : (name : List ℕ) → IsName name → IfSome (record_named name) (λ f. IsWritten f (braced name (codes "x")))
record_written name named = chosen (λ f. IsWritten f (braced name (codes "x"))) (begins name (codes "VCL_Log:")) (LogKey (drop 8 name)) _ (λ e. key_written name named (begins_with name (codes "VCL_Log:") e))
    (record_by (begins name (codes "VSL:")) name refl named)

same_name : (name text : List ℕ) → bytes_eq name text ≡ true → braced name (codes "x") ≡ braced text (codes "x")
same_name name text e = ap (λ n. braced n (codes "x")) (equal name text e)

extra_written : (name : List ℕ) → IsName name → IfSome (extra_named name) (λ f. IsWritten f (braced name (codes "x")))
extra_written name named =
    let P = λ (f : Formatter). IsWritten f (braced name (codes "x")) in
    chosen P (bytes_eq name (codes "Varnish:time_firstbyte")) FirstByte _ (same_name name _)
    (chosen P (bytes_eq name (codes "Varnish:hitmiss")) HitMiss _ (same_name name _)
    (chosen P (bytes_eq name (codes "Varnish:handling")) Handling _ (same_name name _)
    (chosen P (bytes_eq name (codes "Varnish:side")) Mark _ (same_name name _)
    (chosen P (bytes_eq name (codes "Varnish:vxid")) Vxid _ (same_name name _) (record_written name named)))))

-- ---- names in braces

time_by : (t : Bool) (name : List ℕ) (letter : ℕ) (o : Option Formatter) → eqb letter 116 ≡ t → IsName name → IfSome o (λ f. IsWritten f (braced name (letter ∷ [])))
    → IfSome (if t then option_map Time (form_named name) else o) (λ f. IsWritten f (braced name (letter ∷ [])))
time_by true name letter o e named rest = mapped (λ form. IsForm form name) (λ f. IsWritten f (braced name (letter ∷ []))) Time (form_named name) (form_written name)
    (λ form is. (name, ap (λ x. braced name (x ∷ [])) (eqb-true letter 116 e), named, is))
time_by false name letter o e named rest = rest

extra_by : (t : Bool) (name : List ℕ) (letter : ℕ) → eqb letter 120 ≡ t → IsName name → IfSome (if t then extra_named name else None) (λ f. IsWritten f (braced name (letter ∷ [])))
extra_by true name letter e named = subst (λ x. IfSome (extra_named name) (λ f. IsWritten f (braced name (x ∷ [])))) (sym (eqb-true letter 120 e)) (extra_written name named)
extra_by false name letter e named = tt

named_written : (name : List ℕ) (letter : ℕ) → IsName name → IfSome (formatter_named name letter) (λ f. IsWritten f (braced name (letter ∷ [])))
named_written name letter named =
    let P = λ (f : Formatter). IsWritten f (braced name (letter ∷ [])) in
    chosen P (letter == 105) (RequestHeader name) _ (λ e. (ap (λ x. braced name (x ∷ [])) (eqb-true letter 105 e), named))
    (chosen P (letter == 111) (ResponseHeader name) _ (λ e. (ap (λ x. braced name (x ∷ [])) (eqb-true letter 111 e), named))
    (time_by (eqb letter 116) name letter _ refl named (extra_by (eqb letter 120) name letter refl named)))

-- ---- formatters

-- something is written before a rest
abbrev IsBefore : List ℕ → Formatter × List ℕ → Type 0
IsBefore text found = (w : List ℕ) × IsWritten found.0 w × (text ≡ w ++ found.1)

with_rest_so : (text w rest : List ℕ) (o : Option Formatter) → IfSome o (λ f. IsWritten f w) → text ≡ w ++ rest → IfSome (with_rest rest o) (IsBefore text)
with_rest_so text w rest None is e = tt
with_rest_so text w rest (Some f) is e = (w, is, e)

behind_written : (name behind text : List ℕ) → IsName name → Begins (λ b. b == brace) behind → text ≡ name ++ behind → IfSome (behind_name name (drop 1 behind)) (IsBefore (123 ∷ text))
behind_written name [] text named first e = tt
behind_written name (b ∷ []) text named first e = tt
behind_written name (b ∷ letter ∷ rest) text named first e =
    let is : text ≡ name ++ brace ∷ letter ∷ rest = e ∙ ap (λ x. name ++ x ∷ letter ∷ rest) (eqb-true b brace first) in
    let parts : braced name (letter ∷ []) ++ rest ≡ 123 ∷ name ++ brace ∷ letter ∷ rest = ap (λ x. 123 ∷ x) (append_assoc (name ++ codes "}") (letter ∷ []) rest ∙ append_assoc name (codes "}") (letter ∷ rest)) in
    with_rest_so (123 ∷ text) (braced name (letter ∷ [])) rest (formatter_named name letter) (named_written name letter named) (ap (λ x. 123 ∷ x) is ∙ sym parts)

braced_written : (text : List ℕ) → IfSome (formatter_at (123 ∷ text)) (IsBefore (123 ∷ text))
braced_written text =
    let at = position_or_len (λ b. b == brace) text in
    let cut = cut_of (λ b. b == brace) text in
    subst (λ o. IfSome o (IsBefore (123 ∷ text))) (braced_is text (take at text) (drop at text) cut) (behind_written (take at text) (drop at text) text cut.none cut.first cut.parts)

letter_by : (t : Bool) (b : ℕ) (text : List ℕ) → eqb b 123 ≡ t
    → IfSome (if t then (let at = position_or_len (λ c. c == brace) text in behind_name (take at text) (drop (at + 1) text)) else with_rest text (formatter_lettered b)) (IsBefore (b ∷ text))
letter_by true b text e = subst (λ x. IfSome (let at = position_or_len (λ c. c == brace) text in behind_name (take at text) (drop (at + 1) text)) (IsBefore (x ∷ text))) (sym (eqb-true b 123 e)) (braced_written text)
letter_by false b text e = with_rest_so (b ∷ text) (b ∷ []) text (formatter_lettered b) (lettered b) refl

written : (text : List ℕ) → IfSome (formatter_at text) (IsBefore text)
written [] = tt
written (b ∷ text) = letter_by (eqb b 123) b text refl

-- what is read as a formatter is written as it
pub formatter_writes : (text : List ℕ) (f : Formatter) (rest : List ℕ) → formatter_at text ≡ Some (f, rest) → (w : List ℕ) × IsWritten f w × (text ≡ w ++ rest)
formatter_writes text f rest e = subst (λ o. IfSome o (IsBefore text)) e (written text)
