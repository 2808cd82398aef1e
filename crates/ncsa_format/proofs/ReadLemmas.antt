-- A text that is written as a formatter is read as it.
use Rattle.std.proofs.Common.{◌≡◌, ◌≢◌, ℕ, Bool, true, false, eqb, List, [], ◌∷◌, ◌++◌, Option, Some, None, refl, sym, ap, subst, ◌∙◌, append_assoc}
use Rattle.std.specs.Prelude.{◌==◌, codes, if◌then◌else◌, option_map, option_and_then}
use Rattle.std.specs.List.{flat_map, list_any}
use Rattle.std.specs.Str.{bytes_eq}
use Rattle.std.proofs.lemmas.Bool.{eqb-true, eqb-false, or_from}
use Rattle.std.proofs.lemmas.List.Folds.{list_any-append}
use Rattle.std.proofs.lemmas.Slice.Eq.{bytes_eq-Decides}
use Rattle.vsl_decimal.specs.Prefix.{colon}
use Rattle.vsl_decimal.proofs.WholeLemmas.{whole_number-reads}
use Rattle.vsl_tags.proofs.CalledLemmas.{IsPlain-from, tag_found}
use Rattle.ncsa_format.specs.declared.formatter.Formatter.{Formatter}
use Rattle.ncsa_format.specs.declared.formatter.Formatter.TheVariants.{Host, LogName, User, Stamp, Time, RequestLine, Method, Path, Query, Protocol, Status, Bytes, Received, Sent, RequestHeader, ResponseHeader, Micros, Seconds, FirstByte, HitMiss, Handling, Mark, Vxid, LogKey, TagPart}
use Rattle.ncsa_format.specs.declared.formatter.TimeForm.{TimeForm}
use Rattle.ncsa_format.specs.declared.formatter.TimeForm.TheVariants as forms
use Rattle.ncsa_format.specs.declared.formatter.TimePart.{TimePart}
use Rattle.ncsa_format.specs.declared.formatter.TimePart.TheVariants as parts
use Rattle.ncsa_format.specs.Formatter.{IsFieldPart, IsForm, IsName, IsPrefixPart, IsTagPart, IsTimeText, IsWritten, brace, braced, bracket, percent, written_part}
use Rattle.ncsa_format.specs.Reading.{field_asked, field_number, form_named, formatter_at, formatter_named, onto, part_asked, prefix_asked, tag_part, time_parts, with_rest}
use Rattle.ncsa_format.specs.inside.Cut.{Begins, IsCut}
use Rattle.ncsa_format.proofs.FieldLemmas.{before_last_push}
use Rattle.ncsa_format.proofs.FormatterLemmas.{braced_is}
use Rattle.ncsa_format.proofs.PartLemmas.{part_is}
use Rattle.ncsa_format.proofs.TimeLemmas.{byte_first}

-- ---- times

part_by : (t : Bool) (b : ℕ) (rest : List ℕ) (all : List TimePart) → eqb b percent ≡ t → time_parts rest ≡ Some all → time_parts ((if t then codes "%%" else b ∷ []) ++ rest) ≡ Some (parts.Byte b ∷ all)
part_by true b rest all is e = ap (onto (Some (parts.Byte percent))) e ∙ ap (λ x. Some (parts.Byte x ∷ all)) (sym (eqb-true b percent is))
part_by false b rest all is e = byte_first b rest (eqb-false b percent is) ∙ ap (onto (Some (parts.Byte b))) e

-- a part before others is read first
part_reads : (part : TimePart) (rest : List ℕ) (all : List TimePart) → time_parts rest ≡ Some all → time_parts (written_part part ++ rest) ≡ Some (part ∷ all)
part_reads (parts.Byte b) rest all e = part_by (eqb b percent) b rest all refl e
part_reads parts.Year rest all e = ap (onto (Some parts.Year)) e
part_reads parts.Month rest all e = ap (onto (Some parts.Month)) e
part_reads parts.Day rest all e = ap (onto (Some parts.Day)) e
part_reads parts.SpacedDay rest all e = ap (onto (Some parts.SpacedDay)) e
part_reads parts.Hour rest all e = ap (onto (Some parts.Hour)) e
part_reads parts.Minute rest all e = ap (onto (Some parts.Minute)) e
part_reads parts.Second rest all e = ap (onto (Some parts.Second)) e
part_reads parts.MonthName rest all e = ap (onto (Some parts.MonthName)) e
part_reads parts.Date rest all e = ap (onto (Some parts.Date)) e
part_reads parts.Clock rest all e = ap (onto (Some parts.Clock)) e
part_reads parts.Zone rest all e = ap (onto (Some parts.Zone)) e

parts_read : (all : List TimePart) → time_parts (flat_map written_part all) ≡ Some all
parts_read [] = refl
parts_read (part ∷ all) = part_reads part (flat_map written_part all) all (parts_read all)

differs_by : (t : Bool) (a b : List ℕ) → bytes_eq a b ≡ t → a ≢ b → t ≡ false
differs_by true a b e other = absurd (other ((bytes_eq-Decides a b).0 e))
differs_by false a b e other = refl

-- texts that differ aren't equal
differs : (a b : List ℕ) → a ≢ b → bytes_eq a b ≡ false
differs a b other = differs_by (bytes_eq a b) a b refl other

-- a text with directives is none of the words
text_reads : (name : List ℕ) → IsTimeText name → form_named name ≡ option_map forms.Text (time_parts name)
text_reads name is = rw (differs name (codes "sec") is.sec, differs name (codes "msec") is.msec, differs name (codes "usec") is.usec, differs name (codes "msec_frac") is.msec_frac, differs name (codes "usec_frac") is.usec_frac) refl

-- a form is read as it is written
form_reads : (form : TimeForm) (name : List ℕ) → IsForm form name → form_named name ≡ Some form
form_reads forms.Seconds name is = subst (λ n. form_named n ≡ Some forms.Seconds) (sym is) refl
form_reads forms.Millis name is = subst (λ n. form_named n ≡ Some forms.Millis) (sym is) refl
form_reads forms.Micros name is = subst (λ n. form_named n ≡ Some forms.Micros) (sym is) refl
form_reads forms.MillisPart name is = subst (λ n. form_named n ≡ Some forms.MillisPart) (sym is) refl
form_reads forms.MicrosPart name is = subst (λ n. form_named n ≡ Some forms.MicrosPart) (sym is) refl
form_reads (forms.Text all) name is = text_reads name is.1 ∙ ap (λ n. option_map forms.Text (time_parts n)) is.0 ∙ ap (option_map forms.Text) (parts_read all)

-- ---- names in braces

-- a name in braces, with the letter behind them
named_reads : (name : List ℕ) (letter : ℕ) (rest : List ℕ) (f : Formatter) → IsName name → formatter_named name letter ≡ Some f → formatter_at (braced name (letter ∷ []) ++ rest) ≡ Some (f, rest)
named_reads name letter rest f is named =
    let text = (name ++ codes "}" ++ letter ∷ []) ++ rest in
    let cut : IsCut (λ b. b == brace) text name (brace ∷ letter ∷ rest) = record { parts = append_assoc (name ++ codes "}") (letter ∷ []) rest ∙ append_assoc name (codes "}") (letter ∷ rest); none = is; first = refl } in
    sym (braced_is text name (brace ∷ letter ∷ rest) cut) ∙ ap (with_rest rest) named

-- ---- parts of records

field_reads : (field : Option ℕ) (text : List ℕ) → IsFieldPart field text → field_asked text ≡ Some field
field_reads None text is = subst (λ t. field_asked t ≡ Some None) (sym is) refl
field_reads (Some n) text (digits, is, all, some, value, least, most) =
    let number : field_number digits ≡ Some n = whole_number-reads 1 9999 digits n (all, some, value, least, most) in
    ap field_asked is ∙ ap (λ o. option_map Some (option_and_then field_number o)) (before_last_push 93 digits 93) ∙ ap (option_map Some) number

prefix_reads : (prefix : Option (List ℕ)) (text : List ℕ) → IsPrefixPart prefix text → prefix_asked text ≡ prefix
prefix_reads None text is = ap prefix_asked is
prefix_reads (Some prefix) text is = ap prefix_asked is.0

field_begins : (field : Option ℕ) (text : List ℕ) → IsFieldPart field text → Begins (λ b. b == bracket) text
field_begins None text is = subst (Begins (λ b. b == bracket)) (sym is) tt
field_begins (Some n) text is = subst (Begins (λ b. b == bracket)) (sym is.1) refl

prefix_begins : (prefix : Option (List ℕ)) (text : List ℕ) → IsPrefixPart prefix text → Begins (λ b. b == colon) text
prefix_begins None text is = subst (Begins (λ b. b == colon)) (sym is) tt
prefix_begins (Some prefix) text is = subst (Begins (λ b. b == colon)) (sym is.0) refl

prefix_plain : (prefix : Option (List ℕ)) (text : List ℕ) → IsPrefixPart prefix text → list_any (λ b. b == bracket) text ≡ false
prefix_plain None text is = ap (list_any (λ b. b == bracket)) is
prefix_plain (Some prefix) text is = ap (list_any (λ b. b == bracket)) is.0 ∙ is.1

-- a part of a record is read as it is written
part_is_read : (tag : ℕ) (prefix : Option (List ℕ)) (field : Option ℕ) (text : List ℕ) → IsTagPart tag prefix field text → part_asked text ≡ Some (TagPart tag prefix field)
part_is_read tag prefix field text is =
    let plain = IsPlain-from tag is.tag_text is.is_tag in
    let outer : IsCut (λ b. b == bracket) text (is.tag_text ++ is.prefix_text) is.field_text = record {
      parts = is.parts;
      none = list_any-append (λ b. b == bracket) is.tag_text is.prefix_text ∙ or_from _ _ plain.no_bracket (prefix_plain prefix is.prefix_text is.is_prefix);
      first = field_begins field is.field_text is.is_field;
    } in
    let inner : IsCut (λ b. b == colon) (is.tag_text ++ is.prefix_text) is.tag_text is.prefix_text =
    record { parts = refl; none = plain.no_colon; first = prefix_begins prefix is.prefix_text is.is_prefix } in
    sym (part_is text (is.tag_text ++ is.prefix_text) is.field_text is.tag_text is.prefix_text outer inner)
    ∙ ap (λ t. tag_part t (prefix_asked is.prefix_text) (field_asked is.field_text)) (tag_found tag is.tag_text is.is_tag)
    ∙ ap (λ p. tag_part (Some tag) p (field_asked is.field_text)) (prefix_reads prefix is.prefix_text is.is_prefix)
    ∙ ap (tag_part (Some tag) prefix) (field_reads field is.field_text is.is_field)

-- ---- formatters

as_written : {f : Formatter} (w rest text : List ℕ) → w ≡ text → formatter_at (text ++ rest) ≡ Some (f, rest) → formatter_at (w ++ rest) ≡ Some (f, rest)
as_written w rest text is e = ap (λ t. formatter_at (t ++ rest)) is ∙ e

-- a text that is written as a formatter is read as it
pub formatter_reads : (f : Formatter) (w rest : List ℕ) → IsWritten f w → formatter_at (w ++ rest) ≡ Some (f, rest)
formatter_reads Host w rest is = as_written w rest _ is refl
formatter_reads LogName w rest is = as_written w rest _ is refl
formatter_reads User w rest is = as_written w rest _ is refl
formatter_reads Stamp w rest is = as_written w rest _ is refl
formatter_reads (Time form) w rest (name, is, named, is_form) = as_written w rest _ is (named_reads name 116 rest (Time form) named (ap (option_map Time) (form_reads form name is_form)))
formatter_reads RequestLine w rest is = as_written w rest _ is refl
formatter_reads Method w rest is = as_written w rest _ is refl
formatter_reads Path w rest is = as_written w rest _ is refl
formatter_reads Query w rest is = as_written w rest _ is refl
formatter_reads Protocol w rest is = as_written w rest _ is refl
formatter_reads Status w rest is = as_written w rest _ is refl
formatter_reads Bytes w rest is = as_written w rest _ is refl
formatter_reads Received w rest is = as_written w rest _ is refl
formatter_reads Sent w rest is = as_written w rest _ is refl
formatter_reads (RequestHeader name) w rest is = as_written w rest _ is.0 (named_reads name 105 rest (RequestHeader name) is.1 refl)
formatter_reads (ResponseHeader name) w rest is = as_written w rest _ is.0 (named_reads name 111 rest (ResponseHeader name) is.1 refl)
formatter_reads Micros w rest is = as_written w rest _ is refl
formatter_reads Seconds w rest is = as_written w rest _ is refl
formatter_reads FirstByte w rest is = as_written w rest _ is refl
formatter_reads HitMiss w rest is = as_written w rest _ is refl
formatter_reads Handling w rest is = as_written w rest _ is refl
formatter_reads Mark w rest is = as_written w rest _ is refl
formatter_reads Vxid w rest is = as_written w rest _ is refl
formatter_reads (LogKey key) w rest is = as_written w rest _ is.0 (named_reads (codes "VCL_Log:" ++ key) 120 rest (LogKey key) is.1 refl)
formatter_reads (TagPart tag prefix field) w rest (part, is, named, is_part) =
    as_written w rest _ is (named_reads (codes "VSL:" ++ part) 120 rest (TagPart tag prefix field) named (part_is_read tag prefix field part is_part))
