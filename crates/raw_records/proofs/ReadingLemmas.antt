-- Reading a line finds its meaning, and finds none where there is none.
use Rattle.std.proofs.Common.{◌≡◌, ◌≢◌, ℕ, zero, suc, ◌-◌, ◌<◌, ◌≤◌, Bool, true, false, ◌==◌, leb, cond, List, [], ◌∷◌, ◌++◌, length, replicate, Option, Some, None, Result, Ok, Err, refl, sym, ap, subst, ◌∙◌, arith}
use Rattle.std.specs.Prelude.{IfSome, if◌then◌else◌, not}
use Rattle.std.specs.Char.{is_ascii_digit}
use Rattle.std.specs.List.{AllByRecursion, AllPass, prefix_len, position_or_len, take_while}
use Rattle.std.specs.Str.Parse.{AllDigits}
use Rattle.std.proofs.lemmas.Bool.{eqb-true, le-leb, leb-true}
use Rattle.std.proofs.lemmas.Bool.Decides.{nat_tests}
use Rattle.std.proofs.lemmas.List.{append-nil, take-append-drop, append_assoc, take_at, drop_at}
use Rattle.std.proofs.lemmas.Option.{option_and_then_some, same_Some}
use Rattle.std.proofs.lemmas.List.Elements.{All-head, All-tail}
use Rattle.std.proofs.lemmas.List.Sums.{take_while-cons}
use Rattle.vsl_record.specs.declared.mark.Mark.{Mark}
use Rattle.vsl_record.specs.declared.mark.Mark.TheVariants.{Client, Backend, Plain}
use Rattle.vsl_decimal.specs.Whole.{whole_number}
use Rattle.vsl_decimal.proofs.WholeLemmas.{Writes, whole_number-reads, whole_number-writes}
use Rattle.vsl_record.specs.Unit.{vxid_end}
use Rattle.txn_rows.specs.Claim.{most_digits, vxid_named}
use Rattle.vsl_select.specs.RawLine.{mark_letter}
use Rattle.raw_records.specs.declared.line.LineFault.{LineFault}
use Rattle.raw_records.specs.declared.line.LineFault.TheVariants.{OtherForm, OtherVxid, UnknownTag}
use Rattle.raw_records.specs.Lines.{space, is_space, comment_mark, LoggedRecord, Line, BlankLine, CommentLine, RecordLine, WrittenRecord, HasForm, IsVxid, IsWritten, IsLine, IsRefused, payload_of, print_payload, print_record}
use Rattle.raw_records.specs.inside.Reading.{without_spaces, behind_spaces, digits_of, behind_digits, word_of, behind_word, tag_called, mark_of, payload_behind, marked, Written, some_parts, parts_of, record_from, record_of, record_line, unindented, meaning}
use Rattle.vsl_tags.proofs.CalledLemmas.{IsPlain-from}
use Rattle.raw_records.proofs.NameLemmas.{tag_found, named_by}

-- ---- answers

pub same_Ok : {A B : Type 0} {x y : A} (r : Result A B) → r ≡ Ok x → r ≡ Ok y → x ≡ y
same_Ok r is also = cc

same_Err : {A B : Type 0} {x y : B} (r : Result A B) → r ≡ Err x → r ≡ Err y → x ≡ y
same_Err r is also = cc

-- ---- spaces

pub spaces_passed : (n : ℕ) (text : List ℕ) → without_spaces (replicate n space ++ text) ≡ without_spaces text
unfolding without_spaces
spaces_passed zero text = refl
spaces_passed (suc n) text = spaces_passed n text

pub spaces_behind : (n : ℕ) (text : List ℕ) → 0 < n → behind_spaces (replicate n space ++ text) ≡ Some (without_spaces text)
unfolding behind_spaces
spaces_behind zero text some = absurd (omega arith)
spaces_behind (suc n) text some = ap Some (spaces_passed n text)

pub no_space_first : (b : ℕ) (text : List ℕ) → 33 ≤ b → without_spaces (b ∷ text) ≡ b ∷ text
unfolding without_spaces
no_space_first b text high = grind (arith, nat_tests)

-- a text begins with the spaces that are passed over
pub spaces_are : (text : List ℕ) → (n : ℕ) × (text ≡ replicate n space ++ without_spaces text)
unfolding without_spaces
spaces_are [] = (0, refl)
spaces_are (b ∷ text) =
    let rest = spaces_are text in
    elim (is_space b) as (λ t. is_space b ≡ t → (n : ℕ) × (b ∷ text ≡ replicate n space ++ (if t then without_spaces text else b ∷ text))) [
      | true ↦ λ e. (suc rest.0, let is : b ≡ space = grind (arith, nat_tests) in rw is (ap (λ xs. space ∷ xs) rest.1))
      | false ↦ λ _. (0, refl)
    ] refl

pub spaces_are_behind : (text rest : List ℕ) → behind_spaces text ≡ Some rest → (n : ℕ) × (0 < n) × (text ≡ replicate n space ++ rest)
unfolding behind_spaces
spaces_are_behind [] rest e = absurd cc
spaces_are_behind (b ∷ text) rest e =
    let more = spaces_are text in
    let parts : (b ≡ space) × (without_spaces text ≡ rest) = grind (arith, nat_tests) in
    (suc more.0, omega arith, rw (parts.0, ← parts.1) (ap (λ xs. space ∷ xs) more.1))

-- ---- digits

-- the text begins with no digit
abbrev NoDigitFirst : List ℕ → Type 0
NoDigitFirst [] = Unit {0}
NoDigitFirst (b ∷ text) = is_ascii_digit b ≡ false

digit_count : (digits text : List ℕ) → AllDigits 10 digits → NoDigitFirst text → prefix_len is_ascii_digit (digits ++ text) ≡ length digits
digit_count [] [] all none = refl
digit_count [] (b ∷ text) all none = grind arith
digit_count (c ∷ digits) text all none =
    let digit : is_ascii_digit c ≡ true = grind (arith, nat_tests, all.0) in
    let more = digit_count digits text all.1 none in
    grind arith

pub digits_passed : (digits text : List ℕ) → AllDigits 10 digits → NoDigitFirst text → (digits_of (digits ++ text) ≡ digits) × (behind_digits (digits ++ text) ≡ text)
unfolding digits_of behind_digits
digits_passed digits text all none =
    let count = digit_count digits text all none in
    (rw count (take_at digits text _ refl), rw count (drop_at digits text _ refl))

pub digits_are : (text : List ℕ) → text ≡ digits_of text ++ behind_digits text
unfolding digits_of behind_digits
digits_are text = sym (take-append-drop (prefix_len is_ascii_digit text) text)

all_digits : (text : List ℕ) → AllDigits 10 (take_while is_ascii_digit text)
all_digits [] = tt
all_digits (b ∷ text) = subst (AllDigits 10) (sym (take_while-cons is_ascii_digit b text)) (elim (is_ascii_digit b) as (λ t. is_ascii_digit b ≡ t → AllDigits 10 (cond t (b ∷ take_while is_ascii_digit text) [])) [
  | true ↦ λ e. (grind (arith, nat_tests), all_digits text)
  | false ↦ λ _. tt
] refl)

pub are_digits : (text : List ℕ) → AllDigits 10 (digits_of text)
unfolding digits_of
are_digits text = all_digits text

-- ---- the VXID, the name, the mark and the payload

-- no byte is a space
abbrev IsWord : List ℕ → Type 0
IsWord name = AllByRecursion (λ b. is_space b ≡ false) name

pub vxid_found : (digits : List ℕ) (vxid : ℕ) → IsVxid digits vxid → vxid_named digits ≡ Some vxid
vxid_found digits vxid is =
    rw (le-leb (length digits) most_digits is.2) (whole_number-reads 0 (vxid_end - 1) digits vxid (is.0, is.1, is.3, omega arith, omega (arith, is.4)))

few_digits : (digits : List ℕ) (vxid : ℕ) (few : Bool) → leb (length digits) most_digits ≡ few → (if few then whole_number 0 (vxid_end - 1) digits else None) ≡ Some vxid → IsVxid digits vxid
few_digits digits vxid false is e = absurd cc
few_digits digits vxid true is e =
    let writes = subst (λ o. IfSome o (Writes 0 (vxid_end - 1) digits)) e (whole_number-writes 0 (vxid_end - 1) digits) in
    (writes.0, writes.1, leb-true _ _ is, writes.2, omega (arith, writes.4))

pub IsVxid-from : (digits : List ℕ) (vxid : ℕ) → vxid_named digits ≡ Some vxid → IsVxid digits vxid
IsVxid-from digits vxid e = few_digits digits vxid (leb (length digits) most_digits) refl e

-- the name of a tag has no space
name_word : (name : List ℕ) → AllPass (λ b. leb 33 b) name → IsWord name
name_word [] no_space = tt
name_word (b ∷ name) no_space =
    let high : leb 33 b ≡ true = All-head (λ x. leb 33 x ≡ true) b name no_space in
    (grind (arith, nat_tests), name_word name (All-tail (λ x. leb 33 x ≡ true) b name no_space))

word_count : (name text : List ℕ) → IsWord name → position_or_len is_space (name ++ space ∷ text) ≡ length name
word_count [] text no_space = refl
word_count (b ∷ name) text no_space =
    let more = word_count name text no_space.1 in
    grind (arith, no_space.0)

pub word_passed : (name text : List ℕ) → IsWord name → (word_of (name ++ space ∷ text) ≡ name) × (behind_word (name ++ space ∷ text) ≡ space ∷ text)
unfolding word_of behind_word
word_passed name text no_space =
    let count = word_count name text no_space in
    (rw count (take_at name (space ∷ text) _ refl), rw count (drop_at name (space ∷ text) _ refl))

-- the bytes before the first space
word_before_space : (text : List ℕ) → IsWord (take_while (λ b. not (is_space b)) text)
word_before_space [] = tt
word_before_space (b ∷ text) = subst IsWord (sym (take_while-cons (λ b. not (is_space b)) b text)) (elim (is_space b) as (λ t. is_space b ≡ t → IsWord (cond (not t) (b ∷ take_while (λ b. not (is_space b)) text) [])) [
  | true ↦ λ _. tt
  | false ↦ λ e. (e, word_before_space text)
] refl)

pub is_word : (text : List ℕ) → IsWord (word_of text)
unfolding word_of
is_word text = word_before_space text

pub word_is : (text : List ℕ) → text ≡ word_of text ++ behind_word text
unfolding word_of behind_word
word_is text = sym (take-append-drop (position_or_len is_space text) text)

pub mark_found : (mark : Mark) → mark_of (mark_letter mark) ≡ Some mark
unfolding mark_of
mark_found Client = refl
mark_found Backend = refl
mark_found Plain = refl

letter_high : (mark : Mark) → 33 ≤ mark_letter mark
letter_high Client = omega arith
letter_high Backend = omega arith
letter_high Plain = omega arith

pub mark_is : (letter : ℕ) (mark : Mark) → mark_of letter ≡ Some mark → letter ≡ mark_letter mark
unfolding mark_of
mark_is letter Client e = grind (arith, nat_tests)
mark_is letter Backend e = grind (arith, nat_tests)
mark_is letter Plain e = grind (arith, nat_tests)

pub payload_found : (payload : Option (List ℕ)) → payload_behind (print_payload payload) ≡ Some (payload_of payload)
unfolding payload_behind
payload_found None = refl
payload_found (Some payload) = refl

pub payload_is : (text payload : List ℕ) → payload_behind text ≡ Some payload → (p : Option (List ℕ)) × (text ≡ print_payload p) × (payload_of p ≡ payload)
unfolding payload_behind
payload_is [] payload e = (None, refl, cc)
payload_is (b ∷ text) payload e =
    let parts : (b ≡ space) × (text ≡ payload) = grind (arith, nat_tests) in
    (Some text, rw parts.0 refl, parts.1)

-- ---- a record's line

-- what stands behind the mark's spaces, behind the name's and behind the VXID's
abbrev from_mark : WrittenRecord → List ℕ
from_mark w = mark_letter w.mark ∷ print_payload w.payload

abbrev from_name : WrittenRecord → List ℕ
from_name w = w.name ++ (replicate w.before_mark space ++ from_mark w)

abbrev from_vxid : WrittenRecord → List ℕ
from_vxid w = w.vxid ++ (replicate w.before_name space ++ from_name w)

regrouped : (w : WrittenRecord) → print_record w ≡ replicate w.before_vxid space ++ from_vxid w
regrouped w = simp append_assoc

spaces_no_digit : (n : ℕ) (text : List ℕ) → 0 < n → NoDigitFirst (replicate n space ++ text)
spaces_no_digit zero text some = absurd (omega arith)
spaces_no_digit (suc n) text some = refl

other_first : (b : ℕ) (text : List ℕ) → is_space b ≡ false → without_spaces (b ∷ text) ≡ b ∷ text
unfolding without_spaces
other_first b text other = rw other refl

name_first : (name text : List ℕ) → IsWord name → 0 < length name → without_spaces (name ++ text) ≡ name ++ text
name_first [] text no_space some = absurd (omega arith)
name_first (b ∷ name) text no_space some = other_first b (name ++ text) no_space.0

word_before : (name text : List ℕ) (n : ℕ) → 0 < n → IsWord name → (word_of (name ++ (replicate n space ++ text)) ≡ name) × (behind_word (name ++ (replicate n space ++ text)) ≡ replicate n space ++ text)
word_before name text zero some no_space = absurd (omega arith)
word_before name text (suc n) some no_space = word_passed name (replicate n space ++ text) no_space

-- what has a record's form
pub HasForm-from : (w : WrittenRecord) (l : LoggedRecord) → IsWritten w l → HasForm w
HasForm-from w l is =
    let plain = IsPlain-from l.rec.tag w.name is.name in
    record { digits = is.vxid.0; some_digits = is.vxid.1; before_name = is.before_name; word = name_word w.name plain.no_space; some_word = omega (arith, plain.some); before_mark = is.before_mark }

-- its parts
abbrev pub parts_written : WrittenRecord → Written
parts_written w = record { vxid = w.vxid; name = w.name; mark = w.mark; payload = payload_of w.payload }

marked_found : (w : WrittenRecord) → marked (from_mark w) ≡ Some (w.mark, payload_of w.payload)
unfolding marked
marked_found w = rw (mark_found w.mark, payload_found w.payload) refl

some_found : (digits name : List ℕ) (mark : Mark) (payload : List ℕ) → 0 < length digits → 0 < length name → some_parts digits name mark payload ≡ Some (record { vxid = digits; name = name; mark = mark; payload = payload })
unfolding some_parts
some_found [] name mark payload some named = absurd (omega arith)
some_found (b ∷ digits) [] mark payload some named = absurd (omega arith)
some_found (b ∷ digits) (c ∷ name) mark payload some named = refl

parts_found : (w : WrittenRecord) → HasForm w → parts_of (from_vxid w) ≡ Some (parts_written w)
unfolding parts_of
parts_found w form =
    let digits = digits_passed w.vxid (replicate w.before_name space ++ from_name w) form.digits (spaces_no_digit w.before_name (from_name w) form.before_name) in
    let word = word_before w.name (from_mark w) w.before_mark form.before_mark form.word in
    let behind_mark : behind_spaces (replicate w.before_mark space ++ from_mark w) ≡ Some (from_mark w) = spaces_behind w.before_mark (from_mark w) form.before_mark ∙ ap Some (no_space_first (mark_letter w.mark) (print_payload w.payload) (letter_high w.mark)) in
    let behind_name : behind_spaces (replicate w.before_name space ++ from_name w) ≡ Some (from_name w) = spaces_behind w.before_name (from_name w) form.before_name ∙ ap Some (name_first w.name (replicate w.before_mark space ++ from_mark w) form.word form.some_word) in
    rw (digits.0, digits.1, behind_name, word.0, word.1, behind_mark, marked_found w) (some_found w.vxid w.name w.mark (payload_of w.payload) form.some_digits form.some_word)

marked_is : (text : List ℕ) (mark : Mark) (payload : List ℕ) → marked text ≡ Some (mark, payload)
    → (p : Option (List ℕ)) × (text ≡ mark_letter mark ∷ print_payload p) × (payload_of p ≡ payload)
unfolding marked
marked_is [] mark payload e = absurd cc
marked_is (letter ∷ text) mark payload e =
    option_and_then_some _ (mark_of letter) (mark, payload) e (λ found at_mark e.
    option_and_then_some _ (payload_behind text) (mark, payload) e (λ behind at_payload e.
    let same : (found, behind) ≡ (mark, payload) = same_Some _ _ e in
    let written = payload_is text behind at_payload in
    (written.0, ap (λ x. x ∷ text) (mark_is letter found at_mark ∙ ap mark_letter (ap (λ x. x.0) same)) ∙ ap (λ t. mark_letter mark ∷ t) written.1, written.2 ∙ ap (λ x. x.1) same)))

some_are : (digits name : List ℕ) (mark : Mark) (payload : List ℕ) (p : Written) → some_parts digits name mark payload ≡ Some p → (0 < length digits) × (0 < length name) × (record { vxid = digits; name = name; mark = mark; payload = payload } ≡ p)
unfolding some_parts
some_are [] name mark payload p e = absurd cc
some_are (b ∷ digits) [] mark payload p e = absurd cc
some_are (b ∷ digits) (c ∷ name) mark payload p e = (omega arith, omega arith, same_Some _ _ e)

-- parts that are found behind spaces were written
parts_are : (n : ℕ) (text : List ℕ) (p : Written) → parts_of text ≡ Some p → (w : WrittenRecord) × HasForm w × (print_record w ≡ replicate n space ++ text) × (parts_written w ≡ p)
unfolding parts_of
parts_are n text p e =
    option_and_then_some _ (behind_spaces (behind_digits text)) p e (λ named at_named e.
    option_and_then_some _ (behind_spaces (behind_word named)) p e (λ rest at_rest e.
    option_and_then_some _ (marked rest) p e (λ is at_mark e.
    let before_name = spaces_are_behind (behind_digits text) named at_named in
    let before_mark = spaces_are_behind (behind_word named) rest at_rest in
    let last = marked_is rest is.0 is.1 at_mark in
    let some = some_are (digits_of text) (word_of named) is.0 is.1 p e in
    let w : WrittenRecord = record { before_vxid = n; vxid = digits_of text; before_name = before_name.0; name = word_of named; before_mark = before_mark.0; mark = is.0; payload = last.0 } in
    let from_the_mark : behind_word named ≡ replicate before_mark.0 space ++ from_mark w = before_mark.2 ∙ ap (λ t. replicate before_mark.0 space ++ t) last.1 in
    let from_the_name : named ≡ from_name w = word_is named ∙ ap (λ t. word_of named ++ t) from_the_mark in
    let from_the_vxid : text ≡ from_vxid w = digits_are text ∙ ap (λ t. digits_of text ++ t) (before_name.2 ∙ ap (λ t. replicate before_name.0 space ++ t) from_the_name) in (
      w,
      record { digits = are_digits text; some_digits = some.0; before_name = before_name.1; word = is_word named; some_word = some.1; before_mark = before_mark.1 },
      regrouped w ∙ ap (λ t. replicate n space ++ t) (sym from_the_vxid),
      rw last.2 some.2,
    ))))

-- ---- a record's line

-- what comes of the parts
record_found : (w : WrittenRecord) (l : LoggedRecord) → IsWritten w l → record_of (Some (parts_written w)) ≡ Ok l
unfolding record_of record_from
record_found w l is = rw (vxid_found w.vxid l.vxid is.vxid, tag_found l.rec.tag w.name is.name, is.mark, is.payload) refl

record_named : (w : WrittenRecord) (l : LoggedRecord) (v t : Option ℕ) → HasForm w → vxid_named w.vxid ≡ v → tag_called w.name ≡ t → record_from (parts_written w) v t ≡ Ok l → IsWritten w l
unfolding record_from
record_named w l None t form found named e = absurd cc
record_named w l (Some vxid) None form found named e = absurd cc
record_named w l (Some vxid) (Some tag) form found named e =
    let same : record { vxid = vxid; rec = record { tag = tag; mark = w.mark; payload = payload_of w.payload } } ≡ l = same_Ok _ refl e in
    record {
      vxid = rw (← same) (IsVxid-from w.vxid vxid found);
      before_name = form.before_name;
      name = rw (← same) (named_by tag w.name named);
      before_mark = form.before_mark;
      mark = ap (λ (x : LoggedRecord). x.rec.mark) same;
      payload = ap (λ (x : LoggedRecord). x.rec.payload) same;
    }

record_is : (w : WrittenRecord) (l : LoggedRecord) → HasForm w → record_of (Some (parts_written w)) ≡ Ok l → IsWritten w l
unfolding record_of
record_is w l form e = record_named w l (vxid_named w.vxid) (tag_called w.name) form refl refl e

none_some : {A : Type 0} {x : A} → None ≡ Some x → ⊥
none_some e = cc

refused_named : (w : WrittenRecord) (fault : LineFault) (v t : Option ℕ) → HasForm w → vxid_named w.vxid ≡ v → tag_called w.name ≡ t → record_from (parts_written w) v t ≡ Err fault → IsRefused (print_record w) fault
unfolding record_from
refused_named w fault None t form found named e = rw (← same_Err _ refl e) (w, form, refl, λ vxid is. none_some (sym found ∙ vxid_found w.vxid vxid is))
refused_named w fault (Some vxid) None form found named e = rw (← same_Err _ refl e) (w, form, refl, (vxid, IsVxid-from w.vxid vxid found), λ tag is. none_some (sym named ∙ tag_found tag w.name is))
refused_named w fault (Some vxid) (Some tag) form found named e = absurd cc

refused_is : (w : WrittenRecord) (fault : LineFault) → HasForm w → record_of (Some (parts_written w)) ≡ Err fault → IsRefused (print_record w) fault
unfolding record_of
refused_is w fault form e = refused_named w fault (vxid_named w.vxid) (tag_called w.name) form refl refl e

-- ---- a line

-- the text begins with no comment mark
abbrev NoComment : List ℕ → Type 0
NoComment [] = Unit {0}
NoComment (b ∷ text) = b ≢ comment_mark

no_comment : (text : List ℕ) → NoComment text → meaning text ≡ unindented (without_spaces text)
unfolding meaning unindented without_spaces
no_comment [] none = refl
no_comment (b ∷ text) none = grind (arith, nat_tests)

digit_first : (digits text : List ℕ) → AllDigits 10 digits → 0 < length digits → (b : ℕ) × (rest : List ℕ) × (digits ++ text ≡ b ∷ rest) × (48 ≤ b)
digit_first [] text all some = absurd (omega arith)
digit_first (b ∷ digits) text all some = (b, digits ++ text, refl, grind (arith, nat_tests, all.0))

-- spaces, and a byte that isn't a comment mark
spaces_no_comment : (n b : ℕ) (text : List ℕ) → b ≢ comment_mark → NoComment (replicate n space ++ b ∷ text)
spaces_no_comment zero b text other = other
spaces_no_comment (suc n) b text other = λ e. omega arith

blank_no_comment : (n : ℕ) → NoComment (replicate n space)
blank_no_comment zero = tt
blank_no_comment (suc n) = λ e. omega arith

-- what is written as a record means what comes of its parts
form_found : (w : WrittenRecord) → HasForm w → meaning (print_record w) ≡ record_line (record_of (Some (parts_written w)))
unfolding unindented
form_found w form =
    let first = digit_first w.vxid (replicate w.before_name space ++ from_name w) form.digits form.some_digits in
    let whole : print_record w ≡ replicate w.before_vxid space ++ first.0 ∷ first.1 = regrouped w ∙ ap (λ t. replicate w.before_vxid space ++ t) first.2 in
    let passed : without_spaces (print_record w) ≡ first.0 ∷ first.1 = ap without_spaces whole ∙ spaces_passed w.before_vxid (first.0 ∷ first.1) ∙ no_space_first first.0 first.1 (omega arith) in
    let other : NoComment (print_record w) = rw whole (spaces_no_comment w.before_vxid first.0 first.1 (omega arith)) in
    no_comment (print_record w) other ∙ ap unindented passed ∙ ap (λ t. record_line (record_of (parts_of t))) (sym first.2) ∙ ap (λ o. record_line (record_of o)) (parts_found w form)

-- a line has one meaning, which reading it finds
pub meaning_found : (bytes : List ℕ) (l : Line) → IsLine bytes l → meaning bytes ≡ Ok l
unfolding meaning unindented without_spaces record_line
meaning_found bytes BlankLine (n, is) =
    let all : without_spaces (replicate n space) ≡ [] = ap without_spaces (sym (append-nil (replicate n space))) ∙ spaces_passed n [] in
    rw (is, no_comment (replicate n space) (blank_no_comment n), all) refl
meaning_found bytes CommentLine (text, is) = rw is refl
meaning_found bytes (RecordLine l) (w, is, text) = ap meaning text ∙ form_found w (HasForm-from w l is) ∙ ap record_line (record_found w l is)

-- what came of a record's line
lined : (r : Result LoggedRecord LineFault) (l : Line) → record_line r ≡ Ok l → (found : LoggedRecord) × (r ≡ Ok found) × (RecordLine found ≡ l)
unfolding record_line
lined (Err fault) l e = absurd cc
lined (Ok found) l e = (found, refl, same_Ok _ refl e)

unlined : (r : Result LoggedRecord LineFault) (fault : LineFault) → record_line r ≡ Err fault → r ≡ Err fault
unfolding record_line
unlined (Err other) fault e = ap Err (same_Err _ refl e)
unlined (Ok found) fault e = absurd cc

-- what comes of the parts that were found behind spaces
record_behind : (n : ℕ) (text : List ℕ) (l : LoggedRecord) (o : Option Written) → parts_of text ≡ o → record_of o ≡ Ok l → IsLine (replicate n space ++ text) (RecordLine l)
unfolding record_of
record_behind n text l None at e = absurd cc
record_behind n text l (Some p) at e =
    let w = parts_are n text p at in
    (w.0, record_is w.0 l w.1 (ap (λ (x : Written). record_of (Some x)) w.3 ∙ e), sym w.2)

refused_behind : (n : ℕ) (text : List ℕ) (fault : LineFault) (o : Option Written) → parts_of text ≡ o → fault ≢ OtherForm → record_of o ≡ Err fault → IsRefused (replicate n space ++ text) fault
unfolding record_of
refused_behind n text fault None at other e = absurd (other (sym (same_Err _ refl e)))
refused_behind n text fault (Some p) at other e =
    let w = parts_are n text p at in
    subst (λ x. IsRefused x fault) w.2 (refused_is w.0 fault w.1 (ap (λ (x : Written). record_of (Some x)) w.3 ∙ e))

unindented_is : (n : ℕ) (rest : List ℕ) (l : Line) → unindented rest ≡ Ok l → IsLine (replicate n space ++ rest) l
unfolding unindented
unindented_is n [] l e = subst (λ x. IsLine (replicate n space ++ []) x) (same_Ok _ refl e) (n, append-nil (replicate n space))
unindented_is n (b ∷ rest) l e =
    let found = lined (record_of (parts_of (b ∷ rest))) l e in
    subst (λ x. IsLine (replicate n space ++ b ∷ rest) x) found.2 (record_behind n (b ∷ rest) found.0 (parts_of (b ∷ rest)) refl found.1)

unindented_refused : (n : ℕ) (rest : List ℕ) (fault : LineFault) → fault ≢ OtherForm → unindented rest ≡ Err fault → IsRefused (replicate n space ++ rest) fault
unfolding unindented
unindented_refused n [] fault other e = absurd cc
unindented_refused n (b ∷ rest) fault other e = refused_behind n (b ∷ rest) fault (parts_of (b ∷ rest)) refl other (unlined (record_of (parts_of (b ∷ rest))) fault e)

-- what is found is the meaning
pub IsLine-from : (bytes : List ℕ) (l : Line) → meaning bytes ≡ Ok l → IsLine bytes l
unfolding meaning
IsLine-from [] l e = subst (λ x. IsLine [] x) (same_Ok _ refl e) (0, refl)
IsLine-from (b ∷ text) l e =
    elim (b == comment_mark) as (λ t. (b == comment_mark) ≡ t → (if t then Ok CommentLine else unindented (without_spaces (b ∷ text))) ≡ Ok l → IsLine (b ∷ text) l) [
      | true ↦ λ is e. subst (λ x. IsLine (b ∷ text) x) (same_Ok _ refl e) (text, ap (λ x. x ∷ text) (eqb-true b comment_mark is))
      | false ↦ λ is e. let all = spaces_are (b ∷ text) in subst (λ x. IsLine x l) (sym all.1) (unindented_is all.0 (without_spaces (b ∷ text)) l e)
    ] refl e

-- a record's form is refused for its VXID or its name
formed_so : (parts : Written) (v t : Option ℕ) → record_from parts v t ≢ Err OtherForm
unfolding record_from
formed_so parts None t = λ e. absurd cc
formed_so parts (Some vxid) None = λ e. absurd cc
formed_so parts (Some vxid) (Some tag) = λ e. absurd cc

formed : (w : WrittenRecord) → HasForm w → meaning (print_record w) ≢ Err OtherForm
unfolding record_of
formed w form e = formed_so (parts_written w) (vxid_named w.vxid) (tag_called w.name) (unlined (record_of (Some (parts_written w))) OtherForm (sym (form_found w form) ∙ e))

refused_formed : (bytes : List ℕ) (fault : LineFault) → fault ≢ OtherForm → meaning bytes ≡ Err fault → IsRefused bytes fault
unfolding meaning
refused_formed [] fault other e = absurd cc
refused_formed (b ∷ text) fault other e =
    elim (b == comment_mark) as (λ t. (b == comment_mark) ≡ t → (if t then Ok CommentLine else unindented (without_spaces (b ∷ text))) ≡ Err fault → IsRefused (b ∷ text) fault) [
      | true ↦ λ is e. absurd cc
      | false ↦ λ is e. let all = spaces_are (b ∷ text) in subst (λ x. IsRefused x fault) (sym all.1) (unindented_refused all.0 (without_spaces (b ∷ text)) fault other e)
    ] refl e

ok_err : {A B : Type 0} {x : A} {y : B} → Ok x ≡ Err y → ⊥
ok_err e = cc

-- what is refused is so for its reason
pub IsRefused-from : (bytes : List ℕ) (fault : LineFault) → meaning bytes ≡ Err fault → IsRefused bytes fault
IsRefused-from bytes OtherForm e =
    (λ is. ok_err (sym (meaning_found bytes BlankLine is) ∙ e), λ is. ok_err (sym (meaning_found bytes CommentLine is) ∙ e), λ w form same. formed w form (ap meaning (sym same) ∙ e))
IsRefused-from bytes OtherVxid e = refused_formed bytes OtherVxid (λ same. absurd cc) e
IsRefused-from bytes UnknownTag e = refused_formed bytes UnknownTag (λ same. absurd cc) e
