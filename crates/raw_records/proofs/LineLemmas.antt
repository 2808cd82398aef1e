-- The lines of bytes, one after another, and what they mean.
use Rattle.std.proofs.Common.{◌≡◌, ℕ, suc, ◌+◌, ◌<◌, ◌≤◌, Bool, true, false, ◌==◌, cond, List, [], ◌∷◌, ◌++◌, length, get_or, take, drop, ◌⊎◌, inl, inr, Option, None, Some, Result, Ok, Err, refl, sym, ap, subst, ◌∙◌, arith}
use Rattle.std.specs.Prelude.{IfErr, IfOk, OnErr}
use Rattle.std.specs.List.{AllZip, onto_first, slice_split}
use Rattle.std.specs.Str.Lines.{lines, lines_of_parts, strip_carriage_return}
use Rattle.memchr.specs.Find.{IsFirstByte, is_byte}
use Rattle.std.proofs.lemmas.Bool.{eqb-true, false_from_ne_true, ne_eqb}
use Rattle.std.proofs.lemmas.List.{drop-drop, drop_more, get_or-take, get_or_default, length-append, length-replicate, length-take, take-append-drop}
use Rattle.std.proofs.lemmas.List.Splits.{slice_split_at, slice_split_none}
use Rattle.vsl_tags.proofs.CalledLemmas.{IsPlain-from}
use Rattle.raw_records.specs.declared.line.LineFault.{LineFault}
use Rattle.raw_records.specs.declared.line.LineRead.{LineRead}
use Rattle.raw_records.specs.Lines.{Line, BlankLine, CommentLine, RecordLine, IsLine, IsRefused, HasLines, HasNoFeed, IsEndedLine, IsFirstBad, LoggedRecord, payload_of, print_payload, print_record}
use Rattle.raw_records.specs.LineRead.{IsInRange, line_of}
use Rattle.raw_records.specs.inside.Reading.{meaning, read_as}
use Rattle.raw_records.proofs.ReadingLemmas.{IsLine-from, IsRefused-from, meaning_found, same_Ok}

-- ---- what was read of a line

err_ok : {A B : Type 0} {x : A} {y : B} → Err x ≡ Ok y → ⊥
err_ok e = cc

in_range : (text : List ℕ) (l : Line) → IsLine text l → IsInRange l
in_range text BlankLine is = tt
in_range text CommentLine is = tt
in_range text (RecordLine l) is = is.1.vxid.4

pub line_read : (text : List ℕ) (r : Result LineRead LineFault) → read_as r ≡ meaning text → IfOk r (λ l. IsLine text (line_of l))
line_read text (Err fault) is = tt
line_read text (Ok l) is = IsLine-from text (line_of l) (sym is)

pub line_in_range : (text : List ℕ) (r : Result LineRead LineFault) → read_as r ≡ meaning text → IfOk r (λ l. IsInRange (line_of l))
line_in_range text (Err fault) is = tt
line_in_range text (Ok l) is = in_range text (line_of l) (IsLine-from text (line_of l) (sym is))

pub line_why : (text : List ℕ) (r : Result LineRead LineFault) → read_as r ≡ meaning text → IfErr r (λ fault. IsRefused text fault)
line_why text (Err fault) is = IsRefused-from text fault (sym is)
line_why text (Ok l) is = tt

pub line_refused : (text : List ℕ) (r : Result LineRead LineFault) → read_as r ≡ meaning text → OnErr r ((l : Line) → ¬ (IsLine text l))
line_refused text (Err fault) is = λ l line. err_ok (is ∙ meaning_found text l line)
line_refused text (Ok l) is = tt

-- ---- the first line

-- a line feed
abbrev pub is_feed : ℕ → Bool
is_feed b = b == 10

-- some part is there
pub split_some : (bytes : List ℕ) → (part : List ℕ) × (parts : List (List ℕ)) × (slice_split is_feed bytes ≡ part ∷ parts)
split_some [] = ([], [], refl)
split_some (b ∷ bytes) =
    let more = split_some bytes in
    elim (is_feed b) as (λ t. (part : List ℕ) × (parts : List (List ℕ)) × (cond t ([] ∷ slice_split is_feed bytes) (onto_first b (slice_split is_feed bytes)) ≡ part ∷ parts)) [
      | true ↦ ([], slice_split is_feed bytes, refl)
      | false ↦ (b ∷ more.0, more.1, ap (onto_first b) more.2)
    ]

-- the lines behind a line feed
pub parts_lines : (part : List ℕ) (bytes : List ℕ) → lines_of_parts (part ∷ slice_split is_feed bytes) ≡ strip_carriage_return part ∷ lines bytes
parts_lines part bytes =
    let some = split_some bytes in
    ap (λ ps. lines_of_parts (part ∷ ps)) some.2 ∙ ap (λ ps. strip_carriage_return part ∷ lines_of_parts ps) (sym some.2)

-- a line that ends with a line feed
pub ended : (bytes : List ℕ) (at : ℕ) → IsFirstByte (is_byte 10) bytes (Some at) → IsEndedLine bytes (strip_carriage_return (take at bytes)) (drop 1 (drop at bytes))
ended bytes at found =
    let high : at < length bytes = found.0.high in
    let none : HasNoFeed (take at bytes) = λ k d within.
    let before : k < at = omega (arith, length-take at bytes) in
    let same : get_or (take at bytes) k d ≡ get_or bytes k 0 = get_or-take at bytes k d before ∙ get_or_default bytes k d 0 (omega arith) in
    rw same (false_from_ne_true _ (found.0.before k (omega arith) before)) in
    let whole : bytes ≡ take at bytes ++ 10 ∷ drop (at + 1) bytes = sym (take-append-drop at bytes) ∙ ap (λ xs. take at bytes ++ xs) (drop_more bytes at 0 high ∙ ap (λ b. b ∷ drop (at + 1) bytes) (eqb-true _ 10 found.1)) in
    (take at bytes, none, whole ∙ ap (λ rest. take at bytes ++ 10 ∷ rest) (sym (drop-drop 1 at bytes)), refl)

-- bytes without a line feed
pub none_ended : (bytes : List ℕ) → IsFirstByte (is_byte 10) bytes None → HasNoFeed bytes
none_ended bytes found = λ k d within. rw (get_or_default bytes k d 0 within) (false_from_ne_true _ (found k (omega arith) within))

-- the lines of bytes whose first ends so
pub line_first : (bytes line rest : List ℕ) → IsEndedLine bytes line rest → lines bytes ≡ line ∷ lines rest
line_first bytes line rest (text, none, whole, is) = ap lines_of_parts (ap (slice_split is_feed) whole ∙ slice_split_at is_feed text 10 rest none refl) ∙ parts_lines text rest ∙ ap (λ l. l ∷ lines rest) (sym is)

-- what follows it is shorter
pub line_shorter : (bytes line rest : List ℕ) → IsEndedLine bytes line rest → length rest < length bytes
line_shorter bytes line rest (text, none, whole, is) = omega (arith, ap length whole, length-append text (10 ∷ rest))

-- a line that is the last, without a line feed
pub line_last : (bytes : List ℕ) → HasNoFeed bytes → 0 < length bytes → lines bytes ≡ bytes ∷ []
line_last bytes none some =
    let nonempty : (length bytes == 0) ≡ false = ne_eqb _ _ (λ e. omega arith) in
    ap lines_of_parts (slice_split_none is_feed bytes none) ∙ rw nonempty refl

-- ---- how many bytes a line has

-- a line without its carriage return is no longer
pub stripped_short : (line : List ℕ) → length (strip_carriage_return line) ≤ length line
stripped_short line = grind (arith, length-take)

written_payload : (p : Option (List ℕ)) → length (payload_of p) ≤ length (print_payload p)
written_payload None = omega arith
written_payload (Some p) = omega arith

-- a record's line has 7 bytes or more beside its payload
pub record_bytes : (text : List ℕ) (l : LoggedRecord) → IsLine text (RecordLine l) → 7 + length l.rec.payload ≤ length text
record_bytes text l (w, is, text_is) =
    let plain = IsPlain-from l.rec.tag w.name is.name in
    let size : length (print_record w) ≡ w.before_vxid + length w.vxid + w.before_name + length w.name + w.before_mark + (1 + length (print_payload w.payload)) = simp (length-append, length-replicate) (omega arith) in
    omega (arith, size, ap length text_is, plain.some, is.vxid.1, written_payload w.payload, ap length is.payload)

-- ---- the lines of some bytes

-- a line has one meaning
pub one_meaning : (text : List ℕ) (l m : Line) → IsLine text l → IsLine text m → l ≡ m
one_meaning text l m is also = same_Ok (meaning text) (meaning_found text l is) (meaning_found text m also)

-- lines have one list of meanings
pub one_list : (texts : List (List ℕ)) (ls ms : List Line) → AllZip IsLine texts ls → AllZip IsLine texts ms → ls ≡ ms
one_list [] [] [] are also = refl
one_list (text ∷ texts) (l ∷ ls) (m ∷ ms) are also = rw (one_meaning text l m are.0 also.0, one_list texts ls ms are.1 also.1) refl
one_list [] (l ∷ ls) ms are also = absurd are
one_list [] [] (m ∷ ms) are also = absurd also
one_list (text ∷ texts) [] ms are also = absurd are
one_list (text ∷ texts) (l ∷ ls) [] are also = absurd also

-- lines that all have meanings have no bad one
meaning_at : (before : List (List ℕ)) (bad : List ℕ) (behind : List (List ℕ)) (ls : List Line) → AllZip IsLine (before ++ bad ∷ behind) ls → (l : Line) × IsLine bad l
meaning_at [] bad behind [] are = absurd are
meaning_at [] bad behind (l ∷ ls) are = (l, are.0)
meaning_at (text ∷ before) bad behind [] are = absurd are
meaning_at (text ∷ before) bad behind (l ∷ ls) are = meaning_at before bad behind ls are.1

pub no_bad : (bytes : List ℕ) (ls : List Line) (line : ℕ) → HasLines bytes ls → IsFirstBad bytes line → ⊥
no_bad bytes ls line are bad =
    let at = meaning_at bad.before bad.bad bad.behind ls (subst (λ texts. AllZip IsLine texts ls) bad.parts are) in
    bad.is_bad at.0 at.1

same_place : (b c : List (List ℕ)) (x y : List ℕ) (r s : List (List ℕ)) (ls ms : List Line) → b ++ x ∷ r ≡ c ++ y ∷ s → AllZip IsLine b ls → AllZip IsLine c ms → ((l : Line) → ¬ (IsLine x l)) → ((l : Line) → ¬ (IsLine y l)) → length b ≡ length c
same_place [] [] x y r s ls ms e are also bad worse = refl
same_place [] (t ∷ c) x y r s ls [] e are also bad worse = absurd also
same_place [] (t ∷ c) x y r s ls (m ∷ ms) e are also bad worse = let same : t ≡ x = cc in absurd (bad m (subst (λ u. IsLine u m) same also.0))
same_place (t ∷ b) [] x y r s [] ms e are also bad worse = absurd are
same_place (t ∷ b) [] x y r s (l ∷ ls) ms e are also bad worse = let same : t ≡ y = cc in absurd (worse l (subst (λ u. IsLine u l) same are.0))
same_place (t ∷ b) (u ∷ c) x y r s [] ms e are also bad worse = absurd are
same_place (t ∷ b) (u ∷ c) x y r s (l ∷ ls) [] e are also bad worse = absurd also
same_place (t ∷ b) (u ∷ c) x y r s (l ∷ ls) (m ∷ ms) e are also bad worse = let same : b ++ x ∷ r ≡ c ++ y ∷ s = cc in ap suc (same_place b c x y r s ls ms same are.1 also.1 bad worse)

-- a listing has one first bad line at most
pub one_bad : (bytes : List ℕ) (m n : ℕ) → IsFirstBad bytes m → IsFirstBad bytes n → m ≡ n
one_bad bytes m n a b = omega (arith, a.place, b.place, same_place a.before b.before a.bad b.bad a.behind b.behind a.meant b.meant (sym a.parts ∙ b.parts) a.are_lines b.are_lines a.is_bad b.is_bad)

-- lines that all have meanings, or the first that has none
pub record AreMeant (texts : List (List ℕ)) : Type 0 where
  pub meant : List Line
  pub are : AllZip IsLine texts meant

pub record HasBad (texts : List (List ℕ)) : Type 0 where
  pub before : List (List ℕ)
  pub bad : List ℕ
  pub behind : List (List ℕ)
  pub meant : List Line
  pub parts : texts ≡ before ++ bad ∷ behind
  pub are_lines : AllZip IsLine before meant
  pub is_bad : (l : Line) → ¬ (IsLine bad l)

pub all_or_bad : (texts : List (List ℕ)) → AreMeant texts ⊎ HasBad texts
all_or_bad [] = inl (record { meant = []; are = tt })
all_or_bad (text ∷ texts) =
    elim (meaning text) as (λ r. meaning text ≡ r → AreMeant (text ∷ texts) ⊎ HasBad (text ∷ texts)) [
      | Err fault ↦ λ none. inr (record { before = []; bad = text; behind = texts; meant = []; parts = refl; are_lines = tt; is_bad = λ l is. err_ok (sym none ∙ meaning_found text l is) })
      | Ok l ↦ λ is. elim (all_or_bad texts) [
        | inl all ↦ inl (record { meant = l ∷ all.meant; are = (IsLine-from text l is, all.are) })
        | inr one ↦ inr (record { before = text ∷ one.before; bad = one.bad; behind = one.behind; meant = l ∷ one.meant; parts = ap (λ ts. text ∷ ts) one.parts; are_lines = (IsLine-from text l is, one.are_lines); is_bad = one.is_bad })
      ]
    ] refl
