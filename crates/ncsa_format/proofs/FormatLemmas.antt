-- What a text is read as is what it is: a format of these pieces, or a text with this fault.
use Rattle.std.proofs.Common.{◌≡◌, ◌≢◌, inl, inr, ℕ, zero, suc, ◌-◌, ◌≤◌, Bool, true, false, eqb, List, [], ◌∷◌, ◌++◌, length, length-append, Option, Some, None, Result, Ok, Err, refl, sym, ap, subst, ◌∙◌, append_assoc, arith}
use Rattle.std.specs.Prelude.{codes, if◌then◌else◌, IfSome}
use Rattle.std.proofs.lemmas.List.{append-nil}
use Rattle.std.proofs.lemmas.Bool.{eqb-true, eqb-false, ne_eqb}
use Rattle.ncsa_format.specs.declared.formatter.Formatter.{Formatter}
use Rattle.ncsa_format.specs.declared.formatter.Piece.{Piece}
use Rattle.ncsa_format.specs.declared.formatter.Piece.TheVariants.{Byte, Value}
use Rattle.ncsa_format.specs.Formatter.{IsWritten, percent}
use Rattle.ncsa_format.specs.Reading.{as_piece, before, behind_backslash, behind_percent, fault_read, format_fault, formatter_at, piece_at, read_most, read_pieces, then_read}
use Rattle.ncsa_format.specs.inside.Read.{all_before}
use Rattle.ncsa_format.specs.Format.{IsFaultAt, IsFormat, IsPieceAt, NoEscape}

-- a text that is written as a formatter is read as it
abbrev pub Reads : Type 0
Reads = (f : Formatter) (w rest : List ℕ) → IsWritten f w → formatter_at (w ++ rest) ≡ Some (f, rest)

-- what is read as a formatter is written as it
abbrev pub Writes : Type 0
Writes = (text : List ℕ) (f : Formatter) (rest : List ℕ) → formatter_at text ≡ Some (f, rest) → (w : List ℕ) × IsWritten f w × (text ≡ w ++ rest)

-- ---- a piece that is read is written

-- equal texts have the same first byte, and the same rest
first_same : (a b : ℕ) (x y : List ℕ) → a ∷ x ≡ b ∷ y → (a ≡ b) × (x ≡ y)
first_same a b x y e = (cc, cc)

-- no escape begins with another byte than a backslash
no_escape : (b : ℕ) (text : List ℕ) → b ≢ 92 → NoEscape (b ∷ text)
no_escape b text other rest = (λ e. other (first_same b 92 _ _ e).0, λ e. other (first_same b 92 _ _ e).0)

second_same : (a b c d : ℕ) (x y : List ℕ) → a ∷ c ∷ x ≡ b ∷ d ∷ y → c ≡ d
second_same a b c d x y e = (first_same c d x y (first_same a b (c ∷ x) (d ∷ y) e).1).0

-- nor with a backslash before another byte than `n` and `t`
plain_backslash : (b : ℕ) (text : List ℕ) → b ≢ 110 → b ≢ 116 → NoEscape (92 ∷ b ∷ text)
plain_backslash b text n t rest = (λ e. n (second_same 92 92 b 110 _ _ e), λ e. t (second_same 92 92 b 116 _ _ e))

-- a backslash is no percent sign
no_percent_sign : 92 ≢ percent
no_percent_sign e = absurd (omega (arith, e))

backslash_by : (t u : Bool) (b : ℕ) (text : List ℕ) → eqb b 110 ≡ t → eqb b 116 ≡ u
    → (let found : Piece × List ℕ = if t then (Byte 10, text) else (if u then (Byte 9, text) else (Byte 92, b ∷ text)) in IsPieceAt found.0 (92 ∷ b ∷ text) found.1)
backslash_by true u b text n t = inr (inl (refl, ap (λ x. 92 ∷ x ∷ text) (eqb-true b 110 n)))
backslash_by false true b text n t = inr (inr (inl (refl, ap (λ x. 92 ∷ x ∷ text) (eqb-true b 116 t))))
backslash_by false false b text n t = inr (inr (inr (no_percent_sign, refl, plain_backslash b text (eqb-false b 110 n) (eqb-false b 116 t))))

backslash_written : (text : List ℕ) → IsPieceAt (behind_backslash text).0 (92 ∷ text) (behind_backslash text).1
backslash_written [] = inr (inr (inr (no_percent_sign, refl, λ rest. (λ e. absurd cc, λ e. absurd cc))))
backslash_written (b ∷ text) = backslash_by (eqb b 110) (eqb b 116) b text refl refl

formatter_piece : (writes : Writes) (text : List ℕ) (o : Option (Formatter × List ℕ)) → formatter_at text ≡ o → IfSome (as_piece o) (λ found. IsPieceAt found.0 (percent ∷ text) found.1)
formatter_piece writes text None e = tt
formatter_piece writes text (Some (f, rest)) e = let is = writes text f rest e in (is.0, is.1, ap (λ x. percent ∷ x) is.2)

percent_by : (writes : Writes) (t : Bool) (b : ℕ) (text : List ℕ) → eqb b percent ≡ t
    → IfSome (if t then Some (Byte percent, text) else as_piece (formatter_at (b ∷ text))) (λ found. IsPieceAt found.0 (percent ∷ b ∷ text) found.1)
percent_by writes true b text p = inl (refl, ap (λ x. percent ∷ x ∷ text) (eqb-true b percent p))
percent_by writes false b text p = formatter_piece writes (b ∷ text) (formatter_at (b ∷ text)) refl

percent_written : (writes : Writes) (text : List ℕ) → IfSome (behind_percent text) (λ found. IsPieceAt found.0 (percent ∷ text) found.1)
percent_written writes [] = tt
percent_written writes (b ∷ text) = percent_by writes (eqb b percent) b text refl

piece_by : (writes : Writes) (t u : Bool) (b : ℕ) (text : List ℕ) → eqb b percent ≡ t → eqb b 92 ≡ u
    → IfSome (if t then behind_percent text else (if u then Some (behind_backslash text) else Some (Byte b, text))) (λ found. IsPieceAt found.0 (b ∷ text) found.1)
piece_by writes true u b text p q = subst (λ x. IfSome (behind_percent text) (λ found. IsPieceAt found.0 (x ∷ text) found.1)) (sym (eqb-true b percent p)) (percent_written writes text)
piece_by writes false true b text p q = subst (λ x. IsPieceAt (behind_backslash text).0 (x ∷ text) (behind_backslash text).1) (sym (eqb-true b 92 q)) (backslash_written text)
piece_by writes false false b text p q = inr (inr (inr (eqb-false b percent p, refl, no_escape b text (eqb-false b 92 q))))

-- a piece that is read is written so
pub piece_written : (writes : Writes) (b : ℕ) (text : List ℕ) → IfSome (piece_at b text) (λ found. IsPieceAt found.0 (b ∷ text) found.1)
piece_written writes b text = piece_by writes (eqb b percent) (eqb b 92) b text refl refl

-- and takes a byte or more
pub piece_shorter : (p : Piece) (b : ℕ) (text rest : List ℕ) → IsPieceAt p (b ∷ text) rest → length rest ≤ length text
piece_shorter (Byte c) b text rest (inl is) = omega (arith, ap length is.1)
piece_shorter (Byte c) b text rest (inr (inl is)) = omega (arith, ap length is.1)
piece_shorter (Byte c) b text rest (inr (inr (inl is))) = omega (arith, ap length is.1)
piece_shorter (Byte c) b text rest (inr (inr (inr is))) = omega (arith, ap length is.1)
piece_shorter (Value f) b text rest is = omega (arith, ap length is.2, length-append is.0 rest)

-- ---- a piece that is written is read

-- a text begins with a byte, and is read as this piece before this rest
pub record Begins (p : Piece) (text rest : List ℕ) : Type 0 where
  pub byte : ℕ
  pub behind : List ℕ
  pub is : text ≡ byte ∷ behind
  pub reads : piece_at byte behind ≡ Some (p, rest)

value_by : (t : Bool) (b : ℕ) (text : List ℕ) (f : Formatter) (rest : List ℕ) → eqb b percent ≡ t → formatter_at (b ∷ text) ≡ Some (f, rest)
    → (if t then Some (Byte percent, text) else as_piece (formatter_at (b ∷ text))) ≡ Some (Value f, rest)
value_by true b text f rest p e = let none : formatter_at (percent ∷ text) ≡ Some (f, rest) = subst (λ x. formatter_at (x ∷ text) ≡ Some (f, rest)) (eqb-true b percent p) e in absurd cc
value_by false b text f rest p e = ap as_piece e

-- a formatter is read behind its percent sign
value_read : (text : List ℕ) (f : Formatter) (rest : List ℕ) → formatter_at text ≡ Some (f, rest) → behind_percent text ≡ Some (Value f, rest)
value_read [] f rest e = absurd cc
value_read (b ∷ text) f rest e = value_by (eqb b percent) b text f rest refl e

-- a backslash that begins no escape is read as itself
plain_by : (b : ℕ) (rest : List ℕ) → NoEscape (92 ∷ b ∷ rest) → behind_backslash (b ∷ rest) ≡ (Byte 92, b ∷ rest)
plain_by b rest none =
    ap (λ (t : Bool). if t then (Byte 10, rest) else (if eqb b 116 then (Byte 9, rest) else (Byte 92, b ∷ rest))) (ne_eqb b 110 (λ e. (none rest).0 (ap (λ x. 92 ∷ x ∷ rest) e)))
    ∙ ap (λ (t : Bool). if t then (Byte 9, rest) else (Byte 92, b ∷ rest)) (ne_eqb b 116 (λ e. (none rest).1 (ap (λ x. 92 ∷ x ∷ rest) e)))

plain_read : (rest : List ℕ) → NoEscape (92 ∷ rest) → behind_backslash rest ≡ (Byte 92, rest)
plain_read [] none = refl
plain_read (b ∷ rest) none = plain_by b rest none

byte_by : (t : Bool) (b : ℕ) (rest : List ℕ) → eqb b 92 ≡ t → NoEscape (b ∷ rest) → (if t then Some (behind_backslash rest) else Some (Byte b, rest)) ≡ Some (Byte b, rest)
byte_by true b rest q none =
    let is = eqb-true b 92 q in
    ap Some (plain_read rest (subst (λ x. NoEscape (x ∷ rest)) is none)) ∙ ap (λ x. Some (Byte x, rest)) (sym is)
byte_by false b rest q none = refl

-- a byte that is itself is read as itself
byte_read : (b : ℕ) (rest : List ℕ) → b ≢ percent → NoEscape (b ∷ rest) → piece_at b rest ≡ Some (Byte b, rest)
byte_read b rest other none =
    ap (λ (t : Bool). if t then behind_percent rest else (if eqb b 92 then Some (behind_backslash rest) else Some (Byte b, rest))) (ne_eqb b percent other)
    ∙ byte_by (eqb b 92) b rest refl none

-- a piece that is written so is read
pub piece_read : (reads : Reads) (p : Piece) (text rest : List ℕ) → IsPieceAt p text rest → Begins p text rest
piece_read reads (Byte c) text rest (inl is) = record { byte = percent; behind = percent ∷ rest; is = is.1; reads = ap (λ x. Some (Byte x, rest)) (sym is.0) }
piece_read reads (Byte c) text rest (inr (inl is)) = record { byte = 92; behind = 110 ∷ rest; is = is.1; reads = ap (λ x. Some (Byte x, rest)) (sym is.0) }
piece_read reads (Byte c) text rest (inr (inr (inl is))) = record { byte = 92; behind = 116 ∷ rest; is = is.1; reads = ap (λ x. Some (Byte x, rest)) (sym is.0) }
piece_read reads (Byte c) text rest (inr (inr (inr is))) = record { byte = c; behind = rest; is = is.1; reads = byte_read c rest is.0 (subst NoEscape is.1 is.2) }
piece_read reads (Value f) text rest is = record { byte = percent; behind = is.0 ++ rest; is = is.2; reads = value_read (is.0 ++ rest) f rest (reads f is.0 rest is.1) }

-- ---- formats

-- what was read of the rest, before which a piece was read
record Rest (p : Piece) (pieces : List Piece) (rest : Result (List Piece) ℕ) : Type 0 where
  more : List Piece
  all : pieces ≡ p ∷ more
  is : rest ≡ Ok more

rest_read : (p : Piece) (pieces : List Piece) (rest : Result (List Piece) ℕ) → before p rest ≡ Ok pieces → Rest p pieces rest
rest_read p pieces (Ok more) e = record { more = more; all = cc; is = refl }
rest_read p pieces (Err left) e = absurd cc

rest_failed : (p : Piece) (left : ℕ) (rest : Result (List Piece) ℕ) → before p rest ≡ Err left → rest ≡ Err left
rest_failed p left (Ok more) e = absurd cc
rest_failed p left (Err n) e = cc

format_on : (n b : ℕ) (text : List ℕ) (pieces : List Piece) (o : Option (Piece × List ℕ)) → ((t : List ℕ) (ps : List Piece) → read_most n t ≡ Ok ps → IsFormat ps t)
    → IfSome o (λ found. IsPieceAt found.0 (b ∷ text) found.1) → then_read (read_most n) (suc (length text)) o ≡ Ok pieces → IsFormat pieces (b ∷ text)
format_on n b text pieces None more is e = absurd cc
format_on n b text pieces (Some found) more is e =
    let rest = rest_read found.0 pieces (read_most n found.1) e in
    subst (λ ps. IsFormat ps (b ∷ text)) (sym rest.all) (found.1, is, more found.1 rest.more rest.is)

-- what is read as pieces is a format of them
pub read_is_format : (writes : Writes) (n : ℕ) (text : List ℕ) (pieces : List Piece) → read_most n text ≡ Ok pieces → IsFormat pieces text
unfolding read_most
read_is_format writes n [] pieces e = let none : [] ≡ pieces = cc in subst (λ ps. IsFormat ps []) none refl
read_is_format writes zero (b ∷ text) pieces e = absurd cc
read_is_format writes (suc n) (b ∷ text) pieces e = format_on n b text pieces (piece_at b text) (read_is_format writes n) (piece_written writes b text) e

-- a format of pieces is read as them
pub format_is_read : (reads : Reads) (pieces : List Piece) (n : ℕ) (text : List ℕ) → length text ≤ n → IsFormat pieces text → read_most n text ≡ Ok pieces
unfolding read_most
format_is_read reads [] n text few is = subst (λ t. read_most n t ≡ Ok []) (sym is) refl
format_is_read reads (p ∷ pieces) zero text few is = let begun = piece_read reads p text is.0 is.1 in absurd (omega (arith, ap length begun.is))
format_is_read reads (p ∷ pieces) (suc n) text few is =
    let begun = piece_read reads p text is.0 is.1 in
    let here : IsPieceAt p (begun.byte ∷ begun.behind) is.0 = subst (λ t. IsPieceAt p t is.0) begun.is is.1 in
    let shorter = piece_shorter p begun.byte begun.behind is.0 here in
    ap (read_most (suc n)) begun.is
    ∙ ap (then_read (read_most n) (suc (length begun.behind))) begun.reads
    ∙ ap (before p) (format_is_read reads pieces n is.0 (omega (arith, ap length begun.is)) is.2)

-- ---- faults

-- neither a formatter nor a percent sign begins a text
pub record NoneBegins (text : List ℕ) : Type 0 where
  pub no_formatter : (f : Formatter) (w rest : List ℕ) → IsWritten f w → text ≢ w ++ rest
  pub no_percent : (rest : List ℕ) → text ≢ percent ∷ rest

-- a format, and then a percent sign that begins no formatter, before so many bytes
pub record Faulty (text : List ℕ) (left : ℕ) : Type 0 where
  pub first : List ℕ
  pub behind : List ℕ
  pub parts : text ≡ first ++ percent ∷ behind
  pub place : left ≡ suc (length behind)
  pub pieces : List Piece
  pub is_format : IsFormat pieces first
  pub none : NoneBegins behind

-- where a formatter begins one is read
formatter_some : (reads : Reads) (text : List ℕ) (f : Formatter) (w rest : List ℕ) → formatter_at text ≡ None → IsWritten f w → text ≢ w ++ rest
formatter_some reads text f w rest none is e = let read = sym none ∙ ap formatter_at e ∙ reads f w rest is in absurd cc

as_none : (o : Option (Formatter × List ℕ)) → as_piece o ≡ None → o ≡ None
as_none None e = refl
as_none (Some found) e = absurd cc

none_by : (reads : Reads) (t : Bool) (b : ℕ) (text : List ℕ) → eqb b percent ≡ t → (if t then Some (Byte percent, text) else as_piece (formatter_at (b ∷ text))) ≡ None → NoneBegins (b ∷ text)
none_by reads true b text p e = absurd cc
none_by reads false b text p e = record {
  no_formatter = λ f w rest is. formatter_some reads (b ∷ text) f w rest (as_none (formatter_at (b ∷ text)) e) is;
  no_percent = λ rest e. eqb-false b percent p cc;
}

none_begins : (reads : Reads) (text : List ℕ) → behind_percent text ≡ None → NoneBegins text
none_begins reads [] e = record { no_formatter = λ f w rest is. formatter_some reads [] f w rest refl is; no_percent = λ rest e. absurd cc }
none_begins reads (b ∷ text) e = none_by reads (eqb b percent) b text refl e

fault_by : (reads : Reads) (t u : Bool) (b : ℕ) (text : List ℕ) → eqb b percent ≡ t → (if t then behind_percent text else (if u then Some (behind_backslash text) else Some (Byte b, text))) ≡ None
    → (b ≡ percent) × NoneBegins text
fault_by reads true u b text p e = (eqb-true b percent p, none_begins reads text e)
fault_by reads false true b text p e = absurd cc
fault_by reads false false b text p e = absurd cc

-- no piece begins with a percent sign alone
piece_none : (reads : Reads) (b : ℕ) (text : List ℕ) → piece_at b text ≡ None → (b ≡ percent) × NoneBegins text
piece_none reads b text e = fault_by reads (eqb b percent) (eqb b 92) b text refl e

-- a piece as it is written before a part of what stood behind it
record Cut (p : Piece) (text part rest : List ℕ) : Type 0 where
  w : List ℕ
  is : text ≡ w ++ rest
  here : IsPieceAt p (w ++ part) part

cut_escape : (b : ℕ) (part behind : List ℕ) → NoEscape (b ∷ part ++ percent ∷ behind) → NoEscape (b ∷ part)
cut_escape b part behind none rest =
    (λ e. (none (rest ++ percent ∷ behind)).0 (ap (λ x. x ++ percent ∷ behind) e), λ e. (none (rest ++ percent ∷ behind)).1 (ap (λ x. x ++ percent ∷ behind) e))

piece_cut : (p : Piece) (text part behind : List ℕ) → IsPieceAt p text (part ++ percent ∷ behind) → Cut p text part (part ++ percent ∷ behind)
piece_cut (Byte c) text part behind (inl is) = record { w = codes "%%"; is = is.1; here = inl (is.0, refl) }
piece_cut (Byte c) text part behind (inr (inl is)) = record { w = codes "\\n"; is = is.1; here = inr (inl (is.0, refl)) }
piece_cut (Byte c) text part behind (inr (inr (inl is))) = record { w = codes "\\t"; is = is.1; here = inr (inr (inl (is.0, refl))) }
piece_cut (Byte c) text part behind (inr (inr (inr is))) =
    record { w = c ∷ []; is = is.1; here = inr (inr (inr (is.0, refl, cut_escape c part behind (subst NoEscape is.1 is.2)))) }
piece_cut (Value f) text part behind is = record { w = percent ∷ is.0; is = is.2; here = (is.0, is.1, refl) }

fault_on : (reads : Reads) (n b : ℕ) (text : List ℕ) (left : ℕ) (o : Option (Piece × List ℕ)) → piece_at b text ≡ o → IfSome o (λ found. IsPieceAt found.0 (b ∷ text) found.1)
    → ((t : List ℕ) → length t ≤ n → read_most n t ≡ Err left → Faulty t left) → length text ≤ n → then_read (read_most n) (suc (length text)) o ≡ Err left → Faulty (b ∷ text) left
fault_on reads n b text left None at is more few e =
    let fault = piece_none reads b text at in
    record { first = []; behind = text; parts = ap (λ x. x ∷ text) fault.0; place = cc; pieces = []; is_format = refl; none = fault.1 }
fault_on reads n b text left (Some found) at is more few e =
    let shorter = piece_shorter found.0 b text found.1 is in
    let rest = more found.1 (omega (arith, shorter, few)) (rest_failed found.0 left (read_most n found.1) e) in
    let cut = piece_cut found.0 (b ∷ text) rest.first rest.behind (subst (λ r. IsPieceAt found.0 (b ∷ text) r) rest.parts is) in record {
      first = cut.w ++ rest.first;
      behind = rest.behind;
      parts = cut.is ∙ sym (append_assoc cut.w rest.first (percent ∷ rest.behind));
      place = rest.place;
      pieces = found.0 ∷ rest.pieces;
      is_format = (rest.first, cut.here, rest.is_format);
      none = rest.none;
    }

-- what isn't read whole has a fault
pub read_is_faulty : (reads : Reads) (writes : Writes) (n : ℕ) (text : List ℕ) (left : ℕ) → length text ≤ n → read_most n text ≡ Err left → Faulty text left
unfolding read_most
read_is_faulty reads writes n [] left few e = absurd cc
read_is_faulty reads writes zero (b ∷ text) left few e = absurd (omega (arith, few))
read_is_faulty reads writes (suc n) (b ∷ text) left few e =
    fault_on reads n b text left (piece_at b text) refl (piece_written writes b text) (λ t short e. read_is_faulty reads writes n t left short e) (omega (arith, few)) e

-- ---- and a fault is read

none_some : (writes : Writes) (text : List ℕ) (o : Option (Formatter × List ℕ)) → formatter_at text ≡ o → ((f : Formatter) (w rest : List ℕ) → IsWritten f w → text ≢ w ++ rest) → as_piece o ≡ None
none_some writes text None e none = refl
none_some writes text (Some (f, rest)) e none = let is = writes text f rest e in absurd (none f is.0 rest is.1 is.2)

none_at : (writes : Writes) (text : List ℕ) → NoneBegins text → behind_percent text ≡ None
none_at writes [] none = refl
none_at writes (b ∷ text) none =
    ap (λ (t : Bool). if t then Some (Byte percent, text) else as_piece (formatter_at (b ∷ text))) (ne_eqb b percent (λ e. none.no_percent text (ap (λ x. x ∷ text) e)))
    ∙ none_some writes (b ∷ text) (formatter_at (b ∷ text)) refl none.no_formatter

more_escape : (b : ℕ) (part behind : List ℕ) → NoEscape (b ∷ part) → NoEscape (b ∷ part ++ percent ∷ behind)
more_escape b [] behind none rest =
    (λ e. absurd (omega (arith, second_same b 92 percent 110 _ _ e)), λ e. absurd (omega (arith, second_same b 92 percent 116 _ _ e)))
more_escape b (c ∷ part) behind none rest = (
  λ e. (none part).0 (ap (λ x. x ∷ c ∷ part) (first_same b 92 _ _ e).0 ∙ ap (λ x. 92 ∷ x ∷ part) (second_same b 92 c 110 _ _ e)),
  λ e. (none part).1 (ap (λ x. x ∷ c ∷ part) (first_same b 92 _ _ e).0 ∙ ap (λ x. 92 ∷ x ∷ part) (second_same b 92 c 116 _ _ e)),
)

-- a piece as it is written before more
piece_more : (p : Piece) (text part behind : List ℕ) → IsPieceAt p text part → IsPieceAt p (text ++ percent ∷ behind) (part ++ percent ∷ behind)
piece_more (Byte c) text part behind (inl is) = inl (is.0, ap (λ x. x ++ percent ∷ behind) is.1)
piece_more (Byte c) text part behind (inr (inl is)) = inr (inl (is.0, ap (λ x. x ++ percent ∷ behind) is.1))
piece_more (Byte c) text part behind (inr (inr (inl is))) = inr (inr (inl (is.0, ap (λ x. x ++ percent ∷ behind) is.1)))
piece_more (Byte c) text part behind (inr (inr (inr is))) =
    let more = ap (λ x. x ++ percent ∷ behind) is.1 in inr (inr (inr (is.0, more, subst NoEscape (sym more) (more_escape c part behind (subst NoEscape is.1 is.2)))))
piece_more (Value f) text part behind is = (is.0, is.1, ap (λ x. x ++ percent ∷ behind) is.2 ∙ ap (λ x. percent ∷ x) (append_assoc is.0 part (percent ∷ behind)))

-- a format before a percent sign that begins no formatter is read up to it
pub fault_is_read : (reads : Reads) (writes : Writes) (pieces : List Piece) (n : ℕ) (first behind : List ℕ) → length (first ++ percent ∷ behind) ≤ n → IsFormat pieces first → NoneBegins behind
    → read_most n (first ++ percent ∷ behind) ≡ Err (suc (length behind))
unfolding read_most
fault_is_read reads writes [] zero first behind few is none = absurd (omega (arith, few, length-append first (percent ∷ behind)))
fault_is_read reads writes [] (suc n) first behind few is none =
    subst (λ t. read_most (suc n) (t ++ percent ∷ behind) ≡ Err (suc (length behind))) (sym is) (ap (then_read (read_most n) (suc (length behind))) (none_at writes behind none))
fault_is_read reads writes (p ∷ pieces) zero first behind few is none = absurd (omega (arith, few, length-append first (percent ∷ behind)))
fault_is_read reads writes (p ∷ pieces) (suc n) first behind few is none =
    let here = piece_more p first is.0 behind is.1 in
    let begun = piece_read reads p (first ++ percent ∷ behind) (is.0 ++ percent ∷ behind) here in
    let same : IsPieceAt p (begun.byte ∷ begun.behind) (is.0 ++ percent ∷ behind) = subst (λ t. IsPieceAt p t (is.0 ++ percent ∷ behind)) begun.is here in
    let shorter = piece_shorter p begun.byte begun.behind (is.0 ++ percent ∷ behind) same in
    ap (read_most (suc n)) begun.is
    ∙ ap (then_read (read_most n) (suc (length begun.behind))) begun.reads
    ∙ ap (before p) (fault_is_read reads writes pieces n is.0 behind (omega (arith, ap length begun.is, shorter, few)) is.2 none)

-- ---- whole texts

enough_by : (reads : Reads) (writes : Writes) (n m : ℕ) (text : List ℕ) (r : Result (List Piece) ℕ) → length text ≤ n → length text ≤ m → read_most n text ≡ r → r ≡ read_most m text
enough_by reads writes n m text (Ok pieces) p q e = sym (format_is_read reads pieces m text q (read_is_format writes n text pieces e))
enough_by reads writes n m text (Err left) p q e =
    let is = read_is_faulty reads writes n text left p e in
    let few = subst (λ t. length t ≤ m) is.parts q in
    ap Err is.place ∙ sym (ap (read_most m) is.parts ∙ fault_is_read reads writes is.pieces m is.first is.behind few is.is_format is.none)

-- a text is read alike with more turns than it has bytes
pub read_enough : (reads : Reads) (writes : Writes) (n m : ℕ) (text : List ℕ) → length text ≤ n → length text ≤ m → read_most n text ≡ read_most m text
read_enough reads writes n m text p q = enough_by reads writes n m text (read_most n text) p q refl

-- a piece that was read stands before those of the rest
pub read_next : (reads : Reads) (writes : Writes) (b : ℕ) (text rest : List ℕ) (p : Piece) → piece_at b text ≡ Some (p, rest) → read_pieces (b ∷ text) ≡ before p (read_pieces rest)
unfolding read_most
read_next reads writes b text rest p e =
    let is : IsPieceAt p (b ∷ text) rest = subst (λ o. IfSome o (λ found. IsPieceAt found.0 (b ∷ text) found.1)) e (piece_written writes b text) in
    ap (then_read (read_most (length text)) (suc (length text))) e
    ∙ ap (before p) (read_enough reads writes (length text) (length rest) rest (piece_shorter p b text rest is) (omega arith))

-- what stands behind a piece is no longer than what stood behind its first byte
pub next_shorter : (writes : Writes) (b : ℕ) (text rest : List ℕ) (p : Piece) → Some (p, rest) ≡ piece_at b text → length rest ≤ length text
next_shorter writes b text rest p e = piece_shorter p b text rest (subst (λ o. IfSome o (λ found. IsPieceAt found.0 (b ∷ text) found.1)) (sym e) (piece_written writes b text))

-- where no piece begins reading stops
pub read_stops : (b : ℕ) (text : List ℕ) → piece_at b text ≡ None → read_pieces (b ∷ text) ≡ Err (suc (length text))
unfolding read_most
read_stops b text e = ap (then_read (read_most (length text)) (suc (length text))) e

-- pieces that were read, and one more
pub one_more : (done : List Piece) (p : Piece) (rest : Result (List Piece) ℕ) → all_before done (before p rest) ≡ all_before (done ++ p ∷ []) rest
one_more done p (Ok more) = ap Ok (sym (append_assoc done (p ∷ []) more))
one_more done p (Err left) = refl

-- a text that is read has no fault, and the same of its place
pub faulty_at : (text : List ℕ) (left : ℕ) → Faulty text left → IsFaultAt text (length text - left)
faulty_at text left is = record {
  before = is.first;
  behind = is.behind;
  parts = is.parts;
  place = omega (arith, ap length is.parts, length-append is.first (percent ∷ is.behind), is.place);
  pieces = is.pieces;
  is_format = is.is_format;
  no_formatter = is.none.no_formatter;
  no_percent = is.none.no_percent;
}

fault_found : (reads : Reads) (writes : Writes) (text : List ℕ) (at : ℕ) (r : Result (List Piece) ℕ) → read_pieces text ≡ r → fault_read (length text) r ≡ Some at → IsFaultAt text at
fault_found reads writes text at (Ok pieces) e is = absurd cc
fault_found reads writes text at (Err left) e is =
    let place : length text - left ≡ at = cc in subst (λ n. IsFaultAt text n) place (faulty_at text left (read_is_faulty reads writes (length text) text left (omega arith) e))

-- where a text is read with a fault it has it
pub fault_is : (reads : Reads) (writes : Writes) (text : List ℕ) (at : ℕ) → format_fault text ≡ Some at → IsFaultAt text at
fault_is reads writes text at e = fault_found reads writes text at (read_pieces text) refl e

-- and where it has one it is read with it
pub is_fault : (reads : Reads) (writes : Writes) (text : List ℕ) (at : ℕ) → IsFaultAt text at → format_fault text ≡ Some at
is_fault reads writes text at is =
    let count = ap length is.parts in
    let few : length (is.before ++ percent ∷ is.behind) ≤ length text = omega (arith, count) in
    let read = fault_is_read reads writes is.pieces (length text) is.before is.behind few is.is_format (record { no_formatter = is.no_formatter; no_percent = is.no_percent }) in
    let place : length text - suc (length is.behind) ≡ at = omega (arith, count, length-append is.before (percent ∷ is.behind), is.place) in
    ap (fault_read (length text)) (ap (read_most (length text)) is.parts ∙ read) ∙ ap Some place

-- a piece was read, and put behind those before
pub parse_step : (reads : Reads) (writes : Writes) (text rest : List ℕ) (b : ℕ) (behind after : List ℕ) (done new : List Piece) (p : Piece) → read_pieces text ≡ all_before done (read_pieces rest) → rest ≡ b ∷ behind
    → Some (p, after) ≡ piece_at b behind → new ≡ done ++ p ∷ [] → read_pieces text ≡ all_before new (read_pieces after)
parse_step reads writes text rest b behind after done new p so_far first piece is =
    so_far ∙ ap (λ t. all_before done (read_pieces t)) first ∙ ap (all_before done) (read_next reads writes b behind after p (sym piece)) ∙ one_more done p (read_pieces after)
    ∙ ap (λ ps. all_before ps (read_pieces after)) (sym is)

-- no piece begins the rest: the text has this fault
pub parse_fault : (reads : Reads) (writes : Writes) (text rest : List ℕ) (b : ℕ) (behind : List ℕ) (done : List Piece) → read_pieces text ≡ all_before done (read_pieces rest) → rest ≡ b ∷ behind → None ≡ piece_at b behind
    → IsFaultAt text (length text - length rest) × (format_fault text ≡ Some (length text - length rest))
parse_fault reads writes text rest b behind done so_far first none =
    let read : read_pieces text ≡ Err (length rest) = so_far ∙ ap (λ t. all_before done (read_pieces t)) first ∙ ap (all_before done) (read_stops b behind (sym none)) ∙ ap (λ t. Err (length t)) (sym first) in
    let fault = ap (fault_read (length text)) read in
    (fault_is reads writes text (length text - length rest) fault, fault)

-- the whole was read
pub parse_done : (text : List ℕ) (done : List Piece) → read_pieces text ≡ all_before done (read_pieces []) → read_pieces text ≡ Ok done
unfolding read_most
parse_done text done so_far = so_far ∙ ap Ok (append-nil done)

parse_nothing : (r : Result (List Piece) ℕ) → r ≡ all_before [] r
parse_nothing (Ok pieces) = refl
parse_nothing (Err left) = refl

-- at first nothing was
pub parse_begins : (text : List ℕ) (done : List Piece) → done ≡ [] → read_pieces text ≡ all_before done (read_pieces text)
parse_begins text done is = parse_nothing (read_pieces text) ∙ ap (λ ps. all_before ps (read_pieces text)) (sym is)
