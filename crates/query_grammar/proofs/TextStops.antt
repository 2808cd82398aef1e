-- The first byte of a text at which no queries go on.
use Rattle.std.proofs.Common.{◌≡◌, ℕ, ◌+◌, ◌-◌, ◌==◌, Bool, true, false, cond, List, [], ◌∷◌, ◌++◌, length, Result, Ok, Err, Option, Some, None, refl, sym, ap, subst, ◌∙◌, append_assoc, length-append, arith}
use Rattle.std.specs.Prelude.{not}
use Rattle.std.specs.List.{onto_first}
use Rattle.std.proofs.lemmas.Bool.{cond_both, cond-true, cond-false, and_parts, and_from, eqb-true, not-true, not_from_false}
use Rattle.std.proofs.lemmas.List.{append-nil}
use Rattle.std.proofs.lemmas.List.Splits.{slice_split-cons_no}
use Rattle.query_grammar.specs.declared.mode.Mode.TheVariants.{BeforeUnary}
use Rattle.query_grammar.specs.Step.{Step}
use Rattle.query_grammar.specs.Bytes.{is_blank}
use Rattle.query_grammar.specs.Grammar.{IsDead, StopsAt}
use Rattle.query_grammar.specs.Steps.{steps_of}
use Rattle.query_grammar.specs.Moves.{start}
use Rattle.query_grammar.specs.Scanner.{Fault, Syntax, ◌>>=◌, free, begins, run, begin}
use Rattle.query_grammar.specs.Lines.{is_passed, lines_of, IsText, joined_steps, ended_lines, read_lines}
use Rattle.query_grammar.proofs.Lexing.{is_plain, plain_append, plain_parts}
use Rattle.query_grammar.proofs.Marks.{no_blank}
use Rattle.query_grammar.proofs.Scan.{Reads, no_out, blank_read}
use Rattle.query_grammar.proofs.Ends.{alive}
use Rattle.query_grammar.proofs.Stops.{NoWay, stops}
use Rattle.query_grammar.proofs.Lines.{queries_read, queries_found}

-- ---- the lines of a text

-- bytes without a line feed go to the first line of what follows
lines_onto : (w text line : List ℕ) (lines : List (List ℕ)) → is_plain w ≡ true → lines_of text ≡ line ∷ lines → lines_of (w ++ text) ≡ (w ++ line) ∷ lines
lines_onto [] text line lines plain e = e
lines_onto (c ∷ w) text line lines plain e =
    let both = and_parts (not (c == 10)) (is_plain w) plain in
    slice_split-cons_no (λ b. b == 10) c (w ++ text) (not-true (c == 10) both.0) ∙ ap (onto_first c) (lines_onto w text line lines both.1 e)

-- a line without a line feed behind it is all of the lines
pub lines_last : (line : List ℕ) → is_plain line ≡ true → lines_of line ≡ line ∷ []
lines_last line plain = subst (λ (w : List ℕ). lines_of w ≡ w ∷ []) (append-nil line) (lines_onto line [] [] [] plain refl)

-- a line feed ends the first line
pub lines_more : (line text : List ℕ) → is_plain line ≡ true → lines_of (line ++ 10 ∷ text) ≡ line ∷ lines_of text
lines_more line text plain = lines_onto line (10 ∷ text) [] (lines_of text) plain refl ∙ ap (λ (w : List ℕ). w ∷ lines_of text) (append-nil line)

-- lines of which there is a first
record First (all : List (List ℕ)) : Type 0 where
  line : List ℕ
  lines : List (List ℕ)
  same : all ≡ line ∷ lines

-- a byte more in the first line
first_onto : (c : ℕ) (all : List (List ℕ)) → First all → First (onto_first c all)
first_onto c all f = record { line = c ∷ f.line; lines = f.lines; same = ap (onto_first c) f.same }

-- each text has a first line
first_line : (text : List ℕ) → First (lines_of text)
first_line [] = record { line = []; lines = []; same = refl }
first_line (c ∷ text) = cond_both (c == 10) _ _ First (λ e. record { line = []; lines = lines_of text; same = refl }) (λ e. first_onto c (lines_of text) (first_line text))

-- a text, as a line after the other
pub data Lined : List ℕ → Type 0 where
  last_line : (line : List ℕ) → is_plain line ≡ true → Lined line
  line_then : {text : List ℕ} (line : List ℕ) → is_plain line ≡ true → Lined text → Lined (line ++ 10 ∷ text)

-- a byte that is no line feed goes to the first line
lined_more : (c : ℕ) (text : List ℕ) → (c == 10) ≡ false → Lined text → Lined (c ∷ text)
lined_more c _ e (last_line line plain) = last_line (c ∷ line) (and_from (not (c == 10)) (is_plain line) (not_from_false (c == 10) e) plain)
lined_more c _ e (line_then {text} line plain l) = line_then {text = text} (c ∷ line) (and_from (not (c == 10)) (is_plain line) (not_from_false (c == 10) e) plain) l

-- a byte more before lines
lined_byte : (b : Bool) (c : ℕ) (text : List ℕ) → (c == 10) ≡ b → Lined text → Lined (c ∷ text)
lined_byte true c text e l = subst (λ (d : ℕ). Lined (d ∷ text)) (sym (eqb-true c 10 e)) (line_then {text = text} [] refl l)
lined_byte false c text e l = lined_more c text e l

-- each text is lines
pub lined : (text : List ℕ) → Lined text
lined [] = last_line [] refl
lined (c ∷ text) = lined_byte (c == 10) c text refl (lined text)

-- ---- a line that is passed over is no query, and a query isn't passed over

-- the first byte of a line that is passed over, of which a query is read
passed_byte : (b : Bool) (c : ℕ) (line : List ℕ) (a : ℕ) (out : List Step) → is_blank c ≡ b → cond b (is_passed line) (c == 35) ≡ true → run free a begin (c ∷ line) ≡ Ok out → (is_passed line ≡ true → run free (a + 1) begin line ≡ Ok out → ⊥) → ⊥
unfolding run
passed_byte true c line a out b p e later =
    later p (sym (ap (λ r. r >>= λ x. run free (a + 1) x line) (cond-false (begins BeforeUnary start (c ∷ [])) _ _ (no_blank BeforeUnary start c b) ∙ cond-true (is_blank c) _ _ b)) ∙ e)
passed_byte false c line a out b p e later =
    no_out (Syntax a) out (subst (λ (d : ℕ). run free a begin (d ∷ line) ≡ Ok out) (eqb-true c 35 p) e)

-- no query is read of a line that is passed over
passed_stops : (line : List ℕ) (a : ℕ) (out : List Step) → is_passed line ≡ true → run free a begin line ≡ Ok out → ⊥
unfolding run
passed_stops [] a out p e = no_out (Syntax a) out e
passed_stops (c ∷ line) a out p e = passed_byte (is_blank c) c line a out refl p e (λ q f. passed_stops line (a + 1) out q f)

-- the same as `not_passed`, by cases
not_passed_by : (b : Bool) (line : List ℕ) (a : ℕ) (out : List Step) → is_passed line ≡ b → run free a begin line ≡ Ok out → is_passed line ≡ false
not_passed_by true line a out p e = absurd (passed_stops line a out p e)
not_passed_by false line a out p e = p

-- a line of which a query is read isn't passed over
not_passed : (line : List ℕ) (a : ℕ) (out : List Step) → run free a begin line ≡ Ok out → is_passed line ≡ false
not_passed line a out e = not_passed_by (is_passed line) line a out refl e

-- the first byte of `blank_goes`
blank_byte : (b : Bool) (c : ℕ) (x y text : List ℕ) (out : List Step) → is_blank c ≡ b → cond b (is_passed x) (c == 35) ≡ true → cond b (is_passed y) (c == 35) ≡ false → (is_passed x ≡ true → is_passed y ≡ false → Reads free BeforeUnary start [] text out) → Reads free BeforeUnary start [] (c ∷ text) out
blank_byte true c x y text out b p q h = blank_read free BeforeUnary start c text out b (h p q)
blank_byte false c x y text out b p q h = absurd cc

-- what begins both lines that are passed over and lines that aren't is blank, and a query may follow it
blank_goes : (prefix : List ℕ) (c : ℕ) (x y more : List ℕ) (out : List Step) → Reads free BeforeUnary start [] more out → is_passed (prefix ++ c ∷ x) ≡ true → is_passed (prefix ++ c ∷ y) ≡ false → Reads free BeforeUnary start [] (prefix ++ c ∷ more) out
blank_goes [] c x y more out h p q = blank_byte (is_blank c) c x y more out refl p q (λ p2 q2. h)
blank_goes (d ∷ prefix) c x y more out h p q = blank_byte (is_blank d) d (prefix ++ c ∷ x) (prefix ++ c ∷ y) (prefix ++ c ∷ more) out refl p q (λ p2 q2. blank_goes prefix c x y more out h p2 q2)

-- ---- reading the first of some lines

-- a line that is passed over
line_passed : (a : ℕ) (before : Option (List Step)) (line : List ℕ) (lines : List (List ℕ)) → is_passed line ≡ true → read_lines free a before (line ∷ lines) ≡ read_lines free (a + 1 + length line) before lines
unfolding read_lines
line_passed a before line lines p = cond-true (is_passed line) _ _ p

-- a line that isn't passed over
line_kept : (a : ℕ) (before : Option (List Step)) (line : List ℕ) (lines : List (List ℕ)) (r : Result (List Step) Fault) → is_passed line ≡ false → run free a begin line ≡ r → read_lines free a before (line ∷ lines) ≡ (r >>= λ s. read_lines free (a + 1 + length line) (Some (joined_steps before s)) lines)
unfolding read_lines
line_kept a before line lines r p e = cond-false (is_passed line) _ _ p ∙ ap (λ (x : Result (List Step) Fault). x >>= λ s. read_lines free (a + 1 + length line) (Some (joined_steps before s)) lines) e

-- a line alone of which a query is read
line_alone : (a : ℕ) (before : Option (List Step)) (line : List ℕ) (out : List Step) → is_plain line ≡ true → run free a begin line ≡ Ok out → read_lines free a before (lines_of line) ≡ Ok (joined_steps before out)
unfolding read_lines
line_alone a before line out plain e = ap (read_lines free a before) (lines_last line plain) ∙ line_kept a before line [] (Ok out) (not_passed line a out e) e

-- what ends well began well
bind_ok : {A B : Type 0} (r : Result A Fault) (f : A → Result B Fault) (out : B) → (r >>= f) ≡ Ok out → (x : A) × (r ≡ Ok x)
bind_ok (Ok x) f out e = (x, refl)
bind_ok (Err g) f out e = absurd (no_out g out e)

-- ---- where reading stops

-- no lines go on over the byte behind the prefix; where nothing is behind it, it isn't read itself
abbrev NoWayOn : ℕ → Option (List Step) → List ℕ → List ℕ → Type 0
NoWayOn a before prefix [] = (out : List Step) → read_lines free a before (lines_of prefix) ≡ Ok out → ⊥
NoWayOn a before prefix (c ∷ back) = (more : List ℕ) (out : List Step) → read_lines free a before (lines_of (prefix ++ c ∷ more)) ≡ Ok out → ⊥

-- the place where reading lines stops, with lines that begin with the same prefix and are read
record TextStops (a : ℕ) (before : Option (List Step)) (text : List ℕ) (at : ℕ) : Type 0 where
  prefix : List ℕ
  back : List ℕ
  parts : text ≡ prefix ++ back
  place : at ≡ a + length prefix
  more : List ℕ
  out : List Step
  ends : read_lines free a before (lines_of (prefix ++ more)) ≡ Ok out
  no_way : NoWayOn a before prefix back

-- another first line with the same prefix and the byte behind it
no_way_first : (b : Bool) (a : ℕ) (before : Option (List Step)) (prefix : List ℕ) (c : ℕ) (back line : List ℕ) (lines : List (List ℕ)) (out : List Step) → is_passed (prefix ++ c ∷ line) ≡ b → is_passed (prefix ++ c ∷ back) ≡ false → NoWay a begin prefix (c ∷ back) → read_lines free a before ((prefix ++ c ∷ line) ∷ lines) ≡ Ok out → ⊥
no_way_first true a before prefix c back line lines out p q none e =
    let life = alive BeforeUnary start [] tt in
    none life.more life.out ((blank_goes prefix c line back life.more life.out life.ends p q).reads a 0)
no_way_first false a before prefix c back line lines out p q none e =
    let x = bind_ok (run free a begin (prefix ++ c ∷ line)) (λ s. read_lines free (a + 1 + length (prefix ++ c ∷ line)) (Some (joined_steps before s)) lines) out (sym (line_kept a before (prefix ++ c ∷ line) lines (run free a begin (prefix ++ c ∷ line)) p refl) ∙ e) in
    none line x.0 x.1

-- nothing follows a line, or a line feed
abbrev IsBehind : List ℕ → Type 0
IsBehind [] = Unit {0}
IsBehind (c ∷ next) = c ≡ 10

-- lines aren't read where the first of them stops
line_err : (a : ℕ) (before : Option (List Step)) (line : List ℕ) (lines : List (List ℕ)) (at : ℕ) (out : List Step) → is_passed line ≡ false → run free a begin line ≡ Err (Syntax at) → read_lines free a before (line ∷ lines) ≡ Ok out → ⊥
line_err a before line lines at out p e f = no_out (Syntax at) out (sym (line_kept a before line lines (Err (Syntax at)) p e) ∙ f)

-- a whole line that stops, whatever follows it
no_way_behind : (a : ℕ) (before : Option (List Step)) (line : List ℕ) (at : ℕ) (next : List ℕ) → is_plain line ≡ true → is_passed line ≡ false → run free a begin line ≡ Err (Syntax at) → IsBehind next → NoWayOn a before line next
no_way_behind a before line at [] plain p e behind = λ out ok.
    line_err a before line [] at out p e (sym (ap (read_lines free a before) (lines_last line plain)) ∙ ok)
no_way_behind a before line at (c ∷ next) plain p e behind = λ more out ok.
    let feed : read_lines free a before (lines_of (line ++ 10 ∷ more)) ≡ Ok out = subst (λ (d : ℕ). read_lines free a before (lines_of (line ++ d ∷ more)) ≡ Ok out) behind ok in
    line_err a before line (lines_of more) at out p e (sym (ap (read_lines free a before) (lines_more line more plain)) ∙ feed)

-- a line that stops, whatever follows it
no_way_line : (a : ℕ) (before : Option (List Step)) (line : List ℕ) (at : ℕ) (prefix back next : List ℕ) → is_plain line ≡ true → is_passed line ≡ false → run free a begin line ≡ Err (Syntax at) → line ≡ prefix ++ back → NoWay a begin prefix back → IsBehind next → NoWayOn a before prefix (back ++ next)
no_way_line a before line at prefix [] next plain p e parts none behind =
    let same : line ≡ prefix = parts ∙ append-nil prefix in
    subst (λ (w : List ℕ). NoWayOn a before w next) same (no_way_behind a before line at next plain p e behind)
no_way_line a before line at prefix (c ∷ back) next plain p e parts none behind = λ more out ok.
    let both = plain_parts prefix (c ∷ back) (sym (ap is_plain parts) ∙ plain) in
    let byte = plain_parts (c ∷ []) back both.1 in
    let f = first_line more in
    let lines : lines_of (prefix ++ c ∷ more) ≡ (prefix ++ c ∷ f.line) ∷ f.lines = lines_onto prefix (c ∷ more) (c ∷ f.line) f.lines both.0 (lines_onto (c ∷ []) more f.line f.lines byte.0 f.same) in
    no_way_first (is_passed (prefix ++ c ∷ f.line)) a before prefix c back f.line f.lines out refl (sym (ap is_passed parts) ∙ p) none (sym (ap (read_lines free a before) lines) ∙ ok)

-- a line that stops
line_stops : (a : ℕ) (before : Option (List Step)) (line : List ℕ) (at : ℕ) (next : List ℕ) → is_plain line ≡ true → is_passed line ≡ false → run free a begin line ≡ Err (Syntax at) → IsBehind next → TextStops a before (line ++ next) at
line_stops a before line at next plain p e behind =
    let s = stops line a begin at tt e in
    let both = plain_parts s.prefix s.back (sym (ap is_plain s.parts) ∙ plain) in
    record {
      prefix = s.prefix;
      back = s.back ++ next;
      parts = ap (λ (w : List ℕ). w ++ next) s.parts ∙ append_assoc s.prefix s.back next;
      place = s.place;
      more = s.more;
      out = joined_steps before s.out;
      ends = line_alone a before (s.prefix ++ s.more) s.out (plain_append s.prefix s.more both.0 s.plain) s.ends;
      no_way = no_way_line a before line at s.prefix s.back next plain p e s.parts s.no_way behind;
    }

-- reading a line and a line feed leads to reading what follows
abbrev LeadsTo : ℕ → Option (List Step) → List ℕ → Option (List Step) → Type 0
LeadsTo a before line now = (text : List ℕ) → read_lines free a before (lines_of (line ++ 10 ∷ text)) ≡ read_lines free (a + 1 + length line) now (lines_of text)

-- what holds for all lines behind the first holds for each text behind it
leads : (a : ℕ) (before : Option (List Step)) (line : List ℕ) (now : Option (List Step)) → is_plain line ≡ true → ((lines : List (List ℕ)) → read_lines free a before (line ∷ lines) ≡ read_lines free (a + 1 + length line) now lines) → LeadsTo a before line now
leads a before line now plain one = λ text. ap (read_lines free a before) (lines_more line text plain) ∙ one (lines_of text)

-- no lines go on behind the first where none go on in the later lines
no_way_later : (a : ℕ) (before : Option (List Step)) (line : List ℕ) (now : Option (List Step)) (prefix back : List ℕ) → LeadsTo a before line now → NoWayOn (a + 1 + length line) now prefix back → NoWayOn a before (line ++ 10 ∷ prefix) back
no_way_later a before line now prefix [] lead none = λ out ok. none out (sym (lead prefix) ∙ ok)
no_way_later a before line now prefix (c ∷ back) lead none = λ more out ok.
    none more out (sym (lead (prefix ++ c ∷ more)) ∙ sym (ap (λ (w : List ℕ). read_lines free a before (lines_of w)) (append_assoc line (10 ∷ prefix) (c ∷ more))) ∙ ok)

-- a stop in a later line
later_stops : (a : ℕ) (before : Option (List Step)) (line : List ℕ) (now : Option (List Step)) (text : List ℕ) (at : ℕ) → LeadsTo a before line now → TextStops (a + 1 + length line) now text at → TextStops a before (line ++ 10 ∷ text) at
later_stops a before line now text at lead h = record {
  prefix = line ++ 10 ∷ h.prefix;
  back = h.back;
  parts = ap (λ (w : List ℕ). line ++ 10 ∷ w) h.parts ∙ sym (append_assoc line (10 ∷ h.prefix) h.back);
  place = omega (arith, h.place, length-append line (10 ∷ h.prefix));
  more = h.more;
  out = h.out;
  ends = ap (λ (w : List ℕ). read_lines free a before (lines_of w)) (append_assoc line (10 ∷ h.prefix) h.more) ∙ lead (h.prefix ++ h.more) ∙ h.ends;
  no_way = no_way_later a before line now h.prefix h.back lead h.no_way;
}

-- ---- the last line

-- a text without a query stops at its end, and a query may stand in the next line
none_stops : (a : ℕ) (before : Option (List Step)) (line : List ℕ) (at : ℕ) → is_plain line ≡ true → is_passed line ≡ true → ended_lines (a + 1 + length line) before ≡ Err (Syntax at) → ((out : List Step) → read_lines free a before (lines_of line) ≡ Ok out → ⊥) → TextStops a before line at
none_stops a (Some s) line at plain p e none = absurd cc
none_stops a None line at plain p e none =
    let life = alive BeforeUnary start [] tt in
    let lead = leads a None line None plain (λ lines. line_passed a None line lines p) in
    record {
      prefix = line;
      back = [];
      parts = sym (append-nil line);
      place = (let same : a + 1 + length line - 1 ≡ at = cc in omega (arith, same));
      more = 10 ∷ life.more;
      out = life.out;
      ends = lead life.more ∙ line_alone (a + 1 + length line) None life.more life.out life.plain (life.ends.reads (a + 1 + length line) 0);
      no_way = none;
    }

-- the last line, where it isn't passed over
read_err : (a n : ℕ) (before : Option (List Step)) (line : List ℕ) (at : ℕ) (r : Result (List Step) Fault) → is_plain line ≡ true → is_passed line ≡ false → run free a begin line ≡ r → (r >>= λ s. read_lines free n (Some (joined_steps before s)) []) ≡ Err (Syntax at) → TextStops a before line at
unfolding read_lines
read_err a n before line at (Ok s) plain p r e = absurd cc
read_err a n before line at (Err f) plain p r e =
    let same : f ≡ Syntax at = cc in
    subst (λ (w : List ℕ). TextStops a before w at) (append-nil line) (line_stops a before line at [] plain p (r ∙ ap (λ (g : Fault). Err g) same) tt)

-- the last line
last_stops : (b : Bool) (a : ℕ) (before : Option (List Step)) (line : List ℕ) (at : ℕ) → is_plain line ≡ true → is_passed line ≡ b → read_lines free a before (lines_of line) ≡ Err (Syntax at) → TextStops a before line at
unfolding read_lines
last_stops true a before line at plain p e =
    none_stops a before line at plain p (sym (line_passed a before line [] p) ∙ sym (ap (read_lines free a before) (lines_last line plain)) ∙ e) (λ out ok. no_out (Syntax at) out (sym e ∙ ok))
last_stops false a before line at plain p e =
    read_err a (a + 1 + length line) before line at (run free a begin line) plain p refl (sym (line_kept a before line [] (run free a begin line) p refl) ∙ sym (ap (read_lines free a before) (lines_last line plain)) ∙ e)

-- ---- a line before others

-- a text stops wherever reading it does
abbrev Later : List ℕ → Type 0
Later text = (a : ℕ) (before : Option (List Step)) (at : ℕ) → read_lines free a before (lines_of text) ≡ Err (Syntax at) → TextStops a before text at

-- a line that isn't passed over, and what follows it
kept_stops : (a : ℕ) (before : Option (List Step)) (line text : List ℕ) (at : ℕ) (r : Result (List Step) Fault) → is_plain line ≡ true → is_passed line ≡ false → run free a begin line ≡ r → (r >>= λ s. read_lines free (a + 1 + length line) (Some (joined_steps before s)) (lines_of text)) ≡ Err (Syntax at) → Later text → TextStops a before (line ++ 10 ∷ text) at
kept_stops a before line text at (Ok s) plain p r e later =
    later_stops a before line (Some (joined_steps before s)) text at (leads a before line (Some (joined_steps before s)) plain (λ lines. line_kept a before line lines (Ok s) p r)) (later (a + 1 + length line) (Some (joined_steps before s)) at e)
kept_stops a before line text at (Err f) plain p r e later =
    let same : f ≡ Syntax at = cc in
    line_stops a before line at (10 ∷ text) plain p (r ∙ ap (λ (g : Fault). Err g) same) refl

-- a line, and what follows it
more_stops : (b : Bool) (a : ℕ) (before : Option (List Step)) (line text : List ℕ) (at : ℕ) → is_plain line ≡ true → is_passed line ≡ b → read_lines free a before (line ∷ lines_of text) ≡ Err (Syntax at) → Later text → TextStops a before (line ++ 10 ∷ text) at
more_stops true a before line text at plain p e later =
    later_stops a before line before text at (leads a before line before plain (λ lines. line_passed a before line lines p)) (later (a + 1 + length line) before at (sym (line_passed a before line (lines_of text) p) ∙ e))
more_stops false a before line text at plain p e later =
    kept_stops a before line text at (run free a begin line) plain p refl (sym (line_kept a before line (lines_of text) (run free a begin line) p refl) ∙ e) later

-- a text, whatever was read before it
text_stops : (text : List ℕ) → Lined text → (a : ℕ) (before : Option (List Step)) (at : ℕ) → read_lines free a before (lines_of text) ≡ Err (Syntax at) → TextStops a before text at
text_stops _ (last_line line plain) a before at e = last_stops (is_passed line) a before line at plain refl e
text_stops _ (line_then {text} line plain l) a before at e =
    more_stops (is_passed line) a before line text at plain refl (sym (ap (read_lines free a before) (lines_more line text plain)) ∙ e) (λ n now place f. text_stops text l n now place f)

-- ---- in the words of the grammar

-- where no lines are read no text of queries goes on
dead_text : (prefix back : List ℕ) → NoWayOn 0 None prefix back → IsDead IsText prefix back
dead_text prefix [] none = λ q is. none (steps_of q) (queries_read (lines_of prefix) 0 None q is)
dead_text prefix (c ∷ back) none = λ more q is. none more (steps_of q) (queries_read (lines_of (prefix ++ c ∷ more)) 0 None q is)

-- where reading a text stops no queries go on
pub text_stops_at : (text : List ℕ) (at : ℕ) → read_lines free 0 None (lines_of text) ≡ Err (Syntax at) → StopsAt IsText text at
text_stops_at text at e =
    let s = text_stops text (lined text) 0 None at e in
    let r = queries_found (lines_of (s.prefix ++ s.more)) 0 None s.out s.ends in
    record {
      prefix = s.prefix;
      back = s.back;
      parts = s.parts;
      place = omega (arith, s.place);
      alive = record { more = s.more; query = r.query; whole = r.are };
      dead = dead_text s.prefix s.back s.no_way;
    }
