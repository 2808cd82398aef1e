-- Reading a text line by line.
use Rattle.std.proofs.Common.{◌≡◌, ℕ, suc, ◌+◌, ◌-◌, ◌<◌, ◌≤◌, ◌==◌, Bool, true, false, cond, List, [], ◌∷◌, ◌++◌, length, take, drop, Result, Ok, Err, Option, Some, None, refl, sym, ap, subst, ◌∙◌, arith}
use Rattle.std.specs.Result.{result_err}
use Rattle.std.specs.Global.{Vec}
use Rattle.std.specs.List.{position, onto_first}
use Rattle.std.specs.Option.{unwrap_or, ok_or}
use Rattle.std.proofs.Math.Dec.{ltb}
use Rattle.std.proofs.lemmas.Bool.Decides.{nat_tests}
use Rattle.std.proofs.lemmas.List.Recursion.{is_position_or_len}
use Rattle.std.proofs.lemmas.Bool.{cond-false}
use Rattle.query_grammar.specs.declared.step.StepOver.{StepOver}
use Rattle.query_grammar.specs.declared.step.StepOver.TheVariants as steps
use Rattle.query_grammar.specs.Step.{Step}
use Rattle.query_grammar.specs.Scanner.{Fault, Syntax, ◌>>=◌, run, begin}
use Rattle.query_grammar.specs.Lines.{is_passed, joined_steps, lines_of, ended_lines, read_lines}
use Rattle.query_parser.specs.declared.fault.QueryFault.{QueryFault}
use Rattle.query_parser.specs.declared.fault.QueryFault.TheVariants as faults
use Rattle.query_parser.specs.declared.test.Test.{Test}
use Rattle.query_parser.specs.Answers.{IsAnswer}
use Rattle.query_parser.specs.inside.Follows.{rules, AreMeant, none, more, AreRead, Gives}
use Rattle.query_parser.specs.inside.Reading.{line_added, IfMeant, Adds, lines_behind, line_length}
use Rattle.query_parser.proofs.Follow.{meant_append, answer_bind}

-- ---- one line

line_by : (caseless : Bool) (at : ℕ) (before : Option (List Step)) (line : List ℕ) (lines : List (List ℕ)) (b : Bool) (r : Result (List Step) Fault)
    → cond b (read_lines (rules caseless) (at + 1 + length line) before lines) (r >>= λ s. read_lines (rules caseless) (at + 1 + length line) (Some (joined_steps before s)) lines)
    ≡ (cond b (Ok before) (r >>= λ s. Ok (Some (joined_steps before s))) >>= λ now. read_lines (rules caseless) (at + 1 + length line) now lines)
line_by caseless at before line lines true r = refl
line_by caseless at before line lines false (Ok s) = refl
line_by caseless at before line lines false (Err f) = refl

-- lines are read one by one
pub line_read : (caseless : Bool) (at : ℕ) (before : Option (List Step)) (line : List ℕ) (lines : List (List ℕ))
    → read_lines (rules caseless) at before (line ∷ lines) ≡ (line_added caseless at before line >>= λ now. read_lines (rules caseless) (at + 1 + length line) now lines)
unfolding read_lines
line_read caseless at before line lines = line_by caseless at before line lines (is_passed line) (run (rules caseless) at begin line)

pub line_kept : (caseless : Bool) (at : ℕ) (before : Option (List Step)) (line : List ℕ) → is_passed line ≡ false → line_added caseless at before line ≡ (run (rules caseless) at begin line >>= λ s. Ok (Some (joined_steps before s)))
line_kept caseless at before line p = cond-false (is_passed line) _ _ p

pub line_joined : (caseless : Bool) (at : ℕ) (before : Option (List Step)) (line : List ℕ) (s : List Step) → is_passed line ≡ false → run (rules caseless) at begin line ≡ Ok s → line_added caseless at before line ≡ Ok (Some (joined_steps before s))
line_joined caseless at before line s p e = line_kept caseless at before line p ∙ ap (λ (r : Result (List Step) Fault). r >>= λ s. Ok (Some (joined_steps before s))) e

-- ---- the lines of a text

-- how many bytes stand before the first line feed
feed_at : List ℕ → ℕ
feed_at [] = 0
feed_at (c ∷ text) = cond (c == 10) 0 (1 + feed_at text)

feed_is : (text : List ℕ) → feed_at text ≡ line_length text
unfolding feed_at
feed_is text = is_position_or_len feed_at (λ c. c == 10) refl (λ c text. refl) text

record Parts (n : ℕ) (text : List ℕ) : Type 0 where
  parts : lines_of text ≡ take n text ∷ lines_behind (drop n text)

parts_more : (c : ℕ) (text : List ℕ) (n : ℕ) (b : Bool) → Parts n text → cond b ([] ∷ lines_of text) (onto_first c (lines_of text)) ≡ take (cond b 0 (1 + n)) (c ∷ text) ∷ lines_behind (drop (cond b 0 (1 + n)) (c ∷ text))
parts_more c text n true h = refl
parts_more c text n false h =
    let up : 1 + n ≡ suc n = omega arith in
    rw up (ap (onto_first c) h.parts)

feed_parts : (text : List ℕ) → Parts (feed_at text) text
unfolding feed_at
feed_parts [] = record { parts = refl }
feed_parts (c ∷ text) = record { parts = parts_more c text (feed_at text) (c == 10) (feed_parts text) }

-- a text is its first line, and what stands behind it
pub lines_first : (text : List ℕ) → lines_of text ≡ take (line_length text) text ∷ lines_behind (drop (line_length text) text)
lines_first text = subst (λ (n : ℕ). lines_of text ≡ take n text ∷ lines_behind (drop n text)) (feed_is text) (feed_parts text).parts

-- reading on from these lines is reading the text
pub record LinesLead (caseless : Bool) (text behind : List ℕ) (done : Option (Vec (StepOver Test))) : Type 0 where
  pub before : Option (List Step)
  pub meant : IfMeant caseless before done
  pub within : length behind ≤ length text
  pub same : read_lines (rules caseless) (length text + 1 - length behind) before (lines_behind behind) ≡ read_lines (rules caseless) 0 None (lines_of text)

-- a line more was read
line_on : (caseless : Bool) (from at : ℕ) (before now : Option (List Step)) (text line behind : List ℕ) → line ≡ take (line_length text) text → behind ≡ drop (line_length text) text → from + 1 + length line ≡ at
    → line_added caseless from before line ≡ Ok now → read_lines (rules caseless) from before (lines_of text) ≡ read_lines (rules caseless) at now (lines_behind behind)
line_on caseless from at before now text line behind front back there added =
    ap (read_lines (rules caseless) from before) (lines_first text)
    ∙ rw (← front, ← back) (line_read caseless from before line (lines_behind behind))
    ∙ ap (λ (r : Result (Option (List Step)) Fault). r >>= λ now. read_lines (rules caseless) (from + 1 + length line) now (lines_behind behind)) added
    ∙ ap (λ (n : ℕ). read_lines (rules caseless) n now (lines_behind behind)) there

line_fails : (caseless : Bool) (from : ℕ) (before : Option (List Step)) (text line behind : List ℕ) (f : QueryFault) → line ≡ take (line_length text) text → behind ≡ drop (line_length text) text
    → IsAnswer f (result_err (line_added caseless from before line)) → IsAnswer f (result_err (read_lines (rules caseless) from before (lines_of text)))
line_fails caseless from before text line behind f front back h =
    let same : read_lines (rules caseless) from before (lines_of text) ≡ (line_added caseless from before line >>= λ now. read_lines (rules caseless) (from + 1 + length line) now (lines_behind behind)) =
    ap (read_lines (rules caseless) from before) (lines_first text) ∙ rw (← front, ← back) (line_read caseless from before line (lines_behind behind)) in
    subst (λ (r : Result (List Step) Fault). IsAnswer f (result_err r)) (sym same) (answer_bind f (line_added caseless from before line) (λ now. read_lines (rules caseless) (from + 1 + length line) now (lines_behind behind)) h)

pub first_led : (caseless : Bool) (text line behind : List ℕ) (now : Option (Vec (StepOver Test))) → line ≡ take (line_length text) text → behind ≡ drop (line_length text) text → length line + length behind ≡ length text
    → Adds caseless (Ok now) (line_added caseless 0 None line) → LinesLead caseless text behind now
first_led caseless text line behind now front back parts added = record {
  before = added.0;
  meant = added.2;
  within = omega arith;
  same = sym (line_on caseless 0 (length text + 1 - length behind) None added.0 text line behind front back (omega arith) added.1);
}

pub first_fails : (caseless : Bool) (text line behind : List ℕ) (f : QueryFault) → line ≡ take (line_length text) text → behind ≡ drop (line_length text) text
    → IsAnswer f (result_err (line_added caseless 0 None line)) → IsAnswer f (result_err (read_lines (rules caseless) 0 None (lines_of text)))
first_fails caseless text line behind f front back h = line_fails caseless 0 None text line behind f front back h

-- behind a line feed
behind_feed : (caseless : Bool) (text behind : List ℕ) (done : Option (Vec (StepOver Test))) → 1 ≤ length behind → (h : LinesLead caseless text behind done)
    → read_lines (rules caseless) (length text - length (drop 1 behind)) h.before (lines_of (drop 1 behind)) ≡ read_lines (rules caseless) 0 None (lines_of text)
behind_feed caseless text [] before le h = absurd (omega arith)
behind_feed caseless text (c ∷ after) before le h =
    let w = h.within in
    let there : length text - length after ≡ length text + 1 - length (c ∷ after) = omega arith in
    ap (λ (n : ℕ). read_lines (rules caseless) n h.before (lines_of after)) there ∙ h.same

shorter : (behind : List ℕ) → 1 ≤ length behind → length (drop 1 behind) + 1 ≡ length behind
shorter [] le = absurd (omega arith)
shorter (c ∷ after) le = omega arith

pub next_led : (caseless : Bool) (text behind after line rest : List ℕ) (before now : Option (Vec (StepOver Test))) → 1 ≤ length behind → after ≡ drop 1 behind → (h : LinesLead caseless text behind before)
    → line ≡ take (line_length after) after → rest ≡ drop (line_length after) after → length line + length rest ≡ length after
    → Adds caseless (Ok now) (line_added caseless (length text - length after) h.before line) → LinesLead caseless text rest now
next_led caseless text behind after line rest before now le same h front back parts added =
    let one : length after + 1 ≡ length behind = rw same (shorter behind le) in
    let w = h.within in
    let led : read_lines (rules caseless) (length text - length after) h.before (lines_of after) ≡ read_lines (rules caseless) 0 None (lines_of text) = rw same (behind_feed caseless text behind before le h) in
    record {
      before = added.0;
      meant = added.2;
      within = omega arith;
      same = sym (line_on caseless (length text - length after) (length text + 1 - length rest) h.before added.0 after line rest front back (omega arith) added.1) ∙ led;
    }

pub next_fails : (caseless : Bool) (text behind after line rest : List ℕ) (before : Option (Vec (StepOver Test))) (f : QueryFault) → 1 ≤ length behind → after ≡ drop 1 behind → (h : LinesLead caseless text behind before)
    → line ≡ take (line_length after) after → rest ≡ drop (line_length after) after
    → IsAnswer f (result_err (line_added caseless (length text - length after) h.before line)) → IsAnswer f (result_err (read_lines (rules caseless) 0 None (lines_of text)))
next_fails caseless text behind after line rest before f le same h front back answer =
    let led : read_lines (rules caseless) (length text - length after) h.before (lines_of after) ≡ read_lines (rules caseless) 0 None (lines_of text) = rw same (behind_feed caseless text behind before le h) in
    subst (λ (r : Result (List Step) Fault). IsAnswer f (result_err r)) led (line_fails caseless (length text - length after) h.before after line rest f front back answer)

-- the end of the text
ended_by : (caseless : Bool) (at : ℕ) (before : Option (List Step)) (v : Vec (StepOver Test)) → IfMeant caseless before (Some v) → AreRead caseless (ended_lines at before) v.items
ended_by caseless at None v m = absurd m
ended_by caseless at (Some s) v m = record { written = s; read = refl; meant = m }

ended_none : (caseless : Bool) (at : ℕ) (before : Option (List Step)) → IfMeant caseless before None → ended_lines at before ≡ Err (Syntax (at - 1))
ended_none caseless at None m = refl
ended_none caseless at (Some s) m = absurd m

pub all_read : (caseless : Bool) (text behind : List ℕ) (v : Vec (StepOver Test)) → length behind < 1 → LinesLead caseless text behind (Some v) → AreRead caseless (read_lines (rules caseless) 0 None (lines_of text)) v.items
unfolding read_lines
all_read caseless text [] v lt h = subst (λ (m : Result (List Step) Fault). AreRead caseless m v.items) h.same (ended_by caseless (length text + 1 - 0) h.before v h.meant)
all_read caseless text (c ∷ after) v lt h = absurd (omega arith)

pub nothing_read : (caseless : Bool) (text behind : List ℕ) → length behind < 1 → LinesLead caseless text behind None → read_lines (rules caseless) 0 None (lines_of text) ≡ Err (Syntax (length text))
unfolding read_lines
nothing_read caseless text [] lt h =
    let there : length text + 1 - 0 - 1 ≡ length text = omega arith in
    sym h.same ∙ ended_none caseless (length text + 1 - 0) h.before h.meant ∙ ap (λ (n : ℕ). Err (Syntax n)) there
nothing_read caseless text (c ∷ after) lt h = absurd (omega arith)

pub all_given : (caseless : Bool) (text behind : List ℕ) (all : Option (Vec (StepOver Test))) → length behind < 1 → LinesLead caseless text behind all → Gives caseless (ok_or all (faults.Syntax (length text))) (read_lines (rules caseless) 0 None (lines_of text))
all_given caseless text behind (Some v) lt h = all_read caseless text behind v lt h
all_given caseless text behind None lt h = ap result_err (nothing_read caseless text behind lt h)

-- ---- one line more

pub first_adds : (caseless : Bool) (at : ℕ) (before : Option (List Step)) (line : List ℕ) (v : Vec (StepOver Test)) → is_passed line ≡ false → IfMeant caseless before None → AreRead caseless (run (rules caseless) at begin line) v.items
    → Adds caseless (Ok (Some v)) (line_added caseless at before line)
first_adds caseless at None line v p some r = (Some r.written, line_joined caseless at None line r.written p r.read, r.meant)
first_adds caseless at (Some s) line v p some r = absurd some

pub more_adds : (caseless : Bool) (at : ℕ) (before : Option (List Step)) (line : List ℕ) (earlier all : Vec (StepOver Test)) (items : List (StepOver Test)) → is_passed line ≡ false → IfMeant caseless before (Some earlier)
    → AreRead caseless (run (rules caseless) at begin line) items → all.items ≡ earlier.items ++ items ++ steps.Or ∷ [] → Adds caseless (Ok (Some all)) (line_added caseless at before line)
more_adds caseless at None line earlier all items p some r e = absurd some
more_adds caseless at (Some s) line earlier all items p some r e = (
  Some (s ++ r.written ++ steps.Or ∷ []),
  line_joined caseless at (Some s) line r.written p r.read,
  subst (λ (v : List (StepOver Test)). AreMeant caseless (s ++ r.written ++ steps.Or ∷ []) v) (sym e)
      (meant_append caseless (s ++ r.written) (steps.Or ∷ []) (earlier.items ++ items) (steps.Or ∷ []) (meant_append caseless s r.written earlier.items items some r.meant) (more tt none)),
)

-- ---- how long a line is

within_by : (c : ℕ) (text : List ℕ) (n : ℕ) (b : Bool) → n ≤ length text → cond b 0 (1 + n) ≤ length (c ∷ text)
within_by c text n true h = omega arith
within_by c text n false h = omega arith

feed_within : (text : List ℕ) → feed_at text ≤ length text
unfolding feed_at
feed_within [] = omega arith
feed_within (c ∷ text) = within_by c text (feed_at text) (c == 10) (feed_within text)

pub line_within : (text : List ℕ) → line_length text ≤ length text
line_within text = subst (λ (n : ℕ). n ≤ length text) (feed_is text) (feed_within text)

picked : (n len : ℕ) (b : Bool) → ltb n len ≡ b → n ≤ len → unwrap_or (cond b (Some n) None) len ≡ n
picked n len true e le = refl
picked n len false e le = let same : len ≡ n = grind (arith, nat_tests) in same

pub line_is : (text : List ℕ) → unwrap_or (position (λ c. c == 10) text) (length text) ≡ line_length text
line_is text = picked (line_length text) (length text) (ltb (line_length text) (length text)) refl (line_within text)
