-- What a world in memory tells after each change of its parts.
use Rattle.std.proofs.Common.{◌≡◌, ◌≢◌, ◌<◌, ◌≤◌, ◌+◌, ◌-◌, ◌&&◌, ℕ, Bool, true, false, not, is_some, List, [], ◌∷◌, ◌++◌, length, take, drop, set, refl, sym, ◌∙◌, ap, arith, Option, Some, None, nat_lt, nat_eq, zero, suc, inl, inr, get_or, codes, if◌then◌else◌}
use Rattle.std.proofs.lemmas.Bool.{cases_eq, eq-eqb, le-ltb, lt-ltb, ne_eqb, false≢true}
use Rattle.std.proofs.lemmas.Bool.Decides.{nat_tests}
use Rattle.std.proofs.lemmas.Option.{slice_get_read, slice_get_past, same_Some}
use Rattle.std.proofs.lemmas.List.{take-append-drop, length_push, length-set}
use Rattle.std.proofs.lemmas.Slice.Eq.{bytes_eq-Decides}
use Rattle.std.specs.Option.{option_map, unwrap_or}
use Rattle.std.specs.Str.{bytes_eq}
use Rattle.std.specs.List.{slice_get}
use Rattle.vio.specs.declared.file.MemFile.{MemFile}
use Rattle.vio.specs.declared.file.OpenFile.{OpenFile}
use Rattle.vio.specs.declared.file.Source.{Source}
use Rattle.vio.specs.declared.memory.MemWorld.{MemWorld}
use Rattle.vio.specs.inside.Handles.{IsSameFile, TakesPiece, TakesText, HoldsMore, HoldsSame}
use Rattle.vio.specs.Memory.{opened_at, file_left, file_text, left_at, written_at, reads_name, writes_name, names_at, tells, memory_seen, IsSame, TellsAll}
use Rattle.vio.specs.Sources.{left_of, left_in, text_in, held_in, begun}
use Rattle.vio.specs.World.{Seen, CallKind, Opening, Creating, Reading, Writing, Read, Wrote, Opened, FileCreated}
use Rattle.vio.proofs.FileLemmas.{names_tell}

-- places of a list

-- after a push the last place has the new element
pub slice_get-push_same : (xs : List OpenFile) (x : OpenFile) (i : ℕ) → i ≡ length xs → slice_get (xs ++ x ∷ []) i ≡ Some x
slice_get-push_same [] x zero e = refl
slice_get-push_same [] x (suc i) e = absurd (omega (arith, e))
slice_get-push_same (y ∷ xs) x zero e = absurd (omega (arith, e))
slice_get-push_same (y ∷ xs) x (suc i) e = slice_get-push_same xs x i (omega (arith, e))

-- a push leaves every other place
pub slice_get-push_other : (xs : List OpenFile) (x : OpenFile) (i : ℕ) → i ≢ length xs → slice_get (xs ++ x ∷ []) i ≡ slice_get xs i
slice_get-push_other [] x zero other = absurd (other refl)
slice_get-push_other [] x (suc i) other = refl
slice_get-push_other (y ∷ xs) x zero other = refl
slice_get-push_other (y ∷ xs) x (suc i) other = slice_get-push_other xs x i (λ e. other (omega (arith, e)))

-- after a write its place has the new element
pub slice_get-set_same : (xs : List OpenFile) (i : ℕ) (x : OpenFile) → i < length xs → slice_get (set xs i x) i ≡ Some x
slice_get-set_same [] i x within = absurd (omega arith)
slice_get-set_same (y ∷ xs) zero x within = refl
slice_get-set_same (y ∷ xs) (suc i) x within = slice_get-set_same xs i x (omega arith)

-- a write leaves every other place
pub slice_get-set_other : (xs : List OpenFile) (i j : ℕ) (x : OpenFile) → j ≢ i → slice_get (set xs i x) j ≡ slice_get xs j
slice_get-set_other [] i j x other = refl
slice_get-set_other (y ∷ xs) zero zero x other = absurd (other refl)
slice_get-set_other (y ∷ xs) zero (suc j) x other = refl
slice_get-set_other (y ∷ xs) (suc i) zero x other = refl
slice_get-set_other (y ∷ xs) (suc i) (suc j) x other = slice_get-set_other xs i j x (λ e. other (omega (arith, e)))

-- opened files by their handle

-- the newest handle has the file that was opened
pub opened_at-push_same : (opened : List OpenFile) (file : OpenFile) (h : ℕ) → h ≡ length opened + 3 → opened_at (opened ++ file ∷ []) h ≡ Some file
opened_at-push_same opened file h e = grind (arith, nat_tests, slice_get-push_same)

-- opening leaves every other handle
pub opened_at-push_other : (opened : List OpenFile) (file : OpenFile) (i : ℕ) → i ≢ length opened + 3 → opened_at (opened ++ file ∷ []) i ≡ opened_at opened i
opened_at-push_other opened file i other = grind (arith, nat_tests, slice_get-push_other)

-- a write to the place of a handle changes its file
pub opened_at-set_same : (opened : List OpenFile) (h : ℕ) (file : OpenFile) → 3 ≤ h → h - 3 < length opened → opened_at (set opened (h - 3) file) h ≡ Some file
opened_at-set_same opened h file from within = rw (le-ltb h 3 from) (slice_get-set_same opened (h - 3) file within)

-- a write to the place of a handle leaves every other handle
pub opened_at-set_other : (opened : List OpenFile) (h i : ℕ) (file : OpenFile) → 3 ≤ h → i ≢ h → opened_at (set opened (h - 3) file) i ≡ opened_at opened i
opened_at-set_other opened h i file from other = grind (arith, nat_tests, slice_get-set_other)

-- what a read of the list of opened files gives is the opened file of the handle
pub opened_at-read : (opened : List OpenFile) (h : ℕ) (file : OpenFile) → 3 ≤ h → h - 3 < length opened
    → file ≡ get_or opened (h - 3) file → opened_at opened h ≡ Some file
opened_at-read opened h file from within is_read =
    rw (le-ltb h 3 from) (slice_get_read opened (length opened) (h - 3) file refl within is_read)

-- past the newest handle there is no opened file
pub opened_at-past : (opened : List OpenFile) (h : ℕ) → length opened + 3 ≤ h → opened_at opened h ≡ None
opened_at-past opened h past = rw (le-ltb h 3 (omega (arith, past))) (slice_get_past opened (h - 3) (omega (arith, past)))

-- one more opened file gives one more handle
pub given-more : (n more i : ℕ) → more ≡ n + 1 → i ≢ n + 3 → nat_lt i (3 + more) ≡ nat_lt i (3 + n)
given-more n more i e other = grind (arith, nat_tests)

-- what every handle keeps

-- a new handle leaves every other
pub kept-push : {A : Type 0} (f : Option OpenFile → A) (opened : List OpenFile) (file : OpenFile) (h i : ℕ) → h ≡ length opened + 3 → i ≢ h
    → f (opened_at (opened ++ file ∷ []) i) ≡ f (opened_at opened i)
kept-push f opened file h i is_next other = ap f (opened_at-push_other opened file i (λ e. other (e ∙ sym is_next)))

-- what the file of one handle keeps
pub kept-set : {A : Type 0} (f : Option OpenFile → A) (opened : List OpenFile) (h : ℕ) (file now : OpenFile) → 3 ≤ h → h - 3 < length opened
    → opened_at opened h ≡ Some file → f (Some now) ≡ f (Some file) → (i : ℕ) → f (opened_at (set opened (h - 3) now) i) ≡ f (opened_at opened i)
kept-set f opened h file now from within is_file same i = elim (cases_eq i h) [
  | inl e ↦ rw (e, opened_at-set_same opened h now from within, is_file) same
  | inr other ↦ ap f (opened_at-set_other opened h i now from other)
]

pub left_at-same : (opened now : List OpenFile) (input : Source) (h : ℕ) → file_left (opened_at now h) ≡ file_left (opened_at opened h)
    → left_at now input h ≡ left_at opened input h
left_at-same opened now input h same = ap (λ (left : Option (List ℕ)). if nat_eq h 0 then Some (left_of input) else left) same

pub written_at-same : (opened now : List OpenFile) (output errors : List ℕ) (h : ℕ) → file_text (opened_at now h) ≡ file_text (opened_at opened h)
    → written_at now output errors h ≡ written_at opened output errors h
written_at-same opened now output errors h same = ap (λ (text : List ℕ). if nat_eq h 1 then output else (if nat_eq h 2 then errors else text)) same

pub names_at-same : (opened now : List OpenFile) (k : CallKind) (h : ℕ) (name : List ℕ) → reads_name (opened_at now h) name ≡ reads_name (opened_at opened h) name
    → writes_name (opened_at now h) name ≡ writes_name (opened_at opened h) name → names_at now k h name ≡ names_at opened k h name
names_at-same opened now Opening h name reads writes = refl
names_at-same opened now Creating h name reads writes = refl
names_at-same opened now Reading h name reads writes = ap (λ (b : Bool). if nat_eq h 0 then bytes_eq (codes "-") name else b) reads
names_at-same opened now Writing h name reads writes =
    ap (λ (b : Bool). if nat_eq h 1 then bytes_eq (codes "-") name else (if nat_eq h 2 then bytes_eq (codes "stderr") name else b)) writes

-- a changed file leaves the names of all handles
pub names-set : (opened : List OpenFile) (h : ℕ) (file now : OpenFile) → 3 ≤ h → h - 3 < length opened → opened_at opened h ≡ Some file
    → ((n : List ℕ) → reads_name (Some now) n ≡ reads_name (Some file) n) → ((n : List ℕ) → writes_name (Some now) n ≡ writes_name (Some file) n)
    → (k : CallKind) (i : ℕ) (n : List ℕ) → names_at (set opened (h - 3) now) k i n ≡ names_at opened k i n
names-set opened h file now from within is_file reads writes k i n = names_at-same opened (set opened (h - 3) now) k i n
    (kept-set (λ o. reads_name o n) opened h file now from within is_file (reads n) i) (kept-set (λ o. writes_name o n) opened h file now from within is_file (writes n) i)

-- and the handles that were given
pub given-set : (opened : List OpenFile) (h : ℕ) (now : OpenFile) (i : ℕ) → nat_lt i (3 + length (set opened (h - 3) now)) ≡ nat_lt i (3 + length opened)
given-set opened h now i = ap (λ (m : ℕ). nat_lt i (3 + m)) (length-set opened (h - 3) now)

-- a refused call put back the file of one handle
pub IsSame-set : (files held : List MemFile) (opened : List OpenFile) (input : Source) (output errors : List ℕ) (faults : ℕ) (h : ℕ) (file now : OpenFile)
    → 3 ≤ h → h - 3 < length opened → opened_at opened h ≡ Some file → IsSameFile file now → HoldsSame files held
    → IsSame (tells files opened input output errors faults) (tells held (set opened (h - 3) now) input output errors faults)
IsSame-set files held opened input output errors faults h file now from within is_file same holds = record {
  held = holds.each;
  lacks = λ n. ap (λ (o : Option (List ℕ)). not (is_some o)) (holds.each n);
  left = λ i. left_at-same opened (set opened (h - 3) now) input i (kept-set file_left opened h file now from within is_file same.left i);
  written = λ i. ap Some (written_at-same opened (set opened (h - 3) now) output errors i
      (kept-set file_text opened h file now from within is_file (ap (λ text. unwrap_or text []) same.text) i));
  faults = λ k n. refl;
  names = names-set opened h file now from within is_file (λ n. rw (same.left, same.name) refl) (λ n. rw (same.text, same.name) refl);
  given = given-set opened h now;
}

-- a handle is new; every other tells what it told
pub record GainsHandle (h : ℕ) (before now : Seen) : Type 0 where
  pub fresh : before.given h ≡ false
  pub given : now.given h ≡ true
  pub written : (i : ℕ) → now.written i ≡ before.written i
  pub other_left : (i : ℕ) → i ≢ h → now.left i ≡ before.left i
  pub other_names : (k : CallKind) (i : ℕ) (n : List ℕ) → i ≢ h → now.names k i n ≡ before.names k i n
  pub other_given : (i : ℕ) → i ≢ h → now.given i ≡ before.given i

-- the new handle has nothing written to it, as before it was given
written-push : (opened : List OpenFile) (file : OpenFile) (h : ℕ) → h ≡ length opened + 3 → unwrap_or (text_in file.access) [] ≡ [] → (i : ℕ)
    → file_text (opened_at (opened ++ file ∷ []) i) ≡ file_text (opened_at opened i)
written-push opened file h is_next none i = elim (cases_eq i h) [
  | inl e ↦ rw (opened_at-push_same opened file i (e ∙ is_next), opened_at-past opened i (omega (arith, e, is_next))) none
  | inr other ↦ kept-push file_text opened file h i is_next other
]

pub handles-push : (files held : List MemFile) (opened : List OpenFile) (input : Source) (output errors : List ℕ) (faults : ℕ) (file : OpenFile) (h : ℕ)
    → h ≡ length opened + 3 → unwrap_or (text_in file.access) [] ≡ []
    → GainsHandle h (tells files opened input output errors faults) (tells held (opened ++ file ∷ []) input output errors faults)
handles-push files held opened input output errors faults file h is_next none =
    let after = opened ++ file ∷ [] in record {
      fresh = le-ltb h (3 + length opened) (omega (arith, is_next));
      given = lt-ltb h (3 + length after) (omega (arith, is_next, length_push opened file));
      written = λ i. ap Some (written_at-same opened after output errors i (written-push opened file h is_next none i));
      other_left = λ i other. left_at-same opened after input i (kept-push file_left opened file h i is_next other);
      other_names = λ k i n other. names_at-same opened after k i n (kept-push (λ o. reads_name o n) opened file h i is_next other)
          (kept-push (λ o. writes_name o n) opened file h i is_next other);
      other_given = λ i other. given-more (length opened) (length after) i (length_push opened file) (λ e. other (e ∙ sym is_next));
    }

-- what a world in memory tells of all handles

some_told : (o : Option (List ℕ)) (b : Bool) → is_some o && b ≡ true → (a : List ℕ) × (o ≡ Some a)
some_told None b e = absurd (false≢true e)
some_told (Some a) b e = (a, refl)

reads_told : (file : Option OpenFile) (name : List ℕ) → reads_name file name ≡ true → (a : List ℕ) × (file_left file ≡ Some a)
reads_told None name e = absurd (false≢true e)
reads_told (Some file) name e = some_told (left_in file.access) (bytes_eq file.name.items name) e

-- every handle that can be read tells what it has left
left_at-told : (opened : List OpenFile) (input : Source) (h : ℕ) (name : List ℕ) → names_at opened Reading h name ≡ true
    → (a : List ℕ) × (left_at opened input h ≡ Some a)
left_at-told opened input h name named = elim (cases_eq h 0) [
  | inl input_handle ↦ (left_of input, rw (eq-eqb h 0 input_handle) refl)
  | inr other ↦ rw (ne_eqb h 0 other) (reads_told (opened_at opened h) name (rw (ne_eqb h 0 other) at named))
]

pub TellsAll-memory : (m : MemWorld) → TellsAll (memory_seen m)
TellsAll-memory m = record {
  lacks = λ name. refl;
  written = λ h. (written_at m.opened.items m.output.items m.errors.items h, refl);
  left = left_at-told m.opened.items m.input;
}

-- the changes of a world in memory

-- a file was opened
pub Opened-push : (files : List MemFile) (opened : List OpenFile) (input : Source) (output errors : List ℕ) (faults : ℕ)
    (file : OpenFile) (name bytes : List ℕ) (h : ℕ) → h ≡ length opened + 3 → file.name.items ≡ name → left_in file.access ≡ Some bytes → text_in file.access ≡ None
    → held_in files name ≡ Some bytes → Opened name h (tells files opened input output errors faults) (tells files (opened ++ file ∷ []) input output errors faults)
Opened-push files opened input output errors faults file name bytes h is_next named left none held =
    let is_file = opened_at-push_same opened file h is_next in
    let not_input : h ≢ 0 = omega (arith, is_next) in
    let new = handles-push files files opened input output errors faults file h is_next (rw none refl) in
    record {
      counts = record { each = λ k n. omega arith };
      fresh = new.fresh;
      given = new.given;
      is_named = rw (ne_eqb h 0 not_input, is_file, left) ((bytes_eq-Decides file.name.items name).1 named);
      left = rw (ne_eqb h 0 not_input, is_file) (left ∙ sym held);
      held = λ n. refl;
      lacks = λ n. refl;
      written = new.written;
      other_left = new.other_left;
      other_names = new.other_names;
      other_given = new.other_given;
    }

-- what a file has when writing to it begins is told
begun-told : (append : Bool) (held : Option (List ℕ)) (bytes : List ℕ)
    → (if not (is_some held) then Some [] else (if append then held else option_map (λ bytes. []) held)) ≡ Some bytes → begun append held ≡ bytes
begun-told true None bytes told = same_Some _ _ told
begun-told false None bytes told = same_Some _ _ told
begun-told true (Some a) bytes told = same_Some _ _ told
begun-told false (Some a) bytes told = same_Some _ _ told

-- a file was created
pub FileCreated-push : (append empty : Bool) (files held : List MemFile) (opened : List OpenFile) (input : Source) (output errors : List ℕ) (faults : ℕ)
    (file : OpenFile) (name : List ℕ) (h : ℕ) → h ≡ length opened + 3 → file.name.items ≡ name → left_in file.access ≡ None → text_in file.access ≡ Some []
    → held_in held name ≡ Some (begun append (held_in files name)) → ((n : List ℕ) → n ≢ name → held_in held n ≡ held_in files n)
    → empty ≡ nat_eq (length (begun append (held_in files name))) 0
    → FileCreated append name h empty (tells files opened input output errors faults) (tells held (opened ++ file ∷ []) input output errors faults)
FileCreated-push append empty files held opened input output errors faults file name h is_next named unread text holds others is_empty =
    let is_file = opened_at-push_same opened file h is_next in
    let not_output : h ≢ 1 = omega (arith, is_next) in
    let not_errors : h ≢ 2 = omega (arith, is_next) in
    let new = handles-push files held opened input output errors faults file h is_next (rw text refl) in
    record {
      counts = record { each = λ k n. omega arith };
      fresh = new.fresh;
      given = new.given;
      no_stream = omega (arith, is_next);
      is_named = rw (ne_eqb h 1 not_output, ne_eqb h 2 not_errors, is_file, text) ((bytes_eq-Decides file.name.items name).1 named);
      is_there = rw holds refl;
      alone = λ n bytes told other. rw (ne_eqb h 1 not_output, ne_eqb h 2 not_errors, is_file, text, named) (other_name name n (λ e. other (sym e)));
      held = λ bytes told. holds ∙ ap Some (begun-told append (held_in files name) bytes told);
      is_empty = λ bytes told. is_empty ∙ ap (λ (b : List ℕ). nat_eq (length b) 0) (begun-told append (held_in files name) bytes told);
      emptied = λ e. is_empty ∙ rw e refl;
      other_held = others;
      other_lacks = λ n other. ap (λ (o : Option (List ℕ)). not (is_some o)) (others n other);
      left = λ i. elim (cases_eq i h) [
        | inl e ↦ left_at-same opened (opened ++ file ∷ []) input i (rw (opened_at-push_same opened file i (e ∙ is_next), opened_at-past opened i (omega (arith, e, is_next))) unread)
        | inr other ↦ new.other_left i other
      ];
      written = new.written;
      other_names = new.other_names;
      other_given = new.other_given;
    }
  where
    other_name : (a b : List ℕ) → a ≢ b → bytes_eq a b ≡ false
    other_name a b other = grind (arith, names_tell)

-- a piece of standard input was read
pub Read-input : (files : List MemFile) (opened : List OpenFile) (input : Source) (output errors : List ℕ) (faults n : ℕ) (now : Source)
    → left_of now ≡ drop n (left_of input)
    → Read 0 (take n (left_of input)) (tells files opened input output errors faults) (tells files opened now output errors faults)
Read-input files opened input output errors faults n now left = record {
  counts = record { each = λ k name. omega arith };
  loses = λ a told. (drop n (left_of input), same_Some _ _ (sym told) ∙ sym (take-append-drop n (left_of input)), ap Some left);
  held = λ m. refl;
  lacks = λ m. refl;
  written = λ i. refl;
  other_left = λ i other. rw (ne_eqb i 0 other) refl;
  names = λ k i name. refl;
  given = λ i. refl;
}

-- what a handle of an opened file tells that it has left is what its file has left
pub left_at-is : (opened : List OpenFile) (input : Source) (h : ℕ) (file : OpenFile) → 3 ≤ h → opened_at opened h ≡ Some file → left_at opened input h ≡ left_in file.access
left_at-is opened input h file from is_file = rw (ne_eqb h 0 (omega (arith, from)), is_file) refl

-- a piece of an opened file was read
pub Read-file : (files : List MemFile) (opened : List OpenFile) (input : Source) (output errors : List ℕ) (faults : ℕ)
    (h n room most : ℕ) (piece : List ℕ) (file now : OpenFile) → 3 ≤ h → h - 3 < length opened → opened_at opened h ≡ Some file → TakesPiece n room most piece file now
    → Read h piece (tells files opened input output errors faults) (tells files (set opened (h - 3) now) input output errors faults)
Read-file files opened input output errors faults h n room most piece file now from within is_file p =
    let after = set opened (h - 3) now in
    let told = left_at-is opened input h file from is_file ∙ p.was in
    let left = left_at-is after input h now from (opened_at-set_same opened h now from within) ∙ p.left in
    record {
      counts = record { each = λ k name. omega arith };
      loses = λ a is. (drop n p.bytes, rw p.is (same_Some _ _ (sym is ∙ told) ∙ sym (take-append-drop n p.bytes)), left);
      held = λ m. refl;
      lacks = λ m. refl;
      written = λ i. ap Some (written_at-same opened after output errors i (kept-set file_text opened h file now from within is_file (ap (λ text. unwrap_or text []) p.text) i));
      other_left = λ i other. left_at-same opened after input i (ap file_left (opened_at-set_other opened h i now from other));
      names = names-set opened h file now from within is_file (λ n. rw (p.left, p.was, p.name) refl) (λ n. rw (p.text, p.name) refl);
      given = given-set opened h now;
    }

-- a piece was written to a created file
pub Wrote-file : (files held : List MemFile) (opened : List OpenFile) (input : Source) (output errors : List ℕ) (faults : ℕ)
    (h : ℕ) (piece : List ℕ) (file now : OpenFile) → 3 ≤ h → h - 3 < length opened → opened_at opened h ≡ Some file → TakesText piece file now
    → HoldsMore file.name.items piece files held
    → Wrote h piece (tells files opened input output errors faults) (tells held (set opened (h - 3) now) input output errors faults)
Wrote-file files held opened input output errors faults h piece file now from within is_file p more =
    let after = set opened (h - 3) now in
    let not_output : h ≢ 1 = omega (arith, from) in
    let not_errors : h ≢ 2 = omega (arith, from) in
    let names : (n : List ℕ) → names_at opened Writing h n ≡ bytes_eq file.name.items n = λ n. rw (ne_eqb h 1 not_output, ne_eqb h 2 not_errors, is_file, p.was) refl in
    record {
      counts = record { each = λ k name. omega arith };
      gains = λ a told. rw (ne_eqb h 1 not_output, ne_eqb h 2 not_errors, opened_at-set_same opened h now from within, p.is)
          (ap (λ (text : List ℕ). Some (text ++ piece)) (same_Some _ _ (rw (ne_eqb h 1 not_output, ne_eqb h 2 not_errors, is_file, p.was) at told)));
      file = λ n no_stream named a told. gained n a ((bytes_eq-Decides file.name.items n).0 (sym (names n) ∙ named)) told;
      other_held = λ n bytes other told. more.other n (λ e. let same = (bytes_eq-Decides file.name.items n).1 (sym e) in let differs = sym (names n) ∙ other in absurd cc) ∙ told;
      lacks = λ n. lacks n;
      left = λ i. left_at-same opened after input i (kept-set file_left opened h file now from within is_file p.left i);
      other_written = λ i other. ap Some (written_at-same opened after output errors i (ap file_text (opened_at-set_other opened h i now from other)));
      names = names-set opened h file now from within is_file (λ n. rw (p.left, p.name) refl) (λ n. rw (p.is, p.was, p.name) refl);
      given = given-set opened h now;
    }
  where
    gained : (n a : List ℕ) → file.name.items ≡ n → held_in files n ≡ Some a → held_in held n ≡ Some (a ++ piece)
    gained n a e told = rw (sym e) (more.own ∙ ap (option_map (λ bytes. bytes ++ piece)) (rw (sym e) at told))

    lacks : (n : List ℕ) → not (is_some (held_in held n)) ≡ not (is_some (held_in files n))
    lacks n = grind (arith, names_tell, more.own, more.other)
