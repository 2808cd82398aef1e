-- Reading a line token by token.
use Rattle.std.proofs.Common.{◌≡◌, ℕ, ◌+◌, ◌-◌, ◌<◌, ◌≤◌, Bool, true, false, List, [], ◌∷◌, ◌++◌, length, take, drop, get_or, Result, Ok, Option, None, refl, sym, ap, subst, ◌∙◌, append_assoc, take-append-drop, arith}
use Rattle.std.specs.Result.{result_err}
use Rattle.std.specs.Global.{Vec}
use Rattle.std.proofs.lemmas.Bool.{cond-true, cond-false}
use Rattle.std.proofs.lemmas.List.{append-nil}
use Rattle.std.proofs.Math.Seq.{take-length}
use Rattle.query_grammar.specs.declared.mode.Mode.{Mode}
use Rattle.query_grammar.specs.declared.mode.Mode.TheVariants.{BeforeUnary, AfterCriterion, BeforeOperand, AfterUnary}
use Rattle.query_grammar.specs.declared.step.StepOver.{StepOver}
use Rattle.query_grammar.specs.Step.{Step}
use Rattle.query_grammar.specs.Bytes.{is_blank}
use Rattle.query_grammar.specs.Grammar.{Token}
use Rattle.query_grammar.specs.Moves.{Kept}
use Rattle.query_grammar.specs.Scanner.{Fault, Rules, Spot, ◌>>=◌, begins, whole, token_done, finish_in, run, begin}
use Rattle.query_grammar.specs.Munches.{Munches, ends, stops, more}
use Rattle.query_grammar.proofs.Marks.{NoMore, no_blank}
use Rattle.query_grammar.proofs.Scan.{at_spot}
use Rattle.query_grammar.proofs.Munch.{munch_run, token_run}
use Rattle.query_parser.specs.declared.fault.QueryFault.{QueryFault}
use Rattle.query_parser.specs.declared.test.Test.{Test}
use Rattle.query_parser.specs.declared.draft.Draft.{Draft}
use Rattle.query_parser.specs.Answers.{IsAnswer}
use Rattle.query_parser.specs.inside.Stages.{mode_of, kept_of, spot_of}
use Rattle.query_parser.specs.inside.Follows.{rules, AreMeant, none, Follows, Takes, Gives}
use Rattle.query_parser.proofs.Follow.{answer_bind}

-- ---- a token

no_more : (m : Mode) (k : Kept) (w prefix rest : List ℕ) → Munches m k w prefix rest → NoMore m k (w ++ prefix) rest
no_more m k _ _ _ (ends w) = tt
no_more m k _ _ _ (stops w c rest b) = subst (λ (v : List ℕ). begins m k (v ++ c ∷ []) ≡ false) (sym (append-nil w)) b
no_more m k _ _ _ (more {w} {prefix} {rest} c b h) = subst (λ (v : List ℕ). NoMore m k v rest) (append_assoc w (c ∷ []) prefix) (no_more m k (w ++ c ∷ []) prefix rest h)

-- no bytes are no token
whole_nothing : (m : Mode) (rest : List ℕ) → whole m [] rest ≡ None
whole_nothing BeforeUnary rest = refl
whole_nothing AfterCriterion rest = refl
whole_nothing BeforeOperand rest = refl
whole_nothing AfterUnary rest = refl

nothing_begins : (m : Mode) (k : Kept) (c : ℕ) (rest : List ℕ) → Munches m k [] [] (c ∷ rest) → begins m k (c ∷ []) ≡ false
nothing_begins m k c rest (stops _ _ _ b) = b

-- a byte that begins no token is refused
nothing_run : (rules : Rules) (m : Mode) (k : Kept) (c : ℕ) (rest : List ℕ) (at place : ℕ) → begins m k (c ∷ []) ≡ false → is_blank c ≡ false
    → run rules at (at_spot m k place []) (c ∷ rest) ≡ (token_done rules at (at_spot m k place []) (whole m [] (c ∷ rest)) >>= λ x. run rules at (record x { word = [] }) (c ∷ rest))
unfolding run
nothing_run rules m k c rest at place b blank =
    ap (λ (r : Result Spot Fault). r >>= λ x. run rules (at + 1) x rest) (cond-false (begins m k (c ∷ [])) _ _ b ∙ cond-false (is_blank c) _ _ blank)
    ∙ sym (ap (λ (o : Option Token). token_done rules at (at_spot m k place []) o >>= λ x. run rules at (record x { word = [] }) (c ∷ rest)) (whole_nothing m (c ∷ rest)))

-- the bytes begin with none that is a blank
pub data Sharp : List ℕ → Type 0 where
  sharp : (c : ℕ) (rest : List ℕ) → is_blank c ≡ false → Sharp (c ∷ rest)

token_step : (rules : Rules) (m : Mode) (k : Kept) (w behind : List ℕ) (at place : ℕ) → Munches m k [] w behind → Sharp (w ++ behind)
    → run rules at (at_spot m k place []) (w ++ behind) ≡ (token_done rules (at + length w) (at_spot m k place w) (whole m w behind) >>= λ x. run rules (at + length w) (record x { word = [] }) behind)
token_step rules m k [] [] at place h s = elim s [ ]
token_step rules m k [] (c ∷ rest) at place h (sharp _ _ blank) =
    let here : at + 0 ≡ at = omega arith in
    rw here (nothing_run rules m k c rest at place (nothing_begins m k c rest h) blank)
token_step rules m k (d ∷ w) behind at place h s =
    munch_run rules m k [] (d ∷ w) behind h at place
    ∙ token_run rules m k d w behind (at + length (d ∷ w)) place (no_more m k [] (d ∷ w) behind h)

blank_step : (rules : Rules) (m : Mode) (k : Kept) (c : ℕ) (rest : List ℕ) (at place : ℕ) → is_blank c ≡ true → run rules at (at_spot m k place []) (c ∷ rest) ≡ run rules (at + 1) (at_spot m k place []) rest
unfolding run
blank_step rules m k c rest at place blank =
    ap (λ (r : Result Spot Fault). r >>= λ x. run rules (at + 1) x rest) (cond-false (begins m k (c ∷ [])) _ _ (no_blank m k c blank) ∙ cond-true (is_blank c) _ _ blank)

-- ---- a draft

-- reading on from here is reading the line
pub record Leads (caseless : Bool) (at : ℕ) (d : Draft) (rest : List ℕ) (from : ℕ) (line : List ℕ) : Type 0 where
  pub written : List Step
  pub meant : AreMeant caseless written d.steps.items
  pub same : run (rules caseless) at (spot_of d written []) rest ≡ run (rules caseless) from begin line

pub leads_first : (caseless : Bool) (from : ℕ) (d : Draft) (line : List ℕ) → spot_of d [] [] ≡ begin → d.steps.items ≡ [] → Leads caseless from d line from line
leads_first caseless from d line spot steps = record {
  written = [];
  meant = subst (λ (all : List (StepOver Test)). AreMeant caseless [] all) (sym steps) none;
  same = ap (λ (s : Spot). run (rules caseless) from s line) spot;
}

pub leads_blank : (caseless : Bool) (at : ℕ) (d : Draft) (rest : List ℕ) (from : ℕ) (line : List ℕ) → 1 ≤ length rest → is_blank (get_or rest 0 0) ≡ true → Leads caseless at d rest from line → Leads caseless (at + 1) d (drop 1 rest) from line
leads_blank caseless at d [] from line le blank h = absurd (omega arith)
leads_blank caseless at d (c ∷ rest) from line le blank h = record {
  written = h.written;
  meant = h.meant;
  same = sym (blank_step (rules caseless) (mode_of d.stage) (kept_of d h.written) c rest at d.place blank) ∙ h.same;
}

sharp_list : (rest : List ℕ) → 1 ≤ length rest → is_blank (get_or rest 0 0) ≡ false → Sharp rest
sharp_list [] le blank = absurd (omega arith)
sharp_list (c ∷ rest) le blank = sharp c rest blank

-- a token is read at once
pub leads_token : (caseless : Bool) (at n : ℕ) (d : Draft) (written : List Step) (rest : List ℕ) → 1 ≤ length rest → is_blank (get_or rest 0 0) ≡ false → Munches (mode_of d.stage) (kept_of d written) [] (take n rest) (drop n rest)
    → run (rules caseless) at (spot_of d written []) rest
    ≡ (token_done (rules caseless) (at + length (take n rest)) (spot_of d written (take n rest)) (whole (mode_of d.stage) (take n rest) (drop n rest)) >>= λ x. run (rules caseless) (at + length (take n rest)) (record x { word = [] }) (drop n rest))
leads_token caseless at n d written rest le blank h =
    let all : take n rest ++ drop n rest ≡ rest = take-append-drop n rest in
    let s : Sharp (take n rest ++ drop n rest) = subst (λ (v : List ℕ). Sharp v) (sym all) (sharp_list rest le blank) in
    sym (ap (λ (v : List ℕ). run (rules caseless) at (spot_of d written []) v) all)
    ∙ token_step (rules caseless) (mode_of d.stage) (kept_of d written) (take n rest) (drop n rest) at d.place h s

-- behind a token that is taken
pub leads_taken : (caseless : Bool) (at end : ℕ) (d e : Draft) (w rest behind : List ℕ) (from : ℕ) (line : List ℕ) (h : Leads caseless at d rest from line) (s : Spot)
    → run (rules caseless) at (spot_of d h.written []) rest ≡ (token_done (rules caseless) end (spot_of d h.written w) (whole (mode_of d.stage) w behind) >>= λ x. run (rules caseless) end (record x { word = [] }) behind)
    → token_done (rules caseless) end (spot_of d h.written w) (whole (mode_of d.stage) w behind) ≡ Ok s → Follows caseless s e → Leads caseless end e behind from line
leads_taken caseless at end d e w rest behind from line h s step taken f = record {
  written = f.written;
  meant = f.meant;
  same =
      ap (λ (x : Spot). run (rules caseless) end (record x { word = [] }) behind) (sym f.same)
      ∙ sym (ap (λ (r : Result Spot Fault). r >>= λ x. run (rules caseless) end (record x { word = [] }) behind) taken)
      ∙ sym step
      ∙ h.same;
}

-- a token that is refused
pub leads_refused : (caseless : Bool) (at end : ℕ) (d : Draft) (w rest behind : List ℕ) (from : ℕ) (line : List ℕ) (h : Leads caseless at d rest from line) (f : QueryFault)
    → run (rules caseless) at (spot_of d h.written []) rest ≡ (token_done (rules caseless) end (spot_of d h.written w) (whole (mode_of d.stage) w behind) >>= λ x. run (rules caseless) end (record x { word = [] }) behind)
    → IsAnswer f (result_err (token_done (rules caseless) end (spot_of d h.written w) (whole (mode_of d.stage) w behind))) → IsAnswer f (result_err (run (rules caseless) from begin line))
leads_refused caseless at end d w rest behind from line h f step answer =
    subst (λ (r : Result (List Step) Fault). IsAnswer f (result_err r)) (sym step ∙ h.same) (answer_bind f _ (λ x. run (rules caseless) end (record x { word = [] }) behind) answer)

-- a token that is taken has bytes
pub has_bytes : (rules : Rules) (end : ℕ) (s x : Spot) (m : Mode) (w behind : List ℕ) → token_done rules end s (whole m w behind) ≡ Ok x → 0 < length w
has_bytes rules end s x m [] behind e = let none = sym (ap (λ (o : Option Token). token_done rules end s o) (whole_nothing m behind)) ∙ e in absurd cc
has_bytes rules end s x m (c ∷ w) behind e = omega arith

-- the end of the line
pub leads_end : (caseless : Bool) (at : ℕ) (d : Draft) (rest : List ℕ) (from : ℕ) (line : List ℕ) (r : Result (Vec (StepOver Test)) QueryFault) → length rest < 1 → (h : Leads caseless at d rest from line)
    → Gives caseless r (finish_in (rules caseless) at (spot_of d h.written []) []) → Gives caseless r (run (rules caseless) from begin line)
unfolding run
leads_end caseless at d [] from line r lt h g = subst (λ (m : Result (List Step) Fault). Gives caseless r m) h.same g
leads_end caseless at d (c ∷ rest) from line r lt h g = absurd (omega arith)

-- what stands behind the first byte
pub after_first : (rest : List ℕ) → 1 ≤ length rest → take (length rest - 1) (drop 1 rest) ≡ drop 1 rest
after_first [] le = absurd (omega arith)
after_first (c ∷ rest) le = let n : length (c ∷ rest) - 1 ≡ length rest = omega arith in rw n (take-length rest)

-- the same, for a token that the code has
token_read : (caseless : Bool) (at n : ℕ) (d : Draft) (written : List Step) (w rest behind : List ℕ) → 1 ≤ length rest → is_blank (get_or rest 0 0) ≡ false → w ≡ take n rest → behind ≡ drop n rest
    → Munches (mode_of d.stage) (kept_of d written) [] (take n rest) (drop n rest)
    → run (rules caseless) at (spot_of d written []) rest ≡ (token_done (rules caseless) (at + length w) (spot_of d written w) (whole (mode_of d.stage) w behind) >>= λ x. run (rules caseless) (at + length w) (record x { word = [] }) behind)
token_read caseless at n d written w rest behind le blank front back h = rw (front, back) (leads_token caseless at n d written rest le blank h)

pub token_leads : (caseless : Bool) (at n : ℕ) (d e : Draft) (w rest behind : List ℕ) (from : ℕ) (line : List ℕ) → 1 ≤ length rest → is_blank (get_or rest 0 0) ≡ false → w ≡ take n rest → behind ≡ drop n rest
    → ((written : List Step) → Munches (mode_of d.stage) (kept_of d written) [] (take n rest) (drop n rest)) → (h : Leads caseless at d rest from line)
    → Takes caseless (Ok e) (token_done (rules caseless) (at + length w) (spot_of d h.written w) (whole (mode_of d.stage) w behind)) → Leads caseless (at + length w) e behind from line
token_leads caseless at n d e w rest behind from line le blank front back munches h t =
    leads_taken caseless at (at + length w) d e w rest behind from line h t.0 (token_read caseless at n d h.written w rest behind le blank front back (munches h.written)) t.1 t.2

pub token_refused : (caseless : Bool) (at n : ℕ) (d : Draft) (w rest behind : List ℕ) (from : ℕ) (line : List ℕ) (f : QueryFault) → 1 ≤ length rest → is_blank (get_or rest 0 0) ≡ false → w ≡ take n rest → behind ≡ drop n rest
    → ((written : List Step) → Munches (mode_of d.stage) (kept_of d written) [] (take n rest) (drop n rest)) → (h : Leads caseless at d rest from line)
    → IsAnswer f (result_err (token_done (rules caseless) (at + length w) (spot_of d h.written w) (whole (mode_of d.stage) w behind))) → IsAnswer f (result_err (run (rules caseless) from begin line))
token_refused caseless at n d w rest behind from line f le blank front back munches h answer =
    leads_refused caseless at (at + length w) d w rest behind from line h f (token_read caseless at n d h.written w rest behind le blank front back (munches h.written)) answer

-- a token that is taken shortens what is left
pub token_some : (caseless : Bool) (end : ℕ) (d e : Draft) (written : List Step) (w behind : List ℕ) → Takes caseless (Ok e) (token_done (rules caseless) end (spot_of d written w) (whole (mode_of d.stage) w behind)) → 0 < length w
token_some caseless end d e written w behind t = has_bytes (rules caseless) end (spot_of d written w) t.0 (mode_of d.stage) w behind t.1
