-- What is due of what was taken, and of more.
use Rattle.std.proofs.Common.{◌≡◌, ℕ, ◌||◌, Bool, false, true, List, [], ◌∷◌, ◌++◌, Option, refl, sym, ap, subst, ◌∙◌, append_assoc}
use Rattle.std.proofs.lemmas.List.{append-nil}
use Rattle.std.proofs.lemmas.List.Elements.{filter-append}
use Rattle.std.proofs.Math.Bool.{or-true}
use Rattle.std.specs.List.{filter}
use Rattle.log_model.specs.Prefix.{IsPrefix}
use Rattle.log_model.proofs.PrefixLemmas.{prefix_same}
use Rattle.txn_rows.specs.declared.group.Group.{Group}
use Rattle.txn_rows.specs.declared.group.GroupOptions.{GroupOptions}
use Rattle.txn_rows.specs.declared.group.Grouping.{Grouping}
use Rattle.txn_rows.specs.Grouping.{Taken, TakenUnit, Missed, no_state, reported, taken_step, taken_steps, groups_of}
use Rattle.txn_rows.proofs.GroupingLemmas.{steps_append}
use Rattle.query_eval.specs.Meaning.{is_held}
use Rattle.vsl_dispatch.specs.Groups.{kept, is_filled}
use Rattle.vsl_dispatch.proofs.GroupLemmas.{kept_none, kept_filled, kept_open, kept_goes_on, filled_more}
use Rattle.text_printer.specs.Printer.{Plan, IsOutput, due, has_all}

-- ---- groups that pass a test

-- those of what was taken, where that has ended or not
abbrev pub tested : (Group → Bool) → GroupOptions → List Taken → Bool → List Group
tested test options taken ended = filter test (groups_of options taken ended)

-- those of groups that left
abbrev pub passed : (Group → Bool) → Grouping → List Group → List Group
passed test grouping groups = filter test (reported grouping groups)

tested_append : (test : Group → Bool) (options : GroupOptions) (xs ys : List Taken)
    → tested test options (xs ++ ys) false ≡ tested test options xs false ++ passed test options.grouping (taken_steps options ys (taken_steps options xs no_state).state).groups
tested_append test options xs ys = rw ((steps_append options xs ys no_state).1, filter-append, filter-append) refl

-- those of one item more
pub tested_more : (test : Group → Bool) (options : GroupOptions) (xs : List Taken) (item : Taken)
    → tested test options (xs ++ item ∷ []) false ≡ tested test options xs false ++ passed test options.grouping (taken_step options item (taken_steps options xs no_state).state).groups
tested_more test options xs item = tested_append test options xs (item ∷ []) ∙ rw append-nil refl

-- the end completes what an overrun completes
pub tested_end : (test : Group → Bool) (options : GroupOptions) (xs : List Taken) → tested test options xs true ≡ tested test options (xs ++ Missed ∷ []) false
tested_end test options xs = rw ((steps_append options xs (Missed ∷ []) no_state).1, append-nil) refl

-- those of items go on in those of items and more items, ended or not
tested_on : (test : Group → Bool) (options : GroupOptions) (xs ys : List Taken) (ended : Bool) → (rest : List Group) × (tested test options (xs ++ ys) ended ≡ tested test options xs false ++ rest)
tested_on test options xs ys false = (passed test options.grouping (taken_steps options ys (taken_steps options xs no_state).state).groups, tested_append test options xs ys)
tested_on test options xs ys true = (
  passed test options.grouping (taken_steps options (ys ++ Missed ∷ []) (taken_steps options xs no_state).state).groups,
  tested_end test options (xs ++ ys) ∙ ap (λ (all : List Taken). tested test options all false) (append_assoc xs ys (Missed ∷ [])) ∙ tested_append test options xs (ys ++ Missed ∷ []),
)

-- ---- the text that is due

-- what is written of groups, at most as many as are kept, goes on where more of them come, or their end
grown : (writes : List Group → Bool → List ℕ) → IsOutput writes → (keep : Option ℕ) (gs hs : List Group) (ended filled : Bool) → is_filled keep gs ≡ filled
    → IsPrefix (writes (kept keep gs) filled) (writes (kept keep (gs ++ hs)) (ended || is_filled keep (gs ++ hs)))
grown writes is keep gs hs ended true filled = rw (kept_filled keep gs hs filled, filled_more keep gs hs filled, or-true ended) (prefix_same (writes (kept keep gs) true))
grown writes is keep gs hs ended false open_ =
    let more = kept_goes_on keep gs hs open_ in
    rw (kept_open keep gs open_, more.1) (is.grows gs more.0 (ended || is_filled keep (gs ++ hs)))

-- what is written of those groups of what was taken that pass a test, at most as many as are kept; with the last that is kept they have ended too
abbrev pub tested_text : (List Group → Bool → List ℕ) → Option ℕ → (Group → Bool) → GroupOptions → List Taken → Bool → List ℕ
tested_text writes keep test options taken ended = writes (kept keep (tested test options taken ended)) (ended || is_filled keep (tested test options taken false))

-- the text of items goes on in that of items and more items, ended or not
pub text_prefix : (writes : List Group → Bool → List ℕ) → IsOutput writes → (keep : Option ℕ) (test : Group → Bool) (options : GroupOptions) (xs ys : List Taken) (ended : Bool)
    → IsPrefix (tested_text writes keep test options xs false) (tested_text writes keep test options (xs ++ ys) ended)
text_prefix writes is keep test options xs ys true =
    let on = tested_on test options xs ys true in rw on.1 (grown writes is keep (tested test options xs false) on.0 true (is_filled keep (tested test options xs false)) refl)
text_prefix writes is keep test options xs ys false =
    let on = tested_on test options xs ys false in rw on.1 (grown writes is keep (tested test options xs false) on.0 false (is_filled keep (tested test options xs false)) refl)

-- where groups are as many as are kept, those of more items are too
pub filled_on : (keep : Option ℕ) (test : Group → Bool) (options : GroupOptions) (xs ys : List Taken) → is_filled keep (tested test options xs false) ≡ true → is_filled keep (tested test options (xs ++ ys) false) ≡ true
filled_on keep test options xs ys filled =
    let on = tested_on test options xs ys false in ap (λ (gs : List Group). is_filled keep gs) on.1 ∙ filled_more keep (tested test options xs false) on.0 filled

-- and the text of more items is theirs, ended or not
pub text_filled : (writes : List Group → Bool → List ℕ) (keep : Option ℕ) (test : Group → Bool) (options : GroupOptions) (xs ys : List Taken) (ended : Bool) → is_filled keep (tested test options xs false) ≡ true
    → tested_text writes keep test options xs false ≡ tested_text writes keep test options (xs ++ ys) ended
text_filled writes keep test options xs ys ended filled =
    let on = tested_on test options xs ys ended in
    let same : kept keep (tested test options (xs ++ ys) ended) ≡ kept keep (tested test options xs false) =
    ap (λ (gs : List Group). kept keep gs) on.1 ∙ kept_filled keep (tested test options xs false) on.0 filled in
    let all : (ended || is_filled keep (tested test options (xs ++ ys) false)) ≡ true = ap (λ (b : Bool). ended || b) (filled_on keep test options xs ys filled) ∙ or-true ended in
    ap (λ (b : Bool). writes (kept keep (tested test options xs false)) b) (filled ∙ sym all) ∙ ap (λ (gs : List Group). writes gs (ended || is_filled keep (tested test options (xs ++ ys) false))) (sym same)

-- ---- the same under a plan

pub due_prefix : (p : Plan) → IsOutput p.writes → (xs ys : List Taken) (ended : Bool) → IsPrefix (due p xs false) (due p (xs ++ ys) ended)
due_prefix p is = text_prefix p.writes is p.keep (is_held p.query) p.options

-- nothing taken, no text
pub due_none : (p : Plan) → IsOutput p.writes → (ended : Bool) → due p [] ended ≡ []
due_none p is true = ap (λ (gs : List Group). p.writes gs true) (kept_none p.keep) ∙ is.none true
due_none p is false = ap (λ (gs : List Group). p.writes gs (has_all p [])) (kept_none p.keep) ∙ is.none (has_all p [])
