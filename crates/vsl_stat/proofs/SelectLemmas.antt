-- The selected counters, one number after the other.
use Rattle.std.proofs.Common.{◌≡◌, ℕ, suc, ◌+◌, ◌-◌, ◌<◌, Bool, true, false, cond, Some, List, [], ◌∷◌, ◌++◌, append_assoc, refl, sym, ap, ◌∙◌, arith}
use Rattle.std.proofs.lemmas.Option.{get_or_from_slice_get}
use Rattle.std.specs.Prelude.{slice_get, slice_index}
use Rattle.std.specs.List.{filter, flat_map, range_with_len}
use Rattle.counter_segments.specs.Sums.{counter_count}
use Rattle.serde_json.specs.Data.{Data, Members, put}
use Rattle.vsl_stat.specs.Glob.{is_selected}
use Rattle.vsl_stat.specs.Report.{by_name, counter_data, name_of, selected, stat_line}
use Rattle.vsl_stat.specs.inside.Selecting.{selected_from}

-- the numbers from one on are this one and those from the next on
numbers_from : (which : ℕ) → which < counter_count → range_with_len which (counter_count - which) ≡ which ∷ range_with_len (which + 1) (counter_count - (which + 1))
numbers_from which below =
    let more : counter_count - which ≡ suc (counter_count - (which + 1)) = omega (arith, below) in
    ap (range_with_len which) more

-- the first of the numbers is selected or not
next_from : (globs : List (List ℕ)) (which : ℕ) → which < counter_count
    → selected_from globs which ≡ cond (is_selected globs (name_of which)) (which ∷ selected_from globs (which + 1)) (selected_from globs (which + 1))
next_from globs which below = ap (filter (λ (n : ℕ). is_selected globs (name_of n))) (numbers_from which below)

-- a counter is selected
pub from_selected : (globs : List (List ℕ)) (which : ℕ) → which < counter_count → is_selected globs (name_of which) ≡ true
    → selected_from globs which ≡ which ∷ selected_from globs (which + 1)
from_selected globs which below e = next_from globs which below ∙ ap (λ (b : Bool). cond b (which ∷ selected_from globs (which + 1)) (selected_from globs (which + 1))) e

-- a counter is not selected
pub from_hidden : (globs : List (List ℕ)) (which : ℕ) → which < counter_count → is_selected globs (name_of which) ≡ false
    → selected_from globs which ≡ selected_from globs (which + 1)
from_hidden globs which below e = next_from globs which below ∙ ap (λ (b : Bool). cond b (which ∷ selected_from globs (which + 1)) (selected_from globs (which + 1))) e

-- the text of a selected counter was added
pub text_selected : (f : ℕ → List ℕ) (globs : List (List ℕ)) (which : ℕ) (before after whole : List ℕ) → which < counter_count → is_selected globs (name_of which) ≡ true
    → after ≡ before ++ f which → before ++ flat_map f (selected_from globs which) ≡ whole → after ++ flat_map f (selected_from globs (which + 1)) ≡ whole
text_selected f globs which before after whole below chosen added e =
    ap (λ (x : List ℕ). x ++ flat_map f (selected_from globs (which + 1))) added
    ∙ append_assoc before (f which) (flat_map f (selected_from globs (which + 1)))
    ∙ ap (λ (ns : List ℕ). before ++ flat_map f ns) (sym (from_selected globs which below chosen))
    ∙ e

-- a counter was passed over
pub text_hidden : (f : ℕ → List ℕ) (globs : List (List ℕ)) (which : ℕ) (before after whole : List ℕ) → which < counter_count → is_selected globs (name_of which) ≡ false
    → after ≡ before → before ++ flat_map f (selected_from globs which) ≡ whole → after ++ flat_map f (selected_from globs (which + 1)) ≡ whole
text_hidden f globs which before after whole below hidden same e =
    ap (λ (x : List ℕ). x ++ flat_map f (selected_from globs (which + 1))) same
    ∙ ap (λ (ns : List ℕ). before ++ flat_map f ns) (sym (from_hidden globs which below hidden))
    ∙ e

-- the line of a selected counter was added, with the value that stands at its number
pub line_selected : (values : List ℕ) (globs : List (List ℕ)) (which value : ℕ) (before after whole : List ℕ) → which < counter_count → is_selected globs (name_of which) ≡ true
    → slice_get values which ≡ Some value → after ≡ before ++ stat_line which value
    → before ++ flat_map (λ n. stat_line n (slice_index values n)) (selected_from globs which) ≡ whole
    → after ++ flat_map (λ n. stat_line n (slice_index values n)) (selected_from globs (which + 1)) ≡ whole
line_selected values globs which value before after whole below chosen got added e =
    text_selected (λ (n : ℕ). stat_line n (slice_index values n)) globs which before after whole below chosen
    (added ∙ ap (λ (v : ℕ). before ++ stat_line which v) (sym (get_or_from_slice_get values which value 0 got))) e

-- a selected counter was put, with the value that stands at its number
pub put_selected : (values : List ℕ) (globs : List (List ℕ)) (which value : ℕ) (name : List ℕ) (d : Data) (before after whole : Members) → which < counter_count → is_selected globs (name_of which) ≡ true
    → slice_get values which ≡ Some value → name ≡ name_of which → d ≡ counter_data which value → after ≡ put name d before
    → by_name values (selected_from globs which) before ≡ whole → by_name values (selected_from globs (which + 1)) after ≡ whole
put_selected values globs which value name d before after whole below chosen got named is added e =
    ap (by_name values (selected_from globs (which + 1)))
    (added ∙ ap (λ (k : List ℕ). put k d before) named
    ∙ ap (λ (x : Data). put (name_of which) x before) (is ∙ ap (counter_data which) (sym (get_or_from_slice_get values which value 0 got))))
    ∙ ap (λ (ns : List ℕ). by_name values ns before) (sym (from_selected globs which below chosen))
    ∙ e

-- nothing was put for a counter that is not selected
pub put_hidden : (values : List ℕ) (globs : List (List ℕ)) (which : ℕ) (before after whole : Members) → which < counter_count → is_selected globs (name_of which) ≡ false
    → after ≡ before → by_name values (selected_from globs which) before ≡ whole → by_name values (selected_from globs (which + 1)) after ≡ whole
put_hidden values globs which before after whole below hidden same e =
    ap (by_name values (selected_from globs (which + 1))) same
    ∙ ap (λ (ns : List ℕ). by_name values ns before) (sym (from_hidden globs which below hidden))
    ∙ e

-- all are from the first on
pub from_first : (globs : List (List ℕ)) → selected_from globs 0 ≡ selected globs
from_first globs = refl

-- none is behind the last
pub from_last : (globs : List (List ℕ)) → selected_from globs counter_count ≡ []
from_last globs = refl

pub ruleset selecting = (from_selected, from_hidden, from_first, from_last)
