-- What a reader of a log meets, one thing after the other (this project's choice).
use Rattle.std.specs.Prelude.{ℕ, ◌+◌, List, [], ◌∷◌, ◌++◌, map}
use Rattle.vsl_record.specs.Unit.{LogUnit}
use Rattle.ring_layout.specs.declared.history.HistoryItem.{HistoryItem}
use Rattle.ring_layout.specs.declared.history.HistoryItem.TheVariants.{UnitRun, Overrun}
use Rattle.ring_layout.specs.declared.item.Item.{Item}
use Rattle.ring_layout.specs.declared.item.Item.TheVariants as items

-- what overruns and runs that follow an overrun come to: such a run tells first how many units were missed
abbrev pub later_items : List (HistoryItem LogUnit) → List Item
later_items [] = []
later_items (UnitRun r ∷ history) = items.Missed r.missed ∷ (map items.Unit r.units ++ later_items history)
later_items (Overrun at seen ∷ history) = items.Overrun at seen ∷ later_items history

-- what the items of a history come to, the oldest first: its first run follows no overrun
abbrev pub items_of : List (HistoryItem LogUnit) → List Item
items_of [] = []
items_of (UnitRun r ∷ history) = map items.Unit r.units ++ later_items history
items_of (Overrun at seen ∷ history) = items.Overrun at seen ∷ later_items history

-- how many units were met
abbrev pub count_units : List Item → ℕ
count_units [] = 0
count_units (items.Unit u ∷ met) = 1 + count_units met
count_units (items.Overrun at seen ∷ met) = count_units met
count_units (items.Missed n ∷ met) = count_units met

-- how many overruns were met
abbrev pub count_overruns : List Item → ℕ
count_overruns [] = 0
count_overruns (items.Unit u ∷ met) = count_overruns met
count_overruns (items.Overrun at seen ∷ met) = 1 + count_overruns met
count_overruns (items.Missed n ∷ met) = count_overruns met

-- how many items a history of what was met has: a run, and each overrun, and each run that follows one
abbrev pub count_items : List Item → ℕ
count_items [] = 1
count_items (items.Unit u ∷ met) = count_items met
count_items (items.Overrun at seen ∷ met) = 1 + count_items met
count_items (items.Missed n ∷ met) = 1 + count_items met
