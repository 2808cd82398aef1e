-- How items of a log are grouped (this project's choice).
use Rattle.std.specs.Prelude.{List, [], ◌∷◌}
use Rattle.txn_rows.specs.Grouping.{Taken, TakenUnit, Missed}
use Rattle.ring_layout.specs.declared.item.Item.{Item}
use Rattle.ring_layout.specs.declared.item.Item.TheVariants as items

-- items, as they are grouped. How many units an overrun cost is told, and groups nothing
abbrev pub taken_of : List Item → List Taken
taken_of [] = []
taken_of (items.Unit u ∷ met) = TakenUnit u ∷ taken_of met
taken_of (items.Overrun at seen ∷ met) = Missed ∷ taken_of met
taken_of (items.Missed units ∷ met) = taken_of met
