-- One item more is counted.
use Rattle.std.proofs.Common.{◌≡◌, ◌+◌, List, [], ◌∷◌, ◌++◌, refl, arith}
use Rattle.ring_layout.specs.declared.item.Item.{Item}
use Rattle.ring_layout.specs.declared.item.Item.TheVariants as items
use Rattle.ring_layout.specs.Items.{count_units, count_items}
use Rattle.one_run.specs.declared.met.Met.{Met}
use Rattle.one_run.specs.Counts.{IsMet}

units_append : (xs ys : List Item) → count_units (xs ++ ys) ≡ count_units xs + count_units ys
units_append [] ys = omega arith
units_append (items.Unit u ∷ xs) ys = omega (arith, units_append xs ys)
units_append (items.Overrun at seen ∷ xs) ys = units_append xs ys
units_append (items.Missed n ∷ xs) ys = units_append xs ys

items_append : (xs ys : List Item) → count_items (xs ++ ys) + 1 ≡ count_items xs + count_items ys
items_append [] ys = omega arith
items_append (items.Unit u ∷ xs) ys = items_append xs ys
items_append (items.Overrun at seen ∷ xs) ys = omega (arith, items_append xs ys)
items_append (items.Missed n ∷ xs) ys = omega (arith, items_append xs ys)

pub met_and : (met now : Met) (list : List Item) (item : Item) → now.units ≡ met.units + count_units (item ∷ []) → now.items + 1 ≡ met.items + count_items (item ∷ []) → IsMet met list → IsMet now (list ++ item ∷ [])
met_and met now list item units more is = record {
  units = omega (arith, units, is.units, units_append list (item ∷ []));
  items = omega (arith, more, is.items, items_append list (item ∷ []));
}
