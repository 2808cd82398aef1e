-- What the text of units represents (this project's choice).
use Rattle.std.specs.Prelude.{◌≡◌, ℕ, Bool, false, List, ◌++◌}
use Rattle.ring_layout.specs.declared.item.Item.{Item}
use Rattle.unit_text.specs.declared.units.UnitsText.{UnitsText}
use Rattle.unit_text.specs.Units.{units_bytes}

-- the text, that at place 0, of items, which are all or not
abbrev pub units_text : UnitsText → ℕ → List Item → Bool → List ℕ
units_text u place met all = units_bytes met

-- no number of groups is kept, so items never complete as many
abbrev pub units_filled : UnitsText → ℕ → List Item → Bool
units_filled u place met = false

-- it was given these items, and of its text these bytes were taken
abbrev pub HoldsUnits : UnitsText → ℕ → List Item → Bool → List ℕ → Type 0
HoldsUnits u place met all taken = (place ≡ 0) × (taken ++ u.bytes.items ≡ units_bytes met)
