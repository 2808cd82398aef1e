-- The units of a log as a log file (this project's choice).
use Rattle.std.specs.Prelude.{ℕ, false, List, [], ◌++◌}
use Rattle.std.specs.List.{flat_map}
use Rattle.vsl_record.specs.Unit.{Log}
use Rattle.ring_layout.specs.declared.item.Item.{Item}
use Rattle.ring_layout.specs.declared.item.Item.TheVariants as items
use Rattle.vsl_file.specs.File.{file_header, log_bytes, unit_bytes}
use Rattle.fan_output.specs.Ends.{Due}

-- a log file of these units
abbrev pub converted : Log → List ℕ
converted units = file_header ++ log_bytes units

-- the bytes of an item: none of an overrun, and of what it cost
abbrev pub item_bytes : Item → List ℕ
item_bytes (items.Unit u) = unit_bytes u
item_bytes (items.Overrun at seen) = []
item_bytes (items.Missed units) = []

-- the bytes of items, in order
abbrev pub units_bytes : List Item → List ℕ
units_bytes met = flat_map item_bytes met

-- what is due where a log is converted, to an output of this name: the header, and the bytes of the units that were met. Each unit is complete in
-- itself, so nothing is flushed at the end
abbrev pub units_due : List ℕ → Due
units_due name = record { head = file_header; text = λ met all. units_bytes met; filled = λ met. false; name = name }
