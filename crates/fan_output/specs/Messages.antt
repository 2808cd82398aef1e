-- Lines for standard error (this project's choice).
use Rattle.std.specs.Prelude.{ℕ, List, [], ◌++◌, codes}
use Rattle.std.specs.List.{flat_map}
use Rattle.ring_layout.specs.declared.item.Item.{Item}
use Rattle.ring_layout.specs.declared.item.Item.TheVariants as items
use Rattle.one_command.specs.Messages.{numbered}

-- a line, after the program's name
abbrev pub told : List ℕ → List ℕ
told text = codes "vtools: " ++ text ++ codes "\n"

-- the message of an overrun
abbrev pub overrun_message : ℕ → ℕ → List ℕ
overrun_message at seen = told (numbered (codes "log overrun at segment ") at (codes ", counter ") ++ numbered [] seen [])

-- the message of how many units were missed, where a reader goes on behind an overrun
abbrev pub missed_message : ℕ → List ℕ
missed_message units = told (numbered (codes "missed ") units (codes " units"))

-- the message of an item: none of a unit
abbrev pub message_of : Item → List ℕ
message_of (items.Unit u) = []
message_of (items.Overrun at seen) = overrun_message at seen
message_of (items.Missed units) = missed_message units

-- the messages of items, in order
abbrev pub messages_of : List Item → List ℕ
messages_of met = flat_map message_of met
