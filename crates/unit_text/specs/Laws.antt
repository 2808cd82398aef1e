-- The bytes of items go on in those of more items (this project's choice).
use Rattle.std.proofs.Common.{List, ◌++◌}
use Rattle.std.proofs.lemmas.Grind.{flat_map-append}
use Rattle.log_model.specs.Prefix.{IsPrefix}
use Rattle.log_model.proofs.PrefixLemmas.{prefix_by}
use Rattle.ring_layout.specs.declared.item.Item.{Item}
use Rattle.unit_text.specs.Units.{item_bytes, units_bytes}

-- the bytes of items go on in those of items and more items
pub units_grow : (list more : List Item) → IsPrefix (units_bytes list) (units_bytes (list ++ more))
units_grow list more = prefix_by (units_bytes list) (units_bytes (list ++ more)) (units_bytes more) (flat_map-append item_bytes list more)
