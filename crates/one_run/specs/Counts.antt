-- How much a run met (this project's choice).
use Rattle.std.specs.Prelude.{◌≡◌, ◌<◌, List}
use Rattle.ring_layout.specs.declared.item.Item.{Item}
use Rattle.ring_layout.specs.Items.{count_units, count_items}
use Rattle.one_run.specs.declared.met.Met.{Met}

-- so much was met
pub record IsMet (met : Met) (list : List Item) : Type 0 where
  pub units : met.units ≡ count_units list
  pub items : met.items ≡ count_items list

-- one more can be counted
pub record HasRoom (met : Met) : Type 0 where
  pub units : met.units < 18446744073709551615
  pub items : met.items < 18446744073709551615
