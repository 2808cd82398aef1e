-- Entries and the nodes that stand for them.
use Rattle.std.specs.Prelude.{ℕ, ◌==◌, ◌&&◌, not, Bool, false, List, Option, Some, None, slice_get}
use Rattle.std.specs.List.{filter}
use Rattle.txn_groups.specs.declared.node.Node.{Node}
use Rattle.txn_groups.specs.declared.order.Entry.{Entry}

-- whether a node stands for a serial number
abbrev pub stands_for : Option Node → ℕ → Bool
stands_for None serial = false
stands_for (Some x) serial = x.stands && x.serial == serial

-- whether the node of an entry still stands for it
abbrev pub is_live : List Node → Entry → Bool
is_live nodes e = stands_for (slice_get nodes e.at) e.serial

-- whether a node stands for a serial number, and has not ended
abbrev pub is_open_for : Option Node → ℕ → Bool
is_open_for None serial = false
is_open_for (Some x) serial = x.stands && x.serial == serial && not x.ended

-- whether the node of an entry still stands for it, and has not ended
abbrev pub is_open_at : List Node → Entry → Bool
is_open_at nodes e = is_open_for (slice_get nodes e.at) e.serial

-- the entries whose nodes stand for them
abbrev pub live : List Node → List Entry → List Entry
live nodes order = filter (is_live nodes) order
