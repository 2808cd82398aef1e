-- Nodes that tell other things of their transactions, in their own places.
use Rattle.std.specs.Prelude.{ℕ, ◌==◌, if◌then◌else◌}
use Rattle.txn_rows.specs.Transaction.{Transaction}
use Rattle.txn_groups.specs.declared.node.Node.{Node}
use Rattle.txn_groups.specs.inside.Nodes.{transaction_of_node}

-- a node tells its transaction, changed
abbrev pub node_told : (Transaction → Transaction) → Node → Node
node_told change x =
    let t : Transaction = change (transaction_of_node x) in
    record x { vxid = t.vxid; kind = t.kind; reason = t.reason; records = t.records; ended = t.ended; time = t.time }

-- the node at a place tells its transaction, changed
abbrev pub told_at : (Transaction → Transaction) → ℕ → ℕ → Node → Node
told_at change place at x = if at == place then node_told change x else x
