-- A node that ends.
use Rattle.std.specs.Prelude.{ℕ, ◌-◌, ◌==◌, if◌then◌else◌}
use Rattle.txn_rows.specs.Transaction.{Transaction}
use Rattle.txn_groups.specs.declared.node.Node.{Node}
use Rattle.txn_groups.specs.inside.Told.{told_at}

-- a node tells its transaction, changed so that it has ended, and the last node of its tree counts one less that has not
abbrev pub finished_node : (Transaction → Transaction) → ℕ → ℕ → ℕ → Node → Node
finished_node change place last at x =
    record (told_at change place at x) { unended = if at == last then x.unended - 1 else x.unended }
