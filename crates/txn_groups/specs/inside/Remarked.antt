-- Nodes that get other marks, and nothing else.
use Rattle.std.specs.Prelude.{ℕ, ◌==◌, if◌then◌else◌, Bool, List}
use Rattle.vsl_record.specs.declared.record_type.Record.{Record}
use Rattle.txn_rows.specs.Transaction.{Transaction}
use Rattle.query_parser.specs.declared.query.Query.{Query}
use Rattle.txn_groups.specs.declared.node.Node.{Node}
use Rattle.txn_groups.specs.inside.Nodes.{StandsAt, transaction_of_node}
use Rattle.txn_groups.specs.inside.Retold.{AreChanged}
use Rattle.txn_groups.specs.inside.Marked.{AreMarksOf}

-- the node at a place keeps these marks
abbrev pub remarked : ℕ → List (List Bool) → ℕ → Node → Node
remarked place marks at x = record x { marks = if at == place then marks else x.marks }

-- the node at a place got marks of these records, and nothing else changed
pub record IsRemarked (queries : List Query) (records : List Record) (place : ℕ) (old new : List Node) : Type 0 where
  pub marks : List (List Bool)
  pub are : AreMarksOf queries records marks
  pub changed : AreChanged (remarked place marks) old new

-- each node that stands keeps the marks of its records, and that at a place those of what a change makes of its records
abbrev pub IsAheadBy : (Transaction → Transaction) → List Query → ℕ → List Node → Type 0
IsAheadBy change queries at nodes = (i : ℕ) (x : Node) → StandsAt nodes i x →
    AreMarksOf queries (if i == at then (change (transaction_of_node x)).records else x.records) x.marks
