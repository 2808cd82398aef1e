-- What a store of nodes keeps.
use Rattle.std.specs.Prelude.{◌≡◌, List, []}
use Rattle.txn_rows.specs.Grouping.{State}
use Rattle.query_parser.specs.declared.query.Query.{Query}
use Rattle.txn_groups.specs.declared.trees.Trees.{Trees}
use Rattle.txn_groups.specs.inside.Held.{state_of, IsHeld}
use Rattle.txn_groups.specs.inside.Oldest.{IsLow}
use Rattle.txn_groups.specs.inside.Marked.{queries_of, marks_for, AreMarked}

-- what its pending nodes say
abbrev pub state_of_trees : Trees → State
state_of_trees t = state_of t.pending

-- its nodes stand for rows, none before its serial number is pending and has not ended, it asks these queries, nodes keep their marks, and it
-- keeps those of no records
pub record IsTrees (queries : List Query) (t : Trees) : Type 0 where
  pub held : IsHeld t.pending
  pub low : IsLow t.low (state_of t.pending)
  pub asks : queries_of t.askers ≡ queries
  pub marked : AreMarked queries t.pending.nodes.items
  pub unmarked : t.unmarked ≡ marks_for queries []
