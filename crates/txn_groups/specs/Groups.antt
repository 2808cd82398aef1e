-- Groups with the answers of queries (this project's choice).
use Rattle.std.specs.Prelude.{◌≡◌, false, List, map}
use Rattle.txn_rows.specs.declared.group.Group.{Group}
use Rattle.txn_rows.specs.Grouping.{Leaving, Taken, no_state, taken_steps, groups_of}
use Rattle.txn_rows.specs.TableState.{TableState}
use Rattle.txn_rows.specs.Table.{TableStepped, TableFailed}
use Rattle.query_parser.specs.declared.query.Query.{Query}
use Rattle.query_eval.specs.Meaning.{is_held}
use Rattle.txn_groups.specs.inside.Trees.{state_of_trees}
use Rattle.txn_groups.specs.declared.groups.Groups.{Groups}
use Rattle.query_eval.specs.declared.chosen.Chosen.{Chosen}

-- what is told of pending transactions and the queries that their groups are asked: the table that they stand for, and the queries
pub record GroupsState : Type 0 where
  pub table : TableState
  pub queries : List Query

-- what groups tell
abbrev pub groups_state : Groups → GroupsState
groups_state g = record {
  table = record { options = g.options; state = state_of_trees g.store; failed = g.failed };
  queries = g.queries.now;
}

-- a group with the answer of each query
abbrev pub chosen : List Query → Group → Chosen
chosen queries group = record { group = group; holds = map (λ query. is_held query group) queries }

-- the table was stepped, and each group that is reported was handed out with the answers of the queries, which stay
pub record GroupsStepped (leaving : Leaving) (before now : GroupsState) (out_before out_now : List Chosen) : Type 0 where
  pub table : TableStepped (chosen before.queries) leaving before.table now.table out_before out_now
  pub queries : now.queries ≡ before.queries

-- the table failed, and a prefix of these was handed out
pub record GroupsFailed (leaving : Leaving) (before now : GroupsState) (out_before out_now : List Chosen) : Type 0 where
  pub table : TableFailed (chosen before.queries) leaving before.table now.table out_before out_now
  pub queries : now.queries ≡ before.queries

-- from the beginning on these items were taken: what they leave is pending, and the groups that are reported of them were
-- handed out with the answers of the queries
pub record HaveTaken (taken : List Taken) (g : GroupsState) (out : List Chosen) : Type 0 where
  pub state : g.table.state ≡ (taken_steps g.table.options taken no_state).state
  pub groups : out ≡ map (chosen g.queries) (groups_of g.table.options taken false)
