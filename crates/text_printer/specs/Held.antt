-- The groups for which a query holds (vsl-query(7), "Query Expressions").
use Rattle.std.specs.Prelude.{List, filter}
use Rattle.txn_rows.specs.declared.group.Group.{Group}
use Rattle.query_parser.specs.declared.query.Query.{Query}
use Rattle.query_eval.specs.Meaning.{is_held}

-- the groups for which a query holds, in their order
abbrev pub held_groups : Query → List Group → List Group
held_groups query groups = filter (is_held query) groups
