-- Nodes that keep marks: for each query, what the records of their transaction say of its tests.
use Rattle.std.specs.Prelude.{◌≡◌, ℕ, ◌==◌, ◌⊎◌, if◌then◌else◌, Bool, List, [], map, Some, None, slice_get}
use Rattle.vsl_record.specs.declared.record_type.Record.{Record}
use Rattle.txn_rows.specs.declared.group.Cause.{Cause}
use Rattle.txn_rows.specs.Transaction.{forced}
use Rattle.query_parser.specs.declared.query.Query.{Query}
use Rattle.query_eval.specs.Asker.{asker_query}
use Rattle.query_eval.specs.Marks.{marks_of}
use Rattle.txn_groups.specs.declared.askers.Askers.{Askers}
use Rattle.txn_groups.specs.declared.node.Node.{Node}
use Rattle.txn_groups.specs.inside.Nodes.{StandsAt, transaction_of_node}

-- the queries
abbrev pub queries_of : Askers → List Query
queries_of askers = map asker_query askers.all.items

-- the marks of records, of each query
abbrev pub marks_for : List Query → List Record → List (List Bool)
marks_for queries records = map (λ query. marks_of query records) queries

-- these are the marks of records; where they are those of no records, there may be none
abbrev pub AreMarksOf : List Query → List Record → List (List Bool) → Type 0
AreMarksOf queries records marks = ((marks ≡ []) × (marks_for queries records ≡ marks_for queries [])) ⊎
    (marks ≡ marks_for queries records)

-- each node that stands keeps the marks of its records
abbrev pub AreMarked : List Query → List Node → Type 0
AreMarked queries nodes = (at : ℕ) (x : Node) → StandsAt nodes at x → AreMarksOf queries x.records x.marks

-- each node that stands stood before with these records and marks, or has none of either
pub record IsAsBefore (old : List Node) (at : ℕ) (x : Node) : Type 0 where
  pub node : Node
  pub there : StandsAt old at node
  pub records : x.records ≡ node.records
  pub marks : x.marks ≡ node.marks

-- the same of each node that stands now
abbrev pub KeepMarks : List Node → List Node → Type 0
KeepMarks old new = (at : ℕ) (x : Node) → StandsAt new at x → IsAsBefore old at x ⊎ ((x.records ≡ []) × (x.marks ≡ []))

-- each node that stands keeps the marks of its records, and that at a place those that a force-completion gives it, too
abbrev pub IsAhead : List Query → Cause → ℕ → List Node → Type 0
IsAhead queries cause at nodes = (i : ℕ) (x : Node) → StandsAt nodes i x →
    AreMarksOf queries (if i == at then (forced cause (transaction_of_node x)).records else x.records) x.marks

-- a node keeps the marks of its records for the query at a place; where they are those of no records, it may keep none
abbrev pub IsMarkedFor : Query → ℕ → Node → Type 0
IsMarkedFor query place x = ((slice_get x.marks place ≡ None) × (marks_of query x.records ≡ marks_of query [])) ⊎
    (slice_get x.marks place ≡ Some (marks_of query x.records))

-- and so does each node that stands
abbrev pub AreMarkedFor : Query → ℕ → List Node → Type 0
AreMarkedFor query place nodes = (at : ℕ) (x : Node) → StandsAt nodes at x → IsMarkedFor query place x
