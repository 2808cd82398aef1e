-- Nodes keep their marks where some leave, and where one ends.
use Rattle.std.proofs.Common.{◌≡◌, ⊎_elim, inl, ℕ, eqb, cond, List, [], refl, ap, sym, subst}
use Rattle.vsl_record.specs.declared.record_type.Record.{Record}
use Rattle.txn_rows.specs.declared.group.Cause.{Cause}
use Rattle.txn_rows.specs.declared.group.Member.{Member}
use Rattle.txn_rows.specs.Transaction.{Transaction, ended, forced}
use Rattle.txn_rows.proofs.LineLemmas.{by_cases, either}
use Rattle.query_parser.specs.declared.query.Query.{Query}
use Rattle.txn_groups.specs.declared.node.Node.{Node}
use Rattle.txn_groups.specs.declared.pending.Pending.{Pending}
use Rattle.txn_groups.specs.declared.walk.Visit.{Visit}
use Rattle.txn_groups.specs.inside.Nodes.{StandsAt, transaction_of_node}
use Rattle.txn_groups.specs.inside.Retold.{AreChanged}
use Rattle.txn_groups.specs.inside.Ended.{finished_node}
use Rattle.txn_groups.specs.inside.Taken.{AreTaken}
use Rattle.txn_groups.specs.inside.Marked.{marks_for, AreMarksOf, AreMarked, IsAsBefore, KeepMarks, IsAhead}
use Rattle.txn_groups.proofs.HeldLemmas.{names_of, was_before}
use Rattle.txn_groups.proofs.EndLemmas.{Finishes, ended_finishes, forced_finishes, finished_keeps}

-- what remains where nodes were taken out keeps its marks
pub taken_keeps : (p q : Pending) (visits : List Visit) (group : List Member) → AreTaken p q visits group → KeepMarks p.nodes.items q.nodes.items
taken_keeps p q visits group taken = λ at y there.
    let w = (taken.were at y there).0 in
    inl (record { node = w.node; there = w.there; records = ap (λ (n : Node). n.records) w.is; marks = ap (λ (n : Node). n.marks) w.is })

pub same_keep : (nodes : List Node) → KeepMarks nodes nodes
same_keep nodes = λ at x there. inl (record { node = x; there = there; records = refl; marks = refl })

-- nodes that keep their marks are marked still
pub still_marked : (queries : List Query) (old new : List Node) → AreMarked queries old → KeepMarks old new → AreMarked queries new
still_marked queries old new marked keep = λ at x there. ⊎_elim
    (λ (s : IsAsBefore old at x). rw (s.records, s.marks) (marked at s.node s.there))
    (λ (none : (x.records ≡ []) × (x.marks ≡ [])). inl (none.1, ap (marks_for queries) none.0))
    (keep at x there)

-- the node at a place has the marks that it needs once its transaction is changed
abbrev IsAheadOf : (Transaction → Transaction) → List Query → ℕ → List Node → Type 0
IsAheadOf change queries at nodes = (i : ℕ) (x : Node) → StandsAt nodes i x → AreMarksOf queries (cond (eqb i at) (change (transaction_of_node x)).records x.records) x.marks

finished_marked : (change : Transaction → Transaction) → Finishes change → (queries : List Query) (at last : ℕ) (old new : List Node) → IsAheadOf change queries at old → AreChanged (finished_node change at last) old new → AreMarked queries new
finished_marked change fin queries at last old new ahead changed = λ i y there.
    let g : ℕ → Node → Node = finished_node change at last in
    let b = was_before g old new i y (names_of g (finished_keeps change fin at last)) changed there in
    let x : Node = b.node in
    let own = ahead i x b.there in
    subst (λ (n : Node). AreMarksOf queries n.records n.marks) (sym b.is)
    (by_cases (AreMarksOf queries (g i x).records (g i x).marks) (eqb i at) (λ t. rw t (rw t at own)) (λ t. rw t (rw t at own)))

-- a node ends
pub ended_marked : (queries : List Query) (at last : ℕ) (old new : List Node) → AreMarked queries old → AreChanged (finished_node ended at last) old new → AreMarked queries new
ended_marked queries at last old new marked changed =
    finished_marked ended ended_finishes queries at last old new (λ i x there. either (λ (rs : List Record). AreMarksOf queries rs x.marks) (eqb i at) x.records x.records (marked i x there) (marked i x there)) changed

-- a node whose marks are ahead is force-completed
pub forced_marked : (queries : List Query) (cause : Cause) (at last : ℕ) (old new : List Node) → IsAhead queries cause at old → AreChanged (finished_node (forced cause) at last) old new → AreMarked queries new
forced_marked queries cause at last old new ahead changed = finished_marked (forced cause) (forced_finishes cause) queries at last old new ahead changed
