-- When a tree of nodes leaves, and the group that it leaves as.
use Rattle.std.proofs.Common.{◌≡◌, ◌+◌, ◌<◌, ℕ, Bool, true, false, not, eqb, cond, ◌&&◌, Option, Some, List, [], ◌∷◌, ◌++◌, length, map, refl, ap, sym, ◌∙◌, subst, arith}
use Rattle.std.specs.Prelude.{slice_get, count_by}
use Rattle.std.specs.List.{list_all}
use Rattle.std.proofs.lemmas.List.Sums.{sum_by-cons}
use Rattle.txn_rows.specs.declared.group.Member.{Member}
use Rattle.txn_rows.specs.declared.rows.Row.{Row}
use Rattle.txn_rows.specs.inside.Rows.{rows_below, rows_beside, rows_in_preorder, member_of_row, left_rows, RowsLeft}
use Rattle.txn_rows.proofs.LineLemmas.{by_cases}
use Rattle.txn_groups.specs.declared.node.Node.{Node}
use Rattle.txn_groups.specs.declared.order.Entry.{Entry}
use Rattle.txn_groups.specs.declared.walk.Visit.{Visit}
use Rattle.txn_groups.specs.inside.Nodes.{AreNodes, HasRow, StandFor, row_of_node}
use Rattle.txn_groups.specs.inside.Walked.{IsVisit, Visits, AreVisits, member_at, members_of}

-- where none of a tree is unfinished, all have ended
pub ended_zero : (root : ℕ) (rows : List Row) → count_by (λ (r : Row). (eqb r.root root) && not r.ended) rows ≡ 0 → list_all (λ (r : Row). r.ended) (rows_below root rows) ≡ true
ended_zero root [] none = refl
ended_zero root (row ∷ rows) none =
    let p : Row → ℕ = λ r. cond ((eqb r.root root) && not r.ended) 1 0 in
    let whole = sum_by-cons p row rows in
    let later = ended_zero root rows (omega (arith, whole, none)) in
    let own : p row ≡ 0 = omega (arith, whole, none) in
    by_cases (list_all (λ (r : Row). r.ended) (rows_below root (row ∷ rows)) ≡ true) (eqb row.root root)
    (λ t. by_cases (list_all (λ (r : Row). r.ended) (rows_below root (row ∷ rows)) ≡ true) row.ended
    (λ u. rw (t, u) later)
    (λ u. let one : p row ≡ 1 = ap {B = ℕ} (λ (b : Bool). cond (b && not row.ended) 1 0) t ∙ ap {B = ℕ} (λ (b : Bool). cond (not b) 1 0) u in absurd (omega (arith, own, one))))
    (λ t. rw t later)

-- where some are, not all have
pub ended_some : (root : ℕ) (rows : List Row) → 0 < count_by (λ (r : Row). (eqb r.root root) && not r.ended) rows → list_all (λ (r : Row). r.ended) (rows_below root rows) ≡ false
ended_some root [] some = absurd (omega (arith, some))
ended_some root (row ∷ rows) some =
    let p : Row → ℕ = λ r. cond ((eqb r.root root) && not r.ended) 1 0 in
    let whole = sum_by-cons p row rows in
    by_cases (list_all (λ (r : Row). r.ended) (rows_below root (row ∷ rows)) ≡ false) (eqb row.root root)
    (λ t. by_cases (list_all (λ (r : Row). r.ended) (rows_below root (row ∷ rows)) ≡ false) row.ended
    (λ u. let own : p row ≡ 0 = ap {B = ℕ} (λ (b : Bool). cond (b && not row.ended) 1 0) t ∙ ap {B = ℕ} (λ (b : Bool). cond (not b) 1 0) u in
    rw (t, u) (ended_some root rows (omega (arith, whole, own, some))))
    (λ u. rw (t, u) refl))
    (λ t. let own : p row ≡ 0 = ap {B = ℕ} (λ (b : Bool). cond (b && not row.ended) 1 0) t in
    rw t (ended_some root rows (omega (arith, whole, own, some))))

-- the member of a node that is visited is that of its row
member_is : (begun : ℕ) (nodes : List Node) (order : List Entry) (rows : List Row) (row : Row) (v : Visit) → StandFor begun nodes order rows → IsVisit nodes rows row v → member_at (slice_get nodes v.at) v.level ≡ member_of_row row ∷ []
member_is begun nodes order rows row v stand visit =
    let has : HasRow rows visit.node = stand.row v.at visit.node visit.there in
    let one : Some has.row ≡ Some row = sym has.found ∙ visit.found in
    let same : has.row ≡ row = (cc) in
    let is : row ≡ row_of_node row.root row.path visit.node = subst (λ (r : Row). r ≡ row_of_node r.root r.path visit.node) same has.is in
    ap (λ (o : Option Node). member_at o v.level) visit.there.here
    ∙ ap (λ (n : ℕ). member_at (Some visit.node) n) visit.level
    ∙ ap (λ (r : Row). record (member_of_row r) { level = length row.path + 1 } ∷ []) (sym is)

members_are : (begun : ℕ) (nodes : List Node) (order : List Entry) (rows tree : List Row) (visits : List Visit) → StandFor begun nodes order rows → Visits nodes rows tree visits → members_of nodes visits ≡ map member_of_row tree
members_are begun nodes order rows [] [] stand visited = refl
members_are begun nodes order rows [] (v ∷ visits) stand visited = absurd visited
members_are begun nodes order rows (row ∷ tree) [] stand visited = absurd visited
members_are begun nodes order rows (row ∷ tree) (v ∷ visits) stand visited =
    ap (λ (ms : List Member). ms ++ members_of nodes visits) (member_is begun nodes order rows row v stand visited.0)
    ∙ ap (λ (ms : List Member). member_of_row row ∷ ms) (members_are begun nodes order rows tree visits stand visited.1)

-- a tree of which none is unfinished leaves as the members of a walk over it
pub leaves_as : (begun root : ℕ) (nodes : List Node) (order : List Entry) (rows : List Row) (visits : List Visit) → AreNodes begun nodes order rows → count_by (λ (r : Row). (eqb r.root root) && not r.ended) rows ≡ 0 → AreVisits nodes rows root visits → left_rows root rows ≡ record { rows = rows_beside root rows; groups = record { members = members_of nodes visits } ∷ [] }
leaves_as begun root nodes order rows visits are none visited =
    ap {B = RowsLeft} (λ (b : Bool). cond b (record { rows = rows_beside root rows; groups = record { members = map member_of_row (rows_in_preorder (rows_below root rows)) } ∷ [] }) (record { rows = rows; groups = [] })) (ended_zero root rows none)
    ∙ ap {B = RowsLeft} (λ (ms : List Member). record { rows = rows_beside root rows; groups = record { members = ms } ∷ [] }) (sym (members_are begun nodes order rows (rows_in_preorder (rows_below root rows)) visits are.stand visited))

-- a tree of which some are unfinished stays
pub stays_as : (root : ℕ) (rows : List Row) → 0 < count_by (λ (r : Row). (eqb r.root root) && not r.ended) rows → left_rows root rows ≡ record { rows = rows; groups = [] }
stays_as root rows some = ap {B = RowsLeft} (λ (b : Bool). cond b (record { rows = rows_beside root rows; groups = record { members = map member_of_row (rows_in_preorder (rows_below root rows)) } ∷ [] }) (record { rows = rows; groups = [] })) (ended_some root rows some)
