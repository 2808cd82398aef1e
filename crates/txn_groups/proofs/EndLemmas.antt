-- A node that ends is a row that does.
use Rattle.std.proofs.Common.{◌≡◌, ◌+◌, ◌-◌, ℕ, Bool, true, false, not, eqb, cond, ◌&&◌, Some, None, List, [], ◌∷◌, map, refl, ap, sym, ◌∙◌, arith}
use Rattle.std.specs.Prelude.{count_by}
use Rattle.std.proofs.lemmas.Bool.{eqb-true, eqb-false, eq-eqb, ne_eqb}
use Rattle.std.proofs.lemmas.List.Sums.{sum_by-cons}
use Rattle.txn_rows.specs.declared.rows.Row.{Row}
use Rattle.txn_rows.specs.Transaction.{Transaction, ended, forced}
use Rattle.txn_rows.specs.declared.group.Cause.{Cause}
use Rattle.txn_rows.specs.Trees.{row_of, transaction_of, Rising}
use Rattle.txn_rows.specs.inside.Rows.{row_told}
use Rattle.txn_rows.proofs.LineLemmas.{by_cases}
use Rattle.txn_rows.proofs.TreeLemmas.{of_row, of_row_later}
use Rattle.txn_rows.proofs.StandLemmas.{of_row_keeps, told_keeps}
use Rattle.txn_groups.specs.declared.node.Node.{Node}
use Rattle.txn_groups.specs.declared.order.Entry.{Entry}
use Rattle.txn_groups.specs.inside.Nodes.{StandsAt, AreNodes}
use Rattle.txn_groups.specs.inside.Linked.{NodeAt}
use Rattle.txn_groups.specs.inside.Retold.{AreChanged, KeepsLinks}
use Rattle.txn_groups.specs.inside.Ended.{finished_node}
use Rattle.txn_groups.proofs.LinkLemmas.{row_is}
use Rattle.txn_groups.proofs.UpLemmas.{one_row}
use Rattle.txn_groups.proofs.ClaimLemmas.{Last}
use Rattle.txn_groups.proofs.RetoldLemmas.{nodes_retold}
use Rattle.txn_groups.proofs.ToldRowLemmas.{told_where, told_links, are_of_one, row_where}

-- whether a row counts among those of a tree that have not ended
abbrev counts_in : ℕ → Row → ℕ
counts_in root r = cond ((eqb r.root root) && not r.ended) 1 0

-- one row that is changed, in a count
count_changed : (f : Row → Row) (s root low high : ℕ) (rows : List Row) (row : Row) → Rising low high rows → row_of s rows ≡ Some row →
    count_by (λ (r : Row). (eqb r.root root) && not r.ended) (map (of_row s f) rows) + counts_in root row ≡ count_by (λ (r : Row). (eqb r.root root) && not r.ended) rows + counts_in root (f row)
count_changed f s root low high [] row rising found = absurd (let e : None ≡ Some row = found in cc)
count_changed f s root low high (first ∷ rows) row rising found =
    let p : Row → ℕ = counts_in root in
    let count : List Row → ℕ = count_by (λ (r : Row). (eqb r.root root) && not r.ended) in
    let whole = sum_by-cons p first rows in
    let now = sum_by-cons p (of_row s f first) (map (of_row s f) rows) in
    by_cases (count (map (of_row s f) (first ∷ rows)) + p row ≡ count (first ∷ rows) + p (f row)) (eqb first.serial s)
    (λ t.
    let e : Some first ≡ Some row = rw t at found in
    let is : first ≡ row = (cc) in
    let head : p (of_row s f first) ≡ p (f row) = ap (λ (b : Bool). p (cond b (f first) first)) t ∙ ap (λ (r : Row). p (f r)) is in
    let rest : count (map (of_row s f) rows) ≡ count rows = ap count (of_row_later s f (first.serial + 1) high rows rising.1 (omega (arith, eqb-true first.serial s t))) in
    omega (arith, whole, now, head, rest, ap p is))
    (λ t.
    let head : p (of_row s f first) ≡ p first = ap (λ (b : Bool). p (cond b (f first) first)) t in
    let rest = count_changed f s root (first.serial + 1) high rows row rising.1 (rw t at found) in
    omega (arith, whole, now, head, rest))

-- a change after which a transaction has ended, and which keeps its VXID
pub record Finishes (change : Transaction → Transaction) : Type 0 where
  pub vxid : (t : Transaction) → (change t).vxid ≡ t.vxid
  pub ended : (t : Transaction) → (change t).ended ≡ true

-- an End does so, and so does a force-completion
pub ended_finishes : Finishes ended
ended_finishes = record { vxid = λ t. refl; ended = λ t. refl }

pub forced_finishes : (cause : Cause) → Finishes (forced cause)
forced_finishes cause = record { vxid = λ t. refl; ended = λ t. refl }

-- what an end keeps
pub finished_keeps : (change : Transaction → Transaction) → Finishes change → (place last : ℕ) → KeepsLinks (finished_node change place last)
finished_keeps change fin place last =
    let told : KeepsLinks (told_where change (λ at. eqb at place)) = told_links change fin.vxid (λ at. eqb at place) in
    record {
      stands = told.stands;
      serial = told.serial;
      vxid = told.vxid;
      parent = told.parent;
      children = told.children;
      first = told.first;
      last = told.last;
      next = told.next;
      up = told.up;
      size = told.size;
      top = told.top;
      older = told.older;
      newer = told.newer;
    }

-- what the last nodes count
finished_counts : (begun : ℕ) (nodes : List Node) (order : List Entry) (rows : List Row) (change : Transaction → Transaction) → Finishes change → (place last : ℕ) (n : NodeAt nodes rows place) (y : Node) → AreNodes begun nodes order rows → n.node.ended ≡ false → Last nodes rows n.row.root last y → (at : ℕ) (x : Node) (row : Row) → StandsAt nodes at x → row_of x.serial rows ≡ Some row → x.up ≡ at →
    (finished_node change place last at x).unended ≡ count_by (λ (r : Row). (eqb r.root row.root) && not r.ended) (map (of_row n.row.serial (row_told change)) rows)
finished_counts begun nodes order rows change fin place last n y are open_node l at x row there found top =
    let new : Row = row_told change n.row in
    let n_is = row_is nodes rows place n begun order are.stand in
    let here : row_of n.row.serial rows ≡ Some n.row = ap (λ (s : ℕ). row_of s rows) (ap (λ (r : Row). r.serial) n_is) ∙ n.found in
    let open_row : n.row.ended ≡ false = ap (λ (r : Row). r.ended) n_is ∙ open_node in
    let swap = count_changed (row_told change) n.row.serial row.root 0 begun rows n.row are.trees.rising here in
    let was = (are.up at x row there found).unended top in
    let done : new.ended ≡ true = fin.ended (transaction_of n.row) in
    let after : counts_in row.root new ≡ 0 = by_cases (counts_in row.root new ≡ 0) (eqb n.row.root row.root) (λ t. rw (t, done) refl) (λ t. rw t refl) in
    by_cases ((finished_node change place last at x).unended ≡ count_by (λ (r : Row). (eqb r.root row.root) && not r.ended) (map (of_row n.row.serial (row_told change)) rows)) (eqb at last)
    (λ t.
    let same : row ≡ l.row = one_row nodes rows at last x y row l.row there l.there found l.found (eqb-true at last t) in
    let root : eqb n.row.root row.root ≡ true = eq-eqb n.row.root row.root (sym (ap (λ (r : Row). r.root) same ∙ l.tree)) in
    let before : counts_in row.root n.row ≡ 1 = ap {B = ℕ} (λ (b : Bool). cond (b && not n.row.ended) 1 0) root ∙ ap {B = ℕ} (λ (b : Bool). cond (not b) 1 0) open_row in
    let now : (finished_node change place last at x).unended ≡ x.unended - 1 = ap (λ (b : Bool). cond b (x.unended - 1) x.unended) t in
    omega (arith, now, was, swap, before, after))
    (λ t.
    let root : eqb n.row.root row.root ≡ false = ne_eqb n.row.root row.root (λ e. eqb-false at last t (are.last at last x y row l.row there l.there found l.found top l.last (sym (l.tree ∙ e)))) in
    let before : counts_in row.root n.row ≡ 0 = ap {B = ℕ} (λ (b : Bool). cond (b && not n.row.ended) 1 0) root in
    let now : (finished_node change place last at x).unended ≡ x.unended = ap (λ (b : Bool). cond b (x.unended - 1) x.unended) t in
    omega (arith, now, was, swap, before, after))

-- after an end nodes stand for the rows of which one ended
pub nodes_finished : (begun : ℕ) (old new : List Node) (order : List Entry) (rows : List Row) (change : Transaction → Transaction) → Finishes change → (place last : ℕ) (n : NodeAt old rows place) (y : Node) → AreNodes begun old order rows → n.node.ended ≡ false → Last old rows n.row.root last y → AreChanged (finished_node change place last) old new → AreNodes begun new order (map (of_row n.row.serial (row_told change)) rows)
nodes_finished begun old new order rows change fin place last n y are open_node l changed =
    nodes_retold begun (finished_node change place last) (of_row n.row.serial (row_told change)) old new order rows are (finished_keeps change fin place last) (of_row_keeps n.row.serial (row_told change) rows (told_keeps change rows)) changed
    (record { told = row_where begun old order rows change (λ at. eqb at place) (λ (r : Row). eqb r.serial n.row.serial) are (are_of_one begun old order rows place n are.stand); unended = finished_counts begun old order rows change fin place last n y are open_node l })
