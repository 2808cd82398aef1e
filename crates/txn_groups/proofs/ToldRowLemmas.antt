-- Nodes that tell their transactions, changed, stand for rows that do.
use Rattle.std.proofs.Common.{◌≡◌, ℕ, Bool, not, eqb, cond, ◌&&◌, Some, List, map, refl, ap, sym, ◌∙◌}
use Rattle.std.specs.Prelude.{count_by}
use Rattle.txn_rows.specs.declared.rows.Row.{Row}
use Rattle.txn_rows.specs.Transaction.{Transaction}
use Rattle.txn_rows.specs.Trees.{row_of, transaction_of}
use Rattle.txn_rows.specs.inside.Rows.{row_told}
use Rattle.txn_rows.proofs.LineLemmas.{by_cases, either}
use Rattle.txn_rows.proofs.StandLemmas.{KeepsPlaces, count_same}
use Rattle.txn_groups.specs.declared.node.Node.{Node}
use Rattle.txn_groups.specs.declared.order.Entry.{Entry}
use Rattle.txn_groups.specs.inside.Nodes.{StandsAt, StandFor, AreNodes, row_of_node, transaction_of_node}
use Rattle.txn_groups.specs.inside.Linked.{NodeAt}
use Rattle.txn_groups.specs.inside.Retold.{AreChanged, KeepsLinks}
use Rattle.txn_groups.specs.inside.Told.{node_told}
use Rattle.txn_groups.proofs.LinkLemmas.{row_is, place_is}
use Rattle.txn_groups.proofs.RetoldLemmas.{nodes_retold}

-- a change that keeps what names a transaction, its parent, and whether it has ended
pub record KeepsEnd (change : Transaction → Transaction) : Type 0 where
  pub serial : (t : Transaction) → (change t).serial ≡ t.serial
  pub vxid : (t : Transaction) → (change t).vxid ≡ t.vxid
  pub parent : (t : Transaction) → (change t).parent ≡ t.parent
  pub ended : (t : Transaction) → (change t).ended ≡ t.ended

-- the nodes at some places tell their transactions, changed
abbrev pub told_where : (Transaction → Transaction) → (ℕ → Bool) → ℕ → Node → Node
told_where change q at x = cond (q at) (node_told change x) x

-- and so do some rows
abbrev pub rows_where : (Transaction → Transaction) → (Row → Bool) → Row → Row
rows_where change p row = cond (p row) (row_told change row) row

-- the rows of these nodes are those
abbrev pub AreOf : List Node → List Row → (ℕ → Bool) → (Row → Bool) → Type 0
AreOf nodes rows q p = (at : ℕ) (x : Node) (row : Row) → StandsAt nodes at x → row_of x.serial rows ≡ Some row → p row ≡ q at

node_same : {X : Type 0} (f : Node → X) (change : Transaction → Transaction) → ((x : Node) → f (node_told change x) ≡ f x) → (q : ℕ → Bool) (at : ℕ) (x : Node) → f (told_where change q at x) ≡ f x
node_same f change keeps q at x = either (λ y. f y ≡ f x) (q at) (node_told change x) x (keeps x) refl

row_same : {X : Type 0} (f : Row → X) (change : Transaction → Transaction) → ((row : Row) → f (row_told change row) ≡ f row) → (p : Row → Bool) (row : Row) → f (rows_where change p row) ≡ f row
row_same f change keeps p row = either (λ r. f r ≡ f row) (p row) (row_told change row) row (keeps row) refl

-- what nodes keep
pub told_links : (change : Transaction → Transaction) → ((t : Transaction) → (change t).vxid ≡ t.vxid) → (q : ℕ → Bool) → KeepsLinks (told_where change q)
told_links change vxid q = record {
  stands = node_same (λ n. n.stands) change (λ x. refl) q;
  serial = node_same (λ n. n.serial) change (λ x. refl) q;
  vxid = node_same (λ n. n.vxid) change (λ x. vxid (transaction_of_node x)) q;
  parent = node_same (λ n. n.parent) change (λ x. refl) q;
  children = node_same (λ n. n.children) change (λ x. refl) q;
  first = node_same (λ n. n.first) change (λ x. refl) q;
  last = node_same (λ n. n.last) change (λ x. refl) q;
  next = node_same (λ n. n.next) change (λ x. refl) q;
  up = node_same (λ n. n.up) change (λ x. refl) q;
  size = node_same (λ n. n.size) change (λ x. refl) q;
  top = node_same (λ n. n.top) change (λ x. refl) q;
  older = node_same (λ n. n.older) change (λ x. refl) q;
  newer = node_same (λ n. n.newer) change (λ x. refl) q;
}

-- one node and its row are such
pub are_of_one : (begun : ℕ) (nodes : List Node) (order : List Entry) (rows : List Row) (place : ℕ) (n : NodeAt nodes rows place) → StandFor begun nodes order rows → AreOf nodes rows (λ at. eqb at place) (λ (r : Row). eqb r.serial n.row.serial)
are_of_one begun nodes order rows place n stand = λ at x row there found.
    let m : NodeAt nodes rows at = record { node = x; there = there; row = row; found = found } in
    ap (λ (r : Row). eqb r.serial n.row.serial) (row_is nodes rows at m begun order stand)
    ∙ ap (λ (r : Row). eqb x.serial r.serial) (row_is nodes rows place n begun order stand)
    ∙ place_is begun nodes order rows at place x n.node stand there n.there

-- what rows keep
rows_keep : (change : Transaction → Transaction) (p : Row → Bool) (rows : List Row) → KeepsPlaces (rows_where change p) rows
rows_keep change p rows = record {
  serial = row_same (λ r. r.serial) change (λ r. refl) p;
  parent = row_same (λ r. r.parent) change (λ r. refl) p;
  root = row_same (λ r. r.root) change (λ r. refl) p;
  path = row_same (λ r. r.path) change (λ r. refl) p;
  children = row_same (λ r. r.children) change (λ r. refl) p;
}

-- the row of a node
pub row_where : (begun : ℕ) (nodes : List Node) (order : List Entry) (rows : List Row) (change : Transaction → Transaction) (q : ℕ → Bool) (p : Row → Bool) → AreNodes begun nodes order rows → AreOf nodes rows q p → (at : ℕ) (x : Node) (row : Row) → StandsAt nodes at x → row_of x.serial rows ≡ Some row → rows_where change p row ≡ row_of_node row.root row.path (told_where change q at x)
row_where begun nodes order rows change q p are same at x row there found =
    let m : NodeAt nodes rows at = record { node = x; there = there; row = row; found = found } in
    let is = row_is nodes rows at m begun order are.stand in
    let of_x : Row = row_of_node row.root row.path x in
    ap (λ (b : Bool). cond b (row_told change row) row) (same at x row there found)
    ∙ ap (λ (r : Row). cond (q at) (row_told change r) r) is
    ∙ by_cases (cond (q at) (row_told change of_x) of_x ≡ row_of_node row.root row.path (told_where change q at x)) (q at) (λ t. rw t refl) (λ t. rw t refl)

-- as many have ended as before
count_where : (begun : ℕ) (nodes : List Node) (order : List Entry) (rows : List Row) (change : Transaction → Transaction) (q : ℕ → Bool) (p : Row → Bool) → ((t : Transaction) → (change t).ended ≡ t.ended) → AreNodes begun nodes order rows → (at : ℕ) (x : Node) (row : Row) → StandsAt nodes at x → row_of x.serial rows ≡ Some row → x.up ≡ at →
    (told_where change q at x).unended ≡ count_by (λ (r : Row). (eqb r.root row.root) && not r.ended) (map (rows_where change p) rows)
count_where begun nodes order rows change q p ended are at x row there found top =
    let test : Row → Bool = λ r. (eqb r.root row.root) && not r.ended in
    node_same (λ n. n.unended) change (λ y. refl) q at x
    ∙ (are.up at x row there found).unended top
    ∙ sym (count_same test (rows_where change p) (row_same test change (λ r. ap (λ (b : Bool). (eqb r.root row.root) && not b) (ended (transaction_of r))) p) rows)

-- nodes stand for the rows of which some tell their transactions, changed
pub nodes_told : (begun : ℕ) (old new : List Node) (order : List Entry) (rows : List Row) (change : Transaction → Transaction) (q : ℕ → Bool) (p : Row → Bool) → KeepsEnd change → AreNodes begun old order rows → AreOf old rows q p → AreChanged (told_where change q) old new → AreNodes begun new order (map (rows_where change p) rows)
nodes_told begun old new order rows change q p keeps are same changed =
    nodes_retold begun (told_where change q) (rows_where change p) old new order rows are (told_links change keeps.vxid q) (rows_keep change p rows) changed
    (record { told = row_where begun old order rows change q p are same; unended = count_where begun old order rows change q p keeps.ended are })
