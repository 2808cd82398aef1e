-- A link of nodes is the link of their transactions.
use Rattle.std.proofs.Common.{◌≡◌, ℕ, not, eqb, ◌&&◌, Some, None, List, map, ap, sym, ◌∙◌}
use Rattle.std.specs.Prelude.{is_none}
use Rattle.txn_rows.specs.declared.rows.Row.{Row}
use Rattle.txn_rows.specs.declared.join.Join.{Join}
use Rattle.txn_rows.specs.Transaction.{newest}
use Rattle.txn_rows.specs.Links.{with_link}
use Rattle.txn_rows.specs.Trees.{transaction_of, row_of}
use Rattle.txn_rows.specs.inside.Rows.{joined}
use Rattle.txn_rows.proofs.JoinLemmas.{Pair, link_refused, link_joins_rows}
use Rattle.txn_groups.specs.declared.link.Linking.{Linking}
use Rattle.txn_groups.specs.declared.node.Node.{Node}
use Rattle.txn_groups.specs.declared.order.Entry.{Entry}
use Rattle.txn_groups.specs.inside.Nodes.{AreNodes, Hold, listed}
use Rattle.txn_groups.specs.inside.Linked.{AreLinked, NodeAt}
use Rattle.txn_groups.specs.inside.Claimed.{AreNewest, LinksAs, can_link, join_of}
use Rattle.txn_groups.proofs.ListedLemmas.{listed_is}
use Rattle.txn_groups.proofs.LinkLemmas.{row_is}
use Rattle.txn_groups.proofs.UpLemmas.{nodes_after}

-- what nodes list are the transactions of their rows
pub tells : (begun : ℕ) (nodes : List Node) (order : List Entry) (rows : List Row) → AreNodes begun nodes order rows → listed nodes order ≡ map transaction_of rows
tells begun nodes order rows are = listed_is begun nodes order rows are.trees.rising are.stand

-- the newest rows of two VXIDs
pair_of : (begun : ℕ) (nodes : List Node) (order : List Entry) (rows : List Row) (below above child parent : ℕ) (c : NodeAt nodes rows below) (p : NodeAt nodes rows above) → AreNodes begun nodes order rows → AreNewest nodes order child parent c.node p.node → Pair child parent rows c.row p.row
pair_of begun nodes order rows below above child parent c p are new =
    let c_is = row_is nodes rows below c begun order are.stand in
    let p_is = row_is nodes rows above p begun order are.stand in
    let told = tells begun nodes order rows are in
    record {
      child_newest = ap (newest child) (sym told) ∙ new.child_is ∙ ap Some (sym (ap transaction_of c_is));
      child_here = ap (λ (s : ℕ). row_of s rows) (ap (λ (r : Row). r.serial) c_is) ∙ c.found;
      child_vxid_is = ap (λ (r : Row). r.vxid) c_is ∙ new.vxid;
      parent_newest = ap (newest parent) (sym told) ∙ new.parent_is ∙ ap Some (sym (ap transaction_of p_is));
      parent_here = ap (λ (s : ℕ). row_of s rows) (ap (λ (r : Row). r.serial) p_is) ∙ p.found;
    }

-- whether the rows can be linked
can_rows : (begun : ℕ) (nodes : List Node) (order : List Entry) (rows : List Row) (below above : ℕ) (c : NodeAt nodes rows below) (p : NodeAt nodes rows above) → AreNodes begun nodes order rows → (is_none c.row.parent && not c.row.ended && not (eqb p.row.root c.row.serial)) ≡ can_link c.node p.row.root
can_rows begun nodes order rows below above c p are =
    ap (λ (r : Row). is_none r.parent && not r.ended && not (eqb p.row.root r.serial)) (row_is nodes rows below c begun order are.stand)

join_rows_is : (begun : ℕ) (nodes : List Node) (order : List Entry) (rows : List Row) (below above : ℕ) (c : NodeAt nodes rows below) (p : NodeAt nodes rows above) → AreNodes begun nodes order rows →
    join_of c.node p.node p.row ≡ record { child = c.row.serial; link = record { serial = p.row.serial; vxid = p.row.vxid; number = p.row.children }; root = p.row.root; path = p.row.path }
join_rows_is begun nodes order rows below above c p are =
    let c_is = row_is nodes rows below c begun order are.stand in
    let p_is = row_is nodes rows above p begun order are.stand in
    ap {B = Join} (λ (s : ℕ). record { child = s; link = record { serial = p.node.serial; vxid = p.node.vxid; number = p.node.children }; root = p.row.root; path = p.row.path }) (sym (ap (λ (r : Row). r.serial) c_is))
    ∙ ap {B = Join} (λ (r : Row). record { child = c.row.serial; link = record { serial = r.serial; vxid = r.vxid; number = r.children }; root = p.row.root; path = p.row.path }) (sym p_is)

-- where the child can't get the parent, nothing changes
pub told_refused : (begun : ℕ) (nodes : List Node) (order : List Entry) (rows : List Row) (below above child parent : ℕ) (c : NodeAt nodes rows below) (p : NodeAt nodes rows above) → AreNodes begun nodes order rows → AreNewest nodes order child parent c.node p.node → LinksAs nodes rows below above c p None → Hold begun nodes order (with_link child parent (listed nodes order))
told_refused begun nodes order rows below above child parent c p are new none =
    let told = tells begun nodes order rows are in
    let r = link_refused begun child parent rows c.row p.row are.trees (pair_of begun nodes order rows below above child parent c p are new) (can_rows begun nodes order rows below above c p are ∙ none) in
    record { rows = rows; are = are; told = told ∙ r.told ∙ ap (with_link child parent) (sym told) }

-- where it can, it does
pub told_linked : (begun : ℕ) (old new : List Node) (order : List Entry) (rows : List Row) (below above child parent : ℕ) (c : NodeAt old rows below) (p : NodeAt old rows above) (l : Linking) → AreNodes begun old order rows → AreNewest old order child parent c.node p.node → LinksAs old rows below above c p (Some l) → AreLinked l old new → Hold begun new order (with_link child parent (listed old order))
told_linked begun old new order rows below above child parent c p l are newest_is links linked =
    let join : Join = join_of c.node p.node p.row in
    let now = nodes_after begun old new order rows l join are links.3 linked in
    let r = link_joins_rows begun child parent rows c.row p.row join are.trees (pair_of begun old order rows below above child parent c p are newest_is) (can_rows begun old order rows below above c p are ∙ links.0) (join_rows_is begun old order rows below above c p are) in
    record { rows = map (joined join) rows; are = now; told = tells begun new order (map (joined join) rows) now ∙ r.told ∙ ap (with_link child parent) (sym (tells begun old order rows are)) }
