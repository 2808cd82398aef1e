-- A claim on the newest nodes of two VXIDs.
use Rattle.std.proofs.Common.{◌≡◌, ◌+◌, ◌≤◌, ℕ, eqb, cond, Option, Some, None, List, length, map, refl, ap, sym, ◌∙◌, subst, arith}
use Rattle.std.specs.Prelude.{slice_get}
use Rattle.std.specs.Option.{option_map}
use Rattle.std.proofs.lemmas.Bool.{eqb-true}
use Rattle.txn_rows.specs.declared.rows.Row.{Row}
use Rattle.txn_rows.specs.declared.join.Join.{Join}
use Rattle.txn_rows.specs.Transaction.{Transaction}
use Rattle.txn_rows.specs.Grouping.{State}
use Rattle.txn_rows.specs.Links.{with_link}
use Rattle.txn_rows.specs.inside.Rows.{joined}
use Rattle.txn_groups.specs.declared.link.Linking.{Linking}
use Rattle.txn_groups.specs.declared.node.Node.{Node}
use Rattle.txn_groups.specs.declared.order.Entry.{Entry}
use Rattle.txn_groups.specs.declared.pending.Pending.{Pending}
use Rattle.txn_groups.specs.inside.Nodes.{HasRow, AreNodes, Hold, listed}
use Rattle.txn_groups.specs.inside.Linked.{linked_node, joined_node, AreLinked, AreJoined, CanLink, NodeAt}
use Rattle.txn_groups.specs.inside.Claimed.{LinksAs, join_of}
use Rattle.txn_groups.specs.inside.Indexed.{newest_in}
use Rattle.txn_groups.specs.inside.Held.{state_of, IsHeld, HoldsRows, Went}
use Rattle.txn_rows.proofs.LineLemmas.{by_cases}
use Rattle.txn_groups.proofs.FoundLemmas.{same_node}
use Rattle.txn_groups.proofs.IndexLemmas.{NewestNode, newest_at}
use Rattle.txn_groups.proofs.UpLemmas.{nodes_after}
use Rattle.txn_groups.proofs.TellLemmas.{told_refused, told_linked}
use Rattle.txn_groups.proofs.HeldLemmas.{KeepsNames, hold_still}

linked_names : (l : Linking) → KeepsNames (linked_node l)
linked_names l = record { stands = λ at x. refl; serial = λ at x. refl; vxid = λ at x. refl }

-- the newest node of a VXID, and its row
abbrev newest_row : (v at : ℕ) (p : Pending) (held : IsHeld p) → newest_in p.index v ≡ Some at → NewestNode p.nodes.items p.order.items v at
newest_row v at p held told = newest_at p.begun p.nodes.items p.order.items held.stand v at (newest_in p.index v) held.are (held.index v) told

abbrev row_at : (v at : ℕ) (p : Pending) (held : IsHeld p) → NewestNode p.nodes.items p.order.items v at → NodeAt p.nodes.items held.stand at
row_at v at p held n = let has : HasRow held.stand n.node = held.are.stand.row at n.node n.there in record { node = n.node; there = n.there; row = has.row; found = has.found }

-- what a reading of a claim says
abbrev pub Reads : Pending → ℕ → ℕ → Option Linking → Type 0
Reads p below above o = (begun : ℕ) (order : List Entry) (rows : List Row) (c : NodeAt p.nodes.items rows below) (q : NodeAt p.nodes.items rows above) → AreNodes begun p.nodes.items order rows → length rows ≤ p.rows → LinksAs p.nodes.items rows below above c q o

-- where the join tells how many children the parent has from then on
same_joined : (l : Linking) (at : ℕ) (o : Option Node) → ((x : Node) → o ≡ Some x → cond (eqb at l.above) l.children x.children ≡ cond (eqb at l.above) (x.children + 1) x.children) → option_map (joined_node l at) o ≡ option_map (linked_node l at) o
same_joined l at None same = refl
same_joined l at (Some x) same = ap {B = Option Node} (λ (k : ℕ). Some (record (linked_node l at x) { children = k })) (same x refl)

linked_of : (l : Linking) (old new : List Node) (rows : List Row) (join : Join) → CanLink old rows l join → AreJoined l old new → AreLinked l old new
linked_of l old new rows join can all = λ at. all at ∙ same_joined l at (slice_get old at) (λ x read.
    by_cases (cond (eqb at l.above) l.children x.children ≡ cond (eqb at l.above) (x.children + 1) x.children) (eqb at l.above)
    (λ t.
    let same : can.parent.node ≡ x = same_node old l.above can.parent.node x can.parent.there (ap (slice_get old) (sym (eqb-true at l.above t)) ∙ read) in
    rw t (can.children ∙ ap (λ (n : Node). n.children + 1) same))
    (λ t. rw t refl))

-- no link is made
pub refused_went : (child parent below above : ℕ) (p : Pending) (o : Option Linking) → IsHeld p → newest_in p.index child ≡ Some below → newest_in p.index parent ≡ Some above → Reads p below above o → o ≡ None → Went (record (state_of p) { pending = with_link child parent (listed p.nodes.items p.order.items) }) p
refused_went child parent below above p o held c_told p_told reads is =
    let c = newest_row child below p held c_told in
    let q = newest_row parent above p held p_told in
    let cn : NodeAt p.nodes.items held.stand below = row_at child below p held c in
    let qn : NodeAt p.nodes.items held.stand above = row_at parent above p held q in
    let links = subst (LinksAs p.nodes.items held.stand below above cn qn) is (reads p.begun p.order.items held.stand cn qn held.are (omega (arith, held.counted))) in
    let hold : Hold p.begun p.nodes.items p.order.items (with_link child parent (listed p.nodes.items p.order.items)) = told_refused p.begun p.nodes.items p.order.items held.stand below above child parent cn qn held.are (record { child_is = c.newest.newest; parent_is = q.newest.newest; vxid = c.vxid }) links in
    record { kept = held; told = ap {B = State} (λ (ts : List Transaction). record (state_of p) { pending = ts }) hold.told }

-- a link is made
pub linked_went : (child parent below above : ℕ) (p m : Pending) (o : Option Linking) (l : Linking) → IsHeld p → newest_in p.index child ≡ Some below → newest_in p.index parent ≡ Some above → Reads p below above o → o ≡ Some l → AreJoined l p.nodes.items m.nodes.items →
    m.order.items ≡ p.order.items → m.begun ≡ p.begun → m.index ≡ p.index → m.free ≡ p.free → m.rows ≡ p.rows → m.time ≡ p.time → Went (record (state_of p) { pending = with_link child parent (listed p.nodes.items p.order.items) }) m
linked_went child parent below above p m o l held c_told p_told reads is now_joined order_is begun_is index_is free_is rows_is time_is =
    let old = p.nodes.items in
    let new = m.nodes.items in
    let rows : List Row = held.stand in
    let c = newest_row child below p held c_told in
    let q = newest_row parent above p held p_told in
    let cn : NodeAt old rows below = row_at child below p held c in
    let qn : NodeAt old rows above = row_at parent above p held q in
    let links = subst (LinksAs old rows below above cn qn) is (reads p.begun p.order.items rows cn qn held.are (omega (arith, held.counted))) in
    let join : Join = join_of cn.node qn.node qn.row in
    let linked : AreLinked l old new = linked_of l old new rows join links.3 now_joined in
    let now : List Row = map (joined join) rows in
    let are : AreNodes p.begun new p.order.items now = nodes_after p.begun old new p.order.items rows l join held.are links.3 linked in
    let hold : Hold p.begun new p.order.items (with_link child parent (listed old p.order.items)) = told_linked p.begun old new p.order.items rows below above child parent cn qn l held.are (record { child_is = c.newest.newest; parent_is = q.newest.newest; vxid = c.vxid }) links linked in
    let held_now : HoldsRows m now = hold_still (linked_node l) (joined join) p m rows (linked_names l) (record { are = held.are; index = held.index; free = held.free; counted = held.counted }) are linked order_is begun_is index_is free_is rows_is in
    record {
      kept = record { stand = now; are = held_now.are; index = held_now.index; free = held_now.free; counted = held_now.counted };
      told = ap {B = State} (λ (e : List Entry). record { pending = listed new e; begun = m.begun; time = m.time }) order_is
          ∙ ap {B = State} (λ (b : ℕ). record { pending = listed new p.order.items; begun = b; time = m.time }) begun_is
          ∙ ap {B = State} (λ (t : Option ℕ). record { pending = listed new p.order.items; begun = p.begun; time = t }) time_is
          ∙ ap {B = State} (λ (ts : List Transaction). record (state_of p) { pending = ts }) hold.told;
    }
