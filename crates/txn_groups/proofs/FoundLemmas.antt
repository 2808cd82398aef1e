-- A walk up comes to the last node of a tree.
use Rattle.std.proofs.Common.{◌≡◌, ◌≢◌, ◌+◌, ◌<◌, ◌≤◌, ℕ, eqb, Some, None, List, length, refl, ap, sym, ◌∙◌, subst, arith}
use Rattle.std.specs.Prelude.{slice_get}
use Rattle.std.proofs.lemmas.List.Sums.{count_by-le-length}
use Rattle.txn_rows.specs.declared.rows.Row.{Row}
use Rattle.txn_rows.specs.Trees.{row_of}
use Rattle.txn_groups.specs.declared.node.Node.{Node}
use Rattle.txn_groups.specs.declared.order.Entry.{Entry}
use Rattle.txn_groups.specs.inside.Nodes.{StandsAt, AreNodes, HasRow}
use Rattle.txn_groups.specs.inside.Found.{IsInTreeOf, IsLastOf}

-- so many steps up a node of the same tree has more nodes than that
pub record FindsOn (nodes : List Node) (rows : List Row) (from at turns : ℕ) : Type 0 where
  pub tree : IsInTreeOf nodes rows from at
  pub more : turns < tree.other_node.size

-- the node that is read is the one that stands
pub same_node : (nodes : List Node) (at : ℕ) (x y : Node) → StandsAt nodes at x → slice_get nodes at ≡ Some y → x ≡ y
same_node nodes at x y there read = let e : Some x ≡ Some y = sym there.here ∙ read in cc

-- where a node stands, one is read
pub none_there : (nodes : List Node) (at : ℕ) (x : Node) → StandsAt nodes at x → slice_get nodes at ≡ None → ⊥
none_there nodes at x there read = let e : Some x ≡ None = sym there.here ∙ read in absurd (cc)

pub finds_first : (begun : ℕ) (nodes : List Node) (order : List Entry) (rows : List Row) (at : ℕ) (x : Node) → AreNodes begun nodes order rows → StandsAt nodes at x → FindsOn nodes rows at at 0
finds_first begun nodes order rows at x are there =
    let has : HasRow rows x = are.stand.row at x there in
    record {
      tree = record { node = x; there = there; row = has.row; found = has.found; other_node = x; other_there = there; other_row = has.row; other_found = has.found; same = refl };
      more = (are.up at x has.row there has.found).some;
    }

pub finds_none : (nodes : List Node) (rows : List Row) (from at turns : ℕ) → FindsOn nodes rows from at turns → slice_get nodes at ≡ None → ⊥
finds_none nodes rows from at turns f read = none_there nodes at f.tree.other_node f.tree.other_there read

pub finds_last : (nodes : List Node) (rows : List Row) (from at turns : ℕ) (y : Node) → FindsOn nodes rows from at turns → slice_get nodes at ≡ Some y → y.up ≡ at → IsLastOf nodes rows from at
finds_last nodes rows from at turns y f read ends = record { tree = f.tree; ends = ap (λ (n : Node). n.up) (same_node nodes at f.tree.other_node y f.tree.other_there read) ∙ ends }

pub finds_more : (begun : ℕ) (nodes : List Node) (order : List Entry) (rows : List Row) (from at turns : ℕ) (y : Node) → AreNodes begun nodes order rows → FindsOn nodes rows from at turns → slice_get nodes at ≡ Some y → y.up ≢ at → FindsOn nodes rows from y.up (turns + 1)
finds_more begun nodes order rows from at turns y are f read other =
    let same = same_node nodes at f.tree.other_node y f.tree.other_there read in
    let there : StandsAt nodes at y = subst (StandsAt nodes at) same f.tree.other_there in
    let found : row_of y.serial rows ≡ Some f.tree.other_row = subst (λ (n : Node). row_of n.serial rows ≡ Some f.tree.other_row) same f.tree.other_found in
    let up = are.up at y f.tree.other_row there found in
    record {
      tree = record { node = f.tree.node; there = f.tree.there; row = f.tree.row; found = f.tree.found; other_node = up.above; other_there = up.there; other_row = up.above_row; other_found = up.found; same = f.tree.same ∙ sym up.root };
      more = omega (arith, f.more, ap (λ (n : Node). n.size) same, up.more other);
    }

pub finds_all : (begun : ℕ) (nodes : List Node) (order : List Entry) (rows : List Row) (from at turns : ℕ) → AreNodes begun nodes order rows → FindsOn nodes rows from at turns → length rows ≤ turns → ⊥
finds_all begun nodes order rows from at turns are f few = absurd (omega (arith, few, f.more, (are.up at f.tree.other_node f.tree.other_row f.tree.other_there f.tree.other_found).few, count_by-le-length (λ (r : Row). eqb r.root f.tree.other_row.root) rows))
