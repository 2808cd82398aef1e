-- A node that begins.
use Rattle.std.specs.Prelude.{◌≡◌, ℕ, ◌⊎◌, List, [], Option, None, true, false}
use Rattle.txn_rows.specs.declared.group.Kind.TheVariants as kinds
use Rattle.txn_rows.specs.declared.group.Reason.TheVariants as reasons
use Rattle.txn_groups.specs.declared.node.Node.{Node}
use Rattle.txn_groups.specs.inside.Nodes.{StandsAt, HasKin}
use Rattle.txn_groups.specs.inside.Left.{IsRelinked, Remains}

-- a node of which no record was seen
abbrev pub fresh_node : ℕ → ℕ → ℕ → Option ℕ → Option ℕ → Node
fresh_node at serial vxid time older = record {
  stands = true;
  serial = serial;
  vxid = vxid;
  kind = kinds.Unknown;
  reason = reasons.Other;
  records = [];
  marks = [];
  parent = None;
  children = 0;
  ended = false;
  time = time;
  first = None;
  last = None;
  next = None;
  up = at;
  size = 1;
  unended = 1;
  top = at;
  older = older;
  newer = None;
}

-- a node begins at a free place, and all others stay, with other links to those of their VXID
pub record AreBegun (old new : List Node) (begun at vxid : ℕ) (time older : Option ℕ) : Type 0 where
  pub free : (x : Node) → StandsAt old at x → ⊥
  pub fresh : StandsAt new at (fresh_node at begun vxid time older)
  pub remain : (i : ℕ) (x : Node) → StandsAt old i x → Remains new i x
  pub were : (i : ℕ) (y : Node) → StandsAt new i y → ((i ≡ at) × (y ≡ fresh_node at begun vxid time older)) ⊎
      IsRelinked old i y
  pub kin : (i : ℕ) (y : Node) → StandsAt new i y → HasKin new y
