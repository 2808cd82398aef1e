-- What an index tells of nodes.
use Rattle.std.specs.Prelude.{◌≡◌, ℕ, ◌==◌, if◌then◌else◌, List, Option, Some, None, nat_eq}
use Rattle.std.specs.HashMap.{get}
use Rattle.txn_groups.specs.declared.index.Index.{Index}
use Rattle.txn_groups.specs.declared.node.Node.{Node}
use Rattle.txn_groups.specs.inside.Kin.{IsNewestOf}

-- the place that an index tells of a VXID
abbrev pub newest_in : Index → ℕ → Option ℕ
newest_in index vxid = get nat_eq index.places vxid

-- an index tells another place of one VXID, or none, and of all others what it told
abbrev pub IsUpdated : Index → Index → ℕ → Option ℕ → Type 0
IsUpdated old new vxid place = (v : ℕ) → newest_in new v ≡ (if vxid == v then place else newest_in old v)

-- an index tells the newest node of each VXID
abbrev pub IsIndex : List Node → Index → Type 0
IsIndex nodes index = (vxid : ℕ) → IsNewestOf nodes vxid (newest_in index vxid)

-- an index after the node between two others was taken out of those of its VXID
abbrev pub IsOutOfIndex : Index → Index → ℕ → Option ℕ → Option ℕ → Type 0
IsOutOfIndex old new vxid older None = IsUpdated old new vxid older
IsOutOfIndex old new vxid older (Some newer) = (v : ℕ) → newest_in new v ≡ newest_in old v
