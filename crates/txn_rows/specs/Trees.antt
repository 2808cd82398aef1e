-- Rows: pending transactions that stand in trees (this project's choice).
use Rattle.std.specs.Prelude.{◌≡◌, ℕ, ◌+◌, ◌<◌, ◌≤◌, ◌==◌, ◌⊎◌, false, List, [], ◌∷◌, ◌++◌, length, drop, map, Option, Some, None, count_by}
use Rattle.std.specs.List.{HoldsAt, find}
use Rattle.txn_rows.specs.declared.rows.Row.{Row}
use Rattle.txn_rows.specs.declared.group.ParentLink.{ParentLink}
use Rattle.txn_rows.specs.Transaction.{Transaction, is_pending}
use Rattle.txn_rows.specs.Links.{leads_to}

-- a row is a transaction, with the serial number at the top of its tree and its path beside it
abbrev pub transaction_of : Row → Transaction
transaction_of row = record {
  serial = row.serial;
  vxid = row.vxid;
  kind = row.kind;
  reason = row.reason;
  records = row.records;
  parent = row.parent;
  ended = row.ended;
  time = row.time;
}

-- the row of a serial number
abbrev pub row_of : ℕ → List Row → Option Row
row_of serial rows = find (λ row. row.serial == serial) rows

-- serial numbers rise, from one on, and stay below another
abbrev pub Rising : ℕ → ℕ → List Row → Type 0
Rising low high [] = low ≤ high
Rising low high (row ∷ rows) = (low ≤ row.serial) × Rising (row.serial + 1) high rows

-- a row at the top leads to itself
pub record IsTop (row : Row) : Type 0 where
  pub none : row.parent ≡ None
  pub root : row.root ≡ row.serial
  pub path : row.path ≡ []

-- a row below another is in its tree
pub record IsBelow (rows : List Row) (row : Row) : Type 0 where
  pub link : ParentLink
  pub linked : row.parent ≡ Some link
  pub above : Row
  pub found : row_of link.serial rows ≡ Some above
  pub root : row.root ≡ above.root
  pub path : row.path ≡ above.path ++ link.number ∷ []

-- rows stand in trees: each is at the top of one or below another row, no deeper than its tree has rows, and tells how many children it has
pub record IsForest (rows : List Row) : Type 0 where
  pub linked : (serial : ℕ) (row : Row) → row_of serial rows ≡ Some row → IsTop row ⊎ IsBelow rows row
  pub shallow : (serial : ℕ) (row : Row) → row_of serial rows ≡ Some row →
      length row.path < count_by (λ r. r.root == row.root) rows
  pub counted : (serial : ℕ) (row : Row) → row_of serial rows ≡ Some row →
      row.children ≡ count_by (λ r. leads_to row.serial r.parent) rows

-- rows are in the order of their serial numbers, all below the next one, and stand in trees
pub record AreTrees (begun : ℕ) (rows : List Row) : Type 0 where
  pub rising : Rising 0 begun rows
  pub forest : IsForest rows

-- the newest row of a VXID is at this place
pub record IsNewestRow (vxid at : ℕ) (rows : List Row) : Type 0 where
  pub within : at < length rows
  pub is : HoldsAt (λ row. row.vxid ≡ vxid) rows at
  pub none_after : is_pending vxid (map transaction_of (drop (at + 1) rows)) ≡ false
