-- The rows of a table as pending transactions.
use Rattle.std.specs.Prelude.{◌≡◌, ℕ, ◌+◌, ◌<◌, ◌==◌, if◌then◌else◌, Bool, true, false, List, [], ◌∷◌, ◌++◌, length, take, map, not, ⊤, Some}
use Rattle.std.specs.List.{HoldsAt, filter, list_all, list_any}
use Rattle.vsl_record.specs.declared.record_type.Record.{Record}
use Rattle.txn_rows.specs.declared.rows.Row.{Row}
use Rattle.txn_rows.specs.declared.join.Join.{Join}
use Rattle.txn_rows.specs.declared.group.Member.{Member}
use Rattle.txn_rows.specs.declared.group.Group.{Group}
use Rattle.txn_rows.specs.Claim.{own_claim}
use Rattle.txn_rows.specs.Transaction.{Transaction, longer, claimed_kind}
use Rattle.txn_rows.specs.Links.{preorder, member_at}
use Rattle.txn_rows.specs.declared.group.Grouping.{Grouping}
use Rattle.txn_rows.specs.Grouping.{reported}
use Rattle.txn_rows.specs.Trees.{transaction_of, AreTrees}

-- a row tells its transaction, changed, in its own place
abbrev pub row_told : (Transaction → Transaction) → Row → Row
row_told change row =
    let t : Transaction = change (transaction_of row) in
    record row { vxid = t.vxid; kind = t.kind; reason = t.reason; records = t.records; ended = t.ended; time = t.time }

-- a transaction with a record at its end, of which it takes the claim if that is a Begin
abbrev pub with_one : Record → Transaction → Transaction
with_one rec t = claimed_kind (own_claim rec) (longer rec t)

-- the fact holds of each row
abbrev pub Each : (Row → Type 0) → List Row → Type 0
Each P [] = ⊤
Each P (row ∷ rows) = P row × Each P rows

-- the rows of a tree, by the serial number at its top
abbrev pub rows_below : ℕ → List Row → List Row
rows_below root rows = filter (λ row. row.root == root) rows

-- the rows of the other trees
abbrev pub rows_beside : ℕ → List Row → List Row
rows_beside root rows = filter (λ row. not (row.root == root)) rows

-- rows in preorder
abbrev pub rows_in_preorder : List Row → List Row
rows_in_preorder rows = preorder (λ (row : Row). row.path) rows

-- a row as a member of its group
abbrev pub member_of_row : Row → Member
member_of_row row = member_at (length row.path + 1) (transaction_of row)

-- a row after a tree was joined to a parent: the rows of the tree move below the parent, the first gets the link, and the parent has one child more
abbrev pub joined : Join → Row → Row
joined join row = record row {
  root = if row.root == join.child then join.root else row.root;
  path = if row.root == join.child then join.path ++ join.link.number ∷ row.path else row.path;
  parent = if row.serial == join.child then Some join.link else row.parent;
  children = if row.serial == join.link.serial then row.children + 1 else row.children;
}

-- the rows are those of these transactions, and stand in trees
pub record Rows (begun : ℕ) (pending : List Transaction) (rows : List Row) : Type 0 where
  pub trees : AreTrees begun rows
  pub told : map transaction_of rows ≡ pending

-- rows, and the groups that left
pub record RowsLeft : Type 0 where
  pub rows : List Row
  pub groups : List Group

-- where all rows of a tree have ended, they leave as a group
abbrev pub left_rows : ℕ → List Row → RowsLeft
left_rows root rows =
    if list_all (λ row. row.ended) (rows_below root rows)
    then record {
      rows = rows_beside root rows;
      groups = record { members = map member_of_row (rows_in_preorder (rows_below root rows)) } ∷ [];
    }
    else record { rows = rows; groups = [] }

-- the rows are those, and of the groups those that are reported were added to the list
pub record LeftRows (grouping : Grouping) (left : RowsLeft) (now : List Row) (out_before out_now : List Group) : Type 0 where
  pub rows : now ≡ left.rows
  pub groups : out_now ≡ out_before ++ reported grouping left.groups

-- the oldest row that passes a test is at this place
pub record IsOldestRow (test : Transaction → Bool) (at : ℕ) (rows : List Row) : Type 0 where
  pub within : at < length rows
  pub passes : HoldsAt (λ row. test (transaction_of row) ≡ true) rows at
  pub none_before : list_any test (map transaction_of (take at rows)) ≡ false
