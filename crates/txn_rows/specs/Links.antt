-- Parents and children among pending transactions (vsl(7), "Begin" and "Link"; vsl-query(7), "Grouping").
use Rattle.std.specs.Prelude.{ℕ, zero, suc, ◌==◌, ◌&&◌, not, nat_lt, if◌then◌else◌, Bool, true, false, List, [], ◌∷◌, length, map, reverse, Option, Some, None, is_none, count_by}
use Rattle.std.specs.List.{list_any, filter, find, flat_map}
use Rattle.txn_rows.specs.declared.group.ParentLink.{ParentLink}
use Rattle.txn_rows.specs.declared.group.Member.{Member}
use Rattle.txn_rows.specs.declared.group.Group.{Group}
use Rattle.txn_rows.specs.Transaction.{Transaction, newest, with_newest}

-- the pending transaction of a serial number
abbrev pub of_serial : ℕ → List Transaction → Option Transaction
of_serial serial pending = find (λ t. t.serial == serial) pending

-- the transaction to which a link leads
abbrev pub linked : Option ParentLink → List Transaction → Option Transaction
linked None pending = None
linked (Some link) pending = of_serial link.serial pending

-- a transaction, its parent, the parent of that and so on, up to one without a parent: so many at most
abbrev pub line : ℕ → List Transaction → Option Transaction → List Transaction
line zero pending t = []
line (suc n) pending None = []
line (suc n) pending (Some t) = t ∷ line n pending (linked t.parent pending)

-- a transaction and all that are above it, the nearest first; no line is longer than the list of all
abbrev pub line_of : List Transaction → Transaction → List Transaction
line_of pending t = line (length pending) pending (Some t)

-- the last of transactions, or another where there are none
abbrev pub last_of : Transaction → List Transaction → Transaction
last_of other [] = other
last_of other (t ∷ ts) = last_of t ts

-- the transaction at the top: the one above this that has no parent
abbrev pub root_of : List Transaction → Transaction → Transaction
root_of pending t = last_of t (line_of pending t)

-- whether a transaction is another or above it
abbrev pub is_in_line : List Transaction → Transaction → Transaction → Bool
is_in_line pending t below = list_any (λ u. u.serial == t.serial) (line_of pending below)

-- whether a link leads to a serial number
abbrev pub leads_to : ℕ → Option ParentLink → Bool
leads_to serial None = false
leads_to serial (Some link) = link.serial == serial

-- how many children a transaction has
abbrev pub children : List Transaction → Transaction → ℕ
children pending t = count_by (λ u. leads_to t.serial u.parent) pending

-- a transaction can get a parent: it has none, has not ended, and is neither the parent itself nor above it. So no
-- child is taken from its parent, a group that is complete never grows, and no parents go in a circle (this project's
-- choice)
abbrev pub can_join : List Transaction → Transaction → Transaction → Bool
can_join pending child parent = is_none child.parent && not child.ended && not (is_in_line pending child parent)

-- one transaction gets another as its parent, where it can; else nothing changes
abbrev pub with_parent : Option Transaction → Option Transaction → List Transaction → List Transaction
with_parent None parent pending = pending
with_parent (Some child) None pending = pending
with_parent (Some child) (Some parent) pending =
    if can_join pending child parent
    then with_newest child.vxid
    (λ t. record t {
      parent =
          Some (record { serial = parent.serial; vxid = parent.vxid; number = children pending parent });
    }) pending
    else pending

-- the newest transaction of the first VXID becomes a child of the newest of the second
abbrev pub with_link : ℕ → ℕ → List Transaction → List Transaction
with_link child parent pending = with_parent (newest child pending) (newest parent pending) pending

-- all transactions of the tree at whose top this one stands
abbrev pub tree_of : List Transaction → Transaction → List Transaction
tree_of pending root = filter (λ t. (root_of pending t).serial == root.serial) pending

-- all transactions of the other trees
abbrev pub others : List Transaction → Transaction → List Transaction
others pending root = filter (λ t. not ((root_of pending t).serial == root.serial)) pending

-- the number of a link, where there is one
abbrev pub link_number : Option ParentLink → List ℕ
link_number None = []
link_number (Some link) = link.number ∷ []

-- how many children its parent had before it, where it has a parent. That orders children as numbers of all claims
-- would, and no count has to be kept (this project's choice)
abbrev pub number_of : Transaction → List ℕ
number_of t = link_number t.parent

-- where a transaction stands in its tree, like the number of a section: at each level which child it is, from the top down
abbrev pub path_of : List Transaction → Transaction → List ℕ
path_of pending t = flat_map number_of (reverse (line_of pending t))

-- whether one path is not after another: it begins the other, or is less at the first difference
abbrev pub is_path_before : List ℕ → List ℕ → Bool
is_path_before [] ys = true
is_path_before (x ∷ xs) [] = false
is_path_before (x ∷ xs) (y ∷ ys) = if x == y then is_path_before xs ys else nat_lt x y

-- a transaction, or what has a path too, is put among others that are in preorder
abbrev pub placed : {X : Type 0} → (X → List ℕ) → X → List X → List X
placed path t [] = t ∷ []
placed path t (u ∷ ts) = if is_path_before (path t) (path u) then t ∷ u ∷ ts else u ∷ placed path t ts

-- transactions in preorder, children in the order in which they got their parent: sorted by their paths. Sorting is the
-- definition, because it plainly keeps every transaction once; that it is the walk is a law (this project's choice)
abbrev pub preorder : {X : Type 0} → (X → List ℕ) → List X → List X
preorder path [] = []
preorder path (t ∷ ts) = placed path t (preorder path ts)

-- the VXID of the parent, or 0
abbrev pub parent_vxid : Option ParentLink → ℕ
parent_vxid None = 0
parent_vxid (Some link) = link.vxid

-- a transaction that stands at a level, as a member of its group
abbrev pub member_at : ℕ → Transaction → Member
member_at level t = record {
  vxid = t.vxid;
  kind = t.kind;
  reason = t.reason;
  level = level;
  parent = parent_vxid t.parent;
  records = t.records;
}

-- a transaction as a member of its group. One rule tells levels: so a restarted request stands one level below the one
-- before, as a retry of a fetch does, where vsl-query(7) leaves its level as it was (this project's choice)
abbrev pub member_of : List Transaction → Transaction → Member
member_of pending t = member_at (length (line_of pending t)) t

-- the group of a tree
abbrev pub group_of : List Transaction → Transaction → Group
group_of pending root = record { members = map (member_of pending) (preorder (path_of pending) (tree_of pending root)) }
