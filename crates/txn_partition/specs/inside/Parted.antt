-- What is pending after a part of a regular and calm log, told at once.
use Rattle.std.specs.Prelude.{ℕ, ◌+◌, ◌==◌, ◌&&◌, if◌then◌else◌, Bool, false, List, [], ◌∷◌, ◌++◌, length, map, reverse, Option, Some, None, count_by}
use Rattle.std.specs.List.{list_any, filter, flat_map}
use Rattle.vsl_tags.specs.Tags.{end_tag}
use Rattle.txn_rows.specs.declared.group.Grouping.{Grouping}
use Rattle.txn_rows.specs.declared.group.ParentLink.{ParentLink}
use Rattle.txn_rows.specs.Transaction.{Transaction}
use Rattle.txn_rows.specs.Grouping.{State}
use Rattle.txn_partition.specs.LogFacts.{Entry, Link, is_in, records_of, has_end, links_of, named, parent_of, log_time, time_named}
use Rattle.txn_partition.specs.Partition.{line_from, begin_claim, kind_told, reason_told, ends_later}

-- a list, and behind it more numbers, each once, where it stands first
abbrev pub with_new_ones : List ℕ → List ℕ → List ℕ
with_new_ones xs [] = xs
with_new_ones xs (y ∷ ys) = with_new_ones (if is_in y xs then xs else xs ++ y ∷ []) ys

-- whether an End of a class stands there
abbrev pub class_ends : (ℕ → ℕ) → ℕ → List Entry → Bool
class_ends root r entries = list_any (λ e. root e.vxid == r && e.rec.tag == end_tag) entries

-- how many numbers stand before one where it stands first
abbrev pub place : ℕ → List ℕ → ℕ
place x [] = 0
place x (y ∷ xs) = if y == x then 0 else 1 + place x xs

-- the links before the first of a child
abbrev pub links_before : ℕ → List Link → List Link
links_before child [] = []
links_before child (l ∷ links) = if l.child == child then [] else l ∷ links_before child links

-- whether this is the parent
abbrev pub is_parent : ℕ → Option ℕ → Bool
is_parent vxid None = false
is_parent vxid (Some parent) = parent == vxid

-- how many of these have the parent by these links
abbrev pub count_children : List Link → ℕ → List ℕ → ℕ
count_children links parent vxids = count_by (λ vxid. is_parent parent (parent_of links vxid)) vxids

-- which child of its parent a VXID is: how many had this parent before its first link
abbrev pub number_under : Grouping → List Entry → ℕ → Option ℕ → List ℕ
number_under grouping entries child None = []
number_under grouping entries child (Some parent) =
    count_children (links_before child (links_of grouping entries)) parent (named grouping entries) ∷ []

-- where a VXID stands in its class, by these numbers
abbrev pub numbered_path : Grouping → List Entry → ℕ → List ℕ
numbered_path grouping entries vxid =
    flat_map (λ v. number_under grouping entries v (parent_of (links_of grouping entries) v))
    (reverse (line_from grouping entries vxid))

-- the link of a VXID to its parent
abbrev pub parent_link : Grouping → List Entry → ℕ → Option ℕ → Option ParentLink
parent_link grouping all vxid None = None
parent_link grouping all vxid (Some parent) =
    Some (record {
      serial = place parent (named grouping all);
      vxid = parent;
      number = count_children (links_before vxid (links_of grouping all)) parent (named grouping all);
    })

-- a time, where the log time is known
abbrev pub where_known : Option ℕ → Option ℕ → Option ℕ
where_known None time = None
where_known (Some now) time = time

-- the transaction of a VXID after a part of all records
abbrev pub transaction_at : Grouping → List Entry → List Entry → ℕ → Transaction
transaction_at grouping all before vxid = record {
  serial = place vxid (named grouping all);
  vxid = vxid;
  kind = kind_told (begin_claim (records_of vxid before));
  reason = reason_told (begin_claim (records_of vxid before));
  records = records_of vxid before;
  parent = parent_link grouping all vxid (parent_of (links_of grouping before) vxid);
  ended = has_end vxid before;
  time = where_known (log_time before) (time_named grouping all vxid);
}

-- the VXIDs that are named in a part, of whose classes an End is to come
abbrev pub open_names : Grouping → List Entry → List Entry → List Entry → List ℕ
open_names grouping all before rest = filter (ends_later grouping all rest) (named grouping before)

-- the state after a part, before the rest
abbrev pub state_at : Grouping → List Entry → List Entry → List Entry → State
state_at grouping all before rest = record {
  pending = map (transaction_at grouping all before) (open_names grouping all before rest);
  begun = length (named grouping before);
  time = log_time before;
}
