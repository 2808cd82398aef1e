-- What all records of a log tell of its VXIDs: which are named, which are their parents and what is their time
-- (vsl(7)).
use Rattle.std.specs.Prelude.{ℕ, ◌==◌, ◌&&◌, not, if◌then◌else◌, Bool, List, [], ◌∷◌, map, Option, Some, None}
use Rattle.std.specs.List.{list_any, filter, flat_map}
use Rattle.vsl_tags.specs.Tags.{timestamp_tag, begin_tag, link_tag, end_tag}
use Rattle.vsl_record.specs.declared.record_type.Record.{Record}
use Rattle.vsl_record.specs.Unit.{LogUnit, Log}
use Rattle.txn_rows.specs.declared.group.Grouping.{Grouping}
use Rattle.txn_rows.specs.declared.claim.Claim.{Claim}
use Rattle.txn_rows.specs.Claim.{claim_of}
use Rattle.txn_rows.specs.Time.{time_of}
use Rattle.txn_rows.specs.Grouping.{gives_parent, raised, first_known}

-- a record of a log, with its VXID
pub record Entry : Type 0 where
  pub vxid : ℕ
  pub rec : Record

-- the records of a unit; those of VXID 0 are of no transaction
abbrev pub unit_entries : LogUnit → List Entry
unit_entries u = if u.vxid == 0 then [] else map (λ rec. record { vxid = u.vxid; rec = rec }) u.records

-- the records of a log, in its order
abbrev pub entries_of : Log → List Entry
entries_of log = flat_map unit_entries log

-- the records of a VXID
abbrev pub records_of : ℕ → List Entry → List Record
records_of vxid entries = map (λ e. e.rec) (filter (λ e. e.vxid == vxid) entries)

-- whether a VXID has an End there
abbrev pub has_end : ℕ → List Entry → Bool
has_end vxid entries = list_any (λ e. e.vxid == vxid && e.rec.tag == end_tag) entries

-- a link: a child and its parent
pub record Link : Type 0 where
  pub child : ℕ
  pub parent : ℕ

-- a Begin names the parent of its VXID
abbrev pub parent_named : Grouping → ℕ → Option Claim → List Link
parent_named grouping vxid None = []
parent_named grouping vxid (Some claim) = if gives_parent grouping claim then
    record { child = vxid; parent = claim.vxid } ∷ [] else []

-- a Link names a child of its VXID
abbrev pub child_named : Grouping → ℕ → Option Claim → List Link
child_named grouping vxid None = []
child_named grouping vxid (Some claim) = if gives_parent grouping claim then
    record { child = claim.vxid; parent = vxid } ∷ [] else []

-- the link that a record makes, if it is a well-formed Begin or Link that gives a parent under this grouping
abbrev pub links_in : Grouping → Entry → List Link
links_in grouping e =
    if e.rec.tag == begin_tag then parent_named grouping e.vxid (claim_of e.rec.payload) else
    (if e.rec.tag == link_tag then child_named grouping e.vxid (claim_of e.rec.payload) else [])

-- the links that records make, in their order
abbrev pub links_of : Grouping → List Entry → List Link
links_of grouping entries = flat_map (links_in grouping) entries

-- whether a number stands in a list
abbrev pub is_in : ℕ → List ℕ → Bool
is_in x xs = list_any (λ y. y == x) xs

-- the numbers of a list, each once, where it stands first
abbrev pub each_once : List ℕ → List ℕ
each_once [] = []
each_once (x ∷ xs) = x ∷ filter (λ y. not (y == x)) (each_once xs)

-- the VXIDs that a record names: its own, and those of its link
abbrev pub names_in : Grouping → Entry → List ℕ
names_in grouping e = e.vxid ∷ flat_map (λ l. l.child ∷ l.parent ∷ []) (links_in grouping e)

-- the VXIDs that are named, each once, in the order in which they first are
abbrev pub named : Grouping → List Entry → List ℕ
named grouping entries = each_once (flat_map (names_in grouping) entries)

-- the parent of a VXID: the one that the first link of this child names
abbrev pub parent_of : List Link → ℕ → Option ℕ
parent_of [] child = None
parent_of (l ∷ links) child = if l.child == child then Some l.parent else parent_of links child

-- what a record tells of the time
abbrev pub time_told : Entry → Option ℕ
time_told e = if e.rec.tag == timestamp_tag then time_of e.rec.payload else None

-- the log time after records: the highest that they tell
abbrev pub log_time : List Entry → Option ℕ
log_time [] = None
log_time (e ∷ entries) = raised (time_told e) (log_time entries)

-- the first time that records tell
abbrev pub first_time : List Entry → Option ℕ
first_time [] = None
first_time (e ∷ entries) = first_known (time_told e) (first_time entries)

-- the records before the first that names a VXID
abbrev pub before_named : Grouping → ℕ → List Entry → List Entry
before_named grouping vxid [] = []
before_named grouping vxid (e ∷ entries) = if is_in vxid (names_in grouping e) then []
    else e ∷ before_named grouping vxid entries

-- the time of a VXID: the log time when it is first named, or else the first that is known
abbrev pub time_named : Grouping → List Entry → ℕ → Option ℕ
time_named grouping entries vxid = first_known (log_time (before_named grouping vxid entries)) (first_time entries)
