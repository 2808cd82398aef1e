-- The groups of a log told at once, as a partition of its VXIDs: those that links join stand together (vsl-query(7),
-- "Grouping").
-- Nothing here goes from record to record, as a reader does. That a reader gets these groups is a law.
use Rattle.std.specs.Prelude.{◌≡◌, ◌≢◌, ℕ, zero, suc, ◌+◌, ◌==◌, ◌&&◌, ◌||◌, ◌≤◌, not, if◌then◌else◌, Bool, true, false, List, [], ◌∷◌, ◌++◌, length, map, reverse, Option, Some, None, count_by}
use Rattle.std.specs.List.{All, list_any, filter, sum_by}
use Rattle.vsl_tags.specs.Tags.{begin_tag, end_tag}
use Rattle.vsl_record.specs.declared.record_type.Record.{Record}
use Rattle.vsl_record.specs.Unit.{Log}
use Rattle.txn_rows.specs.declared.group.Grouping.{Grouping}
use Rattle.txn_rows.specs.declared.group.GroupOptions.{GroupOptions}
use Rattle.txn_rows.specs.declared.group.Kind.{Kind}
use Rattle.txn_rows.specs.declared.group.Kind.TheVariants.{Unknown}
use Rattle.txn_rows.specs.declared.group.Reason.{Reason}
use Rattle.txn_rows.specs.declared.group.Reason.TheVariants.{Other}
use Rattle.txn_rows.specs.declared.group.Member.{Member}
use Rattle.txn_rows.specs.declared.group.Group.{Group}
use Rattle.txn_rows.specs.declared.claim.Claim.{Claim}
use Rattle.txn_rows.specs.Claim.{claim_of}
use Rattle.txn_rows.specs.Links.{preorder}
use Rattle.txn_rows.specs.Grouping.{is_behind, reported}
use Rattle.txn_rows.specs.Ends.{IsEnded}
use Rattle.txn_partition.specs.LogFacts.{Entry, entries_of, records_of, has_end, Link, links_of, is_in, named, parent_of, log_time, time_named}

-- a VXID, its parent, the parent of that and so on: so many at most
abbrev pub line_up : List Link → ℕ → Option ℕ → List ℕ
line_up links zero start = []
line_up links (suc n) None = []
line_up links (suc n) (Some vxid) = vxid ∷ line_up links n (parent_of links vxid)

-- a VXID and all that are above it, the nearest first; no line is longer than the list of all that are named
abbrev pub line_from : Grouping → List Entry → ℕ → List ℕ
line_from grouping entries vxid = line_up (links_of grouping entries) (length (named grouping entries)) (Some vxid)

-- the last number of a list, or another where there is none
abbrev pub last_or : ℕ → List ℕ → ℕ
last_or other [] = other
last_or other (x ∷ xs) = last_or x xs

-- the VXID at the top of a line, to which all parents of its class lead
abbrev pub class_root : Grouping → List Entry → ℕ → ℕ
class_root grouping entries vxid = last_or vxid (line_from grouping entries vxid)

-- how many links stand before the first of a child
abbrev pub first_link : ℕ → List Link → ℕ
first_link child [] = 0
first_link child (l ∷ links) = if l.child == child then 0 else 1 + first_link child links

-- where a VXID stands in its class: the places of the first links in its line, from the top down
abbrev pub class_path : Grouping → List Entry → ℕ → List ℕ
class_path grouping entries vxid = map (λ v. first_link v (links_of grouping entries)) (reverse (line_from grouping entries vxid))

-- the class of a root: the VXIDs whose lines end there
abbrev pub class_of : Grouping → List Entry → ℕ → List ℕ
class_of grouping entries root = filter (λ vxid. class_root grouping entries vxid == root) (named grouping entries)

-- what the first Begin claims
abbrev pub begin_claim : List Record → Option Claim
begin_claim [] = None
begin_claim (rec ∷ records) = if rec.tag == begin_tag then claim_of rec.payload else begin_claim records

-- the kind that a claim tells
abbrev pub kind_told : Option Claim → Kind
kind_told None = Unknown
kind_told (Some claim) = claim.kind

-- the reason that a claim tells
abbrev pub reason_told : Option Claim → Reason
reason_told None = Other
reason_told (Some claim) = claim.reason

-- a VXID, or 0 for none
abbrev pub vxid_or_zero : Option ℕ → ℕ
vxid_or_zero None = 0
vxid_or_zero (Some vxid) = vxid

-- a VXID with all its records, as a member of its group
abbrev pub class_member : Grouping → List Entry → ℕ → Member
class_member grouping entries vxid = record {
  vxid = vxid;
  kind = kind_told (begin_claim (records_of vxid entries));
  reason = reason_told (begin_claim (records_of vxid entries));
  level = length (line_from grouping entries vxid);
  parent = vxid_or_zero (parent_of (links_of grouping entries) vxid);
  records = records_of vxid entries;
}

-- the group of a root: its class in preorder, children in the order of their first links
abbrev pub class_group : Grouping → List Entry → ℕ → Group
class_group grouping entries root =
    record {
      members = map (class_member grouping entries)
          (preorder (class_path grouping entries) (class_of grouping entries root));
    }

-- whether the class of a VXID has an End in the rest of the records
abbrev pub ends_later : Grouping → List Entry → List Entry → ℕ → Bool
ends_later grouping entries rest vxid =
    list_any (λ e. class_root grouping entries e.vxid == class_root grouping entries vxid && e.rec.tag == end_tag) rest

-- the roots of classes, in the order of the last End of each
abbrev pub ended_roots : Grouping → List Entry → List Entry → List ℕ
ended_roots grouping entries [] = []
ended_roots grouping entries (e ∷ rest) =
    if e.rec.tag == end_tag && not (ends_later grouping entries rest e.vxid)
    then class_root grouping entries e.vxid ∷ ended_roots grouping entries rest
    else ended_roots grouping entries rest

-- the groups of all classes, in the order of their last Ends
abbrev pub classes : Log → Grouping → List Group
classes log grouping = let entries = entries_of log in map (class_group grouping entries) (ended_roots grouping entries entries)

-- the partition of a log: its classes, but for those that aren't reported
abbrev pub partition : Log → Grouping → List Group
partition log grouping = reported grouping (classes log grouping)

-- the first record is a well-formed Begin, and no other is a Begin
pub record IsBegun (records : List Record) : Type 0 where
  pub first : Record
  pub later : List Record
  pub whole : records ≡ first ∷ later
  pub begin : first.tag ≡ begin_tag
  pub well_formed : claim_of first.payload ≢ None
  pub only : All (λ (rec : Record). rec.tag ≢ begin_tag) later

-- records are regular: their transactions and their links are told whole
pub record AreRegular (grouping : Grouping) (entries : List Entry) : Type 0 where
  -- each VXID that is named has records, of which the first is its only Begin, and well formed
  pub begins : (vxid : ℕ) → is_in vxid (named grouping entries) ≡ true → IsBegun (records_of vxid entries)
  -- and the last its only End
  pub ends : (vxid : ℕ) → is_in vxid (named grouping entries) ≡ true → IsEnded (records_of vxid entries)
  -- all links of one child name one parent
  pub one_parent : All (λ (l : Link). parent_of (links_of grouping entries) l.child ≡ Some l.parent)
      (links_of grouping entries)
  -- following parents never comes back to the start
  pub no_return : (child parent n : ℕ) → parent_of (links_of grouping entries) child ≡ Some parent →
      is_in child (line_up (links_of grouping entries) n (Some parent)) ≡ false
  -- where an End of a child or of its parent stands, the first link of the two stands before
  pub linked_before : (before rest : List Entry) → before ++ rest ≡ entries → (child parent : ℕ) →
      parent_of (links_of grouping entries) child ≡ Some parent →
      (has_end child before || has_end parent before) ≡ true → parent_of (links_of grouping before) child ≡ Some parent

-- a log is regular under a grouping
abbrev pub Regular : Log → Grouping → Type 0
Regular log grouping = AreRegular grouping (entries_of log)

-- records are calm: they keep within the limit and the timeout (varnishlog(1), `-L` and `-T`)
pub record AreCalm (options : GroupOptions) (entries : List Entry) : Type 0 where
  -- after each record no more than the limit are named whose class has an End to come
  pub few : (before rest : List Entry) → before ++ rest ≡ entries →
      count_by (ends_later options.grouping entries rest) (named options.grouping before) ≤ options.limit
  -- after no record before its End is the log time more than the timeout above the time of a VXID
  pub early : (before rest : List Entry) → before ++ rest ≡ entries → (vxid : ℕ) → has_end vxid rest ≡ true →
      is_behind options.timeout (time_named options.grouping entries vxid) (log_time before) ≡ false

-- a log is calm under options
abbrev pub Calm : Log → GroupOptions → Type 0
Calm log options = AreCalm options (entries_of log)

-- how often a VXID is a member of groups
abbrev pub count_vxid : ℕ → List Group → ℕ
count_vxid vxid groups = sum_by (λ (g : Group). count_by (λ (m : Member). m.vxid == vxid) g.members) groups
