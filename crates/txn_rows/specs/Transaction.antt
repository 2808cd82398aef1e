-- Pending transactions, and the rules by which a record changes one of them. Each rule is a function of the whole
-- list, in the order in which transactions began, and asks its questions by a search.
use Rattle.std.specs.Prelude.{ℕ, ◌==◌, ◌&&◌, not, if◌then◌else◌, Bool, true, false, List, [], ◌∷◌, ◌++◌, Option, Some, None, codes}
use Rattle.std.specs.List.{list_any, find}
use Rattle.vsl_tags.specs.Tags.{begin_tag, end_tag, vsl_tag}
use Rattle.vsl_record.specs.declared.mark.Mark.{Mark}
use Rattle.vsl_record.specs.declared.mark.Mark.TheVariants.{Plain}
use Rattle.vsl_record.specs.declared.record_type.Record.{Record}
use Rattle.txn_rows.specs.declared.group.Kind.{Kind}
use Rattle.txn_rows.specs.declared.group.Kind.TheVariants as kinds
use Rattle.txn_rows.specs.declared.group.Reason.{Reason}
use Rattle.txn_rows.specs.declared.group.Reason.TheVariants.{Other}
use Rattle.txn_rows.specs.declared.group.Cause.{Cause}
use Rattle.txn_rows.specs.declared.group.Cause.TheVariants.{Overflow, Timeout, Flush}
use Rattle.txn_rows.specs.declared.group.ParentLink.{ParentLink}
use Rattle.txn_rows.specs.declared.claim.Claim.{Claim}
use Rattle.txn_rows.specs.Claim.{claim_of}

-- a pending transaction
pub record Transaction : Type 0 where
  -- how many transactions began before it
  pub serial : ℕ
  pub vxid : ℕ
  pub kind : Kind
  pub reason : Reason
  pub records : List Record
  -- the parent, and how many children that had before
  pub parent : Option ParentLink
  -- whether its End was seen, or it was force-completed
  pub ended : Bool
  -- the log time when it began, in units of 10^-18 seconds
  pub time : Option ℕ

-- a transaction of which no record was seen
abbrev pub empty_transaction : ℕ → ℕ → Option ℕ → Transaction
empty_transaction serial vxid time =
    record {
      serial = serial;
      vxid = vxid;
      kind = kinds.Unknown;
      reason = Other;
      records = [];
      parent = None;
      ended = false;
      time = time;
    }

-- whether a transaction of this VXID is pending
abbrev pub is_pending : ℕ → List Transaction → Bool
is_pending vxid pending = list_any (λ t. t.vxid == vxid) pending

-- the newest transaction of this VXID, where one is pending
abbrev pub newest : ℕ → List Transaction → Option Transaction
newest vxid [] = None
newest vxid (t ∷ pending) = if is_pending vxid pending then newest vxid pending
    else (if t.vxid == vxid then Some t else None)

-- whether the newest transaction of this VXID is there and has not ended
abbrev pub is_open : ℕ → List Transaction → Bool
is_open vxid [] = false
is_open vxid (t ∷ pending) = if is_pending vxid pending then is_open vxid pending else ((t.vxid == vxid) && not t.ended)

-- the newest transaction of this VXID is changed, and all others stay
abbrev pub with_newest : ℕ → (Transaction → Transaction) → List Transaction → List Transaction
with_newest vxid change [] = []
with_newest vxid change (t ∷ pending) =
    if is_pending vxid pending then t ∷ with_newest vxid change pending
    else (if t.vxid == vxid then change t ∷ pending else t ∷ pending)

-- a transaction with a record at its end
abbrev pub longer : Record → Transaction → Transaction
longer rec t = record t { records = t.records ++ rec ∷ [] }

-- a transaction with records at its end
abbrev pub longer_by : List Record → Transaction → Transaction
longer_by records t = record t { records = t.records ++ records }

-- a record goes to the newest transaction of its VXID
abbrev pub with_record : ℕ → Record → List Transaction → List Transaction
with_record vxid rec pending = with_newest vxid (longer rec) pending

-- whether a kind is not known
abbrev pub is_unknown : Kind → Bool
is_unknown kinds.Unknown = true
is_unknown kind = false

-- a claim gives a transaction of unknown kind its kind and reason; it changes no other
abbrev pub claimed_kind : Option Claim → Transaction → Transaction
claimed_kind None t = t
claimed_kind (Some claim) t = if is_unknown t.kind then record t { kind = claim.kind; reason = claim.reason } else t

-- a well-formed Begin gives a transaction of unknown kind its kind and reason (vsl(7), "Begin")
abbrev pub with_kind : ℕ → Record → List Transaction → List Transaction
with_kind vxid rec pending = if rec.tag == begin_tag then with_newest vxid (claimed_kind (claim_of rec.payload)) pending
    else pending

-- a transaction has ended (vsl(7), "End")
abbrev pub ended : Transaction → Transaction
ended t = record t { ended = true }

-- the text of a cause (this project's choice)
abbrev pub cause_text : Cause → List ℕ
cause_text Overflow = codes "store overflow"
cause_text Timeout = codes "timeout"
cause_text Flush = codes "flush"

-- the mark of a transaction's first record, or none
abbrev pub first_mark : List Record → Mark
first_mark [] = Plain
first_mark (rec ∷ records) = rec.mark

-- a transaction is force-completed: it gets a VSL record with the cause and an End `synth`, and has ended (varnishlog(1); texts are this project's choice)
abbrev pub forced : Cause → Transaction → Transaction
forced cause t = record t {
  records = t.records ++ record { tag = vsl_tag; mark = first_mark t.records; payload = cause_text cause } ∷ record { tag = end_tag; mark = first_mark t.records; payload = codes "synth" } ∷ [];
  ended = true;
}

-- the oldest transaction that passes a test, where there is one
abbrev pub oldest : (Transaction → Bool) → List Transaction → Option Transaction
oldest test pending = find test pending

-- the oldest transaction that passes a test is changed, and all others stay
abbrev pub with_oldest : (Transaction → Bool) → (Transaction → Transaction) → List Transaction → List Transaction
with_oldest test change [] = []
with_oldest test change (t ∷ pending) = if test t then change t ∷ pending else t ∷ with_oldest test change pending
