-- A transaction of which all records are taken at once (this project's choice).
use Rattle.std.specs.Prelude.{ℕ, ◌+◌, false, List, [], ◌∷◌, ◌++◌, Option, Some, None}
use Rattle.vsl_record.specs.declared.record_type.Record.{Record}
use Rattle.txn_rows.specs.declared.claim.Claim.{Claim}
use Rattle.txn_rows.specs.declared.group.Kind.{Kind}
use Rattle.txn_rows.specs.declared.group.Kind.TheVariants as kinds
use Rattle.txn_rows.specs.declared.group.Reason.{Reason}
use Rattle.txn_rows.specs.declared.group.Reason.TheVariants.{Other}
use Rattle.txn_rows.specs.declared.group.Group.{Group}
use Rattle.txn_rows.specs.Claim.{claim_of}
use Rattle.txn_rows.specs.Transaction.{Transaction}
use Rattle.txn_rows.specs.Links.{member_at}
use Rattle.txn_rows.specs.Grouping.{State}

-- what the first of records claims
abbrev pub first_claim : List Record → Option Claim
first_claim [] = None
first_claim (rec ∷ records) = claim_of rec.payload

-- what a transaction is that claims this
abbrev pub kind_claimed : Option Claim → Kind
kind_claimed None = kinds.Unknown
kind_claimed (Some claim) = claim.kind

-- why it began
abbrev pub reason_claimed : Option Claim → Reason
reason_claimed None = Other
reason_claimed (Some claim) = claim.reason

-- a transaction that has these records, the first of which claims what it is, and has not ended
abbrev pub whole_transaction : ℕ → ℕ → Option ℕ → List Record → Transaction
whole_transaction serial vxid time records = record {
  serial = serial;
  vxid = vxid;
  kind = kind_claimed (first_claim records);
  reason = reason_claimed (first_claim records);
  records = records;
  parent = None;
  ended = false;
  time = time;
}

-- such a transaction begins, the newest of all
abbrev pub with_whole : ℕ → List Record → State → State
with_whole vxid records state = record state {
  pending = state.pending ++ whole_transaction state.begun vxid state.time records ∷ [];
  begun = state.begun + 1;
}

-- the group that it is by itself
abbrev pub whole_group : ℕ → List Record → Group
whole_group vxid records = record { members = member_at 1 (whole_transaction 0 vxid None records) ∷ [] }
