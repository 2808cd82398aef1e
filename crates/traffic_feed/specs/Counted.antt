-- What raises the counters of varnish-counters(7) under `MAIN.` (what raises each is this project's choice).
use Rattle.std.specs.Prelude.{ℕ, ◌+◌, ◌-◌, ◌^◌, ◌==◌, ◌&&◌, nat_le, unwrap_or, if◌then◌else◌, Bool, true, false, List, [], ◌∷◌, map, length, slice_get, codes, Option, Some, None}
use Rattle.std.specs.List.{range_with_len, sum_by}
use Rattle.std.specs.Str.{bytes_eq, str_to_ascii_lowercase}
use Rattle.vsl_tags.specs.Tags.{begin_tag}
use Rattle.vsl_decimal.specs.Field.{field_of}
use Rattle.vsl_decimal.specs.Whole.{whole_number}
use Rattle.vsl_record.specs.declared.record_type.Record.{Record}
use Rattle.vsl_record.specs.Unit.{LogUnit}
use Rattle.txn_rows.specs.declared.claim.Claim.{Claim}
use Rattle.txn_rows.specs.declared.group.Kind.{Kind}
use Rattle.txn_rows.specs.declared.group.Kind.TheVariants as kinds
use Rattle.txn_rows.specs.declared.group.Reason.{Reason}
use Rattle.txn_rows.specs.declared.group.Reason.TheVariants.{Rxreq, Esi, Other}
use Rattle.txn_rows.specs.Claim.{claim_of}
use Rattle.counter_segments.specs.Sums.{counter_count}
use Rattle.traffic_feed.specs.declared.listing.Listing.{Listing}
use Rattle.vsl_tags.specs.declared.named.TheConstants.{SESS_OPEN, BACKEND_OPEN, FETCH_ERROR, VCL_CALL, REQ_ACCT, HIT, HIT_MISS, HIT_PASS}

-- what raises a counter
pub data Cause : Type 0 where
  -- each record of a tag
  EachTag : ℕ → Cause
  -- each well-formed Begin of a client's request
  EachRequest : Cause
  -- each well-formed Begin of a request to a backend
  EachFetch : Cause
  -- each VCL_call of a name, without regard to case
  EachCall : List ℕ → Cause
  -- each ReqAcct, by its field of this number
  EachField : ℕ → Cause
  -- each record
  EachRecord : Cause
  -- each unit
  EachUnit : Cause
  -- each cut of a listing
  EachCut : Cause
  -- each time that a writer waits for another
  EachWait : Cause
  -- each unit that wraps in the ring
  EachWrap : Cause

-- what raises the counters, in the order of their numbers, from 0. No tag tells a miss by itself, so VCL_call does, as
-- it tells a pipe, a pass and a synthetic answer. A hit is told by Hit, and not by VCL_call too, so it counts once
abbrev pub causes : List Cause
causes =
    EachTag SESS_OPEN ∷
    EachRequest ∷
    EachTag HIT ∷
    EachTag HIT_PASS ∷
    EachTag HIT_MISS ∷
    EachCall (codes "MISS") ∷
    EachTag BACKEND_OPEN ∷
    EachFetch ∷
    EachTag FETCH_ERROR ∷
    EachCall (codes "PIPE") ∷
    EachCall (codes "PASS") ∷
    EachCall (codes "SYNTH") ∷
    EachField 1 ∷
    EachField 2 ∷
    EachField 4 ∷
    EachField 5 ∷
    EachRecord ∷
    EachUnit ∷
    EachCut ∷
    EachWait ∷
    EachWrap ∷
    []

-- ---- of a record

-- whether a kind is a request
abbrev pub is_request_kind : Kind → Bool
is_request_kind kinds.Unknown = false
is_request_kind kinds.Session = false
is_request_kind kinds.Request = true
is_request_kind kinds.BeReq = false
is_request_kind kinds.Record = false

-- whether a kind is a request to a backend
abbrev pub is_fetch_kind : Kind → Bool
is_fetch_kind kinds.Unknown = false
is_fetch_kind kinds.Session = false
is_fetch_kind kinds.Request = false
is_fetch_kind kinds.BeReq = true
is_fetch_kind kinds.Record = false

-- whether a reason is `rxreq`
abbrev pub is_received : Reason → Bool
is_received Rxreq = true
is_received Esi = false
is_received Other = false

-- whether a Begin is that of a client's request: of kind `req`, for the reason `rxreq`. A request for an ESI part and
-- one after a restart are none, since no client sent them
abbrev pub is_request : Option Claim → Bool
is_request None = false
is_request (Some claim) = is_request_kind claim.kind && is_received claim.reason

-- whether a Begin is that of a request to a backend: of kind `bereq`. A second Begin of a transaction counts, too:
-- counters know no transactions
abbrev pub is_fetch : Option Claim → Bool
is_fetch None = false
is_fetch (Some claim) = is_fetch_kind claim.kind

-- one where a test holds
abbrev pub one_if : Bool → ℕ
one_if true = 1
one_if false = 0

-- the value of a field, which counts where it is 1 to 10 digits and below 2^32. So no counter comes near its ceiling
abbrev pub field_value : Option (List ℕ) → ℕ
field_value None = 0
field_value (Some text) = if nat_le (length text) 10 then unwrap_or (whole_number 0 (2 ^ 32 - 1) text) 0 else 0

-- by how much a record raises a counter of this cause
abbrev pub raise : Cause → Record → ℕ
raise (EachTag tag) rec = one_if (rec.tag == tag)
raise EachRequest rec = one_if ((rec.tag == begin_tag) && is_request (claim_of rec.payload))
raise EachFetch rec = one_if ((rec.tag == begin_tag) && is_fetch (claim_of rec.payload))
raise (EachCall name) rec =
    one_if ((rec.tag == VCL_CALL) && bytes_eq (str_to_ascii_lowercase rec.payload) (str_to_ascii_lowercase name))
raise (EachField n) rec = if rec.tag == REQ_ACCT then field_value (field_of rec.payload n) else 0
raise EachRecord rec = 1
raise EachUnit rec = 0
raise EachCut rec = 0
raise EachWait rec = 0
raise EachWrap rec = 0

-- ---- of a unit, and of listings

-- by how much a unit raises it beside its records
abbrev pub unit_raise : Cause → ℕ
unit_raise EachUnit = 1
unit_raise (EachTag tag) = 0
unit_raise EachRequest = 0
unit_raise EachFetch = 0
unit_raise (EachCall name) = 0
unit_raise (EachField n) = 0
unit_raise EachRecord = 0
unit_raise EachCut = 0
unit_raise EachWait = 0
unit_raise EachWrap = 0

-- by how much a unit that is put raises a counter of this cause
abbrev pub share : Cause → LogUnit → ℕ
share cause u = unit_raise cause + sum_by (raise cause) u.records

-- the same, where there is a cause
abbrev pub share_at : Option Cause → LogUnit → ℕ
share_at None u = 0
share_at (Some cause) u = share cause u

-- by how much a unit that is put raises the counter of a number
abbrev pub unit_share : ℕ → LogUnit → ℕ
unit_share which u = share_at (slice_get causes which) u

-- by how much a listing raises a counter beside its units: its cuts raise one. What overflows is a segment of the ring,
-- so each cut of a batch is a flush
abbrev pub cut_raise : Option Cause → ℕ → ℕ
cut_raise None cuts = 0
cut_raise (Some EachCut) cuts = cuts
cut_raise (Some cause) cuts = 0

-- the same for a writer's waits. In a stated order one alone has the turn, so no writer waits
abbrev pub wait_raise : Option Cause → ℕ → ℕ
wait_raise None waits = 0
wait_raise (Some EachWait) waits = waits
wait_raise (Some cause) waits = 0

-- the same for units that wrap in the ring. Each is the first of another lap. Where they wrap depends on the order of
-- turns, or on threads
abbrev pub wrap_raise : Option Cause → ℕ → ℕ
wrap_raise None wraps = 0
wrap_raise (Some EachWrap) wraps = wraps
wrap_raise (Some cause) wraps = 0

-- by how much a listing raises a counter
abbrev pub listing_share : ℕ → Listing → ℕ
listing_share which listing = sum_by (unit_share which) listing.units + cut_raise (slice_get causes which) listing.cuts

-- what a counter comes to by listings that were put whole, of whose units so many wrapped, where no writer waited
abbrev pub counter_value : ℕ → List Listing → ℕ → ℕ
counter_value which listings wraps = sum_by (listing_share which) listings + wrap_raise (slice_get causes which) wraps

-- what the counters come to, in the order of their numbers. All that is put is counted, also records of VXID 0 and of
-- transactions that never end, because nobody groups them
abbrev pub counter_values : List Listing → ℕ → List ℕ
counter_values listings wraps = map (λ which. counter_value which listings wraps) (range_with_len 0 counter_count)
