-- Worked examples of what raises the counters, computed from the definitions.
use Rattle.std.proofs.Common.{◌≡◌, ℕ, List, [], ◌∷◌, None, Some, map, refl}
use Rattle.std.specs.Prelude.{codes, slice_get}
use Rattle.std.specs.List.{range_with_len}
use Rattle.counter_segments.specs.Sums.{counter_count}
use Rattle.vsl_tags.specs.Tags.{begin_tag, tag_name}
use Rattle.vsl_record.specs.declared.mark.Mark.TheVariants.{Client}
use Rattle.vsl_record.specs.Unit.{LogUnit}
use Rattle.traffic_feed.specs.Counted.{causes, cut_raise, field_value, unit_share, wrap_raise}
use Rattle.vsl_tags.specs.declared.named.TheConstants.{SESS_OPEN, SESS_CLOSE, BACKEND_OPEN, FETCH_ERROR, VCL_CALL, REQ_START, REQ_ACCT, BEREQ_ACCT, HIT, HIT_MISS, HIT_PASS, REQ_METHOD, REQ_URL, REQ_PROTOCOL, REQ_HEADER, RESP_STATUS, BEREQ_METHOD, BEREQ_URL, BERESP_STATUS}
use Rattle.traffic_feed.specs.inside.Raises.{raise_at}

-- by how much a record of a tag and a payload raises each counter, in the order of their numbers
abbrev raises_of : ℕ → List ℕ → List ℕ
raises_of tag payload = map (λ which. raise_at (slice_get causes which) (record { tag = tag; mark = Client; payload = payload })) (range_with_len 0 counter_count)

-- each record raises the counter of records, which is number 16
no_cause : raises_of VCL_CALL (codes "HIT") ≡ 0 ∷ 0 ∷ 0 ∷ 0 ∷ 0 ∷ 0 ∷ 0 ∷ 0 ∷ 0 ∷ 0 ∷ 0 ∷ 0 ∷ 0 ∷ 0 ∷ 0 ∷ 0 ∷ 1 ∷ 0 ∷ 0 ∷ 0 ∷ 0 ∷ []
no_cause = refl

hit : raises_of HIT (codes "3 10.000000 10.000000 0.000000") ≡ 0 ∷ 0 ∷ 1 ∷ 0 ∷ 0 ∷ 0 ∷ 0 ∷ 0 ∷ 0 ∷ 0 ∷ 0 ∷ 0 ∷ 0 ∷ 0 ∷ 0 ∷ 0 ∷ 1 ∷ 0 ∷ 0 ∷ 0 ∷ 0 ∷ []
hit = refl

hit_for_pass : raises_of HIT_PASS [] ≡ 0 ∷ 0 ∷ 0 ∷ 1 ∷ 0 ∷ 0 ∷ 0 ∷ 0 ∷ 0 ∷ 0 ∷ 0 ∷ 0 ∷ 0 ∷ 0 ∷ 0 ∷ 0 ∷ 1 ∷ 0 ∷ 0 ∷ 0 ∷ 0 ∷ []
hit_for_pass = refl

hit_for_miss : raises_of HIT_MISS [] ≡ 0 ∷ 0 ∷ 0 ∷ 0 ∷ 1 ∷ 0 ∷ 0 ∷ 0 ∷ 0 ∷ 0 ∷ 0 ∷ 0 ∷ 0 ∷ 0 ∷ 0 ∷ 0 ∷ 1 ∷ 0 ∷ 0 ∷ 0 ∷ 0 ∷ []
hit_for_miss = refl

-- the case of a call's name doesn't count
miss : raises_of VCL_CALL (codes "mIsS") ≡ 0 ∷ 0 ∷ 0 ∷ 0 ∷ 0 ∷ 1 ∷ 0 ∷ 0 ∷ 0 ∷ 0 ∷ 0 ∷ 0 ∷ 0 ∷ 0 ∷ 0 ∷ 0 ∷ 1 ∷ 0 ∷ 0 ∷ 0 ∷ 0 ∷ []
miss = refl

-- a client's request, for the reason `rxreq` alone
request : raises_of begin_tag (codes "req 1 rxreq") ≡ 0 ∷ 1 ∷ 0 ∷ 0 ∷ 0 ∷ 0 ∷ 0 ∷ 0 ∷ 0 ∷ 0 ∷ 0 ∷ 0 ∷ 0 ∷ 0 ∷ 0 ∷ 0 ∷ 1 ∷ 0 ∷ 0 ∷ 0 ∷ 0 ∷ []
request = refl

part_of_another : raises_of begin_tag (codes "req 1 esi") ≡ raises_of VCL_CALL (codes "HIT")
part_of_another = refl

no_vxid : raises_of begin_tag (codes "req x rxreq") ≡ raises_of VCL_CALL (codes "HIT")
no_vxid = refl

fetch : raises_of begin_tag (codes "bereq 3 fetch") ≡ 0 ∷ 0 ∷ 0 ∷ 0 ∷ 0 ∷ 0 ∷ 0 ∷ 1 ∷ 0 ∷ 0 ∷ 0 ∷ 0 ∷ 0 ∷ 0 ∷ 0 ∷ 0 ∷ 1 ∷ 0 ∷ 0 ∷ 0 ∷ 0 ∷ []
fetch = refl

-- the fields 1, 2, 4 and 5 of a ReqAcct
bytes : raises_of REQ_ACCT (codes "80 0 80 200 99 299") ≡ 0 ∷ 0 ∷ 0 ∷ 0 ∷ 0 ∷ 0 ∷ 0 ∷ 0 ∷ 0 ∷ 0 ∷ 0 ∷ 0 ∷ 80 ∷ 0 ∷ 200 ∷ 99 ∷ 1 ∷ 0 ∷ 0 ∷ 0 ∷ 0 ∷ []
bytes = refl

-- eleven digits, 2^32, no number, and a field that isn't there raise nothing
no_values : map field_value (Some (codes "00000000001") ∷ Some (codes "4294967296") ∷ Some (codes "8x") ∷ Some (codes "-1") ∷ None ∷ []) ≡ 0 ∷ 0 ∷ 0 ∷ 0 ∷ 0 ∷ []
no_values = refl

no_bytes : raises_of REQ_ACCT (codes "00000000001 4294967296 9 -") ≡ raises_of VCL_CALL (codes "HIT")
no_bytes = refl

highest_value : field_value (Some (codes "4294967295")) ≡ 4294967295
highest_value = refl

-- a unit of two records: it raises the counter of units, which is number 17, by itself
abbrev unit : LogUnit
unit = record {
  vxid = 7;
  mark = Client;
  records = record { tag = HIT; mark = Client; payload = [] } ∷ record { tag = REQ_ACCT; mark = Client; payload = codes "5 6 7 8 9" } ∷ [];
}

shares : map (λ which. unit_share which unit) (range_with_len 0 counter_count) ≡ 0 ∷ 0 ∷ 1 ∷ 0 ∷ 0 ∷ 0 ∷ 0 ∷ 0 ∷ 0 ∷ 0 ∷ 0 ∷ 0 ∷ 5 ∷ 6 ∷ 8 ∷ 9 ∷ 2 ∷ 1 ∷ 0 ∷ 0 ∷ 0 ∷ []
shares = refl

-- cuts raise number 18 alone, and wraps number 20
cuts : map (λ which. cut_raise (slice_get causes which) 3) (range_with_len 0 counter_count) ≡ 0 ∷ 0 ∷ 0 ∷ 0 ∷ 0 ∷ 0 ∷ 0 ∷ 0 ∷ 0 ∷ 0 ∷ 0 ∷ 0 ∷ 0 ∷ 0 ∷ 0 ∷ 0 ∷ 0 ∷ 0 ∷ 3 ∷ 0 ∷ 0 ∷ []
cuts = refl

wraps : map (λ which. wrap_raise (slice_get causes which) 3) (range_with_len 0 counter_count) ≡ 0 ∷ 0 ∷ 0 ∷ 0 ∷ 0 ∷ 0 ∷ 0 ∷ 0 ∷ 0 ∷ 0 ∷ 0 ∷ 0 ∷ 0 ∷ 0 ∷ 0 ∷ 0 ∷ 0 ∷ 0 ∷ 0 ∷ 0 ∷ 3 ∷ []
wraps = refl

-- the names of the tags that are numbered here
names : map tag_name (SESS_OPEN ∷ SESS_CLOSE ∷ BACKEND_OPEN ∷ FETCH_ERROR ∷ VCL_CALL ∷ REQ_START ∷ REQ_ACCT ∷ BEREQ_ACCT ∷ HIT ∷ HIT_MISS ∷ HIT_PASS ∷ [])
    ≡ codes "SessOpen" ∷ codes "SessClose" ∷ codes "BackendOpen" ∷ codes "FetchError" ∷ codes "VCL_call" ∷ codes "ReqStart" ∷ codes "ReqAcct" ∷ codes "BereqAcct" ∷ codes "Hit" ∷ codes "HitMiss" ∷ codes "HitPass" ∷ []
names = refl

message_names : map tag_name (REQ_METHOD ∷ REQ_URL ∷ REQ_PROTOCOL ∷ REQ_HEADER ∷ RESP_STATUS ∷ BEREQ_METHOD ∷ BEREQ_URL ∷ BERESP_STATUS ∷ [])
    ≡ codes "ReqMethod" ∷ codes "ReqURL" ∷ codes "ReqProtocol" ∷ codes "ReqHeader" ∷ codes "RespStatus" ∷ codes "BereqMethod" ∷ codes "BereqURL" ∷ codes "BerespStatus" ∷ []
message_names = refl
