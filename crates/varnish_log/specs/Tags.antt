-- The tags of Varnish's own log, by the numbers that they have there (vsl(7) of Varnish 7.1 and 7.7).
use Rattle.std.specs.Prelude.{ℕ, ◌&&◌, nat_le, not, Bool, List, [], ◌∷◌, Option, codes, slice_index_or}
use Rattle.std.specs.List.{filter, list_any}
use Rattle.std.specs.Str.{bytes_eq}
use Rattle.vsl_tags.specs.Called.{tag_called}
use Rattle.varnish_log.specs.declared.form.BinaryForm.{BinaryForm}
use Rattle.varnish_log.specs.Forms.{layout}

-- the names of all of Varnish's tags, in the order of their numbers in 7.1, from 0 on, which has none
abbrev pub varnish_names : List (List ℕ)
varnish_names =
    [] ∷
    codes "Debug" ∷
    codes "Error" ∷
    codes "CLI" ∷
    codes "SessOpen" ∷
    codes "SessClose" ∷
    codes "BackendOpen" ∷
    codes "BackendReuse" ∷
    codes "BackendClose" ∷
    codes "HttpGarbage" ∷
    codes "Proxy" ∷
    codes "ProxyGarbage" ∷
    codes "Backend" ∷
    codes "Length" ∷
    codes "FetchError" ∷
    codes "ReqMethod" ∷
    codes "ReqURL" ∷
    codes "ReqProtocol" ∷
    codes "ReqStatus" ∷
    codes "ReqReason" ∷
    codes "ReqHeader" ∷
    codes "ReqUnset" ∷
    codes "ReqLost" ∷
    codes "RespMethod" ∷
    codes "RespURL" ∷
    codes "RespProtocol" ∷
    codes "RespStatus" ∷
    codes "RespReason" ∷
    codes "RespHeader" ∷
    codes "RespUnset" ∷
    codes "RespLost" ∷
    codes "BereqMethod" ∷
    codes "BereqURL" ∷
    codes "BereqProtocol" ∷
    codes "BereqStatus" ∷
    codes "BereqReason" ∷
    codes "BereqHeader" ∷
    codes "BereqUnset" ∷
    codes "BereqLost" ∷
    codes "BerespMethod" ∷
    codes "BerespURL" ∷
    codes "BerespProtocol" ∷
    codes "BerespStatus" ∷
    codes "BerespReason" ∷
    codes "BerespHeader" ∷
    codes "BerespUnset" ∷
    codes "BerespLost" ∷
    codes "ObjMethod" ∷
    codes "ObjURL" ∷
    codes "ObjProtocol" ∷
    codes "ObjStatus" ∷
    codes "ObjReason" ∷
    codes "ObjHeader" ∷
    codes "ObjUnset" ∷
    codes "ObjLost" ∷
    codes "BogoHeader" ∷
    codes "LostHeader" ∷
    codes "TTL" ∷
    codes "Fetch_Body" ∷
    codes "VCL_acl" ∷
    codes "VCL_call" ∷
    codes "VCL_trace" ∷
    codes "VCL_return" ∷
    codes "ReqStart" ∷
    codes "Hit" ∷
    codes "HitPass" ∷
    codes "ExpBan" ∷
    codes "ExpKill" ∷
    codes "WorkThread" ∷
    codes "ESI_xmlerror" ∷
    codes "Hash" ∷
    codes "Backend_health" ∷
    codes "VCL_Log" ∷
    codes "VCL_Error" ∷
    codes "Gzip" ∷
    codes "Link" ∷
    codes "Begin" ∷
    codes "End" ∷
    codes "VSL" ∷
    codes "Storage" ∷
    codes "Timestamp" ∷
    codes "ReqAcct" ∷
    codes "PipeAcct" ∷
    codes "BereqAcct" ∷
    codes "VfpAcct" ∷
    codes "Witness" ∷
    codes "BackendStart" ∷
    codes "H2RxHdr" ∷
    codes "H2RxBody" ∷
    codes "H2TxHdr" ∷
    codes "H2TxBody" ∷
    codes "HitMiss" ∷
    codes "Filters" ∷
    codes "SessError" ∷
    codes "VCL_use" ∷
    codes "Notice" ∷
    codes "VdpAcct" ∷
    []

-- the names of the tags that a form has, in the order of their numbers there
abbrev pub names_of : BinaryForm → List (List ℕ)
names_of form = filter (λ name. not (list_any (bytes_eq name) (layout form).lacks)) varnish_names

-- the tag of this project that has the name of the tag with this number in a log of this form
unfoldable pub tag_at : BinaryForm → ℕ → Option ℕ
tag_at form number = tag_called (slice_index_or (names_of form) number [])

-- whether the bytes of records of this tag are no text, so that no zero byte was added behind them: H2RxHdr, H2RxBody,
-- H2TxHdr, H2TxBody
abbrev pub has_no_text : ℕ → Bool
has_no_text tag = nat_le 49 tag && nat_le tag 52
