-- What each formatter gives for a transaction (varnishncsa(1), "FORMAT"; which record counts, what stands for a missing one, and the five words for how a request was handled are this project's choice).
use Rattle.std.specs.Prelude.{ℕ, suc, ◌*◌, ◌/◌, ◌==◌, nat_le, if◌then◌else◌, ℤ, pos, negsuc, neg_ℤ, Bool, true, false, List, [], ◌∷◌, ◌++◌, take, drop, reverse, Option, Some, None, unwrap_or, option_map, option_and_then, codes, decimal, position}
use Rattle.std.specs.Result.{result_ok}
use Rattle.std.specs.Prelude.{nat_eq}
use Rattle.std.specs.Fmt.{signed_decimal}
use Rattle.std.specs.List.{position_or_len, starts_with}
use Rattle.std.specs.Option.{option_or}
use Rattle.std.specs.Str.{bytes_eq, str_eq_ignore_ascii_case}
use Rattle.base64.specs.Engines.{standard}
use Rattle.base64.specs.GeneralPurpose.{decode_of}
use Rattle.vsl_tags.specs.declared.named.TheConstants.{BACKEND_OPEN, VCL_CALL, VCL_LOG, REQ_START, REQ_ACCT, BEREQ_ACCT, REQ_METHOD, REQ_URL, REQ_PROTOCOL, REQ_HEADER, RESP_STATUS, RESP_HEADER, BEREQ_METHOD, BEREQ_URL, BEREQ_PROTOCOL, BEREQ_HEADER, BERESP_STATUS, BERESP_HEADER, TIMESTAMP}
use Rattle.vsl_decimal.specs.Decimal.{decimal_of, integral_part, scale}
use Rattle.vsl_decimal.specs.Field.{field_of}
use Rattle.vsl_decimal.specs.Prefix.{colon, value_after}
use Rattle.vsl_record.specs.declared.record_type.Record.{Record}
use Rattle.txn_rows.specs.declared.group.Kind.{Kind}
use Rattle.txn_rows.specs.declared.group.Kind.TheVariants as kinds
use Rattle.txn_rows.specs.declared.group.Member.{Member}
use Rattle.ncsa_format.specs.Civil.{time_text, stamp_parts}
use Rattle.ncsa_format.specs.declared.formatter.Formatter.{Formatter}
use Rattle.ncsa_format.specs.declared.formatter.Formatter.TheVariants.{Host, LogName, User, Stamp, Time, RequestLine, Method, Path, Query, Protocol, Status, Bytes, Received, Sent, RequestHeader, ResponseHeader, Micros, Seconds, FirstByte, HitMiss, Handling, Mark, Vxid, LogKey, TagPart}
use Rattle.ncsa_format.specs.declared.formatter.TimeForm.TheVariants as forms

-- ---- which record counts

-- what of a payload is asked for; nothing where it isn't there
abbrev pub Part : Type 0
Part = List ℕ → Option (List ℕ)

-- the whole payload
abbrev pub whole : Part
whole payload = Some payload

-- what the records of a tag give
abbrev pub in_tag : ℕ → Part → Record → Option (List ℕ)
in_tag tag part rec = if rec.tag == tag then part rec.payload else None

-- what the first record that gives something gives
abbrev pub first_of : (Record → Option (List ℕ)) → List Record → Option (List ℕ)
first_of gives [] = None
first_of gives (rec ∷ records) = option_or (gives rec) (first_of gives records)

-- what the last record that gives something gives
abbrev pub last_of : (Record → Option (List ℕ)) → List Record → Option (List ℕ)
last_of gives records = first_of gives (reverse records)

-- whether a kind is a fetch from a backend
abbrev pub is_backend : Kind → Bool
is_backend kinds.BeReq = true
is_backend kind = false

-- of a request: the first record of a client's, the last of a backend's. That is what a client asked first, and what
-- was sent to a backend last, behind what VCL changed
abbrev pub requested : ℕ → ℕ → Part → Member → Option (List ℕ)
requested client backend part m = if is_backend m.kind then last_of (in_tag backend part) m.records else first_of
    (in_tag client part) m.records

-- of a response: the last record of a client's, the first of a backend's. That is what a client was answered last, and
-- what a backend answered first, before VCL changes it
abbrev pub responded : ℕ → ℕ → Part → Member → Option (List ℕ)
responded client backend part m = if is_backend m.kind then first_of (in_tag backend part) m.records else last_of
    (in_tag client part) m.records

-- of a header that is named: the last record, of a client's and of a backend's. So headers of a client's request are as
-- VCL set them, and the user and the host of its request line as the client sent them: `%r` and `%{Host}i` may tell two
-- hosts
abbrev pub headed : ℕ → ℕ → Part → Member → Option (List ℕ)
headed client backend part m = if is_backend m.kind then last_of (in_tag backend part) m.records else last_of
    (in_tag client part) m.records

-- of a Timestamp: the last record with a label, which is another for a client than for a backend
abbrev pub stamped : List ℕ → List ℕ → Member → Option (List ℕ)
stamped client backend m =
    last_of (in_tag TIMESTAMP (value_after (if is_backend m.kind then backend else client))) m.records

-- ---- parts of values

-- a field of a text, from 1. The record is chosen before its field: where it lacks that, the value is missing, though
-- another record has it
abbrev pub field_in : ℕ → Option (List ℕ) → Option (List ℕ)
field_in n text = option_and_then (λ t. field_of t n) text

-- the user that decoded credentials name: what stands before their first colon, where they have one
abbrev pub before_colon : List ℕ → Option (List ℕ)
before_colon text = option_map (λ at. take at text) (position (λ b. b == colon) text)

-- the bytes of a text in base64
abbrev pub decoded : List ℕ → Option (List ℕ)
decoded text = result_ok (decode_of standard text)

-- whether a text is there and is this word, in any case
abbrev pub is_word : List ℕ → Option (List ℕ) → Bool
is_word word None = false
is_word word (Some text) = str_eq_ignore_ascii_case text word

-- the user of an Authorization header: its first field is `Basic`, in any case, and its second decodes to a user, a
-- colon and more. What is no such header is missing, since a line doesn't tell why; a user may be empty
abbrev pub user_of : List ℕ → Option (List ℕ)
user_of header = if is_word (codes "basic") (field_of header 1) then option_and_then before_colon (option_and_then decoded (field_of header 2)) else None

-- the last time that is printed, in seconds
abbrev pub last_second : ℕ
last_second = 253_402_000_000

-- a time that is printed: exactly from 0 to the last one, so none with a fraction above that. The last is a round
-- number in the last days of 9999, so that a year has four digits
abbrev pub printed_time : ℤ → Option ℕ
printed_time (pos time) = if nat_le time (last_second * scale) then Some time else None
printed_time (negsuc time) = None

-- the time at which a transaction started
abbrev pub start_time : Member → Option ℕ
start_time m = option_and_then printed_time (option_and_then decimal_of (field_in 1 (stamped (codes "Start") (codes "Start") m)))

-- how long it took
abbrev pub time_taken : Member → Option ℤ
time_taken m = option_and_then decimal_of (field_in 2 (stamped (codes "Resp") (codes "BerespBody") m))

-- the whole microseconds of a time, cut toward zero
abbrev pub micros_of : ℤ → ℤ
micros_of (pos time) = pos (time / 1_000_000_000_000)
micros_of (negsuc time) = neg_ℤ (pos (suc time / 1_000_000_000_000))

-- where the query of a URL begins, or where the URL ends
abbrev pub query_place : List ℕ → ℕ
query_place url = position_or_len (λ b. b == 63) url

-- the host of a request line, by its Host header: it begins with `http://`, and is `http://localhost` where there is
-- none. A Host header may begin so by itself, as that of a request by proxy may
abbrev pub host_of : Option (List ℕ) → List ℕ
host_of None = codes "http://localhost"
host_of (Some host) = if starts_with nat_eq host (codes "http://") then host else codes "http://" ++ host

-- a number of bytes; `0` is missing. That is so in the common log format, and of no other text: `00` prints `00`
abbrev pub unless_zero : List ℕ → Option (List ℕ)
unless_zero text = if bytes_eq text (codes "0") then None else Some text

-- how a VCL_call tells that a request was handled
abbrev pub handling_of : Part
handling_of call =
    if str_eq_ignore_ascii_case call (codes "hit") then Some (codes "hit") else
    (if str_eq_ignore_ascii_case call (codes "miss") then Some (codes "miss") else
    (if str_eq_ignore_ascii_case call (codes "pass") then Some (codes "pass") else
    (if str_eq_ignore_ascii_case call (codes "pipe") then Some (codes "pipe") else
    (if str_eq_ignore_ascii_case call (codes "synth") then Some (codes "synth") else None))))

-- how a request was handled: the last VCL_call that tells it; nothing of a backend's. A hit that ends in an error of
-- VCL is `synth`, and a fetch is no hit, whatever VCL called
abbrev pub handling : Member → Option (List ℕ)
handling m = if is_backend m.kind then None else last_of (in_tag VCL_CALL handling_of) m.records

-- every handling but a hit is a miss
abbrev pub hit_or_miss : List ℕ → List ℕ
hit_or_miss word = if bytes_eq word (codes "hit") then word else codes "miss"

-- what of a payload follows a prefix, where one is named
abbrev pub behind : Option (List ℕ) → Part
behind None payload = Some payload
behind (Some prefix) payload = value_after prefix payload

-- a field of a text, where one is named, or all of it
abbrev pub field_or_all : Option ℕ → Part
field_or_all None text = Some text
field_or_all (Some n) text = field_of text n

-- what of a payload has this prefix and field. As in a query a record that lacks one of them is passed over
abbrev pub part_with : Option (List ℕ) → Option ℕ → Part
part_with prefix field payload = option_and_then (field_or_all field) (behind prefix payload)

-- ---- the formatters, one after another

-- the method of a request
abbrev pub method_of : Member → Option (List ℕ)
method_of m = requested REQ_METHOD BEREQ_METHOD whole m

-- its URL
abbrev pub url_of : Member → Option (List ℕ)
url_of m = requested REQ_URL BEREQ_URL whole m

-- the protocol, `HTTP/1.0` where it is missing
abbrev pub protocol_of : Member → List ℕ
protocol_of m = unwrap_or (requested REQ_PROTOCOL BEREQ_PROTOCOL whole m) (codes "HTTP/1.0")

-- the request line: the method or `-`, the host and the whole URL, and the protocol
abbrev pub request_line : Option (List ℕ) → Option (List ℕ) → Option (List ℕ) → List ℕ → List ℕ
request_line method host url protocol = unwrap_or method (codes "-") ++ codes " " ++ host_of host ++ unwrap_or url [] ++ codes " " ++ protocol

-- what a formatter gives for a transaction, where it isn't missing. `%q` is nothing without a query, and not missing,
-- because it stands behind `%U`
abbrev pub value_of : Formatter → Member → Option (List ℕ)
value_of Host m = if is_backend m.kind then field_in 3 (first_of (in_tag BACKEND_OPEN whole) m.records) else field_in 1
    (first_of (in_tag REQ_START whole) m.records)
value_of LogName m = None
value_of User m = option_and_then user_of (requested REQ_HEADER BEREQ_HEADER (value_after (codes "Authorization")) m)
value_of Stamp m = option_map (time_text (forms.Text stamp_parts)) (start_time m)
value_of (Time form) m = option_map (time_text form) (start_time m)
value_of RequestLine m = Some (request_line (method_of m) (requested REQ_HEADER BEREQ_HEADER (value_after (codes "Host")) m) (url_of m) (protocol_of m))
value_of Method m = method_of m
value_of Path m = option_map (λ url. take (query_place url) url) (url_of m)
value_of Query m = Some (unwrap_or (option_map (λ url. drop (query_place url) url) (url_of m)) [])
value_of Protocol m = Some (protocol_of m)
value_of Status m = responded RESP_STATUS BERESP_STATUS whole m
value_of Bytes m = option_and_then unless_zero (field_in 5 (requested REQ_ACCT BEREQ_ACCT whole m))
value_of Received m = field_in 3 (requested REQ_ACCT BEREQ_ACCT whole m)
value_of Sent m = field_in 6 (requested REQ_ACCT BEREQ_ACCT whole m)
value_of (RequestHeader name) m = headed REQ_HEADER BEREQ_HEADER (value_after name) m
value_of (ResponseHeader name) m = headed RESP_HEADER BERESP_HEADER (value_after name) m
value_of Micros m = option_map signed_decimal (option_map micros_of (time_taken m))
value_of Seconds m = option_map signed_decimal (option_map integral_part (time_taken m))
value_of FirstByte m = field_in 2 (stamped (codes "Process") (codes "Beresp") m)
value_of HitMiss m = option_map hit_or_miss (handling m)
value_of Handling m = handling m
value_of Mark m = Some (if is_backend m.kind then codes "b" else codes "c")
value_of Vxid m = Some (decimal m.vxid)
value_of (LogKey key) m = first_of (in_tag VCL_LOG (value_after key)) m.records
value_of (TagPart tag prefix field) m = first_of (in_tag tag (part_with prefix field)) m.records
