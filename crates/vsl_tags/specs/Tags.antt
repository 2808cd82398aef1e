-- The tags of log records: their numbers and names (vsl(7), in this project's subset; which tags there are, and their order, are
-- this project's choice).
use Rattle.std.specs.Prelude.{ℕ, ◌+◌, ◌-◌, ◌≤◌, List, [], ◌∷◌, ◌++◌, map, length, replicate, slice_index_or, codes}
use Rattle.std.specs.Cmp.Lexicographic.{slice_cmp}
use Rattle.std.specs.List.{filter, position_or_len}
use Rattle.std.specs.Ordering.{is_lt, nat_cmp}
use Rattle.std.specs.Str.{bytes_eq, str_to_ascii_lowercase}

-- the lowest number of a tag
abbrev pub first_tag : ℕ
first_tag = 1

-- the highest number of a tag
abbrev pub last_tag : ℕ
last_tag = 92

-- the tags are the numbers from the lowest to the highest
abbrev pub IsTag : ℕ → Type 0
IsTag n = (first_tag ≤ n) × (n ≤ last_tag)

-- the names of tags 1 to 52, in order
abbrev pub single_names : List (List ℕ)
single_names =
    codes "Debug" ∷
    codes "Error" ∷
    codes "CLI" ∷
    codes "SessOpen" ∷
    codes "SessClose" ∷
    codes "SessError" ∷
    codes "BackendOpen" ∷
    codes "BackendClose" ∷
    codes "Backend_health" ∷
    codes "HttpGarbage" ∷
    codes "Proxy" ∷
    codes "ProxyGarbage" ∷
    codes "Length" ∷
    codes "FetchError" ∷
    codes "Fetch_Body" ∷
    codes "BogoHeader" ∷
    codes "LostHeader" ∷
    codes "TTL" ∷
    codes "VCL_acl" ∷
    codes "VCL_call" ∷
    codes "VCL_trace" ∷
    codes "VCL_return" ∷
    codes "VCL_use" ∷
    codes "VCL_Log" ∷
    codes "VCL_Error" ∷
    codes "ReqStart" ∷
    codes "ReqAcct" ∷
    codes "BereqAcct" ∷
    codes "PipeAcct" ∷
    codes "VfpAcct" ∷
    codes "Hit" ∷
    codes "HitMiss" ∷
    codes "HitPass" ∷
    codes "ExpBan" ∷
    codes "ExpKill" ∷
    codes "WorkThread" ∷
    codes "ESI_xmlerror" ∷
    codes "Hash" ∷
    codes "Gzip" ∷
    codes "Storage" ∷
    codes "Timestamp" ∷
    codes "Begin" ∷
    codes "Link" ∷
    codes "End" ∷
    codes "VSL" ∷
    codes "Witness" ∷
    codes "Filters" ∷
    codes "Notice" ∷
    codes "H2RxHdr" ∷
    codes "H2RxBody" ∷
    codes "H2TxHdr" ∷
    codes "H2TxBody" ∷
    []

-- the endings of a message's eight tags, in order
abbrev pub message_endings : List (List ℕ)
message_endings =
    codes "Method" ∷ codes "URL" ∷ codes "Status" ∷ codes "Reason" ∷ codes "Protocol" ∷ codes "Header" ∷ codes "Unset" ∷ codes "Lost" ∷ []

-- a message's eight tags are its name before each ending
abbrev pub message_names : List ℕ → List (List ℕ)
message_names message = map (λ ending. message ++ ending) message_endings

-- the names of all tags, in the order of their numbers: the single ones, then those of the five messages. The manual
-- gives names and meanings of tags, and no numbers
abbrev pub tag_names : List (List ℕ)
tag_names =
    single_names ++ message_names (codes "Req") ++ message_names (codes "Resp") ++ message_names (codes "Bereq") ++ message_names (codes "Beresp")
    ++ message_names (codes "Obj")

-- the name of the tag with this number, for a tag's number alone; the first name is that of the lowest number
abbrev pub tag_name : ℕ → List ℕ
tag_name n = slice_index_or tag_names (n - first_tag) []

-- the rank of the tag with this number: how many tags have names that come before its own, by bytes
unfoldable pub tag_rank : ℕ → ℕ
tag_rank n = length (filter (λ name. is_lt (slice_cmp nat_cmp name (tag_name n))) tag_names)

-- the number of the tag `Timestamp`
abbrev pub timestamp_tag : ℕ
timestamp_tag = 41

-- the number of the tag `Begin`
abbrev pub begin_tag : ℕ
begin_tag = 42

-- the number of the tag `Link`
abbrev pub link_tag : ℕ
link_tag = 43

-- the number of the tag `End`
abbrev pub end_tag : ℕ
end_tag = 44

-- the number of the tag `VSL`
abbrev pub vsl_tag : ℕ
vsl_tag = 45

-- the most bytes that a name has, as `Backend_health`
abbrev pub longest_name : ℕ
longest_name = 14

-- a name at the left of 14 columns, and a space
abbrev pub in_columns : List ℕ → List ℕ
in_columns name = name ++ replicate (longest_name - length name) 32 ++ codes " "

-- the name of the tag with this number at the left of 14 columns, and a space
abbrev pub name_columns : ℕ → List ℕ
name_columns n = in_columns (tag_name n)

-- the names of all tags in lower case, in the order of their numbers
abbrev pub lower_names : List (List ℕ)
lower_names = map str_to_ascii_lowercase tag_names

-- the number of the first tag whose name in lower case is this text, or the one behind the last where there is none
abbrev pub number_of_lower : List ℕ → ℕ
number_of_lower text = first_tag + position_or_len (λ name. bytes_eq name text) lower_names
