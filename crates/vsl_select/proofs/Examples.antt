-- Worked examples of the text of groups, computed from the definitions.
use Rattle.std.proofs.Common.{ℕ, ◌≡◌, List, [], ◌∷◌, refl}
use Rattle.std.specs.Prelude.{true, false, codes}
use Rattle.std.specs.Fmt.{digits}
use Rattle.vsl_tags.specs.Tags.{begin_tag, end_tag, vsl_tag}
use Rattle.vsl_record.specs.declared.mark.Mark.TheVariants.{Client, Backend}
use Rattle.vsl_record.specs.declared.record_type.Record.{Record}
use Rattle.txn_rows.specs.declared.group.Kind.{Kind}
use Rattle.txn_rows.specs.declared.group.Kind.TheVariants as kinds
use Rattle.txn_rows.specs.declared.group.Reason.TheVariants as reasons
use Rattle.txn_rows.specs.declared.group.Member.{Member}
use Rattle.txn_rows.specs.declared.group.Group.{Group}
use Rattle.vsl_select.specs.Lines.{header, record_line, member_text, group_text}

abbrev pub client_record : ℕ → List ℕ → Record
client_record tag payload = record { tag = tag; mark = Client; payload = payload }

-- a transaction of this VXID, kind and level
abbrev pub transaction : ℕ → Kind → ℕ → List Record → Member
transaction vxid kind level records = record { vxid = vxid; kind = kind; reason = reasons.Other; level = level; parent = 0; records = records }

-- a request that a flush ended
abbrev pub forced_request : Member
forced_request = transaction 9 kinds.Request 1
    (client_record begin_tag (codes "req 1 rxreq") ∷ client_record vsl_tag (codes "flush") ∷ client_record end_tag (codes "synth") ∷ [])

-- the fetch that a request caused, below it
abbrev pub fetch : Member
fetch = transaction 3 kinds.BeReq 2
    (record { tag = begin_tag; mark = Backend; payload = codes "bereq 2 fetch" } ∷ record { tag = end_tag; mark = Backend; payload = [] } ∷ [])

-- a record by itself
abbrev pub ping : Member
ping = transaction 0 kinds.Record 0 (record { tag = 3; mark = Backend; payload = codes "Rd ping" } ∷ [])

-- a transaction without records
abbrev pub nothing_yet : Member
nothing_yet = transaction 5 kinds.Session 1 []

abbrev pub group_with : List Member → Group
group_with members = record { members = members }

forced_text : group_text false (group_with (forced_request ∷ []))
    ≡ codes "*   << Request  >> 9         \n-   Begin          req 1 rxreq\n-   VSL            flush\n-   End            synth\n\n"
unfolding digits
forced_text = refl

fetch_text : member_text false fetch ≡ codes "**  << BeReq    >> 3         \n--  Begin          bereq 2 fetch\n--  End            \n"
unfolding digits
fetch_text = refl

-- verbose, a record's line is its raw line after the level
verbose_text : member_text true fetch
    ≡ codes "**  << BeReq    >> 3         \n--           3 Begin          b bereq 2 fetch\n--           3 End            b \n"
unfolding digits
verbose_text = refl

-- three characters fill the level's columns, and a level above 3 is a number
third_header : header (transaction 4 kinds.Unknown 3 []) ≡ codes "*** << Unknown  >> 4         \n"
unfolding digits
third_header = refl

fourth_header : header (transaction 6 kinds.Session 4 []) ≡ codes "*4* << Session  >> 6         \n"
unfolding digits
fourth_header = refl

twelfth_line : record_line false (transaction 6 kinds.Session 12 []) (client_record end_tag []) ≡ codes "-12- End            \n"
unfolding digits
twelfth_line = refl

record_header : header (transaction 1000000009 kinds.Record 1 []) ≡ codes "*   << Record   >> 1000000009\n"
unfolding digits
record_header = refl

-- a record by itself has its raw line, and no header and no empty line
raw_group : group_text false (group_with (ping ∷ [])) ≡ codes "         0 CLI            b Rd ping\n"
unfolding digits
raw_group = refl

-- a transaction without records prints nothing, and a group of such no empty line
empty_member : member_text false nothing_yet ≡ []
empty_member = refl

empty_group : group_text false (group_with (nothing_yet ∷ nothing_yet ∷ [])) ≡ []
empty_group = refl

-- one transaction with records is enough for the empty line
partly_empty_group : group_text false (group_with (nothing_yet ∷ fetch ∷ []))
    ≡ codes "**  << BeReq    >> 3         \n--  Begin          bereq 2 fetch\n--  End            \n\n"
unfolding digits
partly_empty_group = refl
