-- Worked examples of listings, computed from the definitions.
use Rattle.std.proofs.Common.{◌≡◌, ℕ, zero, suc, ◌∷◌, [], List, replicate, refl}
use Rattle.std.specs.Prelude.{codes}
use Rattle.std.specs.Str.Lines.{lines}
use Rattle.vsl_record.specs.declared.mark.Mark.{Mark}
use Rattle.vsl_record.specs.declared.mark.Mark.TheVariants.{Client, Backend, Plain}
use Rattle.vsl_record.specs.Unit.{LogUnit, Log}
use Rattle.vsl_record.specs.declared.record_type.Record.{Record}
use Rattle.raw_records.specs.Lines.{Line, BlankLine, CommentLine, RecordLine}
use Rattle.traffic_feed.specs.Listing.{IsListing}
use Rattle.raw_records.specs.inside.Reading.{without_spaces, behind_spaces, digits_of, behind_digits, word_of, behind_word, tag_called, mark_of, payload_behind, marked, some_parts, parts_of, record_from, record_of, record_line, unindented, meaning}
use Rattle.raw_records.proofs.Examples.{all_meant}
use Rattle.traffic_feed.specs.Batches.{listing_units, listing_cuts}
use Rattle.traffic_feed.specs.Turns.{first_draw, next_draw}

abbrev record_of_tag : ℕ → Mark → List ℕ → Record
record_of_tag tag mark payload = record { tag = tag; mark = mark; payload = payload }

abbrev line_of : ℕ → Record → Line
line_of vxid rec = RecordLine (record { vxid = vxid; rec = rec })

-- ---- batches

abbrev unit : ℕ → Mark → List Record → LogUnit
unit vxid mark records = record { vxid = vxid; mark = mark; records = records }

abbrev a : Record
a = record_of_tag 24 Client (codes "a")

abbrev b : Record
b = record_of_tag 24 Client (codes "b")

abbrev c : Record
c = record_of_tag 24 Backend (codes "c")

abbrev last : Record
last = record_of_tag 44 Client []

abbrev units_at : ℕ → List Line → Log
units_at seg ls = listing_units 255 seg ls

-- a blank line ends a batch, and none ends where there is none
blank_lines : units_at 64 (BlankLine ∷ line_of 7 a ∷ BlankLine ∷ BlankLine ∷ line_of 7 b ∷ line_of 7 a ∷ BlankLine ∷ []) ≡ unit 7 Client (a ∷ []) ∷ unit 7 Client (b ∷ a ∷ []) ∷ []
blank_lines = refl

-- a comment ends nothing
comment_inside : units_at 64 (line_of 7 a ∷ CommentLine ∷ line_of 7 b ∷ CommentLine ∷ []) ≡ unit 7 Client (a ∷ b ∷ []) ∷ []
comment_inside = refl

-- another mark or another VXID begins a batch
another_mark : units_at 64 (line_of 7 a ∷ line_of 7 c ∷ line_of 7 b ∷ line_of 8 b ∷ []) ≡ unit 7 Client (a ∷ []) ∷ unit 7 Backend (c ∷ []) ∷ unit 7 Client (b ∷ []) ∷ unit 8 Client (b ∷ []) ∷ []
another_mark = refl

-- each record of VXID 0 is a batch
of_no_transaction : units_at 64 (line_of 0 a ∷ line_of 0 b ∷ line_of 7 a ∷ []) ≡ unit 0 Client (a ∷ []) ∷ unit 0 Client (b ∷ []) ∷ unit 7 Client (a ∷ []) ∷ []
of_no_transaction = refl

-- an End is the last record of its batch
end_inside : units_at 64 (line_of 7 a ∷ line_of 7 last ∷ line_of 7 b ∷ []) ≡ unit 7 Client (a ∷ last ∷ []) ∷ unit 7 Client (b ∷ []) ∷ []
end_inside = refl

-- with 64 words a segment, a record of 239 bytes has 63 words, and one of 240 bytes too; with a header that is 64, so a record more is cut off
abbrev long : ℕ → Record
long n = record_of_tag 24 Client (replicate n 120)

cut_once : (units_at 64 (line_of 7 (long 239) ∷ line_of 7 a ∷ line_of 7 b ∷ []) ≡ unit 7 Client (long 239 ∷ []) ∷ unit 7 Client (a ∷ b ∷ []) ∷ []) × (listing_cuts 255 64 (line_of 7 (long 239) ∷ line_of 7 a ∷ line_of 7 b ∷ []) ≡ 1)
cut_once = (refl, refl)

-- a unit may fill its segment: 1, 59 and 4 words are 64, and another word is too much
filled : (units_at 64 (line_of 7 (long 224) ∷ line_of 7 (long 4) ∷ []) ≡ unit 7 Client (long 224 ∷ long 4 ∷ []) ∷ []) × (listing_cuts 255 64 (line_of 7 (long 224) ∷ line_of 7 (long 5) ∷ []) ≡ 1)
filled = (refl, refl)

-- where the batch ends anyway, nothing is cut
no_cut : listing_cuts 255 64 (line_of 7 (long 239) ∷ line_of 7 c ∷ line_of 7 (long 239) ∷ BlankLine ∷ line_of 7 (long 239) ∷ line_of 8 a ∷ []) ≡ 0
no_cut = refl

-- payloads are cut to what is asked for, and to what a segment has room for
shortened_payloads : (listing_units 3 64 (line_of 7 (long 5) ∷ []) ≡ unit 7 Client (long 3 ∷ []) ∷ []) × (units_at 64 (line_of 7 (long 250) ∷ []) ≡ unit 7 Client (long 240 ∷ []) ∷ [])
shortened_payloads = (refl, refl)

-- ---- a whole listing

abbrev text : List ℕ
text = codes "# a request\r\n  7 Begin c req 6 rxreq\r\n7 reqmethod c GET\n#\n7 End c \n7 VCL_Log c a\n\n0 CLI - a\n0 CLI - b"

abbrev meant : List Line
meant =
    CommentLine ∷
    line_of 7 (record_of_tag 42 Client (codes "req 6 rxreq")) ∷
    line_of 7 (record_of_tag 53 Client (codes "GET")) ∷
    CommentLine ∷
    line_of 7 last ∷
    line_of 7 a ∷
    BlankLine ∷
    line_of 0 (record_of_tag 3 Plain (codes "a")) ∷
    line_of 0 (record_of_tag 3 Plain (codes "b")) ∷ []

-- a request with a comment before it and one inside, a record behind its End, and two of no transaction
listing : IsListing text 255 64
    (unit 7 Client (record_of_tag 42 Client (codes "req 6 rxreq") ∷ record_of_tag 53 Client (codes "GET") ∷ last ∷ []) ∷ unit 7 Client (a ∷ []) ∷ unit 0 Plain (record_of_tag 3 Plain (codes "a") ∷ []) ∷ unit 0 Plain (record_of_tag 3 Plain (codes "b") ∷ []) ∷ [])
    0
unfolding meaning unindented record_line record_of record_from parts_of some_parts without_spaces behind_spaces digits_of behind_digits word_of behind_word tag_called mark_of payload_behind marked
listing = record { meant = meant; has_lines = all_meant (lines text) meant refl; units_are = refl; cuts_are = refl }

-- ---- draws

-- the draws of a seed
abbrev draws : ℕ → ℕ → List ℕ
draws x zero = []
draws x (suc n) = next_draw x ∷ draws (next_draw x) n

draws_of_7 : draws (first_draw 7) 8 ≡ 599 ∷ 44999 ∷ 32612 ∷ 21105 ∷ 10061 ∷ 33742 ∷ 40318 ∷ 9222 ∷ []
draws_of_7 = refl

-- the first draw is behind the seed's remainder
great_seed : first_draw 65539 ≡ 2
great_seed = refl
