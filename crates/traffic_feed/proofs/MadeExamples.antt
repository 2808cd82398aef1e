-- Worked examples of traffic that is made, computed from the definitions.
use Rattle.std.proofs.Common.{◌≡◌, ℕ, ◌∷◌, [], List, length, drop, take, refl}
use Rattle.std.specs.Prelude.{codes}
use Rattle.std.specs.Fmt.{digits}
use Rattle.vsl_record.specs.declared.mark.Mark.TheVariants.{Client, Backend}
use Rattle.vsl_record.specs.declared.record_type.Record.{Record}
use Rattle.vsl_record.specs.Unit.{LogUnit}
use Rattle.vsl_record.specs.Words.{unit_words}
use Rattle.traffic_feed.specs.Made.{draw_of, made_units, made_cuts}

-- the draw of the first request
first_draw_of_7 : draw_of 7 0 ≡ 599
first_draw_of_7 = refl

-- the units of a client
abbrev unit : ℕ → List Record → LogUnit
unit vxid records = record { vxid = vxid; mark = Client; records = records }

abbrev line : ℕ → List ℕ → Record
line tag payload = record { tag = tag; mark = Client; payload = payload }

-- and those of a request to the backend
abbrev backend_unit : ℕ → List Record → LogUnit
backend_unit vxid records = record { vxid = vxid; mark = Backend; records = records }

abbrev backend_line : ℕ → List ℕ → Record
backend_line tag payload = record { tag = tag; mark = Backend; payload = payload }

-- a hit: the request, and its session
abbrev request : List Record
request =
    line 42 (codes "req 1 rxreq") ∷
    line 41 (codes "Start: 1650000000.000000 0.000000 0.000000") ∷
    line 26 (codes "10.0.0.7 41000 a0") ∷
    line 53 (codes "GET") ∷
    line 54 (codes "/item/99") ∷
    line 57 (codes "HTTP/1.1") ∷
    line 58 (codes "Host: example.com") ∷
    line 20 (codes "HIT") ∷
    line 31 (codes "1") ∷
    line 63 (codes "200") ∷
    line 41 (codes "Resp: 1650000000.001000 0.001000 0.001000") ∷
    line 27 (codes "80 0 80 200 599 799") ∷
    line 44 [] ∷
    []

abbrev session : List Record
session =
    line 42 (codes "sess 0 HTTP/1") ∷
    line 4 (codes "10.0.0.7 41000 a0 10.0.0.1 80") ∷
    line 43 (codes "req 2 rxreq") ∷
    line 5 (codes "REM_CLOSE 0.010") ∷
    line 44 [] ∷
    []

one_request : made_units 1 7 255 65536 ≡ unit 2 request ∷ unit 1 session ∷ []
unfolding digits
one_request = refl

never_cut : made_cuts 1 7 255 65536 ≡ 0
unfolding digits
never_cut = refl

request_words : length (unit_words (unit 2 request)) ≡ 88
request_words = refl

-- with 64 words a segment the request is cut before its second Timestamp
cut_request : made_units 1 7 255 64 ≡ unit 2 (take 10 request) ∷ unit 2 (drop 10 request) ∷ unit 1 session ∷ []
unfolding digits
cut_request = refl

cut_once : made_cuts 1 7 255 64 ≡ 1
unfolding digits
cut_once = refl

-- a miss: the request to the backend comes first
abbrev fetch : List Record
fetch =
    backend_line 42 (codes "bereq 2 fetch") ∷
    backend_line 69 (codes "GET") ∷
    backend_line 70 (codes "/item/24") ∷
    backend_line 7 (codes "25 main 10.0.0.9 8080 10.0.0.1 40000") ∷
    backend_line 79 (codes "200") ∷
    backend_line 28 (codes "90 0 90 180 224 404") ∷
    backend_line 44 [] ∷
    []

abbrev missing_request : List Record
missing_request =
    line 42 (codes "req 1 rxreq") ∷
    line 41 (codes "Start: 1650000000.000000 0.000000 0.000000") ∷
    line 26 (codes "10.0.0.7 41000 a0") ∷
    line 53 (codes "GET") ∷
    line 54 (codes "/item/24") ∷
    line 57 (codes "HTTP/1.1") ∷
    line 58 (codes "Host: example.com") ∷
    line 20 (codes "MISS") ∷
    line 43 (codes "bereq 3 fetch") ∷
    line 63 (codes "200") ∷
    line 41 (codes "Resp: 1650000000.001000 0.001000 0.001000") ∷
    line 27 (codes "80 0 80 200 224 424") ∷
    line 44 [] ∷
    []

one_miss : made_units 1 2 255 65536 ≡ backend_unit 3 fetch ∷ unit 2 missing_request ∷ unit 1 session ∷ []
unfolding digits
one_miss = refl
