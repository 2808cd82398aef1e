-- The numbers and names that a word states. Numbers are decimal, and leading zeros are taken (this project's choice).
use Rattle.std.specs.Prelude.{ℕ, ◌+◌, ◌==◌, nat_le, if◌then◌else◌, Bool, List, length, take, drop, position, Option, Some, None, codes}
use Rattle.std.specs.Str.{bytes_eq}
use Rattle.vsl_decimal.specs.Whole.{whole_number}
use Rattle.txn_rows.specs.declared.group.Grouping.{Grouping}
use Rattle.txn_rows.specs.declared.group.Grouping.TheVariants.{Raw, Vxid, Request, Session}

-- the number of a text of 1 to 9 digits, where it is in this range
abbrev pub number_in : ℕ → ℕ → List ℕ → Option ℕ
number_in low high text = if nat_le (length text) 9 then whole_number low high text else None

-- whether a byte is a comma
abbrev pub is_comma : ℕ → Bool
is_comma b = b == 44

-- two numbers, where both are there
abbrev pub both : Option ℕ → Option ℕ → Option (ℕ × ℕ)
both None seed = None
both (Some count) None = None
both (Some count) (Some seed) = Some (count, seed)

-- the numbers before and after a comma at a place: 1 to 100,000 requests, and a seed of 0 to 65,536
abbrev pub count_and_seed_at : Option ℕ → List ℕ → Option (ℕ × ℕ)
count_and_seed_at None text = None
count_and_seed_at (Some at) text = both (number_in 1 100000 (take at text)) (number_in 0 65536 (drop (at + 1) text))

-- a count of requests and a seed, round the first comma
abbrev pub count_and_seed : List ℕ → Option (ℕ × ℕ)
count_and_seed text = count_and_seed_at (position is_comma text) text

-- the grouping of this name (vsl-query(7), "Grouping")
abbrev pub grouping_named : List ℕ → Option Grouping
grouping_named text =
    if bytes_eq text (codes "raw") then Some Raw else
    (if bytes_eq text (codes "vxid") then Some Vxid else
    (if bytes_eq text (codes "request") then Some Request else
    (if bytes_eq text (codes "session") then Some Session else None)))
