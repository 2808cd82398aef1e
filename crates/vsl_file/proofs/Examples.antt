-- Worked examples of log files, computed from the definitions, in both versions.
use Rattle.std.proofs.Common.{◌≡◌, ℕ, ◌≤◌, true, false, inl, inr, ◌++◌, [], ◌∷◌, length, take, Option, Some, unwrap_or, refl, ap, arith}
use Rattle.std.specs.Prelude.{codes}
use Rattle.vsl_words.specs.declared.version.Version.{Version}
use Rattle.vsl_words.specs.declared.version.Version.TheVariants.{One, Two}
use Rattle.vsl_record.proofs.Examples.{one_ping, fetch, request}
use Rattle.vsl_file.specs.File.{file_header, file_header_of, unit_bytes, unit_bytes_of, log_bytes, log_bytes_of, DiffersFrom, DiffersFirst, HoldsWhole, is_unit_header, stops_early}
use Rattle.vsl_file.specs.inside.Writing.{filled}

ping_file : file_header ++ log_bytes (one_ping ∷ []) ≡
    0x56 ∷ 0x53 ∷ 0x4c ∷ 0x4f ∷ 0x47 ∷ 0x2d ∷ 0x32 ∷ 0x0a ∷
    6 ∷ 0 ∷ 0 ∷ 0xfe ∷ 7 ∷ 0 ∷ 0 ∷ 3 ∷ 0 ∷ 0 ∷ 0 ∷ 0 ∷ 0 ∷ 0 ∷ 0 ∷ 0 ∷ 0x52 ∷ 0x64 ∷ 0x20 ∷ 0x70 ∷ 0x69 ∷ 0x6e ∷ 0x67 ∷ 0 ∷ []
ping_file = refl

ping_length : length (file_header ++ log_bytes (one_ping ∷ [])) ≡ 32
ping_length = refl

fetch_length : length (file_header ++ log_bytes (fetch ∷ request ∷ [])) ≡ 120
fetch_length = refl

-- in version 1 a record is a word shorter
old_ping_file : file_header_of One ++ log_bytes_of One (one_ping ∷ []) ≡
    0x56 ∷ 0x53 ∷ 0x4c ∷ 0x4f ∷ 0x47 ∷ 0x2d ∷ 0x31 ∷ 0x0a ∷
    5 ∷ 0 ∷ 0 ∷ 0xfe ∷ 7 ∷ 0 ∷ 0 ∷ 3 ∷ 0 ∷ 0 ∷ 0 ∷ 0 ∷ 0x52 ∷ 0x64 ∷ 0x20 ∷ 0x70 ∷ 0x69 ∷ 0x6e ∷ 0x67 ∷ 0 ∷ []
old_ping_file = refl

old_fetch_length : length (file_header_of One ++ log_bytes_of One (fetch ∷ request ∷ [])) ≡ 100
old_fetch_length = refl

-- four bytes of a header are no log, and the fifth is missed
early_from : (v : Version) → DiffersFrom v 4 (codes "VSLO")
early_from One = record { inside = omega arith; prefix = refl; differs = λ h. cc }
early_from Two = record { inside = omega arith; prefix = refl; differs = λ h. cc }

early : DiffersFirst 4 (codes "VSLO")
early = record { longest = (Two, early_from Two); none = λ v. (4, omega arith, early_from v) }

apart : (a b : ℕ) → Some a ≡ Some b → (a ≡ b → ⊥) → ⊥
apart a b same other = other (ap (λ (o : Option ℕ). unwrap_or o 0) same)

-- a header of another version is no log from its number on, and one without its line feed from there on
third_from : (v : Version) → DiffersFrom v 6 (codes "VSLOG-3\n")
third_from One = record { inside = omega arith; prefix = refl; differs = λ h. apart 51 49 h (omega arith) }
third_from Two = record { inside = omega arith; prefix = refl; differs = λ h. apart 51 50 h (omega arith) }

third : DiffersFirst 6 (codes "VSLOG-3\n")
third = record { longest = (Two, third_from Two); none = λ v. (6, omega arith, third_from v) }

no_line_end : (v : Version) → (place : ℕ) × (place ≤ 7) × DiffersFrom v place (codes "VSLOG-1 ")
no_line_end One = (7, omega arith, record { inside = omega arith; prefix = refl; differs = λ h. apart 32 10 h (omega arith) })
no_line_end Two = (6, omega arith, record { inside = omega arith; prefix = refl; differs = λ h. apart 49 50 h (omega arith) })

behind_the_number : DiffersFirst 7 (codes "VSLOG-1 ")
unfolding no_line_end
behind_the_number = record { longest = (One, (no_line_end One).2); none = no_line_end }

-- a file without its last byte stops early, at the second unit
stopped : stops_early Two (14 ∷ 0 ∷ 0 ∷ 0xfe ∷ 7 ∷ []) ≡ true
stopped = refl

not_stopped : stops_early Two (14 ∷ 0 ∷ 0 ∷ 0xfd ∷ 7 ∷ []) ≡ false
not_stopped = refl

-- a unit's header counts 4 to 2,097,152 words under the top byte 0xFE, in version 1 3 to 1,048,576
least_header : is_unit_header Two 0xfe00_0004 ≡ true
least_header = refl

most_header : is_unit_header Two 0xfe20_0000 ≡ true
most_header = refl

too_few_words : is_unit_header Two 0xfe00_0003 ≡ false
too_few_words = refl

too_many_words : is_unit_header Two 0xfe20_0001 ≡ false
too_many_words = refl

other_top : is_unit_header Two 0xfd00_0005 ≡ false
other_top = refl

old_least_header : is_unit_header One 0xfe00_0003 ≡ true
old_least_header = refl

old_most_header : is_unit_header One 0xfe10_0000 ≡ true
old_most_header = refl

old_too_few_words : is_unit_header One 0xfe00_0002 ≡ false
old_too_few_words = refl

old_too_many_words : is_unit_header One 0xfe10_0001 ≡ false
old_too_many_words = refl

-- a unit stops early without its last byte, and not with it; so do three bytes, and none
cut_ping : stops_early Two (take 23 (unit_bytes one_ping)) ≡ true
cut_ping = refl

whole_ping : stops_early Two (unit_bytes one_ping) ≡ false
whole_ping = refl

cut_old_ping : stops_early One (take 19 (unit_bytes_of One one_ping)) ≡ true
cut_old_ping = refl

whole_old_ping : stops_early One (unit_bytes_of One one_ping) ≡ false
whole_old_ping = refl

three_bytes : stops_early Two (5 ∷ 0 ∷ 0 ∷ []) ≡ true
three_bytes = refl

no_bytes : stops_early Two [] ≡ true
no_bytes = refl

-- no unit lies whole in seven bytes of the header, nor in the header and all but the last byte of a unit
in_header : HoldsWhole (take 7 file_header) []
in_header = inl (omega arith, refl)

behind_header : HoldsWhole (file_header ++ take 23 (unit_bytes one_ping)) []
behind_header = inr (Two, take 23 (unit_bytes one_ping), record { are_units = tt; parts = refl }, cut_ping)

behind_old_header : HoldsWhole (file_header_of One ++ take 19 (unit_bytes_of One one_ping)) []
behind_old_header = inr (One, take 19 (unit_bytes_of One one_ping), record { are_units = tt; parts = refl }, cut_old_ping)

-- a payload of seven bytes is filled with one
seven_filled : filled (codes "Rd ping") ≡ 0x52 ∷ 0x64 ∷ 0x20 ∷ 0x70 ∷ 0x69 ∷ 0x6e ∷ 0x67 ∷ 0 ∷ []
seven_filled = refl

four_filled : filled (codes "ping") ≡ codes "ping"
four_filled = refl
