-- Worked examples of words and of first faults, computed from the definitions, in both versions.
use Rattle.std.proofs.Common.{◌≡◌, ℕ, suc, ◌+◌, ◌*◌, ◌%◌, ◌<◌, List, [], ◌∷◌, length, take, drop, get_or, Some, None, inl, inr, refl, arith}
use Rattle.std.specs.Prelude.{codes}
use Rattle.vsl_tags.specs.Tags.{last_tag}
use Rattle.vsl_words.specs.declared.version.Version.{Version}
use Rattle.vsl_words.specs.declared.version.Version.TheVariants.{One, Two}
use Rattle.vsl_words.specs.Versions.{vxid_end_of, id_in}
use Rattle.vsl_words.specs.Words.{is_filled}
use Rattle.vsl_record.specs.declared.mark.Mark.TheVariants.{Client, Backend, Plain}
use Rattle.vsl_record.specs.declared.record_type.Record.{Record}
use Rattle.vsl_record.specs.declared.fault.WordFault.{WordFault}
use Rattle.vsl_record.specs.declared.fault.WordFault.TheVariants.{Short, BadTag, BadLength, BadMark, Mixed, BadPadding}
use Rattle.vsl_record.specs.Unit.{LogUnit}
use Rattle.vsl_record.specs.WordFaults.{header_fault, mixed_fault, record_fault, FirstFault}
use Rattle.vsl_record.specs.Words.{unit_words, unit_words1, word_bytes}

-- one record CLI "Rd ping", of no transaction and no mark
abbrev pub one_ping : LogUnit
one_ping = record { vxid = 0; mark = Plain; records = record { tag = 3; mark = Plain; payload = codes "Rd ping" } ∷ [] }

-- a backend request that only begins and ends
abbrev pub fetch : LogUnit
fetch = record {
  vxid = 3;
  mark = Backend;
  records =
      record { tag = 42; mark = Backend; payload = codes "bereq 2 fetch" } ∷
      record { tag = 44; mark = Backend; payload = [] } ∷ [];
}

-- the client's request that links to it
abbrev pub request : LogUnit
request = record {
  vxid = 2;
  mark = Client;
  records =
      record { tag = 42; mark = Client; payload = codes "req 1 rxreq" } ∷
      record { tag = 43; mark = Client; payload = codes "bereq 3 fetch" } ∷
      record { tag = 44; mark = Client; payload = [] } ∷ [];
}

-- the end of the request with the highest VXID
abbrev pub highest : LogUnit
highest = record { vxid = 4611686018427387903; mark = Client; records = record { tag = 44; mark = Client; payload = [] } ∷ [] }

ping_words : unit_words one_ping ≡ 0xfe000006 ∷ 0x03000007 ∷ 0x00000000 ∷ 0x00000000 ∷ 0x70206452 ∷ 0x00676e69 ∷ []
ping_words = refl

ping_words1 : unit_words1 one_ping ≡ 0xfe000005 ∷ 0x03000007 ∷ 0x00000000 ∷ 0x70206452 ∷ 0x00676e69 ∷ []
ping_words1 = refl

ping_bytes : word_bytes (unit_words one_ping) ≡
    6 ∷ 0 ∷ 0 ∷ 0xfe ∷ 7 ∷ 0 ∷ 0 ∷ 3 ∷ 0 ∷ 0 ∷ 0 ∷ 0 ∷ 0 ∷ 0 ∷ 0 ∷ 0 ∷ 0x52 ∷ 0x64 ∷ 0x20 ∷ 0x70 ∷ 0x69 ∷ 0x6e ∷ 0x67 ∷ 0 ∷ []
ping_bytes = refl

-- the lower word of a VXID stands first; a backend's mark is bit 31 of the last word of an id, and a client's bit 30
highest_words : unit_words highest ≡ 0xfe000004 ∷ 0x2c000000 ∷ 0xffffffff ∷ 0x7fffffff ∷ []
highest_words = refl

fetch_words : unit_words fetch ≡
    0xfe00000b ∷ 0x2a00000d ∷ 3 ∷ 0x80000000 ∷ 0x65726562 ∷ 0x20322071 ∷ 0x63746566 ∷ 0x68 ∷ 0x2c000000 ∷ 3 ∷ 0x80000000 ∷ []
fetch_words = refl

fetch_words1 : unit_words1 fetch ≡ 0xfe000009 ∷ 0x2a00000d ∷ 0x80000003 ∷ 0x65726562 ∷ 0x20322071 ∷ 0x63746566 ∷ 0x68 ∷ 0x2c000000 ∷ 0x80000003 ∷ []
fetch_words1 = refl

request_words1 : unit_words1 request ≡
    0xfe00000e ∷ 0x2a00000b ∷ 0x40000002 ∷ 0x20716572 ∷ 0x78722031 ∷ 0x00716572 ∷ 0x2b00000d ∷ 0x40000002 ∷ 0x65726562 ∷ 0x20332071 ∷ 0x63746566 ∷ 0x68 ∷ 0x2c000000 ∷ 0x40000002 ∷ []
request_words1 = refl

-- ---- first faults

-- words whose first record has a fault
in_first : (v : Version) (words : List ℕ) (fault : WordFault) → let unit = take (get_or words 0 0 % 16777216) words in 0 < vxid_end_of v → header_fault v (get_or words 0 0) (length words) ≡ None → unit ≡ get_or words 0 0 ∷ drop 1 unit → 0 < length (drop 1 unit)
    → record_fault v (id_in v (drop 2 words)) 1 (drop 1 unit) ≡ Some fault → FirstFault v words fault
in_first v words fault range good whole some faulty =
    inr (good, record { before = record { vxid = 0; mark = Plain; records = [] }; rest = drop 1 (take (get_or words 0 0 % 16777216) words); vxid = range; records = tt; parts = whole; some = some; faulty = faulty })

no_words : FirstFault Two [] Short
unfolding header_fault
no_words = inl refl

cut : FirstFault Two (0xfe000006 ∷ 0x03000007 ∷ 0x00000000 ∷ 0x00000000 ∷ 0x70206452 ∷ []) Short
unfolding header_fault
cut = inl refl

cut1 : FirstFault One (0xfe000005 ∷ 0x03000007 ∷ 0x00000000 ∷ 0x70206452 ∷ []) Short
unfolding header_fault
cut1 = inl refl

no_header : FirstFault Two (0x03000007 ∷ 0x00000000 ∷ 0x00000000 ∷ 0x70206452 ∷ 0x00676e69 ∷ []) (BadTag 0)
unfolding header_fault
no_header = inl refl

-- a header that can't be one is a fault also where words are missing
three_words_counted : FirstFault Two (0xfe000003 ∷ []) (BadLength 0)
unfolding header_fault
three_words_counted = inl refl

two_words_counted : FirstFault One (0xfe000002 ∷ []) (BadLength 0)
unfolding header_fault
two_words_counted = inl refl

too_many_counted : FirstFault Two (0xfe200001 ∷ []) (BadLength 0)
unfolding header_fault
too_many_counted = inl refl

most_counted : FirstFault Two (0xfe200000 ∷ []) Short
unfolding header_fault
most_counted = inl refl

too_many_counted1 : FirstFault One (0xfe100001 ∷ []) (BadLength 0)
unfolding header_fault
too_many_counted1 = inl refl

most_counted1 : FirstFault One (0xfe100000 ∷ []) Short
unfolding header_fault
most_counted1 = inl refl

tag_0 : FirstFault Two (0xfe000004 ∷ 0 ∷ 0 ∷ 0 ∷ []) (BadTag 1)
unfolding header_fault record_fault
tag_0 = in_first Two (0xfe000004 ∷ 0 ∷ 0 ∷ 0 ∷ []) (BadTag 1) (omega arith) refl refl (omega arith) refl

behind_the_last_tag : FirstFault Two (0xfe000004 ∷ (16777216 * (last_tag + 1)) ∷ 0 ∷ 0 ∷ []) (BadTag 1)
unfolding header_fault record_fault
behind_the_last_tag = in_first Two (0xfe000004 ∷ (16777216 * (last_tag + 1)) ∷ 0 ∷ 0 ∷ []) (BadTag 1) (omega arith) refl refl (omega arith) refl

-- 4,001 bytes; the tag is looked at first, and the id after
length_4001 : FirstFault Two (0xfe000004 ∷ 0x03000fa1 ∷ 0 ∷ 0xc0000000 ∷ []) (BadLength 1)
unfolding header_fault record_fault
length_4001 = in_first Two (0xfe000004 ∷ 0x03000fa1 ∷ 0 ∷ 0xc0000000 ∷ []) (BadLength 1) (omega arith) refl refl (omega arith) refl

-- the record passes the unit's end, but not that of the words
past_the_end : FirstFault Two (0xfe000004 ∷ 0x03000001 ∷ 0 ∷ 0 ∷ 0x00000061 ∷ []) (BadLength 1)
unfolding header_fault record_fault
past_the_end = in_first Two (0xfe000004 ∷ 0x03000001 ∷ 0 ∷ 0 ∷ 0x00000061 ∷ []) (BadLength 1) (omega arith) refl refl (omega arith) refl

-- words of version 1 are those of a record that passes the end in version 2
old_words : FirstFault Two (0xfe000005 ∷ 0x03000007 ∷ 0x00000000 ∷ 0x70206452 ∷ 0x00676e69 ∷ []) (BadLength 1)
unfolding header_fault record_fault
old_words = in_first Two (0xfe000005 ∷ 0x03000007 ∷ 0x00000000 ∷ 0x70206452 ∷ 0x00676e69 ∷ []) (BadLength 1) (omega arith) refl refl (omega arith) refl

-- both marks, before the padding
both_marks : FirstFault Two (0xfe000005 ∷ 0x03000001 ∷ 0 ∷ 0xc0000000 ∷ 0x01000061 ∷ []) (BadMark 3)
unfolding header_fault record_fault mixed_fault
both_marks = in_first Two (0xfe000005 ∷ 0x03000001 ∷ 0 ∷ 0xc0000000 ∷ 0x01000061 ∷ []) (BadMark 3) (omega arith) refl refl (omega arith) refl

both_marks1 : FirstFault One (0xfe000004 ∷ 0x03000001 ∷ 0xc0000000 ∷ 0x01000061 ∷ []) (BadMark 2)
unfolding header_fault record_fault mixed_fault
both_marks1 = in_first One (0xfe000004 ∷ 0x03000001 ∷ 0xc0000000 ∷ 0x01000061 ∷ []) (BadMark 2) (omega arith) refl refl (omega arith) refl

filled_with_one : FirstFault Two (0xfe000006 ∷ 0x03000007 ∷ 0 ∷ 0 ∷ 0x70206452 ∷ 0x01676e69 ∷ []) (BadPadding 5)
unfolding header_fault record_fault mixed_fault is_filled
filled_with_one = in_first Two (0xfe000006 ∷ 0x03000007 ∷ 0 ∷ 0 ∷ 0x70206452 ∷ 0x01676e69 ∷ []) (BadPadding 5) (omega arith) refl refl (omega arith) refl

filled_with_one1 : FirstFault One (0xfe000005 ∷ 0x03000007 ∷ 0 ∷ 0x70206452 ∷ 0x01676e69 ∷ []) (BadPadding 4)
unfolding header_fault record_fault mixed_fault is_filled
filled_with_one1 = in_first One (0xfe000005 ∷ 0x03000007 ∷ 0 ∷ 0x70206452 ∷ 0x01676e69 ∷ []) (BadPadding 4) (omega arith) refl refl (omega arith) refl

-- the padding of a record before the tag of the next
padding_then_tag : FirstFault Two (0xfe000008 ∷ 0x03000001 ∷ 0 ∷ 0 ∷ 0x01000061 ∷ 0 ∷ 0 ∷ 0 ∷ []) (BadPadding 4)
unfolding header_fault record_fault mixed_fault is_filled
padding_then_tag = in_first Two (0xfe000008 ∷ 0x03000001 ∷ 0 ∷ 0 ∷ 0x01000061 ∷ 0 ∷ 0 ∷ 0 ∷ []) (BadPadding 4) (omega arith) refl refl (omega arith) refl

-- words whose second record has a fault, behind one with nothing to say
in_second : (head : ℕ) (rest : List ℕ) (fault : WordFault) → header_fault Two head (suc (suc (suc (suc (length rest))))) ≡ None → take (head % 16777216) (head ∷ 0x2c000000 ∷ 7 ∷ 0x40000001 ∷ rest) ≡ head ∷ 0x2c000000 ∷ 7 ∷ 0x40000001 ∷ rest → 0 < length rest
    → record_fault Two 0x4000000100000007 4 rest ≡ Some fault → FirstFault Two (head ∷ 0x2c000000 ∷ 7 ∷ 0x40000001 ∷ rest) fault
in_second head rest fault good whole some faulty =
    let end : Record = record { tag = 44; mark = Client; payload = [] } in
    inr (
      good,
      record {
        before = record { vxid = 4294967303; mark = Client; records = end ∷ [] };
        rest = rest;
        vxid = omega arith;
        records = (record { tag = omega arith; has_mark = refl; payload = record { bytes = λ i. omega arith; short = omega arith } }, tt);
        parts = whole;
        some = some;
        faulty = faulty;
      },
    )

-- the first word of the id that differs is told
another_low : FirstFault Two (0xfe000007 ∷ 0x2c000000 ∷ 7 ∷ 0x40000001 ∷ 0x2c000000 ∷ 8 ∷ 0x40000002 ∷ []) (Mixed 5)
unfolding header_fault record_fault mixed_fault
another_low = in_second 0xfe000007 (0x2c000000 ∷ 8 ∷ 0x40000002 ∷ []) (Mixed 5) refl refl (omega arith) refl

another_high : FirstFault Two (0xfe000007 ∷ 0x2c000000 ∷ 7 ∷ 0x40000001 ∷ 0x2c000000 ∷ 7 ∷ 0x40000002 ∷ []) (Mixed 6)
unfolding header_fault record_fault mixed_fault
another_high = in_second 0xfe000007 (0x2c000000 ∷ 7 ∷ 0x40000002 ∷ []) (Mixed 6) refl refl (omega arith) refl

-- both marks in a later record are another id
both_marks_later : FirstFault Two (0xfe000007 ∷ 0x2c000000 ∷ 7 ∷ 0x40000001 ∷ 0x2c000000 ∷ 7 ∷ 0xc0000001 ∷ []) (Mixed 6)
unfolding header_fault record_fault mixed_fault
both_marks_later = in_second 0xfe000007 (0x2c000000 ∷ 7 ∷ 0xc0000001 ∷ []) (Mixed 6) refl refl (omega arith) refl

-- the tag of a record before its padding
tag_then_padding : FirstFault Two (0xfe000008 ∷ 0x2c000000 ∷ 7 ∷ 0x40000001 ∷ 0xff000001 ∷ 7 ∷ 0x40000001 ∷ 0x01000061 ∷ []) (BadTag 4)
unfolding header_fault record_fault
tag_then_padding = in_second 0xfe000008 (0xff000001 ∷ 7 ∷ 0x40000001 ∷ 0x01000061 ∷ []) (BadTag 4) refl refl (omega arith) refl

-- of a record only the first word lies in the unit, or only the first two
one_word_left : FirstFault Two (0xfe000005 ∷ 0x2c000000 ∷ 7 ∷ 0x40000001 ∷ 0x2c000000 ∷ []) (BadLength 4)
unfolding header_fault record_fault
one_word_left = in_second 0xfe000005 (0x2c000000 ∷ []) (BadLength 4) refl refl (omega arith) refl

two_words_left : FirstFault Two (0xfe000006 ∷ 0x2c000000 ∷ 7 ∷ 0x40000001 ∷ 0x2c000000 ∷ 7 ∷ []) (BadLength 4)
unfolding header_fault record_fault
two_words_left = in_second 0xfe000006 (0x2c000000 ∷ 7 ∷ []) (BadLength 4) refl refl (omega arith) refl

-- in version 1 an id is one word
another_vxid1 : record_fault One 0x40000007 3 (0x2c000000 ∷ 0x40000008 ∷ []) ≡ Some (Mixed 4)
unfolding record_fault mixed_fault
another_vxid1 = refl

one_word_left1 : record_fault One 0x40000007 3 (0x2c000000 ∷ []) ≡ Some (BadLength 3)
unfolding record_fault
one_word_left1 = refl
