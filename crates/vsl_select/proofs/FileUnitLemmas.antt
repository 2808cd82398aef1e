-- Where the first unit of records ends.
use Rattle.std.proofs.Common.{add-one, ℕ, zero, suc, ◌+◌, ◌<◌, ◌≤◌, ◌≡◌, true, false, List, [], ◌∷◌, ◌++◌, length, take, drop, get_or, refl, sym, ap, ◌∙◌, arith, drop-cons, leb}
use Rattle.std.proofs.Math.Bool.{and-false}
use Rattle.std.proofs.lemmas.Bool.{lt-leb, le-leb}
use Rattle.std.proofs.lemmas.List.{append-nil, length-append, take_more}
use Rattle.std.proofs.lemmas.List.Concat.{flat_map-append}
use Rattle.std.proofs.lemmas.List.Elements.{All-more}
use Rattle.std.specs.List.{All, flat_map}
use Rattle.vsl_record.specs.declared.mark.Mark.{Mark}
use Rattle.vsl_record.specs.declared.mark.Mark.TheVariants.{Client, Backend, Plain}
use Rattle.vsl_record.specs.declared.record_type.Record.{Record}
use Rattle.vsl_record.specs.Payload.{IsPayload}
use Rattle.txn_rows.specs.Transaction.{first_mark}
use Rattle.vsl_record.specs.Words.{packed, record_words, unit_words}
use Rattle.vsl_select.specs.FileUnits.{most_file_words, file_unit, is_same_mark, goes_into, units_from, units_of}

-- the unit that was begun has the first n records, and so many words
pub record IsBegun (size n : ℕ) (mark : Mark) (records : List Record) : Type 0 where
  pub words : (vxid : ℕ) → size ≡ length (unit_words (file_unit vxid (take n records)))
  pub few : size ≤ most_file_words
  pub marks : All (λ r. r.mark ≡ mark) (take n records)
  pub first : first_mark (take n records) ≡ mark
  pub units : (vxid : ℕ) → units_of vxid records ≡ units_from vxid (take n records) (drop n records)

same_mark : (a b : Mark) → a ≡ b → is_same_mark a b ≡ true
same_mark Client b e = rw (← e) refl
same_mark Backend b e = rw (← e) refl
same_mark Plain b e = rw (← e) refl

-- a payload has no more words than bytes
packed_short : (p : List ℕ) → length (packed p) ≤ length p
packed_short [] = omega arith
packed_short (a ∷ []) = omega arith
packed_short (a ∷ b ∷ []) = omega arith
packed_short (a ∷ b ∷ c ∷ []) = omega arith
packed_short (a ∷ b ∷ c ∷ d ∷ p) = omega (arith, packed_short p)

-- a record has few words
pub record_words_short : (vxid : ℕ) (rec : Record) → IsPayload rec.payload → length (record_words vxid rec) ≤ 4003
record_words_short vxid rec payload = omega (arith, packed_short rec.payload, payload.short)

-- the words of a unit with one record more
words_more : (vxid : ℕ) (records : List Record) (rec : Record)
    → length (unit_words (file_unit vxid (records ++ rec ∷ []))) ≡ length (unit_words (file_unit vxid records)) + length (record_words vxid rec)
words_more vxid records rec = omega (
  arith,
  ap length (flat_map-append (record_words vxid) records (rec ∷ [])),
  length-append (flat_map (record_words vxid) records) (record_words vxid rec ++ []),
  ap length (append-nil (record_words vxid rec)),
)

size_more : (size words vxid : ℕ) (records : List Record) (rec : Record) → size ≡ length (unit_words (file_unit vxid records)) → words ≡ length (record_words vxid rec)
    → size + words ≡ length (unit_words (file_unit vxid (records ++ rec ∷ [])))
size_more size words vxid records rec size_is words_are = omega (arith, size_is, words_are, words_more vxid records rec)

first_mark_more : (records : List Record) (rec : Record) (mark : Mark) → first_mark records ≡ mark → rec.mark ≡ mark → first_mark (records ++ rec ∷ []) ≡ mark
first_mark_more [] rec mark first same = same
first_mark_more (r ∷ records) rec mark first same = first

-- what is left begins with the record there
left_from : (n : ℕ) (records : List Record) (rec : Record) → n < length records → rec ≡ get_or records n rec → drop n records ≡ rec ∷ drop (n + 1) records
left_from n records rec lt is = drop-cons records n rec lt ∙ rw (add-one) (ap (λ (r : Record). r ∷ drop (suc n) records) (sym is))

begun_with : (n : ℕ) (records : List Record) (rec : Record) → n < length records → rec ≡ get_or records n rec → take (n + 1) records ≡ take n records ++ rec ∷ []
begun_with n records rec lt is = take_more records n rec lt ∙ ap (λ (r : Record). take n records ++ r ∷ []) (sym is)

-- a record that goes into the unit
unit_goes_on : (vxid n : ℕ) (records : List Record) (rec : Record) → n < length records → rec ≡ get_or records n rec → goes_into vxid (take n records) rec ≡ true
    → units_from vxid (take n records) (drop n records) ≡ units_from vxid (take (n + 1) records) (drop (n + 1) records)
unit_goes_on vxid n records rec lt is goes = rw (left_from n records rec lt is, begun_with n records rec lt is, goes) refl

-- a record that doesn't go into the unit
unit_ends : (vxid n : ℕ) (records : List Record) (rec : Record) → n < length records → rec ≡ get_or records n rec → goes_into vxid (take n records) rec ≡ false
    → units_from vxid (take n records) (drop n records) ≡ file_unit vxid (take n records) ∷ units_of vxid (drop n records)
unit_ends vxid n records rec lt is stops = rw (left_from n records rec lt is, stops) refl

-- the first record goes into the first unit
pub is_begun : (size : ℕ) (records : List Record) (rec : Record) (mark : Mark) → 0 < length records → rec ≡ get_or records 0 rec → mark ≡ first_mark records
    → ((vxid : ℕ) → size ≡ length (record_words vxid rec)) → IsPayload rec.payload → IsBegun (1 + size) 1 mark records
is_begun size [] rec mark some is mark_is size_is payload = absurd (omega (arith, some))
is_begun size (first ∷ records) rec mark some is mark_is size_is payload =
    let same : rec ≡ first = is in
    record {
      words = λ vxid. omega (arith, size_is vxid, ap (λ (r : Record). length (record_words vxid r)) same, length-append (record_words vxid first) []);
      few = omega (arith, size_is zero, record_words_short zero rec payload);
      marks = All-more (λ r. r.mark ≡ mark) (first ∷ records) 0 rec some (λ k d lt. absurd (omega (arith, lt))) (sym mark_is);
      first = sym mark_is;
      units = λ vxid. refl;
    }

-- a record of the mark, with which the words are not too many, goes into the unit
pub is_begun_more : (size words n : ℕ) (mark : Mark) (records : List Record) (rec : Record) → IsBegun size n mark records → n < length records → rec ≡ get_or records n rec
    → rec.mark ≡ mark → ((vxid : ℕ) → words ≡ length (record_words vxid rec)) → size + words ≤ most_file_words → IsBegun (size + words) (n + 1) mark records
is_begun_more size words n mark records rec begun lt is same words_are fits =
    let with_it = begun_with n records rec lt is in
    record {
      words = λ vxid. rw with_it (size_more size words vxid (take n records) rec (begun.words vxid) (words_are vxid));
      few = fits;
      marks = All-more (λ r. r.mark ≡ mark) records n rec lt begun.marks (ap (λ (r : Record). r.mark) (sym is) ∙ same);
      first = rw with_it (first_mark_more (take n records) rec mark begun.first same);
      units = λ vxid. begun.units vxid ∙ unit_goes_on vxid n records rec lt is
          (rw (begun.first, same_mark mark rec.mark (sym same)) (le-leb _ _ (omega (arith, fits, size_more size words vxid (take n records) rec (begun.words vxid) (words_are vxid)))));
    }

-- a record with which the words are too many ends the unit
pub ends_at_size : (size words n : ℕ) (mark : Mark) (records : List Record) (rec : Record) → IsBegun size n mark records → n < length records → rec ≡ get_or records n rec
    → ((vxid : ℕ) → words ≡ length (record_words vxid rec)) → most_file_words < size + words → (vxid : ℕ) → units_of vxid records ≡ file_unit vxid (take n records) ∷ units_of vxid (drop n records)
ends_at_size size words n mark records rec begun lt is words_are over vxid =
    let too_many : leb (length (unit_words (file_unit vxid (take n records ++ rec ∷ [])))) most_file_words ≡ false =
    lt-leb _ _ (omega (arith, over, size_more size words vxid (take n records) rec (begun.words vxid) (words_are vxid))) in
    begun.units vxid ∙ unit_ends vxid n records rec lt is (rw too_many (and-false _))
