-- Words begin with one unit of a version, or have one first fault.
use Rattle.std.proofs.Common.{◌≡◌, ℕ, suc, ◌+◌, ◌-◌, ◌*◌, ◌/◌, ◌%◌, ◌^◌, ◌<◌, ◌≤◌, ◌⊎◌, inl, inr, true, ◌&&◌, leb, List, [], ◌∷◌, ◌++◌, length, take, drop, get_or, Option, Some, None, Result, Ok, Err, refl, sym, ap, ◌∙◌, arith}
use Rattle.std.specs.List.{flat_map, AllByRecursion}
use Rattle.std.proofs.lemmas.Bool.{eqb-true, leb-true, le-leb, and_parts, and_from}
use Rattle.std.proofs.lemmas.List.{append-nil, length-append, length-take, length-take-le, length-drop, get_or-take, get_or-drop, take-take, take-append-drop, take_all, take_at, drop_at}
use Rattle.vsl_record.specs.declared.mark.Mark.{Mark}
use Rattle.vsl_record.specs.declared.record_type.Record.{Record}
use Rattle.vsl_record.specs.declared.fault.WordFault.{WordFault}
use Rattle.vsl_record.specs.Unit.{LogUnit, IsRecordOf}
use Rattle.vsl_record.specs.Words.{header_mark}
use Rattle.vsl_record.proofs.Steps.{IsWords, below_cons, below_take, below_drop, unless_none}
use Rattle.vsl_words.specs.declared.version.Version.{Version}
use Rattle.vsl_words.specs.declared.version.Version.TheVariants.{One, Two}
use Rattle.vsl_words.specs.Versions.{id_size, vxid_end_of, most_words_of, id_in}
use Rattle.vsl_record.specs.Words.{id_of, record_words_of, body_words_of, unit_words_of, IsUnitOf}
use Rattle.vsl_record.specs.WordFaults.{header_fault, record_fault, HasBadRecord, FirstFault}
use Rattle.vsl_record.specs.inside.UnitReading.{mark_of, IsHeaded, AreRecordsRead, StopsAt}
use Rattle.vsl_words.proofs.IdLemmas.{most_small, id_below}
use Rattle.vsl_record.proofs.MarkLemmas.{id_tells}
use Rattle.vsl_record.proofs.RecordsLemmas.{records_split, after_none, with_records, records_at, records_stop, records_again, first_id, two_words, some_record, records_small}

-- the id of the first record lies before the end of the words that a header counts
id_before_end : (v : Version) (n : ℕ) (words : List ℕ) → 2 + id_size v ≤ n → id_in v (drop 2 (take n words)) ≡ id_in v (drop 2 words)
id_before_end One n words some = get_or-drop 2 (take n words) 0 0 ∙ (get_or-take n words 2 0 (omega arith) ∙ sym (get_or-drop 2 words 0 0))
id_before_end Two n words some =
    let low : get_or (drop 2 (take n words)) 0 0 ≡ get_or (drop 2 words) 0 0 = get_or-drop 2 (take n words) 0 0 ∙ (get_or-take n words 2 0 (omega arith) ∙ sym (get_or-drop 2 words 0 0)) in
    let high : get_or (drop 2 (take n words)) 1 0 ≡ get_or (drop 2 words) 1 0 = get_or-drop 2 (take n words) 1 0 ∙ (get_or-take n words 3 0 (omega arith) ∙ sym (get_or-drop 2 words 1 0)) in
    (λ i. low i + 4294967296 * high i)

-- ---- what was read

-- what a header without a fault tells
record HeaderTells (v : Version) (head count : ℕ) : Type 0 where
  pub top : head / 16777216 ≡ 254
  pub some : 2 + id_size v ≤ head % 16777216
  pub few : head % 16777216 ≤ most_words_of v
  pub enough : head % 16777216 ≤ count

header_tells : (v : Version) (head count : ℕ) → header_fault v head count ≡ None → HeaderTells v head count
unfolding header_fault
header_tells v head count e =
    let a = unless_none _ _ _ e in
    let b = unless_none _ _ _ a.1 in
    let c = unless_none _ _ _ b.1 in
    let d = unless_none _ _ _ c.1 in
    let sizes = and_parts (leb (2 + id_size v) (head % 16777216)) (leb (head % 16777216) (most_words_of v)) c.0 in
    record { top = eqb-true _ _ b.0; some = leb-true _ _ sizes.0; few = leb-true _ _ sizes.1; enough = leb-true _ _ d.0 }

-- the first words, as many as a header without a fault counts
pub headed_take : (v : Version) (words : List ℕ) (n : ℕ) → n ≡ get_or words 0 0 % 16777216 → header_fault v (get_or words 0 0) (length words) ≡ None → IsHeaded v (take n words)
headed_take v words n is e =
    let tells = header_tells v (get_or words 0 0) (length words) e in
    let first : get_or (take n words) 0 0 ≡ get_or words 0 0 = get_or-take n words 0 0 (omega (arith, is, tells.some)) in
    let size : length (take n words) ≡ n = length-take-le n words (omega (arith, is, tells.enough)) in
    record { top = rw first tells.top; some = rw first tells.some; few = rw first tells.few; whole = rw first (size ∙ is) }

first_and_rest : (words : List ℕ) → 0 < length words → words ≡ get_or words 0 0 ∷ drop 1 words
first_and_rest [] some = absurd (omega (arith, some))
first_and_rest (w ∷ words) some = refl

-- records that fill the words are those of a unit
pub unit_read : (v : Version) (words : List ℕ) (id : ℕ) (records : List Record) → IsHeaded v words → AreRecordsRead v id (drop 1 words) records []
    → IsUnitOf v (record { vxid = id % vxid_end_of v; mark = mark_of v id; records = records }) × (words ≡ unit_words_of v (record { vxid = id % vxid_end_of v; mark = mark_of v id; records = records }))
unit_read v words id records head read =
    let body : List ℕ = flat_map (record_words_of v (id % vxid_end_of v)) records in
    let body_is : drop 1 words ≡ body = read.parts ∙ append-nil body in
    let count : length body ≡ length words - 1 = sym (ap length body_is) ∙ length-drop 1 words in
    let head_is : get_or words 0 0 ≡ header_mark + (1 + length body) = omega (arith, head.top, head.some, head.whole) in (
      record { vxid = id_below v id; some = some_record v (id % vxid_end_of v) records (omega (arith, head.some, head.whole)); records = read.are_records; size = omega (arith, head.few, head.whole) },
      first_and_rest words (omega (arith, head.some, head.whole)) ∙ ap (λ (k : ℕ). k ∷ drop 1 words) head_is ∙ ap (λ (ws : List ℕ). (header_mark + (1 + length body)) ∷ ws) body_is,
    )

-- records and then one with a fault
pub bad_read : (v : Version) (words : List ℕ) (fault : WordFault) → IsHeaded v words → StopsAt v (id_in v (drop 2 words)) (drop 1 words) fault → HasBadRecord v words fault
bad_read v words fault head stop =
    let id : ℕ = id_in v (drop 2 words) in
    let body : List ℕ = flat_map (record_words_of v (id % vxid_end_of v)) stop.before in
    let size : length (drop 1 words) ≡ length body + length stop.rest = ap length stop.read.parts ∙ length-append body stop.rest in
    let place : 1 + length (drop 1 words) - length stop.rest ≡ 1 + length body = omega (arith, size) in
    record {
      before = record { vxid = id % vxid_end_of v; mark = mark_of v id; records = stop.before };
      rest = stop.rest;
      vxid = id_below v id;
      records = stop.read.are_records;
      parts = take_all (get_or words 0 0 % 16777216) words (omega (arith, head.whole)) ∙ first_and_rest words (omega (arith, head.some, head.whole)) ∙ ap (λ (ws : List ℕ). get_or words 0 0 ∷ ws) stop.read.parts;
      some = stop.some;
      faulty = sym (ap (λ (k : ℕ). record_fault v id k stop.rest) place) ∙ stop.faulty;
    }

-- words behind the unit's change nothing
pub bad_before : (v : Version) (words : List ℕ) (n : ℕ) (fault : WordFault) → n ≡ get_or words 0 0 % 16777216 → 2 + id_size v ≤ n → HasBadRecord v (take n words) fault → HasBadRecord v words fault
bad_before v words n fault is some bad =
    let first : get_or (take n words) 0 0 ≡ get_or words 0 0 = get_or-take n words 0 0 (omega (arith, some)) in
    let third : id_in v (drop 2 (take n words)) ≡ id_in v (drop 2 words) = id_before_end v n words some in
    let size : get_or (take n words) 0 0 % 16777216 ≡ n = ap (λ (k : ℕ). k % 16777216) first ∙ sym is in
    record {
      before = bad.before;
      rest = bad.rest;
      vxid = bad.vxid;
      records = bad.records;
      parts = ap (λ (k : ℕ). take k words) (sym is) ∙ sym (take-take n n words (omega arith)) ∙ ap (λ (k : ℕ). take k (take n words)) (sym size) ∙ bad.parts ∙ ap (λ (k : ℕ). k ∷ body_words_of v bad.before ++ bad.rest) first;
      some = bad.some;
      faulty = ap (λ (k : ℕ). record_fault v k (1 + length (body_words_of v bad.before)) bad.rest) (sym third) ∙ bad.faulty;
    }

-- words begin with a unit or have a first fault
abbrev pub UnitOrFault : Version → List ℕ → Type 0
UnitOrFault v words = ((u : LogUnit) × (rest : List ℕ) × IsUnitOf v u × (words ≡ unit_words_of v u ++ rest)) ⊎ ((fault : WordFault) × FirstFault v words fault)

words_by_header : (v : Version) (words : List ℕ) (o : Option WordFault) → header_fault v (get_or words 0 0) (length words) ≡ o → IsWords words → UnitOrFault v words
words_by_header v words (Some fault) e all = inr (fault, inl e)
words_by_header v words None e all =
    let n : ℕ = get_or words 0 0 % 16777216 in
    let part : List ℕ = take n words in
    let head = headed_take v words n refl e in
    let some : 2 + id_size v ≤ n = omega (arith, head.some, head.whole, length-take n words) in
    let id : ℕ = id_in v (drop 2 part) in
    let split = records_split v (length (drop 1 part)) id 1 (drop 1 part) (below_drop (2 ^ 32) 1 part (below_take (2 ^ 32) n words (omega arith) all)) (omega arith) in
    elim split.ends [
      | inl none ↦
          let read = unit_read v part id split.before head (rw none at split.read) in
          inl (_, drop n words, read.0, sym (take-append-drop n words) ∙ ap (λ (ws : List ℕ). ws ++ drop n words) read.1)
      | inr (left, fault, faulty) ↦
          inr (fault, inr (e, bad_before v words n fault refl some (bad_read v part fault head (record { before = split.before; rest = split.rest; read = split.read; some = left; faulty = faulty }))))
    ]

pub every_words_of : (v : Version) (words : List ℕ) → IsWords words → UnitOrFault v words
every_words_of v words all = words_by_header v words (header_fault v (get_or words 0 0) (length words)) refl all

-- ---- it is one

unit_of : Version → ℕ → List ℕ → Result (List Record) WordFault → Result (LogUnit × List ℕ) WordFault
unit_of v id after (Ok records) = Ok (record { vxid = id % vxid_end_of v; mark = mark_of v id; records = records }, after)
unit_of v id after (Err fault) = Err fault

-- the unit at the beginning of the words and the words after it, or the first fault
unfoldable unit_at : Version → List ℕ → Result (LogUnit × List ℕ) WordFault
unit_at v words =
    after_none (header_fault v (get_or words 0 0) (length words)) (
    unit_of v (id_in v (drop 2 words)) (drop (get_or words 0 0 % 16777216) words) (
    records_at v (get_or words 0 0 % 16777216) (id_in v (drop 2 words)) 1 (drop 1 (take (get_or words 0 0 % 16777216) words))))

-- a unit's words are read as that unit
unit_again : (v : Version) (u : LogUnit) (rest : List ℕ) → IsUnitOf v u → unit_at v (unit_words_of v u ++ rest) ≡ Ok (u, rest)
unfolding unit_at header_fault unit_of records_at
unit_again v u rest fits =
    let n : ℕ = length (body_words_of v u) in
    let tells = id_tells v u.vxid u.mark fits.vxid in
    let two : 1 + id_size v ≤ length (body_words_of v u) = two_words v u.vxid u.records fits.some in
    let most = most_small v in
    let size : suc (length (body_words_of v u)) ≤ most_words_of v = fits.size in
    let top : (header_mark + (1 + length (body_words_of v u))) / 16777216 ≡ 254 = omega arith in
    let low : (header_mark + (1 + length (body_words_of v u))) % 16777216 ≡ suc (length (body_words_of v u)) = omega arith in
    let in_size : (leb (2 + id_size v) (suc (length (body_words_of v u))) && leb (suc (length (body_words_of v u))) (most_words_of v)) ≡ true = and_from _ _ (le-leb (2 + id_size v) (suc (length (body_words_of v u))) (omega arith)) (le-leb (suc (length (body_words_of v u))) (most_words_of v) (omega arith)) in
    let word : leb 1 (suc (length (body_words_of v u ++ rest))) ≡ true = le-leb _ _ (omega arith) in
    let long : leb (suc (length (body_words_of v u))) (suc (length (body_words_of v u ++ rest))) ≡ true = le-leb _ _ (omega (arith, length-append (body_words_of v u) rest)) in
    let all : records_at v (suc (length (body_words_of v u))) (id_of v u.vxid u.mark) 1 (body_words_of v u) ≡ Ok u.records =
    ap (records_at v (suc n) (id_of v u.vxid u.mark) 1) (sym (append-nil (body_words_of v u))) ∙ records_again v (suc n) u.vxid 1 u.mark u.records [] fits.vxid fits.records (omega (arith, length-append (body_words_of v u) []))
    ∙ ap (λ (records : List Record). Ok records) (append-nil u.records) in
    rw (word, top, low, in_size, long, first_id v u.vxid u.mark u.records rest fits.some fits.records, take_at (body_words_of v u) rest n refl, drop_at (body_words_of v u) rest n refl, all, tells.mark, tells.low) refl

-- records are no more than their words
fewer_records : (v : Version) (vxid : ℕ) (records : List Record) → length records ≤ length (flat_map (record_words_of v vxid) records)
fewer_records v vxid [] = omega arith
fewer_records v vxid (rec ∷ records) = omega (arith, fewer_records v vxid records, length-append (record_words_of v vxid rec) (flat_map (record_words_of v vxid) records))

-- good records and one with a fault are read as that fault
bad_again : (v : Version) (most id vxid : ℕ) (m : Mark) (records : List Record) (rest : List ℕ) (fault : WordFault) → vxid < vxid_end_of v → AllByRecursion (IsRecordOf m) records → length (flat_map (record_words_of v vxid) records ++ rest) ≤ most
    → (0 < length records → id ≡ id_of v vxid m) → 0 < length rest → record_fault v id (1 + length (flat_map (record_words_of v vxid) records)) rest ≡ Some fault → records_at v most id 1 (flat_map (record_words_of v vxid) records ++ rest) ≡ Err fault
bad_again v most id vxid m [] rest fault small fits enough is some faulty = records_stop v most id 1 rest fault (omega (arith, enough, some)) some faulty
bad_again v most id vxid m (rec ∷ records) rest fault small fits enough is some faulty =
    let all : List Record = rec ∷ records in
    let body : List ℕ = flat_map (record_words_of v vxid) all in
    let id_is : id ≡ id_of v vxid m = is (omega arith) in
    let room : 0 < most - length all = omega (arith, enough, some, length-append body rest, fewer_records v vxid all) in
    let stop = records_stop v (most - length all) id (1 + length body) rest fault room some faulty in
    ap (λ (k : ℕ). records_at v most k 1 (body ++ rest)) id_is ∙ records_again v most vxid 1 m all rest small fits enough ∙ ap (with_records all) (sym (ap (λ (k : ℕ). records_at v (most - length all) k (1 + length body) rest) id_is) ∙ stop)

-- the id of the records before
id_before : (v : Version) (words : List ℕ) (bad_vxid : ℕ) (m : Mark) (records : List Record) (head : ℕ) (rest : List ℕ) (n : ℕ) → AllByRecursion (IsRecordOf m) records → take n words ≡ head ∷ flat_map (record_words_of v bad_vxid) records ++ rest → 0 < length records
    → id_in v (drop 2 words) ≡ id_of v bad_vxid m
id_before v words vxid m records head rest n fits parts some =
    let body : List ℕ = flat_map (record_words_of v vxid) records in
    let size : 2 + id_size v ≤ n = omega (arith, two_words v vxid records some, ap length parts, length-take n words, length-append body rest) in
    sym (id_before_end v n words size) ∙ ap (λ (ws : List ℕ). id_in v (drop 2 ws)) parts ∙ first_id v vxid m records rest some fits

-- words with a first fault are read as that fault
fault_again : (v : Version) (words : List ℕ) (fault : WordFault) → FirstFault v words fault → unit_at v words ≡ Err fault
unfolding unit_at unit_of
fault_again v words fault (inl e) = rw e refl
fault_again v words fault (inr (good, bad)) =
    let n : ℕ = get_or words 0 0 % 16777216 in
    let id : ℕ = id_in v (drop 2 words) in
    let b : LogUnit = bad.before in
    let few : length (body_words_of v b ++ bad.rest) ≤ n = omega (arith, ap length bad.parts, length-take n words) in
    let read : records_at v n id 1 (drop 1 (take n words)) ≡ Err fault = ap (λ (ws : List ℕ). records_at v n id 1 (drop 1 ws)) bad.parts
    ∙ bad_again v n id b.vxid b.mark b.records bad.rest fault bad.vxid bad.records few (id_before v words b.vxid b.mark b.records (get_or words 0 0) bad.rest n bad.records bad.parts) bad.some bad.faulty in
    rw (good, read) refl

same_ok : {A E : Type 0} (r : Result A E) (x y : A) → r ≡ Ok x → r ≡ Ok y → x ≡ y
same_ok r x y p q = cc

same_err : {A E : Type 0} (r : Result A E) (e f : E) → r ≡ Err e → r ≡ Err f → e ≡ f
same_err r e f p q = cc

apart : {A E : Type 0} (r : Result A E) (x : A) (e : E) → r ≡ Ok x → r ≡ Err e → ⊥
apart r x e p q = absurd cc

-- no unit's words begin another's
pub unit_prefix_free : (v : Version) (u w : LogUnit) (a b : List ℕ) → IsUnitOf v u → IsUnitOf v w → unit_words_of v u ++ a ≡ unit_words_of v w ++ b → (u ≡ w) × (a ≡ b)
unit_prefix_free v u w a b fits_u fits_w e =
    let both : (u, a) ≡ (w, b) = same_ok (unit_at v (unit_words_of v u ++ a)) (u, a) (w, b) (unit_again v u a fits_u) (ap (unit_at v) e ∙ unit_again v w b fits_w) in
    (ap (λ (x : LogUnit × List ℕ). x.0) both, ap (λ (x : LogUnit × List ℕ). x.1) both)

-- words have one first fault
pub one_fault_of : (v : Version) (words : List ℕ) (e f : WordFault) → FirstFault v words e → FirstFault v words f → e ≡ f
one_fault_of v words e f p q = same_err (unit_at v words) e f (fault_again v words e p) (fault_again v words f q)

-- and those that begin with a unit have none
pub no_fault_of : (v : Version) (u : LogUnit) (rest : List ℕ) (fault : WordFault) → IsUnitOf v u → FirstFault v (unit_words_of v u ++ rest) fault → ⊥
no_fault_of v u rest fault fits faulty = apart (unit_at v (unit_words_of v u ++ rest)) (u, rest) fault (unit_again v u rest fits) (fault_again v (unit_words_of v u ++ rest) fault faulty)

-- a unit has as many words as its header, and a record without a payload
pub length_unit_words-at_least : (v : Version) (u : LogUnit) → IsUnitOf v u → 2 + id_size v ≤ length (unit_words_of v u)
length_unit_words-at_least v u fits = omega (arith, two_words v u.vxid u.records fits.some)

-- the words of a unit are words
pub unit_words_small : (v : Version) (u : LogUnit) → IsUnitOf v u → IsWords (unit_words_of v u)
unit_words_small v u fits =
    let most = most_small v in
    let size : suc (length (body_words_of v u)) ≤ most_words_of v = fits.size in
    below_cons (2 ^ 32) (header_mark + (1 + length (body_words_of v u))) (body_words_of v u) (omega arith) (records_small v u.vxid u.mark u.records fits.vxid fits.records)
