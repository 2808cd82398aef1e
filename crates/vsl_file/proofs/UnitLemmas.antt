-- The bytes of units: what the first four tell, and that no unit's bytes begin another's.
use Rattle.std.proofs.Common.{◌≡◌, ℕ, ◌+◌, ◌*◌, ◌/◌, ◌%◌, ◌<◌, ◌≤◌, true, false, not, eqb, ltb, leb, ◌&&◌, inl, inr, List, [], ◌∷◌, ◌++◌, length, take, drop, refl, sym, ap, ◌∙◌, append_assoc, arith}
use Rattle.std.specs.Int.{w32, from_le_bytes}
use Rattle.std.specs.List.{AllByRecursion}
use Rattle.std.proofs.lemmas.Bool.{ltb-true, leb-true, lt-leb, not_from_true, not_from_false, eq-eqb, le-leb, le-ltb, lt-ltb, and_parts, both_ways, cases_lt}
use Rattle.std.proofs.lemmas.List.{append-nil, length-append, append_cancel_left, length-take-le, take-append-drop, take-append-le, take_at, drop_at}
use Rattle.std.proofs.lemmas.List.Concat.{flat_map-cons}
use Rattle.std.proofs.lemmas.Nat.{from_le_bytes-to_le_bytes_4}
use Rattle.vsl_words.specs.declared.version.Version.{Version}
use Rattle.vsl_words.specs.Versions.{id_size, most_words_of}
use Rattle.vsl_words.proofs.IdLemmas.{most_small, id_size-some}
use Rattle.vsl_record.specs.Unit.{LogUnit, Log}
use Rattle.vsl_record.specs.Words.{IsUnitOf, unit_words_of, word_bytes, header_mark, body_words_of, words_in}
use Rattle.vsl_record.proofs.UnitReadingLemmas.{unit_prefix_free, unit_words_small, length_unit_words-at_least}
use Rattle.vsl_record.proofs.Steps.{IsBytes, below_take}
use Rattle.vsl_record.proofs.WordLemmas.{length-words_in, length-word_bytes, words_in-take, words_in-word_bytes, words_in_again, word_bytes-words_in}
use Rattle.vsl_file.specs.File.{unit_bytes_of, log_bytes_of, BeginsNoUnit, is_unit_header, stops_early}
use Rattle.vsl_file.specs.inside.FileReading.{IsHeadSize, IsBroken, BeginsWithUnit}

-- no unit's bytes begin another's
pub unit_bytes_prefix_free : (ver : Version) (u v : LogUnit) (a b : List ℕ) → IsUnitOf ver u → IsUnitOf ver v → unit_bytes_of ver u ++ a ≡ unit_bytes_of ver v ++ b → (u ≡ v) × (a ≡ b)
unit_bytes_prefix_free ver u v a b fits_u fits_v e =
    let words_u = words_in-word_bytes (unit_words_of ver u) a (unit_words_small ver u fits_u) in
    let words_v = words_in-word_bytes (unit_words_of ver v) b (unit_words_small ver v fits_v) in
    let same : u ≡ v = (unit_prefix_free ver u v (words_in a) (words_in b) fits_u fits_v (sym words_u ∙ ap words_in e ∙ words_v)).0 in
    let parts : unit_bytes_of ver v ++ a ≡ unit_bytes_of ver v ++ b = ap (λ (w : LogUnit). unit_bytes_of ver w ++ a) (sym same) ∙ e in
    (same, append_cancel_left (unit_bytes_of ver v) a b parts)

-- the length of bytes that begin with a unit's
pub length_with_unit : (ver : Version) (bytes : List ℕ) (u : LogUnit) (more : List ℕ) → bytes ≡ unit_bytes_of ver u ++ more → length bytes ≡ 4 * length (unit_words_of ver u) + length more
length_with_unit ver bytes u more e = ap length e ∙ length-append (unit_bytes_of ver u) more ∙ ap (λ (n : ℕ). n + length more) (length-word_bytes (unit_words_of ver u))

-- fewer bytes than a word has begin no unit
pub short_begins_none : (ver : Version) (bytes : List ℕ) → length bytes < 4 → BeginsNoUnit ver bytes
short_begins_none ver bytes short = λ u more fits e. omega (arith, length_with_unit ver bytes u more e, length_unit_words-at_least ver u fits)

-- the first word of a unit's bytes is its header
head_is : (ver : Version) (bytes : List ℕ) (u : LogUnit) (more : List ℕ) → IsUnitOf ver u → bytes ≡ unit_bytes_of ver u ++ more → from_le_bytes w32 bytes ≡ header_mark + (1 + length (body_words_of ver u))
head_is ver bytes u more fits e = ap (from_le_bytes w32) e ∙ from_le_bytes-to_le_bytes_4 (header_mark + (1 + length (body_words_of ver u))) (unit_words_small ver u fits 0)

-- four bytes settle the first word
le_prefix : (bytes more : List ℕ) → 4 ≤ length bytes → from_le_bytes w32 (bytes ++ more) ≡ from_le_bytes w32 bytes
le_prefix (a ∷ b ∷ c ∷ d ∷ bytes) more enough = refl
le_prefix short more enough = absurd (omega (arith, enough))

-- the first word of a unit can be a header, and counts the words
record IsHead (ver : Version) (u : LogUnit) (head : ℕ) : Type 0 where
  pub is : is_unit_header ver head ≡ true
  pub count : head % 16777216 ≡ length (unit_words_of ver u)

head_fits : (ver : Version) (bytes more rest : List ℕ) (u : LogUnit) → 4 ≤ length bytes → IsUnitOf ver u → bytes ++ more ≡ unit_bytes_of ver u ++ rest → IsHead ver u (from_le_bytes w32 bytes)
head_fits ver bytes more rest u enough fits e =
    let few = most_small ver in
    let size : 1 + length (body_words_of ver u) ≤ most_words_of ver = omega (arith, fits.size) in
    let some : 2 + id_size ver ≤ 1 + length (body_words_of ver u) = omega (arith, length_unit_words-at_least ver u fits) in
    let head : from_le_bytes w32 bytes ≡ header_mark + (1 + length (body_words_of ver u)) = sym (le_prefix bytes more enough) ∙ head_is ver (bytes ++ more) u rest fits e in
    let top : from_le_bytes w32 bytes / 16777216 ≡ 254 = omega arith in
    let least : 2 + id_size ver ≤ from_le_bytes w32 bytes % 16777216 = omega arith in
    let most : from_le_bytes w32 bytes % 16777216 ≤ most_words_of ver = omega arith in
    record { is = rw (eq-eqb _ _ top, le-leb _ _ least, le-leb _ _ most) refl; count = omega arith }

-- whether four bytes or more stop early is for their first word and their number to say
stops_is : (ver : Version) (bytes more : List ℕ) → 4 ≤ length bytes → stops_early ver (bytes ++ more) ≡ (is_unit_header ver (from_le_bytes w32 bytes) && ltb (length (bytes ++ more)) (4 * (from_le_bytes w32 bytes % 16777216)))
stops_is ver bytes more enough =
    let long : ltb (length (bytes ++ more)) 4 ≡ false = le-ltb _ _ (omega (arith, length-append bytes more)) in
    rw (long, le_prefix bytes more enough) refl

-- fewer bytes than a word has stop early
pub short_stops : (ver : Version) (bytes : List ℕ) → length bytes < 4 → stops_early ver bytes ≡ true
short_stops ver bytes short = rw (lt-ltb (length bytes) 4 short) refl

pub no_header : (ver : Version) (bytes : List ℕ) → 4 ≤ length bytes → is_unit_header ver (from_le_bytes w32 bytes) ≡ false → IsBroken ver bytes
no_header ver bytes enough other = record {
  never = λ more u rest fits e. both_ways (is_unit_header ver (from_le_bytes w32 bytes)) other (head_fits ver bytes more rest u enough fits e).is;
  stays = λ more. stops_is ver bytes more enough ∙ rw other refl;
}

pub head_sized : (ver : Version) (bytes : List ℕ) → 4 ≤ length bytes → is_unit_header ver (from_le_bytes w32 bytes) ≡ true → IsHeadSize ver (4 * (from_le_bytes w32 bytes % 16777216)) bytes
head_sized ver bytes enough is =
    let head : ℕ = from_le_bytes w32 bytes in
    let tests = and_parts (eqb (head / 16777216) 254 && leb (2 + id_size ver) (head % 16777216)) (leb (head % 16777216) (most_words_of ver)) is in
    let least : 2 + id_size ver ≤ head % 16777216 = leb-true _ _ (and_parts (eqb (head / 16777216) 254) (leb (2 + id_size ver) (head % 16777216)) tests.0).1 in
    let most : head % 16777216 ≤ most_words_of ver = leb-true _ _ tests.1 in
    let few = most_small ver in
    let some = id_size-some ver in
    record {
      least = omega arith;
      most = omega arith;
      only = λ u more rest fits e. omega (arith, (head_fits ver bytes more rest u enough fits e).count, length-word_bytes (unit_words_of ver u));
      stops = λ more. stops_is ver bytes more enough ∙ rw is refl;
    }

-- fewer bytes than the header counts stop early
pub cut_stops : (ver : Version) (size : ℕ) (bytes : List ℕ) → IsHeadSize ver size bytes → length bytes < size → stops_early ver bytes ≡ true
cut_stops ver size bytes sized cut = ap (stops_early ver) (sym (append-nil bytes)) ∙ sized.stops [] ∙ rw append-nil (lt-ltb (length bytes) size cut)

-- bytes that stop early begin no unit
pub stopped_begins_none : (ver : Version) (bytes : List ℕ) → stops_early ver bytes ≡ true → BeginsNoUnit ver bytes
stopped_begins_none ver bytes e = λ u more fits is.
    elim (cases_lt (length bytes) 4) [
      | inl short ↦ short_begins_none ver bytes short u more fits is
      | inr enough ↦
          let head = head_fits ver bytes [] more u enough fits (append-nil bytes ∙ is) in
          let tests : (is_unit_header ver (from_le_bytes w32 bytes) && ltb (length bytes) (4 * (from_le_bytes w32 bytes % 16777216))) ≡ true =
          sym (stops_is ver bytes [] enough ∙ rw append-nil refl) ∙ rw append-nil e in
          let cut : length bytes < 4 * (from_le_bytes w32 bytes % 16777216) = ltb-true _ _ (and_parts (is_unit_header ver (from_le_bytes w32 bytes)) (ltb (length bytes) (4 * (from_le_bytes w32 bytes % 16777216))) tests).1 in
          omega (arith, cut, head.count, length_with_unit ver bytes u more is)
    ]

-- bytes stop early where they are fewer than their header counts
sized_stops : (ver : Version) (size : ℕ) (bytes : List ℕ) → IsHeadSize ver size bytes → stops_early ver bytes ≡ ltb (length bytes) size
sized_stops ver size bytes sized = ap (stops_early ver) (sym (append-nil bytes)) ∙ sized.stops [] ∙ ap (λ (x : List ℕ). ltb (length x) size) (append-nil bytes)

-- and where they are no fewer they don't
pub sized_holds : (ver : Version) (size : ℕ) (bytes : List ℕ) → IsHeadSize ver size bytes → leb size (length bytes) ≡ not (stops_early ver bytes)
sized_holds ver size bytes sized =
    elim (cases_lt (length bytes) size) [
      | inl short ↦ lt-leb size (length bytes) short ∙ sym (not_from_true (stops_early ver bytes) (cut_stops ver size bytes sized short))
      | inr enough ↦ le-leb size (length bytes) enough ∙ sym (not_from_false (stops_early ver bytes) (sized_stops ver size bytes sized ∙ le-ltb (length bytes) size enough))
    ]

-- what begins as no header doesn't stop early
pub broken_holds : (ver : Version) (bytes : List ℕ) → IsBroken ver bytes → true ≡ not (stops_early ver bytes)
broken_holds ver bytes broken = sym (not_from_false (stops_early ver bytes) (ap (stops_early ver) (sym (append-nil bytes)) ∙ broken.stays []))

-- ---- the unit that begins bytes

-- where the words begin with a unit's, so do the bytes
pub unit_begins : (ver : Version) (bytes : List ℕ) (u : LogUnit) (rest : List ℕ) → IsBytes bytes → words_in bytes ≡ unit_words_of ver u ++ rest → bytes ≡ unit_bytes_of ver u ++ drop (4 * length (unit_words_of ver u)) bytes
unit_begins ver bytes u rest all e =
    let n : ℕ = length (unit_words_of ver u) in
    let long : 4 * length (unit_words_of ver u) ≤ length bytes = omega (arith, length-words_in bytes, ap length e, length-append (unit_words_of ver u) rest) in
    let first : words_in (take (4 * n) bytes) ≡ unit_words_of ver u = words_in-take n bytes ∙ ap (take n) e ∙ take_at (unit_words_of ver u) rest n refl in
    let is : take (4 * n) bytes ≡ unit_bytes_of ver u = sym (word_bytes-words_in n (take (4 * n) bytes) (length-take-le (4 * n) bytes long) (below_take 256 (4 * n) bytes (omega arith) all)) ∙ ap word_bytes first in
    sym (take-append-drop (4 * n) bytes) ∙ ap (λ (x : List ℕ). x ++ drop (4 * n) bytes) is

-- a unit that is read of as many bytes as the header counts begins the bytes
pub sized_found : (ver : Version) (bytes part : List ℕ) (size count : ℕ) (u : LogUnit) → IsBytes bytes → IsHeadSize ver size bytes → part ≡ take size bytes → IsUnitOf ver u → take count (words_in part) ≡ unit_words_of ver u → BeginsWithUnit ver bytes u (drop size bytes)
sized_found ver bytes part size count u all sized is fits found =
    let words : words_in part ≡ unit_words_of ver u ++ drop count (words_in part) = sym (take-append-drop count (words_in part)) ∙ ap (λ (ws : List ℕ). ws ++ drop count (words_in part)) found in
    let part_small : IsBytes part = rw is (below_take 256 size bytes (omega arith) all) in
    let stands = unit_begins ver part u (drop count (words_in part)) part_small words in
    let after : List ℕ = drop (4 * length (unit_words_of ver u)) part ++ drop size bytes in
    let parts : bytes ≡ unit_bytes_of ver u ++ after =
    sym (take-append-drop size bytes) ∙ ap (λ (x : List ℕ). x ++ drop size bytes) (sym is ∙ stands) ∙ append_assoc (unit_bytes_of ver u) (drop (4 * length (unit_words_of ver u)) part) (drop size bytes) in
    let rest : drop size bytes ≡ after = ap (drop size) parts ∙ drop_at (unit_bytes_of ver u) after size (sized.only u [] after fits (append-nil bytes ∙ parts)) in
    record { is_unit = fits; parts = parts ∙ ap (λ (x : List ℕ). unit_bytes_of ver u ++ x) (sym rest) }

-- where none is read of them, no unit begins the bytes, however they go on
pub sized_refused : (ver : Version) (bytes part : List ℕ) (size : ℕ) → IsHeadSize ver size bytes → size ≤ length bytes → part ≡ take size bytes → ((u : LogUnit) (rest : List ℕ) → IsUnitOf ver u → words_in part ≡ unit_words_of ver u ++ rest → ⊥) → IsBroken ver bytes
sized_refused ver bytes part size sized enough is refused = record {
  never = λ more u x fits e.
      let prefix : take size bytes ≡ unit_bytes_of ver u = sym (take-append-le size bytes more enough) ∙ ap (take size) e ∙ take_at (unit_bytes_of ver u) x size (sized.only u more x fits e) in
      refused u [] fits (ap words_in (is ∙ prefix) ∙ words_in_again (unit_words_of ver u) (unit_words_small ver u fits) ∙ sym (append-nil (unit_words_of ver u)));
  stays = λ more. sized.stops more ∙ le-ltb _ _ (omega (arith, length-append bytes more));
}

-- a unit takes bytes
pub unit_takes_bytes : (ver : Version) (bytes : List ℕ) (u : LogUnit) (rest : List ℕ) → BeginsWithUnit ver bytes u rest → length rest < length bytes
unit_takes_bytes ver bytes u rest begins = omega (arith, length_with_unit ver bytes u rest begins.parts, length_unit_words-at_least ver u begins.is_unit)

-- ---- the units that begin bytes

-- the bytes of a unit, those of others, and what follows
pub regroup : (ver : Version) (u : LogUnit) (us : Log) (a : List ℕ) → log_bytes_of ver (u ∷ us) ++ a ≡ unit_bytes_of ver u ++ (log_bytes_of ver us ++ a)
regroup ver u us a = ap (λ (x : List ℕ). x ++ a) (flat_map-cons (unit_bytes_of ver) u us) ∙ append_assoc (unit_bytes_of ver u) (log_bytes_of ver us) a

-- units followed by no unit's bytes are determined by their bytes, and so is what follows
pub one_log : (ver : Version) (us vs : Log) (a b : List ℕ) → AllByRecursion (IsUnitOf ver) us → AllByRecursion (IsUnitOf ver) vs → BeginsNoUnit ver a → BeginsNoUnit ver b → log_bytes_of ver us ++ a ≡ log_bytes_of ver vs ++ b → (us ≡ vs) × (a ≡ b)
one_log ver [] [] a b fits_us fits_vs none_a none_b e = (refl, e)
one_log ver [] (v ∷ vs) a b fits_us fits_vs none_a none_b e = absurd (none_a v (log_bytes_of ver vs ++ b) fits_vs.0 (e ∙ regroup ver v vs b))
one_log ver (u ∷ us) [] a b fits_us fits_vs none_a none_b e = absurd (none_b u (log_bytes_of ver us ++ a) fits_us.0 (sym e ∙ regroup ver u us a))
one_log ver (u ∷ us) (v ∷ vs) a b fits_us fits_vs none_a none_b e =
    let first = unit_bytes_prefix_free ver u v (log_bytes_of ver us ++ a) (log_bytes_of ver vs ++ b) fits_us.0 fits_vs.0 (sym (regroup ver u us a) ∙ e ∙ regroup ver v vs b) in
    let others = one_log ver us vs a b fits_us.1 fits_vs.1 none_a none_b first.1 in
    (ap (λ (w : LogUnit). w ∷ us) first.0 ∙ ap (λ (ws : Log). v ∷ ws) others.0, others.1)
