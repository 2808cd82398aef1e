-- Every list of bytes has units and an ending.
use Rattle.std.proofs.Common.{◌≡◌, ℕ, zero, suc, ◌+◌, ◌-◌, ◌*◌, ◌<◌, ◌⊎◌, inl, inr, List, [], ◌∷◌, ◌++◌, length, take, drop, refl, sym, ap, subst, ◌∙◌, arith}
use Rattle.std.proofs.lemmas.List.{drop_at}
use Rattle.vsl_words.specs.declared.version.Version.{Version}
use Rattle.vsl_words.specs.declared.version.Version.TheVariants.{One, Two}
use Rattle.vsl_record.specs.Unit.{LogUnit, Log}
use Rattle.vsl_record.specs.WordFaults.{FirstFault}
use Rattle.vsl_record.specs.Words.{unit_words_of, words_in}
use Rattle.vsl_record.proofs.UnitReadingLemmas.{every_words_of, no_fault_of, unit_words_small}
use Rattle.vsl_record.proofs.Steps.{IsBytes, below_take, below_drop}
use Rattle.vsl_record.proofs.WordLemmas.{words_in-small, words_in-word_bytes}
use Rattle.vsl_file.specs.File.{FileEnding, NotALog, IsFile, BeginsNoUnit, unit_bytes_of, bytes_read, file_header_of, most_bytes}
use Rattle.vsl_file.specs.inside.FileReading.{BeginsWithUnit, IsReadUp}
use Rattle.vsl_file.proofs.UnitLemmas.{unit_begins, regroup, unit_takes_bytes}
use Rattle.vsl_file.proofs.HeaderLemmas.{header_or_not, length-header}
use Rattle.vsl_file.proofs.FileLemmas.{read_ending}

-- a unit and what is left, or no unit
abbrev NextUnit : Version → List ℕ → Type 0
NextUnit ver bytes = ((u : LogUnit) × (rest : List ℕ) × BeginsWithUnit ver bytes u rest) ⊎ BeginsNoUnit ver bytes

-- each list of bytes begins with a unit or doesn't, as its words do
next_unit : (ver : Version) (bytes : List ℕ) → IsBytes bytes → NextUnit ver bytes
next_unit ver bytes all =
    elim (every_words_of ver (words_in bytes) (words_in-small bytes all)) [
      | inl (u, rest, fits, is) ↦ inl (u, drop (4 * length (unit_words_of ver u)) bytes, record { is_unit = fits; parts = unit_begins ver bytes u rest all is })
      | inr (fault, faulty) ↦ inr (λ u more fits is. no_fault_of ver u (words_in more) fault fits
          (subst (λ (words : List ℕ). FirstFault ver words fault) (ap words_in is ∙ words_in-word_bytes (unit_words_of ver u) more (unit_words_small ver u fits)) faulty))
    ]

-- what is left after a unit is bytes
rest_fits : (ver : Version) (bytes : List ℕ) (u : LogUnit) (rest : List ℕ) → BeginsWithUnit ver bytes u rest → IsBytes bytes → IsBytes rest
rest_fits ver bytes u rest begins all =
    let is : drop (length (unit_bytes_of ver u)) bytes ≡ rest = ap (drop (length (unit_bytes_of ver u))) begins.parts ∙ drop_at (unit_bytes_of ver u) rest (length (unit_bytes_of ver u)) refl in
    subst IsBytes is (below_drop 256 (length (unit_bytes_of ver u)) bytes all)

-- a unit before others
read_more : (ver : Version) (bytes : List ℕ) (u : LogUnit) (after : List ℕ) (units : Log) (rest : List ℕ) → BeginsWithUnit ver bytes u after → IsReadUp ver after units rest → IsReadUp ver bytes (u ∷ units) rest
read_more ver bytes u after units rest first others = record {
  are_units = (first.is_unit, others.are_units);
  parts = first.parts ∙ ap (λ (x : List ℕ). unit_bytes_of ver u ++ x) others.parts ∙ sym (regroup ver u units rest);
  no_more = others.no_more;
}

-- all units that begin the bytes, in so many steps
read_up : (ver : Version) (most : ℕ) (bytes : List ℕ) → length bytes < most → IsBytes bytes → (units : Log) × (rest : List ℕ) × IsReadUp ver bytes units rest
read_up ver zero bytes few all = absurd (omega arith)
read_up ver (suc most) bytes few all =
    elim (next_unit ver bytes all) [
      | inl (u, after, first) ↦
          let others = read_up ver most after (omega (arith, unit_takes_bytes ver bytes u after first)) (rest_fits ver bytes u after first all) in
          (u ∷ others.0, others.1, read_more ver bytes u after others.0 others.1 first others.2)
      | inr none ↦ ([], bytes, record { are_units = tt; parts = refl; no_more = none })
    ]

-- the bytes that are read of a file begin with its header
header_read : (ver : Version) (bytes more : List ℕ) → bytes ≡ file_header_of ver ++ more → bytes_read bytes ≡ file_header_of ver ++ take (most_bytes - 8) more
unfolding most_bytes
header_read One bytes more is = ap (take most_bytes) is
header_read Two bytes more is = ap (take most_bytes) is

body_small : (ver : Version) (bytes body : List ℕ) → bytes ≡ file_header_of ver ++ body → IsBytes bytes → IsBytes body
body_small ver bytes body is all =
    let behind : drop 8 bytes ≡ body = ap (drop 8) is ∙ drop_at (file_header_of ver) body 8 (length-header ver) in
    subst IsBytes behind (below_drop 256 8 bytes all)

-- every list of bytes has units and an ending
pub every_file_of : (bytes : List ℕ) → IsBytes bytes → (units : Log) × (ending : FileEnding) × IsFile bytes units ending
every_file_of bytes all =
    elim (header_or_not bytes) [
      | inl (ver, more, is) ↦
          let body : List ℕ = take (most_bytes - 8) more in
          let read : bytes_read bytes ≡ file_header_of ver ++ body = header_read ver bytes more is in
          let body_fits : IsBytes body = body_small ver (bytes_read bytes) body read (below_take 256 most_bytes bytes (omega arith) all) in
          let up = read_up ver (length body + 1) body (omega arith) body_fits in
          let ending = read_ending ver bytes body up.0 up.1 read up.2 in
          (up.0, ending.0, ending.1)
      | inr (at, first) ↦ ([], NotALog at, (refl, first))
    ]
