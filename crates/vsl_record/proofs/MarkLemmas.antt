-- An id has its VXID and its mark, in either version.
use Rattle.std.proofs.Common.{◌≡◌, ℕ, ◌+◌, ◌*◌, ◌/◌, ◌%◌, ◌<◌, true, false, cond, eqb, refl, arith}
use Rattle.std.proofs.lemmas.Bool.{eqb-true, eqb-false, eq-eqb, ne_eqb, cond_both}
use Rattle.vsl_words.specs.declared.version.Version.{Version}
use Rattle.vsl_words.specs.declared.version.Version.TheVariants.{One, Two}
use Rattle.vsl_words.specs.Versions.{vxid_end_of, id_words}
use Rattle.vsl_words.proofs.Steps.{IsWords}
use Rattle.vsl_words.proofs.IdLemmas.{id_words-small}
use Rattle.vsl_record.specs.declared.mark.Mark.{Mark}
use Rattle.vsl_record.specs.declared.mark.Mark.TheVariants.{Client, Backend, Plain}
use Rattle.vsl_record.specs.Words.{id_of}
use Rattle.vsl_record.specs.inside.UnitReading.{mark_of}

-- an id that has not both marks is its VXID and its mark
pub id_parts : (v : Version) (id : ℕ) → id < vxid_end_of v * 3 → id ≡ id_of v (id % vxid_end_of v) (mark_of v id)
id_parts One id small =
    cond_both (eqb (id / 1073741824) 1) Client (cond (eqb (id / 1073741824) 2) Backend Plain) (λ m. id ≡ id_of One (id % 1073741824) m)
    (λ one. omega (arith, eqb-true _ _ one))
    (λ not_one. cond_both (eqb (id / 1073741824) 2) Backend Plain (λ m. id ≡ id_of One (id % 1073741824) m)
    (λ two. omega (arith, eqb-true _ _ two))
    (λ not_two. omega (arith, eqb-false _ _ not_one, eqb-false _ _ not_two)))
id_parts Two id small =
    cond_both (eqb (id / 4611686018427387904) 1) Client (cond (eqb (id / 4611686018427387904) 2) Backend Plain) (λ m. id ≡ id_of Two (id % 4611686018427387904) m)
    (λ one. omega (arith, eqb-true _ _ one))
    (λ not_one. cond_both (eqb (id / 4611686018427387904) 2) Backend Plain (λ m. id ≡ id_of Two (id % 4611686018427387904) m)
    (λ two. omega (arith, eqb-true _ _ two))
    (λ not_two. omega (arith, eqb-false _ _ not_one, eqb-false _ _ not_two)))

-- an id that tells this VXID and this mark
pub record Tells (v : Version) (vxid : ℕ) (m : Mark) (id : ℕ) : Type 0 where
  pub mark : mark_of v id ≡ m
  pub top : id < vxid_end_of v * 3
  pub low : id % vxid_end_of v ≡ vxid
  pub small : IsWords (id_words v id)

pub id_tells : (v : Version) (vxid : ℕ) (m : Mark) → vxid < vxid_end_of v → Tells v vxid m (id_of v vxid m)
id_tells One vxid Client small =
    let one : eqb ((vxid + 1073741824 * 1) / 1073741824) 1 ≡ true = eq-eqb _ _ (omega arith) in
    record { mark = rw one refl; top = omega arith; low = omega arith; small = id_words-small One (vxid + 1073741824 * 1) (omega arith) }
id_tells One vxid Backend small =
    let not_one : eqb ((vxid + 1073741824 * 2) / 1073741824) 1 ≡ false = ne_eqb _ _ (omega arith) in
    let two : eqb ((vxid + 1073741824 * 2) / 1073741824) 2 ≡ true = eq-eqb _ _ (omega arith) in
    record { mark = rw (not_one, two) refl; top = omega arith; low = omega arith; small = id_words-small One (vxid + 1073741824 * 2) (omega arith) }
id_tells One vxid Plain small =
    let not_one : eqb ((vxid + 1073741824 * 0) / 1073741824) 1 ≡ false = ne_eqb _ _ (omega arith) in
    let not_two : eqb ((vxid + 1073741824 * 0) / 1073741824) 2 ≡ false = ne_eqb _ _ (omega arith) in
    record { mark = rw (not_one, not_two) refl; top = omega arith; low = omega arith; small = id_words-small One (vxid + 1073741824 * 0) (omega arith) }
id_tells Two vxid Client small =
    let one : eqb ((vxid + 4611686018427387904 * 1) / 4611686018427387904) 1 ≡ true = eq-eqb _ _ (omega arith) in
    record { mark = rw one refl; top = omega arith; low = omega arith; small = id_words-small Two (vxid + 4611686018427387904 * 1) (omega arith) }
id_tells Two vxid Backend small =
    let not_one : eqb ((vxid + 4611686018427387904 * 2) / 4611686018427387904) 1 ≡ false = ne_eqb _ _ (omega arith) in
    let two : eqb ((vxid + 4611686018427387904 * 2) / 4611686018427387904) 2 ≡ true = eq-eqb _ _ (omega arith) in
    record { mark = rw (not_one, two) refl; top = omega arith; low = omega arith; small = id_words-small Two (vxid + 4611686018427387904 * 2) (omega arith) }
id_tells Two vxid Plain small =
    let not_one : eqb ((vxid + 4611686018427387904 * 0) / 4611686018427387904) 1 ≡ false = ne_eqb _ _ (omega arith) in
    let not_two : eqb ((vxid + 4611686018427387904 * 0) / 4611686018427387904) 2 ≡ false = ne_eqb _ _ (omega arith) in
    record { mark = rw (not_one, not_two) refl; top = omega arith; low = omega arith; small = id_words-small Two (vxid + 4611686018427387904 * 0) (omega arith) }
