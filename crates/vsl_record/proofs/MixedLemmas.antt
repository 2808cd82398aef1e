-- The words of an id beside those of another.
use Rattle.std.proofs.Common.{◌≡◌, ◌≢◌, ℕ, ◌+◌, ◌*◌, ◌/◌, ◌%◌, ◌≤◌, true, false, eqb, inl, inr, List, [], ◌∷◌, ◌++◌, length, take, drop, Option, Some, None, refl, sym, ap, ◌∙◌, arith}
use Rattle.std.proofs.lemmas.Bool.{eqb-true, eq-eqb, ne_eqb, cases_eq}
use Rattle.vsl_words.specs.declared.version.Version.{Version}
use Rattle.vsl_words.specs.declared.version.Version.TheVariants.{One, Two}
use Rattle.vsl_words.specs.Versions.{id_size, id_words, id_in}
use Rattle.vsl_words.proofs.Steps.{IsWords}
use Rattle.vsl_words.proofs.IdLemmas.{id_spelled}
use Rattle.vsl_record.specs.declared.fault.WordFault.{WordFault}
use Rattle.vsl_record.specs.declared.fault.WordFault.TheVariants.{Mixed}
use Rattle.vsl_record.specs.WordFaults.{mixed_fault}
use Rattle.vsl_record.specs.inside.UnitReading.{differing}
use Rattle.vsl_record.proofs.Steps.{unless_none}

-- no word differs
pub mixed_none : (at : ℕ) (ws words : List ℕ) (next : Option WordFault) → mixed_fault at ws words next ≡ None → length ws ≤ length words → (take (length ws) words ≡ ws) × (next ≡ None)
unfolding mixed_fault
mixed_none at [] words next e enough = (refl, e)
mixed_none at (w ∷ ws) [] next e enough = absurd (omega (arith, enough))
mixed_none at (w ∷ ws) (g ∷ words) next e enough =
    let a = unless_none _ _ _ e in
    let b = mixed_none (at + 1) ws words next a.1 (omega (arith, enough)) in
    let same : g ≡ w = eqb-true _ _ a.0 in
    (ap (λ (xs : List ℕ). g ∷ xs) b.0 ∙ ap (λ (k : ℕ). k ∷ ws) same, b.1)

-- none of the words themselves do
pub mixed_again : (at : ℕ) (ws rest : List ℕ) (next : Option WordFault) → mixed_fault at ws (ws ++ rest) next ≡ next
unfolding mixed_fault
mixed_again at [] rest next = refl
mixed_again at (w ∷ ws) rest next = rw (eq-eqb w w refl) (mixed_again (at + 1) ws rest next)

-- nor do those that begin with this id
pub mixed_same : (v : Version) (id at : ℕ) (words : List ℕ) (next : Option WordFault) → IsWords words → id_size v ≤ length words → id_in v words ≡ id → mixed_fault at (id_words v id) words next ≡ next
mixed_same v id at words next all enough is =
    ap (λ (ws : List ℕ). mixed_fault at (id_words v id) ws next) (id_spelled v words all enough ∙ ap (λ (k : ℕ). id_words v k ++ drop (id_size v) words) is) ∙ mixed_again at (id_words v id) (drop (id_size v) words) next

-- and of another id the first word that differs does
pub mixed_first : (v : Version) (id at : ℕ) (words : List ℕ) (next : Option WordFault) → IsWords words → id_size v ≤ length words → id_in v words ≢ id → mixed_fault at (id_words v id) words next ≡ Some (Mixed (at + differing v id (id_in v words)))
unfolding mixed_fault
mixed_first One id at [] next all enough other = absurd (omega (arith, enough))
mixed_first One id at (w ∷ words) next all enough other =
    let place : at ≡ at + 0 = omega arith in
    rw (ne_eqb w id other) (ap (λ (k : ℕ). Some (Mixed k)) place)
mixed_first Two id at [] next all enough other = absurd (omega (arith, enough))
mixed_first Two id at (w ∷ []) next all enough other = absurd (omega (arith, enough))
mixed_first Two id at (w ∷ x ∷ words) next all enough other =
    let low : (w + 4294967296 * x) % 4294967296 ≡ w = omega (arith, all 0) in
    let place : at ≡ at + 0 = omega arith in
    elim (cases_eq w (id % 4294967296)) [
      | inl same ↦
          let here : eqb w (id % 4294967296) ≡ true = eq-eqb _ _ same in
          let back : eqb (id % 4294967296) w ≡ true = eq-eqb _ _ (sym same) in
          let high : eqb x (id / 4294967296) ≡ false = ne_eqb _ _ (λ e. other (omega (arith, e, same))) in
          rw (low, here, high, back) refl
      | inr not_same ↦
          let here : eqb w (id % 4294967296) ≡ false = ne_eqb _ _ not_same in
          let back : eqb (id % 4294967296) w ≡ false = ne_eqb _ _ (λ e. not_same (sym e)) in
          rw (low, here, back) (ap (λ (k : ℕ). Some (Mixed k)) place)
    ]
