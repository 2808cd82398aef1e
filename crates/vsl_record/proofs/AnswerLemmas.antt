-- What a reader answered, where it answers units that stand there and first faults alone.
use Rattle.std.proofs.Common.{◌≡◌, ◌≢◌, ℕ, ◌≤◌, ◌⊎◌, inl, inr, List, ◌++◌, length, take, drop, Result, Ok, Err, refl, sym, ap, subst, ◌∙◌}
use Rattle.std.specs.Prelude.{IfOk, IfErr}
use Rattle.std.proofs.lemmas.List.{length-take-le, take-append-drop}
use Rattle.vsl_record.specs.declared.fault.WordFault.{WordFault}
use Rattle.vsl_record.specs.declared.fault.WordFault.TheVariants.{Short, BadTag, BadLength, BadMark, Mixed, BadPadding, NoMemory}
use Rattle.vsl_words.specs.declared.version.Version.{Version}
use Rattle.vsl_record.specs.Unit.{LogUnit}
use Rattle.vsl_record.specs.Words.{unit_words_of, IsUnitOf}
use Rattle.vsl_record.specs.WordFaults.{FirstFault}
use Rattle.vsl_record.proofs.UnitReadingLemmas.{unit_prefix_free, one_fault_of, no_fault_of}

-- a unit that stands there, and how many words it has
abbrev pub Found : Version → List ℕ → LogUnit × ℕ → Type 0
Found v words x = IsUnitOf v x.0 × (x.1 ≤ length words) × (take x.1 words ≡ unit_words_of v x.0)

-- a fault is want of memory or another
memory_or_not : (fault : WordFault) → (fault ≡ NoMemory) ⊎ (fault ≢ NoMemory)
memory_or_not Short = inr (λ e. absurd cc)
memory_or_not (BadTag at) = inr (λ e. absurd cc)
memory_or_not (BadLength at) = inr (λ e. absurd cc)
memory_or_not (BadMark at) = inr (λ e. absurd cc)
memory_or_not (Mixed at) = inr (λ e. absurd cc)
memory_or_not (BadPadding at) = inr (λ e. absurd cc)
memory_or_not NoMemory = inl refl

stands : (v : Version) (words : List ℕ) (x : LogUnit × ℕ) → Found v words x → words ≡ unit_words_of v x.0 ++ drop x.1 words
stands v words x found = sym (take-append-drop x.1 words) ∙ ap (λ (ws : List ℕ). ws ++ drop x.1 words) found.2

-- a unit that begins the words is answered
pub answers_unit : (v : Version) (words : List ℕ) (r : Result (LogUnit × ℕ) WordFault) (u : LogUnit) (rest : List ℕ) → IfOk r (Found v words) → IfErr r (λ fault. fault ≢ NoMemory → FirstFault v words fault) → IsUnitOf v u → words ≡ unit_words_of v u ++ rest
    → (r ≡ Ok (u, length (unit_words_of v u))) ⊎ (r ≡ Err NoMemory)
answers_unit v words (Ok x) u rest found refused fits is =
    let same : x.0 ≡ u = (unit_prefix_free v x.0 u (drop x.1 words) rest found.0 fits (sym (stands v words x found) ∙ is)).0 in
    let size : x.1 ≡ length (unit_words_of v u) = sym (length-take-le x.1 words found.1) ∙ ap length found.2 ∙ ap (λ (w : LogUnit). length (unit_words_of v w)) same in
    inl (ap (λ (w : LogUnit). Ok (w, x.1)) same ∙ ap (λ (k : ℕ). Ok (u, k)) size)
answers_unit v words (Err fault) u rest found refused fits is =
    elim (memory_or_not fault) [
      | inl memory ↦ inr (ap (λ (f : WordFault). Err f) memory)
      | inr other ↦ absurd (no_fault_of v u rest fault fits (subst (λ (ws : List ℕ). FirstFault v ws fault) is (refused other)))
    ]

-- a first fault of the words is answered
pub answers_fault : (v : Version) (words : List ℕ) (r : Result (LogUnit × ℕ) WordFault) (fault : WordFault) → IfOk r (Found v words) → IfErr r (λ f. f ≢ NoMemory → FirstFault v words f) → FirstFault v words fault
    → (r ≡ Err fault) ⊎ (r ≡ Err NoMemory)
answers_fault v words (Ok x) fault found refused faulty = absurd (no_fault_of v x.0 (drop x.1 words) fault found.0 (subst (λ (ws : List ℕ). FirstFault v ws fault) (stands v words x found) faulty))
answers_fault v words (Err f) fault found refused faulty =
    elim (memory_or_not f) [
      | inl memory ↦ inr (ap (λ (g : WordFault). Err g) memory)
      | inr other ↦ inl (ap (λ (g : WordFault). Err g) (one_fault_of v words f fault (refused other) faulty))
    ]
