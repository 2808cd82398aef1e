-- A node that is written at its place is a change of nodes.
use Rattle.std.proofs.Common.{◌≡◌, ◌≢◌, ◌<◌, ◌≤◌, ℕ, zero, suc, eqb, Option, Some, None, List, [], ◌∷◌, length, get_or, set, refl, ap, sym, ◌∙◌, arith}
use Rattle.std.specs.Prelude.{slice_get}
use Rattle.std.specs.Option.{option_map}
use Rattle.std.proofs.lemmas.Bool.{eqb-true, eqb-false}
use Rattle.std.proofs.lemmas.Option.{slice_get_read}
use Rattle.txn_rows.proofs.LineLemmas.{by_cases}
use Rattle.txn_groups.specs.declared.node.Node.{Node}
use Rattle.txn_groups.specs.inside.Retold.{AreChanged}

-- what was written at a place is read there
pub get_set_same : (xs : List Node) (at : ℕ) (y : Node) → at < length xs → slice_get (set xs at y) at ≡ Some y
get_set_same [] at y within = absurd (omega (arith, within))
get_set_same (x ∷ xs) zero y within = refl
get_set_same (x ∷ xs) (suc at) y within = get_set_same xs at y (omega (arith, within))

pub get_set_other : (xs : List Node) (at i : ℕ) (y : Node) → i ≢ at → slice_get (set xs at y) i ≡ slice_get xs i
get_set_other [] at i y other = refl
get_set_other (x ∷ xs) zero zero y other = absurd (other refl)
get_set_other (x ∷ xs) zero (suc i) y other = refl
get_set_other (x ∷ xs) (suc at) zero y other = refl
get_set_other (x ∷ xs) (suc at) (suc i) y other = get_set_other xs at i y (λ e. other (ap suc e))

same_map : (f : Node → Node) (o : Option Node) → ((x : Node) → f x ≡ x) → o ≡ option_map f o
same_map f None keeps = refl
same_map f (Some x) keeps = ap Some (sym (keeps x))

-- a change at one place
pub changed_at : (change : ℕ → Node → Node) (xs : List Node) (at : ℕ) (x y : Node) → at < length xs → x ≡ get_or xs at x → y ≡ change at x → ((i : ℕ) (z : Node) → i ≢ at → change i z ≡ z) → AreChanged change xs (set xs at y)
changed_at change xs at x y within read is keeps = λ i.
    by_cases (slice_get (set xs at y) i ≡ option_map (change i) (slice_get xs i)) (eqb i at)
    (λ t.
    let same : i ≡ at = eqb-true i at t in
    let here : slice_get xs i ≡ Some x = ap (slice_get xs) same ∙ slice_get_read xs (length xs) at x refl within read in
    ap (slice_get (set xs at y)) same ∙ get_set_same xs at y within ∙ ap Some (is ∙ ap (λ (n : ℕ). change n x) (sym same)) ∙ sym (ap (option_map (change i)) here))
    (λ t.
    let other = eqb-false i at t in
    get_set_other xs at i y other ∙ same_map (change i) (slice_get xs i) (λ z. keeps i z other))

past_none : (xs : List Node) (i : ℕ) → length xs ≤ i → slice_get xs i ≡ None
past_none [] i past = refl
past_none (x ∷ xs) zero past = absurd (omega (arith, past))
past_none (x ∷ xs) (suc i) past = past_none xs i (omega (arith, past))

-- no change past the end
pub changed_past : (change : ℕ → Node → Node) (xs : List Node) (at : ℕ) → length xs ≤ at → ((i : ℕ) (z : Node) → i ≢ at → change i z ≡ z) → AreChanged change xs xs
changed_past change xs at past keeps = λ i.
    by_cases (slice_get xs i ≡ option_map (change i) (slice_get xs i)) (eqb i at)
    (λ t.
    let none : slice_get xs i ≡ None = ap (slice_get xs) (eqb-true i at t) ∙ past_none xs at past in
    none ∙ sym (ap (option_map (change i)) none))
    (λ t. same_map (change i) (slice_get xs i) (λ z. keeps i z (eqb-false i at t)))

pub changed_none : (change : ℕ → Node → Node) (xs : List Node) → ((i : ℕ) (z : Node) → change i z ≡ z) → AreChanged change xs xs
changed_none change xs keeps = λ i. same_map (change i) (slice_get xs i) (keeps i)

-- one change after another
map_then : (f g : Node → Node) (o : Option Node) → option_map g (option_map f o) ≡ option_map (λ x. g (f x)) o
map_then f g None = refl
map_then f g (Some x) = refl

pub changed_then : (first next : ℕ → Node → Node) (xs ys zs : List Node) → AreChanged first xs ys → AreChanged next ys zs → AreChanged (λ i x. next i (first i x)) xs zs
changed_then first next xs ys zs a b = λ i. b i ∙ ap (option_map (next i)) (a i) ∙ map_then (first i) (next i) (slice_get xs i)
