-- Files by their names, and what is added to them.
use Rattle.std.proofs.Common.{◌≡◌, ◌≢◌, ◌⊎◌, ℕ, zero, suc, Bool, true, false, List, [], ◌∷◌, ◌++◌, set, get_or, refl, sym, ◌∙◌, ap, arith, inl, inr, Some, None, bytes_eq, if◌then◌else◌}
use Rattle.std.proofs.lemmas.Option.{none-some}
use Rattle.std.proofs.lemmas.Slice.Eq.{bytes_eq-Decides}
use Rattle.vio.specs.declared.file.MemFile.{MemFile}
use Rattle.vio.specs.Sources.{held_in}
use Rattle.vio.specs.inside.Handles.{IsPlaceOf, HoldsMore, HoldsSame}

-- what a comparison of names tells
pub names_tell : (a b : List ℕ) → ((bytes_eq a b ≡ true) × (a ≡ b)) ⊎ ((bytes_eq a b ≡ false) × (a ≢ b))
names_tell a b = by (bytes_eq a b) refl
  where
    by : (t : Bool) → bytes_eq a b ≡ t → ((bytes_eq a b ≡ true) × (a ≡ b)) ⊎ ((bytes_eq a b ≡ false) × (a ≢ b))
    by true e = inl (e, (bytes_eq-Decides a b).0 e)
    by false e = inr (e, λ same. let yes_too = (bytes_eq-Decides a b).1 same in absurd cc)

-- one more file, which hasn't the name, at the end
pub held_in-push : (files : List MemFile) (file : MemFile) (name : List ℕ) → held_in files name ≡ None → bytes_eq file.name.items name ≡ false → held_in (files ++ file ∷ []) name ≡ None
held_in-push [] file name none other = rw other refl
held_in-push (first ∷ files) file name none other = elim (names_tell first.name.items name) [
  | inl same ↦ absurd (none-some first.bytes.items (sym none ∙ rw same.0 refl))
  | inr differs ↦ rw differs.0 (held_in-push files file name (rw differs.0 at none) other)
]

-- past a first file, which hasn't the name
place_later : (file : MemFile) (files : List MemFile) (place : ℕ) (name : List ℕ) → IsPlaceOf name (suc place) (file ∷ files) → (file.name.items ≢ name) × IsPlaceOf name place files
place_later file files place name p = elim (names_tell file.name.items name) [
  | inl same ↦ absurd (none-some file.bytes.items (sym p.first ∙ rw same.0 refl))
  | inr other ↦ (other.1, record { within = let within = p.within in omega arith; named = p.named; first = rw other.0 at p.first })
]

-- the file at the place of a name has what the name holds
pub held_in-place : (files : List MemFile) (place : ℕ) (name : List ℕ) (d : MemFile) → IsPlaceOf name place files → held_in files name ≡ Some (get_or files place d).bytes.items
held_in-place [] place name d p = absurd (let within = p.within in omega arith)
held_in-place (file ∷ files) zero name d p = let named = p.named d in grind (arith, names_tell)
held_in-place (file ∷ files) (suc place) name d p = let later = place_later file files place name p in
    let rest = held_in-place files place name d later.1 in grind (arith, names_tell, later.0, rest)

-- a file of the same name in its place
pub held_in-set : (files : List MemFile) (place : ℕ) (name n : List ℕ) (now : MemFile) → IsPlaceOf name place files → now.name.items ≡ name
    → held_in (set files place now) n ≡ (if bytes_eq name n then Some now.bytes.items else held_in files n)
held_in-set [] place name n now p same = absurd (let within = p.within in omega arith)
held_in-set (file ∷ files) zero name n now p same = let named = p.named now in grind (arith, names_tell)
held_in-set (file ∷ files) (suc place) name n now p same = let later = place_later file files place name p in
    let rest = held_in-set files place name n now later.1 same in grind (arith, names_tell, later.0, rest)

-- a piece more in the file of a name
pub holds_more : (files : List MemFile) (place : ℕ) (name piece : List ℕ) (d now : MemFile) → IsPlaceOf name place files → now.name.items ≡ name
    → now.bytes.items ≡ (get_or files place d).bytes.items ++ piece → HoldsMore name piece files (set files place now)
holds_more files place name piece d now p same more = record {
  own = rw (held_in-set files place name name now p same, held_in-place files place name d p, (bytes_eq-Decides name name).1 refl) (ap Some more);
  other = λ n other. let set = held_in-set files place name n now p same in grind (arith, names_tell, set);
}

-- the same bytes in the file of a name
pub holds_same : (files : List MemFile) (place : ℕ) (name : List ℕ) (d now : MemFile) → IsPlaceOf name place files → now.name.items ≡ name
    → now.bytes.items ≡ (get_or files place d).bytes.items → HoldsSame files (set files place now)
holds_same files place name d now p same bytes = record {
  each = λ n. let set = held_in-set files place name n now p same in let held = held_in-place files place name d p in grind (arith, names_tell, set, held);
}
