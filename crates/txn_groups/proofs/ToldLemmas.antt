-- A node that tells other things is written at its place.
use Rattle.std.proofs.Common.{◌≡◌, ◌≢◌, ◌<◌, ◌≤◌, ℕ, Bool, cond, List, length, get_or, set, refl, ap, sym, ◌∙◌}
use Rattle.std.specs.Prelude.{slice_get}
use Rattle.std.specs.Option.{option_map}
use Rattle.std.proofs.lemmas.Bool.{eq-eqb, ne_eqb}
use Rattle.txn_rows.specs.Transaction.{Transaction}
use Rattle.txn_groups.specs.declared.node.Node.{Node}
use Rattle.txn_groups.specs.inside.Retold.{AreChanged}
use Rattle.txn_groups.specs.inside.Told.{node_told, told_at}
use Rattle.txn_groups.proofs.ChangedLemmas.{changed_at, changed_past}

others_same : (change : Transaction → Transaction) (place i : ℕ) (z : Node) → i ≢ place → told_at change place i z ≡ z
others_same change place i z other = ap (λ (b : Bool). cond b (node_told change z) z) (ne_eqb i place other)

-- what was written at a place
pub told_set : (change : Transaction → Transaction) (place : ℕ) (xs : List Node) (x y : Node) → place < length xs → x ≡ get_or xs place x → y ≡ node_told change x → AreChanged (told_at change place) xs (set xs place y)
told_set change place xs x y within read is = changed_at (told_at change place) xs place x y within read (is ∙ sym (ap (λ (b : Bool). cond b (node_told change x) x) (eq-eqb place place refl))) (others_same change place)

-- there is no such place
pub told_past : (change : Transaction → Transaction) (place : ℕ) (xs : List Node) → length xs ≤ place → AreChanged (told_at change place) xs xs
told_past change place xs past = changed_past (told_at change place) xs place past (others_same change place)

-- the nodes below a place tell other things, and the others are as they were
pub record ToldBelow (change : Transaction → Transaction) (end : ℕ) (old now : List Node) : Type 0 where
  pub below : (at : ℕ) → at < end → slice_get now at ≡ option_map (node_told change) (slice_get old at)
  pub behind : (at : ℕ) → end ≤ at → slice_get now at ≡ slice_get old at
