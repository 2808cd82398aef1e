-- Paths of rows: their strict order, that each row of a tree has one of its own, and the rows above a row.
use Rattle.std.proofs.Common.{◌≡◌, ◌+◌, ◌<◌, ◌≤◌, ◌⊎◌, ⊎_elim, inl, inr, ℕ, zero, suc, true, false, ltb, Some, List, [], ◌∷◌, ◌++◌, length, refl, ap, sym, ◌∙◌, subst, append_assoc, arith}
use Rattle.std.proofs.lemmas.Bool.{eq-eqb, ne_eqb, ltb-true}
use Rattle.std.proofs.lemmas.List.{same_from_push, length_push}
use Rattle.txn_rows.specs.declared.rows.Row.{Row}
use Rattle.txn_rows.specs.Links.{is_path_before}
use Rattle.txn_rows.specs.Trees.{row_of, IsTop, IsBelow, IsForest}
use Rattle.txn_rows.proofs.LineLemmas.{by_cases, row_of_serial, deeper}
use Rattle.txn_rows.proofs.JoinLemmas.{same_row}
use Rattle.txn_rows.proofs.OrderLemmas.{path_total, path_then, path_longer}
use Rattle.txn_groups.specs.inside.Nodes.{AreNumbered}

-- a path is less than another
abbrev pub Less : List ℕ → List ℕ → Type 0
Less p q = is_path_before q p ≡ false

pub less_then : (p q r : List ℕ) → Less p q → Less q r → Less p r
less_then p q r e f =
    by_cases (Less p r) (is_path_before r p)
    (λ h. let back : is_path_before q p ≡ true = path_then q r p (path_total r q f) h in
    let both : true ≡ false = sym back ∙ e in absurd (cc))
    (λ h. h)

pub less_one_way : (p q : List ℕ) → Less p q → Less q p → ⊥
less_one_way p q e f = let both : true ≡ false = sym (path_total q p e) ∙ f in absurd (cc)

pub less_longer : (p : List ℕ) (n : ℕ) → Less p (p ++ n ∷ [])
less_longer p n = path_longer p n

-- the first number that differs decides
pub less_at : (p : List ℕ) (j m : ℕ) (q r : List ℕ) → j < m → Less (p ++ j ∷ q) (p ++ m ∷ r)
less_at [] j m q r less =
    by_cases (Less (j ∷ q) (m ∷ r)) (ltb m j)
    (λ t. absurd (omega (arith, less, ltb-true m j t)))
    (λ t. rw (ne_eqb m j (λ e. omega (arith, e, less))) t)
less_at (x ∷ p) j m q r less = rw (eq-eqb x x refl) (less_at p j m q r less)

-- a row of a tree
pub record Inside (rows : List Row) (root : ℕ) (row : Row) : Type 0 where
  pub found : row_of row.serial rows ≡ Some row
  pub tree : row.root ≡ root

-- the row above another is of its tree
pub above_inside : (rows : List Row) (root : ℕ) (row : Row) → Inside rows root row → (below : IsBelow rows row) → Inside rows root below.above
above_inside rows root row is below = record {
  found = ap (λ (s : ℕ). row_of s rows) (row_of_serial below.link.serial rows below.above below.found) ∙ below.found;
  tree = sym below.root ∙ is.tree;
}

-- rows of one tree and one path are one
pub one_path : (n : ℕ) (rows : List Row) (root : ℕ) (a b : Row) → IsForest rows → AreNumbered rows → Inside rows root a → Inside rows root b → a.path ≡ b.path → length a.path < n → a ≡ b
one_path zero rows root a b forest numbered in_a in_b same short = absurd (omega (arith, short))
one_path (suc n) rows root a b forest numbered in_a in_b same short =
    let from_serial : a.serial ≡ b.serial → a ≡ b = λ e. same_row rows b.serial a b (ap (λ (s : ℕ). row_of s rows) (sym e) ∙ in_a.found) in_b.found in
    ⊎_elim
    (λ (top : IsTop a). ⊎_elim
    (λ (top_b : IsTop b). from_serial (sym top.root ∙ in_a.tree ∙ sym in_b.tree ∙ top_b.root))
    (λ (below : IsBelow rows b). absurd (omega (arith, deeper rows b below, ap (λ (p : List ℕ). length p) same, ap (λ (p : List ℕ). length p) top.path)))
    (forest.linked b.serial b in_b.found))
    (λ (below : IsBelow rows a). ⊎_elim
    (λ (top_b : IsTop b). absurd (omega (arith, deeper rows a below, ap (λ (p : List ℕ). length p) same, ap (λ (p : List ℕ). length p) top_b.path)))
    (λ (below_b : IsBelow rows b).
    let parts = same_from_push below.above.path below_b.above.path below.link.number below_b.link.number (sym below.path ∙ same ∙ below_b.path) in
    let up : below.above ≡ below_b.above = one_path n rows root below.above below_b.above forest numbered (above_inside rows root a in_a below) (above_inside rows root b in_b below_b) parts.0 (omega (arith, short, deeper rows a below)) in
    let serial : below.link.serial ≡ below_b.link.serial = sym (row_of_serial below.link.serial rows below.above below.found) ∙ ap (λ (r : Row). r.serial) up ∙ row_of_serial below_b.link.serial rows below_b.above below_b.found in
    from_serial (numbered.apart a.serial b.serial a b below.link below_b.link in_a.found in_b.found below.linked below_b.linked serial parts.1))
    (forest.linked b.serial b in_b.found))
    (forest.linked a.serial a in_a.found)

-- a list has no last element, or one
pub ends : (q : List ℕ) → (q ≡ []) ⊎ ((f : List ℕ) × (l : ℕ) × (q ≡ f ++ l ∷ []))
ends [] = inl refl
ends (x ∷ q) = ⊎_elim
    (λ (e : q ≡ []). inr ([], x, ap (λ (l : List ℕ). x ∷ l) e))
    (λ (w : (f : List ℕ) × (l : ℕ) × (q ≡ f ++ l ∷ [])). inr (x ∷ w.0, w.1, ap (λ (l : List ℕ). x ∷ l) w.2))
    (ends q)

-- a row of a path, which has more children than a number
pub record HasChild (rows : List Row) (root : ℕ) (path : List ℕ) (number : ℕ) : Type 0 where
  pub above : Row
  pub inside : Inside rows root above
  pub is : above.path ≡ path
  pub more : number < above.children

length_at : (path : List ℕ) (m : ℕ) (q : List ℕ) → length path + 1 ≤ length (path ++ m ∷ q)
length_at [] m q = omega arith
length_at (x ∷ path) m q = omega (arith, length_at path m q)

-- above a row whose path goes on from another stands a row of that path
pub child_above : (n : ℕ) (rows : List Row) (root : ℕ) (row : Row) (path : List ℕ) (m : ℕ) (q : List ℕ) → IsForest rows → AreNumbered rows → Inside rows root row → row.path ≡ path ++ m ∷ q → length q < n → HasChild rows root path m
child_above zero rows root row path m q forest numbered inside is short = absurd (omega (arith, short))
child_above (suc n) rows root row path m q forest numbered inside is short = ⊎_elim
    (λ (top : IsTop row). absurd (omega (arith, length_push path m, ap (λ (p : List ℕ). length p) top.path, ap (λ (p : List ℕ). length p) is, length_at path m q)))
    (λ (below : IsBelow rows row). ⊎_elim
    (λ (none : q ≡ []).
    let parts = same_from_push below.above.path path below.link.number m (sym below.path ∙ is ∙ ap (λ (l : List ℕ). path ++ m ∷ l) none) in
    record {
      above = below.above;
      inside = above_inside rows root row inside below;
      is = parts.0;
      more = subst (λ (k : ℕ). k < below.above.children) parts.1 (numbered.below row.serial row below.above below.link inside.found below.linked below.found);
    })
    (λ (w : (f : List ℕ) × (l : ℕ) × (q ≡ f ++ l ∷ [])).
    let parts = same_from_push below.above.path (path ++ m ∷ w.0) below.link.number w.1 (sym below.path ∙ is ∙ ap (λ (l : List ℕ). path ++ m ∷ l) w.2 ∙ sym (append_assoc path (m ∷ w.0) (w.1 ∷ []))) in
    child_above n rows root below.above path m w.0 forest numbered (above_inside rows root row inside below) parts.0 (omega (arith, short, ap (λ (l : List ℕ). length l) w.2, length_push w.0 w.1)))
    (ends q))
    (forest.linked row.serial row inside.found)
