-- Rows of a tree among others.
use Rattle.std.proofs.Common.{◌≡◌, ◌+◌, ◌<◌, ℕ, false, not, eqb, List, [], ◌∷◌, ◌++◌, length, get_or, set, take, drop, refl, ap, sym, ◌∙◌, append-nil, arith}
use Rattle.std.proofs.lemmas.Bool.{eq-eqb}
use Rattle.std.proofs.lemmas.List.{drop_more, drop-set-lt, length-set}
use Rattle.std.proofs.lemmas.List.Elements.{filter-append, filter_more}
use Rattle.txn_rows.specs.declared.rows.Row.{Row}
use Rattle.txn_rows.specs.inside.Rows.{rows_below, rows_beside}
use Rattle.txn_rows.proofs.TreeLemmas.{around, set_around}

-- a row of the tree is none of the others
beside_around : (root : ℕ) (front back : List Row) (row : Row) → row.root ≡ root → rows_beside root (front ++ row ∷ back) ≡ rows_beside root front ++ rows_beside root back
beside_around root front back row inside = filter-append (λ (r : Row). not (eqb r.root root)) front (row ∷ back) ∙ rw (eq-eqb row.root root inside) refl

-- one row of the tree in the place of another
beside_set : (root at : ℕ) (rows : List Row) (row gap : Row) → at < length rows → row ≡ get_or rows at row → row.root ≡ root → gap.root ≡ root → rows_beside root (set rows at gap) ≡ rows_beside root rows
beside_set root at rows row gap within read inside gap_inside =
    ap (rows_beside root) (set_around at rows gap within) ∙ beside_around root (take at rows) (drop (at + 1) rows) gap gap_inside
    ∙ sym (ap (rows_beside root) (around at rows row within read) ∙ beside_around root (take at rows) (drop (at + 1) rows) row inside)

-- the rows of the tree among the first are taken, the others stand, and the rest is as it was
pub record TakesOn (root at : ℕ) (first now tree : List Row) : Type 0 where
  pub tree_is : tree ≡ rows_below root (take at first)
  pub others : rows_beside root now ≡ rows_beside root first
  pub rest : drop at now ≡ drop at first
  pub long : length now ≡ length first

-- the rest after one more
record Rest (at : ℕ) (first now : List Row) (row : Row) : Type 0 where
  read : row ≡ get_or first at row
  rest : drop (at + 1) now ≡ drop (at + 1) first

rest_more : (root at : ℕ) (first now tree : List Row) (row : Row) → TakesOn root at first now tree → at < length first → row ≡ get_or now at row → Rest at first now row
rest_more root at first now tree row t within read =
    let cells : get_or now at row ∷ drop (at + 1) now ≡ get_or first at row ∷ drop (at + 1) first =
    sym (drop_more now at row (omega (arith, t.long, within))) ∙ t.rest ∙ drop_more first at row within in
    record { read = cc; rest = cc }

pub takes_row : (root at : ℕ) (first now tree : List Row) (row gap : Row) → TakesOn root at first now tree → at < length first → row ≡ get_or now at row → row.root ≡ root → gap.root ≡ root → TakesOn root (at + 1) first (set now at gap) (tree ++ row ∷ [])
takes_row root at first now tree row gap t within read inside gap_inside =
    let next = rest_more root at first now tree row t within read in
    record {
      tree_is = ap (λ (rs : List Row). rs ++ row ∷ []) t.tree_is ∙ sym (filter_more (λ (r : Row). eqb r.root root) first at row within ∙ rw (sym next.read, eq-eqb row.root root inside) refl);
      others = beside_set root at now row gap (omega (arith, t.long, within)) read inside gap_inside ∙ t.others;
      rest = drop-set-lt (at + 1) now at gap (omega arith) ∙ next.rest;
      long = length-set now at gap ∙ t.long;
    }

pub takes_none : (root at : ℕ) (first now tree : List Row) (row : Row) → TakesOn root at first now tree → at < length first → row ≡ get_or now at row → eqb row.root root ≡ false → TakesOn root (at + 1) first now tree
takes_none root at first now tree row t within read outside =
    let next = rest_more root at first now tree row t within read in
    record {
      tree_is = t.tree_is ∙ sym (filter_more (λ (r : Row). eqb r.root root) first at row within ∙ rw (sym next.read, outside) (append-nil _));
      others = t.others;
      rest = next.rest;
      long = t.long;
    }
