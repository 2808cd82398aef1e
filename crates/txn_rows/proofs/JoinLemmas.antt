-- A tree that is joined to a parent: the rows stand in trees again, and the definitions see the link alone.
use Rattle.std.proofs.Common.{◌≡◌, ◌+◌, ◌<◌, ◌≤◌, ◌⊎◌, ⊎_elim, inl, inr, ℕ, Bool, true, false, not, eqb, cond, ◌&&◌, Option, Some, None, List, [], ◌∷◌, ◌++◌, length, map, refl, ap, sym, ◌∙◌, subst, append_assoc, length-append, get_or, set, take, drop, arith}
use Rattle.std.specs.Prelude.{count_by, is_none}
use Rattle.std.specs.List.{Contains}
use Rattle.std.specs.Option.{option_map}
use Rattle.std.proofs.lemmas.Bool.{eqb-true, eqb-false, eq-eqb, ne_eqb, and_parts, not-true}
use Rattle.std.proofs.lemmas.List.{length-map, length-take-le, map-append, drop_more, set_at, map_more, get_or_at}
use Rattle.std.proofs.lemmas.List.Sums.{sum_by-append, sum_by-cons, get_or-le-sum_by}
use Rattle.std.proofs.lemmas.List.Elements.{Contains-append_right}
use Rattle.txn_rows.specs.declared.rows.Row.{Row}
use Rattle.txn_rows.specs.declared.group.ParentLink.{ParentLink}
use Rattle.txn_rows.specs.declared.join.Join.{Join}
use Rattle.txn_rows.specs.Transaction.{Transaction, newest, with_newest}
use Rattle.txn_rows.specs.Links.{can_join, with_parent, with_link, children, leads_to}
use Rattle.txn_rows.specs.Trees.{transaction_of, row_of, Rising, IsTop, IsBelow, IsForest, AreTrees, IsNewestRow}
use Rattle.txn_rows.specs.inside.Rows.{joined, Rows}
use Rattle.txn_rows.proofs.LineLemmas.{by_cases, row_of_serial}
use Rattle.txn_rows.proofs.TreeLemmas.{line_whole, each_found, around, each_at, of_row, of_row_in, row_changed}
use Rattle.txn_rows.proofs.ChangeLemmas.{newest_in, newest_split, changed_in, OneChanged}

-- a change that keeps serial numbers
pub row_of_map : (f : Row → Row) → ((row : Row) → (f row).serial ≡ row.serial) → (s : ℕ) (rows : List Row) → row_of s (map f rows) ≡ option_map f (row_of s rows)
row_of_map f keeps s [] = refl
row_of_map f keeps s (row ∷ rows) =
    ap (λ (n : ℕ). cond (eqb n s) (Some (f row)) (row_of s (map f rows))) (keeps row)
    ∙ by_cases (cond (eqb row.serial s) (Some (f row)) (row_of s (map f rows)) ≡ option_map f (row_of s (row ∷ rows))) (eqb row.serial s)
    (λ t. rw t refl)
    (λ t. rw t (row_of_map f keeps s rows))

pub rising_map : (f : Row → Row) → ((row : Row) → (f row).serial ≡ row.serial) → (low high : ℕ) (rows : List Row) → Rising low high rows → Rising low high (map f rows)
rising_map f keeps low high [] r = r
rising_map f keeps low high (row ∷ rows) r = (rw (keeps row) r.0, rw (keeps row) (rising_map f keeps (row.serial + 1) high rows r.1))

-- the parts of a row that was joined
pub joined_serial : (join : Join) (row : Row) → (joined join row).serial ≡ row.serial
joined_serial join row = refl

pub joined_root : (join : Join) (row : Row) → (joined join row).root ≡ cond (eqb row.root join.child) join.root row.root
joined_root join row = refl

pub joined_parent : (join : Join) (row : Row) → (joined join row).parent ≡ cond (eqb row.serial join.child) (Some join.link) row.parent
joined_parent join row = refl

-- what has to hold of a join
pub record CanJoin (rows : List Row) (join : Join) : Type 0 where
  pub child : Row
  pub here : row_of join.child rows ≡ Some child
  pub top : IsTop child
  pub parent : Row
  pub there : row_of join.link.serial rows ≡ Some parent
  pub root : join.root ≡ parent.root
  pub path : join.path ≡ parent.path
  pub apart : eqb parent.root join.child ≡ false

-- how many rows a tree has after a join
pub count_other : (join : Join) (x : ℕ) → eqb join.child x ≡ false → (rows : List Row) → count_by (λ (r : Row). eqb r.root x) rows ≤ count_by (λ (r : Row). eqb r.root x) (map (joined join) rows)
count_other join x other [] = omega arith
count_other join x other (row ∷ rows) =
    let ih = count_other join x other rows in
    let p : Row → ℕ = λ r. cond (eqb r.root x) 1 0 in
    let whole = sum_by-cons p row rows in
    let now = sum_by-cons p (joined join row) (map (joined join) rows) in
    let one : p row ≤ p (joined join row) =
    by_cases (p row ≤ p (joined join row)) (eqb row.root join.child)
    (λ t. let same : eqb row.root x ≡ false = ap (λ (n : ℕ). eqb n x) (eqb-true row.root join.child t) ∙ other in rw same (omega arith))
    (λ t. rw (joined_root join row, t) (omega arith)) in
    omega (arith, ih, whole, now, one)

pub count_both : (join : Join) → eqb join.root join.child ≡ false → (rows : List Row) → count_by (λ (r : Row). eqb r.root join.root) (map (joined join) rows) ≡ count_by (λ (r : Row). eqb r.root join.root) rows + count_by (λ (r : Row). eqb r.root join.child) rows
count_both join apart [] = refl
count_both join apart (row ∷ rows) =
    let ih = count_both join apart rows in
    let p : Row → ℕ = λ r. cond (eqb r.root join.root) 1 0 in
    let q : Row → ℕ = λ r. cond (eqb r.root join.child) 1 0 in
    let whole_p = sum_by-cons p row rows in
    let whole_q = sum_by-cons q row rows in
    let now = sum_by-cons p (joined join row) (map (joined join) rows) in
    let one : p (joined join row) ≡ p row + q row =
    by_cases (p (joined join row) ≡ p row + q row) (eqb row.root join.child)
    (λ t. let other : eqb row.root join.root ≡ false = ne_eqb row.root join.root (λ e. eqb-false join.root join.child apart (sym e ∙ eqb-true row.root join.child t)) in
    rw (joined_root join row, t, other, eq-eqb join.root join.root refl) (omega arith))
    (λ t. rw (joined_root join row, t) (omega arith)) in
    omega (arith, ih, whole_p, whole_q, now, one)

-- where a row is found after a change, it was there before
pub before_map : (f : Row → Row) (s : ℕ) (rows : List Row) (o : Option Row) (now : Row) → o ≡ row_of s rows → option_map f o ≡ Some now → (row : Row) × (row_of s rows ≡ Some row) × (now ≡ f row)
before_map f s rows None now e h = absurd (cc)
before_map f s rows (Some row) now e h = (row, sym e, (cc))

-- the row that joins is at the top of its tree
pub child_root : (rows : List Row) (join : Join) (c : CanJoin rows join) → c.child.root ≡ join.child
child_root rows join c = c.top.root ∙ row_of_serial join.child rows c.child c.here

-- where serial numbers are the same, the rows are
pub same_row : (rows : List Row) (s : ℕ) (row other : Row) → row_of s rows ≡ Some row → row_of s rows ≡ Some other → row ≡ other
same_row rows s row other here there = let e : Some row ≡ Some other = sym here ∙ there in cc

-- a row outside of the tree that joins is not its first
pub not_first : (rows : List Row) (join : Join) (c : CanJoin rows join) (s : ℕ) (row : Row) → row_of s rows ≡ Some row → eqb row.root join.child ≡ false → eqb row.serial join.child ≡ false
not_first rows join c s row here outside =
    ne_eqb row.serial join.child (λ e.
    let at : row_of join.child rows ≡ Some row = ap (λ (n : ℕ). row_of n rows) (sym e ∙ row_of_serial s rows row here) ∙ here in
    let same : row ≡ c.child = same_row rows join.child row c.child at c.here in
    eqb-false row.root join.child outside (ap (λ (r : Row). r.root) same ∙ child_root rows join c))

-- the root and the path of a row outside stay
pub root_stays : (join : Join) (row : Row) → eqb row.root join.child ≡ false → (joined join row).root ≡ row.root
root_stays join row outside = joined_root join row ∙ ap (λ (b : Bool). cond b join.root row.root) outside

pub path_stays : (join : Join) (row : Row) → eqb row.root join.child ≡ false → (joined join row).path ≡ row.path
path_stays join row outside = ap (λ (b : Bool). cond b (join.path ++ join.link.number ∷ row.path) row.path) outside

pub parent_stays : (join : Join) (row : Row) → eqb row.serial join.child ≡ false → (joined join row).parent ≡ row.parent
parent_stays join row other = joined_parent join row ∙ ap (λ (b : Bool). cond b (Some join.link) row.parent) other

-- what is found after the join
pub found_joined : (rows : List Row) (join : Join) (s : ℕ) (row : Row) → row_of s rows ≡ Some row → row_of s (map (joined join) rows) ≡ Some (joined join row)
found_joined rows join s row here = row_of_map (joined join) (joined_serial join) s rows ∙ ap (option_map (joined join)) here

-- the row that joins is below the parent
pub child_below : (rows : List Row) (join : Join) (c : CanJoin rows join) → IsBelow (map (joined join) rows) (joined join c.child)
child_below rows join c =
    let is : c.child.serial ≡ join.child = row_of_serial join.child rows c.child c.here in
    let inside : eqb c.child.root join.child ≡ true = eq-eqb c.child.root join.child (child_root rows join c) in
    record {
      link = join.link;
      linked = joined_parent join c.child ∙ ap (λ (b : Bool). cond b (Some join.link) c.child.parent) (eq-eqb c.child.serial join.child is);
      above = joined join c.parent;
      found = found_joined rows join join.link.serial c.parent c.there;
      root = joined_root join c.child ∙ ap (λ (b : Bool). cond b join.root c.child.root) inside ∙ c.root ∙ sym (root_stays join c.parent c.apart);
      path = ap (λ (b : Bool). cond b (join.path ++ join.link.number ∷ c.child.path) c.child.path) inside
          ∙ ap (λ (p : List ℕ). join.path ++ join.link.number ∷ p) c.top.path ∙ ap (λ (p : List ℕ). p ++ join.link.number ∷ []) (c.path ∙ sym (path_stays join c.parent c.apart));
    }

-- a row of the tree that joins, but for the first, is below the same as before
pub inner_below : (rows : List Row) (join : Join) (c : CanJoin rows join) (row : Row) (below : IsBelow rows row) → eqb row.serial join.child ≡ false → eqb row.root join.child ≡ true → IsBelow (map (joined join) rows) (joined join row)
inner_below rows join c row below other inside =
    let above_inside : eqb below.above.root join.child ≡ true = ap (λ (n : ℕ). eqb n join.child) (sym below.root) ∙ inside in
    record {
      link = below.link;
      linked = parent_stays join row other ∙ below.linked;
      above = joined join below.above;
      found = found_joined rows join below.link.serial below.above below.found;
      root = joined_root join row ∙ ap (λ (b : Bool). cond b join.root row.root) inside ∙ sym (joined_root join below.above ∙ ap (λ (b : Bool). cond b join.root below.above.root) above_inside);
      path = ap (λ (b : Bool). cond b (join.path ++ join.link.number ∷ row.path) row.path) inside
          ∙ ap (λ (p : List ℕ). join.path ++ join.link.number ∷ p) below.path
          ∙ sym (append_assoc join.path (join.link.number ∷ below.above.path) (below.link.number ∷ []))
          ∙ ap (λ (p : List ℕ). p ++ below.link.number ∷ []) (sym (ap (λ (b : Bool). cond b (join.path ++ join.link.number ∷ below.above.path) below.above.path) above_inside));
    }

-- a row is below another among other rows, where that one is found
pub still_below : (rows now : List Row) (row : Row) (below : IsBelow rows row) → row_of below.link.serial now ≡ Some below.above → IsBelow now row
still_below rows now row below found = record { link = below.link; linked = below.linked; above = below.above; found = found; root = below.root; path = below.path }

-- a row outside is where it was
pub outer_below : (rows : List Row) (join : Join) (row : Row) (below : IsBelow rows row) → eqb row.serial join.child ≡ false → eqb row.root join.child ≡ false → IsBelow (map (joined join) rows) (joined join row)
outer_below rows join row below other outside =
    let above_outside : eqb below.above.root join.child ≡ false = ap (λ (n : ℕ). eqb n join.child) (sym below.root) ∙ outside in
    record {
      link = below.link;
      linked = parent_stays join row other ∙ below.linked;
      above = joined join below.above;
      found = found_joined rows join below.link.serial below.above below.found;
      root = root_stays join row outside ∙ below.root ∙ sym (root_stays join below.above above_outside);
      path = path_stays join row outside ∙ below.path ∙ ap (λ (p : List ℕ). p ++ below.link.number ∷ []) (sym (path_stays join below.above above_outside));
    }

pub outer_top : (join : Join) (row : Row) → IsTop row → eqb row.serial join.child ≡ false → eqb row.root join.child ≡ false → IsTop (joined join row)
outer_top join row top other outside = record {
  none = parent_stays join row other ∙ top.none;
  root = root_stays join row outside ∙ top.root ∙ sym (joined_serial join row);
  path = path_stays join row outside ∙ top.path;
}

pub joined_linked : (rows : List Row) → IsForest rows → (join : Join) (c : CanJoin rows join) (s : ℕ) (row : Row) → row_of s rows ≡ Some row → IsTop (joined join row) ⊎ IsBelow (map (joined join) rows) (joined join row)
joined_linked rows forest join c s row here =
    let Goal : Type 0 = IsTop (joined join row) ⊎ IsBelow (map (joined join) rows) (joined join row) in
    by_cases Goal (eqb row.root join.child)
    (λ inside. by_cases Goal (eqb row.serial join.child)
    (λ is.
    let at : row_of join.child rows ≡ Some row = ap (λ (n : ℕ). row_of n rows) (sym (eqb-true row.serial join.child is) ∙ row_of_serial s rows row here) ∙ here in
    inr (subst (λ (r : Row). IsBelow (map (joined join) rows) (joined join r)) (sym (same_row rows join.child row c.child at c.here)) (child_below rows join c)))
    (λ other. ⊎_elim
    (λ (top : IsTop row). absurd (eqb-false row.serial join.child other (sym top.root ∙ eqb-true row.root join.child inside)))
    (λ (below : IsBelow rows row). inr (inner_below rows join c row below other inside))
    (forest.linked s row here)))
    (λ outside.
    let other : eqb row.serial join.child ≡ false = not_first rows join c s row here outside in
    ⊎_elim
    (λ (top : IsTop row). inl (outer_top join row top other outside))
    (λ (below : IsBelow rows row). inr (outer_below rows join row below other outside))
    (forest.linked s row here))

pub joined_shallow : (rows : List Row) → IsForest rows → (join : Join) (c : CanJoin rows join) (s : ℕ) (row : Row) → row_of s rows ≡ Some row → length (joined join row).path < count_by (λ (r : Row). eqb r.root (joined join row).root) (map (joined join) rows)
joined_shallow rows forest join c s row here =
    let apart : eqb join.root join.child ≡ false = ap (λ (n : ℕ). eqb n join.child) c.root ∙ c.apart in
    let shallow : length row.path < count_by (λ (r : Row). eqb r.root row.root) rows = forest.shallow s row here in
    by_cases (length (joined join row).path < count_by (λ (r : Row). eqb r.root (joined join row).root) (map (joined join) rows)) (eqb row.root join.child)
    (λ inside.
    let above : length c.parent.path < count_by (λ (r : Row). eqb r.root c.parent.root) rows = forest.shallow join.link.serial c.parent c.there in
    let above_is : length join.path < count_by (λ (r : Row). eqb r.root join.root) rows = rw (c.path, c.root) above in
    let own : length row.path < count_by (λ (r : Row). eqb r.root join.child) rows = subst (λ (n : ℕ). length row.path < count_by (λ (r : Row). eqb r.root n) rows) (eqb-true row.root join.child inside) shallow in
    let all = count_both join apart rows in
    let long = length-append join.path (join.link.number ∷ row.path) in
    rw (joined_root join row, inside) (omega (arith, above_is, own, all, long)))
    (λ outside.
    let more = count_other join row.root (ne_eqb join.child row.root (λ e. eqb-false row.root join.child outside (sym e))) rows in
    rw (joined_root join row, outside) (omega (arith, shallow, more)))

pub count_map : {X Y : Type 0} (p : Y → Bool) (f : X → Y) (xs : List X) → count_by p (map f xs) ≡ count_by (λ x. p (f x)) xs
count_map p f [] = refl
count_map {X} {Y} p f (x ∷ xs) =
    let c : Y → ℕ = λ y. cond (p y) 1 0 in
    sum_by-cons c (f x) (map f xs) ∙ ap (λ (n : ℕ). c (f x) + n) (count_map p f xs) ∙ sym (sum_by-cons (λ (x : X). c (f x)) x xs)

-- a row that is found is in the list
pub row_contained : (s : ℕ) (rows : List Row) (row : Row) → row_of s rows ≡ Some row → Contains rows row
row_contained s [] row here = absurd (cc)
row_contained s (first ∷ rows) row here =
    by_cases (Contains (first ∷ rows) row) (eqb first.serial s)
    (λ t. let same : Some first ≡ Some row = rw t at here in (0, omega arith, (cc)))
    (λ t. Contains-append_right (first ∷ []) rows row (row_contained s rows row (rw t at here)))

-- a join changes one link in the transactions
told_linked : (join : Join) (rows : List Row) → map transaction_of (map (joined join) rows) ≡ map transaction_of (map (of_row join.child (λ row. record row { parent = Some join.link })) rows)
told_linked join [] = refl
told_linked join (row ∷ rows) =
    let linked : Row → Row = λ r. record r { parent = Some join.link } in
    let Goal : Type 0 = transaction_of (joined join row) ≡ transaction_of (of_row join.child linked row) in
    ap (λ (t : Transaction). t ∷ map transaction_of (map (joined join) rows)) (by_cases Goal (eqb row.serial join.child) (λ t. rw t refl) (λ t. rw t refl))
    ∙ ap (λ (ts : List Transaction). transaction_of (of_row join.child linked row) ∷ ts) (told_linked join rows)

-- the first of the tree that joins is one child more
pub count_linked : (join : Join) (x begun : ℕ) (rows : List Row) (child : Row) → Rising 0 begun rows → row_of join.child rows ≡ Some child → child.parent ≡ None →
    count_by (λ (r : Row). leads_to x r.parent) (map (joined join) rows) ≡ count_by (λ (r : Row). leads_to x r.parent) rows + cond (eqb join.link.serial x) 1 0
count_linked join x begun rows child rising here none =
    let links : List Row → ℕ = λ rs. count_by (λ (r : Row). leads_to x r.parent) rs in
    let told : List Transaction → ℕ = λ ts. count_by (λ (t : Transaction). leads_to x t.parent) ts in
    let one : Row → ℕ = λ r. cond (leads_to x r.parent) 1 0 in
    let linked : Row → Row = λ r. record r { parent = Some join.link } in
    let at = row_contained join.child rows child here in
    let front : List Row = take at.0 rows in
    let back : List Row = drop (at.0 + 1) rows in
    let split : rows ≡ front ++ child ∷ back = around at.0 rows child at.1 (sym at.2) in
    let now : map (of_row join.child linked) rows ≡ front ++ linked child ∷ back =
    ap (λ (n : ℕ). map (of_row n linked) rows) (sym (row_of_serial join.child rows child here))
    ∙ ap (map (of_row child.serial linked)) split ∙ of_row_in linked 0 begun front child back (subst (Rising 0 begun) split rising) in
    let same : links (map (joined join) rows) ≡ links (front ++ linked child ∷ back) =
    sym (count_map (λ (t : Transaction). leads_to x t.parent) transaction_of (map (joined join) rows)) ∙ ap told (told_linked join rows)
    ∙ count_map (λ (t : Transaction). leads_to x t.parent) transaction_of (map (of_row join.child linked) rows) ∙ ap links now in
    omega (arith, same, ap links split, sum_by-append one front (child ∷ back), sum_by-cons one child back, sum_by-append one front (linked child ∷ back), sum_by-cons one (linked child) back, ap {B = ℕ} (λ (p : Option ParentLink). cond (leads_to x p) 1 0) none)

pub joined_counted : (begun : ℕ) (rows : List Row) → AreTrees begun rows → (join : Join) (c : CanJoin rows join) (s : ℕ) (row : Row) → row_of s rows ≡ Some row → (joined join row).children ≡ count_by (λ (r : Row). leads_to (joined join row).serial r.parent) (map (joined join) rows)
joined_counted begun rows trees join c s row here =
    let was : row.children ≡ count_by (λ (r : Row). leads_to row.serial r.parent) rows = trees.forest.counted s row here in
    let more = count_linked join row.serial begun rows c.child trees.rising c.here c.top.none in
    let now : (joined join row).children ≡ count_by (λ (r : Row). leads_to row.serial r.parent) (map (joined join) rows) =
    by_cases ((joined join row).children ≡ count_by (λ (r : Row). leads_to row.serial r.parent) (map (joined join) rows)) (eqb row.serial join.link.serial)
    (λ t. let back : cond (eqb join.link.serial row.serial) 1 0 ≡ 1 = ap {B = ℕ} (λ (b : Bool). cond b 1 0) (eq-eqb join.link.serial row.serial (sym (eqb-true row.serial join.link.serial t))) in
    let one : (joined join row).children ≡ row.children + 1 = ap (λ (b : Bool). cond b (row.children + 1) row.children) t in
    omega (arith, was, more, back, one))
    (λ t. let back : cond (eqb join.link.serial row.serial) 1 0 ≡ 0 = ap {B = ℕ} (λ (b : Bool). cond b 1 0) (ne_eqb join.link.serial row.serial (λ e. eqb-false row.serial join.link.serial t (sym e))) in
    let one : (joined join row).children ≡ row.children = ap (λ (b : Bool). cond b (row.children + 1) row.children) t in
    omega (arith, was, more, back, one)) in
    now ∙ ap (λ (n : ℕ). count_by (λ (r : Row). leads_to n r.parent) (map (joined join) rows)) (sym (joined_serial join row))

-- the rows stand in trees again
pub joined_trees : (begun : ℕ) (rows : List Row) (join : Join) → AreTrees begun rows → CanJoin rows join → AreTrees begun (map (joined join) rows)
joined_trees begun rows join trees c =
    record {
      rising = rising_map (joined join) (joined_serial join) 0 begun rows trees.rising;
      forest = record {
        linked = λ s now here.
            let was = before_map (joined join) s rows (row_of s rows) now refl (sym (row_of_map (joined join) (joined_serial join) s rows) ∙ here) in
            subst (λ (r : Row). IsTop r ⊎ IsBelow (map (joined join) rows) r) (sym was.2) (joined_linked rows trees.forest join c s was.0 was.1);
        shallow = λ s now here.
            let was = before_map (joined join) s rows (row_of s rows) now refl (sym (row_of_map (joined join) (joined_serial join) s rows) ∙ here) in
            subst (λ (r : Row). length r.path < count_by (λ (x : Row). eqb x.root r.root) (map (joined join) rows)) (sym was.2) (joined_shallow rows trees.forest join c s was.0 was.1);
        counted = λ s now here.
            let was = before_map (joined join) s rows (row_of s rows) now refl (sym (row_of_map (joined join) (joined_serial join) s rows) ∙ here) in
            subst (λ (r : Row). r.children ≡ count_by (λ (x : Row). leads_to r.serial x.parent) (map (joined join) rows)) (sym was.2) (joined_counted begun rows trees join c s was.0 was.1);
      };
    }

-- the newest of a VXID gets the link
pub newest_joined : (vxid begun : ℕ) (rows : List Row) (join : Join) (child : Row) → Rising 0 begun rows → newest vxid (map transaction_of rows) ≡ Some (transaction_of child) → child.serial ≡ join.child →
    map transaction_of (map (joined join) rows) ≡ with_newest vxid (λ t. record t { parent = Some join.link }) (map transaction_of rows)
newest_joined vxid begun rows join child rising e is =
    let pending : List Transaction = map transaction_of rows in
    let t : Transaction = transaction_of child in
    let change : Transaction → Transaction = λ u. record u { parent = Some join.link } in
    let linked : Row → Row = λ r. record r { parent = Some join.link } in
    let s = newest_split vxid pending t e in
    let one : OneChanged change t pending (with_newest vxid change pending) = record { front = s.front; back = s.back; was = s.whole; is = ap (with_newest vxid change) s.whole ∙ changed_in vxid change s.front t s.back s.same s.none } in
    told_linked join rows
    ∙ ap (λ (n : ℕ). map transaction_of (map (of_row n linked) rows)) (sym is)
    ∙ (row_changed rows begun linked change t (with_newest vxid change pending) (λ row. refl) rising one).told

-- rows of which the first few were changed
pub changed_more : (f : Row → Row) (rows : List Row) (i : ℕ) (row : Row) → i < length rows → row ≡ get_or rows i row → set (map f (take i rows) ++ drop i rows) i (f row) ≡ map f (take (i + 1) rows) ++ drop (i + 1) rows
changed_more f rows i row within read =
    let rest : drop i rows ≡ row ∷ drop (i + 1) rows = drop_more rows i row within ∙ ap (λ (r : Row). r ∷ drop (i + 1) rows) (sym read) in
    let long : length (map f (take i rows)) ≡ i = length-map (take i rows) f ∙ length-take-le i rows (omega (arith, within)) in
    ap (λ (rs : List Row). set (map f (take i rows) ++ rs) i (f row)) rest
    ∙ set_at (map f (take i rows)) row (drop (i + 1) rows) (f row) i long
    ∙ sym (append_assoc (map f (take i rows)) (f row ∷ []) (drop (i + 1) rows))
    ∙ ap (λ (rs : List Row). rs ++ drop (i + 1) rows) (sym (map_more f rows i row within ∙ ap (λ (r : Row). map f (take i rows) ++ f r ∷ []) (sym read)))

-- the element that comes next was not changed
pub changed_read : (f : Row → Row) (rows : List Row) (i : ℕ) (row : Row) → i < length rows → row ≡ get_or (map f (take i rows) ++ drop i rows) i row → row ≡ get_or rows i row
changed_read f rows i row within read =
    let long : length (map f (take i rows)) ≡ i = length-map (take i rows) f ∙ length-take-le i rows (omega (arith, within)) in
    read ∙ ap (λ (rs : List Row). get_or (map f (take i rows) ++ rs) i row) (drop_more rows i row within) ∙ get_or_at (map f (take i rows)) (get_or rows i row) (drop (i + 1) rows) row i long

-- one row more was changed
pub changed_on : (f : Row → Row) (rows now : List Row) (i : ℕ) (row new : Row) → i < length rows → now ≡ map f (take i rows) ++ drop i rows → row ≡ get_or now i row → new ≡ f row → set now i new ≡ map f (take (i + 1) rows) ++ drop (i + 1) rows
changed_on f rows now i row new within so_far read is =
    ap (λ (rs : List Row). set rs i new) so_far
    ∙ ap (λ (r : Row). set (map f (take i rows) ++ drop i rows) i r) is
    ∙ changed_more f rows i row within (changed_read f rows i row within (read ∙ ap (λ (rs : List Row). get_or rs i row) so_far))

-- rows, split at a place
pub split_at_row : (at : ℕ) (rows : List Row) (row : Row) → at < length rows → row ≡ get_or rows at row → map transaction_of rows ≡ map transaction_of (take at rows) ++ transaction_of row ∷ map transaction_of (drop (at + 1) rows)
split_at_row at rows row within read = ap (map transaction_of) (around at rows row within read) ∙ map-append transaction_of (take at rows) (row ∷ drop (at + 1) rows)

pub newest_at : (vxid at : ℕ) (rows : List Row) (row : Row) → IsNewestRow vxid at rows → row ≡ get_or rows at row → newest vxid (map transaction_of rows) ≡ Some (transaction_of row)
newest_at vxid at rows row is read =
    let same : row.vxid ≡ vxid = ap (λ (r : Row). r.vxid) read ∙ is.is row in
    ap (newest vxid) (split_at_row at rows row is.within read)
    ∙ newest_in vxid (map transaction_of (take at rows)) (transaction_of row) (map transaction_of (drop (at + 1) rows)) (eq-eqb row.vxid vxid same) is.none_after

pub none_from : (o : Option ParentLink) → is_none o ≡ true → o ≡ None
none_from None e = refl
none_from (Some link) e = absurd (cc)

-- whether a row can join, by what rows tell
pub can_join_rows : (begun : ℕ) (rows : List Row) → AreTrees begun rows → (child parent : Row) → row_of child.serial rows ≡ Some child → row_of parent.serial rows ≡ Some parent →
    can_join (map transaction_of rows) (transaction_of child) (transaction_of parent) ≡ (is_none child.parent && not child.ended && not (eqb parent.root child.serial))
can_join_rows begun rows trees child parent here there =
    let pending : List Transaction = map transaction_of rows in
    by_cases (can_join pending (transaction_of child) (transaction_of parent) ≡ (is_none child.parent && not child.ended && not (eqb parent.root child.serial))) (is_none child.parent)
    (λ none.
    let line = line_whole rows trees.forest parent.serial parent there in
    ap (λ (b : Bool). is_none child.parent && not child.ended && not b) (line.has child (none_from child.parent none) here))
    (λ some. rw some refl)

-- a row that passes is counted
pub row_counted : (q : Row → Bool) (s : ℕ) (rows : List Row) (row : Row) → row_of s rows ≡ Some row → q row ≡ true → 1 ≤ count_by q rows
row_counted q s rows row here passes =
    let c : Row → ℕ = λ r. cond (q r) 1 0 in
    let at = row_contained s rows row here in
    omega (arith, get_or-le-sum_by c rows at.0 row at.1, ap c at.2, ap {B = ℕ} (λ (b : Bool). cond b 1 0) passes)

pub top_from : (rows : List Row) (row : Row) → IsTop row ⊎ IsBelow rows row → row.parent ≡ None → IsTop row
top_from rows row linked none = ⊎_elim (λ (top : IsTop row). top) (λ (below : IsBelow rows row). absurd (let e : Some below.link ≡ None = sym below.linked ∙ none in cc)) linked

-- two rows, each the newest of its VXID
pub record Pair (child_vxid parent_vxid : ℕ) (rows : List Row) (child parent : Row) : Type 0 where
  pub child_newest : newest child_vxid (map transaction_of rows) ≡ Some (transaction_of child)
  pub child_here : row_of child.serial rows ≡ Some child
  pub child_vxid_is : child.vxid ≡ child_vxid
  pub parent_newest : newest parent_vxid (map transaction_of rows) ≡ Some (transaction_of parent)
  pub parent_here : row_of parent.serial rows ≡ Some parent

pub found_at : (begun : ℕ) (rows : List Row) → AreTrees begun rows → (at : ℕ) (row : Row) → at < length rows → row ≡ get_or rows at row → row_of row.serial rows ≡ Some row
found_at begun rows trees at row within read = each_at (λ r. row_of r.serial rows ≡ Some r) rows at row (each_found 0 begun rows trees.rising) within read

-- the rows at two places, each the newest of its VXID
pub pair_at : (begun cv pv : ℕ) (rows : List Row) → AreTrees begun rows → (below above : ℕ) (child parent : Row) → IsNewestRow cv below rows → child ≡ get_or rows below child → IsNewestRow pv above rows → parent ≡ get_or rows above parent → Pair cv pv rows child parent
pair_at begun cv pv rows trees below above child parent child_is child_read parent_is parent_read = record {
  child_newest = newest_at cv below rows child child_is child_read;
  child_here = found_at begun rows trees below child child_is.within child_read;
  child_vxid_is = ap (λ (r : Row). r.vxid) child_read ∙ child_is.is child;
  parent_newest = newest_at pv above rows parent parent_is parent_read;
  parent_here = found_at begun rows trees above parent parent_is.within parent_read;
}

-- what a link comes to, where both rows are there
pub link_is : (cv pv : ℕ) (rows : List Row) (child parent : Row) → Pair cv pv rows child parent → with_link cv pv (map transaction_of rows) ≡ with_parent (Some (transaction_of child)) (Some (transaction_of parent)) (map transaction_of rows)
link_is cv pv rows child parent pair =
    let pending : List Transaction = map transaction_of rows in
    ap (λ (c : Option Transaction). with_parent c (newest pv pending) pending) pair.child_newest
    ∙ ap (λ (p : Option Transaction). with_parent (Some (transaction_of child)) p pending) pair.parent_newest

-- a link that has no effect
pub link_refused : (begun cv pv : ℕ) (rows : List Row) (child parent : Row) → AreTrees begun rows → Pair cv pv rows child parent → (is_none child.parent && not child.ended && not (eqb parent.root child.serial)) ≡ false → Rows begun (with_link cv pv (map transaction_of rows)) rows
link_refused begun cv pv rows child parent trees pair cannot =
    let pending : List Transaction = map transaction_of rows in
    let here = pair.child_here in
    let there = pair.parent_here in
    let can = can_join_rows begun rows trees child parent here there ∙ cannot in
    record {
      trees = trees;
      told = sym (link_is cv pv rows child parent pair ∙ rw can refl);
    }

-- a link that takes effect
pub link_joins : (begun cv pv : ℕ) (rows : List Row) (child parent : Row) (join : Join) → AreTrees begun rows → Pair cv pv rows child parent → (is_none child.parent && not child.ended && not (eqb parent.root child.serial)) ≡ true →
    join ≡ record { child = child.serial; link = record { serial = parent.serial; vxid = parent.vxid; number = count_by (λ row. leads_to parent.serial row.parent) rows }; root = parent.root; path = parent.path } →
    Rows begun (with_link cv pv (map transaction_of rows)) (map (joined join) rows)
link_joins begun cv pv rows child parent join trees pair yes_can is =
    let pending : List Transaction = map transaction_of rows in
    let here = pair.child_here in
    let there = pair.parent_here in
    let can = can_join_rows begun rows trees child parent here there ∙ yes_can in
    let parts = and_parts (is_none child.parent && not child.ended) (not (eqb parent.root child.serial)) yes_can in
    let first = and_parts (is_none child.parent) (not child.ended) parts.0 in
    let c : CanJoin rows join = record {
      child = child;
      here = ap (λ (j : Join). row_of j.child rows) is ∙ here;
      top = top_from rows child (trees.forest.linked child.serial child here) (none_from child.parent first.0);
      parent = parent;
      there = ap (λ (j : Join). row_of j.link.serial rows) is ∙ there;
      root = ap (λ (j : Join). j.root) is;
      path = ap (λ (j : Join). j.path) is;
      apart = ap (λ (j : Join). eqb parent.root j.child) is ∙ not-true (eqb parent.root child.serial) parts.1;
    } in
    let link : ParentLink = record { serial = parent.serial; vxid = parent.vxid; number = children pending (transaction_of parent) } in
    let link_told : join.link ≡ link = ap (λ (j : Join). j.link) is ∙ ap (λ (n : ℕ). record { serial = parent.serial; vxid = parent.vxid; number = n }) (sym (count_map (λ (t : Transaction). leads_to parent.serial t.parent) transaction_of rows)) in
    let same : child.vxid ≡ cv = pair.child_vxid_is in
    record {
      trees = joined_trees begun rows join trees c;
      told =
          newest_joined cv begun rows join child trees.rising pair.child_newest (sym (ap (λ (j : Join). j.child) is))
          ∙ ap (λ (l : ParentLink). with_newest cv (λ t. record t { parent = Some l }) pending) link_told
          ∙ ap (λ (v : ℕ). with_newest v (λ t. record t { parent = Some link }) pending) (sym same)
          ∙ sym (link_is cv pv rows child parent pair ∙ rw can refl);
    }

-- rows that can join are two
pub apart_rows : (begun : ℕ) (rows : List Row) (child parent : Row) → AreTrees begun rows → row_of child.serial rows ≡ Some child → row_of parent.serial rows ≡ Some parent → (is_none child.parent && not child.ended && not (eqb parent.root child.serial)) ≡ true → eqb child.serial parent.serial ≡ false
apart_rows begun rows child parent trees here there can =
    let parts = and_parts (is_none child.parent && not child.ended) (not (eqb parent.root child.serial)) can in
    let first = and_parts (is_none child.parent) (not child.ended) parts.0 in
    let top : IsTop child = top_from rows child (trees.forest.linked child.serial child here) (none_from child.parent first.0) in
    ne_eqb child.serial parent.serial (λ e.
    let at : row_of child.serial rows ≡ Some parent = ap (λ (n : ℕ). row_of n rows) e ∙ there in
    let same : parent ≡ child = same_row rows child.serial parent child at here in
    eqb-false parent.root child.serial (not-true (eqb parent.root child.serial) parts.1) (ap (λ (r : Row). r.root) same ∙ top.root))

-- a link that takes effect, where the number of the child is read from the parent
pub link_joins_rows : (begun cv pv : ℕ) (rows : List Row) (child parent : Row) (join : Join) → AreTrees begun rows → Pair cv pv rows child parent → (is_none child.parent && not child.ended && not (eqb parent.root child.serial)) ≡ true →
    join ≡ record { child = child.serial; link = record { serial = parent.serial; vxid = parent.vxid; number = parent.children }; root = parent.root; path = parent.path } → Rows begun (with_link cv pv (map transaction_of rows)) (map (joined join) rows)
link_joins_rows begun cv pv rows child parent join trees pair can is =
    link_joins begun cv pv rows child parent join trees pair can
    (is ∙ ap (λ (n : ℕ). record { child = child.serial; link = record { serial = parent.serial; vxid = parent.vxid; number = n }; root = parent.root; path = parent.path }) (trees.forest.counted parent.serial parent pair.parent_here))
