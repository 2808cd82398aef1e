-- What rows tell beside their transactions is what the definitions say of them: the top of the line, the path and the level.
use Rattle.std.proofs.Common.{◌≡◌, ◌+◌, ◌<◌, ⊎_elim, ℕ, zero, suc, Bool, true, false, eqb, cond, ◌||◌, Option, Some, None, List, [], ◌∷◌, ◌++◌, length, map, reverse, refl, ap, sym, ◌∙◌, subst, arith}
use Rattle.std.specs.List.{list_any, flat_map}
use Rattle.std.specs.Option.{option_map}
use Rattle.std.proofs.Math.Bool.{or-false}
use Rattle.std.proofs.lemmas.Bool.{eqb-true}
use Rattle.std.proofs.lemmas.List.{reverse-append, flat_map_more, length_push}
use Rattle.txn_rows.specs.declared.rows.Row.{Row}
use Rattle.txn_rows.specs.declared.group.ParentLink.{ParentLink}
use Rattle.txn_rows.specs.Transaction.{Transaction}
use Rattle.txn_rows.specs.Links.{of_serial, linked, line, last_of, link_number, number_of}
use Rattle.txn_rows.specs.Trees.{transaction_of, row_of, IsTop, IsBelow, IsForest}

pub by_cases : (P : Type 0) (b : Bool) → (b ≡ true → P) → (b ≡ false → P) → P
by_cases P true yes_case no_case = yes_case refl
by_cases P false yes_case no_case = no_case refl

pub either : {X : Type 0} (P : X → Type 0) (b : Bool) (x y : X) → P x → P y → P (cond b x y)
either P true x y p q = p
either P false x y p q = q

-- the row that is found has the serial number
pub row_of_serial : (s : ℕ) (rows : List Row) (row : Row) → row_of s rows ≡ Some row → row.serial ≡ s
row_of_serial s [] row found = absurd (cc)
row_of_serial s (r ∷ rows) row found =
    by_cases (row.serial ≡ s) (eqb r.serial s)
    (λ e. let same : r ≡ row = (let h = rw e at found in cc) in ap (λ (x : Row). x.serial) (sym same) ∙ eqb-true r.serial s e)
    (λ e. row_of_serial s rows row (rw e at found))

-- a transaction is found where its row is
pub of_serial_rows : (s : ℕ) (rows : List Row) → of_serial s (map transaction_of rows) ≡ option_map transaction_of (row_of s rows)
of_serial_rows s [] = refl
of_serial_rows s (r ∷ rows) =
    by_cases (of_serial s (map transaction_of (r ∷ rows)) ≡ option_map transaction_of (row_of s (r ∷ rows))) (eqb r.serial s)
    (λ e. rw e refl)
    (λ e. rw e (of_serial_rows s rows))

-- no line is above the top
line_none : (n : ℕ) (pending : List Transaction) → line n pending None ≡ []
line_none zero pending = refl
line_none (suc n) pending = refl

-- what a row tells of its line
pub record Line (rows : List Row) (row : Row) (l : List Transaction) : Type 0 where
  pub top : (d : Transaction) → (last_of d l).serial ≡ row.root
  pub ends : (d : Transaction) → (last_of d l).parent ≡ None
  pub path : flat_map number_of (reverse l) ≡ row.path
  pub long : length l ≡ length row.path + 1
  pub has : (child : Row) → child.parent ≡ None → row_of child.serial rows ≡ Some child → list_any (λ (u : Transaction). eqb u.serial child.serial) l ≡ eqb row.root child.serial

-- the line of a row at the top
line_top : (rows : List Row) (n : ℕ) (row : Row) → IsTop row → Line rows row (transaction_of row ∷ line n (map transaction_of rows) (linked row.parent (map transaction_of rows)))
line_top rows n row top =
    let pending : List Transaction = map transaction_of rows in
    let e : line n pending (linked row.parent pending) ≡ [] = ap (λ (p : Option ParentLink). line n pending (linked p pending)) top.none ∙ line_none n pending in
    subst (λ (l : List Transaction). Line rows row (transaction_of row ∷ l)) (sym e) (record {
      top = λ d. sym top.root;
      ends = λ d. top.none;
      path = ap (λ (p : Option ParentLink). link_number p ++ []) top.none ∙ sym top.path;
      long = rw top.path refl;
      has = λ child none found. or-false (eqb row.serial child.serial) ∙ ap (λ (s : ℕ). eqb s child.serial) (sym top.root);
    })

-- the path of a line with one more below
pub path_more : (t : Transaction) (l : List Transaction) → flat_map number_of (reverse (t ∷ l)) ≡ flat_map number_of (reverse l) ++ number_of t
path_more t l = ap (flat_map number_of) (reverse-append (t ∷ []) l) ∙ sym (flat_map_more number_of [] (reverse l) t)

abbrev parent_in : Option Row → Option ParentLink
parent_in None = None
parent_in (Some row) = row.parent

-- a row below another is no row at the top
not_top : (rows : List Row) (row child : Row) (s : ℕ) → IsBelow rows row → row_of s rows ≡ Some row → child.parent ≡ None → row_of child.serial rows ≡ Some child → eqb row.serial child.serial ≡ false
not_top rows row child s below here none found =
    by_cases (eqb row.serial child.serial ≡ false) (eqb row.serial child.serial)
    (λ e. let at_s : row_of child.serial rows ≡ Some row = ap (λ (x : ℕ). row_of x rows) (sym (eqb-true row.serial child.serial e) ∙ row_of_serial s rows row here) ∙ here in
    let same : Some row ≡ Some child = sym at_s ∙ found in
    let link : Some below.link ≡ None = sym below.linked ∙ ap parent_in same ∙ none in
    absurd (cc))
    (λ e. e)

-- a row below another is one deeper
pub deeper : (rows : List Row) (row : Row) (below : IsBelow rows row) → length row.path ≡ length below.above.path + 1
deeper rows row below = ap (λ (p : List ℕ). length p) below.path ∙ length_push below.above.path below.link.number

-- the line of a row below another
line_below : (rows : List Row) (n s : ℕ) (row : Row) → row_of s rows ≡ Some row → (below : IsBelow rows row) → Line rows below.above (line n (map transaction_of rows) (Some (transaction_of below.above))) → Line rows row (transaction_of row ∷ line n (map transaction_of rows) (linked row.parent (map transaction_of rows)))
line_below rows n s row here below up =
    let pending : List Transaction = map transaction_of rows in
    let above : List Transaction = line n pending (Some (transaction_of below.above)) in
    let e : line n pending (linked row.parent pending) ≡ above =
    ap (λ (p : Option ParentLink). line n pending (linked p pending)) below.linked ∙ ap (line n pending) (of_serial_rows below.link.serial rows ∙ ap (option_map transaction_of) below.found) in
    subst (λ (l : List Transaction). Line rows row (transaction_of row ∷ l)) (sym e) (record {
      top = λ d. up.top (transaction_of row) ∙ sym below.root;
      ends = λ d. up.ends (transaction_of row);
      path = path_more (transaction_of row) above ∙ ap (λ (p : List ℕ). p ++ number_of (transaction_of row)) up.path ∙ ap (λ (p : Option ParentLink). below.above.path ++ link_number p) below.linked ∙ sym below.path;
      long = omega (arith, up.long, deeper rows row below);
      has = λ child none found.
          ap (λ (b : Bool). b || list_any (λ (u : Transaction). eqb u.serial child.serial) above) (not_top rows row child s below here none found)
          ∙ up.has child none found ∙ ap (λ (r : ℕ). eqb r child.serial) (sym below.root);
    })

-- every row's line is what it tells
pub line_tells : (rows : List Row) → IsForest rows → (n s : ℕ) (row : Row) → row_of s rows ≡ Some row → length row.path < n → Line rows row (line n (map transaction_of rows) (Some (transaction_of row)))
line_tells rows forest zero s row here short = absurd (omega arith)
line_tells rows forest (suc n) s row here short =
    ⊎_elim (λ top. line_top rows n row top)
    (λ (below : IsBelow rows row). line_below rows n s row here below (line_tells rows forest n below.link.serial below.above below.found (omega (arith, short, deeper rows row below))))
    (forest.linked s row here)
