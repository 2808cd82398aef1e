-- A row that is force-completed is its transaction, force-completed.
use Rattle.std.proofs.Common.{◌≡◌, ◌+◌, ◌<◌, ℕ, Bool, true, Option, Some, List, ◌∷◌, ◌++◌, length, map, take, drop, get_or, set, refl, ap, sym, ◌∙◌, subst, arith}
use Rattle.std.specs.Option.{option_map}
use Rattle.std.proofs.lemmas.List.{map-append, length-set, get_or-set_same}
use Rattle.txn_rows.specs.declared.rows.Row.{Row}
use Rattle.txn_rows.specs.declared.group.Group.{Group}
use Rattle.txn_rows.specs.declared.group.Grouping.{Grouping}
use Rattle.txn_rows.specs.declared.group.Cause.{Cause}
use Rattle.txn_rows.specs.Transaction.{Transaction, forced, oldest, with_oldest}
use Rattle.txn_rows.specs.Grouping.{Leaving, left_by, forced_one, reported}
use Rattle.txn_rows.specs.Trees.{transaction_of, row_of, AreTrees}
use Rattle.txn_rows.specs.inside.Rows.{row_told, IsOldestRow, left_rows, LeftRows}
use Rattle.txn_rows.specs.States.{state_with}
use Rattle.txn_rows.specs.inside.Steps.{RowsStep}
use Rattle.txn_rows.proofs.TreeLemmas.{set_around}
use Rattle.txn_rows.proofs.ChangeLemmas.{KeepsLinks, oldest_in, oldest_changed_in}
use Rattle.txn_rows.proofs.JoinLemmas.{split_at_row, found_at}
use Rattle.txn_rows.proofs.StandLemmas.{left_is, trees_set, trees_after, IsInPlaceOf, row_told_is, told_in_place}

-- the oldest row that passes is the oldest transaction
pub oldest_at : (test : Transaction → Bool) (at : ℕ) (rows : List Row) (row : Row) → IsOldestRow test at rows → row ≡ get_or rows at row → oldest test (map transaction_of rows) ≡ Some (transaction_of row)
oldest_at test at rows row is read =
    ap (oldest test) (split_at_row at rows row is.within read)
    ∙ oldest_in test (map transaction_of (take at rows)) (transaction_of row) (map transaction_of (drop (at + 1) rows)) is.none_before (ap (λ (r : Row). test (transaction_of r)) read ∙ is.passes row)

-- rows after a write at a place
pub written : (at : ℕ) (rows : List Row) (new : Row) → at < length rows → map transaction_of (set rows at new) ≡ map transaction_of (take at rows) ++ transaction_of new ∷ map transaction_of (drop (at + 1) rows)
written at rows new within = ap (map transaction_of) (set_around at rows new within) ∙ map-append transaction_of (take at rows) (new ∷ drop (at + 1) rows)

-- what leaves by a row that was written is what leaves by its transaction
pub written_leaves : (grouping : Grouping) (begun at : ℕ) (time : Option ℕ) (rows : List Row) (row new : Row) (now : List Row) (out_before out_now : List Group) (o : Option Transaction) (pending : List Transaction) → AreTrees begun rows → at < length rows → row ≡ get_or rows at row → IsInPlaceOf row new →
    LeftRows grouping (left_rows new.root (set rows at new)) now out_before out_now → o ≡ Some (transaction_of new) → pending ≡ map transaction_of (set rows at new) → RowsStep grouping (left_by o (record { pending = pending; begun = begun; time = time })) begun time now out_before out_now
written_leaves grouping begun at time rows row new now out_before out_now o pending trees within read same left meant told =
    let all : List Row = set rows at new in
    let stand : AreTrees begun all = trees_set begun at rows row new trees within read same in
    let inside : at < length all = omega (arith, within, length-set rows at new) in
    let here : row_of new.serial all ≡ Some new = found_at begun all stand at new inside (sym (get_or-set_same rows at new new within)) in
    let is = ap (λ (t : Option Transaction). left_by t (record { pending = pending; begun = begun; time = time })) meant
    ∙ ap (λ (ts : List Transaction). left_by (Some (transaction_of new)) (record { pending = ts; begun = begun; time = time })) told
    ∙ left_is begun begun new.serial time all new stand here in
    record {
      trees = subst (AreTrees begun) (sym left.rows) (trees_after begun new.root all stand);
      state = ap (state_with begun time) left.rows ∙ sym (ap (λ (r : Leaving). r.state) is);
      groups = left.groups ∙ ap (λ (r : Leaving). out_before ++ reported grouping r.groups) (sym is);
    }

-- the same of a row that tells its transaction, changed
pub told_leaves : (grouping : Grouping) (change : Transaction → Transaction) (begun at : ℕ) (time : Option ℕ) (rows : List Row) (row new : Row) (now : List Row) (out_before out_now : List Group) (o : Option Transaction) (pending : List Transaction) → KeepsLinks change → AreTrees begun rows → at < length rows → row ≡ get_or rows at row → new ≡ row_told change row →
    LeftRows grouping (left_rows new.root (set rows at new)) now out_before out_now → o ≡ Some (change (transaction_of row)) → pending ≡ map transaction_of (take at rows) ++ change (transaction_of row) ∷ map transaction_of (drop (at + 1) rows) →
    RowsStep grouping (left_by o (record { pending = pending; begun = begun; time = time })) begun time now out_before out_now
told_leaves grouping change begun at time rows row new now out_before out_now o pending keeps trees within read is left meant all =
    let told : transaction_of new ≡ change (transaction_of row) = ap transaction_of is ∙ row_told_is change keeps row in
    written_leaves grouping begun at time rows row new now out_before out_now o pending trees within read (told_in_place change row new is) left (meant ∙ ap Some (sym told))
    (all ∙ ap (λ (x : Transaction). map transaction_of (take at rows) ++ x ∷ map transaction_of (drop (at + 1) rows)) (sym told) ∙ sym (written at rows new within))

-- the oldest that passes a test, by rows
pub forced_step : (grouping : Grouping) (test : Transaction → Bool) (cause : Cause) (begun at : ℕ) (time : Option ℕ) (rows : List Row) (row new : Row) (now : List Row) (out_before out_now : List Group) → IsOldestRow test at rows → AreTrees begun rows → row ≡ get_or rows at row → new ≡ row_told (forced cause) row →
    LeftRows grouping (left_rows new.root (set rows at new)) now out_before out_now → RowsStep grouping (forced_one test cause (state_with begun time rows)) begun time now out_before out_now
forced_step grouping test cause begun at time rows row new now out_before out_now is trees read told left =
    let pending : List Transaction = map transaction_of rows in
    let passes : test (transaction_of row) ≡ true = ap (λ (r : Row). test (transaction_of r)) read ∙ is.passes row in
    told_leaves grouping (forced cause) begun at time rows row new now out_before out_now (option_map (forced cause) (oldest test pending)) (with_oldest test (forced cause) pending) (record { serial = λ t. refl; parent = λ t. refl }) trees is.within read told left
    (ap (option_map (forced cause)) (oldest_at test at rows row is read))
    (ap (with_oldest test (forced cause)) (split_at_row at rows row is.within read) ∙ oldest_changed_in test (forced cause) (map transaction_of (take at rows)) (transaction_of row) (map transaction_of (drop (at + 1) rows)) is.none_before passes)
