-- Rows that begin, and which is open.
use Rattle.std.proofs.Common.{◌≡◌, ◌+◌, ℕ, Bool, true, false, not, ◌||◌, eqb, cond, Option, None, List, [], ◌∷◌, ◌++◌, set, map, take, drop, get_or, refl, ap, sym, ◌∙◌, subst, arith}
use Rattle.std.specs.Option.{option_map}
use Rattle.std.proofs.lemmas.Bool.{eq-eqb, or_parts}
use Rattle.std.proofs.lemmas.List.{map-append, length-map, drop-map, get_or-map, length-set, drop-set-lt, get_or_default, get_or-set_same, get_or_append_left, drop-append-le, length_push}
use Rattle.vsl_tags.specs.Tags.{begin_tag}
use Rattle.txn_rows.specs.declared.rows.Row.{Row}
use Rattle.txn_rows.specs.declared.group.Kind.TheVariants as kinds
use Rattle.txn_rows.specs.declared.group.Reason.TheVariants as reasons
use Rattle.txn_rows.specs.Transaction.{Transaction, is_pending, is_open, newest, with_newest, longer, with_record, with_kind, claimed_kind, ended}
use Rattle.txn_rows.specs.declared.claim.Claim.{Claim}
use Rattle.txn_rows.specs.declared.group.Group.{Group}
use Rattle.txn_rows.specs.declared.group.Grouping.{Grouping}
use Rattle.vsl_record.specs.declared.record_type.Record.{Record}
use Rattle.txn_rows.specs.Claim.{claim_of, own_claim}
use Rattle.txn_rows.specs.Grouping.{with_new, ended_one, timed}
use Rattle.txn_rows.specs.Trees.{transaction_of, IsNewestRow, AreTrees}
use Rattle.txn_rows.specs.inside.Rows.{row_told, with_one, Rows, left_rows, LeftRows}
use Rattle.txn_rows.specs.States.{state_with}
use Rattle.txn_rows.specs.inside.Steps.{RowsStep}
use Rattle.txn_rows.proofs.LineLemmas.{by_cases}
use Rattle.txn_rows.proofs.KeepLemmas.{claimed_same}
use Rattle.txn_rows.proofs.ChangeLemmas.{KeepsLinks, pending_in, open_in, changed_in, newest_is_changed, newest_twice}
use Rattle.txn_rows.proofs.JoinLemmas.{split_at_row, newest_at}
use Rattle.txn_rows.proofs.StandLemmas.{trees_push, trees_set, row_told_is, told_in_place}
use Rattle.txn_rows.proofs.ForceLemmas.{written, told_leaves}

-- a row of which no record was seen
abbrev pub empty_row : ℕ → ℕ → Option ℕ → Row
empty_row serial vxid time = record { serial = serial; vxid = vxid; kind = kinds.Unknown; reason = reasons.Other; records = []; parent = None; children = 0; ended = false; time = time; root = serial; path = [] }

-- rows after one more began
pub record Began (begun vxid : ℕ) (time : Option ℕ) (rows now : List Row) : Type 0 where
  pub trees : AreTrees (begun + 1) now
  pub told : state_with (begun + 1) time now ≡ with_new vxid (state_with begun time rows)

pub began : (begun vxid : ℕ) (time : Option ℕ) (rows now : List Row) (row : Row) → AreTrees begun rows → row ≡ empty_row begun vxid time → now ≡ rows ++ row ∷ [] → Began begun vxid time rows now
began begun vxid time rows now row trees is all =
    let new : Row = empty_row begun vxid time in
    let whole : now ≡ rows ++ new ∷ [] = all ∙ ap (λ (r : Row). rows ++ r ∷ []) is in
    record {
      trees = subst (AreTrees (begun + 1)) (sym whole) (trees_push begun rows new trees refl (record { none = refl; root = refl; path = refl }) refl);
      told = ap (state_with (begun + 1) time) whole ∙ ap (λ (ts : List Transaction). record { pending = ts; begun = begun + 1; time = time }) (map-append transaction_of rows (new ∷ []));
    }

-- whether the newest is open
pub open_at : (vxid at : ℕ) (rows : List Row) (row : Row) → IsNewestRow vxid at rows → row ≡ get_or rows at row → is_open vxid (map transaction_of rows) ≡ not row.ended
open_at vxid at rows row is read =
    let same : row.vxid ≡ vxid = ap (λ (r : Row). r.vxid) read ∙ is.is row in
    ap (is_open vxid) (split_at_row at rows row is.within read)
    ∙ open_in vxid (map transaction_of (take at rows)) (transaction_of row) (map transaction_of (drop (at + 1) rows)) (eq-eqb row.vxid vxid same) is.none_after

pub open_none : (vxid : ℕ) (pending : List Transaction) → is_pending vxid pending ≡ false → is_open vxid pending ≡ false
open_none vxid [] none = refl
open_none vxid (t ∷ pending) none =
    let parts = or_parts (eqb t.vxid vxid) (is_pending vxid pending) none in
    rw (parts.1, parts.0) refl

-- the newest is pending
pub pending_at : (vxid at : ℕ) (rows : List Row) → IsNewestRow vxid at rows → is_pending vxid (map transaction_of rows) ≡ true
pending_at vxid at [] is = absurd (omega (arith, is.within))
pending_at vxid at (first ∷ rest) is =
    let rows : List Row = first ∷ rest in
    let row : Row = get_or rows at first in
    let read : row ≡ get_or rows at row = sym (get_or_default rows at row first is.within) in
    let same : row.vxid ≡ vxid = is.is first in
    ap (is_pending vxid) (split_at_row at rows row is.within read)
    ∙ pending_in vxid (map transaction_of (take at rows)) (transaction_of row) (map transaction_of (drop (at + 1) rows)) (eq-eqb row.vxid vxid same)

-- one more of another VXID
none_push : (vxid : ℕ) (pending : List Transaction) (t : Transaction) → is_pending vxid pending ≡ false → eqb t.vxid vxid ≡ false → is_pending vxid (pending ++ t ∷ []) ≡ false
none_push vxid [] t none other = rw other refl
none_push vxid (f ∷ pending) t none other =
    let parts = or_parts (eqb f.vxid vxid) (is_pending vxid pending) none in
    rw parts.0 (none_push vxid pending t parts.1 other)

-- the newest row stays where it is when one of another VXID begins
pub newest_kept : (vxid at : ℕ) (rows : List Row) (row : Row) → eqb row.vxid vxid ≡ false → IsNewestRow vxid at rows → IsNewestRow vxid at (rows ++ row ∷ [])
newest_kept vxid at rows row other is = record {
  within = omega (arith, is.within, length_push rows row);
  is = λ d. ap (λ (r : Row). r.vxid) (get_or_append_left rows (row ∷ []) d at is.within) ∙ is.is d;
  none_after =
      ap (λ (rs : List Row). is_pending vxid (map transaction_of rs)) (drop-append-le (at + 1) rows (row ∷ []) (omega (arith, is.within)))
      ∙ ap (is_pending vxid) (map-append transaction_of (drop (at + 1) rows) (row ∷ []))
      ∙ none_push vxid (map transaction_of (drop (at + 1) rows)) (transaction_of row) is.none_after other;
}

-- a record that goes to its transaction and may tell its kind is one change of it
pub one_told : (vxid : ℕ) (rec : Record) (pending : List Transaction) → with_kind vxid rec (with_record vxid rec pending) ≡ with_newest vxid (with_one rec) pending
one_told vxid rec pending =
    let claim : Option Claim = claim_of rec.payload in
    let added : List Transaction = with_newest vxid (longer rec) pending in
    let one : Option Claim → List Transaction = λ c. with_newest vxid (λ t. claimed_kind c (longer rec t)) pending in
    by_cases (with_kind vxid rec (with_record vxid rec pending) ≡ with_newest vxid (with_one rec) pending) (eqb rec.tag begin_tag)
    (λ e. ap (λ (b : Bool). cond b (with_newest vxid (claimed_kind claim) added) added) e ∙ newest_twice vxid (longer rec) (claimed_kind claim) pending (λ t. refl) ∙ ap (λ (b : Bool). one (cond b claim None)) (sym e))
    (λ e. ap (λ (b : Bool). cond b (with_newest vxid (claimed_kind claim) added) added) e ∙ ap (λ (b : Bool). one (cond b claim None)) (sym e))

one_same : {A : Type 0} (f : Transaction → A) → ((t : Transaction) (claim : Claim) → f (record t { kind = claim.kind; reason = claim.reason }) ≡ f t) → (rec : Record) (t : Transaction) → f (longer rec t) ≡ f t → f (with_one rec t) ≡ f t
one_same f keeps rec t same = claimed_same f keeps (own_claim rec) (longer rec t) ∙ same

one_keeps : (rec : Record) → KeepsLinks (with_one rec)
one_keeps rec = record { serial = λ t. one_same (λ x. x.serial) (λ x c. refl) rec t refl; parent = λ t. one_same (λ x. x.parent) (λ x c. refl) rec t refl }

-- rows after a change of the newest
pub changed_rows : (begun vxid at : ℕ) (change : Transaction → Transaction) → KeepsLinks change → (rows : List Row) (row new : Row) → AreTrees begun rows → IsNewestRow vxid at rows → row ≡ get_or rows at row → new ≡ row_told change row → Rows begun (with_newest vxid change (map transaction_of rows)) (set rows at new)
changed_rows begun vxid at change keeps rows row new trees is read told =
    let t : Transaction = transaction_of row in
    let front : List Transaction = map transaction_of (take at rows) in
    let back : List Transaction = map transaction_of (drop (at + 1) rows) in
    let same : eqb row.vxid vxid ≡ true = eq-eqb row.vxid vxid (ap (λ (r : Row). r.vxid) read ∙ is.is row) in
    record {
      trees = trees_set begun at rows row new trees is.within read (told_in_place change row new told);
      told =
          written at rows new is.within
          ∙ ap (λ (x : Transaction). front ++ x ∷ back) (ap transaction_of told ∙ row_told_is change keeps row)
          ∙ sym (ap (with_newest vxid change) (split_at_row at rows row is.within read) ∙ changed_in vxid change front t back same is.none_after);
    }

-- the newest stays where it is
pub newest_stays : (vxid at : ℕ) (change : Transaction → Transaction) → ((t : Transaction) → (change t).vxid ≡ t.vxid) → (rows : List Row) (row new : Row) → IsNewestRow vxid at rows → row ≡ get_or rows at row → new ≡ row_told change row → IsNewestRow vxid at (set rows at new)
newest_stays vxid at change keeps rows row new is read told = record {
  within = omega (arith, is.within, length-set rows at new);
  is = λ other.
      ap (λ (r : Row). r.vxid) (get_or-set_same rows at new other is.within) ∙ ap (λ (r : Row). r.vxid) told ∙ keeps (transaction_of row)
      ∙ ap (λ (r : Row). r.vxid) read ∙ is.is row;
  none_after = ap (λ (rs : List Row). is_pending vxid (map transaction_of rs)) (drop-set-lt (at + 1) rows at new (omega arith)) ∙ is.none_after;
}

-- rows that take a time have the VXIDs that they had
times_pending : (vxid : ℕ) (now : Option ℕ) (rows : List Row) → is_pending vxid (map transaction_of (map (row_told (timed now)) rows)) ≡ is_pending vxid (map transaction_of rows)
times_pending vxid now [] = refl
times_pending vxid now (row ∷ rows) = ap (λ (b : Bool). eqb row.vxid vxid || b) (times_pending vxid now rows)

pub newest_timed : (vxid at : ℕ) (now : Option ℕ) (rows : List Row) → IsNewestRow vxid at rows → IsNewestRow vxid at (map (row_told (timed now)) rows)
newest_timed vxid at now rows is =
    let told : Row → Row = row_told (timed now) in
    record {
      within = omega (arith, is.within, length-map rows told);
      is = λ d. ap (λ (r : Row). r.vxid) (get_or-map told rows at d d is.within) ∙ is.is d;
      none_after =
          ap (λ (rs : List Row). is_pending vxid (map transaction_of rs)) (drop-map told (at + 1) rows)
          ∙ times_pending vxid now (drop (at + 1) rows) ∙ is.none_after;
    }

-- rows after a record
pub added : (begun vxid at : ℕ) (rec : Record) (rows : List Row) (row new : Row) → AreTrees begun rows → IsNewestRow vxid at rows → row ≡ get_or rows at row → new ≡ row_told (with_one rec) row → Rows begun (with_kind vxid rec (with_record vxid rec (map transaction_of rows))) (set rows at new)
added begun vxid at rec rows row new trees is read told =
    let now = changed_rows begun vxid at (with_one rec) (one_keeps rec) rows row new trees is read told in
    record { trees = now.trees; told = now.told ∙ sym (one_told vxid rec (map transaction_of rows)) }

pub added_newest : (vxid at : ℕ) (rec : Record) (rows : List Row) (row new : Row) → IsNewestRow vxid at rows → row ≡ get_or rows at row → new ≡ row_told (with_one rec) row → IsNewestRow vxid at (set rows at new)
added_newest vxid at rec rows row new is read told = newest_stays vxid at (with_one rec) (λ t. one_same (λ x. x.vxid) (λ x c. refl) rec t refl) rows row new is read told

-- a row that ends is its transaction, ended
pub ended_step : (grouping : Grouping) (begun vxid at : ℕ) (time : Option ℕ) (rows : List Row) (row new : Row) (now : List Row) (out_before out_now : List Group) → AreTrees begun rows → IsNewestRow vxid at rows → row ≡ get_or rows at row → new ≡ record row { ended = true } →
    LeftRows grouping (left_rows new.root (set rows at new)) now out_before out_now → RowsStep grouping (ended_one vxid (state_with begun time rows)) begun time now out_before out_now
ended_step grouping begun vxid at time rows row new now out_before out_now trees is read ended_is left =
    let pending : List Transaction = map transaction_of rows in
    let same : eqb row.vxid vxid ≡ true = eq-eqb row.vxid vxid (ap (λ (r : Row). r.vxid) read ∙ is.is row) in
    told_leaves grouping ended begun at time rows row new now out_before out_now (newest vxid (with_newest vxid ended pending)) (with_newest vxid ended pending) (record { serial = λ t. refl; parent = λ t. refl }) trees is.within read ended_is left
    (newest_is_changed vxid ended pending (λ t. refl) ∙ ap (option_map ended) (newest_at vxid at rows row is read))
    (ap (with_newest vxid ended) (split_at_row at rows row is.within read) ∙ changed_in vxid ended (map transaction_of (take at rows)) (transaction_of row) (map transaction_of (drop (at + 1) rows)) same is.none_after)
