-- A record that tells nothing but itself.
use Rattle.std.proofs.Common.{◌≡◌, ◌+◌, ◌<◌, ℕ, Bool, true, false, not, cond, eqb, Option, Some, None, List, [], ◌∷◌, ◌++◌, length, take, drop, get_or, refl, ap, sym, ◌∙◌, append_assoc, append-nil, arith}
use Rattle.std.specs.List.{list_all}
use Rattle.std.specs.Option.{option_map}
use Rattle.std.proofs.lemmas.Bool.{le-ltb}
use Rattle.std.proofs.lemmas.List.{length-map}
use Rattle.std.proofs.lemmas.List.Folds.{list_all_more}
use Rattle.vsl_record.specs.declared.record_type.Record.{Record}
use Rattle.txn_rows.specs.declared.group.Group.{Group}
use Rattle.txn_rows.specs.declared.group.GroupOptions.{GroupOptions}
use Rattle.txn_rows.specs.Transaction.{Transaction, is_pending, is_open, newest, with_newest, with_record, longer_by}
use Rattle.txn_rows.specs.Grouping.{State, Leaving, then_left, has_risen, step, steps}
use Rattle.txn_rows.specs.inside.Told.{is_plain, is_plain_record}
use Rattle.txn_rows.proofs.ChangeLemmas.{newest_same, newest_is_changed, newest_twice}
use Rattle.txn_rows.proofs.LineLemmas.{by_cases}

-- a log time has not risen to itself
pub risen_same : (time : Option ℕ) → has_risen time time ≡ false
risen_same None = refl
risen_same (Some t) = le-ltb t t (omega arith)

-- the state with one record more
abbrev pub longer : ℕ → Record → State → State
longer vxid rec state = record state { pending = with_record vxid rec state.pending }

pub longer_length : (vxid : ℕ) (rec : Record) (state : State) → length (longer vxid rec state).pending ≡ length state.pending
longer_length vxid rec state =
    let vxid_of : Transaction → ℕ = λ t. t.vxid in
    let now : List Transaction = with_record vxid rec state.pending in
    omega (arith, length-map now vxid_of, length-map state.pending vxid_of, ap length (newest_same vxid_of vxid (λ t. record t { records = t.records ++ rec ∷ [] }) (λ t. refl) state.pending))

-- ---- records that are added one after another

-- a change that is another, or none, of the newest
changed_as : (vxid : ℕ) (f g : Transaction → Transaction) → ((t : Transaction) → f t ≡ g t) → (pending : List Transaction) → with_newest vxid f pending ≡ with_newest vxid g pending
changed_as vxid f g same [] = refl
changed_as vxid f g same (t ∷ pending) =
    ap (λ (rest : List Transaction). cond (is_pending vxid pending) (t ∷ rest) (cond (eqb t.vxid vxid) (f t ∷ pending) (t ∷ pending))) (changed_as vxid f g same pending)
    ∙ ap (λ (x : Transaction). cond (is_pending vxid pending) (t ∷ with_newest vxid g pending) (cond (eqb t.vxid vxid) (x ∷ pending) (t ∷ pending))) (same t)

either_way : {A : Type 0} (b : Bool) (x : A) → cond b x x ≡ x
either_way true x = refl
either_way false x = refl

changed_none : (vxid : ℕ) (pending : List Transaction) → with_newest vxid (λ t. t) pending ≡ pending
changed_none vxid [] = refl
changed_none vxid (t ∷ pending) =
    ap (λ (rest : List Transaction). cond (is_pending vxid pending) (t ∷ rest) (cond (eqb t.vxid vxid) (t ∷ pending) (t ∷ pending))) (changed_none vxid pending)
    ∙ ap (λ (rest : List Transaction). cond (is_pending vxid pending) (t ∷ pending) rest) (either_way (eqb t.vxid vxid) (t ∷ pending)) ∙ either_way (is_pending vxid pending) (t ∷ pending)

-- no record is added
pub added_none : (vxid : ℕ) (pending : List Transaction) → with_newest vxid (longer_by []) pending ≡ pending
added_none vxid pending = changed_as vxid (longer_by []) (λ t. t) (λ t. ap (λ (rs : List Record). record t { records = rs }) (append-nil t.records)) pending ∙ changed_none vxid pending

-- whether a transaction is there that has not ended
has_unended : Option Transaction → Bool
has_unended None = false
has_unended (Some t) = not t.ended

open_is : (vxid : ℕ) (pending : List Transaction) → is_open vxid pending ≡ has_unended (newest vxid pending)
unfolding has_unended
open_is vxid [] = refl
open_is vxid (t ∷ pending) =
    by_cases (is_open vxid (t ∷ pending) ≡ has_unended (newest vxid (t ∷ pending))) (is_pending vxid pending)
    (λ e. rw e (open_is vxid pending))
    (λ e. by_cases (is_open vxid (t ∷ pending) ≡ has_unended (newest vxid (t ∷ pending))) (eqb t.vxid vxid) (λ s. rw (e, s) refl) (λ s. rw (e, s) refl))

unended_still : (change : Transaction → Transaction) → ((t : Transaction) → (change t).ended ≡ t.ended) → (o : Option Transaction) → has_unended (option_map change o) ≡ has_unended o
unfolding has_unended
unended_still change keeps None = refl
unended_still change keeps (Some t) = ap not (keeps t)

-- with a record more it is as open as before
pub open_still : (vxid : ℕ) (rec : Record) (pending : List Transaction) → is_open vxid (with_record vxid rec pending) ≡ is_open vxid pending
open_still vxid rec pending =
    let change : Transaction → Transaction = λ t. record t { records = t.records ++ rec ∷ [] } in
    open_is vxid (with_record vxid rec pending) ∙ ap has_unended (newest_is_changed vxid change pending (λ t. refl)) ∙ unended_still change (λ t. refl) (newest vxid pending) ∙ sym (open_is vxid pending)

-- the state with records more
abbrev pub longer_run : ℕ → List Record → State → State
longer_run vxid run state = record state { pending = with_newest vxid (longer_by run) state.pending }

pub run_more : (vxid : ℕ) (rec : Record) (run : List Record) (state : State) → longer_run vxid run (longer vxid rec state) ≡ longer_run vxid (rec ∷ run) state
run_more vxid rec run state =
    let one : Transaction → Transaction = λ t. record t { records = t.records ++ rec ∷ [] } in
    ap (λ (ts : List Transaction). record state { pending = ts })
    (newest_twice vxid one (longer_by run) state.pending (λ t. refl) ∙ changed_as vxid (λ t. longer_by run (one t)) (longer_by (rec ∷ run)) (λ t. ap (λ (rs : List Record). record t { records = rs }) (append_assoc t.records (rec ∷ []) run)) state.pending)

-- so many records tell nothing but themselves, and by its tag the next
pub plain_more : (records : List Record) (i tag : ℕ) → i < length records → ((rec : Record) → tag ≡ (get_or records i rec).tag) → is_plain tag ≡ true → list_all is_plain_record (take i records) ≡ true → list_all is_plain_record (take (i + 1) records) ≡ true
plain_more [] i tag within is plain so_far = absurd (omega (arith, within))
plain_more (r ∷ records) i tag within is plain so_far = rw (list_all_more is_plain_record (r ∷ records) i r within, so_far, ← is r) plain

-- ---- records one after another

-- the steps of records and of more are both
pub steps_both : (options : GroupOptions) (vxid : ℕ) (xs ys : List Record) (state : State) → steps options vxid (xs ++ ys) state ≡ then_left (steps options vxid xs state) (steps options vxid ys)
steps_both options vxid [] ys state = refl
steps_both options vxid (x ∷ xs) ys state =
    let first : Leaving = step options vxid x state in
    let mid : Leaving = steps options vxid xs first.state in
    ap (λ (r : Leaving). record { state = r.state; groups = first.groups ++ r.groups }) (steps_both options vxid xs ys first.state)
    ∙ ap (λ (gs : List Group). record { state = (steps options vxid ys mid.state).state; groups = gs }) (sym (append_assoc first.groups mid.groups (steps options vxid ys mid.state).groups))

-- the first of records by itself
pub one_step : (options : GroupOptions) (vxid : ℕ) (rec : Record) (state : State) → steps options vxid (rec ∷ []) state ≡ step options vxid rec state
one_step options vxid rec state = ap (λ (gs : List Group). record { state = (step options vxid rec state).state; groups = gs }) (append-nil (step options vxid rec state).groups)

pub first_of : (records : List Record) (rec : Record) → 0 < length records → rec ≡ get_or records 0 rec → take 1 records ≡ rec ∷ []
first_of [] rec some is = absurd (omega (arith, some))
first_of (r ∷ records) rec some is = ap (λ (x : Record). x ∷ []) (sym is)

pub first_and_more : (records : List Record) (rec : Record) → 0 < length records → rec ≡ get_or records 0 rec → rec ∷ drop 1 records ≡ records
first_and_more [] rec some is = absurd (omega (arith, some))
first_and_more (r ∷ records) rec some is = ap (λ (x : Record). x ∷ records) is
