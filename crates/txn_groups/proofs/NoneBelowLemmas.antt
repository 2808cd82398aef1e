-- That no transaction before a serial number is unfinished stays so: none becomes so again, and those that begin come behind it.
use Rattle.std.proofs.Common.{◌≡◌, ◌+◌, ◌<◌, ◌≤◌, ℕ, Bool, true, false, not, eqb, cond, Option, Some, None, List, [], ◌∷◌, map, refl, ap, sym, ◌∙◌, subst, arith}
use Rattle.std.specs.Prelude.{slice_get}
use Rattle.std.specs.List.{filter, find, list_all, list_any}
use Rattle.std.specs.Option.{option_map}
use Rattle.vsl_tags.specs.Tags.{begin_tag}
use Rattle.vsl_record.specs.declared.record_type.Record.{Record}
use Rattle.txn_rows.specs.declared.rows.Row.{Row}
use Rattle.txn_rows.specs.declared.claim.Claim.{Claim}
use Rattle.txn_rows.specs.declared.group.Cause.{Cause}
use Rattle.txn_rows.specs.declared.group.Grouping.{Grouping}
use Rattle.txn_rows.specs.declared.group.Group.{Group}
use Rattle.txn_rows.specs.Claim.{claim_of}
use Rattle.txn_rows.specs.Transaction.{Transaction, empty_transaction, is_pending, is_open, newest, with_newest, longer, with_record, claimed_kind, with_kind, ended, forced, oldest, with_oldest, longer_by}
use Rattle.txn_rows.specs.Links.{root_of, tree_of, others, group_of, children, can_join, with_parent, with_link}
use Rattle.txn_rows.specs.Grouping.{State, Leaving, nothing_left, with_new, with_other, with_transaction, timed, at_time, left_by, forced_one, ended_one, is_unfinished}
use Rattle.txn_rows.specs.Trees.{transaction_of, Rising}
use Rattle.txn_rows.proofs.LineLemmas.{by_cases, either}
use Rattle.txn_rows.proofs.KeepLemmas.{claimed_same}
use Rattle.txn_groups.specs.inside.Nodes.{transaction_of_node}
use Rattle.txn_groups.specs.inside.Oldest.{NoneBelow, IsLow, OldestAt}
use Rattle.txn_groups.specs.inside.Held.{state_of, IsHeld, Went}
use Rattle.txn_groups.specs.inside.Leaves.{WentBy}
use Rattle.txn_groups.specs.declared.pending.Pending.{Pending}
use Rattle.txn_groups.specs.declared.node.Node.{Node}
use Rattle.txn_groups.proofs.FoundLemmas.{same_node}
use Rattle.txn_groups.proofs.SetLemmas.{AllOf, InRow, all_at, all_from, all_weaker, all_append}
use Rattle.txn_groups.proofs.ListedLemmas.{Earlier, rows_row}
use Rattle.txn_groups.proofs.TellLemmas.{tells}

-- a transaction that has not ended has this serial number or a higher one
abbrev pub IsAbove : ℕ → Transaction → Type 0
IsAbove low t = t.ended ≡ false → low ≤ t.serial

-- a change that keeps the serial number, and by which none is unfinished that was not
pub record KeepsEnded (change : Transaction → Transaction) : Type 0 where
  pub serial : (t : Transaction) → (change t).serial ≡ t.serial
  pub ended : (t : Transaction) → (change t).ended ≡ false → t.ended ≡ false

above_kept : (low : ℕ) (change : Transaction → Transaction) → KeepsEnded change → (t : Transaction) → IsAbove low t → IsAbove low (change t)
above_kept low change keeps t above unended = omega (arith, keeps.serial t, above (keeps.ended t unended))

-- a fact of each is one of each after each was changed, or one of them, or some are gone
all_map : {X : Type 0} (P : X → Type 0) (f : X → X) → ((x : X) → P x → P (f x)) → (xs : List X) → AllOf P xs → AllOf P (map f xs)
all_map P f keeps [] all = tt
all_map P f keeps (x ∷ xs) all = (keeps x all.0, all_map P f keeps xs all.1)

all_filter : {X : Type 0} (P : X → Type 0) (p : X → Bool) (xs : List X) → AllOf P xs → AllOf P (filter p xs)
all_filter P p [] all = tt
all_filter P p (x ∷ xs) all = either (AllOf P) (p x) (x ∷ filter p xs) (filter p xs) (all.0, all_filter P p xs all.1) (all_filter P p xs all.1)

all_newest : (P : Transaction → Type 0) (vxid : ℕ) (change : Transaction → Transaction) → ((t : Transaction) → P t → P (change t)) → (ts : List Transaction) → AllOf P ts → AllOf P (with_newest vxid change ts)
all_newest P vxid change keeps [] all = tt
all_newest P vxid change keeps (t ∷ ts) all =
    either (AllOf P) (is_pending vxid ts) (t ∷ with_newest vxid change ts) (cond (eqb t.vxid vxid) (change t ∷ ts) (t ∷ ts))
    (all.0, all_newest P vxid change keeps ts all.1)
    (either (AllOf P) (eqb t.vxid vxid) (change t ∷ ts) (t ∷ ts) (keeps t all.0, all.1) all)

all_oldest : (P : Transaction → Type 0) (test : Transaction → Bool) (change : Transaction → Transaction) → ((t : Transaction) → P t → P (change t)) → (ts : List Transaction) → AllOf P ts → AllOf P (with_oldest test change ts)
all_oldest P test change keeps [] all = tt
all_oldest P test change keeps (t ∷ ts) all = either (AllOf P) (test t) (change t ∷ ts) (t ∷ with_oldest test change ts) (keeps t all.0, all.1) (all.0, all_oldest P test change keeps ts all.1)

-- from the one form to the other
each_above : (low : ℕ) (state : State) → NoneBelow low state → AllOf (IsAbove low) state.pending
each_above low state none = all_from (IsAbove low) state.pending none

low_from : (low : ℕ) (state : State) → low ≤ state.begun → AllOf (IsAbove low) state.pending → IsLow low state
low_from low state begun all = record { begun = begun; none = λ t i. all_at (IsAbove low) state.pending t all i }

-- other transactions of the same state
low_with : (low : ℕ) (state : State) (now : List Transaction) → IsLow low state → (AllOf (IsAbove low) state.pending → AllOf (IsAbove low) now) → IsLow low (record state { pending = now })
low_with low state now is keeps = low_from low (record state { pending = now }) is.begun (keeps (each_above low state is.none))

-- a transaction that begins
pub low_new : (low vxid : ℕ) (state : State) → IsLow low state → IsLow low (with_new vxid state)
low_new low vxid state is =
    low_from low (with_new vxid state) (omega (arith, is.begun)) (all_append (IsAbove low) state.pending (empty_transaction state.begun vxid state.time ∷ []) (each_above low state is.none) (λ e. is.begun, tt))

-- the newest of a VXID is changed
pub low_newest : (low vxid : ℕ) (change : Transaction → Transaction) (state : State) → KeepsEnded change → IsLow low state → IsLow low (record state { pending = with_newest vxid change state.pending })
low_newest low vxid change state keeps is = low_with low state (with_newest vxid change state.pending) is (all_newest (IsAbove low) vxid change (above_kept low change keeps) state.pending)

-- the oldest that passes a test is changed
pub low_oldest : (low : ℕ) (test : Transaction → Bool) (change : Transaction → Transaction) (state : State) → KeepsEnded change → IsLow low state → IsLow low (record state { pending = with_oldest test change state.pending })
low_oldest low test change state keeps is = low_with low state (with_oldest test change state.pending) is (all_oldest (IsAbove low) test change (above_kept low change keeps) state.pending)

-- one gets a parent, where it can
parent_above : (low : ℕ) (child parent : Option Transaction) (ts : List Transaction) → AllOf (IsAbove low) ts → AllOf (IsAbove low) (with_parent child parent ts)
parent_above low None parent ts all = all
parent_above low (Some child) None ts all = all
parent_above low (Some child) (Some parent) ts all =
    let change : Transaction → Transaction = λ t. record t { parent = Some (record { serial = parent.serial; vxid = parent.vxid; number = children ts parent }) } in
    either (AllOf (IsAbove low)) (can_join ts child parent) (with_newest child.vxid change ts) ts (all_newest (IsAbove low) child.vxid change (λ t above. above) ts all) all

pub low_link : (low child parent : ℕ) (state : State) → IsLow low state → IsLow low (record state { pending = with_link child parent state.pending })
low_link low child parent state is = low_with low state (with_link child parent state.pending) is (parent_above low (newest child state.pending) (newest parent state.pending) state.pending)

-- this is the log time
pub low_time : (low : ℕ) (now : Option ℕ) (state : State) → IsLow low state → IsLow low (at_time now state)
low_time low now state is = low_from low (at_time now state) is.begun (all_map (IsAbove low) (timed now) (λ t above. above) state.pending (each_above low state is.none))

-- a record or more, the kind that one tells, an end and a force-completion are such changes
pub longer_keeps : (rec : Record) → KeepsEnded (longer rec)
longer_keeps rec = record { serial = λ t. refl; ended = λ t e. e }

pub longer_by_keeps : (records : List Record) → KeepsEnded (longer_by records)
longer_by_keeps records = record { serial = λ t. refl; ended = λ t e. e }

pub claimed_keeps : (claim : Option Claim) → KeepsEnded (claimed_kind claim)
claimed_keeps claim = record { serial = claimed_same (λ t. t.serial) (λ t c. refl) claim; ended = λ t e. sym (claimed_same (λ u. u.ended) (λ u c. refl) claim t) ∙ e }

pub ended_keeps : KeepsEnded ended
ended_keeps = record { serial = λ t. refl; ended = λ t e. absurd (let f : true ≡ false = e in cc) }

pub forced_keeps : (cause : Cause) → KeepsEnded (forced cause)
forced_keeps cause = record { serial = λ t. refl; ended = λ t e. absurd (let f : true ≡ false = e in cc) }

-- a record goes to its transaction, and may tell its kind
pub low_record : (low vxid : ℕ) (rec : Record) (state : State) → IsLow low state → IsLow low (record state { pending = with_record vxid rec state.pending })
low_record low vxid rec state is = low_newest low vxid (longer rec) state (longer_keeps rec) is

pub low_kind : (low vxid : ℕ) (rec : Record) (state : State) → IsLow low state → IsLow low (record state { pending = with_kind vxid rec state.pending })
low_kind low vxid rec state is =
    let claim : Option Claim = claim_of rec.payload in
    either (λ (ts : List Transaction). IsLow low (record state { pending = ts })) (eqb rec.tag begin_tag) (with_newest vxid (claimed_kind claim) state.pending) state.pending
    (low_newest low vxid (claimed_kind claim) state (claimed_keeps claim) is) is

pub low_added : (low vxid : ℕ) (rec : Record) (state : State) → IsLow low state → IsLow low (record state { pending = with_kind vxid rec (with_record vxid rec state.pending) })
low_added low vxid rec state is = low_kind low vxid rec (record state { pending = with_record vxid rec state.pending }) (low_record low vxid rec state is)

-- a tree leaves or stays
pub low_left : (low : ℕ) (t : Option Transaction) (state : State) → IsLow low state → IsLow low (left_by t state).state
low_left low None state is = is
low_left low (Some t) state is =
    let root : Transaction = root_of state.pending t in
    let all : Bool = list_all (λ (u : Transaction). u.ended) (tree_of state.pending root) in
    either (λ (r : Leaving). IsLow low r.state) all (record { state = record state { pending = others state.pending root }; groups = group_of state.pending root ∷ [] }) (nothing_left state)
    (low_with low state (others state.pending root) is (all_filter (IsAbove low) (λ (u : Transaction). not (eqb (root_of state.pending u).serial root.serial)) state.pending)) is

pub low_ended : (low vxid : ℕ) (state : State) → IsLow low state → IsLow low (ended_one vxid state).state
low_ended low vxid state is =
    let now : List Transaction = with_newest vxid ended state.pending in
    low_left low (newest vxid now) (record state { pending = now }) (low_newest low vxid ended state ended_keeps is)

pub low_forced : (low : ℕ) (test : Transaction → Bool) (cause : Cause) (state : State) → IsLow low state → IsLow low (forced_one test cause state).state
low_forced low test cause state is =
    low_left low (option_map (forced cause) (oldest test state.pending)) (record state { pending = with_oldest test (forced cause) state.pending }) (low_oldest low test (forced cause) state (forced_keeps cause) is)

-- where another may begin
pub low_transaction : (low vxid : ℕ) (state : State) → IsLow low state → IsLow low (with_transaction vxid state)
low_transaction low vxid state is = either (IsLow low) (is_open vxid state.pending) state (with_new vxid state) is (low_new low vxid state is)

pub low_other : (low vxid : ℕ) (state : State) → IsLow low state → IsLow low (with_other vxid state)
low_other low vxid state is = either (IsLow low) (is_pending vxid state.pending) state (with_new vxid state) is (low_new low vxid state is)

-- the oldest that has not ended is such a number
oldest_above : (ts : List Transaction) (t : Transaction) → InRow Earlier ts → find is_unfinished ts ≡ Some t → AllOf (IsAbove t.serial) ts
oldest_above [] t row found = absurd (let f : None ≡ Some t = found in cc)
oldest_above (x ∷ ts) t row found =
    by_cases (AllOf (IsAbove t.serial) (x ∷ ts)) x.ended
    (λ k. ((λ e. absurd (let f : true ≡ false = sym k ∙ e in cc)), oldest_above ts t row.1 (rw k at found)))
    (λ k.
    let same : Some x ≡ Some t = sym (ap (λ (b : Bool). cond (not b) (Some x) (find is_unfinished ts)) k) ∙ found in
    let is : x ≡ t = (cc) in
    subst (λ (u : Transaction). AllOf (IsAbove u.serial) (x ∷ ts)) is ((λ e. omega arith), all_weaker (Earlier x) (IsAbove x.serial) (λ u less e. omega (arith, less)) ts row.0))

found_is : (P : Transaction → Type 0) (test : Transaction → Bool) (ts : List Transaction) (t : Transaction) → AllOf P ts → find test ts ≡ Some t → P t
found_is P test [] t all found = absurd (let f : None ≡ Some t = found in cc)
found_is P test (x ∷ ts) t all found =
    by_cases (P t) (test x)
    (λ k. let same : Some x ≡ Some t = rw k at found in let is : x ≡ t = (cc) in subst P is all.0)
    (λ k. found_is P test ts t all.1 (rw k at found))

rows_begun : (low high : ℕ) (rows : List Row) → Rising low high rows → (low ≤ high) × AllOf (λ (t : Transaction). t.serial < high) (map transaction_of rows)
rows_begun low high [] r = (r, tt)
rows_begun low high (row ∷ rows) r = let later = rows_begun (row.serial + 1) high rows r.1 in (omega (arith, r.0, later.0), (omega (arith, later.0), later.1))

pub low_of_oldest : (state : State) (rows : List Row) (t : Transaction) → Rising 0 state.begun rows → map transaction_of rows ≡ state.pending → oldest is_unfinished state.pending ≡ Some t → IsLow t.serial state
low_of_oldest state rows t rising told found =
    let begun : t.serial < state.begun = found_is (λ (u : Transaction). u.serial < state.begun) is_unfinished state.pending t (subst (AllOf (λ (u : Transaction). u.serial < state.begun)) told (rows_begun 0 state.begun rows rising).1) found in
    low_from t.serial state (omega (arith, begun)) (oldest_above state.pending t (subst (InRow Earlier) told (rows_row 0 state.begun rows rising)) found)

-- where all have ended, that of the next that begins is so
all_ended : (low : ℕ) (ts : List Transaction) → list_any is_unfinished ts ≡ false → AllOf (IsAbove low) ts
all_ended low [] none = tt
all_ended low (t ∷ ts) none =
    by_cases (AllOf (IsAbove low) (t ∷ ts)) t.ended
    (λ k. ((λ e. absurd (let f : true ≡ false = sym k ∙ e in cc)), all_ended low ts (rw k at none)))
    (λ k. absurd (let f : true ≡ false = rw k at none in cc))

pub low_where_none : (state : State) → list_any is_unfinished state.pending ≡ false → IsLow state.begun state
low_where_none state none = low_from state.begun state (omega arith) (all_ended state.begun state.pending none)

-- the same of pending nodes
pub low_at : (p : Pending) (at : ℕ) → IsHeld p → (o : OldestAt p at) → IsLow o.node.serial (state_of p)
low_at p at held o = low_of_oldest (state_of p) held.stand (transaction_of_node o.node) held.are.trees.rising (sym (tells p.begun p.nodes.items p.order.items held.stand held.are)) o.is

pub low_read : (p : Pending) (at : ℕ) (x : Node) → IsHeld p → OldestAt p at → slice_get p.nodes.items at ≡ Some x → IsLow x.serial (state_of p)
low_read p at x held o read = subst (λ (y : Node). IsLow y.serial (state_of p)) (same_node p.nodes.items at o.node x o.there read) (low_at p at held o)

-- what is so of a state is so of the nodes that went to it
pub low_went : (low : ℕ) (state : State) (p : Pending) → IsLow low state → Went state p → IsLow low (state_of p)
low_went low state p is went = subst (IsLow low) (sym went.told) is

pub low_went_by : {L : Type 0} (hand : Group → L) (low : ℕ) (grouping : Grouping) (step : Leaving) (p : Pending) (before now : List L) → IsLow low step.state → WentBy hand grouping step p before now → IsLow low (state_of p)
low_went_by hand low grouping step p before now is went = subst (IsLow low) (sym went.state) is
