-- What each rule of a record keeps is kept up to an End, and what holds of one force-completion holds of many.
use Rattle.std.proofs.Common.{◌≡◌, ℕ, zero, suc, true, eqb, ltb, length, cond, Option, Some, None, List, [], ◌∷◌, refl}
use Rattle.std.specs.Prelude.{count_by}
use Rattle.std.proofs.lemmas.Bool.{cond_both}
use Rattle.vsl_tags.specs.Tags.{timestamp_tag, begin_tag, link_tag}
use Rattle.vsl_record.specs.declared.record_type.Record.{Record}
use Rattle.txn_rows.specs.declared.group.Grouping.{Grouping}
use Rattle.txn_rows.specs.declared.group.GroupOptions.{GroupOptions}
use Rattle.txn_rows.specs.declared.group.Cause.{Cause}
use Rattle.txn_rows.specs.declared.group.Cause.TheVariants.{Overflow, Timeout, Flush}
use Rattle.txn_rows.specs.declared.which.Which.{Which}
use Rattle.txn_rows.specs.declared.which.Which.TheVariants.{Unfinished, Late}
use Rattle.txn_rows.specs.declared.claim.Claim.{Claim}
use Rattle.txn_rows.specs.Claim.{claim_of}
use Rattle.txn_rows.specs.Time.{time_of}
use Rattle.txn_rows.specs.Transaction.{Transaction, is_pending, is_open, is_unknown, with_newest, with_record, claimed_kind}
use Rattle.txn_rows.specs.Links.{with_link}
use Rattle.txn_rows.specs.Grouping.{Taken, TakenUnit, Missed, State, Leaving, nothing_left, then_left, forced_one, forced_often, forced_down, forced_all, after_end, after_timeouts, after_overflow, has_risen, is_late, is_unfinished, unfinished, with_new, with_transaction, with_other, gives_parent, with_parent_named, with_child_named, with_claim, with_time, with_all_told, grouped, is_raw, raw_group, step, steps, passes_over, flush, taken_step, taken_steps}
use Rattle.txn_rows.specs.Store.{test_of}
use Rattle.txn_rows.proofs.LineLemmas.{either}

-- what a claim keeps
pub claimed_same : {A : Type 0} (f : Transaction → A) → ((t : Transaction) (claim : Claim) → f (record t { kind = claim.kind; reason = claim.reason }) ≡ f t) → (claim : Option Claim) (t : Transaction) → f (claimed_kind claim t) ≡ f t
claimed_same f keeps None t = refl
claimed_same f keeps (Some claim) t = either (λ u. f u ≡ f t) (is_unknown t.kind) (record t { kind = claim.kind; reason = claim.reason }) t (keeps t claim) refl

-- a fact of a state that each rule keeps
pub record Keeps (P : State → Type 0) : Type 0 where
  pub new : (vxid : ℕ) (state : State) → P state → P (with_new vxid state)
  pub kind : (vxid : ℕ) (claim : Option Claim) (state : State) → P state → P (record state { pending = with_newest vxid (claimed_kind claim) state.pending })
  pub link : (child parent : ℕ) (state : State) → P state → P (record state { pending = with_link child parent state.pending })
  pub time : (told : Option ℕ) (state : State) → P state → P (with_time told state)

pub begun_kept : (P : State → Type 0) → Keeps P → (vxid : ℕ) (state : State) → P state → P (with_transaction vxid state)
begun_kept P keeps vxid state p = either P (is_open vxid state.pending) state (with_new vxid state) p (keeps.new vxid state p)

-- a claim links two transactions, after another began where none of its VXID is pending
both_kept : (P : State → Type 0) → Keeps P → (grouping : Grouping) (claim : Claim) (child parent : ℕ) (state : State) → P state → P (cond (gives_parent grouping claim) (record (with_other claim.vxid state) { pending = with_link child parent (with_other claim.vxid state).pending }) state)
both_kept P keeps grouping claim child parent state p =
    let other : State = with_other claim.vxid state in
    either P (gives_parent grouping claim) (record other { pending = with_link child parent other.pending }) state
    (keeps.link child parent other (either P (is_pending claim.vxid state.pending) state (with_new claim.vxid state) p (keeps.new claim.vxid state p))) p

pub parent_kept : (P : State → Type 0) → Keeps P → (grouping : Grouping) (vxid : ℕ) (named : Option Claim) (state : State) → P state → P (with_parent_named grouping vxid named state)
parent_kept P keeps grouping vxid None state p = p
parent_kept P keeps grouping vxid (Some claim) state p = both_kept P keeps grouping claim vxid claim.vxid state p

pub child_kept : (P : State → Type 0) → Keeps P → (grouping : Grouping) (vxid : ℕ) (named : Option Claim) (state : State) → P state → P (with_child_named grouping vxid named state)
child_kept P keeps grouping vxid None state p = p
child_kept P keeps grouping vxid (Some claim) state p = both_kept P keeps grouping claim claim.vxid vxid state p

-- the rules after the record went to its transaction: it may tell the kind, a link and the time
pub told_kept : (P : State → Type 0) → Keeps P → (grouping : Grouping) (vxid : ℕ) (rec : Record) (state : State) →
    P (record (with_transaction vxid state) { pending = with_record vxid rec (with_transaction vxid state).pending }) → P (with_all_told grouping vxid rec state)
told_kept P keeps grouping vxid rec state p =
    let begun : State = with_transaction vxid state in
    let claim : Option Claim = claim_of rec.payload in
    let added : List Transaction = with_record vxid rec begun.pending in
    let told : List Transaction = with_newest vxid (claimed_kind claim) added in
    let kind : State = record begun { pending = cond (eqb rec.tag begin_tag) told added } in
    let kind_kept : P kind = either (λ ts. P (record begun { pending = ts })) (eqb rec.tag begin_tag) told added (keeps.kind vxid claim (record begun { pending = added }) p) p in
    let child : State = with_child_named grouping vxid claim kind in
    let linked : State = with_claim grouping vxid rec kind in
    let linked_kept : P linked = either P (eqb rec.tag begin_tag) (with_parent_named grouping vxid claim kind) (cond (eqb rec.tag link_tag) child kind) (parent_kept P keeps grouping vxid claim kind kind_kept)
    (either P (eqb rec.tag link_tag) child kind (child_kept P keeps grouping vxid claim kind kind_kept) kind_kept) in
    let time : Option ℕ = time_of rec.payload in
    either P (eqb rec.tag timestamp_tag) (with_time time linked) linked (keeps.time time linked linked_kept) linked_kept

-- what holds of a step from a state, of one after another and of each force-completion
pub record HoldsOn (Q : State → Leaving → Type 0) : Type 0 where
  pub none : (state : State) → Q state (nothing_left state)
  pub after : (first : Leaving) (next : State → Leaving) (state : State) → Q state first → Q first.state (next first.state) → Q state (then_left first next)
  pub one : (which : Which) (cause : Cause) (state : State) → Q state (forced_one (test_of which) cause state)

pub often_holds : (Q : State → Leaving → Type 0) → HoldsOn Q → (n : ℕ) (which : Which) (cause : Cause) (state : State) → Q state (forced_often n (test_of which) cause state)
often_holds Q on zero which cause state = on.none state
often_holds Q on (suc n) which cause state =
    let first : Leaving = forced_one (test_of which) cause state in
    on.after first (forced_often n (test_of which) cause) state (on.one which cause state) (often_holds Q on n which cause first.state)

pub down_holds : (Q : State → Leaving → Type 0) → HoldsOn Q → (limit n : ℕ) (state : State) → Q state (forced_down limit n state)
down_holds Q on limit zero state = on.none state
down_holds Q on limit (suc n) state =
    let first : Leaving = forced_one is_unfinished Overflow state in
    either (Q state) (ltb limit (length state.pending)) (then_left first (forced_down limit n)) (nothing_left state)
    (on.after first (forced_down limit n) state (on.one Unfinished Overflow state) (down_holds Q on limit n first.state)) (on.none state)

pub timeouts_hold : (Q : State → Leaving → Type 0) → HoldsOn Q → (seconds : ℕ) (before : Option ℕ) (state : State) → Q state (after_timeouts seconds before state)
timeouts_hold Q on seconds before state =
    either (Q state) (has_risen before state.time) (forced_all (is_late seconds state.time) Timeout state) (nothing_left state)
    (often_holds Q on (count_by (is_late seconds state.time) state.pending) (Late seconds state.time) Timeout state) (on.none state)

pub flush_holds : (Q : State → Leaving → Type 0) → HoldsOn Q → (state : State) → Q state (flush state)
flush_holds Q on state = often_holds Q on (unfinished state) Unfinished Flush state

-- a fact of a step that holds of the parts of steps, and of each record's step
pub record HoldsOver (options : GroupOptions) (Q : State → Leaving → Type 0) : Type 0 where
  pub on : HoldsOn Q
  pub one : (vxid : ℕ) (rec : Record) (state : State) → Q state (step options vxid rec state)

-- it holds of a record by itself, and up to an End
pub holds_over : (options : GroupOptions) (Q : State → Leaving → Type 0) → HoldsOn Q →
    ((vxid : ℕ) (rec : Record) (state : State) → is_raw options.grouping ≡ true → Q state (record { state = state; groups = raw_group vxid rec ∷ [] })) →
    ((vxid : ℕ) (rec : Record) (state : State) → Q state (after_end vxid rec (with_all_told options.grouping vxid rec state))) → HoldsOver options Q
holds_over options Q on alone ends = record {
  on = on;
  one = λ vxid rec state.
      let first : Leaving = after_end vxid rec (with_all_told options.grouping vxid rec state) in
      let late : Leaving = then_left first (after_timeouts options.timeout state.time) in
      cond_both (is_raw options.grouping) (record { state = state; groups = raw_group vxid rec ∷ [] }) (grouped options vxid rec state) (Q state)
      (alone vxid rec state)
      (λ e. on.after late (after_overflow options.limit) state
      (on.after first (after_timeouts options.timeout state.time) state (ends vxid rec state) (timeouts_hold Q on options.timeout state.time first.state))
      (down_holds Q on options.limit (unfinished late.state) late.state));
}

-- and of records, an item and items one after another
pub steps_hold : (options : GroupOptions) (Q : State → Leaving → Type 0) → HoldsOver options Q → (vxid : ℕ) (records : List Record) (state : State) → Q state (steps options vxid records state)
steps_hold options Q over vxid [] state = over.on.none state
steps_hold options Q over vxid (rec ∷ records) state =
    let first : Leaving = step options vxid rec state in
    over.on.after first (steps options vxid records) state (over.one vxid rec state) (steps_hold options Q over vxid records first.state)

pub item_holds : (options : GroupOptions) (Q : State → Leaving → Type 0) → HoldsOver options Q → (item : Taken) (state : State) → Q state (taken_step options item state)
item_holds options Q over (TakenUnit u) state =
    either (Q state) (passes_over options.grouping u.vxid) (nothing_left state) (steps options u.vxid u.records state) (over.on.none state) (steps_hold options Q over u.vxid u.records state)
item_holds options Q over Missed state = flush_holds Q over.on state

pub items_hold : (options : GroupOptions) (Q : State → Leaving → Type 0) → HoldsOver options Q → (taken : List Taken) (state : State) → Q state (taken_steps options taken state)
items_hold options Q over [] state = over.on.none state
items_hold options Q over (item ∷ taken) state =
    let first : Leaving = taken_step options item state in
    over.on.after first (taken_steps options taken) state (item_holds options Q over item state) (items_hold options Q over taken first.state)
