-- Each record that is taken is in one group or pending, once, and so is each transaction that began: each rule keeps the sum of a measure.
use Rattle.std.proofs.Common.{◌≡◌, ◌+◌, ◌*◌, ℕ, Bool, true, false, not, eqb, cond, Option, Some, None, eq-eqb, eqb-true, List, [], ◌∷◌, ◌++◌, length, map, refl, ap, sym, ◌∙◌, arith}
use Rattle.std.specs.Prelude.{count_by, codes}
use Rattle.std.specs.List.{sum_by, sum, list_all}
use Rattle.std.specs.Option.{option_map}
use Rattle.std.proofs.Math.Bool.{or-false, or-true}
use Rattle.std.proofs.lemmas.Bool.{and_parts, both_ways}
use Rattle.std.proofs.lemmas.List.{append_assoc, nil_from_length}
use Rattle.std.proofs.lemmas.List.Sums.{sum_by-append, sum_by-cons, sum_by_push, sum-map}
use Rattle.std.proofs.lemmas.List.Filters.{sum_by-filter_both}
use Rattle.vsl_tags.specs.Tags.{end_tag, vsl_tag}
use Rattle.vsl_record.specs.declared.record_type.Record.{Record}
use Rattle.vsl_record.specs.Unit.{LogUnit}
use Rattle.txn_rows.specs.declared.group.Grouping.{Grouping}
use Rattle.txn_rows.specs.declared.group.GroupOptions.{GroupOptions}
use Rattle.txn_rows.specs.declared.group.Cause.{Cause}
use Rattle.txn_rows.specs.declared.group.Cause.TheVariants.{Flush}
use Rattle.txn_rows.specs.declared.group.Member.{Member}
use Rattle.txn_rows.specs.declared.group.Group.{Group}
use Rattle.txn_rows.specs.Store.{test_of}
use Rattle.txn_rows.specs.declared.which.Which.TheVariants.{Unfinished}
use Rattle.txn_rows.specs.Transaction.{Transaction, cause_text, empty_transaction, is_pending, is_open, newest, with_newest, with_record, claimed_kind, ended, forced, first_mark, oldest, with_oldest}
use Rattle.txn_rows.specs.Links.{with_parent, can_join, children, root_of, tree_of, others, path_of, preorder, member_of, group_of}
use Rattle.txn_rows.specs.Grouping.{Taken, TakenUnit, Missed, State, Leaving, no_state, nothing_left, then_left, with_new, with_transaction, raised, timed, left_by, forced_one, after_end, after_timeouts, after_overflow, flush, unfinished, with_all_told, grouped, is_raw, raw_group, step, steps, passes_over, unit_step, taken_step, taken_steps}
use Rattle.txn_rows.specs.Taken.{count_in_groups, count_in_pending, count_members, count_taken, Forcing, synthesized, count_synthesized}
use Rattle.txn_rows.proofs.LineLemmas.{by_cases, either}
use Rattle.txn_rows.proofs.KeepLemmas.{HoldsOn, often_holds, down_holds, timeouts_hold, claimed_same, Keeps, begun_kept, told_kept}
use Rattle.txn_rows.proofs.ChangeLemmas.{pending_in, newest_same}
use Rattle.txn_rows.proofs.OrderLemmas.{preorder_sum}
use Rattle.txn_rows.proofs.RunLemmas.{taken_stand}
use Rattle.txn_rows.proofs.LimitLemmas.{flush_empties}

-- a measure of VXID and records: each transaction that begins and each record adds its own
record Measure (grouping : Grouping) : Type 0 where
  size : ℕ → List Record → ℕ
  more : ℕ → Record → ℕ
  begun : ℕ → ℕ
  first : (vxid begins : ℕ) → begun (begins + 1) ≡ begun begins + size vxid []
  added : (vxid : ℕ) (records : List Record) (rec : Record) → size vxid (records ++ rec ∷ []) ≡ size vxid records + more vxid rec
  -- in raw grouping a record stands alone, and nothing begins
  alone : is_raw grouping ≡ true → (vxid : ℕ) (rec : Record) → size vxid (rec ∷ []) ≡ more vxid rec

-- the measure of a transaction
abbrev size_of : (ℕ → List Record → ℕ) → Transaction → ℕ
size_of size t = size t.vxid t.records

-- the measure of pending transactions
abbrev size_pending : (ℕ → List Record → ℕ) → List Transaction → ℕ
size_pending size pending = sum_by (size_of size) pending

-- the measure of a group
abbrev size_group : (ℕ → List Record → ℕ) → Group → ℕ
size_group size g = sum_by (λ (m : Member). size m.vxid m.records) g.members

-- the measure of groups
abbrev size_groups : (ℕ → List Record → ℕ) → List Group → ℕ
size_groups size groups = sum_by (size_group size) groups

-- a change that keeps what is summed keeps the sum
newest_keeps : (f : Transaction → ℕ) (vxid : ℕ) (change : Transaction → Transaction) → ((t : Transaction) → f (change t) ≡ f t) → (pending : List Transaction) → sum_by f (with_newest vxid change pending) ≡ sum_by f pending
newest_keeps f vxid change keeps pending = sym (sum-map f (with_newest vxid change pending)) ∙ ap sum (newest_same f vxid change keeps pending) ∙ sum-map f pending

-- a change that adds to a pending transaction of a VXID adds to the sum
newest_adds : (f : Transaction → ℕ) (n vxid : ℕ) (change : Transaction → Transaction) → ((t : Transaction) → t.vxid ≡ vxid → f (change t) ≡ f t + n) → (pending : List Transaction) → is_pending vxid pending ≡ true → sum_by f (with_newest vxid change pending) ≡ sum_by f pending + n
newest_adds f n vxid change adds [] there = absurd (cc)
newest_adds f n vxid change adds (t ∷ pending) there =
    let whole : sum_by f (t ∷ pending) ≡ f t + sum_by f pending = sum_by-cons f t pending in
    by_cases (sum_by f (with_newest vxid change (t ∷ pending)) ≡ sum_by f (t ∷ pending) + n) (is_pending vxid pending)
    (λ e. rw e (omega (arith, whole, sum_by-cons f t (with_newest vxid change pending), newest_adds f n vxid change adds pending e)))
    (λ e. let same : eqb t.vxid vxid ≡ true = sym (or-false (eqb t.vxid vxid)) ∙ rw e at there in
    rw (e, same) (omega (arith, whole, adds t (eqb-true t.vxid vxid same), sum_by-cons f (change t) pending)))

open_pending : (vxid : ℕ) (pending : List Transaction) → is_open vxid pending ≡ true → is_pending vxid pending ≡ true
open_pending vxid [] o = absurd (cc)
open_pending vxid (t ∷ pending) o =
    by_cases (is_pending vxid (t ∷ pending) ≡ true) (is_pending vxid pending)
    (λ e. rw e (or-true (eqb t.vxid vxid)))
    (λ e. rw (and_parts (eqb t.vxid vxid) (not t.ended) (rw e at o)).0 refl)

begun_pending : (vxid : ℕ) (state : State) → is_pending vxid (with_transaction vxid state).pending ≡ true
begun_pending vxid state =
    by_cases (is_pending vxid (with_transaction vxid state).pending ≡ true) (is_open vxid state.pending)
    (λ e. rw e (open_pending vxid state.pending e))
    (λ e. rw e (pending_in vxid state.pending (empty_transaction state.begun vxid state.time) [] (eq-eqb vxid vxid refl)))

-- the measure of pending transactions grows by so much and by those that begin
abbrev Grows : (grouping : Grouping) → Measure grouping → State → State → ℕ → Type 0
Grows grouping m before now n = size_pending m.size now.pending + m.begun before.begun ≡ size_pending m.size before.pending + m.begun now.begun + n

new_grows : (grouping : Grouping) (m : Measure grouping) (vxid : ℕ) (state : State) → Grows grouping m state (with_new vxid state) 0
new_grows grouping m vxid state = omega (arith, m.first vxid state.begun, sum_by_push (size_of m.size) state.pending (empty_transaction state.begun vxid state.time))

parent_size : (size : ℕ → List Record → ℕ) (c p : Option Transaction) (pending : List Transaction) → size_pending size (with_parent c p pending) ≡ size_pending size pending
parent_size size None p pending = refl
parent_size size (Some c) None pending = refl
parent_size size (Some c) (Some p) pending =
    let change : Transaction → Transaction = λ t. record t { parent = Some (record { serial = p.serial; vxid = p.vxid; number = children pending p }) } in
    either (λ ts. size_pending size ts ≡ size_pending size pending) (can_join pending c p) (with_newest c.vxid change pending) pending (newest_keeps (size_of size) c.vxid change (λ t. refl) pending) refl

timed_size : (size : ℕ → List Record → ℕ) (now : Option ℕ) (pending : List Transaction) → size_pending size (map (timed now) pending) ≡ size_pending size pending
timed_size size now [] = refl
timed_size size now (t ∷ pending) = omega (arith, sum_by-cons (size_of size) (timed now t) (map (timed now) pending), timed_size size now pending, sum_by-cons (size_of size) t pending)

-- the rules of a record add nothing but those that begin
grows_keeps : (grouping : Grouping) (m : Measure grouping) (before : State) (n : ℕ) → Keeps (λ now. Grows grouping m before now n)
grows_keeps grouping m before n = record {
  new = λ vxid state g. omega (arith, g, new_grows grouping m vxid state);
  kind = λ vxid claim state g. omega (arith, g, newest_keeps (size_of m.size) vxid (claimed_kind claim) (claimed_same (size_of m.size) (λ t c. refl) claim) state.pending);
  link = λ child parent state g. omega (arith, g, parent_size m.size (newest child state.pending) (newest parent state.pending) state.pending);
  time = λ told state g. omega (arith, g, timed_size m.size (raised told state.time) state.pending);
}

-- one record more is measured once
told_grows : (grouping : Grouping) (m : Measure grouping) (vxid : ℕ) (rec : Record) (state : State) → Grows grouping m state (with_all_told grouping vxid rec state) (m.more vxid rec)
told_grows grouping m vxid rec state =
    let begun : State = with_transaction vxid state in
    let longer : size_pending m.size (with_record vxid rec begun.pending) ≡ size_pending m.size begun.pending + m.more vxid rec =
    newest_adds (size_of m.size) (m.more vxid rec) vxid (λ t. record t { records = t.records ++ rec ∷ [] })
    (λ t e. m.added t.vxid t.records rec ∙ ap (λ (v : ℕ). m.size t.vxid t.records + m.more v rec) e) begun.pending (begun_pending vxid state) in
    let began : Grows grouping m state begun 0 = begun_kept (λ now. Grows grouping m state now 0) (grows_keeps grouping m state 0) vxid state (omega arith) in
    told_kept (λ now. Grows grouping m state now (m.more vxid rec)) (grows_keeps grouping m state (m.more vxid rec)) grouping vxid rec state (omega (arith, began, longer))

-- what leaves is measured in its group
members_size : (size : ℕ → List Record → ℕ) (pending ts : List Transaction) → sum_by (λ (m : Member). size m.vxid m.records) (map (member_of pending) ts) ≡ size_pending size ts
members_size size pending [] = refl
members_size size pending (t ∷ ts) =
    omega (arith, sum_by-cons (λ (m : Member). size m.vxid m.records) (member_of pending t) (map (member_of pending) ts), members_size size pending ts, sum_by-cons (size_of size) t ts)

left_size : (size : ℕ → List Record → ℕ) (o : Option Transaction) (state : State) → size_groups size (left_by o state).groups + size_pending size (left_by o state).state.pending ≡ size_pending size state.pending
left_size size None state = omega arith
left_size size (Some t) state =
    let root : Transaction = root_of state.pending t in
    let tree : List Transaction = tree_of state.pending root in
    let p : Transaction → Bool = λ u. eqb (root_of state.pending u).serial root.serial in
    let parts : size_pending size tree + size_pending size (others state.pending root) ≡ size_pending size state.pending = sum_by-filter_both p (λ u. not (p u)) (λ u. refl) (size_of size) state.pending in
    let group : size_groups size (group_of state.pending root ∷ []) ≡ size_pending size tree =
    sum_by-cons (size_group size) (group_of state.pending root) [] ∙ omega (arith, members_size size state.pending (preorder (path_of state.pending) tree), preorder_sum (size_of size) (path_of state.pending) tree) in
    by_cases (size_groups size (left_by (Some t) state).groups + size_pending size (left_by (Some t) state).state.pending ≡ size_pending size state.pending) (list_all (λ (u : Transaction). u.ended) tree)
    (λ e. rw e (omega (arith, parts, group)))
    (λ e. rw e (omega arith))

-- none begins where some leave
left_begun : (o : Option Transaction) (state : State) → (left_by o state).state.begun ≡ state.begun
left_begun None state = refl
left_begun (Some t) state =
    by_cases ((left_by (Some t) state).state.begun ≡ state.begun) (list_all (λ (u : Transaction). u.ended) (tree_of state.pending (root_of state.pending t))) (λ e. rw e refl) (λ e. rw e refl)

begun_on : HoldsOn (λ state r. r.state.begun ≡ state.begun)
begun_on = record {
  none = λ state. refl;
  after = λ first next state a b. b ∙ a;
  one = λ which cause state. left_begun (option_map (forced cause) (oldest (test_of which) state.pending)) (record state { pending = with_oldest (test_of which) (forced cause) state.pending });
}

-- the measure of the records of force-completions
abbrev size_forcings : (ℕ → Record → ℕ) → List Forcing → ℕ
size_forcings more forcings = sum_by (λ (f : Forcing). sum_by (more f.vxid) (synthesized f)) forcings

-- the measure of what left and of what is pending: what was pending, those that began, what records add, and what force-completions add
record Counts (grouping : Grouping) (r : Leaving) (before : State) (records : Measure grouping → ℕ) : Type 0 where
  forcings : List Forcing
  same : (m : Measure grouping) → size_groups m.size r.groups + size_pending m.size r.state.pending + m.begun before.begun ≡ size_pending m.size before.pending + m.begun r.state.begun + records m + size_forcings m.more forcings

counts_nothing : (grouping : Grouping) (state : State) → Counts grouping (nothing_left state) state (λ m. 0)
counts_nothing grouping state = record { forcings = []; same = λ m. omega arith }

-- what follows a first step
counts_then : (grouping : Grouping) (first : Leaving) (next : State → Leaving) (before : State) (xs ys both : Measure grouping → ℕ) → ((m : Measure grouping) → both m ≡ xs m + ys m) → Counts grouping first before xs → Counts grouping (next first.state) first.state ys → Counts grouping (then_left first next) before both
counts_then grouping first next before xs ys both parts a b = record {
  forcings = a.forcings ++ b.forcings;
  same = λ m. omega (
    arith,
    parts m,
    a.same m,
    b.same m,
    sum_by-append (size_group m.size) first.groups (next first.state).groups,
    sum_by-append (λ (f : Forcing). sum_by (m.more f.vxid) (synthesized f)) a.forcings b.forcings,
  );
}

-- where nothing is added by records after the first step
counts_after : (grouping : Grouping) (first : Leaving) (next : State → Leaving) (before : State) (xs : Measure grouping → ℕ) → Counts grouping first before xs → Counts grouping (next first.state) first.state (λ m. 0) → Counts grouping (then_left first next) before xs
counts_after grouping first next before xs a b = counts_then grouping first next before xs (λ m. 0) xs (λ m. omega arith) a b

-- what is said of a transaction, where there is one
abbrev of_some : (Transaction → ℕ) → Option Transaction → ℕ
of_some f None = 0
of_some f (Some t) = f t

-- the oldest is changed, and no other
oldest_sum : (f : Transaction → ℕ) (choose : Transaction → Bool) (change : Transaction → Transaction) (pending : List Transaction) → sum_by f (with_oldest choose change pending) + of_some f (oldest choose pending) ≡ sum_by f pending + of_some (λ t. f (change t)) (oldest choose pending)
oldest_sum f choose change [] = refl
oldest_sum f choose change (u ∷ pending) =
    let whole : sum_by f (u ∷ pending) ≡ f u + sum_by f pending = sum_by-cons f u pending in
    by_cases (sum_by f (with_oldest choose change (u ∷ pending)) + of_some f (oldest choose (u ∷ pending)) ≡ sum_by f (u ∷ pending) + of_some (λ t. f (change t)) (oldest choose (u ∷ pending))) (choose u)
    (λ q. rw q (omega (arith, whole, sum_by-cons f (change u) pending)))
    (λ q. rw q (omega (arith, whole, oldest_sum f choose change pending, sum_by-cons f u (with_oldest choose change pending))))

-- the force-completion of a transaction, where there is one
abbrev forcing_of : Cause → Option Transaction → List Forcing
forcing_of cause None = []
forcing_of cause (Some t) = record { vxid = t.vxid; mark = first_mark t.records; cause = cause } ∷ []

-- a force-completed transaction has two records more
forced_more : (grouping : Grouping) (m : Measure grouping) (cause : Cause) (o : Option Transaction) → of_some (λ t. size_of m.size (forced cause t)) o ≡ of_some (size_of m.size) o + size_forcings m.more (forcing_of cause o)
forced_more grouping m cause None = refl
forced_more grouping m cause (Some t) =
    let vsl : Record = record { tag = vsl_tag; mark = first_mark t.records; payload = cause_text cause } in
    let end : Record = record { tag = end_tag; mark = first_mark t.records; payload = codes "synth" } in
    let more : Record → ℕ = m.more t.vxid in
    ap (m.size t.vxid) (sym (append_assoc t.records (vsl ∷ []) (end ∷ []))) ∙ m.added t.vxid (t.records ++ vsl ∷ []) end
    ∙ omega (arith, m.added t.vxid t.records vsl, sum_by-cons more vsl (end ∷ []), sum_by-cons more end [])

one_counts : (grouping : Grouping) (choose : Transaction → Bool) (cause : Cause) (state : State) → Counts grouping (forced_one choose cause state) state (λ m. 0)
one_counts grouping choose cause state = record {
  forcings = forcing_of cause (oldest choose state.pending);
  same = λ m.
      let o : Option Transaction = oldest choose state.pending in
      let now : State = record state { pending = with_oldest choose (forced cause) state.pending } in
      omega (arith, left_size m.size (option_map (forced cause) o) now, ap m.begun (left_begun (option_map (forced cause) o) now), oldest_sum (size_of m.size) choose (forced cause) state.pending, forced_more grouping m cause o);
}

counts_on : (grouping : Grouping) → HoldsOn (λ state r. Counts grouping r state (λ m. 0))
counts_on grouping = record {
  none = counts_nothing grouping;
  after = λ first next state a b. counts_after grouping first next state (λ m. 0) a b;
  one = λ which cause state. one_counts grouping (test_of which) cause state;
}

-- an End adds nothing
end_counts : (grouping : Grouping) (vxid : ℕ) (rec : Record) (state : State) → Counts grouping (after_end vxid rec state) state (λ m. 0)
end_counts grouping vxid rec state =
    let now : State = record state { pending = with_newest vxid ended state.pending } in
    let o : Option Transaction = newest vxid now.pending in
    either (λ r. Counts grouping r state (λ m. 0)) (eqb rec.tag end_tag) (left_by o now) (nothing_left state)
    (record { forcings = []; same = λ m. omega (arith, left_size m.size o now, ap m.begun (left_begun o now), newest_keeps (size_of m.size) vxid ended (λ t. refl) state.pending) })
    (counts_nothing grouping state)

grouped_counts : (options : GroupOptions) (vxid : ℕ) (rec : Record) (state : State) → Counts options.grouping (grouped options vxid rec state) state (λ m. m.more vxid rec)
grouped_counts options vxid rec state =
    let grouping : Grouping = options.grouping in
    let one : Measure grouping → ℕ = λ m. m.more vxid rec in
    let told : State = with_all_told grouping vxid rec state in
    let first : Leaving = after_end vxid rec told in
    let ends = end_counts grouping vxid rec told in
    let first_counts : Counts grouping first state one = record { forcings = ends.forcings; same = λ m. omega (arith, ends.same m, told_grows grouping m vxid rec state) } in
    let late : Leaving = then_left first (after_timeouts options.timeout state.time) in
    let late_counts : Counts grouping late state one = counts_after grouping first (after_timeouts options.timeout state.time) state one first_counts (timeouts_hold (λ state r. Counts grouping r state (λ m. 0)) (counts_on grouping) options.timeout state.time first.state) in
    counts_after grouping late (after_overflow options.limit) state one late_counts (down_holds (λ state r. Counts grouping r state (λ m. 0)) (counts_on grouping) options.limit (unfinished late.state) late.state)

step_counts : (options : GroupOptions) (vxid : ℕ) (rec : Record) (state : State) → Counts options.grouping (step options vxid rec state) state (λ m. m.more vxid rec)
step_counts options vxid rec state =
    by_cases (Counts options.grouping (step options vxid rec state) state (λ m. m.more vxid rec)) (is_raw options.grouping)
    (λ e. rw e (record { forcings = []; same = λ m. omega (arith, sum_by-cons (size_group m.size) (raw_group vxid rec) [], m.alone e vxid rec) }))
    (λ e. rw e (grouped_counts options vxid rec state))

steps_counts : (options : GroupOptions) (vxid : ℕ) (records : List Record) (state : State) → Counts options.grouping (steps options vxid records state) state (λ m. sum_by (m.more vxid) records)
steps_counts options vxid [] state = counts_nothing options.grouping state
steps_counts options vxid (rec ∷ records) state =
    counts_then options.grouping (step options vxid rec state) (steps options vxid records) state (λ m. m.more vxid rec) (λ m. sum_by (m.more vxid) records) (λ m. sum_by (m.more vxid) (rec ∷ records))
    (λ m. sum_by-cons (m.more vxid) rec records) (step_counts options vxid rec state) (steps_counts options vxid records (step options vxid rec state).state)

-- the measure of the records that are taken of a unit
abbrev size_unit : Grouping → (ℕ → Record → ℕ) → LogUnit → ℕ
size_unit grouping more u = cond (passes_over grouping u.vxid) 0 (sum_by (more u.vxid) u.records)

unit_counts : (options : GroupOptions) (u : LogUnit) (state : State) → Counts options.grouping (unit_step options u state) state (λ m. size_unit options.grouping m.more u)
unit_counts options u state =
    by_cases (Counts options.grouping (unit_step options u state) state (λ m. size_unit options.grouping m.more u)) (passes_over options.grouping u.vxid)
    (λ e. rw e (counts_nothing options.grouping state))
    (λ e. rw e (steps_counts options u.vxid u.records state))

-- of an item
abbrev size_item : Grouping → (ℕ → Record → ℕ) → Taken → ℕ
size_item grouping more (TakenUnit u) = size_unit grouping more u
size_item grouping more Missed = 0

flush_counts : (grouping : Grouping) (state : State) → Counts grouping (flush state) state (λ m. 0)
flush_counts grouping state = often_holds (λ state r. Counts grouping r state (λ m. 0)) (counts_on grouping) (unfinished state) Unfinished Flush state

item_counts : (options : GroupOptions) (item : Taken) (state : State) → Counts options.grouping (taken_step options item state) state (λ m. size_item options.grouping m.more item)
item_counts options (TakenUnit u) state = unit_counts options u state
item_counts options Missed state = flush_counts options.grouping state

items_counts : (options : GroupOptions) (taken : List Taken) (state : State) → Counts options.grouping (taken_steps options taken state) state (λ m. sum_by (size_item options.grouping m.more) taken)
items_counts options [] state = counts_nothing options.grouping state
items_counts options (item ∷ taken) state =
    counts_then options.grouping (taken_step options item state) (taken_steps options taken) state (λ m. size_item options.grouping m.more item) (λ m. sum_by (size_item options.grouping m.more) taken) (λ m. sum_by (size_item options.grouping m.more) (item ∷ taken))
    (λ m. sum_by-cons (size_item options.grouping m.more) item taken) (item_counts options item state) (items_counts options taken (taken_step options item state).state)

flushed_counts : (options : GroupOptions) (taken : List Taken) → Counts options.grouping (then_left (taken_steps options taken no_state) flush) no_state (λ m. sum_by (size_item options.grouping m.more) taken)
flushed_counts options taken =
    let run : Leaving = taken_steps options taken no_state in
    counts_after options.grouping run flush no_state (λ m. sum_by (size_item options.grouping m.more) taken) (items_counts options taken no_state) (flush_counts options.grouping run.state)

-- how many records pass a test is a measure
abbrev counted : (grouping : Grouping) → (ℕ → Record → Bool) → Measure grouping
counted grouping test = record {
  size = λ vxid records. count_by (test vxid) records;
  more = λ vxid rec. cond (test vxid rec) 1 0;
  begun = λ begins. 0;
  first = λ vxid begins. refl;
  added = λ vxid records rec. sum_by_push (λ (r : Record). cond (test vxid r) 1 0) records rec;
  alone = λ raw vxid rec. sum_by-cons (λ (r : Record). cond (test vxid r) 1 0) rec [] ∙ omega arith;
}

-- each record that is taken, and the two of each force-completion, are in one group or pending, once
pub each_taken_once : (options : GroupOptions) (taken : List Taken) → (forcings : List Forcing) × ((test : ℕ → Record → Bool) →
    count_in_groups test (taken_steps options taken no_state).groups + count_in_pending test (taken_steps options taken no_state).state.pending ≡ count_taken test options.grouping taken + count_synthesized test forcings)
each_taken_once options taken =
    let counts = items_counts options taken no_state in
    (counts.forcings, λ test. omega (arith, counts.same (counted options.grouping test)))

-- and after a flush in one group, once
pub each_flushed_once : (options : GroupOptions) (taken : List Taken) → (length (flush (taken_steps options taken no_state).state).state.pending ≡ 0) × ((forcings : List Forcing) × ((test : ℕ → Record → Bool) →
    count_in_groups test ((taken_steps options taken no_state).groups ++ (flush (taken_steps options taken no_state).state).groups) ≡ count_taken test options.grouping taken + count_synthesized test forcings))
each_flushed_once options taken =
    let run : Leaving = taken_steps options taken no_state in
    let last : Leaving = flush run.state in
    let counts = flushed_counts options taken in
    let empties = flush_empties run.state (taken_stand options taken) in
    (empties, (counts.forcings, λ test. omega (arith, counts.same (counted options.grouping test), ap (count_in_pending test) (nil_from_length last.state.pending empties))))

sum_by_same : {X : Type 0} (f g : X → ℕ) → ((x : X) → f x ≡ g x) → (xs : List X) → sum_by f xs ≡ sum_by g xs
sum_by_same f g same [] = refl
sum_by_same f g same (x ∷ xs) = omega (arith, sum_by-cons f x xs, sum_by-cons g x xs, same x, sum_by_same f g same xs)

sum_by_constant : {X : Type 0} (n : ℕ) (xs : List X) → sum_by (λ (x : X). n) xs ≡ length xs * n
sum_by_constant n [] = omega arith
sum_by_constant {X} n (x ∷ xs) = omega (arith, sum_by-cons (λ (x : X). n) x xs, sum_by_constant n xs)

-- how many transactions there are is a measure, where they begin
abbrev each_one : (grouping : Grouping) → is_raw grouping ≡ false → Measure grouping
each_one grouping whole = record {
  size = λ vxid records. 1;
  more = λ vxid rec. 0;
  begun = λ begins. begins;
  first = λ vxid begins. refl;
  added = λ vxid records rec. refl;
  alone = λ raw vxid rec. absurd (both_ways (is_raw grouping) whole raw);
}

item_nothing : (grouping : Grouping) (item : Taken) → size_item grouping (λ vxid rec. 0) item ≡ 0
item_nothing grouping Missed = refl
item_nothing grouping (TakenUnit u) =
    by_cases (size_unit grouping (λ vxid rec. 0) u ≡ 0) (passes_over grouping u.vxid) (λ e. rw e refl) (λ e. rw e (omega (arith, sum_by_constant 0 u.records)))

members_counted : (grouping : Grouping) (taken : List Taken) (r : Leaving) → is_raw grouping ≡ false → Counts grouping r no_state (λ m. sum_by (size_item grouping m.more) taken) → count_members r.groups + length r.state.pending ≡ r.state.begun
members_counted grouping taken r whole counts =
    let members = sum_by_same (size_group (λ vxid records. 1)) (λ (g : Group). length g.members) (λ g. omega (arith, sum_by_constant 1 g.members)) r.groups in
    let records = sum_by_same (size_item grouping (λ vxid rec. 0)) (λ item. 0) (item_nothing grouping) taken in
    omega (arith, counts.same (each_one grouping whole), members, sum_by_constant 1 r.state.pending, records, sum_by_constant 0 taken, sum_by_constant 0 counts.forcings)

-- each transaction that began is a member of one group or pending, once
pub each_member_once : (options : GroupOptions) (taken : List Taken) → is_raw options.grouping ≡ false →
    count_members (taken_steps options taken no_state).groups + length (taken_steps options taken no_state).state.pending ≡ (taken_steps options taken no_state).state.begun
each_member_once options taken whole = members_counted options.grouping taken (taken_steps options taken no_state) whole (items_counts options taken no_state)

-- and after a flush, in which none begins, a member of one group, once
pub each_flushed_member_once : (options : GroupOptions) (taken : List Taken) → is_raw options.grouping ≡ false →
    ((flush (taken_steps options taken no_state).state).state.begun ≡ (taken_steps options taken no_state).state.begun)
    × (count_members ((taken_steps options taken no_state).groups ++ (flush (taken_steps options taken no_state).state).groups) ≡ (taken_steps options taken no_state).state.begun)
each_flushed_member_once options taken whole =
    let run : Leaving = taken_steps options taken no_state in
    let same : (flush run.state).state.begun ≡ run.state.begun = often_holds (λ state r. r.state.begun ≡ state.begun) begun_on (unfinished run.state) Unfinished Flush run.state in
    (same, omega (arith, members_counted options.grouping taken (then_left run flush) whole (flushed_counts options taken), flush_empties run.state (taken_stand options taken), same))
