-- After each record no more than the limit are pending.
use Rattle.std.proofs.Common.{◌≡◌, ◌≤◌, ℕ, zero, suc, Bool, false, true, not, eqb, ltb, Option, Some, None, List, [], ◌∷◌, ◌++◌, length, map, refl, ap, sym, ◌∙◌, arith}
use Rattle.std.specs.Prelude.{count_by}
use Rattle.std.specs.List.{list_all}
use Rattle.std.specs.Option.{option_map}
use Rattle.std.proofs.lemmas.Bool.{eq-eqb, ltb-false}
use Rattle.std.proofs.lemmas.List.{append-nil, length-map}
use Rattle.std.proofs.lemmas.List.Sums.{length-filter, count_by-le-length}
use Rattle.vsl_record.specs.declared.record_type.Record.{Record}
use Rattle.txn_rows.specs.declared.rows.Row.{Row}
use Rattle.txn_rows.specs.declared.group.Group.{Group}
use Rattle.txn_rows.specs.declared.group.GroupOptions.{GroupOptions}
use Rattle.txn_rows.specs.declared.which.Which.TheVariants.{Unfinished}
use Rattle.txn_rows.specs.declared.group.Cause.{Cause}
use Rattle.txn_rows.specs.declared.group.Cause.TheVariants.{Overflow, Flush}
use Rattle.txn_rows.specs.Transaction.{Transaction, forced, oldest, with_oldest}
use Rattle.txn_rows.specs.Links.{root_of, tree_of}
use Rattle.txn_rows.specs.Grouping.{Taken, Missed, State, Leaving, left_by, forced_one, forced_often, forced_down, flush, is_unfinished, unfinished, grouped, after_end, after_timeouts, with_all_told, no_state, is_raw, raw_group, steps, taken_steps, left_of}
use Rattle.txn_rows.specs.Trees.{transaction_of, row_of}
use Rattle.txn_rows.specs.Store.{test_of}
use Rattle.txn_rows.specs.States.{HasOpen, Standing}
use Rattle.txn_rows.proofs.GroupingLemmas.{steps_append}
use Rattle.txn_rows.proofs.LineLemmas.{by_cases, either}
use Rattle.txn_rows.proofs.JoinLemmas.{count_map, row_counted}
use Rattle.txn_rows.proofs.ForceAllLemmas.{one_fewer}
use Rattle.txn_rows.proofs.KeepLemmas.{HoldsOn, HoldsOver, timeouts_hold, steps_hold, items_hold}
use Rattle.txn_rows.proofs.ChangeLemmas.{oldest_same}
use Rattle.txn_rows.proofs.RunLemmas.{StandsOn, stands_on, stands_over, one_stands, told_stands, end_stands, taken_stand}

-- where all have ended, none is pending
none_pending : (rows : List Row) → ((s : ℕ) (row : Row) → row_of s rows ≡ Some row → HasOpen rows row.root) → count_by is_unfinished (map transaction_of rows) ≡ 0 → length (map transaction_of rows) ≡ 0
none_pending [] unended none = refl
none_pending (row ∷ rows) unended none =
    let u : HasOpen (row ∷ rows) row.root = unended row.serial row (rw (eq-eqb row.serial row.serial refl) refl) in
    absurd (omega (arith, none, count_map is_unfinished transaction_of (row ∷ rows), row_counted (λ r. is_unfinished (transaction_of r)) u.row.serial (row ∷ rows) u.row u.here (ap not u.unended)))

standing_none : (state : State) → Standing state → unfinished state ≡ 0 → length state.pending ≡ 0
standing_none state s none =
    ap (λ (ts : List Transaction). length ts) (sym s.told) ∙ none_pending s.rows s.unended (ap (count_by is_unfinished) s.told ∙ none)

-- so many force-completions are enough
down_enough : (limit n : ℕ) (state : State) → Standing state → unfinished state ≤ n → length (forced_down limit n state).state.pending ≤ limit
down_enough limit zero state s few = omega (arith, standing_none state s (omega (arith, few)))
down_enough limit (suc n) state s few =
    by_cases (length (forced_down limit (suc n) state).state.pending ≤ limit) (ltb limit (length state.pending))
    (λ over. rw over (down_enough limit n (forced_one is_unfinished Overflow state).state (one_stands is_unfinished Overflow state s) (omega (arith, few, one_fewer Unfinished Overflow state))))
    (λ within. rw within (ltb-false limit (length state.pending) within))

often_enough : (n : ℕ) (cause : Cause) (state : State) → Standing state → unfinished state ≤ n → length (forced_often n is_unfinished cause state).state.pending ≡ 0
often_enough zero cause state s few = standing_none state s (omega (arith, few))
often_enough (suc n) cause state s few = often_enough n cause (forced_one is_unfinished cause state).state (one_stands is_unfinished cause state s) (omega (arith, few, one_fewer Unfinished cause state))

-- nothing is pending after a flush
pub flush_empties : (state : State) → Standing state → length (flush state).state.pending ≡ 0
flush_empties state s = often_enough (unfinished state) Flush state s (omega arith)

-- no more are pending after a force-completion
pub left_length : (o : Option Transaction) (state : State) → length (left_by o state).state.pending ≤ length state.pending
left_length None state = omega arith
left_length (Some t) state =
    let root : Transaction = root_of state.pending t in
    let beside : Transaction → Bool = λ u. not (eqb (root_of state.pending u).serial root.serial) in
    by_cases (length (left_by (Some t) state).state.pending ≤ length state.pending) (list_all (λ (u : Transaction). u.ended) (tree_of state.pending root))
    (λ e. rw e (omega (arith, length-filter beside state.pending, count_by-le-length beside state.pending)))
    (λ e. rw e (omega arith))

pub one_length : (test : Transaction → Bool) (cause : Cause) (state : State) → length (forced_one test cause state).state.pending ≤ length state.pending
one_length test cause state =
    let vxid_of : Transaction → ℕ = λ t. t.vxid in
    let now : List Transaction = with_oldest test (forced cause) state.pending in
    omega (arith, left_length (option_map (forced cause) (oldest test state.pending)) (record state { pending = now }), length-map now vxid_of, length-map state.pending vxid_of, ap length (oldest_same vxid_of test (forced cause) (λ t. refl) state.pending))

-- a state that stands within a limit
record Within (limit : ℕ) (state : State) : Type 0 where
  stands : Standing state
  few : length state.pending ≤ limit

abbrev WithinOn : ℕ → State → Leaving → Type 0
WithinOn limit state r = Within limit state → Within limit r.state

within_on : (limit : ℕ) → HoldsOn (WithinOn limit)
within_on limit = record {
  none = λ state w. w;
  after = λ first next state a b w. b (a w);
  one = λ which cause state w. record { stands = one_stands (test_of which) cause state w.stands; few = omega (arith, w.few, one_length (test_of which) cause state) };
}

-- after a record of a transaction
grouped_within : (options : GroupOptions) (vxid : ℕ) (rec : Record) (state : State) → Standing state → length (grouped options vxid rec state).state.pending ≤ options.limit
grouped_within options vxid rec state s =
    let told : State = with_all_told options.grouping vxid rec state in
    let ended : Leaving = after_end vxid rec told in
    let late : Leaving = after_timeouts options.timeout state.time ended.state in
    down_enough options.limit (unfinished late.state) late.state (timeouts_hold StandsOn stands_on options.timeout state.time ended.state (end_stands vxid rec told (told_stands options.grouping vxid rec state s))) (omega arith)

within_over : (options : GroupOptions) → HoldsOver options (WithinOn options.limit)
within_over options = record {
  on = within_on options.limit;
  one = λ vxid rec state w. record {
    stands = (stands_over options).one vxid rec state w.stands;
    few = either (λ r. length r.state.pending ≤ options.limit) (is_raw options.grouping) (record { state = state; groups = raw_group vxid rec ∷ [] }) (grouped options vxid rec state) w.few (grouped_within options vxid rec state w.stands);
  };
}

pub steps_within : (options : GroupOptions) (vxid : ℕ) (records : List Record) (state : State) → Standing state → length state.pending ≤ options.limit → length (steps options vxid records state).state.pending ≤ options.limit
steps_within options vxid records state s few = (steps_hold options (WithinOn options.limit) (within_over options) vxid records state (record { stands = s; few = few })).few

-- whatever was taken, no more than the limit are pending after each item
pub taken_within : (options : GroupOptions) (taken : List Taken) → length (taken_steps options taken no_state).state.pending ≤ options.limit
taken_within options taken = (items_hold options (WithinOn options.limit) (within_over options) taken no_state (record { stands = taken_stand options []; few = omega arith })).few

-- after an overrun none is pending, and what left up to there is what a flush there leaves
pub overrun_empties : (options : GroupOptions) (taken : List Taken) → length (taken_steps options (taken ++ Missed ∷ []) no_state).state.pending ≡ 0
overrun_empties options taken =
    ap (λ (s : State). length s.pending) (steps_append options taken (Missed ∷ []) no_state).0 ∙ flush_empties (taken_steps options taken no_state).state (taken_stand options taken)

pub overrun_leaves : (options : GroupOptions) (taken : List Taken) → left_of options (taken ++ Missed ∷ []) false ≡ left_of options taken true
overrun_leaves options taken =
    let run : Leaving = taken_steps options taken no_state in
    (steps_append options taken (Missed ∷ []) no_state).1 ∙ ap (λ (gs : List Group). run.groups ++ gs) (append-nil (flush run.state).groups)
