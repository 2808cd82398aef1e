-- The groups of a regular and calm log are its partition: after each record what is pending is what is named of
-- classes with an End to come, and a class leaves at its last End.
use Rattle.std.proofs.Common.{◌≡◌, ◌≤◌, ℕ, zero, suc, Bool, true, false, not, eqb, cond, ◌&&◌, Option, Some, None, List, [], ◌∷◌, ◌++◌, length, map, refl, ap, sym, ◌∙◌, append-nil, append_assoc, arith}
use Rattle.std.specs.Prelude.{count_by}
use Rattle.std.specs.List.{filter}
use Rattle.std.proofs.lemmas.Bool.{eq-eqb, le-ltb, and_left, and_right, or_left, or_right}
use Rattle.std.proofs.lemmas.List.{length-map}
use Rattle.std.proofs.lemmas.List.Sums.{length-filter, sum_by-cons}
use Rattle.vsl_tags.specs.Tags.{end_tag}
use Rattle.vsl_record.specs.declared.record_type.Record.{Record}
use Rattle.vsl_record.specs.Unit.{LogUnit, Log}
use Rattle.txn_rows.specs.declared.group.Grouping.{Grouping}
use Rattle.txn_rows.specs.declared.group.GroupOptions.{GroupOptions}
use Rattle.txn_rows.specs.declared.group.Group.{Group}
use Rattle.txn_rows.specs.declared.group.Cause.TheVariants.{Timeout}
use Rattle.txn_rows.specs.Transaction.{Transaction}
use Rattle.txn_rows.specs.Grouping.{all_taken, State, Leaving, no_state, nothing_left, then_left, is_behind, is_late, forced_often, forced_down, after_timeouts, after_overflow, unfinished, grouped, is_raw, raw_group, steps, unit_step, taken_steps, flush, reported, left_of, groups_of}
use Rattle.txn_partition.specs.LogFacts.{Entry, unit_entries, entries_of, has_end, is_in, named, log_time, time_named}
use Rattle.txn_partition.specs.Partition.{class_root, class_group, ended_roots, classes, partition, AreRegular, AreCalm, Regular, Calm, ends_later}
use Rattle.txn_partition.specs.inside.Parted.{where_known, transaction_at, open_names, state_at, class_ends}
use Rattle.txn_rows.proofs.LineLemmas.{by_cases, either}
use Rattle.txn_rows.proofs.JoinLemmas.{count_map}
use Rattle.txn_partition.proofs.NamedLemmas.{filter_none}
use Rattle.txn_partition.proofs.RegularLemmas.{end_to_come}
use Rattle.txn_partition.proofs.ClassLemmas.{part_named, in_open}
use Rattle.txn_partition.proofs.AllToldLemmas.{AtRecord, whole_behind}
use Rattle.txn_partition.proofs.ClassEndLemmas.{reported_by, after_told}

count_none : (p : ℕ → Bool) (xs : List ℕ) → ((x : ℕ) → is_in x xs ≡ true → p x ≡ false) → count_by p xs ≡ 0
count_none p [] none = refl
count_none p (x ∷ xs) none =
    omega (arith, sum_by-cons (λ (y : ℕ). cond (p y) 1 0) x xs, count_none p xs (λ y here. none y (or_right (eqb x y) (is_in y xs) here)), ap {B = ℕ} (λ (b : Bool). cond b 1 0) (none x (or_left (eqb x x) (is_in x xs) (eq-eqb x x refl))))

known_behind : (seconds : ℕ) (time now : Option ℕ) → is_behind seconds time now ≡ false → is_behind seconds (where_known now time) now ≡ false
known_behind seconds time None e = refl
known_behind seconds time (Some n) e = e

-- no transaction of a calm log is late
none_late : (options : GroupOptions) (all before rest : List Entry) → AreRegular options.grouping all → AreCalm options all → before ++ rest ≡ all →
    count_by (is_late options.timeout (log_time before)) (state_at options.grouping all before rest).pending ≡ 0
none_late options all before rest regular calm whole =
    let T : ℕ → Transaction = transaction_at options.grouping all before in
    let names : List ℕ = open_names options.grouping all before rest in
    count_map (is_late options.timeout (log_time before)) T names
    ∙ count_none (λ x. is_late options.timeout (log_time before) (T x)) names (λ x here.
    let behind : Bool = is_behind options.timeout (where_known (log_time before) (time_named options.grouping all x)) (log_time before) in
    by_cases ((not (has_end x before) && behind) ≡ false) (has_end x before)
    (λ e. and_left (not (has_end x before)) behind (ap not e))
    (λ e. let to_come = end_to_come options.grouping all regular before rest whole x (part_named options.grouping all before rest whole x (in_open options.grouping all before rest x here).0) e in
    and_right (not (has_end x before)) behind (known_behind options.timeout (time_named options.grouping all x) (log_time before) (calm.early before rest whole x to_come))))

-- so none is force-completed for its time
timeouts_none : (options : GroupOptions) (all before rest : List Entry) → AreRegular options.grouping all → AreCalm options all → before ++ rest ≡ all → (time : Option ℕ) →
    after_timeouts options.timeout time (state_at options.grouping all before rest) ≡ nothing_left (state_at options.grouping all before rest)
timeouts_none options all before rest regular calm whole time =
    let state : State = state_at options.grouping all before rest in
    either (λ r. r ≡ nothing_left state) _ (forced_often (count_by (is_late options.timeout (log_time before)) state.pending) (is_late options.timeout (log_time before)) Timeout state) (nothing_left state)
    (ap (λ (n : ℕ). forced_often n (is_late options.timeout (log_time before)) Timeout state) (none_late options all before rest regular calm whole)) refl

-- and none for the limit
down_none : (limit n : ℕ) (state : State) → length state.pending ≤ limit → forced_down limit n state ≡ nothing_left state
down_none limit zero state few = refl
down_none limit (suc n) state few = rw (le-ltb limit (length state.pending) few) refl

overflow_none : (options : GroupOptions) (all before rest : List Entry) → AreCalm options all → before ++ rest ≡ all → after_overflow options.limit (state_at options.grouping all before rest) ≡ nothing_left (state_at options.grouping all before rest)
overflow_none options all before rest calm whole =
    let state : State = state_at options.grouping all before rest in
    let is_open : ℕ → Bool = ends_later options.grouping all rest in
    down_none options.limit (unfinished state) state
    (omega (arith, length-map (filter is_open (named options.grouping before)) (transaction_at options.grouping all before), length-filter is_open (named options.grouping before), calm.few before rest whole))

-- one record of a regular and calm log
grouped_told : (options : GroupOptions) (all before : List Entry) (e : Entry) (rest : List Entry) → AtRecord options.grouping all before e rest → AreCalm options all →
    grouped options e.vxid e.rec (state_at options.grouping all before (e ∷ rest)) ≡ record { state = state_at options.grouping all (before ++ e ∷ []) rest; groups = reported_by options.grouping all e rest }
grouped_told options all before e rest a calm =
    let now : State = state_at options.grouping all (before ++ e ∷ []) rest in
    let groups : List Group = reported_by options.grouping all e rest in
    let whole = whole_behind options.grouping all before e rest a in
    ap (λ (r : Leaving). then_left (then_left r (after_timeouts options.timeout (log_time before))) (after_overflow options.limit)) (after_told options.grouping all before e rest a)
    ∙ ap (λ (r : Leaving). then_left (record { state = r.state; groups = groups ++ r.groups }) (after_overflow options.limit)) (timeouts_none options all (before ++ e ∷ []) rest a.regular calm whole (log_time before))
    ∙ ap (λ (r : Leaving). record { state = r.state; groups = (groups ++ []) ++ r.groups }) (overflow_none options all (before ++ e ∷ []) rest calm whole)
    ∙ ap (λ (gs : List Group). record { state = now; groups = gs }) (append-nil (groups ++ []) ∙ append-nil groups)

-- records one after another, each with its VXID
abbrev run : GroupOptions → List Entry → State → Leaving
run options [] state = nothing_left state
run options (e ∷ entries) state = then_left (grouped options e.vxid e.rec state) (run options entries)

run_append : (options : GroupOptions) (xs ys : List Entry) (state : State) → run options (xs ++ ys) state ≡ then_left (run options xs state) (run options ys)
run_append options [] ys state = refl
run_append options (e ∷ xs) ys state =
    let first : Leaving = grouped options e.vxid e.rec state in
    let second : Leaving = run options xs first.state in
    ap (λ (r : Leaving). record { state = r.state; groups = first.groups ++ r.groups }) (run_append options xs ys first.state)
    ∙ ap (λ (gs : List Group). record { state = (run options ys second.state).state; groups = gs }) (sym (append_assoc first.groups second.groups (run options ys second.state).groups))

abbrev entry_of : ℕ → Record → Entry
entry_of vxid rec = record { vxid = vxid; rec = rec }

-- what is taken of a log is a run of its records
run_steps : (options : GroupOptions) → is_raw options.grouping ≡ false → (vxid : ℕ) (records : List Record) (state : State) → steps options vxid records state ≡ run options (map (entry_of vxid) records) state
run_steps options trees vxid [] state = refl
run_steps options trees vxid (rec ∷ records) state =
    let first : Leaving = grouped options vxid rec state in
    ap (λ (b : Bool). then_left (cond b (record { state = state; groups = raw_group vxid rec ∷ [] }) first) (steps options vxid records)) trees
    ∙ ap (λ (r : Leaving). record { state = r.state; groups = first.groups ++ r.groups }) (run_steps options trees vxid records first.state)

run_unit : (options : GroupOptions) → is_raw options.grouping ≡ false → (u : LogUnit) (state : State) → unit_step options u state ≡ run options (unit_entries u) state
run_unit options trees u state =
    ap (λ (b : Bool). cond (not b && eqb u.vxid 0) (nothing_left state) (steps options u.vxid u.records state)) trees
    ∙ by_cases (cond (eqb u.vxid 0) (nothing_left state) (steps options u.vxid u.records state) ≡ run options (unit_entries u) state) (eqb u.vxid 0)
    (λ e. rw e refl)
    (λ e. rw e (run_steps options trees u.vxid u.records state))

run_log : (options : GroupOptions) → is_raw options.grouping ≡ false → (log : Log) (state : State) → taken_steps options (all_taken log) state ≡ run options (entries_of log) state
run_log options trees [] state = refl
run_log options trees (u ∷ log) state =
    let first : Leaving = run options (unit_entries u) state in
    ap (λ (r : Leaving). then_left r (taken_steps options (all_taken log))) (run_unit options trees u state)
    ∙ ap (λ (r : Leaving). record { state = r.state; groups = first.groups ++ r.groups }) (run_log options trees log first.state)
    ∙ sym (run_append options (unit_entries u) (entries_of log) state)

-- the rest of a regular and calm log reports the classes whose last Ends stand there
run_rest : (options : GroupOptions) (all : List Entry) → AreRegular options.grouping all → AreCalm options all → (rest before : List Entry) → before ++ rest ≡ all →
    run options rest (state_at options.grouping all before rest) ≡ record { state = state_at options.grouping all all []; groups = map (class_group options.grouping all) (ended_roots options.grouping all rest) }
run_rest options all regular calm [] before whole = ap (λ (es : List Entry). nothing_left (state_at options.grouping all es [])) (sym (append-nil before) ∙ whole)
run_rest options all regular calm (e ∷ rest) before whole =
    let a : AtRecord options.grouping all before e rest = record { regular = regular; whole = whole } in
    let group : ℕ → Group = class_group options.grouping all in
    let root : ℕ → ℕ = class_root options.grouping all in
    let last : Bool = eqb e.rec.tag end_tag && not (class_ends root (root e.vxid) rest) in
    let groups : List Group = reported_by options.grouping all e rest in
    ap (λ (r : Leaving). then_left r (run options rest)) (grouped_told options all before e rest a calm)
    ∙ ap (λ (r : Leaving). record { state = r.state; groups = groups ++ r.groups }) (run_rest options all regular calm rest (before ++ e ∷ []) (whole_behind options.grouping all before e rest a))
    ∙ ap (λ (gs : List Group). record { state = state_at options.grouping all all []; groups = gs })
    (by_cases (groups ++ map group (ended_roots options.grouping all rest) ≡ map group (ended_roots options.grouping all (e ∷ rest))) last (λ q. rw q refl) (λ q. rw q refl))

-- after all of it none is pending
none_left : (grouping : Grouping) (all : List Entry) → (state_at grouping all all []).pending ≡ []
none_left grouping all = ap (map (transaction_at grouping all all)) (filter_none (ends_later grouping all []) (named grouping all) (λ x here. refl))

-- so a flush has nothing to do, and the groups that leave are the classes
pub classes_left : (options : GroupOptions) (log : Log) → is_raw options.grouping ≡ false → Regular log options.grouping → Calm log options → (flushed : Bool) → left_of options (all_taken log) flushed ≡ classes log options.grouping
classes_left options log trees regular calm flushed =
    let all : List Entry = entries_of log in
    let end : State = state_at options.grouping all all [] in
    let groups : List Group = classes log options.grouping in
    let ran : taken_steps options (all_taken log) no_state ≡ record { state = end; groups = groups } = run_log options trees log no_state ∙ run_rest options all regular calm all [] refl in
    let nothing : (flush end).groups ≡ [] = ap (λ (ts : List Transaction). (flush (record { pending = ts; begun = end.begun; time = end.time })).groups) (none_left options.grouping all) in
    ap (λ (r : Leaving). cond flushed (r.groups ++ (flush r.state).groups) r.groups) ran
    ∙ by_cases (cond flushed (groups ++ (flush end).groups) groups ≡ groups) flushed
    (λ e. ap (λ (b : Bool). cond b (groups ++ (flush end).groups) groups) e ∙ ap (λ (gs : List Group). groups ++ gs) nothing ∙ append-nil groups)
    (λ e. ap (λ (b : Bool). cond b (groups ++ (flush end).groups) groups) e)

-- and those that are reported are the partition
pub groups_parted : (options : GroupOptions) (log : Log) → is_raw options.grouping ≡ false → Regular log options.grouping → Calm log options → (flushed : Bool) → groups_of options (all_taken log) flushed ≡ partition log options.grouping
groups_parted options log trees regular calm flushed = ap (reported options.grouping) (classes_left options log trees regular calm flushed)
