-- Records that are a whole transaction: their steps are one group, and the log time behind them.
use Rattle.std.proofs.Common.{◌≡◌, ◌+◌, ◌<◌, ◌≤◌, ◌-◌, ℕ, Bool, true, false, not, cond, eqb, eqb-true, suc, Option, Some, None, List, [], ◌∷◌, ◌++◌, length, take, take_all, drop, map, get_or, get_or-drop, refl, ap, sym, ◌∙◌, subst, arith}
use Rattle.std.specs.Prelude.{IfSome, IfNone}
use Rattle.std.specs.Option.{is_some}
use Rattle.std.specs.List.{list_all, list_any}
use Rattle.std.proofs.lemmas.Bool.{both_ways, eq-eqb, ne_eqb, or_parts}
use Rattle.std.proofs.lemmas.List.{append-nil, map-append, length-drop, length-map, length_push, take_more}
use Rattle.std.proofs.lemmas.List.Elements.{filter-append}
use Rattle.vsl_tags.specs.Tags.{begin_tag, link_tag, timestamp_tag, end_tag}
use Rattle.vsl_record.specs.declared.record_type.Record.{Record}
use Rattle.vsl_record.specs.Unit.{LogUnit}
use Rattle.txn_rows.specs.declared.rows.Row.{Row}
use Rattle.txn_rows.specs.declared.claim.Claim.{Claim}
use Rattle.txn_rows.specs.declared.group.Group.{Group}
use Rattle.txn_rows.specs.declared.group.Grouping.{Grouping}
use Rattle.txn_rows.specs.declared.group.Grouping.TheVariants.{Vxid}
use Rattle.txn_rows.specs.declared.group.GroupOptions.{GroupOptions}
use Rattle.txn_rows.specs.Claim.{claim_of}
use Rattle.txn_rows.specs.Time.{time_of}
use Rattle.txn_rows.specs.Times.{RiseTo, IsTimed}
use Rattle.txn_rows.specs.Transaction.{Transaction, empty_transaction, is_pending, is_open, newest, with_newest, with_record, with_kind, claimed_kind, longer, longer_by, ended}
use Rattle.txn_rows.specs.Links.{root_of, tree_of}
use Rattle.txn_rows.specs.Grouping.{State, Leaving, nothing_left, then_left, with_new, with_parent_named, with_child_named, with_claim, with_time, with_log_time, with_all_told, has_risen, is_late, is_raw, raw_group, left_by, ended_one, after_end, after_timeouts, after_overflow, unfinished, grouped, step, steps, reported}
use Rattle.txn_rows.specs.Trees.{transaction_of, row_of, AreTrees}
use Rattle.txn_rows.specs.States.{state_with}
use Rattle.txn_rows.specs.Store.{Went, WentBy, IsOrdered}
use Rattle.txn_rows.specs.Whole.{kind_claimed, reason_claimed, whole_transaction, with_whole, whole_group}
use Rattle.txn_rows.specs.inside.Rows.{Each, rows_below, rows_beside, rows_in_preorder, member_of_row, left_rows, with_one}
use Rattle.txn_rows.specs.inside.Quiet.{latest, IsQuiet, AreQuiet, IsRun}
use Rattle.txn_rows.specs.inside.Whole.{inside_of, HasEnds, IsWhole}
use Rattle.txn_rows.proofs.LineLemmas.{by_cases}
use Rattle.txn_rows.proofs.ChangeLemmas.{newest_in, open_in, changed_in, newest_same}
use Rattle.txn_rows.proofs.LimitLemmas.{left_length}
use Rattle.txn_rows.proofs.ForceAllLemmas.{down_within}
use Rattle.txn_rows.proofs.TreeLemmas.{each_found, each_in, each_weaker}
use Rattle.txn_rows.proofs.StandLemmas.{left_is, root_under, trees_push}
use Rattle.txn_rows.proofs.PendingLemmas.{one_told, open_none}
use Rattle.txn_rows.proofs.PlainLemmas.{risen_same, steps_both, one_step}
use Rattle.txn_rows.proofs.QuietLemmas.{NoneLate, stays, none_forced, quiet_steps, quiet_more, run_none, from_latest, IsFrom, time_goes}
use Rattle.txn_rows.proofs.TimeLemmas.{new_timed, ended_timed}

-- ---- the transaction

-- what a Begin claims is its kind
claim_is : (c : Option Claim) (serial vxid : ℕ) (time : Option ℕ) (rec : Record) → claimed_kind c (longer rec (empty_transaction serial vxid time)) ≡ record {
  serial = serial;
  vxid = vxid;
  kind = kind_claimed c;
  reason = reason_claimed c;
  records = rec ∷ [];
  parent = None;
  ended = false;
  time = time;
}
claim_is None serial vxid time rec = refl
claim_is (Some claim) serial vxid time rec = refl

-- a Begin begins it
first_is : (serial vxid : ℕ) (time : Option ℕ) (rec : Record) → eqb rec.tag begin_tag ≡ true → with_one rec (empty_transaction serial vxid time) ≡ whole_transaction serial vxid time (rec ∷ [])
first_is serial vxid time rec begins =
    ap (λ (b : Bool). claimed_kind (cond b (claim_of rec.payload) None) (longer rec (empty_transaction serial vxid time))) begins
    ∙ claim_is (claim_of rec.payload) serial vxid time rec

-- a state with a transaction behind all others
abbrev behind : Transaction → State → State
behind t state = record state { pending = state.pending ++ t ∷ []; begun = state.begun + 1 }

-- it is changed
changed_behind : (vxid : ℕ) (change : Transaction → Transaction) (t : Transaction) (pending : List Transaction) → t.vxid ≡ vxid → with_newest vxid change (pending ++ t ∷ []) ≡ pending ++ change t ∷ []
changed_behind vxid change t pending same = changed_in vxid change pending t [] (eq-eqb t.vxid vxid same) refl

open_behind : (vxid : ℕ) (t : Transaction) (pending : List Transaction) → t.vxid ≡ vxid → t.ended ≡ false → is_open vxid (pending ++ t ∷ []) ≡ true
open_behind vxid t pending same unended = open_in vxid pending t [] (eq-eqb t.vxid vxid same) refl ∙ ap not unended

-- ---- its Begin

-- where each transaction is a group by itself, no claim has an effect
no_parent : (vxid : ℕ) (claim : Option Claim) (state : State) → with_parent_named Vxid vxid claim state ≡ state
no_parent vxid None state = refl
no_parent vxid (Some claim) state = refl

-- the state behind a Begin
begin_told : (vxid : ℕ) (rec : Record) (state : State) → eqb rec.tag begin_tag ≡ true → is_pending vxid state.pending ≡ false → with_all_told Vxid vxid rec state ≡ with_whole vxid (rec ∷ []) state
begin_told vxid rec state begins none =
    let e : Transaction = empty_transaction state.begun vxid state.time in
    let now : State = with_whole vxid (rec ∷ []) state in
    let tag_is : rec.tag ≡ begin_tag = eqb-true rec.tag begin_tag begins in
    let rest : State → State = λ s. with_log_time rec (with_claim Vxid vxid rec s) in
    let told : State → State = λ s. record s { pending = with_kind vxid rec (with_record vxid rec s.pending) } in
    ap (λ (b : Bool). rest (told (cond b state (with_new vxid state)))) (open_none vxid state.pending none)
    ∙ ap (λ (ts : List Transaction). rest (record (with_new vxid state) { pending = ts })) (one_told vxid rec (state.pending ++ e ∷ []) ∙ changed_behind vxid (with_one rec) e state.pending refl)
    ∙ ap (λ (t : Transaction). rest (behind t state)) (first_is state.begun vxid state.time rec begins)
    ∙ ap (λ (n : ℕ). with_log_time rec (cond (eqb n begin_tag) (with_parent_named Vxid vxid (claim_of rec.payload) now) (cond (eqb n link_tag) (with_child_named Vxid vxid (claim_of rec.payload) now) now))) tag_is
    ∙ ap (with_log_time rec) (no_parent vxid (claim_of rec.payload) now)
    ∙ ap (λ (n : ℕ). cond (eqb n timestamp_tag) (with_time (time_of rec.payload) now) now) tag_is

-- no time is told, and none is late
none_risen : (seconds : ℕ) (state now : State) → now.time ≡ state.time → after_timeouts seconds state.time now ≡ nothing_left now
none_risen seconds state now same = none_forced seconds state.time now (λ risen. absurd (both_ways (has_risen state.time state.time) (risen_same state.time) (ap (has_risen state.time) (sym same) ∙ risen)))

begin_step : (options : GroupOptions) (vxid : ℕ) (rec : Record) (state : State) → options.grouping ≡ Vxid → eqb rec.tag begin_tag ≡ true → is_pending vxid state.pending ≡ false → length state.pending < options.limit → step options vxid rec state ≡ nothing_left (with_whole vxid (rec ∷ []) state)
begin_step options vxid rec state grouping begins none few =
    let now : State = with_whole vxid (rec ∷ []) state in
    let told : with_all_told options.grouping vxid rec state ≡ now = ap (λ (g : Grouping). with_all_told g vxid rec state) grouping ∙ begin_told vxid rec state begins none in
    let no_end : eqb rec.tag end_tag ≡ false = ap (λ (n : ℕ). eqb n end_tag) (eqb-true rec.tag begin_tag begins) in
    ap (λ (g : Grouping). cond (is_raw g) (record { state = state; groups = raw_group vxid rec ∷ [] }) (grouped options vxid rec state)) grouping
    ∙ stays options vxid rec state now told no_end (omega (arith, few, length_push state.pending (whole_transaction state.begun vxid state.time (rec ∷ [])))) (none_risen options.timeout state now refl)

-- ---- its End

end_told : (vxid : ℕ) (rec : Record) (t : Transaction) (pending : List Transaction) (state : State) → eqb rec.tag end_tag ≡ true → state.pending ≡ pending ++ t ∷ [] → t.vxid ≡ vxid → t.ended ≡ false → with_all_told Vxid vxid rec state ≡ record state { pending = pending ++ longer rec t ∷ [] }
end_told vxid rec t pending state ends is same unended =
    let tag_is : rec.tag ≡ end_tag = eqb-true rec.tag end_tag ends in
    let now : State = record state { pending = pending ++ longer rec t ∷ [] } in
    let rest : State → State = λ s. with_log_time rec (with_claim Vxid vxid rec s) in
    let told : State → State = λ s. record s { pending = with_kind vxid rec (with_record vxid rec s.pending) } in
    ap (λ (b : Bool). rest (told (cond b state (with_new vxid state)))) (ap (is_open vxid) is ∙ open_behind vxid t pending same unended)
    ∙ ap (λ (ts : List Transaction). rest (record state { pending = ts })) (one_told vxid rec state.pending ∙ ap (with_newest vxid (with_one rec)) is ∙ changed_behind vxid (with_one rec) t pending same)
    ∙ ap (λ (n : ℕ). rest (record state { pending = pending ++ claimed_kind (cond (eqb n begin_tag) (claim_of rec.payload) None) (longer rec t) ∷ [] })) tag_is
    ∙ ap (λ (n : ℕ). with_log_time rec (cond (eqb n begin_tag) (with_parent_named Vxid vxid (claim_of rec.payload) now) (cond (eqb n link_tag) (with_child_named Vxid vxid (claim_of rec.payload) now) now))) tag_is
    ∙ ap (λ (n : ℕ). cond (eqb n timestamp_tag) (with_time (time_of rec.payload) now) now) tag_is

-- what leaves changes no time, and takes none in
left_time : (o : Option Transaction) (state : State) → (left_by o state).state.time ≡ state.time
left_time None state = refl
left_time (Some t) state =
    let root : Transaction = root_of state.pending t in
    by_cases ((left_by (Some t) state).state.time ≡ state.time) (list_all (λ (u : Transaction). u.ended) (tree_of state.pending root))
    (λ e. rw e refl)
    (λ e. rw e refl)

ended_length : (vxid : ℕ) (state : State) → length (ended_one vxid state).state.pending ≤ length state.pending
ended_length vxid state =
    let vxid_of : Transaction → ℕ = λ t. t.vxid in
    let now : List Transaction = with_newest vxid ended state.pending in
    omega (arith, left_length (newest vxid now) (record state { pending = now }), length-map now vxid_of, length-map state.pending vxid_of, ap length (newest_same vxid_of vxid ended (λ t. refl) state.pending))

ended_time : (vxid : ℕ) (state : State) → (ended_one vxid state).state.time ≡ state.time
ended_time vxid state =
    let now : List Transaction = with_newest vxid ended state.pending in
    left_time (newest vxid now) (record state { pending = now })

end_step : (options : GroupOptions) (vxid : ℕ) (rec : Record) (t : Transaction) (pending : List Transaction) (state : State) → options.grouping ≡ Vxid → eqb rec.tag end_tag ≡ true → state.pending ≡ pending ++ t ∷ [] → t.vxid ≡ vxid → t.ended ≡ false → length pending < options.limit →
    step options vxid rec state ≡ ended_one vxid (record state { pending = pending ++ longer rec t ∷ [] })
end_step options vxid rec t pending state grouping ends is same unended few =
    let now : State = record state { pending = pending ++ longer rec t ∷ [] } in
    let left : Leaving = ended_one vxid now in
    let later : State → Leaving = after_timeouts options.timeout state.time in
    let over : State → Leaving = after_overflow options.limit in
    let told : with_all_told options.grouping vxid rec state ≡ now = ap (λ (g : Grouping). with_all_told g vxid rec state) grouping ∙ end_told vxid rec t pending state ends is same unended in
    ap (λ (g : Grouping). cond (is_raw g) (record { state = state; groups = raw_group vxid rec ∷ [] }) (grouped options vxid rec state)) grouping
    ∙ ap (λ (s : State). then_left (then_left (after_end vxid rec s) later) over) told
    ∙ ap (λ (b : Bool). then_left (then_left (cond b left (nothing_left now)) later) over) ends
    ∙ ap (λ (r : Leaving). then_left (record { state = r.state; groups = left.groups ++ r.groups }) over) (none_risen options.timeout state left.state (ended_time vxid now))
    ∙ ap (λ (r : Leaving). record { state = r.state; groups = (left.groups ++ []) ++ r.groups }) (down_within options.limit (unfinished left.state) left.state (omega (arith, few, ended_length vxid now, length_push pending (longer rec t))))
    ∙ ap (λ (gs : List Group). record { state = left.state; groups = gs }) (append-nil (left.groups ++ []) ∙ append-nil left.groups)

-- ---- the records

-- the state in which it ends
abbrev before_end : ℕ → List Record → Option ℕ → State → State
before_end vxid records time state = record (with_whole vxid records state) { time = time }

-- none passes among these and one more
any_push : {X : Type 0} (p : X → Bool) (xs : List X) (x : X) → list_any p xs ≡ false → p x ≡ false → list_any p (xs ++ x ∷ []) ≡ false
any_push p [] x none one = rw one refl
any_push p (y ∷ xs) x none one =
    let parts = or_parts (p y) (list_any p xs) none in
    rw parts.0 (any_push p xs x parts.1 one)

-- none is late as it begins
none_late_new : (seconds vxid : ℕ) (rec : Record) (last : Option ℕ) (state : State) → NoneLate seconds last state → NoneLate seconds last (with_whole vxid (rec ∷ []) state)
none_late_new seconds vxid rec None state late = tt
none_late_new seconds vxid rec (Some last) state late = record {
  known = late.known;
  none = λ now by. any_push (is_late seconds (Some now)) state.pending (whole_transaction state.begun vxid state.time (rec ∷ [])) (late.none now by) (late.begins now by);
  begins = late.begins;
}

-- times rise as it begins
whole_timed : (vxid : ℕ) (records : List Record) (state : State) → IsTimed state → IsTimed (with_whole vxid records state)
whole_timed vxid records state times =
    let time_of_one : Transaction → Option ℕ = λ t. t.time in
    subst (RiseTo state.time)
    (map-append time_of_one state.pending (empty_transaction state.begun vxid state.time ∷ []) ∙ sym (map-append time_of_one state.pending (whole_transaction state.begun vxid state.time records ∷ [])))
    (new_timed vxid state times)

-- the records behind a Begin that disturb nothing
inside_steps : (options : GroupOptions) (vxid : ℕ) (first : Record) (inside : List Record) (time : Option ℕ) (state : State) → options.grouping ≡ Vxid → length state.pending < options.limit → IsTimed state → IsRun options state time inside →
    steps options vxid inside (with_whole vxid (first ∷ []) state) ≡ nothing_left (before_end vxid (first ∷ inside) time state)
inside_steps options vxid first inside time state grouping few times run =
    let now : State = with_whole vxid (first ∷ []) state in
    let w : Transaction = whole_transaction state.begun vxid state.time (first ∷ []) in
    quiet_steps options vxid inside run.last now (ap is_raw grouping) run.are.quiet (open_behind vxid w state.pending refl refl) (omega (arith, few, length_push state.pending w)) (whole_timed vxid (first ∷ []) state times) (none_late_new options.timeout vxid first run.last state run.none_late)
    ∙ ap (λ (ts : List Transaction). nothing_left (record now { pending = ts; time = latest inside state.time })) (changed_behind vxid (longer_by inside) w state.pending refl)
    ∙ ap (λ (o : Option ℕ). nothing_left (before_end vxid (first ∷ inside) o state)) (sym run.are.told)

-- all of them
pub whole_steps : (options : GroupOptions) (u : LogUnit) (time : Option ℕ) (state : State) → IsTimed state → IsWhole options state time u → steps options u.vxid u.records state ≡ ended_one u.vxid (before_end u.vxid u.records time state)
whole_steps options u time state times is =
    let vxid : ℕ = u.vxid in
    let records : List Record = u.records in
    let first : Record = is.has_ends.first in
    let last : Record = is.has_ends.last in
    let inside : List Record = inside_of records in
    let w : Transaction = whole_transaction state.begun vxid state.time (first ∷ inside) in
    let mid : State = before_end vxid (first ∷ inside) time state in
    ap (λ (rs : List Record). steps options vxid rs state) is.has_ends.whole
    ∙ ap (λ (r : Leaving). then_left r (steps options vxid (inside ++ last ∷ []))) (begin_step options vxid first state is.grouping is.has_ends.begins is.none is.few)
    ∙ steps_both options vxid inside (last ∷ []) (with_whole vxid (first ∷ []) state)
    ∙ ap (λ (r : Leaving). then_left r (steps options vxid (last ∷ []))) (inside_steps options vxid first inside time state is.grouping is.few times is.run)
    ∙ one_step options vxid last mid
    ∙ end_step options vxid last w state.pending mid is.grouping is.has_ends.ends refl refl refl is.few
    ∙ ap (λ (rs : List Record). ended_one vxid (before_end vxid rs time state)) (sym is.has_ends.whole)

-- ---- what a store does

-- what leaves says nothing of the time
left_at : (o : Option Transaction) (time : Option ℕ) (state : State) → left_by o (record state { time = time }) ≡ record { state = record (left_by o state).state { time = time }; groups = (left_by o state).groups }
left_at None time state = refl
left_at (Some t) time state =
    let root : Transaction = root_of state.pending t in
    by_cases (left_by (Some t) (record state { time = time }) ≡ record { state = record (left_by (Some t) state).state { time = time }; groups = (left_by (Some t) state).groups }) (list_all (λ (u : Transaction). u.ended) (tree_of state.pending root))
    (λ e. rw e refl)
    (λ e. rw e refl)

ended_at : (vxid : ℕ) (time : Option ℕ) (state : State) → ended_one vxid (record state { time = time }) ≡ record { state = record (ended_one vxid state).state { time = time }; groups = (ended_one vxid state).groups }
ended_at vxid time state =
    let now : List Transaction = with_newest vxid ended state.pending in
    left_at (newest vxid now) time (record state { pending = now })

-- what a store names: what is so of it while no call failed, the state that it keeps, and what it hands out for a group
module _ {S L : Type 0} (holds : S → Type 0) (state_of : S → State) (hand : Group → L) where
  -- a store takes a whole transaction in two calls: it hands out the group, and raises the log time
  pub whole_went : (options : GroupOptions) (u : LogUnit) (time : Option ℕ) (store mid now : S) (out out_now : List L) → IsOrdered holds state_of store → IsWhole options (state_of store) time u → WentBy holds state_of hand Vxid (ended_one u.vxid (with_whole u.vxid u.records (state_of store))) mid out out_now →
      (IsTimed (state_of mid) → Went holds state_of (with_time time (state_of mid)) now) → WentBy holds state_of hand options.grouping (steps options u.vxid u.records (state_of store)) now out out_now
  whole_went options u time store mid now out out_now ordered is handed raises =
      let vxid : ℕ = u.vxid in
      let records : List Record = u.records in
      let state : State = state_of store in
      let left : Leaving = ended_one vxid (with_whole vxid records state) in
      let times : IsTimed left.state = ended_timed vxid (with_whole vxid records state) (whole_timed vxid records state ordered.times) in
      let went = raises (subst IsTimed (sym handed.state) times) in
      let time_is : left.state.time ≡ state.time = ended_time vxid (with_whole vxid records state) in
      let from : IsFrom left.state.time time = subst (λ (o : Option ℕ). IsFrom o time) (sym time_is) (subst (IsFrom state.time) (sym is.run.are.told) (from_latest (inside_of records) state.time)) in
      let none : left.state.time ≡ None → time ≡ None = λ e. run_none options state time is.run.last (inside_of records) is.run.none_late is.run.are (sym time_is ∙ e) in
      let goes : with_time time left.state ≡ record left.state { time = time } = time_goes time left.state.time left.state.begun left.state.pending from times none in
      let all : steps options vxid records state ≡ record { state = record left.state { time = time }; groups = left.groups } = whole_steps options u time state ordered.times is ∙ ended_at vxid time (with_whole vxid records state) in
      record {
        kept = went.kept;
        state = went.told ∙ ap (with_time time) handed.state ∙ goes ∙ sym (ap (λ (r : Leaving). r.state) all);
        groups =
            handed.groups
            ∙ ap (λ (gs : List Group). out ++ map hand (reported Vxid gs)) (sym (ap (λ (r : Leaving). r.groups) all))
            ∙ ap (λ (g : Grouping). out ++ map hand (reported g (steps options vxid records state).groups)) (sym is.grouping);
      }

-- ---- how it is found

-- records up to the last
up_to_last : (records : List Record) (rec : Record) → 0 < length records → records ≡ take (length records - 1) records ++ get_or records (length records - 1) rec ∷ []
up_to_last records rec some = sym (take_all (length records - 1 + 1) records (omega (arith, some))) ∙ take_more records (length records - 1) rec (omega (arith, some))

-- a Begin before all, and an End behind all
pub ends_found : (records : List Record) (tag last : ℕ) → 2 ≤ length records → ((rec : Record) → tag ≡ (get_or records 0 rec).tag) → ((rec : Record) → last ≡ (get_or records (length records - 1) rec).tag) → eqb tag begin_tag ≡ true → eqb last end_tag ≡ true → HasEnds records
ends_found [] tag last two front back begins ends = absurd (omega (arith, two))
ends_found (r ∷ []) tag last two front back begins ends = absurd (omega (arith, two))
ends_found (r ∷ s ∷ records) tag last two front back begins ends =
    let all : List Record = r ∷ s ∷ records in
    let rest : List Record = s ∷ records in
    let n : ℕ = length rest - 1 in
    let end : Record = get_or rest n r in
    let as_many : n ≡ length all - 2 = omega arith in
    let next : length all - 1 ≡ suc n = omega arith in
    let last_is : last ≡ end.tag = back r ∙ ap (λ (k : ℕ). (get_or all k r).tag) next in
    record {
      first = r;
      last = end;
      whole = ap (λ (rs : List Record). r ∷ rs) (up_to_last rest r (omega arith)) ∙ ap (λ (k : ℕ). r ∷ take k rest ++ end ∷ []) as_many;
      begins = ap (λ (k : ℕ). eqb k begin_tag) (sym (front r)) ∙ begins;
      ends = ap (λ (k : ℕ). eqb k end_tag) (sym last_is) ∙ ends;
    }

-- one more between the ends disturbs nothing
pub inside_more : (grouping : Grouping) (last before time now : Option ℕ) (records : List Record) (i : ℕ) → 1 ≤ i → i < length records → AreQuiet grouping last before time (take (i - 1) (drop 1 records)) → ((rec : Record) → IsQuiet grouping last time now (get_or records i rec)) → AreQuiet grouping last before now (take i (drop 1 records))
inside_more grouping last before time now records i some within are one =
    let rest : List Record = drop 1 records in
    let next : i - 1 + 1 ≡ i = omega (arith, some) in
    let place : 1 + (i - 1) ≡ i = omega (arith, some) in
    let there : (rec : Record) → get_or rest (i - 1) rec ≡ get_or records i rec = λ rec. get_or-drop 1 records (i - 1) rec ∙ ap (λ (n : ℕ). get_or records n rec) place in
    subst (λ (n : ℕ). AreQuiet grouping last before now (take n rest)) next
    (quiet_more grouping last before time now rest (i - 1) (omega (arith, some, within, length-drop 1 records)) are
    (λ rec. subst (IsQuiet grouping last time now) (sym (there rec)) (one rec)))

-- where there is none, this is so
pub of_none : {P : Type 0} (o : Option ℕ) → is_some o ≡ false → IfNone o P → P
of_none None none is = is
of_none (Some n) none is = absurd (cc)

pub whole_found : (options : GroupOptions) (state : State) (u : LogUnit) (o : Option (Option ℕ)) → options.grouping ≡ Vxid → is_pending u.vxid state.pending ≡ false → length state.pending < options.limit → HasEnds u.records → IfSome o (λ time. IsRun options state time (inside_of u.records)) → IfSome o (λ time. IsWhole options state time u)
whole_found options state u None grouping none few ends run = tt
whole_found options state u (Some time) grouping none few ends run = record { grouping = grouping; none = none; few = few; has_ends = ends; run = run }

-- ---- what it leaves

-- rows of other trees
none_below : (root : ℕ) (rows : List Row) → Each (λ row. eqb row.root root ≡ false) rows → rows_below root rows ≡ []
none_below root [] e = refl
none_below root (row ∷ rows) e = rw e.0 (none_below root rows e.1)

all_beside : (root : ℕ) (rows : List Row) → Each (λ row. eqb row.root root ≡ false) rows → rows_beside root rows ≡ rows
all_beside root [] e = refl
all_beside root (row ∷ rows) e = rw e.0 (ap (λ (rs : List Row). row ∷ rs) (all_beside root rows e.1))

-- no tree has the serial number that is next
none_next : (begun : ℕ) (rows : List Row) → AreTrees begun rows → Each (λ row. eqb row.root begun ≡ false) rows
none_next begun rows trees =
    each_weaker (λ row. row_of row.serial rows ≡ Some row) (λ row. eqb row.root begun ≡ false)
    (λ row found. ne_eqb row.root begun (λ e. omega (arith, e, root_under begun row.serial rows row trees found)))
    rows (each_found 0 begun rows trees.rising)

-- what leaves, and what stays
left_rows_are : (count : ℕ) (time : Option ℕ) (root : ℕ) (rows : List Row) → record { state = state_with count time (left_rows root rows).rows; groups = (left_rows root rows).groups } ≡ cond (list_all (λ (r : Row). r.ended) (rows_below root rows)) (record { state = state_with count time (rows_beside root rows); groups = record { members = map member_of_row (rows_in_preorder (rows_below root rows)) } ∷ [] }) (nothing_left (state_with count time rows))
left_rows_are count time root rows =
    by_cases (record { state = state_with count time (left_rows root rows).rows; groups = (left_rows root rows).groups } ≡ cond (list_all (λ (r : Row). r.ended) (rows_below root rows)) (record { state = state_with count time (rows_beside root rows); groups = record { members = map member_of_row (rows_in_preorder (rows_below root rows)) } ∷ [] }) (nothing_left (state_with count time rows))) (list_all (λ (r : Row). r.ended) (rows_below root rows))
    (λ e. rw e refl)
    (λ e. rw e refl)

-- a transaction that has ended, as a row
abbrev ended_row : Transaction → Row
ended_row t = record { serial = t.serial; vxid = t.vxid; kind = t.kind; reason = t.reason; records = t.records; parent = None; children = 0; ended = true; time = t.time; root = t.serial; path = [] }

-- one that begins and ends leaves as a group by itself, and all others stay
pub whole_left : (begun vxid : ℕ) (time : Option ℕ) (records : List Record) (rows : List Row) → AreTrees begun rows → ended_one vxid (with_whole vxid records (state_with begun time rows)) ≡ record { state = state_with (begun + 1) time rows; groups = whole_group vxid records ∷ [] }
whole_left begun vxid time records rows trees =
    let w : Transaction = whole_transaction begun vxid time records in
    let row : Row = ended_row w in
    let all : List Row = rows ++ row ∷ [] in
    let pending : List Transaction = map transaction_of rows in
    let state : List Transaction → State = λ ts. record { pending = ts; begun = begun + 1; time = time } in
    let stand : AreTrees (begun + 1) all = trees_push begun rows row trees refl (record { none = refl; root = refl; path = refl }) refl in
    let here : row_of begun all ≡ Some row = each_in (λ r. row_of r.serial all ≡ Some r) rows row [] (each_found 0 (begun + 1) all stand.rising) in
    let same : eqb begun begun ≡ true = eq-eqb begun begun refl in
    let others_are = none_next begun rows trees in
    let below : rows_below begun all ≡ row ∷ [] = filter-append (λ (r : Row). eqb r.root begun) rows (row ∷ []) ∙ ap (λ (rs : List Row). rs ++ rows_below begun (row ∷ [])) (none_below begun rows others_are) ∙ ap (λ (b : Bool). cond b (row ∷ []) []) same in
    let beside : rows_beside begun all ≡ rows = filter-append (λ (r : Row). not (eqb r.root begun)) rows (row ∷ []) ∙ ap (λ (rs : List Row). rs ++ rows_beside begun (row ∷ [])) (all_beside begun rows others_are) ∙ ap (λ (b : Bool). rows ++ cond (not b) (row ∷ []) []) same ∙ append-nil rows in
    let told : pending ++ ended w ∷ [] ≡ map transaction_of all = sym (map-append transaction_of rows (row ∷ [])) in
    let left : List Row → List Row → Leaving = λ tree rest. cond (list_all (λ (r : Row). r.ended) tree) (record { state = state_with (begun + 1) time rest; groups = record { members = map member_of_row (rows_in_preorder tree) } ∷ [] }) (nothing_left (state_with (begun + 1) time all)) in
    ap (λ (ts : List Transaction). left_by (newest vxid ts) (state ts)) (changed_behind vxid ended w pending refl)
    ∙ ap (λ (o : Option Transaction). left_by o (state (pending ++ ended w ∷ []))) (newest_in vxid pending (ended w) [] (eq-eqb vxid vxid refl) refl)
    ∙ ap (λ (ts : List Transaction). left_by (Some (ended w)) (state ts)) told
    ∙ left_is (begun + 1) (begun + 1) begun time all row stand here
    ∙ left_rows_are (begun + 1) time begun all
    ∙ ap (λ (rs : List Row). left rs (rows_beside begun all)) below
    ∙ ap (left (row ∷ [])) beside
