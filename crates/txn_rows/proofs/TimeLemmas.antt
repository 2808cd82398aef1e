-- The times of pending transactions rise in the order in which they began, whatever is taken.
use Rattle.std.proofs.Common.{◌≡◌, ◌≤◌, ℕ, Bool, true, not, eqb, ltb, Option, Some, None, List, [], ◌∷◌, ◌++◌, map, refl, ap, sym, ◌∙◌, subst, arith}
use Rattle.std.specs.List.{list_all, filter}
use Rattle.std.specs.Option.{option_map, is_some}
use Rattle.std.proofs.lemmas.Bool.{cond_both, ltb-true}
use Rattle.std.proofs.lemmas.List.{map-append}
use Rattle.vsl_tags.specs.Tags.{begin_tag, end_tag}
use Rattle.vsl_record.specs.declared.record_type.Record.{Record}
use Rattle.vsl_record.specs.Unit.{LogUnit}
use Rattle.txn_rows.specs.declared.group.Grouping.{Grouping}
use Rattle.txn_rows.specs.declared.group.GroupOptions.{GroupOptions}
use Rattle.txn_rows.specs.declared.group.Group.{Group}
use Rattle.txn_rows.specs.declared.group.Cause.{Cause}
use Rattle.txn_rows.specs.Claim.{claim_of}
use Rattle.txn_rows.specs.Transaction.{Transaction, empty_transaction, newest, with_newest, with_record, with_kind, oldest, with_oldest, claimed_kind, ended, forced}
use Rattle.txn_rows.specs.Links.{with_parent, can_join, children, root_of, tree_of, others, group_of}
use Rattle.txn_rows.specs.Grouping.{State, Leaving, nothing_left, first_known, timed, raised, with_new, with_transaction, with_all_told, left_by, ended_one, forced_one, after_end, after_timeouts, TakenUnit, step, steps, unit_step, flush}
use Rattle.txn_rows.specs.Store.{Went, WentBy, IsOrdered, test_of}
use Rattle.txn_rows.specs.Times.{TimesRise, NoneKnown, RiseTo, times_of, IsTimed}
use Rattle.txn_rows.proofs.LineLemmas.{either}
use Rattle.txn_rows.proofs.ChangeLemmas.{newest_same, oldest_same}
use Rattle.txn_rows.proofs.KeepLemmas.{claimed_same, Keeps, begun_kept, told_kept, HoldsOn, HoldsOver, holds_over, timeouts_hold, flush_holds, steps_hold, item_holds}

-- from an earlier time on
rise_from : (low lower high : ℕ) (times : List (Option ℕ)) → lower ≤ low → TimesRise low high times → TimesRise lower high times
rise_from low lower high [] le r = omega (arith, le, r)
rise_from low lower high (told ∷ times) le r = (r.0, r.1, omega (arith, le, r.2), r.3)

-- up to a later time
rise_up : (low high higher : ℕ) (times : List (Option ℕ)) → high ≤ higher → TimesRise low high times → TimesRise low higher times
rise_up low high higher [] le r = omega (arith, le, r)
rise_up low high higher (told ∷ times) le r = (r.0, r.1, r.2, rise_up r.0 high higher times le r.3)

-- one that begins has the log time
rise_push : (low high : ℕ) (times : List (Option ℕ)) → TimesRise low high times → TimesRise low high (times ++ Some high ∷ [])
rise_push low high [] r = (high, refl, r, omega arith)
rise_push low high (told ∷ times) r = (r.0, r.1, r.2, rise_push r.0 high times r.3)

none_push : (times : List (Option ℕ)) → NoneKnown times → NoneKnown (times ++ None ∷ [])
none_push [] n = (refl, tt)
none_push (told ∷ times) n = (n.0, none_push times n.1)

times_push : (now : Option ℕ) (times : List (Option ℕ)) → RiseTo now times → RiseTo now (times ++ now ∷ [])
times_push None times h = none_push times h
times_push (Some now) times h = rise_push 0 now times h

-- some are kept
rise_filter : (keep : Transaction → Bool) (low high : ℕ) (pending : List Transaction) → TimesRise low high (times_of pending) → TimesRise low high (times_of (filter keep pending))
rise_filter keep low high [] r = r
rise_filter keep low high (t ∷ pending) r =
    let later = rise_filter keep r.0 high pending r.3 in
    either (λ ts. TimesRise low high (times_of ts)) (keep t) (t ∷ filter keep pending) (filter keep pending) (r.0, r.1, r.2, later) (rise_from r.0 low high (times_of (filter keep pending)) r.2 later)

none_filter : (keep : Transaction → Bool) (pending : List Transaction) → NoneKnown (times_of pending) → NoneKnown (times_of (filter keep pending))
none_filter keep [] n = n
none_filter keep (t ∷ pending) n =
    let later = none_filter keep pending n.1 in
    either (λ ts. NoneKnown (times_of ts)) (keep t) (t ∷ filter keep pending) (filter keep pending) (n.0, later) later

times_filter : (keep : Transaction → Bool) (now : Option ℕ) (pending : List Transaction) → RiseTo now (times_of pending) → RiseTo now (times_of (filter keep pending))
times_filter keep None pending h = none_filter keep pending h
times_filter keep (Some now) pending h = rise_filter keep 0 now pending h

-- where each has a time, none takes one
known_stay : (now : Option ℕ) (low high : ℕ) (pending : List Transaction) → TimesRise low high (times_of pending) → map (timed now) pending ≡ pending
known_stay now low high [] r = refl
known_stay now low high (t ∷ pending) r =
    ap (λ (o : Option ℕ). record t { time = o } ∷ map (timed now) pending) (ap (λ (o : Option ℕ). first_known o now) r.1 ∙ sym r.1)
    ∙ ap (λ (ts : List Transaction). t ∷ ts) (known_stay now r.0 high pending r.3)

-- where none has a time, each takes the first that is known
first_taken : (low now : ℕ) (pending : List Transaction) → low ≤ now → NoneKnown (times_of pending) → TimesRise low now (times_of (map (timed (Some now)) pending))
first_taken low now [] le n = le
first_taken low now (t ∷ pending) le n = (now, ap (λ (o : Option ℕ). first_known o (Some now)) n.0, le, first_taken now now pending (omega arith) n.1)

none_taken : (pending : List Transaction) → NoneKnown (times_of pending) → NoneKnown (times_of (map (timed None) pending))
none_taken [] n = n
none_taken (t ∷ pending) n = (ap (λ (o : Option ℕ). first_known o None) n.0, none_taken pending n.1)

-- a later log time, or the same
later_taken : (old now : ℕ) (pending : List Transaction) → old ≤ now → TimesRise 0 old (times_of pending) → TimesRise 0 now (times_of (map (timed (Some now)) pending))
later_taken old now pending le r = subst (λ (ts : List Transaction). TimesRise 0 now (times_of ts)) (sym (known_stay (Some now) 0 old pending r)) (rise_up 0 old now (times_of pending) le r)

times_raised : (told old : Option ℕ) (pending : List Transaction) → RiseTo old (times_of pending) → RiseTo (raised told old) (times_of (map (timed (raised told old)) pending))
times_raised None None pending h = none_taken pending h
times_raised None (Some old) pending h = later_taken old old pending (omega arith) h
times_raised (Some time) None pending h = first_taken 0 time pending (omega arith) h
times_raised (Some time) (Some old) pending h =
    cond_both (ltb old time) (Some time) (Some old) (λ now. RiseTo now (times_of (map (timed now) pending)))
    (λ e. later_taken old time pending (omega (arith, ltb-true old time e)) h)
    (λ e. later_taken old old pending (omega arith) h)

-- changes of one that keep its time
pub newest_timed : (vxid : ℕ) (change : Transaction → Transaction) → ((t : Transaction) → (change t).time ≡ t.time) → (state : State) → IsTimed state → IsTimed (record state { pending = with_newest vxid change state.pending })
newest_timed vxid change keeps state h = subst (RiseTo state.time) (sym (newest_same (λ t. t.time) vxid change keeps state.pending)) h

oldest_timed : (test : Transaction → Bool) (change : Transaction → Transaction) → ((t : Transaction) → (change t).time ≡ t.time) → (state : State) → IsTimed state → IsTimed (record state { pending = with_oldest test change state.pending })
oldest_timed test change keeps state h = subst (RiseTo state.time) (sym (oldest_same (λ t. t.time) test change keeps state.pending)) h

parent_timed : (c p : Option Transaction) (state : State) → IsTimed state → IsTimed (record state { pending = with_parent c p state.pending })
parent_timed None p state h = h
parent_timed (Some c) None state h = h
parent_timed (Some c) (Some p) state h =
    let change : Transaction → Transaction = λ t. record t { parent = Some (record { serial = p.serial; vxid = p.vxid; number = children state.pending p }) } in
    either (λ ts. RiseTo state.time (times_of ts)) (can_join state.pending c p) (with_newest c.vxid change state.pending) state.pending (newest_timed c.vxid change (λ t. refl) state h) h

timed_keeps : Keeps IsTimed
timed_keeps = record {
  new = λ vxid state h. subst (RiseTo state.time) (sym (map-append (λ (t : Transaction). t.time) state.pending (empty_transaction state.begun vxid state.time ∷ []))) (times_push state.time (times_of state.pending) h);
  kind = λ vxid claim state h. newest_timed vxid (claimed_kind claim) (claimed_same (λ t. t.time) (λ t c. refl) claim) state h;
  link = λ child parent state h. parent_timed (newest child state.pending) (newest parent state.pending) state h;
  time = λ told state h. times_raised told state.time state.pending h;
}

-- one that begins
pub new_timed : (vxid : ℕ) (state : State) → IsTimed state → IsTimed (with_new vxid state)
new_timed vxid state h = timed_keeps.new vxid state h

-- the rules up to an end
begun_timed : (vxid : ℕ) (state : State) → IsTimed state → IsTimed (with_transaction vxid state)
begun_timed vxid state h = begun_kept IsTimed timed_keeps vxid state h

added_timed : (vxid : ℕ) (rec : Record) (state : State) → IsTimed state → IsTimed (record state { pending = with_record vxid rec state.pending })
added_timed vxid rec state h = newest_timed vxid (λ t. record t { records = t.records ++ rec ∷ [] }) (λ t. refl) state h

told_timed : (grouping : Grouping) (vxid : ℕ) (rec : Record) (state : State) → IsTimed state → IsTimed (with_all_told grouping vxid rec state)
told_timed grouping vxid rec state h = told_kept IsTimed timed_keeps grouping vxid rec state (added_timed vxid rec (with_transaction vxid state) (begun_timed vxid state h))

-- a record may tell the kind
kind_timed : (vxid : ℕ) (rec : Record) (state : State) → IsTimed state → IsTimed (record state { pending = with_kind vxid rec state.pending })
kind_timed vxid rec state h =
    either (λ ts. IsTimed (record state { pending = ts })) (eqb rec.tag begin_tag) (with_newest vxid (claimed_kind (claim_of rec.payload)) state.pending) state.pending
    (timed_keeps.kind vxid (claim_of rec.payload) state h) h

-- whatever leaves
left_timed : (o : Option Transaction) (state : State) → IsTimed state → IsTimed (left_by o state).state
left_timed None state h = h
left_timed (Some t) state h =
    let root : Transaction = root_of state.pending t in
    either (λ r. IsTimed r.state) (list_all (λ (u : Transaction). u.ended) (tree_of state.pending root))
    (record { state = record state { pending = others state.pending root }; groups = group_of state.pending root ∷ [] }) (nothing_left state)
    (times_filter (λ u. not (eqb (root_of state.pending u).serial root.serial)) state.time state.pending h) h

pub ended_timed : (vxid : ℕ) (state : State) → IsTimed state → IsTimed (ended_one vxid state).state
ended_timed vxid state h =
    let now : State = record state { pending = with_newest vxid ended state.pending } in
    left_timed (newest vxid now.pending) now (newest_timed vxid ended (λ t. refl) state h)

pub end_timed : (vxid : ℕ) (rec : Record) (state : State) → IsTimed state → IsTimed (after_end vxid rec state).state
end_timed vxid rec state h = either (λ r. IsTimed r.state) (eqb rec.tag end_tag) (ended_one vxid state) (nothing_left state) (ended_timed vxid state h) h

pub one_timed : (test : Transaction → Bool) (cause : Cause) (state : State) → IsTimed state → IsTimed (forced_one test cause state).state
one_timed test cause state h =
    left_timed (option_map (forced cause) (oldest test state.pending)) (record state { pending = with_oldest test (forced cause) state.pending })
    (oldest_timed test (forced cause) (λ t. refl) state h)

abbrev TimedOn : State → Leaving → Type 0
TimedOn state r = IsTimed state → IsTimed r.state

timed_on : HoldsOn TimedOn
timed_on = record { none = λ state h. h; after = λ first next state a b h. b (a h); one = λ which cause state. one_timed (test_of which) cause state }

timed_over : (options : GroupOptions) → HoldsOver options TimedOn
timed_over options = holds_over options TimedOn timed_on (λ vxid rec state raw h. h)
    (λ vxid rec state h. end_timed vxid rec (with_all_told options.grouping vxid rec state) (told_timed options.grouping vxid rec state h))

-- a record, records one after another, and a flush
pub step_timed : (options : GroupOptions) (vxid : ℕ) (rec : Record) (state : State) → IsTimed state → IsTimed (step options vxid rec state).state
step_timed options vxid rec state = (timed_over options).one vxid rec state

pub steps_timed : (options : GroupOptions) (vxid : ℕ) (records : List Record) (state : State) → IsTimed state → IsTimed (steps options vxid records state).state
steps_timed options vxid records state = steps_hold options TimedOn (timed_over options) vxid records state

pub unit_timed : (options : GroupOptions) (u : LogUnit) (state : State) → IsTimed state → IsTimed (unit_step options u state).state
unit_timed options u state = item_holds options TimedOn (timed_over options) (TakenUnit u) state

late_timed : (seconds : ℕ) (before : Option ℕ) (state : State) → IsTimed state → IsTimed (after_timeouts seconds before state).state
late_timed seconds before state = timeouts_hold TimedOn timed_on seconds before state

pub flush_timed : (state : State) → IsTimed state → IsTimed (flush state).state
flush_timed state = flush_holds TimedOn timed_on state

-- where a log time is known already, a time that is told changes no transaction
pub time_known : (told old : Option ℕ) (pending : List Transaction) → is_some old ≡ true → RiseTo old (times_of pending) → map (timed (raised told old)) pending ≡ pending
time_known told None pending known h = absurd (cc)
time_known told (Some old) pending known h = known_stay (raised told (Some old)) 0 old pending h

-- what a store names: what is so of it while no call failed, the state that it keeps, and what it hands out for a group
module _ {S L : Type 0} (holds : S → Type 0) (state_of : S → State) (hand : Group → L) where
  -- in a store whose state stayed
  pub still_ordered : {store now : S} → IsOrdered holds state_of store → Went holds state_of (state_of store) now → IsOrdered holds state_of now
  still_ordered o went = record { kept = went.kept; times = subst IsTimed (sym went.told) o.times }

  -- times rise in a store that was told a record
  pub added_ordered : (vxid : ℕ) (rec : Record) (state : State) {b a : S} → IsTimed state → Went holds state_of (with_transaction vxid state) b → Went holds state_of (record (state_of b) { pending = with_kind vxid rec (with_record vxid rec (state_of b).pending) }) a →
      IsOrdered holds state_of a
  added_ordered vxid rec state {b} {a} h begun added =
      let open_times : IsTimed (state_of b) = subst IsTimed (sym begun.told) (begun_timed vxid state h) in
      record { kept = added.kept; times = subst IsTimed (sym added.told) (kind_timed vxid rec (record (state_of b) { pending = with_record vxid rec (state_of b).pending }) (added_timed vxid rec (state_of b) open_times)) }

  -- after an end
  pub ended_ordered : (grouping : Grouping) (vxid : ℕ) (rec : Record) {store now : S} {out out_now : List L} → IsOrdered holds state_of store → WentBy holds state_of hand grouping (after_end vxid rec (with_all_told grouping vxid rec (state_of store))) now out out_now → IsOrdered holds state_of now
  ended_ordered grouping vxid rec {store} o went = record {
    kept = went.kept;
    times = subst IsTimed (sym went.state) (end_timed vxid rec (with_all_told grouping vxid rec (state_of store)) (told_timed grouping vxid rec (state_of store) o.times));
  }

  -- after timeouts
  pub late_ordered : (seconds : ℕ) (before : Option ℕ) (grouping : Grouping) {store now : S} {out out_now : List L} → IsOrdered holds state_of store → WentBy holds state_of hand grouping (after_timeouts seconds before (state_of store)) now out out_now → IsOrdered holds state_of now
  late_ordered seconds before grouping {store} o went = record { kept = went.kept; times = subst IsTimed (sym went.state) (late_timed seconds before (state_of store) o.times) }

  -- after records
  pub some_ordered : (options : GroupOptions) (vxid : ℕ) (records : List Record) {store now : S} {out out_now : List L} → IsOrdered holds state_of store → WentBy holds state_of hand options.grouping (steps options vxid records (state_of store)) now out out_now → IsOrdered holds state_of now
  some_ordered options vxid records {store} o went = record { kept = went.kept; times = subst IsTimed (sym went.state) (steps_timed options vxid records (state_of store) o.times) }
