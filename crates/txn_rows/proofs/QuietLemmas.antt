-- Records that disturb nothing: their steps are one append, and the log time behind them.
use Rattle.std.proofs.Common.{◌≡◌, ◌+◌, ◌<◌, ◌≤◌, ◌&&◌, ◌||◌, ℕ, Bool, true, false, not, cond, eqb, eqb-true, ltb, Option, Some, None, List, [], ◌∷◌, ◌++◌, length, take, map, get_or, refl, ap, sym, ◌∙◌, subst, arith}
use Rattle.std.specs.Prelude.{⊤, IfSome, count_by}
use Rattle.std.specs.List.{list_all, list_any}
use Rattle.std.specs.Option.{is_some}
use Rattle.std.proofs.lemmas.Bool.{and_parts, not-true, and_from, both_ways, cond_both, leb-true, ltb-true, ltb-false}
use Rattle.std.proofs.lemmas.List.{take_more}
use Rattle.std.proofs.lemmas.List.Folds.{list_all_more}
use Rattle.vsl_tags.specs.Tags.{begin_tag, link_tag, timestamp_tag, end_tag}
use Rattle.vsl_record.specs.declared.record_type.Record.{Record}
use Rattle.txn_rows.specs.declared.claim.Claim.{Claim}
use Rattle.txn_rows.specs.declared.group.Cause.TheVariants.{Timeout}
use Rattle.txn_rows.specs.declared.group.Group.{Group}
use Rattle.txn_rows.specs.declared.group.Grouping.{Grouping}
use Rattle.txn_rows.specs.declared.group.Grouping.TheVariants.{Raw, Vxid, Request, Session}
use Rattle.txn_rows.specs.declared.group.GroupOptions.{GroupOptions}
use Rattle.txn_rows.specs.Claim.{claim_of}
use Rattle.txn_rows.specs.Time.{time_of}
use Rattle.txn_rows.specs.Times.{RiseTo, times_of, IsTimed, NoneLateUpTo}
use Rattle.txn_rows.specs.Transaction.{Transaction, is_open, with_newest, with_record, with_kind, claimed_kind, longer_by}
use Rattle.txn_rows.specs.Grouping.{State, Leaving, nothing_left, then_left, has_risen, raised, first_known, timed, at_time, with_time, is_behind, is_late, after_timeouts, after_overflow, after_end, ended_one, unfinished, with_child_named, with_claim, with_log_time, with_new, with_all_told, grouped, is_raw, step, steps}
use Rattle.txn_rows.specs.inside.Told.{is_plain, is_plain_record}
use Rattle.txn_rows.specs.inside.Quiet.{is_alone, joins_run, is_by, is_quiet, time_after, latest, IsQuiet, AreQuiet, IsRun, after_run}
use Rattle.txn_rows.specs.Store.{Went, WentBy, IsOrdered}
use Rattle.txn_rows.proofs.LineLemmas.{by_cases}
use Rattle.txn_rows.proofs.ChangeLemmas.{newest_same}
use Rattle.txn_rows.proofs.ForceAllLemmas.{often_none, down_within, behind_later}
use Rattle.txn_rows.proofs.TakeLemmas.{nothing_step}
use Rattle.txn_rows.proofs.TimeLemmas.{time_known, newest_timed, step_timed}
use Rattle.txn_rows.proofs.PlainLemmas.{risen_same, longer, longer_length, open_still, longer_run, run_more, added_none}

-- a record that tells nothing but itself has none of four tags
record IsNoneOfFour (tag : ℕ) : Type 0 where
  begins : eqb tag begin_tag ≡ false
  links : eqb tag link_tag ≡ false
  times : eqb tag timestamp_tag ≡ false
  ends : eqb tag end_tag ≡ false

plain_tags : (tag : ℕ) → is_plain tag ≡ true → IsNoneOfFour tag
plain_tags tag plain =
    let no_begin : Bool = not (eqb tag begin_tag) in
    let no_link : Bool = not (eqb tag link_tag) in
    let no_time : Bool = not (eqb tag timestamp_tag) in
    let first = and_parts (no_begin && no_link && no_time) (not (eqb tag end_tag)) plain in
    let second = and_parts (no_begin && no_link) no_time first.0 in
    let third = and_parts no_begin no_link second.0 in
    record { begins = not-true _ third.0; links = not-true _ third.1; times = not-true _ second.1; ends = not-true _ first.1 }

-- a record of this tag joins a run
record Joins (grouping : Grouping) (tag : ℕ) : Type 0 where
  begins : eqb tag begin_tag ≡ false
  ends : eqb tag end_tag ≡ false
  links : eqb tag link_tag ≡ true → is_alone grouping ≡ true

joins : (grouping : Grouping) (tag : ℕ) → joins_run grouping tag ≡ true → Joins grouping tag
joins grouping tag passes =
    let no_begin : Bool = not (eqb tag begin_tag) in
    let no_end : Bool = not (eqb tag end_tag) in
    let no_link : Bool = not (eqb tag link_tag) || is_alone grouping in
    let first = and_parts (no_begin && no_end) no_link passes in
    let second = and_parts no_begin no_end first.0 in
    record {
      begins = not-true _ second.0;
      ends = not-true _ second.1;
      links = λ link. ap (λ (b : Bool). not b || is_alone grouping) (sym link) ∙ first.1;
    }

-- a Timestamp does
time_joins : (grouping : Grouping) (tag : ℕ) → eqb tag timestamp_tag ≡ true → Joins grouping tag
time_joins grouping tag is =
    let same : tag ≡ timestamp_tag = eqb-true tag timestamp_tag is in
    record {
      begins = ap (λ (n : ℕ). eqb n begin_tag) same;
      ends = ap (λ (n : ℕ). eqb n end_tag) same;
      links = λ link. absurd (both_ways (eqb tag link_tag) (ap (λ (n : ℕ). eqb n link_tag) same) link);
    }

-- where each transaction is a group by itself, no Link has an effect
no_child : (grouping : Grouping) (vxid : ℕ) (claim : Option Claim) (state : State) → is_alone grouping ≡ true → with_child_named grouping vxid claim state ≡ state
no_child grouping vxid None state alone = refl
no_child Raw vxid (Some claim) state alone = refl
no_child Vxid vxid (Some claim) state alone = refl
no_child Request vxid (Some claim) state alone = absurd (cc)
no_child Session vxid (Some claim) state alone = absurd (cc)

no_claim : (grouping : Grouping) (vxid : ℕ) (rec : Record) (state : State) → Joins grouping rec.tag → with_claim grouping vxid rec state ≡ state
no_claim grouping vxid rec state j =
    by_cases (with_claim grouping vxid rec state ≡ state) (eqb rec.tag link_tag)
    (λ l. rw (j.begins, l) (no_child grouping vxid (claim_of rec.payload) state (j.links l)))
    (λ l. rw (j.begins, l) refl)

-- ---- the log time

-- a known time stays known
raised_known : (told old : Option ℕ) → is_some old ≡ true → is_some (raised told old) ≡ true
raised_known None old known = known
raised_known (Some time) None known = refl
raised_known (Some time) (Some old) known = cond_both (ltb old time) (Some time) (Some old) (λ o. is_some o ≡ true) (λ e. refl) (λ e. refl)

-- a log time that rose by what was told is no later than that
record RisenTo (now : Option ℕ) (last : ℕ) : Type 0 where
  time : ℕ
  is : now ≡ Some time
  by : time ≤ last

risen_by : (told old : Option ℕ) (last : ℕ) → is_by (Some last) told ≡ true → has_risen old (raised told old) ≡ true → RisenTo (raised told old) last
risen_by None old last by risen = absurd (both_ways (has_risen old old) (risen_same old) risen)
risen_by (Some time) None last by risen = record { time = time; is = refl; by = leb-true time last by }
risen_by (Some time) (Some old) last by risen =
    by_cases (RisenTo (raised (Some time) (Some old)) last) (ltb old time)
    (λ e. rw e (record { time = time; is = refl; by = leb-true time last by }))
    (λ e. let still : has_risen (Some old) (Some old) ≡ true = rw e at risen in absurd (both_ways (has_risen (Some old) (Some old)) (risen_same (Some old)) still))

-- a log time is not before another
abbrev pub IsFrom : Option ℕ → Option ℕ → Type 0
IsFrom None now = ⊤
IsFrom (Some old) None = ⊥
IsFrom (Some old) (Some now) = old ≤ now

from_same : (time : Option ℕ) → IsFrom time time
from_same None = tt
from_same (Some time) = omega arith

from_raised : (told old : Option ℕ) → IsFrom old (raised told old)
from_raised None old = from_same old
from_raised (Some time) None = tt
from_raised (Some time) (Some old) = cond_both (ltb old time) (Some time) (Some old) (IsFrom (Some old)) (λ e. omega (arith, ltb-true old time e)) (λ e. omega arith)

from_then : (a b c : Option ℕ) → IsFrom a b → IsFrom b c → IsFrom a c
from_then None b c ab bc = tt
from_then (Some a) None c ab bc = absurd ab
from_then (Some a) (Some b) None ab bc = bc
from_then (Some a) (Some b) (Some c) ab bc = omega (arith, ab, bc)

pub from_latest : (run : List Record) (time : Option ℕ) → IsFrom time (latest run time)
from_latest [] time = from_same time
from_latest (rec ∷ run) time =
    from_then time (time_after rec time) (latest run (time_after rec time))
    (cond_both (eqb rec.tag timestamp_tag) (raised (time_of rec.payload) time) time (IsFrom time) (λ e. from_raised (time_of rec.payload) time) (λ e. from_same time))
    (from_latest run (time_after rec time))

raised_from : (now old : Option ℕ) → IsFrom old now → raised now old ≡ now
raised_from None None from = refl
raised_from None (Some old) from = absurd from
raised_from (Some now) None from = refl
raised_from (Some now) (Some old) from =
    by_cases (raised (Some now) (Some old) ≡ Some now) (ltb old now)
    (λ e. rw e refl)
    (λ e. let same : old ≡ now = omega (arith, from, ltb-false old now e) in rw e (ap (λ (n : ℕ). Some n) same))

-- what begins later is no further behind
behind_from : (seconds : ℕ) (old time now : Option ℕ) → is_some old ≡ true → IsFrom old time → is_behind seconds old now ≡ false → is_behind seconds time now ≡ false
behind_from seconds None time now known from e = absurd (cc)
behind_from seconds (Some old) None now known from e = absurd from
behind_from seconds (Some old) (Some time) now known from e = behind_later seconds old time now from e

-- ---- one record

any_map : {X : Type 0} (p : X → Bool) (xs : List X) → list_any (λ b. b) (map p xs) ≡ list_any p xs
any_map p [] = refl
any_map p (x ∷ xs) = ap (λ (b : Bool). p x || b) (any_map p xs)

-- whether one is late is kept by what keeps its end and its time
late_still : (seconds : ℕ) (now : Option ℕ) (vxid : ℕ) (change : Transaction → Transaction) → ((t : Transaction) → is_late seconds now (change t) ≡ is_late seconds now t) → (pending : List Transaction) → list_any (is_late seconds now) (with_newest vxid change pending) ≡ list_any (is_late seconds now) pending
late_still seconds now vxid change keeps pending =
    let late : Transaction → Bool = is_late seconds now in
    sym (any_map late (with_newest vxid change pending)) ∙ ap (list_any (λ (b : Bool). b)) (newest_same late vxid change keeps pending) ∙ any_map late pending

-- where none is late after a rise, none is force-completed
pub none_forced : (seconds : ℕ) (before : Option ℕ) (state : State) → (has_risen before state.time ≡ true → list_any (is_late seconds state.time) state.pending ≡ false) → after_timeouts seconds before state ≡ nothing_left state
none_forced seconds before state none =
    by_cases (after_timeouts seconds before state ≡ nothing_left state) (has_risen before state.time)
    (λ e. rw e (often_none (count_by (is_late seconds state.time) state.pending) (is_late seconds state.time) Timeout state (none e)))
    (λ e. rw e refl)

-- the state behind a record that disturbs nothing
abbrev after_one : ℕ → Record → State → State
after_one vxid rec state = record state { pending = with_record vxid rec state.pending; time = time_after rec state.time }

-- a record that was told, and no group left
told_quiet : (grouping : Grouping) (vxid : ℕ) (rec : Record) (state : State) → Joins grouping rec.tag → is_open vxid state.pending ≡ true → with_all_told grouping vxid rec state ≡ with_log_time rec (longer vxid rec state)
told_quiet grouping vxid rec state j opened =
    let more : List Transaction = with_record vxid rec state.pending in
    let rest : State → State = λ s. with_log_time rec (with_claim grouping vxid rec s) in
    ap (λ (b : Bool). let begun : State = cond b state (with_new vxid state) in rest (record begun { pending = with_kind vxid rec (with_record vxid rec begun.pending) })) opened
    ∙ ap (λ (b : Bool). rest (record state { pending = cond b (with_newest vxid (claimed_kind (claim_of rec.payload)) more) more })) j.begins
    ∙ ap (with_log_time rec) (no_claim grouping vxid rec (longer vxid rec state) j)

pub stays : (options : GroupOptions) (vxid : ℕ) (rec : Record) (state now : State) → with_all_told options.grouping vxid rec state ≡ now → eqb rec.tag end_tag ≡ false → length now.pending ≤ options.limit → after_timeouts options.timeout state.time now ≡ nothing_left now → grouped options vxid rec state ≡ nothing_left now
stays options vxid rec state now told no_end few late =
    let later : State → Leaving = after_timeouts options.timeout state.time in
    let over : State → Leaving = after_overflow options.limit in
    ap (λ (s : State). then_left (then_left (after_end vxid rec s) later) over) told
    ∙ ap (λ (b : Bool). then_left (then_left (cond b (ended_one vxid now) (nothing_left now)) later) over) no_end
    ∙ ap (λ (r : Leaving). then_left r over) late
    ∙ down_within options.limit (unfinished now) now few

-- what a state says of late transactions up to a log time, where there is one
abbrev pub NoneLate : ℕ → Option ℕ → State → Type 0
NoneLate seconds last state = IfSome last (λ l. NoneLateUpTo seconds l state)

-- one that tells no time
quiet_plain : (options : GroupOptions) (vxid : ℕ) (rec : Record) (state : State) → Joins options.grouping rec.tag → eqb rec.tag timestamp_tag ≡ false → is_open vxid state.pending ≡ true → length state.pending ≤ options.limit → grouped options vxid rec state ≡ nothing_left (after_one vxid rec state)
quiet_plain options vxid rec state j plain opened few =
    let same : after_one vxid rec state ≡ longer vxid rec state = ap (λ (b : Bool). record state { pending = with_record vxid rec state.pending; time = cond b (raised (time_of rec.payload) state.time) state.time }) plain in
    let told : with_all_told options.grouping vxid rec state ≡ after_one vxid rec state =
    told_quiet options.grouping vxid rec state j opened
    ∙ ap (λ (b : Bool). cond b (with_time (time_of rec.payload) (longer vxid rec state)) (longer vxid rec state)) plain ∙ sym same in
    stays options vxid rec state (after_one vxid rec state) told j.ends (omega (arith, few, longer_length vxid rec state))
    (none_forced options.timeout state.time (after_one vxid rec state) (λ risen. absurd (both_ways (has_risen state.time state.time) (risen_same state.time) (ap (λ (s : State). has_risen state.time s.time) (sym same) ∙ risen))))

-- one that tells the time
quiet_time : (options : GroupOptions) (vxid : ℕ) (rec : Record) (last : ℕ) (state : State) → eqb rec.tag timestamp_tag ≡ true → is_by (Some last) (time_of rec.payload) ≡ true → is_open vxid state.pending ≡ true → length state.pending ≤ options.limit → IsTimed state → NoneLateUpTo options.timeout last state → grouped options vxid rec state ≡ nothing_left (after_one vxid rec state)
quiet_time options vxid rec last state is by opened few times late =
    let told : Option ℕ = time_of rec.payload in
    let now : Option ℕ = raised told state.time in
    let more : List Transaction = with_record vxid rec state.pending in
    let j = time_joins options.grouping rec.tag is in
    let timed_more : RiseTo state.time (times_of more) = newest_timed vxid (λ t. record t { records = t.records ++ rec ∷ [] }) (λ t. refl) state times in
    let same : after_one vxid rec state ≡ record state { pending = more; time = now } = ap (λ (b : Bool). record state { pending = more; time = cond b now state.time }) is in
    let goes : with_all_told options.grouping vxid rec state ≡ after_one vxid rec state =
    told_quiet options.grouping vxid rec state j opened
    ∙ ap (λ (b : Bool). cond b (with_time told (longer vxid rec state)) (longer vxid rec state)) is
    ∙ ap (λ (ts : List Transaction). record state { pending = ts; time = now }) (time_known told state.time more late.known timed_more) ∙ sym same in
    stays options vxid rec state (after_one vxid rec state) goes j.ends (omega (arith, few, longer_length vxid rec state))
    (none_forced options.timeout state.time (after_one vxid rec state)
    (λ risen. let r = risen_by told state.time last by (ap (λ (s : State). has_risen state.time s.time) (sym same) ∙ risen) in
    ap (λ (s : State). list_any (is_late options.timeout s.time) s.pending) same
    ∙ ap (λ (o : Option ℕ). list_any (is_late options.timeout o) more) r.is
    ∙ late_still options.timeout (Some r.time) vxid (λ t. record t { records = t.records ++ rec ∷ [] }) (λ t. refl) state.pending
    ∙ late.none r.time r.by))

quiet_one : (options : GroupOptions) (vxid : ℕ) (rec : Record) (last : Option ℕ) (state : State) → is_quiet options.grouping last rec ≡ true → is_open vxid state.pending ≡ true → length state.pending ≤ options.limit → IsTimed state → NoneLate options.timeout last state → grouped options vxid rec state ≡ nothing_left (after_one vxid rec state)
quiet_one options vxid rec None state quiet opened few times late =
    by_cases (grouped options vxid rec state ≡ nothing_left (after_one vxid rec state)) (eqb rec.tag timestamp_tag)
    (λ e. absurd (both_ways false refl (rw e at quiet)))
    (λ e. quiet_plain options vxid rec state (joins options.grouping rec.tag (rw e at quiet)) e opened few)
quiet_one options vxid rec (Some last) state quiet opened few times late =
    by_cases (grouped options vxid rec state ≡ nothing_left (after_one vxid rec state)) (eqb rec.tag timestamp_tag)
    (λ e. quiet_time options vxid rec last state e (rw e at quiet) opened few times late)
    (λ e. quiet_plain options vxid rec state (joins options.grouping rec.tag (rw e at quiet)) e opened few)

-- ---- records one after another

-- what holds before a record that disturbs nothing holds behind it
none_late_behind : (seconds vxid : ℕ) (rec : Record) (last : Option ℕ) (state : State) → NoneLate seconds last state → NoneLate seconds last (after_one vxid rec state)
none_late_behind seconds vxid rec None state late = tt
none_late_behind seconds vxid rec (Some last) state late = record {
  begins = λ now by. behind_from seconds state.time (time_after rec state.time) (Some now) late.known (from_latest (rec ∷ []) state.time) (late.begins now by);
  known = cond_both (eqb rec.tag timestamp_tag) (raised (time_of rec.payload) state.time) state.time (λ o. is_some o ≡ true) (λ e. raised_known (time_of rec.payload) state.time late.known) (λ e. late.known);
  none = λ now by. late_still seconds (Some now) vxid (λ t. record t { records = t.records ++ rec ∷ [] }) (λ t. refl) state.pending ∙ late.none now by;
}

-- steps of records that disturb nothing are one append, while their row is open and no more are pending than the limit
pub quiet_steps : (options : GroupOptions) (vxid : ℕ) (run : List Record) (last : Option ℕ) (state : State) → is_raw options.grouping ≡ false → list_all (is_quiet options.grouping last) run ≡ true → is_open vxid state.pending ≡ true → length state.pending ≤ options.limit → IsTimed state → NoneLate options.timeout last state →
    steps options vxid run state ≡ nothing_left (after_run vxid run state)
quiet_steps options vxid [] last state whole quiet opened few times late =
    ap (λ (ts : List Transaction). nothing_left (record state { pending = ts })) (sym (added_none vxid state.pending))
quiet_steps options vxid (rec ∷ run) last state whole quiet opened few times late =
    let tests = and_parts (is_quiet options.grouping last rec) (list_all (is_quiet options.grouping last) run) quiet in
    let now : State = after_one vxid rec state in
    let first : grouped options vxid rec state ≡ nothing_left now = quiet_one options vxid rec last state tests.0 opened few times late in
    let one : step options vxid rec state ≡ nothing_left now = rw whole first in
    let times_now : IsTimed now = subst (λ (r : Leaving). IsTimed r.state) one (step_timed options vxid rec state times) in
    ap (λ (r : Leaving). then_left r (steps options vxid run)) one
    ∙ quiet_steps options vxid run last now whole tests.1 (open_still vxid rec state.pending ∙ opened) (omega (arith, few, longer_length vxid rec state)) times_now (none_late_behind options.timeout vxid rec last state late)
    ∙ ap (λ (s : State). nothing_left (record s { time = latest run now.time })) (run_more vxid rec run state)

-- ---- what a store does

-- times that are not known stay so
none_first : (o : Option ℕ) → first_known o None ≡ o
none_first None = refl
none_first (Some time) = refl

none_timed : (pending : List Transaction) → map (timed None) pending ≡ pending
none_timed [] = refl
none_timed (t ∷ pending) =
    ap (λ (o : Option ℕ). record t { time = o } ∷ map (timed None) pending) (none_first t.time)
    ∙ ap (λ (ts : List Transaction). t ∷ ts) (none_timed pending)

-- records that disturb nothing tell no time where none is known
none_told : (grouping : Grouping) (run : List Record) (time : Option ℕ) → list_all (is_quiet grouping None) run ≡ true → latest run time ≡ time
none_told grouping [] time quiet = refl
none_told grouping (rec ∷ run) time quiet =
    let tests = and_parts (is_quiet grouping None rec) (list_all (is_quiet grouping None) run) quiet in
    let first = tests.0 in
    let plain : eqb rec.tag timestamp_tag ≡ false = by_cases (eqb rec.tag timestamp_tag ≡ false) (eqb rec.tag timestamp_tag) (λ e. absurd (both_ways false refl (rw e at first))) (λ e. e) in
    ap (λ (b : Bool). latest run (cond b (raised (time_of rec.payload) time) time)) plain ∙ none_told grouping run time tests.1

-- the log time goes up to what was told: transactions take a first one, and none is told behind which none is known
pub time_goes : (now old : Option ℕ) (begun : ℕ) (pending : List Transaction) → IsFrom old now → RiseTo old (times_of pending) → (old ≡ None → now ≡ None) → with_time now (record { pending = pending; begun = begun; time = old }) ≡ record { pending = pending; begun = begun; time = now }
time_goes now None begun pending from times none =
    let no_time : now ≡ None = none refl in
    ap (λ (o : Option ℕ). at_time (raised o None) (record { pending = pending; begun = begun; time = None })) no_time
    ∙ ap (λ (ts : List Transaction). record { pending = ts; begun = begun; time = None }) (none_timed pending)
    ∙ ap (λ (o : Option ℕ). record { pending = pending; begun = begun; time = o }) (sym no_time)
time_goes now (Some old) begun pending from times none =
    ap (λ (ts : List Transaction). record { pending = ts; begun = begun; time = raised now (Some old) }) (time_known now (Some old) pending refl times)
    ∙ ap (λ (o : Option ℕ). record { pending = pending; begun = begun; time = o }) (raised_from now (Some old) from)

-- a run tells no time where none is known
pub run_none : (options : GroupOptions) (state : State) (now last : Option ℕ) (run : List Record) → NoneLate options.timeout last state → AreQuiet options.grouping last state.time now run → state.time ≡ None → now ≡ None
run_none options state now None run late are none = are.told ∙ none_told options.grouping run state.time are.quiet ∙ none
run_none options state now (Some last) run late are none = absurd (both_ways (is_some state.time) (ap (λ (o : Option ℕ). is_some o) none) late.known)

-- what a store names: what is so of it while no call failed, the state that it keeps, and what it hands out for a group
module _ {S L : Type 0} (holds : S → Type 0) (state_of : S → State) (hand : Group → L) where
  -- a store takes a run in two calls: it adds the records, and raises the log time
  pub run_went : (options : GroupOptions) (vxid : ℕ) (run : List Record) (time : Option ℕ) (store mid now : S) → IsOrdered holds state_of store → IsRun options (state_of store) time run → Went holds state_of (longer_run vxid run (state_of store)) mid →
      (IsTimed (state_of mid) → Went holds state_of (with_time time (state_of mid)) now) → Went holds state_of (after_run vxid run (state_of store)) now
  run_went options vxid run time store mid now ordered is added raises =
      let state : State = state_of store in
      let more : State = longer_run vxid run state in
      let times : IsTimed more = newest_timed vxid (longer_by run) (λ t. refl) state ordered.times in
      let went = raises (subst IsTimed (sym added.told) times) in
      let from : IsFrom state.time time = subst (IsFrom state.time) (sym is.are.told) (from_latest run state.time) in
      record {
        kept = went.kept;
        told =
            went.told ∙ ap (with_time time) added.told
            ∙ time_goes time state.time state.begun more.pending from times (run_none options state time is.last run is.none_late is.are)
            ∙ ap (λ (o : Option ℕ). record more { time = o }) is.are.told;
      }

  -- and nothing leaves
  pub run_left : (options : GroupOptions) (vxid : ℕ) (run : List Record) (time : Option ℕ) (store now : S) (out : List L) → is_raw options.grouping ≡ false → IsOrdered holds state_of store → IsRun options (state_of store) time run → is_open vxid (state_of store).pending ≡ true → length (state_of store).pending ≤ options.limit →
      Went holds state_of (after_run vxid run (state_of store)) now → WentBy holds state_of hand options.grouping (steps options vxid run (state_of store)) now out out
  run_left options vxid run time store now out whole ordered is opened few went =
      nothing_step holds state_of hand options.grouping now out (steps options vxid run (state_of store)) went.kept
      (quiet_steps options vxid run is.last (state_of store) whole is.are.quiet opened few ordered.times is.none_late ∙ ap nothing_left (sym went.told))

-- ---- how a run is found

-- records that tell nothing but themselves disturb nothing, and tell no time
plain_quiet : (grouping : Grouping) (last : Option ℕ) (rec : Record) → is_plain_record rec ≡ true → is_quiet grouping last rec ≡ true
plain_quiet grouping last rec plain =
    let tests = plain_tags rec.tag plain in
    rw (tests.times, tests.begins, tests.ends, tests.links) refl

pub plain_are_quiet : (grouping : Grouping) (last : Option ℕ) (run : List Record) (time : Option ℕ) → list_all is_plain_record run ≡ true → AreQuiet grouping last time time run
plain_are_quiet grouping last [] time plain = record { quiet = refl; told = refl }
plain_are_quiet grouping last (rec ∷ run) time plain =
    let tests = and_parts (is_plain_record rec) (list_all is_plain_record run) plain in
    let later = plain_are_quiet grouping last run time tests.1 in
    record {
      quiet = and_from (is_quiet grouping last rec) (list_all (is_quiet grouping last) run) (plain_quiet grouping last rec tests.0) later.quiet;
      told = later.told ∙ ap (λ (b : Bool). latest run (cond b (raised (time_of rec.payload) time) time)) (sym (plain_tags rec.tag tests.0).times);
    }

latest_both : (xs ys : List Record) (time : Option ℕ) → latest (xs ++ ys) time ≡ latest ys (latest xs time)
latest_both [] ys time = refl
latest_both (x ∷ xs) ys time = latest_both xs ys (time_after x time)

-- one more
pub quiet_more : (grouping : Grouping) (last before time now : Option ℕ) (records : List Record) (i : ℕ) → i < length records → AreQuiet grouping last before time (take i records) → ((rec : Record) → IsQuiet grouping last time now (get_or records i rec)) → AreQuiet grouping last before now (take (i + 1) records)
quiet_more grouping last before time now [] i within are one = absurd (omega (arith, within))
quiet_more grouping last before time now (r ∷ records) i within are one =
    let all : List Record = r ∷ records in
    let rec : Record = get_or all i r in
    record {
      quiet = list_all_more (is_quiet grouping last) all i r within ∙ and_from (list_all (is_quiet grouping last) (take i all)) (is_quiet grouping last rec) are.quiet (one r).quiet;
      told =
          (one r).told ∙ ap (time_after rec) are.told
          ∙ sym (ap (λ (rs : List Record). latest rs before) (take_more all i r within) ∙ latest_both (take i all) (rec ∷ []) before);
    }

-- no run
pub no_run : (options : GroupOptions) (state : State) → IsRun options state state.time []
no_run options state = record { last = None; none_late = tt; are = record { quiet = refl; told = refl } }

pub plain_is_run : (options : GroupOptions) (state : State) (run : List Record) → list_all is_plain_record run ≡ true → IsRun options state state.time run
plain_is_run options state run plain = record { last = None; none_late = tt; are = plain_are_quiet options.grouping None run state.time plain }
