-- The groups that what a reader took of a log gives (vsl-query(7), "Grouping"). Groups are in the order in which they are complete.
use Rattle.std.specs.Prelude.{ℕ, zero, suc, ◌+◌, ◌*◌, ◌==◌, ◌&&◌, not, nat_lt, if◌then◌else◌, Bool, true, false, List, [], ◌∷◌, ◌++◌, length, map, Option, Some, None, count_by}
use Rattle.std.specs.List.{filter, list_all}
use Rattle.std.specs.Option.{option_map}
use Rattle.vsl_tags.specs.Tags.{timestamp_tag, begin_tag, link_tag, end_tag}
use Rattle.vsl_record.specs.declared.record_type.Record.{Record}
use Rattle.vsl_record.specs.Unit.{LogUnit, Log}
use Rattle.txn_rows.specs.declared.group.Grouping.{Grouping}
use Rattle.txn_rows.specs.declared.group.Grouping.TheVariants.{Raw, Vxid, Request, Session}
use Rattle.txn_rows.specs.declared.group.GroupOptions.{GroupOptions}
use Rattle.txn_rows.specs.declared.group.Kind.{Kind}
use Rattle.txn_rows.specs.declared.group.Kind.TheVariants as kinds
use Rattle.txn_rows.specs.declared.group.Reason.{Reason}
use Rattle.txn_rows.specs.declared.group.Reason.TheVariants as reasons
use Rattle.txn_rows.specs.declared.group.Cause.{Cause}
use Rattle.txn_rows.specs.declared.group.Cause.TheVariants.{Overflow, Timeout, Flush}
use Rattle.txn_rows.specs.declared.group.Member.{Member}
use Rattle.txn_rows.specs.declared.group.Group.{Group}
use Rattle.txn_rows.specs.declared.claim.Claim.{Claim}
use Rattle.txn_rows.specs.Claim.{claim_of}
use Rattle.txn_rows.specs.Time.{second, time_of}
use Rattle.txn_rows.specs.Transaction.{Transaction, empty_transaction, is_pending, is_open, newest, with_newest, with_record, with_kind, ended, forced, oldest, with_oldest}
use Rattle.txn_rows.specs.Links.{with_link, root_of, tree_of, others, group_of}

-- what a reader took: a unit, or that it was overrun and missed some (this project's choice)
pub data Taken : Type 0 where
  TakenUnit : LogUnit → Taken
  Missed : Taken

-- what is taken of a log without a gap: each of its units
abbrev pub all_taken : Log → List Taken
all_taken units = map TakenUnit units

-- what stands between two records
pub record State : Type 0 where
  -- the pending transactions, in the order in which they began
  pub pending : List Transaction
  -- how many transactions began
  pub begun : ℕ
  -- the log time, where it is known, in units of 10^-18 seconds
  pub time : Option ℕ

-- a state, and the groups that left on the way to it
pub record Leaving : Type 0 where
  pub state : State
  pub groups : List Group

-- nothing is pending
abbrev pub no_state : State
no_state = record { pending = []; begun = 0; time = None }

-- nothing left
abbrev pub nothing_left : State → Leaving
nothing_left state = record { state = state; groups = [] }

-- what left first, and what left after it
abbrev pub then_left : Leaving → (State → Leaving) → Leaving
then_left first next = record { state = (next first.state).state; groups = first.groups ++ (next first.state).groups }

-- a transaction begins, the newest of all
abbrev pub with_new : ℕ → State → State
with_new vxid state = record state {
  pending = state.pending ++ empty_transaction state.begun vxid state.time ∷ [];
  begun = state.begun + 1;
}

-- a record whose VXID has no open transaction begins a new one. So no record behind an End is lost, and no group is
-- printed twice (this project's choice)
abbrev pub with_transaction : ℕ → State → State
with_transaction vxid state = if is_open vxid state.pending then state else with_new vxid state

-- a claim on a VXID of which no transaction is pending begins one. It begins before it is asked whether the claim has
-- an effect, and holds its group open until its End or a force-completion (this project's choice)
abbrev pub with_other : ℕ → State → State
with_other vxid state = if is_pending vxid state.pending then state else with_new vxid state

-- whether a request began at a client
abbrev pub is_first_request : Kind → Reason → Bool
is_first_request kinds.Request reasons.Rxreq = true
is_first_request kind reason = false

-- whether a kind is a session
abbrev pub is_session : Kind → Bool
is_session kinds.Session = true
is_session kind = false

-- which claims give a parent: none alone, in a session all but those for number 0 and for a session, in a request none
-- for a request of a client either. A session has no parent, and a client's request is the root of its group (this
-- project's choice)
abbrev pub gives_parent : Grouping → Claim → Bool
gives_parent Raw claim = false
gives_parent Vxid claim = false
gives_parent Request claim = not (claim.vxid == 0) && not (is_session claim.kind) && not
    (is_first_request claim.kind claim.reason)
gives_parent Session claim = not (claim.vxid == 0) && not (is_session claim.kind)

-- a Begin names the parent of its transaction
abbrev pub with_parent_named : Grouping → ℕ → Option Claim → State → State
with_parent_named grouping vxid None state = state
with_parent_named grouping vxid (Some claim) state =
    if gives_parent grouping claim
    then (let both = with_other claim.vxid state in record both { pending = with_link vxid claim.vxid both.pending })
    else state

-- a Link names a child of its transaction
abbrev pub with_child_named : Grouping → ℕ → Option Claim → State → State
with_child_named grouping vxid None state = state
with_child_named grouping vxid (Some claim) state =
    if gives_parent grouping claim
    then (let both = with_other claim.vxid state in record both { pending = with_link claim.vxid vxid both.pending })
    else state

-- a well-formed Begin or Link links two transactions (vsl(7), "Begin" and "Link"; which of them take effect is this project's choice)
abbrev pub with_claim : Grouping → ℕ → Record → State → State
with_claim grouping vxid rec state =
    if rec.tag == begin_tag then with_parent_named grouping vxid (claim_of rec.payload) state else
    (if rec.tag == link_tag then with_child_named grouping vxid (claim_of rec.payload) state else state)

-- the log time is raised, where the time is above it or none is known
abbrev pub raised : Option ℕ → Option ℕ → Option ℕ
raised None old = old
raised (Some time) None = Some time
raised (Some time) (Some old) = if nat_lt old time then Some time else Some old

-- a time, or else another
abbrev pub first_known : Option ℕ → Option ℕ → Option ℕ
first_known None time = time
first_known (Some old) time = Some old

-- transactions that began before a time was known take the first that is known. So none of them is late by it (this
-- project's choice)
abbrev pub timed : Option ℕ → Transaction → Transaction
timed time t = record t { time = first_known t.time time }

-- this is the log time
abbrev pub at_time : Option ℕ → State → State
at_time now state = record state { time = now; pending = map (timed now) state.pending }

-- a time that was told may raise the log time
abbrev pub with_time : Option ℕ → State → State
with_time told state = at_time (raised told state.time) state

-- a well-formed Timestamp may raise the log time. Time is that of the log, of all transactions together, and never that
-- of the day: so a log gives the same groups whenever it is read (this project's choice)
abbrev pub with_log_time : Record → State → State
with_log_time rec state = if rec.tag == timestamp_tag then with_time (time_of rec.payload) state else state

-- a transaction has ended: where all of its tree have, they leave as a group
abbrev pub left_by : Option Transaction → State → Leaving
left_by None state = nothing_left state
left_by (Some t) state =
    let root = root_of state.pending t in
    if list_all (λ u. u.ended) (tree_of state.pending root)
    then record {
      state = record state { pending = others state.pending root };
      groups = group_of state.pending root ∷ [];
    }
    else nothing_left state

-- the oldest transaction that passes a test is force-completed, where one does, and may complete a group
abbrev pub forced_one : (Transaction → Bool) → Cause → State → Leaving
forced_one test cause state = left_by (option_map (forced cause) (oldest test state.pending))
    (record state { pending = with_oldest test (forced cause) state.pending })

-- the newest transaction of a VXID ends, and may complete a group
abbrev pub ended_one : ℕ → State → Leaving
ended_one vxid state = let now = with_newest vxid ended state.pending in left_by (newest vxid now) (record state { pending = now })

-- an End ends its transaction
abbrev pub after_end : ℕ → Record → State → Leaving
after_end vxid rec state = if rec.tag == end_tag then ended_one vxid state else nothing_left state

-- whether a time lies more than so many seconds behind another
abbrev pub is_behind : ℕ → Option ℕ → Option ℕ → Bool
is_behind seconds None now = false
is_behind seconds (Some time) None = false
is_behind seconds (Some time) (Some now) = nat_lt (time + seconds * second) now

-- so many times the oldest that passes a test is force-completed
abbrev pub forced_often : ℕ → (Transaction → Bool) → Cause → State → Leaving
forced_often zero test cause state = nothing_left state
forced_often (suc n) test cause state = then_left (forced_one test cause state) (forced_often n test cause)

-- all that pass a test are force-completed, the oldest first
abbrev pub forced_all : (Transaction → Bool) → Cause → State → Leaving
forced_all test cause state = forced_often (count_by test state.pending) test cause state

-- whether a transaction has not ended
abbrev pub is_unfinished : Transaction → Bool
is_unfinished t = not t.ended

-- whether a transaction has not ended, and began more than so many seconds before the log time
abbrev pub is_late : ℕ → Option ℕ → Transaction → Bool
is_late seconds now t = not t.ended && is_behind seconds t.time now

-- whether a log time was raised
abbrev pub has_risen : Option ℕ → Option ℕ → Bool
has_risen old None = false
has_risen None (Some now) = true
has_risen (Some old) (Some now) = nat_lt old now

-- after a rise of the log time each late transaction is force-completed, the oldest first (varnishlog(1), `-T`)
abbrev pub after_timeouts : ℕ → Option ℕ → State → Leaving
after_timeouts seconds before state =
    if has_risen before state.time then forced_all (is_late seconds state.time) Timeout state else nothing_left state

-- while more than the limit are pending, the oldest that has not ended is force-completed: so many times at most
abbrev pub forced_down : ℕ → ℕ → State → Leaving
forced_down limit zero state = nothing_left state
forced_down limit (suc n) state =
    if nat_lt limit (length state.pending) then then_left (forced_one is_unfinished Overflow state)
    (forced_down limit n) else nothing_left state

-- how many pending transactions have not ended
abbrev pub unfinished : State → ℕ
unfinished state = count_by is_unfinished state.pending

-- no more than the limit stay pending. Transactions that have ended count while their group isn't complete, since they
-- take memory too (varnishlog(1), `-L`)
abbrev pub after_overflow : ℕ → State → Leaving
after_overflow limit state = forced_down limit (unfinished state) state

-- the state after a record, before any group leaves: it goes to its transaction, and may tell the kind, a link and the time
abbrev pub with_all_told : Grouping → ℕ → Record → State → State
with_all_told grouping vxid rec state =
    let begun = with_transaction vxid state in
    with_log_time rec (with_claim grouping vxid rec
    (record begun { pending = with_kind vxid rec (with_record vxid rec begun.pending) }))

-- one record of a transaction: the rules in their order
abbrev pub grouped : GroupOptions → ℕ → Record → State → Leaving
grouped options vxid rec state =
    then_left (then_left (after_end vxid rec (with_all_told options.grouping vxid rec state))
    (after_timeouts options.timeout state.time)) (after_overflow options.limit)

-- a record as a group by itself
abbrev pub raw_group : ℕ → Record → Group
raw_group vxid rec = record {
  members = record {
    vxid = vxid;
    kind = kinds.Record;
    reason = reasons.Other;
    level = 0;
    parent = 0;
    records = rec ∷ [];
  } ∷ [];
}

-- whether each record is a group by itself
abbrev pub is_raw : Grouping → Bool
is_raw Raw = true
is_raw grouping = false

-- one record
abbrev pub step : GroupOptions → ℕ → Record → State → Leaving
step options vxid rec state = if is_raw options.grouping then record { state = state; groups = raw_group vxid rec ∷ [] }
    else grouped options vxid rec state

-- records one after another
abbrev pub steps : GroupOptions → ℕ → List Record → State → Leaving
steps options vxid [] state = nothing_left state
steps options vxid (rec ∷ records) state = then_left (step options vxid rec state) (steps options vxid records)

-- whether a grouping passes over records of no transaction: all but raw do
abbrev pub passes_over : Grouping → ℕ → Bool
passes_over grouping vxid = not (is_raw grouping) && vxid == 0

-- one unit
abbrev pub unit_step : GroupOptions → LogUnit → State → Leaving
unit_step options u state = if passes_over options.grouping u.vxid then nothing_left state
    else steps options u.vxid u.records state

-- the oldest transaction that has not ended is force-completed. No run calls for it by itself: what the limit, the
-- timeout and the end of a log ask for is done by steps and a flush (this project's choice)
abbrev pub force : Cause → State → Leaving
force cause state = forced_one is_unfinished cause state

-- all that have not ended are force-completed, the oldest first
abbrev pub flush : State → Leaving
flush state = forced_all is_unfinished Flush state

-- one item that was taken: at an overrun all that have not ended are force-completed, the oldest first. Units are
-- missing there, and nobody knows of which transactions. What comes later of a VXID is another transaction (this
-- project's choice)
abbrev pub taken_step : GroupOptions → Taken → State → Leaving
taken_step options (TakenUnit u) state = unit_step options u state
taken_step options Missed state = flush state

-- items one after another
abbrev pub taken_steps : GroupOptions → List Taken → State → Leaving
taken_steps options [] state = nothing_left state
taken_steps options (item ∷ taken) state = then_left (taken_step options item state) (taken_steps options taken)

-- whether a group is led by a session
abbrev pub is_led_by_session : List Member → Bool
is_led_by_session [] = false
is_led_by_session (root ∷ members) = is_session root.kind

-- whether a group that left is reported: request grouping does not report sessions. What isn't reported counts as
-- pending until it leaves (vsl-query(7), "Grouping")
abbrev pub is_reported : Grouping → Group → Bool
is_reported Request group = not (is_led_by_session group.members)
is_reported grouping group = true

-- the groups that are reported, of those that left
abbrev pub reported : Grouping → List Group → List Group
reported grouping groups = filter (is_reported grouping) groups

-- the groups that leave for what was taken, in the order in which they leave, flushed at its end or not
abbrev pub left_of : GroupOptions → List Taken → Bool → List Group
left_of options taken flushed =
    let run = taken_steps options taken no_state in
    if flushed then run.groups ++ (flush run.state).groups else run.groups

-- the groups that are reported for what was taken, flushed at its end or not
abbrev pub groups_of : GroupOptions → List Taken → Bool → List Group
groups_of options taken flushed = reported options.grouping (left_of options taken flushed)
