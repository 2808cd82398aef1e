-- What stays sound of a table.
use Rattle.std.proofs.Common.{◌≡◌, ◌≤◌, ℕ, Bool, false, List, length, Result, Ok, Err, refl, ap, sym, ◌∙◌, subst, arith}
use Rattle.std.proofs.lemmas.Bool.{cond_both}
use Rattle.std.specs.Result.{is_err, OnOk, OnErr}
use Rattle.vsl_record.specs.Unit.{LogUnit}
use Rattle.txn_rows.specs.declared.group.GroupOptions.{GroupOptions}
use Rattle.txn_rows.specs.declared.group.Grouping.{Grouping}
use Rattle.txn_rows.specs.declared.group.Group.{Group}
use Rattle.txn_rows.specs.declared.group.Cause.{Cause}
use Rattle.txn_rows.specs.Grouping.{TakenUnit, State, Leaving, is_unfinished, nothing_left, passes_over, steps, unit_step, force, flush}
use Rattle.txn_rows.specs.Times.{IsTimed}
use Rattle.txn_rows.specs.TableState.{TableState}
use Rattle.txn_rows.specs.Table.{TableStepped, TableFailed}
use Rattle.txn_rows.specs.Store.{WentBy, AddsPart}
use Rattle.txn_rows.specs.States.{Standing, IsSound}
use Rattle.txn_rows.proofs.KeepLemmas.{item_holds, flush_holds}
use Rattle.txn_rows.proofs.RunLemmas.{StandsOn, stands_on, stands_over, one_stands}
use Rattle.txn_rows.proofs.TimeLemmas.{one_timed, unit_timed, flush_timed}
use Rattle.txn_rows.proofs.LimitLemmas.{one_length, flush_empties, steps_within}

-- what holds where there is no error
pub with_ok : {T E P : Type 0} → (r : Result T E) → is_err r ≡ false → OnOk r P → P
with_ok (Ok x) kept p = p
with_ok (Err e) kept p = absurd (cc)

-- what a store names: what is so of it while no call failed, the state that it keeps, and what it hands out for a group
module _ {S L : Type 0} (holds : S → Type 0) (state_of : S → State) (hand : Group → L) where
  -- a store that went to a sound state is sound
  went_sound : (limit : ℕ) (grouping : Grouping) (leaving : Leaving) (now : S) (out_before out_now : List L) → WentBy holds state_of hand grouping leaving now out_before out_now → Standing leaving.state → IsTimed leaving.state → length leaving.state.pending ≤ limit → IsSound holds state_of limit now
  went_sound limit grouping leaving now out_before out_now went stands timed within = record {
    ordered = record { kept = went.kept; times = subst IsTimed (sym went.state) timed };
    standing = subst Standing (sym went.state) stands;
    within = omega (arith, within, ap (λ (s : State). length s.pending) went.state);
  }

  pub unit_sound : (options : GroupOptions) (u : LogUnit) (store now : S) (out_before out_now : List L) → IsSound holds state_of options.limit store → WentBy holds state_of hand options.grouping (unit_step options u (state_of store)) now out_before out_now → IsSound holds state_of options.limit now
  unit_sound options u store now out_before out_now sound went =
      let state : State = state_of store in
      went_sound options.limit options.grouping (unit_step options u state) now out_before out_now went (item_holds options StandsOn (stands_over options) (TakenUnit u) state sound.standing) (unit_timed options u state sound.ordered.times)
      (cond_both (passes_over options.grouping u.vxid) (nothing_left state) (steps options u.vxid u.records state) (λ (r : Leaving). length r.state.pending ≤ options.limit) (λ e. sound.within) (λ e. steps_within options u.vxid u.records state sound.standing sound.within))

  pub force_sound : (limit : ℕ) (grouping : Grouping) (cause : Cause) (store now : S) (out_before out_now : List L) → IsSound holds state_of limit store → WentBy holds state_of hand grouping (force cause (state_of store)) now out_before out_now → IsSound holds state_of limit now
  force_sound limit grouping cause store now out_before out_now sound went =
      let state : State = state_of store in
      went_sound limit grouping (force cause state) now out_before out_now went (one_stands is_unfinished cause state sound.standing) (one_timed is_unfinished cause state sound.ordered.times)
      (omega (arith, sound.within, one_length is_unfinished cause state))

  -- after a flush none is pending
  pub flushed_none : (limit : ℕ) (grouping : Grouping) (store now : S) (out_before out_now : List L) → IsSound holds state_of limit store → WentBy holds state_of hand grouping (flush (state_of store)) now out_before out_now → length (state_of now).pending ≡ 0
  flushed_none limit grouping store now out_before out_now sound went = omega (arith, ap (λ (s : State). length s.pending) went.state, flush_empties (state_of store) sound.standing)

  pub flush_sound : (limit : ℕ) (grouping : Grouping) (store now : S) (out_before out_now : List L) → IsSound holds state_of limit store → WentBy holds state_of hand grouping (flush (state_of store)) now out_before out_now → IsSound holds state_of limit now
  flush_sound limit grouping store now out_before out_now sound went =
      went_sound limit grouping (flush (state_of store)) now out_before out_now went (flush_holds StandsOn stands_on (state_of store) sound.standing) (flush_timed (state_of store) sound.ordered.times) (omega (arith, flush_empties (state_of store) sound.standing))

  -- what a call says of a table by what its store did
  pub stepped : {T E : Type 0} (r : Result T E) (leaving : Leaving) (before : TableState) (now : S) (failed : Bool) (out_before out_now : List L) → before.failed ≡ false → failed ≡ is_err r → OnOk r (WentBy holds state_of hand before.options.grouping leaving now out_before out_now) →
      OnOk r (TableStepped hand leaving before (record { options = before.options; state = state_of now; failed = failed }) out_before out_now)
  stepped (Ok x) leaving before now failed out_before out_now sound ok went = record {
    was_sound = sound;
    state = ap (λ (s : State). record { options = before.options; state = s; failed = failed }) went.state ∙ ap (λ (b : Bool). record { options = before.options; state = leaving.state; failed = b }) ok;
    groups = went.groups;
  }
  stepped (Err e) leaving before now failed out_before out_now sound ok went = went

  pub failed_on : {T E : Type 0} (r : Result T E) (leaving : Leaving) (before : TableState) (now : S) (failed : Bool) (out_before out_now : List L) → failed ≡ is_err r → OnErr r (AddsPart hand before.options.grouping leaving out_before out_now) →
      OnErr r (TableFailed hand leaving before (record { options = before.options; state = state_of now; failed = failed }) out_before out_now)
  failed_on (Ok x) leaving before now failed out_before out_now err part = part
  failed_on (Err e) leaving before now failed out_before out_now err part = record { options = refl; failed = err; gains = part }
