-- Rows that are force-completed one after another.
use Rattle.std.proofs.Common.{◌≡◌, ◌+◌, ◌-◌, ◌*◌, ◌<◌, ◌≤◌, ℕ, zero, suc, Bool, true, false, not, ◌&&◌, ◌||◌, eqb, ltb, cond, Option, Some, None, List, [], ◌∷◌, length, map, take, get_or, refl, ap, sym, ◌∙◌, subst, arith}
use Rattle.std.specs.Prelude.{count_by}
use Rattle.std.specs.List.{list_any, list_all, filter}
use Rattle.std.specs.Option.{option_map}
use Rattle.std.proofs.lemmas.Bool.{or_parts, lt-ltb, le-ltb, ltb-false}
use Rattle.std.proofs.lemmas.List.{get_or_default}
use Rattle.std.proofs.lemmas.List.Filters.{sum_by-filter_both}
use Rattle.std.proofs.lemmas.List.Sums.{sum_by-cons, count_by-le-length}
use Rattle.txn_rows.specs.declared.which.Which.{Which}
use Rattle.txn_rows.specs.declared.which.Which.TheVariants.{Unfinished, Late}
use Rattle.txn_rows.specs.declared.group.Group.{Group}
use Rattle.txn_rows.specs.declared.group.Grouping.{Grouping}
use Rattle.txn_rows.specs.declared.group.Cause.{Cause}
use Rattle.txn_rows.specs.declared.group.Cause.TheVariants.{Overflow}
use Rattle.txn_rows.specs.Transaction.{Transaction, forced, oldest, with_oldest}
use Rattle.txn_rows.specs.Time.{second}
use Rattle.txn_rows.specs.Links.{root_of, tree_of}
use Rattle.txn_rows.specs.Grouping.{State, Leaving, nothing_left, then_left, left_by, forced_one, forced_often, forced_down, is_behind, is_unfinished, is_late}
use Rattle.txn_rows.specs.declared.rows.Row.{Row}
use Rattle.txn_rows.specs.Trees.{transaction_of}
use Rattle.txn_rows.specs.inside.Rows.{IsOldestRow}
use Rattle.txn_rows.specs.Store.{WentBy, AddsPart, IsOrdered, test_of}
use Rattle.txn_rows.specs.inside.Steps.{GoesOn, ForcesOn}
use Rattle.txn_rows.specs.Times.{TimesRise, NoneKnown, RiseTo, times_of, IsTimed}
use Rattle.txn_rows.proofs.LineLemmas.{by_cases}
use Rattle.txn_rows.proofs.TakeLemmas.{nothing_step, goes_first, goes_then, part_none}
use Rattle.txn_rows.proofs.TimeLemmas.{one_timed}
use Rattle.txn_rows.proofs.ForceLemmas.{oldest_at}
use Rattle.txn_rows.proofs.ChangeLemmas.{oldest_none_stays}

-- where none passes, nothing happens
none_oldest : (test : Transaction → Bool) (pending : List Transaction) → list_any test pending ≡ false → oldest test pending ≡ None
none_oldest test [] none = refl
none_oldest test (t ∷ pending) none =
    let parts = or_parts (test t) (list_any test pending) none in
    rw (parts.0) (none_oldest test pending parts.1)

pub one_none : (test : Transaction → Bool) (cause : Cause) (state : State) → list_any test state.pending ≡ false → forced_one test cause state ≡ nothing_left state
one_none test cause state none =
    ap (λ (o : Option Transaction). left_by (option_map (forced cause) o) (record state { pending = with_oldest test (forced cause) state.pending })) (none_oldest test state.pending none)
    ∙ ap (λ (ts : List Transaction). nothing_left (record state { pending = ts })) (oldest_none_stays test (forced cause) state.pending (none_oldest test state.pending none))

pub often_none : (n : ℕ) (test : Transaction → Bool) (cause : Cause) (state : State) → list_any test state.pending ≡ false → forced_often n test cause state ≡ nothing_left state
often_none zero test cause state none = refl
often_none (suc n) test cause state none =
    ap (λ (r : Leaving). then_left r (forced_often n test cause)) (one_none test cause state none)
    ∙ often_none n test cause state none

-- those that are force-completed are not meant again
not_again : (which : Which) (cause : Cause) (t : Transaction) → test_of which (forced cause t) ≡ false
not_again Unfinished cause t = refl
not_again (Late seconds now) cause t = refl

pub filter_fewer : (test q : Transaction → Bool) (pending : List Transaction) → count_by test (filter q pending) ≤ count_by test pending
filter_fewer test q pending = omega (arith, sum_by-filter_both q (λ u. not (q u)) (λ u. refl) (λ u. cond (test u) 1 0) pending)

left_fewer : (test : Transaction → Bool) (o : Option Transaction) (state : State) → count_by test (left_by o state).state.pending ≤ count_by test state.pending
left_fewer test None state = omega arith
left_fewer test (Some t) state =
    let root : Transaction = root_of state.pending t in
    by_cases (count_by test (left_by (Some t) state).state.pending ≤ count_by test state.pending) (list_all (λ (u : Transaction). u.ended) (tree_of state.pending root))
    (λ e. rw e (filter_fewer test (λ u. not (eqb (root_of state.pending u).serial root.serial)) state.pending))
    (λ e. rw e (omega arith))

-- one that is force-completed is counted no more
oldest_ends : (which : Which) (cause : Cause) (pending : List Transaction) → count_by (test_of which) (with_oldest (test_of which) (forced cause) pending) ≡ count_by (test_of which) pending - 1
oldest_ends which cause [] = refl
oldest_ends which cause (t ∷ pending) =
    let test : Transaction → Bool = test_of which in
    let p : Transaction → ℕ = λ u. cond (test u) 1 0 in
    let whole = sum_by-cons p t pending in
    let later : List Transaction = with_oldest test (forced cause) pending in
    by_cases (count_by test (with_oldest test (forced cause) (t ∷ pending)) ≡ count_by test (t ∷ pending) - 1) (test t)
    (λ e. let one : p t ≡ 1 = ap (λ (b : Bool). cond b 1 0) e in
    let none : p (forced cause t) ≡ 0 = ap (λ (b : Bool). cond b 1 0) (not_again which cause t) in
    let head = ap (λ (b : Bool). count_by test (cond b (forced cause t ∷ pending) (t ∷ later))) e in
    omega (arith, whole, one, none, head, sum_by-cons p (forced cause t) pending))
    (λ e. let none : p t ≡ 0 = ap (λ (b : Bool). cond b 1 0) e in
    let head = ap (λ (b : Bool). count_by test (cond b (forced cause t ∷ pending) (t ∷ later))) e in
    omega (arith, whole, none, head, sum_by-cons p t later, oldest_ends which cause pending))

pub one_fewer : (which : Which) (cause : Cause) (state : State) → count_by (test_of which) (forced_one (test_of which) cause state).state.pending ≤ count_by (test_of which) state.pending - 1
one_fewer which cause state =
    let test : Transaction → Bool = test_of which in
    let now : State = record state { pending = with_oldest test (forced cause) state.pending } in
    omega (arith, left_fewer test (option_map (forced cause) (oldest test state.pending)) now, oldest_ends which cause state.pending)

-- the oldest that is meant is counted
some_counted : (test : Transaction → Bool) (pending : List Transaction) → list_any test pending ≡ true → 0 < count_by test pending
some_counted test [] some = absurd (cc)
some_counted test (t ∷ pending) some =
    let p : Transaction → ℕ = λ u. cond (test u) 1 0 in
    let whole = sum_by-cons p t pending in
    by_cases (0 < count_by test (t ∷ pending)) (test t)
    (λ e. let one : p t ≡ 1 = ap {B = ℕ} (λ (b : Bool). cond b 1 0) e in omega (arith, whole, one))
    (λ e. let rest : list_any test pending ≡ true = sym (ap (λ (b : Bool). b || list_any test pending) e) ∙ some in
    omega (arith, whole, some_counted test pending rest))

-- what a store names: what is so of it while no call failed, the state that it keeps, and what it hands out for a group
module _ {S L : Type 0} (holds : S → Type 0) (state_of : S → State) (hand : Group → L) where
  -- none was force-completed yet
  pub forces_first : (grouping : Grouping) (which : Which) (rest : ℕ → State → Leaving) (most : ℕ) (store : S) (out : List L) → IsOrdered holds state_of store → most ≡ length (state_of store).pending →
      ForcesOn holds state_of hand grouping which rest (rest (count_by (test_of which) (state_of store).pending) (state_of store)) 0 most store out out
  forces_first grouping which rest most store out ordered is =
      let left : ℕ = count_by (test_of which) (state_of store).pending in
      record {
        ordered = ordered;
        left = left;
        enough = omega arith;
        few = omega (arith, is, count_by-le-length (test_of which) (state_of store).pending);
        on = goes_first holds state_of hand grouping (rest left (state_of store)) out;
      }

  -- where no more are, all were
  pub forces_done : {grouping : Grouping} {which : Which} {rest : ℕ → State → Leaving} {all : Leaving} {turns most : ℕ} {store : S} {out_before out_now : List L} → (on : ForcesOn holds state_of hand grouping which rest all turns most store out_before out_now) →
      rest on.left (state_of store) ≡ nothing_left (state_of store) → WentBy holds state_of hand grouping all store out_before out_now
  forces_done {grouping} {which} {rest} {all} {turns} {most} {store} {out_before} {out_now} on stops =
      on.on.whole store out_now (nothing_step holds state_of hand grouping store out_now (rest on.left (state_of store)) on.ordered.kept stops)

  pub forces_last : {grouping : Grouping} {which : Which} {rest : ℕ → State → Leaving} {all : Leaving} {turns most : ℕ} {store : S} {out_before out_now : List L} → (on : ForcesOn holds state_of hand grouping which rest all turns most store out_before out_now) →
      most ≤ turns → ((state : State) → rest 0 state ≡ nothing_left state) → WentBy holds state_of hand grouping all store out_before out_now
  forces_last {rest = rest} {store = store} on last ends =
      let none : on.left ≡ 0 = omega (arith, last, on.few) in
      forces_done on (ap (λ (n : ℕ). rest n (state_of store)) none ∙ ends (state_of store))

  -- where none is one of those, the last step is the whole rest
  pub forces_end : {grouping : Grouping} {which : Which} {rest : ℕ → State → Leaving} {all : Leaving} {turns most : ℕ} {store : S} {out_before out_now : List L} (cause : Cause) (next : S) (out_next : List L) →
      (on : ForcesOn holds state_of hand grouping which rest all turns most store out_before out_now) → rest on.left (state_of store) ≡ nothing_left (state_of store) → list_any (test_of which) (state_of store).pending ≡ false →
      WentBy holds state_of hand grouping (forced_one (test_of which) cause (state_of store)) next out_now out_next → WentBy holds state_of hand grouping all next out_before out_next
  forces_end {grouping} {which} {store = store} {out_now = out_now} cause next out_next on stops none step =
      on.on.whole next out_next (subst (λ (r : Leaving). WentBy holds state_of hand grouping r next out_now out_next) (one_none (test_of which) cause (state_of store) none ∙ sym stops) step)

  -- one more
  pub forces_more : {grouping : Grouping} {which : Which} {rest : ℕ → State → Leaving} {all : Leaving} {turns most : ℕ} {store : S} {out_before out_now : List L} (cause : Cause) (next : S) (out_next : List L) →
      ForcesOn holds state_of hand grouping which rest all turns most store out_before out_now → list_any (test_of which) (state_of store).pending ≡ true →
      ((n : ℕ) → rest (suc n) (state_of store) ≡ then_left (forced_one (test_of which) cause (state_of store)) (rest n)) →
      WentBy holds state_of hand grouping (forced_one (test_of which) cause (state_of store)) next out_now out_next → ForcesOn holds state_of hand grouping which rest all (turns + 1) most next out_before out_next
  forces_more {grouping} {which} {rest} {all} {turns} {most} {store} {out_before} {out_now} cause next out_next on some goes step =
      let state : State = state_of store in
      let one : Leaving = forced_one (test_of which) cause state in
      let left : ℕ = on.left - 1 in
      let is : on.left ≡ suc left = omega (arith, on.enough, some_counted (test_of which) state.pending some) in
      let rest_is : rest on.left state ≡ then_left one (rest left) = ap (λ (n : ℕ). rest n state) is ∙ goes left in
      record {
        ordered = record { kept = step.kept; times = subst IsTimed (sym step.state) (one_timed (test_of which) cause state on.ordered.times) };
        left = left;
        enough = omega (arith, one_fewer which cause state, ap (λ (s : State). count_by (test_of which) s.pending) step.state, on.enough);
        few = omega (arith, on.few, is);
        on = goes_then holds state_of hand grouping all one (rest left) (subst (λ (r : Leaving). GoesOn holds state_of hand grouping all r out_before out_now) rest_is on.on) step;
      }

  -- the groups so far are a prefix
  pub forces_part : {grouping : Grouping} {which : Which} {rest : ℕ → State → Leaving} {all : Leaving} {turns most : ℕ} {store : S} {out_before out_now : List L} → ForcesOn holds state_of hand grouping which rest all turns most store out_before out_now → AddsPart hand grouping all out_before out_now
  forces_part {grouping} {which} {rest} {all} {turns} {most} {store} {out_before} {out_now} on = on.on.part out_now (part_none hand grouping (rest on.left (state_of store)) out_now)

-- within the limit, nothing more is force-completed
pub down_within : (limit n : ℕ) (state : State) → length state.pending ≤ limit → forced_down limit n state ≡ nothing_left state
down_within limit zero state within = refl
down_within limit (suc n) state within = ap (λ (b : Bool). cond b (then_left (forced_one is_unfinished Overflow state) (forced_down limit n)) (nothing_left state)) (le-ltb limit (length state.pending) within)

pub down_none : (limit n : ℕ) (state : State) → list_any is_unfinished state.pending ≡ false → forced_down limit n state ≡ nothing_left state
down_none limit zero state none = refl
down_none limit (suc n) state none =
    by_cases (forced_down limit (suc n) state ≡ nothing_left state) (ltb limit (length state.pending))
    (λ over. ap (λ (b : Bool). cond b (then_left (forced_one is_unfinished Overflow state) (forced_down limit n)) (nothing_left state)) over
    ∙ ap (λ (r : Leaving). then_left r (forced_down limit n)) (one_none is_unfinished Overflow state none) ∙ down_none limit n state none)
    (λ within. ap (λ (b : Bool). cond b (then_left (forced_one is_unfinished Overflow state) (forced_down limit n)) (nothing_left state)) within)

-- above it, one more is
pub down_over : (limit n : ℕ) (state : State) → limit < length state.pending → forced_down limit (suc n) state ≡ then_left (forced_one is_unfinished Overflow state) (forced_down limit n)
down_over limit n state over = ap (λ (b : Bool). cond b (then_left (forced_one is_unfinished Overflow state) (forced_down limit n)) (nothing_left state)) (lt-ltb limit (length state.pending) over)

-- where all have ended, none is one of those
pub none_meant : (which : Which) (pending : List Transaction) → list_any is_unfinished pending ≡ false → list_any (test_of which) pending ≡ false
none_meant Unfinished pending none = none
none_meant (Late seconds now) [] none = refl
none_meant (Late seconds now) (t ∷ pending) none =
    let parts = or_parts (not t.ended) (list_any is_unfinished pending) none in
    ap (λ (b : Bool). b && is_behind seconds t.time now || list_any (is_late seconds now) pending) parts.0 ∙ none_meant (Late seconds now) pending parts.1

-- what has ended is none of those
ended_unmeant : (which : Which) (t : Transaction) → not t.ended ≡ false → test_of which t ≡ false
ended_unmeant Unfinished t e = e
ended_unmeant (Late seconds now) t e = ap (λ (b : Bool). b && is_behind seconds t.time now) e

-- the oldest that has not ended is the oldest of those, if it is one
pub oldest_meant : (which : Which) (t : Transaction) (pending : List Transaction) → oldest is_unfinished pending ≡ Some t → test_of which t ≡ true → oldest (test_of which) pending ≡ Some t
oldest_meant which t [] first passes = absurd (cc)
oldest_meant which t (u ∷ pending) first passes =
    by_cases (oldest (test_of which) (u ∷ pending) ≡ Some t) (not u.ended)
    (λ q. let same : Some u ≡ Some t = rw q at first in
    let is : u ≡ t = (cc) in
    let here : test_of which u ≡ true = ap (test_of which) is ∙ passes in
    rw here same)
    (λ q. let none : test_of which u ≡ false = ended_unmeant which u q in
    rw none (oldest_meant which t pending (rw q at first) passes))

-- what began later is no further behind
pub behind_later : (seconds old time : ℕ) (now : Option ℕ) → old ≤ time → is_behind seconds (Some old) now ≡ false → is_behind seconds (Some time) now ≡ false
behind_later seconds old time None le e = refl
behind_later seconds old time (Some now) le e =
    let d : ℕ = seconds * second in
    le-ltb (time + d) now (omega (arith, le, ltb-false (old + d) now e))

pub not_behind : (seconds : ℕ) (now : Option ℕ) (t : Transaction) → is_behind seconds t.time now ≡ false → is_late seconds now t ≡ false
not_behind seconds now t e = by_cases (is_late seconds now t ≡ false) (not t.ended) (λ u. ap (λ (b : Bool). b && is_behind seconds t.time now) u ∙ e) (λ u. ap (λ (b : Bool). b && is_behind seconds t.time now) u)

none_late_after : (seconds old high : ℕ) (now : Option ℕ) (pending : List Transaction) → is_behind seconds (Some old) now ≡ false → TimesRise old high (times_of pending) → list_any (is_late seconds now) pending ≡ false
none_late_after seconds old high now [] e r = refl
none_late_after seconds old high now (t ∷ pending) e r =
    let later = behind_later seconds old r.0 now r.2 e in
    ap (λ (b : Bool). b || list_any (is_late seconds now) pending) (not_behind seconds now t (ap (λ (o : Option ℕ). is_behind seconds o now) r.1 ∙ later))
    ∙ none_late_after seconds r.0 high now pending later r.3

none_late_known : (seconds low high : ℕ) (now : Option ℕ) (pending : List Transaction) (t : Transaction) → TimesRise low high (times_of pending) → oldest is_unfinished pending ≡ Some t → is_late seconds now t ≡ false → list_any (is_late seconds now) pending ≡ false
none_late_known seconds low high now [] t r first e = refl
none_late_known seconds low high now (u ∷ pending) t r first e =
    let Goal : Type 0 = list_any (is_late seconds now) (u ∷ pending) ≡ false in
    by_cases Goal (not u.ended)
    (λ q. let same : Some u ≡ Some t = rw q at first in
    let is : u ≡ t = (cc) in
    let here : is_behind seconds u.time now ≡ false = sym (ap (λ (b : Bool). b && is_behind seconds u.time now) q) ∙ ap (is_late seconds now) is ∙ e in
    none_late_after seconds r.0 high now (u ∷ pending) (ap (λ (o : Option ℕ). is_behind seconds o now) (sym r.1) ∙ here) (r.0, r.1, omega arith, r.3))
    (λ q. ap (λ (b : Bool). b && is_behind seconds u.time now || list_any (is_late seconds now) pending) q ∙ none_late_known seconds r.0 high now pending t r.3 (rw q at first) e)

none_late_unknown : (seconds : ℕ) (now : Option ℕ) (pending : List Transaction) → NoneKnown (times_of pending) → list_any (is_late seconds now) pending ≡ false
none_late_unknown seconds now [] n = refl
none_late_unknown seconds now (t ∷ pending) n =
    ap (λ (b : Bool). b || list_any (is_late seconds now) pending) (not_behind seconds now t (ap (λ (o : Option ℕ). is_behind seconds o now) n.0))
    ∙ none_late_unknown seconds now pending n.1

none_late : (seconds : ℕ) (now time : Option ℕ) (pending : List Transaction) (t : Transaction) → RiseTo time (times_of pending) → oldest is_unfinished pending ≡ Some t → is_late seconds now t ≡ false → list_any (is_late seconds now) pending ≡ false
none_late seconds now None pending t h first e = none_late_unknown seconds now pending h
none_late seconds now (Some high) pending t h first e = none_late_known seconds 0 high now pending t h first e

-- the oldest that has not ended began no later than the log time
rise_le : (low high : ℕ) (times : List (Option ℕ)) → TimesRise low high times → low ≤ high
rise_le low high [] r = r
rise_le low high (told ∷ times) r = omega (arith, r.2, rise_le r.0 high times r.3)

began_before : (low high time : ℕ) (pending : List Transaction) (t : Transaction) → TimesRise low high (times_of pending) → oldest is_unfinished pending ≡ Some t → t.time ≡ Some time → time ≤ high
began_before low high time [] t r first is = absurd (cc)
began_before low high time (u ∷ pending) t r first is =
    by_cases (time ≤ high) (not u.ended)
    (λ q. let same : Some u ≡ Some t = rw q at first in
    let here : u ≡ t = (cc) in
    let times : Some r.0 ≡ Some time = sym r.1 ∙ ap (λ (x : Transaction). x.time) here ∙ is in
    let at : r.0 ≡ time = (cc) in
    omega (arith, at, rise_le r.0 high (times_of pending) r.3))
    (λ q. began_before r.0 high time pending t r.3 (rw q at first) is)

-- where that isn't late, one that begins isn't
pub begins_in_time : (seconds time : ℕ) (now log : Option ℕ) (pending : List Transaction) (t : Transaction) → RiseTo log (times_of pending) → oldest is_unfinished pending ≡ Some t → t.time ≡ Some time → is_behind seconds (Some time) now ≡ false → is_behind seconds log now ≡ false
begins_in_time seconds time now None pending t h first is e = refl
begins_in_time seconds time now (Some high) pending t h first is e = behind_later seconds time high now (began_before 0 high time pending t h first is) e

-- the oldest of those is one, and so some are
pub oldest_passes : (test : Transaction → Bool) (t : Transaction) (pending : List Transaction) → oldest test pending ≡ Some t → test t ≡ true
oldest_passes test t [] first = absurd (cc)
oldest_passes test t (u ∷ pending) first =
    by_cases (test t ≡ true) (test u)
    (λ q. let same : Some u ≡ Some t = rw q at first in
    let is : u ≡ t = (cc) in
    ap test (sym is) ∙ q)
    (λ q. oldest_passes test t pending (rw q at first))

pub oldest_some : (test : Transaction → Bool) (t : Transaction) (pending : List Transaction) → oldest test pending ≡ Some t → list_any test pending ≡ true
oldest_some test t [] first = absurd (cc)
oldest_some test t (u ∷ pending) first =
    by_cases (list_any test (u ∷ pending) ≡ true) (test u)
    (λ q. rw q refl)
    (λ q. rw q (oldest_some test t pending (rw q at first)))

-- where the oldest that has not ended is none of those, none is
pub first_not_meant : (which : Which) (time : Option ℕ) (t : Transaction) (pending : List Transaction) → RiseTo time (times_of pending) → oldest is_unfinished pending ≡ Some t → test_of which t ≡ false → list_any (test_of which) pending ≡ false
first_not_meant Unfinished time t pending h first e = absurd (let both : true ≡ false = sym (oldest_passes is_unfinished t pending first) ∙ e in cc)
first_not_meant (Late seconds now) time t pending h first e = none_late seconds now time pending t h first e

-- the same of rows
pub row_meant : (which : Which) (at : ℕ) (rows : List Row) (row : Row) → IsOldestRow is_unfinished at rows → row ≡ get_or rows at row → test_of which (transaction_of row) ≡ true → IsOldestRow (test_of which) at rows
row_meant which at rows row is read passes = record {
  within = is.within;
  passes = λ d. ap (λ (r : Row). test_of which (transaction_of r)) (get_or_default rows at d row is.within ∙ sym read) ∙ passes;
  none_before = none_meant which (map transaction_of (take at rows)) is.none_before;
}

pub row_not_meant : (which : Which) (time : Option ℕ) (at : ℕ) (rows : List Row) (row : Row) → RiseTo time (times_of (map transaction_of rows)) → IsOldestRow is_unfinished at rows → row ≡ get_or rows at row → test_of which (transaction_of row) ≡ false → list_any (test_of which) (map transaction_of rows) ≡ false
row_not_meant which time at rows row h is read e = first_not_meant which time (transaction_of row) (map transaction_of rows) h (oldest_at is_unfinished at rows row is read) e

-- the oldest row that passes is there
pub row_some : (test : Transaction → Bool) (at : ℕ) (rows : List Row) → IsOldestRow test at rows → list_any test (map transaction_of rows) ≡ true
row_some test at [] is = absurd (omega (arith, is.within))
row_some test at (first ∷ rest) is =
    let rows : List Row = first ∷ rest in
    let row : Row = get_or rows at first in
    oldest_some test (transaction_of row) (map transaction_of rows) (oldest_at test at rows row is (sym (get_or_default rows at row first is.within)))
