-- A time that was told raises the log time, and reaches nodes that have none.
use Rattle.std.proofs.Common.{◌≡◌, ℕ, true, false, Option, Some, None, List, [], ◌∷◌, map, refl, ap, sym, ◌∙◌, subst}
use Rattle.std.specs.Option.{is_some}
use Rattle.txn_rows.specs.declared.rows.Row.{Row}
use Rattle.txn_rows.specs.Transaction.{Transaction}
use Rattle.txn_rows.specs.Grouping.{State, first_known, timed, raised, with_time, at_time}
use Rattle.txn_rows.specs.Trees.{transaction_of}
use Rattle.txn_rows.specs.inside.Rows.{row_told}
use Rattle.txn_rows.specs.Times.{NoneKnown, RiseTo, times_of, IsTimed}
use Rattle.txn_rows.proofs.StandLemmas.{rows_told}
use Rattle.txn_rows.proofs.TimeLemmas.{time_known}
use Rattle.txn_groups.specs.declared.pending.Pending.{Pending}
use Rattle.txn_groups.specs.inside.Nodes.{listed}
use Rattle.txn_groups.specs.inside.Retold.{AreChanged}
use Rattle.txn_groups.specs.inside.Told.{node_told}
use Rattle.txn_groups.specs.inside.Held.{state_of, IsHeld, HoldsRows, Went}
use Rattle.txn_groups.proofs.TellLemmas.{tells}
use Rattle.txn_groups.proofs.HeldLemmas.{went_by}
use Rattle.txn_groups.proofs.ToldWentLemmas.{told_held}

-- where none has a time, none takes one that is not known
none_stay : (pending : List Transaction) → NoneKnown (times_of pending) → map (timed None) pending ≡ pending
none_stay [] n = refl
none_stay (t ∷ pending) n =
    ap (λ (o : Option ℕ). record t { time = o } ∷ map (timed None) pending) (ap (λ (o : Option ℕ). first_known o None) n.0 ∙ sym n.0)
    ∙ ap (λ (ts : List Transaction). t ∷ ts) (none_stay pending n.1)

-- the log time that is known already changes no transaction
all_stay : (old : Option ℕ) (pending : List Transaction) → RiseTo old (times_of pending) → map (timed old) pending ≡ pending
all_stay None pending h = none_stay pending h
all_stay (Some old) pending h = time_known None (Some old) pending refl h

-- where no transaction takes a time, the log time alone changes
time_went : (now : Option ℕ) (p : Pending) → IsHeld p → map (timed now) (listed p.nodes.items p.order.items) ≡ listed p.nodes.items p.order.items → Went (at_time now (state_of p)) (record p { time = now })
time_went now p held stay = record {
  kept = record { stand = held.stand; are = held.are; index = held.index; free = held.free; counted = held.counted };
  told = ap {B = State} (λ (ts : List Transaction). record { pending = ts; begun = p.begun; time = now }) (sym stay);
}

-- no time was told
pub none_told : (told : Option ℕ) (p : Pending) → is_some told ≡ false → IsHeld p → IsTimed (state_of p) → Went (with_time told (state_of p)) p
none_told None p e held times = time_went p.time p held (all_stay p.time (listed p.nodes.items p.order.items) times)
none_told (Some told) p e held times = absurd (cc)

-- where a time was known, each transaction has one
pub known_raised : (told now : Option ℕ) (p : Pending) → now ≡ raised told p.time → is_some p.time ≡ true → IsHeld p → IsTimed (state_of p) → Went (with_time told (state_of p)) (record p { time = now })
known_raised told now p is known held times =
    subst (λ (t : Option ℕ). Went (with_time told (state_of p)) (record p { time = t })) (sym is)
    (time_went (raised told p.time) p held (time_known told p.time (listed p.nodes.items p.order.items) known times))

-- else each takes the first that is
pub first_raised : (told now : Option ℕ) (p m : Pending) → now ≡ raised told p.time → AreChanged (λ at. node_told (timed now)) p.nodes.items m.nodes.items → m.order.items ≡ p.order.items → m.begun ≡ p.begun → m.index ≡ p.index → m.free ≡ p.free → m.rows ≡ p.rows → m.time ≡ now → IsHeld p → Went (with_time told (state_of p)) m
first_raised told now p m is changed order_is begun_is index_is free_is rows_is time_is held =
    let rows : List Row = held.stand in
    let hold : HoldsRows p rows = record { are = held.are; index = held.index; free = held.free; counted = held.counted } in
    let after : HoldsRows m (map (row_told (timed now)) rows) = told_held (timed now) (λ at. true) (λ row. true) p m rows (record { serial = λ t. refl; vxid = λ t. refl; parent = λ t. refl; ended = λ t. refl }) hold (λ at x row there found. refl) changed order_is begun_is index_is free_is rows_is in
    let told_is : map transaction_of (map (row_told (timed now)) rows) ≡ map (timed now) (listed p.nodes.items p.order.items) =
    rows_told (timed now) (record { serial = λ t. refl; parent = λ t. refl }) rows ∙ ap (map (timed now)) (sym (tells p.begun p.nodes.items p.order.items rows held.are)) in
    subst (λ (t : Option ℕ). Went (at_time t (state_of p)) m) is
    (went_by m (map (row_told (timed now)) rows) (map (timed now) (listed p.nodes.items p.order.items)) p.begun now after told_is begun_is time_is)
