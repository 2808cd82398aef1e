-- The times of pending transactions, which rise in the order in which they began (this project's choice).
use Rattle.std.specs.Prelude.{◌≡◌, ℕ, ◌≤◌, true, false, List, [], ◌∷◌, map, ⊤, Option, Some, None}
use Rattle.std.specs.List.{list_any}
use Rattle.std.specs.Option.{is_some}
use Rattle.txn_rows.specs.Transaction.{Transaction}
use Rattle.txn_rows.specs.Grouping.{State, is_behind, is_late}

-- each time is known, and they rise, from one on and up to another
abbrev pub TimesRise : ℕ → ℕ → List (Option ℕ) → Type 0
TimesRise low high [] = low ≤ high
TimesRise low high (told ∷ times) = (time : ℕ) × (told ≡ Some time) × (low ≤ time) × TimesRise time high times

-- no time is known
abbrev pub NoneKnown : List (Option ℕ) → Type 0
NoneKnown [] = ⊤
NoneKnown (told ∷ times) = (told ≡ None) × NoneKnown times

-- where a log time is known, times are known and rise up to it, else none is known
abbrev pub RiseTo : Option ℕ → List (Option ℕ) → Type 0
RiseTo None times = NoneKnown times
RiseTo (Some now) times = TimesRise 0 now times

-- the times of transactions
abbrev pub times_of : List Transaction → List (Option ℕ)
times_of pending = map (λ t. t.time) pending

-- the times of the pending transactions rise up to the log time
abbrev pub IsTimed : State → Type 0
IsTimed state = RiseTo state.time (times_of state.pending)

-- a log time is known, and up to another neither a transaction that is pending would be late nor one that begins
pub record NoneLateUpTo (seconds last : ℕ) (state : State) : Type 0 where
  pub known : is_some state.time ≡ true
  pub none : (now : ℕ) → now ≤ last → list_any (is_late seconds (Some now)) state.pending ≡ false
  pub begins : (now : ℕ) → now ≤ last → is_behind seconds state.time (Some now) ≡ false
