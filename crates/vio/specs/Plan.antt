-- Which calls of a world in memory fail, and how many bytes they move (this project's choice).
use Rattle.std.specs.Prelude.{◌≡◌, ◌==◌, ℕ, ◌+◌, ◌-◌, ◌^◌, min, max, Bool, [], ◌∷◌, ◌++◌}
use Rattle.std.specs.List.{list_any}
use Rattle.vio.specs.declared.file.Plan.{Plan}

-- whether the next call is one that fails; at 2^64 - 1 the count of calls, and so the next call's number, stands still
abbrev pub fails_next : Plan → Bool
fails_next plan = list_any (λ call. call == min (plan.calls + 1) (2 ^ 64 - 1)) plan.failing.items

-- how many bytes a call moves, where it could move so many: at most a piece, which has at least 1 byte, so that reads
-- and writes go on
abbrev pub moved : Plan → ℕ → ℕ
moved plan most = min most (max plan.most 1)

-- no call was made, none is to fail, and a call moves all that it can
pub record HasNoPlan (now : Plan) : Type 0 where
  pub calls : now.calls ≡ 0
  pub failing : now.failing.items ≡ []
  pub most : now.most ≡ 2 ^ 64 - 1

-- the calls that were made, those that are to fail, and the size of a piece are as before
pub record KeepsPlan (before now : Plan) : Type 0 where
  pub calls : now.calls ≡ before.calls
  pub failing : now.failing.items ≡ before.failing.items
  pub most : now.most ≡ before.most

-- the call of one more number is to fail
pub record FailsToo (call : ℕ) (before now : Plan) : Type 0 where
  pub failing : now.failing.items ≡ before.failing.items ++ call ∷ []
  pub calls : now.calls ≡ before.calls
  pub most : now.most ≡ before.most

-- a call moves at most so many bytes
pub record MovesAtMost (most : ℕ) (before now : Plan) : Type 0 where
  pub piece : now.most ≡ most
  pub calls : now.calls ≡ before.calls
  pub failing : now.failing.items ≡ before.failing.items

-- a call was counted; at 2^64 - 1, its last value, the count of calls stands still
pub record CountsCall (before now : Plan) : Type 0 where
  pub calls : now.calls ≡ min (before.calls + 1) (2 ^ 64 - 1)
  pub failing : now.failing.items ≡ before.failing.items
  pub most : now.most ≡ before.most
