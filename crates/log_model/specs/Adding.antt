-- What a call that adds a text to a list leaves (this project's choice).
use Rattle.std.specs.Prelude.{◌≡◌, List, ◌++◌, Result, OnOk, OnErr}
use Rattle.log_model.specs.Prefix.{IsPrefix}

-- a call added this text to a list; where it failed, it added something or nothing
pub record Puts {A E X : Type 0} (result : Result A E) (old new text : List X) : Type 0 where
  pub ok : OnOk result (new ≡ old ++ text)
  pub keeps : IsPrefix old new

-- a call added this text to a list; where it failed, the list is as it was
pub record Adds {A E X : Type 0} (result : Result A E) (old new text : List X) : Type 0 where
  pub ok : OnOk result (new ≡ old ++ text)
  pub err : OnErr result (new ≡ old)
