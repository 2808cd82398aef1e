-- What was counted, and what the consumer stands for (varnishtop(1), "-1"; this project's choice).
use Rattle.std.specs.Prelude.{◌≡◌, ℕ, zero, suc, Bool, List, ◌++◌, length, Option, None, Some}
use Rattle.indexmap.specs.IndexMap.{IsUnique, get}
use Rattle.txn_rows.specs.declared.group.Group.{Group}
use Rattle.vsl_dispatch.specs.Received.{HasReceived}
use Rattle.vsl_top.specs.Report.{Key, is_same, count_of, keys_of, top_output}
use Rattle.vsl_top.specs.declared.counts.Counts.{Counts}
use Rattle.vsl_top.specs.declared.consumer.TopConsumer.{TopConsumer}

-- a count, where it is above 0
abbrev pub some_count : ℕ → Option ℕ
some_count zero = None
some_count (suc n) = Some (suc n)

-- so often each key was counted; no key has two counts
pub record AreCounted (keys : List Key) (counts : Counts) : Type 0 where
  pub each : (key : Key) → get is_same counts.map key ≡ some_count (count_of key keys)
  pub unique : IsUnique is_same counts.map

-- how many groups the consumer keeps, where there is a limit
abbrev pub keep_of : TopConsumer → Option ℕ
keep_of c = c.received.keep

-- what it writes of groups, ended or not
abbrev pub output_of : TopConsumer → List Group → Bool → List ℕ
output_of c = top_output c.viewer c.first_field

-- it received these groups, ended or not, and of what it writes these bytes were taken
pub record IsTop (c : TopConsumer) (groups : List Group) (ended : Bool) (taken : List ℕ) : Type 0 where
  pub received : HasReceived c.received (length groups)
  pub counted : AreCounted (keys_of c.viewer c.first_field groups) c.counts
  pub text : taken ++ c.text.items ≡ top_output c.viewer c.first_field groups ended
