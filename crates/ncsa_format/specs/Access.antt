-- What the consumer of varnishncsa represents (this project's choice).
use Rattle.std.specs.Prelude.{◌≡◌, ℕ, Bool, List, ◌++◌, length, Option}
use Rattle.txn_rows.specs.declared.group.Group.{Group}
use Rattle.vsl_dispatch.specs.Received.{HasReceived}
use Rattle.ncsa_format.specs.Line.{access_text}
use Rattle.ncsa_format.specs.declared.consumer.NcsaConsumer.{NcsaConsumer}

-- how many groups the consumer keeps, where there is a limit
abbrev pub keep_of : NcsaConsumer → Option ℕ
keep_of c = c.received.keep

-- what it writes of groups, the same where they have ended
abbrev pub output_of : NcsaConsumer → List Group → Bool → List ℕ
output_of c groups ended = access_text c.format c.sides groups

-- it received these groups, ended or not, and of what it writes these bytes were taken
pub record IsAccessLog (c : NcsaConsumer) (groups : List Group) (ended : Bool) (taken : List ℕ) : Type 0 where
  pub received : HasReceived c.received (length groups)
  pub text : taken ++ c.text.items ≡ access_text c.format c.sides groups
