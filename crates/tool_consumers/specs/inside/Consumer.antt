-- What the consumer that writes groups as lines or units represents.
use Rattle.std.specs.Prelude.{◌≡◌, ℕ, Bool, List, ◌++◌, length}
use Rattle.std.specs.List.{flat_map}
use Rattle.vsl_record.specs.declared.record_type.Record.{Record}
use Rattle.vsl_file.specs.File.{alone_bytes}
use Rattle.vsl_select.specs.RawLine.{raw_line}
use Rattle.txn_rows.specs.declared.group.Group.{Group}
use Rattle.vsl_dispatch.specs.Received.{HasReceived}
use Rattle.tool_consumers.specs.declared.log_consumer.LogConsumer.{LogConsumer}
use Rattle.tool_consumers.specs.declared.layout.Layout.{Layout}
use Rattle.tool_consumers.specs.declared.layout.Layout.TheVariants.{Lines, Units}
use Rattle.tool_consumers.specs.Output.{laid_out}

-- records of this VXID, each by itself, as they are laid out
abbrev pub raw_written : Layout → ℕ → List Record → List ℕ
raw_written Lines vxid records = flat_map (raw_line vxid) records
raw_written Units vxid records = alone_bytes vxid records

-- it received these groups, and of their text these bytes were taken
pub record IsLog (c : LogConsumer) (groups : List Group) (ended : Bool) (taken : List ℕ) : Type 0 where
  pub count : HasReceived c.received (length groups)
  pub text : taken ++ c.text.items ≡ laid_out c.look groups
