-- the units of the members so far that are shown were added, by the same selection
use Rattle.std.proofs.Common.{◌≡◌, ◌++◌, take}
use Rattle.std.specs.List.{flat_map}
use Rattle.vsl_file.specs.File.{log_bytes}
use Rattle.vsl_select.specs.FileUnits.{units_of}
use Rattle.vsl_select.specs.Shown.{shown_members}
use Rattle.txn_rows.specs.declared.group.Member.{Member}
use Rattle.tool_consumers.proofs.layout.put_group_units.Given as goal

abbrev pub invariant-loop-member : goal.invariant-loop-member
invariant-loop-member l = record {
  text : l.out.items ≡ l.initial.out.items ++ log_bytes (flat_map (λ (m : Member). units_of m.vxid m.records) (shown_members l.initial.viewer (take l.member-index l.member-items)));
  same : l.viewer ≡ l.initial.viewer;
}
