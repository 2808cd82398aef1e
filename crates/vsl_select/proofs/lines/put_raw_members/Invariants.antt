-- the raw lines of the shown members so far were added, by the same selection
use Rattle.std.proofs.Common.{◌≡◌, ◌++◌, take}
use Rattle.std.specs.List.{flat_map}
use Rattle.vsl_select.specs.Lines.{member_raw_lines}
use Rattle.vsl_select.specs.Shown.{shown_members}
use Rattle.vsl_select.proofs.lines.put_raw_members.Given as goal

abbrev pub invariant-loop-member : goal.invariant-loop-member
invariant-loop-member l = record {
  text : l.out.items ≡ l.initial.out.items ++ flat_map member_raw_lines (shown_members l.initial.viewer (take l.member-index l.members));
  same : l.viewer ≡ l.initial.viewer;
}
