-- the raw lines of the shown records so far were added, by the same selection
use Rattle.std.proofs.Common.{◌≡◌, ◌++◌, take}
use Rattle.std.specs.List.{filter, flat_map}
use Rattle.vsl_select.specs.RawLine.{raw_line}
use Rattle.vsl_select.specs.Shown.{is_shown_alone}
use Rattle.vsl_select.proofs.raw.put_shown_lines.Given as goal

abbrev pub invariant-loop-i : goal.invariant-loop-i
invariant-loop-i l = record {
  text : l.out.items ≡ l.initial.out.items ++ flat_map (raw_line l.vxid) (filter (is_shown_alone l.initial.viewer) (take l.i l.records));
  same : l.viewer ≡ l.initial.viewer;
}
