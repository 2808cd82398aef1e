-- the lines of the shown records so far were added, by the same selection
use Rattle.std.proofs.Common.{◌≡◌, ◌++◌, take}
use Rattle.std.specs.List.{filter, flat_map}
use Rattle.vsl_select.specs.Lines.{record_line}
use Rattle.vsl_select.specs.Shown.{is_shown_record}
use Rattle.vsl_select.proofs.lines.put_records.Given as goal

abbrev pub invariant-loop-i : goal.invariant-loop-i
invariant-loop-i l = record {
  text : l.out.items ≡ l.initial.out.items ++ flat_map (record_line l.verbose l.member) (filter (is_shown_record l.initial.viewer) (take l.i l.records));
  same : l.viewer ≡ l.initial.viewer;
}
