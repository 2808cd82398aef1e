-- the records so far that are shown were added, each by itself, by the same selection
use Rattle.std.proofs.Common.{◌≡◌, ◌++◌, take}
use Rattle.std.specs.List.{filter}
use Rattle.vsl_file.specs.File.{alone_bytes}
use Rattle.vsl_select.specs.Shown.{is_shown_alone}
use Rattle.tool_consumers.proofs.layout.put_shown_alone.Given as goal

abbrev pub invariant-loop-i : goal.invariant-loop-i
invariant-loop-i l = record {
  text : l.out.items ≡ l.initial.out.items ++ alone_bytes l.vxid (filter (is_shown_alone l.initial.viewer) (take l.i l.records));
  same : l.viewer ≡ l.initial.viewer;
}
