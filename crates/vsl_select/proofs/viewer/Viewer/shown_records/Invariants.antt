-- the shown records so far were copied, by the same selection
use Rattle.std.proofs.Common.{◌≡◌, take}
use Rattle.std.specs.List.{filter}
use Rattle.vsl_select.specs.Shown.{is_shown_record}
use Rattle.vsl_select.proofs.viewer.Viewer.shown_records.Given as goal

abbrev pub invariant-loop-i : goal.invariant-loop-i
invariant-loop-i l = record {
  shown : l.shown ≡ filter (is_shown_record l.initial.self) (take l.i l.records);
  same : l.self ≡ l.initial.self;
}
