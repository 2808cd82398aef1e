-- what is there with what is still to be put are the selected counters
use Rattle.std.proofs.Common.{◌≡◌}
use Rattle.serde_json.specs.Data.{no_members}
use Rattle.serde_json.specs.View.{members_view}
use Rattle.vsl_stat.specs.Report as spec
use Rattle.vsl_stat.specs.inside.Selecting.{selected_from}
use Rattle.vsl_stat.proofs.object.counters_value.Given as goal

abbrev pub invariant-loop-which : goal.invariant-loop-which
invariant-loop-which l = spec.by_name l.values (selected_from l.globs l.which) (members_view l.counters.entries) ≡ spec.by_name l.values (spec.selected l.globs) no_members
