-- what was added and what is still to be added are the report
use Rattle.std.proofs.Common.{◌≡◌, ◌++◌}
use Rattle.std.specs.Option.{option_copied}
use Rattle.std.specs.List.{flat_map}
use Rattle.log_model.specs.Prefix.{IsPrefix}
use Rattle.vsl_stat.specs.inside.Selecting.{selected_from, told_of, told_of_all}
use Rattle.vsl_stat.proofs.report.put_all_told.Given as goal

abbrev pub invariant-loop-which : goal.invariant-loop-which
invariant-loop-which l = record {
  text : l.out.items ++ flat_map (told_of (option_copied l.values)) (selected_from l.globs l.which) ≡ l.initial.out.items ++ told_of_all (option_copied l.values) l.globs;
  keeps : IsPrefix l.initial.out.items l.out.items;
}
