-- the runs so far were added
use Rattle.std.proofs.Common.{◌≡◌, ◌++◌, take}
use Rattle.std.specs.List.{flat_map}
use Rattle.log_model.specs.Prefix.{IsPrefix}
use Rattle.ncsa_format.specs.Line.{piece_text}
use Rattle.ncsa_format.specs.inside.Runs.{pieces_in}
use Rattle.ncsa_format.proofs.lines.put_runs.Given as goal

abbrev pub invariant-loop-run : goal.invariant-loop-run
invariant-loop-run l = record {
  text : l.out.items ≡ l.initial.out.items ++ flat_map (piece_text l.member) (pieces_in (take l.run-index l.runs));
  keeps : IsPrefix l.initial.out.items l.out.items;
}
