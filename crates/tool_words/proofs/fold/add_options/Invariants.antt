-- the options so far have changed the job
use Rattle.std.proofs.Common.{◌≡◌}
use Rattle.tool_words.specs.Fold.{with_options}
use Rattle.tool_words.proofs.fold.add_options.Given as goal

abbrev pub invariant-loop-one : goal.invariant-loop-one
invariant-loop-one l = l.job ≡ with_options l.yielded l.initial.job
