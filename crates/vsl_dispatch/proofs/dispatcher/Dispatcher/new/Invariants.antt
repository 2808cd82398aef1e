use Rattle.std.proofs.Common.{◌≡◌, map}
use Rattle.vsl_dispatch.specs.Entries.{new_entry}
use Rattle.vsl_dispatch.proofs.dispatcher.Dispatcher.new.Given as goal

abbrev pub invariant-loop-consumer : goal.invariant-loop-consumer
invariant-loop-consumer g l = l.entries.items ≡ map new_entry l.yielded
