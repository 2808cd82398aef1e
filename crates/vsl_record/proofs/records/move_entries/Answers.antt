use Rattle.std.proofs.lemmas.List.Edits.{map_over_more}
use Rattle.vsl_record.specs.inside.Blocks.{moved}
use Rattle.vsl_record.proofs.records.move_entries.Goals as goal

pub loop-i-preserved : goal.loop-i-preserved
loop-i-preserved c = map_over_more (moved c.args.from c.args.base) c.args.entries.now c.loop-i.entries c.loop-i.i c.index-entries-i.result c.loop-i-test.true c.loop-i.invariant c.index-entries-i.is
