use Rattle.std.proofs.Common.{true, List, [], ◌∷◌, ◌++◌, ap, ◌∙◌, arith}
use Rattle.ring_layout.specs.declared.steps.Sought.TheVariants as soughts
use Rattle.ring_layout.specs.declared.item.Item.TheVariants as items
use Rattle.run_sources.proofs.ItemLemmas.{at_items, lost_items, seek_sought}
use Rattle.run_sources.proofs.live_items.seek.Goals as goal

pub returns-in-At-clause-met : goal.returns-in-At-clause-met
returns-in-At-clause-met c = rw c.next_number-due.ensures (at_items c.in-At.segment c.in-At.place c.in-At.number c.args.pass.now c.seek.new.self c.in-At.ensures.sought)

pub returns-in-At-clause-behind : goal.returns-in-At-clause-behind
returns-in-At-clause-behind c = seek_sought c.args.pass.now (soughts.At c.in-At.segment c.in-At.place c.in-At.number) c.seek.new.self c.requires.lost c.in-At.ensures.sought

pub returns-in-Lost-clause-met : goal.returns-in-Lost-clause-met
returns-in-Lost-clause-met c = lost_items c.in-Lost.at c.in-Lost.seen c.args.pass.now c.seek.new.self c.in-Lost.ensures.sought.0

pub returns-in-Lost-clause-behind : goal.returns-in-Lost-clause-behind
returns-in-Lost-clause-behind c = seek_sought c.args.pass.now (soughts.Lost c.in-Lost.at c.in-Lost.seen) c.seek.new.self c.requires.lost c.in-Lost.ensures.sought
