use Rattle.run_sources.proofs.ItemLemmas.{next_sought}
use Rattle.run_sources.proofs.live_items.take.Goals as goal

pub returns-clause-behind : goal.returns-clause-behind
returns-clause-behind c = next_sought c.args.pass.now c.next.result c.next.new.self c.requires.reads c.next.ensures.answer c.next.ensures.found
