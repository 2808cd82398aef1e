-- what is shown of records by themselves is written as those that are shown, which are all where nothing is hidden
use Rattle.std.proofs.Common.{◌≡◌, ap, sym, ◌∙◌}
use Rattle.tool_consumers.specs.inside.Consumer.{raw_written}
use Rattle.tool_consumers.proofs.ConsumerLemmas.{raw_laid}
use Rattle.tool_consumers.proofs.layout.put_raw.Goals as goal

pub returns-then-shows_everything-clause-text : goal.returns-then-shows_everything-clause-text
returns-then-shows_everything-clause-text c =
    let all = rw c.selection.ensures at (c.shows_everything.ensures.alone c.if-shows_everything.true c.args.unit.now.records) in
    rw (ap (raw_written c.args.look.now.layout c.args.unit.now.vxid) (sym all) ∙ raw_laid c.args.look.now c.args.unit.now) at c.put_every_raw.ensures

pub returns-clause-text : goal.returns-clause-text
returns-clause-text c = rw (raw_laid c.args.look.now c.args.unit.now) at c.put_shown_raw.ensures.text
