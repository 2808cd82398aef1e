use Rattle.vtools.proofs.HelpChecks.{each_row}
use Rattle.vtools.proofs.texts.help_of.Goals as goal

pub returns-in-None-clause-row : goal.returns-in-None-clause-row
returns-in-None-clause-row c = each_row c.args.command
