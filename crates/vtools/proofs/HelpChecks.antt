-- The helps: each command has its row.
use Rattle.std.proofs.Common.{refl}
use Rattle.std.specs.Option.{IsSome}
use Rattle.tool_words.specs.declared.commands.CommandName.{CommandName}
use Rattle.tool_words.specs.declared.commands.CommandName.TheVariants as commands
use Rattle.tool_words.specs.declared.job.Tool.TheVariants as tools
use Rattle.vtools.specs.Asked.{help_row}

pub each_row : (command : CommandName) → IsSome (help_row command)
each_row (commands.Tool tools.Log) = refl
each_row (commands.Tool tools.Ncsa) = refl
each_row (commands.Tool tools.Top) = refl
each_row (commands.Tool tools.Stat) = refl
each_row commands.Convert = refl
