-- the rows so far do not have the command
use Rattle.std.proofs.Common.{◌≡◌, drop}
use Rattle.vtools.specs.Asked.{help_in}
use Rattle.vtools.proofs.texts.help_in.Given as goal

abbrev pub invariant-loop-row : goal.invariant-loop-row
invariant-loop-row l = help_in (λ row. row.0) (λ row. row.1.now) (drop l.row-index l.rows) l.command ≡ help_in (λ row. row.0) (λ row. row.1.now) l.rows l.command
