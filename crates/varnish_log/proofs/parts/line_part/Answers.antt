use Rattle.std.proofs.Common.{Ok, Err}
use Rattle.raw_records.specs.LineRead.{line_of}
use Rattle.varnish_log.proofs.parts.line_part.Goals as goal

pub returns-in-Ok : goal.returns-in-Ok
returns-in-Ok c = λ bytes next. c.read_part.ensures bytes (next (Ok (line_of c.in-Ok.read)) c.in-Ok.ensures.read)

pub returns-in-Err : goal.returns-in-Err
returns-in-Err c = λ bytes next. c.left_out.ensures bytes (next (Err c.loss_for.result) (c.in-Err.fault, c.in-Err.ensures.why, c.loss_for.ensures))
