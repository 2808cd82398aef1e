use Rattle.varnish_log.proofs.parts.read_part.Goals as goal

pub returns-in-Record : goal.returns-in-Record
returns-in-Record c = λ bytes next. c.record_part.ensures bytes (rw c.in-Record.is at next)
