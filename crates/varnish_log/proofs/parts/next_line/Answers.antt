use Rattle.std.proofs.Common.{arith}
use Rattle.varnish_log.proofs.PartLemmas.{line_next, no_end_next, no_line_next}
use Rattle.varnish_log.proofs.parts.next_line.Goals as goal

pub returns-in-Some : goal.returns-in-Some
returns-in-Some c = c.line_part.ensures c.args.bytes.now (line_next c.args.how c.args.bytes.now c.in-Some.line.now c.in-Some.behind.now c.requires c.in-Some.ensures.some)

pub returns-in-None : goal.returns-in-None
returns-in-None c = no_line_next c.args.how c.args.bytes.now c.requires c.in-None.ensures.none (omega (arith, c.if-bytes-lt-CAPACITY.true))

pub returns-in-None-2 : goal.returns-in-None-2
returns-in-None-2 c = no_end_next c.args.how c.args.bytes.now c.requires c.in-None-2.ensures.none (omega (arith, c.if-bytes-lt-CAPACITY.false))
