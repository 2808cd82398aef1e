use Rattle.raw_records.proofs.LineLemmas.{ended}
use Rattle.raw_records.proofs.lines.ended_line.Goals as goal

pub returns-clause-some : goal.returns-clause-some
returns-clause-some c = rw (c.without_return.ensures, c.split_at.ensures.front, c.split_at-2.ensures.back, c.split_at.ensures.back) (ended c.args.bytes.now c.in_ok-at.at c.in_ok-at.ensures)
