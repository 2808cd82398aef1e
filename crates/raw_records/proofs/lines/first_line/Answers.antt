use Rattle.std.proofs.Common.{arith, length}
use Rattle.std.proofs.lemmas.List.{take_all, drop_all}
use Rattle.raw_records.proofs.LineLemmas.{line_first, line_last, line_shorter}
use Rattle.raw_records.proofs.lines.first_line.Goals as goal

pub returns-in-Some-clause-first : goal.returns-in-Some-clause-first
returns-in-Some-clause-first c = line_first c.args.bytes.now _ _ c.in-Some.ensures.some

pub returns-in-Some-clause-shorter : goal.returns-in-Some-clause-shorter
returns-in-Some-clause-shorter c = line_shorter c.args.bytes.now _ _ c.in-Some.ensures.some

pub returns-in-None-clause-first : goal.returns-in-None-clause-first
returns-in-None-clause-first c =
    let bytes = c.args.bytes.now in
    rw (c.split_at.ensures.front, c.split_at.ensures.back, take_all (length bytes) bytes (omega arith), drop_all (length bytes) bytes (omega arith)) (line_last bytes c.in-None.ensures.none c.requires)
