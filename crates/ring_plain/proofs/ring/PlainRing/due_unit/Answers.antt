use Rattle.ring_plain.proofs.DueLemmas.{due_low, found_end, found_unit}
use Rattle.ring_plain.proofs.ring.PlainRing.due_unit.Goals as goal

pub unit_place-start-requires : goal.unit_place-start-requires
unit_place-start-requires c = let due = c.requires.due in due_low c.args.self.now due.0 due.1 due.2 c.args.place due.3

pub returns-then-head-eq-END_MARK : goal.returns-then-head-eq-END_MARK
returns-then-head-eq-END_MARK c = λ log k of_log due. found_end c.args.self.now log k of_log c.args.place _ _ due c.requires.near c.unit_place-start.ensures c.word_at-head.ensures c.if-head-eq-END_MARK.true

pub returns : goal.returns
returns c = λ log k of_log due. found_unit c.args.self.now log k of_log c.args.place _ _ due c.requires.near c.unit_place-start.ensures c.word_at-head.ensures c.if-head-eq-END_MARK.false
