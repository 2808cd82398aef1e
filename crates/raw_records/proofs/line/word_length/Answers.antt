use Rattle.std.proofs.Common.{arith, sym, eq-eqb}
use Rattle.std.proofs.lemmas.List.Sums.{position_or_len_is}
use Rattle.raw_records.specs.Lines.{is_space}
use Rattle.raw_records.proofs.line.word_length.Goals as goal

pub returns-then-text-at-eq32-clause-length : goal.returns-then-text-at-eq32-clause-length
returns-then-text-at-eq32-clause-length c = sym (position_or_len_is is_space c.args.text.now c.loop-at.at 0 (omega arith) c.loop-at.invariant (λ _. eq-eqb _ _ c.if-text-at-eq32.true))

pub returns-clause-length : goal.returns-clause-length
returns-clause-length c = sym (position_or_len_is is_space c.args.text.now _ 0 (omega arith) (λ k h. c.loop-at.invariant k (omega arith)) (λ h. absurd (omega arith)))
