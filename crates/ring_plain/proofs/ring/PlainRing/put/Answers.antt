use Rattle.std.proofs.Common.{rules, arith}
use Rattle.vsl_words.specs.declared.version.Version.TheVariants.{Two}
use Rattle.vsl_record.proofs.UnitReadingLemmas.{length_unit_words-at_least}
use Rattle.ring_plain.proofs.RingLemmas.{put_log}
use Rattle.ring_plain.proofs.ring.PlainRing.put.Goals as goal

pub place_after-requires-clause-some : goal.place_after-requires-clause-some
place_after-requires-clause-some c = omega (arith, length_unit_words-at_least Two c.args.unit.now c.is_unit.ensures, c.words-words.ensures.words)

pub returns-clause-put : goal.returns-clause-put
returns-clause-put c = λ log h. rw c.store.ensures (put_log c.args.self.now log c.args.unit.now c.is_unit.ensures (search rules) (search rules) h)
