use Rattle.std.proofs.Common.{rules, refl}
use Rattle.ring_plain.proofs.CursorLemmas.{sought}
use Rattle.ring_plain.proofs.cursor.PlainCursor.seek.Goals as goal

pub returns-clause-stands : goal.returns-clause-stands
returns-clause-stands c = λ log of_log. sought c.args.ring.now _ log of_log (search rules) refl (search rules) (search rules)
