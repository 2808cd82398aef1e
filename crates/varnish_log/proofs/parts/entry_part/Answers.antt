use Rattle.std.proofs.Common.{sym, ◌∙◌}
use Rattle.varnish_log.proofs.parts.entry_part.Goals as goal

pub returns-in_default : goal.returns-in_default
returns-in_default c = λ bytes filling next. c.left_out.ensures bytes (rw (sym c.tag_at.ensures ∙ c.in_default.is) at next)

pub returns : goal.returns
returns c = λ bytes filling next. c.record_part.ensures bytes (rw c.text_of-text.ensures (rw (sym c.tag_at.ensures ∙ c.in-Some.is) at next))
