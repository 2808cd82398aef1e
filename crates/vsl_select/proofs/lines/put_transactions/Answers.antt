use Rattle.std.proofs.Common.{arith}
use Rattle.log_model.proofs.AddingLemmas.{puts_all}
use Rattle.vsl_select.specs.Shown.{shown_members}
use Rattle.vsl_select.proofs.LineLemmas.{line_ends, no_line}
use Rattle.vsl_select.proofs.lines.put_transactions.Goals as goal

pub returns-in_ok-put_byte-clause-text : goal.returns-in_ok-put_byte-clause-text
returns-in_ok-put_byte-clause-text c = puts_all (line_ends c.args.verbose (shown_members c.args.viewer.now c.args.members.now) c.args.out.now.items c.put_members.new.out.items c.put_byte.new.out.items c.in_ok-put_members.ensures.text.ok (omega arith) c.in_ok-put_byte.ensures.ok)

pub returns-else-len-before-clause-text : goal.returns-else-len-before-clause-text
returns-else-len-before-clause-text c = puts_all (no_line c.args.verbose (shown_members c.args.viewer.now c.args.members.now) c.args.out.now.items c.put_members.new.out.items c.in_ok-put_members.ensures.text.ok (omega arith))
