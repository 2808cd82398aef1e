use Rattle.std.proofs.Common.{arith}
use Rattle.log_model.proofs.AddingLemmas.{puts_all}
use Rattle.vsl_select.proofs.LineLemmas.{header_cut}
use Rattle.vsl_select.proofs.lines.put_member.Goals as goal

pub returns-then-len-behind-clause-text : goal.returns-then-len-behind-clause-text
returns-then-len-behind-clause-text c =
    puts_all (rw (c.truncate.ensures.items, c.len-before.ensures, c.args.out.now.ok.0)
    (header_cut c.args.verbose c.args.member.now _ c.args.out.now.items c.put_header.new.out.items c.put_records.new.out.items c.in_ok-put_header.ensures.ok c.in_ok-put_records.ensures.text.ok (omega arith)))
