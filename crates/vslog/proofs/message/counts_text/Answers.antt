use Rattle.std.proofs.Common.{append_assoc}
use Rattle.vslog.proofs.message.counts_text.Goals as goal

pub returns : goal.returns
returns c =
    rw (c.in_ok-put_counted-6.ensures, c.in_ok-put_counted-5.ensures, c.in_ok-put_counted-4.ensures, c.in_ok-put_counted-3.ensures, c.in_ok-put_counted-2.ensures, c.in_ok-put_counted.ensures, c.new-text.ensures.items) (simp append_assoc)
