use Rattle.std.proofs.Common.{rules, sym, refl}
use Rattle.vsl_top.proofs.CountLemmas.{counted_again}
use Rattle.vsl_top.proofs.counts.Counts.add.Goals as goal

pub returns-clause-counted : goal.returns-clause-counted
returns-clause-counted c = λ keys so_far. counted_again keys c.args.self.now _ _ c.in-Some.field-0-1.now c.in-Some.index c.in-Some.count.now c.in_ok-more.more so_far
    (sym c.in-Some.ensures.key) (sym c.in-Some.ensures.value) c.in-Some.ensures.entry (search (rules, c.checked_add.ensures, c.in_ok-more.ensures)) refl
