use Rattle.std.proofs.Common.{ℕ, List, ◌++◌, ap, sym, ◌∙◌}
use Rattle.log_model.proofs.AddingLemmas.{puts_all}
use Rattle.ncsa_format.proofs.DigitLemmas.{quoted_two}
use Rattle.ncsa_format.proofs.civil.put_two.Goals as goal

pub returns : goal.returns
returns c = puts_all (c.in_ok-extend_from_slice.ensures.items ∙ ap (λ (l : List ℕ). c.args.out.now.items ++ l) (rw (c.last_digit.ensures, c.last_digit-2.ensures) (sym (quoted_two c.args.n c.requires))))
