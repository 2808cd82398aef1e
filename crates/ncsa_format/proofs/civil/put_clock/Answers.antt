use Rattle.std.proofs.Common.{ℕ, List, ◌++◌, ap, sym, ◌∙◌}
use Rattle.log_model.proofs.AddingLemmas.{puts_all}
use Rattle.ncsa_format.proofs.DigitLemmas.{quoted_clock}
use Rattle.ncsa_format.proofs.civil.put_clock.Goals as goal

pub returns : goal.returns
returns c = puts_all (c.in_ok-extend_from_slice.ensures.items ∙ ap (λ (l : List ℕ). c.args.out.now.items ++ l) (rw (c.last_digit.ensures, c.last_digit-2.ensures, c.last_digit-3.ensures, c.last_digit-4.ensures, c.last_digit-5.ensures, c.last_digit-6.ensures) (sym (quoted_clock c.args.second))))
