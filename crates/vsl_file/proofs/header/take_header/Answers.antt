use Rattle.std.proofs.Common.{List, ℕ, length, arith}
use Rattle.vsl_file.specs.declared.header.Header.TheVariants.{Missing}
use Rattle.vsl_file.specs.inside.ReaderSteps.{Begins}
use Rattle.vsl_file.proofs.HeaderLemmas.{differs_then, short_ends}
use Rattle.vsl_file.proofs.header.take_header.Goals as goal

pub returns-in-Missing-clause-took : goal.returns-in-Missing-clause-took
returns-in-Missing-clause-took g c =
    let held : List ℕ = c.fill_to.new.buffer.items in
    let found : Begins (Missing c.in-Missing.at) held = rw c.as_slice.ensures at (rw c.in-Missing.is at c.look_at_header.ensures) in
    record {
      held = held;
      filled = c.in_ok-fill_to.ensures.filled;
      differs = λ more told. differs_then c.in-Missing.at held more found.0 found.1
          (λ short. short_ends c.in_ok-fill_to.field-0 (length held) _ c.in_ok-fill_to.ensures.enough (λ e. c.in_ok-fill_to.ensures.end e (omega (arith, short, c.requires.most))) short more told);
    }
