use Rattle.std.proofs.Common.{arith}
use Rattle.vsl_file.proofs.ReaderLemmas.{Filled-then, sized_more}
use Rattle.vsl_file.proofs.steps.hold_unit.Goals as goal

pub returns-in_err-fill_to-2-clause-filled : goal.returns-in_err-fill_to-2-clause-filled
returns-in_err-fill_to-2-clause-filled g c = Filled-then c.fill_to.ensures.filled c.fill_to-2.ensures.filled

pub returns-then-not-branch-2-clause-filled : goal.returns-then-not-branch-2-clause-filled
returns-then-not-branch-2-clause-filled g c = Filled-then c.fill_to.ensures.filled c.fill_to-2.ensures.filled

pub returns-clause-filled : goal.returns-clause-filled
returns-clause-filled g c = Filled-then c.fill_to.ensures.filled c.fill_to-2.ensures.filled

pub returns-clause-holds : goal.returns-clause-holds
returns-clause-holds g c =
    let sized = rw c.as_slice.ensures at c.in-Some.ensures.some in
    let second = c.fill_to-2.ensures.filled in
    record {
      sized = sized_more c.args.version c.in-Some.size c.fill_to.new.buffer.items c.fill_to-2.new.buffer.items second.added second.is sized;
      enough = c.in_ok-fill_to-2.ensures.enough c.if-not-branch-2.false;
      short = λ small. omega (arith, small, sized.least, c.in_ok-fill_to.ensures.bound, c.in_ok-fill_to-2.ensures.bound);
    }
