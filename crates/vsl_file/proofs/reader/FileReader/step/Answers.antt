use Rattle.std.proofs.Common.{◌++◌}
use Rattle.vsl_file.proofs.ReaderStateLemmas.{some_both, stepped_after}
use Rattle.vsl_file.proofs.reader.FileReader.step.Goals as goal

pub returns-clause-stepped : goal.returns-clause-stepped
returns-clause-stepped g c = λ taken units p.
    let b = c.in_ok-version.ensures.began taken units p in
    stepped_after c.take-2.result c.args.self.now c.begin.new.self c.take-2.new.self taken units _ _ _ b c.in_ok-version.ensures.handle (c.take-2.ensures.stepped (taken ++ b.added) units b.represents)

pub returns-clause-reads : goal.returns-clause-reads
returns-clause-reads g c = some_both _ _ _ _ _ c.in_ok-version.ensures.handle c.in_ok-version.ensures.reads c.take-2.ensures.reads
