use Rattle.std.proofs.Common.{false, [], ap, Ok, refl, inl}
use Rattle.std.proofs.lemmas.Result.{err_from_is_err_and}
use Rattle.one_run.proofs.RunLemmas.{start_so, output_began, short_began, each_ok, each_err}
use Rattle.one_run.proofs.pass.run.Goals as goal

pub run_on-requires : goal.run_on-requires
run_on-requires g c = record { source = c.requires.source; fresh = c.requires.fresh; output = c.in_ok-begin.ensures.ready (ap Ok c.in-None.is) }

pub returns-in_err-begin-clause-short : goal.returns-in_err-begin-clause-short
returns-in_err-begin-clause-short g c =
    let p = err_from_is_err_and c.from_residual.result c.from_residual.ensures.1 in
    let begins = c.in_err-begin.ensures.begins in
    rw p.1 (short_began (g.S.Source.reads c.args.source.now) begins (_, g.met.S.Source.stays _ _ [] begins.calls [] false _ c.requires.fresh begins.on, inl refl))

pub returns-in-None-clause-ran : goal.returns-in-None-clause-ran
returns-in-None-clause-ran g c =
    let begins = rw c.in-None.is at c.in_ok-begin.ensures.begins in
    each_ok c.run_on.result (λ r ran. ran _ _ (start_so (g.S.Source.gave c.args.source.now c.args.source.now) _ _ begins (g.met.S.Source.stays _ _ [] begins.calls [] false _ c.requires.fresh begins.on))) c.run_on.ensures.ran

pub returns-in-None-clause-short : goal.returns-in-None-clause-short
returns-in-None-clause-short g c =
    let begins = rw c.in-None.is at c.in_ok-begin.ensures.begins in
    each_err c.run_on.result (λ ran. ran _ _ (start_so (g.S.Source.gave c.args.source.now c.args.source.now) _ _ begins (g.met.S.Source.stays _ _ [] begins.calls [] false _ c.requires.fresh begins.on))) c.run_on.ensures.short

pub returns-in-Some-clause-ran : goal.returns-in-Some-clause-ran
returns-in-Some-clause-ran g c =
    let begins = rw c.in-Some.is at c.in_ok-begin.ensures.begins in
    output_began _ _ _ _ (g.O.Output.ended c.args.output.now) (g.S.Source.reads c.args.source.now) c.none.result c.in-Some.ending c.none.ensures (_, c.requires.fresh, inl refl) begins
