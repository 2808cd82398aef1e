use Rattle.std.proofs.Common.{[], ◌∷◌, ◌++◌, arith}
use Rattle.std.proofs.lemmas.Result.{err_from_is_err_and}
use Rattle.one_run.proofs.RunLemmas.{begun_so}
use Rattle.one_run.proofs.pass.run_on.Goals as goal

pub loop-now-init : goal.loop-now-init
loop-now-init g c = record {
  came = (_, [], [], c.requires.fresh);
  made = λ start before first. ([], begun_so _ _ c.none-met.ensures (λ calls p. g.met.O.Output.takes _ _ calls [] p) first);
  source = c.requires.source;
  output = c.requires.output;
}

pub loop-now-preserved : goal.loop-now-preserved
loop-now-preserved g c =
    let turns = rw c.in-On.is at c.in_ok-now.ensures.turns in
    record {
      came = rw c.in-On.is at c.in_ok-now.ensures.came;
      made = λ start before first.
          let was = c.loop-now.invariant.made start before first in
          let now = turns _ start was.0 before was.1 in
          (was.0 ++ now.0 ∷ [], now.1);
      source = rw c.in-On.is at c.in_ok-now.ensures.source;
      output = rw c.in-On.is at c.in_ok-now.ensures.output;
    }

pub returns-in_err-now-clause-short : goal.returns-in_err-now-clause-short
returns-in_err-now-clause-short g c =
    let p = err_from_is_err_and c.from_residual.result c.from_residual.ensures.1 in
    rw p.1 (λ start before first. let was = c.loop-now.invariant.made start before first in c.in_err-now.ensures.short _ start was.0 before was.1)

pub returns-in-Ended-clause-ran : goal.returns-in-Ended-clause-ran
returns-in-Ended-clause-ran g c = λ start before first.
    let was = c.loop-now.invariant.made start before first in (rw c.in-Ended.is at c.in_ok-now.ensures.turns) _ start was.0 before was.1
