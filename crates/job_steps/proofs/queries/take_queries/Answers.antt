-- A query more was taken, or not.
use Rattle.std.proofs.Common.{◌≤◌, ◌<◌, length, ap, arith}
use Rattle.job_steps.proofs.TookLemmas.{err_from}
use Rattle.job_steps.proofs.QueryLemmas.{taken_more, taken_halted, taken_short, joined_short, taken_all, some_held}
use Rattle.job_steps.proofs.queries.take_queries.Goals as goal

pub returns-in_default : goal.returns-in_default
returns-in_default g c = record { took = taken_short c.args.job.now c.loop-index.index _ _ _ c.loop-index.invariant }

pub returns-in_err-query : goal.returns-in_err-query
returns-in_err-query g c =
    let within : c.loop-index.index < length c.args.job.now.queries = omega (arith, ap length c.as_slice-query-items.ensures, c.loop-index-test.true) in
    let is = rw c.as_slice-query-items.ensures at c.query-item.is in
    let took = rw c.in-Ok.ensures.1 at c.in_err-query.ensures.took in
    let halted = taken_halted c.args.job.now c.loop-index.index c.loop-index.found c.query-item.result c.in_err-query.field-0.0 _ _ _ within is c.loop-index.invariant took in
    record { took = rw (err_from c.from_residual.result c.in_err-query.field-0.0 c.from_residual.ensures.1) halted }

pub returns-in_err-join : goal.returns-in_err-join
returns-in_err-join g c =
    let within : c.loop-index.index < length c.args.job.now.queries = omega (arith, ap length c.as_slice-query-items.ensures, c.loop-index-test.true) in
    let is = rw c.as_slice-query-items.ensures at c.query-item.is in
    let took = rw c.in-Ok.ensures.1 at c.in_ok-query.ensures.took in
    record {
      took = rw (err_from c.from_residual-in_err-join.result _ c.from_residual-in_err-join.ensures.1)
          (joined_short c.args.job.now c.loop-index.index c.loop-index.found c.query-item.result c.in_ok-query.query _ _ _ within is c.loop-index.invariant took);
    }

pub loop-index-preserved : goal.loop-index-preserved
loop-index-preserved g c =
    let within : c.loop-index.index < length c.args.job.now.queries = omega (arith, ap length c.as_slice-query-items.ensures, c.loop-index-test.true) in
    let is = rw c.as_slice-query-items.ensures at c.query-item.is in
    let took = rw c.in-Ok.ensures.1 at c.in_ok-query.ensures.took in
    taken_more c.args.job.now c.loop-index.index c.loop-index.found c.query-item.result c.in_ok-query.query c.in_ok-join.field-0 _ _ _ within is c.in_ok-join.ensures c.loop-index.invariant took

pub returns-in-Some : goal.returns-in-Some
returns-in-Some g c =
    let end : length c.args.job.now.queries ≤ c.loop-index.index = omega (arith, ap length c.as_slice-query-items.ensures, c.loop-index-test.false) in
    record { took = taken_all c.args.job.now c.loop-index.index _ c.in-Some.query _ _ end (λ ask p. some_held c.in-Some.query ask p) (rw c.in-Some.is at c.loop-index.invariant) }
