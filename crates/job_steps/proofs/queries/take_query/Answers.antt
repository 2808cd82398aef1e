use Rattle.std.proofs.Common.{◌≡◌, true, false, ℕ}
use Rattle.std.specs.Global.{Vec}
use Rattle.job_steps.proofs.QueryLemmas.{word_took, file_read, file_took}
use Rattle.job_steps.proofs.queries.take_query.Goals as goal

pub returns-then-not-query : goal.returns-then-not-query
returns-then-not-query g c =
    let word : c.args.query.now.file ≡ false = let is = c.if-not-query.true in cc in
    let parsed = rw c.as_bytes.ensures at c.parse_text.ensures.parsed in
    let refused = rw c.as_bytes.ensures at c.parse_text.ensures.refused in
    record { took = word_took c.args.caseless c.args.index c.args.query.now c.parse_text.result _ word parsed refused }

pub returns-in-Ok : goal.returns-in-Ok
returns-in-Ok g c =
    let file : c.args.query.now.file ≡ true = let is = c.if-not-query.false in cc in
    let read = rw c.as_str.ensures at c.in-Ok.ensures.reads in
    let parsed = rw c.deref.ensures.value at c.parse_text-in-Ok.ensures.parsed in
    let refused = rw c.deref.ensures.value at c.parse_text-in-Ok.ensures.refused in
    record { took = file_read c.args.caseless c.args.index c.args.query.now c.in-Ok.bytes.items c.parse_text-in-Ok.result _ _ file read parsed refused }

pub returns-in-Err : goal.returns-in-Err
returns-in-Err g c =
    let file : c.args.query.now.file ≡ true = let is = c.if-not-query.false in cc in
    let stops = rw c.as_str.ensures at c.in-Err.ensures.stops in
    let lacks = rw c.as_str.ensures at c.in-Err.ensures.lacks in
    let fault = rw c.as_str-in-Err.ensures at c.file_halt.ensures.fault in
    record { took = file_took (Vec ℕ) c.args.caseless c.args.index c.args.query.now c.in-Err.halt c.file_halt.result _ _ file stops lacks fault c.file_halt.ensures.memory }
