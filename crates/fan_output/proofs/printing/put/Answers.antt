use Rattle.std.proofs.Common.{[], ◌∷◌, ap, refl, Err}
use Rattle.vio.specs.Calls.{Went, Failed, Write}
use Rattle.vio.proofs.CallLemmas.{did_write}
use Rattle.fan_output.proofs.printing.put.Goals as goal

pub returns-in-Err-Failed : goal.returns-in-Err-Failed
returns-in-Err-Failed g c = λ name named.
    let w = c.in-Err-Failed.ensures.err in
    record { calls = Write c.args.handle w.added (Failed name) ∷ []; did = did_write c.args.handle w.added (Failed name) _ _ w.wrote ((c.in-Err-Failed.ensures.failed (ap Err c.in-Err-Failed.field-0-is)).each name named); is = (w.added, w.is, refl) }

pub returns-in-Err-NoMemory : goal.returns-in-Err-NoMemory
returns-in-Err-NoMemory g c = λ name named.
    let w = c.in-Err-NoMemory.ensures.err in
    record { calls = Write c.args.handle w.added Went ∷ []; did = did_write c.args.handle w.added Went _ _ w.wrote tt; is = (w.added, w.is.prefix, refl) }
