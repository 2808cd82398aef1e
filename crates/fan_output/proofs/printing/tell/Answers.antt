use Rattle.std.proofs.Common.{[], ◌∷◌, Err, ap, codes, refl}
use Rattle.vio.specs.declared.world.TheConstants.{ERRORS}
use Rattle.vio.specs.Calls.{Went, Failed, Write}
use Rattle.vio.proofs.CallLemmas.{did_write}
use Rattle.fan_output.specs.Messages.{message_of}
use Rattle.fan_output.proofs.printing.tell.Goals as goal

pub returns-in-Ok : goal.returns-in-Ok
returns-in-Ok g c = record { calls = Write ERRORS (message_of c.args.item.now) Went ∷ []; did = did_write ERRORS (message_of c.args.item.now) Went _ _ c.in-Ok.ensures.ok tt; is = refl }

pub returns-in-Err-Failed : goal.returns-in-Err-Failed
returns-in-Err-Failed g c =
    let w = c.in-Err-Failed.ensures.err in
    record { calls = Write ERRORS w.added (Failed (codes "stderr")) ∷ []; did = did_write ERRORS w.added (Failed (codes "stderr")) _ _ w.wrote (c.in-Err-Failed.ensures.cause (ap Err c.in-Err-Failed.field-0-is)); is = (w.added, w.is, refl) }

pub returns-in-Err-NoMemory : goal.returns-in-Err-NoMemory
returns-in-Err-NoMemory g c =
    let w = c.in-Err-NoMemory.ensures.err in
    record { calls = Write ERRORS w.added Went ∷ []; did = did_write ERRORS w.added Went _ _ w.wrote tt; is = (w.added, w.is.prefix, refl) }
