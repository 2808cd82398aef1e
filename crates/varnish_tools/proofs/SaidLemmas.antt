-- The message of a fault, behind the work.
use Rattle.std.proofs.Common.{◌≡◌, List, ℕ, Option, Some, Result, Ok, Err, OnErr, OnOk, sym, subst}
use Rattle.log_model.specs.declared.fault.Halt.{Halt}
use Rattle.log_model.specs.declared.fault.Halt.TheVariants.{Fault, NoMemory}
use Rattle.vio.specs.World.{Seen}
use Rattle.vio.specs.Calls.{Call, Called}
use Rattle.one_command.specs.Promise.{Says, SaysPart}
use Rattle.tool_words.specs.declared.command.Command.{Command}
use Rattle.tool_words.specs.declared.fault.UsageFault.{UsageFault}
use Rattle.tool_words.specs.declared.job.Job.{Job}
use Rattle.tool_words.specs.Command.{command_of}
use Rattle.job_steps.specs.declared.fault.ToolFault.{ToolFault}
use Rattle.job_runs.specs.declared.record.Ran.{Ran}
use Rattle.job_runs.specs.declared.record.RunRecord.{RunRecord}
use Rattle.varnish_tools.specs.Faults.{message}
use Rattle.varnish_tools.specs.Theorem.{LacksMessage, LacksWork, WorksOff}
use Rattle.varnish_tools.specs.inside.Works.{DidWork, IsSettled, IsWorked, SaysPartOf}

-- of the message of a fault
pub part_of : (words : List (List ℕ)) (fault : Option ToolFault) (f : ToolFault) (s t : Seen) → fault ≡ Some f → Called (SaysPart (message words f)) s t → Called (SaysPartOf words fault) s t
part_of words fault f s t is p = record { calls = p.calls; did = p.did; is = (f, is, p.is) }

-- the message was said, or for want of memory a part of it
pub said_so : {A E : Type 0} (r : Result A E) (text written : List ℕ) (s t : Seen) → written ≡ text → OnOk r (Called (Says written) s t) → OnOk r (Called (Says text) s t)
said_so r text written s t is said = subst (λ (x : List ℕ). OnOk r (Called (Says x) s t)) is said

pub part_said : {A E : Type 0} (r : Result A E) (words : List (List ℕ)) (fault : Option ToolFault) (f : ToolFault) (written : List ℕ) (s t : Seen) → fault ≡ Some f → written ≡ message words f → OnErr r (Called (SaysPart written) s t) → OnErr r (Called (SaysPartOf words fault) s t)
part_said (Ok x) words fault f written s t is text part = tt
part_said (Err e) words fault f written s t is text part = part_of words fault f s t is (subst (λ (x : List ℕ). Called (SaysPart x) s t) text part)

-- ---- behind the work

-- the work is settled
pub settled_work : (M : Type 0) (stated : Result Command UsageFault) (worked : Result Ran (Halt ToolFault)) (ran : Ran) (s t : Seen) → IsSettled {M = M} worked (Ok ran) → Called (IsWorked stated t worked) s t → Called (DidWork stated t ran.fault ran.run) s t
settled_work M stated (Ok other) ran s t same p = subst (λ (r : Ran). Called (DidWork stated t r.fault r.run) s t) (sym same) p
settled_work M stated (Err (Fault fault)) ran s t is p = rw (is.0, is.1) p
settled_work M stated (Err NoMemory) ran s t is p = absurd is

pub settled_short : {M : Type 0} (stated : Result Command UsageFault) (worked : Result Ran (Halt ToolFault)) (e : M) (s t : Seen) → IsSettled worked (Err e) → Called (IsWorked stated t worked) s t → Called (LacksWork stated) s t
settled_short stated (Ok other) e s t is p = absurd is
settled_short stated (Err (Fault fault)) e s t is p = absurd is
settled_short stated (Err NoMemory) e s t is p = p

-- what was said behind it
pub works_off : (IsSaid : List Call → Type 0) (stated : Result Command UsageFault) (fault : Option ToolFault) (recorded : RunRecord) (s t u : Seen) → Called (DidWork stated t fault recorded) s t → Called IsSaid t u → WorksOff IsSaid stated fault recorded s u
works_off IsSaid stated fault recorded s t u p q = record { work = p.calls; at = t; did = p.did; works = p.is; said = q.calls; told = q.did; says = q.is }

-- or was not, for want of memory
pub lacks_message : (words : List (List ℕ)) (fault : Option ToolFault) (recorded : RunRecord) (s t u : Seen) → Called (DidWork (command_of words) t fault recorded) s t → Called (SaysPartOf words fault) t u → LacksMessage words s u
lacks_message words fault recorded s t u p q =
    let f = q.is.0 in (f, recorded, works_off (SaysPart (message words f)) (command_of words) (Some f) recorded s t u (subst (λ (x : Option ToolFault). Called (DidWork (command_of words) t x recorded) s t) q.is.1 p) (record { calls = q.calls; did = q.did; is = q.is.2 }))
