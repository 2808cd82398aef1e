-- What the work of a job comes to.
use Rattle.std.specs.Prelude.{List, Result, Ok, Err}
use Rattle.log_model.specs.declared.fault.NoMemory.{NoMemory}
use Rattle.vio.specs.Calls.{Call}
use Rattle.vslog.specs.declared.ended.Ended.{Ended}
use Rattle.vslog.specs.Theorem.{LacksWork, Works}
use Rattle.vslog.specs.Words.{Job}

-- the work was done, or there was no memory for it
abbrev pub IsWorked : Job → Result Ended NoMemory → List Call → Type 0
IsWorked job (Ok ended) calls = Works job ended calls
IsWorked job (Err e) calls = LacksWork job calls
