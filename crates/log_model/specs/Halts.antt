-- What is said of a call that stopped: by a fault, or for want of memory (this project's choice).
use Rattle.std.specs.Prelude.{Result, Ok, Err}
use Rattle.log_model.specs.declared.fault.Halt.{Halt}
use Rattle.log_model.specs.declared.fault.Halt.TheVariants.{Fault, NoMemory}

-- this holds of its fault, where it stopped by one. Nothing is said of want of memory, which is the one answer that may
-- come at any time
abbrev pub IfFault : {A F : Type 0} → Result A (Halt F) → (F → Type 0) → Type 0
IfFault (Ok x) holds = Unit {0}
IfFault (Err (Fault fault)) holds = holds fault
IfFault (Err NoMemory) holds = Unit {0}

-- this holds where there was no memory
abbrev pub OnShort : {A F : Type 0} → Result A (Halt F) → Type 0 → Type 0
OnShort (Ok x) holds = Unit {0}
OnShort (Err (Fault fault)) holds = Unit {0}
OnShort (Err NoMemory) holds = holds
