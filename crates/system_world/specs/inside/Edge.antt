-- What the system's calls answer, as answers of a world (this project's choice).
use Rattle.std.specs.Prelude.{ℕ, ◌+◌, ◌-◌, ◌^◌, min, Bool, true, not, ◌&&◌, nat_eq, nat_lt, if◌then◌else◌, Result, Ok, Err}
use Rattle.std.specs.declared.fs.options.OpenOptions.{OpenOptions}
use Rattle.std.specs.Fs.{new_options}
use Rattle.vio.specs.declared.fault.WorldFault.{WorldFault}
use Rattle.vio.specs.declared.fault.WorldFault.TheVariants.{Failed}

-- the count of faults after a call, by whether it failed; at 2^64 - 1 it stands still
abbrev pub counted : Bool → ℕ → ℕ
counted failed before = if failed then min (before + 1) (2 ^ 64 - 1) else before

-- what a write of a piece of this size answers: the system's count, but a failure where the system answers an error, or that nothing of
-- a piece that isn't empty was written, so that a whole write ends
abbrev pub answer_to_write : {E : Type 0} → Result ℕ E → ℕ → Result ℕ WorldFault
answer_to_write (Ok n) size = if nat_eq n 0 && nat_lt 0 size then Err Failed else Ok n
answer_to_write (Err e) size = Err Failed

-- how a file is opened for writing: created where it isn't there, and then appended to or emptied
abbrev pub creates : Bool → OpenOptions
creates append = record new_options { write = true; create = true; append = append; truncate = not append }
