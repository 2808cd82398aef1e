-- The first fault from the left is answered (this project's choice).
use Rattle.std.specs.Prelude.{◌≡◌, ℕ, Bool, true, false, List, ◌++◌, Err}
use Rattle.tool_words.specs.declared.fault.UsageFault.{UsageFault}
use Rattle.tool_words.specs.declared.fault.UsageFault.TheVariants.{UnknownTool, UnknownOption, BadValue, NotHere}
use Rattle.tool_words.specs.Job.{job_of}

-- whether a fault is one word's, so that no later word can mend it
abbrev pub is_of_word : UsageFault → Bool
is_of_word (UnknownTool at) = true
is_of_word (UnknownOption at) = true
is_of_word (BadValue at) = true
is_of_word (NotHere at) = true
is_of_word fault = false

-- a fault of a word is answered whatever words follow
abbrev pub FirstFaultStays : Type 0
FirstFaultStays = (words more : List (List ℕ)) (fault : UsageFault) → is_of_word fault ≡ true →
    job_of words ≡ Err fault → job_of (words ++ more) ≡ Err fault
