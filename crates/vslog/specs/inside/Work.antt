-- What the steps of the work come to.
use Rattle.std.specs.Prelude.{◌≡◌, List, []}
use Rattle.vio.specs.Calls.{Call}
use Rattle.vslog.specs.declared.work.Ends.{Ends}
use Rattle.vslog.specs.Theorem.{Begun}
use Rattle.vslog.specs.Words.{Job}

-- the work was begun, between these handles
abbrev pub IsBegun : Job → Ends → List Call → Type 0
IsBegun job ends calls = Begun job (λ input output rest. (input ≡ ends.input) × (output ≡ ends.output) ×
    (rest ≡ [])) calls
