-- Handles that stop alone: a write to one of these that fails ends what is written there, and nothing else (this project's choice).
use Rattle.std.specs.Prelude.{ℕ, ◌==◌, ◌&&◌, not, if◌then◌else◌, Bool, true, false, List, [], ◌∷◌}
use Rattle.std.specs.List.{list_all, list_any}
use Rattle.vio.specs.Calls.{Call, Write, has_failed, fails}

-- whether a call writes to one of these handles
abbrev pub writes_one : List ℕ → Call → Bool
writes_one alone (Write h bytes mark) = list_any (λ k. k == h) alone
writes_one alone call = false

-- whether a call failed, and with it all that goes on
abbrev pub ends_all : List ℕ → Call → Bool
ends_all alone call = if writes_one alone call then false else has_failed call

-- whether none of the calls failed so
abbrev pub none_ends : List ℕ → List Call → Bool
none_ends alone calls = list_all (λ call. not (ends_all alone call)) calls

-- whether none of the calls failed so but perhaps the last
abbrev pub last_ends : List ℕ → List Call → Bool
last_ends alone [] = true
last_ends alone (call ∷ []) = true
last_ends alone (call ∷ next ∷ calls) = not (ends_all alone call) && last_ends alone (next ∷ calls)

-- where calls go on none failed so, and else none but perhaps the last; where no handle stops alone that is: none failed, and none but perhaps the last
abbrev pub fails_but : List ℕ → Bool → List Call → Bool
fails_but [] go calls = fails go calls
fails_but (h ∷ alone) go calls = if go then none_ends (h ∷ alone) calls else last_ends (h ∷ alone) calls
