-- A file that is found by its name and read whole (this project's choice).
use Rattle.std.specs.Prelude.{◌≡◌, ℕ, ◌<◌, ◌≤◌, ◌⊎◌, List, [], ◌∷◌, length}
use Rattle.vio.specs.declared.fault.NamedFault.{NamedFault}
use Rattle.vio.specs.declared.fault.NamedFault.TheVariants.{NoOpen, Failed, TooLarge}
use Rattle.vio.specs.World.{Opening}
use Rattle.vio.specs.Calls.{Went, MetEnd, Call, Take, Open, Refuse, Lack}
use Rattle.vio.specs.Calls as calling

-- the file of this name was opened and read to its end, and these are its bytes, which are within the limit
abbrev pub IsReadBy : ℕ → List ℕ → List ℕ → List Call → Type 0
IsReadBy limit name bytes calls = (h : ℕ) × (calls ≡ Open name h ∷ Take h bytes MetEnd ∷ []) × (length bytes ≤ limit)

-- the file of this name wasn't read: it couldn't be opened, a read failed, or it has more bytes than the limit
abbrev pub IsRefusedBy : ℕ → List ℕ → NamedFault → List Call → Type 0
IsRefusedBy limit name NoOpen calls = calls ≡ Refuse Opening name ∷ []
IsRefusedBy limit name Failed calls = (h : ℕ) × (bytes : List ℕ) × (calls ≡ Open name h ∷ Take h bytes (calling.Failed name) ∷ [])
IsRefusedBy limit name TooLarge calls = (h : ℕ) × (bytes : List ℕ) × (calls ≡ Open name h ∷ Take h bytes Went ∷ []) × (limit < length bytes)

-- there was no memory to open the file of this name, or to read it
abbrev pub IsLackedBy : List ℕ → List Call → Type 0
IsLackedBy name calls = (calls ≡ Lack ∷ []) ⊎ ((h : ℕ) × (bytes : List ℕ) × (calls ≡ Open name h ∷ Take h bytes Went ∷ []))
