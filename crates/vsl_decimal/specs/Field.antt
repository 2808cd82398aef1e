-- The fields of a payload (vsl-query(7), "Record selection criteria": fields are separated by white space).
use Rattle.std.specs.Prelude.{ℕ, ◌-◌, ◌==◌, ◌&&◌, ◌||◌, nat_le, if◌then◌else◌, Bool, true, false, List, [], ◌∷◌, Option, None, slice_get}
use Rattle.std.specs.List.{filter}

-- white space is the bytes 9 to 13 and 32 (this project's choice)
abbrev pub is_space : ℕ → Bool
is_space b = (nat_le 9 b && nat_le b 13) || (b == 32)

-- a byte before the first of the parts
abbrev pub onto_first : ℕ → List (List ℕ) → List (List ℕ)
onto_first b [] = (b ∷ []) ∷ []
onto_first b (part ∷ parts) = (b ∷ part) ∷ parts

-- the parts of a text between its white space, empty ones too
abbrev pub parts : List ℕ → List (List ℕ)
parts [] = [] ∷ []
parts (b ∷ text) = if is_space b then [] ∷ parts text else onto_first b (parts text)

-- whether a part has a byte
abbrev pub is_field : List ℕ → Bool
is_field [] = false
is_field (b ∷ part) = true

-- the fields of a text: its parts that have a byte, in order
abbrev pub fields : List ℕ → List (List ℕ)
fields text = filter is_field (parts text)

-- the n-th field, counted from 1, where there are as many
abbrev pub field_of : List ℕ → ℕ → Option (List ℕ)
field_of text n = if n == 0 then None else slice_get (fields text) (n - 1)
