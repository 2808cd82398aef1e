-- How a key is hashed (this project's choice).
use Rattle.std.specs.Prelude.{ℕ, ◌+◌, ◌-◌, ◌*◌, ◌/◌, ◌^◌, List, [], ◌∷◌, bit_and, bit_xor}
use Rattle.std.specs.Int.{w64, from_le_bytes}
use Rattle.vsl_top.specs.declared.hashing.KeyHasher.{KeyHasher}

-- the two halves of the 128 bits of a product, joined by xor
unfoldable pub halves_joined : ℕ → ℕ → ℕ
halves_joined a b = bit_xor (bit_and (a * b) (2 ^ 64 - 1)) (a * b / 2 ^ 64)

-- the hasher after a number
abbrev pub fed_word : KeyHasher → ℕ → KeyHasher
fed_word h word = record h { state = halves_joined (bit_xor h.state word) h.factor }

-- the hasher after some bytes: eight at once, and those that are left one by one
abbrev pub fed : KeyHasher → List ℕ → KeyHasher
fed h (b0 ∷ b1 ∷ b2 ∷ b3 ∷ b4 ∷ b5 ∷ b6 ∷ b7 ∷ bytes) =
    fed (fed_word h (from_le_bytes w64 (b0 ∷ b1 ∷ b2 ∷ b3 ∷ b4 ∷ b5 ∷ b6 ∷ b7 ∷ []))) bytes
fed h (b ∷ bytes) = fed (fed_word h b) bytes
fed h [] = h
