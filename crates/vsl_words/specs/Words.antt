-- Words and bytes (this project's choice). All words are 32-bit numbers.
use Rattle.std.specs.Prelude.{ℕ, ◌+◌, ◌*◌, ◌/◌, ◌==◌, Bool, List, [], ◌∷◌, take, drop}
use Rattle.std.specs.List.{flat_map, list_all}
use Rattle.std.specs.Int.{w32, to_le_bytes, from_le_bytes}

-- a word made of four bytes, the lowest first
abbrev pub word_of : ℕ → ℕ → ℕ → ℕ → ℕ
word_of a b c d = a + 256 * b + 65536 * c + 16777216 * d

-- the words of a payload: four bytes a word, the lowest first, and the last word filled with zero bytes
abbrev pub packed : List ℕ → List ℕ
packed [] = []
packed (a ∷ []) = word_of a 0 0 0 ∷ []
packed (a ∷ b ∷ []) = word_of a b 0 0 ∷ []
packed (a ∷ b ∷ c ∷ []) = word_of a b c 0 ∷ []
packed (a ∷ b ∷ c ∷ d ∷ bytes) = word_of a b c d ∷ packed bytes

-- the bytes of a list of words, the lowest byte of each word first
abbrev pub word_bytes : List ℕ → List ℕ
word_bytes words = flat_map (to_le_bytes w32) words

-- the words of a list of bytes: four bytes a word, the lowest first; one to three bytes at the end are no word
abbrev pub words_in : List ℕ → List ℕ
words_in [] = []
words_in (a ∷ []) = []
words_in (a ∷ b ∷ []) = []
words_in (a ∷ b ∷ c ∷ []) = []
words_in (a ∷ b ∷ c ∷ d ∷ bytes) = from_le_bytes w32 (a ∷ b ∷ c ∷ d ∷ []) ∷ words_in bytes

-- how many words a payload of so many bytes takes
abbrev pub payload_words : ℕ → ℕ
payload_words bytes = (bytes + 3) / 4

-- whether the bytes that fill the last word of a payload of so many bytes, whose words begin these, are zero
unfoldable pub is_filled : ℕ → List ℕ → Bool
is_filled bytes words = list_all (λ b. b == 0) (drop bytes (word_bytes (take (payload_words bytes) words)))
