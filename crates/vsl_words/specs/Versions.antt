-- What tells the versions of a unit's words apart (this project's choice). They have one layout: a version says how many words
-- an id takes, which tells whose a record is. Version 1 is read alone, version 2 is read and written.
use Rattle.std.specs.Prelude.{ℕ, ◌+◌, ◌*◌, ◌/◌, ◌%◌, List, [], ◌∷◌, slice_index}
use Rattle.vsl_words.specs.declared.version.Version.{Version}
use Rattle.vsl_words.specs.declared.version.Version.TheVariants.{One, Two}

-- how many words an id takes
abbrev pub id_size : Version → ℕ
id_size One = 1
id_size Two = 2

-- one more than the highest VXID: all bits of an id but the two highest are the VXID's
abbrev pub vxid_end_of : Version → ℕ
vxid_end_of One = 1073741824
vxid_end_of Two = 4611686018427387904

-- the most words that a unit has
abbrev pub most_words_of : Version → ℕ
most_words_of One = 1048576
most_words_of Two = 2097152

-- the words of an id, its lowest 32 bits first
abbrev pub id_words : Version → ℕ → List ℕ
id_words One id = id ∷ []
id_words Two id = id % 4294967296 ∷ id / 4294967296 ∷ []

-- the id that begins words
abbrev pub id_in : Version → List ℕ → ℕ
id_in One words = slice_index words 0
id_in Two words = slice_index words 0 + 4294967296 * slice_index words 1
