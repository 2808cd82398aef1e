-- Worked examples, computed from the definitions.
use Rattle.std.proofs.Common.{◌≡◌, true, false, [], ◌∷◌, refl}
use Rattle.std.specs.Prelude.{codes}
use Rattle.vsl_words.specs.declared.version.Version.TheVariants.{One, Two}
use Rattle.vsl_words.specs.Versions.{id_words, id_in}
use Rattle.vsl_words.specs.Words.{packed, words_in, word_bytes, is_filled}

-- the last word of seven bytes is filled with one
seven_bytes : packed (codes "Rd ping") ≡ 0x70206452 ∷ 0x00676e69 ∷ []
seven_bytes = refl

word_and_rest : words_in (5 ∷ 0 ∷ 0 ∷ 0xfe ∷ 7 ∷ []) ≡ 0xfe000005 ∷ []
word_and_rest = refl

its_bytes : word_bytes (0xfe000005 ∷ []) ≡ 5 ∷ 0 ∷ 0 ∷ 0xfe ∷ []
its_bytes = refl

filled_so : is_filled 7 (0x70206452 ∷ 0x00676e69 ∷ []) ≡ true
unfolding is_filled
filled_so = refl

not_filled_so : is_filled 7 (0x70206452 ∷ 0x01676e69 ∷ []) ≡ false
unfolding is_filled
not_filled_so = refl

-- the id of VXID 2^62 - 1 and the mark of a client has two words, the lower first; in version 1 an id is its one word
two_id_words : id_words Two 0x7fffffffffffffff ≡ 0xffffffff ∷ 0x7fffffff ∷ []
two_id_words = refl

one_id_word : id_words One 0x40000007 ≡ 0x40000007 ∷ []
one_id_word = refl

their_id : id_in Two (7 ∷ 1 ∷ 9 ∷ []) ≡ 4294967303
their_id = refl

first_alone : id_in One (7 ∷ 1 ∷ 9 ∷ []) ≡ 7
first_alone = refl
