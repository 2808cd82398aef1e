-- An id has as many words as its version says, and is read again.
use Rattle.std.proofs.Common.{◌≡◌, ℕ, ◌+◌, ◌*◌, ◌/◌, ◌%◌, ◌^◌, ◌<◌, ◌≤◌, List, [], ◌∷◌, ◌++◌, length, drop, refl, arith}
use Rattle.vsl_words.specs.declared.version.Version.{Version}
use Rattle.vsl_words.specs.declared.version.Version.TheVariants.{One, Two}
use Rattle.vsl_words.specs.Versions.{id_size, vxid_end_of, most_words_of, id_words, id_in}
use Rattle.vsl_words.proofs.Steps.{IsWords, below_cons}

no_words : IsWords []
no_words i = omega arith

pub id_words-small : (v : Version) (id : ℕ) → id < vxid_end_of v * 4 → IsWords (id_words v id)
id_words-small One id small = below_cons (2 ^ 32) id [] (omega arith) no_words
id_words-small Two id small = below_cons (2 ^ 32) (id % 4294967296) (id / 4294967296 ∷ []) (omega arith) (below_cons (2 ^ 32) (id / 4294967296) [] (omega arith) no_words)

pub length-id_words : (v : Version) (id : ℕ) → length (id_words v id) ≡ id_size v
length-id_words One id = refl
length-id_words Two id = refl

pub id_again : (v : Version) (id : ℕ) (rest : List ℕ) → id_in v (id_words v id ++ rest) ≡ id
id_again One id rest = refl
id_again Two id rest = omega arith

-- words that are enough are those of the id that begins them, and others
pub id_spelled : (v : Version) (words : List ℕ) → IsWords words → id_size v ≤ length words → words ≡ id_words v (id_in v words) ++ drop (id_size v) words
id_spelled One [] all enough = absurd (omega (arith, enough))
id_spelled One (w ∷ words) all enough = refl
id_spelled Two [] all enough = absurd (omega (arith, enough))
id_spelled Two (w ∷ []) all enough = absurd (omega (arith, enough))
id_spelled Two (w ∷ x ∷ words) all enough =
    let low : w ≡ (w + 4294967296 * x) % 4294967296 = omega (arith, all 0) in
    let high : x ≡ (w + 4294967296 * x) / 4294967296 = omega (arith, all 0) in
    (λ i. low i ∷ high i ∷ words)

-- the most words of a version are no more than those of version 2
pub most_small : (v : Version) → most_words_of v ≤ 2097152
most_small One = omega arith
most_small Two = omega arith

pub id_size-few : (v : Version) → id_size v ≤ 2
id_size-few One = omega arith
id_size-few Two = omega arith

pub id_size-some : (v : Version) → 1 ≤ id_size v
id_size-some One = omega arith
id_size-some Two = omega arith

-- a VXID of an id is in range
pub id_below : (v : Version) (id : ℕ) → id % vxid_end_of v < vxid_end_of v
id_below One id = omega arith
id_below Two id = omega arith
