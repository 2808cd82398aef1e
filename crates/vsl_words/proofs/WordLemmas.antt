-- Words and bytes: four bytes a word, and back.
use Rattle.std.proofs.Common.{◌≡◌, ℕ, zero, suc, ◌*◌, ◌/◌, ◌^◌, ◌<◌, List, [], ◌∷◌, ◌++◌, length, take, drop, refl, sym, ap, ◌∙◌, arith}
use Rattle.std.specs.Int.{w32, to_le_bytes, from_le_bytes}
use Rattle.std.proofs.lemmas.Nat.{le_bytes_4, from_le_bytes-to_le_bytes_4}
use Rattle.std.proofs.lemmas.List.{append-nil}
use Rattle.vsl_words.specs.Words.{word_bytes, words_in}
use Rattle.vsl_words.proofs.Steps.{IsBytes, IsWords, below_cons}

pub four_more : (k : ℕ) → 4 * suc k ≡ suc (suc (suc (suc (4 * k))))
four_more k = omega arith

pub length-words_in : (bytes : List ℕ) → length (words_in bytes) ≡ length bytes / 4
length-words_in (a ∷ b ∷ c ∷ d ∷ bytes) = omega (arith, length-words_in bytes)
length-words_in short = refl

pub length-word_bytes : (words : List ℕ) → length (word_bytes words) ≡ 4 * length words
length-word_bytes [] = refl
length-word_bytes (w ∷ words) = omega (arith, length-word_bytes words)

-- the words of bytes are words
pub words_in-small : (bytes : List ℕ) → IsBytes bytes → IsWords (words_in bytes)
words_in-small (a ∷ b ∷ c ∷ d ∷ bytes) all =
    below_cons (2 ^ 32) _ (words_in bytes) (omega (arith, all 0, all 1, all 2, all 3)) (words_in-small bytes (λ i. all (suc (suc (suc (suc i))))))
words_in-small short all = λ i. omega arith

-- the bytes of words are bytes
pub word_bytes-small : (words : List ℕ) → IsBytes (word_bytes words)
word_bytes-small [] i = omega arith
word_bytes-small (w ∷ words) zero = omega arith
word_bytes-small (w ∷ words) (suc zero) = omega arith
word_bytes-small (w ∷ words) (suc (suc zero)) = omega arith
word_bytes-small (w ∷ words) (suc (suc (suc zero))) = omega arith
word_bytes-small (w ∷ words) (suc (suc (suc (suc i)))) = word_bytes-small words i

-- the words of the first bytes are the first words, and those of the others the others
pub words_in-take : (k : ℕ) (bytes : List ℕ) → words_in (take (4 * k) bytes) ≡ take k (words_in bytes)
words_in-take zero bytes = refl
words_in-take (suc k) (a ∷ b ∷ c ∷ d ∷ bytes) = rw (four_more k) (ap (λ (xs : List ℕ). from_le_bytes w32 (a ∷ b ∷ c ∷ d ∷ []) ∷ xs) (words_in-take k bytes))
words_in-take (suc k) short = rw (four_more k) refl

pub words_in-drop : (k : ℕ) (bytes : List ℕ) → words_in (drop (4 * k) bytes) ≡ drop k (words_in bytes)
words_in-drop zero bytes = refl
words_in-drop (suc k) (a ∷ b ∷ c ∷ d ∷ bytes) = rw (four_more k) (words_in-drop k bytes)
words_in-drop (suc k) short = rw (four_more k) refl

-- the words of words' bytes are these words, whatever follows
pub words_in-word_bytes : (words bytes : List ℕ) → IsWords words → words_in (word_bytes words ++ bytes) ≡ words ++ words_in bytes
words_in-word_bytes [] bytes all = refl
words_in-word_bytes (w ∷ words) bytes all =
    let first : from_le_bytes w32 (to_le_bytes w32 w) ≡ w = from_le_bytes-to_le_bytes_4 w (all 0) in
    ap (λ (x : ℕ). x ∷ words_in (word_bytes words ++ bytes)) first ∙ ap (λ (xs : List ℕ). w ∷ xs) (words_in-word_bytes words bytes (λ i. all (suc i)))

pub words_in_again : (words : List ℕ) → IsWords words → words_in (word_bytes words) ≡ words
words_in_again words all = ap words_in (sym (append-nil (word_bytes words))) ∙ words_in-word_bytes words [] all ∙ append-nil words

-- four numbers below 256 are bytes
four_bytes : (a b c d : ℕ) → a < 256 → b < 256 → c < 256 → d < 256 → IsBytes (a ∷ b ∷ c ∷ d ∷ [])
four_bytes a b c d p q r s = below_cons 256 a (b ∷ c ∷ d ∷ []) p (below_cons 256 b (c ∷ d ∷ []) q (below_cons 256 c (d ∷ []) r (below_cons 256 d [] s (λ i. omega arith))))

-- bytes in whole words are the bytes of their words
pub word_bytes-words_in : (count : ℕ) (bytes : List ℕ) → length bytes ≡ 4 * count → IsBytes bytes → word_bytes (words_in bytes) ≡ bytes
word_bytes-words_in count [] e all = refl
word_bytes-words_in zero (a ∷ bytes) e all = absurd (omega arith)
word_bytes-words_in (suc count) (a ∷ b ∷ c ∷ d ∷ bytes) e all =
    let first : to_le_bytes w32 (from_le_bytes w32 (a ∷ b ∷ c ∷ d ∷ [])) ≡ a ∷ b ∷ c ∷ d ∷ [] = le_bytes_4 (a ∷ b ∷ c ∷ d ∷ []) _ refl (four_bytes a b c d (all 0) (all 1) (all 2) (all 3)) refl in
    let after = word_bytes-words_in count bytes (omega arith) (λ i. all (suc (suc (suc (suc i))))) in
    ap (λ (prefix : List ℕ). prefix ++ word_bytes (words_in bytes)) first ∙ ap (λ (more : List ℕ). a ∷ b ∷ c ∷ d ∷ more) after
word_bytes-words_in (suc count) short e all = absurd (omega arith)
