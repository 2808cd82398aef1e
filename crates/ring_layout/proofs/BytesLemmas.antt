-- Words that are read and written in bytes.
use Rattle.std.proofs.Common.{◌≡◌, ℕ, zero, suc, ◌+◌, ◌*◌, ◌<◌, ◌≤◌, List, [], ◌∷◌, ◌++◌, length, take, drop, get_or, set, refl, sym, ap, ◌∙◌, arith, append_assoc, add-zero, add-one}
use Rattle.std.specs.Int.{w32, from_le_bytes, to_le_bytes}
use Rattle.std.proofs.lemmas.List.{length-take-le, drop-drop, get_or-drop, set_split}
use Rattle.vsl_record.specs.Words.{word_bytes, words_in}
use Rattle.vsl_record.proofs.Steps.{IsWords, below_cons}
use Rattle.vsl_record.proofs.WordLemmas.{length-words_in, words_in-take, words_in-drop, words_in-word_bytes}
use Rattle.ring_layout.specs.Stretch.{with_words}

-- the words behind whole words
words_in-append : (k : ℕ) (xs ys : List ℕ) → length xs ≡ 4 * k → words_in (xs ++ ys) ≡ words_in xs ++ words_in ys
words_in-append zero [] ys e = refl
words_in-append zero (a ∷ xs) ys e = absurd (omega arith)
words_in-append (suc k) (a ∷ b ∷ c ∷ d ∷ xs) ys e = ap (λ (ws : List ℕ). from_le_bytes w32 (a ∷ b ∷ c ∷ d ∷ []) ∷ ws) (words_in-append k xs ys (omega arith))
words_in-append (suc k) short ys e = absurd (omega arith)

-- the first word of bytes
first_read : (bytes : List ℕ) → 4 ≤ length bytes → from_le_bytes w32 (get_or bytes 0 0 ∷ get_or bytes 1 0 ∷ get_or bytes 2 0 ∷ get_or bytes 3 0 ∷ []) ≡ get_or (words_in bytes) 0 0
first_read (a ∷ b ∷ c ∷ d ∷ bytes) long = refl
first_read short long = absurd (omega arith)

-- a word is read behind those before it
pub word_read : (bytes behind : List ℕ) (k : ℕ) → behind ≡ drop (4 * k) bytes → 4 ≤ length behind → from_le_bytes w32 (get_or behind 0 0 ∷ get_or behind 1 0 ∷ get_or behind 2 0 ∷ get_or behind 3 0 ∷ []) ≡ get_or (words_in bytes) k 0
word_read bytes behind k e long =
    first_read behind long ∙ (ap (λ (bs : List ℕ). get_or (words_in bs) 0 0) e ∙ (ap (λ (ws : List ℕ). get_or ws 0 0) (words_in-drop k bytes) ∙ (get_or-drop k (words_in bytes) 0 0 ∙ ap (λ (i : ℕ). get_or (words_in bytes) i 0) (add-zero k))))

-- words that are written over others
pub words_written : (bytes new : List ℕ) (k n : ℕ) → IsWords new → length new ≡ n → 4 * (k + n) ≤ length bytes
    → words_in (take (4 * k) bytes ++ (word_bytes new ++ drop (4 * n) (drop (4 * k) bytes))) ≡ with_words k new (words_in bytes)
words_written bytes new k n small size room =
    let before : words_in (take (4 * k) bytes) ≡ take k (words_in bytes) = words_in-take k bytes in
    let behind : words_in (drop (4 * n) (drop (4 * k) bytes)) ≡ drop (k + length new) (words_in bytes) =
    words_in-drop n (drop (4 * k) bytes) ∙ (ap (drop n) (words_in-drop k bytes) ∙ (drop-drop n k (words_in bytes) ∙ ap (λ (m : ℕ). drop (k + m) (words_in bytes)) (sym size))) in
    words_in-append k (take (4 * k) bytes) (word_bytes new ++ drop (4 * n) (drop (4 * k) bytes)) (length-take-le (4 * k) bytes (omega arith))
    ∙ ((λ i. before i ++ words_in-word_bytes new (drop (4 * n) (drop (4 * k) bytes)) small i) ∙ (ap (λ (ws : List ℕ). take k (words_in bytes) ++ (new ++ ws)) behind ∙ sym (append_assoc (take k (words_in bytes)) new (drop (k + length new) (words_in bytes)))))

-- one word that is written over another
pub word_written : (bytes : List ℕ) (k w : ℕ) → w < 4294967296 → 4 * k + 4 ≤ length bytes → words_in (take (4 * k) bytes ++ (to_le_bytes w32 w ++ drop 4 (drop (4 * k) bytes))) ≡ set (words_in bytes) k w
word_written bytes k w small room =
    let size = length-words_in bytes in
    words_written bytes (w ∷ []) k 1 (below_cons 4294967296 w [] small (λ i. omega arith)) refl (omega arith)
    ∙ (append_assoc (take k (words_in bytes)) (w ∷ []) (drop (k + 1) (words_in bytes)) ∙ (ap (λ (m : ℕ). take k (words_in bytes) ++ w ∷ drop m (words_in bytes)) (add-one k) ∙ sym (set_split (words_in bytes) k w (omega arith))))
