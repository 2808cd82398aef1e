-- The words of a payload, and reading them again.
use Rattle.std.proofs.Common.{◌≡◌, ℕ, zero, suc, ◌-◌, ◌*◌, ◌≤◌, true, false, eqb, List, [], ◌∷◌, ◌++◌, length, take, drop, get_or, refl, sym, ap, subst, ◌∙◌, arith}
use Rattle.std.specs.Prelude.{replicate}
use Rattle.std.specs.List.{list_all}
use Rattle.std.specs.Int.{w32, from_le_bytes}
use Rattle.std.proofs.lemmas.Bool.{eqb-true, and_parts}
use Rattle.std.proofs.lemmas.List.{length-append, length-replicate, length-take-le, take_at, drop_at}
use Rattle.vsl_words.specs.Words.{word_of, packed, words_in, word_bytes, payload_words, is_filled}
use Rattle.vsl_words.proofs.Steps.{IsBytes, IsWords, below_append, below_take}
use Rattle.vsl_words.proofs.WordLemmas.{four_more, length-words_in, words_in-small, words_in-take, word_bytes-words_in}

-- ---- the words of a payload are those of its bytes and the zero bytes that fill its last word

abbrev pub zeros : ℕ → List ℕ
zeros n = replicate n 0

abbrev pub filling : List ℕ → List ℕ
filling p = zeros (4 * payload_words (length p) - length p)

word_is : (a b c d : ℕ) → word_of a b c d ≡ from_le_bytes w32 (a ∷ b ∷ c ∷ d ∷ [])
word_is a b c d = omega arith

pub packed_is : (p : List ℕ) → packed p ≡ words_in (p ++ filling p)
packed_is [] = refl
packed_is (a ∷ []) = ap (λ (w : ℕ). w ∷ []) (word_is a 0 0 0)
packed_is (a ∷ b ∷ []) = ap (λ (w : ℕ). w ∷ []) (word_is a b 0 0)
packed_is (a ∷ b ∷ c ∷ []) = ap (λ (w : ℕ). w ∷ []) (word_is a b c 0)
packed_is (a ∷ b ∷ c ∷ d ∷ p) =
    let same : 4 * payload_words (length (a ∷ b ∷ c ∷ d ∷ p)) - length (a ∷ b ∷ c ∷ d ∷ p) ≡ 4 * payload_words (length p) - length p = omega arith in
    rw same (ap (λ (w : ℕ). w ∷ packed p) (word_is a b c d) ∙ ap (λ (ws : List ℕ). from_le_bytes w32 (a ∷ b ∷ c ∷ d ∷ []) ∷ ws) (packed_is p))

length-filled : (p : List ℕ) → length (p ++ filling p) ≡ 4 * payload_words (length p)
length-filled p = omega (arith, length-append p (filling p), length-replicate {A = ℕ} (4 * payload_words (length p) - length p) 0)

zeros_small : (n : ℕ) → IsBytes (zeros n)
zeros_small zero i = omega arith
zeros_small (suc n) zero = omega arith
zeros_small (suc n) (suc i) = zeros_small n i

filled_small : (p : List ℕ) → IsBytes p → IsBytes (p ++ filling p)
filled_small p fits = below_append 256 p (filling p) fits (zeros_small _)

pub length-packed : (p : List ℕ) → length (packed p) ≡ payload_words (length p)
length-packed p = omega (arith, ap length (packed_is p), length-words_in (p ++ filling p), length-filled p)

-- the bytes of a payload's words are the payload and the zero bytes that fill the last
pub word_bytes-packed : (p : List ℕ) → IsBytes p → word_bytes (packed p) ≡ p ++ filling p
word_bytes-packed p fits = ap word_bytes (packed_is p) ∙ word_bytes-words_in (payload_words (length p)) (p ++ filling p) (length-filled p) (filled_small p fits)

-- the words of bytes are words
pub packed_small : (p : List ℕ) → IsBytes p → IsWords (packed p)
packed_small p fits = subst IsWords (sym (packed_is p)) (words_in-small (p ++ filling p) (filled_small p fits))

pub zeros_all : (n : ℕ) → list_all (λ b. eqb b 0) (zeros n) ≡ true
zeros_all zero = refl
zeros_all (suc n) = zeros_all n

pub zeros_only : (bytes : List ℕ) → list_all (λ b. eqb b 0) bytes ≡ true → bytes ≡ zeros (length bytes)
zeros_only [] e = refl
zeros_only (b ∷ bytes) e =
    let tests = and_parts (eqb b 0) (list_all (λ b. eqb b 0) bytes) e in
    ap (λ (x : ℕ). x ∷ bytes) (eqb-true _ _ tests.0) ∙ ap (λ (xs : List ℕ). 0 ∷ xs) (zeros_only bytes tests.1)

-- ---- reading them

-- the bytes of the words of a payload of so many bytes, and of the bytes that fill its last word
abbrev pub held : ℕ → List ℕ → List ℕ
held n words = word_bytes (take (payload_words n) words)

-- where those behind so many aren't zero, the last word isn't filled
pub not_filled : (n : ℕ) (words bytes : List ℕ) → bytes ≡ held n words → list_all (λ b. eqb b 0) (drop n bytes) ≡ false → is_filled n words ≡ false
unfolding is_filled
not_filled n words bytes is some = rw is at some

-- what the words of a payload give
pub record PayloadAgain (p words rest : List ℕ) : Type 0 where
  pub payload : take (length p) (held (length p) words) ≡ p
  pub filled : is_filled (length p) words ≡ true
  pub after : drop (payload_words (length p)) words ≡ rest

pub payload_again : (p rest : List ℕ) → IsBytes p → PayloadAgain p (packed p ++ rest) rest
unfolding is_filled
payload_again p rest fits =
    let k : ℕ = payload_words (length p) in
    let held_is : held (length p) (packed p ++ rest) ≡ p ++ filling p =
    ap word_bytes (take_at (packed p) rest k (length-packed p)) ∙ word_bytes-packed p fits in
    record {
      payload = ap (take (length p)) held_is ∙ take_at p (filling p) (length p) refl;
      filled = ap (λ (bytes : List ℕ). list_all (λ b. eqb b 0) (drop (length p) bytes)) held_is ∙ ap (list_all (λ b. eqb b 0)) (drop_at p (filling p) (length p) refl) ∙ zeros_all (4 * payload_words (length p) - length p);
      after = drop_at (packed p) rest k (length-packed p);
    }

-- ---- reading the words of bytes

-- the bytes of a payload and of the filling, where they begin bytes
pub held_in : (n : ℕ) (bytes : List ℕ) → 4 * payload_words n ≤ length bytes → IsBytes bytes → held n (words_in bytes) ≡ take (4 * payload_words n) bytes
held_in n bytes long all =
    let k : ℕ = payload_words n in
    ap word_bytes (sym (words_in-take k bytes)) ∙ word_bytes-words_in k (take (4 * k) bytes) (length-take-le (4 * k) bytes long) (below_take 256 (4 * k) bytes (omega arith) all)

-- ---- a word of a payload

-- it is the first of those behind so many bytes
pub packed_at : (k : ℕ) (bytes : List ℕ) → get_or (packed (drop (4 * k) bytes)) 0 0 ≡ get_or (packed bytes) k 0
packed_at zero bytes = refl
packed_at (suc k) (a ∷ b ∷ c ∷ d ∷ bytes) = rw (four_more k) (packed_at k bytes)
packed_at (suc k) [] = rw (four_more k) refl
packed_at (suc k) (a ∷ []) = rw (four_more k) refl
packed_at (suc k) (a ∷ b ∷ []) = rw (four_more k) refl
packed_at (suc k) (a ∷ b ∷ c ∷ []) = rw (four_more k) refl
