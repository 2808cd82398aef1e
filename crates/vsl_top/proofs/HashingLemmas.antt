-- How a key is hashed.
use Rattle.std.proofs.Common.{◌≡◌, ℕ, ◌-◌, ◌<◌, ◌≤◌, List, [], ◌∷◌, length, take, drop, get_or, bit_xor, refl, ap, ◌∙◌, arith}
use Rattle.std.specs.Int.{w64, from_le_bytes}
use Rattle.std.proofs.lemmas.List.{take_all}
use Rattle.vsl_top.specs.declared.hashing.KeyHasher.{KeyHasher}
use Rattle.vsl_top.specs.inside.Hashing.{fed, fed_word, halves_joined}

-- where fewer than eight bytes are left, one is taken in
pub one_byte : (h : KeyHasher) (b : ℕ) (bytes : List ℕ) → length bytes < 7 → fed h (b ∷ bytes) ≡ fed (fed_word h b) bytes
one_byte h b [] few = refl
one_byte h b (c ∷ []) few = refl
one_byte h b (c ∷ d ∷ []) few = refl
one_byte h b (c ∷ d ∷ e ∷ []) few = refl
one_byte h b (c ∷ d ∷ e ∷ f ∷ []) few = refl
one_byte h b (c ∷ d ∷ e ∷ f ∷ g ∷ []) few = refl
one_byte h b (c ∷ d ∷ e ∷ f ∷ g ∷ i ∷ []) few = refl
one_byte h b (c ∷ d ∷ e ∷ f ∷ g ∷ i ∷ j ∷ bytes) few = absurd (omega (arith, few))

-- where eight bytes are left or more, eight are taken in at once
pub eight_bytes : (h : KeyHasher) (bytes : List ℕ) (word state : ℕ) → 8 ≤ length bytes → word ≡ from_le_bytes w64 (get_or bytes 0 0 ∷ get_or bytes 1 0 ∷ get_or bytes 2 0 ∷ get_or bytes 3 0 ∷ get_or bytes 4 0 ∷ get_or bytes 5 0 ∷ get_or bytes 6 0 ∷ get_or bytes 7 0 ∷ [])
    → state ≡ halves_joined (bit_xor h.state word) h.factor → fed (record { state = state; factor = h.factor }) (take (length bytes - 8) (drop 8 bytes)) ≡ fed h bytes
eight_bytes h [] word state enough word_is state_is = absurd (omega (arith, enough))
eight_bytes h (b0 ∷ []) word state enough word_is state_is = absurd (omega (arith, enough))
eight_bytes h (b0 ∷ b1 ∷ []) word state enough word_is state_is = absurd (omega (arith, enough))
eight_bytes h (b0 ∷ b1 ∷ b2 ∷ []) word state enough word_is state_is = absurd (omega (arith, enough))
eight_bytes h (b0 ∷ b1 ∷ b2 ∷ b3 ∷ []) word state enough word_is state_is = absurd (omega (arith, enough))
eight_bytes h (b0 ∷ b1 ∷ b2 ∷ b3 ∷ b4 ∷ []) word state enough word_is state_is = absurd (omega (arith, enough))
eight_bytes h (b0 ∷ b1 ∷ b2 ∷ b3 ∷ b4 ∷ b5 ∷ []) word state enough word_is state_is = absurd (omega (arith, enough))
eight_bytes h (b0 ∷ b1 ∷ b2 ∷ b3 ∷ b4 ∷ b5 ∷ b6 ∷ []) word state enough word_is state_is = absurd (omega (arith, enough))
eight_bytes h (b0 ∷ b1 ∷ b2 ∷ b3 ∷ b4 ∷ b5 ∷ b6 ∷ b7 ∷ bytes) word state enough word_is state_is =
    ap (fed (record { state = state; factor = h.factor })) (take_all (length (b0 ∷ b1 ∷ b2 ∷ b3 ∷ b4 ∷ b5 ∷ b6 ∷ b7 ∷ bytes) - 8) bytes (omega arith))
    ∙ ap (λ (s : ℕ). fed (record { state = s; factor = h.factor }) bytes) (state_is ∙ ap (λ (w : ℕ). halves_joined (bit_xor h.state w) h.factor) word_is)
