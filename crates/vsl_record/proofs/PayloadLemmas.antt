-- A payload that is read is the payload whose words they are.
use Rattle.std.proofs.Common.{◌≡◌, ℕ, ◌-◌, ◌*◌, ◌^◌, ◌≤◌, true, eqb, List, ◌++◌, length, take, drop, sym, ap, ◌∙◌, arith}
use Rattle.std.specs.List.{list_all}
use Rattle.std.proofs.lemmas.List.{length-drop, length-take-le, take-append-drop}
use Rattle.vsl_words.specs.Words.{packed, words_in, payload_words, is_filled}
use Rattle.vsl_words.proofs.Steps.{IsWords, below_take}
use Rattle.vsl_words.proofs.WordLemmas.{length-word_bytes, word_bytes-small, words_in_again}
use Rattle.vsl_words.proofs.PackedLemmas.{zeros, filling, packed_is, zeros_only, held}
use Rattle.vsl_record.specs.inside.UnitReading.{IsPayloadRead}
pub use Rattle.vsl_words.proofs.PackedLemmas.{length-packed, word_bytes-packed, packed_small, held, held_in, not_filled, PayloadAgain, payload_again}

-- where the filling is zero, the payload's words stand there
pub payload_read : (n : ℕ) (words : List ℕ) → IsWords words → n ≤ 4000 → payload_words n ≤ length words → is_filled n words ≡ true → IsPayloadRead n words (take n (held n words)) (drop (payload_words n) words)
unfolding is_filled
payload_read n words all short enough zero_filled =
    let k : ℕ = payload_words n in
    let bytes : List ℕ = held n words in
    let size : length bytes ≡ 4 * k = length-word_bytes (take k words) ∙ ap (λ (m : ℕ). 4 * m) (length-take-le k words enough) in
    let count : length (take n bytes) ≡ n = length-take-le n bytes (omega arith) in
    let left : length (drop n bytes) ≡ 4 * payload_words (length (take n bytes)) - length (take n bytes) = rw count (omega (arith, length-drop n bytes, size)) in
    let filled : take n bytes ++ filling (take n bytes) ≡ bytes = ap (λ (m : ℕ). take n bytes ++ zeros m) (sym left) ∙ ap (λ (z : List ℕ). take n bytes ++ z) (sym (zeros_only (drop n bytes) zero_filled)) ∙ take-append-drop n bytes in
    let again : words_in bytes ≡ take k words = words_in_again (take k words) (below_take (2 ^ 32) k words (omega arith) all) in
    let is : packed (take n bytes) ≡ take k words = packed_is (take n bytes) ∙ ap words_in filled ∙ again in
    record {
      parts = sym (take-append-drop k words) ∙ ap (λ (ws : List ℕ). ws ++ drop k words) (sym is);
      count = count;
      fits = record { bytes = below_take 256 n bytes (omega arith) (word_bytes-small (take k words)); short = omega (arith, count, short) };
    }

-- so the first of the bytes are the payload
pub payload_taken : (n : ℕ) (words bytes : List ℕ) → IsWords words → n ≤ 4000 → payload_words n ≤ length words → bytes ≡ held n words → list_all (λ b. eqb b 0) (drop n bytes) ≡ true
    → IsPayloadRead n words (take n bytes) (drop (payload_words n) words)
unfolding is_filled
payload_taken n words bytes all short enough is zero_filled = rw is (payload_read n words all short enough (rw is at zero_filled))
