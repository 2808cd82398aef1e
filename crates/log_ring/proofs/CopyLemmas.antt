-- The words of a unit that were copied, with one word more.
use Rattle.std.proofs.Common.{◌≡◌, ℕ, zero, suc, ◌+◌, ◌<◌, List, [], ◌∷◌, ◌++◌, length, take, get_or, set, sym, refl, ap, ◌∙◌, arith, length-set, get_or-set_same, get_or-set_other}
use Rattle.atomic_table.specs.Table.{Me}
use Rattle.log_ring.specs.declared.rule.Unchecked.TheVariants.{Words}
use Rattle.log_ring.specs.declared.rule.View.{View}
use Rattle.log_ring.specs.inside.Reading.{reader_of, with_copy, Becomes, LoadsMore}
use Rattle.log_ring.specs.inside.Steps.{HasCopied}

-- the front of words, with the next one written
take_set : (ws : List ℕ) (n x : ℕ) → n < length ws → take (n + 1) (set ws n x) ≡ take n ws ++ x ∷ []
take_set [] n x l = absurd (omega arith)
take_set (w ∷ ws) zero x l = refl
take_set (w ∷ ws) (suc n) x l = let up : suc n + 1 ≡ suc (n + 1) = omega arith in ap (λ (z : ℕ). take z (w ∷ set ws n x)) up ∙ ap (λ (t : List ℕ). w ∷ t) (take_set ws n x (omega arith))

-- the first word
pub copied_first : (head : ℕ) (ws ws' : List ℕ) (me : Me ℕ View) → me.0.readers ≡ reader_of me.0 ∷ [] → (reader_of me.0).unchecked ≡ Words (head ∷ []) → ws' ≡ set ws 0 head → 0 < length ws → HasCopied head 1 ws' me me
copied_first head ws ws' me one unchecked is some_word = record {
  seat = (λ i. (record me.0 { readers = one i }, me.1));
  reader = (λ i. record (reader_of me.0) { unchecked = (unchecked ∙ ap Words (sym (take_set ws 0 head some_word) ∙ ap (take 1) (sym is))) i });
  first = ap (λ (l : List ℕ). get_or l 0 0) is ∙ get_or-set_same ws 0 head 0 some_word;
  long = let l = ap (λ (z : List ℕ). length z) is in let m = length-set ws 0 head in omega arith;
}

-- one word more
pub copied_more : (head n x : ℕ) (ws ws' : List ℕ) (old mid new : Me ℕ View) → HasCopied head n ws old mid → Becomes LoadsMore mid x new → ws' ≡ set ws n x → 0 < n → n < length ws → HasCopied head (n + 1) ws' old new
copied_more head n x ws ws' old mid new h told is behind room = record {
  seat = told.0 ∙ ap (λ (m : Me ℕ View). (record m.0 { readers = reader_of new.0 ∷ [] }, m.1)) h.seat;
  reader = told.1.0 ∙ (ap (with_copy x) h.reader ∙ ap (λ (l : List ℕ). record (reader_of old.0) { unchecked = Words l }) (sym (take_set ws n x room) ∙ ap (take (n + 1)) (sym is)));
  first = ap (λ (l : List ℕ). get_or l 0 0) is ∙ (get_or-set_other ws n 0 x 0 (λ e. omega arith) ∙ h.first);
  long = let l = ap (λ (z : List ℕ). length z) is in let m = length-set ws n x in omega arith;
}
