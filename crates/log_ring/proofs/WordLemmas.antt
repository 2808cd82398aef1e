-- Words of the table that are read alike.
use Rattle.std.proofs.Common.{◌≡◌, ◌⊎◌, ℕ, ◌+◌, ◌*◌, ◌%◌, ◌<◌, ◌≤◌, List, length, get_or, set, sym, ◌∙◌, subst, ⊎_elim, arith, mod-lt, get_or-set_same, get_or-set_other}
use Rattle.vsl_record.specs.Unit.{LogUnit, Log}
use Rattle.ring_layout.specs.Content.{HoldsLog, HoldsNumbers, HasStored}
use Rattle.ring_layout.specs.Places.{start_at}
use Rattle.ring_layout.proofs.LapLemmas.{in_lap, in_stretch}
use Rattle.ring_layout.proofs.AgreedLemmas.{Set}
use Rattle.log_ring.specs.declared.rule.Progress.{Progress}
use Rattle.log_ring.specs.declared.rule.Progress.TheVariants.{Free, Storing, Stored}
use Rattle.log_ring.specs.inside.Rule.{IsUnderWay, IsNumbering}

-- the starts of segments and the ring's words that a table has
abbrev pub ent : List ℕ → ℕ → ℕ
ent ws i = get_or ws (9 + i) 0

abbrev pub word : List ℕ → ℕ → ℕ
word ws i = get_or ws (32 + i) 0

abbrev pub num : List ℕ → ℕ → ℕ
num ws i = get_or ws (18 + i) 0

-- the starts of segments, their numbers and the ring's words are the same
pub record SameRing (ws ws' : List ℕ) : Type 0 where
  pub ents : (i : ℕ) → i < 8 → ent ws' i ≡ ent ws i
  pub nums : (i : ℕ) → i < 8 → num ws' i ≡ num ws i
  pub words : (i : ℕ) → word ws' i ≡ word ws i

-- a store in one of the other words
pub beside : (ws : List ℕ) (i x : ℕ) → (i < 9) ⊎ (i ≡ 17) → SameRing ws (set ws i x)
beside ws i x there = record {
  ents = λ j l. get_or-set_other ws i (9 + j) x 0 (λ e. ⊎_elim (λ (a : i < 9). omega arith) (λ (b : i ≡ 17). omega arith) there);
  nums = λ j l. get_or-set_other ws i (18 + j) x 0 (λ e. ⊎_elim (λ (a : i < 9). omega arith) (λ (b : i ≡ 17). omega arith) there);
  words = λ j. get_or-set_other ws i (32 + j) x 0 (λ e. ⊎_elim (λ (a : i < 9). omega arith) (λ (b : i ≡ 17). omega arith) there);
}

-- the start of a segment is stored
pub start_set : (ws : List ℕ) (s x : ℕ) → s < 8 → 9 + s < length ws → Set (ent ws) (ent (set ws (9 + s) x)) s x
start_set ws s x low inside = record {
  here = get_or-set_same ws (9 + s) x 0 inside;
  else = λ j ne. get_or-set_other ws (9 + s) (9 + j) x 0 (λ e. ne (omega arith));
}

-- the number of a segment's first unit is stored
pub number_set : (ws : List ℕ) (s x : ℕ) → s < 8 → 18 + s < length ws → Set (num ws) (num (set ws (18 + s) x)) s x
number_set ws s x low inside = record {
  here = get_or-set_same ws (18 + s) x 0 inside;
  else = λ j ne. get_or-set_other ws (18 + s) (18 + j) x 0 (λ e. ne (omega arith));
}

-- a word of the ring is stored
pub word_set : (ws : List ℕ) (i x : ℕ) → 32 + i < length ws → Set (word ws) (word (set ws (32 + i) x)) i x
word_set ws i x inside = record {
  here = get_or-set_same ws (32 + i) x 0 inside;
  else = λ j ne. get_or-set_other ws (32 + i) (32 + j) x 0 (λ e. ne (omega arith));
}

module _ (words : LogUnit → List ℕ) (seg : ℕ) where
  pub holds_as : (log : Log) (c : ℕ) (e e' w w' : ℕ → ℕ) → ((i : ℕ) → i < 8 → e' i ≡ e i) → ((i : ℕ) → w' i ≡ w i) → HoldsLog words seg log c e w → HoldsLog words seg log c e' w'
  holds_as log c e e' w w' ents same h = record {
    segment_starts = λ s p l m i. ents (s % 8) (mod-lt s (omega arith)) ∙ h.segment_starts s p l m i;
    word_at = λ q x i m. same (q % (8 * seg)) ∙ h.word_at q x i m;
  }

  pub numbers_as : (log : Log) (c : ℕ) (n n' : ℕ → ℕ) → ((i : ℕ) → i < 8 → n' i ≡ n i) → HoldsNumbers words seg log c n → HoldsNumbers words seg log c n'
  numbers_as log c n n' same h = λ s l m. same (s % 8) (mod-lt s (omega arith)) ∙ h s l m

  pub numbering_as : (log : Log) (h : Progress) (n n' : ℕ → ℕ) → ((i : ℕ) → i < 8 → n' i ≡ n i) → IsNumbering words seg log h n → IsNumbering words seg log h n'
  numbering_as log Free n n' same h = h
  numbering_as log (Storing p) n n' same h = (h.0, λ s l b m. same (s % 8) (mod-lt s (omega arith)) ∙ h.1 s l b m)
  numbering_as log (Stored p) n n' same h = h

  pub stored_as : (log : Log) (u : LogUnit) (a m k : ℕ) (e e' w w' : ℕ → ℕ) → ((i : ℕ) → i < 8 → e' i ≡ e i) → ((i : ℕ) → w' i ≡ w i) → HasStored words seg log u a m k e w → HasStored words seg log u a m k e' w'
  stored_as log u a m k e e' w w' ents same h = record {
    segment_starts = λ s p l b i. ents (s % 8) (mod-lt s (omega arith)) ∙ h.segment_starts s p l b i;
    stored = λ j l b. same _ ∙ h.stored j l b;
    marked = λ z. same _ ∙ h.marked z;
  }

  pub under_way_as : (log : Log) (c : ℕ) (h : Progress) (e e' w w' : ℕ → ℕ) → ((i : ℕ) → i < 8 → e' i ≡ e i) → ((i : ℕ) → w' i ≡ w i) → IsUnderWay words seg log c h e w → IsUnderWay words seg log c h e' w'
  under_way_as log c Free e e' w w' ents same h = h
  under_way_as log c (Storing p) e e' w w' ents same h = (h.0, h.1, h.2, h.3, stored_as log p.unit p.start p.word p.mark e e' w w' ents same h.4)
  under_way_as log c (Stored p) e e' w w' ents same h = h

-- the words of a unit that is put at a tail lie one behind the other
pub put_index : (seg t w j start : ℕ) → 0 < seg → w ≤ seg → start ≡ start_at seg t w → j < w → (start + j) % (8 * seg) ≡ start % (8 * seg) + j
put_index seg t w j start pos fits is below =
    let room : start % (8 * seg) + w < 8 * seg = subst (λ (z : ℕ). z % (8 * seg) + w < 8 * seg) (sym is) (in_stretch seg t w pos fits) in in_lap start j (8 * seg) (omega arith)
