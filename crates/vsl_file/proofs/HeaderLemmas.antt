-- The headers of files: whether the bytes begin with one, and the first byte that differs.
use Rattle.std.proofs.Common.{◌≡◌, ◌≢◌, ℕ, zero, suc, ◌<◌, ◌≤◌, ◌⊎◌, inl, inr, Bool, true, false, List, [], ◌∷◌, ◌++◌, length, take, drop, get_or, Option, unwrap_or, refl, sym, ap, subst, ◌∙◌, arith}
use Rattle.std.specs.Prelude.{slice_get}
use Rattle.std.proofs.lemmas.Bool.{cases_eq, cases_lt, cases_order}
use Rattle.std.proofs.lemmas.List.{append-nil, take-append-drop, take-append-le}
use Rattle.std.proofs.lemmas.Option.{slice_get_past, slice_get-get_or, unwrap_or-slice_get}
use Rattle.std.proofs.Math.Seq.{take-suc}
use Rattle.vsl_words.specs.declared.version.Version.{Version}
use Rattle.vsl_words.specs.declared.version.Version.TheVariants.{One, Two}
use Rattle.vsl_file.specs.File.{file_header_of, DiffersFrom, DiffersFirst}

pub length-header : (v : Version) → length (file_header_of v) ≡ 8
length-header One = refl
length-header Two = refl

-- bytes are of one version
pub one_version : (v w : Version) (a b : List ℕ) → file_header_of v ++ a ≡ file_header_of w ++ b → v ≡ w
one_version One One a b e = refl
one_version One Two a b e = absurd (omega (arith, ap (λ (x : List ℕ). get_or x 6 0) e))
one_version Two One a b e = absurd (omega (arith, ap (λ (x : List ℕ). get_or x 6 0) e))
one_version Two Two a b e = refl

-- an element of a list is one of those that it begins
slice_get-append : (xs more : List ℕ) (at : ℕ) → at < length xs → slice_get (xs ++ more) at ≡ slice_get xs at
slice_get-append [] more at lt = absurd (omega arith)
slice_get-append (x ∷ xs) more zero lt = refl
slice_get-append (x ∷ xs) more (suc at) lt = slice_get-append xs more at (omega (arith, lt))

-- an element of the first ones is that of the list
slice_get-take : (bytes : List ℕ) (n at : ℕ) → at < n → slice_get (take n bytes) at ≡ slice_get bytes at
slice_get-take bytes zero at lt = absurd (omega arith)
slice_get-take [] (suc n) at lt = refl
slice_get-take (b ∷ bytes) (suc n) zero lt = refl
slice_get-take (b ∷ bytes) (suc n) (suc at) lt = slice_get-take bytes n at (omega arith)

-- no byte before the first that differs from a header is one
before : (v : Version) (bytes : List ℕ) (at other : ℕ) → DiffersFrom v at bytes → DiffersFrom v other bytes → at < other → ⊥
before v bytes at other p q lt =
    p.differs (sym (slice_get-take bytes other at lt) ∙ ap (λ (x : List ℕ). slice_get x at) q.prefix ∙ slice_get-take (file_header_of v) other at lt)

-- there is one first byte that differs from all
pub one_place : (bytes : List ℕ) (at other : ℕ) → DiffersFirst at bytes → DiffersFirst other bytes → at ≡ other
one_place bytes at other p q =
    let first = q.none p.longest.0 in
    let second = p.none q.longest.0 in
    elim (cases_order at other) [
      | inl same ↦ same
      | inr (inl lt) ↦ absurd (before q.longest.0 bytes second.0 other second.2 q.longest.1 (omega (arith, second.1, lt)))
      | inr (inr lt) ↦ absurd (before p.longest.0 bytes first.0 at first.2 p.longest.1 (omega (arith, first.1, lt)))
    ]

-- a list begins with another, or there is a first difference
begins_or_not : (header bytes : List ℕ) → ((more : List ℕ) × (bytes ≡ header ++ more)) ⊎ ((at : ℕ) × ((at < length header) × (take at bytes ≡ take at header) × (slice_get bytes at ≢ slice_get header at)))
begins_or_not [] bytes = inl (bytes, refl)
begins_or_not (h ∷ header) [] = inr (0, (omega arith, refl, λ e. cc))
begins_or_not (h ∷ header) (b ∷ bytes) =
    elim (cases_eq b h) [
      | inl same ↦ elim (begins_or_not header bytes) [
        | inl (more, is) ↦ inl (more, ap (λ (x : ℕ). x ∷ bytes) same ∙ ap (λ (x : List ℕ). h ∷ x) is)
        | inr (at, first) ↦ inr (suc at, (omega (arith, first.0), ap (λ (x : ℕ). x ∷ take at bytes) same ∙ ap (λ (x : List ℕ). h ∷ x) first.1, first.2))
      ]
      | inr different ↦ inr (0, (omega arith, refl, λ e. different (ap (λ (o : Option ℕ). unwrap_or o b) e)))
    ]

-- what holds of each header
both : (bytes : List ℕ) (new old at : ℕ) → new ≤ at → old ≤ at → DiffersFrom Two new bytes → DiffersFrom One old bytes → (v : Version) → (place : ℕ) × (place ≤ at) × DiffersFrom v place bytes
both bytes new old at new_in old_in p q One = (old, old_in, q)
both bytes new old at new_in old_in p q Two = (new, new_in, p)

-- bytes that differ from each header go on as one up to the last place, and as none further
pub differs_old : (bytes : List ℕ) (new old : ℕ) → new ≤ old → DiffersFrom Two new bytes → DiffersFrom One old bytes → DiffersFirst old bytes
differs_old bytes new old less p q = record { longest = (One, q); none = both bytes new old old less (omega arith) p q }

pub differs_new : (bytes : List ℕ) (new old : ℕ) → old ≤ new → DiffersFrom Two new bytes → DiffersFrom One old bytes → DiffersFirst new bytes
differs_new bytes new old less p q = record { longest = (Two, p); none = both bytes new old new (omega arith) less p q }

differs_some : (bytes : List ℕ) (new old : ℕ) → DiffersFrom Two new bytes → DiffersFrom One old bytes → (at : ℕ) × DiffersFirst at bytes
differs_some bytes new old p q =
    elim (cases_lt new old) [
      | inl lt ↦ (old, differs_old bytes new old (omega (arith, lt)) p q)
      | inr le ↦ (new, differs_new bytes new old le p q)
    ]

-- bytes begin with a header, or go on as none from a byte on
pub header_or_not : (bytes : List ℕ) → ((v : Version) × (more : List ℕ) × (bytes ≡ file_header_of v ++ more)) ⊎ ((at : ℕ) × DiffersFirst at bytes)
header_or_not bytes =
    elim (begins_or_not (file_header_of Two) bytes) [
      | inl (more, is) ↦ inl (Two, more, is)
      | inr (new, p) ↦ elim (begins_or_not (file_header_of One) bytes) [
        | inl (more, is) ↦ inl (One, more, is)
        | inr (old, q) ↦ inr (differs_some bytes new old (record { inside = p.0; prefix = p.1; differs = p.2 }) (record { inside = q.0; prefix = q.1; differs = q.2 }))
      ]
    ]

-- bytes that begin with a header don't differ from all
pub no_other : (v : Version) (bytes more : List ℕ) (at : ℕ) → bytes ≡ file_header_of v ++ more → DiffersFirst at bytes → ⊥
no_other v bytes more at is differs =
    let first = differs.none v in
    first.2.differs (ap (λ (x : List ℕ). slice_get x first.0) is ∙ slice_get-append (file_header_of v) more first.0 first.2.inside)

-- ---- reading a header byte by byte

-- the bytes end inside the header
pub differs_end : (v : Version) (bytes : List ℕ) (at : ℕ) → at < 8 → at ≤ length bytes → length bytes ≤ at → take at bytes ≡ take at (file_header_of v) → DiffersFrom v at bytes
differs_end v bytes at inside within past same =
    let within_header : at < length (file_header_of v) = omega (arith, inside, length-header v) in
    let none = slice_get_past bytes at past in
    let some = slice_get-get_or (file_header_of v) at 0 within_header in
    record { inside = within_header; prefix = same; differs = λ e. absurd cc }

-- another byte stands there
pub differs_byte : (v : Version) (bytes : List ℕ) (at : ℕ) → at < 8 → (get_or bytes at 0 ≡ get_or (file_header_of v) at 0 → ⊥) → take at bytes ≡ take at (file_header_of v) → DiffersFrom v at bytes
differs_byte v bytes at inside other same = record {
  inside = omega (arith, inside, length-header v);
  prefix = same;
  differs = λ e. other (sym (unwrap_or-slice_get bytes at 0) ∙ ap (λ (o : Option ℕ). unwrap_or o 0) e ∙ unwrap_or-slice_get (file_header_of v) at 0);
}

-- the same byte stands there
pub same_byte : (v : Version) (bytes : List ℕ) (at next : ℕ) → next ≡ suc at → at < 8 → at < length bytes → get_or bytes at 0 ≡ get_or (file_header_of v) at 0 → take at bytes ≡ take at (file_header_of v) → take next bytes ≡ take next (file_header_of v)
same_byte v bytes at next is inside within one same =
    let header : List ℕ = file_header_of v in
    let here : take (suc at) bytes ≡ take (suc at) header = take-suc bytes at 0 within ∙ ap (λ (x : List ℕ). x ++ get_or bytes at 0 ∷ []) same ∙ ap (λ (b : ℕ). take at header ++ b ∷ []) one ∙ sym (take-suc header at 0 (omega (arith, inside, length-header v))) in
    subst (λ (n : ℕ). take n bytes ≡ take n header) (sym is) here

-- all of the header stands there
pub has_header : (v : Version) (bytes : List ℕ) → take 8 bytes ≡ take 8 (file_header_of v) → bytes ≡ file_header_of v ++ drop 8 bytes
has_header One bytes same = sym (take-append-drop 8 bytes) ∙ ap (λ (x : List ℕ). x ++ drop 8 bytes) same
has_header Two bytes same = sym (take-append-drop 8 bytes) ∙ ap (λ (x : List ℕ). x ++ drop 8 bytes) same

-- a first difference stays where the bytes go on, if it is one of them
from_on : (v : Version) (bytes more : List ℕ) (at : ℕ) → at < length bytes → DiffersFrom v at bytes → DiffersFrom v at (bytes ++ more)
from_on v bytes more at within differs = record {
  inside = differs.inside;
  prefix = take-append-le at bytes more (omega arith) ∙ differs.prefix;
  differs = λ e. differs.differs (sym (slice_get-append bytes more at within) ∙ e);
}

pub differs_on : (bytes more : List ℕ) (at : ℕ) → at < length bytes → DiffersFirst at bytes → DiffersFirst at (bytes ++ more)
differs_on bytes more at within differs = record {
  longest = (differs.longest.0, from_on differs.longest.0 bytes more at within differs.longest.1);
  none = λ v. let first = differs.none v in (first.0, first.1, from_on v bytes more first.0 (omega (arith, first.1, within)) first.2);
}

-- so it does where they go on as they may: all that there is was read, where fewer than a header's were
pub differs_then : (at : ℕ) (held more : List ℕ) → DiffersFirst at held → at ≤ length held → (length held < 8 → more ≡ []) → DiffersFirst at (held ++ more)
differs_then at held more differs within ends =
    elim (cases_lt at (length held)) [
      | inl lt ↦ differs_on held more at lt differs
      | inr le ↦
          let inside : at < 8 = omega (arith, differs.longest.1.inside, length-header differs.longest.0) in
          subst (λ (x : List ℕ). DiffersFirst at x) (sym (ap (λ (x : List ℕ). held ++ x) (ends (omega (arith, le, inside))) ∙ append-nil held)) differs
    ]

-- what holds at the end of what is read holds where fewer bytes than a header's are there
pub short_ends : (b : Bool) (n : ℕ) (P : Type 0) → (b ≡ true → 8 ≤ n) → (b ≡ false → P) → n < 8 → P
short_ends true n P enough end short = absurd (omega (arith, enough refl, short))
short_ends false n P enough end short = end refl
