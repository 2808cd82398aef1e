-- Bytes that are written one after the other, and the bytes of a record's words.
use Rattle.std.proofs.Common.{◌≡◌, ℕ, ◌+◌, ◌-◌, ◌*◌, ◌/◌, ◌%◌, ◌<◌, ◌≤◌, List, [], ◌∷◌, ◌++◌, length, take, drop, get_or, refl, sym, ap, subst, ◌∙◌, append_assoc, arith}
use Rattle.std.specs.Prelude.{replicate}
use Rattle.std.specs.List.{flat_map}
use Rattle.std.specs.Int.{w32, w64, to_le_bytes}
use Rattle.std.proofs.lemmas.List.{length-append, length-drop, length-take-le, drop-drop, take_at, drop_at, drop_all, append-nil, take-replicate, take_more, take-append-drop}
use Rattle.std.proofs.lemmas.List.Concat.{flat_map-append}
use Rattle.vsl_record.specs.declared.record_type.Record.{Record}
use Rattle.vsl_record.specs.Words.{id_of, record_words, word_bytes, payload_words}
use Rattle.vsl_words.specs.declared.version.Version.TheVariants.{Two}
use Rattle.vsl_record.specs.inside.Writing.{Wrote}
use Rattle.vsl_record.proofs.Steps.{IsBytes}
use Rattle.vsl_record.proofs.PayloadLemmas.{length-packed, word_bytes-packed}
use Rattle.vsl_record.proofs.WritingLemmas.{next_piece}

pub wrote_size : (at stop : ℕ) (bytes old new : List ℕ) → Wrote at stop bytes old new → stop ≤ length old → length new ≡ length old
wrote_size at stop bytes old new w room =
    omega (arith, w.size, room, ap length w.is, length-append (take at old ++ bytes) (drop stop old), length-append (take at old) bytes, length-take-le at old (omega (arith, w.size, room)), length-drop stop old)

-- one piece behind another is both
pub wrote_then : (at mid mid' stop : ℕ) (a b x y z : List ℕ) → Wrote at mid a x y → Wrote mid' stop b y z → mid' ≡ mid → stop ≤ length x → Wrote at stop (a ++ b) x z
wrote_then at mid mid' stop a b x y z first next same room =
    let front : List ℕ = take at x ++ a in
    let size : length front ≡ mid' = omega (arith, same, first.size, next.size, room, length-append (take at x) a, length-take-le at x (omega (arith, same, first.size, next.size, room))) in
    let is : y ≡ front ++ drop mid' x = first.is ∙ ap (λ (n : ℕ). front ++ drop n x) (sym same) in
    let kept : take mid' y ≡ front = ap (take mid') is ∙ take_at front (drop mid' x) mid' size in
    let behind : drop mid' y ≡ drop mid' x = ap (drop mid') is ∙ drop_at front (drop mid' x) mid' size in
    let more : mid' + (stop - mid') ≡ stop = omega (arith, next.size) in
    let after : drop stop y ≡ drop stop x =
    ap (λ (n : ℕ). drop n y) (sym more) ∙ sym (drop-drop (stop - mid') mid' y) ∙ ap (drop (stop - mid')) behind ∙ drop-drop (stop - mid') mid' x ∙ ap (λ (n : ℕ). drop n x) more in
    record {
      size = omega (arith, same, first.size, next.size, length-append a b);
      is = next.is ∙ ap (λ (f : List ℕ). f ++ b ++ drop stop y) kept ∙ ap (λ (d : List ℕ). front ++ b ++ d) after ∙ ap (λ (f : List ℕ). f ++ drop stop x) (append_assoc (take at x) a b);
    }

-- the same, with other names for what was written
pub wrote_as : (at stop stop' : ℕ) (bytes bytes' old new : List ℕ) → Wrote at stop bytes old new → stop ≡ stop' → bytes ≡ bytes' → Wrote at stop' bytes' old new
wrote_as at stop stop' bytes bytes' old new w same is = subst (λ (n : ℕ). Wrote at n bytes' old new) same (subst (λ (b : List ℕ). Wrote at stop b old new) is w)

-- the four pieces of a record
pub four_pieces : (at : ℕ) (a b p z x y1 y2 y3 y4 : List ℕ) → length a ≡ 4 → length b ≡ 8 → at + 12 + length p + length z ≤ length x
    → Wrote at (at + length a) a x y1 → Wrote (at + 4) (at + 4 + length b) b y1 y2 → Wrote (at + 12) (at + 12 + length p) p y2 y3 → Wrote (at + 12 + length p) (at + 12 + length p + length z) z y3 y4
    → Wrote at (at + 12 + length p + length z) (a ++ b ++ p ++ z) x y4
four_pieces at a b p z x y1 y2 y3 y4 four_a eight_b room w1 w2 w3 w4 =
    let two = wrote_then at _ _ _ a b x y1 y2 w1 w2 (omega (arith, four_a)) (omega (arith, eight_b, room)) in
    let three = wrote_then at _ _ _ (a ++ b) p x y2 y3 two w3 (omega (arith, eight_b)) (omega (arith, room)) in
    wrote_then at _ _ _ (a ++ b ++ p) z x y3 y4 three w4 refl room

-- all was written
pub wrote_all : (stop : ℕ) (bytes old new : List ℕ) → Wrote 0 stop bytes old new → stop ≡ length old → new ≡ bytes
wrote_all stop bytes old new w all = w.is ∙ ap (λ (d : List ℕ). bytes ++ d) (drop_all stop old (omega (arith, all))) ∙ append-nil bytes

abbrev pub no_more : List ℕ
no_more = 0 ∷ 0 ∷ 0 ∷ []

-- the zero bytes behind a payload of so many
pub padding_is : (n : ℕ) → take ((4 - n % 4) % 4) no_more ≡ replicate (4 * payload_words n - n) 0
padding_is n =
    let few : (4 - n % 4) % 4 ≤ 3 = omega arith in
    let same : (4 - n % 4) % 4 ≡ 4 * payload_words n - n = omega arith in
    take-replicate {X = ℕ} ((4 - n % 4) % 4) 3 0 few ∙ ap (λ (k : ℕ). replicate k 0) same

-- the bytes of an id are those of its words
pub id_bytes : (id : ℕ) → to_le_bytes w64 id ≡ to_le_bytes w32 (id % 4294967296) ++ to_le_bytes w32 (id / 4294967296)
id_bytes id =
    let c0 : id % 4294967296 % 256 ≡ id % 256 = omega arith in
    let c1 : id % 4294967296 / 256 % 256 ≡ id / 256 % 256 = omega arith in
    let c2 : id % 4294967296 / 65536 % 256 ≡ id / 65536 % 256 = omega arith in
    let c3 : id % 4294967296 / 16777216 % 256 ≡ id / 16777216 % 256 = omega arith in
    let c4 : id / 4294967296 % 256 ≡ id / 4294967296 % 256 = refl in
    let c5 : id / 4294967296 / 256 % 256 ≡ id / 1099511627776 % 256 = omega arith in
    let c6 : id / 4294967296 / 65536 % 256 ≡ id / 281474976710656 % 256 = omega arith in
    let c7 : id / 4294967296 / 16777216 % 256 ≡ id / 72057594037927936 % 256 = omega arith in
    cc

-- the bytes of a record's words
pub record_bytes : (vxid : ℕ) (rec : Record) → IsBytes rec.payload
    → to_le_bytes w32 (16777216 * rec.tag + length rec.payload) ++ to_le_bytes w64 (id_of Two vxid rec.mark) ++ rec.payload ++ take ((4 - length rec.payload % 4) % 4) no_more ≡ word_bytes (record_words vxid rec)
record_bytes vxid rec small =
    let id : ℕ = id_of Two vxid rec.mark in
    let first : List ℕ = to_le_bytes w32 (16777216 * rec.tag + length rec.payload) in
    let head : List ℕ = first ++ to_le_bytes w32 (id % 4294967296) ++ to_le_bytes w32 (id / 4294967296) in
    ap (λ (b : List ℕ). (first ++ b ++ rec.payload) ++ take ((4 - length rec.payload % 4) % 4) no_more) (id_bytes id)
    ∙ append_assoc head rec.payload _ ∙ ap (λ (z : List ℕ). head ++ (rec.payload ++ z)) (padding_is (length rec.payload)) ∙ ap (λ (p : List ℕ). head ++ p) (sym (word_bytes-packed rec.payload small))

pub record_size : (vxid : ℕ) (rec : Record) → 12 + length rec.payload + length (take ((4 - length rec.payload % 4) % 4) no_more) ≡ 4 * length (record_words vxid rec)
record_size vxid rec = omega (arith, length-packed rec.payload, length-take-le ((4 - length rec.payload % 4) % 4) no_more (omega arith))

-- what one more record adds to the bytes
pub records_more : (f : Record → List ℕ) (xs : List Record) (i : ℕ) (x : Record) → i < length xs → x ≡ get_or xs i x → word_bytes (flat_map f (take (i + 1) xs)) ≡ word_bytes (flat_map f (take i xs)) ++ word_bytes (f x)
records_more f xs i x within is =
    ap word_bytes (ap (flat_map f) (take_more xs i x within ∙ ap (λ (y : Record). take i xs ++ y ∷ []) (sym is)) ∙ flat_map-append f (take i xs) (x ∷ []) ∙ ap (λ (ws : List ℕ). flat_map f (take i xs) ++ ws) (append-nil (f x)))
    ∙ flat_map-append (to_le_bytes w32) (flat_map f (take i xs)) (f x)

-- and there is room for it
pub records_room : (f : Record → List ℕ) (xs : List Record) (i : ℕ) (x : Record) → i < length xs → x ≡ get_or xs i x → length (flat_map f (take i xs)) + length (f x) ≤ length (flat_map f xs)
records_room f xs i x within is =
    let parts : flat_map f xs ≡ flat_map f (take i xs) ++ flat_map f (drop i xs) = ap (flat_map f) (sym (take-append-drop i xs)) ∙ flat_map-append f (take i xs) (drop i xs) in
    let next : flat_map f (drop i xs) ≡ f x ++ flat_map f (drop (i + 1) xs) = next_piece f xs i x within is in
    omega (arith, ap length parts, length-append (flat_map f (take i xs)) (flat_map f (drop i xs)), ap length next, length-append (f x) (flat_map f (drop (i + 1) xs)))
