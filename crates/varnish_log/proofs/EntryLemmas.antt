-- The bytes of a record of Varnish's own log: what its head tells, and when bytes begin with none.
use Rattle.std.proofs.Common.{◌≡◌, ◌⊎◌, inl, inr, ℕ, ◌+◌, ◌*◌, ◌/◌, ◌%◌, ◌^◌, ◌<◌, ◌≤◌, true, false, ltb, ◌&&◌, List, [], ◌∷◌, ◌++◌, length, take, drop, None, Some, refl, sym, ap, subst, ◌∙◌, append_assoc, arith}
use Rattle.std.specs.Int.{w32, w64, byte_len, to_le_bytes, from_le_bytes}
use Rattle.std.proofs.Math.Bool.{and-false}
use Rattle.std.proofs.lemmas.Bool.{eq-eqb, lt-ltb, le-ltb}
use Rattle.std.proofs.lemmas.List.{drop-drop, length-append, length-drop, length-take-le, take-append-drop}
use Rattle.std.proofs.lemmas.Nat.{from_le_bytes-to_le_bytes_4, from_le_bytes-to_le_bytes_8, le_bytes_4, le_bytes_8}
use Rattle.vsl_record.specs.declared.mark.Mark.{Mark}
use Rattle.vsl_record.specs.declared.mark.Mark.TheVariants.{Client, Backend, Plain}
use Rattle.vsl_record.proofs.Steps.{AllBelow, below_drop, below_take}
use Rattle.varnish_log.specs.declared.entry.Words.{Words}
use Rattle.varnish_log.specs.declared.form.BinaryForm.{BinaryForm}
use Rattle.varnish_log.specs.declared.form.BinaryForm.TheVariants.{Narrow, Wide}
use Rattle.varnish_log.specs.Entries.{Entry, IsEntry, can_begin, entry_bytes, filling_of, first_word, head_size, mark_bits, size_said, stops_early}
use Rattle.varnish_log.specs.Forms.{layout}
use Rattle.varnish_log.specs.inside.Views.{AreWords, BeginsNoEntry, mark_of_id}

-- ---- the rows of the forms

-- a version is a byte
version_small : (form : BinaryForm) → (layout form).version < 256
version_small Narrow = omega arith
version_small Wide = omega arith

-- a number as wide as that of VXID and mark is read again
id_read : (form : BinaryForm) (id : ℕ) (more : List ℕ) → id < 4 * (layout form).client → from_le_bytes (layout form).width (to_le_bytes (layout form).width id ++ more) ≡ id
id_read Narrow id more fits = from_le_bytes-to_le_bytes_4 id (omega (arith, fits))
id_read Wide id more fits = from_le_bytes-to_le_bytes_8 id (omega (arith, fits))

id_size : (form : BinaryForm) (id : ℕ) → length (to_le_bytes (layout form).width id) ≡ byte_len (layout form).width
id_size Narrow id = refl
id_size Wide id = refl

-- what tells of a VXID in range and a mark
pub record HasBoth (form : BinaryForm) (id : ℕ) : Type 0 where
  pub marks : id < 3 * (layout form).client
  pub range : id % (layout form).client < (layout form).vxid_end

has_both : (form : BinaryForm) (vxid : ℕ) (mark : Mark) → vxid < (layout form).vxid_end → HasBoth form (vxid + mark_bits form mark)
has_both Narrow vxid Client range = record { marks = omega (arith, range); range = omega (arith, range) }
has_both Narrow vxid Backend range = record { marks = omega (arith, range); range = omega (arith, range) }
has_both Narrow vxid Plain range = record { marks = omega (arith, range); range = omega (arith, range) }
has_both Wide vxid Client range = record { marks = omega (arith, range); range = omega (arith, range) }
has_both Wide vxid Backend range = record { marks = omega (arith, range); range = omega (arith, range) }
has_both Wide vxid Plain range = record { marks = omega (arith, range); range = omega (arith, range) }

-- what has neither, or a mark and a VXID
pub no_mark : (form : BinaryForm) (id : ℕ) → mark_of_id form id ≡ None → (3 * (layout form).client ≤ id) ⊎ ((layout form).vxid_end ≤ id % (layout form).client)
unfolding mark_of_id
no_mark Narrow id none = grind arith
no_mark Wide id none = grind arith

pub record HasMark (form : BinaryForm) (id : ℕ) (mark : Mark) : Type 0 where
  pub both : HasBoth form id
  pub is : id % (layout form).client + mark_bits form mark ≡ id

quotient : (form : BinaryForm) (id : ℕ) (mark : Mark) → mark_of_id form id ≡ Some mark → (id % (layout form).client < (layout form).vxid_end) × ((id / (layout form).client) * (layout form).client ≡ mark_bits form mark)
unfolding mark_of_id
quotient Narrow id Plain some = (grind arith, let q : id / 2 ^ 30 ≡ 0 = grind arith in omega (arith, q))
quotient Narrow id Client some = (grind arith, let q : id / 2 ^ 30 ≡ 1 = grind arith in omega (arith, q))
quotient Narrow id Backend some = (grind arith, let q : id / 2 ^ 30 ≡ 2 = grind arith in omega (arith, q))
quotient Wide id Plain some = (grind arith, let q : id / 2 ^ 62 ≡ 0 = grind arith in omega (arith, q))
quotient Wide id Client some = (grind arith, let q : id / 2 ^ 62 ≡ 1 = grind arith in omega (arith, q))
quotient Wide id Backend some = (grind arith, let q : id / 2 ^ 62 ≡ 2 = grind arith in omega (arith, q))

parted : (form : BinaryForm) (id : ℕ) → id % (layout form).client + (id / (layout form).client) * (layout form).client ≡ id
parted Narrow id = omega arith
parted Wide id = omega arith

pub one_mark : (form : BinaryForm) (id : ℕ) (mark : Mark) → mark_of_id form id ≡ Some mark → HasMark form id mark
one_mark form id mark some =
    let q = quotient form id mark some in
    let is : id % (layout form).client + mark_bits form mark ≡ id = ap (λ (n : ℕ). id % (layout form).client + n) (sym q.1) ∙ parted form id in
    record { both = subst (HasBoth form) is (has_both form (id % (layout form).client) mark q.0); is = is }

-- ---- the bytes of a record

-- the bytes that a number was read of are its own
module _ (bytes : List ℕ) (small : AllBelow 256 bytes) where
  again_4 : 4 ≤ length bytes → to_le_bytes w32 (from_le_bytes w32 bytes) ≡ take 4 bytes
  again_4 enough = four bytes small enough
    where
      four : (xs : List ℕ) → AllBelow 256 xs → 4 ≤ length xs → to_le_bytes w32 (from_le_bytes w32 xs) ≡ take 4 xs
      four (a ∷ b ∷ c ∷ d ∷ xs) below many = le_bytes_4 (a ∷ b ∷ c ∷ d ∷ []) _ refl (below_take 256 4 (a ∷ b ∷ c ∷ d ∷ xs) (omega arith) below) refl
      four xs below many = absurd (omega (arith, many))

  again_8 : 8 ≤ length bytes → to_le_bytes w64 (from_le_bytes w64 bytes) ≡ take 8 bytes
  again_8 enough = eight bytes small enough
    where
      eight : (xs : List ℕ) → AllBelow 256 xs → 8 ≤ length xs → to_le_bytes w64 (from_le_bytes w64 xs) ≡ take 8 xs
      eight (a ∷ b ∷ c ∷ d ∷ e ∷ f ∷ g ∷ h ∷ xs) below many =
          le_bytes_8 (a ∷ b ∷ c ∷ d ∷ e ∷ f ∷ g ∷ h ∷ []) _ refl (below_take 256 8 (a ∷ b ∷ c ∷ d ∷ e ∷ f ∷ g ∷ h ∷ xs) (omega arith) below) refl
      eight xs below many = absurd (omega (arith, many))

  again : (form : BinaryForm) → byte_len (layout form).width ≤ length bytes → to_le_bytes (layout form).width (from_le_bytes (layout form).width bytes) ≡ take (byte_len (layout form).width) bytes
  again Narrow enough = again_4 enough
  again Wide enough = again_8 enough

-- four lists, the last behind the others
behind_three : (a b c d : List ℕ) → ((a ++ b) ++ c) ++ d ≡ a ++ (b ++ (c ++ d))
behind_three a b c d = append_assoc (a ++ b) c d ∙ append_assoc a b (c ++ d)

-- how many there are
pub entry_size : (form : BinaryForm) (e : Entry) → length (entry_bytes form e) ≡ head_size form + length e.bytes + length e.filling
entry_size form e =
    let id : List ℕ = to_le_bytes (layout form).width (e.vxid + mark_bits form e.mark) in
    omega (arith, length-append (id ++ e.bytes) e.filling, length-append id e.bytes, id_size form (e.vxid + mark_bits form e.mark))

-- what the head of bytes that begin with a record tells
record Told (form : BinaryForm) (word number : ℕ) (bytes : List ℕ) (e : Entry) : Type 0 where
  pub first : word ≡ first_word form e
  pub id : number ≡ e.vxid + mark_bits form e.mark
  pub size : head_size form + length e.bytes + length e.filling ≤ length bytes

told : (form : BinaryForm) (bytes : List ℕ) (e : Entry) (more : List ℕ) → IsEntry form e → bytes ≡ entry_bytes form e ++ more → Told form (from_le_bytes w32 bytes) (from_le_bytes (layout form).width (drop 4 bytes)) bytes e
told form bytes e more is same =
    let both = has_both form e.vxid e.mark is.vxid in
    record {
      first = ap (from_le_bytes w32) same ∙ from_le_bytes-to_le_bytes_4 (first_word form e) (omega (arith, is.number, is.short, version_small form));
      id = ap (λ (x : List ℕ). from_le_bytes (layout form).width (drop 4 x)) same
          ∙ ap (from_le_bytes (layout form).width) (behind_three (to_le_bytes (layout form).width (e.vxid + mark_bits form e.mark)) e.bytes e.filling more)
          ∙ id_read form (e.vxid + mark_bits form e.mark) (e.bytes ++ (e.filling ++ more)) (omega (arith, both.marks));
      size = omega (arith, ap length same, length-append (entry_bytes form e) more, entry_size form e);
    }

-- what stops early is for the head and the number of bytes to say
stops_is : (form : BinaryForm) (bytes : List ℕ) → head_size form ≤ length bytes
    → stops_early form bytes ≡ (can_begin form (from_le_bytes w32 bytes) (from_le_bytes (layout form).width (drop 4 bytes)) && ltb (length bytes) (head_size form + size_said (from_le_bytes w32 bytes)))
stops_is form bytes enough = rw (le-ltb _ _ enough) refl

module _ (form : BinaryForm) (bytes : List ℕ) (words : Words) (are : AreWords form words bytes) where
  abbrev first : ℕ
  first = from_le_bytes w32 bytes

  abbrev id : ℕ
  id = from_le_bytes (layout form).width (drop 4 bytes)

  -- the number of VXID and mark has two marks, or a VXID out of range
  pub other_id : mark_of_id form words.id ≡ None → BeginsNoEntry form bytes × (stops_early form bytes ≡ false)
  other_id none = of (no_mark form id (ap (mark_of_id form) (sym are.id) ∙ none))
    where
      of : (3 * (layout form).client ≤ id) ⊎ ((layout form).vxid_end ≤ id % (layout form).client) → BeginsNoEntry form bytes × (stops_early form bytes ≡ false)
      of (inl high) = (
        (λ e more is same. let t = told form bytes e more is same in let both = has_both form e.vxid e.mark is.vxid in omega (arith, high, t.id, both.marks)),
        stops_is form bytes are.enough ∙ rw (le-ltb _ _ high, and-false) refl,
      )
      of (inr range) = (
        (λ e more is same.
            let t = told form bytes e more is same in
            let both = has_both form e.vxid e.mark is.vxid in
            let low : id % (layout form).client < (layout form).vxid_end = subst (λ (n : ℕ). n % (layout form).client < (layout form).vxid_end) (sym t.id) both.range in
            omega (arith, range, low)),
        stops_is form bytes are.enough ∙ rw (le-ltb _ _ range, and-false) refl,
      )

  module _ (mark : Mark) (third : words.first / 65536 % 256 ≡ (layout form).version) (some : mark_of_id form words.id ≡ Some mark) where
    -- fewer bytes than the head says
    pub cut : length bytes < head_size form + size_said words.first → BeginsNoEntry form bytes × (stops_early form bytes ≡ true)
    cut short =
        let m = one_mark form id mark (ap (mark_of_id form) (sym are.id) ∙ some) in
        let version : first / 65536 % 256 ≡ (layout form).version = sym (ap (λ (n : ℕ). n / 65536 % 256) are.first) ∙ third in
        let less : length bytes < head_size form + size_said first = subst (λ (n : ℕ). length bytes < head_size form + size_said n) are.first short in (
          (λ e more is same.
              let t = told form bytes e more is same in
              let size : first % 65536 ≡ length e.bytes = omega (arith, t.first, is.short) in
              omega (arith, less, size, t.size, is.filled)),
          stops_is form bytes are.enough ∙ rw (eq-eqb _ _ version, lt-ltb _ _ m.both.marks, lt-ltb _ _ m.both.range, lt-ltb _ _ less) refl,
        )

    -- a record that begins the bytes, whole
    pub whole : (content rest : List ℕ) → AllBelow 256 bytes → head_size form + size_said words.first ≤ length bytes → content ≡ take (words.first % 65536) (drop (head_size form) bytes)
        → rest ≡ drop (filling_of (words.first % 65536)) (drop (words.first % 65536) (drop (head_size form) bytes))
        → (filling : List ℕ) × IsEntry form (record { number = words.first / 16777216; vxid = words.id % (layout form).client; mark = mark; bytes = content; filling = filling })
        × (bytes ≡ entry_bytes form (record { number = words.first / 16777216; vxid = words.id % (layout form).client; mark = mark; bytes = content; filling = filling }) ++ rest)
    whole content rest small size begins ends =
        let k : ℕ = byte_len (layout form).width in
        let n : ℕ = words.first % 65536 in
        let tail : List ℕ = drop (head_size form) bytes in
        let filling : List ℕ = take (filling_of n) (drop n tail) in
        let m = one_mark form words.id mark some in
        let long : length content ≡ n = ap length begins ∙ length-take-le n tail (omega (arith, size, length-drop (head_size form) bytes)) in
        let e : Entry = record { number = words.first / 16777216; vxid = words.id % (layout form).client; mark = mark; bytes = content; filling = filling } in
        let word : first_word form e ≡ words.first = omega (arith, long, third) in
        let first_is : to_le_bytes w32 (first_word form e) ≡ take 4 bytes = ap (to_le_bytes w32) (word ∙ are.first) ∙ again_4 bytes small (omega (arith, are.enough)) in
        let id_is : to_le_bytes (layout form).width (e.vxid + mark_bits form mark) ≡ take k (drop 4 bytes) =
        ap (to_le_bytes (layout form).width) (m.is ∙ are.id) ∙ again (drop 4 bytes) (below_drop 256 4 bytes small) form (omega (arith, are.enough, length-drop 4 bytes)) in
        let tail_is : content ++ (filling ++ rest) ≡ drop k (drop 4 bytes) =
        ap (λ (x : List ℕ). x ++ (filling ++ rest)) begins ∙ ap (λ (x : List ℕ). take n tail ++ x) (ap (λ (x : List ℕ). filling ++ x) ends ∙ take-append-drop (filling_of n) (drop n tail)) ∙ take-append-drop n tail ∙ sym (drop-drop k 4 bytes) in (
          filling,
          record {
            number = omega (arith, are.few);
            vxid = m.both.range;
            short = omega (arith, long);
            filled = length-take-le (filling_of n) (drop n tail) (omega (arith, size, length-drop n tail, length-drop (head_size form) bytes)) ∙ ap filling_of (sym long);
          },
          sym (take-append-drop 4 bytes)
              ∙ ap (λ (x : List ℕ). take 4 bytes ++ x) (sym (take-append-drop k (drop 4 bytes)) ∙ ap (λ (x : List ℕ). take k (drop 4 bytes) ++ x) (sym tail_is))
              ∙ ap (λ (x : List ℕ). take 4 bytes ++ (x ++ (content ++ (filling ++ rest)))) (sym id_is)
              ∙ ap (λ (x : List ℕ). x ++ (to_le_bytes (layout form).width (e.vxid + mark_bits form mark) ++ (content ++ (filling ++ rest)))) (sym first_is)
              ∙ ap (λ (x : List ℕ). to_le_bytes w32 (first_word form e) ++ x) (sym (behind_three (to_le_bytes (layout form).width (e.vxid + mark_bits form mark)) content filling rest)),
        )
