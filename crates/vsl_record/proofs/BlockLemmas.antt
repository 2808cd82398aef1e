-- Records of a block: what stays as bytes are added, and where a record's payload stands.
use Rattle.std.proofs.Common.{◌≡◌, ℕ, zero, suc, ◌+◌, ◌-◌, ◌<◌, ◌≤◌, List, [], ◌∷◌, ◌++◌, length, take, drop, get_or, map, Result, Ok, Err, refl, sym, ap, subst, ◌∙◌, arith}
use Rattle.std.specs.Prelude.{OnOk, OnErr}
use Rattle.std.specs.List.{AllByRecursion}
use Rattle.std.proofs.lemmas.List.{append-nil, length-append, length-drop, length-take-le, drop-drop, take_at, drop_at, take_more, take-append-drop}
use Rattle.vsl_record.specs.declared.entry.Entry.{Entry}
use Rattle.vsl_record.specs.declared.mark.Mark.{Mark}
use Rattle.vsl_record.specs.declared.record_type.Record.{Record}
use Rattle.vsl_record.specs.Blocks.{entry_record, block_records, IsEntryOf, IsBlock}
use Rattle.vsl_record.specs.inside.Blocks.{moved, IsWithin}
use Rattle.vsl_record.proofs.Steps.{all_append}

-- bytes behind those that are taken change nothing
pub part_again : (at size : ℕ) (xs ys : List ℕ) → at + size ≤ length xs → take size (drop at (xs ++ ys)) ≡ take size (drop at xs)
part_again zero zero xs ys inside = refl
part_again zero (suc size) [] ys inside = absurd (omega (arith, inside))
part_again zero (suc size) (x ∷ xs) ys inside = ap (λ (zs : List ℕ). x ∷ zs) (part_again zero size xs ys (omega (arith, inside)))
part_again (suc at) size [] ys inside = absurd (omega (arith, inside))
part_again (suc at) size (x ∷ xs) ys inside = part_again at size xs ys (omega (arith, inside))

-- the bytes that were added stand behind the others
pub part_added : (xs ys : List ℕ) → take (length ys) (drop (length xs) (xs ++ ys)) ≡ ys
part_added xs ys =
    let behind : drop (length xs) (xs ++ ys) ≡ ys = drop_at xs ys (length xs) refl in
    let all : take (length ys) (ys ++ []) ≡ ys = take_at ys [] (length ys) refl in
    ap (take (length ys)) (behind ∙ sym (append-nil ys)) ∙ all

-- an entry of a block is one of a longer block, and it is of the same record
pub entry_again : (block more : List ℕ) (e : Entry) → IsEntryOf block e → IsEntryOf (block ++ more) e
entry_again block more e is = record { inside = omega (arith, is.inside, length-append block more); short = is.short }

pub block_again : (block more : List ℕ) (entries : List Entry) → IsBlock block entries → IsBlock (block ++ more) entries
block_again block more [] is = tt
block_again block more (e ∷ entries) is = (entry_again block more e is.0, block_again block more entries is.1)

pub records_stay : (block more : List ℕ) (entries : List Entry) → IsBlock block entries → block_records (block ++ more) entries ≡ block_records block entries
records_stay block more [] is = refl
records_stay block more (e ∷ entries) is =
    ap (λ (p : List ℕ). record { tag = e.tag; mark = e.mark; payload = p } ∷ block_records (block ++ more) entries) (part_again e.at e.size block more is.0.inside) ∙ ap (λ (rs : List Record). entry_record block e ∷ rs) (records_stay block more entries is.1)

pub records_append : (block : List ℕ) (xs ys : List Entry) → block_records block (xs ++ ys) ≡ block_records block xs ++ block_records block ys
records_append block [] ys = refl
records_append block (x ∷ xs) ys = ap (λ (rs : List Record). entry_record block x ∷ rs) (records_append block xs ys)

-- one more record, and its payload behind the others
pub record_pushed : (block payload : List ℕ) (entries : List Entry) (e : Entry) (rec : Record) → IsBlock block entries → entry_record (block ++ payload) e ≡ rec → block_records (block ++ payload) (entries ++ e ∷ []) ≡ block_records block entries ++ rec ∷ []
record_pushed block payload entries e rec is same =
    records_append (block ++ payload) entries (e ∷ []) ∙ ap (λ (rs : List Record). rs ++ entry_record (block ++ payload) e ∷ []) (records_stay block payload entries is) ∙ ap (λ (r : Record). block_records block entries ++ r ∷ []) same

pub block_pushed : (block : List ℕ) (entries : List Entry) (e : Entry) → IsBlock block entries → IsEntryOf block e → IsBlock block (entries ++ e ∷ [])
block_pushed block entries e is one = all_append (IsEntryOf block) entries (e ∷ []) is (one, tt)

-- the entry at a place is one of the block, and its record stands at that place
pub entry_at : (block : List ℕ) (entries : List Entry) (i : ℕ) (e : Entry) → i < length entries → e ≡ get_or entries i e → IsBlock block entries → IsEntryOf block e
entry_at block [] i e within is all = absurd (omega (arith, within))
entry_at block (x ∷ xs) zero e within is all = subst (IsEntryOf block) (sym is) all.0
entry_at block (x ∷ xs) (suc i) e within is all = entry_at block xs i e (omega (arith, within)) is all.1

-- ---- one record more

pub err_always : {T E : Type 0} {P : Type 0} (r : Result T E) → P → OnErr r P
err_always (Ok x) p = tt
err_always (Err e) p = p

pub pushed_none : (block payload block' : List ℕ) (entries entries' : List Entry) (old : List Record) → IsBlock block entries → block' ≡ block ++ payload → entries' ≡ entries → old ≡ block_records block entries → block_records block' entries' ≡ old
pushed_none block payload block' entries entries' old is b e o = rw (b, e, o) (records_stay block payload entries is)

pub pushed_one : (block payload block' : List ℕ) (entries entries' : List Entry) (old : List Record) (e : Entry) (rec : Record) → IsBlock block entries → block' ≡ block ++ payload → entries' ≡ entries ++ e ∷ [] → old ≡ block_records block entries
    → rec ≡ record { tag = e.tag; mark = e.mark; payload = payload } → e.size ≡ length payload → e.at ≡ length block → block_records block' entries' ≡ old ++ rec ∷ []
pushed_one block payload block' entries entries' old e rec is b es o same size at =
    let there : take e.size (drop e.at (block ++ payload)) ≡ payload = rw (size, at) (part_added block payload) in
    rw (b, es, o) (record_pushed block payload entries e rec is (ap (λ (p : List ℕ). record { tag = e.tag; mark = e.mark; payload = p }) there ∙ sym same))

pub pushed_block : (block payload block' : List ℕ) (entries entries' : List Entry) (e : Entry) → IsBlock block entries → block' ≡ block ++ payload → entries' ≡ entries ++ e ∷ [] → e.size ≡ length payload → length payload ≤ 4000 → e.at ≡ length block → IsBlock block' entries'
pushed_block block payload block' entries entries' e is b es size short at =
    rw (b, es) (block_pushed (block ++ payload) entries e (block_again block payload entries is) (record { inside = omega (arith, size, at, length-append block payload); short = omega (arith, size, short) }))

-- ---- a unit's bytes

-- what stands so many bytes behind the first of the bytes that are left, by its place in all
pub placed_in : (m : ℕ) (block left payload : List ℕ) (tag : ℕ) (mark : Mark) → left ≡ drop (length block - length left) block → length left ≤ length block → payload ≡ take (length payload) (drop m (drop 4 left))
    → entry_record block (record { tag = tag; mark = mark; size = length payload; at = length block - length left + 4 + m }) ≡ record { tag = tag; mark = mark; payload = payload }
placed_in m block left payload tag mark is fewer there =
    let k : ℕ = length block - length left in
    let same : drop (k + 4 + m) block ≡ drop m (drop 4 left) = sym (drop-drop m (k + 4) block) ∙ ap (drop m) (sym (drop-drop 4 k block) ∙ ap (drop 4) (sym is)) in
    ap (λ (p : List ℕ). record { tag = tag; mark = mark; payload = p }) (ap (take (length payload)) same ∙ sym there)

-- ---- the records of another block

-- entries that stand between places stand between others further out
within_wider : (from from' until until' : ℕ) (entries : List Entry) → from' ≤ from → until ≤ until' → AllByRecursion (IsWithin from until) entries → AllByRecursion (IsWithin from' until') entries
within_wider from from' until until' [] low high is = tt
within_wider from from' until until' (e ∷ entries) low high is =
    (record { begins = omega (arith, low, is.0.begins); ends = omega (arith, high, is.0.ends) }, within_wider from from' until until' entries low high is.1)

-- one entry more
pub within_more : (from from' until until' i : ℕ) (entries : List Entry) (e : Entry) → i < length entries → e ≡ get_or entries i e → from' ≤ from → from' ≤ e.at → until ≤ until' → e.at + e.size ≤ until'
    → AllByRecursion (IsWithin from until) (take i entries) → AllByRecursion (IsWithin from' until') (take (i + 1) entries)
within_more from from' until until' i entries e within is low at high end so_far =
    let more : take (i + 1) entries ≡ take i entries ++ e ∷ [] = take_more entries i e within ∙ ap (λ (x : Entry). take i entries ++ x ∷ []) (sym is) in
    rw more (all_append (IsWithin from' until') (take i entries) (e ∷ []) (within_wider from from' until until' (take i entries) low high so_far) (record { begins = at; ends = end }, tt))

-- the bytes of a block from one place to another
abbrev pub span : ℕ → ℕ → List ℕ → List ℕ
span from until block = take (until - from) (drop from block)

-- an entry that stands between places is of the same record, where the bytes between them stand behind others
moved_inside : (from until : ℕ) (block old : List ℕ) (e : Entry) → IsWithin from until e → IsEntryOf block e → until ≤ length block → IsEntryOf (old ++ span from until block) (moved from (length old) e)
moved_inside from until block old e within is end =
    let size : length (span from until block) ≡ until - from = length-take-le (until - from) (drop from block) (omega (arith, end, length-drop from block)) in
    record { inside = omega (arith, within.begins, within.ends, size, length-append old (span from until block)); short = is.short }

moved_record : (from until : ℕ) (block old : List ℕ) (e : Entry) → IsWithin from until e → until ≤ length block → entry_record (old ++ span from until block) (moved from (length old) e) ≡ entry_record block e
moved_record from until block old e within end =
    let part : List ℕ = span from until block in
    let all : List ℕ = drop from block in
    let n : ℕ = until - from in
    let at : ℕ = e.at - from in
    let size : length part ≡ n = length-take-le n all (omega (arith, end, length-drop from block)) in
    let place : at + length old ≡ length old + at = omega arith in
    let old_gone : drop (at + length old) (old ++ part) ≡ drop at part = ap (λ (k : ℕ). drop k (old ++ part)) place ∙ sym (drop-drop at (length old) (old ++ part)) ∙ ap (drop at) (drop_at old part (length old) refl) in
    let whole : take e.size (drop at part) ≡ take e.size (drop at all) = sym (part_again at e.size part (drop n all) (omega (arith, size, within.begins, within.ends))) ∙ ap (λ (xs : List ℕ). take e.size (drop at xs)) (take-append-drop n all) in
    let back : drop at all ≡ drop e.at block = drop-drop at from block ∙ ap (λ (k : ℕ). drop k block) (omega (arith, within.begins)) in
    ap (λ (p : List ℕ). record { tag = e.tag; mark = e.mark; payload = p }) (ap (take e.size) old_gone ∙ whole ∙ ap (take e.size) back)

moved_records : (from until : ℕ) (block old : List ℕ) (entries : List Entry) → AllByRecursion (IsWithin from until) entries → until ≤ length block → block_records (old ++ span from until block) (map (moved from (length old)) entries) ≡ block_records block entries
moved_records from until block old [] within end = refl
moved_records from until block old (e ∷ entries) within end =
    ap (λ (r : Record). r ∷ block_records (old ++ span from until block) (map (moved from (length old)) entries)) (moved_record from until block old e within.0 end)
    ∙ ap (λ (rs : List Record). entry_record block e ∷ rs) (moved_records from until block old entries within.1 end)

moved_block : (from until : ℕ) (block old : List ℕ) (entries : List Entry) → AllByRecursion (IsWithin from until) entries → IsBlock block entries → until ≤ length block → IsBlock (old ++ span from until block) (map (moved from (length old)) entries)
moved_block from until block old [] within is end = tt
moved_block from until block old (e ∷ entries) within is end = (moved_inside from until block old e within.0 is.0 end, moved_block from until block old entries within.1 is.1 end)

-- so a block of which the bytes that entries have were copied behind others holds their records too
pub appended_block : (from until base : ℕ) (block old block' : List ℕ) (kept entries : List Entry) → IsBlock old kept → IsBlock block entries → AllByRecursion (IsWithin from until) entries → until ≤ length block → block' ≡ old ++ span from until block → base ≡ length old
    → IsBlock block' (kept ++ map (moved from base) entries)
appended_block from until base block old block' kept entries had is within end b size =
    rw (b, size) (all_append (IsEntryOf (old ++ span from until block)) kept (map (moved from (length old)) entries) (block_again old (span from until block) kept had) (moved_block from until block old entries within is end))

pub appended_records : (from until base : ℕ) (block old block' : List ℕ) (kept kept' entries : List Entry) (records : List Record) → IsBlock old kept → AllByRecursion (IsWithin from until) entries → until ≤ length block → block' ≡ old ++ span from until block
    → base ≡ length old → kept' ≡ kept ++ map (moved from base) entries → records ≡ block_records old kept → block_records block' kept' ≡ records ++ block_records block entries
appended_records from until base block old block' kept kept' entries records had within end b size es r =
    rw (b, es, size, r) (records_append (old ++ span from until block) kept (map (moved from (length old)) entries) ∙ ap (λ (rs : List Record). rs ++ block_records (old ++ span from until block) (map (moved from (length old)) entries)) (records_stay old (span from until block) kept had)
    ∙ ap (λ (rs : List Record). block_records old kept ++ rs) (moved_records from until block old entries within end))

-- what follows where there is no error
pub ok_when : {T E : Type 0} {P Q : Type 0} (r : Result T E) → OnOk r P → (P → Q) → OnOk r Q
ok_when (Ok x) p f = f p
ok_when (Err e) p f = tt
