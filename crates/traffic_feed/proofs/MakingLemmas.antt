-- Making traffic line by line, and request by request.
use Rattle.std.proofs.Common.{◌≡◌, ℕ, zero, suc, ◌+◌, ◌≤◌, true, leb, ◌&&◌, List, [], ◌∷◌, ◌++◌, map, slice_index_or, subst, refl, sym, ap, ◌∙◌, arith, leb-true}
use Rattle.std.proofs.Math.ListN as whole
use Rattle.std.specs.Borrow.{Bor}
use Rattle.std.specs.List.{All, AllByRecursion, flat_map, fold, list_all, range_with_len}
use Rattle.std.proofs.lemmas.List.{append-nil}
use Rattle.std.proofs.lemmas.List.Concat.{flat_map-append}
use Rattle.std.proofs.lemmas.List.Elements.{All-from_recursion}
use Rattle.std.proofs.lemmas.List.Sums.{AllPass-from_list_all, fold-append}
use Rattle.vsl_tags.specs.Tags.{first_tag, last_tag, IsTag}
use Rattle.vsl_record.specs.Unit.{Log}
use Rattle.ring_layout.proofs.AgreedLemmas.{both_true}
use Rattle.traffic_feed.specs.declared.requests.Number.{Number}
use Rattle.traffic_feed.specs.declared.requests.Whose.{Whose}
use Rattle.raw_records.specs.Lines.{Line}
use Rattle.traffic_feed.specs.Made.{request_lines, draw_of, made_lines}
use Rattle.traffic_feed.specs.Batches.{IsWithin}
use Rattle.traffic_feed.specs.Turns.{first_draw, next_draw}
use Rattle.traffic_feed.specs.inside.Gathering.{Gathered, nothing, stepped, gathered_lines}
use Rattle.traffic_feed.specs.inside.Making.{IsPartlyMade, row_count, drawn_before}
use Rattle.traffic_feed.proofs.PartlyLemmas.{seg_folded}

-- ---- requests

-- a row of the table that the code has
abbrev Row : Type 0
Row = Whose × ℕ × Bor (List ℕ) × Number × Bor (List ℕ)

-- the tag of a row, among the tags of all
pub tag_at : (rows : List Row) (i : ℕ) (none : Row) → (slice_index_or rows i none).1 ≡ slice_index_or (map (λ (row : Row). row.1) rows) i none.1
tag_at rows i none = sym (whole.get_or-map (λ (row : Row). row.1) rows i none)

-- numbers are tags where a test says so
pub are_tags : (tags : List ℕ) → list_all (λ (tag : ℕ). leb first_tag tag && leb tag last_tag) tags ≡ true → All IsTag tags
are_tags tags e k none inside = let both = both_true (AllPass-from_list_all _ tags e k none inside) in (leb-true _ _ both.0, leb-true _ _ both.1)

-- a number more
range_more : (a n : ℕ) → range_with_len a (suc n) ≡ range_with_len a n ++ (a + n) ∷ []
range_more a zero = ap (λ m. m ∷ []) (omega arith)
range_more a (suc n) = ap (λ ns. a ∷ ns) (range_more (a + 1) n) ∙ ap (λ m. a ∷ (range_with_len (a + 1) n ++ m ∷ [])) (omega arith)

-- the lines of a request more
pub made_more : (k seed : ℕ) → made_lines (suc k) seed ≡ made_lines k seed ++ request_lines k (draw_of seed k)
made_more k seed =
    let lines_of : ℕ → List Line = λ k. request_lines k (draw_of seed k) in
    let numbers : range_with_len 0 (suc k) ≡ range_with_len 0 k ++ k ∷ [] = range_more 0 k ∙ ap (λ m. range_with_len 0 k ++ m ∷ []) (omega arith) in
    ap (flat_map lines_of) numbers ∙ flat_map-append lines_of (range_with_len 0 k) (k ∷ []) ∙ ap (λ ls. made_lines k seed ++ ls) (append-nil (lines_of k))

-- the draw for a request is the one behind the draw before
drawn_next : (seed k : ℕ) → next_draw (drawn_before seed k) ≡ draw_of seed k
drawn_next seed zero = refl
drawn_next seed (suc k) = refl

-- no request was made
pub IsPartlyMade-none : (seed reclen seg x : ℕ) (g : Gathered) → g ≡ nothing reclen seg → x ≡ first_draw seed → IsPartlyMade seed reclen seg 0 x g
IsPartlyMade-none seed reclen seg x g is drawn = record { state = is; drawn = drawn; few_cuts = omega (arith, ap (λ (g : Gathered). g.cuts) is) }

-- a request more was made, for which this was drawn
made_next : (seed reclen seg k x y now : ℕ) (g new : Gathered) → IsPartlyMade seed reclen seg k x g → now ≡ next_draw x → y ≡ now → new ≡ fold stepped g (request_lines k y) → new.cuts ≤ g.cuts + row_count → IsPartlyMade seed reclen seg (suc k) now new
made_next seed reclen seg k x y now g new made draw same took few =
    let drawn : now ≡ draw_of seed k = draw ∙ ap next_draw made.drawn ∙ drawn_next seed k in
    record {
      state = took ∙ ap (λ (g : Gathered). fold stepped g (request_lines k y)) made.state ∙ ap (λ y. fold stepped (gathered_lines reclen seg (made_lines k seed)) (request_lines k y)) (same ∙ drawn)
          ∙ sym (fold-append stepped (nothing reclen seg) (made_lines k seed) (request_lines k (draw_of seed k))) ∙ ap (λ ls. gathered_lines reclen seg ls) (sym (made_more k seed));
      drawn = drawn;
      few_cuts = omega (arith, few, made.few_cuts);
    }

-- the same with the number as a loop counts it
pub IsPartlyMade-more : (seed reclen seg k x y now : ℕ) (g new : Gathered) → IsPartlyMade seed reclen seg k x g → now ≡ next_draw x → y ≡ now → new ≡ fold stepped g (request_lines k y) → new.cuts ≤ g.cuts + row_count → IsPartlyMade seed reclen seg (k + 1) now new
IsPartlyMade-more seed reclen seg k x y now g new made draw same took few =
    let next : suc k ≡ k + 1 = omega arith in
    subst (λ n. IsPartlyMade seed reclen seg n now new) next (made_next seed reclen seg k x y now g new made draw same took few)

-- all that was made fits in segments
pub made_within : (seed reclen seg k x : ℕ) (g : Gathered) (units : Log) → IsPartlyMade seed reclen seg k x g → AllByRecursion (IsWithin g.seg) units → All (IsWithin seg) units
made_within seed reclen seg k x g units made all =
    let same : g.seg ≡ seg = ap (λ (g : Gathered). g.seg) made.state ∙ seg_folded (made_lines k seed) (nothing reclen seg) in
    All-from_recursion (IsWithin seg) units (subst (λ n. AllByRecursion (IsWithin n) units) same all)
