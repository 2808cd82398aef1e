-- Keys that are counted one part after another.
use Rattle.std.proofs.Common.{◌≡◌, ◌+◌, ◌<◌, ◌≤◌, ℕ, Bool, List, [], ◌∷◌, ◌++◌, length, map, take, get_or, filter, sym, ap, ◌∙◌, subst}
use Rattle.std.specs.List.{flat_map}
use Rattle.std.proofs.lemmas.List.{append_assoc, map-append, take_more, take_all}
use Rattle.std.proofs.lemmas.List.Concat.{flat_map-append}
use Rattle.std.proofs.lemmas.List.Elements.{filter-append}
use Rattle.vsl_record.specs.declared.record_type.Record.{Record}
use Rattle.txn_rows.specs.declared.group.Member.{Member}
use Rattle.vsl_select.specs.Showing.{Showing}
use Rattle.vsl_select.specs.Shown.{is_shown_alone, is_shown_member, is_shown_record, shown_member}
use Rattle.vsl_top.specs.Report.{Key, key_of}
use Rattle.vsl_top.specs.Counting.{AreCounted}
use Rattle.vsl_top.specs.declared.counts.Counts.{Counts}
use Rattle.vsl_top.specs.inside.Keys.{alone_keys, member_keys, shown_keys}

-- the keys of one part more were counted
pub one_more : {X : Type 0} (keys_in : List X → List Key) → ((xs ys : List X) → keys_in (xs ++ ys) ≡ keys_in xs ++ keys_in ys) → (items : List X) (i : ℕ) (x : X) (old now new : Counts)
    → i < length items → x ≡ get_or items i x → ((keys : List Key) → AreCounted keys old → AreCounted (keys ++ keys_in (take i items)) now)
    → ((keys : List Key) → AreCounted keys now → AreCounted (keys ++ keys_in (x ∷ [])) new)
    → (keys : List Key) → AreCounted keys old → AreCounted (keys ++ keys_in (take (i + 1) items)) new
one_more {X} keys_in joins items i x old now new lt is so_far step keys counted =
    let whole : keys_in (take (i + 1) items) ≡ keys_in (take i items) ++ keys_in (x ∷ [])
    = ap keys_in (take_more items i x lt ∙ ap (λ (y : X). take i items ++ y ∷ []) (sym is)) ∙ joins (take i items) (x ∷ []) in
    subst (λ (ks : List Key). AreCounted ks new) (append_assoc keys _ _ ∙ ap (λ (ks : List Key). keys ++ ks) (sym whole)) (step _ (so_far keys counted))

-- so where the step is told of a selection that is the same
pub one_more_by : {X : Type 0} (keys_in : Showing → List X → List Key) (showing now_showing : Showing) → now_showing ≡ showing
    → ((xs ys : List X) → keys_in showing (xs ++ ys) ≡ keys_in showing xs ++ keys_in showing ys) → (items : List X) (i : ℕ) (x : X) (old now new : Counts)
    → i < length items → x ≡ get_or items i x → ((keys : List Key) → AreCounted keys old → AreCounted (keys ++ keys_in showing (take i items)) now)
    → ((keys : List Key) → AreCounted keys now → AreCounted (keys ++ keys_in now_showing (x ∷ [])) new)
    → (keys : List Key) → AreCounted keys old → AreCounted (keys ++ keys_in showing (take (i + 1) items)) new
one_more_by {X} keys_in showing now_showing same joins items i x old now new lt is so_far step =
    one_more (keys_in showing) joins items i x old now new lt is so_far
    (subst (λ (s : Showing). (keys : List Key) → AreCounted keys now → AreCounted (keys ++ keys_in s (x ∷ [])) new) same step)

-- the keys of all parts were counted
pub all_of : {X : Type 0} (keys_in : List X → List Key) (items whole : List X) (i : ℕ) (old now : Counts) → length items ≤ i → items ≡ whole
    → ((keys : List Key) → AreCounted keys old → AreCounted (keys ++ keys_in (take i items)) now) → (keys : List Key) → AreCounted keys old → AreCounted (keys ++ keys_in whole) now
all_of {X} keys_in items whole i old now le is so_far keys counted =
    subst (λ (xs : List X). AreCounted (keys ++ keys_in xs) now) (take_all i items le ∙ is) (so_far keys counted)

pub shown_append : (showing : Showing) (first_field : Bool) (xs ys : List Record) → shown_keys showing first_field (xs ++ ys) ≡ shown_keys showing first_field xs ++ shown_keys showing first_field ys
shown_append showing first_field xs ys = ap (map (key_of first_field)) (filter-append (is_shown_record showing) xs ys) ∙ map-append (key_of first_field) _ _

pub alone_append : (showing : Showing) (first_field : Bool) (xs ys : List Record) → alone_keys showing first_field (xs ++ ys) ≡ alone_keys showing first_field xs ++ alone_keys showing first_field ys
alone_append showing first_field xs ys = ap (map (key_of first_field)) (filter-append (is_shown_alone showing) xs ys) ∙ map-append (key_of first_field) _ _

pub member_append : (showing : Showing) (first_field : Bool) (xs ys : List Member)
    → member_keys showing first_field (xs ++ ys) ≡ member_keys showing first_field xs ++ member_keys showing first_field ys
member_append showing first_field xs ys =
    let left = filter (is_shown_member showing.sides) xs in
    let right = filter (is_shown_member showing.sides) ys in
    ap (λ (ms : List Member). map (key_of first_field) (flat_map (λ m. m.records) (map (shown_member showing) ms))) (filter-append (is_shown_member showing.sides) xs ys)
    ∙ ap (λ (ms : List Member). map (key_of first_field) (flat_map (λ m. m.records) ms)) (map-append (shown_member showing) left right)
    ∙ ap (map (key_of first_field)) (flat_map-append (λ (m : Member). m.records) (map (shown_member showing) left) (map (shown_member showing) right))
    ∙ map-append (key_of first_field) _ _
