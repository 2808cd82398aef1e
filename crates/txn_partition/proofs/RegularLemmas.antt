-- Parts of a regular log: which records, links and VXIDs stand before a place, and which after it.
use Rattle.std.proofs.Common.{◌≡◌, ◌⊎◌, ⊎_elim, inl, inr, ℕ, Bool, true, false, eqb, ◌||◌, Some, None, List, [], ◌∷◌, ◌++◌, map, refl, ap, sym, ◌∙◌, subst, append-nil}
use Rattle.std.specs.Prelude.{◌≢◌}
use Rattle.std.specs.List.{All, list_any, filter, flat_map}
use Rattle.std.proofs.Math.Bool.{or-true}
use Rattle.std.proofs.lemmas.Bool.{eq-eqb, ne_eqb, both_ways, or_cases, or_parts, or_left, or_right}
use Rattle.std.proofs.lemmas.List.{map-append}
use Rattle.std.proofs.lemmas.List.Elements.{All-head, All-tail, filter-append}
use Rattle.std.proofs.lemmas.List.Concat.{flat_map-append}
use Rattle.vsl_tags.specs.Tags.{begin_tag, end_tag}
use Rattle.vsl_record.specs.declared.record_type.Record.{Record}
use Rattle.txn_rows.specs.declared.group.Grouping.{Grouping}
use Rattle.txn_rows.specs.Ends.{HasNoEnd, IsEnded}
use Rattle.txn_partition.specs.LogFacts.{Entry, Link, records_of, has_end, links_in, links_of, is_in, names_in, named, parent_of, each_once}
use Rattle.txn_partition.specs.Partition.{IsBegun, AreRegular}
use Rattle.txn_partition.specs.inside.Parted.{with_new_ones}
use Rattle.txn_rows.proofs.LineLemmas.{by_cases}
use Rattle.txn_rows.proofs.OrderLemmas.{all_right}
use Rattle.txn_partition.proofs.NamedLemmas.{in_append, in_new_ones, once_append, in_once}
use Rattle.txn_partition.proofs.LinkedLemmas.{told_or_not}

pub records_append : (v : ℕ) (xs ys : List Entry) → records_of v (xs ++ ys) ≡ records_of v xs ++ records_of v ys
records_append v xs ys =
    ap (map (λ (e : Entry). e.rec)) (filter-append (λ (e : Entry). eqb e.vxid v) xs ys)
    ∙ map-append (λ (e : Entry). e.rec) (filter (λ (e : Entry). eqb e.vxid v) xs) (filter (λ (e : Entry). eqb e.vxid v) ys)

pub records_own : (e : Entry) (rest : List Entry) → records_of e.vxid (e ∷ rest) ≡ e.rec ∷ records_of e.vxid rest
records_own e rest = rw (eq-eqb e.vxid e.vxid refl) refl

-- whether an End is among records
abbrev any_end : List Record → Bool
any_end records = list_any (λ (r : Record). eqb r.tag end_tag) records

end_among : (v : ℕ) (xs : List Entry) → has_end v xs ≡ any_end (records_of v xs)
end_among v [] = refl
end_among v (e ∷ xs) =
    by_cases (has_end v (e ∷ xs) ≡ any_end (records_of v (e ∷ xs))) (eqb e.vxid v)
    (λ s. rw s (ap (λ (b : Bool). eqb e.rec.tag end_tag || b) (end_among v xs)))
    (λ s. rw s (end_among v xs))

-- the last is an End, and no other
abbrev OneEnd : List Record → Type 0
OneEnd [] = ⊥
OneEnd (r ∷ []) = eqb r.tag end_tag ≡ true
OneEnd (r ∷ s ∷ rs) = (eqb r.tag end_tag ≡ false) × OneEnd (s ∷ rs)

one_from : (front : List Record) (last : Record) → last.tag ≡ end_tag → HasNoEnd front → OneEnd (front ++ last ∷ [])
one_from [] last is none = eq-eqb last.tag end_tag is
one_from (r ∷ []) last is none = (ne_eqb r.tag end_tag (All-head (λ (x : Record). x.tag ≢ end_tag) r [] none), eq-eqb last.tag end_tag is)
one_from (r ∷ s ∷ front) last is none =
    (ne_eqb r.tag end_tag (All-head (λ (x : Record). x.tag ≢ end_tag) r (s ∷ front) none), one_from (s ∷ front) last is (All-tail (λ (x : Record). x.tag ≢ end_tag) r (s ∷ front) none))

one_end : (records : List Record) → IsEnded records → OneEnd records
one_end records i = subst OneEnd (sym i.whole) (one_from i.front i.last i.end i.before)

one_any : (r : Record) (rs : List Record) → OneEnd (r ∷ rs) → any_end (r ∷ rs) ≡ true
one_any r [] one = rw one refl
one_any r (s ∷ rs) one = rw (one.0) (one_any s rs one.1)

one_behind : (xs : List Record) (y : Record) (ys : List Record) → OneEnd (xs ++ y ∷ ys) → (any_end xs ≡ false) × OneEnd (y ∷ ys)
one_behind [] y ys one = (refl, one)
one_behind (x ∷ []) y ys one = (rw (one.0) refl, one.1)
one_behind (x ∷ z ∷ xs) y ys one = let later = one_behind (z ∷ xs) y ys one.1 in (rw (one.0) later.0, later.1)

-- of two parts that have the one End one has it, and if it is the first then the second is empty
split_end : (xs ys : List Record) → OneEnd (xs ++ ys) → ((ys ≡ []) × (any_end xs ≡ true)) ⊎ ((any_end xs ≡ false) × (any_end ys ≡ true))
split_end [] [] one = absurd one
split_end (x ∷ xs) [] one = inl (refl, one_any x xs (subst OneEnd (append-nil (x ∷ xs)) one))
split_end xs (y ∷ ys) one = let both = one_behind xs y ys one in inr (both.0, one_any y ys both.1)

-- where the End of a VXID stands: before, and then it has no more records, or after
ends_once : (grouping : Grouping) (all : List Entry) → AreRegular grouping all → (before rest : List Entry) → before ++ rest ≡ all → (v : ℕ) → is_in v (named grouping all) ≡ true →
    ((records_of v rest ≡ []) × (has_end v before ≡ true)) ⊎ ((has_end v before ≡ false) × (has_end v rest ≡ true))
ends_once grouping all r before rest whole v here =
    let one : OneEnd (records_of v before ++ records_of v rest) = subst OneEnd (ap (records_of v) (sym whole) ∙ records_append v before rest) (one_end (records_of v all) (r.ends v here)) in
    ⊎_elim
    (λ (first : (records_of v rest ≡ []) × (any_end (records_of v before) ≡ true)). inl (first.0, end_among v before ∙ first.1))
    (λ (second : (any_end (records_of v before) ≡ false) × (any_end (records_of v rest) ≡ true)). inr (end_among v before ∙ second.0, end_among v rest ∙ second.1))
    (split_end (records_of v before) (records_of v rest) one)

-- a VXID that has ended has all its records, and no End to come
pub all_records : (grouping : Grouping) (all : List Entry) → AreRegular grouping all → (before rest : List Entry) → before ++ rest ≡ all → (v : ℕ) → is_in v (named grouping all) ≡ true → has_end v before ≡ true → records_of v before ≡ records_of v all
all_records grouping all r before rest whole v here ended = ⊎_elim
    (λ (first : (records_of v rest ≡ []) × (has_end v before ≡ true)).
    sym (append-nil (records_of v before)) ∙ ap (λ (rs : List Record). records_of v before ++ rs) (sym first.0) ∙ sym (records_append v before rest) ∙ ap (records_of v) whole)
    (λ (second : (has_end v before ≡ false) × (has_end v rest ≡ true)). absurd (both_ways (has_end v before) second.0 ended))
    (ends_once grouping all r before rest whole v here)

pub ended_no_more : (grouping : Grouping) (all : List Entry) → AreRegular grouping all → (before rest : List Entry) → before ++ rest ≡ all → (v : ℕ) → is_in v (named grouping all) ≡ true → has_end v before ≡ true → has_end v rest ≡ false
ended_no_more grouping all r before rest whole v here ended = ⊎_elim
    (λ (first : (records_of v rest ≡ []) × (has_end v before ≡ true)). end_among v rest ∙ ap any_end first.0)
    (λ (second : (has_end v before ≡ false) × (has_end v rest ≡ true)). absurd (both_ways (has_end v before) second.0 ended))
    (ends_once grouping all r before rest whole v here)

pub end_to_come : (grouping : Grouping) (all : List Entry) → AreRegular grouping all → (before rest : List Entry) → before ++ rest ≡ all → (v : ℕ) → is_in v (named grouping all) ≡ true → has_end v before ≡ false → has_end v rest ≡ true
end_to_come grouping all r before rest whole v here not_yet = ⊎_elim
    (λ (first : (records_of v rest ≡ []) × (has_end v before ≡ true)). absurd (both_ways (has_end v before) not_yet first.1))
    (λ (second : (has_end v before ≡ false) × (has_end v rest ≡ true)). second.1)
    (ends_once grouping all r before rest whole v here)

-- at a record of a VXID its End is to come
pub own_end : (grouping : Grouping) (all : List Entry) → AreRegular grouping all → (before : List Entry) (e : Entry) (rest : List Entry) → before ++ e ∷ rest ≡ all → is_in e.vxid (named grouping all) ≡ true → (has_end e.vxid before ≡ false) × (has_end e.vxid (e ∷ rest) ≡ true)
own_end grouping all r before e rest whole here = ⊎_elim
    (λ (first : (records_of e.vxid (e ∷ rest) ≡ []) × (has_end e.vxid before ≡ true)). absurd (let f : [] ≡ e.rec ∷ records_of e.vxid rest = sym first.0 ∙ records_own e rest in cc))
    (λ (second : (has_end e.vxid before ≡ false) × (has_end e.vxid (e ∷ rest) ≡ true)). second)
    (ends_once grouping all r before (e ∷ rest) whole e.vxid here)

-- no record stands before a Begin
begin_alone : (all : List Record) → IsBegun all → (rec : Record) (behind : List Record) → rec.tag ≡ begin_tag → (before : List Record) → before ++ rec ∷ behind ≡ all → before ≡ []
begin_alone all is rec behind begin [] whole = refl
begin_alone all is rec behind begin (r ∷ before) whole =
    let same : r ∷ before ++ rec ∷ behind ≡ is.first ∷ is.later = whole ∙ is.whole in
    let later : before ++ rec ∷ behind ≡ is.later = (cc) in
    let P : Record → Type 0 = λ x. x.tag ≢ begin_tag in
    absurd (All-head P rec behind (all_right P before (rec ∷ behind) (subst (All P) (sym later) is.only)) begin)

-- at a Begin nothing was recorded
pub begins_first : (grouping : Grouping) (all : List Entry) → AreRegular grouping all → (before : List Entry) (e : Entry) (rest : List Entry) → before ++ e ∷ rest ≡ all → is_in e.vxid (named grouping all) ≡ true → e.rec.tag ≡ begin_tag → records_of e.vxid before ≡ []
begins_first grouping all r before e rest whole here begin =
    let is : IsBegun (records_of e.vxid all) = r.begins e.vxid here in
    begin_alone (records_of e.vxid all) is e.rec (records_of e.vxid rest) begin (records_of e.vxid before)
    (ap (λ (x : List Record). records_of e.vxid before ++ x) (sym (records_own e rest)) ∙ sym (records_append e.vxid before (e ∷ rest)) ∙ ap (records_of e.vxid) whole)

-- what a part names is named
pub named_append : (grouping : Grouping) (xs ys : List Entry) → named grouping (xs ++ ys) ≡ with_new_ones (named grouping xs) (flat_map (names_in grouping) ys)
named_append grouping xs ys = ap each_once (flat_map-append (names_in grouping) xs ys) ∙ once_append (flat_map (names_in grouping) xs) (flat_map (names_in grouping) ys)

pub named_more : (grouping : Grouping) (xs ys : List Entry) (v : ℕ) → is_in v (named grouping xs) ≡ true → is_in v (named grouping (xs ++ ys)) ≡ true
named_more grouping xs ys v here =
    ap (is_in v) (named_append grouping xs ys) ∙ in_new_ones v (named grouping xs) (flat_map (names_in grouping) ys) ∙ or_left (is_in v (named grouping xs)) (is_in v (flat_map (names_in grouping) ys)) here

-- the VXIDs of links
abbrev pub joined_by : List Link → List ℕ
joined_by links = flat_map (λ (l : Link). l.child ∷ l.parent ∷ []) links

-- a VXID is named where one of a list of names has it
pub in_names : (v : ℕ) (grouping : Grouping) (xs : List Entry) → is_in v (named grouping xs) ≡ is_in v (flat_map (names_in grouping) xs)
in_names v grouping xs = in_once v (flat_map (names_in grouping) xs)

-- links name their two
link_names : (links : List Link) (x p : ℕ) → parent_of links x ≡ Some p → (is_in x (joined_by links) ≡ true) × (is_in p (joined_by links) ≡ true)
link_names [] x p e = absurd (cc)
link_names (l ∷ links) x p e =
    by_cases ((is_in x (joined_by (l ∷ links)) ≡ true) × (is_in p (joined_by (l ∷ links)) ≡ true)) (eqb l.child x)
    (λ s. let parent : Some l.parent ≡ Some p = rw s at e in
    let is : eqb l.parent p ≡ true = eq-eqb l.parent p (cc) in
    (rw s refl, rw is (or-true (eqb l.child p))))
    (λ s. let later = link_names links x p (rw s at e) in (
      or_right (eqb l.child x) (eqb l.parent x || is_in x (joined_by links)) (or_right (eqb l.parent x) (is_in x (joined_by links)) later.0),
      or_right (eqb l.child p) (eqb l.parent p || is_in p (joined_by links)) (or_right (eqb l.parent p) (is_in p (joined_by links)) later.1),
    ))

joined_named : (grouping : Grouping) (v : ℕ) (xs : List Entry) → is_in v (joined_by (links_of grouping xs)) ≡ true → is_in v (flat_map (names_in grouping) xs) ≡ true
joined_named grouping v [] there = there
joined_named grouping v (e ∷ xs) there =
    let both : (is_in v (joined_by (links_in grouping e)) || is_in v (joined_by (links_of grouping xs))) ≡ true =
    sym (in_append v (joined_by (links_in grouping e)) (joined_by (links_of grouping xs))) ∙ sym (ap (is_in v) (flat_map-append (λ (l : Link). l.child ∷ l.parent ∷ []) (links_in grouping e) (links_of grouping xs))) ∙ there in
    or_right (eqb e.vxid v) (is_in v (joined_by (links_in grouping e) ++ flat_map (names_in grouping) xs)) (in_append v (joined_by (links_in grouping e)) (flat_map (names_in grouping) xs)
    ∙ ⊎_elim (λ (a : is_in v (joined_by (links_in grouping e)) ≡ true). or_left (is_in v (joined_by (links_in grouping e))) (is_in v (flat_map (names_in grouping) xs)) a)
    (λ (b : is_in v (joined_by (links_of grouping xs)) ≡ true). or_right (is_in v (joined_by (links_in grouping e))) (is_in v (flat_map (names_in grouping) xs)) (joined_named grouping v xs b))
    (or_cases (is_in v (joined_by (links_in grouping e))) (is_in v (joined_by (links_of grouping xs))) both))

-- so a child and its parent are named
pub both_named : (grouping : Grouping) (xs : List Entry) (x p : ℕ) → parent_of (links_of grouping xs) x ≡ Some p → (is_in x (named grouping xs) ≡ true) × (is_in p (named grouping xs) ≡ true)
both_named grouping xs x p e =
    let two = link_names (links_of grouping xs) x p e in
    (in_names x grouping xs ∙ joined_named grouping x xs two.0, in_names p grouping xs ∙ joined_named grouping p xs two.1)

-- and a VXID with records
own_named : (grouping : Grouping) (v : ℕ) (xs : List Entry) → is_in v (flat_map (names_in grouping) xs) ≡ false → records_of v xs ≡ []
own_named grouping v [] none = refl
own_named grouping v (e ∷ xs) none =
    let first = or_parts (eqb e.vxid v) (is_in v (joined_by (links_in grouping e) ++ flat_map (names_in grouping) xs)) none in
    let later = or_parts (is_in v (joined_by (links_in grouping e))) (is_in v (flat_map (names_in grouping) xs)) (sym (in_append v (joined_by (links_in grouping e)) (flat_map (names_in grouping) xs)) ∙ first.1) in
    rw (first.0) (own_named grouping v xs later.1)

-- of what is not named nothing is known
pub unnamed_records : (grouping : Grouping) (xs : List Entry) (v : ℕ) → is_in v (named grouping xs) ≡ false → records_of v xs ≡ []
unnamed_records grouping xs v none = own_named grouping v xs (sym (in_names v grouping xs) ∙ none)

pub unnamed_parent : (grouping : Grouping) (xs : List Entry) (v : ℕ) → is_in v (named grouping xs) ≡ false → parent_of (links_of grouping xs) v ≡ None
unnamed_parent grouping xs v none = told_or_not (parent_of (links_of grouping xs) v ≡ None) (parent_of (links_of grouping xs) v) (λ e. e)
    (λ p e. absurd (both_ways (is_in v (named grouping xs)) none (both_named grouping xs v p e).0))

pub unnamed_end : (grouping : Grouping) (xs : List Entry) (v : ℕ) → is_in v (named grouping xs) ≡ false → has_end v xs ≡ false
unnamed_end grouping xs v none = end_among v xs ∙ ap any_end (unnamed_records grouping xs v none)
