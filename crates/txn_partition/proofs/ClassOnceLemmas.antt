-- Each VXID that a regular log names is a member of one class, once.
use Rattle.std.proofs.Common.{◌≡◌, ⊎_elim, ℕ, Bool, true, false, not, eqb, cond, ◌||◌, ◌&&◌, List, [], ◌∷◌, map, refl, ap, sym, ◌∙◌, arith}
use Rattle.std.specs.Prelude.{count_by}
use Rattle.std.proofs.lemmas.Bool.{eqb-true, both_ways, or_left, or_right, or_cases, and_parts, and_from, not-true, false_from_ne_true}
use Rattle.std.proofs.lemmas.List.Sums.{sum_by-cons}
use Rattle.vsl_tags.specs.Tags.{end_tag}
use Rattle.vsl_record.specs.Unit.{Log}
use Rattle.txn_rows.specs.declared.group.Grouping.{Grouping}
use Rattle.txn_rows.specs.declared.group.Member.{Member}
use Rattle.txn_rows.specs.declared.group.Group.{Group}
use Rattle.txn_rows.specs.Links.{is_path_before, placed, preorder}
use Rattle.txn_partition.specs.LogFacts.{Entry, entries_of, is_in, has_end, named}
use Rattle.txn_partition.specs.Partition.{class_root, class_path, class_of, class_member, class_group, ends_later, ended_roots, classes, Regular, count_vxid}
use Rattle.txn_partition.specs.inside.Parted.{class_ends}
use Rattle.txn_rows.proofs.LineLemmas.{by_cases}
use Rattle.txn_rows.proofs.JoinLemmas.{count_map}
use Rattle.txn_partition.proofs.NamedLemmas.{AreApart, in_filter, apart_filter, eqb_swap}
use Rattle.txn_partition.proofs.RegularLemmas.{end_to_come}
use Rattle.txn_partition.proofs.ClassLemmas.{ends_class}
use Rattle.txn_partition.proofs.LinkMadeLemmas.{named_apart}

-- a class whose root is listed has an End
listed_ends : (grouping : Grouping) (all : List Entry) (r : ℕ) (xs : List Entry) → is_in r (ended_roots grouping all xs) ≡ true → class_ends (class_root grouping all) r xs ≡ true
listed_ends grouping all r [] here = absurd (cc)
listed_ends grouping all r (e ∷ xs) here =
    let root : ℕ → ℕ = class_root grouping all in
    let own : Bool = eqb (root e.vxid) r && eqb e.rec.tag end_tag in
    let Goal : Type 0 = (own || class_ends root r xs) ≡ true in
    by_cases Goal (eqb e.rec.tag end_tag && not (ends_later grouping all xs e.vxid))
    (λ q. let parts = and_parts (eqb e.rec.tag end_tag) (not (ends_later grouping all xs e.vxid)) q in
    ⊎_elim
    (λ (same : eqb (root e.vxid) r ≡ true). or_left own (class_ends root r xs) (and_from (eqb (root e.vxid) r) (eqb e.rec.tag end_tag) same parts.0))
    (λ (later : is_in r (ended_roots grouping all xs) ≡ true). or_right own (class_ends root r xs) (listed_ends grouping all r xs later))
    (or_cases (eqb (root e.vxid) r) (is_in r (ended_roots grouping all xs)) (rw q at here)))
    (λ q. or_right own (class_ends root r xs) (listed_ends grouping all r xs (rw q at here)))

-- so none is listed twice
roots_apart : (grouping : Grouping) (all xs : List Entry) → AreApart (ended_roots grouping all xs)
roots_apart grouping all [] = tt
roots_apart grouping all (e ∷ xs) =
    let r : ℕ = class_root grouping all e.vxid in
    by_cases (AreApart (ended_roots grouping all (e ∷ xs))) (eqb e.rec.tag end_tag && not (ends_later grouping all xs e.vxid))
    (λ q. let none : ends_later grouping all xs e.vxid ≡ false = not-true (ends_later grouping all xs e.vxid) (and_parts (eqb e.rec.tag end_tag) (not (ends_later grouping all xs e.vxid)) q).1 in
    let first : is_in r (ended_roots grouping all xs) ≡ false = false_from_ne_true (is_in r (ended_roots grouping all xs)) (λ here. both_ways (ends_later grouping all xs e.vxid) none (listed_ends grouping all r xs here)) in
    rw q (first, roots_apart grouping all xs))
    (λ q. rw q (roots_apart grouping all xs))

-- and each that has an End is
ends_listed : (grouping : Grouping) (all : List Entry) (r : ℕ) (xs : List Entry) → class_ends (class_root grouping all) r xs ≡ true → is_in r (ended_roots grouping all xs) ≡ true
ends_listed grouping all r [] ends = absurd (cc)
ends_listed grouping all r (e ∷ xs) ends =
    let root : ℕ → ℕ = class_root grouping all in
    let later : Bool = class_ends root r xs in
    let Goal : Type 0 = is_in r (ended_roots grouping all (e ∷ xs)) ≡ true in
    by_cases Goal (eqb e.rec.tag end_tag && not (ends_later grouping all xs e.vxid))
    (λ q. rw q (⊎_elim
    (λ (own : (eqb (root e.vxid) r && eqb e.rec.tag end_tag) ≡ true). or_left (eqb (root e.vxid) r) (is_in r (ended_roots grouping all xs)) (and_parts (eqb (root e.vxid) r) (eqb e.rec.tag end_tag) own).0)
    (λ (on : later ≡ true). or_right (eqb (root e.vxid) r) (is_in r (ended_roots grouping all xs)) (ends_listed grouping all r xs on))
    (or_cases (eqb (root e.vxid) r && eqb e.rec.tag end_tag) later ends)))
    (λ q. rw q (⊎_elim
    (λ (own : (eqb (root e.vxid) r && eqb e.rec.tag end_tag) ≡ true).
    let parts = and_parts (eqb (root e.vxid) r) (eqb e.rec.tag end_tag) own in
    let is : root e.vxid ≡ r = eqb-true (root e.vxid) r parts.0 in
    by_cases (is_in r (ended_roots grouping all xs) ≡ true) later (λ on. ends_listed grouping all r xs on)
    (λ off. absurd (both_ways (eqb e.rec.tag end_tag && not (ends_later grouping all xs e.vxid)) q (and_from (eqb e.rec.tag end_tag) (not (ends_later grouping all xs e.vxid)) parts.1 (ap not (ap (λ (s : ℕ). class_ends root s xs) is ∙ off))))))
    (λ (on : later ≡ true). ends_listed grouping all r xs on)
    (or_cases (eqb (root e.vxid) r && eqb e.rec.tag end_tag) later ends)))

-- sorting keeps a count
count_placed : (p : ℕ → Bool) (path : ℕ → List ℕ) (x : ℕ) (xs : List ℕ) → count_by p (placed path x xs) ≡ count_by p (x ∷ xs)
count_placed p path x [] = refl
count_placed p path x (y ∷ xs) =
    let f : ℕ → ℕ = λ z. cond (p z) 1 0 in
    by_cases (count_by p (placed path x (y ∷ xs)) ≡ count_by p (x ∷ y ∷ xs)) (is_path_before (path x) (path y))
    (λ e. rw e refl)
    (λ e. rw e (omega (arith, sum_by-cons f y (placed path x xs), count_placed p path x xs, sum_by-cons f x xs, sum_by-cons f x (y ∷ xs), sum_by-cons f y xs)))

count_sorted : (p : ℕ → Bool) (path : ℕ → List ℕ) (xs : List ℕ) → count_by p (preorder path xs) ≡ count_by p xs
count_sorted p path [] = refl
count_sorted p path (x ∷ xs) =
    let f : ℕ → ℕ = λ z. cond (p z) 1 0 in
    omega (arith, count_placed p path x (preorder path xs), sum_by-cons f x (preorder path xs), count_sorted p path xs, sum_by-cons f x xs)

-- a number of a list without repetition stands there once
one_count : (v : ℕ) (xs : List ℕ) → AreApart xs → count_by (λ x. eqb x v) xs ≡ cond (is_in v xs) 1 0
one_count v [] apart = refl
one_count v (x ∷ xs) apart =
    let f : ℕ → ℕ = λ z. cond (eqb z v) 1 0 in
    by_cases (count_by (λ y. eqb y v) (x ∷ xs) ≡ cond (is_in v (x ∷ xs)) 1 0) (eqb x v)
    (λ e. let gone : is_in v xs ≡ false = ap (λ (y : ℕ). is_in y xs) (sym (eqb-true x v e)) ∙ apart.0 in
    let none : count_by (λ y. eqb y v) xs ≡ 0 = one_count v xs apart.1 ∙ ap {B = ℕ} (λ (b : Bool). cond b 1 0) gone in
    let one : f x ≡ 1 = ap {B = ℕ} (λ (b : Bool). cond b 1 0) e in
    omega (arith, sum_by-cons f x xs, none, one) ∙ sym (ap {B = ℕ} (λ (b : Bool). cond (b || is_in v xs) 1 0) e))
    (λ e. let zero : f x ≡ 0 = ap {B = ℕ} (λ (b : Bool). cond b 1 0) e in
    omega (arith, sum_by-cons f x xs, zero) ∙ one_count v xs apart.1 ∙ sym (ap {B = ℕ} (λ (b : Bool). cond (b || is_in v xs) 1 0) e))

-- a VXID in the group of a root
count_in_class : (grouping : Grouping) (all : List Entry) (v r : ℕ) → is_in v (named grouping all) ≡ true → count_by (λ (m : Member). eqb m.vxid v) (class_group grouping all r).members ≡ cond (eqb (class_root grouping all v) r) 1 0
count_in_class grouping all v r here =
    let p : ℕ → Bool = λ x. eqb x v in
    let inside : ℕ → Bool = λ x. eqb (class_root grouping all x) r in
    count_map (λ (m : Member). eqb m.vxid v) (class_member grouping all) (preorder (class_path grouping all) (class_of grouping all r))
    ∙ count_sorted p (class_path grouping all) (class_of grouping all r)
    ∙ one_count v (class_of grouping all r) (apart_filter inside (named grouping all) (named_apart grouping all))
    ∙ ap {B = ℕ} (λ (b : Bool). cond b 1 0) (in_filter v inside (named grouping all) ∙ ap (λ (b : Bool). b && inside v) here)

-- and in those of roots
count_in_classes : (grouping : Grouping) (all : List Entry) (v : ℕ) → is_in v (named grouping all) ≡ true → (roots : List ℕ) → AreApart roots → count_vxid v (map (class_group grouping all) roots) ≡ cond (is_in (class_root grouping all v) roots) 1 0
count_in_classes grouping all v here [] apart = refl
count_in_classes grouping all v here (r ∷ roots) apart =
    let own : ℕ = class_root grouping all v in
    let f : Group → ℕ = λ g. count_by (λ (m : Member). eqb m.vxid v) g.members in
    let later = count_in_classes grouping all v here roots apart.1 in
    let first : f (class_group grouping all r) ≡ cond (eqb r own) 1 0 = count_in_class grouping all v r here ∙ ap {B = ℕ} (λ (b : Bool). cond b 1 0) (eqb_swap own r) in
    by_cases (count_vxid v (map (class_group grouping all) (r ∷ roots)) ≡ cond (is_in own (r ∷ roots)) 1 0) (eqb r own)
    (λ e. let gone : is_in own roots ≡ false = ap (λ (y : ℕ). is_in y roots) (sym (eqb-true r own e)) ∙ apart.0 in
    let one : f (class_group grouping all r) ≡ 1 = first ∙ ap {B = ℕ} (λ (b : Bool). cond b 1 0) e in
    let none : count_vxid v (map (class_group grouping all) roots) ≡ 0 = later ∙ ap {B = ℕ} (λ (b : Bool). cond b 1 0) gone in
    omega (arith, sum_by-cons f (class_group grouping all r) (map (class_group grouping all) roots), one, none) ∙ sym (ap {B = ℕ} (λ (b : Bool). cond (b || is_in own roots) 1 0) e))
    (λ e. let zero : f (class_group grouping all r) ≡ 0 = first ∙ ap {B = ℕ} (λ (b : Bool). cond b 1 0) e in
    omega (arith, sum_by-cons f (class_group grouping all r) (map (class_group grouping all) roots), zero) ∙ later ∙ sym (ap {B = ℕ} (λ (b : Bool). cond (b || is_in own roots) 1 0) e))

-- each VXID that is named is a member of one class, once
pub each_named_once : (log : Log) (grouping : Grouping) → Regular log grouping → (vxid : ℕ) → is_in vxid (named grouping (entries_of log)) ≡ true → count_vxid vxid (classes log grouping) ≡ 1
each_named_once log grouping regular v here =
    let all : List Entry = entries_of log in
    let root : ℕ → ℕ = class_root grouping all in
    let ends : has_end v all ≡ true = end_to_come grouping all regular [] all refl v here refl in
    count_in_classes grouping all v here (ended_roots grouping all all) (roots_apart grouping all all)
    ∙ ap {B = ℕ} (λ (b : Bool). cond b 1 0) (ends_listed grouping all (root v) all (ends_class root v all ends))
