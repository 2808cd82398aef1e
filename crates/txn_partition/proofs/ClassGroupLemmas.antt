-- A class of a regular log that has ended is a tree of the transactions that are pending, and its group is that of
-- the tree.
use Rattle.std.proofs.Common.{◌≡◌, ◌≤◌, ℕ, Bool, true, eqb, ◌&&◌, Option, Some, None, List, [], ◌∷◌, ◌++◌, length, map, reverse, refl, ap, sym, ◌∙◌, subst, append-nil, arith}
use Rattle.std.specs.List.{filter, flat_map}
use Rattle.std.proofs.lemmas.Bool.{eqb-true, eq-eqb, both_ways, or_left, or_right, and_parts, and_from, false_from_ne_true}
use Rattle.std.proofs.lemmas.List.{length-map, reverse-append, flat_map_more}
use Rattle.std.proofs.lemmas.List.Elements.{filter-append}
use Rattle.vsl_record.specs.declared.record_type.Record.{Record}
use Rattle.txn_rows.specs.declared.group.Grouping.{Grouping}
use Rattle.txn_rows.specs.declared.group.Member.{Member}
use Rattle.txn_rows.specs.declared.group.Group.{Group}
use Rattle.txn_rows.specs.Transaction.{Transaction}
use Rattle.txn_rows.specs.Links.{line_of, path_of, number_of, link_number, preorder, parent_vxid, member_of, group_of}
use Rattle.txn_partition.specs.LogFacts.{Entry, records_of, has_end, links_of, is_in, names_in, named, parent_of}
use Rattle.txn_partition.specs.Partition.{line_up, line_from, class_root, class_of, begin_claim, kind_told, reason_told, vxid_or_zero, class_member, class_group, AreRegular, ends_later}
use Rattle.txn_partition.specs.inside.Parted.{number_under, numbered_path, parent_link, transaction_at, open_names}
use Rattle.txn_rows.proofs.LineLemmas.{by_cases, path_more}
use Rattle.txn_partition.proofs.NamedLemmas.{AreApart, no_more, in_filter, grown, filter_same, filter_both, filter_none, apart_parts}
use Rattle.txn_partition.proofs.LinkedLemmas.{GoesUp, told_or_not, top_of, top_same, last_holds, line_holds, line_same, line_agrees, never_fewer, Joined, IsWhole, tree_whole}
use Rattle.txn_partition.proofs.MappedLemmas.{AreLinked, line_of_mapped, names_under, tree_mapped, members_mapped}
use Rattle.txn_partition.proofs.RegularLemmas.{named_append, all_records}
use Rattle.txn_partition.proofs.ClassLemmas.{part_named, class_up, in_open, open_in, part_joined}
use Rattle.txn_partition.proofs.LinkToldLemmas.{IsTold, linked_told}
use Rattle.txn_partition.proofs.LinkMadeLemmas.{named_apart, names_apart}
use Rattle.txn_partition.proofs.SiblingLemmas.{class_preorder}

-- a part of a regular log, and a VXID that is open
pub record AtPart (grouping : Grouping) (all before rest to_come : List Entry) (v : ℕ) : Type 0 where
  pub regular : AreRegular grouping all
  pub whole : before ++ rest ≡ all
  pub here : is_in v (open_names grouping all before to_come) ≡ true

-- the top of a VXID, as far as links are known
abbrev pub top_at : Grouping → List Entry → List Entry → List Entry → ℕ → ℕ
top_at grouping all before to_come x = top_of (links_of grouping before) (length (open_names grouping all before to_come)) x

-- a VXID of the tree of another
pub record Beside (grouping : Grouping) (all before to_come : List Entry) (v x : ℕ) : Type 0 where
  pub here : is_in x (open_names grouping all before to_come) ≡ true
  pub top_is : top_at grouping all before to_come x ≡ top_at grouping all before to_come v

-- all of the tree have ended
abbrev pub TreeEnded : Grouping → List Entry → List Entry → List Entry → ℕ → Type 0
TreeEnded grouping all before to_come v = (x : ℕ) → Beside grouping all before to_come v x → has_end x before ≡ true

joined_at : (grouping : Grouping) (all before rest to_come : List Entry) (v : ℕ) → AtPart grouping all before rest to_come v → Joined (links_of grouping before) (links_of grouping all) (open_names grouping all before to_come) (λ x. has_end x before)
joined_at grouping all before rest to_come v a = part_joined grouping all a.regular before rest to_come a.whole

-- then the tree is the class
class_whole : (grouping : Grouping) (all before rest to_come : List Entry) (v : ℕ) → AtPart grouping all before rest to_come v → TreeEnded grouping all before to_come v →
    IsWhole (links_of grouping before) (links_of grouping all) (open_names grouping all before to_come) (length (open_names grouping all before to_come)) (length (named grouping all)) v
class_whole grouping all before rest to_come v a each =
    tree_whole (links_of grouping before) (links_of grouping all) (open_names grouping all before to_come) (λ x. has_end x before) (joined_at grouping all before rest to_come v a)
    (length (open_names grouping all before to_come)) (length (named grouping all)) v (omega arith) a.here (λ x p here e. class_up grouping all a.regular x p e)
    (λ x here top. each x (record { here = here; top_is = top }))

-- the top of a VXID is in its class
pub top_class : (grouping : Grouping) (all before rest to_come : List Entry) (v : ℕ) → AtPart grouping all before rest to_come v → (x : ℕ) → is_in x (open_names grouping all before to_come) ≡ true →
    (is_in (top_at grouping all before to_come x) (open_names grouping all before to_come) ≡ true) × (class_root grouping all (top_at grouping all before to_come x) ≡ class_root grouping all x)
top_class grouping all before rest to_come v a x here =
    let j = joined_at grouping all before rest to_come v a in
    last_holds (links_of grouping before) (λ y. (is_in y (open_names grouping all before to_come) ≡ true) × (class_root grouping all y ≡ class_root grouping all x))
    (λ y p h e. (j.up y p h.0 e, sym (class_up grouping all a.regular y p (j.knows y p e)) ∙ h.1)) (length (open_names grouping all before to_come)) x (here, refl)

-- what is beside a VXID is in its class
pub beside_class : (grouping : Grouping) (all before rest to_come : List Entry) (v : ℕ) → AtPart grouping all before rest to_come v → (x : ℕ) → Beside grouping all before to_come v x → class_root grouping all x ≡ class_root grouping all v
beside_class grouping all before rest to_come v a x b =
    sym (top_class grouping all before rest to_come v a x b.here).1 ∙ ap (class_root grouping all) b.top_is ∙ (top_class grouping all before rest to_come v a v a.here).1

-- all of its class are beside it, once all of the tree have ended
pub all_beside : (grouping : Grouping) (all before rest to_come : List Entry) (v : ℕ) → AtPart grouping all before rest to_come v → TreeEnded grouping all before to_come v → (x : ℕ) → class_root grouping all x ≡ class_root grouping all v → Beside grouping all before to_come v x
all_beside grouping all before rest to_come v a each x same =
    let both = (class_whole grouping all before rest to_come v a each).all_here x same in
    record { here = both.0; top_is = both.1 }

-- so they are those whose lines end there
class_names : (grouping : Grouping) (all before rest to_come : List Entry) (v : ℕ) → AtPart grouping all before rest to_come v → TreeEnded grouping all before to_come v →
    names_under (links_of grouping before) (open_names grouping all before to_come) (top_at grouping all before to_come v) ≡ class_of grouping all (class_root grouping all v)
class_names grouping all before rest to_come v a each =
    let top : ℕ → ℕ = top_at grouping all before to_come in
    let root : ℕ → ℕ = class_root grouping all in
    let p : ℕ → Bool = ends_later grouping all to_come in
    let t : ℕ → Bool = λ x. eqb (top x) (top v) in
    let q : ℕ → Bool = λ x. eqb (root x) (root v) in
    let some : List ℕ = named grouping before in
    let more = grown some (flat_map (names_in grouping) rest) in
    let all_named : named grouping all ≡ some ++ more.0 = ap (named grouping) (sym a.whole) ∙ named_append grouping before rest ∙ more.1 in
    let beside : (x : ℕ) → q x ≡ true → Beside grouping all before to_come v x = λ x e. all_beside grouping all before rest to_come v a each x (eqb-true (root x) (root v) e) in
    let none : filter q more.0 ≡ [] = filter_none q more.0 (λ x later. false_from_ne_true (q x) (λ e.
    both_ways (is_in x more.0) (apart_parts x some more.0 (subst AreApart all_named (named_apart grouping all)) (in_open grouping all before to_come x (beside x e).here).0) later)) in
    let same : filter (λ x. p x && t x) some ≡ filter q some = filter_same (λ x. p x && t x) q some (λ x here.
    by_cases ((p x && t x) ≡ q x) (q x)
    (λ e. let b = beside x e in
    and_from (p x) (t x) (in_open grouping all before to_come x b.here).1 (eq-eqb (top x) (top v) b.top_is) ∙ sym e)
    (λ e. false_from_ne_true (p x && t x) (λ both.
    let parts = and_parts (p x) (t x) both in
    both_ways (q x) e (eq-eqb (root x) (root v) (beside_class grouping all before rest to_come v a x (record { here = open_in grouping all before to_come x here parts.0; top_is = eqb-true (top x) (top v) parts.1 })))) ∙ sym e)) in
    filter_both t p some ∙ same ∙ sym (ap (filter q) all_named ∙ filter-append q some more.0 ∙ ap (λ (xs : List ℕ). filter q some ++ xs) none ∙ append-nil (filter q some))

-- all parents in the tree are known
parents_known : (grouping : Grouping) (all before rest to_come : List Entry) (v : ℕ) → AtPart grouping all before rest to_come v → TreeEnded grouping all before to_come v → (x : ℕ) → Beside grouping all before to_come v x →
    parent_of (links_of grouping before) x ≡ parent_of (links_of grouping all) x
parents_known grouping all before rest to_come v a each x b =
    let j = joined_at grouping all before rest to_come v a in
    let some : Option ℕ = parent_of (links_of grouping before) x in
    told_or_not (some ≡ parent_of (links_of grouping all) x) (parent_of (links_of grouping all) x)
    (λ none. told_or_not (some ≡ parent_of (links_of grouping all) x) some (λ e. e ∙ sym none) (λ p e. absurd (let f : None ≡ Some p = sym none ∙ j.knows x p e in cc)))
    (λ p e. j.child x p e (each x b) ∙ sym e)

-- and stand in it
beside_up : (grouping : Grouping) (all before rest to_come : List Entry) (v : ℕ) → AtPart grouping all before rest to_come v → TreeEnded grouping all before to_come v → GoesUp (links_of grouping all) (Beside grouping all before to_come v)
beside_up grouping all before rest to_come v a each x p b e =
    let j = joined_at grouping all before rest to_come v a in
    let linked : parent_of (links_of grouping before) x ≡ Some p = j.child x p e (each x b) in
    let names : List ℕ = open_names grouping all before to_come in
    record {
      here = j.up x p b.here linked;
      top_is = sym (top_same (links_of grouping before) (never_fewer (links_of grouping before) (links_of grouping all) j.knows j.never) names j.up (length names) x p b.here (omega arith) linked) ∙ b.top_is;
    }

-- so lines are those of the class
lines_known : (grouping : Grouping) (all before rest to_come : List Entry) (v : ℕ) → AtPart grouping all before rest to_come v → TreeEnded grouping all before to_come v → (x : ℕ) → Beside grouping all before to_come v x →
    line_up (links_of grouping before) (length (open_names grouping all before to_come)) (Some x) ≡ line_from grouping all x
lines_known grouping all before rest to_come v a each x b =
    let j = joined_at grouping all before rest to_come v a in
    let names : List ℕ = open_names grouping all before to_come in
    let few : length names ≤ length (named grouping all) = no_more names (named grouping all) (names_apart grouping all before to_come) (λ y here. part_named grouping all before rest a.whole y (in_open grouping all before to_come y here).0) in
    let P : ℕ → Type 0 = Beside grouping all before to_come v in
    line_same (links_of grouping before) (never_fewer (links_of grouping before) (links_of grouping all) j.knows j.never) names j.up (length (named grouping all)) (length names) x b.here few (omega arith)
    ∙ line_agrees (links_of grouping before) (links_of grouping all) P (beside_up grouping all before rest to_come v a each) (parents_known grouping all before rest to_come v a each) (length (named grouping all)) (Some x)
    (λ p e. subst P (let f : Some x ≡ Some p = e in cc) b)

told_at : (grouping : Grouping) (all before : List Entry) → IsTold grouping all (links_of grouping before) (transaction_at grouping all before)
told_at grouping all before = record { vxid = λ x. refl; serial = λ x. refl; parent = λ x. refl }

-- the transactions that are pending are linked as links say
pub linked_pending : (grouping : Grouping) (all before rest to_come : List Entry) (v : ℕ) → AtPart grouping all before rest to_come v → AreLinked (transaction_at grouping all before) (links_of grouping before) (open_names grouping all before to_come)
linked_pending grouping all before rest to_come v a =
    linked_told grouping all (links_of grouping before) (transaction_at grouping all before) (open_names grouping all before to_come) (told_at grouping all before)
    (λ x here. part_named grouping all before rest a.whole x (in_open grouping all before to_come x here).0) (joined_at grouping all before rest to_come v a).up

-- the line of a transaction
line_pending : (grouping : Grouping) (all before rest to_come : List Entry) (v : ℕ) → AtPart grouping all before rest to_come v → TreeEnded grouping all before to_come v → (x : ℕ) → Beside grouping all before to_come v x →
    line_of (map (transaction_at grouping all before) (open_names grouping all before to_come)) (transaction_at grouping all before x) ≡ map (transaction_at grouping all before) (line_from grouping all x)
line_pending grouping all before rest to_come v a each x b =
    line_of_mapped (transaction_at grouping all before) (links_of grouping before) (open_names grouping all before to_come) (linked_pending grouping all before rest to_come v a) x b.here
    ∙ ap (map (transaction_at grouping all before)) (lines_known grouping all before rest to_come v a each x b)

-- paths of a line, of transactions and of VXIDs
path_on : (g : ℕ → List ℕ) (x : ℕ) (xs : List ℕ) → flat_map g (reverse (x ∷ xs)) ≡ flat_map g (reverse xs) ++ g x
path_on g x xs = ap (flat_map g) (reverse-append (x ∷ []) xs) ∙ sym (flat_map_more g [] (reverse xs) x)

path_mapped : (T : ℕ → Transaction) (g : ℕ → List ℕ) (xs : List ℕ) → ((y : ℕ) → is_in y xs ≡ true → number_of (T y) ≡ g y) → flat_map number_of (reverse (map T xs)) ≡ flat_map g (reverse xs)
path_mapped T g [] same = refl
path_mapped T g (x ∷ xs) same =
    path_more (T x) (map T xs) ∙ ap (λ (p : List ℕ). p ++ number_of (T x)) (path_mapped T g xs (λ y here. same y (or_right (eqb x y) (is_in y xs) here)))
    ∙ ap (λ (p : List ℕ). flat_map g (reverse xs) ++ p) (same x (or_left (eqb x x) (is_in x xs) (eq-eqb x x refl))) ∙ sym (path_on g x xs)

number_told : (grouping : Grouping) (all : List Entry) (x : ℕ) (o : Option ℕ) → link_number (parent_link grouping all x o) ≡ number_under grouping all x o
number_told grouping all x None = refl
number_told grouping all x (Some p) = refl

parent_told : (grouping : Grouping) (all : List Entry) (x : ℕ) (o : Option ℕ) → parent_vxid (parent_link grouping all x o) ≡ vxid_or_zero o
parent_told grouping all x None = refl
parent_told grouping all x (Some p) = refl

path_pending : (grouping : Grouping) (all before rest to_come : List Entry) (v : ℕ) → AtPart grouping all before rest to_come v → TreeEnded grouping all before to_come v → (x : ℕ) → Beside grouping all before to_come v x →
    path_of (map (transaction_at grouping all before) (open_names grouping all before to_come)) (transaction_at grouping all before x) ≡ numbered_path grouping all x
path_pending grouping all before rest to_come v a each x b =
    let P : ℕ → Type 0 = Beside grouping all before to_come v in
    let T : ℕ → Transaction = transaction_at grouping all before in
    ap (λ (ts : List Transaction). flat_map number_of (reverse ts)) (line_pending grouping all before rest to_come v a each x b)
    ∙ path_mapped T (λ y. number_under grouping all y (parent_of (links_of grouping all) y)) (line_from grouping all x) (λ y there.
    let above : P y = line_holds (links_of grouping all) P (beside_up grouping all before rest to_come v a each) (length (named grouping all)) (Some x) (λ p e. subst P (let f : Some x ≡ Some p = e in cc) b) y there in
    number_told grouping all y (parent_of (links_of grouping before) y) ∙ ap (number_under grouping all y) (parents_known grouping all before rest to_come v a each y above))

-- members
member_pending : (grouping : Grouping) (all before rest to_come : List Entry) (v : ℕ) → AtPart grouping all before rest to_come v → TreeEnded grouping all before to_come v → (x : ℕ) → Beside grouping all before to_come v x →
    member_of (map (transaction_at grouping all before) (open_names grouping all before to_come)) (transaction_at grouping all before x) ≡ class_member grouping all x
member_pending grouping all before rest to_come v a each x b =
    let T : ℕ → Transaction = transaction_at grouping all before in
    let pending : List Transaction = map T (open_names grouping all before to_come) in
    let make : List Record → ℕ → ℕ → Member = λ rs level parent. record { vxid = x; kind = kind_told (begin_claim rs); reason = reason_told (begin_claim rs); level = level; parent = parent; records = rs } in
    let level : length (line_of pending (T x)) ≡ length (line_from grouping all x) = ap (λ (ts : List Transaction). length ts) (line_pending grouping all before rest to_come v a each x b) ∙ length-map (line_from grouping all x) T in
    let parent : parent_vxid (T x).parent ≡ vxid_or_zero (parent_of (links_of grouping all) x) = parent_told grouping all x (parent_of (links_of grouping before) x) ∙ ap vxid_or_zero (parents_known grouping all before rest to_come v a each x b) in
    let records : records_of x before ≡ records_of x all = all_records grouping all a.regular before rest a.whole x (part_named grouping all before rest a.whole x (in_open grouping all before to_come x b.here).0) (each x b) in
    ap (λ (n : ℕ). make (records_of x before) n (parent_vxid (T x).parent)) level
    ∙ ap (λ (n : ℕ). make (records_of x before) (length (line_from grouping all x)) n) parent
    ∙ ap (λ (rs : List Record). make rs (length (line_from grouping all x)) (vxid_or_zero (parent_of (links_of grouping all) x))) records

-- and the group
pub group_pending : (grouping : Grouping) (all before rest to_come : List Entry) (v : ℕ) → AtPart grouping all before rest to_come v → TreeEnded grouping all before to_come v →
    group_of (map (transaction_at grouping all before) (open_names grouping all before to_come)) (transaction_at grouping all before (top_at grouping all before to_come v)) ≡ class_group grouping all (class_root grouping all v)
group_pending grouping all before rest to_come v a each =
    let T : ℕ → Transaction = transaction_at grouping all before in
    let names : List ℕ = open_names grouping all before to_come in
    let pending : List Transaction = map T names in
    let top : ℕ → ℕ = top_at grouping all before to_come in
    let tree : List ℕ = names_under (links_of grouping before) names (top v) in
    let beside : (y : ℕ) → is_in y tree ≡ true → Beside grouping all before to_come v y = λ y here.
    let parts = and_parts (is_in y names) (eqb (top y) (top v)) (sym (in_filter y (λ x. eqb (top x) (top v)) names) ∙ here) in
    record { here = parts.0; top_is = eqb-true (top y) (top v) parts.1 } in
    ap {B = Group} (λ (ms : List Member). record { members = ms })
    (ap (λ (ts : List Transaction). map (member_of pending) (preorder (path_of pending) ts)) (tree_mapped T (links_of grouping before) names (linked_pending grouping all before rest to_come v a) (top v) (top_class grouping all before rest to_come v a v a.here).0)
    ∙ members_mapped T (path_of pending) (numbered_path grouping all) (member_of pending) (class_member grouping all) tree
    (λ y here. path_pending grouping all before rest to_come v a each y (beside y here)) (λ y here. member_pending grouping all before rest to_come v a each y (beside y here))
    ∙ ap (λ (xs : List ℕ). map (class_member grouping all) (preorder (numbered_path grouping all) xs)) (class_names grouping all before rest to_come v a each)
    ∙ ap (map (class_member grouping all)) (class_preorder grouping all a.regular (class_root grouping all v)))
