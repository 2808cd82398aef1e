-- The link that a record of a regular log makes has its effect, if the child has no parent.
use Rattle.std.proofs.Common.{◌≡◌, ℕ, Bool, true, false, eqb, cond, Option, Some, None, List, [], ◌∷◌, ◌++◌, length, map, refl, ap, sym, ◌∙◌, subst, append-nil, append_assoc, arith}
use Rattle.std.specs.Prelude.{count_by, is_none}
use Rattle.std.specs.List.{All, list_any, flat_map}
use Rattle.std.proofs.lemmas.Bool.{eqb-true, eqb-false, eq-eqb, ne_eqb, both_ways, false_from_ne_true, or_parts, or_left, or_right}
use Rattle.std.proofs.lemmas.List.Elements.{All-head}
use Rattle.std.proofs.lemmas.List.Sums.{sum_by-cons}
use Rattle.txn_rows.specs.declared.group.Grouping.{Grouping}
use Rattle.txn_rows.specs.declared.group.ParentLink.{ParentLink}
use Rattle.txn_rows.specs.Transaction.{Transaction, newest, with_newest}
use Rattle.txn_rows.specs.Links.{is_in_line, leads_to, children, can_join, with_parent, with_link}
use Rattle.txn_partition.specs.LogFacts.{Entry, Link, has_end, links_in, links_of, is_in, names_in, named, parent_of}
use Rattle.txn_partition.specs.Partition.{line_up, AreRegular, ends_later}
use Rattle.txn_partition.specs.inside.Parted.{links_before, is_parent, count_children, place, parent_link, open_names}
use Rattle.txn_rows.proofs.LineLemmas.{by_cases}
use Rattle.txn_rows.proofs.JoinLemmas.{count_map}
use Rattle.txn_rows.proofs.OrderLemmas.{all_right}
use Rattle.txn_partition.proofs.NamedLemmas.{AreApart, apart_filter, apart_once, place_apart, same_count}
use Rattle.txn_partition.proofs.LinkedLemmas.{HasParents, told_or_not, parent_later, line_fewer, line_holds}
use Rattle.txn_partition.proofs.MappedLemmas.{newest_mapped, map_same, changed_at, changed_mapped, AreNumbered, AreLinked, line_of_mapped}
use Rattle.txn_partition.proofs.RegularLemmas.{both_named, named_more}
use Rattle.txn_partition.proofs.ClassLemmas.{links_append, part_known, part_named, in_open, open_in, open_same}
use Rattle.txn_partition.proofs.LinkToldLemmas.{OneLink, parent_other, parent_stays, before_first, IsTold, linked_told}

pub named_apart : (grouping : Grouping) (entries : List Entry) → AreApart (named grouping entries)
named_apart grouping entries = apart_once (flat_map (names_in grouping) entries)

pub names_apart : (grouping : Grouping) (all before to_come : List Entry) → AreApart (open_names grouping all before to_come)
names_apart grouping all before to_come = apart_filter (ends_later grouping all to_come) (named grouping before) (named_apart grouping before)

-- a record of a regular log that makes a link
pub record AtLink (grouping : Grouping) (all before : List Entry) (e : Entry) (rest : List Entry) : Type 0 where
  pub regular : AreRegular grouping all
  pub whole : before ++ e ∷ rest ≡ all
  pub one : OneLink grouping e

-- the links with it, and with all behind it
links_one : (grouping : Grouping) (all before : List Entry) (e : Entry) (rest : List Entry) → (a : AtLink grouping all before e rest) → links_of grouping (before ++ e ∷ []) ≡ links_of grouping before ++ a.one.link ∷ []
links_one grouping all before e rest a = links_append grouping before (e ∷ []) ∙ ap (λ (ls : List Link). links_of grouping before ++ ls) (append-nil (links_in grouping e) ∙ a.one.is)

links_split : (grouping : Grouping) (all before : List Entry) (e : Entry) (rest : List Entry) → (a : AtLink grouping all before e rest) → links_of grouping all ≡ links_of grouping before ++ a.one.link ∷ links_of grouping rest
links_split grouping all before e rest a =
    ap (links_of grouping) (sym a.whole) ∙ links_append grouping before (e ∷ rest) ∙ ap (λ (ls : List Link). links_of grouping before ++ (ls ++ links_of grouping rest)) a.one.is

-- its parent is the parent of its child
pub link_parent : (grouping : Grouping) (all before : List Entry) (e : Entry) (rest : List Entry) → (a : AtLink grouping all before e rest) → parent_of (links_of grouping all) a.one.link.child ≡ Some a.one.link.parent
link_parent grouping all before e rest a =
    let P : Link → Type 0 = λ l. parent_of (links_of grouping all) l.child ≡ Some l.parent in
    All-head P a.one.link (links_of grouping rest) (all_right P (links_of grouping before) (a.one.link ∷ links_of grouping rest) (subst (All P) (links_split grouping all before e rest a) a.regular.one_parent))

-- what is open has the parents that are known before
parents_open : (grouping : Grouping) (all : List Entry) → AreRegular grouping all → (before more rest to_come : List Entry) → before ++ (more ++ rest) ≡ all → HasParents (links_of grouping before) (open_names grouping all (before ++ more) to_come)
parents_open grouping all r before more rest to_come whole x p here e =
    let was = in_open grouping all (before ++ more) to_come x here in
    open_in grouping all (before ++ more) to_come p (named_more grouping before more p (both_named grouping before x p e).1)
    (sym (open_same grouping all to_come r x p (part_known grouping all before (more ++ rest) whole x p e)) ∙ was.1)

-- no serial number of a line is that of a VXID that stands not in it
none_serial : (T : ℕ → Transaction) (names : List ℕ) → AreNumbered T names → (c : ℕ) → is_in c names ≡ true → (line : List ℕ) → ((y : ℕ) → is_in y line ≡ true → is_in y names ≡ true) → is_in c line ≡ false → list_any (λ (u : Transaction). eqb u.serial (T c).serial) (map T line) ≡ false
none_serial T names numbered c here [] within none = refl
none_serial T names numbered c here (x ∷ line) within none =
    let parts = or_parts (eqb x c) (is_in c line) none in
    let other : eqb (T x).serial (T c).serial ≡ false = ne_eqb (T x).serial (T c).serial (λ s. eqb-false x c parts.0 (numbered x c (within x (rw (eq-eqb x x refl) refl)) here s)) in
    rw other (none_serial T names numbered c here line (λ y there. within y (or_right (eqb x y) (is_in y line) there)) parts.1)

-- the child does not stand above its parent
not_in_line : (grouping : Grouping) (all before : List Entry) (e : Entry) (rest : List Entry) → (a : AtLink grouping all before e rest) → (T : ℕ → Transaction) (names : List ℕ) → AreLinked T (links_of grouping before) names →
    is_in a.one.link.child names ≡ true → is_in a.one.link.parent names ≡ true → is_in_line (map T names) (T a.one.link.child) (T a.one.link.parent) ≡ false
not_in_line grouping all before e rest a T names linked child parent =
    let c : ℕ = a.one.link.child in
    let p : ℕ = a.one.link.parent in
    let line : List ℕ = line_up (links_of grouping before) (length names) (Some p) in
    let knows = part_known grouping all before (e ∷ rest) a.whole in
    ap (list_any (λ (u : Transaction). eqb u.serial (T c).serial)) (line_of_mapped T (links_of grouping before) names linked p parent)
    ∙ none_serial T names linked.numbered c child line
    (λ y there. line_holds (links_of grouping before) (λ x. is_in x names ≡ true) linked.up (length names) (Some p) (λ q e. subst (λ (x : ℕ). is_in x names ≡ true) (let f : Some p ≡ Some q = e in cc) parent) y there)
    (by_cases (is_in c line ≡ false) (is_in c line)
    (λ there. absurd (both_ways (is_in c (line_up (links_of grouping all) (length names) (Some p))) (a.regular.no_return c p (length names) (link_parent grouping all before e rest a)) (line_fewer (links_of grouping before) (links_of grouping all) knows (length names) (Some p) c there)))
    (λ e. e))

-- how many children its parent has
is_led : (grouping : Grouping) (all : List Entry) (x p : ℕ) (o : Option ℕ) → ((q : ℕ) → o ≡ Some q → is_in q (named grouping all) ≡ true) → is_in p (named grouping all) ≡ true → leads_to (place p (named grouping all)) (parent_link grouping all x o) ≡ is_parent p o
is_led grouping all x p None there here = refl
is_led grouping all x p (Some q) there here =
    let N : List ℕ = named grouping all in
    by_cases (eqb (place q N) (place p N) ≡ eqb q p) (eqb q p)
    (λ e. rw e (eq-eqb (place q N) (place p N) (ap (λ (y : ℕ). place y N) (eqb-true q p e))))
    (λ e. rw e (ne_eqb (place q N) (place p N) (λ s. eqb-false q p e (place_apart q p N (there q refl) here s))))

count_same : (p q : ℕ → Bool) (xs : List ℕ) → ((x : ℕ) → is_in x xs ≡ true → p x ≡ q x) → count_by p xs ≡ count_by q xs
count_same p q [] same = refl
count_same p q (x ∷ xs) same =
    omega (arith, sum_by-cons (λ (y : ℕ). cond (p y) 1 0) x xs, sum_by-cons (λ (y : ℕ). cond (q y) 1 0) x xs, count_same p q xs (λ y here. same y (or_right (eqb x y) (is_in y xs) here)), ap {B = ℕ} (λ (b : Bool). cond b 1 0) (same x (rw (eq-eqb x x refl) refl)))

is_parent_some : (p : ℕ) (o : Option ℕ) → is_parent p o ≡ true → o ≡ Some p
is_parent_some p None is = absurd (cc)
is_parent_some p (Some q) is = ap Some (eqb-true q p is)

children_told : (grouping : Grouping) (all before : List Entry) (e : Entry) (rest : List Entry) → (a : AtLink grouping all before e rest) → (T : ℕ → Transaction) → IsTold grouping all (links_of grouping before) T →
    is_in a.one.link.parent (open_names grouping all (before ++ e ∷ []) (e ∷ rest)) ≡ true →
    children (map T (open_names grouping all (before ++ e ∷ []) (e ∷ rest))) (T a.one.link.parent) ≡ count_children (links_of grouping before) a.one.link.parent (named grouping all)
children_told grouping all before e rest a T t parent =
    let p : ℕ = a.one.link.parent in
    let N : List ℕ = named grouping all in
    let some : List Link = links_of grouping before in
    let names : List ℕ = open_names grouping all (before ++ e ∷ []) (e ∷ rest) in
    let whole : (before ++ e ∷ []) ++ rest ≡ all = append_assoc before (e ∷ []) rest ∙ a.whole in
    let knows = part_known grouping all before (e ∷ rest) a.whole in
    let within : (x : ℕ) → is_in x names ≡ true → is_in x N ≡ true = λ x here. part_named grouping all (before ++ e ∷ []) rest whole x (in_open grouping all (before ++ e ∷ []) (e ∷ rest) x here).0 in
    let up = parents_open grouping all a.regular before (e ∷ []) rest (e ∷ rest) a.whole in
    count_map (λ (u : Transaction). leads_to (T p).serial u.parent) T names
    ∙ count_same (λ x. leads_to (T p).serial (T x).parent) (λ x. is_parent p (parent_of some x)) names (λ x here.
    ap (λ (s : ℕ). leads_to s (T x).parent) (t.serial p) ∙ ap (leads_to (place p N)) (t.parent x) ∙ is_led grouping all x p (parent_of some x) (λ q e. within q (up x q here e)) (within p parent))
    ∙ same_count (λ x. is_parent p (parent_of some x)) names N (names_apart grouping all (before ++ e ∷ []) (e ∷ rest)) (named_apart grouping all) (λ x is here. within x here)
    (λ x is here.
    let linked : parent_of some x ≡ Some p = is_parent_some p (parent_of some x) is in
    open_in grouping all (before ++ e ∷ []) (e ∷ rest) x (named_more grouping before (e ∷ []) x (both_named grouping before x p linked).0)
    (open_same grouping all (e ∷ rest) a.regular x p (knows x p linked) ∙ (in_open grouping all (before ++ e ∷ []) (e ∷ rest) p parent).1))

own_parent : (l : Link) → parent_of (l ∷ []) l.child ≡ Some l.parent
own_parent l = rw (eq-eqb l.child l.child refl) refl

-- a function whose transactions have the parents that these links tell
abbrev pub relinked : Grouping → List Entry → List Link → (ℕ → Transaction) → ℕ → Transaction
relinked grouping all links T x = record (T x) { parent = parent_link grouping all x (parent_of links x) }

relinked_same : (grouping : Grouping) (all : List Entry) (some links : List Link) (T : ℕ → Transaction) → IsTold grouping all some T → (x : ℕ) → parent_of links x ≡ parent_of some x → T x ≡ relinked grouping all links T x
relinked_same grouping all some links T t x same =
    ap (λ (k : Option ParentLink). record (T x) { parent = k }) (t.parent x ∙ ap (parent_link grouping all x) (sym same))

-- the link is made, if the child has no parent
pub link_made : (grouping : Grouping) (all before : List Entry) (e : Entry) (rest : List Entry) → (a : AtLink grouping all before e rest) → (T : ℕ → Transaction) → IsTold grouping all (links_of grouping before) T → ((x : ℕ) → (T x).ended ≡ has_end x before) →
    is_in a.one.link.child (open_names grouping all (before ++ e ∷ []) (e ∷ rest)) ≡ true → is_in a.one.link.parent (open_names grouping all (before ++ e ∷ []) (e ∷ rest)) ≡ true →
    with_link a.one.link.child a.one.link.parent (map T (open_names grouping all (before ++ e ∷ []) (e ∷ rest)))
    ≡ map (relinked grouping all (links_of grouping (before ++ e ∷ [])) T) (open_names grouping all (before ++ e ∷ []) (e ∷ rest))
link_made grouping all before e rest a T t ended child parent =
    let l : Link = a.one.link in
    let c : ℕ = l.child in
    let p : ℕ = l.parent in
    let some : List Link = links_of grouping before in
    let more : List Link = links_of grouping (before ++ e ∷ []) in
    let names : List ℕ = open_names grouping all (before ++ e ∷ []) (e ∷ rest) in
    let pending : List Transaction = map T names in
    let whole : (before ++ e ∷ []) ++ rest ≡ all = append_assoc before (e ∷ []) rest ∙ a.whole in
    let within : (x : ℕ) → is_in x names ≡ true → is_in x (named grouping all) ≡ true = λ x here. part_named grouping all (before ++ e ∷ []) rest whole x (in_open grouping all (before ++ e ∷ []) (e ∷ rest) x here).0 in
    let linked = linked_told grouping all some T names t within (parents_open grouping all a.regular before (e ∷ []) rest (e ∷ rest) a.whole) in
    let links : more ≡ some ++ l ∷ [] = links_one grouping all before e rest a in
    let now : ℕ → Transaction = relinked grouping all more T in
    let change : Transaction → Transaction = λ u. record u { parent = Some (record { serial = (T p).serial; vxid = (T p).vxid; number = children pending (T p) }) } in
    let begin : with_link c p pending ≡ cond (can_join pending (T c) (T p)) (with_newest (T c).vxid change pending) pending =
    ap (λ (o : Option Transaction). with_parent o (newest p pending) pending) (newest_mapped T t.vxid c names child) ∙ ap (λ (o : Option Transaction). with_parent (Some (T c)) o pending) (newest_mapped T t.vxid p names parent) in
    begin ∙ told_or_not (cond (can_join pending (T c) (T p)) (with_newest (T c).vxid change pending) pending ≡ map now names) (parent_of some c)
    (λ none.
    let orphan : is_none (T c).parent ≡ true = ap (λ (k : Option ParentLink). is_none k) (t.parent c ∙ ap (parent_link grouping all c) none) in
    let running : (T c).ended ≡ false = ended c ∙ false_from_ne_true (has_end c before) (λ has.
    let f : Some p ≡ None = sym (a.regular.linked_before before (e ∷ rest) a.whole c p (link_parent grouping all before e rest a) (or_left (has_end c before) (has_end p before) has)) ∙ none in cc) in
    let below : is_in_line pending (T c) (T p) ≡ false = not_in_line grouping all before e rest a T names linked child parent in
    let can : can_join pending (T c) (T p) ≡ true = rw (orphan, running, below) refl in
    let number : children pending (T p) ≡ count_children (links_before c (links_of grouping all)) p (named grouping all) =
    children_told grouping all before e rest a T t parent ∙ ap (λ (ls : List Link). count_children ls p (named grouping all)) (sym (ap (links_before c) (links_split grouping all before e rest a) ∙ before_first some l (links_of grouping rest) none)) in
    ap (λ (b : Bool). cond b (with_newest (T c).vxid change pending) pending) can
    ∙ ap (λ (v : ℕ). with_newest v change pending) (t.vxid c)
    ∙ changed_mapped T t.vxid c change names (names_apart grouping all (before ++ e ∷ []) (e ∷ rest))
    ∙ map_same (changed_at c change T) now names (λ x here.
    by_cases (changed_at c change T x ≡ now x) (eqb x c)
    (λ same. let is : x ≡ c = eqb-true x c same in
    let told : parent_of more x ≡ Some p = ap (parent_of more) is ∙ ap (λ (ls : List Link). parent_of ls c) links ∙ parent_later some (l ∷ []) c none ∙ own_parent l in
    rw same (ap (λ (k : Option ParentLink). record (T x) { parent = k })
    (ap {B = Option ParentLink} (λ (s : ℕ). Some (record { serial = s; vxid = (T p).vxid; number = children pending (T p) })) (t.serial p)
    ∙ ap {B = Option ParentLink} (λ (v : ℕ). Some (record { serial = place p (named grouping all); vxid = v; number = children pending (T p) })) (t.vxid p)
    ∙ ap {B = Option ParentLink} (λ (n : ℕ). Some (record { serial = place p (named grouping all); vxid = p; number = n })) (number ∙ ap (λ (y : ℕ). count_children (links_before y (links_of grouping all)) p (named grouping all)) (sym is))
    ∙ ap (parent_link grouping all x) (sym told))))
    (λ other. rw other (relinked_same grouping all some more T t x (ap (λ (ls : List Link). parent_of ls x) links ∙ parent_other some l x (ne_eqb c x (λ s. eqb-false x c other (sym s))))))))
    (λ q has.
    let taken : is_none (T c).parent ≡ false = ap (λ (k : Option ParentLink). is_none k) (t.parent c ∙ ap (parent_link grouping all c) has) in
    let cannot : can_join pending (T c) (T p) ≡ false = rw taken refl in
    ap (λ (b : Bool). cond b (with_newest (T c).vxid change pending) pending) cannot
    ∙ map_same T now names (λ x here. relinked_same grouping all some more T t x (ap (λ (ls : List Link). parent_of ls x) links ∙ parent_stays some l x q has)))
