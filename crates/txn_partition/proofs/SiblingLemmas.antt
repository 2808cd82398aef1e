-- Children that are numbered by their parent's children before them stand in the order of their first links: so
-- paths by numbers and paths by places of links are in one order.
use Rattle.std.proofs.Common.{◌≡◌, ◌+◌, ◌<◌, ◌≤◌, ⊎_elim, ◌⊎◌, ℕ, zero, suc, Bool, true, false, eqb, ltb, cond, Option, Some, None, List, [], ◌∷◌, ◌++◌, length, map, reverse, refl, ap, sym, ◌∙◌, subst, arith}
use Rattle.std.specs.Prelude.{⊤}
use Rattle.std.specs.List.{filter, flat_map}
use Rattle.std.proofs.lemmas.Bool.{cases_order, eqb-true, eq-eqb, ne_eqb, lt-ltb, le-ltb, or_left, or_right, or_cases, and_parts, and_from}
use Rattle.std.proofs.lemmas.List.{reverse-append}
use Rattle.std.proofs.lemmas.List.Sums.{length-filter}
use Rattle.txn_rows.specs.declared.group.Grouping.{Grouping}
use Rattle.txn_rows.specs.Links.{is_path_before, placed, preorder}
use Rattle.txn_partition.specs.LogFacts.{Entry, Link, links_of, is_in, named, parent_of}
use Rattle.txn_partition.specs.Partition.{line_up, line_from, last_or, first_link, class_root, class_path, class_of, AreRegular}
use Rattle.txn_partition.specs.inside.Parted.{links_before, is_parent, count_children, number_under, numbered_path}
use Rattle.txn_rows.proofs.LineLemmas.{by_cases}
use Rattle.txn_partition.proofs.NamedLemmas.{AreApart, no_more, in_filter, apart_filter}
use Rattle.txn_partition.proofs.LinkedLemmas.{line_none, top_of, top_none, parent_first, parent_later}
use Rattle.txn_partition.proofs.MappedLemmas.{in_preorder}
use Rattle.txn_partition.proofs.RegularLemmas.{both_named}
use Rattle.txn_partition.proofs.ClassLemmas.{parents_named}
use Rattle.txn_partition.proofs.LinkMadeLemmas.{named_apart}

-- no link before the first of a child is one of it
none_before : (links : List Link) (c : ℕ) → parent_of (links_before c links) c ≡ None
none_before [] c = refl
none_before (l ∷ links) c = by_cases (parent_of (links_before c (l ∷ links)) c ≡ None) (eqb l.child c) (λ e. rw e refl) (λ e. rw (e, e) (none_before links c))

-- the place of the first link of a child
link_here : (l : Link) (links : List Link) (x : ℕ) → eqb l.child x ≡ true → first_link x (l ∷ links) ≡ 0
link_here l links x e = rw e refl

link_behind : (l : Link) (links : List Link) (x : ℕ) → eqb l.child x ≡ false → first_link x (l ∷ links) ≡ 1 + first_link x links
link_behind l links x e = rw e refl

-- children of one place are one
one_place : (links : List Link) (c d p q : ℕ) → parent_of links c ≡ Some p → parent_of links d ≡ Some q → first_link c links ≡ first_link d links → c ≡ d
one_place [] c d p q e f same = absurd (cc)
one_place (l ∷ links) c d p q e f same =
    by_cases (c ≡ d) (eqb l.child c)
    (λ s. by_cases (c ≡ d) (eqb l.child d)
    (λ t. sym (eqb-true l.child c s) ∙ eqb-true l.child d t)
    (λ t. absurd (omega (arith, same, link_here l links c s, link_behind l links d t))))
    (λ s. by_cases (c ≡ d) (eqb l.child d)
    (λ t. absurd (omega (arith, same, link_behind l links c s, link_here l links d t)))
    (λ t. one_place links c d p q (rw s at e) (rw t at f) (omega (arith, same, link_behind l links c s, link_behind l links d t))))

-- the links before a later child have those before an earlier one, and its own
record Earlier (links : List Link) (c d p : ℕ) : Type 0 where
  link : Link
  more : List Link
  whole : links_before d links ≡ links_before c links ++ link ∷ more
  child : link.child ≡ c
  parent : link.parent ≡ p

earlier_more : (l : Link) (links : List Link) (c d p : ℕ) → eqb l.child d ≡ false → eqb l.child c ≡ false → Earlier links c d p → Earlier (l ∷ links) c d p
earlier_more l links c d p t s later = record { link = later.link; more = later.more; whole = rw (t, s) (ap (λ (ls : List Link). l ∷ ls) later.whole); child = later.child; parent = later.parent }

earlier : (links : List Link) (c d p : ℕ) → parent_of links c ≡ Some p → first_link c links < first_link d links → Earlier links c d p
earlier [] c d p e less = absurd (cc)
earlier (l ∷ links) c d p e less =
    by_cases (Earlier (l ∷ links) c d p) (eqb l.child d)
    (λ t. absurd (omega (arith, less, link_here l links d t)))
    (λ t. by_cases (Earlier (l ∷ links) c d p) (eqb l.child c)
    (λ s. let parent : Some l.parent ≡ Some p = rw s at e in
    record { link = l; more = links_before d links; whole = rw (t, s) refl; child = eqb-true l.child c s; parent = (cc) })
    (λ s. earlier_more l links c d p t s (earlier links c d p (rw s at e) (omega (arith, less, link_behind l links d t, link_behind l links c s)))))

is_parent_of : (p : ℕ) (o : Option ℕ) → is_parent p o ≡ true → o ≡ Some p
is_parent_of p None e = absurd (cc)
is_parent_of p (Some q) e = ap Some (eqb-true q p e)

own_link : (xs : List Link) (l : Link) (ys : List Link) (c p : ℕ) → parent_of xs c ≡ None → l.child ≡ c → l.parent ≡ p → parent_of (xs ++ l ∷ ys) c ≡ Some p
own_link xs l ys c p none child parent = parent_later xs (l ∷ ys) c none ∙ rw (eq-eqb l.child c child) (ap Some parent)

-- so of two children of a parent the one that is linked first has the lower number
lower_number : (links : List Link) (names : List ℕ) → AreApart names → (c d p : ℕ) → is_in c names ≡ true → parent_of links c ≡ Some p → first_link c links < first_link d links → count_children (links_before c links) p names < count_children (links_before d links) p names
lower_number links names apart c d p here e less =
    let i = earlier links c d p e less in
    let before : List Link = links_before c links in
    let was : ℕ → Bool = λ x. is_parent p (parent_of before x) in
    let now : ℕ → Bool = λ x. is_parent p (parent_of (links_before d links) x) in
    let on : (x q : ℕ) → parent_of before x ≡ Some q → parent_of (links_before d links) x ≡ Some q = λ x q f. ap (λ (ls : List Link). parent_of ls x) i.whole ∙ parent_first before (i.link ∷ i.more) x q f in
    let own : parent_of (links_before d links) c ≡ Some p = ap (λ (ls : List Link). parent_of ls c) i.whole ∙ own_link before i.link i.more c p (none_before links c) i.child i.parent in
    let not_yet : was c ≡ false = ap (is_parent p) (none_before links c) in
    let none : is_in c (filter was names) ≡ false = in_filter c was names ∙ rw (here, not_yet) refl in
    let within : (x : ℕ) → is_in x (c ∷ filter was names) ≡ true → is_in x (filter now names) ≡ true = λ x there. ⊎_elim
    (λ (same : eqb c x ≡ true). subst (λ (y : ℕ). is_in y (filter now names) ≡ true) (eqb-true c x same) (in_filter c now names ∙ and_from (is_in c names) (now c) here (ap (is_parent p) own ∙ eq-eqb p p refl)))
    (λ (later : is_in x (filter was names) ≡ true).
    let parts = and_parts (is_in x names) (was x) (sym (in_filter x was names) ∙ later) in
    in_filter x now names ∙ and_from (is_in x names) (now x) parts.0 (ap (is_parent p) (on x p (is_parent_of p (parent_of before x) parts.1)) ∙ eq-eqb p p refl))
    (or_cases (eqb c x) (is_in x (filter was names)) there) in
    let le : length (c ∷ filter was names) ≤ length (filter now names) = no_more (c ∷ filter was names) (filter now names) (none, apart_filter was names apart) within in
    omega (arith, le, length-filter was names, length-filter now names)

-- a way down from a parent: each is a child of the one before
abbrev LeadsDown : List Link → ℕ → List ℕ → Type 0
LeadsDown links p [] = ⊤
LeadsDown links p (c ∷ cs) = (parent_of links c ≡ Some p) × LeadsDown links c cs

-- how two children of one parent compare by their numbers, and by the places of their links
record Compare (links : List Link) (names : List ℕ) (c d p : ℕ) : Type 0 where
  same : eqb (count_children (links_before c links) p names) (count_children (links_before d links) p names) ≡ eqb (first_link c links) (first_link d links)
  less : ltb (count_children (links_before c links) p names) (count_children (links_before d links) p names) ≡ ltb (first_link c links) (first_link d links)

compared : (links : List Link) (names : List ℕ) → AreApart names → ((x p : ℕ) → parent_of links x ≡ Some p → is_in x names ≡ true) → (c d p : ℕ) → parent_of links c ≡ Some p → parent_of links d ≡ Some p → Compare links names c d p
compared links names apart here c d p e f =
    let n : ℕ → ℕ = λ x. count_children (links_before x links) p names in
    let m : ℕ → ℕ = λ x. first_link x links in
    ⊎_elim
    (λ (equal : m c ≡ m d). let is : c ≡ d = one_place links c d p p e f equal in
    subst (λ (x : ℕ). Compare links names c x p) is (record { same = eq-eqb (n c) (n c) refl ∙ sym (eq-eqb (m c) (m c) refl); less = le-ltb (n c) (n c) (omega arith) ∙ sym (le-ltb (m c) (m c) (omega arith)) }))
    (λ (other : (m c < m d) ⊎ (m d < m c)). ⊎_elim
    (λ (low : m c < m d). let lower : n c < n d = lower_number links names apart c d p (here c p e) e low in
    record { same = ne_eqb (n c) (n d) (λ s. omega (arith, s, lower)) ∙ sym (ne_eqb (m c) (m d) (λ s. omega (arith, s, low))); less = lt-ltb (n c) (n d) lower ∙ sym (lt-ltb (m c) (m d) low) })
    (λ (high : m d < m c). let lower : n d < n c = lower_number links names apart d c p (here d p f) f high in
    record { same = ne_eqb (n c) (n d) (λ s. omega (arith, s, lower)) ∙ sym (ne_eqb (m c) (m d) (λ s. omega (arith, s, high))); less = le-ltb (n c) (n d) (omega (arith, lower)) ∙ sym (le-ltb (m c) (m d) (omega (arith, high))) })
    other)
    (cases_order (m c) (m d))

-- the numbers and the places of VXIDs
abbrev numbers_of : Grouping → List Entry → List ℕ → List ℕ
numbers_of grouping all xs = flat_map (λ v. number_under grouping all v (parent_of (links_of grouping all) v)) xs

abbrev places_of : Grouping → List Entry → List ℕ → List ℕ
places_of grouping all xs = map (λ v. first_link v (links_of grouping all)) xs

-- ways down from one parent compare alike
ways_agree : (grouping : Grouping) (all : List Entry) (p : ℕ) (xs ys : List ℕ) → LeadsDown (links_of grouping all) p xs → LeadsDown (links_of grouping all) p ys →
    is_path_before (numbers_of grouping all xs) (numbers_of grouping all ys) ≡ is_path_before (places_of grouping all xs) (places_of grouping all ys)
ways_agree grouping all p [] ys down other = refl
ways_agree grouping all p (c ∷ xs) [] down other = ap (λ (o : Option ℕ). is_path_before (number_under grouping all c o ++ numbers_of grouping all xs) []) down.0
ways_agree grouping all p (c ∷ xs) (d ∷ ys) down other =
    let links : List Link = links_of grouping all in
    let names : List ℕ = named grouping all in
    let n : ℕ → ℕ = λ x. count_children (links_before x links) p names in
    let m : ℕ → ℕ = λ x. first_link x links in
    let how = compared links names (named_apart grouping all) (λ x q e. (both_named grouping all x q e).0) c d p down.0 other.0 in
    ap (λ (o : Option ℕ). is_path_before (number_under grouping all c o ++ numbers_of grouping all xs) (numbers_of grouping all (d ∷ ys))) down.0
    ∙ ap (λ (o : Option ℕ). is_path_before (n c ∷ numbers_of grouping all xs) (number_under grouping all d o ++ numbers_of grouping all ys)) other.0
    ∙ ap (λ (b : Bool). cond b (is_path_before (numbers_of grouping all xs) (numbers_of grouping all ys)) (ltb (n c) (n d))) how.same
    ∙ ap (λ (b : Bool). cond (eqb (m c) (m d)) (is_path_before (numbers_of grouping all xs) (numbers_of grouping all ys)) b) how.less
    ∙ by_cases (cond (eqb (m c) (m d)) (is_path_before (numbers_of grouping all xs) (numbers_of grouping all ys)) (ltb (m c) (m d)) ≡ cond (eqb (m c) (m d)) (is_path_before (places_of grouping all xs) (places_of grouping all ys)) (ltb (m c) (m d))) (eqb (m c) (m d))
    (λ e. let is : c ≡ d = one_place links c d p p down.0 other.0 (eqb-true (m c) (m d) e) in
    rw e (ways_agree grouping all c xs ys down.1 (subst (λ (x : ℕ). LeadsDown links x ys) (sym is) other.1)))
    (λ e. rw e refl)

-- a line from its top down
record Downward (links : List Link) (n x : ℕ) : Type 0 where
  down : List ℕ
  whole : reverse (line_up links n (Some x)) ≡ top_of links n x ∷ down
  leads : LeadsDown links (top_of links n x) down
  last : last_or (top_of links n x) down ≡ x

-- one more at its end
leads_more : (links : List Link) (p : ℕ) (xs : List ℕ) (x q : ℕ) → LeadsDown links p xs → last_or p xs ≡ q → parent_of links x ≡ Some q → LeadsDown links p (xs ++ x ∷ [])
leads_more links p [] x q down last e = (e ∙ ap Some (sym last), tt)
leads_more links p (y ∷ xs) x q down last e = (down.0, leads_more links y xs x q down.1 last e)

last_more : (p : ℕ) (xs : List ℕ) (x : ℕ) → last_or p (xs ++ x ∷ []) ≡ x
last_more p [] x = refl
last_more p (y ∷ xs) x = last_more y xs x

downward_from : (links : List Link) (n x : ℕ) (o : Option ℕ) → parent_of links x ≡ o → parent_of links (last_or x (line_up links n o)) ≡ None → Downward links (suc n) x
downward_from links n x None e none =
    let above : line_up links n (parent_of links x) ≡ [] = ap (line_up links n) e ∙ line_none links n in
    record {
      down = [];
      whole = ap (λ (xs : List ℕ). reverse (x ∷ xs)) above ∙ ap (λ (y : ℕ). y ∷ []) (sym (ap (last_or x) above));
      leads = tt;
      last = ap (last_or x) above;
    }
downward_from links zero x (Some p) e none = absurd (let f : None ≡ Some p = sym none ∙ e in cc)
downward_from links (suc n) x (Some p) e none =
    let up = downward_from links n p (parent_of links p) refl none in
    let line : line_up links (suc n) (parent_of links x) ≡ line_up links (suc n) (Some p) = ap (line_up links (suc n)) e in
    let top : top_of links (suc (suc n)) x ≡ top_of links (suc n) p = ap (last_or x) line in
    record {
      down = up.down ++ x ∷ [];
      whole = ap (λ (xs : List ℕ). reverse (x ∷ xs)) line ∙ reverse-append (x ∷ []) (line_up links (suc n) (Some p)) ∙ ap (λ (xs : List ℕ). xs ++ x ∷ []) up.whole ∙ ap (λ (y : ℕ). y ∷ up.down ++ x ∷ []) (sym top);
      leads = subst (λ (y : ℕ). LeadsDown links y (up.down ++ x ∷ [])) (sym top) (leads_more links (top_of links (suc n) p) up.down x p up.leads up.last e);
      last = last_more (top_of links (suc (suc n)) x) up.down x;
    }

downward : (links : List Link) (n x : ℕ) → parent_of links (top_of links n x) ≡ None → 1 ≤ n → Downward links n x
downward links zero x none some = absurd (omega (arith, some))
downward links (suc n) x none some = downward_from links n x (parent_of links x) refl none

one_there : (x : ℕ) (xs : List ℕ) → is_in x xs ≡ true → 1 ≤ length xs
one_there x [] here = absurd (cc)
one_there x (y ∷ xs) here = omega arith

-- VXIDs of one class compare alike by both paths
paths_agree : (grouping : Grouping) (all : List Entry) → AreRegular grouping all → (x y : ℕ) → is_in x (named grouping all) ≡ true → is_in y (named grouping all) ≡ true → class_root grouping all x ≡ class_root grouping all y →
    is_path_before (numbered_path grouping all x) (numbered_path grouping all y) ≡ is_path_before (class_path grouping all x) (class_path grouping all y)
paths_agree grouping all r x y here there same =
    let links : List Link = links_of grouping all in
    let names : List ℕ = named grouping all in
    let n : ℕ = length names in
    let top : ℕ = class_root grouping all x in
    let some : 1 ≤ n = one_there x names here in
    let none : (z : ℕ) → is_in z names ≡ true → parent_of links (class_root grouping all z) ≡ None = λ z at. top_none links r.no_return names (parents_named grouping all) n z at (omega arith) in
    let a = downward links n x (none x here) some in
    let b = downward links n y (none y there) some in
    let whole_b : reverse (line_from grouping all y) ≡ top ∷ b.down = b.whole ∙ ap (λ (z : ℕ). z ∷ b.down) (sym same) in
    let down_b : LeadsDown links top b.down = subst (λ (z : ℕ). LeadsDown links z b.down) (sym same) b.leads in
    let no_number : (zs : List ℕ) → numbers_of grouping all (top ∷ zs) ≡ numbers_of grouping all zs = λ zs. ap (λ (o : Option ℕ). number_under grouping all top o ++ numbers_of grouping all zs) (none x here) in
    ap (λ (zs : List ℕ). is_path_before (numbers_of grouping all zs) (numbers_of grouping all (reverse (line_from grouping all y)))) a.whole
    ∙ ap (λ (zs : List ℕ). is_path_before (numbers_of grouping all (top ∷ a.down)) (numbers_of grouping all zs)) whole_b
    ∙ ap (λ (zs : List ℕ). is_path_before zs (numbers_of grouping all (top ∷ b.down))) (no_number a.down)
    ∙ ap (is_path_before (numbers_of grouping all a.down)) (no_number b.down)
    ∙ ways_agree grouping all top a.down b.down a.leads down_b
    ∙ sym (ap (λ (zs : List ℕ). is_path_before (places_of grouping all zs) (places_of grouping all (reverse (line_from grouping all y)))) a.whole
    ∙ ap (λ (zs : List ℕ). is_path_before (places_of grouping all (top ∷ a.down)) (places_of grouping all zs)) whole_b
    ∙ ap (λ (q : Bool). cond q (is_path_before (places_of grouping all a.down) (places_of grouping all b.down)) (ltb (first_link top links) (first_link top links))) (eq-eqb (first_link top links) (first_link top links) refl))

-- so they have one preorder
placed_alike : (p q : ℕ → List ℕ) (x : ℕ) (xs : List ℕ) → ((y : ℕ) → is_in y xs ≡ true → is_path_before (p x) (p y) ≡ is_path_before (q x) (q y)) → placed p x xs ≡ placed q x xs
placed_alike p q x [] same = refl
placed_alike p q x (y ∷ xs) same =
    ap (λ (b : Bool). cond b (x ∷ y ∷ xs) (y ∷ placed p x xs)) (same y (or_left (eqb y y) (is_in y xs) (eq-eqb y y refl)))
    ∙ ap (λ (zs : List ℕ). cond (is_path_before (q x) (q y)) (x ∷ y ∷ xs) (y ∷ zs)) (placed_alike p q x xs (λ z here. same z (or_right (eqb y z) (is_in z xs) here)))

preorder_alike : (p q : ℕ → List ℕ) (xs : List ℕ) → ((x y : ℕ) → is_in x xs ≡ true → is_in y xs ≡ true → is_path_before (p x) (p y) ≡ is_path_before (q x) (q y)) → preorder p xs ≡ preorder q xs
preorder_alike p q [] same = refl
preorder_alike p q (x ∷ xs) same =
    ap (placed p x) (preorder_alike p q xs (λ y z a b. same y z (or_right (eqb x y) (is_in y xs) a) (or_right (eqb x z) (is_in z xs) b)))
    ∙ placed_alike p q x (preorder q xs) (λ y here. same x y (or_left (eqb x x) (is_in x xs) (eq-eqb x x refl)) (or_right (eqb x y) (is_in y xs) (in_preorder y q xs here)))

pub class_preorder : (grouping : Grouping) (all : List Entry) → AreRegular grouping all → (root : ℕ) → preorder (numbered_path grouping all) (class_of grouping all root) ≡ preorder (class_path grouping all) (class_of grouping all root)
class_preorder grouping all r root =
    let inside : (x : ℕ) → is_in x (class_of grouping all root) ≡ true → (is_in x (named grouping all) ≡ true) × (eqb (class_root grouping all x) root ≡ true) = λ x here.
    and_parts (is_in x (named grouping all)) (eqb (class_root grouping all x) root) (sym (in_filter x (λ y. eqb (class_root grouping all y) root) (named grouping all)) ∙ here) in
    preorder_alike (numbered_path grouping all) (class_path grouping all) (class_of grouping all root) (λ x y a b.
    paths_agree grouping all r x y (inside x a).0 (inside y b).0 (eqb-true (class_root grouping all x) root (inside x a).1 ∙ sym (eqb-true (class_root grouping all y) root (inside y b).1)))
