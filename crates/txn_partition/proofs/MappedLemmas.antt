-- Pending transactions that are told of a list of VXIDs by a function: what the rules find among them, and how they
-- stand in trees.
use Rattle.std.proofs.Common.{◌≡◌, ℕ, zero, suc, Bool, true, false, not, eqb, cond, ◌||◌, ◌&&◌, Option, Some, None, List, [], ◌∷◌, length, map, refl, ap, sym, ◌∙◌, subst}
use Rattle.std.specs.List.{filter}
use Rattle.std.specs.Option.{option_map}
use Rattle.std.proofs.Math.Bool.{or-true, or-false}
use Rattle.std.proofs.lemmas.Bool.{eqb-true, eqb-false, eq-eqb, ne_eqb, both_ways, or_right}
use Rattle.std.proofs.lemmas.List.{length-map}
use Rattle.std.proofs.lemmas.Simd.{map-map}
use Rattle.txn_rows.specs.declared.group.Member.{Member}
use Rattle.txn_rows.specs.Transaction.{Transaction, is_pending, is_open, newest, with_newest}
use Rattle.txn_rows.specs.Links.{of_serial, linked, line, line_of, last_of, root_of, tree_of, others, is_path_before, placed, preorder}
use Rattle.txn_partition.specs.LogFacts.{Link, is_in, parent_of}
use Rattle.txn_partition.specs.Partition.{line_up, last_or}
use Rattle.txn_rows.proofs.LineLemmas.{by_cases}
use Rattle.txn_partition.proofs.NamedLemmas.{AreApart}
use Rattle.txn_partition.proofs.LinkedLemmas.{HasParents, top_of, last_holds}

-- a function from VXIDs gives each its own transaction
abbrev pub AreNamed : (ℕ → Transaction) → Type 0
AreNamed T = (x : ℕ) → (T x).vxid ≡ x

pub pending_mapped : (T : ℕ → Transaction) → AreNamed T → (v : ℕ) (names : List ℕ) → is_pending v (map T names) ≡ is_in v names
pending_mapped T is v [] = refl
pending_mapped T is v (x ∷ names) = rw (is x, pending_mapped T is v names) refl

pub newest_mapped : (T : ℕ → Transaction) → AreNamed T → (v : ℕ) (names : List ℕ) → is_in v names ≡ true → newest v (map T names) ≡ Some (T v)
newest_mapped T is v [] here = absurd (cc)
newest_mapped T is v (x ∷ names) here =
    by_cases (newest v (map T (x ∷ names)) ≡ Some (T v)) (is_in v names)
    (λ e. rw (pending_mapped T is v names, e) (newest_mapped T is v names e))
    (λ e. let same : eqb x v ≡ true = sym (or-false (eqb x v)) ∙ rw e at here in
    let at : eqb (T x).vxid v ≡ true = ap (λ (y : ℕ). eqb y v) (is x) ∙ same in
    rw (pending_mapped T is v names, e, at) (ap (λ (y : ℕ). Some (T y)) (eqb-true x v same)))

pub open_mapped : (T : ℕ → Transaction) → AreNamed T → (v : ℕ) (names : List ℕ) → is_open v (map T names) ≡ (is_in v names && not (T v).ended)
open_mapped T is v [] = refl
open_mapped T is v (x ∷ names) =
    by_cases (is_open v (map T (x ∷ names)) ≡ (is_in v (x ∷ names) && not (T v).ended)) (is_in v names)
    (λ e. rw (pending_mapped T is v names, e, or-true (eqb x v)) (open_mapped T is v names ∙ rw e refl))
    (λ e. by_cases (is_open v (map T (x ∷ names)) ≡ (is_in v (x ∷ names) && not (T v).ended)) (eqb x v)
    (λ same. rw (pending_mapped T is v names, e, is x, same) (ap (λ (y : ℕ). not (T y).ended) (eqb-true x v same)))
    (λ other. rw (pending_mapped T is v names, e, is x, other) refl))

-- functions that agree at what is listed give the same
pub map_same : {X : Type 0} (f g : ℕ → X) (xs : List ℕ) → ((x : ℕ) → is_in x xs ≡ true → f x ≡ g x) → map f xs ≡ map g xs
map_same f g [] same = refl
map_same {X} f g (x ∷ xs) same =
    ap (λ (y : X). y ∷ map f xs) (same x (rw (eq-eqb x x refl) refl))
    ∙ ap (λ (ys : List X). g x ∷ ys) (map_same f g xs (λ y here. same y (or_right (eqb x y) (is_in y xs) here)))

-- a function that is changed at one VXID
abbrev pub changed_at : ℕ → (Transaction → Transaction) → (ℕ → Transaction) → ℕ → Transaction
changed_at v change T x = cond (eqb x v) (change (T x)) (T x)

unchanged : (v : ℕ) (change : Transaction → Transaction) (T : ℕ → Transaction) (xs : List ℕ) → is_in v xs ≡ false → map T xs ≡ map (changed_at v change T) xs
unchanged v change T xs none = map_same T (changed_at v change T) xs (λ x here.
    let other : eqb x v ≡ false = ne_eqb x v (λ e. both_ways (is_in v xs) none (ap (λ (y : ℕ). is_in y xs) (sym e) ∙ here)) in rw other refl)

pub changed_mapped : (T : ℕ → Transaction) → AreNamed T → (v : ℕ) (change : Transaction → Transaction) (names : List ℕ) → AreApart names → with_newest v change (map T names) ≡ map (changed_at v change T) names
changed_mapped T is v change [] apart = refl
changed_mapped T is v change (x ∷ names) apart =
    by_cases (with_newest v change (map T (x ∷ names)) ≡ map (changed_at v change T) (x ∷ names)) (is_in v names)
    (λ e. let other : eqb x v ≡ false = ne_eqb x v (λ s. both_ways (is_in x names) apart.0 (ap (λ (y : ℕ). is_in y names) s ∙ e)) in
    rw (pending_mapped T is v names, e, other) (ap (λ (ts : List Transaction). T x ∷ ts) (changed_mapped T is v change names apart.1)))
    (λ e. by_cases (with_newest v change (map T (x ∷ names)) ≡ map (changed_at v change T) (x ∷ names)) (eqb x v)
    (λ same. let at : eqb (T x).vxid v ≡ true = ap (λ (y : ℕ). eqb y v) (is x) ∙ same in
    rw (pending_mapped T is v names, e, at, same) (ap (λ (ts : List Transaction). change (T x) ∷ ts) (unchanged v change T names e)))
    (λ other. let at : eqb (T x).vxid v ≡ false = ap (λ (y : ℕ). eqb y v) (is x) ∙ other in
    rw (pending_mapped T is v names, e, at, other) (ap (λ (ts : List Transaction). T x ∷ ts) (unchanged v change T names e))))

-- different VXIDs have different serial numbers
abbrev pub AreNumbered : (ℕ → Transaction) → List ℕ → Type 0
AreNumbered T names = (x y : ℕ) → is_in x names ≡ true → is_in y names ≡ true → (T x).serial ≡ (T y).serial → x ≡ y

pub serial_mapped : (T : ℕ → Transaction) (names : List ℕ) → AreNumbered T names → (v : ℕ) → is_in v names ≡ true → of_serial (T v).serial (map T names) ≡ Some (T v)
serial_mapped T [] apart v here = absurd (cc)
serial_mapped T (x ∷ names) apart v here =
    by_cases (of_serial (T v).serial (map T (x ∷ names)) ≡ Some (T v)) (eqb (T x).serial (T v).serial)
    (λ e. rw e (ap (λ (y : ℕ). Some (T y)) (apart x v (rw (eq-eqb x x refl) refl) here (eqb-true (T x).serial (T v).serial e))))
    (λ e. let other : eqb x v ≡ false = ne_eqb x v (λ s. eqb-false (T x).serial (T v).serial e (ap (λ (y : ℕ). (T y).serial) s)) in
    rw e (serial_mapped T names (λ y z a b. apart y z (or_right (eqb x y) (is_in y names) a) (or_right (eqb x z) (is_in z names) b)) v (rw other at here)))

-- the transactions of names are linked as links say
pub record AreLinked (T : ℕ → Transaction) (links : List Link) (names : List ℕ) : Type 0 where
  pub numbered : AreNumbered T names
  pub linked : (x : ℕ) → is_in x names ≡ true → linked (T x).parent (map T names) ≡ option_map T (parent_of links x)
  pub up : HasParents links names

line_mapped : (T : ℕ → Transaction) (links : List Link) (names : List ℕ) → AreLinked T links names → (n : ℕ) (o : Option ℕ) → ((p : ℕ) → o ≡ Some p → is_in p names ≡ true) → line n (map T names) (option_map T o) ≡ map T (line_up links n o)
line_mapped T links names l zero o start = refl
line_mapped T links names l (suc n) None start = refl
line_mapped T links names l (suc n) (Some v) start =
    ap (λ (o : Option Transaction). T v ∷ line n (map T names) o) (l.linked v (start v refl))
    ∙ ap (λ (ts : List Transaction). T v ∷ ts) (line_mapped T links names l n (parent_of links v) (λ p e. l.up v p (start v refl) e))

-- the line of a VXID
pub line_of_mapped : (T : ℕ → Transaction) (links : List Link) (names : List ℕ) → AreLinked T links names → (v : ℕ) → is_in v names ≡ true → line_of (map T names) (T v) ≡ map T (line_up links (length names) (Some v))
line_of_mapped T links names l v here =
    ap (λ (n : ℕ). line n (map T names) (Some (T v))) (length-map names T)
    ∙ line_mapped T links names l (length names) (Some v) (λ p e. subst (λ (x : ℕ). is_in x names ≡ true) (let f : Some v ≡ Some p = e in cc) here)

last_mapped : (T : ℕ → Transaction) (v : ℕ) (xs : List ℕ) → last_of (T v) (map T xs) ≡ T (last_or v xs)
last_mapped T v [] = refl
last_mapped T v (x ∷ xs) = last_mapped T x xs

-- the top of its tree
pub root_mapped : (T : ℕ → Transaction) (links : List Link) (names : List ℕ) → AreLinked T links names → (v : ℕ) → is_in v names ≡ true → root_of (map T names) (T v) ≡ T (top_of links (length names) v)
root_mapped T links names l v here = ap (last_of (T v)) (line_of_mapped T links names l v here) ∙ last_mapped T v (line_up links (length names) (Some v))

-- a test of transactions as one of VXIDs
filter_mapped : (T : ℕ → Transaction) (p : Transaction → Bool) (q : ℕ → Bool) (xs : List ℕ) → ((x : ℕ) → is_in x xs ≡ true → p (T x) ≡ q x) → filter p (map T xs) ≡ map T (filter q xs)
filter_mapped T p q [] same = refl
filter_mapped T p q (x ∷ xs) same =
    let first : p (T x) ≡ q x = same x (rw (eq-eqb x x refl) refl) in
    let later = filter_mapped T p q xs (λ y here. same y (or_right (eqb x y) (is_in y xs) here)) in
    by_cases (filter p (map T (x ∷ xs)) ≡ map T (filter q (x ∷ xs))) (q x)
    (λ e. rw (first, e) (ap (λ (ts : List Transaction). T x ∷ ts) later))
    (λ e. rw (first, e) later)

same_top : (T : ℕ → Transaction) (links : List Link) (names : List ℕ) → AreLinked T links names → (r x : ℕ) → is_in r names ≡ true → is_in x names ≡ true → eqb (root_of (map T names) (T x)).serial (T r).serial ≡ eqb (top_of links (length names) x) r
same_top T links names l r x root here =
    let top : ℕ = top_of links (length names) x in
    let at : is_in top names ≡ true = last_holds links (λ y. is_in y names ≡ true) l.up (length names) x here in
    ap (λ (t : Transaction). eqb t.serial (T r).serial) (root_mapped T links names l x here)
    ∙ by_cases (eqb (T top).serial (T r).serial ≡ eqb top r) (eqb top r)
    (λ e. rw e (eq-eqb (T top).serial (T r).serial (ap (λ (y : ℕ). (T y).serial) (eqb-true top r e))))
    (λ e. rw e (ne_eqb (T top).serial (T r).serial (λ s. eqb-false top r e (l.numbered top r at root s))))

-- the VXIDs with one top
abbrev pub names_under : List Link → List ℕ → ℕ → List ℕ
names_under links names r = filter (λ x. eqb (top_of links (length names) x) r) names

pub tree_mapped : (T : ℕ → Transaction) (links : List Link) (names : List ℕ) → AreLinked T links names → (r : ℕ) → is_in r names ≡ true → tree_of (map T names) (T r) ≡ map T (names_under links names r)
tree_mapped T links names l r root =
    filter_mapped T (λ t. eqb (root_of (map T names) t).serial (T r).serial) (λ x. eqb (top_of links (length names) x) r) names (λ x here. same_top T links names l r x root here)

pub others_mapped : (T : ℕ → Transaction) (links : List Link) (names : List ℕ) → AreLinked T links names → (r : ℕ) → is_in r names ≡ true → others (map T names) (T r) ≡ map T (filter (λ x. not (eqb (top_of links (length names) x) r)) names)
others_mapped T links names l r root =
    filter_mapped T (λ t. not (eqb (root_of (map T names) t).serial (T r).serial)) (λ x. not (eqb (top_of links (length names) x) r)) names (λ x here. ap not (same_top T links names l r x root here))

-- what is put among others is one of them
in_placed : (y : ℕ) (path : ℕ → List ℕ) (x : ℕ) (xs : List ℕ) → is_in y (placed path x xs) ≡ true → is_in y (x ∷ xs) ≡ true
in_placed y path x [] there = there
in_placed y path x (z ∷ xs) there =
    by_cases (is_in y (x ∷ z ∷ xs) ≡ true) (is_path_before (path x) (path z))
    (λ e. rw e at there)
    (λ e. let h : (eqb z y || is_in y (placed path x xs)) ≡ true = rw e at there in
    by_cases (is_in y (x ∷ z ∷ xs) ≡ true) (eqb z y)
    (λ s. rw s (or-true (eqb x y)))
    (λ s. let later : (eqb x y || is_in y xs) ≡ true = in_placed y path x xs (rw s at h) in rw s later))

pub in_preorder : (y : ℕ) (path : ℕ → List ℕ) (xs : List ℕ) → is_in y (preorder path xs) ≡ true → is_in y xs ≡ true
in_preorder y path [] there = there
in_preorder y path (x ∷ xs) there =
    by_cases (is_in y (x ∷ xs) ≡ true) (eqb x y)
    (λ s. rw s refl)
    (λ s. let h : (eqb x y || is_in y (preorder path xs)) ≡ true = in_placed y path x (preorder path xs) there in
    rw s (in_preorder y path xs (rw s at h)))

placed_mapped : (T : ℕ → Transaction) (p : Transaction → List ℕ) (q : ℕ → List ℕ) (x : ℕ) (xs : List ℕ) → p (T x) ≡ q x → ((y : ℕ) → is_in y xs ≡ true → p (T y) ≡ q y) → placed p (T x) (map T xs) ≡ map T (placed q x xs)
placed_mapped T p q x [] first same = refl
placed_mapped T p q x (z ∷ xs) first same =
    let at : p (T z) ≡ q z = same z (rw (eq-eqb z z refl) refl) in
    by_cases (placed p (T x) (map T (z ∷ xs)) ≡ map T (placed q x (z ∷ xs))) (is_path_before (q x) (q z))
    (λ e. rw (first, at, e) refl)
    (λ e. rw (first, at, e) (ap (λ (ts : List Transaction). T z ∷ ts) (placed_mapped T p q x xs first (λ y here. same y (or_right (eqb z y) (is_in y xs) here)))))

preorder_mapped : (T : ℕ → Transaction) (p : Transaction → List ℕ) (q : ℕ → List ℕ) (xs : List ℕ) → ((y : ℕ) → is_in y xs ≡ true → p (T y) ≡ q y) → preorder p (map T xs) ≡ map T (preorder q xs)
preorder_mapped T p q [] same = refl
preorder_mapped T p q (x ∷ xs) same =
    let later = preorder_mapped T p q xs (λ y here. same y (or_right (eqb x y) (is_in y xs) here)) in
    ap (placed p (T x)) later
    ∙ placed_mapped T p q x (preorder q xs) (same x (rw (eq-eqb x x refl) refl)) (λ y here. same y (or_right (eqb x y) (is_in y xs) (in_preorder y q xs here)))

-- transactions in preorder, as members of their group
pub members_mapped : (T : ℕ → Transaction) (p : Transaction → List ℕ) (q : ℕ → List ℕ) (f : Transaction → Member) (g : ℕ → Member) (xs : List ℕ) → ((y : ℕ) → is_in y xs ≡ true → p (T y) ≡ q y) → ((y : ℕ) → is_in y xs ≡ true → f (T y) ≡ g y) →
    map f (preorder p (map T xs)) ≡ map g (preorder q xs)
members_mapped T p q f g xs paths members =
    ap (map f) (preorder_mapped T p q xs paths) ∙ map-map f T (preorder q xs) ∙ map_same (λ x. f (T x)) g (preorder q xs) (λ y there. members y (in_preorder y q xs there))
