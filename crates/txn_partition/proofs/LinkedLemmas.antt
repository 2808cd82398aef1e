-- Parents by links, and the lines that lead up to a root.
use Rattle.std.proofs.Common.{◌≡◌, ◌+◌, ◌-◌, ◌<◌, ◌≤◌, ⊎_elim, ℕ, zero, suc, Bool, true, false, eqb, Option, Some, None, List, [], ◌∷◌, ◌++◌, length, refl, ap, sym, ◌∙◌, subst, arith}
use Rattle.std.proofs.lemmas.Bool.{cases_lt, eqb-true, or_cases, both_ways}
use Rattle.txn_partition.specs.LogFacts.{Link, is_in, parent_of}
use Rattle.txn_partition.specs.Partition.{line_up, last_or}
use Rattle.txn_rows.proofs.LineLemmas.{by_cases}
use Rattle.txn_partition.proofs.NamedLemmas.{AreApart, no_more}

-- what links before tell of a parent stays
pub parent_first : (xs ys : List Link) (v p : ℕ) → parent_of xs v ≡ Some p → parent_of (xs ++ ys) v ≡ Some p
parent_first [] ys v p e = absurd (cc)
parent_first (l ∷ xs) ys v p e =
    by_cases (parent_of (l ∷ xs ++ ys) v ≡ Some p) (eqb l.child v)
    (λ s. rw s (rw s at e))
    (λ s. rw s (parent_first xs ys v p (rw s at e)))

pub parent_later : (xs ys : List Link) (v : ℕ) → parent_of xs v ≡ None → parent_of (xs ++ ys) v ≡ parent_of ys v
parent_later [] ys v e = refl
parent_later (l ∷ xs) ys v e =
    by_cases (parent_of (l ∷ xs ++ ys) v ≡ parent_of ys v) (eqb l.child v)
    (λ s. absurd (let f : Some l.parent ≡ None = rw s at e in cc))
    (λ s. rw s (parent_later xs ys v (rw s at e)))

-- where a parent is told or not
pub told_or_not : (P : Type 0) (o : Option ℕ) → (o ≡ None → P) → ((p : ℕ) → o ≡ Some p → P) → P
told_or_not P None none some = none refl
told_or_not P (Some p) none some = some p refl

pub line_none : (links : List Link) (n : ℕ) → line_up links n None ≡ []
line_none links zero = refl
line_none links (suc n) = refl

-- a fact that goes on to parents
abbrev pub GoesUp : List Link → (ℕ → Type 0) → Type 0
GoesUp links P = (x p : ℕ) → P x → parent_of links x ≡ Some p → P p

-- holds of all that stand in the line
pub line_holds : (links : List Link) (P : ℕ → Type 0) → GoesUp links P → (n : ℕ) (o : Option ℕ) → ((p : ℕ) → o ≡ Some p → P p) → (y : ℕ) → is_in y (line_up links n o) ≡ true → P y
line_holds links P up zero o start y there = absurd (cc)
line_holds links P up (suc n) None start y there = absurd (cc)
line_holds links P up (suc n) (Some v) start y there = ⊎_elim
    (λ (same : eqb v y ≡ true). subst P (eqb-true v y same) (start v refl))
    (λ (later : is_in y (line_up links n (parent_of links v)) ≡ true). line_holds links P up n (parent_of links v) (λ p e. up v p (start v refl) e) y later)
    (or_cases (eqb v y) (is_in y (line_up links n (parent_of links v))) there)

last_up : (links : List Link) (P : ℕ → Type 0) → GoesUp links P → (n : ℕ) (o : Option ℕ) → ((p : ℕ) → o ≡ Some p → P p) → (v : ℕ) → P v → P (last_or v (line_up links n o))
last_up links P up zero o start v h = h
last_up links P up (suc n) None start v h = h
last_up links P up (suc n) (Some x) start v h = last_up links P up n (parent_of links x) (λ p e. up x p (start x refl) e) x (start x refl)

-- and of the last
pub last_holds : (links : List Link) (P : ℕ → Type 0) → GoesUp links P → (n v : ℕ) → P v → P (last_or v (line_up links n (Some v)))
last_holds links P up n v h = last_up links P up n (Some v) (λ p e. subst P (let f : Some v ≡ Some p = e in cc) h) v h

-- links by which parents never lead back
abbrev pub NeverReturn : List Link → Type 0
NeverReturn links = (child parent n : ℕ) → parent_of links child ≡ Some parent → is_in child (line_up links n (Some parent)) ≡ false

not_above : (links : List Link) → NeverReturn links → (n v : ℕ) (o : Option ℕ) → parent_of links v ≡ o → is_in v (line_up links n o) ≡ false
not_above links never n v None e = rw (line_none links n) refl
not_above links never n v (Some p) e = never v p n e

-- so none stands in a line twice
line_apart : (links : List Link) → NeverReturn links → (n : ℕ) (o : Option ℕ) → AreApart (line_up links n o)
line_apart links never zero o = tt
line_apart links never (suc n) None = tt
line_apart links never (suc n) (Some v) = (not_above links never n v (parent_of links v) refl, line_apart links never n (parent_of links v))

-- a list that has all parents of what it has
abbrev pub HasParents : List Link → List ℕ → Type 0
HasParents links vxids = GoesUp links (λ x. is_in x vxids ≡ true)

line_short : (links : List Link) → NeverReturn links → (vxids : List ℕ) → HasParents links vxids → (n v : ℕ) → is_in v vxids ≡ true → length (line_up links n (Some v)) ≤ length vxids
line_short links never vxids has n v here =
    no_more (line_up links n (Some v)) vxids (line_apart links never n (Some v))
    (λ y there. line_holds links (λ x. is_in x vxids ≡ true) has n (Some v) (λ p e. subst (λ (x : ℕ). is_in x vxids ≡ true) (let f : Some v ≡ Some p = e in cc) here) y there)

-- a line that is short enough has come to its end
settled : (links : List Link) (n : ℕ) (o : Option ℕ) → length (line_up links (suc n) o) ≤ n → line_up links (suc n) o ≡ line_up links n o
settled links zero None short = refl
settled links zero (Some v) short = absurd (omega (arith, short))
settled links (suc n) None short = refl
settled links (suc n) (Some v) short = ap (λ (xs : List ℕ). v ∷ xs) (settled links n (parent_of links v) (omega (arith, short)))

-- so long lines are the same
longer_same : (links : List Link) → NeverReturn links → (vxids : List ℕ) → HasParents links vxids → (n k v : ℕ) → is_in v vxids ≡ true → length vxids ≤ n → line_up links (n + k) (Some v) ≡ line_up links n (Some v)
longer_same links never vxids has n zero v here enough = ap (λ (m : ℕ). line_up links m (Some v)) (omega arith)
longer_same links never vxids has n (suc k) v here enough =
    let next : n + suc k ≡ suc (n + k) = omega arith in
    let short : length (line_up links (suc (n + k)) (Some v)) ≤ n + k = omega (arith, enough, line_short links never vxids has (suc (n + k)) v here) in
    ap (λ (m : ℕ). line_up links m (Some v)) next ∙ settled links (n + k) (Some v) short ∙ longer_same links never vxids has n k v here enough

pub line_same : (links : List Link) → NeverReturn links → (vxids : List ℕ) → HasParents links vxids → (n m v : ℕ) → is_in v vxids ≡ true → length vxids ≤ n → length vxids ≤ m → line_up links m (Some v) ≡ line_up links n (Some v)
line_same links never vxids has n m v here low high = ⊎_elim
    (λ (less : n < m). ap (λ (k : ℕ). line_up links k (Some v)) (let e : m ≡ n + (m - n) = omega (arith, less) in e) ∙ longer_same links never vxids has n (m - n) v here low)
    (λ (most : m ≤ n). sym (ap (λ (k : ℕ). line_up links k (Some v)) (let e : n ≡ m + (n - m) = omega (arith, most) in e) ∙ longer_same links never vxids has m (n - m) v here high))
    (cases_lt n m)

-- the last of the line of so many
abbrev pub top_of : List Link → ℕ → ℕ → ℕ
top_of links n v = last_or v (line_up links n (Some v))

-- a VXID without a parent is its own top
top_itself : (links : List Link) (n v : ℕ) → parent_of links v ≡ None → top_of links n v ≡ v
top_itself links zero v none = refl
top_itself links (suc n) v none = ap (λ (o : Option ℕ). last_or v (line_up links n o)) none ∙ ap (last_or v) (line_none links n)

-- a child has the top of its parent
top_up : (links : List Link) (n v p : ℕ) → parent_of links v ≡ Some p → top_of links (suc (suc n)) v ≡ top_of links (suc n) p
top_up links n v p e = ap (λ (o : Option ℕ). last_or v (line_up links (suc n) o)) e

pub top_same : (links : List Link) → NeverReturn links → (vxids : List ℕ) → HasParents links vxids → (n v p : ℕ) → is_in v vxids ≡ true → length vxids ≤ n → parent_of links v ≡ Some p → top_of links n v ≡ top_of links n p
top_same links never [] has n v p here enough e = absurd (cc)
top_same links never (x ∷ xs) has zero v p here enough e = absurd (omega (arith, enough))
top_same links never (x ∷ xs) has (suc n) v p here enough e =
    ap (last_or v) (sym (line_same links never (x ∷ xs) has (suc n) (suc (suc n)) v here enough (omega (arith, enough)))) ∙ top_up links n v p e

-- and a top has no parent
top_none_from : (links : List Link) (n v : ℕ) (o : Option ℕ) → parent_of links v ≡ o → length (v ∷ line_up links n o) ≤ n → parent_of links (last_or v (line_up links n o)) ≡ None
top_none_from links n v None e short = ap (λ (xs : List ℕ). parent_of links (last_or v xs)) (line_none links n) ∙ e
top_none_from links zero v (Some p) e short = absurd (omega (arith, short))
top_none_from links (suc n) v (Some p) e short = top_none_from links n p (parent_of links p) refl (omega (arith, short))

pub top_none : (links : List Link) → NeverReturn links → (vxids : List ℕ) → HasParents links vxids → (n v : ℕ) → is_in v vxids ≡ true → length vxids ≤ n → parent_of links (top_of links n v) ≡ None
top_none links never vxids has n v here enough =
    ap (λ (xs : List ℕ). parent_of links (last_or v xs)) (sym (line_same links never vxids has n (suc (n + 1)) v here enough (omega (arith, enough))))
    ∙ top_none_from links (n + 1) v (parent_of links v) refl (omega (arith, enough, line_short links never vxids has (suc (n + 1)) v here))

-- lines by two lists of links are the same where their parents are
pub line_agrees : (xs ys : List Link) (P : ℕ → Type 0) → GoesUp ys P → ((x : ℕ) → P x → parent_of xs x ≡ parent_of ys x) → (n : ℕ) (o : Option ℕ) → ((p : ℕ) → o ≡ Some p → P p) → line_up xs n o ≡ line_up ys n o
line_agrees xs ys P up same zero o start = refl
line_agrees xs ys P up same (suc n) None start = refl
line_agrees xs ys P up same (suc n) (Some v) start =
    ap (λ (o : Option ℕ). v ∷ line_up xs n o) (same v (start v refl))
    ∙ ap (λ (zs : List ℕ). v ∷ zs) (line_agrees xs ys P up same n (parent_of ys v) (λ p e. up v p (start v refl) e))

-- where fewer links are known a line has no others
abbrev pub KnowsSome : List Link → List Link → Type 0
KnowsSome some all = (x p : ℕ) → parent_of some x ≡ Some p → parent_of all x ≡ Some p

pub line_fewer : (some all : List Link) → KnowsSome some all → (n : ℕ) (o : Option ℕ) (y : ℕ) → is_in y (line_up some n o) ≡ true → is_in y (line_up all n o) ≡ true
line_fewer some all knows zero o y there = absurd (cc)
line_fewer some all knows (suc n) None y there = absurd (cc)
line_fewer some all knows (suc n) (Some v) y there = ⊎_elim
    (λ (same : eqb v y ≡ true). rw same refl)
    (λ (later : is_in y (line_up some n (parent_of some v)) ≡ true).
    by_cases (is_in y (line_up all (suc n) (Some v)) ≡ true) (eqb v y) (λ s. rw s refl)
    (λ s. rw s (told_or_not (is_in y (line_up all n (parent_of all v)) ≡ true) (parent_of some v)
    (λ none. absurd (both_ways (is_in y (line_up some n (parent_of some v))) (ap (λ (o : Option ℕ). is_in y (line_up some n o)) none ∙ ap (is_in y) (line_none some n)) later))
    (λ p e. ap (λ (o : Option ℕ). is_in y (line_up all n o)) (knows v p e) ∙ line_fewer some all knows n (Some p) y (ap (λ (o : Option ℕ). is_in y (line_up some n o)) (sym e) ∙ later)))))
    (or_cases (eqb v y) (is_in y (line_up some n (parent_of some v))) there)

pub never_fewer : (some all : List Link) → KnowsSome some all → NeverReturn all → NeverReturn some
never_fewer some all knows never child parent n e =
    by_cases (is_in child (line_up some n (Some parent)) ≡ false) (is_in child (line_up some n (Some parent)))
    (λ there. absurd (both_ways (is_in child (line_up all n (Some parent))) (never child parent n (knows child parent e)) (line_fewer some all knows n (Some parent) child there)))
    (λ not_there. not_there)

-- some of the links are known so far, among them each of a VXID that has ended, and names have all that they join
pub record Joined (some all : List Link) (names : List ℕ) (ended : ℕ → Bool) : Type 0 where
  pub never : NeverReturn all
  pub knows : KnowsSome some all
  pub child : (x p : ℕ) → parent_of all x ≡ Some p → ended x ≡ true → parent_of some x ≡ Some p
  pub parent : (x p : ℕ) → parent_of all x ≡ Some p → ended p ≡ true → parent_of some x ≡ Some p
  pub up : HasParents some names
  pub down : (x p : ℕ) → parent_of some x ≡ Some p → is_in p names ≡ true → is_in x names ≡ true

-- a VXID is in the tree of a top, as far as links are known
record InTree (some : List Link) (names : List ℕ) (n top x : ℕ) : Type 0 where
  here : is_in x names ≡ true
  top_is : top_of some n x ≡ top

-- what leads to the top by all links is in its tree
all_in : (some all : List Link) (names : List ℕ) (ended : ℕ → Bool) → Joined some all names ended → (n : ℕ) → length names ≤ n → (top : ℕ) → InTree some names n top top →
    ((x : ℕ) → InTree some names n top x → ended x ≡ true) → (m x : ℕ) (o : Option ℕ) → parent_of all x ≡ o → last_or x (line_up all m o) ≡ top → InTree some names n top x
all_in some all names ended j n enough top at_top each zero x o e last = subst (InTree some names n top) (sym last) at_top
all_in some all names ended j n enough top at_top each (suc m) x None e last = subst (InTree some names n top) (sym last) at_top
all_in some all names ended j n enough top at_top each (suc m) x (Some p) e last =
    let above : InTree some names n top p = all_in some all names ended j n enough top at_top each m p (parent_of all p) refl last in
    let linked : parent_of some x ≡ Some p = j.parent x p e (each p above) in
    let here : is_in x names ≡ true = j.down x p linked above.here in
    record { here = here; top_is = top_same some (never_fewer some all j.knows j.never) names j.up n x p here enough linked ∙ above.top_is }

-- and so from the line of a VXID itself
leads_in : (some all : List Link) (names : List ℕ) (ended : ℕ → Bool) → Joined some all names ended → (n : ℕ) → length names ≤ n → (top : ℕ) → InTree some names n top top →
    ((x : ℕ) → InTree some names n top x → ended x ≡ true) → (m x : ℕ) → top_of all m x ≡ top → InTree some names n top x
leads_in some all names ended j n enough top at_top each zero x last = subst (InTree some names n top) (sym last) at_top
leads_in some all names ended j n enough top at_top each (suc m) x last = all_in some all names ended j n enough top at_top each m x (parent_of all x) refl last

-- where all of a tree have ended, all links of it are known: it is all that leads to the top
pub record IsWhole (some all : List Link) (names : List ℕ) (n m v : ℕ) : Type 0 where
  pub top : top_of some n v ≡ top_of all m v
  pub all_here : (x : ℕ) → top_of all m x ≡ top_of all m v → (is_in x names ≡ true) × (top_of some n x ≡ top_of some n v)

pub tree_whole : (some all : List Link) (names : List ℕ) (ended : ℕ → Bool) → Joined some all names ended → (n m v : ℕ) → length names ≤ n → is_in v names ≡ true →
    ((x p : ℕ) → is_in x names ≡ true → parent_of all x ≡ Some p → top_of all m x ≡ top_of all m p) →
    ((x : ℕ) → is_in x names ≡ true → top_of some n x ≡ top_of some n v → ended x ≡ true) → IsWhole some all names n m v
tree_whole some all names ended j n m v enough here same each =
    let top : ℕ = top_of some n v in
    let In : ℕ → Type 0 = λ y. (is_in y names ≡ true) × (top_of all m y ≡ top_of all m v) in
    let at : In top = last_holds some In (λ x p h e. (j.up x p h.0 e, sym (same x p h.0 (j.knows x p e)) ∙ h.1)) n v (here, refl) in
    let none : parent_of some top ≡ None = top_none some (never_fewer some all j.knows j.never) names j.up n v here enough in
    let tree : InTree some names n top top = record { here = at.0; top_is = top_itself some n top none } in
    let none_all : parent_of all top ≡ None = told_or_not (parent_of all top ≡ None) (parent_of all top) (λ e. e)
    (λ p e. absurd (let f : None ≡ Some p = sym none ∙ j.child top p e (each top tree.here tree.top_is) in cc)) in
    let top_is : top ≡ top_of all m v = sym (top_itself all m top none_all) ∙ at.1 in
    record {
      top = top_is;
      all_here = λ x e.
          let inside : InTree some names n top x = leads_in some all names ended j n enough top tree (λ y i. each y i.here i.top_is) m x (e ∙ sym top_is) in
          (inside.here, inside.top_is);
    }
