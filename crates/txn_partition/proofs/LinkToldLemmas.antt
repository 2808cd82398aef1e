-- What a Begin or a Link of a regular log tells of parents.
use Rattle.std.proofs.Common.{◌≡◌, ◌⊎◌, ⊎_elim, inl, inr, ℕ, true, false, eqb, Option, Some, None, List, [], ◌∷◌, ◌++◌, map, refl, ap, sym, ◌∙◌, subst}
use Rattle.std.specs.Option.{option_map}
use Rattle.std.proofs.lemmas.Bool.{eqb-true, eq-eqb}
use Rattle.vsl_tags.specs.Tags.{begin_tag, link_tag}
use Rattle.txn_rows.specs.declared.group.Grouping.{Grouping}
use Rattle.txn_rows.specs.declared.group.ParentLink.{ParentLink}
use Rattle.txn_rows.specs.declared.claim.Claim.{Claim}
use Rattle.txn_rows.specs.Claim.{claim_of}
use Rattle.txn_rows.specs.Transaction.{Transaction, is_pending}
use Rattle.txn_rows.specs.Links.{of_serial, linked, with_link}
use Rattle.txn_rows.specs.Grouping.{State, with_other, gives_parent, with_parent_named, with_child_named, with_claim}
use Rattle.txn_partition.specs.LogFacts.{Entry, Link, parent_named, child_named, links_in, is_in, named, parent_of}
use Rattle.txn_partition.specs.inside.Parted.{links_before, place, parent_link}
use Rattle.txn_rows.proofs.LineLemmas.{by_cases}
use Rattle.txn_partition.proofs.NamedLemmas.{place_apart}
use Rattle.txn_partition.proofs.LinkedLemmas.{HasParents, told_or_not, parent_first}
use Rattle.txn_partition.proofs.MappedLemmas.{serial_mapped, AreLinked}

-- a record makes one link, of its own VXID
pub record OneLink (grouping : Grouping) (e : Entry) : Type 0 where
  pub link : Link
  pub is : links_in grouping e ≡ link ∷ []
  pub own : (link.child ≡ e.vxid) ⊎ (link.parent ≡ e.vxid)

-- or none
abbrev FewLinks : ℕ → List Link → Type 0
FewLinks vxid links = (links ≡ []) ⊎ ((l : Link) × (links ≡ l ∷ []) × ((l.child ≡ vxid) ⊎ (l.parent ≡ vxid)))

few_named : (grouping : Grouping) (vxid : ℕ) (o : Option Claim) → FewLinks vxid (parent_named grouping vxid o) × FewLinks vxid (child_named grouping vxid o)
few_named grouping vxid None = (inl refl, inl refl)
few_named grouping vxid (Some claim) =
    by_cases (FewLinks vxid (parent_named grouping vxid (Some claim)) × FewLinks vxid (child_named grouping vxid (Some claim))) (gives_parent grouping claim)
    (λ e. rw e (inr (record { child = vxid; parent = claim.vxid }, refl, inl refl), inr (record { child = claim.vxid; parent = vxid }, refl, inr refl)))
    (λ e. rw e (inl refl, inl refl))

pub links_few : (grouping : Grouping) (e : Entry) → (links_in grouping e ≡ []) ⊎ OneLink grouping e
links_few grouping e =
    let both = few_named grouping e.vxid (claim_of e.rec.payload) in
    let few : FewLinks e.vxid (links_in grouping e) =
    by_cases (FewLinks e.vxid (links_in grouping e)) (eqb e.rec.tag begin_tag)
    (λ b. rw b both.0)
    (λ b. by_cases (FewLinks e.vxid (links_in grouping e)) (eqb e.rec.tag link_tag) (λ c. rw (b, c) both.1) (λ c. rw (b, c) (inl refl))) in
    ⊎_elim (λ none. inl none) (λ (one : (l : Link) × (links_in grouping e ≡ l ∷ []) × ((l.child ≡ e.vxid) ⊎ (l.parent ≡ e.vxid))). inr (record { link = one.0; is = one.1; own = one.2 })) few

-- both of a link begin, where they don't stand, and the link is made
abbrev pub with_both : Link → State → State
with_both l state = with_other l.parent (with_other l.child state)

abbrev pub with_joined : Link → State → State
with_joined l state = let both = with_both l state in record both { pending = with_link l.child l.parent both.pending }

-- what links tell, of which there is one at most
abbrev pub told_links : List Link → State → State
told_links [] state = state
told_links (l ∷ links) state = with_joined l state

other_there : (v : ℕ) (state : State) → is_pending v state.pending ≡ true → with_other v state ≡ state
other_there v state here = rw here refl

pending_more : (v : ℕ) (xs ys : List Transaction) → is_pending v xs ≡ true → is_pending v (xs ++ ys) ≡ true
pending_more v [] ys here = absurd (cc)
pending_more v (x ∷ xs) ys here = by_cases (is_pending v (x ∷ xs ++ ys) ≡ true) (eqb x.vxid v) (λ e. rw e refl) (λ e. rw e (pending_more v xs ys (rw e at here)))

other_keeps : (v o : ℕ) (state : State) → is_pending v state.pending ≡ true → is_pending v (with_other o state).pending ≡ true
other_keeps v o state here =
    by_cases (is_pending v (with_other o state).pending ≡ true) (is_pending o state.pending)
    (λ e. rw e here)
    (λ e. rw e (pending_more v state.pending _ here))

parent_is : (grouping : Grouping) (vxid : ℕ) (o : Option Claim) (state : State) → is_pending vxid state.pending ≡ true → with_parent_named grouping vxid o state ≡ told_links (parent_named grouping vxid o) state
parent_is grouping vxid None state here = refl
parent_is grouping vxid (Some claim) state here =
    let make : State → State = λ s. let both : State = with_other claim.vxid s in record both { pending = with_link vxid claim.vxid both.pending } in
    by_cases (with_parent_named grouping vxid (Some claim) state ≡ told_links (parent_named grouping vxid (Some claim)) state) (gives_parent grouping claim)
    (λ e. rw e (ap make (sym (other_there vxid state here))))
    (λ e. rw e refl)

child_is : (grouping : Grouping) (vxid : ℕ) (o : Option Claim) (state : State) → is_pending vxid state.pending ≡ true → with_child_named grouping vxid o state ≡ told_links (child_named grouping vxid o) state
child_is grouping vxid None state here = refl
child_is grouping vxid (Some claim) state here =
    let other : State = with_other claim.vxid state in
    let make : State → State = λ s. record s { pending = with_link claim.vxid vxid s.pending } in
    by_cases (with_child_named grouping vxid (Some claim) state ≡ told_links (child_named grouping vxid (Some claim)) state) (gives_parent grouping claim)
    (λ e. rw e (ap make (sym (other_there vxid other (other_keeps vxid claim.vxid state here)))))
    (λ e. rw e refl)

-- a claim is what its link tells
pub claim_is : (grouping : Grouping) (e : Entry) (state : State) → is_pending e.vxid state.pending ≡ true → with_claim grouping e.vxid e.rec state ≡ told_links (links_in grouping e) state
claim_is grouping e state here =
    by_cases (with_claim grouping e.vxid e.rec state ≡ told_links (links_in grouping e) state) (eqb e.rec.tag begin_tag)
    (λ b. rw b (parent_is grouping e.vxid (claim_of e.rec.payload) state here))
    (λ b. by_cases (with_claim grouping e.vxid e.rec state ≡ told_links (links_in grouping e) state) (eqb e.rec.tag link_tag)
    (λ c. rw (b, c) (child_is grouping e.vxid (claim_of e.rec.payload) state here))
    (λ c. rw (b, c) refl))

-- one link more is none of another child
pub parent_other : (xs : List Link) (l : Link) (x : ℕ) → eqb l.child x ≡ false → parent_of (xs ++ l ∷ []) x ≡ parent_of xs x
parent_other [] l x other = rw other refl
parent_other (k ∷ xs) l x other = by_cases (parent_of (k ∷ xs ++ l ∷ []) x ≡ parent_of (k ∷ xs) x) (eqb k.child x) (λ e. rw e refl) (λ e. rw e (parent_other xs l x other))

-- and none where there is one
pub parent_stays : (xs : List Link) (l : Link) (x q : ℕ) → parent_of xs l.child ≡ Some q → parent_of (xs ++ l ∷ []) x ≡ parent_of xs x
parent_stays xs l x q e =
    by_cases (parent_of (xs ++ l ∷ []) x ≡ parent_of xs x) (eqb l.child x)
    (λ s. subst (λ (y : ℕ). parent_of (xs ++ l ∷ []) y ≡ parent_of xs y) (eqb-true l.child x s) (parent_first xs (l ∷ []) l.child q e ∙ sym e))
    (parent_other xs l x)

-- what stands before the first link of a child
pub before_first : (xs : List Link) (l : Link) (ys : List Link) → parent_of xs l.child ≡ None → links_before l.child (xs ++ l ∷ ys) ≡ xs
before_first [] l ys none = rw (eq-eqb l.child l.child refl) refl
before_first (k ∷ xs) l ys none =
    by_cases (links_before l.child (k ∷ xs ++ l ∷ ys) ≡ k ∷ xs) (eqb k.child l.child)
    (λ e. absurd (let f : Some k.parent ≡ None = rw e at none in cc))
    (λ e. rw e (ap (λ (ls : List Link). k ∷ ls) (before_first xs l ys (rw e at none))))

-- a function tells of each VXID its number, and its parent by links
pub record IsTold (grouping : Grouping) (all : List Entry) (links : List Link) (T : ℕ → Transaction) : Type 0 where
  pub vxid : (x : ℕ) → (T x).vxid ≡ x
  pub serial : (x : ℕ) → (T x).serial ≡ place x (named grouping all)
  pub parent : (x : ℕ) → (T x).parent ≡ parent_link grouping all x (parent_of links x)

-- so transactions of names are linked as links say
pub linked_told : (grouping : Grouping) (all : List Entry) (links : List Link) (T : ℕ → Transaction) (names : List ℕ) → IsTold grouping all links T → ((x : ℕ) → is_in x names ≡ true → is_in x (named grouping all) ≡ true) → HasParents links names → AreLinked T links names
linked_told grouping all links T names t within up =
    let N : List ℕ = named grouping all in
    let apart : (x y : ℕ) → is_in x names ≡ true → is_in y names ≡ true → (T x).serial ≡ (T y).serial → x ≡ y = λ x y a b e. place_apart x y N (within x a) (within y b) (sym (t.serial x) ∙ e ∙ t.serial y) in
    record {
      numbered = apart;
      up = up;
      linked = λ x here.
          let by : (o : Option ℕ) → parent_of links x ≡ o → linked (T x).parent (map T names) ≡ linked (parent_link grouping all x o) (map T names) = λ o e. ap (λ (k : Option ParentLink). linked k (map T names)) (t.parent x ∙ ap (parent_link grouping all x) e) in
          told_or_not (linked (T x).parent (map T names) ≡ option_map T (parent_of links x)) (parent_of links x)
          (λ none. by None none ∙ ap (option_map T) (sym none))
          (λ p e. by (Some p) e ∙ ap (λ (s : ℕ). of_serial s (map T names)) (sym (t.serial p)) ∙ serial_mapped T names apart p (up x p here e) ∙ ap (option_map T) (sym e));
    }
