-- The nodes of visits are taken out one after the other.
use Rattle.std.proofs.Common.{◌≡◌, ◌≢◌, ◌+◌, ◌<◌, ◌≤◌, ⊎_elim, inl, inr, ℕ, zero, suc, Option, Some, List, [], ◌∷◌, ◌++◌, length, take, get_or, refl, ap, sym, ◌∙◌, subst, arith}
use Rattle.std.specs.Prelude.{slice_get}
use Rattle.std.proofs.lemmas.List.{length_push, length-take-le, append-nil}
use Rattle.txn_rows.specs.declared.group.Member.{Member}
use Rattle.txn_groups.specs.declared.node.Node.{Node}
use Rattle.txn_groups.specs.declared.pending.Pending.{Pending}
use Rattle.txn_groups.specs.declared.walk.Visit.{Visit}
use Rattle.txn_groups.specs.inside.Nodes.{StandsAt}
use Rattle.txn_groups.specs.inside.Kin.{unlinked, AreKin}
use Rattle.txn_groups.specs.inside.Walked.{member_at, members_of}
use Rattle.txn_groups.specs.inside.Indexed.{IsIndex}
use Rattle.txn_groups.specs.inside.Places.{AreFree}
use Rattle.txn_groups.specs.inside.Taken.{ComesTo, IsStanding, AreStanding, IsNodeTaken, AreTaken}
use Rattle.txn_groups.proofs.KinLemmas.{taken_out}

relinked_again : (x y z : Node) → y ≡ record x { older = y.older; newer = y.newer } → z ≡ record y { older = z.older; newer = z.newer } → z ≡ record x { older = z.older; newer = z.newer }
relinked_again x y z a b = b ∙ ap (λ (n : Node). record n { older = z.older; newer = z.newer }) a

assoc : (a b c : List Member) → a ++ (b ++ c) ≡ (a ++ b) ++ c
assoc [] b c = refl
assoc (m ∷ a) b c = ap (λ (ms : List Member). m ∷ ms) (assoc a b c)

-- links to those of its VXID don't matter to a member
same_but : (x y : Node) (level : ℕ) → y ≡ record x { older = y.older; newer = y.newer } → member_at (Some x) level ≡ member_at (Some y) level
same_but x y level e = sym (ap (λ (n : Node). member_at (Some n) level) e)

comes_push : (visits : List Visit) (v : Visit) (at : ℕ) → ComesTo (visits ++ v ∷ []) at → (ComesTo visits at → ⊥) → v.at ≡ at
comes_push [] v at comes none = ⊎_elim (λ (e : v.at ≡ at). e) (λ (n : ⊥). absurd n) comes
comes_push (w ∷ visits) v at comes none = ⊎_elim
    (λ (e : w.at ≡ at). absurd (none (inl e)))
    (λ (later : ComesTo (visits ++ v ∷ []) at). comes_push visits v at later (λ h. none (inr h)))
    comes

comes_left : (visits : List Visit) (v : Visit) (at : ℕ) → ComesTo visits at → ComesTo (visits ++ v ∷ []) at
comes_left [] v at comes = absurd comes
comes_left (w ∷ visits) v at comes = ⊎_elim (λ (e : w.at ≡ at). inl e) (λ (later : ComesTo visits at). inr (comes_left visits v at later)) comes

comes_last : (visits : List Visit) (v : Visit) (at : ℕ) → v.at ≡ at → ComesTo (visits ++ v ∷ []) at
comes_last [] v at e = inl e
comes_last (w ∷ visits) v at e = inr (comes_last visits v at e)

-- the members of visits, and of one more
pub members_add : (nodes : List Node) (visits : List Visit) (v : Visit) → members_of nodes (visits ++ v ∷ []) ≡ members_of nodes visits ++ member_at (slice_get nodes v.at) v.level
members_add nodes [] v = append-nil (member_at (slice_get nodes v.at) v.level)
members_add nodes (w ∷ visits) v = ap (λ (ms : List Member). member_at (slice_get nodes w.at) w.level ++ ms) (members_add nodes visits v) ∙ assoc (member_at (slice_get nodes w.at) w.level) (members_of nodes visits) (member_at (slice_get nodes v.at) v.level)

members_push : (nodes : List Node) (visits : List Visit) (v : Visit) (m : Member) → member_at (slice_get nodes v.at) v.level ≡ m ∷ [] → members_of nodes (visits ++ v ∷ []) ≡ members_of nodes visits ++ m ∷ []
members_push nodes visits v m e = members_add nodes visits v ∙ ap (λ (ms : List Member). members_of nodes visits ++ ms) e

-- none is taken yet
pub taken_none : (p : Pending) → AreKin p.nodes.items → IsIndex p.nodes.items p.index → AreFree p.nodes.items p.free.items → AreTaken p p [] []
taken_none p kin is free = record {
  kin = kin;
  index = is;
  free = free;
  were = λ at y there. (record { node = y; there = there; is = refl }, λ n. n);
  remain = λ at x there none. record { node = x; there = there; is = refl };
  members = refl;
  rows = omega arith;
  order = refl;
  begun = refl;
  time = refl;
}

-- one more is taken
pub taken_more : (p q r : Pending) (visits : List Visit) (v : Visit) (group : List Member) (m : Member) → AreTaken p q visits group → IsNodeTaken q r v m → AreTaken p r (visits ++ v ∷ []) (group ++ m ∷ [])
taken_more p q r visits v group m are one =
    let first = are.were v.at one.node one.out.was in
    let told : Some first.0.node ≡ slice_get p.nodes.items v.at = sym first.0.there.here in
    let member : member_at (slice_get p.nodes.items v.at) v.level ≡ m ∷ [] = ap (λ (o : Option Node). member_at o v.level) (sym told) ∙ same_but first.0.node one.node v.level first.0.is ∙ one.is in
    record {
      kin = taken_out q.nodes.items r.nodes.items v.at one.node are.kin one.out;
      index = one.index;
      free = one.free;
      were = λ at y there.
          let s = one.out.stood at y there in
          let w = are.were at s.node s.there in (
            record { node = w.0.node; there = w.0.there; is = relinked_again w.0.node s.node y w.0.is (subst (λ (n : Node). n ≡ record (s.node) { older = n.older; newer = n.newer }) (sym s.is) refl) },
            λ comes. s.other (sym (comes_push visits v at comes w.1)),
          );
      remain = λ at x there none.
          let now = are.remain at x there (λ h. none (comes_left visits v at h)) in
          let other : at ≢ v.at = λ e. none (comes_last visits v at (sym e)) in
          record { node = unlinked one.node at now.node; there = one.out.now at now.node now.there other; is = relinked_again x now.node (unlinked one.node at now.node) now.is refl };
      members = ap (λ (ms : List Member). ms ++ m ∷ []) are.members ∙ sym (members_push p.nodes.items visits v m member);
      rows = omega (arith, are.rows, one.rows, length_push visits v);
      order = one.order ∙ are.order;
      begun = one.begun ∙ are.begun;
      time = one.time ∙ are.time;
    }

take_suc : (visits : List Visit) (i : ℕ) (v : Visit) → i < length visits → v ≡ get_or visits i v → take (suc i) visits ≡ take i visits ++ v ∷ []
take_suc [] i v within is = absurd (omega (arith, within))
take_suc (w ∷ visits) zero v within is = ap (λ (x : Visit). x ∷ []) (sym is)
take_suc (w ∷ visits) (suc i) v within is = ap (λ (vs : List Visit). w ∷ vs) (take_suc visits i v (omega (arith, within)) is)

pub take_more : (visits : List Visit) (i : ℕ) (v : Visit) → i < length visits → v ≡ get_or visits i v → take (i + 1) visits ≡ take i visits ++ v ∷ []
take_more visits i v within is = let e : i + 1 ≡ suc i = omega arith in ap (λ (n : ℕ). take n visits) e ∙ take_suc visits i v within is

-- the loop's step
pub taken_step : (p q r : Pending) (visits : List Visit) (i : ℕ) (v : Visit) (group : List Member) (m : Member) → i < length visits → v ≡ get_or visits i v → AreTaken p q (take i visits) group → IsNodeTaken q r v m → AreTaken p r (take (i + 1) visits) (group ++ m ∷ [])
taken_step p q r visits i v group m within is are one = subst (λ (vs : List Visit). AreTaken p r vs (group ++ m ∷ [])) (sym (take_more visits i v within is)) (taken_more p q r (take i visits) v group m are one)

pub take_whole : (visits : List Visit) (i : ℕ) → length visits ≤ i → take i visits ≡ visits
take_whole [] zero h = refl
take_whole [] (suc i) h = refl
take_whole (v ∷ visits) zero h = absurd (omega (arith, h))
take_whole (v ∷ visits) (suc i) h = ap (λ (vs : List Visit). v ∷ vs) (take_whole visits i (omega (arith, h)))

pub taken_whole : (p q : Pending) (visits : List Visit) (i : ℕ) (group : List Member) → length visits ≤ i → AreTaken p q (take i visits) group → AreTaken p q visits group
taken_whole p q visits i group all are = subst (λ (vs : List Visit). AreTaken p q vs group) (take_whole visits i all) are

comes_at : (visits : List Visit) (i : ℕ) (v : Visit) → i < length visits → v ≡ get_or visits i v → ComesTo visits v.at
comes_at [] i v within is = absurd (omega (arith, within))
comes_at (w ∷ visits) zero v within is = inl (ap (λ (u : Visit). u.at) (sym is))
comes_at (w ∷ visits) (suc i) v within is = inr (comes_at visits i v (omega (arith, within)) is)

-- the node of a visit stands, and no visit before it comes to its place
pub standing_at : (nodes : List Node) (visits : List Visit) (i : ℕ) (v : Visit) → i < length visits → v ≡ get_or visits i v → AreStanding nodes visits → IsStanding nodes (take i visits) v
standing_at nodes [] i v within is all = absurd (omega (arith, within))
standing_at nodes (w ∷ visits) zero v within is all = record { node = all.0.node; there = subst (λ (u : Visit). StandsAt nodes u.at all.0.node) (sym is) all.0.there; once = λ n. n }
standing_at nodes (w ∷ visits) (suc i) v within is all =
    let inside : i < length visits = omega (arith, within) in
    let later = standing_at nodes visits i v inside is all.1 in
    record {
      node = later.node;
      there = later.there;
      once = λ comes. ⊎_elim
          (λ (e : w.at ≡ v.at). all.0.once (subst (ComesTo visits) (sym e) (comes_at visits i v inside is)))
          (λ (before : ComesTo (take i visits) v.at). later.once before)
          comes;
    }

-- the node of a visit stands, and is counted
pub record CanTake (p : Pending) (v : Visit) : Type 0 where
  pub node : Node
  pub there : StandsAt p.nodes.items v.at node
  pub some : 0 < p.rows

-- after those of the visits before it were taken out, it still does
pub can_take : (p q : Pending) (visits : List Visit) (i : ℕ) (v : Visit) (group : List Member) → i < length visits → v ≡ get_or visits i v → AreStanding p.nodes.items visits → length visits ≤ p.rows → AreTaken p q (take i visits) group → CanTake q v
can_take p q visits i v group within is all few taken =
    let s = standing_at p.nodes.items visits i v within is all in
    let now = taken.remain v.at s.node s.there s.once in
    record { node = now.node; there = now.there; some = omega (arith, within, few, taken.rows, length-take-le i visits (omega (arith, within))) }
