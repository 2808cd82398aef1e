-- One transaction among others is changed: the newest of a VXID, or the oldest that passes a test.
use Rattle.std.proofs.Common.{◌≡◌, ℕ, Bool, true, false, not, eqb, Option, Some, None, List, [], ◌∷◌, ◌++◌, map, refl, ap, sym, ◌∙◌}
use Rattle.std.specs.List.{list_any}
use Rattle.std.specs.Option.{option_map}
use Rattle.std.proofs.Math.Bool.{or-true}
use Rattle.std.proofs.lemmas.Bool.{or_parts}
use Rattle.std.proofs.lemmas.List.{map-append}
use Rattle.txn_rows.specs.Transaction.{Transaction, is_pending, is_open, newest, with_newest, oldest, with_oldest}
use Rattle.txn_rows.proofs.LineLemmas.{by_cases}

-- a change that keeps serial numbers and links
pub record KeepsLinks (change : Transaction → Transaction) : Type 0 where
  pub serial : (t : Transaction) → (change t).serial ≡ t.serial
  pub parent : (t : Transaction) → (change t).parent ≡ t.parent

-- a change that ends no transaction
abbrev pub EndsNone : (Transaction → Transaction) → Type 0
EndsNone change = (t : Transaction) → (change t).ended ≡ t.ended

-- a transaction of the number is pending
pub pending_in : (vxid : ℕ) (front : List Transaction) (t : Transaction) (back : List Transaction) → eqb t.vxid vxid ≡ true → is_pending vxid (front ++ t ∷ back) ≡ true
pending_in vxid [] t back same = rw same refl
pending_in vxid (f ∷ front) t back same = rw (pending_in vxid front t back same) (or-true (eqb f.vxid vxid))

-- one behind which none of its VXID stands is the newest, may be open, and is changed where it stands
pub newest_in : (vxid : ℕ) (front : List Transaction) (t : Transaction) (back : List Transaction) → eqb t.vxid vxid ≡ true → is_pending vxid back ≡ false → newest vxid (front ++ t ∷ back) ≡ Some t
newest_in vxid [] t back same none = rw (none, same) refl
newest_in vxid (f ∷ front) t back same none = rw (pending_in vxid front t back same) (newest_in vxid front t back same none)

pub open_in : (vxid : ℕ) (front : List Transaction) (t : Transaction) (back : List Transaction) → eqb t.vxid vxid ≡ true → is_pending vxid back ≡ false → is_open vxid (front ++ t ∷ back) ≡ not t.ended
open_in vxid [] t back same none = rw (none, same) refl
open_in vxid (f ∷ front) t back same none = rw (pending_in vxid front t back same) (open_in vxid front t back same none)

pub changed_in : (vxid : ℕ) (change : Transaction → Transaction) (front : List Transaction) (t : Transaction) (back : List Transaction) → eqb t.vxid vxid ≡ true → is_pending vxid back ≡ false → with_newest vxid change (front ++ t ∷ back) ≡ front ++ change t ∷ back
changed_in vxid change [] t back same none = rw (none, same) refl
changed_in vxid change (f ∷ front) t back same none = rw (pending_in vxid front t back same) (ap (λ (ts : List Transaction). f ∷ ts) (changed_in vxid change front t back same none))

-- the newest transaction of a VXID, between those before and behind it
pub record NewestIn (vxid : ℕ) (pending : List Transaction) (t : Transaction) : Type 0 where
  pub front : List Transaction
  pub back : List Transaction
  pub whole : pending ≡ front ++ t ∷ back
  pub same : eqb t.vxid vxid ≡ true
  pub none : is_pending vxid back ≡ false

pub newest_split : (vxid : ℕ) (pending : List Transaction) (t : Transaction) → newest vxid pending ≡ Some t → NewestIn vxid pending t
newest_split vxid [] t e = absurd (cc)
newest_split vxid (first ∷ pending) t e =
    by_cases (NewestIn vxid (first ∷ pending) t) (is_pending vxid pending)
    (λ p. let later = newest_split vxid pending t (rw p at e) in
    record { front = first ∷ later.front; back = later.back; whole = ap (λ (ts : List Transaction). first ∷ ts) later.whole; same = later.same; none = later.none })
    (λ p. by_cases (NewestIn vxid (first ∷ pending) t) (eqb first.vxid vxid)
    (λ q. let here : Some first ≡ Some t = rw (p, q) at e in
    let is : first ≡ t = (cc) in
    record { front = []; back = pending; whole = ap (λ (x : Transaction). x ∷ pending) is; same = ap (λ (x : Transaction). eqb x.vxid vxid) (sym is) ∙ q; none = p })
    (λ q. let none : None ≡ Some t = rw (p, q) at e in absurd (cc)))

-- where none of the VXID is pending, none is the newest
pub newest_none : (vxid : ℕ) (pending : List Transaction) → is_pending vxid pending ≡ false → newest vxid pending ≡ None
newest_none vxid [] none = refl
newest_none vxid (t ∷ pending) none =
    let parts = or_parts (eqb t.vxid vxid) (is_pending vxid pending) none in
    rw (parts.1, parts.0) refl

-- one of the transactions was changed, and the others stayed
pub record OneChanged (change : Transaction → Transaction) (t : Transaction) (pending now : List Transaction) : Type 0 where
  pub front : List Transaction
  pub back : List Transaction
  pub was : pending ≡ front ++ t ∷ back
  pub is : now ≡ front ++ change t ∷ back

-- this one was, or where there is none, none
abbrev pub ChangesOne : (Transaction → Transaction) → Option Transaction → List Transaction → List Transaction → Type 0
ChangesOne change None pending now = now ≡ pending
ChangesOne change (Some t) pending now = OneChanged change t pending now

changes_later : (change : Transaction → Transaction) (first : Transaction) (o : Option Transaction) (pending now : List Transaction) → ChangesOne change o pending now → ChangesOne change o (first ∷ pending) (first ∷ now)
changes_later change first None pending now c = ap (λ (ts : List Transaction). first ∷ ts) c
changes_later change first (Some t) pending now c = record {
  front = first ∷ c.front;
  back = c.back;
  was = ap (λ (ts : List Transaction). first ∷ ts) c.was;
  is = ap (λ (ts : List Transaction). first ∷ ts) c.is;
}

pub newest_one : (vxid : ℕ) (change : Transaction → Transaction) (pending : List Transaction) → ChangesOne change (newest vxid pending) pending (with_newest vxid change pending)
newest_one vxid change [] = refl
newest_one vxid change (t ∷ pending) =
    let Goal : Type 0 = ChangesOne change (newest vxid (t ∷ pending)) (t ∷ pending) (with_newest vxid change (t ∷ pending)) in
    by_cases Goal (is_pending vxid pending)
    (λ p. rw p (changes_later change t (newest vxid pending) pending (with_newest vxid change pending) (newest_one vxid change pending)))
    (λ p. by_cases Goal (eqb t.vxid vxid)
    (λ q. rw (p, q) (record { front = []; back = pending; was = refl; is = refl }))
    (λ q. rw (p, q) refl))

pub oldest_one : (test : Transaction → Bool) (change : Transaction → Transaction) (pending : List Transaction) → ChangesOne change (oldest test pending) pending (with_oldest test change pending)
oldest_one test change [] = refl
oldest_one test change (t ∷ pending) =
    by_cases (ChangesOne change (oldest test (t ∷ pending)) (t ∷ pending) (with_oldest test change (t ∷ pending))) (test t)
    (λ q. rw q (record { front = []; back = pending; was = refl; is = refl }))
    (λ q. rw q (changes_later change t (oldest test pending) pending (with_oldest test change pending) (oldest_one test change pending)))

-- what a change keeps of one, it keeps of all
pub one_same : {A : Type 0} (f : Transaction → A) (change : Transaction → Transaction) → ((t : Transaction) → f (change t) ≡ f t) → (o : Option Transaction) (pending now : List Transaction) → ChangesOne change o pending now → map f now ≡ map f pending
one_same f change keeps None pending now c = ap (map f) c
one_same {A} f change keeps (Some t) pending now c =
    ap (map f) c.is ∙ map-append f c.front (change t ∷ c.back)
    ∙ ap (λ (x : A). map f c.front ++ x ∷ map f c.back) (keeps t)
    ∙ sym (ap (map f) c.was ∙ map-append f c.front (t ∷ c.back))

pub newest_same : {A : Type 0} (f : Transaction → A) (vxid : ℕ) (change : Transaction → Transaction) → ((t : Transaction) → f (change t) ≡ f t) → (pending : List Transaction) → map f (with_newest vxid change pending) ≡ map f pending
newest_same f vxid change keeps pending = one_same f change keeps (newest vxid pending) pending (with_newest vxid change pending) (newest_one vxid change pending)

pub oldest_same : {A : Type 0} (f : Transaction → A) (test : Transaction → Bool) (change : Transaction → Transaction) → ((t : Transaction) → f (change t) ≡ f t) → (pending : List Transaction) → map f (with_oldest test change pending) ≡ map f pending
oldest_same f test change keeps pending = one_same f change keeps (oldest test pending) pending (with_oldest test change pending) (oldest_one test change pending)

-- where there is none, all stay
one_none : (change : Transaction → Transaction) (o : Option Transaction) (pending now : List Transaction) → ChangesOne change o pending now → o ≡ None → now ≡ pending
one_none change None pending now c e = c
one_none change (Some t) pending now c e = absurd (cc)

pub newest_none_stays : (vxid : ℕ) (change : Transaction → Transaction) (pending : List Transaction) → newest vxid pending ≡ None → with_newest vxid change pending ≡ pending
newest_none_stays vxid change pending e = one_none change (newest vxid pending) pending (with_newest vxid change pending) (newest_one vxid change pending) e

pub oldest_none_stays : (test : Transaction → Bool) (change : Transaction → Transaction) (pending : List Transaction) → oldest test pending ≡ None → with_oldest test change pending ≡ pending
oldest_none_stays test change pending e = one_none change (oldest test pending) pending (with_oldest test change pending) (oldest_one test change pending) e

-- the newest, changed, is the newest still
newest_changed_as : (vxid : ℕ) (change : Transaction → Transaction) (pending : List Transaction) → ((x : Transaction) → (change x).vxid ≡ x.vxid) → (o : Option Transaction) → newest vxid pending ≡ o → newest vxid (with_newest vxid change pending) ≡ option_map change o
newest_changed_as vxid change pending keeps None e = ap (newest vxid) (newest_none_stays vxid change pending e) ∙ e
newest_changed_as vxid change pending keeps (Some t) e =
    let s = newest_split vxid pending t e in
    ap (λ (ts : List Transaction). newest vxid (with_newest vxid change ts)) s.whole
    ∙ ap (newest vxid) (changed_in vxid change s.front t s.back s.same s.none)
    ∙ newest_in vxid s.front (change t) s.back (ap (λ (n : ℕ). eqb n vxid) (keeps t) ∙ s.same) s.none

pub newest_is_changed : (vxid : ℕ) (change : Transaction → Transaction) (pending : List Transaction) → ((x : Transaction) → (change x).vxid ≡ x.vxid) → newest vxid (with_newest vxid change pending) ≡ option_map change (newest vxid pending)
newest_is_changed vxid change pending keeps = newest_changed_as vxid change pending keeps (newest vxid pending) refl

-- two changes of the newest are one
newest_twice_as : (vxid : ℕ) (f g : Transaction → Transaction) (pending : List Transaction) → ((t : Transaction) → (f t).vxid ≡ t.vxid) → (o : Option Transaction) → newest vxid pending ≡ o → with_newest vxid g (with_newest vxid f pending) ≡ with_newest vxid (λ t. g (f t)) pending
newest_twice_as vxid f g pending keeps None e =
    ap (with_newest vxid g) (newest_none_stays vxid f pending e) ∙ newest_none_stays vxid g pending e ∙ sym (newest_none_stays vxid (λ t. g (f t)) pending e)
newest_twice_as vxid f g pending keeps (Some t) e =
    let s = newest_split vxid pending t e in
    ap (λ (ts : List Transaction). with_newest vxid g (with_newest vxid f ts)) s.whole
    ∙ ap (with_newest vxid g) (changed_in vxid f s.front t s.back s.same s.none)
    ∙ changed_in vxid g s.front (f t) s.back (ap (λ (n : ℕ). eqb n vxid) (keeps t) ∙ s.same) s.none
    ∙ sym (ap (with_newest vxid (λ t. g (f t))) s.whole ∙ changed_in vxid (λ t. g (f t)) s.front t s.back s.same s.none)

pub newest_twice : (vxid : ℕ) (f g : Transaction → Transaction) (pending : List Transaction) → ((t : Transaction) → (f t).vxid ≡ t.vxid) → with_newest vxid g (with_newest vxid f pending) ≡ with_newest vxid (λ t. g (f t)) pending
newest_twice vxid f g pending keeps = newest_twice_as vxid f g pending keeps (newest vxid pending) refl

-- the first that passes is the oldest, and is changed where it stands
pub oldest_in : (test : Transaction → Bool) (front : List Transaction) (t : Transaction) (back : List Transaction) → list_any test front ≡ false → test t ≡ true → oldest test (front ++ t ∷ back) ≡ Some t
oldest_in test [] t back none passes = rw passes refl
oldest_in test (f ∷ front) t back none passes =
    let parts = or_parts (test f) (list_any test front) none in
    rw (parts.0) (oldest_in test front t back parts.1 passes)

pub oldest_changed_in : (test : Transaction → Bool) (change : Transaction → Transaction) (front : List Transaction) (t : Transaction) (back : List Transaction) → list_any test front ≡ false → test t ≡ true → with_oldest test change (front ++ t ∷ back) ≡ front ++ change t ∷ back
oldest_changed_in test change [] t back none passes = rw passes refl
oldest_changed_in test change (f ∷ front) t back none passes =
    let parts = or_parts (test f) (list_any test front) none in
    rw (parts.0) (ap (λ (ts : List Transaction). f ∷ ts) (oldest_changed_in test change front t back parts.1 passes))
