-- Whatever was taken, a record names each child of a group.
use Rattle.std.proofs.Common.{◌≡◌, ◌⊎◌, ⊎_elim, inl, inr, ℕ, true, false, not, eqb, Option, Some, None, List, [], ◌∷◌, ◌++◌, map, refl, ap, sym, ◌∙◌, subst, append_assoc, arith}
use Rattle.std.specs.List.{All, Contains}
use Rattle.std.specs.Option.{option_map}
use Rattle.std.proofs.lemmas.Bool.{eqb-true, eq-eqb, and_parts, cond_both}
use Rattle.std.proofs.lemmas.List.{length-map, get_or-map}
use Rattle.std.proofs.lemmas.List.Folds.{list_any-append}
use Rattle.std.proofs.lemmas.List.Elements.{All-nil, All-cons, All-head, All-tail, All-weaker, All-append, All-map, All-contains, All-contains_itself, Contains-append_left, Contains-push}
use Rattle.vsl_tags.specs.Tags.{begin_tag, link_tag}
use Rattle.vsl_record.specs.declared.record_type.Record.{Record}
use Rattle.txn_rows.specs.declared.group.Grouping.{Grouping}
use Rattle.txn_rows.specs.declared.group.ParentLink.{ParentLink}
use Rattle.txn_rows.specs.declared.claim.Claim.{Claim}
use Rattle.txn_rows.specs.Claim.{claim_of}
use Rattle.txn_rows.specs.Transaction.{Transaction, empty_transaction, is_pending, is_open, newest, with_newest, claimed_kind}
use Rattle.txn_rows.specs.Links.{with_parent, can_join, children}
use Rattle.txn_rows.specs.Grouping.{State, with_new, with_transaction, gives_parent, raised, timed, with_all_told}
use Rattle.txn_rows.proofs.LineLemmas.{by_cases, either}
use Rattle.txn_rows.proofs.KeepLemmas.{claimed_same}
use Rattle.txn_rows.proofs.ChangeLemmas.{ChangesOne, newest_in, newest_split, newest_none, newest_one, newest_is_changed}
use Rattle.txn_rows.proofs.OrderLemmas.{all_left, all_right, contains_here}
use Rattle.txn_partition.specs.ChildNames.{ClaimsVxid, NamesParent, NamesChild}
use Rattle.txn_partition.proofs.ClaimKeptLemmas.{KeepsClaim, claim_kept}

-- a transaction has grown: it may have more records, and another parent
pub record Grows (t u : Transaction) : Type 0 where
  pub serial : u.serial ≡ t.serial
  pub vxid : u.vxid ≡ t.vxid
  pub records : (rec : Record) → Contains t.records rec → Contains u.records rec

grows_same : (t : Transaction) → Grows t t
grows_same t = record { serial = refl; vxid = refl; records = λ rec at. at }

-- a transaction among others is the one to which a link leads, and a record of the two names one to the other
pub record NamedBy (grouping : Grouping) (pending : List Transaction) (t : Transaction) (link : ParentLink) : Type 0 where
  pub above : Transaction
  pub here : Contains pending above
  pub serial : above.serial ≡ link.serial
  pub vxid : above.vxid ≡ link.vxid
  pub named : NamesParent grouping above.vxid t.records ⊎ NamesChild grouping t.vxid above.records

abbrev pub IsNamedIn : Grouping → List Transaction → Transaction → Type 0
IsNamedIn grouping pending t = (link : ParentLink) → t.parent ≡ Some link → NamedBy grouping pending t link

-- each that has a parent was named
abbrev pub AllNamed : Grouping → List Transaction → Type 0
AllNamed grouping pending = All (IsNamedIn grouping pending) pending

claims_more : (grouping : Grouping) (tag vxid : ℕ) (records more : List Record) → ((rec : Record) → Contains records rec → Contains more rec) → ClaimsVxid grouping tag vxid records → ClaimsVxid grouping tag vxid more
claims_more grouping tag vxid records more goes c = record { rec = c.rec; among = goes c.rec c.among; tagged = c.tagged; claim = c.claim; read = c.read; gives = c.gives; names = c.names }

-- what stands among others still stands among these, grown
abbrev Stays : List Transaction → Transaction → Type 0
Stays now t = (u : Transaction) × Contains now u × Grows t u

named_still : (grouping : Grouping) (was now : List Transaction) → All (Stays now) was → (t u : Transaction) (link : ParentLink) → Grows t u → NamedBy grouping was t link → NamedBy grouping now u link
named_still grouping was now stays t u link g n =
    let above : Stays now n.above = All-contains (Stays now) was n.above stays n.here in
    let p : Transaction = above.0 in
    let grown : Grows n.above p = above.2 in
    record {
      above = p;
      here = above.1;
      serial = grown.serial ∙ n.serial;
      vxid = grown.vxid ∙ n.vxid;
      named = ⊎_elim
          (λ (c : NamesParent grouping n.above.vxid t.records). inl (subst (λ (v : ℕ). NamesParent grouping v u.records) (sym grown.vxid) (claims_more grouping begin_tag n.above.vxid t.records u.records g.records c)))
          (λ (c : NamesChild grouping t.vxid n.above.records). inr (subst (λ (v : ℕ). NamesChild grouping v p.records) (sym g.vxid) (claims_more grouping link_tag t.vxid n.above.records p.records grown.records c)))
          n.named;
    }

in_still : (grouping : Grouping) (was now : List Transaction) → All (Stays now) was → (ts : List Transaction) → All (IsNamedIn grouping was) ts → All (IsNamedIn grouping now) ts
in_still grouping was now stays ts all = All-weaker (IsNamedIn grouping was) (IsNamedIn grouping now) (λ t n link e. named_still grouping was now stays t t link (grows_same t) (n link e)) ts all

-- one is changed
one_named : (grouping : Grouping) (change : Transaction → Transaction) → ((t : Transaction) → Grows t (change t)) → (o : Option Transaction) (was now : List Transaction) → ChangesOne change o was now →
    ((t : Transaction) → o ≡ Some t → IsNamedIn grouping was t → (link : ParentLink) → (change t).parent ≡ Some link → NamedBy grouping was t link) → AllNamed grouping was → AllNamed grouping now
one_named grouping change grows None was now c still all = subst (AllNamed grouping) (sym c) all
one_named grouping change grows (Some x) was now c still all =
    let to : List Transaction = c.front ++ change x ∷ c.back in
    let itself : All (Contains to) to = All-contains_itself to in
    let there : (t : Transaction) → Contains to t → Stays to t = λ t at. (t, at, grows_same t) in
    let stays : All (Stays to) (c.front ++ x ∷ c.back) = All-append (Stays to) c.front (x ∷ c.back)
    (All-weaker (Contains to) (Stays to) there c.front (all_left (Contains to) c.front (change x ∷ c.back) itself))
    (All-cons (Stays to) x c.back (change x, contains_here c.front (change x) c.back, grows x)
    (All-weaker (Contains to) (Stays to) there c.back (All-tail (Contains to) (change x) c.back (all_right (Contains to) c.front (change x ∷ c.back) itself)))) in
    let from : All (Stays to) was = subst (All (Stays to)) (sym c.was) stays in
    let In : Transaction → Type 0 = IsNamedIn grouping was in
    let split : All In (c.front ++ x ∷ c.back) = subst (All In) c.was all in
    let rest : All In (x ∷ c.back) = all_right In c.front (x ∷ c.back) split in
    subst (AllNamed grouping) (sym c.is) (All-append (IsNamedIn grouping to) c.front (change x ∷ c.back)
    (in_still grouping was to from c.front (all_left In c.front (x ∷ c.back) split))
    (All-cons (IsNamedIn grouping to) (change x) c.back
    (λ link e. named_still grouping was to from x (change x) link (grows x) (still x refl (All-head In x c.back rest) link e))
    (in_still grouping was to from c.back (All-tail In x c.back rest))))

-- a change that gives no parent
pub grown_named : (grouping : Grouping) (change : Transaction → Transaction) → ((t : Transaction) → Grows t (change t)) → ((t : Transaction) → (change t).parent ≡ t.parent) → (o : Option Transaction) (was now : List Transaction) → ChangesOne change o was now → AllNamed grouping was → AllNamed grouping now
grown_named grouping change grows keeps o was now c all = one_named grouping change grows o was now c (λ t is n link e. n link (sym (keeps t) ∙ e)) all

pub contains_mapped : {X Y : Type 0} (f : X → Y) (xs : List X) (x : X) → Contains xs x → Contains (map f xs) (f x)
contains_mapped f xs x at = (at.0, omega (arith, at.1, length-map xs f), get_or-map f xs at.0 x (f x) at.1 ∙ ap f at.2)

new_named : (grouping : Grouping) (vxid : ℕ) (state : State) → AllNamed grouping state.pending → AllNamed grouping (with_new vxid state).pending
new_named grouping vxid state all =
    let new : Transaction = empty_transaction state.begun vxid state.time in
    let now : List Transaction = state.pending ++ new ∷ [] in
    let In : Transaction → Type 0 = IsNamedIn grouping now in
    let stays : All (Stays now) state.pending = All-weaker (Contains state.pending) (Stays now) (λ t at. (t, Contains-append_left state.pending (new ∷ []) t at, grows_same t)) state.pending (All-contains_itself state.pending) in
    All-append In state.pending (new ∷ []) (in_still grouping state.pending now stays state.pending all) (All-cons In new [] (λ link e. absurd (cc)) (All-nil In))

timed_named : (grouping : Grouping) (now : Option ℕ) (pending : List Transaction) → AllNamed grouping pending → AllNamed grouping (map (timed now) pending)
timed_named grouping now pending all =
    let to : List Transaction = map (timed now) pending in
    let grows : (t : Transaction) → Grows t (timed now t) = λ t. record { serial = refl; vxid = refl; records = λ rec at. at } in
    let stays : All (Stays to) pending = All-weaker (Contains pending) (Stays to) (λ t at. (timed now t, contains_mapped (timed now) pending t at, grows t)) pending (All-contains_itself pending) in
    All-map (IsNamedIn grouping to) (timed now) pending
    (All-weaker (IsNamedIn grouping pending) (λ t. IsNamedIn grouping to (timed now t)) (λ t n link e. named_still grouping pending to stays t (timed now t) link (grows t) (n link e)) pending all)

-- a link that a record names
parent_named : (grouping : Grouping) (cv pv : ℕ) (pending : List Transaction) → ((t u : Transaction) → newest cv pending ≡ Some t → newest pv pending ≡ Some u → NamesParent grouping u.vxid t.records ⊎ NamesChild grouping t.vxid u.records) →
    (c p : Option Transaction) → newest cv pending ≡ c → newest pv pending ≡ p → AllNamed grouping pending → AllNamed grouping (with_parent c p pending)
parent_named grouping cv pv pending names None p e f all = all
parent_named grouping cv pv pending names (Some t) None e f all = all
parent_named grouping cv pv pending names (Some t) (Some u) e f all =
    let link : ParentLink = record { serial = u.serial; vxid = u.vxid; number = children pending u } in
    let change : Transaction → Transaction = λ x. record x { parent = Some link } in
    let now : List Transaction = with_newest t.vxid change pending in
    let below = newest_split cv pending t e in
    let above = newest_split pv pending u f in
    let there : Contains pending u = subst (λ (ts : List Transaction). Contains ts u) (sym above.whole) (contains_here above.front u above.back) in
    either (AllNamed grouping) (can_join pending t u) now pending
    (one_named grouping change (λ x. record { serial = refl; vxid = refl; records = λ rec at. at }) (newest t.vxid pending) pending now (newest_one t.vxid change pending)
    (λ x is n k to.
    let at : Some x ≡ Some t = sym is ∙ ap (λ (v : ℕ). newest v pending) (eqb-true t.vxid cv below.same) ∙ e in
    let same : t ≡ x = (cc) in
    let link_is : link ≡ k = (cc) in
    subst (λ (y : Transaction). NamedBy grouping pending y k) same (record {
      above = u;
      here = there;
      serial = ap (λ (l : ParentLink). l.serial) link_is;
      vxid = ap (λ (l : ParentLink). l.vxid) link_is;
      named = names t u e f;
    })) all)
    all

-- the newest transaction of a VXID has a record
record Has (vxid : ℕ) (rec : Record) (pending : List Transaction) : Type 0 where
  t : Transaction
  is : newest vxid pending ≡ Some t
  among : Contains t.records rec

-- and each that has a parent was named
record IsGoing (grouping : Grouping) (vxid : ℕ) (rec : Record) (state : State) : Type 0 where
  all : AllNamed grouping state.pending
  has : Has vxid rec state.pending

changed_has : (vxid : ℕ) (rec : Record) (change : Transaction → Transaction) → ((t : Transaction) → Grows t (change t)) → (pending : List Transaction) → Has vxid rec pending → Has vxid rec (with_newest vxid change pending)
changed_has vxid rec change grows pending h = record {
  t = change h.t;
  is = newest_is_changed vxid change pending (λ t. (grows t).vxid) ∙ ap (option_map change) h.is;
  among = (grows h.t).records rec h.among;
}

new_has : (vxid : ℕ) (rec : Record) (other : ℕ) (state : State) → is_pending other state.pending ≡ false → Has vxid rec state.pending → Has vxid rec (with_new other state).pending
new_has vxid rec other state none h =
    let new : Transaction = empty_transaction state.begun other state.time in
    let s = newest_split vxid state.pending h.t h.is in
    by_cases (Has vxid rec (with_new other state).pending) (eqb other vxid)
    (λ e. let gone : newest vxid state.pending ≡ None = newest_none vxid state.pending (ap (λ (v : ℕ). is_pending v state.pending) (sym (eqb-true other vxid e)) ∙ none) in
    absurd (let both : None ≡ Some h.t = sym gone ∙ h.is in cc))
    (λ e. let last : is_pending vxid (s.back ++ new ∷ []) ≡ false = list_any-append (λ (t : Transaction). eqb t.vxid vxid) s.back (new ∷ []) ∙ rw (s.none, e) refl in
    record {
      t = h.t;
      is = ap (λ (ts : List Transaction). newest vxid (ts ++ new ∷ [])) s.whole
          ∙ ap (newest vxid) (append_assoc s.front (h.t ∷ s.back) (new ∷ []))
          ∙ newest_in vxid s.front h.t (s.back ++ new ∷ []) s.same last;
      among = h.among;
    })

claimed_grows : (claim : Option Claim) (t : Transaction) → Grows t (claimed_kind claim t)
claimed_grows claim t = record {
  serial = claimed_same (λ x. x.serial) (λ x c. refl) claim t;
  vxid = claimed_same (λ x. x.vxid) (λ x c. refl) claim t;
  records = λ rec at. subst (λ (rs : List Record). Contains rs rec) (sym (claimed_same (λ x. x.records) (λ x c. refl) claim t)) at;
}

-- what a claim names
claim_names : (grouping : Grouping) (tag vxid : ℕ) (rec : Record) (claim : Claim) (pending : List Transaction) → rec.tag ≡ tag → claim_of rec.payload ≡ Some claim → gives_parent grouping claim ≡ true → Has vxid rec pending →
    (t u : Transaction) → newest vxid pending ≡ Some t → newest claim.vxid pending ≡ Some u → ClaimsVxid grouping tag u.vxid t.records
claim_names grouping tag vxid rec claim pending tagged read gives h t u e f =
    let at : Some h.t ≡ Some t = sym h.is ∙ e in
    let same : h.t ≡ t = (cc) in
    record {
      rec = rec;
      among = subst (λ (x : Transaction). Contains x.records rec) same h.among;
      tagged = tagged;
      claim = claim;
      read = read;
      gives = gives;
      names = sym (eqb-true u.vxid claim.vxid (newest_split claim.vxid pending u f).same);
    }

names_keep : (grouping : Grouping) (vxid : ℕ) (rec : Record) → KeepsClaim grouping vxid rec (IsGoing grouping vxid rec) (λ state. AllNamed grouping state.pending)
names_keep grouping vxid rec = record {
  kind = λ claim state p. record {
    all = grown_named grouping (claimed_kind claim) (claimed_grows claim) (claimed_same (λ x. x.parent) (λ x c. refl) claim) (newest vxid state.pending) state.pending (with_newest vxid (claimed_kind claim) state.pending) (newest_one vxid (claimed_kind claim) state.pending) p.all;
    has = changed_has vxid rec (claimed_kind claim) (claimed_grows claim) state.pending p.has;
  };
  other = λ claim read state none p. record { all = new_named grouping claim.vxid state p.all; has = new_has vxid rec claim.vxid state none p.has };
  parent = λ claim tagged read gives state p.
      parent_named grouping vxid claim.vxid state.pending (λ t u e f. inl (claim_names grouping begin_tag vxid rec claim state.pending tagged read gives p.has t u e f)) (newest vxid state.pending) (newest claim.vxid state.pending) refl refl p.all;
  child = λ claim tagged read gives state p.
      parent_named grouping claim.vxid vxid state.pending (λ t u e f. inr (claim_names grouping link_tag vxid rec claim state.pending tagged read gives p.has u t f e)) (newest claim.vxid state.pending) (newest vxid state.pending) refl refl p.all;
  none = λ state p. p.all;
  time = λ told state all. timed_named grouping (raised told state.time) state.pending all;
}

open_some : (vxid : ℕ) (pending : List Transaction) → is_open vxid pending ≡ true → (t : Transaction) × (newest vxid pending ≡ Some t)
open_some vxid [] e = absurd (cc)
open_some vxid (t ∷ pending) e =
    by_cases ((u : Transaction) × (newest vxid (t ∷ pending) ≡ Some u)) (is_pending vxid pending)
    (λ p. let later = open_some vxid pending (rw p at e) in (later.0, rw p later.1))
    (λ p. let parts = and_parts (eqb t.vxid vxid) (not t.ended) (rw p at e) in (t, rw (p, parts.0) refl))

begun_some : (vxid : ℕ) (state : State) → (t : Transaction) × (newest vxid (with_transaction vxid state).pending ≡ Some t)
begun_some vxid state =
    let new : Transaction = empty_transaction state.begun vxid state.time in
    cond_both (is_open vxid state.pending) state (with_new vxid state) (λ (s : State). (t : Transaction) × (newest vxid s.pending ≡ Some t))
    (open_some vxid state.pending)
    (λ e. (new, newest_in vxid state.pending new [] (eq-eqb vxid vxid refl) refl))

longer_grows : (rec : Record) (t : Transaction) → Grows t (record t { records = t.records ++ rec ∷ [] })
longer_grows rec t = record { serial = refl; vxid = refl; records = λ r at. Contains-append_left t.records (rec ∷ []) r at }

-- the rules of a record
pub told_named : (grouping : Grouping) (vxid : ℕ) (rec : Record) (state : State) → AllNamed grouping state.pending → AllNamed grouping (with_all_told grouping vxid rec state).pending
told_named grouping vxid rec state all =
    let longer : Transaction → Transaction = λ t. record t { records = t.records ++ rec ∷ [] } in
    let begun : State = with_transaction vxid state in
    let some = begun_some vxid state in
    claim_kept (IsGoing grouping vxid rec) (λ s. AllNamed grouping s.pending) grouping vxid rec (names_keep grouping vxid rec) state (record {
      all = grown_named grouping longer (longer_grows rec) (λ t. refl) (newest vxid begun.pending) begun.pending (with_newest vxid longer begun.pending) (newest_one vxid longer begun.pending)
          (either (λ (s : State). AllNamed grouping s.pending) (is_open vxid state.pending) state (with_new vxid state) all (new_named grouping vxid state all));
      has = record {
        t = longer some.0;
        is = newest_is_changed vxid longer begun.pending (λ t. refl) ∙ ap (option_map longer) some.1;
        among = Contains-push some.0.records rec;
      };
    })
