-- The children of one parent have different numbers, whatever was taken, and a link tells its parent's VXID.
use Rattle.std.proofs.Common.{◌≡◌, ◌+◌, ◌<◌, ◌≤◌, ⊎_elim, ℕ, Bool, true, false, not, eqb, cond, ◌&&◌, Option, Some, None, List, [], ◌∷◌, ◌++◌, map, refl, ap, sym, ◌∙◌, subst, arith}
use Rattle.std.specs.Prelude.{count_by, is_none}
use Rattle.std.specs.List.{All, Contains}
use Rattle.std.proofs.lemmas.Bool.{eqb-true, eq-eqb, ne_eqb, and_parts, cond_both}
use Rattle.std.proofs.lemmas.List.{map-append}
use Rattle.std.proofs.lemmas.List.Sums.{sum_by-cons, sum_by-append, sum_by_push}
use Rattle.std.proofs.lemmas.List.Elements.{All-nil, All-cons, All-head, All-tail, All-weaker, All-append, All-push, All-map, All-filter, All-contains}
use Rattle.vsl_record.specs.declared.record_type.Record.{Record}
use Rattle.txn_rows.specs.declared.rows.Row.{Row}
use Rattle.txn_rows.specs.declared.group.ParentLink.{ParentLink}
use Rattle.txn_rows.specs.declared.group.Grouping.{Grouping}
use Rattle.txn_rows.specs.Transaction.{Transaction, empty_transaction, newest, with_newest, with_oldest, claimed_kind}
use Rattle.txn_rows.specs.Links.{with_parent, can_join, is_in_line, children, leads_to}
use Rattle.txn_rows.specs.Grouping.{State, with_new, with_transaction, raised, timed, with_all_told}
use Rattle.txn_rows.specs.Trees.{transaction_of, row_of, IsTop, IsBelow, AreTrees}
use Rattle.txn_rows.specs.inside.Rows.{Each, rows_beside}
use Rattle.txn_rows.proofs.LineLemmas.{by_cases}
use Rattle.txn_rows.proofs.KeepLemmas.{claimed_same, Keeps, begun_kept, told_kept}
use Rattle.txn_rows.proofs.ChangeLemmas.{newest_split, changed_in, newest_same, oldest_same}
use Rattle.txn_rows.proofs.TreeLemmas.{each_weaker, each_found}
use Rattle.txn_rows.proofs.JoinLemmas.{count_map, none_from}
use Rattle.txn_rows.proofs.StandLemmas.{filter_count}
use Rattle.txn_rows.proofs.OrderLemmas.{contains_here, all_left, all_right}

-- a transaction among others, and where its link leads
pub record Place : Type 0 where
  pub serial : ℕ
  pub vxid : ℕ
  pub parent : Option ParentLink

abbrev pub place_of : Transaction → Place
place_of t = record { serial = t.serial; vxid = t.vxid; parent = t.parent }

-- whether a link leads to a serial number and has this number there
abbrev pub has_number : ℕ → ℕ → Option ParentLink → Bool
has_number s n None = false
has_number s n (Some link) = eqb link.serial s && eqb link.number n

-- how many links pass
abbrev pub count_links : (Option ParentLink → Bool) → List Place → ℕ
count_links q places = count_by (λ p. q p.parent) places

-- serial numbers are below the next one, and tell VXIDs
pub record IsNamed (begun : ℕ) (vxids : ℕ → ℕ) (p : Place) : Type 0 where
  pub old : p.serial < begun
  pub vxid : p.vxid ≡ vxids p.serial
  pub link : (l : ParentLink) → p.parent ≡ Some l → (l.serial < begun) × (l.vxid ≡ vxids l.serial)

-- no two links that lead to one serial number have one number, and none has one that the next child would get
pub record Numbered (begun : ℕ) (places : List Place) : Type 0 where
  pub vxids : ℕ → ℕ
  pub named : All (IsNamed begun vxids) places
  pub few : (s n : ℕ) → count_links (has_number s n) places ≤ 1
  pub below : (s n : ℕ) → count_links (leads_to s) places ≤ n → count_links (has_number s n) places ≡ 0

abbrev pub IsNumbered : State → Type 0
IsNumbered state = Numbered state.begun (map place_of state.pending)

-- changes that keep places
timed_places : (now : Option ℕ) (pending : List Transaction) → map place_of (map (timed now) pending) ≡ map place_of pending
timed_places now [] = refl
timed_places now (t ∷ pending) = ap (λ (ps : List Place). place_of t ∷ ps) (timed_places now pending)

pub newest_kept : (vxid : ℕ) (change : Transaction → Transaction) → ((t : Transaction) → place_of (change t) ≡ place_of t) → (state : State) → IsNumbered state → IsNumbered (record state { pending = with_newest vxid change state.pending })
newest_kept vxid change keeps state n = subst (Numbered state.begun) (sym (newest_same place_of vxid change keeps state.pending)) n

pub oldest_kept : (test : Transaction → Bool) (change : Transaction → Transaction) → ((t : Transaction) → place_of (change t) ≡ place_of t) → (state : State) → IsNumbered state → IsNumbered (record state { pending = with_oldest test change state.pending })
oldest_kept test change keeps state n = subst (Numbered state.begun) (sym (oldest_same place_of test change keeps state.pending)) n

-- a transaction begins
numbered_push : (begun vxid : ℕ) (places : List Place) → Numbered begun places → Numbered (begun + 1) (places ++ record { serial = begun; vxid = vxid; parent = None } ∷ [])
numbered_push begun vxid places n =
    let new : Place = record { serial = begun; vxid = vxid; parent = None } in
    let vxids : ℕ → ℕ = λ s. cond (eqb s begun) vxid (n.vxids s) in
    let still : (s : ℕ) → s < begun → n.vxids s ≡ vxids s = λ s less. rw (ne_eqb s begun (λ e. omega (arith, e, less))) refl in
    let more : (q : Option ParentLink → Bool) → q None ≡ false → count_links q (places ++ new ∷ []) ≡ count_links q places =
    λ q none. omega (arith, sum_by_push (λ (p : Place). cond (q p.parent) 1 0) places new, ap {B = ℕ} (λ (b : Bool). cond b 1 0) none) in
    record {
      vxids = vxids;
      named = All-push (IsNamed (begun + 1) vxids) places new
          (All-weaker (IsNamed begun n.vxids) (IsNamed (begun + 1) vxids)
          (λ p is. record { old = omega (arith, is.old); vxid = is.vxid ∙ still p.serial is.old; link = λ l e. let was = is.link l e in (omega (arith, was.0), was.1 ∙ still l.serial was.0) }) places n.named)
          (record { old = omega arith; vxid = rw (eq-eqb begun begun refl) refl; link = λ l e. absurd (cc) });
      few = λ s m. omega (arith, n.few s m, more (has_number s m) refl);
      below = λ s m le. more (has_number s m) refl ∙ n.below s m (omega (arith, le, more (leads_to s) refl));
    }

-- a link is given where none was
links_put : (q : Option ParentLink → Bool) → q None ≡ false → (front : List Place) (p : Place) (back : List Place) (link : ParentLink) → p.parent ≡ None → count_links q (front ++ record p { parent = Some link } ∷ back) ≡ count_links q (front ++ p ∷ back) + cond (q (Some link)) 1 0
links_put q fails front p back link none =
    let c : Place → ℕ = λ x. cond (q x.parent) 1 0 in
    let now : Place = record p { parent = Some link } in
    let head : c p ≡ 0 = ap {B = ℕ} (λ (b : Bool). cond b 1 0) (ap q none ∙ fails) in
    omega (arith, sum_by-append c front (p ∷ back), sum_by-cons c p back, sum_by-append c front (now ∷ back), sum_by-cons c now back, head)

numbered_put : (begun : ℕ) (front : List Place) (p : Place) (back : List Place) (link : ParentLink) (parent : Place) → p.parent ≡ None → Numbered begun (front ++ p ∷ back) → Contains (front ++ p ∷ back) parent → link.serial ≡ parent.serial → link.vxid ≡ parent.vxid → link.number ≡ count_links (leads_to link.serial) (front ++ p ∷ back) → Numbered begun (front ++ record p { parent = Some link } ∷ back)
numbered_put begun front p back link parent none n there serial vxid number =
    let places : List Place = front ++ p ∷ back in
    let now : Place = record p { parent = Some link } in
    let Is : Place → Type 0 = IsNamed begun n.vxids in
    let above : Is parent = All-contains Is places parent n.named there in
    let was : Is p = All-contains Is places p n.named (contains_here front p back) in
    let more : (q : Option ParentLink → Bool) → q None ≡ false → count_links q (front ++ now ∷ back) ≡ count_links q places + cond (q (Some link)) 1 0 = λ q fails. links_put q fails front p back link none in
    record {
      vxids = n.vxids;
      named = All-append Is front (now ∷ back) (all_left Is front (p ∷ back) n.named) (All-cons Is now back
          (record { old = was.old; vxid = was.vxid; link = λ l e. let same : link ≡ l = (cc) in subst (λ (k : ParentLink). (k.serial < begun) × (k.vxid ≡ n.vxids k.serial)) same (omega (arith, above.old, serial), vxid ∙ above.vxid ∙ ap n.vxids (sym serial)) })
          (All-tail Is p back (all_right Is front (p ∷ back) n.named)));
      few = λ s m. by_cases (count_links (has_number s m) (front ++ now ∷ back) ≤ 1) (has_number s m (Some link))
          (λ t. let parts = and_parts (eqb link.serial s) (eqb link.number m) t in
          let old = n.below s m (omega (arith, number, eqb-true link.number m parts.1, ap (λ (x : ℕ). count_links (leads_to x) places) (eqb-true link.serial s parts.0))) in
          omega (arith, more (has_number s m) refl, old, ap {B = ℕ} (λ (b : Bool). cond b 1 0) t))
          (λ t. omega (arith, more (has_number s m) refl, n.few s m, ap {B = ℕ} (λ (b : Bool). cond b 1 0) t));
      below = λ s m le. by_cases (count_links (has_number s m) (front ++ now ∷ back) ≡ 0) (has_number s m (Some link))
          (λ t. let parts = and_parts (eqb link.serial s) (eqb link.number m) t in
          absurd (omega (arith, le, more (leads_to s) refl, ap {B = ℕ} (λ (b : Bool). cond b 1 0) parts.0, number, eqb-true link.number m parts.1, ap (λ (x : ℕ). count_links (leads_to x) places) (eqb-true link.serial s parts.0))))
          (λ t. omega (arith, more (has_number s m) refl, n.below s m (omega (arith, le, more (leads_to s) refl)), ap {B = ℕ} (λ (b : Bool). cond b 1 0) t));
    }

-- a transaction gets a parent
parent_numbered : (cv pv : ℕ) (state : State) → IsNumbered state → (c p : Option Transaction) → newest cv state.pending ≡ c → newest pv state.pending ≡ p → IsNumbered (record state { pending = with_parent c p state.pending })
parent_numbered cv pv state n None p e f = n
parent_numbered cv pv state n (Some child) None e f = n
parent_numbered cv pv state n (Some child) (Some parent) e f =
    let pending : List Transaction = state.pending in
    let link : ParentLink = record { serial = parent.serial; vxid = parent.vxid; number = children pending parent } in
    let now : List Transaction = with_newest child.vxid (λ t. record t { parent = Some link }) pending in
    cond_both (can_join pending child parent) now pending (λ ts. Numbered state.begun (map place_of ts))
    (λ can.
    let none : child.parent ≡ None = none_from child.parent (and_parts (is_none child.parent) (not child.ended) (and_parts (is_none child.parent && not child.ended) (not (is_in_line pending child parent)) can).0).0 in
    let at = newest_split cv pending child e in
    let changed = ap (λ (v : ℕ). with_newest v (λ t. record t { parent = Some link }) pending) (eqb-true child.vxid cv at.same) ∙ ap (with_newest cv (λ t. record t { parent = Some link })) at.whole ∙ changed_in cv (λ t. record t { parent = Some link }) at.front child at.back at.same at.none in
    let above = newest_split pv pending parent f in
    let front : List Place = map place_of at.front in
    let back : List Place = map place_of at.back in
    let was : map place_of pending ≡ front ++ place_of child ∷ back = ap (map place_of) at.whole ∙ map-append place_of at.front (child ∷ at.back) in
    subst (Numbered state.begun) (sym (ap (map place_of) changed ∙ map-append place_of at.front (record child { parent = Some link } ∷ at.back)))
    (numbered_put state.begun front (place_of child) back link (place_of parent) none (subst (Numbered state.begun) was n)
    (subst (λ (ps : List Place). Contains ps (place_of parent)) (sym (ap (map place_of) above.whole ∙ map-append place_of above.front (parent ∷ above.back)) ∙ was) (contains_here (map place_of above.front) (place_of parent) (map place_of above.back)))
    refl refl (sym (count_map (λ (p : Place). leads_to parent.serial p.parent) place_of pending) ∙ ap (count_links (leads_to parent.serial)) was)))
    (λ cannot. n)

new_numbered : (vxid : ℕ) (state : State) → IsNumbered state → IsNumbered (with_new vxid state)
new_numbered vxid state n =
    subst (Numbered (state.begun + 1)) (sym (map-append place_of state.pending (empty_transaction state.begun vxid state.time ∷ []))) (numbered_push state.begun vxid (map place_of state.pending) n)

numbered_keeps : Keeps IsNumbered
numbered_keeps = record {
  new = new_numbered;
  kind = λ vxid claim state n. newest_kept vxid (claimed_kind claim) (claimed_same place_of (λ t c. refl) claim) state n;
  link = λ cv pv state n. parent_numbered cv pv state n (newest cv state.pending) (newest pv state.pending) refl refl;
  time = λ told state n. subst (Numbered state.begun) (sym (timed_places (raised told state.time) state.pending)) n;
}

-- the rules up to an end
pub told_numbered : (grouping : Grouping) (vxid : ℕ) (rec : Record) (state : State) → IsNumbered state → IsNumbered (with_all_told grouping vxid rec state)
told_numbered grouping vxid rec state n =
    told_kept IsNumbered numbered_keeps grouping vxid rec state
    (newest_kept vxid (λ t. record t { records = t.records ++ rec ∷ [] }) (λ t. refl) (with_transaction vxid state) (begun_kept IsNumbered numbered_keeps vxid state n))

abbrev root_in : Option Row → ℕ
root_in None = 0
root_in (Some row) = row.root

-- links that lead to one serial number are in one tree
one_tree : (begun s : ℕ) (rows : List Row) → AreTrees begun rows → Each (λ row. leads_to s row.parent ≡ true → row.root ≡ root_in (row_of s rows)) rows
one_tree begun s rows trees =
    each_weaker (λ row. row_of row.serial rows ≡ Some row) (λ row. leads_to s row.parent ≡ true → row.root ≡ root_in (row_of s rows))
    (λ row here leads. ⊎_elim
    (λ (top : IsTop row). absurd (let none = ap (leads_to s) (sym top.none) ∙ leads in cc))
    (λ (below : IsBelow rows row).
    let serial = eqb-true below.link.serial s (ap (leads_to s) (sym below.linked) ∙ leads) in
    below.root ∙ ap root_in (sym below.found) ∙ ap (λ (x : ℕ). root_in (row_of x rows)) serial)
    (trees.forest.linked row.serial row here)) rows (each_found 0 begun rows trees.rising)

abbrev pub places_of : List Row → List Place
places_of rows = map place_of (map transaction_of rows)

pub row_links : (q : Option ParentLink → Bool) (rows : List Row) → count_links q (places_of rows) ≡ count_by (λ row. q row.parent) rows
row_links q rows = count_map (λ (p : Place). q p.parent) place_of (map transaction_of rows) ∙ count_map (λ (t : Transaction). q t.parent) transaction_of rows

leads_from_number : (s n : ℕ) (link : Option ParentLink) → has_number s n link ≡ true → leads_to s link ≡ true
leads_from_number s n None e = absurd (cc)
leads_from_number s n (Some link) e = (and_parts (eqb link.serial s) (eqb link.number n) e).0

beside_links : (begun root s : ℕ) (rows : List Row) → AreTrees begun rows → (q : Option ParentLink → Bool) → ((link : Option ParentLink) → q link ≡ true → leads_to s link ≡ true) → count_links q (places_of (rows_beside root rows)) ≡ cond (not (eqb (root_in (row_of s rows)) root)) (count_links q (places_of rows)) 0
beside_links begun root s rows trees q leads =
    let b : Bool = not (eqb (root_in (row_of s rows)) root) in
    row_links q (rows_beside root rows)
    ∙ filter_count (λ r. not (eqb r.root root)) (λ row. q row.parent) b rows
    (each_weaker (λ row. leads_to s row.parent ≡ true → row.root ≡ root_in (row_of s rows)) (λ row. q row.parent ≡ true → not (eqb row.root root) ≡ b)
    (λ row one t. ap (λ (x : ℕ). not (eqb x root)) (one (leads row.parent t))) rows (one_tree begun s rows trees))
    ∙ ap (λ (n : ℕ). cond b n 0) (sym (row_links q rows))

-- what holds of each place holds of each row's
pub each_place : (P : Place → Type 0) (rows : List Row) → All P (places_of rows) → All (λ row. P (place_of (transaction_of row))) rows
each_place P [] a = All-nil (λ row. P (place_of (transaction_of row)))
each_place P (row ∷ rows) a =
    let first : Place = place_of (transaction_of row) in
    All-cons (λ r. P (place_of (transaction_of r))) row rows (All-head P first (places_of rows) a) (each_place P rows (All-tail P first (places_of rows) a))

-- a tree leaves whole
pub numbered_left : (begun root : ℕ) (rows : List Row) → AreTrees begun rows → Numbered begun (places_of rows) → Numbered begun (places_of (rows_beside root rows))
numbered_left begun root rows trees n =
    let stays : ℕ → Bool = λ s. not (eqb (root_in (row_of s rows)) root) in
    let all : (Option ParentLink → Bool) → ℕ = λ q. count_links q (places_of rows) in
    let numbers : (s m : ℕ) → count_links (has_number s m) (places_of (rows_beside root rows)) ≡ cond (stays s) (all (has_number s m)) 0 = λ s m. beside_links begun root s rows trees (has_number s m) (leads_from_number s m) in
    let Is : Place → Type 0 = IsNamed begun n.vxids in
    record {
      vxids = n.vxids;
      named = All-map Is place_of (map transaction_of (rows_beside root rows)) (All-map (λ t. Is (place_of t)) transaction_of (rows_beside root rows)
          (All-filter (λ r. not (eqb r.root root)) (λ row. Is (place_of (transaction_of row))) rows (each_place Is rows n.named)));
      few = λ s m. subst (λ (c : ℕ). c ≤ 1) (sym (numbers s m)) (cond_both (stays s) (all (has_number s m)) 0 (λ c. c ≤ 1) (λ e. n.few s m) (λ e. omega arith));
      below = λ s m le. numbers s m ∙ cond_both (stays s) (all (has_number s m)) 0 (λ c. c ≡ 0)
          (λ e. n.below s m (omega (arith, le, beside_links begun root s rows trees (leads_to s) (λ link t. t), ap {B = ℕ} (λ (b : Bool). cond b (all (leads_to s)) 0) e))) (λ e. refl);
    }
