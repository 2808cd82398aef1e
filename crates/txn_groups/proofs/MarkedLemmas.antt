-- Nodes that keep their marks.
use Rattle.std.proofs.Common.{◌≡◌, ◌≢◌, ◌<◌, ◌≤◌, ⊎_elim, ◌⊎◌, inl, inr, ℕ, Bool, eqb, cond, Option, Some, List, [], ◌++◌, length, map, set, get_or, refl, ap, sym, ◌∙◌, subst}
use Rattle.std.specs.Prelude.{slice_get}
use Rattle.std.specs.declared.result.Result.{Result}
use Rattle.std.specs.Result.{OnOk}
use Rattle.std.proofs.lemmas.Bool.{eq-eqb, ne_eqb, eqb-true, eqb-false}
use Rattle.std.proofs.lemmas.List.{map-id}
use Rattle.std.proofs.lemmas.Option.{slice_get_read}
use Rattle.std.proofs.lemmas.Result.{on_ok_weaker}
use Rattle.vsl_record.specs.declared.record_type.Record.{Record}
use Rattle.txn_rows.specs.declared.rows.Row.{Row}
use Rattle.txn_rows.specs.Transaction.{Transaction}
use Rattle.txn_rows.specs.Trees.{transaction_of}
use Rattle.txn_rows.proofs.LineLemmas.{by_cases, either}
use Rattle.txn_rows.proofs.StandLemmas.{KeepsPlaces}
use Rattle.query_parser.specs.declared.query.Query.{Query}
use Rattle.txn_groups.specs.declared.node.Node.{Node}
use Rattle.txn_groups.specs.declared.pending.Pending.{Pending}
use Rattle.txn_groups.specs.inside.Nodes.{StandsAt, AreNodes, listed, transaction_of_node}
use Rattle.txn_groups.specs.inside.Kin.{relinked}
use Rattle.txn_groups.specs.inside.Places.{IsPut}
use Rattle.txn_groups.specs.inside.Retold.{AreChanged, KeepsLinks}
use Rattle.txn_groups.specs.inside.Told.{told_at}
use Rattle.txn_groups.specs.inside.Held.{state_of, IsHeld, HoldsRows, Went}
use Rattle.txn_groups.specs.inside.Marked.{marks_for, AreMarksOf, AreMarked, IsAsBefore, KeepMarks}
use Rattle.txn_groups.specs.inside.Remarked.{remarked, IsRemarked, IsAheadBy}
use Rattle.txn_groups.proofs.ChangedLemmas.{changed_at, changed_past}
use Rattle.txn_groups.proofs.FoundLemmas.{same_node}
use Rattle.txn_groups.proofs.HeldLemmas.{KeepsNames, WasBefore, was_before, hold_still, went_by}
use Rattle.txn_groups.proofs.LinkLemmas.{row_is}
use Rattle.txn_groups.proofs.RetoldLemmas.{nodes_retold}
use Rattle.txn_groups.proofs.TellLemmas.{tells}

-- the same nodes
pub keep_same : (nodes : List Node) → KeepMarks nodes nodes
keep_same nodes = λ at x there. inl (record { node = x; there = there; records = refl; marks = refl })

-- one change after another
pub keep_then : (old mid new : List Node) → KeepMarks old mid → KeepMarks mid new → KeepMarks old new
keep_then old mid new first next = λ at x there. ⊎_elim
    (λ (w : IsAsBefore mid at x). ⊎_elim
    (λ (v : IsAsBefore old at w.node). inl (record { node = v.node; there = v.there; records = w.records ∙ v.records; marks = w.marks ∙ v.marks }))
    (λ (none : (w.node.records ≡ []) × (w.node.marks ≡ [])). inr (w.records ∙ none.0, w.marks ∙ none.1))
    (first at w.node w.there))
    (λ (none : (x.records ≡ []) × (x.marks ≡ [])). inr none)
    (next at x there)

-- a change that keeps records and marks
pub record KeepsThem (change : ℕ → Node → Node) : Type 0 where
  pub names : KeepsNames change
  pub records : (at : ℕ) (x : Node) → (change at x).records ≡ x.records
  pub marks : (at : ℕ) (x : Node) → (change at x).marks ≡ x.marks

pub keep_changed : (change : ℕ → Node → Node) (old new : List Node) → KeepsThem change → AreChanged change old new → KeepMarks old new
keep_changed change old new keeps changed = λ at x there.
    let w : WasBefore change old at x = was_before change old new at x keeps.names changed there in
    inl (record { node = w.node; there = w.there; records = ap (λ (n : Node). n.records) w.is ∙ keeps.records at w.node; marks = ap (λ (n : Node). n.marks) w.is ∙ keeps.marks at w.node })

-- a node without records is put at a place
pub keep_put : (old mid new : List Node) (at : ℕ) (f : Node) (older : Option ℕ) → AreChanged (relinked older at) old mid → IsPut mid new at f → f.records ≡ [] → f.marks ≡ [] → KeepMarks old new
keep_put old mid new at f older changed put records marks = λ i x there.
    by_cases (IsAsBefore old i x ⊎ ((x.records ≡ []) × (x.marks ≡ []))) (eqb i at)
    (λ t.
    let here : slice_get new i ≡ Some f = ap (slice_get new) (eqb-true i at t) ∙ put.here in
    let same : x ≡ f = same_node new i x f there here in
    inr (ap (λ (n : Node). n.records) same ∙ records, ap (λ (n : Node). n.marks) same ∙ marks))
    (λ t.
    let before : StandsAt mid i x = record { here = sym (put.others i (eqb-false i at t)) ∙ there.here; stands = there.stands } in
    keep_changed (relinked older at) old mid (record { names = record { stands = λ j y. refl; serial = λ j y. refl; vxid = λ j y. refl }; records = λ j y. refl; marks = λ j y. refl }) changed i x before)

-- nodes that keep them have the marks of their records
pub marked_kept : (queries : List Query) (old new : List Node) → AreMarked queries old → KeepMarks old new → AreMarked queries new
marked_kept queries old new are keep = λ at x there. ⊎_elim
    (λ (w : IsAsBefore old at x). ⊎_elim
    (λ (none : (w.node.marks ≡ []) × (marks_for queries w.node.records ≡ marks_for queries [])). inl (w.marks ∙ none.0, ap (marks_for queries) w.records ∙ none.1))
    (λ (is : w.node.marks ≡ marks_for queries w.node.records). inr (w.marks ∙ is ∙ ap (marks_for queries) (sym w.records)))
    (are at w.node w.there))
    (λ (none : (x.records ≡ []) × (x.marks ≡ [])). inl (none.1, ap (marks_for queries) none.0))
    (keep at x there)

-- no node
pub none_marked : (queries : List Query) (nodes : List Node) → nodes ≡ [] → AreMarked queries nodes
none_marked queries nodes none = λ at x there. let here : slice_get [] at ≡ Some x = ap (λ (xs : List Node). slice_get xs at) (sym none) ∙ there.here in absurd (cc)

remarked_links : (place : ℕ) (marks : List (List Bool)) → KeepsLinks (remarked place marks)
remarked_links place marks = record {
  stands = λ at x. refl;
  serial = λ at x. refl;
  vxid = λ at x. refl;
  parent = λ at x. refl;
  children = λ at x. refl;
  first = λ at x. refl;
  last = λ at x. refl;
  next = λ at x. refl;
  up = λ at x. refl;
  size = λ at x. refl;
  top = λ at x. refl;
  older = λ at x. refl;
  newer = λ at x. refl;
}

pub remarked_names : (place : ℕ) (marks : List (List Bool)) → KeepsNames (remarked place marks)
remarked_names place marks = record { stands = λ at x. refl; serial = λ at x. refl; vxid = λ at x. refl }

places_same : (rows : List Row) → KeepsPlaces (λ row. row) rows
places_same rows = record { serial = λ row. refl; parent = λ row. refl; root = λ row. refl; path = λ row. refl; children = λ row. refl }

others_same : (place : ℕ) (marks : List (List Bool)) (i : ℕ) (z : Node) → i ≢ place → remarked place marks i z ≡ z
others_same place marks i z other = ap (λ (b : Bool). record z { marks = cond b marks z.marks }) (ne_eqb i place other)

-- marks are written at a place
pub remarked_set : (place : ℕ) (queries : List Query) (more : List Record) (xs : List Node) (g : Node) (new : List (List Bool)) → place < length xs → g ≡ get_or xs place g → ((records : List Record) → AreMarksOf queries records g.marks → AreMarksOf queries (records ++ more) new) →
    (x : Node) (records : List Record) → StandsAt xs place x → AreMarksOf queries records x.marks → IsRemarked queries (records ++ more) place xs (set xs place (record g { marks = new }))
remarked_set place queries more xs g new within read added x records there are =
    let same : x ≡ g = same_node xs place x g there (slice_get_read xs (length xs) place g refl within read) in
    record {
      marks = new;
      are = added records (subst (λ (n : Node). AreMarksOf queries records n.marks) same are);
      changed = changed_at (remarked place new) xs place g (record g { marks = new }) within read
          (ap {B = Node} (λ (b : Bool). record g { marks = cond b new g.marks }) (sym (eq-eqb place place refl)))
          (others_same place new);
    }

pub remarked_past : (place : ℕ) (queries : List Query) (records : List Record) (xs : List Node) → length xs ≤ place → IsRemarked queries records place xs xs
remarked_past place queries records xs past =
    let marks : List (List Bool) = marks_for queries records in
    record { marks = marks; are = inr refl; changed = changed_past (remarked place marks) xs place past (others_same place marks) }

-- other marks change nothing that nodes hold
pub remarked_went : (place : ℕ) (marks : List (List Bool)) (p m : Pending) → IsHeld p → AreChanged (remarked place marks) p.nodes.items m.nodes.items → m.order.items ≡ p.order.items → m.begun ≡ p.begun → m.index ≡ p.index → m.free ≡ p.free → m.rows ≡ p.rows → m.time ≡ p.time → Went (state_of p) m
remarked_went place marks p m held changed order_is begun_is index_is free_is rows_is time_is =
    let old = p.nodes.items in
    let f : Row → Row = λ row. row in
    let rows : List Row = held.stand in
    let links : KeepsLinks (remarked place marks) = remarked_links place marks in
    let same : map f rows ≡ rows = map-id rows in
    let are : AreNodes p.begun m.nodes.items p.order.items (map f rows) = nodes_retold p.begun (remarked place marks) f old m.nodes.items p.order.items rows held.are links (places_same rows) changed (record {
      told = λ at x row there found. row_is old rows at (record { node = x; there = there; row = row; found = found }) p.begun p.order.items held.are.stand;
      unended = λ at x row there found top. rw same ((held.are.up at x row there found).unended top);
    }) in
    let hold : HoldsRows m (map f rows) = hold_still (remarked place marks) f p m rows (remarked_names place marks) (record { are = held.are; index = held.index; free = held.free; counted = held.counted }) are changed order_is begun_is index_is free_is rows_is in
    went_by m (map f rows) (listed old p.order.items) p.begun p.time hold (ap (map transaction_of) same ∙ sym (tells p.begun old p.order.items rows held.are)) begun_is time_is

-- the marks of a node are ahead of its records
pub ahead : (change : Transaction → Transaction) (queries : List Query) (at : ℕ) (records : List Record) (old mid : List Node) (x : Node) → (change (transaction_of_node x)).records ≡ records → AreMarked queries old → StandsAt old at x → IsRemarked queries records at old mid → IsAheadBy change queries at mid
ahead change queries at records old mid x is are there r = λ i y standing.
    let c = remarked at r.marks in
    let w : WasBefore c old i y = was_before c old mid i y (remarked_names at r.marks) r.changed standing in
    let z : Node = w.node in
    subst (λ (n : Node). AreMarksOf queries (cond (eqb i at) (change (transaction_of_node n)).records n.records) n.marks) (sym w.is)
    (by_cases (AreMarksOf queries (cond (eqb i at) (change (transaction_of_node z)).records z.records) (cond (eqb i at) r.marks z.marks)) (eqb i at)
    (λ t.
    let same : z ≡ x = same_node old i z x w.there (ap (slice_get old) (eqb-true i at t) ∙ there.here) in
    rw t (subst (λ (rs : List Record). AreMarksOf queries rs r.marks) (sym is ∙ ap (λ (n : Node). (change (transaction_of_node n)).records) (sym same)) r.are))
    (λ t. rw t (are i z w.there)))

-- and the records follow
told_names : (change : Transaction → Transaction) (place : ℕ) → ((t : Transaction) → (change t).vxid ≡ t.vxid) → KeepsNames (told_at change place)
told_names change place vxid = record {
  stands = λ at x. either (λ (y : Node). y.stands ≡ x.stands) (eqb at place) _ x refl refl;
  serial = λ at x. either (λ (y : Node). y.serial ≡ x.serial) (eqb at place) _ x refl refl;
  vxid = λ at x. either (λ (y : Node). y.vxid ≡ x.vxid) (eqb at place) _ x (vxid (transaction_of_node x)) refl;
}

pub ahead_told : (change : Transaction → Transaction) (queries : List Query) (at : ℕ) (mid new : List Node) → ((t : Transaction) → (change t).vxid ≡ t.vxid) → IsAheadBy change queries at mid → AreChanged (told_at change at) mid new → AreMarked queries new
ahead_told change queries at mid new vxid are changed = λ i y standing.
    let w : WasBefore (told_at change at) mid i y = was_before (told_at change at) mid new i y (told_names change at vxid) changed standing in
    let z : Node = w.node in
    let was : AreMarksOf queries (cond (eqb i at) (change (transaction_of_node z)).records z.records) z.marks = are i z w.there in
    subst (λ (n : Node). AreMarksOf queries n.records n.marks) (sym w.is)
    (by_cases (AreMarksOf queries (told_at change at i z).records (told_at change at i z).marks) (eqb i at)
    (λ t. rw t (rw t at was))
    (λ t. rw t (rw t at was)))

-- so nodes keep the marks of their records where records come to one
pub added_marked : {T E : Type 0} (r : Result T E) (change : Transaction → Transaction) (queries : List Query) (at : ℕ) (more : List Record) (old mid new : List Node) (x : Node) → ((t : Transaction) → (change t).vxid ≡ t.vxid) → ((t : Transaction) → (change t).records ≡ t.records ++ more) → AreMarked queries old → StandsAt old at x →
    IsRemarked queries (x.records ++ more) at old mid → OnOk r (AreChanged (told_at change at) mid new) → OnOk r (AreMarked queries new)
added_marked r change queries at more old mid new x vxid is are there marked told =
    on_ok_weaker r (ahead_told change queries at mid new vxid (ahead change queries at (x.records ++ more) old mid x (is (transaction_of_node x)) are there marked)) told
