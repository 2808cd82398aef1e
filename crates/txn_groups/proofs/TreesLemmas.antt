-- Where pending nodes go, the store of nodes goes, too.
use Rattle.std.proofs.Common.{◌≡◌, ◌<◌, ◌≤◌, ⊎_elim, ◌⊎◌, inl, inr, ℕ, Bool, true, false, Option, Some, None, List, [], ◌++◌, length, map, get_or, Result, Ok, Err, refl, ap, sym, ◌∙◌, subst, arith}
use Rattle.std.specs.Prelude.{slice_get, IfSome, IfNone}
use Rattle.std.specs.Option.{option_map, is_some}
use Rattle.std.specs.Result.{OnOk}
use Rattle.std.proofs.lemmas.List.{length-map}
use Rattle.std.proofs.lemmas.Option.{slice_get_read}
use Rattle.std.proofs.lemmas.Result.{on_ok_weaker}
use Rattle.vsl_record.specs.declared.record_type.Record.{Record}
use Rattle.txn_rows.specs.declared.group.Cause.{Cause}
use Rattle.txn_rows.specs.declared.group.Group.{Group}
use Rattle.txn_rows.specs.declared.group.Grouping.{Grouping}
use Rattle.txn_rows.specs.declared.which.Which.{Which}
use Rattle.txn_rows.specs.Transaction.{Transaction, newest, is_pending, forced}
use Rattle.txn_rows.specs.Grouping.{State, Leaving, no_state, is_behind}
use Rattle.txn_rows.specs.Times.{IsTimed, NoneLateUpTo}
use Rattle.txn_rows.specs.declared.which.Which.TheVariants.{Late}
use Rattle.txn_rows.proofs.ForceAllLemmas.{first_not_meant, not_behind, begins_in_time}
use Rattle.txn_rows.specs.Store as stores
use Rattle.txn_rows.specs.Trees.{transaction_of, AreTrees}
use Rattle.txn_rows.specs.Store.{test_of}
use Rattle.query_parser.specs.declared.query.Query.{Query}
use Rattle.query_eval.specs.declared.chosen.Chosen.{Chosen}
use Rattle.query_eval.specs.Meaning.{is_held}
use Rattle.query_eval.specs.Marks.{marks_of}
use Rattle.txn_groups.specs.declared.node.Node.{Node}
use Rattle.txn_groups.specs.declared.pending.Pending.{Pending}
use Rattle.txn_groups.specs.declared.askers.Askers.{Askers}
use Rattle.txn_groups.specs.declared.trees.Trees.{Trees}
use Rattle.txn_groups.specs.inside.Nodes.{StandsAt, AreNodes, transaction_of_node}
use Rattle.txn_groups.specs.inside.Indexed.{newest_in}
use Rattle.txn_groups.specs.inside.Held.{state_of, IsHeld, Went}
use Rattle.txn_groups.specs.inside.Leaves.{WentBy}
use Rattle.txn_groups.specs.inside.Oldest.{IsLow, OldestAt}
use Rattle.txn_groups.specs.Groups.{chosen}
use Rattle.txn_groups.specs.inside.Retold.{AreChanged}
use Rattle.txn_groups.specs.inside.Told.{told_at}
use Rattle.txn_groups.specs.inside.Marked.{queries_of, marks_for, AreMarksOf, AreMarked, KeepMarks, IsAhead}
use Rattle.txn_groups.specs.inside.Remarked.{remarked, IsRemarked}
use Rattle.txn_groups.specs.inside.Trees.{IsTrees, state_of_trees}
use Rattle.txn_groups.proofs.FoundLemmas.{same_node}
use Rattle.txn_groups.proofs.AskersLemmas.{marks_read}
use Rattle.txn_groups.proofs.HeldLemmas.{stands_still}
use Rattle.txn_groups.proofs.IndexLemmas.{newest_at, newest_none}
use Rattle.txn_groups.proofs.MarkedLemmas.{remarked_names, remarked_went, ahead, added_marked, marked_kept}
use Rattle.txn_groups.proofs.NoneBelowLemmas.{low_went, low_went_by}
use Rattle.txn_groups.proofs.TellLemmas.{tells}

-- queries are asked, and marks of no records are kept
pub record AsksThem (queries : List Query) (askers : Askers) (unmarked : List (List Bool)) : Type 0 where
  pub asks : queries_of askers ≡ queries
  pub none : unmarked ≡ marks_for queries []

pub asks_them : (queries : List Query) (t : Trees) → IsTrees queries t → AsksThem queries t.askers t.unmarked
asks_them queries t trees = record { asks = trees.asks; none = trees.unmarked }

-- where none before the serial number is unfinished in the state
pub trees_went : (queries : List Query) (t : Trees) (state : State) → IsLow t.low state → AsksThem queries t.askers t.unmarked → AreMarked queries t.pending.nodes.items → Went state t.pending → stores.Went (IsTrees queries) state_of_trees state t
trees_went queries t state low asks marked went = record { kept = record { held = went.kept; low = low_went t.low state t.pending low went; asks = asks.asks; marked = marked; unmarked = asks.none }; told = went.told }

pub trees_went_by : (queries : List Query) (t : Trees) (grouping : Grouping) (step : Leaving) (before now : List Chosen) → IsLow t.low step.state → AsksThem queries t.askers t.unmarked → AreMarked queries t.pending.nodes.items → WentBy (chosen queries) grouping step t.pending before now → stores.WentBy (IsTrees queries) state_of_trees (chosen queries) grouping step t before now
trees_went_by queries t grouping step before now low asks marked went = record { kept = record { held = went.kept; low = low_went_by (chosen queries) t.low grouping step t.pending before now low went; asks = asks.asks; marked = marked; unmarked = asks.none }; state = went.state; groups = went.groups }

-- the same of a call that can fail
pub trees_go : {T E : Type 0} (r : Result T E) (queries : List Query) (t : Trees) (state : State) → IsLow t.low state → AsksThem queries t.askers t.unmarked → OnOk r (AreMarked queries t.pending.nodes.items) → OnOk r (Went state t.pending) → OnOk r (stores.Went (IsTrees queries) state_of_trees state t)
trees_go (Ok x) queries t state low asks marked went = trees_went queries t state low asks marked went
trees_go (Err e) queries t state low asks marked went = tt

pub trees_go_by : {T E : Type 0} (r : Result T E) (queries : List Query) (t : Trees) (grouping : Grouping) (step : Leaving) (before now : List Chosen) → IsLow t.low step.state → AsksThem queries t.askers t.unmarked → OnOk r (AreMarked queries t.pending.nodes.items) → OnOk r (WentBy (chosen queries) grouping step t.pending before now) → OnOk r (stores.WentBy (IsTrees queries) state_of_trees (chosen queries) grouping step t before now)
trees_go_by (Ok x) queries t grouping step before now low asks marked went = trees_went_by queries t grouping step before now low asks marked went
trees_go_by (Err e) queries t grouping step before now low asks marked went = tt

-- where a call keeps marks
pub trees_keep : {T E : Type 0} (r : Result T E) (queries : List Query) (old t : Trees) (state : State) → IsTrees queries old → IsLow t.low state → AsksThem queries t.askers t.unmarked → OnOk r (KeepMarks old.pending.nodes.items t.pending.nodes.items) → OnOk r (Went state t.pending) → OnOk r (stores.Went (IsTrees queries) state_of_trees state t)
trees_keep r queries old t state trees low asks keep went = trees_go r queries t state low asks (on_ok_weaker r (marked_kept queries old.pending.nodes.items t.pending.nodes.items trees.marked) keep) went

-- the node that the index tells
pub told_node : (p : Pending) (v at : ℕ) → IsHeld p → newest_in p.index v ≡ Some at → (x : Node) × StandsAt p.nodes.items at x
told_node p v at held told = let w = (held.index v).some at told in (w.0, w.1)

-- records come to the newest node of a VXID, whose marks came before them
pub add_all : {T E : Type 0} (r : Result T E) (queries asked : List Query) (v at : ℕ) (change : Transaction → Transaction) (more : List Record) (f : State → State) (p mid q : Pending) → asked ≡ queries → IsHeld p → newest_in p.index v ≡ Some at → AreMarked queries p.nodes.items → ((t : Transaction) → (change t).vxid ≡ t.vxid) → ((t : Transaction) → (change t).records ≡ t.records ++ more) →
    ((x : Node) (records : List Record) → StandsAt p.nodes.items at x → AreMarksOf asked records x.marks → IsRemarked asked (records ++ more) at p.nodes.items mid.nodes.items) →
    mid.order.items ≡ p.order.items → mid.begun ≡ p.begun → mid.index ≡ p.index → mid.free ≡ p.free → mid.rows ≡ p.rows → mid.time ≡ p.time →
    (IsHeld mid → OnOk r (Went (f (state_of mid)) q)) → OnOk r (AreChanged (told_at change at) mid.nodes.items q.nodes.items) → OnOk r (AreMarked queries q.nodes.items) × OnOk r (Went (f (state_of p)) q)
add_all r queries asked v at change more f p mid q same held told are vxid is marks order_is begun_is index_is free_is rows_is time_is went changed =
    let n = told_node p v at held told in
    let x : Node = n.0 in
    let marked : IsRemarked queries (x.records ++ more) at p.nodes.items mid.nodes.items =
    subst (λ (qs : List Query). IsRemarked qs (x.records ++ more) at p.nodes.items mid.nodes.items) same
    (marks x x.records n.1 (subst (λ (qs : List Query). AreMarksOf qs x.records x.marks) (sym same) (are at x n.1))) in
    let now : Went (state_of p) mid = remarked_went at marked.marks p mid held marked.changed order_is begun_is index_is free_is rows_is time_is in (
      added_marked r change queries at more p.nodes.items mid.nodes.items q.nodes.items x vxid is are n.1 marked changed,
      subst (λ (s : State). OnOk r (Went (f s) q)) now.told (went now.kept),
    )

-- a node is force-completed, whose marks came before that
pub record IsReadyToForce (queries : List Query) (cause : Cause) (at : ℕ) (p mid : Pending) (x : Node) : Type 0 where
  pub node : Node
  pub there : StandsAt mid.nodes.items at node
  pub unended : node.ended ≡ x.ended
  pub same : transaction_of_node node ≡ transaction_of_node x
  pub held : IsHeld mid
  pub state : state_of mid ≡ state_of p
  pub ahead : IsAhead queries cause at mid.nodes.items

pub ready_to_force : (queries asked : List Query) (cause : Cause) (at : ℕ) (p mid : Pending) (x : Node) → asked ≡ queries → IsHeld p → AreMarked queries p.nodes.items → StandsAt p.nodes.items at x →
    (AreMarksOf asked x.records x.marks → IsRemarked asked (forced cause (transaction_of_node x)).records at p.nodes.items mid.nodes.items) →
    mid.order.items ≡ p.order.items → mid.begun ≡ p.begun → mid.index ≡ p.index → mid.free ≡ p.free → mid.rows ≡ p.rows → mid.time ≡ p.time → IsReadyToForce queries cause at p mid x
ready_to_force queries asked cause at p mid x same held are there marks order_is begun_is index_is free_is rows_is time_is =
    let records : List Record = (forced cause (transaction_of_node x)).records in
    let marked : IsRemarked queries records at p.nodes.items mid.nodes.items =
    subst (λ (qs : List Query). IsRemarked qs records at p.nodes.items mid.nodes.items) same
    (marks (subst (λ (qs : List Query). AreMarksOf qs x.records x.marks) (sym same) (are at x there))) in
    let now : Went (state_of p) mid = remarked_went at marked.marks p mid held marked.changed order_is begun_is index_is free_is rows_is time_is in
    let c = remarked at marked.marks in
    record {
      node = c at x;
      there = stands_still c p.nodes.items mid.nodes.items at x (remarked_names at marked.marks) marked.changed there;
      unended = refl;
      same = refl;
      held = now.kept;
      state = now.told;
      ahead = ahead (forced cause) queries at records p.nodes.items mid.nodes.items x refl are there marked;
    }

pub some_weaker : {A : Type 0} {P Q : A → Type 0} (o : Option A) → ((a : A) → P a → Q a) → IfSome o P → IfSome o Q
some_weaker None weaker p = tt
some_weaker (Some a) weaker p = weaker a p

pub none_weaker : {A P Q : Type 0} (o : Option A) → (P → Q) → IfNone o P → IfNone o Q
none_weaker None weaker p = weaker p
none_weaker (Some a) weaker p = tt

-- the marks of the newest transaction of a VXID
pub newest_marks : (queries : List Query) (query : Query) (v at place : ℕ) (t : Trees) (x : Node) (marks : List Bool) → IsTrees queries t → newest_in t.pending.index v ≡ Some at → slice_get t.pending.nodes.items at ≡ Some x → slice_get queries place ≡ Some query →
    (slice_get x.marks place ≡ Some marks) ⊎ ((slice_get x.marks place ≡ None) × (slice_get t.unmarked place ≡ Some marks)) → option_map (λ (u : Transaction). marks_of query u.records) (newest v (state_of_trees t).pending) ≡ Some marks
newest_marks queries query v at place t x marks trees told here asked found =
    let p = t.pending in
    let held = trees.held in
    let n = newest_at p.begun p.nodes.items p.order.items held.stand v at (newest_in p.index v) held.are (held.index v) told in
    let same : n.node ≡ x = same_node p.nodes.items at n.node x n.there here in
    let are : AreMarksOf queries n.node.records n.node.marks = trees.marked at n.node n.there in
    let is : marks ≡ marks_of query n.node.records = marks_read queries query place n.node.records n.node.marks t.unmarked marks asked are trees.unmarked
    (⊎_elim
    (λ (f : slice_get x.marks place ≡ Some marks). inl (ap (λ (y : Node). slice_get y.marks place) same ∙ f))
    (λ (f : (slice_get x.marks place ≡ None) × (slice_get t.unmarked place ≡ Some marks)). inr (ap (λ (y : Node). slice_get y.marks place) same ∙ f.0, f.1))
    found) in
    ap (option_map (λ (u : Transaction). marks_of query u.records)) n.newest.newest ∙ ap Some (sym is)

-- a group with the answer of each query
pub chosen_is : (queries asked : List Query) (group raw : Group) (holds : List Bool) → asked ≡ queries → group ≡ raw → holds ≡ map (λ query. is_held query group) asked → record { group = group; holds = holds } ≡ chosen queries raw
chosen_is queries asked group raw holds same is all =
    ap {B = Chosen} (λ (l : List Bool). record { group = group; holds = l }) (all ∙ ap (map (λ query. is_held query group)) same) ∙ ap (chosen queries) is

-- as many are counted as are pending
pub rows_pending : (p : Pending) → IsHeld p → p.rows ≡ length (state_of p).pending
rows_pending p held = sym (ap length (tells p.begun p.nodes.items p.order.items held.stand held.are) ∙ length-map held.stand transaction_of ∙ held.counted)

-- where the index tells no place, none is pending
pub none_told : (p : Pending) (v : ℕ) (o : Option ℕ) → IsHeld p → o ≡ newest_in p.index v → IfNone o (is_pending v (state_of p).pending ≡ false)
none_told p v None held is = newest_none p.nodes.items p.order.items v (newest_in p.index v) (held.index v) (sym is)
none_told p v (Some at) held is = tt

-- no nodes
pub no_trees : AreTrees 0 []
no_trees = record {
  rising = omega arith;
  forest = record {
    linked = λ s row here. absurd (let f : None ≡ Some row = here in cc);
    shallow = λ s row here. absurd (let f : None ≡ Some row = here in cc);
    counted = λ s row here. absurd (let f : None ≡ Some row = here in cc);
  };
}

none_stands : (at : ℕ) (x : Node) → StandsAt [] at x → ⊥
none_stands at x there = let f : None ≡ Some x = there.here in cc

no_nodes : AreNodes 0 [] [] []
no_nodes = record {
  trees = no_trees;
  numbered = record {
    below = λ s row above link here. absurd (let f : None ≡ Some row = here in cc);
    apart = λ s t a b p q here. absurd (let f : None ≡ Some a = here in cc);
  };
  stand = record {
    rising = omega arith;
    node = λ s row here. absurd (let f : None ≡ Some row = here in cc);
    row = λ at x there. absurd (none_stands at x there);
    one = λ at other x y there. absurd (none_stands at x there);
  };
  children = λ at x there. absurd (none_stands at x there);
  up = λ at x row there. absurd (none_stands at x there);
  last = λ at other x y row other_row there. absurd (none_stands at x there);
  kin = λ at x there. absurd (none_stands at x there);
}

pub no_nodes_went : (p : Pending) → p.nodes.items ≡ [] → p.order.items ≡ [] → ((v : ℕ) → newest_in p.index v ≡ None) → p.free.items ≡ [] → p.begun ≡ 0 → p.time ≡ None → p.rows ≡ 0 → Went no_state p
no_nodes_went p nodes order index free begun time rows = record {
  kept = record {
    stand = [];
    are = rw (nodes, order, begun) no_nodes;
    index = rw nodes (λ v. record { some = λ at e. absurd (let f : None ≡ Some at = sym (index v) ∙ e in cc); none = λ e at y there. absurd (none_stands at y there) });
    free = rw (nodes, free) (record { each = λ at i. absurd i; once = tt });
    counted = sym rows;
  };
  told = rw (nodes, order, begun, time) refl;
}

-- whether the oldest transaction that has not ended is one of those, by what was read of its node
pub oldest_met : (which : Which) (p : Pending) (at : ℕ) (x : Node) (met : Bool) → (o : OldestAt p at) → at < length p.nodes.items → x ≡ get_or p.nodes.items at x →
    ((t : Transaction) → t.ended ≡ x.ended → t.time ≡ x.time → met ≡ test_of which t) → met ≡ test_of which (transaction_of_node o.node)
oldest_met which p at x met o within read is =
    let same : o.node ≡ x = same_node p.nodes.items at o.node x o.there (slice_get_read p.nodes.items (length p.nodes.items) at x refl within read) in
    is (transaction_of_node o.node) (ap (λ (n : Node). n.ended) same) (ap (λ (n : Node). n.time) same)

-- none is late up to a log time where the oldest isn't
pub none_late_up_to : (seconds last : ℕ) (p : Pending) (at : ℕ) (x : Node) (time : ℕ) → (o : OldestAt p at) → at < length p.nodes.items → x ≡ get_or p.nodes.items at x → x.time ≡ Some time → is_some p.time ≡ true → IsTimed (state_of p) → ((now : ℕ) → now ≤ last → is_behind seconds (Some time) (Some now) ≡ false) → NoneLateUpTo seconds last (state_of p)
none_late_up_to seconds last p at x time o within read is known times in_time =
    let same : o.node ≡ x = same_node p.nodes.items at o.node x o.there (slice_get_read p.nodes.items (length p.nodes.items) at x refl within read) in
    let t : Transaction = transaction_of_node o.node in
    let time_is : t.time ≡ Some time = ap (λ (n : Node). n.time) same ∙ is in
    record {
      known = known;
      none = λ now by. first_not_meant (Late seconds (Some now)) p.time t (state_of p).pending times o.is (not_behind seconds (Some now) t (ap (λ (q : Option ℕ). is_behind seconds q (Some now)) time_is ∙ in_time now by));
      begins = λ now by. begins_in_time seconds time (Some now) p.time (state_of p).pending t times o.is time_is (in_time now by);
    }
