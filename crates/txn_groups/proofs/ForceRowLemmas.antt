-- The oldest node that passes a test is force-completed, and its tree may leave.
use Rattle.std.proofs.Common.{◌≡◌, ℕ, suc, Bool, true, false, eqb, Some, None, List, [], ◌∷◌, map, get_or, refl, ap, sym, ◌∙◌, subst, arith}
use Rattle.std.proofs.lemmas.Bool.{eq-eqb}
use Rattle.std.specs.declared.result.Result.{Result}
use Rattle.std.specs.Result.{OnOk}
use Rattle.std.proofs.lemmas.Result.{on_ok_weaker}
use Rattle.txn_rows.specs.declared.rows.Row.{Row}
use Rattle.txn_rows.specs.declared.group.Cause.{Cause}
use Rattle.txn_rows.specs.declared.group.Group.{Group}
use Rattle.txn_rows.specs.declared.group.Grouping.{Grouping}
use Rattle.txn_rows.specs.Transaction.{Transaction, forced, oldest}
use Rattle.txn_rows.specs.Grouping.{forced_one}
use Rattle.txn_rows.specs.Trees.{row_of, transaction_of}
use Rattle.txn_rows.specs.inside.Rows.{row_told, IsOldestRow}
use Rattle.txn_rows.specs.inside.Steps.{RowsStep}
use Rattle.txn_rows.proofs.LineLemmas.{by_cases}
use Rattle.txn_rows.proofs.ForceLemmas.{forced_step}
use Rattle.query_parser.specs.declared.query.Query.{Query}
use Rattle.txn_groups.specs.declared.node.Node.{Node}
use Rattle.txn_groups.specs.declared.pending.Pending.{Pending}
use Rattle.txn_groups.specs.inside.Nodes.{StandsAt, HasRow, transaction_of_node}
use Rattle.txn_groups.specs.inside.Linked.{NodeAt}
use Rattle.txn_groups.specs.inside.Retold.{AreChanged}
use Rattle.txn_groups.specs.inside.Ended.{finished_node}
use Rattle.txn_groups.specs.inside.Held.{state_of, IsHeld}
use Rattle.txn_groups.specs.inside.Marked.{AreMarked}
use Rattle.txn_groups.specs.inside.Leaves.{WentBy}
use Rattle.txn_groups.proofs.LinkLemmas.{row_is}
use Rattle.txn_groups.proofs.TellLemmas.{tells}
use Rattle.txn_groups.proofs.EndLemmas.{forced_finishes}
use Rattle.txn_groups.proofs.EndMarksLemmas.{still_marked}
use Rattle.txn_groups.proofs.EndRowLemmas.{StepsBy, IsLastFrom, MayLeave, finished_went, finished_left}

-- the oldest that passes a test passes it
oldest_passes : (test : Transaction → Bool) (ts : List Transaction) (t : Transaction) → oldest test ts ≡ Some t → test t ≡ true
oldest_passes test [] t is = absurd (let e : None ≡ Some t = is in cc)
oldest_passes test (first ∷ ts) t is =
    by_cases (test t ≡ true) (test first)
    (λ u. let e : Some first ≡ Some t = rw u at is in let same : first ≡ t = (cc) in ap test (sym same) ∙ u)
    (λ u. oldest_passes test ts t (rw u at is))

-- the place of the oldest row that passes a test
pub record OldestPlace (test : Transaction → Bool) (rows : List Row) (row : Row) : Type 0 where
  pub at : ℕ
  pub is : IsOldestRow test at rows
  pub read : row ≡ get_or rows at row

pub oldest_place : (test : Transaction → Bool) (rows : List Row) (row : Row) → row_of row.serial rows ≡ Some row → oldest test (map transaction_of rows) ≡ Some (transaction_of row) → OldestPlace test rows row
oldest_place test [] row here is = absurd (let e : None ≡ Some row = here in cc)
oldest_place test (first ∷ rows) row here is =
    by_cases (OldestPlace test (first ∷ rows) row) (test (transaction_of first))
    (λ t.
    let e : Some (transaction_of first) ≡ Some (transaction_of row) = rw t at is in
    let told : transaction_of first ≡ transaction_of row = (cc) in
    let own : eqb first.serial row.serial ≡ true = eq-eqb first.serial row.serial (ap (λ (u : Transaction). u.serial) told) in
    let f : Some first ≡ Some row = rw own at here in
    let same : first ≡ row = (cc) in
    record { at = 0; is = record { within = omega arith; passes = λ d. t; none_before = refl }; read = sym same })
    (λ t.
    let later : oldest test (map transaction_of rows) ≡ Some (transaction_of row) = rw t at is in
    by_cases (OldestPlace test (first ∷ rows) row) (eqb first.serial row.serial)
    (λ u.
    let f : Some first ≡ Some row = rw u at here in
    let same : first ≡ row = (cc) in
    let both : true ≡ false = sym (oldest_passes test (map transaction_of rows) (transaction_of row) later) ∙ ap (λ (r : Row). test (transaction_of r)) (sym same) ∙ t in
    absurd (cc))
    (λ u.
    let k = oldest_place test rows row (rw u at here) later in
    record {
      at = suc k.at;
      is = record { within = omega (arith, k.is.within); passes = λ d. k.is.passes d; none_before = rw t k.is.none_before };
      read = k.read;
    }))

-- the oldest that passes a test is force-completed
forced_by : (grouping : Grouping) (test : Transaction → Bool) (cause : Cause) (at : ℕ) (p : Pending) → (held : IsHeld p) → (n : NodeAt p.nodes.items held.stand at) → oldest test (state_of p).pending ≡ Some (transaction_of_node n.node) →
    StepsBy grouping (forced cause) (forced_one test cause (state_of p)) p.begun p.time held.stand n.row
forced_by grouping test cause at p held n first =
    let rows : List Row = held.stand in
    let row : Row = n.row in
    let is = row_is p.nodes.items rows at n p.begun p.order.items held.are.stand in
    let told = tells p.begun p.nodes.items p.order.items rows held.are in
    let meant : oldest test (map transaction_of rows) ≡ Some (transaction_of row) = ap (oldest test) (sym told) ∙ first ∙ ap Some (sym (ap transaction_of is)) in
    let place : OldestPlace test rows row = oldest_place test rows row (ap (λ (r : Row). row_of r.serial rows) is ∙ n.found) meant in
    record {
      at = place.at;
      within = place.is.within;
      read = place.read;
      leaves = λ last before now left.
          subst (λ (ts : List Transaction). RowsStep grouping (forced_one test cause (record { pending = ts; begun = p.begun; time = p.time })) p.begun p.time last before now) (sym told)
          (forced_step grouping test cause p.begun place.at p.time rows row (row_told (forced cause) row) last before now place.is held.are.trees place.read refl left);
    }

-- a force-completion, from what its calls say
pub forced_all : {T E L : Type 0} (r : Result T E) (hand : Group → L) (grouping : Grouping) (test : Transaction → Bool) (cause : Cause) (at last : ℕ) (p m q : Pending) (x : Node) (before now : List L) → (held : IsHeld p) → StandsAt p.nodes.items at x → x.ended ≡ false → oldest test (state_of p).pending ≡ Some (transaction_of_node x) → IsLastFrom p at last → AreChanged (finished_node (forced cause) at last) p.nodes.items m.nodes.items →
    m.order.items ≡ p.order.items → m.begun ≡ p.begun → m.index ≡ p.index → m.free ≡ p.free → m.rows ≡ p.rows → m.time ≡ p.time →
    MayLeave r hand grouping last m q before now → OnOk r (WentBy hand grouping (forced_one test cause (state_of p)) q before now)
forced_all r hand grouping test cause at last p m q x before now held there unended first found changed order_is begun_is index_is free_is rows_is time_is left =
    let has : HasRow held.stand x = held.are.stand.row at x there in
    let n : NodeAt p.nodes.items held.stand at = record { node = x; there = there; row = has.row; found = has.found } in
    on_ok_weaker r (λ l. finished_went hand grouping (forced cause) (forced_one test cause (state_of p)) p m q held.stand n.row before now held.are (forced_by grouping test cause at p held n first) begun_is time_is l)
    (finished_left r hand grouping (forced cause) (forced_finishes cause) at last p m q before now held n unended found changed order_is begun_is index_is free_is rows_is left)

-- and its nodes keep their marks
pub forced_keeps : {T E L : Type 0} (r : Result T E) (hand : Group → L) (grouping : Grouping) (queries : List Query) (cause : Cause) (at last : ℕ) (p m q : Pending) (x : Node) (before now : List L) → (held : IsHeld p) → StandsAt p.nodes.items at x → x.ended ≡ false → IsLastFrom p at last → AreChanged (finished_node (forced cause) at last) p.nodes.items m.nodes.items →
    m.order.items ≡ p.order.items → m.begun ≡ p.begun → m.index ≡ p.index → m.free ≡ p.free → m.rows ≡ p.rows → AreMarked queries m.nodes.items →
    MayLeave r hand grouping last m q before now → OnOk r (AreMarked queries q.nodes.items)
forced_keeps r hand grouping queries cause at last p m q x before now held there unended found changed order_is begun_is index_is free_is rows_is marked left =
    let has : HasRow held.stand x = held.are.stand.row at x there in
    let n : NodeAt p.nodes.items held.stand at = record { node = x; there = there; row = has.row; found = has.found } in
    on_ok_weaker r (λ l. still_marked queries m.nodes.items q.nodes.items marked l.marks)
    (finished_left r hand grouping (forced cause) (forced_finishes cause) at last p m q before now held n unended found changed order_is begun_is index_is free_is rows_is left)
