-- A node ends, and its tree may leave.
use Rattle.std.proofs.Common.{◌≡◌, ◌<◌, ◌≤◌, ℕ, Bool, true, false, Option, Some, List, [], ◌++◌, length, map, set, get_or, refl, ap, sym, ◌∙◌, subst, arith}
use Rattle.std.specs.Prelude.{slice_get}
use Rattle.std.specs.Option.{option_map_or}
use Rattle.std.specs.declared.result.Result.{Result}
use Rattle.std.specs.Result.{OnOk}
use Rattle.std.proofs.lemmas.List.{set-get_or}
use Rattle.std.proofs.lemmas.Result.{on_ok_weaker}
use Rattle.txn_rows.specs.declared.rows.Row.{Row}
use Rattle.txn_rows.specs.declared.group.Group.{Group}
use Rattle.txn_rows.specs.declared.group.Grouping.{Grouping}
use Rattle.txn_rows.specs.Transaction.{Transaction, ended}
use Rattle.txn_rows.specs.Grouping.{Leaving, ended_one, reported}
use Rattle.txn_rows.specs.Trees.{row_of, transaction_of, Rising}
use Rattle.txn_rows.specs.inside.Rows.{row_told, left_rows, LeftRows}
use Rattle.txn_rows.specs.inside.Steps.{RowsStep}
use Rattle.txn_rows.proofs.TreeLemmas.{of_row, set_is_of_row}
use Rattle.txn_rows.proofs.StandLemmas.{of_row_keeps, told_keeps}
use Rattle.txn_rows.proofs.PendingLemmas.{ended_step}
use Rattle.query_parser.specs.declared.query.Query.{Query}
use Rattle.txn_groups.specs.declared.node.Node.{Node}
use Rattle.txn_groups.specs.declared.order.Entry.{Entry}
use Rattle.txn_groups.specs.declared.pending.Pending.{Pending}
use Rattle.txn_groups.specs.inside.Nodes.{StandsAt, HasRow, AreNodes}
use Rattle.txn_groups.specs.inside.Linked.{NodeAt}
use Rattle.txn_groups.specs.inside.Found.{IsLastOf}
use Rattle.txn_groups.specs.inside.Retold.{AreChanged, KeepsLinks}
use Rattle.txn_groups.specs.inside.Ended.{finished_node}
use Rattle.txn_groups.specs.inside.Indexed.{newest_in}
use Rattle.txn_groups.specs.inside.Held.{state_of, IsHeld, HoldsRows}
use Rattle.txn_groups.specs.inside.Marked.{AreMarked}
use Rattle.txn_groups.specs.inside.Leaves.{LeavesAs, WentBy}
use Rattle.txn_groups.proofs.ClaimLemmas.{Last, last_read}
use Rattle.txn_groups.proofs.EndLemmas.{Finishes, ended_finishes, finished_keeps, nodes_finished}
use Rattle.txn_groups.proofs.RetoldLemmas.{found_before}
use Rattle.txn_groups.proofs.TellLemmas.{tells}
use Rattle.txn_groups.proofs.HeldLemmas.{KeepsNames, names_of, stands_still, hold_still, went_by}
use Rattle.txn_groups.proofs.NewestLemmas.{RowPlace, NewestRow, newest_row}
use Rattle.txn_groups.proofs.EndMarksLemmas.{still_marked}

-- what an end comes to, before its tree may leave
pub record Ends (change : Transaction → Transaction) (p m : Pending) (rows : List Row) (row : Row) (last : ℕ) : Type 0 where
  pub hold : HoldsRows m (map (of_row row.serial (row_told change)) rows)
  pub node : NodeAt m.nodes.items (map (of_row row.serial (row_told change)) rows) last
  pub top : node.node.up ≡ last
  pub root : node.row.root ≡ row.root

pub ends : (change : Transaction → Transaction) → Finishes change → (p m : Pending) (rows : List Row) (at last : ℕ) (n : NodeAt p.nodes.items rows at) → HoldsRows p rows → n.node.ended ≡ false → IsLastOf p.nodes.items rows at last → AreChanged (finished_node change at last) p.nodes.items m.nodes.items →
    m.order.items ≡ p.order.items → m.begun ≡ p.begun → m.index ≡ p.index → m.free ≡ p.free → m.rows ≡ p.rows → Ends change p m rows n.row last
ends change fin p m rows at last n hold unended is changed order_is begun_is index_is free_is rows_is =
    let old = p.nodes.items in
    let new = m.nodes.items in
    let f : Row → Row = of_row n.row.serial (row_told change) in
    let g : ℕ → Node → Node = finished_node change at last in
    let z : Node = is.tree.other_node in
    let l : Last old rows n.row.root last z = last_read old rows at last n z is is.tree.other_there.here in
    let links : KeepsLinks g = finished_keeps change fin at last in
    let keeps : KeepsNames g = names_of g links in
    let are : AreNodes p.begun new p.order.items (map f rows) = nodes_finished p.begun old new p.order.items rows change fin at last n z hold.are unended l changed in
    let there = stands_still g old new last z keeps changed l.there in
    let has : HasRow (map f rows) (g last z) = are.stand.row last (g last z) there in
    let here : row_of z.serial (map f rows) ≡ Some has.row = ap (λ (s : ℕ). row_of s (map f rows)) (sym (keeps.serial last z)) ∙ has.found in
    let was = found_before f z.serial rows has.row (of_row_keeps n.row.serial (row_told change) rows (told_keeps change rows)) here in
    let one : Some was.0 ≡ Some l.row = sym was.1 ∙ l.found in
    let same : was.0 ≡ l.row = (cc) in
    record {
      hold = hold_still g f p m rows keeps hold are changed order_is begun_is index_is free_is rows_is;
      node = record { node = g last z; there = there; row = has.row; found = has.found };
      top = links.up last z ∙ l.last;
      root = ap (λ (r : Row). r.root) was.2 ∙ (of_row_keeps n.row.serial (row_told change) rows (told_keeps change rows)).root was.0 ∙ ap (λ (r : Row). r.root) same ∙ l.tree;
    }

-- a row at a place tells its transaction, changed, and its tree may leave: by a step of rows
pub record StepsBy (grouping : Grouping) (change : Transaction → Transaction) (step : Leaving) (begun : ℕ) (time : Option ℕ) (rows : List Row) (row : Row) : Type 0 where
  pub at : ℕ
  pub within : at < length rows
  pub read : row ≡ get_or rows at row
  pub leaves : (last : List Row) (before now : List Group) → LeftRows grouping (left_rows row.root (set rows at (row_told change row))) last before now → RowsStep grouping step begun time last before now

-- the same step of nodes
pub finished_went : {L : Type 0} (hand : Group → L) (grouping : Grouping) (change : Transaction → Transaction) (step : Leaving) (p m q : Pending) (rows : List Row) (row : Row) (before now : List L) → AreNodes p.begun p.nodes.items p.order.items rows → StepsBy grouping change step p.begun p.time rows row → m.begun ≡ p.begun → m.time ≡ p.time →
    LeavesAs hand grouping row.root (map (of_row row.serial (row_told change)) rows) m q before now → WentBy hand grouping step q before now
finished_went hand grouping change step p m q rows row before now are by begun_is time_is left =
    let new : Row = row_told change row in
    let all : List Row = map (of_row row.serial (row_told change)) rows in
    let last : List Row = (left_rows row.root all).rows in
    let groups : List Group = reported grouping (left_rows row.root all).groups in
    let whole : set rows by.at new ≡ all = set_is_of_row (row_told change) 0 p.begun by.at rows row new are.trees.rising by.within by.read refl in
    let went : RowsStep grouping step p.begun p.time last [] groups = by.leaves last [] groups (record {
      rows = ap (λ (rs : List Row). (left_rows row.root rs).rows) (sym whole);
      groups = ap (λ (rs : List Row). reported grouping (left_rows row.root rs).groups) (sym whole);
    }) in
    let now_is = went_by q last (map transaction_of last) p.begun p.time left.hold refl (left.begun ∙ begun_is) (left.time ∙ time_is) in
    record { kept = now_is.kept; state = now_is.told ∙ went.state; groups = left.groups ∙ ap (λ (gs : List Group). before ++ map hand gs) went.groups }

-- what the walk up from a place says
abbrev pub IsLastFrom : Pending → ℕ → ℕ → Type 0
IsLastFrom p at last = (begun : ℕ) (order : List Entry) (rows : List Row) (x : Node) → AreNodes begun p.nodes.items order rows → length rows ≤ p.rows → StandsAt p.nodes.items at x → IsLastOf p.nodes.items rows at last

-- what a tree that may leave says, of each way to see its last node
abbrev pub MayLeave : {T E L : Type 0} → Result T E → (Group → L) → Grouping → ℕ → Pending → Pending → List L → List L → Type 0
MayLeave r hand grouping last m q before now = (rows : List Row) (n : NodeAt m.nodes.items rows last) → HoldsRows m rows → n.node.up ≡ last → OnOk r (LeavesAs hand grouping n.row.root rows m q before now)

-- one ends and its tree may leave, from what the calls say
pub finished_left : {T E L : Type 0} (r : Result T E) (hand : Group → L) (grouping : Grouping) (change : Transaction → Transaction) → Finishes change → (at last : ℕ) (p m q : Pending) (before now : List L) → (held : IsHeld p) → (n : NodeAt p.nodes.items held.stand at) → n.node.ended ≡ false →
    IsLastFrom p at last → AreChanged (finished_node change at last) p.nodes.items m.nodes.items →
    m.order.items ≡ p.order.items → m.begun ≡ p.begun → m.index ≡ p.index → m.free ≡ p.free → m.rows ≡ p.rows →
    MayLeave r hand grouping last m q before now → OnOk r (LeavesAs hand grouping n.row.root (map (of_row n.row.serial (row_told change)) held.stand) m q before now)
finished_left r hand grouping change fin at last p m q before now held n unended found changed order_is begun_is index_is free_is rows_is left =
    let rows : List Row = held.stand in
    let hold : HoldsRows p rows = record { are = held.are; index = held.index; free = held.free; counted = held.counted } in
    let is : IsLastOf p.nodes.items rows at last = found p.begun p.order.items rows n.node held.are (omega (arith, held.counted)) n.there in
    let row : Row = n.row in
    let e : Ends change p m rows row last = ends change fin p m rows at last n hold unended is changed order_is begun_is index_is free_is rows_is in
    let all : List Row = map (of_row row.serial (row_told change)) rows in
    subst (λ (root : ℕ). OnOk r (LeavesAs hand grouping root all m q before now)) e.root (left all e.node e.hold e.top)

-- the place of the newest node is that of its row
newest_steps : (grouping : Grouping) (v at : ℕ) (p : Pending) → (held : IsHeld p) → (w : NewestRow p held.stand v at) → StepsBy grouping ended (ended_one v (state_of p)) p.begun p.time held.stand w.node.row
newest_steps grouping v at p held w =
    let rows : List Row = held.stand in
    let row : Row = w.node.row in
    record {
      at = w.place.at;
      within = w.place.is.within;
      read = w.place.read;
      leaves = λ last before now left.
          subst (λ (ts : List Transaction). RowsStep grouping (ended_one v (record { pending = ts; begun = p.begun; time = p.time })) p.begun p.time last before now) (sym (tells p.begun p.nodes.items p.order.items rows held.are))
          (ended_step grouping p.begun v w.place.at p.time rows row (row_told ended row) last before now held.are.trees w.place.is w.place.read refl left);
    }

newest_held : (p : Pending) (v at : ℕ) → (held : IsHeld p) → newest_in p.index v ≡ Some at → NewestRow p held.stand v at
newest_held p v at held told = newest_row p held.stand v at (record { are = held.are; index = held.index; free = held.free; counted = held.counted }) told

-- an end, from what its calls say
pub ended_left : {T E L : Type 0} (r : Result T E) (hand : Group → L) (grouping : Grouping) (v at last : ℕ) (p m q : Pending) (before now : List L) → (held : IsHeld p) → (w : NewestRow p held.stand v at) → option_map_or (λ (x : Node). x.ended) (slice_get p.nodes.items at) true ≡ false → IsLastFrom p at last → AreChanged (finished_node ended at last) p.nodes.items m.nodes.items →
    m.order.items ≡ p.order.items → m.begun ≡ p.begun → m.index ≡ p.index → m.free ≡ p.free → m.rows ≡ p.rows →
    MayLeave r hand grouping last m q before now → OnOk r (LeavesAs hand grouping w.node.row.root (map (of_row w.node.row.serial (row_told ended)) held.stand) m q before now)
ended_left r hand grouping v at last p m q before now held w opened found changed order_is begun_is index_is free_is rows_is left =
    let unended : w.node.node.ended ≡ false = sym (ap (λ (o : Option Node). option_map_or (λ (x : Node). x.ended) o true) w.node.there.here) ∙ opened in
    finished_left r hand grouping ended ended_finishes at last p m q before now held w.node unended found changed order_is begun_is index_is free_is rows_is left

pub ended_all : {T E L : Type 0} (r : Result T E) (hand : Group → L) (grouping : Grouping) (v at last : ℕ) (p m q : Pending) (before now : List L) → (held : IsHeld p) → newest_in p.index v ≡ Some at → option_map_or (λ (x : Node). x.ended) (slice_get p.nodes.items at) true ≡ false → IsLastFrom p at last → AreChanged (finished_node ended at last) p.nodes.items m.nodes.items →
    m.order.items ≡ p.order.items → m.begun ≡ p.begun → m.index ≡ p.index → m.free ≡ p.free → m.rows ≡ p.rows → m.time ≡ p.time →
    MayLeave r hand grouping last m q before now → OnOk r (WentBy hand grouping (ended_one v (state_of p)) q before now)
ended_all r hand grouping v at last p m q before now held told opened found changed order_is begun_is index_is free_is rows_is time_is left =
    let w : NewestRow p held.stand v at = newest_held p v at held told in
    on_ok_weaker r (λ l. finished_went hand grouping ended (ended_one v (state_of p)) p m q held.stand w.node.row before now held.are (newest_steps grouping v at p held w) begun_is time_is l)
    (ended_left r hand grouping v at last p m q before now held w opened found changed order_is begun_is index_is free_is rows_is left)

-- and its nodes keep their marks
pub ended_keeps : {T E L : Type 0} (r : Result T E) (hand : Group → L) (grouping : Grouping) (queries : List Query) (v at last : ℕ) (p m q : Pending) (before now : List L) → (held : IsHeld p) → newest_in p.index v ≡ Some at → option_map_or (λ (x : Node). x.ended) (slice_get p.nodes.items at) true ≡ false → IsLastFrom p at last → AreChanged (finished_node ended at last) p.nodes.items m.nodes.items →
    m.order.items ≡ p.order.items → m.begun ≡ p.begun → m.index ≡ p.index → m.free ≡ p.free → m.rows ≡ p.rows → AreMarked queries m.nodes.items →
    MayLeave r hand grouping last m q before now → OnOk r (AreMarked queries q.nodes.items)
ended_keeps r hand grouping queries v at last p m q before now held told opened found changed order_is begun_is index_is free_is rows_is marked left =
    let w : NewestRow p held.stand v at = newest_held p v at held told in
    on_ok_weaker r (λ l. still_marked queries m.nodes.items q.nodes.items marked l.marks)
    (ended_left r hand grouping v at last p m q before now held w opened found changed order_is begun_is index_is free_is rows_is left)

-- a row that has ended tells that it ends, and stays
told_again : (row : Row) → row.ended ≡ true → row_told ended row ≡ row
told_again row done = ap {B = Row} (λ (b : Bool). record row { ended = b }) (sym done)

-- where it is the newest, all rows stay
rows_again : (v begun : ℕ) (rows : List Row) (row : Row) → RowPlace v rows row → Rising 0 begun rows → row.ended ≡ true → rows ≡ map (of_row row.serial (row_told ended)) rows
rows_again v begun rows row place rising done =
    sym (set-get_or rows place.at row)
    ∙ ap (set rows place.at) (sym place.read)
    ∙ set_is_of_row (row_told ended) 0 begun place.at rows row row rising place.is.within place.read (sym (told_again row done))

-- the newest has ended already, and its tree may leave
again_left : {T E L : Type 0} (r : Result T E) (hand : Group → L) (grouping : Grouping) (v at last : ℕ) (p q : Pending) (before now : List L) → (held : IsHeld p) → (w : NewestRow p held.stand v at) → IsLastFrom p at last →
    MayLeave r hand grouping last p q before now → OnOk r (LeavesAs hand grouping w.node.row.root held.stand p q before now)
again_left r hand grouping v at last p q before now held w found left =
    let rows : List Row = held.stand in
    let is : IsLastOf p.nodes.items rows at last = found p.begun p.order.items rows w.node.node held.are (omega (arith, held.counted)) w.node.there in
    let z : Node = is.tree.other_node in
    let l : Last p.nodes.items rows w.node.row.root last z = last_read p.nodes.items rows at last w.node z is is.tree.other_there.here in
    subst (λ (root : ℕ). OnOk r (LeavesAs hand grouping root rows p q before now)) l.tree
    (left rows (record { node = z; there = l.there; row = l.row; found = l.found }) (record { are = held.are; index = held.index; free = held.free; counted = held.counted }) l.last)

pub again_all : {T E L : Type 0} (r : Result T E) (hand : Group → L) (grouping : Grouping) (v at last : ℕ) (p q : Pending) (before now : List L) → (held : IsHeld p) → newest_in p.index v ≡ Some at → option_map_or (λ (x : Node). x.ended) (slice_get p.nodes.items at) true ≡ true → IsLastFrom p at last →
    MayLeave r hand grouping last p q before now → OnOk r (WentBy hand grouping (ended_one v (state_of p)) q before now)
again_all r hand grouping v at last p q before now held told closed found left =
    let rows : List Row = held.stand in
    let w : NewestRow p rows v at = newest_held p v at held told in
    let row : Row = w.node.row in
    let node_done : w.node.node.ended ≡ true = sym (ap (λ (o : Option Node). option_map_or (λ (x : Node). x.ended) o true) w.node.there.here) ∙ closed in
    let has : HasRow rows w.node.node = held.are.stand.row at w.node.node w.node.there in
    let one : Some has.row ≡ Some row = sym has.found ∙ w.node.found in
    let same : has.row ≡ row = (cc) in
    let done : row.ended ≡ true = ap (λ (r : Row). r.ended) (sym same) ∙ ap (λ (r : Row). r.ended) has.is ∙ node_done in
    let all = rows_again v p.begun rows row w.place held.are.trees.rising done in
    on_ok_weaker r (λ l. finished_went hand grouping ended (ended_one v (state_of p)) p p q rows row before now held.are (newest_steps grouping v at p held w) refl refl
    (subst (λ (rs : List Row). LeavesAs hand grouping row.root rs p q before now) all l))
    (again_left r hand grouping v at last p q before now held w found left)

-- and its nodes keep their marks
pub again_keeps : {T E L : Type 0} (r : Result T E) (hand : Group → L) (grouping : Grouping) (queries : List Query) (v at last : ℕ) (p q : Pending) (before now : List L) → (held : IsHeld p) → newest_in p.index v ≡ Some at → IsLastFrom p at last → AreMarked queries p.nodes.items →
    MayLeave r hand grouping last p q before now → OnOk r (AreMarked queries q.nodes.items)
again_keeps r hand grouping queries v at last p q before now held told found marked left =
    on_ok_weaker r (λ l. still_marked queries p.nodes.items q.nodes.items marked l.marks)
    (again_left r hand grouping v at last p q before now held (newest_held p v at held told) found left)
