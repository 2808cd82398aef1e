-- Where the nodes of a walk over a tree were taken out, the tree has left.
use Rattle.std.proofs.Common.{◌≡◌, ◌+◌, ◌<◌, ◌≤◌, ⊎_elim, inl, inr, ℕ, Bool, true, false, not, eqb, Option, Some, None, List, [], ◌∷◌, ◌++◌, length, map, refl, ap, sym, ◌∙◌, subst, arith}
use Rattle.std.specs.Prelude.{slice_get}
use Rattle.std.proofs.lemmas.Bool.{eqb-true, eq-eqb}
use Rattle.std.proofs.lemmas.List.{append-nil}
use Rattle.std.proofs.lemmas.List.Sums.{length-filter}
use Rattle.std.proofs.lemmas.List.Filters.{length-filter_both}
use Rattle.std.specs.declared.result.Result.{Result}
use Rattle.std.specs.Result.{OnOk}
use Rattle.txn_rows.specs.declared.rows.Row.{Row}
use Rattle.txn_rows.specs.declared.group.Member.{Member}
use Rattle.txn_rows.specs.declared.group.Group.{Group}
use Rattle.txn_rows.specs.declared.group.Grouping.{Grouping}
use Rattle.txn_rows.specs.Grouping.{is_session, is_led_by_session, is_reported, reported}
use Rattle.txn_rows.specs.Trees.{row_of}
use Rattle.txn_rows.specs.inside.Rows.{rows_below, rows_beside, rows_in_preorder, RowsLeft}
use Rattle.txn_rows.proofs.LineLemmas.{by_cases, row_of_serial}
use Rattle.txn_rows.proofs.StandLemmas.{root_found}
use Rattle.query_parser.specs.declared.query.Query.{Query}
use Rattle.query_eval.specs.declared.chosen.Chosen.{Chosen}
use Rattle.query_eval.specs.Meaning.{is_held}
use Rattle.txn_groups.specs.Groups.{chosen}
use Rattle.txn_groups.specs.declared.node.Node.{Node}
use Rattle.txn_groups.specs.declared.order.Entry.{Entry}
use Rattle.txn_groups.specs.declared.pending.Pending.{Pending}
use Rattle.txn_groups.specs.declared.walk.Visit.{Visit}
use Rattle.txn_groups.specs.inside.Nodes.{IsIn, StandsAt, AreNodes}
use Rattle.txn_groups.specs.inside.Linked.{NodeAt}
use Rattle.txn_groups.specs.inside.Left.{AreLeft}
use Rattle.txn_groups.specs.inside.Walked.{IsTopAt, IsVisit, Visits, AreVisits, member_at, members_of, visited_group}
use Rattle.txn_groups.specs.inside.Taken.{ComesTo, AreStanding, AreTaken}
use Rattle.txn_groups.specs.inside.Held.{HoldsRows}
use Rattle.txn_groups.specs.inside.Marked.{AreMarked}
use Rattle.txn_groups.specs.inside.Leaves.{AreHanded, LeavesAs}
use Rattle.txn_groups.proofs.SetLemmas.{AllOf, InRow, all_at}
use Rattle.txn_groups.proofs.PreorderLemmas.{all_preorder, in_preorder, length_preorder, tree_in_row, before_one_way}
use Rattle.txn_groups.proofs.StackLemmas.{Before}
use Rattle.txn_groups.proofs.LeftLemmas.{nodes_left}
use Rattle.txn_groups.proofs.LeaveLemmas.{leaves_as, stays_as}
use Rattle.txn_groups.proofs.FoundLemmas.{same_node, none_there}
use Rattle.txn_groups.proofs.EndMarksLemmas.{taken_keeps, same_keep}

-- a row that is found is in the list
row_in : (rows : List Row) (s : ℕ) (row : Row) → row_of s rows ≡ Some row → IsIn rows row
row_in [] s row here = absurd (let e : None ≡ Some row = here in cc)
row_in (first ∷ rows) s row here =
    by_cases (IsIn (first ∷ rows) row) (eqb first.serial s)
    (λ t. let same : Some first ≡ Some row = rw t at here in let is : row ≡ first = (cc) in inl is)
    (λ t. inr (row_in rows s row (rw t at here)))

below_in : (root : ℕ) (rows : List Row) (row : Row) → IsIn rows row → row.root ≡ root → IsIn (rows_below root rows) row
below_in root [] row i own = i
below_in root (first ∷ rows) row i own =
    by_cases (IsIn (rows_below root (first ∷ rows)) row) (eqb first.root root)
    (λ t. rw t (⊎_elim (λ (e : row ≡ first). inl e) (λ (later : IsIn rows row). inr (below_in root rows row later own)) i))
    (λ t. rw t (⊎_elim
    (λ (e : row ≡ first). let both : true ≡ false = sym (eq-eqb first.root root (sym (ap (λ (r : Row). r.root) e) ∙ own)) ∙ t in absurd (cc))
    (λ (later : IsIn rows row). below_in root rows row later own)
    i))

below_roots : (root : ℕ) (rows : List Row) → AllOf (λ (r : Row). r.root ≡ root) (rows_below root rows)
below_roots root [] = tt
below_roots root (first ∷ rows) =
    by_cases (AllOf (λ (r : Row). r.root ≡ root) (rows_below root (first ∷ rows))) (eqb first.root root)
    (λ t. rw t (eqb-true first.root root t, below_roots root rows))
    (λ t. rw t (below_roots root rows))

-- a row of the tree is visited
record Visited (nodes : List Node) (rows : List Row) (row : Row) (visits : List Visit) : Type 0 where
  v : Visit
  is : IsVisit nodes rows row v
  comes : ComesTo visits v.at

visited : (nodes : List Node) (rows tree : List Row) (visits : List Visit) (row : Row) → Visits nodes rows tree visits → IsIn tree row → Visited nodes rows row visits
visited nodes rows [] visits row all i = absurd i
visited nodes rows (r ∷ tree) [] row all i = absurd all
visited nodes rows (r ∷ tree) (w ∷ visits) row all i = ⊎_elim
    (λ (e : row ≡ r). record { v = w; is = subst (λ (x : Row). IsVisit nodes rows x w) (sym e) all.0; comes = inl refl })
    (λ (later : IsIn tree row). let u = visited nodes rows tree visits row all.1 later in record { v = u.v; is = u.is; comes = inr u.comes })
    i

-- what is visited is a row of the tree
record VisitOf (nodes : List Node) (rows tree : List Row) (at : ℕ) : Type 0 where
  row : Row
  inside : IsIn tree row
  v : Visit
  is : IsVisit nodes rows row v
  here : v.at ≡ at

visit_of_row : (nodes : List Node) (rows tree : List Row) (visits : List Visit) (at : ℕ) → Visits nodes rows tree visits → ComesTo visits at → VisitOf nodes rows tree at
visit_of_row nodes rows tree [] at all comes = absurd comes
visit_of_row nodes rows [] (w ∷ visits) at all comes = absurd all
visit_of_row nodes rows (r ∷ tree) (w ∷ visits) at all comes = ⊎_elim
    (λ (e : w.at ≡ at). record { row = r; inside = inl refl; v = w; is = all.0; here = e })
    (λ (later : ComesTo visits at). let u = visit_of_row nodes rows tree visits at all.1 later in record { row = u.row; inside = inr u.inside; v = u.v; is = u.is; here = u.here })
    comes

as_many : (nodes : List Node) (rows tree : List Row) (visits : List Visit) → Visits nodes rows tree visits → length visits ≡ length tree
as_many nodes rows [] [] all = refl
as_many nodes rows [] (v ∷ visits) all = absurd all
as_many nodes rows (r ∷ tree) [] all = absurd all
as_many nodes rows (r ∷ tree) (v ∷ visits) all = omega (arith, as_many nodes rows tree visits all.1)

-- the nodes of rows in their strict order stand, each at another place
stand_in_row : (nodes : List Node) (rows tree : List Row) (visits : List Visit) → InRow Before tree → Visits nodes rows tree visits → AreStanding nodes visits
stand_in_row nodes rows [] [] o all = tt
stand_in_row nodes rows [] (v ∷ visits) o all = absurd all
stand_in_row nodes rows (r ∷ tree) [] o all = absurd all
stand_in_row nodes rows (r ∷ tree) (v ∷ visits) o all = (
  record {
    node = all.0.node;
    there = all.0.there;
    once = λ comes.
        let u = visit_of_row nodes rows tree visits v.at all.1 comes in
        let same : u.is.node ≡ all.0.node = same_node nodes v.at u.is.node all.0.node (subst (λ (n : ℕ). StandsAt nodes n u.is.node) u.here u.is.there) all.0.there.here in
        let one : Some u.row ≡ Some r = sym u.is.found ∙ ap (λ (n : Node). row_of n.serial rows) same ∙ all.0.found in
        let is : u.row ≡ r = (cc) in
        let self : Before r r = subst (Before r) is (all_at (Before r) tree u.row o.0 u.inside) in
        before_one_way r r self self;
  },
  stand_in_row nodes rows tree visits o.1 all.1,
)

-- the nodes of the visits of a tree stand, each at another place
pub visits_stand : (begun root : ℕ) (nodes : List Node) (order : List Entry) (rows : List Row) (visits : List Visit) → AreNodes begun nodes order rows → AreVisits nodes rows root visits → AreStanding nodes visits
visits_stand begun root nodes order rows visits are all = stand_in_row nodes rows (rows_in_preorder (rows_below root rows)) visits (tree_in_row begun root rows are.trees are.numbered) all

-- and are no more than all that are counted
pub visits_few : (root : ℕ) (p : Pending) (rows : List Row) (visits : List Visit) → HoldsRows p rows → AreVisits p.nodes.items rows root visits → length visits ≤ p.rows
visits_few root p rows visits hold all =
    let parts = length-filter_both (λ (r : Row). eqb r.root root) (λ (r : Row). not (eqb r.root root)) (λ r. refl) rows in
    omega (arith, as_many p.nodes.items rows (rows_in_preorder (rows_below root rows)) visits all, length_preorder (rows_below root rows), parts, hold.counted)

-- the nodes of the tree stand no more
tree_left : (begun root : ℕ) (p q : Pending) (order : List Entry) (rows : List Row) (visits : List Visit) (group : List Member) → AreNodes begun p.nodes.items order rows → AreVisits p.nodes.items rows root visits → AreTaken p q visits group → AreLeft p.nodes.items q.nodes.items rows root
tree_left begun root p q order rows visits group are all taken =
    let old = p.nodes.items in
    let tree : List Row = rows_in_preorder (rows_below root rows) in
    record {
      gone = λ at x row there found own y now.
          let u = visited old rows tree visits row all (in_preorder (rows_below root rows) row (below_in root rows row (row_in rows x.serial row found) own)) in
          let serial : u.is.node.serial ≡ x.serial = sym (row_of_serial u.is.node.serial rows row u.is.found) ∙ row_of_serial x.serial rows row found in
          let place : u.v.at ≡ at = are.stand.one u.v.at at u.is.node x u.is.there there serial in
          (taken.were at y now).1 (subst (ComesTo visits) place u.comes);
      remain = λ at x row there found apart. taken.remain at x there (λ comes.
          let u = visit_of_row old rows tree visits at all comes in
          let same : u.is.node ≡ x = same_node old at u.is.node x (subst (λ (n : ℕ). StandsAt old n u.is.node) u.here u.is.there) there.here in
          let one : Some u.row ≡ Some row = sym u.is.found ∙ ap (λ (n : Node). row_of n.serial rows) same ∙ found in
          let is : u.row ≡ row = (cc) in
          apart (sym (ap (λ (r : Row). r.root) is) ∙ all_at (λ (r : Row). r.root ≡ root) tree u.row (all_preorder (λ (r : Row). r.root ≡ root) (rows_below root rows) (below_roots root rows)) u.inside));
      were = λ at y there. (taken.were at y there).0;
      kin = taken.kin.kin;
    }

-- nodes hold the rows beside the tree
rows_left : (root : ℕ) (p q : Pending) (rows : List Row) (visits : List Visit) (group : List Member) → HoldsRows p rows → AreVisits p.nodes.items rows root visits → AreTaken p q visits group → HoldsRows q (rows_beside root rows)
rows_left root p q rows visits group hold all taken =
    let now = nodes_left p.begun root p.nodes.items q.nodes.items p.order.items rows hold.are (tree_left p.begun root p q p.order.items rows visits group hold.are all taken) in
    let count = as_many p.nodes.items rows (rows_in_preorder (rows_below root rows)) visits all in
    let parts = length-filter_both (λ (r : Row). eqb r.root root) (λ (r : Row). not (eqb r.root root)) (λ r. refl) rows in
    record {
      are = subst (λ (b : ℕ). AreNodes b q.nodes.items q.order.items (rows_beside root rows)) (sym taken.begun) (subst (λ (o : List Entry). AreNodes p.begun q.nodes.items o (rows_beside root rows)) (sym taken.order) now);
      index = taken.index;
      free = taken.free;
      counted = omega (arith, count, length_preorder (rows_below root rows), parts, taken.rows, hold.counted);
    }

-- the first visit comes to a node
pub first_there : (nodes : List Node) (visits : List Visit) (v : Visit) → slice_get visits 0 ≡ Some v → AreStanding nodes visits → slice_get nodes v.at ≡ None → ⊥
first_there nodes [] v first all past = absurd (let f : None ≡ Some v = first in cc)
first_there nodes (w ∷ visits) v first all past =
    let same : Some w ≡ Some v = first in
    let is : w ≡ v = (cc) in
    none_there nodes w.at all.0.node all.0.there (ap (λ (u : Visit). slice_get nodes u.at) is ∙ past)

-- who leads the group of visits
pub led_by : (nodes : List Node) (visits : List Visit) (v : Visit) (x : Node) → slice_get visits 0 ≡ Some v → slice_get nodes v.at ≡ Some x → is_session x.kind ≡ is_led_by_session (members_of nodes visits)
led_by nodes [] v x first here = absurd (let f : None ≡ Some v = first in cc)
led_by nodes (w ∷ visits) v x first here =
    let same : Some w ≡ Some v = first in
    let is : w ≡ v = (cc) in
    sym (ap (λ (u : Visit). is_led_by_session (member_at (slice_get nodes u.at) u.level ++ members_of nodes visits)) is
    ∙ ap (λ (o : Option Node). is_led_by_session (member_at o v.level ++ members_of nodes visits)) here)

-- of one group that left
filter_one : (grouping : Grouping) (group : Group) → is_reported grouping group ≡ true → reported grouping (group ∷ []) ≡ group ∷ []
filter_one grouping group told = rw told refl

filter_none : (grouping : Grouping) (group : Group) → is_reported grouping group ≡ false → reported grouping (group ∷ []) ≡ []
filter_none grouping group told = rw told refl

-- the group of visits is handed out, where it is reported
pub group_handed : (queries : List Query) (grouping : Grouping) (p q : Pending) (visits : List Visit) (members : List Member) (truths : List Bool) (before now : List Chosen) → is_reported grouping (visited_group p.nodes.items visits) ≡ true → AreTaken p q visits members → truths ≡ map (λ query. is_held query (visited_group p.nodes.items visits)) queries →
    now ≡ before ++ record { group = record { members = members }; holds = truths } ∷ [] → AreHanded (chosen queries) grouping p q visits before now
group_handed queries grouping p q visits members truths before now told taken answered out =
    let whole : List Member = members_of p.nodes.items visits in
    record {
      taken = subst (AreTaken p q visits) taken.members taken;
      groups = out
          ∙ ap (λ (ms : List Member). before ++ record { group = record { members = ms }; holds = truths } ∷ []) taken.members
          ∙ ap (λ (ts : List Bool). before ++ record { group = record { members = whole }; holds = ts } ∷ []) answered
          ∙ ap (λ (gs : List Group). before ++ map (chosen queries) gs) (sym (filter_one grouping (visited_group p.nodes.items visits) told));
    }

pub none_handed : (queries : List Query) (grouping : Grouping) (p q : Pending) (visits : List Visit) (members : List Member) (before : List Chosen) → is_reported grouping (visited_group p.nodes.items visits) ≡ false → AreTaken p q visits members → AreHanded (chosen queries) grouping p q visits before before
none_handed queries grouping p q visits members before told taken = record {
  taken = subst (AreTaken p q visits) taken.members taken;
  groups = sym (append-nil before) ∙ ap (λ (gs : List Group). before ++ map (chosen queries) gs) (sym (filter_none grouping (visited_group p.nodes.items visits) told));
}

-- what was asked by these queries
pub handed_of : {T E : Type 0} (r : Result T E) (asked queries : List Query) (grouping : Grouping) (p q : Pending) (visits : List Visit) (before now : List Chosen) → asked ≡ queries → AreMarked queries p.nodes.items →
    (AreMarked asked p.nodes.items → OnOk r (AreHanded (chosen asked) grouping p q visits before now)) → OnOk r (AreHanded (chosen queries) grouping p q visits before now)
handed_of r asked queries grouping p q visits before now same marked handed =
    subst (λ (qs : List Query). OnOk r (AreHanded (chosen qs) grouping p q visits before now)) same (handed (subst (λ (qs : List Query). AreMarked qs p.nodes.items) (sym same) marked))

-- a tree leaves
pub tree_leaves : {L : Type 0} (hand : Group → L) (grouping : Grouping) (last : ℕ) (p q : Pending) (rows : List Row) (n : NodeAt p.nodes.items rows last) (visits : List Visit) (before now : List L) → HoldsRows p rows → n.node.up ≡ last → n.node.unended ≡ 0 → AreVisits p.nodes.items rows n.row.root visits → AreHanded hand grouping p q visits before now → LeavesAs hand grouping n.row.root rows p q before now
tree_leaves hand grouping last p q rows n visits before now hold top none all handed =
    let root = n.row.root in
    let group : List Member = members_of p.nodes.items visits in
    let up = hold.are.up last n.node n.row n.there n.found in
    let is = leaves_as p.begun root p.nodes.items p.order.items rows visits hold.are (sym (up.unended top) ∙ none) all in
    record {
      hold = subst (HoldsRows q) (sym (ap (λ (l : RowsLeft). l.rows) is)) (rows_left root p q rows visits group hold all handed.taken);
      groups = handed.groups ∙ sym (ap (λ (l : RowsLeft). before ++ map hand (reported grouping l.groups)) is);
      marks = taken_keeps p q visits group handed.taken;
      begun = handed.taken.begun;
      time = handed.taken.time;
    }

-- a tree stays
pub tree_stays : {L : Type 0} (hand : Group → L) (grouping : Grouping) (last : ℕ) (p : Pending) (rows : List Row) (n : NodeAt p.nodes.items rows last) (before : List L) → HoldsRows p rows → n.node.up ≡ last → 0 < n.node.unended → LeavesAs hand grouping n.row.root rows p p before before
tree_stays hand grouping last p rows n before hold top some =
    let up = hold.are.up last n.node n.row n.there n.found in
    let is = stays_as n.row.root rows (omega (arith, up.unended top, some)) in
    record {
      hold = subst (HoldsRows p) (sym (ap (λ (l : RowsLeft). l.rows) is)) hold;
      groups = sym (append-nil before) ∙ sym (ap (λ (l : RowsLeft). before ++ map hand (reported grouping l.groups)) is);
      marks = same_keep p.nodes.items;
      begun = refl;
      time = refl;
    }

-- where the walk begins
pub top_of : (last : ℕ) (p : Pending) (rows : List Row) (n : NodeAt p.nodes.items rows last) → HoldsRows p rows → n.node.up ≡ last → IsTopAt p.nodes.items rows n.row.root n.node.size n.node.top
top_of last p rows n hold top =
    let up = hold.are.up last n.node n.row n.there n.found in
    let t = up.top top in
    let head = root_found (length n.row.path + 1) rows n.node.serial n.row hold.are.trees.forest n.found (omega arith) in
    record {
      node = t.0;
      there = t.1;
      is = t.2;
      row = head.row;
      found = head.found;
      root = head.is;
      top = head.top;
      counted = up.size top ∙ sym (length-filter (λ (r : Row). eqb r.root n.row.root) rows);
    }
