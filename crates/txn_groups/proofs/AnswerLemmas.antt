-- What queries say of the group of visits, by the marks that nodes keep.
use Rattle.std.proofs.Common.{◌≡◌, ◌+◌, ◌<◌, ◌≤◌, ⊎_elim, inl, inr, ℕ, zero, suc, Bool, Some, None, List, [], ◌∷◌, ◌++◌, length, map, take, get_or, refl, ap, sym, ◌∙◌, arith}
use Rattle.std.specs.Prelude.{slice_get}
use Rattle.std.specs.Option.{option_map}
use Rattle.std.proofs.lemmas.List.{length-map, get_or-map, map_more, take_all}
use Rattle.std.proofs.lemmas.Option.{slice_get-map, slice_get-get_or}
use Rattle.vsl_record.specs.declared.record_type.Record.{Record}
use Rattle.txn_rows.specs.declared.group.Group.{Group}
use Rattle.txn_rows.specs.declared.group.Member.{Member}
use Rattle.txn_rows.specs.Links.{parent_vxid}
use Rattle.query_parser.specs.declared.query.Query.{Query}
use Rattle.query_eval.specs.declared.asker.Asker.{Asker}
use Rattle.query_eval.specs.Asker.{asker_query}
use Rattle.query_eval.specs.Meaning.{is_held}
use Rattle.query_eval.specs.Marks.{answer_of, marks_of, tests_of}
use Rattle.query_eval.proofs.MarkLemmas.{unmarked_member}
use Rattle.txn_groups.specs.declared.node.Node.{Node}
use Rattle.txn_groups.specs.declared.walk.Visit.{Visit}
use Rattle.txn_groups.specs.inside.Walked.{member_at, members_of}
use Rattle.txn_groups.specs.inside.Marked.{marks_for, AreMarksOf, AreMarked, IsMarkedFor, AreMarkedFor}
use Rattle.txn_groups.proofs.TakenLemmas.{members_add, take_more, take_whole}

-- the answer of so many visits, and of one more
pub answered_more : (query : Query) (nodes : List Node) (visits : List Visit) (i : ℕ) (v : Visit) (answer : List Bool) → i < length visits → v ≡ get_or visits i v →
    answer ≡ answer_of query (members_of nodes (take i visits) ++ member_at (slice_get nodes v.at) v.level) → answer ≡ answer_of query (members_of nodes (take (i + 1) visits))
answered_more query nodes visits i v answer within is answered =
    answered ∙ ap (answer_of query) (sym (members_add nodes (take i visits) v)) ∙ ap (λ (vs : List Visit). answer_of query (members_of nodes vs)) (sym (take_more visits i v within is))

pub answered_whole : (query : Query) (nodes : List Node) (visits : List Visit) (i : ℕ) (answer : List Bool) → length visits ≤ i →
    answer ≡ answer_of query (members_of nodes (take i visits)) → answer ≡ answer_of query (members_of nodes visits)
answered_whole query nodes visits i answer past answered = answered ∙ ap (λ (vs : List Visit). answer_of query (members_of nodes vs)) (take_whole visits i past)

-- the marks of the query at a place
marked_at : (queries : List Query) (place : ℕ) (query : Query) (x : Node) → slice_get queries place ≡ Some query → AreMarksOf queries x.records x.marks → IsMarkedFor query place x
marked_at queries place query x here marked = ⊎_elim
    (λ (none : (x.marks ≡ []) × (marks_for queries x.records ≡ marks_for queries [])).
    let told : (rs : List Record) → slice_get (marks_for queries rs) place ≡ Some (marks_of query rs) = λ rs. slice_get-map (λ (q : Query). marks_of q rs) queries place ∙ ap (option_map (λ (q : Query). marks_of q rs)) here in
    let same : Some (marks_of query x.records) ≡ Some (marks_of query []) = sym (told x.records) ∙ ap (λ (ms : List (List Bool)). slice_get ms place) none.1 ∙ told [] in
    inl (ap (λ (ms : List (List Bool)). slice_get ms place) none.0, cc))
    (λ (are : x.marks ≡ marks_for queries x.records). inr (
    ap (λ (ms : List (List Bool)). slice_get ms place) are
    ∙ slice_get-map (λ (q : Query). marks_of q x.records) queries place
    ∙ ap (option_map (λ (q : Query). marks_of q x.records)) here))
    marked

-- a member that has no marks changes no answer
pub answered_unmarked : (query : Query) (place level : ℕ) (x : Node) (members : List Member) (answer : List Bool) → slice_get x.marks place ≡ None → IsMarkedFor query place x → answer ≡ answer_of query members → answer ≡ answer_of query (members ++ member_at (Some x) level)
answered_unmarked query place level x members answer missing marked answered = ⊎_elim
    (λ (none : (slice_get x.marks place ≡ None) × (marks_of query x.records ≡ marks_of query [])).
    answered ∙ sym (unmarked_member (tests_of query) members (record { vxid = x.vxid; kind = x.kind; reason = x.reason; level = level; parent = parent_vxid x.parent; records = x.records }) none.1))
    (λ (some : slice_get x.marks place ≡ Some (marks_of query x.records)). let e : None ≡ Some (marks_of query x.records) = sym missing ∙ some in absurd (cc))
    marked

-- the query of an asker among others
query_at : (all : List Asker) (i : ℕ) (a : Asker) → i < length all → a ≡ get_or all i a → slice_get (map asker_query all) i ≡ Some (asker_query a)
query_at all i a within is = slice_get-map asker_query all i ∙ ap (option_map asker_query) (slice_get-get_or all i a within ∙ ap Some (sym is))

-- nodes that keep the marks of all queries keep those of each
pub marked_for : (all : List Asker) (nodes : List Node) (i : ℕ) (a : Asker) → i < length all → a ≡ get_or all i a → AreMarked (map asker_query all) nodes → AreMarkedFor (asker_query a) i nodes
marked_for all nodes i a within is marked = λ at x there. marked_at (map asker_query all) i (asker_query a) x (query_at all i a within is) (marked at x there)

-- the answers of so many queries, and of one more
pub answers_more : (all : List Asker) (group : Group) (i : ℕ) (a : Asker) (truths : List Bool) (truth : Bool) → i < length all → a ≡ get_or all i a → truth ≡ is_held (asker_query a) group →
    truths ≡ map (λ query. is_held query group) (take i (map asker_query all)) → truths ++ truth ∷ [] ≡ map (λ query. is_held query group) (take (i + 1) (map asker_query all))
answers_more all group i a truths truth within is told so_far =
    let holds : Query → Bool = λ query. is_held query group in
    let inside : i < length (map asker_query all) = omega (arith, within, length-map all asker_query) in
    let here : get_or (map asker_query all) i (asker_query a) ≡ asker_query a = get_or-map asker_query all i a (asker_query a) within ∙ ap asker_query (sym is) in
    ap (λ (ts : List Bool). ts ++ truth ∷ []) so_far
    ∙ ap (λ (b : Bool). map holds (take i (map asker_query all)) ++ b ∷ []) (told ∙ ap holds (sym here))
    ∙ sym (map_more holds (map asker_query all) i (asker_query a) inside)

pub answers_whole : (all : List Asker) (group : Group) (i : ℕ) (truths : List Bool) → length all ≤ i →
    truths ≡ map (λ query. is_held query group) (take i (map asker_query all)) → truths ≡ map (λ query. is_held query group) (map asker_query all)
answers_whole all group i truths past so_far =
    so_far ∙ ap (map (λ (query : Query). is_held query group)) (take_all i (map asker_query all) (omega (arith, past, length-map all asker_query)))
