-- The marks of each of several queries.
use Rattle.std.proofs.Common.{◌≡◌, ◌==◌, ◌<◌, ◌≤◌, ⊎_elim, inl, true, ℕ, zero, suc, ◌+◌, ◌⊎◌, Some, None, List, [], ◌∷◌, ◌++◌, Bool, length, map, take, set, get_or, refl, ap, sym, ◌∙◌, add-one, arith}
use Rattle.std.specs.Prelude.{slice_get}
use Rattle.std.specs.List.{list_all, list_any}
use Rattle.std.proofs.lemmas.Bool.{and_parts, eqb-true}
use Rattle.std.proofs.lemmas.List.{length-map, get_or-map, map_more, nil_from_length, take_more}
use Rattle.std.proofs.Math.Seq.{map-set_same}
use Rattle.vsl_record.specs.declared.record_type.Record.{Record}
use Rattle.query_parser.specs.declared.query.Query.{Query}
use Rattle.query_parser.specs.declared.test.Test.{Test}
use Rattle.query_eval.specs.Meaning.{record_marks}
use Rattle.query_eval.specs.Marks.{marks_of, tests_in}
use Rattle.txn_groups.specs.inside.Marked.{marks_for, AreMarksOf}

-- an asker stays one of its query
pub same_queries : {A : Type 0} (f : A → Query) (all old : List A) (i : ℕ) (a new : A) → map f all ≡ map f old → f new ≡ f (get_or all i a) → map f (set all i new) ≡ map f old
same_queries f all old i a new same kept = map-set_same f all i new a kept ∙ same

-- one query more was asked
pub asked_more : {A C : Type 0} (f : A → Query) (g : Query → C) (all old : List A) (i : ℕ) (a : A) (truths : List C) (truth : C) → map f all ≡ map f old → i < length all → truth ≡ g (f (get_or all i a)) → truths ≡ take i (map g (map f old)) → truths ++ truth ∷ [] ≡ take (i + 1) (map g (map f old))
asked_more f g all old i a truths truth same within is so_far =
    let inside : i < length (map f all) = omega (arith, within, length-map all f) in
    let within_all : i < length (map g (map f old)) = omega (arith, inside, length-map (map f old) g, ap length same) in
    let here : get_or (map g (map f old)) i truth ≡ truth =
    ap (λ (l : List Query). get_or (map g l) i truth) (sym same) ∙ get_or-map g (map f all) i (f a) truth inside ∙ ap g (get_or-map f all i a (f a) within) ∙ sym is in
    ap (λ (l : List _). l ++ truth ∷ []) so_far ∙ ap (λ (t : _). take i (map g (map f old)) ++ t ∷ []) (sym here) ∙ sym (take_more (map g (map f old)) i truth within_all)

-- the marks of no records were made for each
pub none_marked : {A : Type 0} (f : A → Query) (all : List A) (n : ℕ) → length all ≤ n → map (λ a. marks_of (f a) []) (take n all) ≡ marks_for (map f all) []
none_marked f [] zero past = refl
none_marked f [] (suc n) past = refl
none_marked f (a ∷ all) zero past = absurd (omega (arith, past))
none_marked f (a ∷ all) (suc n) past = ap (λ (l : List (List Bool)). marks_of (f a) [] ∷ l) (none_marked f all n (omega (arith, past)))

-- the marks of records, and of those and more for so many queries
abbrev pub marked_to : ℕ → List Query → List Record → List Record → List (List Bool)
marked_to zero queries records more = marks_for queries records
marked_to (suc n) [] records more = []
marked_to (suc n) (query ∷ queries) records more = marks_of query (records ++ more) ∷ marked_to n queries records more

pub marked_length : (n : ℕ) (queries : List Query) (records more : List Record) → length (marked_to n queries records more) ≡ length queries
marked_length zero queries records more = length-map queries (λ query. marks_of query records)
marked_length (suc n) [] records more = refl
marked_length (suc n) (query ∷ queries) records more = ap suc (marked_length n queries records more)

read : (n : ℕ) (queries : List Query) (records more : List Record) (query : Query) (d : List Bool) → n < length queries → get_or (marked_to n queries records more) n d ≡ marks_of (get_or queries n query) records
read n [] records more query d within = absurd (omega (arith, within))
read zero (first ∷ queries) records more query d within = refl
read (suc n) (first ∷ queries) records more query d within = read n queries records more query d (omega (arith, within))

written : (n : ℕ) (queries : List Query) (records more : List Record) (query : Query) → n < length queries → set (marked_to n queries records more) n (marks_of (get_or queries n query) (records ++ more)) ≡ marked_to (suc n) queries records more
written n [] records more query within = absurd (omega (arith, within))
written zero (first ∷ queries) records more query within = refl
written (suc n) (first ∷ queries) records more query within = ap (λ (l : List (List Bool)). marks_of first (records ++ more) ∷ l) (written n queries records more query (omega (arith, within)))

-- the marks for one query more
pub marked_step : {A : Type 0} (f : A → Query) (all : List A) (queries : List Query) (i : ℕ) (a : A) (marks : List (List Bool)) (old new : List Bool) (records more : List Record) → map f all ≡ queries → i < length all → old ≡ get_or marks i old →
    ((rs : List Record) → old ≡ marks_of (f (get_or all i a)) rs → new ≡ marks_of (f (get_or all i a)) (rs ++ more)) → marks ≡ marked_to i queries records more → set marks i new ≡ marked_to (i + 1) queries records more
marked_step f all queries i a marks old new records more same within was added so_far =
    let inside : i < length queries = omega (arith, within, length-map all f, ap length same) in
    let query : get_or queries i (f a) ≡ f (get_or all i a) = ap (λ (l : List Query). get_or l i (f a)) (sym same) ∙ get_or-map f all i a (f a) within in
    let before : old ≡ marks_of (f (get_or all i a)) records = was ∙ ap (λ (l : List (List Bool)). get_or l i old) so_far ∙ read i queries records more (f a) old inside ∙ ap (λ (q : Query). marks_of q records) query in
    ap (λ (l : List (List Bool)). set l i new) so_far
    ∙ ap (set (marked_to i queries records more) i) (added records before ∙ ap (λ (q : Query). marks_of q (records ++ more)) (sym query))
    ∙ rw add-one (written i queries records more (f a) inside)

-- the marks for all
pub marked_whole : (n : ℕ) (queries : List Query) (records more : List Record) → length queries ≤ n → marked_to n queries records more ≡ marks_for queries (records ++ more)
marked_whole zero [] records more past = refl
marked_whole zero (query ∷ queries) records more past = absurd (omega (arith, past))
marked_whole (suc n) [] records more past = refl
marked_whole (suc n) (query ∷ queries) records more past = ap (λ (l : List (List Bool)). marks_of query (records ++ more) ∷ l) (marked_whole n queries records more (omega (arith, past)))

-- marks that have none get those of no records
pub marks_made : (queries : List Query) (records : List Record) (marks : List (List Bool)) → AreMarksOf queries records marks → marks ≡ [] → marks_for queries [] ≡ marks_for queries records
marks_made [] records marks are none = refl
marks_made (query ∷ queries) records marks are none = ⊎_elim
    (λ (both : (marks ≡ []) × (marks_for (query ∷ queries) records ≡ marks_for (query ∷ queries) [])). sym both.1)
    (λ (is : marks ≡ marks_for (query ∷ queries) records). let e : marks_for (query ∷ queries) records ≡ [] = sym is ∙ none in absurd (cc))
    are

-- those that have some have them all
pub marks_there : (queries : List Query) (records : List Record) (marks : List (List Bool)) → AreMarksOf queries records marks → (marks ≡ [] → ⊥) → marks ≡ marks_for queries records
marks_there queries records marks are some = ⊎_elim
    (λ (both : (marks ≡ []) × (marks_for queries records ≡ marks_for queries [])). absurd (some both.0))
    (λ (is : marks ≡ marks_for queries records). is)
    are

-- where there are none, none are needed as long as more records change nothing
pub none_seen : (queries : List Query) (records more : List Record) (marks : List (List Bool)) → AreMarksOf queries records marks → marks ≡ [] → marks_for queries (records ++ more) ≡ marks_for queries records → AreMarksOf queries (records ++ more) marks
none_seen queries records more marks are none unseen = inl (none, unseen ∙ sym (marks_made queries records marks are none))

-- the records change no marks of so many queries, nor those of the next
pub unseen_next : {A : Type 0} (f : A → Query) (all old : List A) (i : ℕ) (a : A) (records more : List Record) → map f all ≡ map f old → i < length all → marks_of (f (get_or all i a)) (records ++ more) ≡ marks_of (f (get_or all i a)) records →
    marks_for (take i (map f old)) (records ++ more) ≡ marks_for (take i (map f old)) records → marks_for (take (i + 1) (map f old)) (records ++ more) ≡ marks_for (take (i + 1) (map f old)) records
unseen_next f all old i a records more same within unseen so_far =
    let queries : List Query = map f old in
    let after : Query → List Bool = λ query. marks_of query (records ++ more) in
    let before : Query → List Bool = λ query. marks_of query records in
    let inside : i < length queries = omega (arith, within, length-map all f, ap length same) in
    let query : get_or queries i (f a) ≡ f (get_or all i a) = ap (λ (l : List Query). get_or l i (f a)) (sym same) ∙ get_or-map f all i a (f a) within in
    let here : after (get_or queries i (f a)) ≡ before (get_or queries i (f a)) = ap after query ∙ unseen ∙ ap before (sym query) in
    map_more after queries i (f a) inside
    ∙ ap (λ (l : List (List Bool)). l ++ after (get_or queries i (f a)) ∷ []) so_far
    ∙ ap (λ (marks : List Bool). map before (take i queries) ++ marks ∷ []) here
    ∙ sym (map_more before queries i (f a) inside)

of_some : (queries : List Query) (query : Query) (records : List Record) (place : ℕ) → slice_get queries place ≡ Some query → slice_get (marks_for queries records) place ≡ Some (marks_of query records)
of_some [] query records place is = absurd (cc)
of_some (first ∷ queries) query records zero is = let same : first ≡ query = cc in ap (λ (q : Query). Some (marks_of q records)) same
of_some (first ∷ queries) query records (suc place) is = of_some queries query records place is

-- the marks for the query at a place are those that are kept, or those of no records where none are
pub marks_read : (queries : List Query) (query : Query) (place : ℕ) (records : List Record) (kept none : List (List Bool)) (marks : List Bool) → slice_get queries place ≡ Some query → AreMarksOf queries records kept → none ≡ marks_for queries [] →
    (slice_get kept place ≡ Some marks) ⊎ ((slice_get kept place ≡ None) × (slice_get none place ≡ Some marks)) → marks ≡ marks_of query records
marks_read queries query place records kept none marks asked are none_is found =
    let blank : slice_get none place ≡ Some (marks_of query []) = ap (λ (l : List (List Bool)). slice_get l place) none_is ∙ of_some queries query [] place asked in
    ⊎_elim
    (λ (empty : (kept ≡ []) × (marks_for queries records ≡ marks_for queries [])). ⊎_elim
    (λ (here : slice_get kept place ≡ Some marks). let e : None ≡ Some marks = sym (ap (λ (l : List (List Bool)). slice_get l place) empty.0) ∙ here in absurd (cc))
    (λ (there : (slice_get kept place ≡ None) × (slice_get none place ≡ Some marks)). let e : Some marks ≡ Some (marks_of query records) = sym there.1 ∙ blank ∙ sym (of_some queries query [] place asked) ∙ ap (λ (l : List (List Bool)). slice_get l place) (sym empty.1) ∙ of_some queries query records place asked in cc)
    found)
    (λ (is : kept ≡ marks_for queries records).
    let whole : slice_get kept place ≡ Some (marks_of query records) = ap (λ (l : List (List Bool)). slice_get l place) is ∙ of_some queries query records place asked in
    ⊎_elim
    (λ (here : slice_get kept place ≡ Some marks). let e : Some marks ≡ Some (marks_of query records) = sym here ∙ whole in cc)
    (λ (there : (slice_get kept place ≡ None) × (slice_get none place ≡ Some marks)). let e : None ≡ Some (marks_of query records) = sym there.0 ∙ whole in absurd (cc))
    found)
    are

-- and one of both is there
pub marks_some : (queries : List Query) (query : Query) (place : ℕ) (none : List (List Bool)) → slice_get queries place ≡ Some query → none ≡ marks_for queries [] → slice_get none place ≡ None → ⊥
marks_some queries query place none asked none_is missing =
    let e : Some (marks_of query []) ≡ None = sym (of_some queries query [] place asked) ∙ sym (ap (λ (l : List (List Bool)). slice_get l place) none_is) ∙ missing in cc

testless_query : (query : Query) (records : List Record) → (length query.steps.items == 0) ≡ true → marks_of query records ≡ marks_of query []
testless_query query records none =
    let empty : query.steps.items ≡ [] = nil_from_length query.steps.items (eqb-true (length query.steps.items) 0 none) in
    let marks : List Record → List Test → List Bool = λ rs tests. map (λ test. list_any (record_marks test) rs) tests in
    ap (λ steps. marks records (tests_in steps)) empty ∙ sym (ap (λ steps. marks [] (tests_in steps)) empty)

-- where no query has a test, marks of any records are those of none
pub testless_marks : (queries : List Query) (records : List Record) → list_all (λ query. length query.steps.items == 0) queries ≡ true → marks_for queries records ≡ marks_for queries []
testless_marks [] records are = refl
testless_marks (query ∷ queries) records are =
    let parts = and_parts _ _ are in
    let here : marks_of query records ≡ marks_of query [] = testless_query query records parts.0 in
    ap (λ (marks : List Bool). marks ∷ marks_for queries records) here ∙ ap (λ (all : List (List Bool)). marks_of query [] ∷ all) (testless_marks queries records parts.1)
