-- Marks, of which levels are left aside, and the truths of tests by them.
use Rattle.std.proofs.Common.{◌≡◌, ℕ, ◌+◌, ◌<◌, not, ◌&&◌, ◌||◌, Bool, true, false, List, [], ◌∷◌, ◌++◌, length, map, take, get_or, refl, sym, ap, ◌∙◌, arith}
use Rattle.std.proofs.lemmas.List.{append-nil}
use Rattle.std.proofs.lemmas.List.Folds.{list_any-append, list_any_more}
use Rattle.std.specs.List.{list_any}
use Rattle.vsl_tags.specs.TagSet.{has_tag}
use Rattle.vsl_record.specs.declared.record_type.Record.{Record}
use Rattle.txn_rows.specs.declared.group.Group.{Group}
use Rattle.txn_rows.specs.declared.group.Member.{Member}
use Rattle.query_grammar.specs.declared.step.StepOver.{StepOver}
use Rattle.query_grammar.specs.declared.step.StepOver.TheVariants as kinds
use Rattle.query_grammar.specs.Tree as tree
use Rattle.query_grammar.specs.Tree.{Either, truths_of, tree_steps}
use Rattle.query_parser.specs.declared.test.Test.{Test}
use Rattle.query_parser.specs.declared.query.Query.{Query}
use Rattle.query_eval.specs.Meaning.{meets_level, record_marks, record_satisfies, member_satisfies, group_satisfies, is_held, last_truth}
use Rattle.query_eval.specs.Marks.{tests_in, answer_of, with_truths, truth_of, is_held_by}
use Rattle.query_eval.specs.inside.Truths.{joined, marked_of}

any_under : {A : Type 0} (b : Bool) (p : A → Bool) (xs : List A) → list_any (λ x. b && p x) xs ≡ (b && list_any p xs)
any_under true p xs = refl
any_under false p [] = refl
any_under false p (x ∷ xs) = any_under false p xs

-- some record of a level satisfies a test where the level is met, and a record marks it
pub by_mark : (test : Test) (level : ℕ) (records : List Record) → list_any (record_satisfies test level) records ≡ (meets_level test.criterion.level level && list_any (record_marks test) records)
by_mark test level records = any_under (meets_level test.criterion.level level) (record_marks test) records

or_none : (b : Bool) → b ≡ (b || false)
or_none true = refl
or_none false = refl

or_first : (a b c d : Bool) → (b || c) ≡ d → ((a || b) || c) ≡ (a || d)
or_first true b c d e = refl
or_first false b c d e = e

-- one more
pub any_more : {A : Type 0} (p : A → Bool) (xs : List A) (x : A) → (list_any p xs || p x) ≡ list_any p (xs ++ x ∷ [])
any_more p [] x = or_none (p x)
any_more p (y ∷ xs) x = or_first (p y) (list_any p xs) (p x) (list_any p (xs ++ x ∷ [])) (any_more p xs x)

-- a record of a tag that a test doesn't select satisfies it no more than those before
pub passed_more : (test : Test) (records : List Record) (i tag : ℕ) → i < length records → ((rec : Record) → tag ≡ (get_or records i rec).tag) → has_tag test.criterion.tags tag ≡ false →
    list_any (record_marks test) (take (i + 1) records) ≡ list_any (record_marks test) (take i records)
passed_more test [] i tag within is unselected = absurd (omega (arith, within))
passed_more test (r ∷ records) i tag within is unselected =
    list_any_more (record_marks test) (r ∷ records) i r within
    ∙ ap (λ (b : Bool). list_any (record_marks test) (take i (r ∷ records)) || b) (rw (← is r, unselected) refl)
    ∙ sym (or_none (list_any (record_marks test) (take i (r ∷ records))))

joined_maps : {A : Type 0} (f g h : A → Bool) (xs : List A) → ((x : A) → (f x || g x) ≡ h x) → joined (map f xs) (map g xs) ≡ map h xs
joined_maps f g h [] same = refl
joined_maps f g h (x ∷ xs) same = rw (same x, joined_maps f g h xs same) refl

-- the marks of records, and of more
pub marked_more : (tests : List Test) (records more : List Record) →
    joined (map (λ test. list_any (record_marks test) records) tests) (map (λ test. list_any (record_marks test) more) tests) ≡ map (λ test. list_any (record_marks test) (records ++ more)) tests
marked_more tests records more =
    joined_maps (λ test. list_any (record_marks test) records) (λ test. list_any (record_marks test) more) (λ test. list_any (record_marks test) (records ++ more)) tests (λ test. sym (list_any-append (record_marks test) records more))

marked_map : (level : ℕ) (tests : List Test) (records : List Record) →
    marked_of level tests (map (λ test. list_any (record_marks test) records) tests) ≡ map (λ test. list_any (record_satisfies test level) records) tests
marked_map level [] records = refl
marked_map level (test ∷ tests) records = rw (by_mark test level records, marked_map level tests records) refl

joined_none : (truths more : List Bool) → list_any (λ truth. truth) more ≡ false → joined truths more ≡ truths
joined_none [] more none = refl
joined_none (truth ∷ truths) [] none = refl
joined_none (truth ∷ truths) (true ∷ more) none = absurd (cc)
joined_none (truth ∷ truths) (false ∷ more) none = rw (joined_none truths more none) (ap (λ (b : Bool). b ∷ truths) (sym (or_none truth)))

-- where none of more records satisfies a test, the marks stay
pub unseen_more : (tests : List Test) (records more : List Record) → list_any (λ truth. truth) (map (λ test. list_any (record_marks test) more) tests) ≡ false →
    map (λ test. list_any (record_marks test) (records ++ more)) tests ≡ map (λ test. list_any (record_marks test) records) tests
unseen_more tests records more none =
    sym (marked_more tests records more) ∙ joined_none (map (λ test. list_any (record_marks test) records) tests) (map (λ test. list_any (record_marks test) more) tests) none

under_none : (b : Bool) → (b && false) ≡ false
under_none true = refl
under_none false = refl

marked_none : (level : ℕ) (tests : List Test) → list_any (λ truth. truth) (marked_of level tests (map (λ test. list_any (record_marks test) []) tests)) ≡ false
marked_none level [] = refl
marked_none level (test ∷ tests) = rw (under_none (meets_level test.criterion.level level)) (marked_none level tests)

-- the answer of members, and of one more by its marks
pub answered_more : (tests : List Test) (members : List Member) (member : Member) →
    joined (map (λ test. list_any (member_satisfies test) members) tests) (marked_of member.level tests (map (λ test. list_any (record_marks test) member.records) tests))
    ≡ map (λ test. list_any (member_satisfies test) (members ++ member ∷ [])) tests
answered_more tests members member =
    ap (joined (map (λ test. list_any (member_satisfies test) members) tests)) (marked_map member.level tests member.records)
    ∙ joined_maps (λ test. list_any (member_satisfies test) members) (λ test. member_satisfies test member) (λ test. list_any (member_satisfies test) (members ++ member ∷ [])) tests (λ test. any_more (member_satisfies test) members member)

-- a member whose marks are those of no records changes no answer
pub unmarked_member : (tests : List Test) (members : List Member) (member : Member) →
    map (λ test. list_any (record_marks test) member.records) tests ≡ map (λ test. list_any (record_marks test) []) tests →
    map (λ test. list_any (member_satisfies test) (members ++ member ∷ [])) tests ≡ map (λ test. list_any (member_satisfies test) members) tests
unmarked_member tests members member unmarked =
    let answer = map (λ test. list_any (member_satisfies test) members) tests in
    sym (answered_more tests members member)
    ∙ ap (λ (marks : List Bool). joined answer (marked_of member.level tests marks)) unmarked
    ∙ joined_none answer (marked_of member.level tests (map (λ test. list_any (record_marks test) []) tests)) (marked_none member.level tests)

-- what steps leave is what they leave with the truths of their tests in place
pub same_truths : {A : Type 0} (test : A → Bool) (steps : List (StepOver A)) (left : List Bool) →
    truths_of test steps left ≡ truths_of (λ truth. truth) (with_truths steps (map test (tests_in steps))) left
unfolding truths_of
same_truths test [] left = refl
same_truths test (kinds.Test t ∷ steps) left = same_truths test steps (test t ∷ left)
same_truths test (kinds.Not ∷ steps) [] = same_truths test steps []
same_truths test (kinds.Not ∷ steps) (b ∷ left) = same_truths test steps (not b ∷ left)
same_truths test (kinds.And ∷ steps) [] = same_truths test steps []
same_truths test (kinds.And ∷ steps) (b ∷ []) = same_truths test steps []
same_truths test (kinds.And ∷ steps) (b ∷ a ∷ left) = same_truths test steps ((a && b) ∷ left)
same_truths test (kinds.Or ∷ steps) [] = same_truths test steps []
same_truths test (kinds.Or ∷ steps) (b ∷ []) = same_truths test steps []
same_truths test (kinds.Or ∷ steps) (b ∷ a ∷ left) = same_truths test steps ((a || b) ∷ left)

-- a query holds where it holds by the truths of its tests
pub held_by : (query : Query) (group : Group) → is_held query group ≡ is_held_by query (answer_of query group.members)
held_by query group = ap (λ (left : List Bool). query.always || last_truth left) (same_truths (group_satisfies group) query.steps.items [])

pub holds_of : (query : Query) (group : Group) (truths : List Bool) → query.always ≡ false → truths ≡ answer_of query group.members → truth_of (with_truths query.steps.items truths) ≡ is_held query group
holds_of query group truths asks is =
    ap (λ (all : List Bool). truth_of (with_truths query.steps.items all)) is ∙ sym (ap (λ (b : Bool). b || truth_of (with_truths query.steps.items (answer_of query group.members))) asks) ∙ sym (held_by query group)

-- a query that is one test holds where the test is satisfied
pub one_test : (query : Query) (group : Group) (t : Test) → query.always ≡ false → query.steps.items ≡ kinds.Test t ∷ [] → group_satisfies group t ≡ is_held query group
unfolding truths_of
one_test query group t asks one =
    sym (ap (λ (b : Bool). b || last_truth (truths_of (group_satisfies group) query.steps.items [])) asks
    ∙ ap (λ (steps : List (StepOver Test)). last_truth (truths_of (group_satisfies group) steps [])) one)

-- the tests of steps, and of more
tests_append : {A : Type 0} (steps more : List (StepOver A)) → tests_in (steps ++ more) ≡ tests_in steps ++ tests_in more
tests_append [] more = refl
tests_append (kinds.Test t ∷ steps) more = ap (λ (tests : List _). t ∷ tests) (tests_append steps more)
tests_append (kinds.Not ∷ steps) more = tests_append steps more
tests_append (kinds.And ∷ steps) more = tests_append steps more
tests_append (kinds.Or ∷ steps) more = tests_append steps more

pub tests_of_either : {A : Type 0} (s t : tree.Query A) → tests_in (tree_steps (Either s t)) ≡ tests_in (tree_steps s) ++ tests_in (tree_steps t)
tests_of_either s t =
    tests_append (tree_steps s ++ tree_steps t) (kinds.Or ∷ []) ∙ append-nil (tests_in (tree_steps s ++ tree_steps t)) ∙ tests_append (tree_steps s) (tree_steps t)
