-- What a query says of a record by itself that satisfies none of its tests.
use Rattle.std.proofs.Common.{◌≡◌, ℕ, ◌&&◌, ◌||◌, Bool, true, false, cond, List, [], ◌∷◌, map, refl, sym, ap, ◌∙◌}
use Rattle.std.specs.List.{list_any}
use Rattle.std.proofs.Math.Bool.{and-false}
use Rattle.std.proofs.lemmas.Bool.{or_parts}
use Rattle.vsl_record.specs.declared.record_type.Record.{Record}
use Rattle.txn_rows.specs.declared.group.Group.{Group}
use Rattle.txn_rows.specs.Grouping.{raw_group}
use Rattle.query_parser.specs.declared.test.Test.{Test}
use Rattle.query_parser.specs.declared.query.Query.{Query}
use Rattle.query_eval.specs.Meaning.{is_held, meets_level, member_satisfies, record_marks}
use Rattle.query_eval.specs.Marks.{answer_of, tests_of}
use Rattle.text_printer.specs.Held.{held_groups}
use Rattle.text_printer.specs.inside.Alone.{IsUnseen}

-- where a record satisfies none of some tests, neither does its group
none_satisfied : (vxid : ℕ) (rec : Record) (tests : List Test) → list_any (λ test. list_any (record_marks test) (rec ∷ [])) tests ≡ false
    → map (λ test. list_any (member_satisfies test) []) tests ≡ map (λ test. list_any (member_satisfies test) (raw_group vxid rec).members) tests
none_satisfied vxid rec [] none = refl
none_satisfied vxid rec (test ∷ tests) none =
    let parts = or_parts (record_marks test rec || false) (list_any (λ test. list_any (record_marks test) (rec ∷ [])) tests) none in
    ap (λ (others : List Bool). false ∷ others) (none_satisfied vxid rec tests parts.1)
    ∙ ap (λ (b : Bool). b ∷ map (λ test. list_any (member_satisfies test) (raw_group vxid rec).members) tests) (unmet (meets_level test.criterion.level 0) (record_marks test rec) (or_parts (record_marks test rec) false parts.0).0)
  where
    unmet : (a b : Bool) → b ≡ false → false ≡ (((a && b) || false) || false)
    unmet true true e = absurd (cc)
    unmet true false e = refl
    unmet false b e = refl

-- so its answer is that of no members
pub none_answered : (query : Query) (vxid : ℕ) (rec : Record) → list_any (λ test. list_any (record_marks test) (rec ∷ [])) (tests_of query) ≡ false
    → answer_of query [] ≡ answer_of query (raw_group vxid rec).members
none_answered query vxid rec none = none_satisfied vxid rec (tests_of query) none

-- a group for which a query holds, and one for which it doesn't
pub one_held : (query : Query) (group : Group) (b : Bool) → b ≡ is_held query group → b ≡ true → group ∷ [] ≡ held_groups query (group ∷ [])
one_held query group b is so = of_test (is_held query group) (sym is ∙ so)
  where
    of_test : (holds : Bool) → holds ≡ true → group ∷ [] ≡ cond holds (group ∷ []) []
    of_test true e = refl
    of_test false e = absurd (cc)

pub none_held : (query : Query) (group : Group) (b : Bool) → b ≡ is_held query group → b ≡ false → [] ≡ held_groups query (group ∷ [])
none_held query group b is not_so = of_test (is_held query group) (sym is ∙ not_so)
  where
    of_test : (holds : Bool) → holds ≡ false → [] ≡ cond holds (group ∷ []) []
    of_test true e = absurd (cc)
    of_test false e = refl

-- a record by itself that satisfies no test, where the query holds for none such
pub unseen_unheld : (query : Query) (vxid : ℕ) (rec : Record) (seen unseen : Bool) → IsUnseen query unseen → seen ≡ list_any (λ test. list_any (record_marks test) (rec ∷ [])) (tests_of query)
    → seen ≡ false → unseen ≡ false → [] ≡ held_groups query (raw_group vxid rec ∷ [])
unseen_unheld query vxid rec seen unseen says is not_seen not_so = none_held query (raw_group vxid rec) unseen (says (raw_group vxid rec) (none_answered query vxid rec (sym is ∙ not_seen))) not_so
