-- That nothing is at fault before a stop is not so of `Foo%`, whose name is no tag.
use Rattle.std.proofs.Common.{◌≡◌, ℕ, List, [], ◌∷◌, ◌++◌, Ok, None, refl, sym, ap, subst, ◌∙◌, ◌==◌, true, false, inl, inr}
use Rattle.std.specs.Prelude.{codes}
use Rattle.std.specs.List.{list_any}
use Rattle.std.proofs.lemmas.Bool.{or_right}
use Rattle.std.proofs.lemmas.List.Folds.{list_any-append}
use Rattle.query_grammar.specs.Step.{Step}
use Rattle.query_grammar.specs.declared.lex.Lex.TheVariants.{Begin}
use Rattle.query_grammar.specs.Bytes.{is_digit, is_name_byte}
use Rattle.query_grammar.specs.Lexical.{begins_from, is_one_of, words}
use Rattle.query_grammar.specs.Criterion.{is_all}
use Rattle.query_grammar.specs.Grammar.{CriterionToken, nothing, token, is_over, Test}
use Rattle.query_grammar.specs.Steps.{steps_of}
use Rattle.query_grammar.specs.Scanner.{run, begin}
use Rattle.query_grammar.specs.Judging.{criterion_fault}
use Rattle.query_grammar.specs.Faulty.{is_run}
use Rattle.query_grammar.specs.Tested.{Language, Fine, TestMayFollow, TestIn}
use Rattle.query_grammar.specs.Before.{NoneBefore, before_test, behind_criterion, behind_operator, behind_operand, behind_mark}
use Rattle.query_grammar.proofs.Scan.{no_out}
use Rattle.query_grammar.proofs.Fine.{fine_lines_read}
use Rattle.query_grammar.proofs.FaultExamples.{few, good, rules}

abbrev few_tags : Language
few_tags = record { is_tag = few; is_decimal = λ w. is_all is_digit w; is_pattern = good; most = 3 }

end_fine : Fine few_tags (codes "End") (Test (codes "End"))
end_fine = (record { grouped = refl; laid = token {ts = []} {rest = []} (CriterionToken (codes "End")) refl refl nothing }, λ place. refl)

-- behind these bytes a test may not begin
no_test : (before next : List ℕ) → ((more : List ℕ) (out : List Step) → run rules 0 begin ((before ++ 32 ∷ codes "End") ++ more) ≡ Ok out → ⊥) → TestMayFollow few_tags before next → ⊥
no_test before next none h =
    let on = h.each (codes "End") end_fine in
    none on.more (steps_of on.query) ((fine_lines_read few (λ w. is_all is_digit w) good 3).each 0 ((before ++ 32 ∷ codes "End") ++ on.more) on.query on.whole)

no_test_1 : (next : List ℕ) → TestMayFollow few_tags (codes "F") next → ⊥
unfolding run
no_test_1 next = no_test (codes "F") next (λ more out e. no_out _ out e)

no_test_2 : (next : List ℕ) → TestMayFollow few_tags (codes "Fo") next → ⊥
unfolding run
no_test_2 next = no_test (codes "Fo") next (λ more out e. no_out _ out e)

no_test_3 : (next : List ℕ) → TestMayFollow few_tags (codes "Foo") next → ⊥
unfolding run
no_test_3 next = no_test (codes "Foo") next (λ more out e. no_out _ out e)

-- a test in it begins where it begins
at_begin : (before rest next : List ℕ) → codes "Foo" ≡ before ++ rest → TestMayFollow few_tags before next → rest ≡ codes "Foo"
at_begin [] rest next e h = sym e
at_begin (a ∷ []) rest next e h =
    let same : codes "F" ≡ a ∷ [] = cc in
    absurd (no_test_1 next (subst (λ (w : List ℕ). TestMayFollow few_tags w next) (sym same) h))
at_begin (a ∷ b ∷ []) rest next e h =
    let same : codes "Fo" ≡ a ∷ b ∷ [] = cc in
    absurd (no_test_2 next (subst (λ (w : List ℕ). TestMayFollow few_tags w next) (sym same) h))
at_begin (a ∷ b ∷ c ∷ []) rest next e h =
    let same : codes "Foo" ≡ a ∷ b ∷ c ∷ [] = cc in
    absurd (no_test_3 next (subst (λ (w : List ℕ). TestMayFollow few_tags w next) (sym same) h))
at_begin (a ∷ b ∷ c ∷ d ∷ before) rest next e h = absurd cc

-- and its criterion is all of it
criterion_is : (criterion behind : List ℕ) → criterion ++ behind ≡ codes "Foo" → is_over (begins_from Begin) criterion (behind ++ codes "%") ≡ true → criterion ≡ codes "Foo"
criterion_is [] behind e over =
    let rest : behind ≡ codes "Foo" = e in
    let more = subst (λ (w : List ℕ). is_over (begins_from Begin) [] (w ++ codes "%") ≡ true) rest over in
    absurd cc
criterion_is (a ∷ []) behind e over =
    let one : a ≡ 70 = cc in
    let rest : behind ≡ codes "oo" = cc in
    let more = subst (λ (w : List ℕ). is_over (begins_from Begin) (70 ∷ []) (w ++ codes "%") ≡ true) rest (subst (λ (c : ℕ). is_over (begins_from Begin) (c ∷ []) (behind ++ codes "%") ≡ true) one over) in
    absurd cc
criterion_is (a ∷ b ∷ []) behind e over =
    let both : a ∷ b ∷ [] ≡ codes "Fo" = cc in
    let rest : behind ≡ codes "o" = cc in
    let more = subst (λ (w : List ℕ). is_over (begins_from Begin) (codes "Fo") (w ++ codes "%") ≡ true) rest (subst (λ (v : List ℕ). is_over (begins_from Begin) v (behind ++ codes "%") ≡ true) both over) in
    absurd cc
criterion_is (a ∷ b ∷ c ∷ []) behind e over = cc
criterion_is (a ∷ b ∷ c ∷ d ∷ more) behind e over = absurd cc

-- which is at fault
unknown_test : (criterion behind : List ℕ) (place : ℕ) → TestIn few_tags 0 (codes "Foo") (codes "%") criterion behind place → criterion_fault few 0 criterion ≡ None → ⊥
unknown_test criterion behind place h none =
    let all = criterion_is criterion behind (at_begin h.before (criterion ++ behind) _ h.parts h.follows) h.over in
    let fine = subst (λ (w : List ℕ). criterion_fault few 0 w ≡ None) all none in
    absurd cc

-- no parenthesis closes in it
no_mark : (before rest : List ℕ) → codes "Foo" ≡ before ++ 41 ∷ rest → ⊥
no_mark before rest e =
    let some : list_any (λ c. c == 41) (before ++ 41 ∷ rest) ≡ true = list_any-append (λ c. c == 41) before (41 ∷ rest) ∙ or_right _ _ refl in
    let none : false ≡ true = ap (list_any (λ c. c == 41)) e ∙ some in
    absurd cc

-- so what was read before the stop has a fault
unknown_before : NoneBefore few_tags 0 (codes "Foo") (codes "%") → ⊥
unknown_before (before_test begun h) =
    let all = at_begin h.before begun _ h.parts h.follows in
    let fine = h.fine in
    elim fine [
      | inl word ↦ (let one = subst (λ (w : List ℕ). is_one_of words w ≡ true) all word.0 in absurd cc)
      | inr none ↦ none.0 0 (record { level = None; tags = []; name = begun; behind = []; parts = subst (λ (w : List ℕ). w ≡ w ++ []) (sym all) refl; place = refl; is = refl; are = refl; known = refl; run = subst (λ (w : List ℕ). is_run is_name_byte w [] ≡ true) (sym all) refl; unknown = ap few all })
    ]
unknown_before (behind_criterion begun h b) = unknown_test h.criterion _ h.place h.test (h.fine 0)
unknown_before (behind_operator begun h) = unknown_test h.criterion _ h.place h.test (h.fine 0)
unknown_before (behind_operand begun h b) = unknown_test h.criterion _ h.place h.test (h.fine.0 0)
unknown_before (behind_mark begun h b) = no_mark h.before _ h.parts
