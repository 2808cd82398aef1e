use Rattle.std.proofs.Common.{ℕ, ◌-◌, List, rules, tests, ap, ◌∙◌}
use Rattle.std.specs.Prelude.{slice_get}
use Rattle.std.specs.List.{filter}
use Rattle.std.proofs.lemmas.Bool.{ne_eqb}
use Rattle.std.proofs.lemmas.Iterator.Splits.{YieldsList-from_slice_split}
use Rattle.std.proofs.lemmas.Iterator.Consumers.{YieldsList-from_filter, nth_from_yields_List}
use Rattle.vsl_decimal.specs.Field.{is_space, is_field}
use Rattle.vsl_decimal.proofs.FieldLemmas.{slice_split-is_space, not_empty}
use Rattle.vsl_decimal.proofs.field.Goals as goal

pub returns : goal.returns
returns c =
    let found = nth_from_yields_List c.nth.result c.nth.new.self (c.args.n - 1) c.nth.ensures.ran
    (YieldsList-from_filter _ is_field
    (YieldsList-from_slice_split _ is_space c.args.text.now (cc) (cc) (cc) (λ x b q k. search (rules, tests)))
    c.filter.ensures.closure (λ x b q k. search (rules, tests, not_empty))) in
    rw (ne_eqb c.args.n 0 c.if-n-eq0.false) (found ∙ ap (λ (xs : List (List ℕ)). slice_get (filter is_field xs) (c.args.n - 1)) (slice_split-is_space c.args.text.now))
