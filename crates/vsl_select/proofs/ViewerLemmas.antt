-- The rules of a viewer, of which one is asked.
use Rattle.std.proofs.Common.{◌≡◌, ℕ, ◌+◌, ◌<◌, ◌≤◌, ◌++◌, List, [], ◌∷◌, length, map, take, drop, set, get_or, refl, sym, ap, ◌∙◌, arith}
use Rattle.std.proofs.lemmas.List.{append-nil, drop_all, get_or-map, length-append, length-drop, length-map, map-append, take_all, take_more}
use Rattle.std.proofs.Math.Seq.{map-set_same}
use Rattle.vsl_select.specs.declared.rule.Rule.{Rule}
use Rattle.vsl_select.specs.declared.viewer.AskedRule.{AskedRule}

-- the rules that are asked
abbrev pub rules_in : List AskedRule → List Rule
rules_in all = map (λ a. a.rule.now) all

-- what stands in the place of a rule that is asked has the same rule
pub same_rules : (all old : List AskedRule) (i : ℕ) (a new : AskedRule) → rules_in all ≡ rules_in old → new.rule.now ≡ (get_or all i a).rule.now → rules_in (set all i new) ≡ rules_in old
same_rules all old i a new same is = map-set_same (λ (x : AskedRule). x.rule.now) all i new a is ∙ same

-- the rule at a place
pub rule_is : (all old : List AskedRule) (i : ℕ) (a : AskedRule) → rules_in all ≡ rules_in old → i < length all
    → (get_or all i a).rule.now ≡ get_or (rules_in old) i (get_or all i a).rule.now
rule_is all old i a same within =
    sym (ap (λ (rules : List Rule). get_or rules i (get_or all i a).rule.now) (sym same) ∙ get_or-map (λ (x : AskedRule). x.rule.now) all i a (get_or all i a).rule.now within)

pub rule_within : (all old : List AskedRule) (i : ℕ) → rules_in all ≡ rules_in old → i < length all → i < length (rules_in old)
rule_within all old i same within =
    let f = λ (x : AskedRule). x.rule.now in
    let as_many : length (rules_in all) ≡ length (rules_in old) = ap length same in
    omega (arith, within, length-map all f, as_many)

-- all rules are no more than are asked
pub rules_past : (all old : List AskedRule) (i : ℕ) → rules_in all ≡ rules_in old → length all ≤ i → length (rules_in old) ≤ i
rules_past all old i same past =
    let f = λ (x : AskedRule). x.rule.now in
    let as_many : length (rules_in all) ≡ length (rules_in old) = ap length same in
    omega (arith, past, length-map all f, as_many)

-- what was asked stands in its place again
pub put_back : (len : ℕ) (items new : List AskedRule) → len ≡ length items → rules_in new ≡ rules_in items
    → rules_in (take len (new ++ drop (length new) items)) ≡ rules_in items
put_back len items new len_is same =
    let f = λ (x : AskedRule). x.rule.now in
    let as_many : length (rules_in new) ≡ length (rules_in items) = ap length same in
    let past : length items ≤ length new = omega (arith, length-map new f, length-map items f, as_many) in
    let whole : length (new ++ drop (length new) items) ≤ len = omega (arith, length-append new (drop (length new) items), length-drop (length new) items, length-map new f, length-map items f, as_many, len_is) in
    ap rules_in (take_all len (new ++ drop (length new) items) whole ∙ ap (λ (rest : List AskedRule). new ++ rest) (drop_all (length new) items past) ∙ append-nil new) ∙ same

-- one rule more was taken up
pub one_asked : (all new : List AskedRule) (a : AskedRule) (rules : List Rule) (i : ℕ) (rule : Rule) → i < length rules → rule ≡ get_or rules i rule → rules_in all ≡ take i rules
    → new ≡ all ++ a ∷ [] → a.rule.now ≡ rule → rules_in new ≡ take (i + 1) rules
one_asked all new a rules i rule lt is so_far new_is a_is =
    ap rules_in new_is ∙ map-append (λ (x : AskedRule). x.rule.now) all (a ∷ []) ∙ ap (λ (rs : List Rule). rs ++ a.rule.now ∷ []) so_far
    ∙ ap (λ (r : Rule). take i rules ++ r ∷ []) (a_is ∙ is) ∙ sym (take_more rules i rule lt)
