-- The rows of tags, and what they and the rules say of a record.
use Rattle.std.proofs.Common.{◌≡◌, ℕ, ◌+◌, ◌<◌, ◌≤◌, ◌&&◌, ◌||◌, Bool, true, false, not, cond, inl, inr, List, [], ◌∷◌, length, map, reverse, set, Option, Some, None, unwrap_or, refl, sym, ap, ◌∙◌, subst, arith}
use Rattle.std.specs.List.{All, list_any}
use Rattle.std.specs.Option.{option_or}
use Rattle.std.proofs.Math.Bool.{Bool-set}
use Rattle.std.proofs.Math.Logic.{∥∥₁_elim}
use Rattle.std.proofs.lemmas.Bool.{cases_order, or_parts}
use Rattle.std.proofs.lemmas.List.{get_or-set_other, get_or-set_same}
use Rattle.vsl_tags.specs.Tags.{IsTag, last_tag}
use Rattle.vsl_record.specs.declared.record_type.Record.{Record}
use Rattle.vsl_select.specs.declared.rule.Rule.{Rule}
use Rattle.vsl_select.specs.declared.rule_text.RuleText.{RuleText}
use Rattle.vsl_select.specs.declared.tag_rows.TagRow.{TagRow}
use Rattle.vsl_select.specs.Showing.{Showing}
use Rattle.vsl_select.specs.Shown.{first_says, is_matched, is_shown_record, names_tag, shows_others}
use Rattle.vsl_select.specs.inside.Reading.{IsRead}
use Rattle.vsl_select.specs.inside.Rows.{AreRulesOf, IsRowOf, row_at}
use Rattle.vsl_select.proofs.RuleLemmas.{says_next, texts_of}

-- where no rule of -I and -X names the tag, none matches
none_asked : (caseless : Bool) (rec : Record) (rules : List RuleText) → list_any (λ r. r.regex && names_tag r rec.tag) rules ≡ false
    → first_says (λ r. r.regex && is_matched caseless rec r) rules ≡ None
none_asked caseless rec [] none = refl
none_asked caseless rec (rule ∷ rules) none =
    let parts = or_parts (rule.regex && names_tag rule rec.tag) (list_any (λ r. r.regex && names_tag r rec.tag) rules) none in
    says_next (λ r. r.regex && is_matched caseless rec r) rule rules
    ∙ ap (λ (b : Bool). cond b (Some rule.include) (first_says (λ r. r.regex && is_matched caseless rec r) rules)) (no_more rule.regex (names_tag rule rec.tag) _ parts.0)
    ∙ none_asked caseless rec rules parts.1
  where
    no_more : (a b c : Bool) → (a && b) ≡ false → (a && (b && c)) ≡ false
    no_more false b c e = refl
    no_more true false c e = refl
    no_more true true c e = absurd (cc)

-- what an answer says, or else another, or else a truth
said_or : (said other : Option Bool) (b : Bool) → unwrap_or said (unwrap_or other b) ≡ unwrap_or (option_or said other) b
said_or None other b = refl
said_or (Some said) other b = refl

-- what the last of -i and -x that names a record's tag says
abbrev tags_say : Showing → Record → Option Bool
tags_say showing rec = first_says (λ rule. not rule.regex && names_tag rule rec.tag) (reverse showing.rules)

-- what the first of -I and -X that matches a record says
abbrev patterns_say : Showing → Record → Option Bool
patterns_say showing rec = first_says (λ rule. rule.regex && is_matched showing.caseless rec rule) showing.rules

-- a record is shown as the first of -I and -X that matches it says, or else as the tag's row does
shown_by : (showing : Showing) (rec : Record) (row : TagRow) (said : Option Bool) → IsRowOf showing.rules rec.tag row → said ≡ patterns_say showing rec → unwrap_or said row.shown ≡ is_shown_record showing rec
shown_by showing rec row said of_row is =
    ap (unwrap_or said) of_row.shown ∙ said_or said (tags_say showing rec) (shows_others showing.rules)
    ∙ ap (λ (o : Option Bool). unwrap_or (option_or o (tags_say showing rec)) (shows_others showing.rules)) is

-- a record whose tag no rule of -I and -X names is shown as the tag's row says
pub unasked_shown : (showing now : Showing) (rec : Record) (tag : ℕ) (row : TagRow) → showing ≡ now → tag ≡ rec.tag → IsRowOf showing.rules tag row → row.asked ≡ false
    → row.shown ≡ is_shown_record now rec
unasked_shown showing now rec tag row same is of_row unasked =
    let here : IsRowOf showing.rules rec.tag row = subst (λ (n : ℕ). IsRowOf showing.rules n row) is of_row in
    subst (λ (s : Showing). row.shown ≡ is_shown_record s rec) same
    (shown_by showing rec row None here (sym (none_asked showing.caseless rec showing.rules (sym here.asked ∙ unasked))))

-- a record is shown as the first of -I and -X that matches it says, or else the tag's row
pub asked_shown : (showing now : Showing) (rec : Record) (tag : ℕ) (row : TagRow) (rules : List Rule) (said : Option Bool) (answer : Bool) → showing ≡ now → AreRulesOf showing rules
    → tag ≡ rec.tag → IsRowOf showing.rules tag row
    → ((caseless : Bool) → All (IsRead caseless) rules → said ≡ first_says (λ r. r.regex && is_matched caseless rec r) (texts_of rules)) → answer ≡ unwrap_or said row.shown
    → answer ≡ is_shown_record now rec
asked_shown showing now rec tag row rules said answer same are is of_row told answer_is =
    let here : IsRowOf showing.rules rec.tag row = subst (λ (n : ℕ). IsRowOf showing.rules n row) is of_row in
    subst (λ (s : Showing). answer ≡ is_shown_record s rec) same (∥∥₁_elim are.read (Bool-set _ _) (λ all.
    answer_is ∙ shown_by showing rec row said here (told showing.caseless all ∙ ap (first_says (λ r. r.regex && is_matched showing.caseless rec r)) are.texts)))

-- a rule that names a tag and has a pattern has a pattern
pub none_named : (tag : ℕ) (rules : List RuleText) → list_any (λ r. r.regex) rules ≡ false → list_any (λ r. r.regex && names_tag r tag) rules ≡ false
none_named tag [] none = refl
none_named tag (rule ∷ rules) none =
    let parts = or_parts rule.regex (list_any (λ r. r.regex) rules) none in
    ap (λ (b : Bool). (b && names_tag rule tag) || list_any (λ r. r.regex && names_tag r tag) rules) parts.0 ∙ none_named tag rules parts.1

pub of_not_true : (b : Bool) → not b ≡ true → b ≡ false
of_not_true true e = absurd (cc)
of_not_true false e = refl

pub of_not_false : (b : Bool) → not b ≡ false → b ≡ true
of_not_false true e = refl
of_not_false false e = absurd (cc)

-- one row more
pub row_more : (rules : List RuleText) (rows : List TagRow) (number : ℕ) (row : TagRow) → number < length rows → ((tag : ℕ) → IsTag tag → tag < number → IsRowOf rules tag (row_at rows tag))
    → IsRowOf rules number row → (tag : ℕ) → IsTag tag → tag < number + 1 → IsRowOf rules tag (row_at (set rows number row) tag)
row_more rules rows number row within before here tag is_tag below =
    elim (cases_order tag number) [
      | inl same ↦ subst (λ (n : ℕ). IsRowOf rules n (row_at (set rows number row) n)) (sym same) (subst (IsRowOf rules number) (sym (get_or-set_same rows number row _ within)) here)
      | inr (inl lower) ↦ subst (IsRowOf rules tag) (sym (get_or-set_other rows number tag row _ (λ same. omega (arith, same, lower)))) (before tag is_tag lower)
      | inr (inr higher) ↦ absurd (omega (arith, below, higher))
    ]
