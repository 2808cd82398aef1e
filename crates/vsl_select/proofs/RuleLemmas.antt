-- What the rules of a selection say.
use Rattle.std.proofs.Common.{◌≡◌, ◌+◌, ◌<◌, ◌&&◌, ◌||◌, ℕ, Bool, true, false, cond, List, [], ◌∷◌, ◌++◌, length, map, reverse, take, drop, get_or, Option, Some, None, unwrap_or, Bor, refl, sym, ap, ◌∙◌, subst}
use Rattle.std.specs.List.{All, find, list_any}
use Rattle.std.specs.Option.{option_map, option_or}
use Rattle.std.proofs.Math.Bool.{Bool-set}
use Rattle.std.proofs.Math.Logic.{∥∥₁_elim}
use Rattle.std.proofs.lemmas.Bool.{or_parts, or_right}
use Rattle.std.proofs.lemmas.List.{append_assoc, drop_more, map-append, reverse-append, take-append-drop, take_more}
use Rattle.std.proofs.lemmas.List.Elements.{All-push}
use Rattle.std.proofs.lemmas.List.Folds.{find-append, list_any-append}
use Rattle.vsl_pattern.specs.Patterns.{is_match, pattern_caseless, pattern_text}
use Rattle.vsl_pattern.specs.declared.pattern.Pattern.{Pattern}
use Rattle.vsl_record.specs.declared.record_type.Record.{Record}
use Rattle.vsl_select.specs.declared.rule.Rule.{Rule}
use Rattle.vsl_select.specs.declared.rule_text.RuleText.{RuleText}
use Rattle.vsl_select.specs.declared.rule_text.SelectFault.{SelectFault}
use Rattle.vsl_select.specs.Shown.{first_says, is_matched, names_tag, parts_of, rule_fault, rules_fault}
use Rattle.vsl_select.specs.inside.Reading.{IsPatternOf, IsRead}

-- ---- a rule

-- a pattern is asked as its text is
pattern_asked : (caseless asked : Bool) (text : Option (List ℕ)) (pattern : Pattern) (asked_text payload : List ℕ) → IsPatternOf caseless text (Some pattern) → asked_text ≡ pattern_text pattern
    → asked ≡ pattern_caseless pattern → is_match asked asked_text payload ≡ elim text [ None ↦ true | Some t ↦ is_match caseless t payload ]
pattern_asked caseless asked None pattern asked_text payload p text_is same = absurd p
pattern_asked caseless asked (Some text) pattern asked_text payload p text_is same = rw (same ∙ p.1, text_is ∙ p.0) refl

-- a rule that names the tag matches where its pattern does
pub matched : (caseless asked found : Bool) (rec : Record) (rule : Rule) (pattern : Pattern) (asked_text bytes : List ℕ) → IsRead caseless rule → rule.pattern ≡ Some pattern
    → names_tag rule.text rec.tag ≡ true → asked_text ≡ pattern_text pattern → asked ≡ pattern_caseless pattern → bytes ≡ rec.payload → found ≡ is_match asked asked_text bytes
    → found ≡ is_matched caseless rec rule.text
matched caseless asked found rec rule pattern asked_text bytes read is named text_is same bytes_are found_is =
    let part : IsPatternOf caseless (parts_of rule.text).pattern (Some pattern) = subst (IsPatternOf caseless (parts_of rule.text).pattern) is read.pattern in
    found_is ∙ ap (is_match asked asked_text) bytes_are ∙ pattern_asked caseless asked (parts_of rule.text).pattern pattern asked_text rec.payload part text_is same ∙ sym (rw named refl)

-- of rules that were read each is
pub read_here : (caseless : Bool) (rules : List Rule) (i : ℕ) (rule : Rule) → All (IsRead caseless) rules → i < length rules → rule ≡ get_or rules i rule → IsRead caseless rule
read_here caseless rules i rule all lt is = subst (IsRead caseless) (sym is) (all i rule lt)

-- ---- what the first rule says

-- the texts of rules that were read
abbrev pub texts_of : List Rule → List RuleText
texts_of rules = map (λ r. r.text) rules

module _ (is_so : RuleText → Bool) where
  says_append : (xs ys : List RuleText) → first_says is_so (xs ++ ys) ≡ option_or (first_says is_so xs) (first_says is_so ys)
  says_append xs ys = ap (option_map (λ (r : RuleText). r.include)) (find-append is_so xs ys) ∙ of_or (find is_so xs) (find is_so ys)
    where
      of_or : (x y : Option RuleText) → option_map (λ r. r.include) (option_or x y) ≡ option_or (option_map (λ r. r.include) x) (option_map (λ r. r.include) y)
      of_or None y = refl
      of_or (Some x) y = refl

  pub says_next : (text : RuleText) (rest : List RuleText) → first_says is_so (text ∷ rest) ≡ cond (is_so text) (Some text.include) (first_says is_so rest)
  says_next text rest = of_test (is_so text) (find is_so rest)
    where
      of_test : (b : Bool) (x : Option RuleText) → option_map (λ r. r.include) (cond b (Some text) x) ≡ cond b (Some text.include) (option_map (λ r. r.include) x)
      of_test true x = refl
      of_test false x = refl

  -- whether the rule that `find` finds includes
  pub first_includes : (rules : List Rule) (found o : Option (Bor Rule)) → option_map (λ r. r.now) found ≡ find (λ r. is_so r.text) rules → found ≡ o
      → elim o [ None ↦ false | Some r ↦ r.now.text.include ] ≡ unwrap_or (first_says is_so (texts_of rules)) false
  first_includes rules found o found_is is = behind o ∙ ap (λ (x : Option Rule). unwrap_or (option_map (λ r. r.text.include) x) false) (ap (option_map (λ (r : Bor Rule). r.now)) (sym is) ∙ found_is)
      ∙ ap (λ (x : Option Bool). unwrap_or x false) (sym (among rules))
    where
      of_test : (b : Bool) (rule : Rule) (x : Option RuleText) (y : Option Rule) → option_map (λ r. r.include) x ≡ option_map (λ r. r.text.include) y
          → option_map (λ r. r.include) (cond b (Some rule.text) x) ≡ option_map (λ r. r.text.include) (cond b (Some rule) y)
      of_test true rule x y e = refl
      of_test false rule x y e = e

      among : (rules : List Rule) → first_says is_so (texts_of rules) ≡ option_map (λ r. r.text.include) (find (λ r. is_so r.text) rules)
      among [] = refl
      among (rule ∷ rules) = of_test (is_so rule.text) rule _ _ (among rules)

      behind : (o : Option (Bor Rule)) → elim o [ None ↦ false | Some r ↦ r.now.text.include ] ≡ unwrap_or (option_map (λ r. r.text.include) (option_map (λ r. r.now) o)) false
      behind None = refl
      behind (Some r) = refl

  module _ (rules : List Rule) (i : ℕ) (rule : Rule) (lt : i < length rules) (is : rule ≡ get_or rules i rule) where
    with_it : texts_of (take (i + 1) rules) ≡ texts_of (take i rules) ++ rule.text ∷ []
    with_it = ap texts_of (take_more rules i rule lt ∙ ap (λ (r : Rule). take i rules ++ r ∷ []) (sym is)) ∙ map-append (λ (r : Rule). r.text) (take i rules) (rule ∷ [])

    split_at_it : texts_of rules ≡ texts_of (take i rules) ++ rule.text ∷ texts_of (drop (i + 1) rules)
    split_at_it = ap texts_of (sym (take-append-drop i rules) ∙ ap (λ (rest : List Rule). take i rules ++ rest) (drop_more rules i rule lt ∙ ap (λ (r : Rule). r ∷ drop (i + 1) rules) (sym is)))
        ∙ map-append (λ (r : Rule). r.text) (take i rules) (rule ∷ drop (i + 1) rules)

    -- a rule that is not so says nothing
    pub none_more : first_says is_so (texts_of (take i rules)) ≡ None → is_so rule.text ≡ false → first_says is_so (texts_of (take (i + 1) rules)) ≡ None
    none_more none not_so = rw (with_it, says_append (texts_of (take i rules)) (rule.text ∷ []), none, says_next rule.text [], not_so) refl

    -- the first that is so says it
    pub said_here : first_says is_so (texts_of (take i rules)) ≡ None → is_so rule.text ≡ true → Some rule.text.include ≡ first_says is_so (texts_of rules)
    said_here none so = sym (rw (split_at_it, says_append (texts_of (take i rules)) (rule.text ∷ texts_of (drop (i + 1) rules)), none, says_next rule.text (texts_of (drop (i + 1) rules)), so) refl)

    -- some rule is so
    pub any_here : is_so rule.text ≡ true → list_any is_so (texts_of rules) ≡ true
    any_here so = rw (split_at_it, list_any-append is_so (texts_of (take i rules)) (rule.text ∷ texts_of (drop (i + 1) rules)), so) (or_right (list_any is_so (texts_of (take i rules))) true refl)

    -- no rule is so, and neither is this one
    pub none_so : list_any is_so (texts_of (take i rules)) ≡ false → is_so rule.text ≡ false → list_any is_so (texts_of (take (i + 1) rules)) ≡ false
    none_so none not_so = rw (with_it, list_any-append is_so (texts_of (take i rules)) (rule.text ∷ []), none, not_so) refl

    -- the last that is so says it
    last_next : first_says is_so (reverse (texts_of (take (i + 1) rules))) ≡ cond (is_so rule.text) (Some rule.text.include) (first_says is_so (reverse (texts_of (take i rules))))
    last_next = ap (λ (x : List RuleText). first_says is_so (reverse x)) with_it ∙ ap (first_says is_so) (reverse-append (texts_of (take i rules)) (rule.text ∷ []))
        ∙ says_next rule.text (reverse (texts_of (take i rules)))

    pub last_here : (now : Option Bool) → is_so rule.text ≡ true → now ≡ Some rule.text.include → now ≡ first_says is_so (reverse (texts_of (take (i + 1) rules)))
    last_here now so is = is ∙ sym (rw (last_next, so) refl)

    pub last_before : (said now : Option Bool) → said ≡ first_says is_so (reverse (texts_of (take i rules))) → is_so rule.text ≡ false → now ≡ said
        → now ≡ first_says is_so (reverse (texts_of (take (i + 1) rules)))
    last_before said now said_is not_so is = is ∙ said_is ∙ sym (rw (last_next, not_so) refl)

-- ---- reading rules

fault_append : (caseless : Bool) (xs ys : List RuleText) → rules_fault caseless (xs ++ ys) ≡ option_or (rules_fault caseless xs) (rules_fault caseless ys)
fault_append caseless [] ys = refl
fault_append caseless (x ∷ xs) ys = ap (option_or (rule_fault caseless x)) (fault_append caseless xs ys) ∙ in_order (rule_fault caseless x) (rules_fault caseless xs)
  where
    in_order : (a b : Option SelectFault) → option_or a (option_or b (rules_fault caseless ys)) ≡ option_or (option_or a b) (rules_fault caseless ys)
    in_order None b = refl
    in_order (Some a) b = refl

-- so many rules of the list were read
pub record AreRead (caseless : Bool) (rules : List Rule) (done rest all : List RuleText) : Type 0 where
  pub read : All (IsRead caseless) rules
  pub texts : texts_of rules ≡ done
  pub good : rules_fault caseless done ≡ None
  pub whole : done ++ rest ≡ all

-- one rule more was read
pub are_read_more : (caseless : Bool) (rules : List Rule) (done rest whole : List RuleText) (rule : Rule) (text : RuleText) → AreRead caseless rules done (text ∷ rest) whole
    → rule.text ≡ text → IsRead caseless rule → rule_fault caseless text ≡ None → AreRead caseless (rules ++ rule ∷ []) (done ++ text ∷ []) rest whole
are_read_more caseless rules done rest whole rule text so_far is read good = record {
  read = All-push (IsRead caseless) rules rule so_far.read read;
  texts = map-append (λ (r : Rule). r.text) rules (rule ∷ []) ∙ ap (λ (x : List RuleText). x ++ rule.text ∷ []) so_far.texts ∙ ap (λ (x : RuleText). done ++ x ∷ []) is;
  good = rw (fault_append caseless done (text ∷ []), so_far.good, good) refl;
  whole = append_assoc done (text ∷ []) rest ∙ so_far.whole;
}

-- the first rule that is refused is the fault
pub refused_here : (caseless : Bool) (rules : List Rule) (done rest whole : List RuleText) (text : RuleText) (fault : SelectFault) → AreRead caseless rules done (text ∷ rest) whole
    → rule_fault caseless text ≡ Some fault → rules_fault caseless whole ≡ Some fault
refused_here caseless rules done rest whole text fault so_far refused = rw (← so_far.whole, fault_append caseless done (text ∷ rest), so_far.good, refused) refl
