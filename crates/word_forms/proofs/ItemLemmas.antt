-- What is so of all that words give, and that the first fault stays, whatever the rows are.
use Rattle.std.proofs.Common.{◌≡◌, ℕ, ◌+◌, ◌-◌, Bool, true, false, List, [], ◌∷◌, ◌++◌, drop, Option, Some, None, Result, Ok, Err, refl}
use Rattle.std.specs.Prelude.{IfSome, IfOk}
use Rattle.std.proofs.lemmas.Bool.{cond_both}
use Rattle.word_forms.specs.declared.fault.WordFault.{WordFault}
use Rattle.word_forms.specs.declared.fault.WordFault.TheVariants.{UnknownOption, NoValue}
use Rattle.word_forms.specs.Items.{Given, Item, Spelt, Table, folded, gives, has_letters, items, letters_of, of_word, operand_of, option_of}

module _ {A E C : Type 0} (add : A → Given C → Result A E) (fault : WordFault → E) where
  abbrev after : Result A E → List (Item C) → Result A E
  after next xs = elim next [ Ok a ↦ folded add fault a xs | Err e ↦ Err e ]

  -- ---- a fault of a word is answered whatever words follow

  abbrev Stays : E → List (Item C) → List (Item C) → Type 0
  Stays first xs ys = (a : A) → folded add fault a xs ≡ Err first → folded add fault a ys ≡ Err first

  stays_behind : (first : E) (before xs ys : List (Item C)) → Stays first xs ys → Stays first (before ++ xs) (before ++ ys)
  stays_behind first [] xs ys stay a is = stay a is
  stays_behind first (Err e ∷ before) xs ys stay a is = is
  stays_behind first (Ok one ∷ before) xs ys stay a is = onward (add a one) (stays_behind first before xs ys stay) is
    where
      onward : (next : Result A E) → Stays first (before ++ xs) (before ++ ys) → after next (before ++ xs) ≡ Err first → after next (before ++ ys) ≡ Err first
      onward (Ok a) stay is = stay a is
      onward (Err other) stay is = is

  pub stays : {S : Type 0} (rows : Table S C) (first : E) → ((at : ℕ) → fault (NoValue at) ≡ first → ⊥)
      → (words more : List (List ℕ)) (s : S) (at : ℕ) (wanted : Option C) → Stays first (items rows s at wanted words) (items rows s at wanted (words ++ more))
  stays rows first of_a_word [] more s at None a is = absurd (let bad : ⊥ = cc in bad)
  stays rows first of_a_word [] more s at (Some choice) a is = absurd (of_a_word (at - 1) (let same : fault (NoValue (at - 1)) ≡ first = cc in same))
  stays rows first of_a_word (word ∷ words) more s at (Some choice) a is = stays_behind first (gives (Some choice) at word ∷ []) _ _ (stays rows first of_a_word words more s (at + 1) None) a is
  stays rows first of_a_word (word ∷ words) more s at None a is =
      stays_behind first (of_word rows s at word).0.items _ _ (stays rows first of_a_word words more (of_word rows s at word).1 (at + 1) (of_word rows s at word).0.wanted) a is

  -- ---- what each option that the rows have keeps is so of what words come to

  module _ (So : C → Type 0) (Kept : A → Type 0) (step : (a : A) (one : Given C) → IfSome one.choice So → Kept a → IfOk (add a one) Kept) where
    abbrev Keeps : List (Item C) → Type 0
    Keeps xs = (a : A) → Kept a → IfOk (folded add fault a xs) Kept

    keeps_more : (one : Given C) (xs : List (Item C)) → IfSome one.choice So → Keeps xs → Keeps (Ok one ∷ xs)
    keeps_more one xs so keeps a was = onward (add a one) (step a one so was)
      where
        onward : (next : Result A E) → IfOk next Kept → IfOk (after next xs) Kept
        onward (Ok a) now = keeps a now
        onward (Err other) now = tt

    -- what is given in a word is so
    pub record AreSo (spelt : Spelt C) : Type 0 where
      pub items : (xs : List (Item C)) → Keeps xs → Keeps (spelt.items ++ xs)
      pub wanted : IfSome spelt.wanted So

    option_so : (wanted : Bool) (at : ℕ) (choice : C) (rest : List ℕ) (more : Spelt C) → So choice → AreSo more → AreSo (option_of wanted at choice rest more)
    option_so false at choice rest more so are = record { items = λ xs keeps. keeps_more (record { choice = Some choice; place = at; value = [] }) _ so (are.items xs keeps); wanted = are.wanted }
    option_so true at choice [] more so are = record { items = λ xs keeps. keeps; wanted = so }
    option_so true at choice (b ∷ value) more so are = record { items = λ xs keeps. keeps_more (record { choice = Some choice; place = at; value = b ∷ value }) xs so keeps; wanted = tt }

    letters_so : (letter : ℕ → Option C) (wants : C → Bool) (at : ℕ) (text : List ℕ) → ((b : ℕ) → IfSome (letter b) So) → AreSo (letters_of letter wants at text)
    letters_so letter wants at [] so = record { items = λ xs keeps. keeps; wanted = tt }
    letters_so letter wants at (b ∷ rest) so = by_letter (letter b) (so b) (letters_so letter wants at rest so)
      where
        by_letter : (meant : Option C) → IfSome meant So → AreSo (letters_of letter wants at rest)
            → AreSo (elim meant [ None ↦ record { items = Err (UnknownOption at) ∷ []; wanted = None } | Some choice ↦ option_of (wants choice) at choice rest (letters_of letter wants at rest) ])
        by_letter None so are = record { items = λ xs keeps a was. tt; wanted = tt }
        by_letter (Some choice) so are = option_so (wants choice) at choice rest (letters_of letter wants at rest) so are

    module _ {S : Type 0} (rows : Table S C) (letters : (s : S) (letter : ℕ) → IfSome (rows.letter s letter) So) (names : (s : S) (word : List ℕ) → IfSome (rows.name s word) So) where
      word_so : (s : S) (at : ℕ) (word : List ℕ) → AreSo (of_word rows s at word).0
      word_so s at word = by_name (rows.name s word) refl (names s word)
        where
          by_operand : (next : Option S) → AreSo (operand_of next s at word).0
          by_operand None = record { items = λ xs keeps a was. tt; wanted = tt }
          by_operand (Some next) = record { items = λ xs keeps. keeps_more (record { choice = None; place = at; value = word }) xs tt keeps; wanted = tt }

          by_name : (meant : Option C) → rows.name s word ≡ meant → IfSome meant So → AreSo (of_word rows s at word).0
          by_name (Some choice) e so = rw (e, of_word) (option_so (rows.wants choice) at choice [] _ so (record { items = λ xs keeps. keeps; wanted = tt }))
          by_name None e so =
              rw (e, of_word)
              (cond_both (has_letters word) (letters_of (rows.letter s) rows.wants at (drop 1 word), s) (operand_of (rows.behind s word) s at word) (λ p. AreSo p.0)
              (λ yes. letters_so (rows.letter s) rows.wants at (drop 1 word) (letters s)) (λ no. by_operand (rows.behind s word)))

      pub kept : (words : List (List ℕ)) (s : S) (at : ℕ) (wanted : Option C) → IfSome wanted So → Keeps (items rows s at wanted words)
      kept [] s at None so a was = was
      kept [] s at (Some choice) so a was = tt
      kept (word ∷ words) s at (Some choice) so a was = keeps_more (record { choice = Some choice; place = at; value = word }) _ so (kept words s (at + 1) None tt) a was
      kept (word ∷ words) s at None so a was =
          let are = word_so s at word in
          are.items _ (kept words (of_word rows s at word).1 (at + 1) (of_word rows s at word).0.wanted are.wanted) a was
