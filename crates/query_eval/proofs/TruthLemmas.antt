-- Steps of truths, and the truths that they leave.
use Rattle.std.proofs.Common.{◌≡◌, ℕ, zero, suc, ◌+◌, ◌<◌, ◌≤◌, Bool, true, false, not, ◌&&◌, ◌||◌, List, [], ◌∷◌, ◌++◌, length, None, Some, refl, sym, ap, ◌∙◌, arith}
use Rattle.query_grammar.specs.declared.step.StepOver.{StepOver}
use Rattle.query_grammar.specs.declared.step.StepOver.TheVariants as kinds
use Rattle.query_grammar.specs.Tree.{truths_of}
use Rattle.query_eval.specs.Meaning.{last_truth}
use Rattle.query_eval.specs.Marks.{with_truths}
use Rattle.query_eval.specs.inside.Truths.{behind_decided, NoneDecides, below_last, AreLeft}

-- the truths that steps of truths leave
abbrev left_by : List (StepOver Bool) → List Bool → List Bool
left_by steps truths = truths_of (λ truth. truth) steps truths

-- there are as many steps with truths as without
pub length_with : {A : Type 0} (steps : List (StepOver A)) (truths : List Bool) → length (with_truths steps truths) ≡ length steps
length_with [] truths = refl
length_with (kinds.Test t ∷ steps) [] = ap suc (length_with steps [])
length_with (kinds.Test t ∷ steps) (truth ∷ truths) = ap suc (length_with steps truths)
length_with (kinds.Not ∷ steps) truths = ap suc (length_with steps truths)
length_with (kinds.And ∷ steps) truths = ap suc (length_with steps truths)
length_with (kinds.Or ∷ steps) truths = ap suc (length_with steps truths)

-- what is behind an operator is a part of the steps
pub behind_length : (truth : Bool) (above : ℕ) (steps behind : List (StepOver Bool)) → behind_decided truth above steps ≡ Some behind → length behind ≤ length steps
behind_length truth above [] behind is = absurd (cc)
behind_length truth above (kinds.Test t ∷ steps) behind is = omega (arith, behind_length truth (suc above) steps behind is)
behind_length truth above (kinds.Not ∷ steps) behind is = omega (arith, behind_length truth above steps behind is)
behind_length truth (suc above) (kinds.And ∷ steps) behind is = omega (arith, behind_length truth above steps behind is)
behind_length truth (suc above) (kinds.Or ∷ steps) behind is = omega (arith, behind_length truth above steps behind is)
behind_length true zero (kinds.And ∷ steps) behind is = absurd (cc)
behind_length false zero (kinds.And ∷ steps) behind is = let same : steps ≡ behind = cc in omega (arith, ap length same)
behind_length true zero (kinds.Or ∷ steps) behind is = let same : steps ≡ behind = cc in omega (arith, ap length same)
behind_length false zero (kinds.Or ∷ steps) behind is = absurd (cc)

-- a truth that decides its operator is left by it, whatever the other operand
passed_over : (truth : Bool) (above : ℕ) (steps behind : List (StepOver Bool)) (more below : List Bool) → behind_decided truth above steps ≡ Some behind → length more ≡ suc above →
    left_by steps (more ++ truth ∷ below) ≡ left_by behind (truth ∷ below)
unfolding truths_of
passed_over truth above [] behind more below is as_many = absurd (cc)
passed_over truth above (kinds.Test t ∷ steps) behind more below is as_many = passed_over truth (suc above) steps behind (t ∷ more) below is (ap suc as_many)
passed_over truth above (kinds.Not ∷ steps) behind [] below is as_many = absurd (omega arith)
passed_over truth above (kinds.Not ∷ steps) behind (b ∷ more) below is as_many = passed_over truth above steps behind (not b ∷ more) below is as_many
passed_over truth (suc above) (kinds.And ∷ steps) behind [] below is as_many = absurd (omega arith)
passed_over truth (suc above) (kinds.And ∷ steps) behind (b ∷ []) below is as_many = absurd (omega arith)
passed_over truth (suc above) (kinds.And ∷ steps) behind (b ∷ a ∷ more) below is as_many = passed_over truth above steps behind ((a && b) ∷ more) below is (omega arith)
passed_over truth (suc above) (kinds.Or ∷ steps) behind [] below is as_many = absurd (omega arith)
passed_over truth (suc above) (kinds.Or ∷ steps) behind (b ∷ []) below is as_many = absurd (omega arith)
passed_over truth (suc above) (kinds.Or ∷ steps) behind (b ∷ a ∷ more) below is as_many = passed_over truth above steps behind ((a || b) ∷ more) below is (omega arith)
passed_over true zero (kinds.And ∷ steps) behind more below is as_many = absurd (cc)
passed_over false zero (kinds.And ∷ steps) behind [] below is as_many = absurd (omega arith)
passed_over false zero (kinds.And ∷ steps) behind (b ∷ []) below is as_many = let same : steps ≡ behind = cc in ap (λ (s : List (StepOver Bool)). left_by s (false ∷ below)) same
passed_over false zero (kinds.And ∷ steps) behind (b ∷ a ∷ more) below is as_many = absurd (omega arith)
passed_over true zero (kinds.Or ∷ steps) behind [] below is as_many = absurd (omega arith)
passed_over true zero (kinds.Or ∷ steps) behind (b ∷ []) below is as_many = let same : steps ≡ behind = cc in ap (λ (s : List (StepOver Bool)). left_by s (true ∷ below)) same
passed_over true zero (kinds.Or ∷ steps) behind (b ∷ a ∷ more) below is as_many = absurd (omega arith)
passed_over false zero (kinds.Or ∷ steps) behind more below is as_many = absurd (cc)

-- what decides nothing below a truth that is left decides nothing behind it
same_behind : (truth other : Bool) (above more : ℕ) (m : ℕ) (steps behind : List (StepOver Bool)) → behind_decided truth above steps ≡ Some behind → m ≡ suc (above + more) →
    behind_decided other m steps ≡ behind_decided other more behind
same_behind truth other above more m [] behind is counts = absurd (cc)
same_behind truth other above more m (kinds.Test t ∷ steps) behind is counts = same_behind truth other (suc above) more (suc m) steps behind is (omega arith)
same_behind truth other above more m (kinds.Not ∷ steps) behind is counts = same_behind truth other above more m steps behind is counts
same_behind truth other (suc above) more zero (kinds.And ∷ steps) behind is counts = absurd (omega arith)
same_behind truth other (suc above) more (suc m) (kinds.And ∷ steps) behind is counts = same_behind truth other above more m steps behind is (omega arith)
same_behind truth other (suc above) more zero (kinds.Or ∷ steps) behind is counts = absurd (omega arith)
same_behind truth other (suc above) more (suc m) (kinds.Or ∷ steps) behind is counts = same_behind truth other above more m steps behind is (omega arith)
same_behind true other zero more m (kinds.And ∷ steps) behind is counts = absurd (cc)
same_behind false other zero more zero (kinds.And ∷ steps) behind is counts = absurd (omega arith)
same_behind false other zero more (suc m) (kinds.And ∷ steps) behind is counts = let same : steps ≡ behind = cc in let n : m ≡ more = omega arith in rw (n, same) refl
same_behind true other zero more zero (kinds.Or ∷ steps) behind is counts = absurd (omega arith)
same_behind true other zero more (suc m) (kinds.Or ∷ steps) behind is counts = let same : steps ≡ behind = cc in let n : m ≡ more = omega arith in rw (n, same) refl
same_behind false other zero more m (kinds.Or ∷ steps) behind is counts = absurd (cc)

none_behind : (truth : Bool) (more : ℕ) (m : ℕ) (truths : List Bool) (steps behind : List (StepOver Bool)) → behind_decided truth zero steps ≡ Some behind → m ≡ suc more →
    NoneDecides m truths steps → NoneDecides more truths behind
none_behind truth more m [] steps behind is counts none = tt
none_behind truth more m (other ∷ truths) steps behind is counts none =
    (sym (same_behind truth other zero more m steps behind is (omega arith)) ∙ none.0, none_behind truth (suc more) (suc m) truths steps behind is (omega arith) none.1)

-- a step that leaves one truth more, or as many, or one less
none_test : (above : ℕ) (truths : List Bool) (t : Bool) (steps : List (StepOver Bool)) → NoneDecides above truths (kinds.Test t ∷ steps) → NoneDecides (suc above) truths steps
none_test above [] t steps none = tt
none_test above (truth ∷ truths) t steps none = (none.0, none_test (suc above) truths t steps none.1)

none_not : (above : ℕ) (truths : List Bool) (steps : List (StepOver Bool)) → NoneDecides above truths (kinds.Not ∷ steps) → NoneDecides above truths steps
none_not above [] steps none = tt
none_not above (truth ∷ truths) steps none = (none.0, none_not (suc above) truths steps none.1)

none_and : (above : ℕ) (truths : List Bool) (steps : List (StepOver Bool)) → NoneDecides (suc above) truths (kinds.And ∷ steps) → NoneDecides above truths steps
none_and above [] steps none = tt
none_and above (truth ∷ truths) steps none = (none.0, none_and (suc above) truths steps none.1)

none_or : (above : ℕ) (truths : List Bool) (steps : List (StepOver Bool)) → NoneDecides (suc above) truths (kinds.Or ∷ steps) → NoneDecides above truths steps
none_or above [] steps none = tt
none_or above (truth ∷ truths) steps none = (none.0, none_or (suc above) truths steps none.1)

-- no step was taken
pub none_left : (steps : List (StepOver Bool)) → AreLeft false zero steps (left_by steps [])
none_left steps = record { truths = []; counted = refl; is_last = refl; leaves = refl; undecided = tt }

-- a test that comes over a truth that doesn't decide its operator
over : (t : Bool) (count : ℕ) (truths : List Bool) (last : Bool) (steps : List (StepOver Bool)) (left : List Bool) → (0 < count → behind_decided last zero steps ≡ None) →
    length truths ≡ count → last_truth truths ≡ last → left_by (kinds.Test t ∷ steps) truths ≡ left → NoneDecides zero (below_last truths) (kinds.Test t ∷ steps) → AreLeft t (count + 1) steps left
unfolding truths_of
over t count [] last steps left needed counted is_last leaves undecided = record { truths = t ∷ []; counted = omega arith; is_last = refl; leaves = leaves; undecided = tt }
over t count (truth ∷ truths) last steps left needed counted is_last leaves undecided =
    record { truths = t ∷ truth ∷ truths; counted = omega arith; is_last = refl; leaves = leaves; undecided = (ap (λ (b : Bool). behind_decided b zero steps) is_last ∙ needed (omega arith), none_test zero truths t steps undecided) }

pub test_taken : (t last : Bool) (count : ℕ) (steps : List (StepOver Bool)) (left : List Bool) → (0 < count → behind_decided last zero steps ≡ None) →
    AreLeft last count (kinds.Test t ∷ steps) left → AreLeft t (count + 1) steps left
test_taken t last count steps left needed so_far = over t count so_far.truths last steps left needed so_far.counted so_far.is_last so_far.leaves so_far.undecided

-- a test whose operator is decided
past : (t : Bool) (count : ℕ) (truths : List Bool) (last : Bool) (steps behind : List (StepOver Bool)) (left : List Bool) → 0 < count → behind_decided last zero steps ≡ Some behind →
    length truths ≡ count → last_truth truths ≡ last → left_by (kinds.Test t ∷ steps) truths ≡ left → NoneDecides zero (below_last truths) (kinds.Test t ∷ steps) → AreLeft last count behind left
unfolding truths_of
past t count [] last steps behind left some is counted is_last leaves undecided = absurd (omega arith)
past t count (truth ∷ truths) last steps behind left some is counted is_last leaves undecided =
    let decided : behind_decided truth zero steps ≡ Some behind = ap (λ (b : Bool). behind_decided b zero steps) is_last ∙ is in
    record {
      truths = truth ∷ truths;
      counted = counted;
      is_last = is_last;
      leaves = sym (passed_over truth zero steps behind (t ∷ []) truths decided refl) ∙ leaves;
      undecided = none_behind truth zero (suc zero) truths steps behind decided refl (none_test zero truths t steps undecided);
    }

pub test_passed : (t last : Bool) (count : ℕ) (steps behind : List (StepOver Bool)) (left : List Bool) → 0 < count → behind_decided last zero steps ≡ Some behind →
    AreLeft last count (kinds.Test t ∷ steps) left → AreLeft last count behind left
test_passed t last count steps behind left some is so_far = past t count so_far.truths last steps behind left some is so_far.counted so_far.is_last so_far.leaves so_far.undecided

-- the contrary of the last truth
contrary : (count : ℕ) (truths : List Bool) (last : Bool) (steps : List (StepOver Bool)) (left : List Bool) → 0 < count →
    length truths ≡ count → last_truth truths ≡ last → left_by (kinds.Not ∷ steps) truths ≡ left → NoneDecides zero (below_last truths) (kinds.Not ∷ steps) → AreLeft (not last) count steps left
unfolding truths_of
contrary count [] last steps left some counted is_last leaves undecided = absurd (omega arith)
contrary count (truth ∷ truths) last steps left some counted is_last leaves undecided =
    record { truths = not truth ∷ truths; counted = counted; is_last = ap not is_last; leaves = leaves; undecided = none_not zero truths steps undecided }

pub not_taken : (last : Bool) (count : ℕ) (steps : List (StepOver Bool)) (left : List Bool) → 0 < count → AreLeft last count (kinds.Not ∷ steps) left → AreLeft (not last) count steps left
not_taken last count steps left some so_far = contrary count so_far.truths last steps left some so_far.counted so_far.is_last so_far.leaves so_far.undecided

no_contrary : (count : ℕ) (truths : List Bool) (last : Bool) (steps : List (StepOver Bool)) (left : List Bool) → count ≡ 0 →
    length truths ≡ count → last_truth truths ≡ last → left_by (kinds.Not ∷ steps) truths ≡ left → AreLeft last count steps left
unfolding truths_of
no_contrary count [] last steps left none counted is_last leaves = record { truths = []; counted = counted; is_last = is_last; leaves = leaves; undecided = tt }
no_contrary count (truth ∷ truths) last steps left none counted is_last leaves = absurd (omega arith)

pub not_passed : (last : Bool) (count : ℕ) (steps : List (StepOver Bool)) (left : List Bool) → count ≡ 0 → AreLeft last count (kinds.Not ∷ steps) left → AreLeft last count steps left
not_passed last count steps left none so_far = no_contrary count so_far.truths last steps left none so_far.counted so_far.is_last so_far.leaves

-- an operator whose first operand doesn't decide it
join_and : (count rest : ℕ) (truths : List Bool) (last new : Bool) (steps : List (StepOver Bool)) (left : List Bool) →
    (1 < count → (new ≡ last) × (rest + 1 ≡ count)) → (count ≤ 1 → (new ≡ false) × (rest ≡ 0)) →
    length truths ≡ count → last_truth truths ≡ last → left_by (kinds.And ∷ steps) truths ≡ left → NoneDecides zero (below_last truths) (kinds.And ∷ steps) → AreLeft new rest steps left
unfolding truths_of
join_and count rest [] last new steps left two fewer counted is_last leaves undecided =
    let none : (new ≡ false) × (rest ≡ 0) = fewer (omega arith) in
    record { truths = []; counted = omega arith; is_last = sym none.0; leaves = leaves; undecided = tt }
join_and count rest (b ∷ []) last new steps left two fewer counted is_last leaves undecided =
    let none : (new ≡ false) × (rest ≡ 0) = fewer (omega arith) in
    record { truths = []; counted = omega arith; is_last = sym none.0; leaves = leaves; undecided = tt }
join_and count rest (b ∷ true ∷ truths) last new steps left two fewer counted is_last leaves undecided =
    let some : (new ≡ last) × (rest + 1 ≡ count) = two (omega arith) in
    record { truths = b ∷ truths; counted = omega arith; is_last = is_last ∙ sym some.0; leaves = leaves; undecided = none_and zero truths steps undecided.1 }
join_and count rest (b ∷ false ∷ truths) last new steps left two fewer counted is_last leaves undecided =
    let decides : Some steps ≡ None = undecided.0 in absurd (cc)

join_or : (count rest : ℕ) (truths : List Bool) (last new : Bool) (steps : List (StepOver Bool)) (left : List Bool) →
    (1 < count → (new ≡ last) × (rest + 1 ≡ count)) → (count ≤ 1 → (new ≡ false) × (rest ≡ 0)) →
    length truths ≡ count → last_truth truths ≡ last → left_by (kinds.Or ∷ steps) truths ≡ left → NoneDecides zero (below_last truths) (kinds.Or ∷ steps) → AreLeft new rest steps left
unfolding truths_of
join_or count rest [] last new steps left two fewer counted is_last leaves undecided =
    let none : (new ≡ false) × (rest ≡ 0) = fewer (omega arith) in
    record { truths = []; counted = omega arith; is_last = sym none.0; leaves = leaves; undecided = tt }
join_or count rest (b ∷ []) last new steps left two fewer counted is_last leaves undecided =
    let none : (new ≡ false) × (rest ≡ 0) = fewer (omega arith) in
    record { truths = []; counted = omega arith; is_last = sym none.0; leaves = leaves; undecided = tt }
join_or count rest (b ∷ false ∷ truths) last new steps left two fewer counted is_last leaves undecided =
    let some : (new ≡ last) × (rest + 1 ≡ count) = two (omega arith) in
    record { truths = b ∷ truths; counted = omega arith; is_last = is_last ∙ sym some.0; leaves = leaves; undecided = none_or zero truths steps undecided.1 }
join_or count rest (b ∷ true ∷ truths) last new steps left two fewer counted is_last leaves undecided =
    let decides : Some steps ≡ None = undecided.0 in absurd (cc)

pub and_taken : (last new : Bool) (count rest : ℕ) (steps : List (StepOver Bool)) (left : List Bool) →
    (1 < count → (new ≡ last) × (rest + 1 ≡ count)) → (count ≤ 1 → (new ≡ false) × (rest ≡ 0)) → AreLeft last count (kinds.And ∷ steps) left → AreLeft new rest steps left
and_taken last new count rest steps left two fewer so_far = join_and count rest so_far.truths last new steps left two fewer so_far.counted so_far.is_last so_far.leaves so_far.undecided

pub or_taken : (last new : Bool) (count rest : ℕ) (steps : List (StepOver Bool)) (left : List Bool) →
    (1 < count → (new ≡ last) × (rest + 1 ≡ count)) → (count ≤ 1 → (new ≡ false) × (rest ≡ 0)) → AreLeft last count (kinds.Or ∷ steps) left → AreLeft new rest steps left
or_taken last new count rest steps left two fewer so_far = join_or count rest so_far.truths last new steps left two fewer so_far.counted so_far.is_last so_far.leaves so_far.undecided

-- no step is left
at_end : (last : Bool) (truths left : List Bool) → last_truth truths ≡ last → left_by [] truths ≡ left → last ≡ last_truth left
unfolding truths_of
at_end last truths left is_last leaves = sym is_last ∙ ap last_truth leaves

pub all_taken : (last : Bool) (count : ℕ) (left : List Bool) → AreLeft last count [] left → last ≡ last_truth left
all_taken last count left so_far = at_end last so_far.truths left so_far.is_last so_far.leaves
