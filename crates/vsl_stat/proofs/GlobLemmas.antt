-- The star that was met last is the one star to come back to: where a glob's bytes up to a star stand somewhere in a name, they may
-- stand at the first such place, since the star takes what is between.
use Rattle.std.proofs.Common.{◌≡◌, ℕ, zero, suc, Bool, true, false, eqb, ◌||◌, inl, inr, List, [], ◌∷◌, ◌++◌, length, drop, refl, ap, sym, ◌∙◌, ◌+◌, ◌<◌, arith, length-append, append_assoc}
use Rattle.std.proofs.lemmas.Bool.{and_parts, eq-eqb, eqb-true, ne_eqb, or_cases, or_left, or_right}
use Rattle.vsl_stat.specs.Glob.{star, at_some_place, glob_matches}
use Rattle.vsl_stat.specs.inside.Reading.{IsPlain, IsRead, IsSought}

-- bytes without a star match themselves
pub plain_read : (read glob name : List ℕ) → IsPlain read → glob_matches (read ++ glob) (read ++ name) ≡ glob_matches glob name
plain_read [] glob name plain = refl
plain_read (b ∷ read) glob name plain = rw (plain.0, eq-eqb b b refl) (plain_read read glob name plain.1)

-- a test that is passed at the first place is passed at some place
pub at_first : (test : List ℕ → Bool) (name : List ℕ) → test name ≡ true → at_some_place test name ≡ true
at_first test [] passed = passed
at_first test (b ∷ name) passed = or_left _ _ passed

-- nothing is left of nothing
drop_none : (n : ℕ) (xs : List ℕ) → xs ≡ [] → drop n xs ≡ []
drop_none zero xs e = e
drop_none (suc n) [] e = refl
drop_none (suc n) (x ∷ xs) e = absurd (cc)

-- what is at some place after some bytes is also after one byte less
one_sooner : (test : List ℕ → Bool) (n : ℕ) (b : ℕ) (name : List ℕ) → at_some_place test (drop n name) ≡ true → at_some_place test (drop n (b ∷ name)) ≡ true
one_sooner test zero b name passed = or_right _ _ passed
one_sooner test (suc n) b [] passed = ap (at_some_place test) (drop_none n [] refl) ∙ passed
one_sooner test (suc n) b (c ∷ name) passed = one_sooner test n c name passed

-- after bytes without a star and a star, the rest of the glob matches at some place after as many bytes of the name
past_first : (read glob name : List ℕ) → IsPlain read → glob_matches (read ++ star ∷ glob) name ≡ true → at_some_place (glob_matches glob) (drop (length read) name) ≡ true
past_first [] glob name plain matched = matched
past_first (b ∷ read) glob [] plain matched = absurd (let clash = rw plain.0 at matched in cc)
past_first (b ∷ read) glob (c ∷ name) plain matched =
    past_first read glob name plain.1 (and_parts _ _ (rw plain.0 at matched)).1

-- the same, where they match at some place
past_some : (read glob name : List ℕ) → IsPlain read → at_some_place (glob_matches (read ++ star ∷ glob)) name ≡ true → at_some_place (glob_matches glob) (drop (length read) name) ≡ true
past_some read glob [] plain matched = past_first read glob [] plain matched
past_some read glob (b ∷ name) plain matched =
    elim (or_cases _ _ matched) [
      | inl here ↦ past_first read glob (b ∷ name) plain here
      | inr later ↦ one_sooner (glob_matches glob) (length read) b name (past_some read glob name plain later)
    ]

-- as many bytes as there are
drop_read : (read name : List ℕ) → drop (length read) (read ++ name) ≡ name
drop_read [] name = refl
drop_read (b ∷ read) name = drop_read read name

-- two tests are one where each passes what the other does
same_test : (a b : Bool) → (a ≡ true → b ≡ true) → (b ≡ true → a ≡ true) → a ≡ b
same_test true b to from = sym (to refl)
same_test false true to from = from refl
same_test false false to from = refl

-- where a star is met, what matches at some place is what follows the star
pub star_later : (glob name glob_rest name_rest : List ℕ) → IsRead glob name (star ∷ glob_rest) name_rest
    → at_some_place (glob_matches glob) name ≡ at_some_place (glob_matches glob_rest) name_rest
star_later glob name glob_rest name_rest met =
    same_test _ _
    (λ matched. rw (drop_read met.read name_rest) at (past_some met.read glob_rest (met.read ++ name_rest) met.plain (rw (met.glob_is, met.name_is) at matched)))
    (λ matched. rw (met.glob_is, met.name_is) (at_first (glob_matches (met.read ++ star ∷ glob_rest)) (met.read ++ name_rest) (plain_read met.read (star ∷ glob_rest) name_rest met.plain ∙ matched)))

-- where a star is met, the name matches where what is left of it does at some place
pub star_first : (glob name glob_rest name_rest : List ℕ) → IsRead glob name (star ∷ glob_rest) name_rest
    → glob_matches glob name ≡ at_some_place (glob_matches glob_rest) name_rest
star_first glob name glob_rest name_rest met = rw (met.glob_is, met.name_is) (plain_read met.read (star ∷ glob_rest) name_rest met.plain)

-- what is left matches as the whole does
pub read_matches : (glob name glob_rest name_rest : List ℕ) → IsRead glob name glob_rest name_rest → glob_matches glob name ≡ glob_matches glob_rest name_rest
read_matches glob name glob_rest name_rest met = rw (met.glob_is, met.name_is) (plain_read met.read glob_rest name_rest met.plain)

-- a star is met
pub met_star : (glob name g n after : List ℕ) (b : ℕ) → IsRead glob name g n → g ≡ b ∷ after → eqb b 42 ≡ true → IsRead glob name (star ∷ after) n
met_star glob name g n after b met is e = record {
  read = met.read;
  plain = met.plain;
  glob_is = met.glob_is ∙ ap (λ (x : List ℕ). met.read ++ x) (is ∙ ap (λ (x : ℕ). x ∷ after) (eqb-true b 42 e));
  name_is = met.name_is;
}

-- the name ends before the glob
pub met_short : (glob name g n after : List ℕ) (b : ℕ) → IsRead glob name g n → g ≡ b ∷ after → eqb b 42 ≡ false → length n ≡ 0 → false ≡ glob_matches glob name
met_short glob name g [] after b met is e none = sym (read_matches glob name g [] met ∙ rw (is, e) refl)
met_short glob name g (x ∷ n) after b met is e none = absurd (omega (arith, none))

-- two bytes differ
pub met_other : (glob name g n after behind : List ℕ) (b x : ℕ) → IsRead glob name g n → g ≡ b ∷ after → eqb b 42 ≡ false → n ≡ x ∷ behind → eqb b x ≡ false → false ≡ glob_matches glob name
met_other glob name g n after behind b x met is e more differ = sym (read_matches glob name g n met ∙ rw (is, more, e, differ) refl)

-- bytes without a star, and one more
plain_more : (read : List ℕ) (b : ℕ) → IsPlain read → eqb b 42 ≡ false → IsPlain (read ++ b ∷ [])
plain_more [] b plain e = (e, tt)
plain_more (x ∷ read) b plain e = (plain.0, plain_more read b plain.1 e)

-- two bytes are alike
pub met_same : (glob name g n after behind : List ℕ) (b x : ℕ) → IsRead glob name g n → g ≡ b ∷ after → eqb b 42 ≡ false → n ≡ x ∷ behind → eqb b x ≡ true → IsRead glob name after behind
met_same glob name g n after behind b x met is e more same = record {
  read = met.read ++ b ∷ [];
  plain = plain_more met.read b met.plain e;
  glob_is = met.glob_is ∙ ap (λ (l : List ℕ). met.read ++ l) is ∙ sym (append_assoc met.read (b ∷ []) after);
  name_is = met.name_is ∙ ap (λ (l : List ℕ). met.read ++ l) (more ∙ ap (λ (y : ℕ). y ∷ behind) (sym (eqb-true b x same))) ∙ sym (append_assoc met.read (b ∷ []) behind);
}

-- the glob has ended
pub met_end : (glob name g n : List ℕ) → IsRead glob name g n → length g ≡ 0 → eqb (length n) 0 ≡ glob_matches glob name
met_end glob name [] [] met none = sym (read_matches glob name [] [] met)
met_end glob name [] (x ∷ n) met none = ne_eqb (length (x ∷ n)) 0 (λ e. omega (arith, e)) ∙ sym (read_matches glob name [] (x ∷ n) met)
met_end glob name (b ∷ g) n met none = absurd (omega (arith, none))

-- nothing was read
pub met_nothing : (glob name : List ℕ) → IsRead glob name glob name
met_nothing glob name = record { read = []; plain = tt; glob_is = refl; name_is = refl }

pub ruleset reading = (met_star, met_short, met_other, met_same, met_end, met_nothing)

-- it matches here
pub sought_here : (glob name g n : List ℕ) → IsSought glob name g n → true ≡ glob_matches g n → true ≡ at_some_place (glob_matches glob) name
sought_here glob name g n sought here = sym (sought.same ∙ at_first (glob_matches g) n (sym here))

-- it matches nowhere
pub sought_nowhere : (glob name g n : List ℕ) → IsSought glob name g n → false ≡ glob_matches g n → length n ≡ 0 → false ≡ at_some_place (glob_matches glob) name
sought_nowhere glob name g [] sought here none = sym (sought.same ∙ sym here)
sought_nowhere glob name g (x ∷ n) sought here none = absurd (omega (arith, none))

-- it may match one byte later
pub sought_next : (glob name g n behind : List ℕ) (x : ℕ) → IsSought glob name g n → false ≡ glob_matches g n → n ≡ x ∷ behind → IsSought glob name g behind
sought_next glob name g n behind x sought here is =
    record { same = sought.same ∙ ap (at_some_place (glob_matches g)) is ∙ ap (λ (t : Bool). t || at_some_place (glob_matches g) behind) (ap (glob_matches g) (sym is) ∙ sym here) }

-- it matches where it does after a star
pub sought_star : (glob name g n after behind : List ℕ) → IsSought glob name g n → IsRead g n (star ∷ after) behind → IsSought glob name after behind
sought_star glob name g n after behind sought met = record { same = sought.same ∙ star_later g n after behind met }

-- after a star less is left
pub star_shorter : (g n after behind : List ℕ) → IsRead g n (star ∷ after) behind → length after + length behind < length g + length n
star_shorter g n after behind met = omega (arith, ap length met.glob_is, ap length met.name_is, length-append met.read (star ∷ after), length-append met.read behind)

-- nothing was passed over
pub sought_first : (glob name : List ℕ) → IsSought glob name glob name
sought_first glob name = record { same = refl }

pub ruleset seeking = (sought_here, sought_nowhere, sought_next, sought_star, star_shorter, sought_first)

-- the answer after the first star
pub after_first_star : (answer : Bool) (glob name after behind : List ℕ) → IsRead glob name (star ∷ after) behind → answer ≡ at_some_place (glob_matches after) behind → answer ≡ glob_matches glob name
after_first_star answer glob name after behind met e = e ∙ sym (star_first glob name after behind met)
