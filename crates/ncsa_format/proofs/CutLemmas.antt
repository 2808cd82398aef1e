-- Texts that are cut before the first of some bytes.
use Rattle.std.proofs.Common.{◌≡◌, ℕ, suc, ◌+◌, ◌≤◌, Bool, true, false, cond, not, ltb, List, [], ◌∷◌, ◌++◌, length, take, drop, Option, Some, None, refl, ap, ◌∙◌, arith}
use Rattle.std.specs.Option.{unwrap_or}
use Rattle.std.specs.List.{list_any, position, position_or_len}
use Rattle.std.proofs.lemmas.Bool.{or_from, or_parts}
use Rattle.std.proofs.lemmas.Bool.Decides.{nat_tests}
use Rattle.std.proofs.lemmas.List.Sums.{prefix_len-le-length}
use Rattle.std.proofs.lemmas.List.{drop_at, take_at}
use Rattle.ncsa_format.specs.inside.Cut.{Begins, IsCut}

-- one byte more before the first
cut_more : (p : ℕ → Bool) (b : ℕ) (text : List ℕ) (t : Bool) → p b ≡ t → IsCut p text (take (position_or_len p text) text) (drop (position_or_len p text) text)
    → IsCut p (b ∷ text) (take (cond (not t) (1 + position_or_len p text) 0) (b ∷ text)) (drop (cond (not t) (1 + position_or_len p text) 0) (b ∷ text))
cut_more p b text true is rest = record { parts = refl; none = refl; first = is }
cut_more p b text false is rest =
    let next : suc (position_or_len p text) ≡ 1 + position_or_len p text = omega arith in
    rw (← next) (record { parts = ap (λ (xs : List ℕ). b ∷ xs) rest.parts; none = or_from _ _ is rest.none; first = rest.first })

-- a text is cut at its first
pub cut_of : (p : ℕ → Bool) (text : List ℕ) → IsCut p text (take (position_or_len p text) text) (drop (position_or_len p text) text)
cut_of p [] = record { parts = refl; none = refl; first = tt }
cut_of p (b ∷ text) = cut_more p b text (p b) refl (cut_of p text)

place_by : (n most : ℕ) (t : Bool) → ltb n most ≡ t → n ≤ most → unwrap_or (cond t (Some n) None) most ≡ n
place_by n most true is within = refl
place_by n most false is within = grind (arith, nat_tests)

-- the same, where the place was looked for
pub cut_at : (p : ℕ → Bool) (text front behind : List ℕ) (place : Option ℕ) → place ≡ position p text
    → front ≡ take (unwrap_or place (length text)) text → behind ≡ drop (unwrap_or place (length text)) text → IsCut p text front behind
cut_at p text front behind place is is_front is_behind =
    let at : unwrap_or place (length text) ≡ position_or_len p text = ap (λ (o : Option ℕ). unwrap_or o (length text)) is ∙ place_by (position_or_len p text) (length text) (ltb (position_or_len p text) (length text)) refl (prefix_len-le-length _ text) in
    rw (is_front, is_behind, at) (cut_of p text)

-- the first stands where it is cut
place_in : (p : ℕ → Bool) (front behind : List ℕ) → list_any p front ≡ false → Begins p behind → position_or_len p (front ++ behind) ≡ length front
place_in p [] [] none first = refl
place_in p [] (b ∷ behind) none first = ap (λ (t : Bool). cond (not t) (1 + position_or_len p behind) 0) first
place_in p (b ∷ front) behind none first =
    let both = or_parts (p b) (list_any p front) none in
    let more : 1 + position_or_len p (front ++ behind) ≡ suc (length front) = omega (arith, place_in p front behind both.1 first) in
    ap (λ (t : Bool). cond (not t) (1 + position_or_len p (front ++ behind)) 0) both.0 ∙ more

pub place_is : (p : ℕ → Bool) (text front behind : List ℕ) → IsCut p text front behind → position_or_len p text ≡ length front
place_is p text front behind cut = ap (position_or_len p) cut.parts ∙ place_in p front behind cut.none cut.first

-- what stands before the first, and from it on
pub front_is : (p : ℕ → Bool) (text front behind : List ℕ) → IsCut p text front behind → take (position_or_len p text) text ≡ front
front_is p text front behind cut = rw (place_is p text front behind cut, cut.parts) (take_at front behind (length front) refl)

pub behind_is : (p : ℕ → Bool) (text front behind : List ℕ) → IsCut p text front behind → drop (position_or_len p text) text ≡ behind
behind_is p text front behind cut = rw (place_is p text front behind cut, cut.parts) (drop_at front behind (length front) refl)
