-- Lists whose elements stand in a strict order are known by what is in them.
use Rattle.std.proofs.Common.{◌≡◌, ◌<◌, ◌≤◌, ⊎_elim, inl, inr, ℕ, zero, suc, Bool, true, false, Some, None, take, get_or, List, [], ◌∷◌, ◌++◌, length, refl, ap, sym, ◌∙◌, subst, arith}
use Rattle.std.specs.Prelude.{⊤}
use Rattle.std.specs.List.{filter, find, list_any}
use Rattle.txn_rows.proofs.LineLemmas.{by_cases}
use Rattle.txn_groups.specs.inside.Nodes.{IsIn}

-- the fact holds of each
abbrev pub AllOf : {X : Type 0} → (X → Type 0) → List X → Type 0
AllOf P [] = ⊤
AllOf P (x ∷ xs) = P x × AllOf P xs

-- each is so related to all behind it
abbrev pub InRow : {X : Type 0} → (X → X → Type 0) → List X → Type 0
InRow R [] = ⊤
InRow R (x ∷ xs) = AllOf (R x) xs × InRow R xs

pub all_at : {X : Type 0} (P : X → Type 0) (xs : List X) (x : X) → AllOf P xs → IsIn xs x → P x
all_at P [] x a i = absurd i
all_at P (y ∷ xs) x a i = ⊎_elim (λ (e : x ≡ y). subst P (sym e) a.0) (λ (later : IsIn xs x). all_at P xs x a.1 later) i

pub all_weaker : {X : Type 0} (P Q : X → Type 0) → ((x : X) → P x → Q x) → (xs : List X) → AllOf P xs → AllOf Q xs
all_weaker P Q w [] a = tt
all_weaker P Q w (x ∷ xs) a = (w x a.0, all_weaker P Q w xs a.1)

-- all that are in another are so without its first, where none is that
shrunk : {X : Type 0} (y : X) (ys all : List X) → AllOf (λ t. (t ≡ y) → ⊥) all → AllOf (IsIn (y ∷ ys)) all → AllOf (IsIn ys) all
shrunk y ys [] other within = tt
shrunk y ys (t ∷ all) other within = (⊎_elim (λ (e : t ≡ y). absurd (other.0 e)) (λ (later : IsIn ys t). later) within.0, shrunk y ys all other.1 within.1)

pub sorted_same : {X : Type 0} (R : X → X → Type 0) → ((x y : X) → R x y → R y x → ⊥) → (xs ys : List X) → InRow R xs → InRow R ys → AllOf (IsIn ys) xs → AllOf (IsIn xs) ys → xs ≡ ys
sorted_same R one_way [] [] o p sub sup = refl
sorted_same R one_way [] (y ∷ ys) o p sub sup = absurd sup.0
sorted_same R one_way (x ∷ xs) [] o p sub sup = absurd sub.0
sorted_same {X} R one_way (x ∷ xs) (y ∷ ys) o p sub sup =
    let head : x ≡ y = ⊎_elim (λ (e : x ≡ y). e)
    (λ (later : IsIn ys x). ⊎_elim (λ (e : y ≡ x). sym e) (λ (back : IsIn xs y). absurd (one_way x y (all_at (R x) xs y o.0 back) (all_at (R y) ys x p.0 later))) sup.0)
    sub.0 in
    let apart : (t : X) → R x t → (t ≡ y) → ⊥ = λ t r e. let s : R x x = subst (R x) (e ∙ sym head) r in one_way x x s s in
    let apart_y : (t : X) → R y t → (t ≡ x) → ⊥ = λ t r e. let s : R y y = subst (R y) (e ∙ head) r in one_way y y s s in
    let rest : xs ≡ ys = sorted_same R one_way xs ys o.1 p.1
    (shrunk y ys xs (all_weaker (R x) (λ t. (t ≡ y) → ⊥) apart xs o.0) sub.1)
    (shrunk x xs ys (all_weaker (R y) (λ t. (t ≡ x) → ⊥) apart_y ys p.0) sup.1) in
    ap (λ (h : X). h ∷ xs) head ∙ ap (λ (l : List X). y ∷ l) rest

pub sorted_fewer : {X : Type 0} (R : X → X → Type 0) → ((x y : X) → R x y → R y x → ⊥) → (xs ys : List X) → InRow R xs → InRow R ys → AllOf (IsIn ys) xs → length xs ≤ length ys
sorted_fewer R one_way [] ys o p sub = omega arith
sorted_fewer R one_way (x ∷ xs) [] o p sub = absurd sub.0
sorted_fewer {X} R one_way (x ∷ xs) (y ∷ ys) o p sub = ⊎_elim
    (λ (e : x ≡ y).
    let apart : (t : X) → R x t → (t ≡ y) → ⊥ = λ t r f. let s : R x x = subst (R x) (f ∙ sym e) r in one_way x x s s in
    omega (arith, sorted_fewer R one_way xs ys o.1 p.1 (shrunk y ys xs (all_weaker (R x) (λ t. (t ≡ y) → ⊥) apart xs o.0) sub.1)))
    (λ (later : IsIn ys x).
    let back : R y x = all_at (R y) ys x p.0 later in
    let apart : (t : X) → R x t → (t ≡ y) → ⊥ = λ t r f. one_way x y (subst (R x) f r) back in
    let fewer = sorted_fewer R one_way (x ∷ xs) ys o p.1 (later, shrunk y ys xs (all_weaker (R x) (λ t. (t ≡ y) → ⊥) apart xs o.0) sub.1) in
    omega (arith, fewer))
    sub.0

pub all_append : {X : Type 0} (P : X → Type 0) (xs ys : List X) → AllOf P xs → AllOf P ys → AllOf P (xs ++ ys)
all_append P [] ys a b = b
all_append P (x ∷ xs) ys a b = (a.0, all_append P xs ys a.1 b)

pub in_left : {X : Type 0} (xs ys : List X) (x : X) → IsIn xs x → IsIn (xs ++ ys) x
in_left [] ys x i = absurd i
in_left (y ∷ xs) ys x i = ⊎_elim (λ (e : x ≡ y). inl e) (λ (later : IsIn xs x). inr (in_left xs ys x later)) i

pub in_right : {X : Type 0} (xs ys : List X) (x : X) → IsIn ys x → IsIn (xs ++ ys) x
in_right [] ys x i = i
in_right (y ∷ xs) ys x i = inr (in_right xs ys x i)

-- one more behind all of them
pub row_push : {X : Type 0} (R : X → X → Type 0) (xs : List X) (y : X) → InRow R xs → AllOf (λ x. R x y) xs → InRow R (xs ++ y ∷ [])
row_push R [] y o a = (tt, tt)
row_push R (x ∷ xs) y o a = (all_append (R x) xs (y ∷ []) o.0 (a.0, tt), row_push R xs y o.1 a.1)

-- each is in its list
pub all_in : {X : Type 0} (xs all : List X) → ((x : X) → IsIn xs x → IsIn all x) → AllOf (IsIn all) xs
all_in [] all w = tt
all_in (x ∷ xs) all w = (w x (inl refl), all_in xs all (λ t i. w t (inr i)))

-- what passes a test stays where it is asked
pub in_filter : {X : Type 0} (p : X → Bool) (xs : List X) (x : X) → IsIn xs x → p x ≡ true → IsIn (filter p xs) x
in_filter p [] x i t = absurd i
in_filter p (y ∷ xs) x i t = ⊎_elim
    (λ (e : x ≡ y). rw (ap p (sym e) ∙ t) (inl e))
    (λ (later : IsIn xs x).
    by_cases (IsIn (filter p (y ∷ xs)) x) (p y)
    (λ k. rw k (inr (in_filter p xs x later t)))
    (λ k. rw k (in_filter p xs x later t)))
    i

-- a fact of each that is in a list
pub all_from : {X : Type 0} (P : X → Type 0) (xs : List X) → ((x : X) → IsIn xs x → P x) → AllOf P xs
all_from P [] w = tt
all_from P (x ∷ xs) w = (w x (inl refl), all_from P xs (λ t i. w t (inr i)))

-- the first that passes, behind those that do not
pub first_found : {X : Type 0} (p : X → Bool) (xs : List X) (i : ℕ) (d : X) → i < length xs → list_any p (take i xs) ≡ false → p (get_or xs i d) ≡ true → find p xs ≡ Some (get_or xs i d)
first_found p [] i d within none passes = absurd (omega (arith, within))
first_found p (x ∷ xs) zero d within none passes = rw passes refl
first_found p (x ∷ xs) (suc i) d within none passes =
    by_cases (find p (x ∷ xs) ≡ Some (get_or xs i d)) (p x)
    (λ t. absurd (let f : true ≡ false = rw t at none in cc))
    (λ t. rw t (first_found p xs i d (omega (arith, within)) (rw t at none) passes))

pub none_found : {X : Type 0} (p : X → Bool) (xs : List X) → list_any p xs ≡ false → find p xs ≡ None
none_found p [] none = refl
none_found p (x ∷ xs) none =
    by_cases (find p (x ∷ xs) ≡ None) (p x)
    (λ t. absurd (let f : true ≡ false = rw t at none in cc))
    (λ t. rw t (none_found p xs (rw t at none)))
