-- Texts of which some bytes are printed as escapes.
use Rattle.std.proofs.Common.{ℕ, ◌-◌, ◌≤◌, ◌≡◌, Bool, true, false, List, [], ◌∷◌, ◌++◌, take, drop, ◌+◌, refl, sym, ap, ◌∙◌, arith}
use Rattle.std.proofs.lemmas.Bool.{or_from, or_left, or_parts, or_right}
use Rattle.std.proofs.lemmas.List.{take-append-drop}
use Rattle.std.proofs.lemmas.List.Folds.{list_any-append}
use Rattle.std.proofs.Math.Seq.{take-add}
use Rattle.std.specs.Prelude.{◌||◌}
use Rattle.std.specs.List.{flat_map, list_any}

-- a text without an escape is printed as it is
pub printed_plain : (p : ℕ → Bool) (f : ℕ → List ℕ) (plain : (b : ℕ) → p b ≡ false → f b ≡ b ∷ []) (text : List ℕ) → list_any p text ≡ false → flat_map f text ≡ text
printed_plain p f plain [] e = refl
printed_plain p f plain (b ∷ rest) e =
    let parts = or_parts (p b) (list_any p rest) e in
    ap (λ (x : List ℕ). x ++ flat_map f rest) (plain b parts.0) ∙ ap (λ (x : List ℕ). b ∷ x) (printed_plain p f plain rest parts.1)

-- whether a byte of the first bytes, or of those behind them, passes a test
any_parts : (p : ℕ → Bool) (n : ℕ) (bytes : List ℕ) → (list_any p (take n bytes) || list_any p (drop n bytes)) ≡ list_any p bytes
any_parts p n bytes = sym (list_any-append p (take n bytes) (drop n bytes)) ∙ ap (list_any p) (take-append-drop n bytes)

-- the run behind the first bytes is looked at, too
any_run : (p : ℕ → Bool) (n m : ℕ) (bytes : List ℕ) → list_any p (take (n + m) bytes) ≡ (list_any p (take n bytes) || list_any p (take m (drop n bytes)))
any_run p n m bytes = ap (list_any p) (take-add n m bytes) ∙ list_any-append p (take n bytes) (take m (drop n bytes))

-- a run behind the first bytes in which one passes, and one in which none does
pub any_found : (p : ℕ → Bool) (n m : ℕ) (bytes : List ℕ) → list_any p (take m (drop n bytes)) ≡ true → list_any p bytes ≡ true
any_found p n m bytes some =
    let first : list_any p (take (n + m) bytes) ≡ true = any_run p n m bytes ∙ or_right (list_any p (take n bytes)) _ some in
    sym (any_parts p (n + m) bytes) ∙ or_left _ (list_any p (drop (n + m) bytes)) first

pub any_none : (p : ℕ → Bool) (n m : ℕ) (bytes : List ℕ) → list_any p (take n bytes) ≡ false → list_any p (take m (drop n bytes)) ≡ false → list_any p (take (n + m) bytes) ≡ false
any_none p n m bytes before here = any_run p n m bytes ∙ or_from _ _ before here

-- what is looked at twice counts once
looked_twice : (a b c : Bool) → ((a || b) || (b || c)) ≡ (a || (b || c))
looked_twice true b c = refl
looked_twice false true c = refl
looked_twice false false c = refl

-- the first bytes and the last, which meet or overlap, are all
pub any_ends : (p : ℕ → Bool) (n m : ℕ) (bytes : List ℕ) → m ≤ n → (list_any p (take n bytes) || list_any p (drop m bytes)) ≡ list_any p bytes
any_ends p n m bytes meets =
    let n_is : n ≡ m + (n - m) = omega (arith, meets) in
    let before = list_any p (take m bytes) in
    let both = list_any p (take (n - m) (drop m bytes)) in
    let behind = list_any p (drop (n - m) (drop m bytes)) in
    let last = any_parts p (n - m) (drop m bytes) in
    ap (λ (b : Bool). b || list_any p (drop m bytes)) (ap (λ (k : ℕ). list_any p (take k bytes)) n_is ∙ any_run p m (n - m) bytes)
    ∙ ap (λ (b : Bool). (before || both) || b) (sym last) ∙ looked_twice before both behind ∙ ap (λ (b : Bool). before || b) last ∙ any_parts p m bytes
