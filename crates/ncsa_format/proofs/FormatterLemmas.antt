-- Formatters, and the texts that they are read from.
use Rattle.std.proofs.Common.{◌≡◌, ◌==◌, ℕ, ◌+◌, List, ◌∷◌, take, drop, ap}
use Rattle.std.specs.List.{position_or_len}
use Rattle.std.proofs.lemmas.List.{drop-drop}
use Rattle.ncsa_format.specs.Formatter.{brace}
use Rattle.ncsa_format.specs.Reading.{behind_name, formatter_at}
use Rattle.ncsa_format.specs.inside.Cut.{IsCut}
use Rattle.ncsa_format.proofs.CutLemmas.{behind_is, front_is}

braced_by : {A : Type 0} (of : List ℕ → List ℕ → A) (text name behind : List ℕ) → IsCut (λ b. b == brace) text name behind
    → of name (drop 1 behind) ≡ of (take (position_or_len (λ b. b == brace) text) text) (drop (position_or_len (λ b. b == brace) text + 1) text)
braced_by of text name behind cut =
    let front = front_is (λ b. b == brace) text name behind cut in
    let rest = ap (drop 1) (behind_is (λ b. b == brace) text name behind cut) in
    let both = drop-drop 1 (position_or_len (λ b. b == brace) text) text in
    cc

-- a name in braces, and what stands behind it
pub braced_is : (text name behind : List ℕ) → IsCut (λ b. b == brace) text name behind → behind_name name (drop 1 behind) ≡ formatter_at (123 ∷ text)
braced_is text name behind cut = braced_by behind_name text name behind cut
