-- Which bytes of a payload are printed as they are.
use Rattle.std.proofs.Common.{◌≡◌, ℕ, Bool, false, [], ◌∷◌, if◌then◌else◌, ap}
use Rattle.log_model.specs.Escaping.{hex_escape}
use Rattle.vsl_select.specs.RawLine.{escaped_byte, is_control}

-- every byte that isn't a control character
pub plain_byte : (b : ℕ) → is_control b ≡ false → escaped_byte b ≡ b ∷ []
plain_byte b e = ap (λ (t : Bool). if t then hex_escape b else b ∷ []) e
