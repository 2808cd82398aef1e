-- Values that are added one after another are added as one.
use Rattle.std.proofs.Common.{◌≡◌, ℕ, List, ◌++◌, Result}
use Rattle.std.proofs.lemmas.Grind.{flat_map-append}
use Rattle.log_model.specs.Adding.{Puts}
use Rattle.log_model.proofs.AddingLemmas.{puts_then}
use Rattle.ncsa_format.specs.Line.{quoted, quoted_byte}

-- after a value a call added another
pub puts_quoted : {A E : Type 0} (r : Result A E) (old mid new a b : List ℕ) → mid ≡ old ++ quoted a → Puts r mid new (quoted b) → Puts r old new (quoted (a ++ b))
puts_quoted r old mid new a b first p = puts_then r old mid new (quoted a) (quoted b) (quoted (a ++ b)) first p (flat_map-append quoted_byte a b)
