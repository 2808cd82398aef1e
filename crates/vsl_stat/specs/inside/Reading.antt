-- A glob and a name, read side by side as far as they are alike.
use Rattle.std.specs.Prelude.{◌≡◌, ℕ, ◌==◌, false, List, ◌∷◌, ◌++◌}
use Rattle.std.specs.List.{AllByRecursion}
use Rattle.vsl_stat.specs.Glob.{star, at_some_place, glob_matches}
use Rattle.vsl_stat.specs.declared.glob.Met.{Met}
use Rattle.vsl_stat.specs.declared.glob.Met.TheVariants.{Answer, Star}

-- no byte is a star
abbrev pub IsPlain : List ℕ → Type 0
IsPlain bytes = AllByRecursion (λ b. (b == star) ≡ false) bytes

-- the same bytes, none a star, stand before what is left of a glob and of a name
pub record IsRead (glob name glob_rest name_rest : List ℕ) : Type 0 where
  pub read : List ℕ
  pub plain : IsPlain read
  pub glob_is : glob ≡ read ++ glob_rest
  pub name_is : name ≡ read ++ name_rest

-- what comes first: an answer, or a star, of which both sides are known
abbrev pub IsMet : List ℕ → List ℕ → Met → Type 0
IsMet glob name (Answer answer) = answer ≡ glob_matches glob name
IsMet glob name (Star glob_rest name_rest) = IsRead glob name (star ∷ glob_rest.now) name_rest.now

-- whether a name matches a glob at some place is as for what is left of them
pub record IsSought (glob name glob_rest name_rest : List ℕ) : Type 0 where
  pub same : at_some_place (glob_matches glob) name ≡ at_some_place (glob_matches glob_rest) name_rest
