-- The first part of a list (this project's choice).
use Rattle.std.specs.Prelude.{◌≡◌, ◌<◌, List, ◌++◌, length}

-- a list is the first part of another, or all of it
pub record IsPrefix {A : Type 0} (part whole : List A) : Type 0 where
  pub rest : List A
  pub is : whole ≡ part ++ rest

-- a list is the first part of another, and something follows
pub record IsProperPrefix {A : Type 0} (part whole : List A) : Type 0 where
  pub prefix : IsPrefix part whole
  pub shorter : length part < length whole
