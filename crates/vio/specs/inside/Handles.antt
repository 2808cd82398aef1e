-- What calls of a world in memory do to files and to what their handles read and write (this project's choice).
use Rattle.std.specs.Prelude.{◌≡◌, ◌≢◌, ℕ, ◌<◌, ◌≤◌, min, max, List, [], ◌++◌, take, drop, get_or, length, Some, None}
use Rattle.std.specs.Option.{option_map}
use Rattle.vio.specs.declared.file.MemFile.{MemFile}
use Rattle.vio.specs.declared.file.OpenFile.{OpenFile}
use Rattle.vio.specs.Sources.{left_in, text_in, held_in}

-- the handle reads and writes as before
pub record IsSameFile (old new : OpenFile) : Type 0 where
  pub name : new.name.items ≡ old.name.items
  pub left : left_in new.access ≡ left_in old.access
  pub text : text_in new.access ≡ text_in old.access

-- a piece was read through the handle: all that was left and had room, but at most so many bytes, of which 0 counts as 1
pub record TakesPiece (n room most : ℕ) (piece : List ℕ) (old new : OpenFile) : Type 0 where
  pub bytes : List ℕ
  pub was : left_in old.access ≡ Some bytes
  pub left : left_in new.access ≡ Some (drop n bytes)
  pub is : piece ≡ take n bytes
  pub fits : n ≤ room
  pub count : n ≡ min (min (length bytes) room) (max most 1)
  pub some : n ≡ 0 → 0 < room → bytes ≡ []
  pub name : new.name.items ≡ old.name.items
  pub text : text_in new.access ≡ text_in old.access

-- a piece was written through the handle
pub record TakesText (piece : List ℕ) (old new : OpenFile) : Type 0 where
  pub text : List ℕ
  pub was : text_in old.access ≡ Some text
  pub is : text_in new.access ≡ Some (text ++ piece)
  pub name : new.name.items ≡ old.name.items
  pub left : left_in new.access ≡ left_in old.access

-- the file of a name, if there is one, holds a piece more
pub record HoldsMore (name piece : List ℕ) (old new : List MemFile) : Type 0 where
  pub own : held_in new name ≡ option_map (λ bytes. bytes ++ piece) (held_in old name)
  pub other : (n : List ℕ) → n ≢ name → held_in new n ≡ held_in old n

-- the files hold what they held
pub record HoldsSame (old new : List MemFile) : Type 0 where
  pub each : (n : List ℕ) → held_in new n ≡ held_in old n

-- the file at this place is the first of its name
pub record IsPlaceOf (name : List ℕ) (place : ℕ) (files : List MemFile) : Type 0 where
  pub within : place < length files
  pub named : (other : MemFile) → (get_or files place other).name.items ≡ name
  pub first : held_in (take place files) name ≡ None
