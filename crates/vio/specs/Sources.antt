-- Files that are found by their name, and what is read and written through a handle (this project's choice).
use Rattle.std.specs.Prelude.{ℕ, Bool, List, [], ◌∷◌, Option, Some, None, drop, if◌then◌else◌}
use Rattle.std.specs.Option.{unwrap_or}
use Rattle.std.specs.Str.{bytes_eq}
use Rattle.vio.specs.declared.file.Source.{Source}
use Rattle.vio.specs.declared.file.Access.{Access}
use Rattle.vio.specs.declared.file.Access.TheVariants.{ForReading, ForWriting}
use Rattle.vio.specs.declared.file.MemFile.{MemFile}

-- the bytes that are left to read
abbrev pub left_of : Source → List ℕ
left_of source = drop source.place source.bytes.items

-- the bytes that are left to read through a handle, where its file was opened for reading
abbrev pub left_in : Access → Option (List ℕ)
left_in (ForReading source) = Some (left_of source)
left_in (ForWriting text) = None

-- the bytes that were written through a handle, where its file was opened for writing
abbrev pub text_in : Access → Option (List ℕ)
text_in (ForReading source) = None
text_in (ForWriting text) = Some text.items

-- the bytes under a name: of the first file that has it. It is the newest: older bytes of a name are kept behind newer
-- ones, and a handle that was opened before keeps what it had
abbrev pub held_in : List MemFile → List ℕ → Option (List ℕ)
held_in [] name = None
held_in (file ∷ files) name = if bytes_eq file.name.items name then Some file.bytes.items else held_in files name

-- what a file has when writing to it begins: no bytes, or those that it held where it is to keep them
abbrev pub begun : Bool → Option (List ℕ) → List ℕ
begun append held = if append then unwrap_or held [] else []
