-- How the steps that read and add records of a block go on (this project's choice).
use Rattle.std.specs.Prelude.{ℕ, ◌+◌, ◌-◌, ◌*◌, ◌≤◌, ◌≡◌, List, length, take, drop}
use Rattle.vsl_record.specs.declared.entry.Entry.{Entry}
use Rattle.vsl_words.specs.declared.version.Version.{Version}
use Rattle.vsl_words.specs.Versions.{id_size}
use Rattle.vsl_words.specs.Words.{payload_words}

-- the entry's bytes stand between these places of the block
pub record IsWithin (from until : ℕ) (e : Entry) : Type 0 where
  pub begins : from ≤ e.at
  pub ends : e.at + e.size ≤ until

-- the entry of the same bytes, where those from one place of a block on stand in another from another place on
abbrev pub moved : ℕ → ℕ → Entry → Entry
moved from base e = record e { at = e.at - from + base }

-- of the bytes that begin with a record's words, its payload begins behind its first word and its id, and these are behind it
pub record IsPlaced (v : Version) (bytes payload behind : List ℕ) : Type 0 where
  pub long : 4 + 4 * id_size v + length payload ≤ length bytes
  pub there : payload ≡ take (length payload) (drop (4 * id_size v) (drop 4 bytes))
  pub after : behind ≡ drop (4 * payload_words (length payload)) (drop (4 * id_size v) (drop 4 bytes))
