-- Records that are kept as a block of bytes and a list of entries, and records that are lent (this project's choice: a record
-- costs eight bytes beside its payload, and a unit's payloads stay where its words were read).
use Rattle.std.specs.Prelude.{ℕ, ◌+◌, ◌≤◌, ◌<◌, ◌≡◌, List, length, take, drop, map}
use Rattle.std.specs.List.{AllByRecursion}
use Rattle.vsl_record.specs.declared.entry.Entry.{Entry}
use Rattle.vsl_record.specs.declared.record_type.Record.{Record}
use Rattle.vsl_record.specs.Payload.{most_payload}

-- the record of an entry: its payload is so many bytes of the block, from its place on
abbrev pub entry_record : List ℕ → Entry → Record
entry_record block e = record { tag = e.tag; mark = e.mark; payload = take e.size (drop e.at block) }

-- the records of a block
abbrev pub block_records : List ℕ → List Entry → List Record
block_records block entries = map (entry_record block) entries

-- the entry's bytes lie in the block, and they are few enough
pub record IsEntryOf (block : List ℕ) (e : Entry) : Type 0 where
  pub inside : e.at + e.size ≤ length block
  pub short : e.size ≤ most_payload

-- a block's entries are entries of it
abbrev pub IsBlock : List ℕ → List Entry → Type 0
IsBlock block entries = AllByRecursion (IsEntryOf block) entries

-- of what is lent, some records are listed, or some stand in a block
abbrev pub IsOneForm : List Record → List Entry → Type 0
IsOneForm listed entries = 0 < length listed → length entries ≡ 0
