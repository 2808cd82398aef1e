-- The records of a unit, in either form (this project's choice).
use Rattle.std.specs.Prelude.{◌≡◌, List}
use Rattle.vsl_record.specs.declared.body.Body.{Body}
use Rattle.vsl_record.specs.declared.body.Body.TheVariants.{Listed, Packed}
use Rattle.vsl_record.specs.declared.record_type.Record.{Record}
use Rattle.vsl_record.specs.Blocks.{block_records, IsBlock}
use Rattle.vsl_record.specs.Unit.{LogUnit}
use Rattle.vsl_record.specs.Words.{unit_words_of, word_bytes}

-- the records of a unit, as its maker listed them or as they were read
abbrev pub body_records : Body → List Record
body_records (Listed records) = records.items
body_records (Packed block) = block_records block.bytes.items block.entries.items

-- where the unit was read, its bytes are those of its words in the version in which it was read, and its records stand in them
abbrev pub IsBodyOf : LogUnit → Body → Type 0
IsBodyOf u (Listed records) = Unit {0}
IsBodyOf u (Packed block) =
    IsBlock block.bytes.items block.entries.items × (block.bytes.items ≡ word_bytes (unit_words_of block.version u))
