-- What a line that was read means (this project's choice).
use Rattle.std.specs.Prelude.{◌<◌}
use Rattle.vsl_record.specs.Unit.{vxid_end}
use Rattle.raw_records.specs.declared.line.LineRead.{LineRead}
use Rattle.raw_records.specs.declared.line.LineRead.TheVariants.{Blank, Comment, Record}
use Rattle.raw_records.specs.Lines.{Line, BlankLine, CommentLine, RecordLine}

-- the meaning that a line was read as
abbrev pub line_of : LineRead → Line
line_of Blank = BlankLine
line_of Comment = CommentLine
line_of (Record vxid tag mark payload) =
    RecordLine (record { vxid = vxid; rec = record { tag = tag; mark = mark; payload = payload.now } })

-- a record's line has a VXID in range
abbrev pub IsInRange : Line → Type 0
IsInRange BlankLine = Unit {0}
IsInRange CommentLine = Unit {0}
IsInRange (RecordLine l) = l.vxid < vxid_end
