-- Copying a log, piece by piece (this project's choice): what is whole of a piece is written before the next. How the input is cut into pieces isn't said.
use Rattle.std.specs.Prelude.{◌≡◌, ◌⊎◌, ℕ, ◌+◌, ◌<◌, List, [], ◌∷◌, ◌++◌, length, Ok, Err}
use Rattle.std.specs.List.{flat_map, sum_by}
use Rattle.log_model.specs.Prefix.{IsProperPrefix}
use Rattle.vio.specs.Calls.{Went, MetEnd, FailedEach, Mark, Call, Take, Write}
use Rattle.varnish_log.specs.declared.form.Asked.{Asked}
use Rattle.varnish_log.specs.declared.form.How.{How}
use Rattle.varnish_log.specs.declared.form.LogForm.{LogForm}
use Rattle.varnish_log.specs.declared.form.LogForm.TheVariants.{Binary, Text}
use Rattle.varnish_log.specs.declared.loss.Counts.{Counts}
use Rattle.varnish_log.specs.declared.taking.Stop.{Stop}
use Rattle.varnish_log.specs.declared.taking.Stop.TheVariants as stops
use Rattle.varnish_log.specs.declared.copying.Copied.{Copied}
use Rattle.varnish_log.specs.declared.copying.CopyFault.{CopyFault}
use Rattle.varnish_log.specs.declared.copying.CopyFault.TheVariants.{Damaged, Lost, ReadFault, WriteFault}
use Rattle.varnish_log.specs.declared.copying.LogFault.{LogFault}
use Rattle.varnish_log.specs.declared.copying.LogFault.TheVariants.{NotALog, Unread, Stopped}
use Rattle.varnish_log.specs.Counting.{none_counted, one_more}
use Rattle.varnish_log.specs.First.{IsFirst, IsUnread, form_of, kept_of}
use Rattle.varnish_log.specs.Taken.{AreTaken}

-- a piece: the bytes that came, and the text that is written then
pub record Piece : Type 0 where
  pub came : List ℕ
  pub text : List ℕ

-- how many bytes came
abbrev pub came_by : List Piece → ℕ
came_by pieces = sum_by (λ p. length p.came) pieces

-- behind what is held a piece came: its text is that of the parts that were taken of both, and this is the rest. What
-- is whole is written before more is awaited, so a piece ends units: none waits for its next record, and readers go by
-- VXIDs
abbrev pub IsPiece : How → Stop → Piece → List ℕ → List ℕ → Counts → Counts → Type 0
IsPiece how stop piece held rest before after = AreTaken how stop (held ++ piece.came) rest [] piece.text before after

-- the mark of a read that gave these bytes: where it gave none it met the end
abbrev pub read_mark : List ℕ → Mark
read_mark [] = MetEnd
read_mark (b ∷ bytes) = Went

-- the calls of a piece, read from one handle and written to another
abbrev pub piece_calls : ℕ → ℕ → Piece → List Call
piece_calls input output p = Take input p.came (read_mark p.came) ∷ Write output p.text Went ∷ []

-- with these pieces, one after the other and none without a byte, this is held in the end, and the counts are these: each time what is held may go on as a part
abbrev pub ArePieces : How → List ℕ → Counts → List Piece → List ℕ → Counts → Type 0
ArePieces how held before [] rest after = (rest ≡ held) × (after ≡ before)
ArePieces how held before (p ∷ ps) rest after = (0 < length p.came) × (next : List ℕ) × (counts : Counts) ×
    IsPiece how stops.GoesOn p held next before counts × ArePieces how next counts ps rest after

-- how far a log was copied: how many bytes came, of the first bytes only what belongs to its parts; what is held of them; and the counts
pub record SoFar : Type 0 where
  pub came : ℕ
  pub held : List ℕ
  pub counts : Counts

-- pieces were copied behind the first bytes, and then these calls were made: they are told how far the log was copied
pub record CopiedThen (how : How) (input output : ℕ) (first : List ℕ) (IsLast : SoFar → List Call → Type 0) (calls : List Call) : Type 0 where
  pub pieces : List Piece
  pub held : List ℕ
  pub counts : Counts
  pub last : List Call
  pub are : calls ≡ flat_map (piece_calls input output) pieces ++ last
  pub copied : ArePieces how first none_counted pieces held counts
  pub is : IsLast (record { came = length first + came_by pieces; held = held; counts = counts }) last

-- the end of the input came, as a piece of no bytes: what is whole of what is held is taken, and the rest is left out,
-- in which no part lies whole. A last line without a line feed may be the beginning of a longer one, since varnishlog
-- may have been stopped inside it; a feed takes it, because a file is whole there
pub record IsEnd (how : How) (input output : ℕ) (copied : Copied) (at : SoFar) (calls : List Call) : Type 0 where
  pub piece : Piece
  pub rest : List ℕ
  pub ended : piece.came ≡ []
  pub is : IsPiece how stops.GoesOn piece at.held rest at.counts copied.counts
  pub left : copied.left ≡ length rest
  pub are : calls ≡ piece_calls input output piece

-- of a piece that came, this is a part of what is written, and not all
pub record IsPartWritten (how : How) (at : SoFar) (piece : Piece) (part : List ℕ) : Type 0 where
  pub stop : Stop
  pub rest : List ℕ
  pub after : Counts
  pub is : IsPiece how stop piece at.held rest at.counts after
  pub proper : IsProperPrefix part piece.text

-- the place behind what was taken: of a binary log the byte, counted from the first record's; of a text the line, counted from 1
abbrev pub IsPlace : LogForm → ℕ → ℕ → List ℕ → Counts → Type 0
IsPlace (Binary form) place came rest counts = place + length rest ≡ came
IsPlace Text place came rest counts = place ≡ one_more counts.parts

-- taking the parts of a piece stopped for good
pub record StopsAt (how : How) (stop : Stop) (place : ℕ) (at : SoFar) (piece : Piece) : Type 0 where
  pub rest : List ℕ
  pub after : Counts
  pub is : IsPiece how stop piece at.held rest at.counts after
  pub is_place : IsPlace how.form place (at.came + length piece.came) rest after

-- it stopped: a read failed; or a piece came, and its write failed, or all was written of it, and behind that no part begins, or one of which something would be left out or cut
abbrev pub IsStopped : How → ℕ → ℕ → CopyFault → SoFar → List Call → Type 0
IsStopped how input output ReadFault at calls = calls ≡ Take input [] FailedEach ∷ []
IsStopped how input output WriteFault at calls = (p : Piece) × (part : List ℕ) × IsPartWritten how at p part ×
    (calls ≡ Take input p.came (read_mark p.came) ∷ Write output part FailedEach ∷ [])
IsStopped how input output (Damaged place) at calls = (p : Piece) × StopsAt how stops.Damaged place at p ×
    (calls ≡ piece_calls input output p)
IsStopped how input output (Lost loss place) at calls = (p : Piece) × StopsAt how (stops.Lost loss) place at p ×
    (calls ≡ piece_calls input output p)

-- there was no memory, or more bytes came than a number of 64 bits counts: before a piece, for one that came, or to write all of it
abbrev pub IsStarved : How → ℕ → ℕ → SoFar → List Call → Type 0
IsStarved how input output at calls =
    (calls ≡ []) ⊎ (((bytes : List ℕ) × (calls ≡ Take input bytes (read_mark bytes) ∷ [])) ⊎
    ((p : Piece) × (part : List ℕ) × IsPartWritten how at p part ×
    (calls ≡ Take input p.came (read_mark p.came) ∷ Write output part Went ∷ [])))

-- the first bytes of a log came, and then these calls were made: they are told how it is copied, and which of those
-- bytes belong to its parts
pub record IsLog (asked : Asked) (input : ℕ) (IsRest : How → List ℕ → List Call → Type 0) (calls : List Call) : Type 0 where
  pub first : List ℕ
  pub form : LogForm
  pub begin : List Call
  pub rest : List Call
  pub are : calls ≡ begin ++ rest
  pub came : IsFirst input first begin
  pub is_log : form_of asked.text first ≡ Ok form
  pub is : IsRest (record { form = form; strict = asked.strict }) (kept_of form first) rest

-- it is none, or its first bytes couldn't be read, or copying stopped behind them
abbrev pub IsNoLog : Asked → ℕ → ℕ → LogFault → List Call → Type 0
IsNoLog asked input output (NotALog looks) calls =
    (first : List ℕ) × IsFirst input first calls × (form_of asked.text first ≡ Err looks)
IsNoLog asked input output Unread calls = IsUnread input calls
IsNoLog asked input output (Stopped fault) calls =
    IsLog asked input (λ how first. CopiedThen how input output first (IsStopped how input output fault)) calls
