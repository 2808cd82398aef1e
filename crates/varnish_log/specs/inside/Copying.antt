-- What came of asking for a piece.
use Rattle.std.specs.Prelude.{◌≡◌, ℕ, ◌+◌, ◌<◌, ◌≤◌, List, [], length, take}
use Rattle.vio.specs.World.{Seen, Read}
use Rattle.vio.specs.Calls.{Call, Called}
use Rattle.varnish_log.specs.declared.copying.Ends.{Ends}
use Rattle.varnish_log.specs.declared.copying.Progress.{Progress}
use Rattle.varnish_log.specs.declared.form.How.{How}
use Rattle.varnish_log.specs.declared.taking.Stop.TheVariants as stops
use Rattle.varnish_log.specs.Copied.{CopiedThen, IsPiece, Piece, SoFar, piece_calls}
use Rattle.varnish_log.specs.Parts.{capacity}

-- how far a log was copied, where so much of a buffer is held
abbrev pub so_far : Progress → List ℕ → SoFar
so_far p buffer = record { came = p.came; held = take p.held buffer; counts = p.counts }

-- a piece was copied behind this, and so far the log was copied then
pub record IsCopiedPiece (how : How) (ends : Ends) (at next : SoFar) (calls : List Call) : Type 0 where
  pub piece : Piece
  pub came : next.came ≡ at.came + length piece.came
  pub are : calls ≡ piece_calls ends.input ends.output piece
  pub is : IsPiece how stops.GoesOn piece at.held next.held at.counts next.counts

-- nothing more was done, and the log was copied so far
abbrev pub IsSoFar : SoFar → SoFar → List Call → Type 0
IsSoFar so at calls = (calls ≡ []) × (at ≡ so)

-- pieces were copied so far
pub record AreCopied (how : How) (ends : Ends) (first buffer : List ℕ) (p : Progress) (before now : Seen) : Type 0 where
  pub called : Called (CopiedThen how ends.input ends.output first (IsSoFar (so_far p buffer))) before now
  pub size : length buffer ≡ capacity
  pub room : p.held < capacity
  pub few : p.held ≤ p.came

-- so many bytes of four were read, by calls that are one
pub record HasRead (input size : ℕ) (first : List ℕ) (before now : Seen) : Type 0 where
  pub read : Read input (take size first) before now
  pub within : size ≤ 4
  pub four : length first ≡ 4
