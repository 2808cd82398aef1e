-- What one write comes to, and what the writes at each sink come to, one after the other (this project's choice).
use Rattle.std.specs.Prelude.{◌≡◌, ℕ, ◌≤◌, Bool, true, false, List, [], ◌∷◌, ◌++◌, length, slice_get, Option, Some, None, Result, Ok, Err}
use Rattle.log_model.specs.declared.fault.NoMemory.{NoMemory}
use Rattle.log_model.specs.Prefix.{IsPrefix, IsProperPrefix}
use Rattle.vio.specs.declared.world.TheConstants.{ERRORS}
use Rattle.vio.specs.World.{Seen}
use Rattle.vio.specs.Calls.{Went, Failed, Call, Called, Write, written_by}
use Rattle.ring_layout.specs.declared.item.Item.{Item}
use Rattle.fan_output.specs.declared.piece.Piece.{Piece}
use Rattle.fan_output.specs.declared.sink.Sink.{Sink}
use Rattle.fan_output.specs.Messages.{messages_of}
use Rattle.fan_output.specs.Ends.{Due, InOrder}
use Rattle.fan_output.specs.Fan.{AtEach, Blames, Gone, GoneNow, Outlet, Stands, due_at}
use Rattle.fan_output.specs.Unwritten.{fails_at}
use Rattle.fan_output.specs.inside.Pieces.{IsPiece, IsSunk, is_end, leaves_none}

-- a text was written to a handle of this name; or not all of it, where the write failed; or a prefix, where there was no memory
abbrev pub Puts : ℕ → List ℕ → List ℕ → Result Bool NoMemory → List Call → Type 0
Puts h name text (Ok true) calls = calls ≡ Write h text Went ∷ []
Puts h name text (Ok false) calls = (part : List ℕ) × IsProperPrefix part text × (calls ≡ Write h part (Failed name) ∷ [])
Puts h name text (Err e) calls = (part : List ℕ) × IsPrefix part text × (calls ≡ Write h part Went ∷ [])

-- ---- one sink

-- a piece is written at a sink: these bytes of it, or a part where the write fails
pub record PutsPiece (piece : Piece) (sink : Sink) (text : List Item → Bool → List ℕ)
    (holds now : List Item → Bool → List ℕ → Type 0) (result : Result Bool NoMemory) (before after : Seen) : Type 0 where
  pub bytes : List ℕ
  pub are : IsPiece piece sink.head.items text holds now bytes
  pub puts : Called (Puts sink.handle sink.name bytes result) before after

-- a piece is still to be written at a sink: before it the text of the first of these items was, and the message of the last
pub record Half (piece : Piece) (holds : List Item → Bool → List ℕ → Type 0) (sink : ℕ) (d : Due)
    (calls : List Call) (done last : List Item) : Type 0 where
  pub early : List Item
  pub late : List Item
  pub parts : done ≡ early ++ late
  pub one : length last ≤ 1
  pub end : is_end piece ≡ true → last ≡ []
  pub fewer : d.filled done ≡ false
  pub sunk : IsSunk piece d done last early (written_by sink calls)
  pub said : written_by ERRORS calls ≡ messages_of (done ++ last)
  pub order : InOrder sink d (done ++ last) calls
  pub clean : fails_at sink calls ≡ false
  pub held : holds (done ++ last) (is_end piece) (d.text early false)

-- so it is of one that is live; the others are gone
abbrev pub Waits : Piece → (List Item → Bool → List ℕ → Type 0) → ℕ → Due → Bool → List Call → List Item → List Item → Type 0
Waits piece holds sink d true calls done last = Half piece holds sink d calls done last
Waits piece holds sink d false calls done last = Gone sink d calls (done ++ last) (is_end piece)

-- it was written, or is held, or the output ended with it
abbrev pub Wrote : Piece → (List Item → Bool → List ℕ → Type 0) → ℕ → Due → Bool → Bool →
    List Call → List Item → List Item → Type 0
Wrote piece holds sink d true true calls done last = Stands (leaves_none piece) holds sink d true calls (done ++ last) (is_end piece)
Wrote piece holds sink d true false calls done last = GoneNow sink d calls done last (is_end piece)
Wrote piece holds sink d false true calls done last = ⊥
Wrote piece holds sink d false false calls done last = Gone sink d calls (done ++ last) (is_end piece)

-- ---- all of them

-- calls came behind others, and with them another place is blamed, or still the same
abbrev pub BlamesOn : List Outlet → Option ℕ → Option ℕ → List Call → Type 0
BlamesOn outlets old new more = (calls : List Call) → Blames outlets None old calls → Blames outlets None new (calls ++ more)

-- the same of calls at one place, whose sink has this name, whatever outputs are at the others
abbrev pub BlamesAt : ℕ → List ℕ → Option ℕ → Option ℕ → List Call → Type 0
BlamesAt place name old new more = (outlets : List Outlet) (o : Outlet) → slice_get outlets place ≡ Some o → o.due.name ≡ name →
    BlamesOn outlets old new more

-- how texts are made, and what was given at each place and taken of its text
module _ (piece : Piece) (text : ℕ → List Item → Bool → List ℕ) (filled : ℕ → List Item → Bool)
    (holds : ℕ → List Item → Bool → List ℕ → Type 0) where
  -- a piece is to be written at each place
  abbrev pub AllWait : List Sink → List Bool → List Call → List Item → List Item → Type 0
  AllWait sinks live calls done last = AtEach (λ i s b. Waits piece (holds i) s.handle (due_at text filled i s) b calls done last) sinks live

  -- it was written at each, or is held, or that ended with it
  abbrev pub AllWrote : List Sink → List Bool → List Bool → List Call → List Item → List Item → Type 0
  AllWrote sinks old new calls done last = (i : ℕ) (s : Sink) (a b : Bool) → slice_get sinks i ≡ Some s →
      slice_get old i ≡ Some a → slice_get new i ≡ Some b →
      Wrote piece (holds i) s.handle (due_at text filled i s) a b calls done last
