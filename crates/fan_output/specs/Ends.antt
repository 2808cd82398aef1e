-- What an output of text gains, and how a run with it ends (this project's choice).
use Rattle.std.specs.Prelude.{◌≡◌, ◌⊎◌, ℕ, Bool, true, false, List, [], ◌∷◌, ◌++◌, codes}
use Rattle.log_model.specs.Prefix.{IsPrefix, IsProperPrefix}
use Rattle.vio.specs.declared.world.TheConstants.{ERRORS}
use Rattle.vio.specs.Touches.{IsOneOf}
use Rattle.vio.specs.Calls.{Call, Write, Failed, written_by}
use Rattle.ring_layout.specs.declared.item.Item.{Item}
use Rattle.one_run.specs.Run.{is_quiet}
use Rattle.fan_output.specs.declared.ending.TextEnding.{TextEnding}
use Rattle.fan_output.specs.declared.ending.TextEnding.TheVariants as endings
use Rattle.fan_output.specs.Messages.{message_of, messages_of}

-- what is due at an output: a text before all items; what is written of items behind that, where they are all or not; whether they complete as many groups as are kept; and the
-- name that faults give the output
pub record Due : Type 0 where
  pub head : List ℕ
  pub text : List Item → Bool → List ℕ
  pub filled : List Item → Bool
  pub name : List ℕ

-- the text of items, where they are all or not
abbrev pub whole : Due → List Item → Bool → List ℕ
whole d met all = d.head ++ d.text met all

-- the text of items goes on in that of items and more items, where they are all or not
abbrev pub Grows : Due → Type 0
Grows d = (met more : List Item) (all : Bool) → IsPrefix (d.text met false) (d.text (met ++ more) all)

-- when the message of an item was written, all text of what came before the item had been written, and nothing was written to the sink with it
pub record IsTold (sink : ℕ) (d : Due) (calls : List Call) (earlier : List Item) (item : Item) : Type 0 where
  -- what was called before, the calls with which the message was written, and what was called behind them
  pub before : List Call
  pub said : List Call
  pub after : List Call
  pub are : calls ≡ (before ++ said) ++ after
  -- before it the sink had all text of the earlier items, and standard error their messages
  pub text : written_by sink before ≡ whole d earlier false
  pub told : written_by ERRORS before ≡ messages_of earlier
  -- with it standard error gained the message, and the sink nothing
  pub silent : written_by sink said ≡ []
  pub message : written_by ERRORS said ≡ message_of item

-- each item with a message was told so. So the message of an overrun comes behind all text of what came before it, and before the text of
-- its flush, also where that completes the last group that is kept. The text of other items may be held
abbrev pub InOrder : ℕ → Due → List Item → List Call → Type 0
InOrder sink d met calls = (earlier : List Item) (item : Item) (later : List Item) → met ≡ earlier ++ item ∷ later →
    is_quiet item ≡ false → IsTold sink d calls earlier item

-- these items were taken, and complete fewer groups than are kept: the text of the first of them was written, that of the others
-- is held, and the messages of all were written. What was written before a fault stays, since it is right whatever follows. No group is
-- flushed then: of what is pending nobody knows whether its End stood in what is missing
pub record TextTook (sink : ℕ) (d : Due) (calls : List Call) (done : List Item) : Type 0 where
  pub early : List Item
  pub late : List Item
  pub parts : done ≡ early ++ late
  pub fewer : d.filled done ≡ false
  pub text : written_by sink calls ≡ whole d early false
  pub told : written_by ERRORS calls ≡ messages_of done
  pub order : InOrder sink d done calls

-- these items were printed whole: all their text was written
pub record TextWritten (sink : ℕ) (d : Due) (calls : List Call) (done : List Item) : Type 0 where
  pub fewer : d.filled done ≡ false
  pub text : written_by sink calls ≡ whole d done false
  pub told : written_by ERRORS calls ≡ messages_of done
  pub order : InOrder sink d done calls

-- how a run ends behind items that were taken, with at most one more: with all; with the last group that is kept; with a failed
-- write of text, of what stands before all items or of what is due behind that, of which not all was written; or with a failed write of
-- the last item's message. Behind the last group nothing is flushed, and no fault of what follows is told, since nobody asked for it
abbrev pub EndsSo : Due → TextEnding → List Item → List Item → Bool → List ℕ → List ℕ → Type 0
EndsSo d endings.Whole done last all text told = (last ≡ []) × (all ≡ true) × (text ≡ whole d done true) ×
    (told ≡ messages_of done)
EndsSo d endings.Kept done last all text told = (all ≡ false) × (d.filled (done ++ last) ≡ true) ×
    (text ≡ whole d (done ++ last) false) × (told ≡ messages_of (done ++ last))
EndsSo d (endings.Unwritten name) done last all text told =
    (name ≡ d.name) × (told ≡ messages_of (done ++ last))
    × (((done ++ last ≡ []) × (all ≡ false) × IsProperPrefix text d.head) ⊎
    (IsPrefix d.head text × IsProperPrefix text (whole d (done ++ last) all)))
EndsSo d endings.Unreported done last all text told = (all ≡ false) × (text ≡ whole d done false) ×
    IsPrefix (messages_of done) told × IsProperPrefix told (messages_of (done ++ last))

-- the items that were printed in order, as far as they were: not the one whose message couldn't be written
abbrev pub ordered : TextEnding → List Item → List Item → List Item
ordered endings.Unreported done last = done
ordered ending done last = done ++ last

-- a write to a handle failed, and was counted under this name
abbrev pub FailedWrite : ℕ → List ℕ → List Call → Type 0
FailedWrite h name calls = (part : List ℕ) × IsOneOf (Write h part (Failed name)) calls

-- why a run ends so
abbrev pub EndCause : ℕ → Due → TextEnding → List Call → Type 0
EndCause sink d endings.Whole calls = Unit {0}
EndCause sink d endings.Kept calls = Unit {0}
EndCause sink d (endings.Unwritten name) calls = FailedWrite sink d.name calls
EndCause sink d endings.Unreported calls = FailedWrite ERRORS (codes "stderr") calls

-- an output ended: what was taken before the last is less than is kept, the sink and standard error gained so much, in order, for this reason
pub record TextEnded (sink : ℕ) (d : Due) (ending : TextEnding) (calls : List Call) (done last : List Item) (all : Bool) : Type 0 where
  pub fewer : d.filled done ≡ false
  pub ends : EndsSo d ending done last all (written_by sink calls) (written_by ERRORS calls)
  pub order : InOrder sink d (ordered ending done last) calls
  pub cause : EndCause sink d ending calls

-- an output had no memory: the sink and standard error gained a prefix of what is due
pub record TextShort (sink : ℕ) (d : Due) (calls : List Call) (met : List Item) (all : Bool) : Type 0 where
  pub text : IsPrefix (written_by sink calls) (whole d met all)
  pub told : IsPrefix (written_by ERRORS calls) (messages_of met)
