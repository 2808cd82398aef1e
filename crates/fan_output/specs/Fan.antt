-- What several outputs of one pass have taken and printed, and how they end: each as one that is alone, and where a write to one fails the others go on (this project's choice).
use Rattle.std.specs.Prelude.{◌≡◌, ◌≢◌, ℕ, suc, ◌≤◌, Bool, true, false, List, [], ◌∷◌, ◌++◌, codes, map, length, replicate, slice_get, Option, Some, None}
use Rattle.std.specs.List.{list_any}
use Rattle.log_model.specs.Prefix.{IsPrefix, IsProperPrefix}
use Rattle.vio.specs.declared.world.TheConstants.{ERRORS}
use Rattle.vio.specs.World.{Seen, Writing}
use Rattle.vio.specs.Calls.{Failed, Call, Write, written_by}
use Rattle.ring_layout.specs.declared.item.Item.{Item}
use Rattle.fan_output.specs.declared.ending.TextEnding.{TextEnding}
use Rattle.fan_output.specs.declared.ending.TextEnding.TheVariants as endings
use Rattle.fan_output.specs.declared.fan.FanEnd.{FanEnd}
use Rattle.fan_output.specs.declared.fan.FanEnd.TheVariants as fans
use Rattle.fan_output.specs.declared.fan.FanEnding.{FanEnding}
use Rattle.fan_output.specs.declared.fan.FanOutput.{FanOutput}
use Rattle.fan_output.specs.declared.sink.Sink.{Sink}
use Rattle.fan_output.specs.Messages.{messages_of}
use Rattle.fan_output.specs.Ends.{Due, FailedWrite, Grows, TextEnded, TextShort, TextTook}
use Rattle.fan_output.specs.Unwritten.{fails_at, first_unwritten}

-- ---- one sink

-- nothing was written to a sink
abbrev pub IsAway : ℕ → List Call → Type 0
IsAway sink [] = Prim.Unit {0}
IsAway sink (Write h bytes mark ∷ calls) = (h ≢ sink) × IsAway sink calls
IsAway sink (call ∷ calls) = IsAway sink calls

-- which writes to its sink failed, of an output that ended: the last of its calls and no other, which was counted under the sink's name, where it ended with that; else none
abbrev pub FailsLast : ℕ → List ℕ → TextEnding → List Call → Type 0
FailsLast sink name (endings.Unwritten other) calls =
    (before : List Call) × (part : List ℕ) × (calls ≡ before ++ Write sink part (Failed name) ∷ []) × (fails_at sink before ≡ false)
FailsLast sink name ending calls = fails_at sink calls ≡ false

-- an output ended: by the first of the calls, at the first of the items, as an output ends that is alone, with at most one item that wasn't taken before; where a write to its sink
-- failed that was the last of these calls, and no other write to it did; and nothing was written to its sink behind
pub record Gone (sink : ℕ) (d : Due) (calls : List Call) (met : List Item) (all : Bool) : Type 0 where
  pub first : List Call
  pub more : List Call
  pub are : calls ≡ first ++ more
  pub away : IsAway sink more
  pub ending : TextEnding
  pub done : List Item
  pub last : List Item
  pub rest : List Item
  pub here : Bool
  pub one : length last ≤ 1
  pub parts : met ≡ (done ++ last) ++ rest
  pub whole : here ≡ true → (rest ≡ []) × (all ≡ true)
  pub grows : Grows d
  pub ends : TextEnded sink d ending first done last here
  pub final : FailsLast sink d.name ending first

-- it ended at these, the last of all items
pub record GoneNow (sink : ℕ) (d : Due) (calls : List Call) (done last : List Item) (all : Bool) : Type 0 where
  pub gone : Gone sink d calls (done ++ last) all
  pub own_done : gone.done ≡ done
  pub own_last : gone.last ≡ last
  pub own_here : gone.here ≡ all

-- an output goes on that took these items, as one that is alone: no write to its sink failed, and what was written there was taken of
-- its text. Where it is caught up nothing is held
pub record GoesOn (caught : Bool) (holds : List Item → Bool → List ℕ → Type 0) (sink : ℕ) (d : Due)
    (calls : List Call) (met : List Item) : Type 0 where
  pub took : TextTook sink d calls met
  pub none : caught ≡ true → took.late ≡ []
  pub clean : fails_at sink calls ≡ false
  pub held : holds met false (d.text took.early false)

-- an output that is live goes on, before the end of all items; one that is not is gone
abbrev pub Stands : Bool → (List Item → Bool → List ℕ → Type 0) → ℕ → Due → Bool → List Call → List Item → Bool → Type 0
Stands caught holds sink d true calls met all = (all ≡ false) × GoesOn caught holds sink d calls met
Stands caught holds sink d false calls met all = Gone sink d calls met all

-- ---- all of them

-- an output: the handle of its sink, and what is due there
pub record Outlet : Type 0 where
  pub sink : ℕ
  pub due : Due

-- the handles of sinks
abbrev pub handles : List Sink → List ℕ
handles sinks = map (λ s. s.handle) sinks

-- nothing was written of several outputs: each is live
pub record IsFan {T : Type 0} (o : FanOutput T) : Type 0 where
  pub live : o.live.items ≡ replicate (length o.sinks.items) true
  pub whole : o.unwritten ≡ None

-- those that stop alone: each, where there are several. Where there is one, a write to it that fails ends all
abbrev pub several : List ℕ → List ℕ
several [] = []
several (h ∷ []) = []
several (h ∷ k ∷ others) = h ∷ k ∷ others

-- how texts are made: that at a place of items, and whether as many groups came there as are kept
module _ (text : ℕ → List Item → Bool → List ℕ) (filled : ℕ → List Item → Bool) where
  -- what is due at a sink, whose text is at this place
  abbrev pub due_at : ℕ → Sink → Due
  due_at i s = record { head = s.head.items; text = text i; filled = filled i; name = s.name }

  -- the output to a sink
  abbrev pub outlet_at : ℕ → Sink → Outlet
  outlet_at i s = record { sink = s.handle; due = due_at i s }

-- the outputs to sinks, each with the text at its place
abbrev pub outlets_of : (ℕ → List Item → Bool → List ℕ) → (ℕ → List Item → Bool) → List Sink → List Outlet
outlets_of text filled [] = []
outlets_of text filled (s ∷ sinks) = outlet_at text filled 0 s ∷ outlets_of (λ i. text (suc i)) (λ i. filled (suc i)) sinks

-- so it is at each place of outputs, of which some are live
abbrev pub AtEach : {A : Type 0} → (ℕ → A → Bool → Type 0) → List A → List Bool → Type 0
AtEach {A = A} IsSo outlets live = (i : ℕ) (o : A) (b : Bool) → slice_get outlets i ≡ Some o → slice_get live i ≡ Some b → IsSo i o b

-- the sinks are not standard error, and each is another
pub record AreApart (sinks : List Sink) : Type 0 where
  pub errors : (i : ℕ) (s : Sink) → slice_get sinks i ≡ Some s → s.handle ≢ ERRORS
  pub others : (i j : ℕ) (s r : Sink) → slice_get sinks i ≡ Some s → slice_get sinks j ≡ Some r → i ≢ j → s.handle ≢ r.handle

-- each has its name
abbrev pub AreNamed : List Sink → Seen → Type 0
AreNamed sinks now = (i : ℕ) (s : Sink) → slice_get sinks i ≡ Some s → now.names Writing s.handle s.name ≡ true

-- the first write that failed was that at this place, if there is one; else it was counted under this name, or none failed
abbrev pub Blames : List Outlet → Option (List ℕ) → Option ℕ → List Call → Type 0
Blames outlets other None calls = first_unwritten calls ≡ other
Blames outlets other (Some i) calls = (o : Outlet) × (slice_get outlets i ≡ Some o) × (first_unwritten calls ≡ Some o.due.name)

-- these items were taken by each that is live, what was given at its place and taken of its text is so, and one is live: so nothing
-- more is read once none is. Where they are caught up none holds anything. The messages were told, once for all
pub record FanTook (caught : Bool) (holds : ℕ → List Item → Bool → List ℕ → Type 0) (outlets : List Outlet)
    (live : List Bool) (unwritten : Option ℕ) (calls : List Call) (done : List Item) : Type 0 where
  pub lives : length live ≡ length outlets
  pub each : AtEach (λ i o b. Stands caught (holds i) o.sink o.due b calls done false) outlets live
  pub some : list_any (λ b. b) live ≡ true
  pub told : written_by ERRORS calls ≡ messages_of done
  pub quiet : fails_at ERRORS calls ≡ false
  pub blames : Blames outlets None unwritten calls

-- the same of outputs, whatever makes their texts
abbrev pub FansTook : Bool → List Outlet → List Call → List Item → Type 0
FansTook caught outlets calls done = (live : List Bool) × (unwritten : Option ℕ) ×
    FanTook caught (λ i met all taken. Prim.Unit {0}) outlets live unwritten calls done

-- and they were printed whole
abbrev pub FansPrinted : List Outlet → List Call → List Item → Type 0
FansPrinted = FansTook true

-- the name that an end blames by itself: that of standard error, where a message couldn't be written
abbrev pub own_blame : FanEnd → Option (List ℕ)
own_blame fans.Unreported = Some (codes "stderr")
own_blame how = None

-- one of them ended with these, the last of all items
abbrev pub OneEnds : List Outlet → List Call → List Item → List Item → Bool → Type 0
OneEnds outlets calls done last all = (i : ℕ) × (o : Outlet) × (slice_get outlets i ≡ Some o) × GoneNow o.sink o.due calls done last all

-- how all end: with all items; because none is live any more; or with a message that couldn't be written. One was live until now
abbrev pub EndsAll : FanEnd → List Outlet → List Call → List Item → List Item → Bool → Type 0
EndsAll fans.Whole outlets calls done last all = (last ≡ []) × (all ≡ true) × OneEnds outlets calls done last all ×
    (written_by ERRORS calls ≡ messages_of done) × (fails_at ERRORS calls ≡ false)
EndsAll fans.Idle outlets calls done last all = (all ≡ false) × OneEnds outlets calls done last all ×
    (written_by ERRORS calls ≡ messages_of (done ++ last)) × (fails_at ERRORS calls ≡ false)
EndsAll fans.Unreported outlets calls done last all = (all ≡ false) × OneEnds outlets calls done last all × FailedWrite ERRORS (codes "stderr") calls
    × IsPrefix (messages_of done) (written_by ERRORS calls) × IsProperPrefix (written_by ERRORS calls) (messages_of (done ++ last))

-- each output ended as one that is alone, at items of its own, and was written no more; and the end tells the first write that failed
pub record FanEnded (outlets : List Outlet) (ending : FanEnding) (calls : List Call) (done last : List Item) (all : Bool) : Type 0 where
  pub each : (i : ℕ) (o : Outlet) → slice_get outlets i ≡ Some o → Gone o.sink o.due calls (done ++ last) all
  pub ends : EndsAll ending.how outlets calls done last all
  pub blames : Blames outlets (own_blame ending.how) ending.unwritten calls

-- there was no memory: each sink gained a prefix of what is due
abbrev pub FanShort : List Outlet → List Call → List Item → Bool → Type 0
FanShort outlets calls met all = (i : ℕ) (o : Outlet) → slice_get outlets i ≡ Some o → TextShort o.sink o.due calls met all

-- ---- a fan of one

-- the name that the end of one output blames
abbrev pub blame_by : TextEnding → Option (List ℕ)
blame_by endings.Whole = None
blame_by endings.Kept = None
blame_by (endings.Unwritten name) = Some name
blame_by endings.Unreported = Some (codes "stderr")

-- an output ended that is alone, and blames the first write that failed
pub record EndedAlone (sink : ℕ) (d : Due) (calls : List Call) (done last : List Item) (all : Bool) : Type 0 where
  pub ending : TextEnding
  pub ends : TextEnded sink d ending calls done last all
  pub blame : first_unwritten calls ≡ blame_by ending
