-- A reader's run, beside the workers.
use Rattle.std.specs.Prelude.{◌≡◌, ℕ, Bool, false, List, [], Option, Result, IfOk, OnErr, IfSome, IfNone}
use Rattle.log_model.specs.declared.fault.NoMemory.{NoMemory}
use Rattle.vio.specs.World.{Seen}
use Rattle.vio.specs.Calls.{Call}
use Rattle.ring_layout.specs.declared.item.Item.{Item}
use Rattle.log_ring.specs.Readers.{ReaderState}
use Rattle.one_run.specs.declared.pass.RunEnded.{RunEnded}
use Rattle.one_run.specs.declared.source.Never.{Never}
use Rattle.one_run.specs.Run.{MadeBut, Ran, RanShort}
use Rattle.run_sources.specs.Live.{LiveGave, LiveStarved}

-- a run over what a pass met, from one state of it to a later one, however it ended; no handle is read
pub record HasRead {E : Type 0} (alone writes : List ℕ) (took printed : List Call → List Item → Type 0)
    (ended : E → List Call → List Item → List Item → Bool → Type 0) (starved : List Call → List Item → Bool → Type 0)
    (result : Result (RunEnded E Never) NoMemory) (start now : ReaderState) (before after : Seen) : Type 0 where
  pub ring : now.ring ≡ start.ring
  pub ran : IfOk result (λ r.
      MadeBut alone false [] writes
      (Ran (λ calls met all. LiveGave start now met all)
      (λ fault calls met. ⊥) (λ before. ⊥) printed ended writes r.end r.met) before after)
  pub short : OnErr result (MadeBut alone false [] writes
      (RanShort (λ calls met all. LiveGave start now met all)
      (λ calls met. LiveStarved start now met) took starved) before after)

-- such a run, or nothing was done
pub record ReadBeside {E S O : Type 0} (pass_of : S → ReaderState) (alone writes : List ℕ)
    (took printed : List Call → List Item → Type 0) (ended : E → List Call → List Item → List Item → Bool → Type 0)
    (starved : List Call → List Item → Bool → Type 0)
    (result : Option (Result (RunEnded E Never) NoMemory)) (start now : S) (output left : O) (before after : Seen) : Type 0 where
  pub ran : IfSome result (λ r. HasRead alone writes took printed ended starved r (pass_of start) (pass_of now) before after)
  pub kept : IfNone result ((now ≡ start) × (left ≡ output) × (after ≡ before))
