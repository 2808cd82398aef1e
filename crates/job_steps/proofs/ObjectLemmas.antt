-- What a job reads and writes, opened and created.
use Rattle.std.proofs.Common.{◌≡◌, ℕ, Bool, true, false, List, [], ◌∷◌, Ok, Err, refl, ap, arith}
use Rattle.std.specs.Bool.{MatchBool}
use Rattle.log_model.specs.declared.fault.Halt.TheVariants.{Fault}
use Rattle.log_model.specs.declared.text.Text.{Text}
use Rattle.vio.specs.declared.fault.WorldFault.TheVariants as world
use Rattle.vio.specs.declared.world.Created.{Created}
use Rattle.vio.specs.World.{Seen}
use Rattle.vio.specs.Calls.{Call, Called, Lack, OnlyOpen, none_failed, last_failed}
use Rattle.vio.specs.Steps.{Halted, TookSteps}
use Rattle.vio.specs.Streams.{CreatesStream, OpensStream}
use Rattle.vio.proofs.StepLemmas.{passed_one, stopped_one}
use Rattle.vio.proofs.StreamLemmas.{made_none, opened_none}
use Rattle.job_steps.specs.declared.fault.ToolFault.{ToolFault}
use Rattle.job_steps.specs.declared.fault.ToolFault.TheVariants.{NoOpen}
use Rattle.job_steps.specs.Steps.{Step, OpenLog, MakeSink, Found, FoundLog, FoundSink, Passes, Stops, file_named}

-- ---- one step

-- it passed
pub took_one : {A : Type 0} (IsSo : A → List Found → Type 0) (opened : List (List ℕ)) (step : Step) (u : Found) (x : A) (calls : List Call) → Passes step u calls → IsSo x (u ∷ []) → none_failed calls ≡ true
    → TookSteps Passes Stops IsSo opened (step ∷ []) (Ok x) calls
took_one IsSo opened step u x calls p so fail = record { found = u ∷ []; is = so; passed = passed_one Passes Stops step u calls p; fail = fail }

-- it stopped
pub halted_one : (opened : List (List ℕ)) (step : Step) (fault : ToolFault) (calls : List Call) → Stops step fault calls → last_failed calls ≡ true → Halted Passes Stops opened (step ∷ []) (Fault fault) calls
halted_one opened step fault calls p fail = (stopped_one Passes Stops step fault calls p, fail)

-- ---- what is read and written by name

pub file_so : (b : Bool) (P Q : Type 0) → b ≡ false → Q → MatchBool b P Q
file_so true P Q e q = absurd cc
file_so false P Q e q = q

-- the log was opened, or couldn't be
pub took_open : (name : List ℕ) (h : ℕ) (s t : Seen) → Called (OpensStream name (Ok h)) s t → Called (TookSteps Passes Stops (λ handle found. found ≡ FoundLog handle ∷ []) (file_named name) (OpenLog name ∷ []) (Ok h)) s t
took_open name h s t p = record {
  calls = p.calls;
  did = p.did;
  is = took_one (λ handle found. found ≡ FoundLog handle ∷ []) (file_named name) (OpenLog name) (FoundLog h) h p.calls (h, refl, p.is) refl (opened_none name h p.calls p.is);
}

pub halted_open : (name : List ℕ) (copy : Text) (s t : Seen) → copy ≡ name → Called (OpensStream name (Err world.Failed)) s t → Called (Halted Passes Stops (file_named name) (OpenLog name ∷ []) (Fault (NoOpen copy))) s t
halted_open name copy s t same p =
    record { calls = p.calls; did = p.did; is = halted_one (file_named name) (OpenLog name) (NoOpen copy) p.calls (p.is.0, p.is.1, ap NoOpen same) (ap last_failed p.is.1) }

-- what is written was created, or couldn't be
pub took_create : (append : Bool) (name : List ℕ) (sink : Created) (s t : Seen) → Called (CreatesStream append name (Ok sink)) s t
    → Called (TookSteps Passes Stops (λ sink found. found ≡ FoundSink sink.handle sink.empty ∷ []) [] (MakeSink append name ∷ []) (Ok sink)) s t
took_create append name sink s t p = record {
  calls = p.calls;
  did = p.did;
  is = took_one (λ made found. found ≡ FoundSink made.handle made.empty ∷ []) [] (MakeSink append name) (FoundSink sink.handle sink.empty) sink p.calls (sink.handle, sink.empty, refl, p.is) refl
      (made_none append name sink.handle sink.empty p.calls p.is);
}

pub halted_create : (append : Bool) (name : List ℕ) (copy : Text) (s t : Seen) → copy ≡ name → Called (CreatesStream append name (Err world.Failed)) s t → Called (Halted Passes Stops [] (MakeSink append name ∷ []) (Fault (NoOpen copy))) s t
halted_create append name copy s t same p =
    record { calls = p.calls; did = p.did; is = halted_one [] (MakeSink append name) (NoOpen copy) p.calls (p.is.0, p.is.1, ap NoOpen same) (ap last_failed p.is.1) }

-- there was no memory for the one call
lack_opens : (opened : List (List ℕ)) (calls : List Call) → calls ≡ Lack ∷ [] → OnlyOpen opened calls
lack_opens opened calls e = rw e ((tt, tt), omega arith)

pub lacked_open : (opened : List (List ℕ)) (name : List ℕ) (s t : Seen) → Called (OpensStream name (Err world.NoMemory)) s t → Called (OnlyOpen opened) s t
lacked_open opened name s t p = record { calls = p.calls; did = p.did; is = lack_opens opened p.calls p.is }

pub lacked_create : (append : Bool) (name : List ℕ) (s t : Seen) → Called (CreatesStream append name (Err world.NoMemory)) s t → Called (OnlyOpen []) s t
lacked_create append name s t p = record { calls = p.calls; did = p.did; is = lack_opens [] p.calls p.is }
