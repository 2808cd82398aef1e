-- What words come to: a step stopped their command, or it ran, and then a handle gained what the run wrote to it.
use Rattle.std.proofs.Common.{◌≡◌, ◌≢◌, ◌⊎◌, ℕ, ◌<◌, true, List, [], ◌∷◌, ◌++◌, length, Option, Some, None, Result, Ok, refl, ap, subst, ◌∙◌, inl, inr, arith}
use Rattle.log_model.specs.Prefix.{IsPrefix}
use Rattle.vio.specs.declared.world.TheConstants.{ERRORS}
use Rattle.vio.specs.World.{Gains, Seen}
use Rattle.vio.specs.Calls.{Call, Went, SomeFailed, none_failed, written_by}
use Rattle.vio.proofs.CallLemmas.{none_or_some, written_append, written_here}
use Rattle.one_command.specs.Promise.{RanOn, Says, Works}
use Rattle.one_command.proofs.PromiseLemmas.{promised_gain, said_other}
use Rattle.tool_words.specs.declared.command.Command.{Command}
use Rattle.tool_words.specs.declared.fault.UsageFault.{UsageFault}
use Rattle.tool_words.specs.Command.{command_of}
use Rattle.job_steps.specs.declared.fault.ToolFault.{ToolFault}
use Rattle.job_steps.specs.Steps.{Passes, Stops, steps_of}
use Rattle.job_steps.proofs.StepFacts.{passed_within}
use Rattle.job_runs.specs.declared.record.RunRecord.{RunRecord}
use Rattle.job_runs.specs.declared.record.RunRecord.TheVariants.{Nothing}
use Rattle.varnish_tools.specs.declared.outcome.Outcome.{Outcome}
use Rattle.varnish_tools.specs.Commands.{alone_of}
use Rattle.varnish_tools.specs.Faults.{fault_message}
use Rattle.varnish_tools.specs.Theorem.{IsFaithful, StatedRan, WorksOff}
use Rattle.varnish_tools.specs.Told.{WasStopped}

-- the steps of a command passed, and it ran
abbrev pub RanOf : Command → Seen → Option ToolFault → RunRecord → List Call → Type 0
RanOf command at fault recorded work = RanOn Passes Stops (StatedRan (Ok command)) alone_of Nothing (steps_of (Ok command)) at fault recorded work

-- a step stopped the command that words ask for, or it ran, and what follows of that is so
pub stopped_or : (P : Type 0) (words : List (List ℕ)) (outcome : Outcome) (command : Command) (before now : Seen) → command_of words ≡ Ok command → (p : IsFaithful words outcome before now)
    → ((q : WorksOff (Says (fault_message words outcome.fault)) (Ok command) outcome.fault outcome.run before now) → RanOf command q.at outcome.fault outcome.run q.work → P) → WasStopped words outcome p.works.work ⊎ P
stopped_or P words outcome command before now asks p follows = elim p.works.works [
  | inl early ↦ inl early
  | inr on ↦
      let q = p.works in
      let ran = subst (λ (stated : Result Command UsageFault). RanOn Passes Stops (StatedRan stated) alone_of Nothing (steps_of stated) q.at outcome.fault outcome.run q.work) asks on in
      inr (follows (record { work = q.work; at = q.at; did = q.did; works = inr ran; said = q.said; told = q.told; says = q.says }) ran)
]

-- where no call failed there was no fault, if a fault has a call that failed
no_fault : (stated : Result Command UsageFault) (at : Seen) (fault : Option ToolFault) (recorded : RunRecord) (work : List Call) → ((f : ToolFault) → Works Passes Stops (StatedRan stated) alone_of Nothing (steps_of stated) at (Some f) recorded work → SomeFailed work)
    → Works Passes Stops (StatedRan stated) alone_of Nothing (steps_of stated) at fault recorded work → none_failed work ≡ true → fault ≡ None
no_fault stated at None recorded work failed works none = refl
no_fault stated at (Some fault) recorded work failed works none = absurd (none_or_some work none (failed fault works))

pub none_fails : (words : List (List ℕ)) (outcome : Outcome) (command : Command) (before now : Seen) → command_of words ≡ Ok command → (p : IsFaithful words outcome before now)
    → ((f : ToolFault) → Works Passes Stops (StatedRan (Ok command)) alone_of Nothing (steps_of (Ok command)) p.works.at (Some f) outcome.run p.works.work → SomeFailed p.works.work) → none_failed p.works.work ≡ true → outcome.fault ≡ None
none_fails words outcome command before now asks p failed none =
    let q = p.works in
    no_fault (Ok command) q.at outcome.fault outcome.run q.work failed
    (subst (λ (stated : Result Command UsageFault). Works Passes Stops (StatedRan stated) alone_of Nothing (steps_of stated) q.at outcome.fault outcome.run q.work) asks q.works) none

-- ---- what a handle gained

-- without a fault there is no message
pub no_message : (words : List (List ℕ)) (fault : Option ToolFault) → fault ≡ None → fault_message words fault ≡ []
no_message words fault none = ap (λ (f : Option ToolFault). fault_message words f) none

-- a part of nothing is nothing
pub prefix_none : (text : List ℕ) → IsPrefix text [] → text ≡ []
prefix_none [] part = refl
prefix_none (byte ∷ text) part = let no : [] ≡ byte ∷ (text ++ part.rest) = part.is in absurd cc

-- where there is no message nothing is written
says_none : (calls : List Call) → Says [] calls → written_by ERRORS calls ≡ []
says_none calls (inl none) = ap (λ (cs : List Call). written_by ERRORS cs) none.1
says_none calls (inr (inl whole)) = ap (λ (cs : List Call). written_by ERRORS cs) whole ∙ written_here ERRORS [] Went
says_none calls (inr (inr part)) = let no : length part.0 < 0 = (part.1).shorter in absurd (omega (arith, no))

-- what the last of a command's calls wrote to a handle it gained, where the message wrote nothing to it: nothing was written before them
last_gains : (command : Command) (message : List ℕ) (fault : Option ToolFault) (recorded : RunRecord) (h : ℕ) (s t : Seen) → ((calls : List Call) → Says message calls → written_by h calls ≡ [])
    → (q : WorksOff (Says message) (Ok command) fault recorded s t) → (ran : RanOf command q.at fault recorded q.work) → Gains (s.written h) (t.written h) (written_by h ran.last)
last_gains command message fault recorded h s t silent q ran =
    let gained = promised_gain Passes Stops (StatedRan (Ok command)) alone_of Nothing (Says message) (steps_of (Ok command)) fault recorded h s t silent q in
    let within = passed_within (steps_of (Ok command)) ran.found ran.first ran.passed in
    let last : written_by h q.work ≡ written_by h ran.last =
    ap (λ (cs : List Call). written_by h cs) ran.are ∙ written_append h ran.first ran.last ∙ ap (λ (xs : List ℕ). xs ++ written_by h ran.last) (within.writes h) in
    subst (λ (text : List ℕ). Gains (s.written h) (t.written h) text) last gained

-- of a handle but standard error
pub run_gains : (command : Command) (message : List ℕ) (fault : Option ToolFault) (recorded : RunRecord) (h : ℕ) (s t : Seen) → h ≢ ERRORS → (q : WorksOff (Says message) (Ok command) fault recorded s t) → (ran : RanOf command q.at fault recorded q.work)
    → Gains (s.written h) (t.written h) (written_by h ran.last)
run_gains command message fault recorded h s t apart q ran = last_gains command message fault recorded h s t (λ calls says. said_other h message calls apart says) q ran

-- of standard error, where there is no message
pub run_errors : (command : Command) (message : List ℕ) (fault : Option ToolFault) (recorded : RunRecord) (s t : Seen) → message ≡ [] → (q : WorksOff (Says message) (Ok command) fault recorded s t) → (ran : RanOf command q.at fault recorded q.work)
    → Gains (s.written ERRORS) (t.written ERRORS) (written_by ERRORS ran.last)
run_errors command message fault recorded s t none q ran =
    last_gains command message fault recorded ERRORS s t (λ calls says. says_none calls (subst (λ (text : List ℕ). Says text calls) none says)) q ran
