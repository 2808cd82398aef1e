-- What the main theorem comes to where the world tells the log that is converted.
use Rattle.std.specs.Str.{bytes_eq}
use Rattle.std.proofs.Common.{◌≡◌, ◌⊎◌, ℕ, Bool, true, false, List, [], ◌∷◌, ◌++◌, Option, Some, None, Ok, refl, sym, ap, subst, ◌∙◌, inl, inr, codes}
use Rattle.std.proofs.lemmas.List.{append-nil}
use Rattle.vio.specs.declared.world.TheConstants.{ERRORS}
use Rattle.vio.specs.World.{Gains, HasStreams, Seen, Writing}
use Rattle.vio.specs.Touches.{Touches}
use Rattle.vio.specs.Calls.{Call, Did, SomeFailed, none_failed, written_by}
use Rattle.vio.specs.Steps.{Passed}
use Rattle.vio.specs.Streams.{IsMadeBy}
use Rattle.vio.proofs.CallLemmas.{did_apart, did_then, on_append, some_behind, written_append}
use Rattle.vio.proofs.StepLemmas.{passed_one}
use Rattle.vio.proofs.TouchLemmas.{did_touch, only_one}
use Rattle.vsl_record.specs.Unit.{Log}
use Rattle.vsl_file.specs.File.{FileEnding, Whole}
use Rattle.one_command.specs.Promise.{Says, Works}
use Rattle.one_command.proofs.PromiseLemmas.{said_other}
use Rattle.run_sources.specs.Told.{TellsLog}
use Rattle.tool_words.specs.declared.command.Command.TheVariants.{ForConvert}
use Rattle.tool_words.specs.declared.command.Names.{Names}
use Rattle.tool_words.specs.Command.{command_of}
use Rattle.job_steps.specs.declared.fault.ToolFault.{ToolFault}
use Rattle.job_steps.specs.Steps.{OpenLog, MakeSink, Found, FoundLog, FoundSink, Passes, Stops, creates_of, names_steps, opens_of, steps_of}
use Rattle.job_steps.proofs.StepFacts.{passed_within}
use Rattle.job_steps.proofs.TookLemmas.{opens_alone}
use Rattle.job_runs.specs.declared.record.RunRecord.{RunRecord}
use Rattle.job_runs.specs.declared.record.RunRecord.TheVariants.{Nothing}
use Rattle.job_runs.specs.Converts.{Converts, WritesConverted}
use Rattle.job_runs.specs.Good.{HasCause, StoppedByLog}
use Rattle.varnish_tools.specs.declared.outcome.Outcome.{Outcome}
use Rattle.varnish_tools.specs.Commands.{alone_of}
use Rattle.varnish_tools.specs.Faults.{fault_message}
use Rattle.varnish_tools.specs.Theorem.{IsFaithful, StatedRan, WorksOff}
use Rattle.varnish_tools.specs.Told.{PrintsConverted, TellsNamed, WasStopped}
use Rattle.varnish_tools.proofs.OutLemmas.{out_by, sink_apart}
use Rattle.varnish_tools.proofs.PartLemmas.{passed_alone}
use Rattle.varnish_tools.proofs.PrintedLemmas.{same_one}
use Rattle.varnish_tools.proofs.RunLemmas.{RanOf, no_message, none_fails, prefix_none, run_errors, run_gains, stopped_or}
use Rattle.varnish_tools.proofs.ToldLemmas.{GoodPass, WholeRuns, kept_told, opened_told}
use Rattle.varnish_tools.proofs.TouchLemmas.{says_on}

-- that a run over a log whose handle told what it had left writes a log file of its units
abbrev pub ConvertsTold : Type 0
ConvertsTold = (names : Names) (h sink : ℕ) (units : Log) (ending : FileEnding) (fault : Option ToolFault) (recorded : RunRecord) (calls : List Call) (before now : Seen) → TellsLog h units ending before → Did calls before now
    → Converts names h sink now fault recorded calls → WritesConverted names.input sink units ending fault calls

same_log : (k other : ℕ) → FoundLog k ≡ FoundLog other → k ≡ other
same_log k other same = cc

same_sink : (k other : ℕ) (a b : Bool) → FoundSink k a ≡ FoundSink other b → k ≡ other
same_sink k other a b same = cc

same_empty : (k other : ℕ) (a b : Bool) → FoundSink k a ≡ FoundSink other b → a ≡ b
same_empty k other a b same = cc

-- what was found to write to was made
last_made : (name : List ℕ) (calls : List Call) (sink : ℕ) (empty : Bool) → Passed Passes Stops (MakeSink false name ∷ []) (FoundSink sink empty ∷ []) calls → IsMadeBy false name sink empty calls
last_made name calls sink empty p =
    let q = passed_alone (MakeSink false name) (FoundSink sink empty ∷ []) calls p in
    let m = q.2 in
    let same : FoundSink sink empty ≡ FoundSink m.0 m.1 = same_one (FoundSink sink empty) q.0 q.1 ∙ m.2 in
    subst (λ (k : ℕ). IsMadeBy false name k empty calls) (sym (same_sink sink m.0 empty m.1 same))
    (subst (λ (a : Bool). IsMadeBy false name m.0 a calls) (sym (same_empty sink m.0 empty m.1 same)) m.3)

-- the log that the steps of a command of two names opened, whose handle tells what was told of it, and what they made to write to, behind calls that keep the files
record NamesFound (names : Names) (units : Log) (ending : FileEnding) (h sink : ℕ) (empty : Bool) (s t : Seen) : Type 0 where
  tells : TellsLog h units ending t
  mid : Seen
  touches : Touches [] [] [] s mid
  own : List Call
  made : IsMadeBy false names.output sink empty own
  did : Did own mid t

names_found : (names : Names) (units : Log) (ending : FileEnding) (h sink : ℕ) (empty : Bool) (found : List Found) (calls : List Call) (s t : Seen) → HasStreams s → TellsNamed names.input units ending s → found ≡ FoundLog h ∷ FoundSink sink empty ∷ [] → Passed Passes Stops (names_steps names) found calls
    → Did calls s t → NamesFound names units ending h sink empty s t
names_found names units ending h sink empty found calls s t streams tells are passed did =
    let p = subst (λ (us : List Found). Passed Passes Stops (names_steps names) us calls) are passed in
    let parts = did_apart p.0 p.1 s t (subst (λ (cs : List Call). Did cs s t) p.2 did) in
    let mid = parts.0 in
    let same : h ≡ p.3.0 = same_log h p.3.0 p.3.1 in
    let opened = opened_told (bytes_eq names.input (codes "-")) names.input tells.bytes p.3.0 units ending p.0 s s mid tells.told p.3.2 tells.file streams (λ told. told) (λ held. held) parts.1 in
    let later = kept_told (MakeSink false names.output ∷ []) (FoundSink sink empty ∷ []) p.1 p.3.0 units ending mid t p.4 parts.2 opened in
    let opens = opens_alone (OpenLog names.input ∷ []) (FoundLog p.3.0 ∷ []) p.0 refl (passed_one Passes Stops (OpenLog names.input) (FoundLog p.3.0) p.0 (p.3.0, refl, p.3.2)) in
    record {
      tells = subst (λ (i : ℕ). TellsLog i units ending t) (sym same) later;
      mid = mid;
      touches = did_touch [] [] (opens_of (OpenLog names.input ∷ [])) [] p.0 s mid opens.0 parts.1;
      own = p.1;
      made = last_made names.output p.1 sink empty p.4;
      did = parts.2;
    }

module _ (converts : ConvertsTold) (names : Names) (units : Log) (ending : FileEnding) where
  work_converts : (message : List ℕ) (fault : Option ToolFault) (recorded : RunRecord) (s t : Seen) → HasStreams s → TellsNamed names.input units ending s → (fault ≡ None → message ≡ []) → (q : WorksOff (Says message) (Ok (ForConvert names)) fault recorded s t)
      → RanOf (ForConvert names) q.at fault recorded q.work → PrintsConverted names fault units ending s t
  work_converts message fault recorded s t streams tells quiet q ran =
      let r = ran.ran in
      let h = r.0 in
      let sink = r.1 in
      let empty = r.2 in
      let parts = did_apart ran.first ran.last s q.at (subst (λ (cs : List Call). Did cs s q.at) ran.are q.did) in
      let of = names_found names units ending h sink empty ran.found ran.first s parts.0 streams tells r.3 ran.passed parts.1 in
      let wrote = converts names h sink units ending fault recorded ran.last parts.0 q.at of.tells parts.2 r.4 in
      let apart = sink_apart (bytes_eq names.output (codes "-")) false names.output sink empty of.own of.mid parts.0 of.made of.did in
      let within = passed_within (names_steps names) ran.found ran.first ran.passed in
      let named = (did_touch [] [] (opens_of (names_steps names)) (creates_of (names_steps names)) ran.first s parts.0 within.within parts.1).names Writing ERRORS names.output streams.error_given in
      let silent : written_by sink (ran.last ++ q.said) ≡ written_by sink ran.last = written_append sink ran.last q.said ∙ ap (λ (xs : List ℕ). written_by sink ran.last ++ xs) (said_other sink message q.said apart q.says) ∙ append-nil (written_by sink ran.last) in
      let told : written_by ERRORS ran.last ≡ [] = prefix_none (written_by ERRORS ran.last) wrote.told in
      record {
        sink = sink;
        empty = empty;
        text = written_by sink ran.last;
        is_out = out_by false names.output sink empty (h ∷ []) (written_by sink ran.last) (ran.last ++ q.said) s of.mid parts.0 t of.touches named
            (on_append (h ∷ []) (ERRORS ∷ sink ∷ []) ran.last q.said r.4.on (says_on (h ∷ []) (sink ∷ []) message q.said q.says)) (did_then ran.last q.said parts.0 q.at t parts.2 q.told) silent (bytes_eq names.output (codes "-")) of.own [] [] parts.0 of.made of.did tt refl;
        part = wrote.part;
        done = wrote.done;
        stops = wrote.stops;
        gains = run_gains (ForConvert names) message fault recorded sink s t apart q ran;
        errors = λ none. subst (λ (text : List ℕ). Gains (s.written ERRORS) (t.written ERRORS) text) told (run_errors (ForConvert names) message fault recorded s t (quiet none) q ran);
      }

-- what was written of a log that was told
pub log_converted : ConvertsTold → (words : List (List ℕ)) (outcome : Outcome) (names : Names) (units : Log) (ending : FileEnding) (before now : Seen) → command_of words ≡ Ok (ForConvert names) → HasStreams before → TellsNamed names.input units ending before
    → (p : IsFaithful words outcome before now) → WasStopped words outcome p.works.work ⊎ PrintsConverted names outcome.fault units ending before now
log_converted converts words outcome names units ending before now asks streams tells p =
    stopped_or (PrintsConverted names outcome.fault units ending before now) words outcome (ForConvert names) before now asks p
    (work_converts converts names units ending (fault_message words outcome.fault) outcome.fault outcome.run before now streams tells (no_message words outcome.fault))

-- ---- a fault has a call that failed

-- that a fault of a run has such a call, or its log stopped it
abbrev pub ConvertCause : Type 0
ConvertCause = (names : Names) (h sink : ℕ) (fault : ToolFault) (recorded : RunRecord) (calls : List Call) (now : Seen) → Converts names h sink now (Some fault) recorded calls → HasCause (h ∷ []) names.input fault calls now

module _ (pass : GoodPass) (cause : ConvertCause) (whole : WholeRuns) (names : Names) (units : Log) (s t : Seen) (streams : HasStreams s) (tells : TellsNamed names.input units Whole s) where
  convert_failed : (recorded : RunRecord) (work : List Call) (fault : ToolFault) → Did work s t → Works Passes Stops (StatedRan (Ok (ForConvert names))) alone_of Nothing (steps_of (Ok (ForConvert names))) t (Some fault) recorded work → SomeFailed work
  convert_failed recorded work fault did (inl early) = pass (Ok (ForConvert names)) early.by work s t (tt, (tt, tt)) did early.stopped
  convert_failed recorded work fault did (inr ran) =
      let parts = did_apart ran.first ran.last s t (subst (λ (cs : List Call). Did cs s t) ran.are did) in
      let r = ran.ran in
      let of = names_found names units Whole r.0 r.1 r.2 ran.found ran.first s parts.0 streams tells r.3 ran.passed parts.1 in
      elim (cause names r.0 r.1 fault recorded ran.last t r.4) [
        | inl failed ↦ subst (λ (cs : List Call). SomeFailed cs) (sym ran.are) (some_behind ran.first ran.last failed)
        | inr log ↦ absurd (whole r.0 names.input fault units ran.last parts.0 t of.tells parts.2 (subst (λ (h : ℕ). StoppedByLog h names.input fault ran.last t) (only_one log.0 r.0 log.1) log.2))
      ]

-- words that ask for a whole log to be converted have no fault where no call failed
pub convert_whole : GoodPass → ConvertCause → WholeRuns → (words : List (List ℕ)) (outcome : Outcome) (names : Names) (units : Log) (before now : Seen) → command_of words ≡ Ok (ForConvert names) → HasStreams before → TellsNamed names.input units Whole before
    → (p : IsFaithful words outcome before now) → none_failed p.works.work ≡ true → outcome.fault ≡ None
convert_whole pass cause whole words outcome names units before now asks streams tells p none =
    none_fails words outcome (ForConvert names) before now asks p (λ fault. convert_failed pass cause whole names units before p.works.at streams tells outcome.run p.works.work fault p.works.did) none
