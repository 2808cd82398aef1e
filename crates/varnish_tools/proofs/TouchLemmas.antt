-- What the work touches: what its steps name, and nothing where the words are refused.
use Rattle.std.specs.Bool.{MatchBool}
use Rattle.std.specs.List.{flat_map}
use Rattle.std.proofs.Common.{◌≡◌, ◌⊎◌, ℕ, Bool, true, false, List, [], ◌∷◌, ◌++◌, length-append, if◌then◌else◌, is_some, Option, Some, None, Result, Ok, Err, refl, sym, ap, subst, ◌∙◌, inl, inr, arith}
use Rattle.vio.specs.declared.world.TheConstants.{ERRORS}
use Rattle.vio.specs.World.{Seen}
use Rattle.vio.specs.Touches.{IsOneOf}
use Rattle.vio.specs.Calls.{Call, Called, AreOn}
use Rattle.vio.specs.Steps.{Passed, Stopped}
use Rattle.vio.proofs.CallLemmas.{did_then, given_append, handles_created, handles_opened, on_given, on_within, within_behind, within_more}
use Rattle.vio.proofs.TouchLemmas.{one_of_left, one_of_right}
use Rattle.one_command.specs.Promise.{Says, SaysPart, Works}
use Rattle.vsl_select.specs.declared.rule_text.SelectFault.{SelectFault}
use Rattle.vsl_select.specs.Shown.{rules_fault}
use Rattle.tool_words.specs.declared.command.Command.{Command}
use Rattle.tool_words.specs.declared.command.Command.TheVariants.{ForTool, ForConvert}
use Rattle.tool_words.specs.declared.command.Names.{Names}
use Rattle.tool_words.specs.declared.fault.UsageFault.{UsageFault}
use Rattle.tool_words.specs.declared.fault.UsageFault.TheVariants.{NoTool}
use Rattle.tool_words.specs.declared.job.Job.{Job}
use Rattle.tool_words.specs.Command.{command_of}
use Rattle.job_steps.specs.declared.fault.ToolFault.{ToolFault}
use Rattle.job_steps.specs.Jobs.{is_counting}
use Rattle.job_steps.specs.Steps.{Step, RefuseWords, TakeRules, Found, Passes, Stops, job_steps, logs_of, names_steps, opens_of, creates_of, reads_of, writes_of, steps_of}
use Rattle.job_steps.specs.Took.{LacksSteps}
use Rattle.job_steps.proofs.StepFacts.{StaysWithin, look_within, passed_within, stopped_within}
use Rattle.job_runs.specs.declared.record.RunRecord.{RunRecord}
use Rattle.job_runs.specs.declared.record.RunRecord.TheVariants.{Nothing}
use Rattle.job_runs.specs.Converts.{ConvertRan, ConvertShort}
use Rattle.job_runs.specs.Counters.{CountersShort, PrintsCounters, WritesText}
use Rattle.job_runs.specs.Rows.{GroupsShort, JobRan, JobShort, PrintsGroups}
use Rattle.varnish_tools.specs.Faults.{message}
use Rattle.varnish_tools.specs.Commands.{alone_of}
use Rattle.varnish_tools.specs.Theorem.{LacksWork, StatedRan, TouchesJob, TouchesSteps, asked_of}
use Rattle.varnish_tools.specs.inside.Works.{DidWork, SaysPartOf}
use Rattle.varnish_tools.proofs.FoundLemmas.{found_log, found_sink, handle_in, one_of_both, sink_is}

-- calls that stay within the names of steps touch what these name
touch_within : (steps : List Step) (calls : List Call) → StaysWithin (opens_of steps) (creates_of steps) calls → TouchesSteps steps calls
touch_within steps calls p = (
  within_more [] (reads_of steps) [] (ERRORS ∷ writes_of steps) (opens_of steps) (opens_of steps) (creates_of steps) (creates_of steps) calls (λ h is. absurd is) (λ h is. absurd is) (λ n is. is) (λ n is. is) p.within,
  omega (arith, p.few, length-append (opens_of steps) (creates_of steps)),
)

-- no call touches nothing
touch_none : (steps : List Step) (calls : List Call) → calls ≡ [] → TouchesSteps steps calls
touch_none steps calls none = rw none (tt, omega arith)

-- ---- a run

-- calls behind steps that passed, which read the logs and write what is written that these found, and standard error
touch_on : (steps : List Step) (found : List Found) (first last : List Call) → Passed Passes Stops steps found first → AreOn (logs_of found) (ERRORS ∷ flat_map handle_in found) last → TouchesSteps steps (first ++ last)
touch_on steps found first last passed on =
    let stays = passed_within steps found first passed in
    let R = reads_of steps in let W = ERRORS ∷ writes_of steps in let O = opens_of steps in let C = creates_of steps in (
      within_behind R W O C first last (touch_within steps first stays).0
          (within_more (logs_of found) (handles_opened first ++ R) (ERRORS ∷ flat_map handle_in found) (handles_created first ++ W) [] O [] C last
          (λ h is. one_of_both h (handles_opened first) R (found_log steps found first h passed is)) (λ h is. one_of_both h (handles_created first) W (sink_more h is)) (λ n is. absurd is) (λ n is. absurd is)
          (on_within (logs_of found) (ERRORS ∷ flat_map handle_in found) last on)),
      omega (arith, stays.few, length-append O C, given_append first last, on_given (logs_of found) (ERRORS ∷ flat_map handle_in found) last on),
    )
  where
    sink_more : (h : ℕ) → IsOneOf h (ERRORS ∷ flat_map handle_in found) → IsOneOf h (handles_created first) ⊎ IsOneOf h (ERRORS ∷ writes_of steps)
    sink_more h (inl e) = inr (inl e)
    sink_more h (inr is) = elim (found_sink steps found first h passed is) [ inl new ↦ inl new | inr stream ↦ inr (inr stream) ]

write_on : (found : List Found) (sink : ℕ) (text : List ℕ) (fault : Option ToolFault) (calls : List Call) → flat_map handle_in found ≡ sink ∷ [] → WritesText sink text fault calls → AreOn (logs_of found) (ERRORS ∷ flat_map handle_in found) calls
write_on found sink text fault calls is (inl p) = rw (p.1, is) (inr (inl refl), tt)
write_on found sink text fault calls is (inr p) = rw (p.1.2, is) (inr (inl refl), tt)

counters_on : (job : Job) (fault : Option ToolFault) (recorded : RunRecord) (found : List Found) (calls : List Call) → PrintsCounters job fault recorded found calls → AreOn (logs_of found) (ERRORS ∷ flat_map handle_in found) calls
counters_on job fault recorded found calls p = write_on found p.0 _ fault calls (sink_is found p.0 p.1 p.2) p.3.writes

groups_on : (job : Job) (at : Seen) (fault : Option ToolFault) (recorded : RunRecord) (found : List Found) (calls : List Call) → PrintsGroups job at fault recorded found calls → AreOn (logs_of found) (ERRORS ∷ flat_map handle_in found) calls
groups_on job at fault recorded found calls p = rw (sink_is found p.1 p.2 p.3.is_sink) p.4.on

either_on : {P Q : Type 0} (b : Bool) (found : List Found) (calls : List Call) → (P → AreOn (logs_of found) (ERRORS ∷ flat_map handle_in found) calls) → (Q → AreOn (logs_of found) (ERRORS ∷ flat_map handle_in found) calls) → MatchBool b P Q
    → AreOn (logs_of found) (ERRORS ∷ flat_map handle_in found) calls
either_on true found calls p q is = p is
either_on false found calls p q is = q is

run_on : (job : Job) (at : Seen) (fault : Option ToolFault) (recorded : RunRecord) (found : List Found) (calls : List Call) → JobRan job at fault recorded found calls → AreOn (logs_of found) (ERRORS ∷ flat_map handle_in found) calls
run_on job at fault recorded found calls = either_on (is_counting job.tool) found calls (counters_on job fault recorded found calls) (groups_on job at fault recorded found calls)

counters_short_on : (job : Job) (found : List Found) (calls : List Call) → CountersShort job found calls → AreOn (logs_of found) (ERRORS ∷ flat_map handle_in found) calls
counters_short_on job found calls p = rw (p.3.3.2, sink_is found p.0 p.1 p.2) (inr (inl refl), tt)

groups_short_on : (job : Job) (found : List Found) (calls : List Call) → GroupsShort job found calls → AreOn (logs_of found) (ERRORS ∷ flat_map handle_in found) calls
groups_short_on job found calls p = rw (sink_is found p.1 p.2 p.5.is_sink) p.6

short_on : (job : Job) (found : List Found) (calls : List Call) → JobShort job found calls → AreOn (logs_of found) (ERRORS ∷ flat_map handle_in found) calls
short_on job found calls (inl none) = rw none tt
short_on job found calls (inr p) = either_on (is_counting job.tool) found calls (counters_short_on job found calls) (groups_short_on job found calls) p

convert_on : (names : Names) (at : Seen) (fault : Option ToolFault) (recorded : RunRecord) (found : List Found) (calls : List Call) → ConvertRan names at fault recorded found calls → AreOn (logs_of found) (ERRORS ∷ flat_map handle_in found) calls
convert_on names at fault recorded found calls p = rw p.3 p.4.on

convert_short_on : (names : Names) (found : List Found) (calls : List Call) → ConvertShort names found calls → AreOn (logs_of found) (ERRORS ∷ flat_map handle_in found) calls
convert_short_on names found calls p = elim p.4 [ inl none ↦ rw none tt | inr q ↦ rw p.3 q.2 ]

-- ---- words

-- a job whose rules are good is asked its steps
pub asked_good : (job : Job) → rules_fault job.caseless job.rules ≡ None → asked_of (Ok (ForTool job)) ≡ job_steps job
asked_good job rules = rw rules refl

-- so is one whose steps passed
pub asked_passed : (job : Job) (found : List Found) (calls : List Call) → Passed Passes Stops (steps_of (Ok (ForTool job))) found calls → asked_of (Ok (ForTool job)) ≡ job_steps job
asked_passed job (u ∷ us) calls p = asked_good job p.3.2
asked_passed job [] calls p = absurd p

abbrev head_of : List Step → Step
head_of [] = RefuseWords NoTool
head_of (step ∷ steps) = step

-- a first step that doesn't pass stops the work, and calls nothing
stopped_first : (x : Step) (steps earlier later : List Step) (step : Step) (found : List Found) (first last : List Call) (fault : ToolFault) → ((u : Found) (calls : List Call) → Passes x u calls → ⊥) → ((calls : List Call) → Stops x fault calls → calls ≡ []) → x ∷ steps ≡ earlier ++ step ∷ later
    → Passed Passes Stops earlier found first → Stops step fault last → first ++ last ≡ []
stopped_first x steps [] later step [] first last fault never silent e p s = rw (p, silent last (subst (λ (y : Step). Stops y fault last) (sym (ap head_of e)) s)) refl
stopped_first x steps [] later step (u ∷ us) first last fault never silent e p s = absurd p
stopped_first x steps (y ∷ earlier) later step [] first last fault never silent e p s = absurd p
stopped_first x steps (y ∷ earlier) later step (u ∷ us) first last fault never silent e p s = absurd (never u p.0 (subst (λ (z : Step). Passes z u p.0) (sym (ap head_of e)) p.3))

-- words that are refused, and rules, call nothing; a job whose rules are good stays within its steps
job_touch : (job : Job) (why : Option SelectFault) (fault : ToolFault) (calls : List Call) → rules_fault job.caseless job.rules ≡ why → Stopped Passes Stops (steps_of (Ok (ForTool job))) fault calls → TouchesSteps (if is_some why then [] else job_steps job) calls
job_touch job None fault calls rules p = touch_within (job_steps job) calls (stopped_within (steps_of (Ok (ForTool job))) fault calls p)
job_touch job (Some why) fault calls rules p = touch_none [] calls (p.are
    ∙ stopped_first (TakeRules job.caseless job.rules) (job_steps job) p.earlier p.later p.step p.found p.first p.last fault (λ u cs passes. let no : Some why ≡ None = sym rules ∙ passes.2 in absurd cc) (λ cs stops. stops.0) p.parts p.passed p.stops)

stopped_touch : (stated : Result Command UsageFault) (fault : ToolFault) (calls : List Call) → Stopped Passes Stops (steps_of stated) fault calls → TouchesSteps (asked_of stated) calls
stopped_touch (Err why) fault calls p = touch_none [] calls (p.are ∙ stopped_first (RefuseWords why) [] p.earlier p.later p.step p.found p.first p.last fault (λ u cs passes. passes) (λ cs stops. stops.0) p.parts p.passed p.stops)
stopped_touch (Ok (ForTool job)) fault calls p = job_touch job (rules_fault job.caseless job.rules) fault calls refl p
stopped_touch (Ok (ForConvert names)) fault calls p = touch_within (names_steps names) calls (stopped_within (names_steps names) fault calls p)

-- ---- the work

ran_touch : (job : Job) (found : List Found) (first last : List Call) → Passed Passes Stops (steps_of (Ok (ForTool job))) found first → AreOn (logs_of found) (ERRORS ∷ flat_map handle_in found) last → TouchesSteps (asked_of (Ok (ForTool job))) (first ++ last)
ran_touch job found first last passed on = rw (asked_passed job found first passed) (touch_on (steps_of (Ok (ForTool job))) found first last passed on)

-- what was worked off touches what its steps name
pub works_touch : (stated : Result Command UsageFault) (at : Seen) (fault : Option ToolFault) (recorded : RunRecord) (calls : List Call) → Works Passes Stops (StatedRan stated) alone_of Nothing (steps_of stated) at fault recorded calls → TouchesSteps (asked_of stated) calls
works_touch stated at fault recorded calls (inl p) = stopped_touch stated p.by calls p.stopped
works_touch (Err why) at fault recorded calls (inr p) = absurd p.ran
works_touch (Ok (ForTool job)) at fault recorded calls (inr p) = rw p.are (ran_touch job p.found p.first p.last p.passed (run_on job at fault recorded p.found p.last p.ran))
works_touch (Ok (ForConvert names)) at fault recorded calls (inr p) = rw p.are (touch_on (names_steps names) p.found p.first p.last p.passed (convert_on names at fault recorded p.found p.last p.ran))

-- steps for which there was no memory touch what they name
lacks_within : (steps : List Step) (calls : List Call) → LacksSteps steps calls → TouchesSteps steps calls
lacks_within steps calls (inl p) = (
  within_more [] (reads_of steps) [] (ERRORS ∷ writes_of steps) (opens_of steps) (opens_of steps) [] (creates_of steps) calls (λ h is. absurd is) (λ h is. absurd is) (λ n is. is) (λ n is. absurd is) p.0,
  omega (arith, p.1, length-append (opens_of steps) (creates_of steps)),
)
lacks_within steps calls (inr p) = touch_within steps calls (look_within steps calls p)

-- so does what had no memory
pub lacks_touch : (stated : Result Command UsageFault) (calls : List Call) → LacksWork stated calls → TouchesSteps (asked_of stated) calls
lacks_touch stated calls (inl p) = lacks_within (asked_of stated) calls p
lacks_touch (Err why) calls (inr p) = absurd p.short
lacks_touch (Ok (ForTool job)) calls (inr p) = rw p.are (ran_touch job p.found p.first p.last p.passed (short_on job p.found p.last p.short))
lacks_touch (Ok (ForConvert names)) calls (inr p) = rw p.are (touch_on (names_steps names) p.found p.first p.last p.passed (convert_short_on names p.found p.last p.short))

-- ---- the message

pub says_on : (reads more : List ℕ) (text : List ℕ) (calls : List Call) → Says text calls → AreOn reads (ERRORS ∷ more) calls
says_on reads more text calls (inl none) = rw none.1 tt
says_on reads more text calls (inr (inl whole)) = rw whole (inl refl, tt)
says_on reads more text calls (inr (inr part)) = rw part.2 (inl refl, tt)

part_on : (text : List ℕ) (calls : List Call) → SaysPart text calls → AreOn [] (ERRORS ∷ []) calls
part_on text calls (inl none) = rw none tt
part_on text calls (inr part) = rw part.2 (inl refl, tt)

-- what is said touches standard error alone
touch_said : (steps : List Step) (work said : List Call) → TouchesSteps steps work → AreOn [] (ERRORS ∷ []) said → TouchesSteps steps (work ++ said)
touch_said steps work said touch on =
    let W = ERRORS ∷ writes_of steps in (
      within_behind (reads_of steps) W (opens_of steps) (creates_of steps) work said touch.0
          (within_more [] (handles_opened work ++ reads_of steps) (ERRORS ∷ []) (handles_created work ++ W) [] (opens_of steps) [] (creates_of steps) said
          (λ h is. absurd is) (λ h is. one_of_right h (handles_created work) W (one_of_left h (ERRORS ∷ []) (writes_of steps) is)) (λ n is. absurd is) (λ n is. absurd is) (on_within [] (ERRORS ∷ []) said on)),
      omega (arith, touch.1, given_append work said, on_given [] (ERRORS ∷ []) said on),
    )

-- the work, and what was said behind it
pub said_touches : (IsSaid : List Call → Type 0) (stated : Result Command UsageFault) (fault : Option ToolFault) (recorded : RunRecord) (s t u : Seen) → ((calls : List Call) → IsSaid calls → AreOn [] (ERRORS ∷ []) calls)
    → Called (DidWork stated t fault recorded) s t → Called IsSaid t u → Called (TouchesSteps (asked_of stated)) s u
said_touches IsSaid stated fault recorded s t u on p q = record {
  calls = p.calls ++ q.calls;
  did = did_then p.calls q.calls s t u p.did q.did;
  is = touch_said (asked_of stated) p.calls q.calls (works_touch stated t fault recorded p.calls p.is) (on q.calls q.is);
}

-- whether all of the message was said, or not
pub whole_touches : (stated : Result Command UsageFault) (fault : Option ToolFault) (recorded : RunRecord) (text : List ℕ) (s t u : Seen) → Called (DidWork stated t fault recorded) s t → Called (Says text) t u → Called (TouchesSteps (asked_of stated)) s u
whole_touches stated fault recorded text s t u = said_touches (Says text) stated fault recorded s t u (says_on [] [] text)

pub part_touches : (words : List (List ℕ)) (fault : Option ToolFault) (recorded : RunRecord) (s t u : Seen) → Called (DidWork (command_of words) t fault recorded) s t → Called (SaysPartOf words fault) t u → Called (TouchesJob words) s u
part_touches words fault recorded s t u = said_touches (SaysPartOf words fault) (command_of words) fault recorded s t u (λ calls is. part_on (message words is.0) calls is.2)

-- there was no memory for the work
pub lacks_touches : (stated : Result Command UsageFault) (s t : Seen) → Called (LacksWork stated) s t → Called (TouchesSteps (asked_of stated)) s t
lacks_touches stated s t p = record { calls = p.calls; did = p.did; is = lacks_touch stated p.calls p.is }
