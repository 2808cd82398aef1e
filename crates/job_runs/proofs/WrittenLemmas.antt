-- A run whose source is known to have certain items in all, whatever text is due.
use Rattle.std.proofs.Common.{◌≡◌, ◌⊎◌, ℕ, ◌≤◌, Bool, true, false, List, [], ◌∷◌, ◌++◌, length, Option, Some, None, refl, sym, ap, subst, ◌∙◌, inl, inr}
use Rattle.std.proofs.lemmas.List.{append-nil}
use Rattle.log_model.specs.Prefix.{IsPrefix}
use Rattle.vio.specs.declared.world.TheConstants.{ERRORS}
use Rattle.vio.specs.World.{Seen}
use Rattle.vio.specs.Calls.{Call, Did, written_by}
use Rattle.vsl_record.specs.Unit.{Log}
use Rattle.ring_layout.specs.declared.item.Item.{Item}
use Rattle.vsl_file.specs.File.{FileEnding, is_whole}
use Rattle.vsl_file.specs.File as file
use Rattle.one_run.specs.declared.met.Met.{Met}
use Rattle.one_run.specs.declared.pass.RunEnd.{RunEnd}
use Rattle.one_run.specs.declared.pass.RunEnd.TheVariants as ends
use Rattle.one_run.specs.Run as runs
use Rattle.run_sources.specs.declared.file_items.FileStop.{FileStop}
use Rattle.run_sources.specs.declared.file_items.FileStop.TheVariants as stops
use Rattle.run_sources.specs.Sources.{FileCame, FileStopped, unit_items}
use Rattle.run_sources.specs.Told.{AreOf, TellsLog, named_ending}
use Rattle.run_sources.proofs.ToldLemmas.{first_are, stopped_are, stopped_ends}
use Rattle.fan_output.specs.Messages.{messages_of}
use Rattle.fan_output.specs.declared.ending.TextEnding.{TextEnding}
use Rattle.fan_output.specs.declared.ending.TextEnding.TheVariants as endings
use Rattle.fan_output.specs.Ends.{Due, Grows, TextEnded, TextShort, TextWritten, whole}
use Rattle.log_model.proofs.PrefixLemmas.{prefix_equal}
use Rattle.fan_output.proofs.EndLemmas.{ended_short, short_prefix}
use Rattle.job_steps.specs.declared.fault.ToolFault.{ToolFault}
use Rattle.job_steps.specs.declared.fault.ToolFault.TheVariants.{ReadFault, NotALog, Damaged, TooLarge}
use Rattle.job_runs.specs.Rows.{RanFor, log_answer, output_answer, stop_answer}
use Rattle.job_runs.specs.Told.{EndedAt, WritesOf}
use Rattle.unit_text.specs.Units.{converted, units_due}
use Rattle.unit_text.proofs.UnitLemmas.{due_of_log, units_grow}
use Rattle.tool_words.specs.declared.command.Names.{Names}
use Rattle.job_runs.specs.declared.record.RunRecord.{RunRecord}
use Rattle.job_runs.specs.declared.record.RunRecord.TheVariants.{Nothing}
use Rattle.job_runs.specs.Converts.{Converts, WritesConverted}

-- ---- a text that is due

-- it goes on where more items come; and where enough have come, it stays as it is, whatever follows
pub record Lasts (d : Due) : Type 0 where
  pub grows : Grows d
  pub filled_all : (met more : List Item) (ended : Bool) → d.filled met ≡ true → whole d met false ≡ whole d (met ++ more) ended
  pub filled_more : (met more : List Item) → d.filled met ≡ true → d.filled (met ++ more) ≡ true

module _ (d : Due) (lasts : Lasts d) where
  module _ (sink : ℕ) (calls : List Call) where
    -- without a fault each message was written
    pub none_told : (ending : TextEnding) (done last : List Item) (all : Bool) (fault : Option ToolFault) → fault ≡ output_answer ending → TextEnded sink d ending calls done last all → fault ≡ None → written_by ERRORS calls ≡ messages_of (done ++ last)
    none_told endings.Whole done last all fault is p none = p.ends.3 ∙ ap messages_of (sym (append-nil done)) ∙ ap (λ (xs : List Item). messages_of (done ++ xs)) (sym p.ends.0)
    none_told endings.Kept done last all fault is p none = p.ends.3
    none_told (endings.Unwritten name) done last all fault is p none = let no = sym none ∙ is in absurd cc
    none_told endings.Unreported done last all fault is p none = let no = sym none ∙ is in absurd cc

  module _ (sink : ℕ) (every : List Item) (ended : Bool) (calls : List Call) where
    -- a part of what is due of the items that came is one of what is due of all
    pub short_of : (met : List Item) (all : Bool) → AreOf met all every ended → TextShort sink d calls met all → TextShort sink d calls every ended
    short_of met all are short = subst (λ (list : List Item). TextShort sink d calls list ended) (sym are.parts) (short_prefix sink d lasts.grows calls met are.rest all ended are.whole short)

    -- what is written up to a fault
    part_of : (fault : ToolFault) → TextShort sink d calls every ended → WritesOf sink d (Some fault) every ended calls
    part_of fault short = record { part = short.text; told = short.told; done = λ e. absurd cc; ends = λ e. absurd cc; messages = λ e. absurd cc }

    -- and without one
    all_of : (met : List Item) → TextShort sink d calls every ended → written_by sink calls ≡ whole d every ended → (ended ≡ true) ⊎ (d.filled every ≡ true) → EndedAt d every ended met → written_by ERRORS calls ≡ messages_of met → WritesOf sink d None every ended calls
    all_of met short text end at told = record { part = short.text; told = short.told; done = λ e. text; ends = λ e. end; messages = λ e. (met, at, told) }

    -- where it ended
    end_at : (done last : List Item) (all : Bool) → (are : AreOf (done ++ last) all every ended) → length last ≤ 1 → d.filled done ≡ false → ((last ≡ []) × (are.rest ≡ []) × (ended ≡ true)) ⊎ (d.filled (done ++ last) ≡ true) → EndedAt d every ended (done ++ last)
    end_at done last all are one fewer ends = record { done = done; last = last; rest = are.rest; are = refl; one = one; parts = are.parts; fewer = fewer; ends = ends }

    -- an output ended
    pub ended_writes : (ending : TextEnding) (done last : List Item) (all : Bool) → length last ≤ 1 → AreOf (done ++ last) all every ended → TextEnded sink d ending calls done last all → WritesOf sink d (output_answer ending) every ended calls
    ended_writes endings.Whole done last all one are p =
        let short = short_of (done ++ last) all are (ended_short sink d lasts.grows endings.Whole calls done last all p) in
        let so = p.ends in let end = are.whole so.1 in
        let same : every ≡ done = are.parts ∙ ap (λ (xs : List Item). done ++ last ++ xs) end.0 ∙ append-nil (done ++ last) ∙ ap (λ (xs : List Item). done ++ xs) so.0 ∙ append-nil done in
        all_of (done ++ last) short (so.2 ∙ ap (λ (xs : List Item). whole d xs true) (sym same) ∙ ap (λ (b : Bool). whole d every b) (sym end.1)) (inl end.1)
        (end_at done last all are one p.fewer (inl (so.0, end.0, end.1)))
        (none_told sink calls endings.Whole done last all None refl p refl)
    ended_writes endings.Kept done last all one are p =
        let short = short_of (done ++ last) all are (ended_short sink d lasts.grows endings.Kept calls done last all p) in
        let so = p.ends in
        all_of (done ++ last) short
        (so.2 ∙ lasts.filled_all (done ++ last) are.rest ended so.1 ∙ ap (λ (xs : List Item). whole d xs ended) (sym are.parts))
        (inr (ap (λ (xs : List Item). d.filled xs) are.parts ∙ lasts.filled_more (done ++ last) are.rest so.1))
        (end_at done last all are one p.fewer (inr so.1))
        so.3
    ended_writes (endings.Unwritten name) done last all one are p = part_of _ (short_of (done ++ last) all are (ended_short sink d lasts.grows (endings.Unwritten name) calls done last all p))
    ended_writes endings.Unreported done last all one are p = part_of _ (short_of (done ++ last) all are (ended_short sink d lasts.grows endings.Unreported calls done last all p))

    -- its source stopped
    stopped_writes : (fault : ToolFault) (done : List Item) → AreOf done false every ended → TextWritten sink d calls done → WritesOf sink d (Some fault) every ended calls
    stopped_writes fault done are p = part_of fault (short_of done false are (record { text = prefix_equal (sym p.text); told = prefix_equal (sym p.told) }))

  -- ---- a run over any source, which has this name

  module _ (name : List ℕ) (sink : ℕ) (every : List Item) (ended : Bool) (calls : List Call) (came : List Call → List Item → Bool → Type 0) (stopped : FileStop → List Call → List Item → Type 0)
      (comes : (first more : List Call) (met : List Item) (all : Bool) → calls ≡ first ++ more → came first met all → AreOf met all every ended) (stays : (why : FileStop) (met : List Item) → stopped why calls met → AreOf met false every ended) where
    -- a run that ended so
    end_writes : {ready : List Call → Type 0} (end : RunEnd TextEnding FileStop) (met : Met) (fault : Option ToolFault) → runs.Ran came stopped ready (TextWritten sink d) (TextEnded sink d) (ERRORS ∷ sink ∷ []) end met calls → fault ≡ log_answer name end
        → WritesOf sink d fault every ended calls
    end_writes (ends.ByOutput ending) met fault ran is =
        let e = ran.ends in
        subst (λ (f : Option ToolFault). WritesOf sink d f every ended calls) (sym is) (ended_writes sink every ended calls ending ran.done ran.last ran.all ran.one (comes e.0 e.1 (ran.done ++ ran.last) ran.all e.2 e.4) e.5)
    end_writes (ends.BySource why) met fault ran is =
        let e = ran.ends in
        subst (λ (f : Option ToolFault). WritesOf sink d f every ended calls) (sym is) (stopped_writes sink every ended calls (stop_answer name why) ran.done (stays why ran.done e.1) e.2)

    -- what it wrote is of all that its source has
    pub ran_writes : (reads : List ℕ) (fault : Option ToolFault) (records : List Item → Type 0) → RanFor reads came stopped records sink d (log_answer name) fault calls → WritesOf sink d fault every ended calls
    ran_writes reads fault records r = end_writes r.end r.met fault r.ran r.answers

-- ---- how a fault names the end of a log

-- the stop that a fault answers
abbrev stop_in : Option ToolFault → Option FileStop
stop_in (Some (NotALog name at)) = Some (stops.NotALog at)
stop_in (Some (Damaged name at)) = Some (stops.Damaged at)
stop_in (Some (TooLarge name limit)) = Some stops.TooLarge
stop_in (Some (ReadFault name)) = Some stops.ReadFault
stop_in other = None

-- a stop is that of its answer
stop_back : (name : List ℕ) (why : FileStop) → stop_in (Some (stop_answer name why)) ≡ Some why
stop_back name (stops.NotALog at) = refl
stop_back name (stops.Damaged at) = refl
stop_back name stops.TooLarge = refl
stop_back name stops.ReadFault = refl

-- the end of an output is no stop
no_stop : (ending : TextEnding) → stop_in (output_answer ending) ≡ None
no_stop endings.Whole = refl
no_stop endings.Kept = refl
no_stop (endings.Unwritten name) = refl
no_stop endings.Unreported = refl

-- equal stops name the same ending
names_same : (why other : FileStop) (named : FileEnding) → Some why ≡ Some other → named_ending why ≡ Some named → named_ending other ≡ Some named
names_same why other named same names = let e : why ≡ other = cc in ap named_ending (sym e) ∙ names

-- an ending that is named isn't whole
not_whole : (why : FileStop) (named : FileEnding) → named_ending why ≡ Some named → is_whole named ≡ false
not_whole (stops.NotALog at) named names = let same : named ≡ file.NotALog at = cc in ap is_whole same
not_whole (stops.Damaged at) named names = let same : named ≡ file.Damaged at = cc in ap is_whole same
not_whole stops.TooLarge named names = let same : named ≡ file.TooLarge = cc in ap is_whole same
not_whole stops.ReadFault named names = absurd cc

-- ---- over a log whose handle told what it had left

module _ (d : Due) (lasts : Lasts d) (name : List ℕ) (h : ℕ) (others : List ℕ) (sink : ℕ) (units : Log) (ending : FileEnding) (calls : List Call) (before now : Seen) (tells : TellsLog h units ending before) (did : Did calls before now) where
  -- items that came by the first of the calls are the first, or all
  came_first : (first more : List Call) (met : List Item) (all : Bool) → calls ≡ first ++ more → FileCame h first met all → AreOf met all (unit_items units) (is_whole ending)
  came_first first more met all are p = first_are h units ending before now first more met all tells (subst (λ (cs : List Call). Did cs before now) are did) p

  -- what a run wrote of the log
  pub log_writes : (fault : Option ToolFault) (records : List Item → Type 0) → RanFor (h ∷ others) (FileCame h) (λ why cs met. FileStopped h why cs met now) records sink d (log_answer name) fault calls
      → WritesOf sink d fault (unit_items units) (is_whole ending) calls
  log_writes fault records r =
      ran_writes d lasts name sink (unit_items units) (is_whole ending) calls (FileCame h) (λ why cs met. FileStopped h why cs met now) came_first (stopped_are h units ending before tells calls now did) (h ∷ others) fault records r

  -- where it was answered that the source stopped so, it did
  stop_ends : {ready : List Call → Type 0} (end : RunEnd TextEnding FileStop) (met : Met) (why : FileStop) (named : FileEnding) → runs.Ran (FileCame h) (λ why cs met. FileStopped h why cs met now) ready (TextWritten sink d) (TextEnded sink d) (ERRORS ∷ sink ∷ []) end met calls
      → Some (stop_answer name why) ≡ log_answer name end → named_ending why ≡ Some named → (ending ≡ named) × (written_by sink calls ≡ whole d (unit_items units) (is_whole ending))
  stop_ends (ends.ByOutput out) met why named ran is names = absurd (let none = sym (stop_back name why) ∙ ap stop_in is ∙ no_stop out in cc)
  stop_ends (ends.BySource other) met why named ran is names =
      let same : Some why ≡ Some other = sym (stop_back name why) ∙ ap stop_in is ∙ stop_back name other in
      let e = ran.ends in
      let so = stopped_ends h units ending before tells calls now did other named ran.done (names_same why other named same names) e.1 in
      (so.1, (e.2).text ∙ ap (λ (xs : List Item). whole d xs false) (sym so.0) ∙ ap (λ (b : Bool). whole d (unit_items units) b) (sym (ap is_whole so.1 ∙ not_whole other named (names_same why other named same names))))

  -- where the source stopped so, it ends as it is named, and all that is due of it was written
  pub log_stops : (fault : Option ToolFault) (records : List Item → Type 0) (why : FileStop) (named : FileEnding) → RanFor (h ∷ others) (FileCame h) (λ why cs met. FileStopped h why cs met now) records sink d (log_answer name) fault calls
      → fault ≡ Some (stop_answer name why) → named_ending why ≡ Some named → (ending ≡ named) × (written_by sink calls ≡ whole d (unit_items units) (is_whole ending))
  log_stops fault records why named r is names = stop_ends r.end r.met why named r.ran (sym is ∙ r.answers) names

-- ---- a log that is converted

-- what is due of units goes on, and never is enough
pub units_last : (name : List ℕ) → Lasts (units_due name)
units_last name = record { grows = units_grow name; filled_all = λ met more ended filled. absurd (let no : false ≡ true = filled in cc); filled_more = λ met more filled. filled }

-- so a log file of them was written, or a part of one
whole_ends : (ending : FileEnding) → (is_whole ending ≡ true) ⊎ (false ≡ true) → ending ≡ file.Whole
whole_ends file.Whole is = refl
whole_ends (file.NotALog at) (inl is) = absurd cc
whole_ends (file.Damaged at) (inl is) = absurd cc
whole_ends file.TooLarge (inl is) = absurd cc
whole_ends ending (inr is) = absurd cc

-- no unit has a message
no_messages : (units : Log) → messages_of (unit_items units) ≡ []
no_messages [] = refl
no_messages (u ∷ units) = no_messages units

pub log_converted : (names : Names) (h sink : ℕ) (units : Log) (ending : FileEnding) (fault : Option ToolFault) (recorded : RunRecord) (calls : List Call) (before now : Seen) → TellsLog h units ending before → Did calls before now
    → Converts names h sink now fault recorded calls → WritesConverted names.input sink units ending fault calls
log_converted names h sink units ending fault recorded calls before now tells did ran =
    let d = units_due names.output in
    let same : whole d (unit_items units) (is_whole ending) ≡ converted units = due_of_log names.output units (is_whole ending) in
    let wrote = log_writes d (units_last names.output) names.input h [] sink units ending calls before now tells did fault (λ met. recorded ≡ Nothing) ran in
    record {
      part = subst (λ (x : List ℕ). IsPrefix (written_by sink calls) x) same wrote.part;
      told = subst (λ (x : List ℕ). IsPrefix (written_by ERRORS calls) x) (no_messages units) wrote.told;
      done = λ none. (whole_ends ending (wrote.ends none), wrote.done none ∙ same);
      stops = λ why named is names_it. let stopped = log_stops d (units_last names.output) names.input h [] sink units ending calls before now tells did fault (λ met. recorded ≡ Nothing) why named ran is names_it in (stopped.0, stopped.1 ∙ same);
    }
