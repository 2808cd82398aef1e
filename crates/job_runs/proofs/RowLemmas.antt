-- A run over one source as a row: what came is said of its source, and what is due is that of the only one of its outputs.
use Rattle.std.proofs.Common.{◌≡◌, ◌≢◌, ◌⊎◌, ℕ, zero, suc, ◌≤◌, ◌||◌, Bool, true, false, List, [], ◌∷◌, ◌++◌, length, slice_get, Option, Some, None, sym, ap, subst, ◌∙◌, inl, inr}
use Rattle.std.specs.Prelude.{filter}
use Rattle.vio.specs.declared.world.TheConstants.{ERRORS}
use Rattle.vio.specs.World.{Seen}
use Rattle.std.proofs.lemmas.List.{append-nil}
use Rattle.log_model.specs.Prefix.{IsPrefix}
use Rattle.log_model.proofs.PrefixLemmas.{prefix_equal}
use Rattle.vio.specs.Calls.{Call, Called, AreOn, last_failed, written_by}
use Rattle.txn_rows.specs.declared.group.Group.{Group}
use Rattle.txn_rows.specs.Grouping.{groups_of}
use Rattle.ring_layout.specs.declared.item.Item.{Item}
use Rattle.query_parser.specs.declared.query.Query.{Query}
use Rattle.vsl_dispatch.specs.Groups.{kept, is_filled}
use Rattle.tool_words.specs.declared.job.Job.{Job}
use Rattle.one_run.specs.declared.met.Met.{Met}
use Rattle.one_run.specs.declared.pass.RunEnd.{RunEnd}
use Rattle.one_run.specs.declared.pass.RunEnd.TheVariants as ends
use Rattle.one_run.specs.Counts.{IsMet}
use Rattle.one_run.specs.Run as runs
use Rattle.one_run.proofs.RunLemmas.{reads_so}
use Rattle.run_sources.specs.declared.file_items.FileStop.{FileStop}
use Rattle.fan_output.specs.declared.ending.TextEnding.{TextEnding}
use Rattle.fan_output.specs.declared.fan.FanEnding.{FanEnding}
use Rattle.fan_output.specs.declared.fan.FanOutput.{FanOutput}
use Rattle.fan_output.specs.Ends.{Due, Grows, TextShort, TextTook, TextWritten, whole}
use Rattle.fan_output.specs.Fan.{Blames, FanEnded, FanShort, FanTook, FansPrinted, FansTook, Outlet, Stands, handles, outlets_of, own_blame, several}
use Rattle.fan_output.specs.Unwritten.{first_of, first_unwritten}
use Rattle.fan_output.specs.Laws.{HasTaken}
use Rattle.fan_output.proofs.EndLemmas.{took_prefix}
use Rattle.fan_output.proofs.OneLemmas.{one_ended, one_printed, one_short, one_took, one_wrote}
use Rattle.text_printer.specs.Taken.{taken_of}
use Rattle.job_steps.specs.declared.fault.ToolFault.{ToolFault}
use Rattle.job_steps.specs.Jobs.{options_of, write_of}
use Rattle.job_steps.specs.Queries.{Ask, HoldsAsAsked}
use Rattle.tool_consumers.specs.Output.{head_text, output_of}
use Rattle.job_runs.specs.Rows.{FanFor, RanFor, fan_answer, job_due, log_answer, name_at, one_answer, stop_answer, write_fault}
use Rattle.job_runs.specs.Runs.{RanShort, RanSo}
use Rattle.job_runs.specs.Sources.{AsksOf}
use Rattle.job_runs.specs.inside.Outputs.{IsOne, query_due}

-- ---- what is due

-- what is due of the groups for which a test holds
abbrev due_where : (Group → Bool) → List ℕ → Job → Due
due_where holds head job = record {
  head = head;
  text = λ met all. output_of job (kept job.keep (filter holds (groups_of (options_of job) (taken_of met) all))) (all || is_filled job.keep (filter holds (groups_of (options_of job) (taken_of met) false)));
  filled = λ met. is_filled job.keep (filter holds (groups_of (options_of job) (taken_of met) false));
  name = write_of job;
}

-- what is due of a job with a query is what is due of it for what the queries ask
pub query_is : (job : Job) (query : Query) (ask : Ask) (empty : Bool) → HoldsAsAsked query ask → query_due job query empty ≡ job_due job ask empty
query_is job query ask empty holds = λ i. due_where (λ group. holds.each group i) (head_text job empty) job

-- ---- several outputs, of which there is one

-- what several outputs took, whatever makes their texts
forget : (caught : Bool) (holds : ℕ → List Item → Bool → List ℕ → Type 0) (outlets : List Outlet) (live : List Bool) (unwritten : Option ℕ) (calls : List Call) (done : List Item) → FanTook caught holds outlets live unwritten calls done → FansTook caught outlets calls done
forget caught holds outlets live unwritten calls done p = (
  live,
  unwritten,
  record { lives = p.lives; each = λ i o b at flag. stands_too i o b (p.each i o b at flag); some = p.some; told = p.told; quiet = p.quiet; blames = p.blames },
)
  where
    stands_too : (i : ℕ) (o : Outlet) (b : Bool) → Stands caught (holds i) o.sink o.due b calls done false → Stands caught (λ met all taken. Prim.Unit {0}) o.sink o.due b calls done false
    stands_too i o true q = (q.0, record { took = q.1.took; none = q.1.none; clean = q.1.clean; held = tt })
    stands_too i o false q = q

-- a run with a list of one output is a run with that output
module _ (reads : List ℕ) (came : List Call → List Item → Bool → Type 0) (stopped : FileStop → List Call → List Item → Type 0) (records : List Item → Type 0) (o : Outlet) (name : List ℕ) (fault : Option ToolFault) (calls : List Call) (fail : last_failed calls ≡ true) where
  -- when a read was made all was printed by the one
  caught_alone : (before : List Call) → runs.IsCaughtUp (AsksOf reads) (FansPrinted (o ∷ [])) before → runs.IsCaughtUp (AsksOf reads) (TextWritten o.sink o.due) before
  caught_alone before p = record { met = p.met; asked = p.asked; prints = one_wrote o before p.met p.prints }

  one_end : (end : RunEnd FanEnding FileStop) (met : Met) → AreOn reads (ERRORS ∷ o.sink ∷ []) calls → (ran : runs.Ran came stopped (runs.IsCaughtUp (AsksOf reads) (FansPrinted (o ∷ []))) (FansPrinted (o ∷ [])) (FanEnded (o ∷ [])) (ERRORS ∷ o.sink ∷ []) end met calls) → fault ≡ fan_answer name end calls → records (ran.done ++ ran.last)
      → RanFor reads came stopped records o.sink o.due (log_answer name) fault calls
  one_end (ends.ByOutput ending) met on ran answers recorded =
      let e = ran.ends in
      let alone = one_ended o reads calls ran.done ran.last ran.all on fail ending e.5 in record {
        on = on;
        end = ends.ByOutput alone.ending;
        met = met;
        ran = record { done = ran.done; last = ran.last; all = ran.all; one = ran.one; count = ran.count; ends = (e.0, e.1, e.2, e.3, e.4, alone.ends); prompt = reads_so _ _ calls caught_alone ran.prompt };
        answers = answers ∙ ap write_fault alone.blame;
        recorded = recorded;
      }
  one_end (ends.BySource why) met on ran answers recorded =
      let e = ran.ends in
      let alone = one_printed o reads calls ran.done on e.2 in record {
        on = on;
        end = ends.BySource why;
        met = met;
        ran = record { done = ran.done; last = ran.last; all = ran.all; one = ran.one; count = ran.count; ends = (e.0, e.1, alone.0); prompt = reads_so _ _ calls caught_alone ran.prompt };
        answers = answers ∙ ap (λ (x : Option (List ℕ)). first_of (write_fault x) (Some (stop_answer name why))) alone.1;
        recorded = recorded;
      }

  pub one_of_list : FanFor reads came stopped records (o ∷ []) name fault calls → RanFor reads came stopped records o.sink o.due (log_answer name) fault calls
  one_of_list p = one_end p.end p.met p.on p.ran p.answers p.recorded

-- who is blamed where there is one output
blamed_is : (o : Outlet) (place : Option ℕ) (other : Option (List ℕ)) (calls : List Call) → Blames (o ∷ []) other place calls → first_of (name_at o.due.name place) other ≡ first_unwritten calls
blamed_is o None other calls p = sym p
blamed_is o (Some i) other calls p = sym (p.2 ∙ ap (λ (x : Outlet). Some x.due.name) (only i p.0 p.1))
  where
    only : (i : ℕ) (r : Outlet) → slice_get (o ∷ []) i ≡ Some r → r ≡ o
    only zero r at = cc
    only (suc i) r at = absurd cc

-- what was written of items that were taken is a part of what is due of them
took_short : (sink : ℕ) (d : Due) → Grows d → (calls : List Call) (met : List Item) → TextTook sink d calls met → TextShort sink d calls met false
took_short sink d grows calls met p = record { text = subst (λ (list : List Item). IsPrefix (written_by sink calls) (whole d list false)) (append-nil met) (took_prefix sink d grows calls met [] false p); told = prefix_equal (sym p.told) }

-- ---- the run of an output of one text

module _ {T : Type 0} (text : T → ℕ → List Item → Bool → List ℕ) (filled : T → ℕ → List Item → Bool) (holds : T → ℕ → List Item → Bool → List ℕ → Type 0) (count : T → ℕ) (sink : ℕ) (d : Due) (o : FanOutput T) (is : IsOne text filled holds count sink d o) where
  abbrev Own : Outlet
  Own = record { sink = sink; due = d }

  -- what it printed, how it ended, and what it wrote where there was no memory
  abbrev Printed : FanOutput T → List Call → List Item → Type 0
  Printed now calls done = HasTaken text filled holds true o now calls done

  abbrev Took : FanOutput T → List Call → List Item → Type 0
  Took now calls done = HasTaken text filled holds false o now calls done

  abbrev Ended : FanEnding → List Call → List Item → List Item → Bool → Type 0
  Ended ending calls done last all = FanEnded (outlets_of (text o.texts) (filled o.texts) o.sinks.items) ending calls done last all

  abbrev Short : List Call → List Item → Bool → Type 0
  Short calls met all = FanShort (outlets_of (text o.texts) (filled o.texts) o.sinks.items) calls met all

  took_one : (caught : Bool) (now : FanOutput T) (calls : List Call) (done : List Item) → HasTaken text filled holds caught o now calls done → FansTook caught (Own ∷ []) calls done
  took_one caught now calls done p = forget caught (holds now.texts) (Own ∷ []) now.live.items now.unwritten calls done (subst (λ (outlets : List Outlet). FanTook caught (holds now.texts) outlets now.live.items now.unwritten calls done) is.outlets p.took)

  -- when a read was made all was printed by a list of the one
  abbrev Caught : List ℕ → List Call → Type 0
  Caught reads = runs.IsCaughtUp (AsksOf reads) (FansPrinted (Own ∷ []))

  pub prompt_one : (reads : List ℕ) (asks : List Call → List Item → Type 0) → ((calls : List Call) (list : List Item) → asks calls list → AsksOf reads calls list) → (calls : List Call)
      → runs.AtReads (runs.IsCaughtUp asks (λ cs list. (now : FanOutput T) × Printed now cs list)) calls → runs.AtReads (Caught reads) calls
  prompt_one reads asks from calls p = reads_so (runs.IsCaughtUp asks (λ cs list. (now : FanOutput T) × Printed now cs list)) (Caught reads) calls
      (λ before q. record { met = q.met; asked = from before q.met q.asked; prints = took_one true q.prints.0 before q.met q.prints.1 }) p

  -- none stops alone, since there is no other
  abbrev Makes : List ℕ → List ℕ → (List Call → Type 0) → Seen → Seen → Type 0
  Makes reads hs IsSo s t = runs.MadeBut (several hs) false reads (ERRORS ∷ hs) IsSo s t

  as_one : (reads : List ℕ) (IsSo : List ℕ → List Call → Type 0) (s t : Seen) → Makes reads (handles o.sinks.items) (IsSo (handles o.sinks.items)) s t → runs.Made false reads (ERRORS ∷ sink ∷ []) (IsSo (sink ∷ [])) s t
  as_one reads IsSo s t made = subst (λ (hs : List ℕ). Makes reads hs (IsSo hs) s t) is.only made

  -- it ended
  pub ended_row : {F : Type 0} (gave came : List Call → List Item → Bool → Type 0) (ready : List Call → Type 0) (stopped : F → List Call → List Item → Type 0) (stops : FileStop → List Call → List Item → Type 0) (reads : List ℕ) (now : FanOutput T) (ending : FanEnding) (end : RunEnd FanEnding F) (met : Met) (fault : Option ToolFault) (records : List Item → Type 0)
      (name : List ℕ) (s t : Seen) → end ≡ ends.ByOutput ending → ((calls : List Call) → AreOn reads (ERRORS ∷ sink ∷ []) calls → runs.AtReads ready calls → runs.AtReads (Caught reads) calls) → ((calls : List Call) (list : List Item) (all : Bool) → gave calls list all → came calls list all) → fault ≡ one_answer d.name ending
      → ((list : List Item) → IsMet met list → records list)
      → Makes reads (handles o.sinks.items) (runs.Ran gave stopped ready (Printed now) Ended (ERRORS ∷ handles o.sinks.items) end met) s t
      → Called (RanSo (RanFor reads came stops records sink d (log_answer name) fault)) s t
  ended_row {F = F} gave came ready stopped stops reads now ending end met fault records name s t ended_so prompts from is_answer counts makes =
      let made = as_one reads (λ hs. runs.Ran gave stopped ready (Printed now) Ended (ERRORS ∷ hs) (ends.ByOutput ending) met) s t
      (subst (λ (e : RunEnd FanEnding F). Makes reads (handles o.sinks.items) (runs.Ran gave stopped ready (Printed now) Ended (ERRORS ∷ handles o.sinks.items) e met) s t) ended_so makes) in
      let r = made.is in
      let e = r.ends in
      let ended : FanEnded (Own ∷ []) ending made.calls r.done r.last r.all = subst (λ (outlets : List Outlet). FanEnded outlets ending made.calls r.done r.last r.all) is.outlets e.5 in record {
        calls = made.calls;
        did = made.did;
        is = (
          one_of_list reads came stops records Own name fault made.calls made.fail (record {
            on = made.on;
            end = ends.ByOutput ending;
            met = met;
            ran = record { done = r.done; last = r.last; all = r.all; one = r.one; count = r.count; ends = (e.0, e.1, e.2, e.3, from e.0 (r.done ++ r.last) r.all e.4, ended); prompt = prompts made.calls made.on r.prompt };
            answers = is_answer ∙ ap write_fault (blamed_is Own ending.unwritten (own_blame ending.how) made.calls ended.blames);
            recorded = counts (r.done ++ r.last) r.count;
          }),
          made.fail,
        );
      }

  -- its source stopped
  pub stopped_row : (gave came : List Call → List Item → Bool → Type 0) (ready : List Call → Type 0) (stops : FileStop → List Call → List Item → Type 0) (reads : List ℕ) (now : FanOutput T) (stop : FileStop) (end : RunEnd FanEnding FileStop) (met : Met) (fault : Option ToolFault) (records : List Item → Type 0)
      (name : List ℕ) (s t : Seen) → end ≡ ends.BySource stop → ((calls : List Call) → AreOn reads (ERRORS ∷ sink ∷ []) calls → runs.AtReads ready calls → runs.AtReads (Caught reads) calls) → fault ≡ log_answer name (ends.BySource stop)
      → ((list : List Item) → IsMet met list → records list)
      → Makes reads (handles o.sinks.items) (runs.Ran gave stops ready (Printed now) Ended (ERRORS ∷ handles o.sinks.items) end met) s t
      → Called (RanSo (RanFor reads came stops records sink d (log_answer name) fault)) s t
  stopped_row gave came ready stops reads now stop end met fault records name s t stopped_so prompts is_answer counts makes =
      let made = as_one reads (λ hs. runs.Ran gave stops ready (Printed now) Ended (ERRORS ∷ hs) (ends.BySource stop) met) s t
      (subst (λ (e : RunEnd FanEnding FileStop). Makes reads (handles o.sinks.items) (runs.Ran gave stops ready (Printed now) Ended (ERRORS ∷ handles o.sinks.items) e met) s t) stopped_so makes) in
      let r = made.is in
      let e = r.ends in
      let printed = took_one true now made.calls r.done e.2 in
      let alone = one_printed Own reads made.calls r.done made.on printed in record {
        calls = made.calls;
        did = made.did;
        is = (
          one_of_list reads came stops records Own name fault made.calls made.fail (record {
            on = made.on;
            end = ends.BySource stop;
            met = met;
            ran = record { done = r.done; last = r.last; all = r.all; one = r.one; count = r.count; ends = (e.0, e.1, printed); prompt = prompts made.calls made.on r.prompt };
            answers = is_answer ∙ sym (ap (λ (x : Option (List ℕ)). first_of (write_fault x) (Some (stop_answer name stop))) alone.1);
            recorded = counts (r.done ++ r.last) r.count;
          }),
          made.fail,
        );
      }

  -- there was no memory: perhaps nothing was done
  short_of : (gave came : List Call → List Item → Bool → Type 0) (lacking : List Call → List Item → Type 0) (reads : List ℕ) (now : FanOutput T) (calls : List Call)
      → ((list : List Item) (all : Bool) → gave calls list all → came calls list all) → ((list : List Item) (all : Bool) → came calls list all → came calls list false) → ((list : List Item) → lacking calls list → came calls list false)
      → AreOn reads (ERRORS ∷ sink ∷ []) calls → (calls ≡ []) ⊎ runs.RanShort gave lacking (Took now) Short calls → RanShort reads came sink d calls
  short_of gave came lacking reads now calls from late lacked on (inl none) = inl none
  short_of gave came lacking reads now calls from late lacked on (inr p) = inr (elim p.ends [
    | inl so ↦ (p.met, p.all, on, from p.met p.all so.0, one_short Own calls p.met p.all (subst (λ (outlets : List Outlet). FanShort outlets calls p.met p.all) is.outlets so.1))
    | inr so ↦ (
      p.met,
      false,
      on,
      elim so.0 [ inl given ↦ late p.met p.all (from p.met p.all given) | inr lacks ↦ lacked p.met lacks ],
      took_short sink d is.grows calls p.met (one_took Own false reads calls p.met on (took_one false now calls p.met so.1)).0,
    )
  ])

  pub short_row : (gave came : List Call → List Item → Bool → Type 0) (lacking : List Call → List Item → Type 0) (reads : List ℕ) (now : FanOutput T) (s t : Seen)
      → ((calls : List Call) (list : List Item) (all : Bool) → gave calls list all → came calls list all) → ((calls : List Call) (list : List Item) (all : Bool) → came calls list all → came calls list false) → ((calls : List Call) (list : List Item) → lacking calls list → came calls list false)
      → Makes reads (handles o.sinks.items) (runs.RanShort gave lacking (Took now) Short) s t
      → Called (RanShort reads came sink d) s t
  short_row gave came lacking reads now s t from late lacked makes =
      let made = as_one reads (λ hs. runs.RanShort gave lacking (Took now) Short) s t makes in
      record { calls = made.calls; did = made.did; is = short_of gave came lacking reads now made.calls (from made.calls) (late made.calls) (lacked made.calls) made.on (inr made.is) }

  -- no item was lacking
  pub live_short_row : (began came : List Call → List Item → Bool → Type 0) (now : FanOutput T) (s t : Seen)
      → ((calls : List Call) (list : List Item) (all : Bool) → began calls list all → came calls list all) → ((calls : List Call) (list : List Item) (all : Bool) → came calls list all → came calls list false)
      → Makes [] (handles o.sinks.items) (λ calls. (calls ≡ []) ⊎ runs.RanShort began (λ cs met. ⊥) (Took now) Short calls) s t
      → Called (RanShort [] came sink d) s t
  live_short_row began came now s t from late makes =
      let made = as_one [] (λ hs calls. (calls ≡ []) ⊎ runs.RanShort began (λ cs met. ⊥) (Took now) Short calls) s t makes in
      record { calls = made.calls; did = made.did; is = short_of began came (λ cs met. ⊥) [] now made.calls (from made.calls) (late made.calls) (λ list no. absurd no) made.on made.is }
