-- A run whose source is known to have certain items in all.
use Rattle.std.proofs.Common.{◌≡◌, ℕ, ◌≤◌, ◌||◌, Bool, true, false, List, [], ◌∷◌, ◌++◌, length, Option, refl, sym, ap, subst, ◌∙◌}
use Rattle.std.specs.Prelude.{filter}
use Rattle.std.proofs.lemmas.List.{append-nil}
use Rattle.log_model.specs.Interleaving.{IsInterleaving}
use Rattle.log_model.specs.Prefix.{IsPrefix}
use Rattle.vio.specs.declared.world.TheConstants.{ERRORS}
use Rattle.vio.specs.World.{Seen}
use Rattle.vio.specs.Calls.{Call, Did}
use Rattle.vsl_record.specs.Unit.{LogUnit, Log}
use Rattle.vsl_record.specs.Words.{unit_words}
use Rattle.ring_layout.specs.History.{IsReadHistory, ReachesTail, AddUp}
use Rattle.txn_rows.specs.Grouping.{Taken, groups_of}
use Rattle.ring_layout.specs.declared.history.HistoryItem.{HistoryItem}
use Rattle.ring_layout.specs.declared.item.Item.{Item}
use Rattle.ring_layout.specs.Items.{items_of}
use Rattle.traffic_feed.specs.declared.listing.Listing.{Listing}
use Rattle.vsl_file.specs.File.{FileEnding, is_whole}
use Rattle.vsl_dispatch.specs.Groups.{is_filled, kept}
use Rattle.tool_words.specs.declared.job.Job.{Job}
use Rattle.one_run.specs.declared.met.Met.{Met}
use Rattle.one_run.specs.declared.pass.RunEnd.{RunEnd}
use Rattle.one_run.specs.declared.pass.RunEnd.TheVariants as ends
use Rattle.one_run.specs.Run as runs
use Rattle.run_sources.specs.declared.file_items.FileStop.{FileStop}
use Rattle.run_sources.specs.Sources.{unit_items}
use Rattle.run_sources.specs.Told.{AreOf, TellsLog}
use Rattle.run_sources.proofs.ToldLemmas.{begun_are, whole_are}
use Rattle.fan_output.specs.Messages.{messages_of}
use Rattle.fan_output.specs.declared.ending.TextEnding.{TextEnding}
use Rattle.fan_output.specs.Ends.{Grows, TextEnded, TextWritten, whole}
use Rattle.text_printer.specs.Taken.{taken_of}
use Rattle.text_printer.specs.Laws.{taken_append}
use Rattle.text_printer.proofs.DueLemmas.{filled_on, text_filled, text_prefix}
use Rattle.job_steps.specs.declared.fault.ToolFault.{ToolFault}
use Rattle.job_steps.specs.Jobs.{is_on_threads, options_of, units_of, with_made}
use Rattle.job_steps.specs.Queries.{Ask, is_asked}
use Rattle.job_steps.specs.Steps.{Found, listings_of, logs_of}
use Rattle.tool_consumers.specs.Output.{output_of}
use Rattle.tool_consumers.proofs.OutputLemmas.{job_output}
use Rattle.job_runs.specs.declared.record.RunRecord.{RunRecord}
use Rattle.job_runs.specs.Sources.{AreFed, BeganOf, FedCame, FeedsCame, LogBegan}
use Rattle.job_runs.specs.Rows.{GroupsShort, RanFor, end_answer, fills, job_due, output_answer}
use Rattle.job_runs.specs.Told.{WritesFedPart, WritesOf, WritesPart, WritesRing}
use Rattle.job_runs.proofs.WrittenLemmas.{Lasts, ended_writes, none_told, short_of}

-- ---- what is due of a job

module _ (job : Job) (ask : Ask) (empty : Bool) where
  -- it goes on where more items come
  job_grows : Grows (job_due job ask empty)
  job_grows met more all =
      subst (λ (list : List Taken). IsPrefix ((job_due job ask empty).text met false) (output_of job (kept job.keep (filter (is_asked ask) (groups_of (options_of job) list all))) (all || is_filled job.keep (filter (is_asked ask) (groups_of (options_of job) list false))))) (sym (taken_append met more))
      (text_prefix (output_of job) (job_output job) job.keep (is_asked ask) (options_of job) (taken_of met) (taken_of more) all)

  -- of items that complete as many groups as are kept, and more, it is the same
  job_filled : (met more : List Item) (ended : Bool) → fills job ask met ≡ true → whole (job_due job ask empty) met false ≡ whole (job_due job ask empty) (met ++ more) ended
  job_filled met more ended filled = ap (λ (text : List ℕ). (job_due job ask empty).head ++ text)
      (text_filled (output_of job) job.keep (is_asked ask) (options_of job) (taken_of met) (taken_of more) ended filled
      ∙ ap (λ (list : List Taken). output_of job (kept job.keep (filter (is_asked ask) (groups_of (options_of job) list ended))) (ended || is_filled job.keep (filter (is_asked ask) (groups_of (options_of job) list false)))) (sym (taken_append met more)))

  -- and these complete as many too
  fills_more : (met more : List Item) → fills job ask met ≡ true → fills job ask (met ++ more) ≡ true
  fills_more met more filled =
      ap (λ (list : List Taken). is_filled job.keep (filter (is_asked ask) (groups_of (options_of job) list false))) (taken_append met more) ∙ filled_on job.keep (is_asked ask) (options_of job) (taken_of met) (taken_of more) filled

  pub job_lasts : Lasts (job_due job ask empty)
  job_lasts = record { grows = job_grows; filled_all = job_filled; filled_more = fills_more }

-- ---- over feeds

-- items that came of feeds in a stated order are of all that a reader meets
fed_are : (job : Job) (listings : List Listing) (met : List Item) (all : Bool) → (p : FedCame job listings met all) → AreOf met all (items_of p.history) true
fed_are job listings met all p = record { rest = p.rest; parts = p.parts; whole = λ e. ((p.whole e).0, refl) }

-- items that came of a ring are of all that a reader took, which may not have ended
live_are : (job : Job) (listings : List Listing) (met : List Item) (all : Bool) → (p : FedCame job listings met all) → AreOf met all (items_of p.history) all
live_are job listings met all p = record { rest = p.rest; parts = p.parts; whole = λ e. ((p.whole e).0, e) }

module _ (job : Job) (ask : Ask) (sink : ℕ) (empty : Bool) (listings : List Listing) (recorded : RunRecord) (calls : List Call) where
  -- what an output that ended so wrote of all that its source has
  ended_of : (ending : TextEnding) (done last : List Item) (all ended : Bool) (every : List Item) (fault : Option ToolFault) → length last ≤ 1 → fault ≡ output_answer ending → AreOf (done ++ last) all every ended → TextEnded sink (job_due job ask empty) ending calls done last all
      → WritesOf sink (job_due job ask empty) fault every ended calls
  ended_of ending done last all ended every fault one is are p = subst (λ (f : Option ToolFault). WritesOf sink (job_due job ask empty) f every ended calls) (sym is) (ended_writes (job_due job ask empty) (job_lasts job ask empty) sink every ended calls ending done last all one are p)

  -- a run that ended so
  fed_end : {ready : List Call → Type 0} (end : RunEnd TextEnding FileStop) (met : Met) (fault : Option ToolFault) → runs.Ran (λ cs. FeedsCame job listings recorded) (λ why cs met. ⊥) ready (TextWritten sink (job_due job ask empty)) (TextEnded sink (job_due job ask empty)) (ERRORS ∷ sink ∷ []) end met calls → fault ≡ end_answer job end
      → (log : Log) × (history : List (HistoryItem LogUnit)) × AreFed job listings log history × WritesOf sink (job_due job ask empty) fault (items_of history) true calls
  fed_end (ends.ByOutput ending) met fault ran is =
      let e = ran.ends in
      let came = e.4.came in (came.log, came.history, came.fed, ended_of ending ran.done ran.last ran.all true (items_of came.history) fault ran.one is (fed_are job listings (ran.done ++ ran.last) ran.all came) e.5)
  fed_end (ends.BySource why) met fault ran is = absurd ran.ends.1

  -- what a run wrote of them
  pub feeds_write : (fault : Option ToolFault) (records : List Item → Type 0) → RanFor [] (λ cs. FeedsCame job listings recorded) (λ why cs met. ⊥) records sink (job_due job ask empty) (end_answer job) fault calls
      → (log : Log) × (history : List (HistoryItem LogUnit)) × AreFed job listings log history × WritesOf sink (job_due job ask empty) fault (items_of history) true calls
  feeds_write fault records r = fed_end r.end r.met fault r.ran r.answers

  -- the items of a ring are all that were met
  all_met : (history : List (HistoryItem LogUnit)) (met rest : List Item) → items_of history ≡ met ++ rest → rest ≡ [] → items_of history ≡ met
  all_met history met rest parts none = parts ∙ ap (λ (xs : List Item). met ++ xs) none ∙ append-nil met

  -- the same of a ring that threads share
  live_end : {ready : List Call → Type 0} (end : RunEnd TextEnding FileStop) (met : Met) (fault : Option ToolFault) → is_on_threads job ≡ true → runs.Ran (λ cs. FeedsCame job listings recorded) (λ why cs met. ⊥) ready (TextWritten sink (job_due job ask empty)) (TextEnded sink (job_due job ask empty)) (ERRORS ∷ sink ∷ []) end met calls → fault ≡ end_answer job end
      → WritesRing job listings recorded sink (job_due job ask empty) fault calls
  live_end (ends.ByOutput ending) met fault threads ran is =
      let e = ran.ends in
      let came = e.4.came in
      let ring = (e.4.ring threads).1 in record {
        ring = ring.ring;
        is = ring.is;
        interleaved = subst (λ (l : Log). IsInterleaving l (units_of (with_made job listings))) (sym ring.log_is) came.fed.interleaved;
        history = came.history;
        only = ring.only;
        read = subst (λ (l : Log). IsReadHistory unit_words job.seg l came.history) (sym ring.log_is) came.fed.read;
        adds_up = subst (λ (l : Log). AddUp l came.history) (sym ring.log_is) came.fed.adds_up;
        ended = ran.all;
        tail = λ all. subst (λ (l : Log). ReachesTail l came.history) (sym ring.log_is) (came.whole all).1;
        writes = ended_of ending ran.done ran.last ran.all ran.all (items_of came.history) fault ran.one is (live_are job listings (ran.done ++ ran.last) ran.all came) e.5;
        messages = λ none. none_told (job_due job ask empty) (job_lasts job ask empty) sink calls ending ran.done ran.last ran.all fault is e.5 none ∙ ap messages_of (sym (all_met came.history (ran.done ++ ran.last) came.rest came.parts (e.4.ring threads).0));
      }
  live_end (ends.BySource why) met fault threads ran is = absurd ran.ends.1

  pub live_write : (fault : Option ToolFault) (records : List Item → Type 0) → is_on_threads job ≡ true → RanFor [] (λ cs. FeedsCame job listings recorded) (λ why cs met. ⊥) records sink (job_due job ask empty) (end_answer job) fault calls
      → WritesRing job listings recorded sink (job_due job ask empty) fault calls
  live_write fault records threads r = live_end r.end r.met fault threads r.ran r.answers

-- ---- with no memory

-- items that came of a log are of all that it has
began_are : (h : ℕ) (units : Log) (ending : FileEnding) (calls : List Call) (before now : Seen) (met : List Item) (all : Bool) → TellsLog h units ending before → Did calls before now → LogBegan h calls met all → AreOf met all (unit_items units) (is_whole ending)
began_are h units ending calls before now met false tells did p = begun_are h units ending before tells calls now did met p.begins
began_are h units ending calls before now met true tells did p = let so = p.whole refl in whole_are h units ending before tells calls now did met so.0 so.1 so.2

-- what was written of a log
pub short_log : (job : Job) (found : List Found) (h : ℕ) (others : List ℕ) (units : Log) (ending : FileEnding) (calls : List Call) (before now : Seen) → logs_of found ≡ h ∷ others → TellsLog h units ending before → Did calls before now → GroupsShort job found calls
    → WritesPart job found (unit_items units) (is_whole ending) calls
short_log job found h others units ending calls before now is tells did p =
    let met = p.3 in let all = p.4 in
    let began : LogBegan h calls met all = subst (λ (logs : List ℕ). BeganOf logs job (listings_of found) calls met all) is p.7 in
    (p.0, p.1, p.2, p.5, short_of (job_due job p.0 p.2) (job_lasts job p.0 p.2) p.1 (unit_items units) (is_whole ending) calls met all (began_are h units ending calls before now met all tells did began) p.8)

-- and of feeds: in a stated order all that a reader meets has come to an end
module _ (job : Job) (found : List Found) (calls : List Call) (p : GroupsShort job found calls) (came : FedCame job (listings_of found) p.3 p.4) where
  fed_part : (ended : Bool) → (is_on_threads job ≡ false → ended ≡ true) → (ended ≡ true → ReachesTail came.log came.history) → AreOf p.3 p.4 (items_of came.history) ended → WritesFedPart job found calls
  fed_part ended stated tail are =
      record { log = came.log; history = came.history; fed = came.fed; ended = ended; stated = stated; tail = tail; writes = (p.0, p.1, p.2, p.5, short_of (job_due job p.0 p.2) (job_lasts job p.0 p.2) p.1 (items_of came.history) ended calls p.3 p.4 are p.8) }

  short_by : (b : Bool) → is_on_threads job ≡ b → WritesFedPart job found calls
  short_by false stated = fed_part true (λ e. refl) (λ e. (came.fed.turns stated).1) (fed_are job (listings_of found) p.3 p.4 came)
  short_by true threads = fed_part p.4 (λ stated. let no : true ≡ false = sym threads ∙ stated in absurd cc) (λ e. (came.whole e).1) (live_are job (listings_of found) p.3 p.4 came)

pub short_feeds : (job : Job) (found : List Found) (calls : List Call) → logs_of found ≡ [] → GroupsShort job found calls → WritesFedPart job found calls
short_feeds job found calls is p = short_by job found calls p (subst (λ (logs : List ℕ). BeganOf logs job (listings_of found) calls p.3 p.4) is p.7) (is_on_threads job) refl
