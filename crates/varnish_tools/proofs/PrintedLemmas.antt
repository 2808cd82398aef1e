-- What a job that prints groups wrote of items: of a log, or of feeds.
use Rattle.std.specs.Bool.{MatchBool}
use Rattle.std.specs.Str.{bytes_eq}
use Rattle.std.proofs.Common.{◌≡◌, ℕ, Bool, false, List, [], ◌∷◌, ◌++◌, Option, None, Ok, sym, ap, subst, ◌∙◌, codes}
use Rattle.std.proofs.lemmas.List.{append-nil}
use Rattle.vio.specs.declared.world.TheConstants.{ERRORS}
use Rattle.vio.specs.World.{Gains, HasStreams, Seen, Writing}
use Rattle.vio.specs.Calls.{Call, Did, written_by}
use Rattle.vio.proofs.CallLemmas.{did_then, on_append, written_append}
use Rattle.vio.proofs.TouchLemmas.{did_touch}
use Rattle.ring_layout.specs.declared.item.Item.{Item}
use Rattle.traffic_feed.specs.declared.listing.Listing.{Listing}
use Rattle.one_command.specs.Promise.{Says}
use Rattle.one_command.proofs.PromiseLemmas.{said_other}
use Rattle.tool_words.specs.declared.command.Command.TheVariants.{ForTool}
use Rattle.tool_words.specs.declared.job.Job.{Job}
use Rattle.job_steps.specs.declared.fault.ToolFault.{ToolFault}
use Rattle.job_steps.specs.Jobs.{is_counting, write_of}
use Rattle.job_steps.specs.Queries.{Ask, AreAsked}
use Rattle.job_steps.specs.Steps.{Found, creates_of, listings_of, logs_of, opens_of, steps_of}
use Rattle.job_steps.proofs.StepFacts.{passed_within}
use Rattle.job_runs.specs.declared.record.RunRecord.{RunRecord}
use Rattle.job_runs.specs.Sources.{CameOf, RecordsOf, StopsOf}
use Rattle.job_runs.specs.Counters.{PrintsCounters}
use Rattle.job_runs.specs.Rows.{IsAsked, JobRan, PrintsGroups, RanFor, end_answer, job_due}
use Rattle.job_runs.specs.Told.{WritesOf}
use Rattle.varnish_tools.specs.Theorem.{WorksOff}
use Rattle.varnish_tools.specs.Told.{PrintsItems}
use Rattle.varnish_tools.proofs.FoundLemmas.{FoundSo}
use Rattle.varnish_tools.proofs.PartLemmas.{GroupParts}
use Rattle.varnish_tools.proofs.OutLemmas.{out_by, sink_apart}
use Rattle.varnish_tools.proofs.RunLemmas.{RanOf, run_errors, run_gains}
use Rattle.varnish_tools.proofs.TouchLemmas.{says_on}

pub same_one : {A : Type 0} (x y : A) → x ∷ [] ≡ y ∷ [] → x ≡ y
same_one x y same = cc

-- a run went over these logs or listings, to the sink that the steps found, for what the queries ask
pub record RanOver (job : Job) (found : List Found) (logs : List ℕ) (listings : List Listing) (sink : ℕ) (empty : Bool) (at : Seen) (fault : Option ToolFault) (recorded : RunRecord) (calls : List Call) : Type 0 where
  pub ask : Ask
  pub asked : IsAsked job found ask sink empty
  pub over : RanFor logs (CameOf logs job listings recorded) (StopsOf logs at) (RecordsOf logs job recorded) sink (job_due job ask empty) (end_answer job) fault calls

pub ran_over : (job : Job) (found : List Found) (texts : List (List ℕ)) (logs : List ℕ) (listings : List Listing) (sink : ℕ) (empty : Bool) (at : Seen) (fault : Option ToolFault) (recorded : RunRecord) (calls : List Call) → is_counting job.tool ≡ false
    → FoundSo found texts logs listings sink empty → JobRan job at fault recorded found calls → RanOver job found logs listings sink empty at fault recorded calls
ran_over job found texts logs listings sink empty at fault recorded calls groups so ran =
    let g = subst (λ (b : Bool). MatchBool b (PrintsCounters job fault recorded found calls) (PrintsGroups job at fault recorded found calls)) groups ran in
    let same : (g.1, g.2) ≡ (sink, empty) = same_one (g.1, g.2) (sink, empty) (sym (g.3).is_sink ∙ so.sinks_are) in
    let there = subst (λ (z : ℕ × Bool). RanFor (logs_of found) (CameOf (logs_of found) job (listings_of found) recorded) (StopsOf (logs_of found) at) (RecordsOf (logs_of found) job recorded) z.0 (job_due job g.0 z.1) (end_answer job) fault calls) same g.4 in
    let of_listings = subst (λ (ls : List Listing). RanFor (logs_of found) (CameOf (logs_of found) job ls recorded) (StopsOf (logs_of found) at) (RecordsOf (logs_of found) job recorded) sink (job_due job g.0 empty) (end_answer job) fault calls) so.listings_are there in
    record {
      ask = g.0;
      asked = subst (λ (z : ℕ × Bool). IsAsked job found g.0 z.0 z.1) same g.3;
      over = subst (λ (hs : List ℕ). RanFor hs (CameOf hs job listings recorded) (StopsOf hs at) (RecordsOf hs job recorded) sink (job_due job g.0 empty) (end_answer job) fault calls) so.logs_are of_listings;
    }

-- what such a run wrote of items is what OUT gained, and without a fault standard error
unfoldable pub items_printed : (job : Job) (message : List ℕ) (fault : Option ToolFault) (recorded : RunRecord) (s t : Seen) (every : List Item) (ended : Bool) (logs : List ℕ) (listings : List Listing) → HasStreams s → (fault ≡ None → message ≡ []) → (q : WorksOff (Says message) (Ok (ForTool job)) fault recorded s t)
    → (ran : RanOf (ForTool job) q.at fault recorded q.work) → (mid : Seen) → Did ran.first s mid → Did ran.last mid q.at → (out : GroupParts job ran.found s mid) → FoundSo ran.found out.texts logs listings out.sink out.empty
    → (g : RanOver job ran.found logs listings out.sink out.empty q.at fault recorded ran.last) → WritesOf out.sink (job_due job g.ask out.empty) fault every ended ran.last → PrintsItems job fault every ended s t
items_printed job message fault recorded s t every ended logs listings streams quiet q ran mid did_first did_last out so g wrote =
    let sink = out.sink in
    let apart = sink_apart (bytes_eq (write_of job) (codes "-")) job.append (write_of job) sink out.empty out.out.own out.at out.out.mid out.out.is_made out.out.did_own in
    let within = passed_within (steps_of (Ok (ForTool job))) ran.found ran.first ran.passed in
    let touches = did_touch [] [] (opens_of (steps_of (Ok (ForTool job)))) (creates_of (steps_of (Ok (ForTool job)))) ran.first s mid within.within did_first in
    let silent : written_by sink (ran.last ++ q.said) ≡ written_by sink ran.last = written_append sink ran.last q.said ∙ ap (λ (xs : List ℕ). written_by sink ran.last ++ xs) (said_other sink message q.said apart q.says) ∙ append-nil (written_by sink ran.last) in
    record {
      ask = g.ask;
      sink = sink;
      empty = out.empty;
      texts = out.texts;
      are_texts = out.are_texts;
      asked = subst (λ (texts : List (List ℕ)). AreAsked job.caseless None texts g.ask) so.texts_are g.asked.asked;
      text = written_by sink ran.last;
      is_out = out_by job.append (write_of job) sink out.empty logs (written_by sink ran.last) (ran.last ++ q.said) s out.at mid t out.touches (touches.names Writing ERRORS (write_of job) streams.error_given)
          (on_append logs (ERRORS ∷ sink ∷ []) ran.last q.said g.over.on (says_on logs (sink ∷ []) message q.said q.says)) (did_then ran.last q.said mid q.at t did_last q.told) silent (bytes_eq (write_of job) (codes "-")) out.out.own out.out.looked (write_of job ∷ []) out.out.mid out.out.is_made out.out.did_own out.out.opens out.out.did_looked;
      part = wrote.part;
      done = wrote.done;
      ends = wrote.ends;
      gains = run_gains (ForTool job) message fault recorded sink s t apart q ran;
      errors = λ none. let m = wrote.messages none in (m.0, m.1, subst (λ (text : List ℕ). Gains (s.written ERRORS) (t.written ERRORS) text) m.2 (run_errors (ForTool job) message fault recorded s t (quiet none) q ran));
    }
