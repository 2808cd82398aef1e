-- The plain case of the main theorem.
use Rattle.std.specs.Bool.{MatchBool}
use Rattle.std.specs.Str.{bytes_eq}
use Rattle.std.proofs.Common.{◌≡◌, ◌≢◌, ℕ, Bool, true, false, ◌&&◌, not, if◌then◌else◌, is_some, unwrap_or, List, [], ◌∷◌, ◌++◌, map, Option, Some, None, Result, Ok, refl, sym, ap, subst, ◌∙◌, inl, inr, codes, IfOk, Err}
use Rattle.std.proofs.lemmas.Slice.Eq.{bytes_eq-Decides}
use Rattle.vio.specs.declared.world.TheConstants.{ERRORS, INPUT, OUTPUT}
use Rattle.vio.specs.World.{Gains, HasStreams, Seen}
use Rattle.vsl_record.specs.Unit.{Log}
use Rattle.ring_layout.specs.declared.item.Item.{Item}
use Rattle.vsl_file.specs.File.{Whole, file_header}
use Rattle.txn_rows.specs.declared.group.Group.{Group}
use Rattle.txn_rows.specs.Grouping.{all_taken, groups_of}
use Rattle.vsl_select.specs.Shown.{shown}
use Rattle.run_sources.specs.Sources.{unit_items}
use Rattle.fan_output.specs.Ends.{whole}
use Rattle.fan_output.specs.Messages.{messages_of}
use Rattle.fan_output.proofs.EndLemmas.{messages_append}
use Rattle.tool_words.specs.declared.job.Job.{Job}
use Rattle.tool_words.specs.declared.job.Tool.{Tool}
use Rattle.tool_words.specs.declared.job.Tool.TheVariants as tools
use Rattle.job_steps.specs.Jobs.{file_of, options_of, showing_of, writes_log, writes_units}
use Rattle.job_steps.specs.Queries.{Ask}
use Rattle.tool_consumers.specs.declared.layout.Layout.TheVariants.{Lines, Units}
use Rattle.tool_consumers.specs.Output.{head_text, output_of, tool_output, written}
use Rattle.job_runs.specs.Rows.{job_due}
use Rattle.varnish_tools.specs.declared.outcome.Outcome.{Outcome}
use Rattle.varnish_tools.specs.Faults.{status_of}
use Rattle.varnish_tools.specs.Theorem.{IsFaithful, NamesLog, Prints, PrintsBy, PrintsPlain, printed_groups}
use Rattle.varnish_tools.specs.Told.{IsFileSink, IsOut, PrintsLog, TellsInput}
use Rattle.varnish_tools.proofs.PartedLemmas.{due_is}
use Rattle.varnish_tools.proofs.RunLemmas.{prefix_none}
use Rattle.varnish_tools.proofs.ToldLemmas.{TellsStops, TellsWrites, log_printed}

-- ---- a job without OUT

and_none : (a b : Bool) → (a && false && b) ≡ false
and_none true b = refl
and_none false b = refl

-- it writes no log file
lines_alone : (job : Job) → job.write ≡ None → writes_log job ≡ false
lines_alone job no_out = subst (λ (w : Option (List ℕ)). (writes_units job.tool && is_some w && not job.text) ≡ false) (sym no_out) (and_none (writes_units job.tool) (not job.text))

-- it writes to standard output
out_is : (job : Job) (h : ℕ) (empty : Bool) (text : List ℕ) (s t : Seen) → job.write ≡ None → IsOut job h empty text s t → h ≡ OUTPUT
out_is job h empty text s t no_out out =
    let to_out : (h ≡ OUTPUT) × (empty ≡ true) =
    subst (λ (w : Option (List ℕ)). MatchBool (bytes_eq (unwrap_or w (codes "-")) (codes "-")) ((h ≡ OUTPUT) × (empty ≡ true)) (IsFileSink job.append (unwrap_or w (codes "-")) h empty text s t)) no_out out in
    to_out.0

-- what is due of a log is what its tool writes of the groups that are printed
due_plain : (job : Job) (ask : Ask) (empty : Bool) (units : Log) → job.write ≡ None → whole (job_due job ask empty) (unit_items units) true ≡ output_of job (printed_groups job ask units) true
due_plain job ask empty units no_out =
    due_is job ask empty units (groups_of (options_of job) (all_taken units) true) refl
    ∙ ap (λ (b : Bool). (if b && empty then file_header else []) ++ output_of job (printed_groups job ask units) true) (lines_alone job no_out)

-- ---- by the tool

module _ (job : Job) (ask : Ask) (units : Log) (outcome : Outcome) (s t : Seen) (no_out : job.write ≡ None) (status : outcome.status ≡ 0) (errors : Gains (s.written ERRORS) (t.written ERRORS) []) where
  prints_by : (tool : Tool) → Gains (s.written OUTPUT) (t.written OUTPUT) (tool_output tool job (printed_groups job ask units) true) → PrintsBy tool job ask units outcome s t
  prints_by tools.Log out = record {
    status = status;
    output = subst (λ (b : Bool). Gains (s.written OUTPUT) (t.written OUTPUT) (written (if b then Units else Lines) job.verbose (map (shown (showing_of job)) (printed_groups job ask units)))) (lines_alone job no_out) out;
    errors = errors;
  }
  prints_by tools.Ncsa out = record { status = status; output = out; errors = errors }
  prints_by tools.Top out = record { status = status; output = out; errors = errors }
  prints_by tools.Stat out = tt

-- ---- the plain case

not_stream : (name : List ℕ) → name ≢ codes "-" → bytes_eq name (codes "-") ≡ false
not_stream name other = by (bytes_eq name (codes "-")) refl
  where
    by : (b : Bool) → bytes_eq name (codes "-") ≡ b → bytes_eq name (codes "-") ≡ false
    by true e = absurd (other ((bytes_eq-Decides name (codes "-")).0 e))
    by false e = e

-- the world tells the log that words name
plain_told : (words : List (List ℕ)) (job : Job) (units : Log) (s : Seen) → NamesLog words job units s → TellsInput job units Whole s
plain_told words job units s p = record {
  bytes = p.bytes;
  told = subst (λ (f : Option (List ℕ)). MatchBool (bytes_eq (unwrap_or f []) (codes "-")) (s.left INPUT ≡ Some p.bytes) (s.held (unwrap_or f []) ≡ Some p.bytes)) (sym p.is_log)
      (subst (λ (b : Bool). MatchBool b (s.left INPUT ≡ Some p.bytes) (s.held p.name ≡ Some p.bytes)) (sym (not_stream p.name p.is_file)) p.held);
  file = (p.most, (p.version, p.file));
}

-- no item of a log has a message
units_silent : (units : Log) → messages_of (unit_items units) ≡ []
units_silent [] = refl
units_silent (u ∷ units) = units_silent units

-- nor have those that were met of it
met_silent : (units : Log) (met rest : List Item) → unit_items units ≡ met ++ rest → messages_of met ≡ []
met_silent units met rest are = prefix_none (messages_of met) (record { rest = messages_of rest; is = sym (units_silent units) ∙ ap messages_of are ∙ messages_append met rest })

module _ (writes_told : TellsWrites) (stops_told : TellsStops) (words : List (List ℕ)) (outcome : Outcome) (s t : Seen) (streams : HasStreams s) (p : IsFaithful words outcome s t) where
  -- what was printed of the log that words name
  pub prints_plain : PrintsPlain words outcome s t
  prints_plain job units q none =
      elim (log_printed writes_told stops_told words outcome job units Whole s t q.states (ap (λ (f : Option (List ℕ)). is_some f) q.is_log) q.groups streams (plain_told words job units s q) p) [
        | inl stopped ↦ let no : None ≡ Some stopped.by = sym none ∙ stopped.is in absurd cc
        | inr log ↦
            let items = log.prints in
            let text = items.done none ∙ due_plain job items.ask items.empty units q.no_out in
            let out = subst (λ (h : ℕ). Gains (s.written h) (t.written h) items.text) (out_is job items.sink items.empty items.text s t q.no_out items.is_out) items.gains in
            let told = items.errors none in
            let errors = subst (λ (x : List ℕ). Gains (s.written ERRORS) (t.written ERRORS) x) (met_silent units told.0 told.1.rest told.1.parts) told.2 in (
              items.ask,
              record { texts = items.texts; are_texts = items.are_texts; asked = items.asked },
              prints_by job items.ask units outcome s t q.no_out (p.status ∙ ap status_of none) errors job.tool (subst (λ (x : List ℕ). Gains (s.written OUTPUT) (t.written OUTPUT) x) text out),
            )
      ]

-- of an answer, where the law says so of an outcome
pub plain_ok : {M : Type 0} → ((words : List (List ℕ)) (outcome : Outcome) (before now : Seen) → HasStreams before → IsFaithful words outcome before now → PrintsPlain words outcome before now)
    → (words : List (List ℕ)) (r : Result Outcome M) (s t : Seen) → HasStreams s → IfOk r (λ o. IsFaithful words o s t) → IfOk r (λ o. PrintsPlain words o s t)
plain_ok law words (Ok outcome) s t streams p = law words outcome s t streams p
plain_ok law words (Err e) s t streams p = tt
