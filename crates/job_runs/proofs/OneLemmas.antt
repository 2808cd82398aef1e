-- New outputs of one text: that of a job's groups, and that of units.
use Rattle.std.proofs.Common.{◌≡◌, ◌≢◌, ℕ, zero, suc, Bool, true, false, List, [], ◌∷◌, ◌++◌, Option, Some, ◌≤◌, arith, refl, sym, ap, subst, ◌∙◌}
use Rattle.std.specs.Prelude.{slice_get, length}
use Rattle.vio.specs.declared.world.TheConstants.{ERRORS}
use Rattle.vio.specs.World.{Seen, Writing}
use Rattle.txn_rows.specs.declared.group.Group.{Group}
use Rattle.txn_rows.specs.Grouping.{Taken, no_state}
use Rattle.log_model.specs.Prefix.{IsPrefix}
use Rattle.query_parser.specs.declared.query.Query.{Query}
use Rattle.ring_layout.specs.declared.item.Item.{Item}
use Rattle.vsl_dispatch.specs.Groups.{is_filled, kept}
use Rattle.vsl_dispatch.proofs.GroupLemmas.{kept_none}
use Rattle.tool_words.specs.declared.job.Job.{Job}
use Rattle.fan_output.specs.declared.fan.FanOutput.{FanOutput}
use Rattle.fan_output.specs.declared.sink.Sink.{Sink}
use Rattle.fan_output.specs.Ends.{Due, Grows}
use Rattle.fan_output.specs.Fan.{AreApart, AreNamed, IsFan, handles, outlets_of}
use Rattle.fan_output.proofs.OneLemmas.{fan_can, fan_new, one_apart, one_named}
use Rattle.text_printer.specs.declared.printer.Printer.{Printer}
use Rattle.text_printer.specs.Printer.{HoldsAt, IsOutput, Plan, PrinterState, Represents, due, filled_at, has_all, plan_of, printer_state, text_at}
use Rattle.text_printer.proofs.DueLemmas.{due_none, due_prefix}
use Rattle.text_printer.specs.Laws.{taken_append}
use Rattle.text_printer.specs.Taken.{taken_of}
use Rattle.unit_text.specs.declared.units.UnitsText.{UnitsText}
use Rattle.unit_text.specs.Texts.{HoldsUnits, units_filled, units_text}
use Rattle.unit_text.specs.Units.{units_due}
use Rattle.unit_text.proofs.UnitLemmas.{units_grow}
use Rattle.vsl_file.specs.File.{file_header}
use Rattle.job_steps.specs.Jobs.{options_of, write_of}
use Rattle.tool_consumers.specs.Consumers.{IsJobConsumer}
use Rattle.tool_consumers.specs.Output.{head_text}
use Rattle.tool_consumers.proofs.OutputLemmas.{job_output}
use Rattle.job_runs.specs.inside.Outputs.{IsOne, job_plan, query_due}

-- an output of one text, where that was given nothing
module _ {T : Type 0} (text : T → ℕ → List Item → Bool → List ℕ) (filled : T → ℕ → List Item → Bool) (holds : T → ℕ → List Item → Bool → List ℕ → Type 0) (count : T → ℕ) where
  pub one_output : (o : FanOutput T) (texts : T) (s : Sink) (d : Due) → IsFan o → o.texts ≡ texts → o.sinks.items ≡ s ∷ [] → text texts 0 ≡ d.text → filled texts 0 ≡ d.filled → s.head.items ≡ d.head → s.name ≡ d.name → count texts ≡ 1
      → holds texts 0 [] false [] → d.filled [] ≡ false → d.text [] false ≡ [] → Grows d → IsOne text filled holds count s.handle d o
  one_output o texts s d is own sinks same_text same_filled same_head same_name one given fewer none grows = record {
    outlets = ap (λ (t : T). outlets_of (text t) (filled t) o.sinks.items) own ∙ ap (λ (ss : List Sink). outlets_of (text texts) (filled texts) ss) sinks
        ∙ (λ i. record { sink = s.handle; due = record { head = same_head i; text = same_text i; filled = same_filled i; name = same_name i } } ∷ []);
    only = ap handles sinks;
    new = fan_new text filled holds count o is (subst (λ (ss : List Sink). 1 ≤ length ss) (sym sinks) one_some)
        (λ i r at. at_first (λ k. holds o.texts k [] false []) (subst (λ (t : T). holds t 0 [] false []) (sym own) given) i r at)
        (λ i r at. at_first (λ k. filled o.texts k [] ≡ false) (ap (λ (t : T). filled t 0 []) own ∙ ap (λ (f : List Item → Bool). f []) same_filled ∙ fewer) i r at)
        (λ i r at. at_first (λ k. text o.texts k [] false ≡ []) (ap (λ (t : T). text t 0 [] false) own ∙ ap (λ (f : List Item → Bool → List ℕ). f [] false) same_text ∙ none) i r at);
    grows = grows;
    can = λ now named apart. fan_can text filled holds count o is now (subst (λ (ss : List Sink). AreApart ss) (sym sinks) (one_apart s apart))
        (subst (λ (ss : List Sink). AreNamed ss now) (sym sinks) (one_named s now (ap (λ (n : List ℕ). now.names Writing s.handle n) same_name ∙ named)))
        (ap count own ∙ one ∙ sym (ap length sinks));
  }
    where
      one_some : 1 ≤ length (s ∷ [])
      one_some = omega (arith)

      at_first : (IsSo : ℕ → Type 0) → IsSo 0 → (i : ℕ) (r : Sink) → slice_get o.sinks.items i ≡ Some r → IsSo i
      at_first IsSo so i r at = first i (subst (λ (ss : List Sink). slice_get ss i ≡ Some r) sinks at)
        where
          first : (i : ℕ) → slice_get (s ∷ []) i ≡ Some r → IsSo i
          first zero is = so
          first (suc i) is = absurd cc

-- what is due of a job goes on where more items come
query_grows : (job : Job) (query : Query) (empty : Bool) → Grows (query_due job query empty)
query_grows job query empty met more all = subst (λ (list : List Taken). IsPrefix (due (job_plan job query) (taken_of met) false) (due (job_plan job query) list all)) (sym (taken_append met more))
    (due_prefix (job_plan job query) (job_output job) (taken_of met) (taken_of more) all)

module _ {C : Type 0} (keep : C → Option ℕ) (output : C → List Group → Bool → List ℕ) (represents : C → List Group → Bool → List ℕ → Type 0) where
  -- what a new printer tells
  abbrev new_state : Job → Query → C → PrinterState C
  new_state job query c = record { table = record { options = options_of job; state = no_state; failed = false }; query = query; entry = record { consumer = c; live = true } }

  -- a new printer for a consumer of a job was given no item
  none_given : (job : Job) (query : Query) (c : C) → IsJobConsumer keep output represents job c → is_filled job.keep [] ≡ false → Represents keep output represents (new_state job query c) [] false []
  none_given job query c is unfilled =
      let writes : IsOutput (output c) = subst (λ (w : List Group → Bool → List ℕ). IsOutput w) (sym is.writes) (job_output job) in record {
        grows = due_prefix (plan_of keep output (new_state job query c)) writes;
        state = λ open_. refl;
        sound = λ open_. refl;
        stands = record { live = rw is.keeps unfilled; holds = subst (λ (gs : List Group). represents c gs false []) (sym (kept_none (keep c))) is.new };
      }

  -- the output with it is the job's
  pub printer_one : (job : Job) (query : Query) (c : C) (sink : ℕ) (empty : Bool) (p : Printer C) (s : Sink) (o : FanOutput (Printer C)) → IsJobConsumer keep output represents job c → is_filled job.keep [] ≡ false → printer_state p ≡ new_state job query c
      → IsFan o → o.texts ≡ p → o.sinks.items ≡ s ∷ [] → s.handle ≡ sink → s.head.items ≡ head_text job empty → s.name ≡ write_of job
      → IsOne (text_at keep output) (filled_at keep output) (HoldsAt keep output represents) (λ (q : Printer C). 1) sink (query_due job query empty) o
  printer_one job query c sink empty p s o is unfilled state fan own sinks handle head name =
      let plan : plan_of keep output (printer_state p) ≡ job_plan job query = ap (plan_of keep output) state ∙ (λ i. record { options = options_of job; query = query; keep = is.keeps i; writes = is.writes i }) in
      subst (λ (h : ℕ). IsOne (text_at keep output) (filled_at keep output) (HoldsAt keep output represents) (λ (q : Printer C). 1) h (query_due job query empty) o) handle
      (one_output (text_at keep output) (filled_at keep output) (HoldsAt keep output represents) (λ (q : Printer C). 1) o p s (query_due job query empty) fan own sinks
      (ap (λ (x : Plan). λ (met : List Item) (all : Bool). due x (taken_of met) all) plan) (ap (λ (x : Plan). λ (met : List Item). has_all x (taken_of met)) plan) head name refl
      (refl, subst (λ (q : PrinterState C). Represents keep output represents q [] false []) (sym state) (none_given job query c is unfilled)) unfilled (due_none (job_plan job query) (job_output job) false) (query_grows job query empty))

-- the output of a log file of units
pub units_one : (name : List ℕ) (sink : ℕ) (u : UnitsText) (s : Sink) (o : FanOutput UnitsText) → u.bytes.items ≡ [] → IsFan o → o.texts ≡ u → o.sinks.items ≡ s ∷ [] → s.handle ≡ sink → s.head.items ≡ file_header → s.name ≡ name
    → IsOne units_text units_filled HoldsUnits (λ (v : UnitsText). 1) sink (units_due name) o
units_one name sink u s o none fan own sinks handle head named =
    subst (λ (h : ℕ). IsOne units_text units_filled HoldsUnits (λ (v : UnitsText). 1) h (units_due name) o) handle
    (one_output units_text units_filled HoldsUnits (λ (v : UnitsText). 1) o u s (units_due name) fan own sinks refl refl head named refl (refl, none) refl refl (units_grow name))
