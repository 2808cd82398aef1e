-- The steps of a command of two names: its log, and then what it writes.
use Rattle.std.proofs.Common.{◌≡◌, false, List, [], ◌∷◌, refl}
use Rattle.std.proofs.lemmas.List.{append-nil}
use Rattle.log_model.specs.declared.fault.Halt.{Halt}
use Rattle.vio.specs.World.{Seen}
use Rattle.vio.specs.Calls.{Called}
use Rattle.vio.specs.Steps.{Halted, PassedSo}
use Rattle.tool_words.specs.declared.command.Names.{Names}
use Rattle.job_steps.specs.declared.fault.ToolFault.{ToolFault}
use Rattle.job_steps.specs.declared.steps.Opened.{Opened}
use Rattle.job_steps.specs.Begun.{IsOpened}
use Rattle.job_steps.specs.Steps.{OpenLog, MakeSink, Found, FoundLog, FoundSink, Passes, Stops, file_named, names_steps, opens_of}
use Rattle.job_steps.proofs.TookLemmas.{Both, none_passed, then_halted}

abbrev pub EndsNames : Names → Halt ToolFault → Seen → Seen → Type 0
EndsNames names halt before now = Called (Halted Passes Stops (opens_of (names_steps names)) (names_steps names) halt) before now

pub log_ends : (names : Names) (halt : Halt ToolFault) (r s : Seen) → Called (Halted Passes Stops (file_named names.input) (OpenLog names.input ∷ []) halt) r s → EndsNames names halt r s
log_ends names halt r s p =
    then_halted (λ us. us ≡ []) [] (OpenLog names.input ∷ []) (MakeSink false names.output ∷ []) (names_steps names) (file_named names.input) halt r r s refl refl (append-nil (file_named names.input)) (none_passed r) p

pub written_ends : (names : Names) (IsRead : List Found → Type 0) (halt : Halt ToolFault) (r s t : Seen) → Called (PassedSo Passes Stops IsRead (OpenLog names.input ∷ [])) r s → Called (Halted Passes Stops [] (MakeSink false names.output ∷ []) halt) s t → EndsNames names halt r t
written_ends names IsRead halt r s t read p = then_halted IsRead (OpenLog names.input ∷ []) (MakeSink false names.output ∷ []) [] (names_steps names) [] halt r s t refl refl refl read p

pub is_opened : (opened : Opened) (us : List Found) → Both (λ vs. vs ≡ FoundLog opened.handle ∷ []) (λ vs. vs ≡ FoundSink opened.sink.handle opened.sink.empty ∷ []) us → IsOpened opened us
is_opened opened us p = rw (p.are, p.first_so, p.last_so) refl
