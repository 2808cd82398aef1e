-- Why a run over a log has a fault though no call failed (this project's choice).
use Rattle.std.specs.Prelude.{◌≡◌, ◌≢◌, ◌⊎◌, ℕ, List}
use Rattle.vio.specs.World.{Seen}
use Rattle.vio.specs.Touches.{IsOneOf}
use Rattle.vio.specs.Calls.{Call, SomeFailed}
use Rattle.ring_layout.specs.declared.item.Item.{Item}
use Rattle.run_sources.specs.declared.file_items.FileStop.{FileStop}
use Rattle.run_sources.specs.declared.file_items.FileStop.TheVariants as stops
use Rattle.run_sources.specs.Sources.{FileStopped}
use Rattle.job_steps.specs.declared.fault.ToolFault.{ToolFault}
use Rattle.job_runs.specs.Rows.{stop_answer}

-- a log stopped a run for what it holds, and not for a read that failed, which is the fault under this name: it is no log, is damaged or is too large
pub record StoppedByLog (h : ℕ) (name : List ℕ) (fault : ToolFault) (calls : List Call) (now : Seen) : Type 0 where
  pub why : FileStop
  pub content : why ≢ stops.ReadFault
  pub met : List Item
  pub stops : FileStopped h why calls met now
  pub is : fault ≡ stop_answer name why

-- a call failed, or one of these logs stopped a run for what it holds
abbrev pub HasCause : List ℕ → List ℕ → ToolFault → List Call → Seen → Type 0
HasCause logs name fault calls now = SomeFailed calls ⊎ ((h : ℕ) × IsOneOf h logs × StoppedByLog h name fault calls now)
