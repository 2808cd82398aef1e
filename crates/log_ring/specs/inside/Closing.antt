-- What a seat says that stands for all writers, once it has the log (this project's choice).
use Rattle.std.specs.Prelude.{◌≡◌, ℕ, ◌≤◌, List, map}
use Rattle.std.specs.List.{AllByRecursion}
use Rattle.atomic_table.specs.Table.{Me, Step}
use Rattle.log_model.specs.Interleaving.{IsInterleaving}
use Rattle.vsl_record.specs.Unit.{LogUnit, Log}
use Rattle.ring_layout.specs.Places.{tail}
use Rattle.log_ring.specs.declared.rule.WriterView.{WriterView}
use Rattle.log_ring.specs.declared.rule.View.{View}
use Rattle.log_ring.specs.Closed.{entries_from, IsDone}

-- the units that a writer put
abbrev pub units_of : WriterView → Log
units_of x = map (λ (e : ℕ × LogUnit). e.1) x.entries

-- the same, each beside its tail
abbrev pub entries_in : WriterView → List (ℕ × LogUnit)
entries_in x = x.entries

module _ (words : LogUnit → List ℕ) where
  -- what a seat that stands for all writers says of the whole log
  pub record IsWhole (v : View) (log : Log) : Type 0 where
    pub writers : IsInterleaving log (map units_of v.writers)
    pub entries : IsInterleaving (entries_from words v.ring.seg 0 log) (map entries_in v.writers)
    pub readers : AllByRecursion (IsDone words v.ring.seg log) v.readers
    pub found : v.found ≤ tail words v.ring.seg log

  -- a load by such a seat: it gets the log. It is in contracts alone: a closed ring holds no unit
  abbrev pub Settles : Step ℕ → Me ℕ View → ℕ → Me ℕ View → Type 0
  Settles st me found after = (log : Log) × (after ≡ (record me.0 { log = log }, me.1)) × IsWhole me.0 log
