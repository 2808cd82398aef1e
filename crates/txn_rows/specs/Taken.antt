-- Counting members and records: how many stand in groups, in a state, and in what was taken.
use Rattle.std.specs.Prelude.{ℕ, if◌then◌else◌, Bool, List, [], ◌∷◌, length, count_by, codes}
use Rattle.std.specs.List.{sum_by}
use Rattle.vsl_tags.specs.Tags.{end_tag, vsl_tag}
use Rattle.vsl_record.specs.declared.mark.Mark.{Mark}
use Rattle.vsl_record.specs.declared.record_type.Record.{Record}
use Rattle.txn_rows.specs.declared.group.Grouping.{Grouping}
use Rattle.txn_rows.specs.declared.group.Cause.{Cause}
use Rattle.txn_rows.specs.declared.group.Member.{Member}
use Rattle.txn_rows.specs.declared.group.Group.{Group}
use Rattle.txn_rows.specs.Transaction.{Transaction, cause_text}
use Rattle.txn_rows.specs.Grouping.{Taken, TakenUnit, Missed, passes_over}

-- how many members groups have
abbrev pub count_members : List Group → ℕ
count_members groups = sum_by (λ (g : Group). length g.members) groups

-- how many records of a group pass a test, which is asked of the VXID and the record
abbrev pub count_in_group : (ℕ → Record → Bool) → Group → ℕ
count_in_group test g = sum_by (λ (m : Member). count_by (test m.vxid) m.records) g.members

-- how many records of the groups pass
abbrev pub count_in_groups : (ℕ → Record → Bool) → List Group → ℕ
count_in_groups test groups = sum_by (count_in_group test) groups

-- how many records of pending transactions pass
abbrev pub count_in_pending : (ℕ → Record → Bool) → List Transaction → ℕ
count_in_pending test pending = sum_by (λ (t : Transaction). count_by (test t.vxid) t.records) pending

-- how many records of an item pass: those of a unit that the grouping doesn't pass over
abbrev pub count_in_item : (ℕ → Record → Bool) → Grouping → Taken → ℕ
count_in_item test grouping (TakenUnit u) = if passes_over grouping u.vxid then 0 else count_by (test u.vxid) u.records
count_in_item test grouping Missed = 0

-- how many records of what was taken pass
abbrev pub count_taken : (ℕ → Record → Bool) → Grouping → List Taken → ℕ
count_taken test grouping taken = sum_by (count_in_item test grouping) taken

-- a force-completion: the VXID, the mark and the cause
pub record Forcing : Type 0 where
  pub vxid : ℕ
  pub mark : Mark
  pub cause : Cause

-- the two records of a force-completion
abbrev pub synthesized : Forcing → List Record
synthesized f = record { tag = vsl_tag; mark = f.mark; payload = cause_text f.cause } ∷ record { tag = end_tag; mark = f.mark; payload = codes "synth" } ∷ []

-- how many of the records of force-completions pass
abbrev pub count_synthesized : (ℕ → Record → Bool) → List Forcing → ℕ
count_synthesized test forcings = sum_by (λ (f : Forcing). count_by (test f.vxid) (synthesized f)) forcings
