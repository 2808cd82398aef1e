-- the records so far, and the words of those that are left
use Rattle.std.proofs.Common.{◌≡◌, ◌≤◌, length, drop}
use Rattle.std.specs.List.{flat_map}
use Rattle.vsl_record.specs.Unit.{LogUnit}
use Rattle.vsl_record.specs.Views.{Spells}
use Rattle.vsl_record.specs.Words.{record_words, words_in}
use Rattle.vsl_record.proofs.views.UnitView.len.Given as goal

abbrev pub invariant-loop-rest : goal.invariant-loop-rest
invariant-loop-rest l = (u : LogUnit) → Spells l.self u → (words_in l.rest ≡ flat_map (record_words u.vxid) (drop l.count u.records)) × (l.count ≤ length u.records)

abbrev pub decreases-loop-rest : goal.decreases-loop-rest
decreases-loop-rest l = length l.rest
