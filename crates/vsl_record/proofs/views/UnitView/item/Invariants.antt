-- the words of the records that are left
use Rattle.std.proofs.Common.{◌≡◌, drop}
use Rattle.std.specs.List.{flat_map}
use Rattle.vsl_record.specs.Unit.{LogUnit}
use Rattle.vsl_record.specs.Views.{Spells}
use Rattle.vsl_record.specs.Words.{record_words, words_in}
use Rattle.vsl_record.proofs.views.UnitView.item.Given as goal

abbrev pub invariant-loop : goal.invariant-loop
invariant-loop l = (u : LogUnit) → Spells l.self u → words_in l.rest ≡ flat_map (record_words u.vxid) (drop l.counter u.records)
