use Rattle.std.proofs.Common.{arith, ◌∙◌, ap, [], ◌∷◌, ◌++◌}
use Rattle.raw_records.proofs.GatheredLemmas.{record_size}
use Rattle.traffic_feed.proofs.BegunUnitLemmas.{IsBegunUnit-one}
use Rattle.traffic_feed.proofs.begun_unit.BegunUnit.new.Goals as goal
use Rattle.traffic_feed.proofs.begun_unit.BegunUnit.new.Goals.{In_ok-push}

pub overflow_add-words : goal.overflow_add-words
overflow_add-words c = omega (arith, c.words-words.ensures.words 0, record_size 0 c.view.result, c.words-words.ensures.payload.short)

pub invariant_of-result : goal.invariant_of-result
invariant_of-result c =
    IsBegunUnit-one c.args.vxid c.args.rec c.words-words.result c.eq-has_end.result _ c.requires (rw c.view.ensures at c.words-words.ensures.tag) (rw c.view.ensures at c.words-words.ensures.payload) (rw c.view.ensures at (c.words-words.ensures.words c.args.vxid)) c.eq-has_end.ensures (c.in_ok-push.ensures.items ∙ ap (λ items. items ++ c.args.rec ∷ []) c.new-records.ensures.items)

pub returns-clause-unit : goal.returns-clause-unit
returns-clause-unit c = (invariant_of-result (goal.at.returns-clause-unit c).In_ok-push).unit
